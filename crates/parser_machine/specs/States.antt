-- The state of the parser between two lexemes.
use Rattle.std.specs.Prelude.{List, ℕ}
use Rattle.parser_machine.specs.declared.entries.Entry.{Entry}
use Rattle.parser_machine.specs.declared.modes.Mode.{Mode}
use Rattle.scj_tree.specs.Lexemes.{Lexeme, a_sign}
use Rattle.scj_tree.specs.Terminals.{level}
use Rattle.scj_tree.specs.declared.nodes.Node.{Node}

pub data State : Type 0 where
  at : Mode → List Entry → List Node → State

-- how tightly a lexeme binds as a binary operator, 0 for any other
unfoldable pub level_of : Lexeme → ℕ
level_of (a_sign n p) = level n
level_of _ = 0
