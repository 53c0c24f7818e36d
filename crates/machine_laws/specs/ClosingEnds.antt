-- What the machine gives behind a file's last lexeme.
use Rattle.std.specs.Prelude.{List, [], ℕ, ◌∷◌, ◌≡◌}
use Rattle.parser_machine.specs.States.{State, at}
use Rattle.parser_machine.specs.declared.entries.Entry.TheVariants.{FileOpen}
use Rattle.parser_machine.specs.declared.modes.Mode.TheVariants.{Finished}
use Rattle.scj_tree.specs.Grammar.{Tree}
use Rattle.scj_tree.specs.Lexemes.{Lexeme}
use Rattle.scj_tree.specs.declared.nodes.Node.{Node}

-- the lexemes are a file, which the state holds: its classes are all that was put aside
pub record ReadWhole (N : List Node) (tokens : List Lexeme) (last : State) : Type 0 where
  pub nodes : List Node
  pub classes : List ℕ
  pub state : last ≡ at Finished (FileOpen classes ∷ []) nodes
  pub tree : Tree N tokens nodes classes
