-- Statements that end where their last part ends.
use Rattle.std.specs.Prelude.{ℕ, Option, Some, None, if◌then◌else◌}
use Rattle.parser_machine.specs.Members.{is_else}
use Rattle.parser_machine.specs.declared.entries.Entry.{Entry}
use Rattle.parser_machine.specs.declared.entries.Entry.TheVariants.{IfThen, IfElse, WhileBody, ForBody}
use Rattle.scj_tree.specs.Lexemes.{Lexeme}
use Rattle.scj_tree.specs.declared.nodes.Node.{Node}
use Rattle.scj_tree.specs.declared.nodes.Node.TheVariants.{If, While, For}

-- the statement that ends with its last part before the lexeme; an `if` goes on with its `else`
unfoldable pub enclosing : Entry → Lexeme → ℕ → Option Node
enclosing (IfThen p c) t id = if is_else t then None else Some (If p c id None)
enclosing (IfElse p c a) t id = Some (If p c a (Some id))
enclosing (WhileBody p c) t id = Some (While p c id)
enclosing (ForBody p f c u) t id = Some (For p f c u id)
enclosing _ t id = None
