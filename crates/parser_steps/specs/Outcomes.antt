-- How the machine goes over the lexemes of a file.
use Rattle.std.specs.Prelude.{ℕ, ◌+◌, ◌≤◌, List, [], ◌∷◌, length, Option, Some, None, Result, Ok, Err}
use Rattle.parser_machine.specs.Machine.{step}
use Rattle.parser_machine.specs.States.{State, at}
use Rattle.parser_machine.specs.declared.entries.Entry.{Entry}
use Rattle.scj_base.specs.declared.errors.Memory.{Memory}
use Rattle.scj_base.specs.declared.lexemes.Token.{Token}
use Rattle.scj_base.specs.declared.lexemes.TokenKind.TheVariants.{Name, Word, Number, Text, Sign, End}
use Rattle.scj_base.specs.declared.positions.Position.{Position}
use Rattle.scj_tree.specs.Lexemes.{Lexeme, part_of, position_of_lexeme}
use Rattle.scj_tree.specs.declared.nodes.Node.{Node}
use Rattle.parser_steps.specs.declared.runs.Outcome.{Outcome}
use Rattle.parser_steps.specs.declared.runs.Outcome.TheVariants.{Ended, Stopped}

-- the state behind all lexemes, or the place of the first that may not stand where it does
pub data Way : Type 0 where
  to : State → Way
  up_to : Position → Way

unfoldable pub way : State → List Lexeme → Way
way st [] = to st
way st (t ∷ o) = elim (step st t) [ Some next ↦ way next o | None ↦ up_to (position_of_lexeme t) ]

-- what the code tells of it; whatever is awaited where memory was wanting
abbrev pub leads : Result Outcome Memory → List Node → List Entry → Way → Way
leads (Ok (Ended mode)) N s awaited = to (at mode s N)
leads (Ok (Stopped p)) N s awaited = up_to p
leads (Err e) N s awaited = awaited

-- the name that a token is, if it is one
unfoldable pub name_in : List ℕ → Token → Option (List ℕ)
name_in bytes token = elim token.kind [
  | Name ↦ Some (part_of bytes token.start token.len)
  | Word n ↦ None
  | Number n ↦ None
  | Text ↦ None
  | Sign n ↦ None
  | End ↦ None
]

-- the bytes of a token lie in the file, and those of a name fit into a name
unfoldable pub Fits : List ℕ → Token → Type 0
Fits bytes token = elim token.kind [
  | Name ↦ (token.start + token.len ≤ length bytes) × (token.len ≤ 64)
  | Word n ↦ Unit {0}
  | Number n ↦ Unit {0}
  | Text ↦ (token.start + token.len ≤ length bytes) × (2 ≤ token.len)
  | Sign n ↦ Unit {0}
  | End ↦ Unit {0}
]

unfoldable pub AllFit : List ℕ → List Token → Type 0
AllFit bytes [] = Unit {0}
AllFit bytes (token ∷ tokens) = Fits bytes token × AllFit bytes tokens
