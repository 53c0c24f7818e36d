-- What the parser's code tells, in the words of the machine.
use Rattle.std.specs.Prelude.{List, Option, Some, None, Result, Ok, Err}
use Rattle.parser_machine.specs.States.{State, at}
use Rattle.parser_machine.specs.declared.entries.Entry.{Entry}
use Rattle.parser_machine.specs.declared.modes.Mode.{Mode}
use Rattle.scj_base.specs.declared.errors.Memory.{Memory}
use Rattle.scj_tree.specs.Lexemes.{Lexeme, a_name, a_word, a_number, a_text, a_sign, the_end}
use Rattle.scj_tree.specs.declared.nodes.Node.{Node}
use Rattle.parser_nodes.specs.declared.views.View.{View}
use Rattle.parser_nodes.specs.declared.views.View.TheVariants.{Name, Word, Number, Text, Sign, End}

-- the state after a step: none where the lexeme may not stand here
abbrev pub reported : Option Mode → List Node → List Entry → Option State
reported None N s = None
reported (Some mode) N s = Some (at mode s N)

-- the same; whatever is awaited where memory was wanting
abbrev pub gives : Result (Option Mode) Memory → List Node → List Entry → Option State → Option State
gives (Ok mode) N s awaited = reported mode N s
gives (Err e) N s awaited = awaited

-- the lexeme that is seen
abbrev pub seen : View → Lexeme
seen (Name w p) = a_name w.now p
seen (Word n p) = a_word n p
seen (Number n p) = a_number n p
seen (Text w p) = a_text w.now p
seen (Sign n p) = a_sign n p
seen (End p) = the_end p
