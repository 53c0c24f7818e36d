-- The text of a small program is read as its nodes, which break no rule.
use Rattle.std.proofs.Common.{◌≡◌, List, [], ◌∷◌, Some, None, refl}
use Rattle.std.specs.Prelude.{unwrap_or}
use Rattle.scj_base.specs.Lex.{Lex}
use Rattle.scj_base.specs.declared.lexemes.Token.{Token}
use Rattle.scj_tree.specs.Forest.{forest_of}
use Rattle.scj_tree.specs.Files.{FileRead}
use Rattle.scj_tree.specs.Heights.{too_deep, first_too_deep, body_height, super_height, height, node_height, highest, weight}
use Rattle.scj_tree.specs.Lexemes.{Lexeme, lexemes_of, lexeme_of, part_of}
use Rattle.scj_tree.specs.Recursion.{bottom_up}
use Rattle.scj_tree.specs.Shape.{position_of, children}
use Rattle.scj_lexer.proofs.Computing.{tokens_from, sound, lexer}
use Rattle.parser_machine.specs.Machine.{answer, start, parsed}
use Rattle.machine_laws.proofs.Computing.{parser}
use Rattle.machine_laws.proofs.Soundness.{answer_is_tree}
use Rattle.scj_rules.specs.Syntax.{Reads}
use Rattle.scj_rules.specs.Syntax.HaveLexemes.{no_text, next_text}
use Rattle.scj_rules.specs.Syntax.FilesRead.{no_file, next_file}
use Rattle.scj_rules.specs.Verdicts.{IsReportOf}
use Rattle.scj_rules.specs.Verdicts.IsReportOf.{in_program}
use Rattle.scj_rules.specs.Phases.Reports.{nowhere}
use Rattle.scj_rules.proofs.RowsOfClasses.{one_safelet, safelet_accepted}
use Rattle.scj_check.specs.Samples.{arithmetic_text}

-- each blank is a piece of its own, so that there are no more pieces than bytes
abbrev tokens : List Token
tokens = unwrap_or (tokens_from 400 0 [] arithmetic_text) []

are_tokens : Lex 0 arithmetic_text tokens
unfolding lexer
are_tokens = sound 400 0 [] arithmetic_text tokens refl

abbrev lexemes : List Lexeme
lexemes = lexemes_of arithmetic_text tokens

are_parsed : answer (start []) lexemes ≡ Some (parsed one_safelet.nodes (41 ∷ []))
unfolding lexer parser lexemes_of lexeme_of part_of
are_parsed = refl

is_low : too_deep 0 one_safelet.nodes ≡ None
unfolding too_deep first_too_deep body_height super_height height node_height highest weight bottom_up position_of children
is_low = refl

is_file : FileRead (forest_of [] []) lexemes one_safelet
is_file =
    record { classes = 41 ∷ []; tree = answer_is_tree [] lexemes are_parsed; is_low = is_low; files = refl }

pub sample_reads : Reads (arithmetic_text ∷ []) one_safelet
sample_reads =
    record {
      lexemes = lexemes ∷ [];
      have_lexemes = next_text are_tokens no_text;
      files_read = next_file is_file no_file;
    }

pub sample_report : IsReportOf (arithmetic_text ∷ []) []
sample_report = in_program sample_reads (nowhere safelet_accepted)
