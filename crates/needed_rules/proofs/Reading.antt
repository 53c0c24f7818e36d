-- A text is read as a program: its tokens and its tree are computed, and no body is too deep.
use Rattle.std.specs.Prelude.{◌≡◌, ℕ, List, [], ◌∷◌, Some, None}
use Rattle.scj_base.specs.declared.lexemes.Token.{Token}
use Rattle.scj_tree.specs.Files.{FileRead}
use Rattle.scj_tree.specs.Forest.{Forest, forest_of}
use Rattle.scj_tree.specs.Heights.{too_deep, first_too_deep, body_height, super_height, height, node_height, highest, weight}
use Rattle.scj_tree.specs.Lexemes.{lexemes_of, lexeme_of, part_of}
use Rattle.scj_tree.specs.Recursion.{bottom_up}
use Rattle.scj_tree.specs.Shape.{position_of, children}
use Rattle.scj_lexer.proofs.Computing.{tokens_from, sound, lexer}
use Rattle.parser_machine.specs.Machine.{answer, start, parsed}
use Rattle.machine_laws.proofs.Computing.{parser}
use Rattle.machine_laws.proofs.Soundness.{answer_is_tree}
use Rattle.scj_rules.specs.Syntax.{Reads}
use Rattle.scj_rules.specs.Syntax.HaveLexemes.{no_text, next_text}
use Rattle.scj_rules.specs.Syntax.FilesRead.{no_file, next_file}

-- `bound` is at least the number of the bytes
pub read_alone : (bound : ℕ) (text : List ℕ) (tokens : List Token) (program : Forest) (classes : List ℕ) →
    tokens_from bound 0 [] text ≡ Some tokens →
    answer (start []) (lexemes_of text tokens) ≡ Some (parsed program.nodes classes) →
    too_deep 0 program.nodes ≡ None → program.files ≡ classes ∷ [] → Reads (text ∷ []) program
read_alone bound text tokens program classes are_tokens are_parsed is_low files =
    record {
      lexemes = lexemes_of text tokens ∷ [];
      have_lexemes = next_text (sound bound 0 [] text tokens are_tokens) no_text;
      files_read = next_file file no_file;
    }
  where
    file : FileRead (forest_of [] []) (lexemes_of text tokens) program
    file =
        record {
          classes = classes;
          tree = answer_is_tree [] (lexemes_of text tokens) are_parsed;
          is_low = is_low;
          files = files;
        }

-- one name to unfold where a text that is written out is read
unfoldable pub reading : Unit {0}
unfolding lexer parser lexemes_of lexeme_of part_of too_deep first_too_deep body_height super_height height node_height highest weight bottom_up position_of children
reading = tt
