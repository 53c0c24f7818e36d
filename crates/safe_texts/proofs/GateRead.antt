-- The two texts are read as the nodes of their program, which is a forest.
use Rattle.std.specs.Prelude.{◌≡◌, ℕ, List, [], ◌∷◌, Some, None, unwrap_or, take}
use Rattle.std.proofs.Common.{arith, refl}
use Rattle.scj_base.specs.Lex.{Lex}
use Rattle.scj_base.specs.declared.lexemes.Token.{Token}
use Rattle.scj_base.specs.declared.positions.Position.{Position}
use Rattle.scj_tree.specs.declared.nodes.Node.{Node}
use Rattle.scj_tree.specs.Counts.{times}
use Rattle.scj_tree.specs.Files.{FileRead}
use Rattle.scj_tree.specs.Forest.{Forest, IsForest, forest_of, is_class, all_children, AllClasses}
use Rattle.scj_tree.specs.Heights.{too_deep, first_too_deep, body_height, super_height, height, node_height, highest, weight}
use Rattle.scj_tree.specs.Lexemes.{lexemes_of, lexeme_of, part_of}
use Rattle.scj_tree.specs.Recursion.{bottom_up}
use Rattle.scj_tree.specs.Shape.{position_of, children}
use Rattle.scj_lexer.proofs.Computing.{tokens_from, sound, lexer}
use Rattle.parser_machine.specs.Machine.{answer, start, parsed}
use Rattle.machine_laws.proofs.Computing.{parser}
use Rattle.machine_laws.proofs.Soundness.{answer_is_tree}
use Rattle.scj_rules.specs.Syntax.{Reads}
use Rattle.scj_rules.specs.Syntax.HaveLexemes.{no_text, next_text}
use Rattle.scj_rules.specs.Syntax.FilesRead.{no_file, next_file}
use Rattle.scj_rules.proofs.Computing.{computing}
use Rattle.scj_rules.proofs.ForestTests.{children_first, all_below, are_distinct, forest_passes}
use Rattle.accepted_laws.specs.Programs.{IsAcceptedProgram}
use Rattle.scj_model.proofs.AcceptedPrograms.{ceiling_accepted}
use Rattle.scj_model.proofs.ProgramCeiling.{ceiling}
use Rattle.safe_texts.specs.SharedGate.{base_text, gate_text}

unfoldable reading : Unit {0}
unfolding lexer parser lexemes_of lexeme_of part_of too_deep first_too_deep body_height super_height height node_height highest weight bottom_up position_of children
reading = tt

-- ---- the first text

abbrev base_tokens : List Token
base_tokens = unwrap_or (tokens_from 900 0 [] base_text) []

abbrev base_nodes : List Node
base_nodes = take 44 ceiling.nodes

abbrev base : Forest
base = forest_of base_nodes ((15 ∷ 43 ∷ []) ∷ [])

base_lexed : Lex 0 base_text base_tokens
unfolding reading
base_lexed = sound 900 0 [] base_text base_tokens refl

base_parsed : answer (start []) (lexemes_of base_text base_tokens) ≡ Some (parsed base_nodes (15 ∷ 43 ∷ []))
unfolding reading
base_parsed = refl

base_is_low : too_deep 0 base_nodes ≡ None
unfolding reading
base_is_low = refl

base_file : FileRead (forest_of [] []) (lexemes_of base_text base_tokens) base
base_file =
    record {
      classes = 15 ∷ 43 ∷ [];
      tree = answer_is_tree [] (lexemes_of base_text base_tokens) base_parsed;
      is_low = base_is_low;
      files = refl;
    }

-- ---- the second one

abbrev gate_tokens : List Token
gate_tokens = unwrap_or (tokens_from 1200 1 [] gate_text) []

gate_lexed : Lex 1 gate_text gate_tokens
unfolding reading
gate_lexed = sound 1200 1 [] gate_text gate_tokens refl

gate_parsed : answer (start base_nodes) (lexemes_of gate_text gate_tokens)
    ≡ Some (parsed ceiling.nodes (78 ∷ 101 ∷ 147 ∷ []))
unfolding reading
gate_parsed = refl

gate_is_low : too_deep 44 ceiling.nodes ≡ None
unfolding reading
gate_is_low = refl

gate_file : FileRead base (lexemes_of gate_text gate_tokens) ceiling
gate_file =
    record {
      classes = 78 ∷ 101 ∷ 147 ∷ [];
      tree = answer_is_tree base_nodes (lexemes_of gate_text gate_tokens) gate_parsed;
      is_low = gate_is_low;
      files = refl;
    }

-- ---- both

pub gate_reads : Reads (base_text ∷ gate_text ∷ []) ceiling
gate_reads =
    record {
      lexemes = lexemes_of base_text base_tokens ∷ lexemes_of gate_text gate_tokens ∷ [];
      have_lexemes = next_text base_lexed (next_text gate_lexed no_text);
      files_read = next_file base_file (next_file gate_file no_file);
    }

abbrev at : ℕ → ℕ → ℕ → Position
at file line col = record { file = file; line = line; col = col }

gate_is_forest : IsForest ceiling
unfolding computing times all_children children_first all_below are_distinct AllClasses
gate_is_forest =
    forest_passes ceiling refl refl (
      (_, refl, is_class),
      ((_, refl, is_class), ((_, refl, is_class), ((_, refl, is_class), ((_, refl, is_class), tt)))),
    ) (omega arith) (omega arith)

pub gate_is_accepted : IsAcceptedProgram ceiling
gate_is_accepted =
    record {
      whole = gate_is_forest;
      is_read = record { texts = base_text ∷ gate_text ∷ []; reads = gate_reads };
      is_accepted = ceiling_accepted;
    }
