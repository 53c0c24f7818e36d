-- The program of the sample text is accepted: its nodes are a forest, the text is read as it, and it breaks no rule.
use Rattle.std.proofs.Common.{arith, [], ◌∷◌, refl, Some, None, codes, ℕ}
use Rattle.scj_base.specs.declared.positions.Position.{Position}
use Rattle.scj_tree.specs.declared.nodes.Node.TheVariants.{Class}
use Rattle.scj_tree.specs.Counts.{times}
use Rattle.scj_tree.specs.Forest.{IsForest, is_class, all_children, AllClasses}
use Rattle.scj_rules.proofs.Computing.{computing}
use Rattle.scj_rules.proofs.ForestTests.{children_first, all_below, are_distinct, forest_passes}
use Rattle.scj_rules.proofs.RowsOfClasses.{one_safelet, safelet_accepted}
use Rattle.scj_check.specs.Samples.{arithmetic_text}
use Rattle.scj_check.proofs.SampleLaws.{sample_reads}
use Rattle.accepted_laws.specs.Programs.{IsAcceptedProgram}

abbrev at : ℕ → ℕ → Position
at line col = record { file = 0; line = line; col = col }

sample_is_forest : IsForest one_safelet
unfolding computing times all_children children_first all_below are_distinct AllClasses
sample_is_forest =
    forest_passes one_safelet refl refl
    ((Class (at 1 7) (codes "App") None (Some 1) (6 ∷ 11 ∷ 40 ∷ []), refl, is_class), tt) (omega arith) (omega arith)

pub sample_is_accepted : IsAcceptedProgram one_safelet
sample_is_accepted =
    record {
      whole = sample_is_forest;
      is_read = record { texts = arithmetic_text ∷ []; reads = sample_reads };
      is_accepted = safelet_accepted;
    }
