use Rattle.std.proofs.Common.{◌≡◌, ◌<◌, ℕ, false}
use Rattle.method_rows.specs.Methods.{found_method}
use Rattle.scj_rules.specs.Contexts.{declarations_of}
use Rattle.annotation_rules.specs.Parts.{parameters_differ_at}
use Rattle.annotation_rules.proofs.overrides.parameters_differ.Given as goal

abbrev pub invariant-loop-i : goal.invariant-loop-i
invariant-loop-i l = (k : ℕ) → k < l.i → false ≡ parameters_differ_at (declarations_of l.facts)
    (found_method l.facts.nodes l.method) (found_method l.facts.nodes l.above) k
