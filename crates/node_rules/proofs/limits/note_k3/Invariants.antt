use Rattle.std.proofs.Common.{◌≡◌, ◌++◌, length, drop}
use Rattle.std.specs.Prelude.{filter_map}
use Rattle.scj_base.specs.declared.findings.Rule.TheVariants.{K3}
use Rattle.scj_rules.specs.Views.{variable_at}
use Rattle.scj_rules.specs.LimitRules.{broken_at_declared, k3}
use Rattle.scj_rules.specs.Contexts.{declarations_of}
use Rattle.node_rules.proofs.limits.note_k3.Given as goal

-- the other parameters are still to be noted
abbrev pub invariant-loop-others : goal.invariant-loop-others
invariant-loop-others l =
    l.found.items ++ broken_at_declared K3 (drop l.allowed (filter_map (variable_at l.program.nodes) l.others))
    ≡ l.initial.found.items ++ k3 (declarations_of l.fn.program) l.fn.parameters

abbrev pub decreases-loop-others : goal.decreases-loop-others
decreases-loop-others l = length l.others
