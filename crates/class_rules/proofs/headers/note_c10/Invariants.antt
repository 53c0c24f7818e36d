use Rattle.std.proofs.Common.{◌≡◌, ◌++◌, length}
use Rattle.scj_base.specs.declared.findings.Rule.TheVariants.{C10}
use Rattle.scj_rules.specs.ClassRules.{broken_at}
use Rattle.class_rules.proofs.headers.note_c10.Given as goal

-- the other names are still to be noted
abbrev pub invariant-loop-others : goal.invariant-loop-others
invariant-loop-others l =
    l.found.items ++ broken_at C10 l.others ≡ l.initial.found.items ++ broken_at C10 l.initial.others

abbrev pub decreases-loop-others : goal.decreases-loop-others
decreases-loop-others l = length l.others
