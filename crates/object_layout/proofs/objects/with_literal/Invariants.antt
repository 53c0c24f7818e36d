use Rattle.std.proofs.Common.{◌≡◌, ◌++◌, length, filter, is_some}
use Rattle.scj_rules.specs.Definitions.{read}
use Rattle.scj_rules.specs.Layout.{literal_written}
use Rattle.object_layout.proofs.objects.with_literal.Given as goal

-- those that are left are still to come
abbrev pub invariant-loop-others : goal.invariant-loop-others
invariant-loop-others l =
    l.nodes.items ++ filter (λ id. is_some (read l.program.nodes literal_written id)) l.others ≡ filter
    (λ id. is_some (read l.program.nodes literal_written id)) l.initial.others

abbrev pub decreases-loop-others : goal.decreases-loop-others
decreases-loop-others l = length l.others
