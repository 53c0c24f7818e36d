use Rattle.std.proofs.Common.{◌≡◌, length}
use Rattle.scj_rules.specs.Contexts.{last_variable}
use Rattle.node_contexts.specs.Packed.{reported}
use Rattle.node_contexts.proofs.rows.last_among.Given as goal

-- the rest is still to be asked
abbrev pub invariant-loop-rest : goal.invariant-loop-rest
invariant-loop-rest l = last_variable l.program.nodes (reported l.known) l.rest ≡ last_variable l.program.nodes
    (reported l.fn.before) l.initial.rest

abbrev pub decreases-loop-rest : goal.decreases-loop-rest
decreases-loop-rest l = length l.rest
