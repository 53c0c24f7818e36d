use Rattle.std.proofs.Common.{◌≡◌, ◌-◌}
use Rattle.scj_io.specs.Puts.{PutWhole, sink_run}
use Rattle.plain_machine.specs.Machines.{having_spent}
use Rattle.plain_machine.specs.Reported.{reported_text}
use Rattle.plain_machine.proofs.runs.run_to_end.Given as goal

-- what was told in the units that are spent was put
abbrev pub invariant-loop-end : goal.invariant-loop-end
invariant-loop-end g l = record {
  same : l.machine ≡ having_spent l.machine.spent l.fn.machine;
  put : PutWhole (sink_run (g.K.Sink.taken l.fn.out) (g.K.Sink.taken l.out) (g.K.Sink.faults l.fn.out)
      (g.K.Sink.faults l.out)) (reported_text l.fn.machine.program l.fn.machine.plan l.fn.machine.names l.machine.spent);
}

abbrev pub decreases-loop-end : goal.decreases-loop-end
decreases-loop-end g l = l.machine.plan.units - l.machine.spent
