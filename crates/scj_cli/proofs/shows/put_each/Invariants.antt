use Rattle.std.proofs.Common.{take}
use Rattle.std.specs.List.{flat_map}
use Rattle.scj_io.specs.Puts.{PutWhole, sink_run}
use Rattle.scj_cli.proofs.shows.put_each.Given as goal

abbrev pub invariant-loop-text : goal.invariant-loop-text
invariant-loop-text g l =
    PutWhole (sink_run (g.K.Sink.taken l.fn.out) (g.K.Sink.taken l.out) (g.K.Sink.faults l.fn.out)
    (g.K.Sink.faults l.out)) (flat_map (λ t. t.items) (take l.text-index l.texts))
