use Rattle.std.proofs.Common.{◌≡◌, take}
use Rattle.std.specs.List.{flat_map}
use Rattle.scj_io.specs.Puts.{PutWhole, sink_run}
use Rattle.scj_model.specs.TraceText.{line_of}
use Rattle.plain_machine.proofs.printers.Printer.put_all.Given as goal

-- the lines of the events before were put
abbrev pub invariant-loop-event : goal.invariant-loop-event
invariant-loop-event g l = record {
  same : l.self ≡ l.fn.self;
  put : PutWhole (sink_run (g.K.Sink.taken l.fn.out) (g.K.Sink.taken l.out) (g.K.Sink.faults l.fn.out)
      (g.K.Sink.faults l.out))
      (flat_map (line_of l.fn.self.program.nodes l.fn.self.names) (take l.event-index l.events));
}
