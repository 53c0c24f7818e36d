use Rattle.std.proofs.Common.{length}
use Rattle.directed_graphs.proofs.Noting.{noting_first, noting_more, noting_all}
use Rattle.directed_graphs.proofs.reach.note_all.Goals as goal

pub loop-index-init : goal.loop-index-init
loop-index-init c =
    noting_first c.args.vertices.now c.args.marks.now.items c.args.found.now.items c.requires.noted

pub note-requires : goal.note-requires
note-requires c = record { noted = c.loop-index.invariant.noted }

pub loop-index-preserved : goal.loop-index-preserved
loop-index-preserved c =
    noting_more c.args.vertices.now (length c.args.marks.now.items) c.args.found.now.items c.loop-index.marks.items
    c.loop-index.found.items c.loop-index.index c.loop-index.invariant c.loop-index-test.true c.note.new.marks.items
    c.note.new.found.items c.in_ok-note.ensures.whole c.in_ok-note.ensures.noted c.in_ok-note.ensures.there
    c.in_ok-note.ensures.longer

pub returns-clause-whole : goal.returns-clause-whole
returns-clause-whole c = c.loop-index.invariant.whole

pub returns-clause-noted : goal.returns-clause-noted
returns-clause-noted c = c.loop-index.invariant.noted

pub returns-clause-there : goal.returns-clause-there
returns-clause-there c =
    noting_all c.args.vertices.now (length c.args.marks.now.items) c.args.found.now.items c.loop-index.marks.items
    c.loop-index.found.items c.loop-index.index c.loop-index.invariant c.loop-index-test.false

pub returns-clause-longer : goal.returns-clause-longer
returns-clause-longer c = c.loop-index.invariant.longer
