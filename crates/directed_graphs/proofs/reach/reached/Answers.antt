use Rattle.std.proofs.Common.{rules, length}
use Rattle.directed_graphs.specs.Graphs.{rows_of}
use Rattle.directed_graphs.proofs.Notes.{noted_none}
use Rattle.directed_graphs.proofs.Searching.{search_begins, search_goes_on, next_within, search_all, search_ends}
use Rattle.directed_graphs.proofs.reach.reached.Goals as goal

pub note-requires : goal.note-requires
note-requires c =
    record {
      noted = noted_none (length c.args.rows.now) c.in_ok-marks.marks.items c.new-found.result.items
          (c.in_ok-marks.ensures.items_if_clones_equal (λ y h. h)) c.new-found.ensures.items;
    }

pub loop-index-init : goal.loop-index-init
loop-index-init c =
    search_begins c.args.rows.now c.args.from c.in_ok-marks.marks.items c.new-found.result.items
    c.note.new.marks.items c.note.new.found.items (c.in_ok-marks.ensures.items_if_clones_equal (λ y h. h)) c.new-found.ensures.items c.requires
    c.in_ok-note.ensures.whole c.in_ok-note.ensures.noted c.in_ok-note.ensures.there c.in_ok-note.ensures.longer

pub returns-then-index-len : goal.returns-then-index-len
returns-then-index-len c =
    search_all (rows_of c.args.rows.now) c.args.from c.loop-index.marks.items c.loop-index.found.items
    c.loop-index.index c.loop-index.invariant (search rules)

pub successors_of-requires : goal.successors_of-requires
successors_of-requires c =
    next_within c.args.rows.now c.args.from c.loop-index.marks.items c.loop-index.found.items c.loop-index.index
    c.index-vertex.result.now c.loop-index.invariant (search rules) (search rules)

pub note_all-requires : goal.note_all-requires
note_all-requires c = record { noted = c.loop-index.invariant.noted }

pub loop-index-preserved : goal.loop-index-preserved
loop-index-preserved c =
    search_goes_on (rows_of c.args.rows.now) c.args.from c.loop-index.marks.items c.loop-index.found.items
    c.loop-index.index c.index-vertex.result.now c.successors_of.result.now c.loop-index.invariant (search rules)
    (search rules) c.successors_of.ensures c.note_all.new.marks.items c.note_all.new.found.items
    c.in_ok-note_all.ensures.whole c.in_ok-note_all.ensures.noted c.in_ok-note_all.ensures.there
    c.in_ok-note_all.ensures.longer

pub returns : goal.returns
returns c =
    search_ends c.args.rows.now c.args.from c.loop-index.marks.items c.loop-index.found.items c.loop-index.index
    c.loop-index.invariant c.loop-index-test.false
