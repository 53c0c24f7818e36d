use Rattle.std.proofs.Common.{◌∙◌, ap}
use Rattle.std.specs.Prelude.{List, ℕ}
use Rattle.directed_graphs.specs.Graphs.{rows_of, IsReachOf}
use Rattle.scj_tree.specs.Recursion.{lookup}
use Rattle.scj_model.specs.Code.{code_of}
use Rattle.memory_needs.specs.Edges.{body_vertex}
use Rattle.memory_needs.proofs.ClassAnswers.{answer_is}
use Rattle.memory_needs.proofs.Forms.{stored_formed}
use Rattle.memory_needs.proofs.class_answers.answer.Goals as goal

pub storage_shown-requires : goal.storage_shown-requires
storage_shown-requires c =
    let s = c.requires.formed.stored c.args.class c.requires.listed in
    stored_formed (code_of c.args.code.now).program c.args.class s.0 s.1

pub returns : goal.returns
returns c =
    let s = c.requires.formed.stored c.args.class c.requires.listed in
    let reach : IsReachOf (rows_of c.args.tables.now.edges.items)
    (body_vertex (code_of c.args.code.now) c.handler_node-handler.result) c.in_ok-marks.marks.items =
    (rw (c.as_slice.ensures.value, c.count.ensures.value, c.number.ensures) at c.in_ok-marks.ensures) in
    answer_is (code_of c.args.code.now) c.children_first.ensures c.args.tables.now c.requires.tables
    c.requires.formed.small c.args.class c.handler_node-handler.result c.handler_node-handler.ensures.handles
    c.handler_node-handler.ensures.there c.in_ok-marks.marks.items reach s.0 s.1 c.as_slice-2.result.now
    c.as_slice-loops.result.now c.as_slice-shown.result.now c.as_slice-points.result.now c.row_or-need.result
    c.first_shown-best.result c.storage_shown.result c.first_of.result c.answer_for.result c.as_slice-2.ensures.value
    c.as_slice-loops.ensures.value c.as_slice-shown.ensures.value c.as_slice-points.ensures.value
    (c.row_or-need.ensures
    ∙ ap (λ (xs : List ℕ). lookup 0 xs c.handler_node-handler.result) c.as_slice-3.ensures.value)
    c.first_shown-best.ensures c.storage_shown.ensures c.first_of.ensures c.answer_for.ensures
