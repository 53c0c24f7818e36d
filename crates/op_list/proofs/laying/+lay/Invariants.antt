use Rattle.std.proofs.Common.{◌+◌, ◌*◌, ◌≤◌, drop, length, flat_map}
use Rattle.scj_model.specs.Code.{code_of}
use Rattle.scj_model.specs.Ops.{ops_of}
use Rattle.op_list.specs.Parts.{part_ops}
use Rattle.op_list.specs.Rows.{IsLaid}
use Rattle.op_list.proofs.laying.+lay.Given as goal

abbrev pub decreases-lay_node : goal.decreases-lay_node
decreases-lay_node l = 8 * l.id + 7

abbrev pub decreases-lay_part : goal.decreases-lay_part
decreases-lay_part l = 8 * l.bound + 6

abbrev pub decreases-lay_items : goal.decreases-lay_items
decreases-lay_items l = 8 * l.bound + 5

abbrev pub decreases-lay_op : goal.decreases-lay_op
decreases-lay_op l = 8 * l.bound + 5

abbrev pub decreases-lay_choice : goal.decreases-lay_choice
decreases-lay_choice l = 8 * l.bound + 4

abbrev pub decreases-lay_either : goal.decreases-lay_either
decreases-lay_either l = 8 * l.bound + 3

abbrev pub decreases-lay_loop : goal.decreases-lay_loop
decreases-lay_loop l = 8 * l.bound + 3

abbrev pub decreases-lay_turn : goal.decreases-lay_turn
decreases-lay_turn l = 8 * l.bound + 2

abbrev pub decreases-lay_optional : goal.decreases-lay_optional
decreases-lay_optional l = 8 * l.bound

abbrev pub invariant-lay_items-loop-index : goal.invariant-lay_items-loop-index
invariant-lay_items-loop-index l = record {
  few : l.index ≤ length l.items;
  from : l.from ≤ l.index;
  laid : IsLaid (code_of l.code) l.initial.rows.items l.rows.items
      (flat_map (ops_of (code_of l.code)) (drop l.index l.items)) l.initial.start l.start;
}

abbrev pub decreases-lay_items-loop-index : goal.decreases-lay_items-loop-index
decreases-lay_items-loop-index l = l.index

abbrev pub invariant-lay_node-loop-index : goal.invariant-lay_node-loop-index
invariant-lay_node-loop-index l = record {
  few : l.index ≤ length l.parts;
  laid : IsLaid (code_of l.code) l.initial.rows.items l.rows.items
      (flat_map (part_ops (code_of l.code) (ops_of (code_of l.code))) (drop l.index l.parts))
      l.initial.start l.start;
}

abbrev pub decreases-lay_node-loop-index : goal.decreases-lay_node-loop-index
decreases-lay_node-loop-index l = l.index
