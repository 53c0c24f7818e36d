use Rattle.std.proofs.Common.{◌≤◌, drop, length, flat_map}
use Rattle.scj_model.specs.Code.{code_of}
use Rattle.op_list.specs.Rows.{IsLaid}
use Rattle.op_list.proofs.Folds.{one_init}
use Rattle.op_list.proofs.laying.lay_literals.Given as goal

abbrev pub invariant-loop-index : goal.invariant-loop-index
invariant-loop-index l = record {
  few : l.index ≤ length l.fields;
  from : l.from ≤ l.index;
  laid : IsLaid (code_of l.code) l.initial.rows.items l.rows.items (flat_map one_init (drop l.index l.fields)) l.next
      l.start;
}

abbrev pub decreases-loop-index : goal.decreases-loop-index
decreases-loop-index l = l.index
