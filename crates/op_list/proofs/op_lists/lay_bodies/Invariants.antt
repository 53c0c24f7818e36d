use Rattle.std.proofs.Common.{◌-◌, ◌≤◌, length}
use Rattle.scj_model.specs.Code.{code_of}
use Rattle.op_list.specs.Listed.{IsListed}
use Rattle.op_list.specs.Rows.{IsLonger}
use Rattle.op_list.proofs.op_lists.lay_bodies.Given as goal

abbrev pub invariant-loop-bodies : goal.invariant-loop-bodies
invariant-loop-bodies l = record {
  listed : IsListed (code_of l.code) l.rows.items l.bodies.items;
  longer : IsLonger (code_of l.code) l.initial.rows.items l.rows.items;
  few : length l.bodies.items ≤ l.count;
}

abbrev pub decreases-loop-bodies : goal.decreases-loop-bodies
decreases-loop-bodies l = l.count - length l.bodies.items
