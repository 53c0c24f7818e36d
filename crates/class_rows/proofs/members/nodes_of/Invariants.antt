use Rattle.std.proofs.Common.{◌≡◌, ◌++◌}
use Rattle.class_rows.specs.Members.{member_nodes}
use Rattle.class_rows.proofs.MemberLemmas.{nodes_left}
use Rattle.class_rows.proofs.members.nodes_of.Given as goal

-- those of the classes that are left are still to come
abbrev pub invariant-loop-number : goal.invariant-loop-number
invariant-loop-number l = l.nodes.items ++ nodes_left l.kind l.classes l.number ≡ member_nodes l.kind l.classes
