use Rattle.std.proofs.Common.{◌≡◌, length}
use Rattle.std.specs.Cmp.Lexicographic.{pointwise}
use Rattle.scj_rules.specs.ClassRules.{have_same_types, is_same_type}
use Rattle.method_rows.specs.Methods.{found_method}
use Rattle.class_rules.specs.Types.{types_left}
use Rattle.class_rules.proofs.types.have_same_types.Given as goal

-- the others are still to be compared
abbrev pub invariant-loop-written : goal.invariant-loop-written
invariant-loop-written l =
    pointwise is_same_type (types_left l.program.nodes l.left) (types_left l.program.nodes l.right)
    ≡ have_same_types (found_method l.program.nodes l.m).method.parameters
    (found_method l.program.nodes l.other).method.parameters

abbrev pub decreases-loop-written : goal.decreases-loop-written
decreases-loop-written l = length (types_left l.program.nodes l.left)
