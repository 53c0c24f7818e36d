use Rattle.std.proofs.Common.{◌≡◌, drop}
use Rattle.type_rules.specs.Parameters.{taken, all_fit}
use Rattle.program_facts.specs.Reported.{declared, types}
use Rattle.type_rules.proofs.arguments.all_fit.Given as goal

-- the arguments that are left tell it
abbrev pub invariant-loop-i : goal.invariant-loop-i
invariant-loop-i l =
    let ds = taken l.at.facts.now.nodes l.takes in
    all_fit (declared l.at) (types l.at) ds 0 l.ids ≡ all_fit (declared l.at) (types l.at) ds l.i (drop l.i l.ids)
