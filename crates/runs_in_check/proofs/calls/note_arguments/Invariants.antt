use Rattle.std.proofs.Common.{◌≡◌, ◌++◌, drop}
use Rattle.runs_in_check.specs.Phase.{parameters_of, misfits_from}
use Rattle.runs_in_check.proofs.calls.note_arguments.Given as goal

-- the other arguments are still to be noted
abbrev pub invariant-loop-i : goal.invariant-loop-i
invariant-loop-i l =
    let ds = parameters_of l.at.facts.now l.callee in
    l.found.items ++ misfits_from l.at l.callee (drop l.i ds) (drop l.i l.arguments)
    ≡ l.initial.found.items ++ misfits_from l.at l.callee ds l.arguments
