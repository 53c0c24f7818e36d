use Rattle.std.proofs.Common.{◌≤◌, length, None, ◌∙◌, arith}
use Rattle.scj_tree.specs.Recursion.{lookup}
use Rattle.runs_in_check.proofs.Walks.{all_below}
use Rattle.runs_in_check.proofs.guards.asked.Goals as goal

pub returns : goal.returns
returns c = λ number.
    let full : length c.args.facts.now.nodes ≤ c.loop-index.index =
    omega (arith, rw c.program-program.ensures at c.len-index-end.ensures.value) in
    c.loop-index.invariant number
    ∙ all_below c.args.facts.now (lookup None c.args.types.now) c.loop-index.index number full
