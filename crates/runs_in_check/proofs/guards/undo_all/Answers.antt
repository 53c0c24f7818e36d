use Rattle.std.proofs.Common.{◌≤◌, ◌==◌, length, sym, ◌∙◌, arith}
use Rattle.std.specs.HashMap.{get}
use Rattle.scj_rules.specs.Contexts.{declarations_of}
use Rattle.runs_in_check.proofs.Walks.{left_from_end}
use Rattle.runs_in_check.proofs.guards.undo_all.Goals as goal

pub loop-index-preserved : goal.loop-index-preserved
loop-index-preserved c = λ number. rw c.at-id.ensures at (c.undo_by.ensures number) ∙ c.loop-index.invariant number

pub returns : goal.returns
unfolding declarations_of
returns c = λ number.
    let full : length c.args.facts.now.nodes ≤ c.loop-index.index =
    omega (arith, rw c.program-program.ensures at c.len-index-end.ensures.value) in
    sym (left_from_end (declarations_of c.args.facts.now) c.loop-index.index number
    (get ◌==◌ c.loop-index.rows number) full)
    ∙ c.loop-index.invariant number
