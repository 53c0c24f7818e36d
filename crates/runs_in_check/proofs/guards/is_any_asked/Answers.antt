use Rattle.std.proofs.Common.{◌≡◌, ◌≤◌, length, None, sym, ◌∙◌, arith, below_more}
use Rattle.scj_tree.specs.Recursion.{lookup}
use Rattle.runs_in_check.proofs.Walks.{none_asked, none_is}
use Rattle.runs_in_check.proofs.guards.is_any_asked.Goals as goal

pub loop-index-preserved : goal.loop-index-preserved
loop-index-preserved c =
    let none : c.asked_at.result ≡ None = none_is c.asked_at.result (sym c.is_some.ensures ∙ c.if-is_some.false) in
    below_more _ _ c.loop-index.invariant (rw c.at-id.ensures at (sym c.asked_at.ensures ∙ none))

pub returns : goal.returns
returns c = λ e.
    let full : length c.args.facts.now.nodes ≤ c.loop-index.index =
    omega (arith, rw c.program-program.ensures at c.len-index-end.ensures.value) in
    none_asked c.args.facts.now (lookup None c.args.types.now) c.loop-index.index full c.loop-index.invariant
