use Rattle.scj_tree.specs.Forest.{joined}
use Rattle.node_contexts.proofs.StepLemmas.{spread_first}
use Rattle.node_contexts.proofs.rows.spread_more.Goals as goal

pub returns : goal.returns
returns c =
    let a = c.args in
    (c.in_ok-put_parts.ensures a.parent a.node.now
    (spread_first a.program.now c.requires.whole a.parent a.node.now _ _ _ c.row_at.result a.rows.now.items
    c.requires.there c.requires.reported (c.in_ok-base.ensures (joined a.program.now.files) c.requires.number) (cc)
    c.difference_of.ensures.object (λ child. c.difference_of.ensures.known a.program.now.nodes child) c.parts_of.ensures
    (rw c.last.ensures at c.in_ok-known.ensures))).reported
