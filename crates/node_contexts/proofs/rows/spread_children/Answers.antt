use Rattle.std.proofs.Common.{[], ◌∷◌, ap, sym, ◌∙◌, refl}
use Rattle.scj_tree.specs.Forest.{joined}
use Rattle.scj_tree.specs.Recursion.{lookup}
use Rattle.scj_rules.specs.Contexts.{outermost, last_variable}
use Rattle.node_contexts.specs.Steps.{shared}
use Rattle.node_contexts.specs.declared.kinds.Difference.TheVariants.{Nothing as alike, InTurn}
use Rattle.node_contexts.proofs.StepLemmas.{spread_first}
use Rattle.node_contexts.proofs.rows.spread_children.Goals as goal

pub returns-in-Nothing : goal.returns-in-Nothing
unfolding last_variable
returns-in-Nothing c =
    let a = c.args in
    let few = c.in-Nothing.ensures in
    let above = lookup outermost a.rows.now.items a.parent in
    let base = shared (joined a.program.now.files) a.parent a.node.now above in
    (spread_first a.program.now c.requires.whole a.parent a.node.now
    (record { base = base; difference = alike }) [] base.last above a.rows.now.items
    c.requires.there c.requires.reported refl refl (sym few.object) (few.known a.program.now.nodes) (sym few.parts)
    refl).reported

pub returns-in_ok-put-in-One : goal.returns-in_ok-put-in-One
unfolding last_variable
returns-in_ok-put-in-One c =
    let a = c.args in
    let few = c.in-One.ensures in
    let s = spread_first a.program.now c.requires.whole a.parent a.node.now
    (record { base = c.in_ok-base-in-One.base; difference = alike }) _ _ c.row_at.result
    a.rows.now.items
    c.requires.there c.requires.reported
    (c.in_ok-base-in-One.ensures (joined a.program.now.files) (sym c.in-None.is ∙ c.requires.number))
    (c.row_at.ensures ∙ ap (λ rs. lookup outermost rs a.parent) c.deref.ensures.value) (sym few.object)
    (few.known a.program.now.nodes) (sym few.parts) c.last.ensures in
    (c.in_ok-put-in-One.ensures a.parent a.node.now [] s).reported

pub returns-in_ok-put-in-Two : goal.returns-in_ok-put-in-Two
unfolding last_variable
returns-in_ok-put-in-Two c =
    let a = c.args in
    let few = c.in-Two.ensures in
    let s = spread_first a.program.now c.requires.whole a.parent a.node.now
    (record { base = c.in_ok-base-in-Two.base; difference = alike }) _ _ c.row_at-in-Two.result
    a.rows.now.items
    c.requires.there c.requires.reported
    (c.in_ok-base-in-Two.ensures (joined a.program.now.files) (sym c.in-None.is ∙ c.requires.number))
    (c.row_at-in-Two.ensures ∙ ap (λ rs. lookup outermost rs a.parent) c.deref-in-Two.ensures.value) (sym few.object)
    (few.known a.program.now.nodes) (sym few.parts) c.last-in-Two.ensures in
    (c.in_ok-put-in-Two.ensures a.parent a.node.now [] (c.in_ok-known-in-Two.ensures a.parent a.node.now
    (c.in-Two.second ∷ []) s)).reported

pub returns-in_ok-put_all-in-Listed : goal.returns-in_ok-put_all-in-Listed
unfolding last_variable
returns-in_ok-put_all-in-Listed c =
    let a = c.args in
    let few = c.in-Listed.ensures in
    let s = spread_first a.program.now c.requires.whole a.parent a.node.now
    (record { base = c.in_ok-base-in-Listed.base; difference = InTurn }) _ _ c.row_at-in-Listed.result
    a.rows.now.items
    c.requires.there c.requires.reported
    (c.in_ok-base-in-Listed.ensures (joined a.program.now.files) (sym c.in-None.is ∙ c.requires.number))
    (c.row_at-in-Listed.ensures ∙ ap (λ rs. lookup outermost rs a.parent) c.deref-in-Listed.ensures.value)
    (sym few.object)
    (few.known a.program.now.nodes) (sym few.parts) c.last-in-Listed.ensures in
    (c.in_ok-put_all-in-Listed.ensures a.parent a.node.now s).reported
