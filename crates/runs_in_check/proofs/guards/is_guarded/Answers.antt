use Rattle.std.proofs.Common.{◌≡◌, List, [], None, Some, sym, ◌∙◌, arith, eqb-true}
use Rattle.std.proofs.lemmas.List.{nil_from_length}
use Rattle.scj_tree.specs.declared.nodes.Node.{Node}
use Rattle.std.specs.HashMap.{hash_map_len}
use Rattle.scj_rules.specs.Contexts.{declarations_of, parent_in}
use Rattle.program_facts.specs.Reported.{declared, types}
use Rattle.runs_in_check.specs.Guards.{guards_both, row_in}
use Rattle.runs_in_check.proofs.Walks.{guarded_by_rows, no_test, no_test_left, none_guarded, other_tests, some_rows, some_test}
use Rattle.runs_in_check.proofs.guards.is_guarded.Goals as goal

pub returns-then-is_without : goal.returns-then-is_without
returns-then-is_without c =
    let none : c.args.guards.now.rows.entries ≡ [] =
    nil_from_length _ (eqb-true _ _ (sym c.is_without.ensures ∙ c.if-is_without.true)) in
    sym (none_guarded (declared c.args.at.now) (types c.args.at.now)
    (λ number. rw none at (c.requires.exact number))
    c.args.at.now.id c.args.x.now c.args.y.now)

pub returns-in_default : goal.returns-in_default
unfolding declarations_of
returns-in_default c =
    let nodes : List Node = c.args.at.now.facts.now.nodes in
    let filled = some_rows (hash_map_len c.args.guards.now.rows) (sym c.is_without.ensures ∙ c.if-is_without.false) in
    let top : parent_in nodes c.loop-left.part ≡ None = cc (c.requires.around filled c.loop-left.part) in
    sym (no_test nodes (guards_both (row_in c.args.guards.now) c.args.x.now c.args.y.now) c.loop-left.left
    c.loop-left.part (omega arith) top)
    ∙ c.loop-left.invariant
    ∙ guarded_by_rows (declared c.args.at.now) (types c.args.at.now) c.args.guards.now c.requires c.args.at.now.id
    c.args.x.now c.args.y.now

pub returns-then-guards_part : goal.returns-then-guards_part
unfolding declarations_of
returns-then-guards_part c =
    let nodes : List Node = c.args.at.now.facts.now.nodes in
    let filled = some_rows (hash_map_len c.args.guards.now.rows) (sym c.is_without.ensures ∙ c.if-is_without.false) in
    let up : parent_in nodes c.loop-left.part ≡ Some c.in-Some.parent =
    cc (c.requires.around filled c.loop-left.part) in
    sym (some_test nodes (guards_both (row_in c.args.guards.now) c.args.x.now c.args.y.now) c.loop-left.left
    c.loop-left.part c.in-Some.parent (omega arith) up
    (rw c.program-program.ensures at (sym c.guards_part.ensures ∙ c.if-guards_part.true)))
    ∙ c.loop-left.invariant
    ∙ guarded_by_rows (declared c.args.at.now) (types c.args.at.now) c.args.guards.now c.requires c.args.at.now.id
    c.args.x.now c.args.y.now

pub loop-left-preserved : goal.loop-left-preserved
unfolding declarations_of
loop-left-preserved c =
    let nodes : List Node = c.args.at.now.facts.now.nodes in
    let filled = some_rows (hash_map_len c.args.guards.now.rows) (sym c.is_without.ensures ∙ c.if-is_without.false) in
    let up : parent_in nodes c.loop-left.part ≡ Some c.in-Some.parent =
    cc (c.requires.around filled c.loop-left.part) in
    other_tests nodes (guards_both (row_in c.args.guards.now) c.args.x.now c.args.y.now) c.loop-left.left
    c.loop-left.part c.in-Some.parent (omega arith) up
    (rw c.program-program.ensures at (sym c.guards_part.ensures ∙ c.if-guards_part.false))
    ∙ c.loop-left.invariant

pub returns : goal.returns
unfolding declarations_of
returns c =
    sym (no_test_left c.args.at.now.facts.now.nodes
    (guards_both (row_in c.args.guards.now) c.args.x.now c.args.y.now) c.loop-left.left c.loop-left.part (omega arith))
    ∙ c.loop-left.invariant
    ∙ guarded_by_rows (declared c.args.at.now) (types c.args.at.now) c.args.guards.now c.requires c.args.at.now.id
    c.args.x.now c.args.y.now
