use Rattle.std.proofs.Common.{◌≡◌, ◌-◌, ◌+◌, ◌*◌, IfOk, ◌<◌, ◌++◌, ◌∷◌, [], length, length-append, refl, sym, ap, ◌∙◌, arith, drop, flat_map, subst, slice_get, Some}
use Rattle.std.proofs.lemmas.Option.{slice_get_read}
use Rattle.scj_model.specs.Code.{code_of}
use Rattle.scj_model.specs.Ops.{ops_of, optional_ops}
use Rattle.scj_rules.specs.Contexts.{declarations_of}
use Rattle.op_list.specs.Parts.{part_ops}
use Rattle.op_list.specs.Choices.{IsChoiceBelow, IsPartBelow, IsBelowIfAny}
use Rattle.op_list.specs.Rows.{row_of, IsLaid}
use Rattle.op_list.proofs.Folds.{laid_as, laid_item, no_items, parts_give, part_below, laid_set}
use Rattle.op_list.proofs.Layouts.{laid_at, laid_nothing, laid_front, laid_choice, longer_length}
use Rattle.op_list.proofs.Goes.{either_true, either_false, turn_true, turn_false}
use Rattle.op_list.proofs.laying.+lay.Goals as goal

-- ---- items

pub lay_items-returns-then-index-from : goal.lay_items-returns-then-index-from
lay_items-returns-then-index-from t c =
    let code = code_of c.args.code.now in
    subst (λ xs. IsLaid code c.args.rows.now.items c.args.rows.now.items
    (flat_map (ops_of code) (drop c.args.from xs)) c.args.next c.args.next) c.items_at-items.ensures
    (no_items code c.args.rows.now.items (ops_of code) c.items_at-items.result.now c.args.from c.args.next
    (omega (arith, c.if-index-from.true)) c.requires.inside)

pub lay_items-returns : goal.lay_items-returns
lay_items-returns t c =
    let code = code_of c.args.code.now in
    let same : c.loop-index.index ≡ c.args.from = omega (arith, c.loop-index.invariant.from, c.loop-index-test.false) in
    subst (λ xs. IsLaid code c.args.rows.now.items c.loop-index.rows.items
    (flat_map (ops_of code) (drop c.args.from xs)) c.args.next c.loop-index.start) c.items_at-items.ensures
    (subst (λ i. IsLaid code c.args.rows.now.items c.loop-index.rows.items
    (flat_map (ops_of code) (drop i c.items_at-items.result.now)) c.args.next c.loop-index.start) same
    c.loop-index.invariant.laid)

pub lay_items-loop-index-init : goal.lay_items-loop-index-init
lay_items-loop-index-init t c =
    let code = code_of c.args.code.now in
    record {
      few = omega arith;
      from = omega (arith, c.if-index-from.false);
      laid = no_items code c.args.rows.now.items (ops_of code) c.items_at-items.result.now
          (length c.items_at-items.result.now) c.args.next (omega arith) c.requires.inside;
    }

pub lay_items-lay_node-requires : goal.lay_items-lay_node-requires
lay_items-lay_node-requires t c =
    let there : slice_get c.items_at-items.result.now (c.loop-index.index - 1) ≡ Some c.index-items-index.result =
    slice_get_read c.items_at-items.result.now (length c.items_at-items.result.now) (c.loop-index.index - 1)
    c.index-items-index.result refl (omega (arith, c.loop-index.invariant.few, c.loop-index-test.true))
    c.index-items-index.is in
    let less : c.index-items-index.result < c.args.bound =
    c.requires.below (c.loop-index.index - 1) c.index-items-index.result
    (sym (ap (λ xs. slice_get xs (c.loop-index.index - 1)) c.items_at-items.ensures) ∙ there) in
    let own : 8 * c.args.bound + 5 ≡ t = c.decreases in
    (omega (arith, less, own), c.loop-index.invariant.laid.inside)

pub lay_items-loop-index-preserved : goal.lay_items-loop-index-preserved
lay_items-loop-index-preserved t c =
    let code = code_of c.args.code.now in
    record {
      few = omega (arith, c.loop-index.invariant.few);
      from = omega (arith, c.loop-index-test.true);
      laid = laid_item code c.args.rows.now.items c.loop-index.rows.items c.lay_node.new.rows.items (ops_of code)
          c.items_at-items.result.now c.loop-index.index c.index-items-index.result c.args.next c.loop-index.start
          c.in_ok-start.start (omega (arith, c.loop-index-test.true))
          (slice_get_read c.items_at-items.result.now (length c.items_at-items.result.now) (c.loop-index.index - 1)
          c.index-items-index.result refl (omega (arith, c.loop-index.invariant.few, c.loop-index-test.true))
          c.index-items-index.is) c.loop-index.invariant.laid c.in_ok-start.ensures;
    }

-- ---- nodes

pub lay_node-loop-index-init : goal.lay_node-loop-index-init
lay_node-loop-index-init t c =
    let code = code_of c.args.code.now in
    record {
      few = omega arith;
      laid = no_items code c.args.rows.now.items (part_ops code (ops_of code)) c.items-parts.result.now
          (length c.items-parts.result.now) c.args.next (omega arith) c.requires.inside;
    }

pub lay_node-lay_part-requires : goal.lay_node-lay_part-requires
lay_node-lay_part-requires t c =
    let there : slice_get c.items-parts.result.now (c.loop-index.index - 1) ≡ Some c.index-parts-index.result =
    slice_get_read c.items-parts.result.now (length c.items-parts.result.now) (c.loop-index.index - 1)
    c.index-parts-index.result refl (omega (arith, c.loop-index.invariant.few, c.loop-index-test.true))
    c.index-parts-index.is in
    let is = c.items-parts.ensures ∙ c.parts_at-listed.ensures in
    let own : 8 * c.args.id + 7 ≡ t = c.decreases in (
      omega (arith, own),
      (
        part_below c.args.code.now c.node_count.ensures.whole c.args.id (c.loop-index.index - 1)
            c.index-parts-index.result (sym (ap (λ xs. slice_get xs (c.loop-index.index - 1)) is) ∙ there),
        c.loop-index.invariant.laid.inside,
      ),
    )

pub lay_node-loop-index-preserved : goal.lay_node-loop-index-preserved
lay_node-loop-index-preserved t c =
    let code = code_of c.args.code.now in
    record {
      few = omega (arith, c.loop-index.invariant.few);
      laid = laid_item code c.args.rows.now.items c.loop-index.rows.items c.lay_part.new.rows.items
          (part_ops code (ops_of code)) c.items-parts.result.now c.loop-index.index c.index-parts-index.result
          c.args.next c.loop-index.start c.in_ok-start.start (omega (arith, c.loop-index-test.true))
          (slice_get_read c.items-parts.result.now (length c.items-parts.result.now) (c.loop-index.index - 1)
          c.index-parts-index.result refl (omega (arith, c.loop-index.invariant.few, c.loop-index-test.true))
          c.index-parts-index.is) c.loop-index.invariant.laid c.in_ok-start.ensures;
    }

pub lay_node-returns : goal.lay_node-returns
lay_node-returns t c =
    let code = code_of c.args.code.now in
    let is = c.items-parts.ensures ∙ c.parts_at-listed.ensures in
    let first : c.loop-index.index ≡ 0 = omega (arith, c.loop-index-test.false) in
    laid_as code c.args.rows.now.items c.loop-index.rows.items _ _ c.args.next c.loop-index.start
    (ap (λ i. flat_map (part_ops code (ops_of code)) (drop i c.items-parts.result.now)) first
    ∙ ap (flat_map (part_ops code (ops_of code))) is
    ∙ parts_give c.args.code.now c.node_count.ensures.whole c.args.id)
    c.loop-index.invariant.laid

-- ---- parts

pub lay_optional-lay_node-requires : goal.lay_optional-lay_node-requires
unfolding IsBelowIfAny
lay_optional-lay_node-requires t c =
    let less : c.in-Some.id < c.args.bound = subst (IsBelowIfAny c.args.bound) c.in-Some.is c.requires.below in
    let own : 8 * c.args.bound ≡ t = c.decreases in
    (omega (arith, less, own), c.requires.inside)

pub lay_optional-returns-in-None : goal.lay_optional-returns-in-None
unfolding optional_ops
lay_optional-returns-in-None t c =
    let code = code_of c.args.code.now in
    subst (λ id. IsLaid code c.args.rows.now.items c.args.rows.now.items (optional_ops code id) c.args.next c.args.next)
    (sym c.in-None.is) (laid_nothing code c.args.rows.now.items c.args.next c.requires.inside)

pub lay_optional-returns-in_ok-start-in-Some : goal.lay_optional-returns-in_ok-start-in-Some
unfolding optional_ops
lay_optional-returns-in_ok-start-in-Some t c =
    let code = code_of c.args.code.now in
    subst (λ id. IsLaid code c.args.rows.now.items c.lay_node.new.rows.items (optional_ops code id) c.args.next
    c.in_ok-start-in-Some.start) (sym c.in-Some.is) c.in_ok-start-in-Some.ensures

pub lay_part-lay_node-requires : goal.lay_part-lay_node-requires
unfolding IsPartBelow
lay_part-lay_node-requires t c =
    let less : c.in-Visit.id < c.args.bound =
    subst (IsPartBelow c.args.code.now.nodes c.args.bound) c.in-Visit.is c.requires.below in
    let own : 8 * c.args.bound + 6 ≡ t = c.decreases in
    (omega (arith, less, own), c.requires.inside)

pub lay_part-lay_op-requires : goal.lay_part-lay_op-requires
unfolding IsPartBelow
lay_part-lay_op-requires t c =
    let own : 8 * c.args.bound + 6 ≡ t = c.decreases in (
      omega (arith, own),
      (subst (IsPartBelow c.args.code.now.nodes c.args.bound) c.in-Emit.is c.requires.below, c.requires.inside),
    )

pub lay_part-lay_items-requires : goal.lay_part-lay_items-requires
unfolding IsPartBelow
lay_part-lay_items-requires t c =
    let own : 8 * c.args.bound + 6 ≡ t = c.decreases in (
      omega (arith, own),
      (subst (IsPartBelow c.args.code.now.nodes c.args.bound) c.in-Items.is c.requires.below, c.requires.inside),
    )

pub lay_part-returns-in-Visit : goal.lay_part-returns-in-Visit
unfolding part_ops
lay_part-returns-in-Visit t c =
    let code = code_of c.args.code.now in
    subst (λ part. IfOk c.lay_node.result (λ start. IsLaid code c.args.rows.now.items c.lay_node.new.rows.items
    (part_ops code (ops_of code) part) c.args.next start)) (sym c.in-Visit.is) c.lay_node.ensures

pub lay_part-returns-in-Emit : goal.lay_part-returns-in-Emit
unfolding part_ops
lay_part-returns-in-Emit t c =
    let code = code_of c.args.code.now in
    subst (λ part. IfOk c.lay_op.result (λ start. IsLaid code c.args.rows.now.items c.lay_op.new.rows.items
    (part_ops code (ops_of code) part) c.args.next start)) (sym c.in-Emit.is) c.lay_op.ensures

pub lay_part-returns-in-Items : goal.lay_part-returns-in-Items
unfolding part_ops code_of declarations_of
lay_part-returns-in-Items t c =
    let code = code_of c.args.code.now in
    subst (λ part. IfOk c.lay_items.result (λ start. IsLaid code c.args.rows.now.items c.lay_items.new.rows.items
    (part_ops code (ops_of code) part) c.args.next start)) (sym c.in-Items.is) c.lay_items.ensures

pub lay_part-returns-in-Literals : goal.lay_part-returns-in-Literals
unfolding part_ops
lay_part-returns-in-Literals t c =
    let code = code_of c.args.code.now in
    subst (λ part. IfOk c.lay_literals.result (λ start. IsLaid code c.args.rows.now.items c.lay_literals.new.rows.items
    (part_ops code (ops_of code) part) c.args.next start)) (sym c.in-Literals.is) c.lay_literals.ensures

-- ---- choices

pub lay_either-returns : goal.lay_either-returns
lay_either-returns t c =
    let code = code_of c.args.code.now in
    laid_at _ _ _ _ _ _ _ _
    c.in_ok-start.ensures.put c.in_ok-start.ensures.index
    (laid_choice code c.args.rows.now.items c.lay_optional.new.rows.items c.lay_optional-2.new.rows.items c.args.op
    (optional_ops code c.args.parts.on_true) (optional_ops code c.args.parts.on_false) c.args.next
    c.in_ok-if_true.if_true c.in_ok-if_false.if_false c.requires.inside
    (either_true c.args.code.now c.args.op c.args.parts c.requires.choice)
    (either_false c.args.code.now c.args.op c.args.parts c.requires.choice)
    c.in_ok-if_true.ensures c.in_ok-if_false.ensures)

pub lay_turn-returns : goal.lay_turn-returns
lay_turn-returns t c =
    let code = code_of c.args.code.now in
    laid_front code c.args.rows.now.items c.lay_optional.new.rows.items c.lay_node-2.new.rows.items
    (ops_of code c.args.parts.body) (optional_ops code c.args.parts.step ++ ops_of code c.args.parts.test) c.args.next
    c.in_ok-step.step c.in_ok-body.body
    (laid_front code c.args.rows.now.items c.lay_node.new.rows.items c.lay_optional.new.rows.items
    (optional_ops code c.args.parts.step) (ops_of code c.args.parts.test) c.args.next c.in_ok-test.test c.in_ok-step.step
    c.in_ok-test.ensures c.in_ok-step.ensures)
    c.in_ok-body.ensures

pub lay_loop-returns : goal.lay_loop-returns
lay_loop-returns t c =
    let code = code_of c.args.code.now in
    laid_set code c.args.rows.now.items c.put_row.new.rows.items c.lay_turn.new.rows.items c.set_row.new.rows.items
    c.args.op
    (ops_of code c.args.parts.body ++ (optional_ops code c.args.parts.step ++ ops_of code c.args.parts.test)) c.args.next
    c.in_ok-start.start c.in_ok-turn.turn c.requires.inside
    (turn_true c.args.code.now c.args.op c.args.parts c.requires.choice)
    (turn_false c.args.code.now c.args.op c.args.parts c.requires.choice)
    c.in_ok-start.ensures.put c.in_ok-start.ensures.index c.in_ok-turn.ensures c.set_row.ensures

pub lay_choice-lay_either-requires : goal.lay_choice-lay_either-requires
unfolding IsChoiceBelow
lay_choice-lay_either-requires t c =
    let below : IsBelowIfAny c.args.bound c.in-Either.parts.on_true × IsBelowIfAny c.args.bound c.in-Either.parts.on_false =
    subst (IsChoiceBelow c.args.bound) c.in-Either.is c.requires.below in
    let own : 8 * c.args.bound + 4 ≡ t = c.decreases in
    (omega (arith, own), (c.requires.choice ∙ c.in-Either.is, (below.0, (below.1, c.requires.inside))))

pub lay_choice-lay_loop-requires : goal.lay_choice-lay_loop-requires
unfolding IsChoiceBelow
lay_choice-lay_loop-requires t c =
    let below : (c.in-Turn.parts.body < c.args.bound) × IsBelowIfAny c.args.bound c.in-Turn.parts.step
    × (c.in-Turn.parts.test < c.args.bound) =
    subst (IsChoiceBelow c.args.bound) c.in-Turn.is c.requires.below in
    let own : 8 * c.args.bound + 4 ≡ t = c.decreases in (
      omega (arith, own),
      (c.requires.choice ∙ c.in-Turn.is, (below.0, (below.1, (below.2, c.requires.inside)))),
    )

pub lay_loop-set_row-requires : goal.lay_loop-set_row-requires
lay_loop-set_row-requires t c =
    let code = code_of c.args.code.now in
    let long = longer_length code c.put_row.new.rows.items c.lay_turn.new.rows.items c.in_ok-turn.ensures.longer in
    let wide = ap length c.in_ok-start.ensures.put in
    let len = length-append c.args.rows.now.items (row_of code c.args.op c.args.next c.args.next c.args.next ∷ []) in
    omega (arith, long, wide, len, c.in_ok-start.ensures.index)
