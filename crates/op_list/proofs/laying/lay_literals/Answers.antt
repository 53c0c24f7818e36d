use Rattle.std.proofs.Common.{◌≡◌, ◌-◌, length, refl, arith, drop, flat_map, subst}
use Rattle.std.proofs.lemmas.Option.{slice_get_read}
use Rattle.scj_model.specs.Code.{code_of}
use Rattle.op_list.specs.Rows.{IsLaid}
use Rattle.op_list.proofs.Folds.{laid_as, laid_item, no_items, one_init, literals_are, init_plain}
use Rattle.op_list.proofs.laying.lay_literals.Goals as goal

pub returns-then-index-from : goal.returns-then-index-from
returns-then-index-from c =
    laid_as (code_of c.args.code.now) c.args.rows.now.items c.args.rows.now.items _ _ c.args.next c.args.next
    (literals_are c.args.code.now c.layout.result.now c.args.class c.args.from c.literals-fields.result.now
    c.layout.ensures c.literals-fields.ensures)
    (no_items (code_of c.args.code.now) c.args.rows.now.items one_init c.literals-fields.result.now c.args.from
    c.args.next (omega (arith, c.if-index-from.true)) c.requires.inside)

pub loop-index-init : goal.loop-index-init
loop-index-init c =
    record {
      few = omega arith;
      from = omega (arith, c.if-index-from.false);
      laid = no_items (code_of c.args.code.now) c.args.rows.now.items one_init c.literals-fields.result.now
          (length c.literals-fields.result.now) c.args.next (omega arith) c.requires.inside;
    }

pub lay_plain-requires-clause-plain : goal.lay_plain-requires-clause-plain
lay_plain-requires-clause-plain c = init_plain c.args.code.now.nodes c.index-fields-index.result

pub loop-index-preserved : goal.loop-index-preserved
loop-index-preserved c =
    record {
      few = omega (arith, c.loop-index.invariant.few);
      from = omega (arith, c.loop-index-test.true);
      laid = laid_item (code_of c.args.code.now) c.args.rows.now.items c.loop-index.rows.items
          c.lay_plain.new.rows.items one_init c.literals-fields.result.now c.loop-index.index
          c.index-fields-index.result c.args.next c.loop-index.start c.in_ok-start.start
          (omega (arith, c.loop-index-test.true))
          (slice_get_read c.literals-fields.result.now (length c.literals-fields.result.now) (c.loop-index.index - 1)
          c.index-fields-index.result refl (omega (arith, c.loop-index.invariant.few, c.loop-index-test.true))
          c.index-fields-index.is) c.loop-index.invariant.laid c.in_ok-start.ensures;
    }

pub returns : goal.returns
returns c =
    let same : c.loop-index.index ≡ c.args.from =
    omega (arith, c.loop-index.invariant.from, c.loop-index-test.false) in
    laid_as (code_of c.args.code.now) c.args.rows.now.items c.loop-index.rows.items _ _ c.args.next c.loop-index.start
    (literals_are c.args.code.now c.layout.result.now c.args.class c.args.from c.literals-fields.result.now
    c.layout.ensures c.literals-fields.ensures)
    (subst (λ i. IsLaid (code_of c.args.code.now) c.args.rows.now.items c.loop-index.rows.items
    (flat_map one_init (drop i c.literals-fields.result.now)) c.args.next c.loop-index.start) same
    c.loop-index.invariant.laid)
