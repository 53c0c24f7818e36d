use Rattle.std.proofs.Common.{◌≡◌, ◌∙◌, ◌-◌, ap, arith, refl}
use Rattle.scope_tree.proofs.NameLemmas.{none_from, entered_from, all_from, scope_from}
use Rattle.scope_tree.proofs.names.names_of.Goals as goal

pub loop-left-init : goal.loop-left-init
loop-left-init c = record {
  within = omega (arith, c.class_count-count.ensures);
  finds = λ name. none_from c.args.classes.now c.is_whole.ensures c.class_count-count.result _ name
      c.class_count-count.ensures (rw c.new.ensures.empty refl);
}

pub loop-left-preserved : goal.loop-left-preserved
loop-left-preserved c = record {
  within = omega (arith, c.loop-left.invariant.within);
  finds = λ name. c.in_ok-enter.ensures name
      ∙ rw c.at.ensures (entered_from c.args.classes.now c.is_whole.ensures c.loop-left.left (c.loop-left.left - 1) _ name
      (omega (arith, c.loop-left-test.true)) c.loop-left.invariant.within (c.loop-left.invariant.finds name));
}

pub returns : goal.returns
returns c =
    let last : c.loop-left.left ≡ 0 = omega (arith, c.loop-left-test.false) in
    record {
      few = omega (arith, c.class_count-count.ensures);
      finds = λ name. c.loop-left.invariant.finds name ∙ ap (λ n. scope_from c.args.classes.now n name) last
          ∙ all_from c.args.classes.now c.is_whole.ensures name;
    }
