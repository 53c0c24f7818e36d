use Rattle.std.proofs.Common.{◌≡◌, ℕ, ◌+◌, List, Some, None, drop, sym, ap, ◌∙◌, subst, arith}
use Rattle.scj_base.specs.declared.positions.Position.{Position}
use Rattle.scj_tree.specs.Heights.{first_too_deep, too_deep}
use Rattle.scj_tree.specs.Shape.{position_of}
use Rattle.scj_parser.proofs.HeightLemmas.{Gone, gone_all, gone_deep, gone_next, gone_small_child, light}
use Rattle.scj_parser.proofs.heights.too_deep.Goals as goal

pub returns-then-body_height-gt-HIGHEST : goal.returns-then-body_height-gt-HIGHEST
unfolding too_deep
returns-then-body_height-gt-HIGHEST c =
    let P : ℕ → Type 0 = λ f. first_too_deep c.args.nodes.now (drop f c.args.nodes.now) ≡ Some
    (position_of c.index-nodes-next.result) in
    ap (λ (p : Position). Some p) c.position.ensures ∙ sym (subst P c.loop-next.invariant.first (gone_deep c.args.nodes.now _ _
    c.loop-next.next c.loop-next.invariant.gone c.index-nodes-next.result (omega arith) c.index-nodes-next.is
    (omega (arith, c.body_height.ensures))))

pub overflow_add-height : goal.overflow_add-height
overflow_add-height c =
    omega (
      arith,
      gone_small_child c.args.nodes.now _ _ c.loop-next.next c.loop-next.invariant.gone c.index-nodes-next.result
          (omega arith),
      light c.index-nodes-next.result,
      c.weight.ensures,
      c.highest_child.ensures,
      c.requires.few,
    )

pub loop-next-preserved : goal.loop-next-preserved
loop-next-preserved c =
    let P : List ℕ → Type 0 = λ rows. Gone c.args.nodes.now c.loop-next.heights.first rows (c.loop-next.next + 1) in
    record {
      gone = subst P (sym c.in_ok-push.ensures.items) (gone_next c.args.nodes.now _ _ c.loop-next.next
          c.loop-next.invariant.gone c.index-nodes-next.result (omega arith) c.index-nodes-next.is
          (c.weight.result + c.highest_child.result) (omega (arith, c.body_height.ensures))
          (omega (arith, c.weight.ensures, c.highest_child.ensures)));
      first = c.loop-next.invariant.first;
    }

pub returns : goal.returns
unfolding too_deep
returns c =
    let P : ℕ → Type 0 = λ f. first_too_deep c.args.nodes.now (drop f c.args.nodes.now) ≡ None in
    sym (subst P c.loop-next.invariant.first
    (gone_all c.args.nodes.now _ _ c.loop-next.next c.loop-next.invariant.gone (omega arith)))
