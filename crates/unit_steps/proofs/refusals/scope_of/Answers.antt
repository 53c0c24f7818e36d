use Rattle.std.proofs.Common.{◌≡◌, ◌∙◌, ◌+◌, arith, subst, sym, ℕ}
use Rattle.region_heap.specs.OpenAreas.{open_areas}
use Rattle.region_heap.proofs.Lists.{get_within}
use Rattle.unit_steps.proofs.OpenScopes.{NoneHas, has_scope, none_more, one_has}
use Rattle.unit_steps.proofs.refusals.scope_of.Goals as goal

pub loop-other-smaller : goal.loop-other-smaller
loop-other-smaller c =
    let within = get_within (open_areas c.args.memory.now.objects 0 c.args.memory.now.areas) c.loop-other.i
    c.in-Some.other (sym c.in-Some.ensures) in
    omega (arith, within, c.in-Some-checked_add.ensures)

pub loop-other-preserved : goal.loop-other-preserved
loop-other-preserved c =
    let within = get_within (open_areas c.args.memory.now.objects 0 c.args.memory.now.areas) c.loop-other.i
    c.in-Some.other (sym c.in-Some.ensures) in
    let next : c.in-Some-checked_add.next ≡ c.loop-other.i + 1 = omega (arith, c.in-Some-checked_add.ensures) in
    record {
      none = subst (λ (n : ℕ). NoneHas c.args.memory.now c.args.area n) (sym next)
          (none_more c.args.memory.now c.args.area c.loop-other.i c.in-Some.other c.area_with_scope.result
          c.loop-other.invariant.none (sym c.in-Some.ensures) c.area_with_scope.ensures
          (sym c.is_some.ensures ∙ c.if-is_some.false));
      within = omega (arith, within, next);
    }

pub loop-other-init : goal.loop-other-init
loop-other-init c = record { none = λ x e j y l at same. omega (arith, l); within = omega arith }

pub unreachable-requires : goal.unreachable-requires
unreachable-requires c =
    one_has c.args.memory.now c.args.area c.loop-other.i c.requires c.loop-other.invariant.none c.in_default.ensures
    c.loop-other.invariant.within

pub returns-then-is_some : goal.returns-then-is_some
returns-then-is_some c =
    has_scope c.args.memory.now c.args.area c.in-Some.other.name c.area_with_scope.result c.area_with_scope.ensures
    (sym c.is_some.ensures ∙ c.if-is_some.true)
