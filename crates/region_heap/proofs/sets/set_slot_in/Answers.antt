use Rattle.std.proofs.Common.{ℕ, refl, subst}
use Rattle.region_heap.specs.Rows.{IsListed}
use Rattle.region_heap.specs.Written.{IsObject, there, nowhere}
use Rattle.region_heap.proofs.sets.set_slot_in.Goals as goal

pub set_slot_at-requires : goal.set_slot_at-requires
set_slot_at-requires c =
    let l : IsListed c.args.objects.now c.args.r c.in-Some.first = c.in-Some.ensures.found in
    subst (λ (n : ℕ). IsObject c.args.words.now n) l.first_is (c.requires.objects l.index l.row l.is)

pub returns-in-Some : goal.returns-in-Some
returns-in-Some c = there c.in-Some.first c.in-Some.ensures.found c.set_slot_at.ensures

pub returns-in-None : goal.returns-in-None
returns-in-None c = nowhere c.in-None.ensures.none refl
