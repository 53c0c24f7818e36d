use Rattle.std.proofs.Common.{ℕ, refl, subst}
use Rattle.region_heap.specs.Refusals.{listed, unlisted}
use Rattle.region_heap.specs.Rows.{IsListed}
use Rattle.region_heap.specs.Written.{IsObject, there, nowhere}
use Rattle.region_heap.proofs.HiddenFields.{not_is}
use Rattle.region_heap.proofs.numbers.set_hidden_in.Goals as goal

pub set_hidden_at-requires : goal.set_hidden_at-requires
set_hidden_at-requires c =
    let l : IsListed c.args.objects.now c.args.r c.in-Some.first = c.in-Some.ensures.found in
    subst (λ (n : ℕ). IsObject c.args.words.now n) l.first_is (c.requires.objects l.index l.row l.is)

pub returns-in-Ok-clause-set : goal.returns-in-Ok-clause-set
returns-in-Ok-clause-set c = there c.in-Some.first c.in-Some.ensures.found c.in-Ok.ensures.set

pub returns-in-Ok-clause-allows : goal.returns-in-Ok-clause-allows
returns-in-Ok-clause-allows c =
    listed c.in-Some.first c.in-Some.ensures.found (not_is _ _ c.in-Ok.ensures.refuses)

pub returns-in-Err-clause-refuses : goal.returns-in-Err-clause-refuses
returns-in-Err-clause-refuses c =
    record {
      first = c.in-Some.first;
      is_listed = c.in-Some.ensures.found;
      refuses = not_is _ _ c.in-Err.ensures.refuses;
    }

pub returns-in_default-clause-set : goal.returns-in_default-clause-set
returns-in_default-clause-set c = nowhere c.in_default.ensures.none refl

pub returns-in_default-clause-allows : goal.returns-in_default-clause-allows
returns-in_default-clause-allows c = unlisted c.in_default.ensures.none
