-- Steps that are alike, part by part.
use Rattle.std.specs.Prelude.{Option, Some, None, if◌then◌else◌}
use Rattle.std.proofs.Common.{◌≡◌, Bool, true, false, refl, sym, subst}
use Rattle.scj_model.specs.Steps.{Step}
use Rattle.unit_steps.specs.Alike.{same, IsAlikeStep, IsAlikeTry, none, some}

pub stays : {a : Step} → IsAlikeStep a a
stays = record { states = same; events = refl }

pub equal_steps : {a b : Step} → a ≡ b → IsAlikeStep a b
equal_steps {a} e = subst (λ b. IsAlikeStep a b) e stays

pub equal_tries : {a b : Option Step} → a ≡ b → IsAlikeTry a b
equal_tries {a} e = subst (λ b. IsAlikeTry a b) e (itself a)
  where
    itself : (a : Option Step) → IsAlikeTry a a
    itself None = none
    itself (Some a) = some stays

pub each_way : (b : Bool) {a c p q : Step} → IsAlikeStep a p → IsAlikeStep c q →
    IsAlikeStep (if b then a else c) (if b then p else q)
each_way true h k = h
each_way false h k = k

-- where the tests are the same
pub either_way : (b d : Bool) → d ≡ b → {a c p q : Step} → IsAlikeStep a p → IsAlikeStep c q →
    IsAlikeStep (if b then a else c) (if d then p else q)
either_way b d e {a} {c} {p} {q} h k =
    subst (λ d. IsAlikeStep (if b then a else c) (if d then p else q)) (sym e) (each_way b h k)
