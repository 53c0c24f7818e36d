-- The end that the last of some events tells.
use Rattle.std.specs.Prelude.{Option, Some, None, slice_get, ◌++◌}
use Rattle.std.specs.List.{last_or}
use Rattle.std.proofs.Common.{◌≡◌, ◌-◌, List, [], ◌∷◌, length, refl, ap, sym, ◌∙◌, arith}
use Rattle.scj_rules.specs.Words.{◌>>=◌}
use Rattle.scj_model.specs.declared.events.Event.{Event}
use Rattle.plain_machine.specs.Ends.{end_of, end_reported}
use Rattle.plain_machine.specs.declared.runs.RunEnd.{RunEnd}

last_at : (x : Event) (xs : List Event) → last_or (Some x) xs ≡ slice_get (x ∷ xs) (length xs)
last_at x [] = refl
last_at x (y ∷ ys) = last_at y ys

pub last_is : (reported : List Event) → last_or None reported ≡ slice_get reported (length reported - 1)
last_is [] = refl
last_is (x ∷ xs) =
    last_at x xs ∙ ap (slice_get (x ∷ xs)) (let e : length xs ≡ length (x ∷ xs) - 1 = omega arith in e)

-- by the element at the last place
pub end_is : (reported : List Event) (last : Option Event) → last ≡ slice_get reported (length reported - 1) →
    (last >>= end_reported) ≡ end_of reported
unfolding end_of
end_is reported last e = ap (λ (found : Option Event). found >>= end_reported) (e ∙ sym (last_is reported))

pub last_behind : (o : Option Event) (xs : List Event) (y : Event) (ys : List Event) →
    last_or o (xs ++ y ∷ ys) ≡ last_or (Some y) ys
last_behind o [] y ys = refl
last_behind o (x ∷ xs) y ys = last_behind (Some x) xs y ys

-- what comes before plays no part
pub ends_behind : (xs ys : List Event) (end : RunEnd) → end_of ys ≡ Some end → end_of (xs ++ ys) ≡ Some end
unfolding end_of
ends_behind xs [] end e = absurd (cc (e))
ends_behind xs (y ∷ ys) end e = ap (λ (found : Option Event). found >>= end_reported) (last_behind None xs y ys) ∙ e
