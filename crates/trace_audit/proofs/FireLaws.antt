-- A fire is found among the sorted ones exactly where the plan has it.
use Rattle.std.proofs.Common.{◌≡◌, ◌∙◌, ℕ, ◌+◌, ◌-◌, ◌<◌, ◌==◌, nat_le, Bool, true, false, ◌&&◌, ◌||◌, List, [], ◌∷◌, length, take, get_or, cond, Option, Some, None, refl, sym, ap, inl, inr, arith}
use Rattle.std.specs.Cmp.Lexicographic.{slice_cmp}
use Rattle.std.specs.List.{list_any}
use Rattle.std.specs.Ordering.{is_eq, nat_cmp, ordering_then}
use Rattle.std.specs.Str.{bytes_eq}
use Rattle.std.specs.declared.cmp.Ordering.{Ordering}
use Rattle.std.specs.declared.cmp.Ordering.TheVariants.{Less, Equal, Greater}
use Rattle.std.proofs.lemmas.Bool.{cases_Bool}
use Rattle.std.proofs.lemmas.Bool.Decides.{nat_tests}
use Rattle.std.proofs.lemmas.List.Folds.{list_any_more}
use Rattle.std.proofs.lemmas.Map.Text.{is_eq-slice_cmp}
use Rattle.std.proofs.lemmas.Slice.Eq.{bytes_eq-Decides}
use Rattle.scj_model.specs.Arrivals.{comes_at, comes_in}
use Rattle.scj_model.specs.declared.plans.Fire.{Fire}
use Rattle.scj_model.specs.declared.plans.FireFrom.{FireFrom}
use Rattle.scj_model.specs.declared.plans.FireFrom.TheVariants.{Start, Mission}
use Rattle.trace_audit.specs.Fires.{FireKey, is_fire_of, is_fired_since, is_same_from, key_at, key_cmp, mixed_with}
use Rattle.trace_audit.specs.Passing.{is_fire}

-- ---- among keys

is_eq_then : (o p : Ordering) → is_eq (ordering_then o p) ≡ (is_eq o && is_eq p)
is_eq_then Less p = refl
is_eq_then Equal p = refl
is_eq_then Greater p = refl

is_eq_nat : (a b : ℕ) → is_eq (nat_cmp a b) ≡ (a == b)
is_eq_nat a b = grind (arith, nat_tests)

-- the numbers of names make no difference, since names that are the same have the same one
mixed_alike : (u v : ℕ) (a b : List ℕ) →
    (((mixed_with 0 a == mixed_with 0 b) && (u == v)) && bytes_eq a b) ≡ ((u == v) && bytes_eq a b)
mixed_alike u v a b = elim (cases_Bool (bytes_eq a b)) [
  | inl same ↦
      let e : mixed_with 0 a ≡ mixed_with 0 b = ap (mixed_with 0) ((bytes_eq-Decides a b).0 same) in
      grind (arith, nat_tests, e)
  | inr other ↦ grind (arith, other)
]

is_eq_key : (a b : FireKey) → is_eq (key_cmp a b) ≡ (((a.0 == b.0) && (a.1 == b.1)) && bytes_eq a.2 b.2)
is_eq_key a b =
    is_eq_then (ordering_then (nat_cmp a.0 b.0) (nat_cmp a.1 b.1)) (slice_cmp nat_cmp a.2 b.2)
    ∙ (ap (λ (t : Bool). t && is_eq (slice_cmp nat_cmp a.2 b.2)) (is_eq_then (nat_cmp a.0 b.0) (nat_cmp a.1 b.1))
    ∙ (ap (λ (t : Bool). (t && is_eq (nat_cmp a.1 b.1)) && is_eq (slice_cmp nat_cmp a.2 b.2)) (is_eq_nat a.0 b.0)
    ∙ (ap (λ (t : Bool). ((a.0 == b.0) && t) && is_eq (slice_cmp nat_cmp a.2 b.2)) (is_eq_nat a.1 b.1)
    ∙ ap (λ (t : Bool). ((a.0 == b.0) && (a.1 == b.1)) && t) (is_eq-slice_cmp a.2 b.2))))

same_key : (fire : Fire) (at : ℕ) (name : List ℕ) →
    is_eq (key_cmp (key_at fire.at fire.handler) (key_at at name)) ≡ ((fire.at == at) && bytes_eq fire.handler name)
same_key fire at name =
    is_eq_key (key_at fire.at fire.handler) (key_at at name) ∙ mixed_alike fire.at at fire.handler name

-- one more fire of the kind, and one of another kind
pub one_more_key : (from : FireFrom) (fires : List Fire) (i : ℕ) (fire : Fire) (at : ℕ) (name : List ℕ) (key : FireKey)
    (before : Bool) {after : Bool} → i < length fires → get_or fires i fire ≡ fire → is_same_from from fire.from ≡ true →
    key ≡ key_at fire.at fire.handler → before ≡ list_any (is_fire_of from at name) (take i fires) →
    after ≡ cond (is_eq (key_cmp key (key_at at name))) true before →
    after ≡ list_any (is_fire_of from at name) (take (i + 1) fires)
one_more_key from fires i fire at name key before within is kind k h f =
    let e = f ∙ ap (λ (x : FireKey). cond (is_eq (key_cmp x (key_at at name))) true before) k in
    let more = list_any_more (is_fire_of from at name) fires i fire within in
    let same = same_key fire at name in
    let this : is_fire_of from at name (get_or fires i fire) ≡ ((fire.at == at) && bytes_eq fire.handler name) =
    ap (is_fire_of from at name) is ∙ ap (λ (b : Bool). b && ((fire.at == at) && bytes_eq fire.handler name)) kind in
    grind (arith, more, same, this, h, e)

pub no_more_key : (from : FireFrom) (fires : List Fire) (i : ℕ) (fire : Fire) (at : ℕ) (name : List ℕ) {before : Bool} →
    i < length fires → get_or fires i fire ≡ fire → is_same_from from fire.from ≡ false →
    before ≡ list_any (is_fire_of from at name) (take i fires) →
    before ≡ list_any (is_fire_of from at name) (take (i + 1) fires)
no_more_key from fires i fire at name within is kind h =
    let more = list_any_more (is_fire_of from at name) fires i fire within in
    let this : is_fire_of from at name (get_or fires i fire) ≡ false =
    ap (is_fire_of from at name) is ∙ ap (λ (b : Bool). b && ((fire.at == at) && bytes_eq fire.handler name)) kind in
    grind (arith, more, this, h)

-- ---- fires of a unit

-- what holds of a fire holds of its list
any_of_both : (f g h : Fire → Bool) → ((x : Fire) → f x ≡ (g x || h x)) → (xs : List Fire) →
    list_any f xs ≡ (list_any g xs || list_any h xs)
any_of_both f g h e [] = refl
any_of_both f g h e (x ∷ xs) =
    let here = e x in
    let behind = any_of_both f g h e xs in
    grind (arith, here, behind)

same_any : (f g : Fire → Bool) → ((x : Fire) → f x ≡ g x) → (xs : List Fire) → list_any f xs ≡ list_any g xs
same_any f g e [] = refl
same_any f g e (x ∷ xs) = rw (e x, same_any f g e xs) refl

or_false : (b : Bool) → (b || false) ≡ b
or_false true = refl
or_false false = refl

module _ (unit : ℕ) (name : List ℕ) where
  none_executes : (fire : Fire) → is_fire None unit name fire ≡ is_fire_of Start unit name fire
  unfolding comes_in comes_at
  none_executes fire = by_kind fire.from
    where
      by_kind : (from : FireFrom) → (comes_at from None unit fire.at && bytes_eq fire.handler name) ≡ (is_same_from Start from && ((fire.at == unit) && bytes_eq fire.handler name))
      by_kind Start = refl
      by_kind Mission = refl

  before_the_origin : (origin : ℕ) → nat_le origin unit ≡ false → (fire : Fire) → is_fire (Some origin) unit name fire ≡ is_fire_of Start unit name fire
  unfolding comes_in comes_at
  before_the_origin origin early fire = by_kind fire.from
    where
      by_kind : (from : FireFrom) → (comes_at from (Some origin) unit fire.at && bytes_eq fire.handler name) ≡ (is_same_from Start from && ((fire.at == unit) && bytes_eq fire.handler name))
      by_kind Start = refl
      by_kind Mission =
          let no : (origin + fire.at == unit) ≡ false = grind (arith, nat_tests) in
          ap (λ (b : Bool). b && bytes_eq fire.handler name) no

  since_the_origin : (origin : ℕ) → nat_le origin unit ≡ true → (fire : Fire) → is_fire (Some origin) unit name fire ≡ (is_fire_of Start unit name fire || is_fire_of Mission (unit - origin) name fire)
  unfolding comes_in comes_at
  since_the_origin origin late fire = by_kind fire.from
    where
      by_kind : (from : FireFrom) → (comes_at from (Some origin) unit fire.at && bytes_eq fire.handler name)
          ≡ ((is_same_from Start from && ((fire.at == unit) && bytes_eq fire.handler name))
          || (is_same_from Mission from && ((fire.at == unit - origin) && bytes_eq fire.handler name)))
      by_kind Start = grind (arith, nat_tests)
      by_kind Mission =
          let same : (origin + fire.at == unit) ≡ (fire.at == unit - origin) = grind (arith, nat_tests) in
          ap (λ (b : Bool). b && bytes_eq fire.handler name) same

  by_order : (origin : ℕ) (fires : List Fire) (b : Bool) → nat_le origin unit ≡ b →
      list_any (is_fire (Some origin) unit name) fires
      ≡ (list_any (is_fire_of Start unit name) fires || (b && list_any (is_fire_of Mission (unit - origin) name) fires))
  by_order origin fires true late = any_of_both _ _ _ (since_the_origin origin late) fires
  by_order origin fires false early = same_any _ _ (before_the_origin origin early) fires ∙ sym (or_false _)

  pub fired : (origin : Option ℕ) (fires : List Fire) →
      list_any (is_fire origin unit name) fires
      ≡ (list_any (is_fire_of Start unit name) fires || is_fired_since origin unit name fires)
  fired None fires = same_any _ _ none_executes fires ∙ sym (or_false _)
  fired (Some origin) fires = by_order origin fires (nat_le origin unit) refl

pub fired_since : (found : Option ℕ) (origin unit : ℕ) (name : List ℕ) (fires : List Fire) {b : Bool} →
    found ≡ Some origin → nat_le origin unit ≡ true → b ≡ list_any (is_fire_of Mission (unit - origin) name) fires →
    b ≡ is_fired_since found unit name fires
fired_since found origin unit name fires e late h =
    h ∙ sym (ap (λ (o : Option ℕ). is_fired_since o unit name fires) e
    ∙ ap (λ (t : Bool). t && list_any (is_fire_of Mission (unit - origin) name) fires) late)
