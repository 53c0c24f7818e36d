-- Fires by their units.
use Rattle.std.proofs.Common.{◌≡◌, ◌∙◌, ℕ, zero, suc, ◌+◌, ◌-◌, ◌<◌, ◌≤◌, ◌==◌, nat_lt, Bool, true, false, if◌then◌else◌, List, [], ◌∷◌, length, get_or, filter, take_while, drop, Option, Some, None, refl, ap, sym, inl, inr, arith, add-one, not}
use Rattle.std.proofs.lemmas.Bool.{cases_Bool, cases_lt, ne_eqb}
use Rattle.std.proofs.lemmas.Bool.Decides.{nat_tests}
use Rattle.std.proofs.lemmas.List.Elements.{filter_agree}
use Rattle.std.specs.List.Sorted.{IsNonDecreasingBy, IsPartitionedBy, IsPartitionPoint}
use Rattle.std.proofs.lemmas.List.Sorted.{IsNonDecreasingBy-from_sort}
use Rattle.std.proofs.lemmas.List.Filters.{length-filter_both}
use Rattle.scj_model.specs.Plan.{Plan}
use Rattle.scj_model.specs.declared.plans.Fire.{Fire}
use Rattle.scj_model.specs.declared.plans.FireFrom.{FireFrom}
use Rattle.scj_model.specs.declared.plans.FireFrom.TheVariants.{Start, Mission}
use Rattle.scj_model.specs.Arrivals.{comes_at, comes_in}
use Rattle.run_plan.specs.Index.{AreByUnit, coming, count_before, fires_before, from_mission, from_start, is_from_start}
use Rattle.run_plan.proofs.ByKey.{next_count, none_below, same_counts, same_of_number, together}

abbrev pub unit_of : Fire → ℕ
unit_of fire = fire.at

abbrev pub of_unit : ℕ → List Fire → List Fire
of_unit unit fires = filter (λ (fire : Fire). fire.at == unit) fires

same_of_unit : (fires sorted : List Fire) → AreByUnit fires sorted → (unit : ℕ) → of_unit unit sorted ≡ of_unit unit fires
same_of_unit fires sorted by_unit unit = same_of_number unit_of fires sorted by_unit.stable (record { at = unit; handler = []; from = Start })

-- sorted fires have as many before a unit as the plan's
pub same_before : (fires sorted : List Fire) → AreByUnit fires sorted → (unit : ℕ) → count_before sorted unit ≡ count_before fires unit
same_before fires sorted by_unit = same_counts unit_of fires sorted (same_of_unit fires sorted by_unit)

pub before_fits : (fires : List Fire) (unit : ℕ) → count_before fires unit ≤ length fires
before_fits fires unit = omega (arith, length-filter_both (λ (fire : Fire). nat_lt fire.at unit) (λ (fire : Fire). not (nat_lt fire.at unit)) (λ _. refl) fires)

pub start_fits : (fires : List Fire) → length (from_start fires) ≤ length fires
start_fits fires = omega (arith, length-filter_both (λ (fire : Fire). is_from_start fire.from) (λ (fire : Fire). not (is_from_start fire.from)) (λ _. refl) fires)

-- behind those of the units before stand those of the unit
pub due_stand : (fires sorted : List Fire) → AreByUnit fires sorted → (unit : ℕ) → take_while (λ (fire : Fire). fire.at == unit) (drop (count_before fires unit) sorted) ≡ of_unit unit fires
due_stand fires sorted by_unit unit =
    rw (← same_before fires sorted by_unit unit)
    (together unit_of unit sorted (IsNonDecreasingBy-from_sort unit_of sorted by_unit.ordered) ∙ same_of_unit fires sorted by_unit unit)

pub due_count : (fires : List Fire) (unit : ℕ) → count_before fires unit + length (of_unit unit fires) ≡ count_before fires (unit + 1)
due_count fires unit = rw add-one (sym (next_count unit_of unit fires))

-- no fire is past when a run begins
pub none_before_the_first_unit : (plan : Plan) → fires_before plan 0 ≡ 0
none_before_the_first_unit plan = ap length (none_below unit_of 0 (from_start plan.fires) (λ i d l. omega arith))

-- ---- the fires that are counted from a mission's origin

-- of ascending fires those before a unit stand up to the point
point_count : (at : ℕ) (xs : List Fire) (i : ℕ) → i ≤ length xs → IsPartitionPoint (λ (f : Fire). nat_lt f.at at ≡ true) (λ (f : Fire). nat_lt f.at at ≡ false) xs i → count_before xs at ≡ i
point_count at [] i fits point = omega arith
point_count at (x ∷ xs) zero fits point =
    let out : nat_lt x.at at ≡ false = point.1 0 x (omega arith) (omega arith) in
    rw out (point_count at xs 0 (omega arith) (λ k d l h. absurd (omega (arith, l, h)), λ k d l h. point.1 (suc k) d (omega arith) (omega arith)))
point_count at (x ∷ xs) (suc i) fits point =
    let here : nat_lt x.at at ≡ true = point.0 0 x (omega arith) (omega arith) in
    rw here (ap suc (point_count at xs i (omega arith) (λ k d l h. point.0 (suc k) d (omega arith) (omega arith), λ k d l h. point.1 (suc k) d (omega arith) (omega arith))))

earlier : (a b at : ℕ) → a ≤ b → nat_lt b at ≡ true → nat_lt a at ≡ true
earlier a b at le before = grind (arith, nat_tests)

-- the fires before a unit stand first
pub parted : (at : ℕ) (xs : List Fire) → IsNonDecreasingBy unit_of xs → IsPartitionedBy (λ (f : Fire). nat_lt f.at at) xs
parted at xs up i j d le fits before =
    earlier (get_or xs i d).at (get_or xs j d).at at (up i j d le fits) before

pub at_point : (at : ℕ) (xs : List Fire) (i : ℕ) → IsNonDecreasingBy unit_of xs → i ≤ length xs → IsPartitionPoint (λ (f : Fire). nat_lt f.at at ≡ true) (λ (f : Fire). nat_lt f.at at ≡ false) xs i → take_while (λ (f : Fire). f.at == at) (drop i xs) ≡ of_unit at xs
at_point at xs i up fits point = rw (← point_count at xs i fits point) (together unit_of at xs up)

none_of_all : (test : Fire → Bool) (fires : List Fire) → ((f : Fire) → test f ≡ false) → filter test fires ≡ []
none_of_all test [] h = refl
none_of_all test (x ∷ xs) h = rw (h x) (none_of_all test xs h)

pub none_of_no_mission : (unit : ℕ) (fires : List Fire) → [] ≡ filter (λ (f : Fire). comes_at Mission None unit f.at) fires
unfolding comes_at
none_of_no_mission unit fires = sym (none_of_all _ fires (λ f. refl))

pub none_before_the_origin : (origin unit : ℕ) (fires : List Fire) → unit < origin → [] ≡ filter (λ (f : Fire). comes_at Mission (Some origin) unit f.at) fires
unfolding comes_at
none_before_the_origin origin unit fires before = sym (none_of_all _ fires (λ f. ne_eqb (origin + f.at) unit (λ e. omega arith)))

same_unit : (origin unit at : ℕ) → origin ≤ unit → (at == unit - origin) ≡ (origin + at == unit)
same_unit origin unit at behind = grind (arith, nat_tests)

pub since_origin : (origin unit : ℕ) (fires : List Fire) → origin ≤ unit → of_unit (unit - origin) fires ≡ filter (λ (f : Fire). comes_at Mission (Some origin) unit f.at) fires
unfolding comes_at
since_origin origin unit fires behind = filter_agree _ _ (λ f. same_unit origin unit f.at behind) fires

-- sorted fires have the same ones of a unit since the origin as the plan's
same_since : (fires sorted : List Fire) → AreByUnit fires sorted → (origin : Option ℕ) (unit : ℕ) → filter (λ (f : Fire). comes_at Mission origin unit f.at) sorted ≡ filter (λ (f : Fire). comes_at Mission origin unit f.at) fires
same_since fires sorted by_unit None unit = sym (none_of_no_mission unit sorted) ∙ none_of_no_mission unit fires
same_since fires sorted by_unit (Some origin) unit = elim (cases_lt unit origin) [
  | inl before ↦ sym (none_before_the_origin origin unit sorted before) ∙ none_before_the_origin origin unit fires before
  | inr behind ↦
      sym (since_origin origin unit sorted behind)
      ∙ same_of_unit fires sorted by_unit (unit - origin)
      ∙ since_origin origin unit fires behind
]

-- ---- the fires of a unit, of both kinds

coming_of : (origin : Option ℕ) (unit : ℕ) (x : Fire) → comes_in origin unit x ≡ (if is_from_start x.from then x.at == unit else comes_at Mission origin unit x.at)
unfolding comes_at comes_in
coming_of origin unit x = by_kind x.from
  where
    by_kind : (from : FireFrom) → comes_at from origin unit x.at ≡ (if is_from_start from then x.at == unit else comes_at Mission origin unit x.at)
    by_kind Start = refl
    by_kind Mission = refl

-- among the fires of one kind those of a unit are the ones that come in it, if none of the other kind does
module _ (origin : Option ℕ) (unit : ℕ) where
  abbrev pub starts : Fire → Bool
  starts x = x.at == unit

  abbrev pub since : Fire → Bool
  since x = comes_at Mission origin unit x.at

  starts_here : (x : Fire) → is_from_start x.from ≡ true → comes_in origin unit x ≡ (x.at == unit)
  starts_here x e = coming_of origin unit x ∙ ap (λ (b : Bool). if b then x.at == unit else since x) e

  comes_since : (x : Fire) → is_from_start x.from ≡ false → comes_in origin unit x ≡ since x
  comes_since x e = coming_of origin unit x ∙ ap (λ (b : Bool). if b then x.at == unit else since x) e

  pub only_starting : (fires : List Fire) → filter since (from_mission fires) ≡ [] → coming origin unit (filter starts (from_start fires)) ≡ coming origin unit fires
  only_starting [] none = refl
  only_starting (x ∷ xs) none = elim (cases_Bool (is_from_start x.from)) [
    | inl e ↦
        let rest : coming origin unit (filter starts (from_start xs)) ≡ coming origin unit xs = only_starting xs (rw e at none) in
        elim (cases_Bool (x.at == unit)) [
          | inl here ↦ let c : comes_in origin unit x ≡ true = starts_here x e ∙ here in rw (e, here, c) (ap (λ (ys : List Fire). x ∷ ys) rest)
          | inr other ↦ let c : comes_in origin unit x ≡ false = starts_here x e ∙ other in rw (e, other, c) rest
        ]
    | inr e ↦ elim (cases_Bool (since x)) [
      | inl here ↦ absurd (cc (rw (e, here) at none))
      | inr other ↦
          let c : comes_in origin unit x ≡ false = comes_since x e ∙ other in
          rw (e, c) (only_starting xs (rw (e, other) at none))
    ]
  ]

  pub only_since : (fires : List Fire) → filter starts (from_start fires) ≡ [] → coming origin unit (filter since (from_mission fires)) ≡ coming origin unit fires
  only_since [] none = refl
  only_since (x ∷ xs) none = elim (cases_Bool (is_from_start x.from)) [
    | inl e ↦ elim (cases_Bool (x.at == unit)) [
      | inl here ↦ absurd (cc (rw (e, here) at none))
      | inr other ↦
          let c : comes_in origin unit x ≡ false = starts_here x e ∙ other in
          rw (e, c) (only_since xs (rw (e, other) at none))
    ]
    | inr e ↦
        let rest : coming origin unit (filter since (from_mission xs)) ≡ coming origin unit xs = only_since xs (rw e at none) in
        elim (cases_Bool (since x)) [
          | inl here ↦ let c : comes_in origin unit x ≡ true = comes_since x e ∙ here in rw (e, here, c) (ap (λ (ys : List Fire). x ∷ ys) rest)
          | inr other ↦ let c : comes_in origin unit x ≡ false = comes_since x e ∙ other in rw (e, other, c) rest
        ]
  ]

  -- the same of sorted fires
  pub sorted_starting : (fires by_unit by_mission : List Fire) → AreByUnit (from_start fires) by_unit → AreByUnit (from_mission fires) by_mission → filter since by_mission ≡ [] → coming origin unit (take_while starts (drop (count_before (from_start fires) unit) by_unit)) ≡ coming origin unit fires
  sorted_starting fires by_unit by_mission start mission none =
      ap (coming origin unit) (due_stand (from_start fires) by_unit start unit)
      ∙ only_starting fires (sym (same_since (from_mission fires) by_mission mission origin unit) ∙ none)

  pub sorted_since : (fires by_unit by_mission : List Fire) → AreByUnit (from_start fires) by_unit → AreByUnit (from_mission fires) by_mission → take_while starts (drop (count_before (from_start fires) unit) by_unit) ≡ [] → coming origin unit (filter since by_mission) ≡ coming origin unit fires
  sorted_since fires by_unit by_mission start mission none =
      ap (coming origin unit) (same_since (from_mission fires) by_mission mission origin unit)
      ∙ only_since fires (sym (due_stand (from_start fires) by_unit start unit) ∙ none)
