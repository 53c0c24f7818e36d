-- A mission with one handler, whose method is empty: a fire releases it in the first unit of execution.
use Rattle.std.proofs.Common.{◌≡◌, ◌≤◌, ◌<◌, ◌+◌, ◌-◌, ◌==◌, ℕ, zero, suc, Bool, true, false, not, ◌&&◌, List, [], ◌∷◌, length, map, ◌⊎◌, inl, inr, Option, Some, refl, sym, ap, ◌∙◌, subst, arith, codes}
use Rattle.std.specs.Prelude.{nat_le, slice_get, unwrap_or}
use Rattle.std.proofs.lemmas.Bool.{cases_eq, and_parts}
use Rattle.std.proofs.lemmas.Bool.Decides.{nat_tests}
use Rattle.std.proofs.lemmas.Option.{slice_get_within}
use Rattle.scj_model.specs.declared.handlers.HandlerRow.{HandlerRow}
use Rattle.scj_model.specs.Code.{Code, code_of}
use Rattle.scj_model.specs.Plan.{Plan}
use Rattle.scj_model.specs.State.{State, Waits, is_exec}
use Rattle.scj_model.specs.Choice.{may_act}
use Rattle.scj_model.specs.declared.plans.Fire.{Fire}
use Rattle.scj_model.specs.declared.plans.FireFrom.TheVariants.{Start}
use Rattle.scj_model.proofs.AcceptedPrograms.{empty_handler_accepted}
use Rattle.scj_model.proofs.Computing.{computing_machine}
use Rattle.scj_model.proofs.ProgramEmptyHandler.{empty_handler}
use Rattle.scj_model.proofs.Printed.{with_fires}
use Rattle.release_turns.specs.Choices.{at_choice, acting}
use Rattle.response_bounds.specs.declared.rows.Declared.{Declared}
use Rattle.response_bounds.specs.Responses.{IsBound}
use Rattle.response_bounds.specs.Rows.{AreDeclared, IsDeclared, row_at, section_over, blocking, work_over, other_work, demand}
use Rattle.response_bounds.specs.Schedule.{KeepsRows, Schedule, acts, operations}
use Rattle.response_bounds.specs.Sums.{sum_below, max_below, one_if}
use Rattle.response_times.specs.Runs.{HasRows, IsReadyIn, Within, active_priority, mission_schedule, row_of_release}
use Rattle.response_times.proofs.Missions.{IsLeft, is_left}
use Rattle.bounded_runs.specs.MetBounds.{MeetsItsBound}
use Rattle.bounded_runs.proofs.OneRelease.{IsSmall, keeps_row, one_row, row, sum_upto}

unfoldable one_handler : Code
one_handler = code_of empty_handler

abbrev fire : Fire
fire = record { at = 44; handler = codes "H"; from = Start }

unfoldable one_fire : Plan
one_fire = with_fires 100 600 (fire ∷ [])

-- whether all numbers below n pass
all_below : (ℕ → Bool) → ℕ → Bool
all_below test zero = true
all_below test (suc n) = all_below test n && test n

passes : (test : ℕ → Bool) (n k : ℕ) → all_below test n ≡ true → k < n → test k ≡ true
unfolding all_below
passes test zero k h l = absurd (omega (arith, l))
passes test (suc n) k h l = go (λ m. passes test n k (and_parts _ _ h).0 m) (cases_eq k n)
  where
    go : (k < n → test k ≡ true) → (k ≡ n) ⊎ (k ≡ n → ⊥) → test k ≡ true
    go more (inl e) = ap test e ∙ (and_parts _ _ h).1
    go more (inr e) = more (omega (arith, e, l))

abbrev at : ℕ → State
at t = at_choice one_handler one_fire t

abbrev mission_at : ℕ → Schedule
mission_at u = mission_schedule one_handler one_fire u

-- ---- what is computed

-- execution begins with unit 44
quiet : all_below (λ t. not (is_exec (at t).phase)) 44 ≡ true
unfolding computing_machine one_handler one_fire all_below
quiet = refl

-- there is one release at most, and its active priority is at most 7
few : all_below (λ t. nat_le (length (at t).releases) 1) 47 ≡ true
unfolding computing_machine one_handler one_fire all_below
few = refl

low : all_below (λ t. nat_le (active_priority (at t) 0) 7) 46 ≡ true
unfolding computing_machine one_handler one_fire all_below active_priority
low = refl

-- the handler's priority, and the mission's first release, in each unit of execution
priorities : State → List ℕ
priorities s = map (λ (h : HandlerRow). h.priority) s.registry

is_mission : State → Bool
is_mission s = (s.earlier_releases == 0) && (row_of_release s 0 == 0)

registered : (priorities (at 44) ≡ 7 ∷ []) × ((priorities (at 45) ≡ 7 ∷ []) × (priorities (at 46) ≡ 7 ∷ []))
unfolding computing_machine one_handler one_fire priorities
registered = (refl, (refl, refl))

missions : (is_mission (at 44) ≡ true) × ((is_mission (at 45) ≡ true) × (is_mission (at 46) ≡ true))
unfolding computing_machine one_handler one_fire is_mission row_of_release
missions = (refl, (refl, refl))

-- its operations are those of the units 44 and 45
count_44 : operations (mission_at 44) 0 0 44 ≡ 0
unfolding computing_machine one_handler one_fire mission_schedule acting sum_below
count_44 = refl

count_45 : operations (mission_at 45) 0 0 45 ≡ 1
unfolding computing_machine one_handler one_fire mission_schedule acting sum_below
count_45 = refl

counts_46 : (operations (mission_at 46) 0 0 45 ≡ 1) × (operations (mission_at 46) 0 0 46 ≡ 2)
unfolding computing_machine one_handler one_fire mission_schedule acting sum_below
counts_46 = (refl, refl)

left_45 : may_act (at 45) 0 ≡ true
unfolding computing_machine one_handler one_fire
left_45 = refl

ended_46 : may_act (at 46) 0 ≡ false
unfolding computing_machine one_handler one_fire
ended_46 = refl

none_before : all_below (λ t. length (at t).releases == 0) 44 ≡ true
unfolding computing_machine one_handler one_fire all_below
none_before = refl

the_release : slice_get (at 44).releases 0 ≡ Some (record { handler = 1; number = 1; status = Waits })
unfolding computing_machine one_handler one_fire
the_release = refl

-- ---- what follows

same : (a b : ℕ) → (a == b) ≡ true → a ≡ b
same a b e = grind (arith, nat_tests)

upto : (a b : ℕ) → nat_le a b ≡ true → a ≤ b
upto a b e = grind (arith, nat_tests)

small : (u : ℕ) → u ≤ 46 → is_mission (at u) ≡ true → operations (mission_at u) 0 0 u ≤ 2 →
    ((s : ℕ) → s ≤ u → may_act (at s) 0 ≡ true → operations (mission_at u) 0 0 s < 2) → IsSmall u (mission_at u)
unfolding mission_schedule is_mission
small u l mission all before =
    record {
      places = few_places;
      row_of = ap (row_of_release (at u)) (here 0) ∙ same (row_of_release (at u) 0) 0 (and_parts _ _ mission).1;
      active = λ s k.
          subst (λ f. active_priority (at s) f ≤ 7) (sym (here 0))
          (upto _ _ (passes (λ t. nat_le (active_priority (at t) 0) 7) 46 s low (omega (arith, k, l))));
      all = all;
      left = λ s p k e. left s p k (subst (λ f. may_act (at s) f ≡ true) (here p) e);
    }
  where
    first : (at u).earlier_releases ≡ 0
    first = same (at u).earlier_releases 0 (and_parts _ _ mission).0

    here : (p : ℕ) → (at u).earlier_releases + p ≡ p
    here p = omega (arith, first)

    few_at : (s : ℕ) → s ≤ 46 → length (at s).releases ≤ 1
    few_at s k = upto _ _ (passes (λ t. nat_le (length (at t).releases) 1) 47 s few (omega (arith, k)))

    few_places : length (at u).releases - (at u).earlier_releases ≤ 1
    few_places = let a : length (at u).releases ≤ 1 = few_at u l in omega (arith, a)

    left : (s p : ℕ) → s ≤ u → may_act (at s) p ≡ true → (p ≡ 0) × (operations (mission_at u) 0 0 s < 2)
    left s p k e = (none, before s k (subst (λ q. may_act (at s) q ≡ true) none e))
      where
        none : p ≡ 0
        none =
            let y : IsLeft (at s) p = is_left (at s) p e in
            let a : p < length (at s).releases = slice_get_within (at s).releases p y.release y.is_there in
            let b : length (at s).releases ≤ 1 = few_at s (omega (arith, k, l)) in
            omega (arith, a, b)

fewer : (u s m : ℕ) → s ≤ m → operations (mission_at u) 0 0 s ≤ operations (mission_at u) 0 0 m
fewer u s m l = sum_upto (λ k. one_if (acts (mission_at u) (0 + k) 0)) s m l

keeps_44 : KeepsRows one_row 44 (mission_at 44)
keeps_44 =
    keeps_row 44 (mission_at 44)
    (small 44 (omega arith) missions.0 (omega (arith, count_44))
    (λ s l e. (let a : operations (mission_at 44) 0 0 s ≤ operations (mission_at 44) 0 0 44 = fewer 44 s 44 l in
    omega (arith, a, count_44))))

keeps_45 : KeepsRows one_row 45 (mission_at 45)
keeps_45 =
    keeps_row 45 (mission_at 45)
    (small 45 (omega arith) missions.1.0 (omega (arith, count_45))
    (λ s l e. (let a : operations (mission_at 45) 0 0 s ≤ operations (mission_at 45) 0 0 45 = fewer 45 s 45 l in
    omega (arith, a, count_45))))

keeps_46 : KeepsRows one_row 46 (mission_at 46)
keeps_46 =
    keeps_row 46 (mission_at 46)
    (small 46 (omega arith) missions.1.1 (omega (arith, counts_46.1)) (λ s l e. before s l e (cases_eq s 46)))
  where
    before : (s : ℕ) → s ≤ 46 → may_act (at s) 0 ≡ true → (s ≡ 46) ⊎ (s ≡ 46 → ⊥) →
        operations (mission_at 46) 0 0 s < 2
    before s l e (inl k) = absurd (cc (subst (λ t. may_act (at t) 0 ≡ true) k e, ended_46))
    before s l e (inr k) =
        let a : operations (mission_at 46) 0 0 s ≤ operations (mission_at 46) 0 0 45 = fewer 46 s 45 (omega (arith, l, k)) in
        omega (arith, a, counts_46.0)

one : length one_row ≡ 1
one = refl

has_rows : (registry : List HandlerRow) → map (λ (h : HandlerRow). h.priority) registry ≡ 7 ∷ [] → HasRows one_row registry
unfolding row_at
has_rows [] e = absurd (cc (e))
has_rows (h ∷ []) e =
    record {
      are_enough = omega (arith, one);
      priorities = priority;
    }
  where
    priority : (k : ℕ) (handler : HandlerRow) → slice_get (h ∷ []) k ≡ Some handler →
        handler.priority ≡ (row_at one_row k).priority
    priority zero handler f =
        ap (λ (o : Option HandlerRow). (unwrap_or o h).priority) (sym f) ∙ ap (λ (xs : List ℕ). head xs) e
      where
        head : List ℕ → ℕ
        head [] = 0
        head (x ∷ xs) = x
    priority (suc k) handler f = absurd (cc (f))
has_rows (h ∷ (i ∷ rest)) e = absurd (cc (e))

-- a unit of execution is one of three
cases : (t : ℕ) → t ≤ 46 → is_exec (at t).phase ≡ true → (t ≡ 44) ⊎ ((t ≡ 45) ⊎ (t ≡ 46))
cases t l e = go (cases_eq t 44) (cases_eq t 45) (cases_eq t 46)
  where
    early : t < 44 → ⊥
    early k = cc (e, passes (λ t. not (is_exec (at t).phase)) 44 t quiet k)

    go : (t ≡ 44) ⊎ (t ≡ 44 → ⊥) → (t ≡ 45) ⊎ (t ≡ 45 → ⊥) → (t ≡ 46) ⊎ (t ≡ 46 → ⊥) →
        (t ≡ 44) ⊎ ((t ≡ 45) ⊎ (t ≡ 46))
    go (inl a) b d = inl a
    go (inr a) (inl b) d = inr (inl b)
    go (inr a) (inr b) (inl d) = inr (inr d)
    go (inr a) (inr b) (inr d) = absurd (early (omega (arith, l, a, b, d)))

within : Within one_row one_handler one_fire 46
unfolding priorities
within = record { handlers = λ t l e. handlers t (cases t l e); keeps = λ t l e. keeps t (cases t l e) }
  where
    handlers : (t : ℕ) → (t ≡ 44) ⊎ ((t ≡ 45) ⊎ (t ≡ 46)) → HasRows one_row (at t).registry
    handlers t (inl a) = subst (λ t. HasRows one_row (at t).registry) (sym a) (has_rows (at 44).registry registered.0)
    handlers t (inr (inl a)) =
        subst (λ t. HasRows one_row (at t).registry) (sym a) (has_rows (at 45).registry registered.1.0)
    handlers t (inr (inr a)) =
        subst (λ t. HasRows one_row (at t).registry) (sym a) (has_rows (at 46).registry registered.1.1)

    keeps : (t : ℕ) → (t ≡ 44) ⊎ ((t ≡ 45) ⊎ (t ≡ 46)) → KeepsRows one_row t (mission_at t)
    keeps t (inl a) = subst (λ t. KeepsRows one_row t (mission_at t)) (sym a) keeps_44
    keeps t (inr (inl a)) = subst (λ t. KeepsRows one_row t (mission_at t)) (sym a) keeps_45
    keeps t (inr (inr a)) = subst (λ t. KeepsRows one_row t (mission_at t)) (sym a) keeps_46

declared : AreDeclared one_row
declared = record { some = omega (arith, one); few = omega (arith, one); each = each }
  where
    is_declared : IsDeclared row
    is_declared =
        record {
          priority_from = omega arith;
          cost_from = omega arith;
          cost_upto = omega arith;
          gap_from = omega arith;
          gap_upto = omega arith;
          section_upto = omega arith;
          ceiling_from = omega arith;
          ceiling_upto = omega arith;
        }

    each : (k : ℕ) (r : Declared) → slice_get one_row k ≡ Some r → IsDeclared r
    each zero r e = subst IsDeclared (ap (λ (o : Option Declared). unwrap_or o row) e) is_declared
    each (suc k) r e = absurd (cc (e))

asked : demand one_row 0 2 ≡ 2
unfolding demand blocking other_work work_over section_over row_at sum_below max_below
asked = refl

gap : (row_at one_row 0).gap ≡ 1000
unfolding row_at
gap = refl

bound : IsBound one_row 0 2
bound = record { is_row = omega (arith, one); from = omega arith; upto = omega (arith, gap); serves = omega (arith, asked) }

ready : IsReadyIn one_handler one_fire 44 0
ready =
    record {
      is_there = slice_get_within (at 44).releases 0 _ the_release;
      is_new = λ s l.
          (let a : length (at s).releases ≡ 0 =
          same _ _ (passes (λ t. length (at t).releases == 0) 44 s none_before l) in
          omega (arith, a));
    }

pub one_release_meets_its_bound : MeetsItsBound
unfolding one_handler
one_release_meets_its_bound =
    record {
      program = empty_handler;
      plan = one_fire;
      rows = one_row;
      n = 46;
      keeps_rules = empty_handler_accepted;
      declared = declared;
      within = within;
      i = 0;
      x = 1;
      t = 44;
      index = 0;
      release = record { handler = 1; number = 1; status = Waits };
      bound = bound;
      ready = ready;
      is_there = the_release;
      handler = refl;
      in_time = omega arith;
      left_before = left_45;
      ended = ended_46;
    }
