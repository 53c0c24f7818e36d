-- The controller stays within its rows.
use Rattle.std.proofs.Common.{◌≡◌, ◌≤◌, ◌<◌, ◌+◌, ◌-◌, ◌==◌, ℕ, Bool, true, false, ◌&&◌, length, ◌⊎◌, inl, inr, Option, Some, None, refl, sym, ap, ◌∙◌, subst, arith}
use Rattle.std.specs.Prelude.{nat_lt}
use Rattle.std.proofs.lemmas.Bool.{cases_eq}
use Rattle.std.proofs.lemmas.Option.{slice_get_within}
use Rattle.scj_rules.specs.Phases.{IsAccepted}
use Rattle.scj_rules.specs.Words.{◌>>=◌}
use Rattle.scj_rules.proofs.AcceptedLemmas.{accepted}
use Rattle.scj_rules.proofs.Computing.{computing}
use Rattle.scj_model.specs.State.{is_exec}
use Rattle.scj_model.specs.Choice.{by_priority}
use Rattle.scj_model.specs.Run.{run}
use Rattle.scj_model.proofs.Computing.{computing_machine}
use Rattle.scj_model.proofs.ProgramOrdinaryUse.{ordinary_use}
use Rattle.release_turns.specs.Choices.{acting}
use Rattle.response_bounds.specs.declared.rows.Declared.{Declared}
use Rattle.response_bounds.specs.Rows.{row_at}
use Rattle.response_bounds.specs.Schedule.{KeepsRows, acts, own}
use Rattle.response_bounds.specs.Sums.{one_if, sum_below}
use Rattle.response_times.specs.Runs.{Within, active_priority, mission_schedule, row_of_release, shifted}
use Rattle.response_times.proofs.Missions.{IsLeft, is_left, shifted_at}
use Rattle.bounded_runs.specs.KeptRows.{StaysWithinItsRows}
use Rattle.bounded_runs.proofs.KeptSchedules.{HasFacts, is_raised, keeps_rows, sum_same}
use Rattle.bounded_runs.proofs.OneRelease.{sum_upto}
use Rattle.bounded_runs.proofs.UnitTests.{count_units, units_counted}
use Rattle.bounded_runs.proofs.Controller.{has_rows, declared, controller, rising_level, sensor, pump, rows, at, mission_at, releases_by, is_turn, has_turn, has_high_turn, turns, high_turns, count_at, first_at, low_at, priorities_at, row_0, row_1, more_releases, two_at_most, two_since_96}

pub ordinary_use_accepted : IsAccepted ordinary_use
unfolding computing
ordinary_use_accepted = accepted ordinary_use refl refl refl refl

-- ---- the schedule of the mission

-- with the first place 0 a release has its own place
turn_is : (first p : ℕ) (o : Option ℕ) → first ≡ 0 →
    (elim (o >>= shifted first) as (λ x. Bool) [ None ↦ false | Some q ↦ q == p ]) ≡ is_turn p o
turn_is first p None e = refl
turn_is first p (Some q) e =
    ap (λ (o : Option ℕ). elim o as (λ x. Bool) [ None ↦ false | Some k ↦ k == p ])
    (shifted_at first q (omega (arith, e)))
    ∙ ap (λ (k : ℕ). k == p) (let d : q - first ≡ q = omega (arith, e) in d)

module _ (u : ℕ) (l : u ≤ 124) (e : is_exec (at u).phase ≡ true) where
  abbrev first : ℕ
  first = (at u).earlier_releases

  none_before : first ≡ 0
  none_before = first_at u l

  here : (p : ℕ) → first + p ≡ p
  here p = omega (arith, none_before)

  places : (mission_at u).places ≡ releases_by u
  unfolding mission_schedule
  places = (let a = count_at u l in let b = none_before in omega (arith, a, b))

  acts_are : (k p : ℕ) → acts (mission_at u) k p ≡ has_turn p (at k)
  unfolding mission_schedule
  acts_are k p = turn_is first p (acting (at k)) none_before

  active_is : (k p : ℕ) → (mission_at u).active k p ≡ active_priority (at k) p
  unfolding mission_schedule
  active_is k p = ap (active_priority (at k)) (here p)

  rows_are : (p : ℕ) → (mission_at u).row_of p ≡ row_of_release (at u) p
  unfolding mission_schedule
  rows_are p = ap (row_of_release (at u)) (here p)

  first_row : row_at rows ((mission_at u).row_of 0) ≡ sensor
  unfolding row_at
  first_row = ap (row_at rows) (rows_are 0 ∙ row_0 u l e)

  second_row : 1 < (mission_at u).places → row_at rows ((mission_at u).row_of 1) ≡ pump
  unfolding row_at
  second_row m =
      ap (row_at rows) (rows_are 1 ∙ row_1 u l e (two_since_96 u (let a = places in omega (arith, a, m))))

  which : (p : ℕ) → p < (mission_at u).places → (p ≡ 0) ⊎ ((p ≡ 1) × (1 < (mission_at u).places))
  which p m = go (cases_eq p 0)
    where
      go : (p ≡ 0) ⊎ (p ≡ 0 → ⊥) → (p ≡ 0) ⊎ ((p ≡ 1) × (1 < (mission_at u).places))
      go (inl z) = inl z
      go (inr z) =
          let a = places in
          let b = two_at_most u in
          inr (let k : p ≡ 1 = omega (arith, a, b, m, z) in k, omega (arith, m, z))

  there : (t p : ℕ) → t ≤ u → (mission_at u).is_left t p ≡ true → p < (mission_at u).places
  unfolding mission_schedule
  there t p k h =
      let y : IsLeft (at t) (first + p) = is_left (at t) (first + p) h in
      let a : first + p < length (at t).releases = slice_get_within (at t).releases (first + p) y.release y.is_there in
      let b = count_at t (omega (arith, k, l)) in
      let c = count_at u l in
      let d = more_releases t u k in
      let f = none_before in
      omega (arith, a, b, c, d, f)

  apart : (p q : ℕ) → p < q → q < (mission_at u).places → (mission_at u).row_of p ≡ (mission_at u).row_of q → ⊥
  apart p q m k r = go (which q k)
    where
      go : (q ≡ 0) ⊎ ((q ≡ 1) × (1 < (mission_at u).places)) → ⊥
      go (inl z) = omega (arith, m, z)
      go (inr z) =
          let p_is : p ≡ 0 = (let i = z.0 in omega (arith, m, i)) in
          let a : row_of_release (at u) 0 ≡ 1 = row_0 u l e in
          let b : row_of_release (at u) 1 ≡ 2 = row_1 u l e (two_since_96 u (let a = places in let i = z.1 in omega (arith, a, i))) in
          let c : (mission_at u).row_of 0 ≡ (mission_at u).row_of 1 =
          sym (ap (mission_at u).row_of p_is) ∙ (r ∙ ap (mission_at u).row_of z.0) in
          let f = rows_are 0 in
          let g = rows_are 1 in
          omega (arith, a, b, c, f, g)

  -- operations up to unit u, and those above a priority
  operations_upto : (p : ℕ) → sum_below (λ k. one_if (acts (mission_at u) k p)) u
      ≤ count_units controller rising_level (has_turn p) 124 (run controller rising_level by_priority 0)
  operations_upto p =
      let a = sum_same (λ k. one_if (acts (mission_at u) k p)) (λ k. one_if (has_turn p (at k))) u (λ k. ap one_if (acts_are k p)) in
      let b = sum_upto (λ k. one_if (has_turn p (at k))) u 124 l in
      let c = units_counted controller rising_level (has_turn p) 124 in
      omega (arith, a, b, c)

  raised_upto : (p priority : ℕ) → own rows (mission_at u) p ≡ priority →
      sum_below (λ k. one_if (is_raised rows (mission_at u) p k)) u
      ≤ count_units controller rising_level (has_high_turn p priority) 124 (run controller rising_level by_priority 0)
  raised_upto p priority o =
      let a = sum_same (λ k. one_if (is_raised rows (mission_at u) p k)) (λ k. one_if (has_high_turn p priority (at k))) u each in
      let b = sum_upto (λ k. one_if (has_high_turn p priority (at k))) u 124 l in
      let c = units_counted controller rising_level (has_high_turn p priority) 124 in
      omega (arith, a, b, c)
    where
      each : (k : ℕ) → one_if (is_raised rows (mission_at u) p k) ≡ one_if (has_high_turn p priority (at k))
      each k =
          ap (λ (b : Bool). one_if (b && nat_lt (own rows (mission_at u) p) ((mission_at u).active k p))) (acts_are k p)
          ∙ (ap (λ (n : ℕ). one_if (has_turn p (at k) && nat_lt n ((mission_at u).active k p))) o
          ∙ ap (λ (n : ℕ). one_if (has_turn p (at k) && nat_lt priority n)) (active_is k p))

  facts : HasFacts rows u (mission_at u)
  facts =
      record {
        there = there;
        apart = apart;
        all = λ p m. all p (which p m);
        ceiling = λ t p k m. ceiling t p k (which p m);
        raised = λ p m. raised p (which p m);
      }
    where
      all : (p : ℕ) → (p ≡ 0) ⊎ ((p ≡ 1) × (1 < (mission_at u).places)) →
          sum_below (λ k. one_if (acts (mission_at u) k p)) u < (row_at rows ((mission_at u).row_of p)).cost
      all p (inl z) =
          subst (λ p. sum_below (λ k. one_if (acts (mission_at u) k p)) u < (row_at rows ((mission_at u).row_of p)).cost) (sym z)
          (let a = operations_upto 0 in
          let b = turns.0 in
          let c : (row_at rows ((mission_at u).row_of 0)).cost ≡ 28 = ap (λ (r : Declared). r.cost) first_row in
          omega (arith, a, b, c))
      all p (inr z) =
          subst (λ p. sum_below (λ k. one_if (acts (mission_at u) k p)) u < (row_at rows ((mission_at u).row_of p)).cost) (sym z.0)
          (let a = operations_upto 1 in
          let b = turns.1 in
          let c : (row_at rows ((mission_at u).row_of 1)).cost ≡ 9 = ap (λ (r : Declared). r.cost) (second_row z.1) in
          omega (arith, a, b, c))

      ceiling : (t p : ℕ) → t < u → (p ≡ 0) ⊎ ((p ≡ 1) × (1 < (mission_at u).places)) →
          (mission_at u).active t p ≤ (row_at rows ((mission_at u).row_of p)).ceiling
      ceiling t p k (inl z) =
          subst (λ p. (mission_at u).active t p ≤ (row_at rows ((mission_at u).row_of p)).ceiling) (sym z)
          (let a = active_is t 0 in
          let b = (low_at t (omega (arith, k, l))).0 in
          let c : (row_at rows ((mission_at u).row_of 0)).ceiling ≡ 20 = ap (λ (r : Declared). r.ceiling) first_row in
          omega (arith, a, b, c))
      ceiling t p k (inr z) =
          subst (λ p. (mission_at u).active t p ≤ (row_at rows ((mission_at u).row_of p)).ceiling) (sym z.0)
          (let a = active_is t 1 in
          let b = (low_at t (omega (arith, k, l))).1 in
          let c : (row_at rows ((mission_at u).row_of 1)).ceiling ≡ 20 = ap (λ (r : Declared). r.ceiling) (second_row z.1) in
          omega (arith, a, b, c))

      raised : (p : ℕ) → (p ≡ 0) ⊎ ((p ≡ 1) × (1 < (mission_at u).places)) →
          sum_below (λ k. one_if (is_raised rows (mission_at u) p k)) u ≤ (row_at rows ((mission_at u).row_of p)).section
      raised p (inl z) =
          subst (λ p. sum_below (λ k. one_if (is_raised rows (mission_at u) p k)) u ≤ (row_at rows ((mission_at u).row_of p)).section) (sym z)
          (let a = raised_upto 0 12 (ap (λ (r : Declared). r.priority) first_row) in
          let b = high_turns.0 in
          let c : (row_at rows ((mission_at u).row_of 0)).section ≡ 4 = ap (λ (r : Declared). r.section) first_row in
          omega (arith, a, b, c))
      raised p (inr z) =
          subst (λ p. sum_below (λ k. one_if (is_raised rows (mission_at u) p k)) u ≤ (row_at rows ((mission_at u).row_of p)).section) (sym z.0)
          (let a = raised_upto 1 10 (ap (λ (r : Declared). r.priority) (second_row z.1)) in
          let b = high_turns.1 in
          let c : (row_at rows ((mission_at u).row_of 1)).section ≡ 3 = ap (λ (r : Declared). r.section) (second_row z.1) in
          omega (arith, a, b, c))

-- ---- within the rows

kept : (u : ℕ) → u ≤ 124 → is_exec (at u).phase ≡ true → KeepsRows rows u (mission_at u)
kept u l e = keeps_rows rows u (mission_at u) (facts u l e)

within : Within rows controller rising_level 124
within =
    record {
      handlers = λ t l e. has_rows (at t).registry (priorities_at t l e);
      keeps = λ t l e. kept t l e;
    }

-- in unit 120 the pump, which has entered the tank, acts with the tank's ceiling
last_state : (is_exec (at 124).phase ≡ true) × (length (at 124).registry ≡ 3)
unfolding computing_machine controller
last_state = (refl, refl)

in_the_tank : (has_turn 1 (at 120) ≡ true) × (active_priority (at 120) 1 ≡ 20)
unfolding computing_machine controller acting active_priority
in_the_tank = (refl, refl)

pub controller_stays_within : StaysWithinItsRows
unfolding controller
controller_stays_within =
    record {
      program = ordinary_use;
      plan = rising_level;
      rows = rows;
      n = 124;
      keeps_rules = ordinary_use_accepted;
      declared = declared;
      within = within;
      three = last_state.1;
      t = 120;
      index = 1;
      before = omega arith;
      acting = acts_are 124 (omega arith) last_state.0 120 1 ∙ in_the_tank.0;
      above = above;
    }
  where
    is_second : 1 < (mission_at 124).places
    is_second = let a = places 124 (omega arith) last_state.0 in omega (arith, a)

    above : own rows (mission_at 124) 1 < (mission_at 124).active 120 1
    above =
        let a : own rows (mission_at 124) 1 ≡ 10 =
        ap (λ (r : Declared). r.priority) (second_row 124 (omega arith) last_state.0 is_second) in
        let b = active_is 124 (omega arith) last_state.0 120 1 in
        let c = in_the_tank.1 in
        omega (arith, a, b, c)
