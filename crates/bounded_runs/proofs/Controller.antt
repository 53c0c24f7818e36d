-- The program of ordinary use, a controller of three handlers that share a tank, up to the last operation of the pump's
-- first release, when the sensor and the pump have been in the tank: what is computed of its units.
use Rattle.std.proofs.Common.{Bool, List, None, Option, Some, [], ap, arith, false, if◌then◌else◌, length, map, refl, subst, suc, sym, true, zero, ℕ, ◌&&◌, ◌<◌, ◌==◌, ◌||◌, ◌∙◌, ◌∷◌, ◌≡◌, ◌≤◌}
use Rattle.std.specs.Prelude.{nat_le, nat_lt, pos, slice_get, unwrap_or}
use Rattle.std.specs.Str.{bytes_eq}
use Rattle.std.proofs.lemmas.Bool.{and_parts}
use Rattle.std.proofs.lemmas.Bool.Decides.{nat_tests}
use Rattle.std.proofs.lemmas.Slice.Eq.{bytes_eq-Decides}
use Rattle.scj_model.specs.declared.handlers.HandlerRow.{HandlerRow}
use Rattle.scj_model.specs.declared.plans.ReadingRow.{ReadingRow}
use Rattle.scj_model.specs.Code.{Code, code_of}
use Rattle.scj_model.specs.Plan.{Plan}
use Rattle.scj_model.specs.State.{State, is_exec}
use Rattle.scj_model.specs.Choice.{by_priority}
use Rattle.scj_model.specs.Run.{run}
use Rattle.scj_model.proofs.Computing.{computing_machine}
use Rattle.scj_model.proofs.ProgramOrdinaryUse.{ordinary_use}
use Rattle.release_turns.specs.Choices.{acting, at_choice}
use Rattle.response_bounds.specs.declared.rows.Declared.{Declared}
use Rattle.response_bounds.specs.Schedule.{Schedule}
use Rattle.response_times.specs.Runs.{HasRows, active_priority, mission_schedule, row_of_release}
use Rattle.bounded_runs.proofs.UnitTests.{count_units, each_unit, unit_passes}
use Rattle.response_bounds.specs.Rows.{AreDeclared, IsDeclared, row_at}

unfoldable pub controller : Code
controller = code_of ordinary_use

abbrev pub level : ℕ → ℕ → ReadingRow
level unit value = record { port = 1; at = unit; value = pos value }

abbrev pub rising_level : Plan
rising_level = record { units = 5000; store = 1000; fires = []; readings = level 0 50 ∷ level 3000 95 ∷ [] }

abbrev pub alarm : Declared
alarm = record { priority = 18; cost = 9; gap = 2000; section = 3; ceiling = 20 }

abbrev pub sensor : Declared
sensor = record { priority = 12; cost = 28; gap = 2000; section = 4; ceiling = 20 }

abbrev pub pump : Declared
pump = record { priority = 10; cost = 9; gap = 2500; section = 3; ceiling = 20 }

abbrev pub rows : List Declared
rows = alarm ∷ sensor ∷ pump ∷ []

abbrev pub at : ℕ → State
at t = at_choice controller rising_level t

abbrev pub mission_at : ℕ → Schedule
mission_at u = mission_schedule controller rising_level u

-- ---- what is computed

-- how many releases are there for the choice of a unit: the sensor's first one arrives in unit 91, the pump's in 96
abbrev pub releases_by : ℕ → ℕ
releases_by t = if nat_lt t 91 then 0 else if nat_lt t 96 then 1 else 2

abbrev pub priorities : State → List ℕ
priorities s = map (λ (h : HandlerRow). h.priority) s.registry

-- in execution the three handlers are registered, and the releases are theirs
abbrev has_mission : ℕ → State → Bool
has_mission t s =
    bytes_eq (priorities s) (18 ∷ 12 ∷ 10 ∷ []) && ((row_of_release s 0 == 1) && (nat_lt t 96 || (row_of_release s 1 == 2)))

abbrev is_low : State → Bool
is_low s = nat_le (active_priority s 0) 20 && nat_le (active_priority s 1) 20

abbrev executes_so : ℕ → State → Bool
executes_so t s = if is_exec s.phase then nat_le 91 t && has_mission t s else true

abbrev is_first_mission : ℕ → State → Bool
is_first_mission t s = (s.earlier_releases == 0) && (is_low s && executes_so t s)

abbrev is_as_reported : ℕ → State → Bool
is_as_reported t s = (length s.releases == releases_by t) && is_first_mission t s

reported : each_unit controller rising_level is_as_reported 0 125 (run controller rising_level by_priority 0) ≡ true
unfolding computing_machine controller each_unit active_priority row_of_release
reported = refl

-- it is the turn of the release at this place; and its active priority is above this one
abbrev pub is_turn : ℕ → Option ℕ → Bool
is_turn p None = false
is_turn p (Some q) = q == p

abbrev pub has_turn : ℕ → State → Bool
has_turn p s = is_turn p (acting s)

abbrev pub has_high_turn : ℕ → ℕ → State → Bool
has_high_turn p priority s = is_turn p (acting s) && nat_lt priority (active_priority s p)

pub turns :
    (count_units controller rising_level (has_turn 0) 124 (run controller rising_level by_priority 0) ≡ 25)
    × (count_units controller rising_level (has_turn 1) 124 (run controller rising_level by_priority 0) ≡ 8)
unfolding computing_machine controller count_units acting
turns = (refl, refl)

pub high_turns :
    (count_units controller rising_level (has_high_turn 0 12) 124 (run controller rising_level by_priority 0) ≡ 4)
    × (count_units controller rising_level (has_high_turn 1 10) 124 (run controller rising_level by_priority 0) ≡ 3)
unfolding computing_machine controller count_units acting active_priority
high_turns = (refl, refl)

-- ---- what follows of the states

same : (a b : ℕ) → (a == b) ≡ true → a ≡ b
same a b e = grind (arith, nat_tests)

upto : (a b : ℕ) → nat_le a b ≡ true → a ≤ b
upto a b e = grind (arith, nat_tests)

if_true : (a b c : Bool) → a ≡ true → (if a then b else c) ≡ true → b ≡ true
if_true true b c e h = h
if_true false b c e h = absurd (cc (e))

or_right : (a b : Bool) → a ≡ false → (a || b) ≡ true → b ≡ true
or_right true b e h = absurd (cc (e))
or_right false b e h = h

module _ (t : ℕ) (l : t ≤ 124) where
  reported_at : is_as_reported t (at t) ≡ true
  reported_at = unit_passes controller rising_level is_as_reported 125 t reported (omega (arith, l))

  parts : ((length (at t).releases == releases_by t) ≡ true) × (is_first_mission t (at t) ≡ true)
  parts = and_parts (length (at t).releases == releases_by t) (is_first_mission t (at t)) reported_at

  mission_parts : (((at t).earlier_releases == 0) ≡ true) × ((is_low (at t) && executes_so t (at t)) ≡ true)
  mission_parts = and_parts ((at t).earlier_releases == 0) (is_low (at t) && executes_so t (at t)) parts.1

  last_parts : (is_low (at t) ≡ true) × (executes_so t (at t) ≡ true)
  last_parts = and_parts (is_low (at t)) (executes_so t (at t)) mission_parts.1

  pub count_at : length (at t).releases ≡ releases_by t
  count_at = same (length (at t).releases) (releases_by t) parts.0

  pub first_at : (at t).earlier_releases ≡ 0
  first_at = same (at t).earlier_releases 0 mission_parts.0

  pub low_at : (active_priority (at t) 0 ≤ 20) × (active_priority (at t) 1 ≤ 20)
  low_at =
      let h = and_parts (nat_le (active_priority (at t) 0) 20) (nat_le (active_priority (at t) 1) 20) last_parts.0 in
      (upto (active_priority (at t) 0) 20 h.0, upto (active_priority (at t) 1) 20 h.1)

  module _ (e : is_exec (at t).phase ≡ true) where
    mission_reported : (nat_le 91 t && has_mission t (at t)) ≡ true
    mission_reported = if_true (is_exec (at t).phase) (nat_le 91 t && has_mission t (at t)) true e last_parts.1

    abbrev of_the_handlers : Bool
    of_the_handlers = (row_of_release (at t) 0 == 1) && (nat_lt t 96 || (row_of_release (at t) 1 == 2))

    handlers_reported : (bytes_eq (priorities (at t)) (18 ∷ 12 ∷ 10 ∷ []) ≡ true) × (of_the_handlers ≡ true)
    handlers_reported =
        and_parts (bytes_eq (priorities (at t)) (18 ∷ 12 ∷ 10 ∷ [])) of_the_handlers
        (and_parts (nat_le 91 t) (has_mission t (at t)) mission_reported).1

    pub priorities_at : priorities (at t) ≡ 18 ∷ 12 ∷ 10 ∷ []
    priorities_at = (bytes_eq-Decides (priorities (at t)) (18 ∷ 12 ∷ 10 ∷ [])).0 handlers_reported.0

    rows_reported : ((row_of_release (at t) 0 == 1) ≡ true) × ((nat_lt t 96 || (row_of_release (at t) 1 == 2)) ≡ true)
    rows_reported = and_parts (row_of_release (at t) 0 == 1) (nat_lt t 96 || (row_of_release (at t) 1 == 2)) handlers_reported.1

    pub row_0 : row_of_release (at t) 0 ≡ 1
    row_0 = same (row_of_release (at t) 0) 1 rows_reported.0

    pub row_1 : nat_lt t 96 ≡ false → row_of_release (at t) 1 ≡ 2
    row_1 f = same (row_of_release (at t) 1) 2 (or_right (nat_lt t 96) (row_of_release (at t) 1 == 2) f rows_reported.1)

-- there are never fewer releases than before
pub more_releases : (s t : ℕ) → s ≤ t → releases_by s ≤ releases_by t
more_releases s t l = go (nat_lt s 91) (nat_lt s 96) (nat_lt t 91) (nat_lt t 96) refl refl refl refl
  where
    go : (a b c d : Bool) → nat_lt s 91 ≡ a → nat_lt s 96 ≡ b → nat_lt t 91 ≡ c → nat_lt t 96 ≡ d →
        (if a then 0 else if b then 1 else 2) ≤ (if c then 0 else if d then 1 else 2)
    go true b c d e f g h = omega arith
    go false b true d e f g h = absurd (omega (arith, l, (let x : t < 91 = grind (arith, nat_tests) in x), (let y : 91 ≤ s = grind (arith, nat_tests) in y)))
    go false true false true e f g h = omega arith
    go false true false false e f g h = omega arith
    go false false false true e f g h = absurd (omega (arith, l, (let x : t < 96 = grind (arith, nat_tests) in x), (let y : 96 ≤ s = grind (arith, nat_tests) in y)))
    go false false false false e f g h = omega arith

pub two_at_most : (t : ℕ) → releases_by t ≤ 2
two_at_most t = go (nat_lt t 91) (nat_lt t 96)
  where
    go : (a b : Bool) → (if a then 0 else if b then 1 else 2) ≤ 2
    go true b = omega arith
    go false true = omega arith
    go false false = omega arith

pub two_since_96 : (t : ℕ) → 1 < releases_by t → nat_lt t 96 ≡ false
two_since_96 t l = go (nat_lt t 91) (nat_lt t 96) l
  where
    go : (a b : Bool) → 1 < (if a then 0 else if b then 1 else 2) → b ≡ false
    go true b l = absurd (omega (arith, l))
    go false true l = absurd (omega (arith, l))
    go false false l = refl

-- ---- the rows

-- the elements of a list
module _ {A : Type 0} (d : A) where
  head : List A → A
  head [] = d
  head (x ∷ xs) = x

  tail : List A → List A
  tail [] = []
  tail (x ∷ xs) = xs

pub has_rows : (registry : List HandlerRow) → map (λ (h : HandlerRow). h.priority) registry ≡ 18 ∷ 12 ∷ 10 ∷ [] → HasRows rows registry
unfolding row_at head tail
has_rows [] e = absurd (cc (e))
has_rows (a ∷ []) e = absurd (cc (e))
has_rows (a ∷ (b ∷ [])) e = absurd (cc (e))
has_rows (a ∷ (b ∷ (c ∷ (d ∷ rest)))) e = absurd (cc (e))
has_rows (a ∷ (b ∷ (c ∷ []))) e = record { are_enough = few; priorities = priority }
  where
    three : length rows ≡ 3
    three = refl

    few : 3 ≤ length rows
    few = omega (arith, three)

    of_it : (g h : HandlerRow) (p : ℕ) → g.priority ≡ p → Some g ≡ Some h → h.priority ≡ p
    of_it g h p f k = ap (λ (o : Option HandlerRow). (unwrap_or o g).priority) (sym k) ∙ f

    priority : (k : ℕ) (handler : HandlerRow) → slice_get (a ∷ b ∷ c ∷ []) k ≡ Some handler →
        handler.priority ≡ (row_at rows k).priority
    priority zero handler f = of_it a handler 18 (ap (head 0) e) f
    priority (suc zero) handler f = of_it b handler 12 (ap (λ (xs : List ℕ). head 0 (tail 0 xs)) e) f
    priority (suc (suc zero)) handler f = of_it c handler 10 (ap (λ (xs : List ℕ). head 0 (tail 0 (tail 0 xs))) e) f
    priority (suc (suc (suc k))) handler f = absurd (cc (f))

alarm_declared : IsDeclared alarm
alarm_declared =
    record {
      priority_from = omega arith;
      cost_from = omega arith;
      cost_upto = omega arith;
      gap_from = omega arith;
      gap_upto = omega arith;
      section_upto = omega arith;
      ceiling_from = omega arith;
      ceiling_upto = omega arith;
    }

sensor_declared : IsDeclared sensor
sensor_declared =
    record {
      priority_from = omega arith;
      cost_from = omega arith;
      cost_upto = omega arith;
      gap_from = omega arith;
      gap_upto = omega arith;
      section_upto = omega arith;
      ceiling_from = omega arith;
      ceiling_upto = omega arith;
    }

pump_declared : IsDeclared pump
pump_declared =
    record {
      priority_from = omega arith;
      cost_from = omega arith;
      cost_upto = omega arith;
      gap_from = omega arith;
      gap_upto = omega arith;
      section_upto = omega arith;
      ceiling_from = omega arith;
      ceiling_upto = omega arith;
    }

pub declared : AreDeclared rows
declared = record { some = omega (arith, three); few = omega (arith, three); each = each }
  where
    three : length rows ≡ 3
    three = refl

    each : (k : ℕ) (r : Declared) → slice_get rows k ≡ Some r → IsDeclared r
    each zero r e = subst IsDeclared (ap (λ (o : Option Declared). unwrap_or o alarm) e) alarm_declared
    each (suc zero) r e = subst IsDeclared (ap (λ (o : Option Declared). unwrap_or o alarm) e) sensor_declared
    each (suc (suc zero)) r e = subst IsDeclared (ap (λ (o : Option Declared). unwrap_or o alarm) e) pump_declared
    each (suc (suc (suc k))) r e = absurd (cc (e))
