-- The arrivals of a unit keep the invariant: each handler that is due, and each that a fire names, has a row.
use Rattle.std.specs.Prelude.{Option, Some, None, slice_get, ◌+◌, ◌++◌, if◌then◌else◌}
use Rattle.std.proofs.Common.{◌≡◌, ℕ, suc, List, [], ◌∷◌, Bool, true, false, refl, sym, ap, subst, arith}
use Rattle.scj_rules.specs.Words.{◌>>=◌}
use Rattle.scj_rules.specs.Classes.{class_number}
use Rattle.scj_model.specs.declared.events.Event.TheVariants.{Miss}
use Rattle.scj_model.specs.declared.handlers.HandlerRow.{HandlerRow}
use Rattle.scj_model.specs.declared.plans.Fire.{Fire}
use Rattle.scj_model.specs.Code.{Code}
use Rattle.scj_model.specs.Plan.{Plan}
use Rattle.scj_model.specs.State.{State}
use Rattle.scj_model.specs.Registry.{aperiodic_of}
use Rattle.scj_model.specs.Steps.{Step, silently, reporting, for_each}
use Rattle.scj_model.specs.Apply.{takes_releases, release_taken}
use Rattle.scj_model.specs.Arrivals.{executes_since, is_due, numbers_where, handlers_due, due_handlers, fired_handler, fired, fired_at, fires_due, arrivals}
use Rattle.mission_sound.specs.Invariant.{Settled}
use Rattle.mission_sound.proofs.Arriving.{Takes, is_taken}
use Rattle.mission_sound.proofs.Rows.{HasRow, placed_row, number_has_row}

-- ---- handlers with rows

AllHaveRows : List HandlerRow → List ℕ → Type 0
AllHaveRows registry [] = Unit {0}
AllHaveRows registry (handler ∷ handlers) = HasRow registry handler × AllHaveRows registry handlers

numbers_have_rows : (test : HandlerRow → Bool) (registry : List HandlerRow) (number : ℕ) (rows : List HandlerRow) →
    ((k : ℕ) (row : HandlerRow) → slice_get rows k ≡ Some row → HasRow registry (number + k)) →
    AllHaveRows registry (numbers_where test number rows)
unfolding numbers_where AllHaveRows
numbers_have_rows test registry number [] h = tt
numbers_have_rows test registry number (x ∷ rows) h =
    go (test x) (numbers_have_rows test registry (number + 1) rows (λ k row there.
    (let e : number + suc k ≡ number + 1 + k = omega arith in
    subst (HasRow registry) e (h (suc k) row there))))
  where
    first : HasRow registry number
    first = let e : number + 0 ≡ number = omega arith in subst (HasRow registry) e (h 0 x refl)

    go : (b : Bool) → AllHaveRows registry (numbers_where test (number + 1) rows) →
        AllHaveRows registry ((if b then number ∷ [] else []) ++ numbers_where test (number + 1) rows)
    go true rest = (first, rest)
    go false rest = rest

due_have_rows : (s : State) → AllHaveRows s.registry (due_handlers s)
unfolding due_handlers handlers_due AllHaveRows
due_have_rows s = go (takes_releases s)
  where
    all : AllHaveRows s.registry (numbers_where (is_due s.origin s.unit) 1 s.registry)
    all =
        numbers_have_rows (is_due s.origin s.unit) s.registry 1 s.registry
        (λ k row there. placed_row s.registry (1 + k) k row (omega arith) there)

    go : (b : Bool) → AllHaveRows s.registry
        (if b then numbers_where (is_due s.origin s.unit) 1 s.registry else [])
    go true = all
    go false = tt

aperiodic_has_row : (registry : List HandlerRow) (class handler : ℕ) → aperiodic_of registry class ≡ Some handler →
    HasRow registry handler
unfolding aperiodic_of
aperiodic_has_row registry class handler e = number_has_row _ registry handler e

-- ---- one after the other

module _ (code : Code) where
  all_taken : (registry : List HandlerRow) (handlers : List ℕ) (s : State) → Takes code registry s →
      AllHaveRows registry handlers → Takes code registry (for_each release_taken handlers s).state
  unfolding for_each AllHaveRows
  all_taken registry [] s t rows = t
  all_taken registry (handler ∷ handlers) s t rows =
      all_taken registry handlers (release_taken s handler).state
      (subst (λ registry. Takes code registry (release_taken s handler).state) t.same
      (is_taken code s t.settled t.takes handler (subst (λ registry. HasRow registry handler) (sym t.same) rows.0)))
      rows.1

  none_due : (s : State) → takes_releases s ≡ false → due_handlers s ≡ []
  unfolding due_handlers
  none_due s e = ap (λ (b : Bool). if b then handlers_due s.origin s.unit s.registry else []) e

  due_taken : (s : State) → Settled code s → Settled code (for_each release_taken (due_handlers s) s).state
  unfolding for_each
  due_taken s settled = go (takes_releases s) refl
    where
      go : (b : Bool) → takes_releases s ≡ b → Settled code (for_each release_taken (due_handlers s) s).state
      go true e =
          (all_taken s.registry (due_handlers s) s (record { settled = settled; takes = e; same = refl })
          (due_have_rows s)).settled
      go false e = subst (λ handlers. Settled code (for_each release_taken handlers s).state)
          (sym (none_due s e)) settled

  fire_settled : (s : State) (fire : Fire) → Settled code s → Settled code (fired code s fire).state
  unfolding fired fired_handler
  fire_settled s fire settled = go (takes_releases s) refl
    where
      taken : takes_releases s ≡ true → (o : Option ℕ) →
          (class_number code.program.names fire.handler >>= aperiodic_of s.registry) ≡ o →
          Settled code (elim o as (λ z. Step) [
            | Some handler ↦ release_taken s handler
            | None ↦ reporting s (Miss s.unit fire.handler ∷ [])
          ]).state
      taken e None is = settled
      taken e (Some handler) is =
          (is_taken code s settled e handler (of_class (class_number code.program.names fire.handler) is)).settled
        where
          of_class : (o : Option ℕ) → o >>= aperiodic_of s.registry ≡ Some handler → HasRow s.registry handler
          of_class None e = absurd (cc (e))
          of_class (Some class) e = aperiodic_has_row s.registry class handler e

      go : (b : Bool) → takes_releases s ≡ b →
          Settled code
          (elim (if b then class_number code.program.names fire.handler >>= aperiodic_of s.registry else None) as
          (λ z. Step) [
            | Some handler ↦ release_taken s handler
            | None ↦ reporting s (Miss s.unit fire.handler ∷ [])
          ]).state
      go true e = taken e (class_number code.program.names fire.handler >>= aperiodic_of s.registry) refl
      go false e = settled

  fires_settled : (fires : List Fire) (places : List ℕ) (s : State) → Settled code s →
      Settled code (for_each (fired_at code fires) places s).state
  unfolding for_each
  fires_settled fires [] s settled = settled
  fires_settled fires (index ∷ places) s settled =
      fires_settled fires places (fired_at code fires s index).state (one (slice_get fires index))
    where
      one : (o : Option Fire) →
          Settled code (elim o as (λ z. Step) [ None ↦ silently s | Some fire ↦ fired code s fire ]).state
      one None = settled
      one (Some fire) = fire_settled s fire settled

  pub arrivals_settle : (plan : Plan) (s : State) → Settled code s → Settled code (arrivals code plan s).state
  unfolding arrivals
  arrivals_settle plan s settled =
      fires_settled plan.fires (fires_due (executes_since s) s.unit plan.fires) (for_each release_taken (due_handlers s) s).state
      (due_taken s settled)
