-- The first state is sound, and arrivals keep a state sound: they take in releases and nothing else.
use Rattle.std.proofs.Common.{◌≡◌, ℕ, List, [], ◌∷◌, ◌++◌, Bool, true, false, refl, ap, ◌∙◌, Option, Some, None, length, ◌+◌, if◌then◌else◌}
use Rattle.std.specs.Prelude.{slice_get, nat_lt, not}
use Rattle.scj_model.specs.declared.events.Event.{Event}
use Rattle.scj_model.specs.declared.events.Event.TheVariants.{Lost, Arrive, Miss}
use Rattle.scj_model.specs.declared.plans.Fire.{Fire}
use Rattle.scj_model.specs.Code.{Code}
use Rattle.scj_model.specs.Plan.{Plan}
use Rattle.scj_model.specs.State.{Release, Waits, State, is_over}
use Rattle.scj_model.specs.Steps.{Step, silently, reporting, for_each}
use Rattle.scj_model.specs.Apply.{release_taken, releases_of, waiting_of, most_waiting}
use Rattle.scj_model.specs.Arrivals.{executes_since, arrivals, due_handlers, fired, fired_at, fired_handler, fires_due}
use Rattle.scj_model.specs.Run.{empty_state}
use Rattle.mission_sound.specs.Bases.{areas_of}
use Rattle.mission_sound.specs.SequencerFacts.{SequencerFacts}
use Rattle.mission_sound.proofs.Arrivals.{arrivals_settle}
use Rattle.mission_sound.proofs.EmptyState.{empty_is_settled}
use Rattle.reference_sound.proofs.PhaseHolds.{arrivals_keep, first_state_holds}
use Rattle.scj_model.specs.Reached.{Arrived}
use Rattle.scope_sound.specs.Sound.{Sound, SoundAt}
use Rattle.scope_sound.proofs.OneBase.{holds_on}

pub sound_at_first : (code : Code) → SequencerFacts code → (plan : Plan) → Sound code (empty_state code plan)
sound_at_first code facts plan =
    let settled = empty_is_settled code plan facts in
    record { settled = settled; references = first_state_holds code plan (areas_of settled.invariant.base) }

-- ---- the sequencer stands as before

record StandsStill (s t : State) : Type 0 where
  pub activity : t.activity ≡ s.activity
  pub phase : t.phase ≡ s.phase

taken_still : (s : State) (handler : ℕ) → StandsStill s (release_taken s handler).state
unfolding release_taken
taken_still s handler =
    go (not (nat_lt (length (waiting_of s handler)) most_waiting)) (Lost s.unit handler ∷ [])
    (Arrive s.unit handler (length (releases_of s handler) + 1) ∷ [])
  where
    taken : Release
    taken = record { handler = handler; number = length (releases_of s handler) + 1; status = Waits }

    go : (b : Bool) (es fs : List Event) → StandsStill s
        (if b then reporting s es else reporting (record s { releases = s.releases ++ taken ∷ [] }) fs).state
    go true es fs = record { activity = refl; phase = refl }
    go false es fs = record { activity = refl; phase = refl }

both_still : (s t u : State) → StandsStill s t → StandsStill t u → StandsStill s u
both_still s t u h k = record { activity = k.activity ∙ h.activity; phase = k.phase ∙ h.phase }

each_still : {A : Type 0} (step : State → A → Step) → ((s : State) (x : A) → StandsStill s (step s x).state) →
    (xs : List A) (s : State) → StandsStill s (for_each step xs s).state
unfolding for_each
each_still step h [] s = record { activity = refl; phase = refl }
each_still step h (x ∷ xs) s =
    both_still s (step s x).state (for_each step xs (step s x).state).state (h s x)
    (each_still step h xs (step s x).state)

module _ (code : Code) where
  fired_still : (s : State) (fire : Fire) → StandsStill s (fired code s fire).state
  unfolding fired
  fired_still s fire = go (fired_handler code s fire.handler) (Miss s.unit fire.handler ∷ [])
    where
      go : (o : Option ℕ) (events : List Event) → StandsStill s (elim o as (λ z. Step) [
        | Some handler ↦ release_taken s handler
        | None ↦ reporting s events
      ]).state
      go None events = record { activity = refl; phase = refl }
      go (Some handler) events = taken_still s handler

  at_still : (fires : List Fire) (s : State) (index : ℕ) → StandsStill s (fired_at code fires s index).state
  at_still fires s index = go (slice_get fires index)
    where
      go : (o : Option Fire) →
          StandsStill s (elim o as (λ z. Step) [ None ↦ silently s | Some fire ↦ fired code s fire ]).state
      go None = record { activity = refl; phase = refl }
      go (Some fire) = fired_still s fire

  arrivals_still : (plan : Plan) (s : State) → StandsStill s (arrivals code plan s).state
  unfolding arrivals
  arrivals_still plan s =
      both_still s (for_each release_taken (due_handlers s) s).state _
      (each_still release_taken taken_still (due_handlers s) s)
      (each_still (fired_at code plan.fires) (at_still plan.fires) (fires_due (executes_since s) s.unit plan.fires)
      (for_each release_taken (due_handlers s) s).state)

  pub sound_on_arrival : (plan : Plan) (s : State) → Sound code s → is_over s.phase ≡ false →
      SoundAt code Arrived (arrivals code plan s).state
  sound_on_arrival plan s sound goes_on =
      let still = arrivals_still plan s in
      let settled = arrivals_settle code plan s sound.settled in (
        record {
          settled = settled;
          references = holds_on code s (arrivals code plan s).state sound.settled.invariant.base
              settled.invariant.base still.activity sound.settled.invariant.memories settled.invariant.memories
              (arrivals_keep code (areas_of sound.settled.invariant.base) plan s sound.references);
        },
        ap is_over still.phase ∙ goes_on,
      )
