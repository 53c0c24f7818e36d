-- Releases that are taken in or dropped, and the end of a mission that is asked for.
use Rattle.std.specs.Prelude.{true, false, Option, Some, None}
use Rattle.std.proofs.Common.{◌≡◌, ◌∙◌, ℕ, List, [], ◌∷◌, ◌++◌, refl, ap, sym, subst}
use Rattle.std.proofs.lemmas.List.{append_assoc}
use Rattle.scj_model.specs.declared.events.Event.{Event}
use Rattle.scj_model.specs.declared.events.Event.TheVariants.{Terminate}
use Rattle.op_list.specs.Listed.{Listing}
use Rattle.scj_model.specs.State.{State, is_exec}
use Rattle.scj_model.specs.Steps.{Step, silently, reporting}
use Rattle.scj_model.specs.Registry.{handler_number}
use Rattle.scj_model.specs.Apply.{asks_for_end, release_taken, released, takes_releases, report_dropped, termination, termination_asked}
use Rattle.run_releases.specs.Rows.{StoredReleases, with_releases}
use Rattle.run_releases.specs.Releases.{all_dropped, taken_in, report_taken}
use Rattle.run_releases.specs.OtherReleases.{all_let_go, at_unit}
use Rattle.run_state.specs.declared.states.RunState.{RunState}
use Rattle.run_state.specs.Seen.{state_of}
use Rattle.run_state.specs.Steps.{IsStep}
use Rattle.mission_steps.specs.Asked.{execution_ended}

-- ---- a release more

pub taken_step : (code : Listing) (st : RunState) (rs : StoredReleases) (handler : ℕ) (number : Option ℕ) (event : Event)
    (before after : List Event) → rs ≡ taken_in handler number st.releases →
    ((s : State) → release_taken (with_releases code s st.releases) handler
    ≡ reporting (with_releases code s rs) (report_taken s.unit handler number)) →
    event ∷ [] ≡ report_taken st.unit handler number → after ≡ before ++ event ∷ [] →
    IsStep code (release_taken (state_of code st) handler) (record st { releases = rs }) before after
unfolding state_of
taken_step code st rs handler number event before after taken seen same reported =
    subst (λ (step : Step). IsStep code step (record st { releases = rs }) before after)
    (sym (seen (state_of code st)))
    (record {
      state = refl;
      reported = reported ∙ ap (λ (es : List Event). before ++ es) same;
    })

module _ (s : State) (r : ℕ) where
  pub released_nothing : takes_releases s ≡ false → released s r ≡ silently s
  unfolding released
  released_nothing e = rw e refl

  pub released_nobody : takes_releases s ≡ true → handler_number s.registry r ≡ None → released s r ≡ silently s
  unfolding released
  released_nobody e f = rw (e, f) refl

  pub released_handler : (handler : ℕ) → takes_releases s ≡ true → handler_number s.registry r ≡ Some handler →
      released s r ≡ release_taken s handler
  unfolding released
  released_handler handler e f = rw (e, f) refl

  pub asked_in_vain : asks_for_end s.mission s.phase s.is_end_asked r ≡ false → termination_asked s r ≡ silently s
  unfolding termination_asked
  asked_in_vain e = rw e refl

  pub asked_to_end : asks_for_end s.mission s.phase s.is_end_asked r ≡ true → termination_asked s r ≡ termination s
  unfolding termination_asked
  asked_to_end e = rw e refl

-- ---- those that wait are dropped

pub ended_step : (code : Listing) (st : RunState) (rs : StoredReleases) (before middle after : List Event) →
    rs ≡ all_dropped st.releases →
    ((s : State) → all_let_go (with_releases code s st.releases) ≡ with_releases code s rs) →
    ((s : State) → after ≡ middle ++ report_dropped (at_unit (with_releases code s st.releases) st.unit)) →
    middle ≡ before ++ Terminate st.unit ∷ [] →
    IsStep code (execution_ended (state_of code st)) (record st { releases = rs; is_end_asked = true }) before after
unfolding state_of execution_ended
ended_step code st rs before middle after dropped seen reported first = record {
  state = ap (λ (s : State). (let t : State = record s { is_end_asked = true } in t)) (sym (seen (state_of code st)));
  reported = reported (state_of code st)
      ∙ (ap (λ (es : List Event). es ++ report_dropped (state_of code st)) first
      ∙ append_assoc before (Terminate st.unit ∷ []) (report_dropped (state_of code st)));
}

pub ends_in_execution : (s : State) → is_exec s.phase ≡ true → termination s ≡ execution_ended s
unfolding termination execution_ended
ends_in_execution s e = rw e refl

pub kept_until_execution : (s : State) → is_exec s.phase ≡ false →
    termination s ≡ silently (record s { is_end_asked = true })
unfolding termination
kept_until_execution s e = rw e refl
