-- Areas that the sequencer opens for itself or for a release, and the safelet that it makes, by whether there is room.
use Rattle.std.specs.Prelude.{Bool, true, false, Option, Some, None}
use Rattle.std.proofs.Common.{◌≡◌, ◌∙◌, ℕ, List, [], ◌∷◌, length, refl, ap, sym, subst}
use Rattle.scj_base.specs.declared.faults.RunFault.TheVariants.{MemoryFull, StoreFull}
use Rattle.scj_base.specs.declared.positions.Position.{Position}
use Rattle.scj_base.specs.declared.values.Value.{Value}
use Rattle.scj_base.specs.declared.values.Value.TheVariants.{At, Null}
use Rattle.scj_rules.specs.declared.views.Body.{Body}
use Rattle.scj_rules.specs.Bodies.{class_position}
use Rattle.scj_model.specs.declared.events.Event.{Event}
use Rattle.scj_model.specs.declared.events.Event.TheVariants.{Halted}
use Rattle.scj_model.specs.declared.handlers.HandlerRow.{HandlerRow}
use Rattle.scj_model.specs.Code.{code_of}
use Rattle.op_list.specs.Listed.{Listing}
use Rattle.scj_model.specs.State.{Activity, Job, ReleaseAt, State, TheSequencer, with_activity}
use Rattle.scj_model.specs.Memory.{has_store_for, new_slots, with_area}
use Rattle.scj_model.specs.Steps.{Step, allocating, fault_in, opening, silently, reporting}
use Rattle.scj_model.specs.Effects.{new_frame}
use Rattle.scj_model.specs.Sequencer.{area_opened, innermost, safelet_made}
use Rattle.scj_model.specs.Run.{no_activity, started_with}
use Rattle.job_frames.specs.declared.activities.Activity.{Activity as StoredActivity}
use Rattle.job_frames.specs.Frames.{activity_seen}
use Rattle.run_state.specs.declared.states.RunState.{RunState}
use Rattle.run_state.specs.Seen.{state_of}
use Rattle.run_state.specs.Steps.{GoesOn, IsStep}
use Rattle.run_state.proofs.StepLemmas.{same_step}
use Rattle.mission_steps.proofs.Going.{quietly}

-- ---- the state in which an area is open

module _ (s : State) (job : Job) (activity : Activity) (position : Position) (scope : ℕ) (parent : Option ℕ) (bytes : ℕ) where
  opened_there : (next : State → ℕ → Step) → has_store_for s bytes ≡ true →
      opening s job activity position scope parent bytes next ≡ next (with_area s scope parent bytes) (length s.areas)
  unfolding opening
  opened_there next e = rw e refl

  opened_nowhere : (next : State → ℕ → Step) → has_store_for s bytes ≡ false →
      opening s job activity position scope parent bytes next ≡ fault_in s job activity position StoreFull
  unfolding opening
  opened_nowhere next e = rw e refl

  with_area_opened : (n : ℕ) (after : State) →
      GoesOn s (opening s job activity position scope parent bytes) (fault_in s job activity position StoreFull)
      (Some n) after →
      after ≡ with_area s scope parent bytes
  with_area_opened n after h = by_room (has_store_for s bytes) refl
    where
      quiet : State → ℕ → Step
      quiet t m = silently t

      loud : State → ℕ → Step
      loud t m = reporting t (Halted 0 ∷ [])

      by_room : (b : Bool) → has_store_for s bytes ≡ b → after ≡ with_area s scope parent bytes
      by_room true e = ap (λ (x : Step). x.state) (sym (h.there quiet n refl) ∙ opened_there quiet e)
      by_room false e = absurd (
          let same : silently after ≡ reporting after (Halted 0 ∷ []) =
          sym (h.there quiet n refl)
          ∙ (opened_nowhere quiet e ∙ (sym (opened_nowhere loud e) ∙ h.there loud n refl)) in
          let none : [] ≡ Halted 0 ∷ [] = ap (λ (x : Step). x.events) same in cc)

  pub activity_kept : (n : ℕ) (after : State) →
      GoesOn s (opening s job activity position scope parent bytes) (fault_in s job activity position StoreFull)
      (Some n) after →
      after.activity ≡ s.activity
  activity_kept n after h = ap (λ (t : State). t.activity) (with_area_opened n after h)

-- ---- the sequencer's own areas

module _ (code : Listing) (was : RunState) (position : Position) (scope bytes : ℕ) where
  abbrev s : State
  s = state_of code was

  abbrev opens : (State → ℕ → Step) → Step
  opens next = opening s TheSequencer s.activity position scope (innermost s.activity.areas) bytes next

  abbrev pub IsOpened : Option ℕ → State → Type 0
  IsOpened found after = GoesOn s opens (fault_in s TheSequencer s.activity position StoreFull) found after

  pub is_opened : (parent found : Option ℕ) (o : Option ℕ) (after : State) →
      parent ≡ innermost was.activity.areas → found ≡ o →
      GoesOn s (opening s TheSequencer s.activity position scope parent bytes)
      (fault_in s TheSequencer s.activity position StoreFull) found after → IsOpened o after
  unfolding state_of
  is_opened parent found o after e f h =
      subst (λ (x : Option ℕ). IsOpened x after) f
      (subst (λ (p : Option ℕ). GoesOn s (opening s TheSequencer s.activity position scope p bytes)
      (fault_in s TheSequencer s.activity position StoreFull) found after) e h)

  pub opened_inside : (middle : RunState) (areas : List ℕ) (n : ℕ) (reported : List Event) →
      IsOpened (Some n) (state_of code middle) → areas ≡ n ∷ middle.activity.areas →
      IsStep code (area_opened s position scope bytes)
      (record middle { activity = record middle.activity { areas = areas }; outcome = Some Null }) reported reported
  unfolding state_of area_opened
  opened_inside middle areas n reported opened pushed =
      let t : State = state_of code middle in
      let after : Activity → State = λ a. record t { activity = record a { areas = n ∷ a.areas }; outcome = Some Null }
      in
      let st : RunState =
      record middle { activity = record middle.activity { areas = areas }; outcome = Some Null } in
      let there : area_opened s position scope bytes ≡ silently (after s.activity) = opened.there _ n refl in
      same_step code st reported reported (silently (after s.activity)) (area_opened s position scope bytes) there
      (quietly code st reported (after s.activity)
      (ap (λ (xs : List ℕ).
      (let x : State = record t { activity = record t.activity { areas = xs }; outcome = Some Null } in x))
      pushed
      ∙ ap after
      (activity_kept s TheSequencer s.activity position scope (innermost s.activity.areas) bytes n t opened)))

  pub not_opened : (middle st : RunState) (before after : List Event) → IsOpened None (state_of code middle) →
      IsStep code (fault_in (state_of code middle) TheSequencer s.activity position StoreFull) st before after →
      IsStep code (area_opened s position scope bytes) st before after
  unfolding area_opened
  not_opened middle st before after opened h =
      same_step code st before after _ (area_opened s position scope bytes)
      (opened.missing _ refl
      ∙ ap (λ (t : State). fault_in t TheSequencer s.activity position StoreFull) (sym (opened.same refl))) h

-- ---- the safelet

module _ (code : Listing) (was : RunState) (position : Position) (class area : ℕ) (slots : List Value) where
  abbrev t : State
  t = state_of code was

  abbrev pub IsMade : Option ℕ → State → Type 0
  IsMade found after =
      GoesOn t (allocating t TheSequencer t.activity position class area slots)
      (fault_in t TheSequencer t.activity position MemoryFull) found after

  abbrev makes : List Value → Step
  makes values =
      allocating t TheSequencer t.activity position class area values
      (λ u r. silently (let x : State = record u { outcome = Some (At r) } in x))

  pub is_made : (other : ℕ) (found o : Option ℕ) (after : State) → other ≡ class → found ≡ o →
      GoesOn t (allocating t TheSequencer t.activity position other area slots)
      (fault_in t TheSequencer t.activity position MemoryFull) found after → IsMade o after
  is_made other found o after e f h =
      subst (λ (x : Option ℕ). IsMade x after) f
      (subst (λ (c : ℕ). GoesOn t (allocating t TheSequencer t.activity position c area slots)
      (fault_in t TheSequencer t.activity position MemoryFull) found after) e h)

  pub made_there : (middle : RunState) (n : ℕ) (reported : List Event) → new_slots (code_of code.program).program class ≡ slots →
      IsMade (Some n) (state_of code middle) →
      IsStep code (safelet_made (code_of code.program) t position class area) (record middle { outcome = Some (At n) }) reported reported
  unfolding state_of safelet_made
  made_there middle n reported same made =
      let st : RunState = record middle { outcome = Some (At n) } in
      let after : State = state_of code st in
      same_step code st reported reported (silently after) (safelet_made (code_of code.program) t position class area)
      (ap makes same ∙ made.there _ n refl)
      (quietly code st reported after refl)

  pub not_made : (middle st : RunState) (before after : List Event) → new_slots (code_of code.program).program class ≡ slots →
      IsMade None (state_of code middle) →
      IsStep code (fault_in (state_of code middle) TheSequencer t.activity position MemoryFull) st before after →
      IsStep code (safelet_made (code_of code.program) t position class area) st before after
  unfolding safelet_made
  not_made middle st before after same made h =
      same_step code st before after _ (safelet_made (code_of code.program) t position class area)
      (ap makes same ∙ (made.missing _ refl
      ∙ ap (λ (u : State). fault_in u TheSequencer t.activity position MemoryFull) (sym (made.same refl)))) h

-- ---- the private memory of a release

module _ (code : Listing) (was : RunState) (n : ℕ) (row : HandlerRow) (scope : ℕ) (body : Body) where
  abbrev u : State
  u = state_of code was

  abbrev at : Position
  at = class_position (code_of code.program).program row.class

  abbrev pub IsPrivate : Option ℕ → State → Type 0
  IsPrivate found after =
      GoesOn u (opening u (ReleaseAt n) no_activity at scope (innermost u.activity.areas) row.bytes)
      (fault_in u (ReleaseAt n) no_activity at StoreFull) found after

  pub is_private : (parent found o : Option ℕ) (after : State) → parent ≡ innermost was.activity.areas → found ≡ o →
      GoesOn u (opening u (ReleaseAt n) no_activity at scope parent row.bytes)
      (fault_in u (ReleaseAt n) no_activity at StoreFull) found after → IsPrivate o after
  unfolding state_of
  is_private parent found o after e f h =
      subst (λ (x : Option ℕ). IsPrivate x after) f
      (subst (λ (p : Option ℕ). GoesOn u (opening u (ReleaseAt n) no_activity at scope p row.bytes)
      (fault_in u (ReleaseAt n) no_activity at StoreFull) found after) e h)

  abbrev pub first_activity : List ℕ → ℕ → Activity
  first_activity areas area = record {
    frames = record (new_frame (code_of code.program) body None (Some row.at) area []) { opened = Some area } ∷ [];
    areas = area ∷ areas;
    priority = row.priority;
  }

  pub started_there : (middle st : RunState) (area : ℕ) (activity : StoredActivity) (areas : List ℕ)
      (reported : List Event) →
      IsPrivate (Some area) (state_of code middle) → areas ≡ u.activity.areas →
      activity_seen code activity ≡ first_activity areas area →
      state_of code st ≡ with_activity (state_of code middle) (ReleaseAt n) (activity_seen code activity) →
      IsStep code (started_with (code_of code.program) u n row scope body) st reported reported
  unfolding started_with
  started_there middle st area activity areas reported opened same seen put =
      same_step code st reported reported
      (silently (with_activity (state_of code middle) (ReleaseAt n) (first_activity u.activity.areas area)))
      (started_with (code_of code.program) u n row scope body) (opened.there _ area refl)
      (quietly code st reported
      (with_activity (state_of code middle) (ReleaseAt n) (first_activity u.activity.areas area))
      (put ∙ ap (λ (a : Activity). with_activity (state_of code middle) (ReleaseAt n) a)
      (seen ∙ ap (λ (xs : List ℕ). first_activity xs area) same)))

  pub not_started : (middle st : RunState) (before after : List Event) → IsPrivate None (state_of code middle) →
      IsStep code (fault_in (state_of code middle) (ReleaseAt n) no_activity at StoreFull) st before after →
      IsStep code (started_with (code_of code.program) u n row scope body) st before after
  unfolding started_with
  not_started middle st before after opened h =
      same_step code st before after _ (started_with (code_of code.program) u n row scope body)
      (opened.missing _ refl
      ∙ ap (λ (t : State). fault_in t (ReleaseAt n) no_activity at StoreFull) (sym (opened.same refl))) h
