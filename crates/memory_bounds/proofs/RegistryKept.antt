-- Outside initialisation no operation of the sequencer registers a handler; and none but a registration does.
use Rattle.std.specs.Prelude.{Option, Some, None, nat_lt, is_some, not, unwrap_or, slice_set}
use Rattle.std.proofs.Common.{◌≡◌, ◌⊎◌, ℕ, List, [], ◌∷◌, length, Bool, true, false, refl, inl, inr}
use Rattle.scj_base.specs.declared.faults.RunFault.{RunFault}
use Rattle.scj_base.specs.declared.positions.Position.{Position}
use Rattle.scj_base.specs.declared.values.Value.{Value}
use Rattle.scj_base.specs.declared.values.Value.TheVariants.{At}
use Rattle.scj_model.specs.Code.{Code}
use Rattle.scj_model.specs.State.{Object, Frame, Activity, TheSequencer, State, object_at, changed, with_activity, is_init, is_exec}
use Rattle.scj_model.specs.Registry.{handler_number}
use Rattle.scj_model.specs.Memory.{closed, has_room, has_store_for, area_with_scope, with_object, with_slot}
use Rattle.scj_model.specs.Steps.{Step, fault_in, allocating, opening, job_ended, silently}
use Rattle.scj_model.specs.Effects.{Effect, Goes, Prints, Makes, Stores, StoresStatic, SetsHidden, SetsCeiling, Calls, Opens, Leaves, AsksRegistration, AsksRelease, AsksTermination, Faults, Stuck}
use Rattle.scj_model.specs.Apply.{is_full, ceiling_entered, called, opened_in, frame_left, registered, returned, takes_releases, release_taken, released, waiting_of, most_waiting, asks_for_end, termination, termination_asked, with_first, with_ceiling, with_frame, without, applied}
use Rattle.scj_model.proofs.Reaching.{Gives as StepGives, gives_some}
use Rattle.priority_laws.proofs.StepCases.{step_if, step_option, gives_nothing, gives_mapped}

module _ (code : Code) (s : State) (activity : Activity) (below : List Frame) (position : Position) where
  -- the same rows as before, or handlers may be registered
  abbrev pub RowsStay : State → Type 0
  RowsStay t = (t.registry ≡ s.registry) ⊎ (is_init s.phase ≡ true)

  framed : (t : State) → t.registry ≡ s.registry → (f : Frame) → RowsStay (with_frame t TheSequencer activity f below)
  unfolding with_activity
  framed t e f = inl e

  faults : (fault : RunFault) → RowsStay (fault_in s TheSequencer activity position fault).state
  unfolding fault_in
  faults fault = inl refl

  made : (f : Frame) (class : ℕ) (slots : List Value) →
      RowsStay (allocating s TheSequencer activity position class f.area slots (λ t r.
      silently (with_frame t TheSequencer activity (record f { operands = At r ∷ f.operands }) below))).state
  unfolding allocating
  made f class slots =
      step_if RowsStay (has_room s f.area (length slots)) _ _
      (λ k. framed (with_object s class f.area slots) refl (record f { operands = At (length s.objects) ∷ f.operands }))
      (λ k. faults _)

  call : (f g : Frame) → RowsStay (called code s TheSequencer activity (f ∷ below) position g).state
  unfolding called with_activity
  call f g =
      step_if RowsStay (is_full (f ∷ below)) _ _ (λ k. faults _)
      (λ k. step_option RowsStay (ceiling_entered code s g) _ _ (λ k. inl refl)
      (λ ceiling k. step_if RowsStay (nat_lt ceiling activity.priority) _ _ (λ k. faults _) (λ k. inl refl)))

  entering : (f g : Frame) (scope bytes : ℕ) →
      RowsStay (opened_in s TheSequencer activity (f ∷ below) position g scope bytes).state
  unfolding opened_in opening with_activity
  entering f g scope bytes =
      step_if RowsStay (is_some (area_with_scope s scope activity.areas)) _ _ (λ k. faults _)
      (λ k. step_if RowsStay (is_full (f ∷ below)) _ _ (λ k. faults _)
      (λ k. step_if RowsStay (has_store_for s bytes) _ _ (λ k. inl refl) (λ k. faults _)))

  closed_same : (a : Option ℕ) → (closed s a).registry ≡ s.registry
  unfolding closed
  closed_same None = refl
  closed_same (Some a) = refl

  leave : (f : Frame) (value : Option Value) → RowsStay (frame_left s TheSequencer activity f below value).state
  unfolding frame_left job_ended with_activity
  leave f value = of below
    where
      t : State
      t = closed s f.opened

      after : Activity
      after =
          record activity {
            frames = returned value below;
            areas = without f.opened activity.areas;
            priority = unwrap_or f.saved activity.priority;
          }

      of : (fs : List Frame) → RowsStay
          (elim fs as (λ z. Step) [
            | [] ↦ job_ended t TheSequencer after value
            | g ∷ gs ↦ silently (with_activity t TheSequencer after)
          ]).state
      of [] = inl (closed_same f.opened)
      of (g ∷ gs) = inl (closed_same f.opened)

  register : (f : Frame) (r : ℕ) (x : Object) →
      RowsStay (registered code s TheSequencer activity position r x (with_frame s TheSequencer activity f below)).state
  unfolding registered with_activity
  register f r x = of (is_init s.phase) refl
    where
      of : (b : Bool) → is_init s.phase ≡ b → RowsStay
          (registered code s TheSequencer activity position r x (with_frame s TheSequencer activity f below)).state
      of true e = inr e
      of false e =
          step_if RowsStay (not (is_init s.phase)) _ _ (λ k. faults _) (λ k. absurd (cc (e, k)))

  release : (t : State) (r : ℕ) → t.registry ≡ s.registry → RowsStay (released t r).state
  unfolding released release_taken
  release t r q =
      step_if RowsStay (takes_releases t) _ _
      (λ k. step_option RowsStay (handler_number t.registry r) _ _ (λ k. inl q)
      (λ handler k. step_if RowsStay (not (nat_lt (length (waiting_of t handler)) most_waiting)) _ _
      (λ k. inl q) (λ k. inl q)))
      (λ k. inl q)

  terminate : (t : State) (r : ℕ) → t.registry ≡ s.registry → RowsStay (termination_asked t r).state
  unfolding termination_asked termination
  terminate t r q =
      step_if RowsStay (asks_for_end t.mission t.phase t.is_end_asked r) _ _
      (λ k. step_if RowsStay (is_exec t.phase) _ _ (λ k. inl q) (λ k. inl q)) (λ k. inl q)

  framed_same : (f : Frame) → (with_frame s TheSequencer activity f below).registry ≡ s.registry
  unfolding with_activity
  framed_same f = refl

  pub rows_stay : (d : Effect) → StepGives RowsStay (applied code s TheSequencer activity below position d)
  unfolding applied
  rows_stay (Goes f) = gives_some _ _ (framed s refl f)
  rows_stay (Prints f label value) = gives_some _ _ (framed s refl f)
  rows_stay (Makes f class slots) = gives_some _ _ (made f class slots)
  rows_stay (Stores f r slot v) = gives_some _ _ (framed (with_slot s r slot v) refl f)
  rows_stay (StoresStatic f n v) = gives_some _ _ (framed (record s { statics = slice_set s.statics n v }) refl f)
  rows_stay (SetsHidden f r values) =
      gives_some _ _ (framed (record s { objects = changed (with_first values) r s.objects }) refl f)
  rows_stay (SetsCeiling f r ceiling) =
      gives_some _ _ (framed (record s { objects = changed (with_ceiling ceiling) r s.objects }) refl f)
  rows_stay (Calls f g) = gives_some _ _ (call f g)
  rows_stay (Opens f g scope bytes) = gives_some _ _ (entering f g scope bytes)
  rows_stay (Leaves f value) = gives_some _ _ (leave f value)
  rows_stay (AsksRegistration f r) = gives_mapped _ (object_at s r) _ (λ x k. register f r x)
  rows_stay (AsksRelease f r) = gives_some _ _ (release (with_frame s TheSequencer activity f below) r (framed_same f))
  rows_stay (AsksTermination f r) =
      gives_some _ _ (terminate (with_frame s TheSequencer activity f below) r (framed_same f))
  rows_stay (Faults fault) = gives_some _ _ (faults fault)
  rows_stay Stuck = gives_nothing _

  -- the reading of a form registers nothing
  pub form_registers_none : (f : Frame) (r : ℕ) (values : List Value) →
      StepGives (λ t. t.registry ≡ s.registry)
      (applied code s TheSequencer activity below position (SetsHidden f r values))
  unfolding applied with_activity
  form_registers_none f r values = gives_some _ _ refl
