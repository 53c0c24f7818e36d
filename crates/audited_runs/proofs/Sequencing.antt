-- The operations of the sequencer outside execution: what they tell, and what they leave.
use Rattle.std.proofs.Common.{◌∙◌, ◌≡◌, ℕ, nat_lt, Bool, true, false, not, ◌&&◌, List, [], ◌∷◌, length, map, Option, Some, None, if◌then◌else◌, refl, sym, ap, subst}
use Rattle.std.specs.Prelude.{ℤ, ◌+◌, ◌++◌, ◌==◌, unwrap_or, is_some}
use Rattle.scj_base.specs.declared.positions.Position.{Position}
use Rattle.scj_base.specs.declared.faults.RunFault.{RunFault}
use Rattle.scj_base.specs.declared.faults.RunFault.TheVariants.{NotInitializing, TooManyHandlers}
use Rattle.scj_base.specs.declared.values.Value.TheVariants.{Null}
use Rattle.scj_base.specs.declared.values.Value.{Value}
use Rattle.scj_model.specs.declared.events.Event.TheVariants.{Terminate}
use Rattle.scj_model.specs.Code.{Code}
use Rattle.scj_model.specs.State.{MemoryArea, Object, Frame, Activity, TheSequencer, State, with_activity, is_init, is_exec}
use Rattle.scj_model.specs.Registry.{most_handlers, handler_number}
use Rattle.scj_model.specs.Memory.{closed, has_room, has_store_for, area_with_scope, with_area, with_object}
use Rattle.scj_model.specs.Steps.{Step, silently, reporting, job_ended, fault_in, allocating, opening}
use Rattle.scj_model.specs.Apply.{is_full, called, opened_in, frame_left, release_taken, registered, released, termination, termination_asked, asks_for_end, ceiling_entered, dropped_release, report_dropped}
use Rattle.scj_model.specs.declared.events.Event.{Event}
use Rattle.scj_model.specs.declared.events.Event.TheVariants as event
use Rattle.scj_model.specs.Plan.{Plan}
use Rattle.scj_model.specs.TraceText.{unit_of}
use Rattle.scj_model.specs.Apply.{report_priority, class_name}
use Rattle.scj_model.specs.Registry.{new_row}
use Rattle.trace_audit.specs.Replay.{Replay}
use Rattle.audited_runs.proofs.Executing.{beside_same, beside_then}
use Rattle.audited_runs.proofs.Acting.{none_reported, print_reports_none}
use Rattle.audited_runs.proofs.Following.{Around, Sequences, SeqReported, around_reported, faults_reported, quiet_reported}
use Rattle.audited_runs.proofs.Registering.{register_reported}

abbrev pub SeqOf : Plan → State → Replay → Step → Type 0
SeqOf plan s r step = SeqReported plan s.unit r step.state step.events

pub around_same : (s : State) → Around s s
around_same s = record { beside = beside_same s; operation = refl }

around_then : (s t u : State) → Around s t → Around t u → Around s u
around_then s t u h k =
    record { beside = beside_then s t u h.beside k.beside; operation = k.operation ∙ h.operation }

around_closed : (s : State) (a : Option ℕ) → Around s (closed s a)
unfolding closed
around_closed s None = around_same s
around_closed s (Some a) =
    record {
      beside = record {
        alike = record { registry = refl; earlier = refl; last = refl; phase = refl; unit = refl; origin = refl };
        releases = refl;
      };
      operation = refl;
    }

-- a state that differs in memory, in the frames of the sequencer and in what its operation is done with
pub around_parts : (s : State) (objects : List Object) (areas : List MemoryArea) (statics : List Value) (activity : Activity)
    (outcome : Option Value) →
    Around s (record s { objects = objects; areas = areas; statics = statics; activity = activity; outcome = outcome })
around_parts s objects areas statics activity outcome =
    record {
      beside = record {
        alike = record { registry = refl; earlier = refl; last = refl; phase = refl; unit = refl; origin = refl };
        releases = refl;
      };
      operation = refl;
    }

module _ (plan : Plan) (s : State) (r : Replay) (h : Sequences plan s r) where
  pub seq_if : (b : Bool) (x y : Step) → SeqOf plan s r x → SeqOf plan s r y → SeqOf plan s r (if b then x else y)
  seq_if true x y k l = k
  seq_if false x y k l = l

  pub seq_option : {A : Type 0} (o : Option A) (x : Step) (f : A → Step) → SeqOf plan s r x →
      ((a : A) → SeqOf plan s r (f a)) → SeqOf plan s r (elim o as (λ z. Step) [ None ↦ x | Some a ↦ f a ])
  seq_option None x f k l = k
  seq_option (Some a) x f k l = l a

  pub seq_fault : (activity : Activity) (position : Position) (fault : RunFault) →
      SeqOf plan s r (fault_in s TheSequencer activity position fault)
  seq_fault activity position fault = faults_reported plan s r activity position fault h

  pub quiet : (t : State) → Around s t → SeqOf plan s r (silently t)
  quiet t a = quiet_reported plan s t r h a

  pub gets : (t : State) (activity : Activity) → Around s t → Around s (record t { activity = activity })
  gets t activity a =
      around_then s t (record t { activity = activity }) a
      (around_parts t t.objects t.areas t.statics activity t.outcome)

  pub gets_done : (t : State) (activity : Activity) (outcome : Option Value) → Around s t →
      Around s (record t { activity = activity; outcome = outcome })
  gets_done t activity outcome a =
      around_then s t (record t { activity = activity; outcome = outcome }) a
      (around_parts t t.objects t.areas t.statics activity outcome)

  -- the priority of the sequencer is never told
  no_priority : (before after : ℕ) → report_priority s TheSequencer before after ≡ []
  no_priority before after = go (before == after)
    where
      go : (b : Bool) → ◌≡◌ {A = List Event} (if b then [] else []) []
      go true = refl
      go false = refl

  pub seq_called : (code : Code) (activity : Activity) (frames : List Frame) (position : Position) (g : Frame) →
      SeqOf plan s r (called code s TheSequencer activity frames position g)
  unfolding called with_activity
  seq_called code activity frames position g =
      seq_if (is_full frames) _ _ (seq_fault activity position _)
      (seq_option (ceiling_entered code s g) _ _ (quiet _ (gets s _ (around_same s)))
      (λ ceiling. seq_if (nat_lt ceiling activity.priority) _ _ (seq_fault activity position _)
      (subst (λ es. SeqReported plan s.unit r
      (record s {
        activity = record activity {
          frames = record g { saved = Some activity.priority } ∷ frames;
          priority = ceiling;
        };
      }) es) (sym (no_priority activity.priority ceiling)) (quiet _ (gets s _ (around_same s))))))

  pub seq_opening : (activity : Activity) (position : Position) (scope : ℕ) (parent : Option ℕ) (bytes : ℕ)
      (next : State → ℕ → Step) → ((t : State) (a : ℕ) → Around s t → SeqOf plan s r (next t a)) →
      SeqOf plan s r (opening s TheSequencer activity position scope parent bytes next)
  unfolding opening
  seq_opening activity position scope parent bytes next k =
      seq_if (has_store_for s bytes) _ _
      (k (with_area s scope parent bytes) (length s.areas) (around_parts s s.objects _ s.statics s.activity s.outcome))
      (seq_fault activity position _)

  pub seq_allocating : (activity : Activity) (position : Position) (class area : ℕ) (slots : List Value)
      (next : State → ℕ → Step) → ((t : State) (a : ℕ) → Around s t → SeqOf plan s r (next t a)) →
      SeqOf plan s r (allocating s TheSequencer activity position class area slots next)
  unfolding allocating
  seq_allocating activity position class area slots next k =
      seq_if (has_room s area (length slots)) _ _
      (k (with_object s class area slots) (length s.objects)
      (around_parts s _ s.areas s.statics s.activity s.outcome))
      (seq_fault activity position _)

  pub seq_opened : (activity : Activity) (frames : List Frame) (position : Position) (g : Frame) (scope bytes : ℕ) →
      SeqOf plan s r (opened_in s TheSequencer activity frames position g scope bytes)
  unfolding opened_in with_activity
  seq_opened activity frames position g scope bytes =
      seq_if (is_some (area_with_scope s scope activity.areas)) _ _ (seq_fault activity position _)
      (seq_if (is_full frames) _ _ (seq_fault activity position _)
      (seq_opening activity position scope (Some g.area) bytes _ (λ t a k. quiet _ (gets t _ k))))

  pub seq_left : (activity : Activity) (f : Frame) (below : List Frame) (value : Option Value) →
      SeqOf plan s r (frame_left s TheSequencer activity f below value)
  unfolding frame_left job_ended with_activity
  seq_left activity f below value = go _ below
    where
      c : Around s (closed s f.opened)
      c = around_closed s f.opened

      go : (a : Activity) (fs : List Frame) → SeqOf plan s r
          (let second : Step =
          elim fs as (λ z. Step) [
            | [] ↦ job_ended (closed s f.opened) TheSequencer a value
            | g ∷ gs ↦ silently (with_activity (closed s f.opened) TheSequencer a)
          ] in
          reporting second.state
          (report_priority s TheSequencer activity.priority (unwrap_or f.saved activity.priority) ++ second.events))
      go a [] =
          subst (λ es. SeqReported plan s.unit r
          (record (closed s f.opened) { activity = a; outcome = Some (unwrap_or value Null) }) (es ++ []))
          (sym (no_priority activity.priority (unwrap_or f.saved activity.priority)))
          (quiet _ (gets_done (closed s f.opened) a (Some (unwrap_or value Null)) c))
      go a (g ∷ gs) =
          subst (λ es. SeqReported plan s.unit r (record (closed s f.opened) { activity = a }) (es ++ []))
          (sym (no_priority activity.priority (unwrap_or f.saved activity.priority)))
          (quiet _ (gets (closed s f.opened) a c))

  -- an end is asked, of whatever mission
  pub seq_asked : (t : State) → Around s t → (mission : ℕ) → SeqOf plan s r (termination_asked t mission)
  unfolding termination_asked termination
  seq_asked t a mission =
      seq_if (asks_for_end t.mission t.phase t.is_end_asked mission) _ _
      (subst (λ (b : Bool). SeqOf plan s r
      (if b
      then reporting (record t { is_end_asked = true; releases = map dropped_release t.releases })
      (Terminate t.unit ∷ report_dropped t)
      else silently (record t { is_end_asked = true })))
      (sym (ap is_exec a.beside.alike.phase ∙ h.out))
      (quiet (record t { is_end_asked = true })
      (around_then s t (record t { is_end_asked = true }) a
      (record {
        beside = record {
          alike = record { registry = refl; earlier = refl; last = refl; phase = refl; unit = refl; origin = refl };
          releases = refl;
        };
        operation = refl;
      }))))
      (quiet t a)

  pub seq_released : (t : State) → Around s t → (object : ℕ) → SeqOf plan s r (released t object)
  unfolding released
  seq_released t a object =
      subst (λ b. SeqOf plan s r
      (if b
      then (elim (handler_number t.registry object) as (λ z. Step) [
        | None ↦ silently t
        | Some handler ↦ release_taken t handler
      ])
      else silently t))
      (sym (ap (λ b. b && not t.is_end_asked) (ap is_exec a.beside.alike.phase ∙ h.out))) (quiet t a)

  pub seq_registered : (code : Code) (activity : Activity) (position : Position) (object : ℕ) (o : Object) (after : State) →
      Around s after → SeqOf plan s r (registered code s TheSequencer activity position object o after)
  unfolding registered
  seq_registered code activity position object o after a = go (is_init s.phase) refl
    where
      go : (b : Bool) → is_init s.phase ≡ b → SeqOf plan s r
          (if not b then fault_in s TheSequencer activity position NotInitializing
          else (if is_some (handler_number s.registry object) then silently after
          else (if not (nat_lt (length s.registry) most_handlers)
          then fault_in s TheSequencer activity position TooManyHandlers
          else (let row = new_row code.program object o in
          reporting (record after { registry = after.registry ++ row ∷ [] })
          (event.Register s.unit (length s.registry + 1) (class_name code o.class) row.priority ∷ [])))))
      go false e = seq_fault activity position _
      go true e =
          seq_if (is_some (handler_number s.registry object)) _ _ (quiet after a)
          (seq_if (not (nat_lt (length s.registry) most_handlers)) _ _ (seq_fault activity position _)
          (register_reported plan s after r (new_row code.program object o) (class_name code o.class) h a e))

  pub seq_print : (t : State) (label : ℕ) (value : ℤ) → Around s t →
      SeqReported plan s.unit r t (event.Print s.unit label value ∷ [])
  unfolding unit_of
  seq_print t label value a =
      around_reported plan s t r (event.Print s.unit label value ∷ []) h a
      (none_reported plan s.unit r (event.Print s.unit label value) (print_reports_none s.unit label value) h.live refl)
