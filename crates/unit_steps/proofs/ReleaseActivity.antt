-- An effect doesn't see the activity of the release that acts in the state: it is given beside the state, and put back
-- or given up at the end.
use Rattle.std.specs.Prelude.{Option, Some, None, if◌then◌else◌, ◌==◌, is_some, nat_lt, not, unwrap_or, option_map, ◌++◌, ◌+◌, slice_set}
use Rattle.std.proofs.Common.{◌≡◌, ℕ, Bool, List, [], ◌∷◌, length, refl, ◌∙◌, ap}
use Rattle.scj_base.specs.declared.faults.RunFault.{RunFault}
use Rattle.scj_base.specs.declared.faults.RunFault.TheVariants.{CeilingViolation, DepthFull, MemoryFull, NotInitializing, ScopedCycle, StoreFull, TooManyHandlers}
use Rattle.scj_base.specs.declared.positions.Position.{Position}
use Rattle.scj_base.specs.declared.values.Value.{Value}
use Rattle.scj_base.specs.declared.values.Value.TheVariants.{At}
use Rattle.scj_model.specs.declared.events.Event.{Event}
use Rattle.scj_model.specs.declared.events.Event.TheVariants.{End, Prio, Print, Fault, Register}
use Rattle.scj_model.specs.Code.{Code}
use Rattle.scj_model.specs.State.{Object, Frame, Activity, Ended, Job, Release, ReleaseAt, Started, State, with_activity, with_status, object_at, is_init, changed}
use Rattle.scj_model.specs.Memory.{has_room, has_store_for, used, reserved, closed, with_object, with_area, with_slot, area_with_scope}
use Rattle.scj_model.specs.Registry.{handler_number, most_handlers, new_row}
use Rattle.scj_model.specs.Steps.{Step, silently, reporting, allocating, opening, fault_in, closed_all, job_ended, of_release, then_do}
use Rattle.scj_model.specs.Effects.{Effect, Goes, Prints, Makes, Stores, StoresStatic, SetsHidden, SetsCeiling, Calls, Opens, Leaves, AsksRegistration, AsksRelease, AsksTermination, Faults, Stuck}
use Rattle.scj_model.specs.Apply.{applied, called, ceiling_entered, class_name, frame_left, is_full, opened_in, registered, released, returned, termination_asked, with_first, without, with_frame, report_priority}
use Rattle.unit_steps.proofs.StatusSet.{status_again, reported_alike}
use Rattle.unit_steps.proofs.OwnActivity.{scope_sees_areas}

module _ (code : Code) (s : State) (n : ℕ) (x : Activity) where
  abbrev t : State
  t = with_status s n (Started x)

  abbrev job : Job
  job = ReleaseAt n

  -- in a state with other areas or objects
  put_back : (u : State) (activity : Activity) →
      with_activity (with_status u n (Started x)) job activity ≡ with_activity u job activity
  unfolding with_activity
  put_back u activity = status_again u n (Started x) (Started activity)

  reported_there : (report : Release → List Event) →
      ((r : Release) → report (record r { status = Started x }) ≡ report r) →
      of_release t job report ≡ of_release s job report
  reported_there report h = reported_alike n (Started x) s.releases report h

  closed_there : (u : State) (opened : Option ℕ) →
      closed (with_status u n (Started x)) opened ≡ with_status (closed u opened) n (Started x)
  unfolding closed
  closed_there u None = refl
  closed_there u (Some a) = refl

  all_closed_there : (u : State) (fs : List Frame) →
      closed_all (with_status u n (Started x)) fs ≡ with_status (closed_all u fs) n (Started x)
  unfolding closed_all
  all_closed_there u [] = refl
  all_closed_there u (f ∷ fs) =
      ap (λ v. closed_all v fs) (closed_there u f.opened) ∙ all_closed_there (closed u f.opened) fs

  -- a fault ends the release
  broken : (activity : Activity) (position : Position) (fault : RunFault) →
      fault_in t job activity position fault ≡ fault_in s job activity position fault
  unfolding fault_in
  broken activity position fault =
      ap (λ v. reporting (with_status v n Ended)
      (Fault s.unit fault position ∷ of_release t job (λ r. End s.unit r.handler r.number ∷ [])))
      (all_closed_there s activity.frames)
      ∙ (ap (λ v. reporting v (Fault s.unit fault position ∷ of_release t job (λ r. End s.unit r.handler r.number ∷ [])))
      (status_again (closed_all s activity.frames) n (Started x) Ended)
      ∙ ap (λ events. reporting (with_status (closed_all s activity.frames) n Ended) (Fault s.unit fault position ∷ events))
      (reported_there (λ r. End s.unit r.handler r.number ∷ []) (λ r. refl)))

  -- two ways, each the same
  pub choose : (b d : Bool) → d ≡ b → {a c p q : Step} → p ≡ a → q ≡ c →
      (if d then p else q) ≡ (if b then a else c)
  choose b d e {a} {c} {p} {q} h k =
      ap (λ d. if d then p else q) e ∙ (ap (λ p. if b then p else q) h ∙ ap (λ q. if b then a else q) k)

  reported_priority : (before after : ℕ) → report_priority t job before after ≡ report_priority s job before after
  reported_priority before after =
      ap (λ (events : List Event). if before == after then [] else events)
      (reported_there (λ r. Prio s.unit r.handler after ∷ []) (λ r. refl))

  goes_on : (u : State) (activity : Activity) →
      silently (with_activity (with_status u n (Started x)) job activity) ≡ silently (with_activity u job activity)
  goes_on u activity = ap (λ v. silently v) (put_back u activity)

  called_there : (activity : Activity) (frames : List Frame) (position : Position) (g : Frame) →
      called code t job activity frames position g ≡ called code s job activity frames position g
  unfolding called ceiling_entered
  called_there activity frames position g =
      choose (is_full frames) (is_full frames) refl (broken activity position DepthFull)
      (entered (ceiling_entered code s g))
    where
      entered : (o : Option ℕ) →
          (elim o as (λ z. Step) [
            | None ↦ silently (with_activity t job (record activity { frames = g ∷ frames }))
            | Some ceiling ↦
                if nat_lt ceiling activity.priority then fault_in t job activity position CeilingViolation
                else reporting
                (with_activity t job (record activity {
                  frames = record g { saved = Some activity.priority } ∷ frames;
                  priority = ceiling;
                }))
                (report_priority t job activity.priority ceiling)
          ])
          ≡ (elim o as (λ z. Step) [
            | None ↦ silently (with_activity s job (record activity { frames = g ∷ frames }))
            | Some ceiling ↦
                if nat_lt ceiling activity.priority then fault_in s job activity position CeilingViolation
                else reporting
                (with_activity s job (record activity {
                  frames = record g { saved = Some activity.priority } ∷ frames;
                  priority = ceiling;
                }))
                (report_priority s job activity.priority ceiling)
          ])
      entered None = goes_on s (record activity { frames = g ∷ frames })
      entered (Some ceiling) =
          choose (nat_lt ceiling activity.priority) (nat_lt ceiling activity.priority) refl
          (broken activity position CeilingViolation)
          (let raised : Activity = record activity {
            frames = record g { saved = Some activity.priority } ∷ frames;
            priority = ceiling;
          } in
          ap (λ v. reporting v (report_priority t job activity.priority ceiling)) (put_back s raised)
          ∙ ap (λ events. reporting (with_activity s job raised) events) (reported_priority activity.priority ceiling))

  opened_there : (activity : Activity) (frames : List Frame) (position : Position) (g : Frame) (scope bytes : ℕ) →
      opened_in t job activity frames position g scope bytes ≡ opened_in s job activity frames position g scope bytes
  unfolding opened_in opening has_store_for reserved
  opened_there activity frames position g scope bytes =
      choose (is_some (area_with_scope s scope activity.areas)) (is_some (area_with_scope t scope activity.areas))
      (ap (λ (o : Option ℕ). is_some o) (scope_sees_areas s t refl scope activity.areas))
      (broken activity position ScopedCycle)
      (choose (is_full frames) (is_full frames) refl (broken activity position DepthFull)
      (choose (has_store_for s bytes) (has_store_for s bytes) refl
      (goes_on (with_area s scope (Some g.area) bytes) (record activity {
        frames = record g { area = length s.areas; opened = Some (length s.areas) } ∷ frames;
        areas = length s.areas ∷ activity.areas;
      }))
      (broken activity position StoreFull)))

  ended_there : (u : State) (activity : Activity) (value : Option Value) →
      job_ended (with_status u n (Started x)) job activity value ≡ job_ended u job activity value
  unfolding job_ended
  ended_there u activity value =
      ap (λ v. reporting v (of_release (with_status u n (Started x)) job (λ r. End u.unit r.handler r.number ∷ [])))
      (status_again u n (Started x) Ended)
      ∙ ap (λ events. reporting (with_status u n Ended) events)
      (reported_alike n (Started x) u.releases (λ r. End u.unit r.handler r.number ∷ []) (λ r. refl))

  left_there : (activity : Activity) (f : Frame) (below : List Frame) (value : Option Value) →
      frame_left t job activity f below value ≡ frame_left s job activity f below value
  unfolding frame_left
  left_there activity f below value =
      let priority = unwrap_or f.saved activity.priority in
      let after : Activity = record activity {
        frames = returned value below;
        areas = without f.opened activity.areas;
        priority = priority;
      } in
      ap (λ v. then_do (reporting v (report_priority t job activity.priority priority)) (last after below))
      (closed_there s f.opened)
      ∙ (ap (λ events.
      then_do (reporting (with_status (closed s f.opened) n (Started x)) events) (last after below))
      (reported_priority activity.priority priority)
      ∙ ap (λ (second : Step). reporting second.state (report_priority s job activity.priority priority ++ second.events))
      (last_there after below))
    where
      last : Activity → List Frame → State → Step
      last after below u =
          elim below as (λ z. Step) [
            | [] ↦ job_ended u job after value
            | g ∷ gs ↦ silently (with_activity u job after)
          ]

      last_there : (after : Activity) (below : List Frame) →
          last after below (with_status (closed s f.opened) n (Started x)) ≡ last after below (closed s f.opened)
      last_there after [] = ended_there (closed s f.opened) after value
      last_there after (g ∷ gs) = goes_on (closed s f.opened) after

  registered_there : (activity : Activity) (f : Frame) (below : List Frame) (position : Position) (r : ℕ) (o : Object) →
      registered code t job activity position r o (with_frame t job activity f below)
      ≡ registered code s job activity position r o (with_frame s job activity f below)
  unfolding registered
  registered_there activity f below position r o =
      let back = put_back s (record activity { frames = f ∷ below }) in
      choose (not (is_init s.phase)) (not (is_init s.phase)) refl (broken activity position NotInitializing)
      (choose (is_some (handler_number s.registry r)) (is_some (handler_number s.registry r)) refl
      (ap (λ v. silently v) back)
      (choose (not (nat_lt (length s.registry) most_handlers)) (not (nat_lt (length s.registry) most_handlers)) refl
      (broken activity position TooManyHandlers)
      (ap (λ v. reporting
      (record v { registry = v.registry ++ new_row code.program r o ∷ [] })
      (Register s.unit (length s.registry + 1) (class_name code o.class) (new_row code.program r o).priority ∷ []))
      back)))

  pub release_unseen : (activity : Activity) (below : List Frame) (position : Position) (e : Effect) →
      applied code t job activity below position e ≡ applied code s job activity below position e
  unfolding applied allocating has_room used
  release_unseen activity below position (Goes f) = ap (λ v. Some v) (goes_on s (record activity { frames = f ∷ below }))
  release_unseen activity below position (Prints f label value) =
      ap (λ v. Some (reporting v (Print s.unit label value ∷ []))) (put_back s (record activity { frames = f ∷ below }))
  release_unseen activity below position (Makes f class slots) =
      ap (λ v. Some v)
      (choose (has_room s f.area (length slots)) (has_room s f.area (length slots)) refl
      (goes_on (with_object s class f.area slots) (record activity {
        frames = record f { operands = At (length s.objects) ∷ f.operands } ∷ below;
      }))
      (broken activity position MemoryFull))
  release_unseen activity below position (Stores f r slot value) =
      ap (λ v. Some v) (goes_on (with_slot s r slot value) (record activity { frames = f ∷ below }))
  release_unseen activity below position (StoresStatic f k value) =
      ap (λ v. Some v)
      (goes_on (record s { statics = slice_set s.statics k value }) (record activity { frames = f ∷ below }))
  release_unseen activity below position (SetsHidden f r values) =
      ap (λ v. Some v)
      (goes_on (record s { objects = changed (with_first values) r s.objects }) (record activity { frames = f ∷ below }))
  release_unseen activity below position (SetsCeiling f r ceiling) =
      ap (λ v. Some v) (broken activity position NotInitializing)
  release_unseen activity below position (Calls f g) = ap (λ v. Some v) (called_there activity (f ∷ below) position g)
  release_unseen activity below position (Opens f g scope bytes) =
      ap (λ v. Some v) (opened_there activity (f ∷ below) position g scope bytes)
  release_unseen activity below position (Leaves f value) = ap (λ v. Some v) (left_there activity f below value)
  release_unseen activity below position (AsksRegistration f r) = asked (object_at s r)
    where
      asked : (o : Option Object) →
          option_map (λ (x : Object). registered code t job activity position r x (with_frame t job activity f below)) o
          ≡ option_map (λ (x : Object). registered code s job activity position r x (with_frame s job activity f below)) o
      asked None = refl
      asked (Some o) = ap (λ v. Some v) (registered_there activity f below position r o)
  release_unseen activity below position (AsksRelease f r) =
      ap (λ v. Some (released v r)) (put_back s (record activity { frames = f ∷ below }))
  release_unseen activity below position (AsksTermination f r) =
      ap (λ v. Some (termination_asked v r)) (put_back s (record activity { frames = f ∷ below }))
  release_unseen activity below position (Faults fault) = ap (λ v. Some v) (broken activity position fault)
  release_unseen activity below position Stuck = refl
