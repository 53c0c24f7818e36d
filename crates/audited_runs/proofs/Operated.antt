-- The next operation of a release, by its effect: what it tells, and what it leaves.
use Rattle.std.proofs.Common.{◌≡◌, ℕ, ◌+◌, nat_lt, Bool, true, false, not, List, [], ◌∷◌, ◌++◌, length, Option, Some, None, if◌then◌else◌, refl, sym, ap, subst}
use Rattle.std.specs.Prelude.{ℤ, option_map, slice_get, is_some, codes}
use Rattle.scj_base.specs.declared.positions.Position.{Position}
use Rattle.scj_base.specs.declared.faults.RunFault.TheVariants.{NotInitializing, TooManyHandlers}
use Rattle.scj_base.specs.declared.values.Value.{Value}
use Rattle.scj_rules.specs.Words.{◌>>=◌}
use Rattle.scj_rules.specs.ScopeRules.{defined_by_chain}
use Rattle.scj_rules.specs.Bodies.{body_named, class_position}
use Rattle.scj_model.specs.declared.events.Event.TheVariants as event
use Rattle.scj_model.specs.declared.handlers.HandlerRow.{HandlerRow}
use Rattle.scj_model.specs.declared.operations.Op.{Op}
use Rattle.scj_model.specs.declared.phases.Phase.{Phase}
use Rattle.scj_model.specs.declared.phases.Phase.TheVariants.{Boot, Next, Init, Exec, Cleanup, Over}
use Rattle.scj_model.specs.declared.plans.ReadingRow.{ReadingRow}
use Rattle.scj_model.specs.Code.{Code}
use Rattle.scj_model.specs.Plan.{Plan}
use Rattle.scj_model.specs.TraceText.{unit_of}
use Rattle.scj_model.specs.State.{Object, Frame, Activity, ReleaseStatus, Waits, Started, Ended, Dropped, Release, ReleaseAt, State, with_activity, object_at, is_init, is_exec}
use Rattle.scj_model.specs.Registry.{new_row, most_handlers, handler_number, handler_row}
use Rattle.scj_model.specs.Steps.{Step, silently, reporting, fault_in}
use Rattle.scj_model.specs.Effects.{Effect, Goes, Prints, Makes, Stores, StoresStatic, SetsHidden, SetsCeiling, Calls, Opens, Leaves, AsksRegistration, AsksRelease, AsksTermination, Faults, Stuck}
use Rattle.scj_model.specs.Apply.{class_name, registered, with_frame, applied}
use Rattle.scj_model.specs.Sequencer.{innermost}
use Rattle.scj_model.specs.Choice.{handler_priority}
use Rattle.scj_model.specs.Run.{frame_op, effect_at, position_of_op, start_op, started_with, no_activity, release_op_of, ref_op}
use Rattle.trace_audit.specs.Replay.{Replay}
use Rattle.audited_runs.proofs.InUnit.{Live}
use Rattle.accepted_laws.proofs.Tools.{some_inj}
use Rattle.audited_runs.proofs.Executing.{Acts, Beside, Executes, becomes_from, beside_same}
use Rattle.audited_runs.proofs.Acting.{acts_stays, none_reported, print_reports_none}
use Rattle.audited_runs.proofs.Arriving.{ReportsOf, released_reported, silent_reported}
use Rattle.audited_runs.proofs.Ending.{asked_reported}
use Rattle.audited_runs.proofs.Operating.{allocating_reported, called_reported, fault_reported, gets, left_reported, opened_reported, opening_reported}

-- ---- options

pub record ReportsIf (plan : Plan) (s : State) (r : Replay) (o : Option Step) : Type 0 where
  pub is : (step : Step) → o ≡ Some step → ReportsOf plan s r step

pub reports_some : (plan : Plan) (s : State) (r : Replay) (x : Step) → ReportsOf plan s r x → ReportsIf plan s r (Some x)
reports_some plan s r x h =
    record { is = λ step e. subst (λ (y : Step). ReportsOf plan s r y) (some_inj x step e) h }

pub reports_nothing : (plan : Plan) (s : State) (r : Replay) → ReportsIf plan s r None
reports_nothing plan s r = record { is = λ step e. absurd (cc (e)) }

pub reports_bind : {A : Type 0} (plan : Plan) (s : State) (r : Replay) (o : Option A) (f : A → Option Step) →
    ((a : A) → o ≡ Some a → ReportsIf plan s r (f a)) → ReportsIf plan s r (o >>= f)
reports_bind plan s r None f h = reports_nothing plan s r
reports_bind plan s r (Some a) f h = h a refl

pub reports_mapped : {A : Type 0} (plan : Plan) (s : State) (r : Replay) (o : Option A) (f : A → Step) →
    ((a : A) → ReportsOf plan s r (f a)) → ReportsIf plan s r (option_map f o)
reports_mapped plan s r None f h = reports_nothing plan s r
reports_mapped plan s r (Some a) f h = reports_some plan s r (f a) (h a)

-- in execution nothing is registered
init_not_exec : (phase : Phase) → is_exec phase ≡ true → is_init phase ≡ false
unfolding is_exec is_init
init_not_exec Boot e = refl
init_not_exec Next e = refl
init_not_exec Init e = absurd (cc (e))
init_not_exec Exec e = refl
init_not_exec Cleanup e = refl
init_not_exec Over e = refl

-- ---- effects

module _ (plan : Plan) (code : Code) (s : State) (p : ℕ) (r : Replay) (live : Live plan s.unit r)
    (activity : Activity) (h : Acts s p activity.priority r) where
  beside_objects : (objects : List Object) → Beside s (record s { objects = objects })
  beside_objects objects =
      record {
        alike = record { registry = refl; earlier = refl; last = refl; phase = refl; unit = refl; origin = refl };
        releases = refl;
      }

  beside_statics : (statics : List Value) → Beside s (record s { statics = statics })
  beside_statics statics =
      record {
        alike = record { registry = refl; earlier = refl; last = refl; phase = refl; unit = refl; origin = refl };
        releases = refl;
      }

  with_frame_executes : (f : Frame) (below : List Frame) → Executes (with_frame s (ReleaseAt p) activity f below) r
  unfolding with_activity
  with_frame_executes f below =
      acts_stays s p activity.priority r h (with_frame s (ReleaseAt p) activity f below)
      (record activity { frames = f ∷ below }) refl
      (becomes_from s s p (Started (record activity { frames = f ∷ below })) (beside_same s))

  prints_reported : (f : Frame) (below : List Frame) (label : ℕ) (value : ℤ) →
      ReportsOf plan s r
      (reporting (with_frame s (ReleaseAt p) activity f below) (event.Print s.unit label value ∷ []))
  unfolding with_activity unit_of
  prints_reported f below label value =
      silent_reported plan (with_frame s (ReleaseAt p) activity f below) r (event.Print s.unit label value ∷ [])
      (with_frame_executes f below)
      (none_reported plan s.unit r (event.Print s.unit label value) (print_reports_none s.unit label value) live refl)

  registered_reported : (position : Position) (object : ℕ) (o : Object) (after : State) →
      ReportsOf plan s r (registered code s (ReleaseAt p) activity position object o after)
  unfolding registered
  registered_reported position object o after =
      subst (λ (b : Bool). ReportsOf plan s r
      (if not b then fault_in s (ReleaseAt p) activity position NotInitializing
      else (if is_some (handler_number s.registry object) then silently after
      else (if not (nat_lt (length s.registry) most_handlers) then fault_in s (ReleaseAt p) activity position TooManyHandlers
      else (let row = new_row code.program object o in
      reporting (record after { registry = after.registry ++ row ∷ [] })
      (event.Register s.unit (length s.registry + 1) (class_name code o.class) row.priority ∷ []))))))
      (sym (init_not_exec s.phase h.exec)) (fault_reported plan s p activity.priority r live h activity position _)

  applied_reported : (below : List Frame) (position : Position) (effect : Effect) →
      ReportsIf plan s r (applied code s (ReleaseAt p) activity below position effect)
  unfolding applied with_activity
  applied_reported below position (Goes f) =
      reports_some plan s r _ (gets plan s p activity.priority r live h s _ (beside_same s) refl)
  applied_reported below position (Prints f label value) = reports_some plan s r _ (prints_reported f below label value)
  applied_reported below position (Makes f class slots) =
      reports_some plan s r _ (allocating_reported plan s p activity.priority r live h activity position class f.area slots _
      (λ t a b. gets plan s p activity.priority r live h t _ b refl))
  applied_reported below position (Stores f object slot value) =
      reports_some plan s r _ (gets plan s p activity.priority r live h (record s { objects = _ }) _ (beside_objects _) refl)
  applied_reported below position (StoresStatic f k value) =
      reports_some plan s r _ (gets plan s p activity.priority r live h (record s { statics = _ }) _ (beside_statics _) refl)
  applied_reported below position (SetsHidden f object values) =
      reports_some plan s r _ (gets plan s p activity.priority r live h (record s { objects = _ }) _ (beside_objects _) refl)
  applied_reported below position (SetsCeiling f object ceiling) =
      reports_some plan s r _ (fault_reported plan s p activity.priority r live h activity position _)
  applied_reported below position (Calls f g) =
      reports_some plan s r _ (called_reported plan s p activity.priority r live h code activity (f ∷ below) position g refl)
  applied_reported below position (Opens f g scope bytes) =
      reports_some plan s r _
      (opened_reported plan s p activity.priority r live h activity (f ∷ below) position g scope bytes refl)
  applied_reported below position (Leaves f value) =
      reports_some plan s r _ (left_reported plan s p r activity f below value live h)
  applied_reported below position (AsksRegistration f object) =
      reports_mapped plan s r (object_at s object) _
      (λ o. registered_reported position object o (with_frame s (ReleaseAt p) activity f below))
  applied_reported below position (AsksRelease f object) =
      reports_some plan s r _
      (released_reported plan (with_frame s (ReleaseAt p) activity f below) r object live (with_frame_executes f below))
  applied_reported below position (AsksTermination f object) =
      reports_some plan s r _
      (asked_reported plan (with_frame s (ReleaseAt p) activity f below) r object live (with_frame_executes f below))
  applied_reported below position (Faults fault) =
      reports_some plan s r _ (fault_reported plan s p activity.priority r live h activity position fault)
  applied_reported below position Stuck = reports_nothing plan s r

  frame_reported : (rows : List ReadingRow) → ReportsIf plan s r (frame_op code rows s (ReleaseAt p) activity)
  unfolding frame_op
  frame_reported rows = go activity.frames
    where
      act : (f : Frame) (below : List Frame) (ops : List Op) → ReportsIf plan s r (elim ops [ [] ↦ None | op ∷ rest ↦ applied code s (ReleaseAt p) activity below (position_of_op code op) (effect_at code rows s f op rest) ])
      act f below [] = reports_nothing plan s r
      act f below (op ∷ rest) = applied_reported below (position_of_op code op) (effect_at code rows s f op rest)

      go : (fs : List Frame) → ReportsIf plan s r (elim fs [ [] ↦ None | f ∷ below ↦ elim f.rest [ [] ↦ None | op ∷ rest ↦ applied code s (ReleaseAt p) activity below (position_of_op code op) (effect_at code rows s f op rest) ] ])
      go [] = reports_nothing plan s r
      go (f ∷ below) = act f below f.rest

-- ---- the first operation

priority_of : (s : State) (handler : ℕ) (row : HandlerRow) → handler_row s.registry handler ≡ Some row →
    row.priority ≡ handler_priority s handler
priority_of s handler row e =
    sym (ap (λ (o : Option HandlerRow). elim o as (λ z. ℕ) [ None ↦ 0 | Some x ↦ x.priority ]) e)

start_reported : (plan : Plan) (code : Code) (s : State) (p : ℕ) (r : Replay) (x : Release) → Live plan s.unit r →
    Acts s p (handler_priority s x.handler) r → ReportsIf plan s r (start_op code s p x)
unfolding start_op started_with with_activity
start_reported plan code s p r x live h =
    reports_bind plan s r (handler_row s.registry x.handler) _ (λ row e.
    reports_bind plan s r (defined_by_chain code.program row.class) _ (λ scope f.
    reports_bind plan s r (body_named code.program row.class (codes "handleAsyncEvent")) _ (λ body g.
    reports_some plan s r _
    (opening_reported plan s p (handler_priority s x.handler) r live h no_activity (class_position code.program row.class) scope
    (innermost s.activity.areas) row.bytes _
    (λ t a b. gets plan s p (handler_priority s x.handler) r live h t _ b (priority_of s x.handler row e))))))

-- ---- any operation

-- the active priority with which a release acts
unfoldable pub active_of : State → Release → ReleaseStatus → ℕ
active_of s x Waits = handler_priority s x.handler
active_of s x (Started activity) = activity.priority
active_of s x Ended = 0
active_of s x Dropped = 0

release_reported : (plan : Plan) (code : Code) (rows : List ReadingRow) (s : State) (p : ℕ) (r : Replay) (x : Release)
    (status : ReleaseStatus) → Live plan s.unit r → Acts s p (active_of s x status) r →
    ReportsIf plan s r
    (elim status as (λ z. Option Step) [
      | Waits ↦ start_op code s p x
      | Started activity ↦ frame_op code rows s (ReleaseAt p) activity
      | Ended ↦ None
      | Dropped ↦ None
    ])
unfolding active_of
release_reported plan code rows s p r x Waits live h = start_reported plan code s p r x live h
release_reported plan code rows s p r x (Started activity) live h = frame_reported plan code s p r live activity h rows
release_reported plan code rows s p r x Ended live h = reports_nothing plan s r
release_reported plan code rows s p r x Dropped live h = reports_nothing plan s r

pub operation_reported : (plan : Plan) (code : Code) (rows : List ReadingRow) (s : State) (p : ℕ) (r : Replay)
    (x : Release) → slice_get s.releases p ≡ Some x → Live plan s.unit r → Acts s p (active_of s x x.status) r →
    ReportsIf plan s r (ref_op code rows s (ReleaseAt p))
unfolding ref_op release_op_of
operation_reported plan code rows s p r x there live h =
    subst (λ (o : Option Release). ReportsIf plan s r (o >>= release_op_of code rows s p)) (sym there)
    (release_reported plan code rows s p r x x.status live h)
