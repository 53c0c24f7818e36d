-- The sequencer's own operations, START, what follows an operation, and arrivals keep what holds of the frames of each
-- job, where it holds of new frames.
use Rattle.std.specs.Prelude.{Option, Some, None, slice_get, if◌then◌else◌, length, option_map, codes, ◌&&◌, not, ◌+◌}
use Rattle.std.proofs.Common.{◌≡◌, ℕ, List, [], ◌∷◌, Bool, true, false, refl, subst}
use Rattle.scj_base.specs.declared.faults.RunFault.TheVariants.{MemoryFull, NullPointer, StoreFull}
use Rattle.scj_base.specs.declared.positions.Position.{Position}
use Rattle.scj_base.specs.declared.values.Value.{Value}
use Rattle.scj_base.specs.declared.values.Value.TheVariants.{Null, At}
use Rattle.scj_rules.specs.declared.views.Body.{Body}
use Rattle.scj_rules.specs.Words.{◌>>=◌}
use Rattle.scj_rules.specs.ScopeRules.{immortal_scope, defined_by_chain}
use Rattle.scj_rules.specs.Bodies.{body_named, constructor_body, size_of, safelet_class, class_position}
use Rattle.accepted_laws.proofs.Tools.{some_inj}
use Rattle.scj_model.specs.declared.events.Event.{Event}
use Rattle.scj_model.specs.declared.events.Event.TheVariants.{Miss}
use Rattle.scj_model.specs.declared.operations.SeqOp.{SeqOp}
use Rattle.scj_model.specs.declared.operations.SeqOp.TheVariants.{OpenImmortal, AllocSafelet, ConstructSafelet, InitializeApplication, GetSequencer, GetNextMission, OpenMission, Initialize, CleanUp, Execute, Finished}
use Rattle.scj_model.specs.declared.phases.Phase.TheVariants.{Cleanup}
use Rattle.scj_model.specs.declared.handlers.HandlerRow.{HandlerRow}
use Rattle.scj_model.specs.declared.plans.Fire.{Fire}
use Rattle.scj_model.specs.Code.{Code}
use Rattle.scj_model.specs.Plan.{Plan}
use Rattle.scj_model.specs.State.{Frame, Activity, Release, Job, TheSequencer, ReleaseAt, State, activity_of, with_activity, object_at, is_exec}
use Rattle.scj_model.specs.Memory.{with_area, with_object, new_slots, has_room, has_store_for}
use Rattle.scj_model.specs.Registry.{handler_row}
use Rattle.scj_model.specs.Steps.{Step, silently, reporting, allocating, opening, fault_in, for_each}
use Rattle.scj_model.specs.Effects.{new_frame}
use Rattle.scj_model.specs.Apply.{release_taken}
use Rattle.scj_model.specs.Sequencer.{innermost, done, area_opened, safelet_made, body_called, method_called, sequencer_op, SeqEffect, Continues, TakesSafelet, TakesSequencer, TakesMission, LacksSequencer, LacksMission, BeginsMission, BeginsExecution, SkipsExecution, EndsExecution, ClosesMission, Transition, gone_to, mission_closed, seq_applied, transition_done, after_operation, after_execution, has_started, goes_to, phase_after, position_of_object}
use Rattle.scj_model.specs.Arrivals.{arrivals, executes_since, fired, fired_at, fired_handler, due_handlers, fires_due}
use Rattle.scj_model.specs.Run.{no_activity, started_with, start_op, empty_state}
use Rattle.reference_sound.proofs.Closing.{one_closes}
use Rattle.certain_faults.proofs.Jobs.{Jobs, jobs_still, jobs_of, sequencer_has, jobs_on, jobs_faulted, Lead, leads, none_leads, any_leads, taken_jobs}

module _ (code : Code) (J : List Frame → Type 0)
    (fresh : (body : Body) (called_at this : Option ℕ) (area : ℕ) (opened : Option ℕ) →
    J (record (new_frame code body called_at this area []) { opened = opened } ∷ [])) where
  -- ---- the sequencer's own operations

  module _ (s : State) (held : Jobs J s) where
    opened_jobs : (place : Position) (scope bytes : ℕ) → Jobs J (area_opened s place scope bytes).state
    unfolding area_opened opening
    opened_jobs place scope bytes = go (has_store_for s bytes)
      where
        go : (b : Bool) → Jobs J (if b
            then silently
            (done
            (record (with_area s scope (innermost s.activity.areas) bytes)
            { activity = record s.activity { areas = length s.areas ∷ s.activity.areas } }) Null)
            else fault_in s TheSequencer s.activity place StoreFull).state
        go true =
            jobs_of J s
            (done
            (record (with_area s scope (innermost s.activity.areas) bytes)
            { activity = record s.activity { areas = length s.areas ∷ s.activity.areas } }) Null)
            refl (sequencer_has J s held) held
        go false = jobs_faulted J s TheSequencer s.activity place StoreFull held

    made_jobs : (place : Position) (class area : ℕ) → Jobs J (safelet_made code s place class area).state
    unfolding safelet_made allocating
    made_jobs place class area = go (has_room s area (length (new_slots code.program class)))
      where
        go : (b : Bool) → Jobs J (if b
            then silently (done (with_object s class area (new_slots code.program class)) (At (length s.objects)))
            else fault_in s TheSequencer s.activity place MemoryFull).state
        go true =
            jobs_still J s (done (with_object s class area (new_slots code.program class)) (At (length s.objects))) refl
            refl held
        go false = jobs_faulted J s TheSequencer s.activity place MemoryFull held

    called_jobs : (r : ℕ) (body : Body) → Lead J (body_called code s r body)
    unfolding body_called new_frame
    called_jobs r body =
        any_leads J (innermost s.activity.areas) _ (λ area e.
        leads J _ (jobs_of J s (called area) refl (begun area) held))
      where
        called : ℕ → State
        called area =
            record s { activity = record s.activity { frames = new_frame code body None (Some r) area [] ∷ [] } }

        begun : (area : ℕ) → J (new_frame code body None (Some r) area [] ∷ [])
        begun area = fresh body None (Some r) area None

    method_jobs : (r : ℕ) (name : List ℕ) → Lead J (method_called code s r name)
    method_jobs r name =
        any_leads J (object_at s r) _ (λ o e.
        any_leads J (body_named code.program o.class name) _ (λ body k. called_jobs r body))

    pub sequencer_jobs : (op : SeqOp) → Lead J (sequencer_op code s op)
    unfolding sequencer_op
    sequencer_jobs OpenImmortal =
        any_leads J (safelet_class code.program) _ (λ class e.
        any_leads J (size_of code.program class) _ (λ bytes k.
        leads J _ (opened_jobs (class_position code.program class) immortal_scope bytes)))
    sequencer_jobs AllocSafelet =
        any_leads J (safelet_class code.program) _ (λ class e.
        any_leads J (innermost s.activity.areas) _ (λ area k.
        leads J _ (made_jobs (class_position code.program class) class area)))
    sequencer_jobs (ConstructSafelet r) =
        any_leads J (object_at s r) _ (λ o e.
        any_leads J (constructor_body code.program o.class) _ (λ body k. called_jobs r body))
    sequencer_jobs (InitializeApplication r) = method_jobs r (codes "initializeApplication")
    sequencer_jobs (GetSequencer r) = method_jobs r (codes "getSequencer")
    sequencer_jobs (GetNextMission r) = method_jobs r (codes "getNextMission")
    sequencer_jobs (OpenMission r) =
        any_leads J (object_at s r) _ (λ o e.
        any_leads J (defined_by_chain code.program o.class) _ (λ scope k.
        any_leads J (size_of code.program o.class) _ (λ bytes l.
        leads J _ (opened_jobs (class_position code.program o.class) scope bytes))))
    sequencer_jobs (Initialize r) = method_jobs r (codes "initialize")
    sequencer_jobs (CleanUp r) = method_jobs r (codes "cleanUp")
    sequencer_jobs Execute = none_leads J
    sequencer_jobs Finished = none_leads J

    -- ---- START

    begun_jobs : (place : ℕ) (row : HandlerRow) (scope : ℕ) (body : Body) →
        Jobs J (started_with code s place row scope body).state
    unfolding started_with opening
    begun_jobs place row scope body = go (has_store_for s row.bytes)
      where
        begun : Activity
        begun =
            record {
              frames =
                  record (new_frame code body None (Some row.at) (length s.areas) []) { opened = Some (length s.areas) }
                  ∷ [];
              areas = length s.areas ∷ s.activity.areas;
              priority = row.priority;
            }

        go : (b : Bool) → Jobs J (if b
            then silently
            (with_activity (with_area s scope (innermost s.activity.areas) row.bytes) (ReleaseAt place) begun)
            else fault_in s (ReleaseAt place) no_activity (class_position code.program row.class) StoreFull).state
        go true =
            jobs_on J (with_area s scope (innermost s.activity.areas) row.bytes) (ReleaseAt place) begun
            (fresh body None (Some row.at) (length s.areas) (Some (length s.areas)))
            (jobs_still J s (with_area s scope (innermost s.activity.areas) row.bytes) refl refl held)
        go false = jobs_faulted J s (ReleaseAt place) no_activity (class_position code.program row.class) StoreFull held

    pub start_jobs : (place : ℕ) (r : Release) → Lead J (start_op code s place r)
    unfolding start_op
    start_jobs place r =
        any_leads J (handler_row s.registry r.handler) _ (λ row e.
        any_leads J (defined_by_chain code.program row.class) _ (λ scope k.
        any_leads J (body_named code.program row.class (codes "handleAsyncEvent")) _ (λ body l.
        leads J _ (begun_jobs place row scope body))))

  -- ---- what follows an operation of the sequencer

  module _ (s : State) (held : Jobs J s) where
    effect_jobs : (effect : SeqEffect) → Jobs J (seq_applied code s effect).state
    unfolding seq_applied
    effect_jobs Continues = held
    effect_jobs (TakesSafelet r) = jobs_still J s (record s { safelet = Some r }) refl refl held
    effect_jobs (TakesSequencer r) = jobs_still J s (record s { mission_sequencer = Some r }) refl refl held
    effect_jobs (TakesMission r) =
        jobs_still J s (record s { mission = Some r; is_end_asked = false; earlier_releases = length s.releases }) refl
        refl held
    effect_jobs (LacksSequencer safelet) =
        jobs_faulted J s TheSequencer s.activity (position_of_object code s safelet) NullPointer held
    effect_jobs LacksMission = held
    effect_jobs (BeginsMission r) = held
    effect_jobs BeginsExecution =
        jobs_still J s (record s { origin = s.unit + 1; last_choice = None }) refl refl held
    effect_jobs SkipsExecution = held
    effect_jobs EndsExecution = held
    effect_jobs ClosesMission =
        (let c = one_closes s (innermost s.activity.areas) in
        jobs_of J s (mission_closed s) c.releases (sequencer_has J s held) held)

  module _ (s : State) (held : Jobs J s) where
    transition_jobs : (o : Option Transition) → Lead J (option_map (transition_done code s) o)
    transition_jobs None = none_leads J
    transition_jobs (Some t) =
        leads J _ (effect_jobs (gone_to s t) (jobs_still J s (gone_to s t) refl refl held) t.effect)

    outcome_jobs : (o : Option Value) →
        Lead J
        (elim o as (λ z. Option Step) [ None ↦ Some (silently s) | Some value ↦ after_operation code s value ])
    outcome_jobs None = leads J (silently s) held
    outcome_jobs (Some value) = transition_jobs _

    execution_jobs : Lead J (after_execution code s)
    execution_jobs = go (s.is_end_asked && not (has_started s))
      where
        go : (b : Bool) → Lead J (if b
            then option_map (transition_done code s) (s.mission >>= (λ r. goes_to Cleanup (CleanUp r) EndsExecution))
            else Some (silently s))
        go true = transition_jobs (s.mission >>= (λ r. goes_to Cleanup (CleanUp r) EndsExecution))
        go false = leads J (silently s) held

    pub phase_jobs : Lead J (phase_after code s)
    unfolding phase_after
    phase_jobs = go (is_exec s.phase)
      where
        go : (b : Bool) → Lead J (if b then after_execution code s
            else (elim s.outcome as (λ z. Option Step)
            [ None ↦ Some (silently s) | Some value ↦ after_operation code s value ]))
        go true = execution_jobs
        go false = outcome_jobs s.outcome

-- ---- arrivals

each_keeps : {A : Type 0} (J : List Frame → Type 0) (step : State → A → Step) →
    ((s : State) (x : A) → Jobs J s → Jobs J (step s x).state) → (xs : List A) (s : State) →
    Jobs J s → Jobs J (for_each step xs s).state
unfolding for_each
each_keeps J step h [] s held = held
each_keeps J step h (x ∷ xs) s held = each_keeps J step h xs (step s x).state (h s x held)

module _ (code : Code) (J : List Frame → Type 0) where
  fired_jobs : (s : State) (fire : Fire) → Jobs J s → Jobs J (fired code s fire).state
  unfolding fired
  fired_jobs s fire held = go (fired_handler code s fire.handler) (Miss s.unit fire.handler ∷ [])
    where
      go : (o : Option ℕ) (events : List Event) → Jobs J (elim o as (λ z. Step) [
        | Some handler ↦ release_taken s handler
        | None ↦ reporting s events
      ]).state
      go None events = held
      go (Some handler) events = taken_jobs J s handler held

  at_jobs : (fires : List Fire) (s : State) (index : ℕ) → Jobs J s → Jobs J (fired_at code fires s index).state
  at_jobs fires s index held = go (slice_get fires index)
    where
      go : (o : Option Fire) →
          Jobs J (elim o as (λ z. Step) [ None ↦ silently s | Some fire ↦ fired code s fire ]).state
      go None = held
      go (Some fire) = fired_jobs s fire held

  pub arrival_jobs : (plan : Plan) (s : State) → Jobs J s → Jobs J (arrivals code plan s).state
  unfolding arrivals
  arrival_jobs plan s held =
      each_keeps J (fired_at code plan.fires) (λ t index h. at_jobs plan.fires t index h)
      (fires_due (executes_since s) s.unit plan.fires) (for_each release_taken (due_handlers s) s).state
      (each_keeps J release_taken (λ t handler h. taken_jobs J t handler h) (due_handlers s) s held)

  pub first_jobs : J [] → (plan : Plan) → Jobs J (empty_state code plan)
  unfolding empty_state activity_of
  first_jobs none plan = record { are = λ job a e. go job a e }
    where
      go : (job : Job) (a : Activity) → activity_of (empty_state code plan) job ≡ Some a → J a.frames
      go TheSequencer a e = subst (λ (x : Activity). J x.frames) (some_inj no_activity a e) none
      go (ReleaseAt index) a e = absurd (cc (e))
