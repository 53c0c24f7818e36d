-- The areas of each state that a run comes to: what holds of the scopes and the bytes with which they are opened.
use Rattle.std.specs.Prelude.{Option, Some, None, slice_get, if◌then◌else◌, length, option_map, codes, ◌&&◌, not, ◌+◌, ◌++◌}
use Rattle.std.proofs.Common.{◌≡◌, ℕ, zero, suc, List, [], ◌∷◌, Bool, true, false, refl, sym, ◌∙◌, ap, subst}
use Rattle.scj_base.specs.declared.faults.RunFault.TheVariants.{MemoryFull, NullPointer, StoreFull}
use Rattle.scj_base.specs.declared.positions.Position.{Position}
use Rattle.scj_base.specs.declared.values.Value.{Value}
use Rattle.scj_base.specs.declared.values.Value.TheVariants.{Null, At}
use Rattle.scj_builtins.specs.Framework.{mission}
use Rattle.scj_rules.specs.declared.views.Body.{Body}
use Rattle.scj_rules.specs.Words.{◌>>=◌}
use Rattle.scj_rules.specs.Classes.{is_sub}
use Rattle.scj_rules.specs.ScopeRules.{immortal_scope, defined_by_chain, is_handler, parent_scope}
use Rattle.scj_rules.specs.Bodies.{body_named, constructor_body, size_of, safelet_class, class_position}
use Rattle.accepted_laws.proofs.Tools.{some_inj}
use Rattle.scj_model.specs.declared.events.Event.{Event}
use Rattle.scj_model.specs.declared.events.Event.TheVariants.{Miss}
use Rattle.scj_model.specs.declared.operations.Op.{Op}
use Rattle.scj_model.specs.declared.operations.SeqOp.{SeqOp}
use Rattle.scj_model.specs.declared.operations.SeqOp.TheVariants.{OpenImmortal, AllocSafelet, ConstructSafelet, InitializeApplication, GetSequencer, GetNextMission, OpenMission, Initialize, CleanUp, Execute, Finished}
use Rattle.scj_model.specs.declared.phases.Phase.TheVariants.{Cleanup}
use Rattle.scj_model.specs.declared.handlers.HandlerRow.{HandlerRow}
use Rattle.scj_model.specs.declared.plans.Fire.{Fire}
use Rattle.scj_model.specs.declared.plans.ReadingRow.{ReadingRow}
use Rattle.scj_model.specs.Code.{Code}
use Rattle.scj_model.specs.Plan.{Plan}
use Rattle.scj_model.specs.State.{Object, Frame, Activity, Waits as Waiting, Started, Ended, Dropped, ReleaseStatus, Release, Job, TheSequencer, ReleaseAt, State, Turn, IdleTurn, TurnOf, activity_in, activity_of, with_activity, object_at, is_exec}
use Rattle.scj_model.specs.Memory.{closed, with_area, with_object, new_slots, has_room, has_store_for}
use Rattle.scj_model.specs.Registry.{handler_row}
use Rattle.scj_model.specs.Steps.{Step, silently, reporting, allocating, opening, fault_in, for_each, then_try}
use Rattle.scj_model.specs.Effects.{new_frame}
use Rattle.scj_model.specs.Apply.{applied, release_taken}
use Rattle.scj_model.specs.Sequencer.{innermost, done, area_opened, safelet_made, body_called, method_called, sequencer_op, SeqEffect, Continues, TakesSafelet, TakesSequencer, TakesMission, LacksSequencer, LacksMission, BeginsMission, BeginsExecution, SkipsExecution, EndsExecution, ClosesMission, Transition, gone_to, mission_closed, seq_applied, transition_done, after_operation, after_execution, has_started, goes_to, phase_after, position_of_object}
use Rattle.scj_model.specs.Arrivals.{arrivals, executes_since, fired, fired_at, fired_handler, due_handlers, fires_due}
use Rattle.scj_model.specs.Choice.{Policy, by_list}
use Rattle.scj_model.specs.Run.{acts, effect_at, empty_state, environment, frame_op, next_unit, no_activity, position_of_op, ref_op, release_op_of, sequencer_turn, start_op, started_with, turn_acts, turn_taken, with_turn}
use Rattle.scj_model.specs.Reached.{Moment, Arrived, Reached, at_first, on_arrival, on_operation, on_phase}
use Rattle.scj_model.proofs.Reaching.{reached_keeps}
use Rattle.scope_flow.specs.Signatures.{IsConcrete, IsEntered}
use Rattle.frame_sound.specs.EffectsFine.{Fine as EffectIsFine}
use Rattle.frame_sound.specs.Fine.{FramesFine, JobFine, Ready, list_of}
use Rattle.frame_sound.specs.Places.{world_of}
use Rattle.frame_sound.proofs.NextOperation.{next_fine}
use Rattle.mission_sound.specs.Bases.{areas_of}
use Rattle.mission_sound.specs.Invariant.{Invariant, OperandThere}
use Rattle.mission_sound.proofs.Phases.{time_passes}
use Rattle.reference_sound.proofs.Passes.{highest_ready}
use Rattle.scope_sound.specs.Sound.{HasFacts}
use Rattle.certain_faults.proofs.RunsOfNodes.{ClassesAskNothing}
use Rattle.certain_faults.proofs.Runs.{invariant_of}
use Rattle.memory_bounds.proofs.Areas.{Has, effect_has, faulted, one_closed, opened_more, still, taken}
use Rattle.memory_bounds.proofs.Areas.{acts_on}

-- what the areas that are opened have
pub record OpenedWith (code : Code) (Q : ℕ → ℕ → Type 0) : Type 0 where
  pub immortal : (class bytes : ℕ) → safelet_class code.program ≡ Some class →
      size_of code.program class ≡ Some bytes → Q immortal_scope bytes
  pub missions : (class scope bytes : ℕ) → IsConcrete code.program class →
      is_sub code.program.classes class mission ≡ true → defined_by_chain code.program class ≡ Some scope →
      size_of code.program class ≡ Some bytes → Q scope bytes
  pub handlers : (class scope bytes : ℕ) → IsConcrete code.program class → is_handler code.program class ≡ true →
      defined_by_chain code.program class ≡ Some scope → Q scope bytes
  pub entered : (class scope parent bytes : ℕ) → IsEntered code.program class scope →
      parent_scope code.program scope ≡ Some parent → Q scope bytes

module _ (code : Code) (Q : ℕ → ℕ → Type 0) (with_all : OpenedWith code Q) (store : ℕ) where
  abbrev H : State → Type 0
  H s = Has Q store s

  record Lead (o : Option Step) : Type 0 where
    is : (step : Step) → o ≡ Some step → Has Q store step.state

  leads : (step : Step) → Has Q store step.state → Lead (Some step)
  leads step h = record { is = λ t e. subst (λ (x : Step). Has Q store x.state) (some_inj step t e) h }

  none_leads : Lead None
  none_leads = record { is = λ step e. absurd (cc (e)) }

  any_leads : {A : Type 0} (o : Option A) (next : A → Option Step) → ((a : A) → o ≡ Some a → Lead (next a)) →
      Lead (o >>= next)
  any_leads None next h = none_leads
  any_leads (Some a) next h = h a refl

  reported_leads : (first : Step) (o : Option Step) → Lead o →
      Lead (option_map (λ (second : Step). reporting second.state (first.events ++ second.events)) o)
  reported_leads first None x = none_leads
  reported_leads first (Some second) x = leads (reporting second.state (first.events ++ second.events)) (x.is second refl)

  -- ---- the sequencer's own operations, and START

  module _ (s : State) (i : Invariant code s) (held : Has Q store s) where
    opened : (place : Position) (scope bytes : ℕ) → Q scope bytes → Has Q store (area_opened s place scope bytes).state
    unfolding area_opened opening
    opened place scope bytes q = go (has_store_for s bytes)
      where
        go : (b : Bool) → Has Q store (if b
            then silently
            (done
            (record (with_area s scope (innermost s.activity.areas) bytes)
            { activity = record s.activity { areas = length s.areas ∷ s.activity.areas } }) Null)
            else fault_in s TheSequencer s.activity place StoreFull).state
        go true =
            still Q store (with_area s scope (innermost s.activity.areas) bytes)
            (done
            (record (with_area s scope (innermost s.activity.areas) bytes)
            { activity = record s.activity { areas = length s.areas ∷ s.activity.areas } }) Null) refl refl
            (opened_more Q store s scope (innermost s.activity.areas) bytes q held)
        go false = faulted Q store s TheSequencer s.activity place StoreFull held

    made : (place : Position) (class area : ℕ) → Has Q store (safelet_made code s place class area).state
    unfolding safelet_made allocating
    made place class area = go (has_room s area (length (new_slots code.program class)))
      where
        go : (b : Bool) → Has Q store (if b
            then silently (done (with_object s class area (new_slots code.program class)) (At (length s.objects)))
            else fault_in s TheSequencer s.activity place MemoryFull).state
        go true =
            still Q store s (done (with_object s class area (new_slots code.program class)) (At (length s.objects))) refl
            refl held
        go false = faulted Q store s TheSequencer s.activity place MemoryFull held

    called_body : (r : ℕ) (body : Body) → Lead (body_called code s r body)
    unfolding body_called new_frame
    called_body r body =
        any_leads (innermost s.activity.areas) _ (λ area e.
        leads _
        (still Q store s
        (record s { activity = record s.activity { frames = new_frame code body None (Some r) area [] ∷ [] } }) refl refl
        held))

    called_method : (r : ℕ) (name : List ℕ) → Lead (method_called code s r name)
    called_method r name =
        any_leads (object_at s r) _ (λ o e.
        any_leads (body_named code.program o.class name) _ (λ body k. called_body r body))

    mission_opened : (r : ℕ) → s.operation ≡ OpenMission r → (o : Object) → object_at s r ≡ Some o → (scope bytes : ℕ) →
        defined_by_chain code.program o.class ≡ Some scope → size_of code.program o.class ≡ Some bytes → Q scope bytes
    mission_opened r op o there scope bytes defines size =
        (let operand : OperandThere s (OpenMission r) = subst (OperandThere s) op i.sequencer.there in
        let m = i.sequencer.mission r operand.0 in
        let same : m.object ≡ o = some_inj m.object o (sym m.found ∙ there) in
        with_all.missions o.class scope bytes
        (subst (λ (x : Object). IsConcrete code.program x.class) same m.concrete)
        (subst (λ (x : Object). is_sub code.program.classes x.class mission ≡ true) same m.is_under) defines size)

    sequencer_leads : (op : SeqOp) → s.operation ≡ op → Lead (sequencer_op code s op)
    unfolding sequencer_op
    sequencer_leads OpenImmortal is =
        any_leads (safelet_class code.program) _ (λ class e.
        any_leads (size_of code.program class) _ (λ bytes k.
        leads _ (opened (class_position code.program class) immortal_scope bytes (with_all.immortal class bytes e k))))
    sequencer_leads AllocSafelet is =
        any_leads (safelet_class code.program) _ (λ class e.
        any_leads (innermost s.activity.areas) _ (λ area k.
        leads _ (made (class_position code.program class) class area)))
    sequencer_leads (ConstructSafelet r) is =
        any_leads (object_at s r) _ (λ o e.
        any_leads (constructor_body code.program o.class) _ (λ body k. called_body r body))
    sequencer_leads (InitializeApplication r) is = called_method r (codes "initializeApplication")
    sequencer_leads (GetSequencer r) is = called_method r (codes "getSequencer")
    sequencer_leads (GetNextMission r) is = called_method r (codes "getNextMission")
    sequencer_leads (OpenMission r) is =
        any_leads (object_at s r) _ (λ o e.
        any_leads (defined_by_chain code.program o.class) _ (λ scope k.
        any_leads (size_of code.program o.class) _ (λ bytes l.
        leads _ (opened (class_position code.program o.class) scope bytes (mission_opened r is o e scope bytes k l)))))
    sequencer_leads (Initialize r) is = called_method r (codes "initialize")
    sequencer_leads (CleanUp r) is = called_method r (codes "cleanUp")
    sequencer_leads Execute is = none_leads
    sequencer_leads Finished is = none_leads

    begun : (place : ℕ) (row : HandlerRow) (scope : ℕ) (body : Body) → Q scope row.bytes →
        Has Q store (started_with code s place row scope body).state
    unfolding started_with opening
    begun place row scope body q = go (has_store_for s row.bytes)
      where
        a : Activity
        a = record {
          frames = record (new_frame code body None (Some row.at) (length s.areas) []) { opened = Some (length s.areas) }
              ∷ [];
          areas = length s.areas ∷ s.activity.areas;
          priority = row.priority;
        }

        go : (b : Bool) → Has Q store (if b
            then silently (with_activity (with_area s scope (innermost s.activity.areas) row.bytes) (ReleaseAt place) a)
            else fault_in s (ReleaseAt place) no_activity (class_position code.program row.class) StoreFull).state
        go true =
            acts_on Q store (with_area s scope (innermost s.activity.areas) row.bytes) (ReleaseAt place) a
            (opened_more Q store s scope (innermost s.activity.areas) row.bytes q held)
        go false = faulted Q store s (ReleaseAt place) no_activity (class_position code.program row.class) StoreFull held

    handler_opens : (h : ℕ) (row : HandlerRow) → handler_row s.registry h ≡ Some row → (scope : ℕ) →
        defined_by_chain code.program row.class ≡ Some scope → Q scope row.bytes
    handler_opens h row there scope defines = of h there
      where
        of : (h : ℕ) → handler_row s.registry h ≡ Some row → Q scope row.bytes
        of zero e = absurd (cc (e))
        of (suc k) e =
            (let f = i.handlers.rows k row e in
            with_all.handlers row.class scope row.bytes
            (subst (IsConcrete code.program) (sym f.is_class) f.concrete)
            (ap (is_handler code.program) f.is_class ∙ f.is_a_handler) defines)

    start_leads : (place : ℕ) (r : Release) → Lead (start_op code s place r)
    unfolding start_op
    start_leads place r =
        any_leads (handler_row s.registry r.handler) _ (λ row e.
        any_leads (defined_by_chain code.program row.class) _ (λ scope k.
        any_leads (body_named code.program row.class (codes "handleAsyncEvent")) _ (λ body l.
        leads _ (begun place row scope body (handler_opens r.handler row e scope k)))))

  -- ---- what follows an operation of the sequencer

  module _ (s : State) (held : Has Q store s) where
    effect_leads : (effect : SeqEffect) → Has Q store (seq_applied code s effect).state
    unfolding seq_applied
    effect_leads Continues = held
    effect_leads (TakesSafelet r) = still Q store s (record s { safelet = Some r }) refl refl held
    effect_leads (TakesSequencer r) = still Q store s (record s { mission_sequencer = Some r }) refl refl held
    effect_leads (TakesMission r) =
        still Q store s (record s { mission = Some r; is_end_asked = false; earlier_releases = length s.releases }) refl
        refl held
    effect_leads (LacksSequencer safelet) =
        faulted Q store s TheSequencer s.activity (position_of_object code s safelet) NullPointer held
    effect_leads LacksMission = held
    effect_leads (BeginsMission r) = held
    effect_leads BeginsExecution =
        still Q store s (record s { origin = s.unit + 1; last_choice = None }) refl refl held
    effect_leads SkipsExecution = held
    effect_leads EndsExecution = held
    effect_leads ClosesMission =
        still Q store (closed s (innermost s.activity.areas)) (mission_closed s) refl refl
        (one_closed Q store s (innermost s.activity.areas) held)

  module _ (s : State) (held : Has Q store s) where
    transition_leads : (o : Option Transition) → Lead (option_map (transition_done code s) o)
    transition_leads None = none_leads
    transition_leads (Some t) =
        leads _ (effect_leads (gone_to s t) (still Q store s (gone_to s t) refl refl held) t.effect)

    outcome_leads : (o : Option Value) →
        Lead (elim o as (λ z. Option Step) [ None ↦ Some (silently s) | Some value ↦ after_operation code s value ])
    outcome_leads None = leads (silently s) held
    outcome_leads (Some value) = transition_leads _

    execution_leads : Lead (after_execution code s)
    execution_leads = go (s.is_end_asked && not (has_started s))
      where
        go : (b : Bool) → Lead (if b
            then option_map (transition_done code s) (s.mission >>= (λ r. goes_to Cleanup (CleanUp r) EndsExecution))
            else Some (silently s))
        go true = transition_leads (s.mission >>= (λ r. goes_to Cleanup (CleanUp r) EndsExecution))
        go false = leads (silently s) held

    phase_leads : Lead (phase_after code s)
    unfolding phase_after
    phase_leads = go (is_exec s.phase)
      where
        go : (b : Bool) → Lead (if b then after_execution code s
            else (elim s.outcome as (λ z. Option Step)
            [ None ↦ Some (silently s) | Some value ↦ after_operation code s value ]))
        go true = execution_leads
        go false = outcome_leads s.outcome

  -- ---- arrivals

  each_keeps : {A : Type 0} (step : State → A → Step) →
      ((s : State) (x : A) → Has Q store s → Has Q store (step s x).state) → (xs : List A) (s : State) →
      Has Q store s → Has Q store (for_each step xs s).state
  unfolding for_each
  each_keeps step h [] s held = held
  each_keeps step h (x ∷ xs) s held = each_keeps step h xs (step s x).state (h s x held)

  fired_has : (s : State) (fire : Fire) → Has Q store s → Has Q store (fired code s fire).state
  unfolding fired
  fired_has s fire held = go (fired_handler code s fire.handler) (Miss s.unit fire.handler ∷ [])
    where
      go : (o : Option ℕ) (events : List Event) → Has Q store (elim o as (λ z. Step) [
        | Some handler ↦ release_taken s handler
        | None ↦ reporting s events
      ]).state
      go None events = held
      go (Some handler) events = taken Q store s handler held

  at_has : (fires : List Fire) (s : State) (index : ℕ) → Has Q store s → Has Q store (fired_at code fires s index).state
  at_has fires s index held = go (slice_get fires index)
    where
      go : (o : Option Fire) →
          Has Q store (elim o as (λ z. Step) [ None ↦ silently s | Some fire ↦ fired code s fire ]).state
      go None = held
      go (Some fire) = fired_has s fire held

  arrival_has : (plan : Plan) (s : State) → Has Q store s → Has Q store (arrivals code plan s).state
  unfolding arrivals
  arrival_has plan s held =
      each_keeps (fired_at code plan.fires) (λ t index h. at_has plan.fires t index h)
      (fires_due (executes_since s) s.unit plan.fires) (for_each release_taken (due_handlers s) s).state
      (each_keeps release_taken (λ t handler h. taken Q store t handler h) (due_handlers s) s held)

  -- ---- the next operation of a job

  module _ (facts : HasFacts code) (rows : List ReadingRow) (s : State) (i : Invariant code s) (held : Has Q store s) where
    module _ (job : Job) (activity : Activity) where
      next_leads : (frames : List Frame) → activity.frames ≡ frames →
          FramesFine code (world_of s) (areas_of i.base) frames →
          Lead (elim frames as (λ z. Option Step) [
            | [] ↦ None
            | f ∷ below ↦ elim f.rest [
              | [] ↦ None
              | op ∷ rest ↦ applied code s job activity below (position_of_op code op) (effect_at code rows s f op rest)
            ]
          ])
      next_leads [] e fine = none_leads
      next_leads (f ∷ below) e fine = next f.rest refl
        where
          list : List ℕ
          list = list_of (areas_of i.base) (f ∷ below)

          ready : Ready code (world_of s) (list_of (areas_of i.base) (f ∷ below)) fine.0.class fine.0.sig f None
          ready = highest_ready code (world_of s) (list_of (areas_of i.base) (f ∷ below)) f fine.0

          next : (ops : List Op) → f.rest ≡ ops → Lead (elim ops as (λ z. Option Step) [
            | [] ↦ None
            | op ∷ rest ↦ applied code s job activity below (position_of_op code op) (effect_at code rows s f op rest)
          ])
          next [] r = none_leads
          next (op ∷ rest) r = record {
            is = effect_has Q store code s job activity (position_of_op code op) below held (effect_at code rows s f op rest)
                (λ h g scope bytes q.
                (let x = (subst (EffectIsFine code (world_of s) (list_of (areas_of i.base) (f ∷ below)) fine.0.class
                fine.0.sig (record f { rest = rest })) q
                (next_fine code facts.bodies (world_of s).areas (environment rows s)
                (list_of (areas_of i.base) (f ∷ below)) fine.0.class fine.0.sig f op rest fine.1 i.memories.memory.heap
                i.memories.memory.statics
                (subst
                (λ (ops : List Op). Ready code (world_of s) (list_of (areas_of i.base) (f ∷ below)) fine.0.class
                fine.0.sig (record f { rest = ops }) None) r ready))).is in
                with_all.entered x.on_list.object.class scope x.parent bytes x.entered x.is_parent));
          }

      job_leads : JobFine code (world_of s) (areas_of i.base) activity → Lead (frame_op code rows s job activity)
      unfolding frame_op
      job_leads fine = next_leads activity.frames refl fine.frames

    sequencer_turn_leads : Lead (sequencer_turn code rows s)
    unfolding sequencer_turn activity_of
    sequencer_turn_leads = go s.activity.frames
      where
        go : (fs : List Frame) → Lead (elim fs as (λ z. Option Step) [
          | [] ↦ sequencer_op code s s.operation
          | f ∷ fs ↦ frame_op code rows s TheSequencer s.activity
        ])
        go [] = sequencer_leads s i held s.operation refl
        go (f ∷ fs) = job_leads TheSequencer s.activity (i.memories.jobs TheSequencer s.activity refl)

    release_leads : (index : ℕ) → Lead (ref_op code rows s (ReleaseAt index))
    unfolding ref_op release_op_of activity_of activity_in
    release_leads index =
        any_leads (slice_get s.releases index) (release_op_of code rows s index)
        (λ r there. by_status r there r.status refl)
      where
        by_status : (r : Release) → slice_get s.releases index ≡ Some r → (status : ReleaseStatus) →
            r.status ≡ status → Lead (elim status as (λ z. Option Step) [
              | Waiting ↦ start_op code s index r
              | Started activity ↦ frame_op code rows s (ReleaseAt index) activity
              | Ended ↦ None
              | Dropped ↦ None
            ])
        by_status r there Waiting e = start_leads s i held index r
        by_status r there (Started activity) e =
            job_leads (ReleaseAt index) activity
            (i.memories.jobs (ReleaseAt index) activity
            (ap (λ (o : Option Release). o >>= (λ r. activity_in r.status)) there ∙ ap activity_in e))
        by_status r there Ended e = none_leads
        by_status r there Dropped e = none_leads

  module _ (facts : HasFacts code) (rows : List ReadingRow) where
    acts_lead : (policy : Policy) (s : State) → Invariant code s → Has Q store s → Lead (acts code rows policy s)
    unfolding acts turn_taken turn_acts
    acts_lead policy s i held = go (is_exec s.phase)
      where
        turn_leads : (turn : Turn) → Lead (then_try (turn_taken s turn) (turn_acts code rows turn))
        turn_leads IdleTurn =
            reported_leads (turn_taken s IdleTurn) (Some (silently (with_turn s IdleTurn)))
            (leads (silently (with_turn s IdleTurn)) (still Q store s (with_turn s IdleTurn) refl refl held))
        turn_leads (TurnOf index) =
            reported_leads (turn_taken s (TurnOf index)) (ref_op code rows (with_turn s (TurnOf index)) (ReleaseAt index))
            (release_leads facts rows (with_turn s (TurnOf index)) (time_passes code s s.unit (Some (TurnOf index)) i)
            (still Q store s (with_turn s (TurnOf index)) refl refl held) index)

        go : (b : Bool) → Lead (if b
            then policy s >>= (λ turn. then_try (turn_taken s turn) (turn_acts code rows turn))
            else sequencer_turn code rows s)
        go true = any_leads (policy s) _ (λ turn e. turn_leads turn)
        go false = sequencer_turn_leads facts rows s i held

-- ---- all states

module _ (code : Code) (facts : HasFacts code) (bare : ClassesAskNothing code) (Q : ℕ → ℕ → Type 0)
    (with_all : OpenedWith code Q) (plan : Plan) (choices : List ℕ) where
  record IsAt (moment : Moment) (s : State) : Type 0 where
    reached : Reached code plan (by_list choices) moment s
    has : Has Q plan.store s

  pub all_have : (moment : Moment) (s : State) → Reached code plan (by_list choices) moment s → Has Q plan.store s
  unfolding empty_state
  all_have moment s h =
      (reached_keeps code plan (by_list choices) IsAt
      (record {
        reached = at_first;
        has = record { is_store = refl; areas = λ a x there. absurd (cc (there)) };
      })
      (λ s x e. record { reached = on_arrival s x.reached e; has = arrival_has code Q with_all plan.store plan s x.has })
      (λ s step x e. record {
        reached = on_operation s step x.reached e;
        has = (acts_lead code Q with_all plan.store facts plan.readings (by_list choices) s
            (invariant_of code facts bare plan choices Arrived s x.reached) x.has).is step e;
      })
      (λ s step x e. record {
        reached = on_phase s step x.reached e;
        has = still Q plan.store step.state (next_unit step.state) refl refl
            ((phase_leads code Q with_all plan.store s x.has).is step e);
      }) h).has
