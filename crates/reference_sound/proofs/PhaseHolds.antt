-- START, what follows an operation of the sequencer, arrivals, and the first state keep all references where they may
-- be.
use Rattle.std.specs.Prelude.{Option, Some, None, slice_get, if◌then◌else◌, length, map, option_map, codes, ◌&&◌, not, ◌+◌}
use Rattle.std.proofs.Common.{◌≡◌, ℕ, List, [], ◌∷◌, Bool, true, false, refl, sym, subst}
use Rattle.std.proofs.lemmas.List.Elements.{All-nil, All-cons}
use Rattle.scj_base.specs.declared.faults.RunFault.TheVariants.{NullPointer, StoreFull}
use Rattle.scj_base.specs.declared.values.Value.{Value}
use Rattle.scj_tree.specs.declared.nodes.Node.{Node}
use Rattle.scj_rules.specs.declared.views.Body.{Body}
use Rattle.scj_rules.specs.declared.views.Declared.{Declared}
use Rattle.scj_rules.specs.Definitions.{read}
use Rattle.scj_rules.specs.Words.{◌>>=◌}
use Rattle.scj_rules.specs.Layout.{field_literal, static_fields, kind_of_type}
use Rattle.scj_rules.specs.ScopeRules.{defined_by_chain}
use Rattle.scj_rules.specs.Bodies.{body_named, class_position}
use Rattle.accepted_laws.proofs.Tools.{some_inj}
use Rattle.scj_model.specs.declared.events.Event.{Event}
use Rattle.scj_model.specs.declared.events.Event.TheVariants.{Miss}
use Rattle.scj_model.specs.declared.operations.SeqOp.TheVariants.{CleanUp}
use Rattle.scj_model.specs.declared.phases.Phase.TheVariants.{Cleanup}
use Rattle.scj_model.specs.declared.handlers.HandlerRow.{HandlerRow}
use Rattle.scj_model.specs.declared.plans.Fire.{Fire}
use Rattle.scj_model.specs.Code.{Code}
use Rattle.scj_model.specs.Plan.{Plan}
use Rattle.scj_model.specs.State.{Activity, Release, Job, TheSequencer, ReleaseAt, State, activity_of, with_activity, is_exec}
use Rattle.scj_model.specs.Memory.{with_area, has_store_for, closed, literal_value, default_value}
use Rattle.scj_model.specs.Registry.{handler_row}
use Rattle.scj_model.specs.Steps.{Step, silently, reporting, opening, fault_in, for_each}
use Rattle.scj_model.specs.Effects.{new_frame}
use Rattle.scj_model.specs.Apply.{release_taken}
use Rattle.scj_model.specs.Sequencer.{innermost, SeqEffect, Continues, TakesSafelet, TakesSequencer, TakesMission, LacksSequencer, LacksMission, BeginsMission, BeginsExecution, SkipsExecution, EndsExecution, ClosesMission, Transition, gone_to, mission_closed, seq_applied, transition_done, after_operation, after_execution, has_started, goes_to, phase_after, position_of_object}
use Rattle.scj_model.specs.Arrivals.{executes_since, arrivals, fired, fired_at, fired_handler, due_handlers, fires_due}
use Rattle.scj_model.specs.Run.{no_activity, started_with, start_op, first_static, empty_state}
use Rattle.frame_sound.specs.Places.{world_of}
use Rattle.reference_sound.specs.References.{IfReference, EachReference, JobHolds, LiesInImmortal, ReferencesHold}
use Rattle.reference_sound.specs.Roots.{InnermostIsThere}
use Rattle.reference_sound.proofs.Plain.{default_plain, node_plain}
use Rattle.reference_sound.proofs.Closing.{one_closes, memory_close, objects_close}
use Rattle.reference_sound.proofs.OwnAreas.{order_opens, memory_opens}
use Rattle.reference_sound.proofs.OwnRequests.{taken_holds}
use Rattle.reference_sound.proofs.Held.{AllLead, all_lead, none_leads, any_leads, held_after, held_still, jobs_of, sequencer_holds, goes_on, faults_hold}
use Rattle.reference_sound.proofs.RunHolds.{first_holds}
use Rattle.reference_sound.proofs.Objects.{objects_opened}

-- ---- START

module _ (code : Code) (s : State) (base : List ℕ) (held : ReferencesHold s base) (inside : InnermostIsThere s)
    (index : ℕ) where
  begun_holds : (row : HandlerRow) (scope : ℕ) (body : Body) →
      ReferencesHold (started_with code s index row scope body).state base
  unfolding started_with opening
  begun_holds row scope body = go (has_store_for s row.bytes)
    where
      begun : Activity
      begun =
          record {
            frames =
                record (new_frame code body None (Some row.at) (length s.areas) []) { opened = Some (length s.areas) }
                ∷ [];
            areas = length s.areas ∷ s.activity.areas;
            priority = row.priority;
          }

      go : (b : Bool) → ReferencesHold (if b
          then silently
          (with_activity (with_area s scope (innermost s.activity.areas) row.bytes) (ReleaseAt index) begun)
          else fault_in s (ReleaseAt index) no_activity (class_position code.program row.class) StoreFull).state base
      go true =
          goes_on s base held (ReleaseAt index) (with_area s scope (innermost s.activity.areas) row.bytes) refl refl
          begun
          (memory_opens s scope (innermost s.activity.areas) row.bytes held.memory)
          (order_opens s scope (innermost s.activity.areas) row.bytes inside held.order)
          (objects_opened s scope (innermost s.activity.areas) row.bytes)
          (first_holds (world_of (with_area s scope (innermost s.activity.areas) row.bytes)) base code body None
          (Some row.at)
          (length s.areas)
          (record (new_frame code body None (Some row.at) (length s.areas) []) { opened = Some (length s.areas) }) refl)
      go false =
          faults_hold s base held (ReleaseAt index) no_activity (class_position code.program row.class) StoreFull

  pub start_keeps : (r : Release) → AllLead base (start_op code s index r)
  unfolding start_op
  start_keeps r =
      any_leads base (handler_row s.registry r.handler) _ (λ row.
      any_leads base (defined_by_chain code.program row.class) _ (λ scope.
      any_leads base (body_named code.program row.class (codes "handleAsyncEvent")) _ (λ body.
      all_lead base _ (begun_holds row scope body))))

-- ---- what follows an operation of the sequencer

module _ (s : State) (base : List ℕ) (held : ReferencesHold s base) where
  -- in another state with the same memory, releases and frames
  pub rests : (t : State) → t.areas ≡ s.areas → t.objects ≡ s.objects → t.statics ≡ s.statics →
      t.releases ≡ s.releases → t.activity ≡ s.activity → ReferencesHold t base
  rests t areas objects statics releases activity =
      held_still s t base held areas objects statics
      (jobs_of s t base held releases
      (subst (λ (a : Activity). JobHolds (world_of s) base a.frames) (sym activity) (sequencer_holds s s base held)))

module _ (code : Code) (s : State) (base : List ℕ) (held : ReferencesHold s base) where
  closes_holds : ReferencesHold (mission_closed s) base
  closes_holds =
      let c = one_closes s (innermost s.activity.areas) in
      held_after s (mission_closed s) base held
      (memory_close s (closed s (innermost s.activity.areas)) c held.memory) (c.order held.order)
      (objects_close s (closed s (innermost s.activity.areas)) c)
      (jobs_of s (mission_closed s) base held c.releases (sequencer_holds s s base held))

  effect_keeps : (effect : SeqEffect) → ReferencesHold (seq_applied code s effect).state base
  unfolding seq_applied
  effect_keeps Continues = held
  effect_keeps (TakesSafelet r) = rests s base held (record s { safelet = Some r }) refl refl refl refl refl
  effect_keeps (TakesSequencer r) = rests s base held (record s { mission_sequencer = Some r }) refl refl refl refl refl
  effect_keeps (TakesMission r) =
      rests s base held (record s { mission = Some r; is_end_asked = false; earlier_releases = length s.releases }) refl
      refl refl refl refl
  effect_keeps (LacksSequencer safelet) =
      faults_hold s base held TheSequencer s.activity (position_of_object code s safelet) NullPointer
  effect_keeps LacksMission = held
  effect_keeps (BeginsMission r) = held
  effect_keeps BeginsExecution =
      rests s base held (record s { origin = s.unit + 1; last_choice = None }) refl refl refl refl refl
  effect_keeps SkipsExecution = held
  effect_keeps EndsExecution = held
  effect_keeps ClosesMission = closes_holds

module _ (code : Code) (s : State) (base : List ℕ) (held : ReferencesHold s base) where
  transition_keeps : (o : Option Transition) → AllLead base (option_map (transition_done code s) o)
  transition_keeps None = none_leads base
  transition_keeps (Some t) =
      all_lead base _
      (effect_keeps code (gone_to s t) base (rests s base held (gone_to s t) refl refl refl refl refl) t.effect)

  outcome_keeps : (o : Option Value) →
      AllLead base
      (elim o as (λ z. Option Step) [ None ↦ Some (silently s) | Some value ↦ after_operation code s value ])
  outcome_keeps None = all_lead base (silently s) held
  outcome_keeps (Some value) = transition_keeps _

  execution_keeps : AllLead base (after_execution code s)
  execution_keeps = go (s.is_end_asked && not (has_started s))
    where
      go : (b : Bool) → AllLead base (if b
          then option_map (transition_done code s) (s.mission >>= (λ r. goes_to Cleanup (CleanUp r) EndsExecution))
          else Some (silently s))
      go true = transition_keeps (s.mission >>= (λ r. goes_to Cleanup (CleanUp r) EndsExecution))
      go false = all_lead base (silently s) held

  pub phase_keeps : AllLead base (phase_after code s)
  unfolding phase_after
  phase_keeps = go (is_exec s.phase)
    where
      go : (b : Bool) → AllLead base (if b then after_execution code s
          else (elim s.outcome as (λ z. Option Step)
          [ None ↦ Some (silently s) | Some value ↦ after_operation code s value ]))
      go true = execution_keeps
      go false = outcome_keeps s.outcome

-- ---- arrivals

each_keeps : {A : Type 0} (base : List ℕ) (step : State → A → Step) →
    ((s : State) (x : A) → ReferencesHold s base → ReferencesHold (step s x).state base) → (xs : List A) (s : State) →
    ReferencesHold s base → ReferencesHold (for_each step xs s).state base
unfolding for_each
each_keeps base step h [] s held = held
each_keeps base step h (x ∷ xs) s held = each_keeps base step h xs (step s x).state (h s x held)

module _ (code : Code) (base : List ℕ) where
  fired_keeps : (s : State) (fire : Fire) → ReferencesHold s base → ReferencesHold (fired code s fire).state base
  unfolding fired
  fired_keeps s fire held = go (fired_handler code s fire.handler) (Miss s.unit fire.handler ∷ [])
    where
      go : (o : Option ℕ) (events : List Event) → ReferencesHold (elim o as (λ z. Step) [
        | Some handler ↦ release_taken s handler
        | None ↦ reporting s events
      ]).state base
      go None events = held
      go (Some handler) events = taken_holds s base held handler

  at_keeps : (fires : List Fire) (s : State) (index : ℕ) → ReferencesHold s base →
      ReferencesHold (fired_at code fires s index).state base
  at_keeps fires s index held = go (slice_get fires index)
    where
      go : (o : Option Fire) →
          ReferencesHold (elim o as (λ z. Step) [ None ↦ silently s | Some fire ↦ fired code s fire ]).state base
      go None = held
      go (Some fire) = fired_keeps s fire held

  pub arrivals_keep : (plan : Plan) (s : State) → ReferencesHold s base →
      ReferencesHold (arrivals code plan s).state base
  unfolding arrivals
  arrivals_keep plan s held =
      each_keeps base (fired_at code plan.fires) (λ t index h. at_keeps plan.fires t index h)
      (fires_due (executes_since s) s.unit plan.fires) (for_each release_taken (due_handlers s) s).state
      (each_keeps base release_taken (λ t handler h. taken_holds t base h handler) (due_handlers s) s held)

-- ---- the first state

read_plain : (Q : ℕ → Type 0) (nodes : List Node) (o : Option ℕ) (v : Value) → o >>= read nodes literal_value ≡ Some v →
    IfReference Q v
read_plain Q nodes None v e = absurd (cc (e))
read_plain Q nodes (Some id) v e = node_plain Q (slice_get nodes id) v e

first_plain : (code : Code) (f : Declared) (Q : ℕ → Type 0) → IfReference Q (first_static code f)
unfolding first_static
first_plain code f Q = go (field_literal code.program f >>= read code.program.nodes literal_value) refl
  where
    go : (o : Option Value) → field_literal code.program f >>= read code.program.nodes literal_value ≡ o →
        IfReference Q (elim o as (λ z. Value) [
          | Some value ↦ value
          | None ↦ default_value (kind_of_type f.declared_type)
        ])
    go None e = default_plain Q (kind_of_type f.declared_type)
    go (Some v) e = read_plain Q code.program.nodes (field_literal code.program f) v e

statics_plain : (code : Code) (Q : ℕ → Type 0) (fs : List Declared) → EachReference Q (map (first_static code) fs)
statics_plain code Q [] = All-nil (IfReference Q)
statics_plain code Q (f ∷ fs) =
    All-cons (IfReference Q) (first_static code f) (map (first_static code) fs) (first_plain code f Q)
    (statics_plain code Q fs)

pub first_state_holds : (code : Code) (plan : Plan) (base : List ℕ) → ReferencesHold (empty_state code plan) base
unfolding empty_state activity_of
first_state_holds code plan base =
    record {
      memory = record {
        slots = λ r o e. absurd (cc (e));
        statics = statics_plain code (LiesInImmortal (world_of (empty_state code plan))) (static_fields code.program);
      };
      order = record { earlier = λ a b x e up. absurd (cc (e)) };
      jobs = λ job a e. jobs job a e;
    }
  where
    jobs : (job : Job) (a : Activity) → activity_of (empty_state code plan) job ≡ Some a →
        JobHolds (world_of (empty_state code plan)) base a.frames
    jobs TheSequencer a e =
        subst (λ (x : Activity). JobHolds (world_of (empty_state code plan)) base x.frames)
        (some_inj no_activity a e) tt
    jobs (ReleaseAt index) a e = absurd (cc (e))
