-- Priorities stay right under each operation of a job that may act, where no program writes over the priority of a
-- handler.
use Rattle.std.proofs.Common.{◌≡◌, ℕ, true, List, [], ◌∷◌, ◌⊎◌, inl, inr, Option, Some, None, refl, sym, subst}
use Rattle.std.specs.Prelude.{slice_get, is_some, codes}
use Rattle.scj_base.specs.declared.positions.Position.{Position}
use Rattle.scj_base.specs.declared.values.Value.{Value}
use Rattle.scj_rules.specs.declared.views.Body.{Body}
use Rattle.scj_rules.specs.Words.{◌>>=◌}
use Rattle.scj_rules.specs.ScopeRules.{immortal_scope, defined_by_chain}
use Rattle.scj_rules.specs.Layout.{element_kind}
use Rattle.scj_rules.specs.Bodies.{body_named, constructor_body, size_of, safelet_class}
use Rattle.scj_model.specs.declared.handlers.HandlerRow.{HandlerRow}
use Rattle.scj_model.specs.declared.operations.Op.{Op}
use Rattle.scj_model.specs.declared.operations.Op.TheVariants.{PutElem as PUTELEM}
use Rattle.scj_model.specs.declared.operations.SeqOp.{SeqOp}
use Rattle.scj_model.specs.declared.operations.SeqOp.TheVariants.{OpenImmortal, AllocSafelet, ConstructSafelet, InitializeApplication, GetSequencer, GetNextMission, OpenMission, Initialize, CleanUp, Execute, Finished}
use Rattle.scj_model.specs.declared.plans.ReadingRow.{ReadingRow}
use Rattle.scj_model.specs.Code.{Code}
use Rattle.scj_model.specs.Plan.{Plan}
use Rattle.scj_model.specs.State.{Frame, Activity, ReleaseStatus, Waits, Started, Ended, Dropped, Release, Job, TheSequencer, ReleaseAt, State, activity_of, object_at, is_exec}
use Rattle.scj_model.specs.Registry.{handler_row}
use Rattle.scj_model.specs.Memory.{new_slots}
use Rattle.scj_model.specs.Effects.{Effect, Makes, Stores, SetsHidden, SetsCeiling, AsksRegistration}
use Rattle.scj_model.specs.Apply.{applied}
use Rattle.scj_model.specs.Sequencer.{innermost, area_opened, safelet_made, body_called, method_called, sequencer_op}
use Rattle.scj_model.specs.Choice.{by_priority}
use Rattle.scj_model.specs.Run.{frame_op, effect_at, position_of_op, start_op, started_with, no_activity, release_op_of, ref_op, sequencer_turn, environment}
use Rattle.scj_model.specs.Reached.{Arrived, Reached}
use Rattle.scj_model.specs.Safety.{job_may_act}
use Rattle.scj_model.proofs.Reaching.{Gives, gives_some}
use Rattle.priority_laws.specs.Handlers.{PrioritiesAreRight}
use Rattle.priority_laws.specs.Premises.{Does, SparesPriorities}
use Rattle.priority_laws.proofs.StepCases.{gives_nothing, gives_bind}
use Rattle.priority_laws.proofs.Shapes.{SparesPriority, Formed, is_put_element}
use Rattle.priority_laws.proofs.HandlerSlots.{new_begins}
use Rattle.priority_laws.proofs.OperationShapes.{scene_of, formed_at}
use Rattle.priority_laws.proofs.RightObjects.{right_same}
use Rattle.priority_laws.proofs.RightEffects.{Right, right_activity, right_made, right_opening, right_applied}
use Rattle.priority_laws.proofs.ReleaseTurns.{started_may_act, started_is}

-- each effect of a job's next operation keeps priorities right
pub record ActsRightly (code : Code) (rows : List ReadingRow) (s : State) (job : Job) : Type 0 where
  pub is : (op : Op) (e : Effect) (f : Frame) (rest : List Op) → Does code rows s job op e →
      Formed (scene_of code (environment rows s) f rest op) e → Right code s e

-- ---- from the form of an effect

module _ (code : Code) (plan : Plan) (p : SparesPriorities code) (s : State)
    (reached : Reached code plan by_priority Arrived s) (job : Job) where
  stored : (op : Op) → is_put_element op ≡ true → (f : Frame) (r slot : ℕ) (value : Value) →
      Does code plan.readings s job op (Stores f r slot value) → SparesPriority code (λ q. slice_get s.objects q) r slot
  stored (PUTELEM id) t f r slot value d =
      record {
        is = λ o there c. no_array (element_kind code.program o.class)
            (p.elements plan s job id f r slot value o reached d there) c.is_no_array;
      }
    where
      no_array : {A B : Type 0} (k : Option A) → is_some k ≡ true → k ≡ None → B
      no_array k i n = absurd (cc (i, n))
  stored _ t f r slot value d = absurd (cc (t))

  by_form : (op : Op) (e : Effect) (f : Frame) (rest : List Op) → Does code plan.readings s job op e →
      Formed (scene_of code (environment plan.readings s) f rest op) e → Right code s e
  by_form op (Makes h class slots) f rest d x = record { is = x.is.1 }
  by_form op (Stores h r slot value) f rest d x = record { is = go x.is.1 }
    where
      go : (is_put_element op ≡ true) ⊎ SparesPriority code (λ q. slice_get s.objects q) r slot →
          SparesPriority code (λ q. slice_get s.objects q) r slot
      go (inl t) = stored op t h r slot value d
      go (inr k) = k
  by_form op (SetsHidden h r values) f rest d x = record { is = x.is.1 }
  by_form op (SetsCeiling h r ceiling) f rest d x = record { is = x.is.1 }
  by_form op (AsksRegistration h r) f rest d x =
      record { is = λ o there. p.registrations plan s job op h r o reached d there }
  by_form op _ f rest d x = record { is = tt }

  pub acts_rightly : ActsRightly code plan.readings s job
  acts_rightly = record { is = by_form }

-- ---- a frame of any job

module _ (code : Code) (rows : List ReadingRow) (s : State) (h : PrioritiesAreRight code s) where
  pub right_frame : (job : Job) → ActsRightly code rows s job → job_may_act s job ≡ true → (a : Activity) →
      activity_of s job ≡ Some a → Gives (PrioritiesAreRight code) (frame_op code rows s job a)
  unfolding frame_op
  right_frame job c may a is_activity = go a.frames refl
    where
      act : (f : Frame) (below : List Frame) → a.frames ≡ f ∷ below → (ops : List Op) → f.rest ≡ ops →
          Gives (PrioritiesAreRight code)
          (elim ops [
            | [] ↦ None
            | op ∷ rest ↦ applied code s job a below (position_of_op code op) (effect_at code rows s f op rest)
          ])
      act f below frames [] k = gives_nothing _
      act f below frames (op ∷ rest) k =
          right_applied code s h job a below (position_of_op code op) (effect_at code rows s f op rest)
          (c.is op (effect_at code rows s f op rest) f rest
          (record {
            may = may;
            activity = a;
            is_activity = is_activity;
            frame = f;
            below = below;
            frames = frames;
            rest = rest;
            ops = k;
            is_effect = refl;
          })
          (formed_at code (environment rows s) f rest op))

      go : (fs : List Frame) → a.frames ≡ fs →
          Gives (PrioritiesAreRight code)
          (elim fs [
            | [] ↦ None
            | f
                ∷ below ↦ elim f.rest [
                  | [] ↦ None
                  | op ∷ rest ↦ applied code s job a below (position_of_op code op)
                      (effect_at code rows s f op rest)
                ]
          ])
      go [] k = gives_nothing _
      go (f ∷ below) k = act f below k f.rest refl

  -- ---- releases

  right_start : (p : ℕ) (row : HandlerRow) (scope : ℕ) (body : Body) →
      PrioritiesAreRight code (started_with code s p row scope body).state
  unfolding started_with
  right_start p row scope body =
      right_opening code s h (ReleaseAt p) no_activity [] _ scope (innermost s.activity.areas) row.bytes _
      (λ u q k. right_activity code u (ReleaseAt p) _ k)

  pub right_release : (p : ℕ) (r : Release) → slice_get s.releases p ≡ Some r → is_exec s.phase ≡ true →
      ActsRightly code rows s (ReleaseAt p) → Gives (PrioritiesAreRight code) (ref_op code rows s (ReleaseAt p))
  unfolding ref_op release_op_of start_op
  right_release p r there exec c =
      subst (λ (o : Option Release). Gives (PrioritiesAreRight code) (o >>= release_op_of code rows s p)) (sym there)
      (go r.status refl)
    where
      go : (status : ReleaseStatus) → r.status ≡ status →
          Gives (PrioritiesAreRight code)
          (elim status [
            | Waits ↦ start_op code s p r
            | Started activity ↦ frame_op code rows s (ReleaseAt p) activity
            | Ended ↦ None
            | Dropped ↦ None
          ])
      go Waits e =
          gives_bind (PrioritiesAreRight code) (handler_row s.registry r.handler) _ (λ row is_row.
          gives_bind (PrioritiesAreRight code) (defined_by_chain code.program row.class) _ (λ scope is_scope.
          gives_bind (PrioritiesAreRight code) (body_named code.program row.class (codes "handleAsyncEvent")) _
          (λ body is_body.
          gives_some (PrioritiesAreRight code) _ (right_start p row scope body))))
      go (Started a) e = right_frame (ReleaseAt p) c (started_may_act code rows s p r there exec a e) a
          (started_is code rows s p r there exec a e)
      go Ended e = gives_nothing _
      go Dropped e = gives_nothing _

  -- ---- the sequencer

  right_area : (position : Position) (scope bytes : ℕ) → PrioritiesAreRight code (area_opened s position scope bytes).state
  unfolding area_opened
  right_area position scope bytes =
      right_opening code s h TheSequencer s.activity [] position scope (innermost s.activity.areas) bytes _
      (λ u q k. right_same code u k _ refl refl)

  right_safelet : (position : Position) (class area : ℕ) → PrioritiesAreRight code (safelet_made code s position class area).state
  unfolding safelet_made
  right_safelet position class area =
      right_made code s h TheSequencer s.activity [] position class area (new_slots code.program class)
      (new_begins code class) _
      (λ u q k. right_same code u k _ refl refl)

  right_body : (r : ℕ) (body : Body) → Gives (PrioritiesAreRight code) (body_called code s r body)
  unfolding body_called
  right_body r body =
      gives_bind (PrioritiesAreRight code) (innermost s.activity.areas) _ (λ area e.
      gives_some (PrioritiesAreRight code) _ (right_same code s h _ refl refl))

  right_method : (r : ℕ) (name : List ℕ) → Gives (PrioritiesAreRight code) (method_called code s r name)
  right_method r name =
      gives_bind (PrioritiesAreRight code) (object_at s r) _ (λ o e.
      gives_bind (PrioritiesAreRight code) (body_named code.program o.class name) _ (λ body f. right_body r body))

  right_op : (op : SeqOp) → Gives (PrioritiesAreRight code) (sequencer_op code s op)
  unfolding sequencer_op
  right_op OpenImmortal =
      gives_bind (PrioritiesAreRight code) (safelet_class code.program) _ (λ class e.
      gives_bind (PrioritiesAreRight code) (size_of code.program class) _ (λ bytes f.
      gives_some (PrioritiesAreRight code) _ (right_area _ immortal_scope bytes)))
  right_op AllocSafelet =
      gives_bind (PrioritiesAreRight code) (safelet_class code.program) _ (λ class e.
      gives_bind (PrioritiesAreRight code) (innermost s.activity.areas) _ (λ area f.
      gives_some (PrioritiesAreRight code) _ (right_safelet _ class area)))
  right_op (ConstructSafelet r) =
      gives_bind (PrioritiesAreRight code) (object_at s r) _ (λ o e.
      gives_bind (PrioritiesAreRight code) (constructor_body code.program o.class) _ (λ body f. right_body r body))
  right_op (InitializeApplication r) = right_method r _
  right_op (GetSequencer r) = right_method r _
  right_op (GetNextMission r) = right_method r _
  right_op (OpenMission r) =
      gives_bind (PrioritiesAreRight code) (object_at s r) _ (λ o e.
      gives_bind (PrioritiesAreRight code) (defined_by_chain code.program o.class) _ (λ scope f.
      gives_bind (PrioritiesAreRight code) (size_of code.program o.class) _ (λ bytes g.
      gives_some (PrioritiesAreRight code) _ (right_area _ scope bytes))))
  right_op (Initialize r) = right_method r _
  right_op (CleanUp r) = right_method r _
  right_op Execute = gives_nothing _
  right_op Finished = gives_nothing _

  pub right_turn : ActsRightly code rows s TheSequencer → job_may_act s TheSequencer ≡ true →
      Gives (PrioritiesAreRight code) (sequencer_turn code rows s)
  unfolding sequencer_turn activity_of
  right_turn c may = go s.activity.frames
    where
      go : (fs : List Frame) →
          Gives (PrioritiesAreRight code)
          (elim fs [ [] ↦ sequencer_op code s s.operation | f ∷ below ↦ frame_op code rows s TheSequencer s.activity ])
      go [] = right_op s.operation
      go (f ∷ below) = right_frame TheSequencer c may s.activity refl
