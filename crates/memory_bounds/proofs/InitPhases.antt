-- What the sequencer's own operations and what follows them make of the rows, of the phase, and of the objects in a mission's
-- memory: the memory is empty when it is opened.
use Rattle.std.specs.Prelude.{Some, None, codes, length}
use Rattle.std.proofs.Common.{◌≡◌, ◌⊎◌, ℕ, false, List, [], ◌∷◌, refl, inl, inr}
use Rattle.scj_base.specs.declared.faults.RunFault.{RunFault}
use Rattle.scj_base.specs.declared.positions.Position.{Position}
use Rattle.scj_base.specs.declared.values.Value.{Value}
use Rattle.scj_rules.specs.declared.views.Body.{Body}
use Rattle.scj_rules.specs.Words.{◌>>=◌}
use Rattle.scj_rules.specs.Bodies.{body_named, constructor_body, safelet_class, size_of}
use Rattle.scj_rules.specs.ScopeRules.{defined_by_chain, immortal_scope}
use Rattle.scj_model.specs.declared.operations.SeqOp.{SeqOp}
use Rattle.scj_model.specs.declared.operations.SeqOp.TheVariants.{OpenImmortal, AllocSafelet, ConstructSafelet, InitializeApplication, GetSequencer, GetNextMission, OpenMission, Initialize, CleanUp, Execute, Finished}
use Rattle.scj_model.specs.Code.{Code}
use Rattle.scj_model.specs.State.{Activity, TheSequencer, State, is_init, object_at}
use Rattle.scj_model.specs.Memory.{has_room, has_store_for}
use Rattle.scj_model.specs.Steps.{allocating, fault_in, opening}
use Rattle.scj_model.specs.Effects.{new_frame}
use Rattle.scj_model.specs.Sequencer.{area_opened, body_called, innermost, safelet_made, sequencer_op}
use Rattle.scj_model.proofs.Reaching.{Gives as StepGives, gives_some}
use Rattle.priority_laws.proofs.StepCases.{step_if, gives_bind, gives_nothing}

-- the rows and the operation are the same ones, and so is the phase, or the run is over
pub record SameRows (s t : State) : Type 0 where
  pub registry : t.registry ≡ s.registry
  pub phase : (t.phase ≡ s.phase) ⊎ (is_init t.phase ≡ false)
  pub operation : (t.operation ≡ s.operation) ⊎ (t.outcome ≡ None)

module _ (code : Code) (s : State) where
  faulted : (activity : Activity) (position : Position) (fault : RunFault) →
      SameRows s (fault_in s TheSequencer activity position fault).state
  unfolding fault_in is_init
  faulted activity position fault = record { registry = refl; phase = inr refl; operation = inr refl }

  opened : (position : Position) (scope bytes : ℕ) → SameRows s (area_opened s position scope bytes).state
  unfolding area_opened opening
  opened position scope bytes =
      step_if (SameRows s) (has_store_for s bytes) _ _
      (λ e. record { registry = refl; phase = inl refl; operation = inl refl }) (λ e. faulted s.activity position _)

  made : (position : Position) (class area : ℕ) → SameRows s (safelet_made code s position class area).state
  unfolding safelet_made allocating
  made position class area =
      step_if (SameRows s) (has_room s area _) _ _
      (λ e. record { registry = refl; phase = inl refl; operation = inl refl }) (λ e. faulted s.activity position _)

  called : (r : ℕ) (body : Body) → StepGives (SameRows s) (body_called code s r body)
  unfolding body_called
  called r body =
      gives_bind (SameRows s) (innermost s.activity.areas) _ (λ area e.
      gives_some (SameRows s) _ (record { registry = refl; phase = inl refl; operation = inl refl }))

  method : (r : ℕ) (name : List ℕ) →
      StepGives (SameRows s) (object_at s r >>= (λ o. body_named code.program o.class name >>= body_called code s r))
  method r name =
      gives_bind (SameRows s) (object_at s r) _ (λ o e.
      gives_bind (SameRows s) (body_named code.program o.class name) _ (λ body f. called r body))

  pub own_operation : (op : SeqOp) → StepGives (SameRows s) (sequencer_op code s op)
  unfolding sequencer_op
  own_operation OpenImmortal =
      gives_bind (SameRows s) (safelet_class code.program) _ (λ class e.
      gives_bind (SameRows s) (size_of code.program class) _ (λ bytes f.
      gives_some (SameRows s) _ (opened _ immortal_scope bytes)))
  own_operation AllocSafelet =
      gives_bind (SameRows s) (safelet_class code.program) _ (λ class e.
      gives_bind (SameRows s) (innermost s.activity.areas) _ (λ area f.
      gives_some (SameRows s) _ (made _ class area)))
  own_operation (ConstructSafelet r) =
      gives_bind (SameRows s) (object_at s r) _ (λ o e.
      gives_bind (SameRows s) (constructor_body code.program o.class) _ (λ body f. called r body))
  own_operation (InitializeApplication r) = method r _
  own_operation (GetSequencer r) = method r _
  own_operation (GetNextMission r) = method r _
  own_operation (OpenMission r) =
      gives_bind (SameRows s) (object_at s r) _ (λ o e.
      gives_bind (SameRows s) (defined_by_chain code.program o.class) _ (λ scope f.
      gives_bind (SameRows s) (size_of code.program o.class) _ (λ bytes g.
      gives_some (SameRows s) _ (opened _ scope bytes))))
  own_operation (Initialize r) = method r _
  own_operation (CleanUp r) = method r _
  own_operation Execute = gives_nothing _
  own_operation Finished = gives_nothing _

  -- ---- the memory of a mission that is opened

  -- the area is the first of the sequencer's list, and no object lies in it
  pub record OpensEmpty (t : State) : Type 0 where
    pub objects : t.objects ≡ s.objects
    pub frames : t.activity.frames ≡ []
    pub areas : t.activity.areas ≡ length s.areas ∷ s.activity.areas

  opened_empty : s.activity.frames ≡ [] → (position : Position) (scope bytes : ℕ) → (v : Value) →
      (area_opened s position scope bytes).state.outcome ≡ Some v → OpensEmpty (area_opened s position scope bytes).state
  unfolding area_opened opening fault_in
  opened_empty none position scope bytes v =
      step_if (λ t. t.outcome ≡ Some v → OpensEmpty t) (has_store_for s bytes) _ _
      (λ e k. record { objects = refl; frames = none; areas = refl }) (λ e k. absurd (cc (k)))

  pub mission_opened : (r : ℕ) → s.activity.frames ≡ [] →
      StepGives (λ t. (v : Value) → t.outcome ≡ Some v → OpensEmpty t) (sequencer_op code s (OpenMission r))
  unfolding sequencer_op
  mission_opened r none =
      gives_bind _ (object_at s r) _ (λ o e.
      gives_bind _ (defined_by_chain code.program o.class) _ (λ scope f.
      gives_bind _ (size_of code.program o.class) _ (λ bytes g.
      gives_some _ _ (λ v k. opened_empty none _ scope bytes v k))))

  -- ---- the body of `initialize` is called

  pub record CallsFirst (r : ℕ) (t : State) : Type 0 where
    pub statics : t.statics ≡ s.statics
    pub objects : t.objects ≡ s.objects
    pub outcome : t.outcome ≡ s.outcome
    pub registry : t.registry ≡ s.registry
    pub areas : t.activity.areas ≡ s.activity.areas
    pub body : Body
    pub area : ℕ
    pub frames : t.activity.frames ≡ new_frame code body None (Some r) area [] ∷ []

  pub initialize_called : (r : ℕ) → StepGives (CallsFirst r) (sequencer_op code s (Initialize r))
  unfolding sequencer_op body_called
  initialize_called r =
      gives_bind (CallsFirst r) (object_at s r) _ (λ o e.
      gives_bind (CallsFirst r) (body_named code.program o.class (codes "initialize")) _ (λ body f.
      gives_bind (CallsFirst r) (innermost s.activity.areas) _ (λ area g.
      gives_some (CallsFirst r) _ (record {
        statics = refl;
        objects = refl;
        outcome = refl;
        registry = refl;
        areas = refl;
        body = body;
        area = area;
        frames = refl;
      }))))
