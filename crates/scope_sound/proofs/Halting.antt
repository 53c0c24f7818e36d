-- A fault of the sequencer, which halts the run, leaves its frames and its list of areas as they were.
use Rattle.std.specs.Prelude.{Option, Some, None, codes, if◌then◌else◌}
use Rattle.std.proofs.Common.{◌≡◌, ℕ, List, [], ◌∷◌, Bool, true, false, not, ◌&&◌, refl, sym, ◌∙◌, ap, subst, true≢false, ◌⊎◌, inl, inr}
use Rattle.scj_base.specs.declared.positions.Position.{Position}
use Rattle.scj_rules.specs.declared.views.Body.{Body}
use Rattle.scj_rules.specs.Words.{◌>>=◌}
use Rattle.scj_rules.specs.ScopeRules.{immortal_scope, defined_by_chain}
use Rattle.scj_rules.specs.Bodies.{body_named, constructor_body, size_of, safelet_class, class_position}
use Rattle.scj_model.specs.declared.operations.SeqOp.{SeqOp}
use Rattle.scj_model.specs.declared.operations.SeqOp.TheVariants.{OpenImmortal, AllocSafelet, ConstructSafelet, InitializeApplication, GetSequencer, GetNextMission, OpenMission, Initialize, CleanUp, Execute, Finished}
use Rattle.scj_model.specs.declared.plans.ReadingRow.{ReadingRow}
use Rattle.scj_model.specs.Code.{Code}
use Rattle.scj_model.specs.Memory.{has_room, has_store_for}
use Rattle.scj_model.specs.State.{Frame, TheSequencer, State, activity_of, object_at, is_exec, is_over}
use Rattle.scj_model.specs.Effects.{new_frame}
use Rattle.scj_model.specs.Steps.{Step, silently, fault_in, opening, allocating}
use Rattle.scj_model.specs.Sequencer.{area_opened, safelet_made, body_called, method_called, sequencer_op, innermost}
use Rattle.scj_model.specs.Run.{frame_op, ref_op, sequencer_turn}
use Rattle.scj_model.specs.Safety.{job_may_act}
use Rattle.scope_flow.specs.Facts.{Facts}
use Rattle.frame_sound.specs.OwnJob.{HasFaulted, HasLeft, JobGoesOn, KeepsItsJob}
use Rattle.mission_sound.specs.Bases.{areas_of}
use Rattle.mission_sound.specs.SequencerFacts.{SequencerFacts}
use Rattle.scope_sound.specs.Sound.{Sound}
use Rattle.scope_sound.proofs.FrameOperates.{own}

module _ (s : State) (goes_on : is_over s.phase ≡ false) where
  -- if the run is over then, the sequencer has what it had
  abbrev Stays : Step → Type 0
  Stays step = is_over step.state.phase ≡ true → step.state.activity ≡ s.activity

  record Halts (o : Option Step) : Type 0 where
    pub is : (step : Step) → o ≡ Some step → Stays step

  still_on : (step : Step) → step.state.phase ≡ s.phase → Stays step
  still_on step e over = absurd (true≢false (sym over ∙ (ap is_over e ∙ goes_on)))

  either : (t : Bool) (a b : Step) → Stays a → Stays b → Stays (if t then a else b)
  either true a b x y = x
  either false a b x y = y

  some : (step : Step) → Stays step → Halts (Some step)
  some step x =
      record { is = λ other e. (let same : step ≡ other = cc (e) in subst Stays same x) }

  bound : {A : Type 0} (o : Option A) (f : A → Option Step) → ((x : A) → Halts (f x)) → Halts (o >>= f)
  bound None f h = record { is = λ step e. absurd (cc (e)) }
  bound (Some x) f h = h x

  opened_stays : (position : Position) (scope bytes : ℕ) → Stays (area_opened s position scope bytes)
  unfolding area_opened opening fault_in
  opened_stays position scope bytes =
      either (has_store_for s bytes) _ _ (λ over. absurd (true≢false (sym over ∙ goes_on))) (λ over. refl)

  made_stays : (code : Code) (position : Position) (class area : ℕ) → Stays (safelet_made code s position class area)
  unfolding safelet_made allocating fault_in
  made_stays code position class area =
      either (has_room s area _) _ _ (λ over. absurd (true≢false (sym over ∙ goes_on))) (λ over. refl)

  called_halts : (code : Code) (r : ℕ) (body : Body) → Halts (body_called code s r body)
  unfolding body_called
  called_halts code r body =
      bound (innermost s.activity.areas) (λ area.
      let frame = new_frame code body None (Some r) area [] in
      Some (silently (record s { activity = record s.activity { frames = frame ∷ [] } })))
      (λ area. some _ (λ over. absurd (true≢false (sym over ∙ goes_on))))

  method_halts : (code : Code) (r : ℕ) (name : List ℕ) → Halts (method_called code s r name)
  method_halts code r name =
      bound (object_at s r) (λ o. body_named code.program o.class name >>= body_called code s r)
      (λ o. bound (body_named code.program o.class name) (body_called code s r) (called_halts code r))

  sequencer_halts : (code : Code) (operation : SeqOp) → Halts (sequencer_op code s operation)
  unfolding sequencer_op
  sequencer_halts code OpenImmortal =
      bound (safelet_class code.program) (λ class. size_of code.program class >>= (λ bytes.
      Some (area_opened s (class_position code.program class) immortal_scope bytes))) (λ class.
      bound (size_of code.program class)
      (λ bytes. Some (area_opened s (class_position code.program class) immortal_scope bytes))
      (λ bytes. some (area_opened s (class_position code.program class) immortal_scope bytes)
      (opened_stays (class_position code.program class) immortal_scope bytes)))
  sequencer_halts code AllocSafelet =
      bound (safelet_class code.program) (λ class. innermost s.activity.areas >>= (λ area.
      Some (safelet_made code s (class_position code.program class) class area))) (λ class.
      bound (innermost s.activity.areas)
      (λ area. Some (safelet_made code s (class_position code.program class) class area))
      (λ area. some (safelet_made code s (class_position code.program class) class area)
      (made_stays code (class_position code.program class) class area)))
  sequencer_halts code (ConstructSafelet r) =
      bound (object_at s r) (λ o. constructor_body code.program o.class >>= body_called code s r)
      (λ o. bound (constructor_body code.program o.class) (body_called code s r) (called_halts code r))
  sequencer_halts code (InitializeApplication r) = method_halts code r (codes "initializeApplication")
  sequencer_halts code (GetSequencer r) = method_halts code r (codes "getSequencer")
  sequencer_halts code (GetNextMission r) = method_halts code r (codes "getNextMission")
  sequencer_halts code (OpenMission r) =
      bound (object_at s r) (λ o. defined_by_chain code.program o.class >>= (λ scope.
      size_of code.program o.class >>= (λ bytes.
      Some (area_opened s (class_position code.program o.class) scope bytes)))) (λ o.
      bound (defined_by_chain code.program o.class) (λ scope. size_of code.program o.class >>= (λ bytes.
      Some (area_opened s (class_position code.program o.class) scope bytes))) (λ scope.
      bound (size_of code.program o.class)
      (λ bytes. Some (area_opened s (class_position code.program o.class) scope bytes))
      (λ bytes. some (area_opened s (class_position code.program o.class) scope bytes)
      (opened_stays (class_position code.program o.class) scope bytes))))
  sequencer_halts code (Initialize r) = method_halts code r (codes "initialize")
  sequencer_halts code (CleanUp r) = method_halts code r (codes "cleanUp")
  sequencer_halts code Execute = record { is = λ step e. absurd (cc (e)) }
  sequencer_halts code Finished = record { is = λ step e. absurd (cc (e)) }

module _ (code : Code) (facts : Facts code) (promised : SequencerFacts code) (rows : List ReadingRow) (s : State)
    (sound : Sound code s) (outside : is_exec s.phase ≡ false) (goes_on : is_over s.phase ≡ false) where
  is : activity_of s TheSequencer ≡ Some s.activity
  unfolding activity_of
  is = refl

  frame_halts : (f : Frame) (below : List Frame) → s.activity.frames ≡ f ∷ below →
      Halts s goes_on (frame_op code rows s TheSequencer s.activity)
  frame_halts f below has =
      record {
        is = λ step e. (let same : k.step ≡ step = cc (k.is, e) in subst (Stays s goes_on) same (go k.either));
      }
    where
      k : KeepsItsJob code s TheSequencer s.activity (areas_of sound.settled.invariant.base) f below
          (frame_op code rows s TheSequencer s.activity)
      k = own code facts promised rows s sound TheSequencer s.activity is f below has (λ e. outside)

      go : JobGoesOn code s TheSequencer (areas_of sound.settled.invariant.base) f below k.step.state
          ⊎ (((below ≡ [])
          × HasLeft code s TheSequencer (areas_of sound.settled.invariant.base) f k.step.state)
          ⊎ HasFaulted code s TheSequencer s.activity k.step) → Stays s goes_on k.step
      go (inl g) = still_on s goes_on k.step g.operation.phase
      go (inr (inl x)) = still_on s goes_on k.step x.1.operation.phase
      go (inr (inr x)) = λ over. ap (λ (t : State). t.activity) x.ends

  halts : Halts s goes_on (ref_op code rows s TheSequencer)
  unfolding ref_op sequencer_turn
  halts = go s.activity.frames refl
    where
      go : (fs : List Frame) → s.activity.frames ≡ fs → Halts s goes_on (elim fs as (λ z. Option Step) [
        | [] ↦ sequencer_op code s s.operation
        | f ∷ fs ↦ frame_op code rows s TheSequencer s.activity
      ])
      go [] e = sequencer_halts s goes_on code s.operation
      go (f ∷ fs) e = frame_halts f fs e

both : (a b : Bool) → (a && b) ≡ true → (a ≡ true) × (b ≡ true)
both true true e = (refl, refl)
both true false e = absurd (true≢false (sym e))
both false b e = absurd (true≢false (sym e))

is_off : (a : Bool) → not a ≡ true → a ≡ false
is_off false e = refl
is_off true e = absurd (true≢false (sym e))

pub halting_stays : (code : Code) → Facts code → SequencerFacts code → (rows : List ReadingRow) (s : State) →
    Sound code s → job_may_act s TheSequencer ≡ true → (step : Step) → ref_op code rows s TheSequencer ≡ Some step →
    is_over step.state.phase ≡ true → step.state.activity ≡ s.activity
unfolding job_may_act
halting_stays code facts promised rows s sound acts step e over =
    let t = both (not (is_exec s.phase)) (not (is_over s.phase)) acts in
    (halts code facts promised rows s sound (is_off (is_exec s.phase) t.0) (is_off (is_over s.phase) t.1)).is step e over
