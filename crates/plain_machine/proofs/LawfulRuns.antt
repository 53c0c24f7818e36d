-- What holds of the states of an accepted program's run is what the machine counts on.
use Rattle.std.specs.Prelude.{Bool, Option, Some, None, false, option_map, slice_get, true, if◌then◌else◌}
use Rattle.std.proofs.Common.{◌≡◌, ◌∙◌, ◌<◌, ◌≤◌, ℕ, List, [], ◌∷◌, length, refl, ap, subst, sym, arith}
use Rattle.std.proofs.lemmas.List.{length-map}
use Rattle.scj_base.specs.declared.values.Value.{Value}
use Rattle.scj_rules.specs.Words.{holds}
use Rattle.scj_tree.specs.Forest.{Forest}
use Rattle.scj_model.specs.declared.handlers.HandlerRow.{HandlerRow}
use Rattle.scj_model.specs.declared.operations.Op.{Op}
use Rattle.scj_model.specs.declared.operations.SeqOp.{SeqOp}
use Rattle.scj_model.specs.declared.operations.SeqOp.TheVariants.{OpenImmortal, AllocSafelet, ConstructSafelet, InitializeApplication, GetSequencer, GetNextMission, OpenMission, Initialize, CleanUp, Execute, Finished}
use Rattle.scj_model.specs.declared.plans.ReadingRow.{ReadingRow}
use Rattle.scj_model.specs.Choice.{by_list, by_priority}
use Rattle.scj_model.specs.Code.{code_of}
use Rattle.op_list.specs.Listed.{Listing}
use Rattle.scj_model.specs.Effects.{Effect, Goes, Prints, Makes, Stores, StoresStatic, SetsHidden, SetsCeiling, Calls, Opens, Leaves, AsksRegistration, AsksRelease, AsksTermination, Faults, Stuck}
use Rattle.scj_model.specs.Operations.{effect_of}
use Rattle.scj_model.specs.Plan.{Plan}
use Rattle.scj_model.specs.Reached.{Arrived, Moment, Operated, Reached}
use Rattle.scj_model.specs.Registry.{handler_row}
use Rattle.scj_model.specs.Run.{effect_at, environment}
use Rattle.scj_model.specs.Safety.{IsSafe, NoDangling, is_of_open_area}
use Rattle.scj_model.specs.Sequencer.{innermost}
use Rattle.scj_model.specs.State.{Activity, Frame, Job, Object, Release, ReleaseAt, State, TheSequencer, TurnOf, Waits, activity_of, is_exec}
use Rattle.scj_model.proofs.Following.{by_some_list, fair_listed, priority_is_fair}
use Rattle.run_plan.specs.Limits.{most_units}
use Rattle.region_heap.specs.Contents.{Contents, is_open_area, live_in, live_object, open_count as open_in, with_memory}
use Rattle.job_frames.specs.declared.activities.Activity.{Activity as StoredActivity}
use Rattle.job_frames.specs.declared.frames.Frame.{Frame as StoredFrame}
use Rattle.job_frames.specs.Frames.{activity_seen, frame_of, frames_of}
use Rattle.run_releases.specs.Rows.{release_seen, status_seen}
use Rattle.run_state.specs.declared.states.RunState.{RunState}
use Rattle.run_state.specs.Seen.{state_of}
use Rattle.run_state.specs.Standing.{CloseInOrder, ClosesLast, IsLive, after_close}
use Rattle.run_state.proofs.Rows.{get_map}
use Rattle.run_state.proofs.Standing.{closed_is}
use Rattle.mission_steps.specs.Standing.{IsOnLive}
use Rattle.unit_steps.specs.Alike.{IsAlike, same, over}
use Rattle.unit_steps.specs.Standing.{ActsStand, JobStands, NamesLive, NextStands, PhaseStands, StartStands}
use Rattle.run_sizes.specs.Growth.{IsWithinUnits}
use Rattle.live_reads.specs.Live.{FindsOpenObjects, looked_up}
use Rattle.area_laws.specs.OpenAreas.{CloseInOrder as ClosingInOrder, ClosesLast as ClosingLast, NamesLiveObjects, StandsInOpenAreas, open_count, operand_of}
use Rattle.plain_machine.specs.Lawful.{IsLawful}

-- ---- one state

module _ (code : Listing) (st : RunState) where
  abbrev s : State
  s = state_of code st

  by_object : (o : Option Object) → holds o (λ x. is_open_area st.memory x.area) ≡ true → live_in st.memory o ≡ o
  by_object None h = refl
  by_object (Some o) h = ap (λ (b : Bool). if b then Some o else None) h

  live_by : (r : ℕ) → is_of_open_area s r ≡ true → IsLive st.memory r
  unfolding state_of
  live_by r h = by_object (slice_get st.memory.objects r) h

  finds_open : FindsOpenObjects s (live_object st.memory)
  unfolding state_of
  finds_open r h = sym (live_by r h)

  closing_last : (m : Contents) (o : Option ℕ) → ClosingLast (with_memory s m) o → ClosesLast m o
  closing_last m None h = tt
  closing_last m (Some a) h = record { is_open = h.is_open; last = h.last }

  closing : (m : Contents) (fs : List StoredFrame) → ClosingInOrder (with_memory s m) (frames_of code fs) →
      CloseInOrder m fs
  closing m [] h = tt
  closing m (f ∷ fs) h = (
    closing_last m f.opened h.0,
    closing (after_close m f.opened) fs
        (subst (λ (t : State). ClosingInOrder t (frames_of code fs)) (closed_is s m f.opened) h.1),
  )

  pub closes_here : (fs : List StoredFrame) → ClosingInOrder s (frames_of code fs) → CloseInOrder st.memory fs
  unfolding state_of
  closes_here fs h = closing st.memory fs h

  pub closes_last_here : (o : Option ℕ) → ClosingLast s o → ClosesLast st.memory o
  unfolding state_of
  closes_last_here o h = closing_last st.memory o h

  pub names_here : (e : Effect) → NamesLiveObjects s e → NamesLive st.memory e
  unfolding state_of
  names_here (Makes h class slots) x = x
  names_here (Calls h g) x = λ r t. live_by r (x r t)
  names_here (AsksRegistration h r) x = live_by r x
  names_here (Goes h) x = tt
  names_here (Prints h label value) x = tt
  names_here (Stores h r slot v) x = tt
  names_here (StoresStatic h index v) x = tt
  names_here (SetsHidden h r values) x = tt
  names_here (SetsCeiling h r ceiling) x = tt
  names_here (Opens h g scope bytes) x = tt
  names_here (Leaves h v) x = tt
  names_here (AsksRelease h r) x = tt
  names_here (AsksTermination h r) x = tt
  names_here (Faults fault) x = tt
  names_here Stuck x = tt

  pub operand_live : (operation : SeqOp) →
      ((r : ℕ) → operand_of operation ≡ Some r → is_of_open_area s r ≡ true) → IsOnLive st.memory operation
  operand_live OpenImmortal h = tt
  operand_live AllocSafelet h = tt
  operand_live (ConstructSafelet r) h = live_by r (h r refl)
  operand_live (InitializeApplication r) h = live_by r (h r refl)
  operand_live (GetSequencer r) h = live_by r (h r refl)
  operand_live (GetNextMission r) h = live_by r (h r refl)
  operand_live (OpenMission r) h = live_by r (h r refl)
  operand_live (Initialize r) h = live_by r (h r refl)
  operand_live (CleanUp r) h = live_by r (h r refl)
  operand_live Execute h = tt
  operand_live Finished h = tt

-- ---- states alike

abbrev OperandIsOpen : State → Type 0
OperandIsOpen s = (r : ℕ) → operand_of s.operation ≡ Some r → is_of_open_area s r ≡ true

operands_alike : (s t : State) → IsAlike s t → OperandIsOpen s → OperandIsOpen t
operands_alike s t same h = h
operands_alike s t (over activity e none) h = h

abbrev MissionCloses : State → Type 0
MissionCloses s =
    (value : Value) → is_exec s.phase ≡ false → s.outcome ≡ Some value → ClosingLast s (innermost s.activity.areas)

closes_alike : (s t : State) → IsAlike s t → MissionCloses s → MissionCloses t
closes_alike s t same h = h
closes_alike s t (over activity e none) h = λ value phase outcome.
    absurd (let clash : None ≡ Some value = sym none ∙ outcome in cc (clash))

own_activity : (a b : Activity) → Some a ≡ Some b → a ≡ b
own_activity a b e = cc (e)

-- ---- the states of a run

-- what is known of the runs of a program that breaks no rule
pub record KeepsLaws (forest : Forest) : Type 0 where
  pub safe : IsSafe (code_of forest)
  pub jobs : (plan : Plan) (moment : Moment) (s : State) → Reached (code_of forest) plan by_priority moment s →
      (job : Job) (activity : Activity) → activity_of s job ≡ Some activity → StandsInOpenAreas s activity
  pub release_closes : (plan : Plan) (s : State) → Reached (code_of forest) plan by_priority Arrived s →
      (index : ℕ) (activity : Activity) → by_priority s ≡ Some (TurnOf index) →
      activity_of s (ReleaseAt index) ≡ Some activity → ClosingInOrder s activity.frames
  pub sequencer_closes : (plan : Plan) (s : State) → Reached (code_of forest) plan by_priority Arrived s →
      is_exec s.phase ≡ false → ClosingInOrder s s.activity.frames
  pub mission_closes : (plan : Plan) (s : State) → Reached (code_of forest) plan by_priority Operated s →
      is_exec s.phase ≡ false → ClosingLast s (innermost s.activity.areas)
  pub few_outside : (plan : Plan) (moment : Moment) (s : State) → Reached (code_of forest) plan by_priority moment s →
      is_exec s.phase ≡ false → open_count s < 1794
  pub few_under_way : (plan : Plan) (moment : Moment) (s : State) → Reached (code_of forest) plan by_priority moment s →
      (index : ℕ) (activity : Activity) → activity_of s (ReleaseAt index) ≡ Some activity →
      length activity.frames < 64 → open_count s < 1794
  pub few_at_start : (plan : Plan) (moment : Moment) (s : State) → Reached (code_of forest) plan by_priority moment s →
      (index : ℕ) (r : Release) (row : HandlerRow) → by_priority s ≡ Some (TurnOf index) →
      slice_get s.releases index ≡ Some r → r.status ≡ Waits → handler_row s.registry r.handler ≡ Some row →
      open_count s < 1794
  pub operands : (plan : Plan) (moment : Moment) (s : State) → Reached (code_of forest) plan by_priority moment s →
      (r : ℕ) → operand_of s.operation ≡ Some r → is_of_open_area s r ≡ true
  pub named : (plan : Plan) (s : State) → Reached (code_of forest) plan by_priority Arrived s → (job : Job)
      (activity : Activity) (f : Frame) (op : Op) (rest : List Op) (below : List Frame) →
      activity_of s job ≡ Some activity → activity.frames ≡ f ∷ below → f.rest ≡ op ∷ rest →
      NamesLiveObjects s (effect_at (code_of forest) plan.readings s f op rest)
  pub grows : (plan : Plan) (moment : Moment) (s : State) → Reached (code_of forest) plan by_priority moment s →
      IsWithinUnits moment s
  pub reads : (rows : List ReadingRow) (s : State) (look : ℕ → Option Object) (job : Job) (activity : Activity)
      (f g : Frame) (below : List Frame) (op : Op) → FindsOpenObjects s look → NoDangling s →
      activity_of s job ≡ Some activity → activity.frames ≡ f ∷ below → g.operands ≡ f.operands →
      g.this ≡ f.this →
      effect_of (code_of forest) (environment rows s) g op
      ≡ effect_of (code_of forest) (looked_up (environment rows s) look) g op

module _ (code : Listing) (plan : Plan) (units : plan.units ≤ most_units) (laws : KeepsLaws code.program) where
  none_dangles : (moment : Moment) (s : State) → Reached (code_of code.program) plan by_priority moment s → NoDangling s
  none_dangles moment s reached =
      let listed : (choices : List ℕ) × Reached (code_of code.program) plan (by_list choices) moment s =
      by_some_list (code_of code.program) plan moment s (fair_listed (code_of code.program) plan by_priority priority_is_fair reached) in
      laws.safe.in_any_order.none_dangles plan listed.0 moment s listed.1

  next_stands : (st : RunState) → Reached (code_of code.program) plan by_priority Arrived (state_of code st) → (job : Job)
      (activity : Activity) (f : Frame) (below : List Frame) (op : Op) (rest : List Op) →
      activity_of (state_of code st) job ≡ Some activity → activity.frames ≡ f ∷ below → f.rest ≡ op ∷ rest →
      NextStands code plan.readings st f op rest
  unfolding state_of
  next_stands st reached job activity f below op rest there frames ops = record {
    reads = laws.reads plan.readings (state_of code st) (live_object st.memory) job activity f (record f { rest = rest })
        below op (finds_open code st) (none_dangles Arrived (state_of code st) reached) there frames refl refl;
    names = names_here code st (effect_at (code_of code.program) plan.readings (state_of code st) f op rest)
        (laws.named plan (state_of code st) reached job activity f op rest below there frames ops);
  }

  sequencer_stands : (st : RunState) → Reached (code_of code.program) plan by_priority Arrived (state_of code st) →
      is_exec st.phase ≡ false → JobStands code plan.readings st TheSequencer
  unfolding state_of activity_of
  sequencer_stands st reached phase = record {
    stands = λ activity there. record {
      listed = (laws.jobs plan Arrived (state_of code st) reached TheSequencer (activity_seen code activity) there).listed;
      closes = closes_here code st activity.frames
          (subst (λ (a : Activity). ClosingInOrder (state_of code st) a.frames)
          (own_activity (state_of code st).activity (activity_seen code activity) there)
          (laws.sequencer_closes plan (state_of code st) reached phase));
      few = λ fewer. laws.few_outside plan Arrived (state_of code st) reached phase;
    };
    next = next_stands st reached TheSequencer;
  }

  few_frames : (st : RunState) → Reached (code_of code.program) plan by_priority Arrived (state_of code st) → (index : ℕ)
      (activity : StoredActivity) → activity_of (state_of code st) (ReleaseAt index) ≡ Some (activity_seen code activity) →
      length activity.frames < 64 → open_in st.memory < 1794
  unfolding state_of
  few_frames st reached index activity there fewer =
      let same : length (frames_of code activity.frames) ≡ length activity.frames =
      length-map activity.frames (frame_of code) in
      laws.few_under_way plan Arrived (state_of code st) reached index (activity_seen code activity) there
      (omega (arith, same, fewer))

  start_stands : (st : RunState) → Reached (code_of code.program) plan by_priority Arrived (state_of code st) → (index : ℕ) →
      by_priority (state_of code st) ≡ Some (TurnOf index) → StartStands st index
  unfolding state_of
  start_stands st reached index chosen r row there waits is_row =
      laws.few_at_start plan Arrived (state_of code st) reached index (release_seen code r) row chosen
      (get_map (release_seen code) st.releases.rows index ∙ ap (option_map (release_seen code)) there)
      (ap (status_seen code) waits) is_row

  release_stands : (st : RunState) → Reached (code_of code.program) plan by_priority Arrived (state_of code st) → (index : ℕ) →
      by_priority (state_of code st) ≡ Some (TurnOf index) → JobStands code plan.readings st (ReleaseAt index)
  unfolding state_of
  release_stands st reached index chosen = record {
    stands = λ activity there. record {
      listed = (laws.jobs plan Arrived (state_of code st) reached (ReleaseAt index) (activity_seen code activity) there).listed;
      closes = closes_here code st activity.frames
          (laws.release_closes plan (state_of code st) reached index (activity_seen code activity) chosen there);
      few = few_frames st reached index activity there;
    };
    next = next_stands st reached (ReleaseAt index);
  }

  acts_stand : (st : RunState) → Reached (code_of code.program) plan by_priority Arrived (state_of code st) → st.unit ≤ plan.units →
      ActsStand code plan.readings st
  unfolding state_of activity_of
  acts_stand st reached within =
      let sizes : IsWithinUnits Arrived (state_of code st) = laws.grows plan Arrived (state_of code st) reached in
      let objects : length st.memory.objects ≤ st.unit = sizes.objects in
      let areas : length st.memory.areas ≤ st.unit = sizes.areas in
      record {
        numbers = record {
          objects = omega (arith, objects, within, units);
          areas = omega (arith, areas, within, units);
        };
        few = laws.few_outside plan Arrived (state_of code st) reached;
        live = operand_live code st st.operation (laws.operands plan Arrived (state_of code st) reached);
        areas = (laws.jobs plan Arrived (state_of code st) reached TheSequencer (state_of code st).activity refl).listed;
        sequencer = sequencer_stands st reached;
        release = release_stands st reached;
        start = start_stands st reached;
      }

  phase_stands : (s : State) (st : RunState) → Reached (code_of code.program) plan by_priority Operated s →
      IsAlike s (state_of code st) → PhaseStands st
  unfolding state_of
  phase_stands s st reached alike = record {
    live = operand_live code st st.operation
        (operands_alike s (state_of code st) alike (laws.operands plan Operated s reached));
    closes = λ value phase outcome.
        closes_last_here code st (innermost st.activity.areas)
        (closes_alike s (state_of code st) alike (λ v e o. laws.mission_closes plan s reached e) value phase outcome);
  }

  pub lawful : IsLawful code plan
  lawful = record { arrived = acts_stand; operated = phase_stands }
