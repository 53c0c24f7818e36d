-- What the operation of a unit, and what follows it, may count on in the state of a run.
use Rattle.std.specs.Prelude.{◌≡◌, ℕ, ◌<◌, true, false, List, ◌∷◌, Some, slice_get}
use Rattle.scj_base.specs.declared.values.Value.{Value}
use Rattle.scj_rules.specs.Words.{is_among}
use Rattle.scj_model.specs.declared.handlers.HandlerRow.{HandlerRow}
use Rattle.scj_model.specs.declared.operations.Op.{Op}
use Rattle.scj_model.specs.declared.plans.ReadingRow.{ReadingRow}
use Rattle.scj_model.specs.Code.{code_of}
use Rattle.op_list.specs.Listed.{Listing}
use Rattle.scj_model.specs.Choice.{by_priority}
use Rattle.scj_model.specs.Effects.{Effect, AsksRegistration, Calls, Makes}
use Rattle.scj_model.specs.Operations.{effect_of}
use Rattle.scj_model.specs.Registry.{handler_row}
use Rattle.scj_model.specs.Run.{effect_at}
use Rattle.scj_model.specs.Sequencer.{innermost}
use Rattle.scj_model.specs.State.{Activity, Frame, Job, ReleaseAt, TheSequencer, TurnOf, activity_of, is_exec}
use Rattle.region_heap.specs.Contents.{Contents, is_open_area, open_count}
use Rattle.job_frames.specs.declared.activities.Activity.{Activity as StoredActivity}
use Rattle.job_frames.specs.declared.effects.Effect.{Effect as Coded}
use Rattle.job_frames.specs.declared.effects.Effect.TheVariants as coded
use Rattle.job_frames.specs.Frames.{activity_seen}
use Rattle.job_frames.specs.EffectsSeen.{world}
use Rattle.run_releases.specs.declared.rows.Release.{Release}
use Rattle.run_releases.specs.declared.rows.ReleaseStatus.TheVariants.{Waits}
use Rattle.run_state.specs.declared.states.RunState.{RunState}
use Rattle.run_state.specs.Seen.{state_of}
use Rattle.run_state.specs.Standing.{ClosesLast, HasNumbers, IsLive, IsTopOpen, StandsIn}
use Rattle.mission_steps.specs.Standing.{IsOnLive}

-- an effect, done to the memory of a job with this activity: it names no object of a closed area, and makes objects in
-- an open one
abbrev pub EffectStands : Contents → StoredActivity → Coded → Type 0
EffectStands m activity (coded.Makes class slots) = IsTopOpen m activity.frames
EffectStands m activity (coded.MakesArray class kind count) = IsTopOpen m activity.frames
EffectStands m activity (coded.Calls call arguments) = (r : ℕ) → call.this ≡ Some r → IsLive m r
EffectStands m activity (coded.AsksRegistration r) = IsLive m r
EffectStands m activity _ = Unit {0}

-- the same of an effect of the definitions
abbrev pub NamesLive : Contents → Effect → Type 0
NamesLive m (Makes h class slots) = is_open_area m h.area ≡ true
NamesLive m (Calls h g) = (r : ℕ) → g.this ≡ Some r → IsLive m r
NamesLive m (AsksRegistration h r) = IsLive m r
NamesLive m _ = Unit {0}

-- the next operation of a frame has the same effect where the objects of open areas alone are found
pub record NextStands (code : Listing) (rows : List ReadingRow) (st : RunState) (f : Frame) (op : Op) (rest : List Op) :
    Type 0 where
  pub reads : effect_at (code_of code.program) rows (state_of code st) f op rest
      ≡ effect_of (code_of code.program) (world st.memory rows st.unit) (record f { rest = rest }) op
  pub names : NamesLive st.memory (effect_at (code_of code.program) rows (state_of code st) f op rest)

-- a job whose next operation is done
pub record JobStands (code : Listing) (rows : List ReadingRow) (st : RunState) (job : Job) : Type 0 where
  pub stands : (activity : StoredActivity) → activity_of (state_of code st) job ≡ Some (activity_seen code activity) →
      StandsIn st.memory activity
  pub next : (activity : Activity) (f : Frame) (below : List Frame) (op : Op) (rest : List Op) →
      activity_of (state_of code st) job ≡ Some activity → activity.frames ≡ f ∷ below → f.rest ≡ op ∷ rest →
      NextStands code rows st f op rest

-- where the release at a place waits, to be started, few areas are open
abbrev pub StartStands : RunState → ℕ → Type 0
StartStands st index =
    (r : Release) (row : HandlerRow) → slice_get st.releases.rows index ≡ Some r → r.status ≡ Waits →
    handler_row st.registry.items r.handler ≡ Some row → open_count st.memory < 1794

-- the choice and the operation of a unit
pub record ActsStand (code : Listing) (rows : List ReadingRow) (st : RunState) : Type 0 where
  pub numbers : HasNumbers st.memory
  pub live : IsOnLive st.memory st.operation
  pub areas : (a : ℕ) → is_among a st.activity.areas ≡ true → is_open_area st.memory a ≡ true
  pub few : is_exec st.phase ≡ false → open_count st.memory < 1794
  pub sequencer : is_exec st.phase ≡ false → JobStands code rows st TheSequencer
  pub start : (index : ℕ) → by_priority (state_of code st) ≡ Some (TurnOf index) → StartStands st index
  pub release : (index : ℕ) → by_priority (state_of code st) ≡ Some (TurnOf index) →
      JobStands code rows st (ReleaseAt index)

-- what follows in the sequencer
pub record PhaseStands (st : RunState) : Type 0 where
  pub live : IsOnLive st.memory st.operation
  pub closes : (value : Value) → is_exec st.phase ≡ false → st.outcome ≡ Some value →
      ClosesLast st.memory (innermost st.activity.areas)
