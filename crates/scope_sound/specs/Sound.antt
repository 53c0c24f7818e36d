-- What holds in each state that a run comes to: the invariant of the whole state, and that all references lead where
-- they may.
use Rattle.std.specs.Prelude.{◌≡◌, false, Option, Some}
use Rattle.scj_model.specs.Code.{Code}
use Rattle.scj_model.specs.State.{State, is_over}
use Rattle.scj_model.specs.Steps.{Step}
use Rattle.scj_model.specs.Reached.{Moment, Between, Arrived, Operated}
use Rattle.scope_flow.specs.Facts.{Facts}
use Rattle.mission_sound.specs.Bases.{areas_of}
use Rattle.mission_sound.specs.Invariant.{AfterOperation, Settled}
use Rattle.mission_sound.specs.SequencerFacts.{SequencerFacts}
use Rattle.reference_sound.specs.References.{ReferencesHold}

-- what the rules promise of a program
pub record HasFacts (code : Code) : Type 0 where
  pub bodies : Facts code
  pub sequencer : SequencerFacts code

-- between two units, and after arrivals
pub record Sound (code : Code) (s : State) : Type 0 where
  pub settled : Settled code s
  pub references : ReferencesHold s (areas_of settled.invariant.base)

-- after an operation, before what follows it
pub record SoundAfter (code : Code) (s : State) : Type 0 where
  pub after : AfterOperation code s
  pub references : ReferencesHold s (areas_of after.invariant.base)

-- in a unit's second moment the run isn't over
abbrev pub SoundAt : Code → Moment → State → Type 0
SoundAt code Between s = Sound code s
SoundAt code Arrived s = Sound code s × (is_over s.phase ≡ false)
SoundAt code Operated s = SoundAfter code s

-- an operation has a result, which stands so
pub record OperatesSoundly (code : Code) (o : Option Step) : Type 0 where
  pub step : Step
  pub is : o ≡ Some step
  pub after : SoundAfter code step.state
