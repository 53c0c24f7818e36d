-- States, steps and results that differ in nothing that is looked at again: a fault of the sequencer ends the run, and
-- which frames the sequencer had then plays no part any more.
use Rattle.std.specs.Prelude.{◌≡◌, true, Option, Some, None}
use Rattle.scj_model.specs.State.{Activity, State, is_over}
use Rattle.scj_model.specs.Steps.{Step}

pub data IsAlike (s : State) : State → Type 0 where
  same : IsAlike s s
  over : (activity : Activity) → is_over s.phase ≡ true → s.outcome ≡ None →
      IsAlike s (record s { activity = activity })

pub record IsAlikeStep (a b : Step) : Type 0 where
  pub states : IsAlike a.state b.state
  pub events : a.events ≡ b.events

pub data IsAlikeTry : Option Step → Option Step → Type 0 where
  none : IsAlikeTry None None
  some : {a b : Step} → IsAlikeStep a b → IsAlikeTry (Some a) (Some b)
