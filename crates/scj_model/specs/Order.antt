-- Who has frames between two units: outside execution no release is started, in execution the sequencer has no frame,
-- and what follows an operation of the sequencer has been done.
use Rattle.std.specs.Prelude.{◌≡◌, true, false, [], None}
use Rattle.scj_model.specs.State.{State, is_exec}
use Rattle.scj_model.specs.Sequencer.{has_started}

pub record IsOrderly (s : State) : Type 0 where
  pub outside : is_exec s.phase ≡ false → has_started s ≡ false
  pub inside : is_exec s.phase ≡ true → s.activity.frames ≡ []
  pub followed : s.outcome ≡ None
