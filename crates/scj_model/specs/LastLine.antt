-- The last line of a trace: that the run is done, halted or stopped.
use Rattle.std.specs.Prelude.{◌≡◌, Bool, true, false, List, [], ◌∷◌, ◌++◌}
use Rattle.std.specs.List.{list_any}
use Rattle.scj_model.specs.declared.events.Event.{Event}
use Rattle.scj_model.specs.declared.events.Event.TheVariants.{Done, Halted, Stopped}

unfoldable pub is_last_line : Event → Bool
is_last_line (Done unit) = true
is_last_line (Halted unit) = true
is_last_line (Stopped unit) = true
is_last_line _ = false

-- no event is a last line
abbrev pub HasNoLastLine : List Event → Type 0
HasNoLastLine events = list_any is_last_line events ≡ false

-- the last event is a last line, and none before it is
pub record EndsInLastLine (events : List Event) : Type 0 where
  pub before : List Event
  pub last : Event
  pub are : events ≡ before ++ last ∷ []
  pub ends : is_last_line last ≡ true
  pub none_before : HasNoLastLine before
