-- How a run ends, by the last line of its trace.
use Rattle.std.specs.Prelude.{List, Option, Some, None}
use Rattle.std.specs.List.{last_or}
use Rattle.scj_rules.specs.Words.{◌>>=◌}
use Rattle.scj_model.specs.declared.events.Event.{Event}
use Rattle.scj_model.specs.declared.events.Event.TheVariants as line
use Rattle.plain_machine.specs.declared.runs.RunEnd.{RunEnd}
use Rattle.plain_machine.specs.declared.runs.RunEnd.TheVariants.{Stopped, Done, Halted}

-- the end that an event tells, if it tells one
unfoldable pub end_reported : Event → Option RunEnd
end_reported (line.Done unit) = Some Done
end_reported (line.Halted unit) = Some Halted
end_reported (line.Stopped unit) = Some Stopped
end_reported _ = None

-- the end that the last event tells
unfoldable pub end_of : List Event → Option RunEnd
end_of events = last_or None events >>= end_reported
