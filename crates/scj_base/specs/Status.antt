-- The exit status of each status.
use Rattle.std.specs.Prelude.{ℕ}
use Rattle.scj_base.specs.declared.statuses.Status.{Status}
use Rattle.scj_base.specs.declared.statuses.Status.TheVariants.{Done, Refused, Usage, Halted, PlanRefused, ReadFault, WriteFault, NoMemory, TooLong}

abbrev pub code_of : Status → ℕ
code_of Done = 0
code_of Refused = 1
code_of Usage = 2
code_of Halted = 3
code_of PlanRefused = 4
code_of ReadFault = 5
code_of WriteFault = 6
code_of NoMemory = 7
code_of TooLong = 8
