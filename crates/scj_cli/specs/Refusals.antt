-- The status of a refusal, and its line.
use Rattle.std.specs.Prelude.{◌≡◌, ◌<◌, List, ℕ, string_bytes}
use Rattle.scj_base.specs.declared.statuses.Status.{Status}
use Rattle.scj_base.specs.declared.statuses.Status.TheVariants as status
use Rattle.scj_cli.specs.declared.refusals.Refusal.{Refusal}
use Rattle.scj_cli.specs.declared.refusals.Refusal.TheVariants.{Usage, Unread, Overlong, Unplanned, OutOfMemory}
use Rattle.scj_cli.specs.Answers.{usage_line}
use Rattle.scj_io.specs.Loads.{ShelfRun, MayExceed}
use Rattle.scj_cli.specs.Endings.{memory_line, read_line, too_long_line, IsReached, IsUnread}

abbrev pub status_of : Refusal → Status
status_of Usage = status.Usage
status_of (Unread line) = status.ReadFault
status_of (Overlong line) = status.TooLong
status_of (Unplanned line) = status.PlanRefused
status_of OutOfMemory = status.NoMemory

abbrev pub line_of : Refusal → List ℕ
line_of Usage = usage_line
line_of (Unread line) = string_bytes line
line_of (Overlong line) = string_bytes line
line_of (Unplanned line) = line.items
line_of OutOfMemory = memory_line

-- the refusals of a load of the name within the limit
abbrev pub RefusesLoad : ShelfRun → ℕ → List ℕ → Refusal → Type 0
RefusesLoad shelf limit name Usage = ⊥
RefusesLoad shelf limit name (Unread line) = IsUnread shelf name × (string_bytes line ≡ read_line name)
RefusesLoad shelf limit name (Overlong line) = MayExceed (shelf.held name) limit × (limit < shelf.most name) ×
    (string_bytes line ≡ too_long_line name)
RefusesLoad shelf limit name (Unplanned line) = ⊥
RefusesLoad shelf limit name OutOfMemory = Unit {0}

-- the refusals of the loads of the names, one after the other, each within its limit
abbrev pub RefusesLoads : ShelfRun → (List ℕ → ℕ) → List (List ℕ) → Refusal → Type 0
RefusesLoads shelf limits names Usage = ⊥
RefusesLoads shelf limits names (Unread line) = (name : List ℕ) × IsReached shelf.held limits name names ×
    RefusesLoad shelf (limits name) name (Unread line)
RefusesLoads shelf limits names (Overlong line) = (name : List ℕ) × IsReached shelf.held limits name names ×
    RefusesLoad shelf (limits name) name (Overlong line)
RefusesLoads shelf limits names (Unplanned line) = ⊥
RefusesLoads shelf limits names OutOfMemory = Unit {0}
