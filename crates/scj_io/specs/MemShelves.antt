-- What a shelf in memory holds and counts.
use Rattle.std.specs.Prelude.{◌≡◌, ℕ, List, Option, Some, None, Contains, ◌⊎◌, length}
use Rattle.std.specs.BTreeMap.{get_by_text}
use Rattle.scj_io.specs.Counters.{one_more}
use Rattle.scj_io.specs.Loads.{Held}
use Rattle.scj_io.specs.Loads.Held.{Reported, Absent}
use Rattle.scj_io.specs.declared.shelves.LoadError.{LoadError}
use Rattle.scj_io.specs.declared.shelves.LoadError.TheVariants.{Failed, TooLong, Memory}
use Rattle.scj_io.specs.declared.mem_shelves.Stored.{Stored}
use Rattle.scj_io.specs.declared.mem_shelves.MemShelf.{MemShelf}

abbrev pub reported_by : Option Stored → Held
reported_by (Some stored) = Reported stored.bytes.items
reported_by None = Absent

-- a held name has a counter of its own, and all other names have one together
abbrev pub counter_of : Option Stored → ℕ → ℕ
counter_of (Some stored) others = stored.faults
counter_of None others = others

-- a file after one more fault of its name
abbrev pub faulted : Stored → Stored
faulted stored = record stored { faults = one_more stored.faults }

-- what is held under a name
abbrev pub held_of : MemShelf → List ℕ → Held
held_of shelf name = reported_by (get_by_text shelf.stored name)

-- the faults of a name
abbrev pub faults_of : MemShelf → List ℕ → ℕ
faults_of shelf name = counter_of (get_by_text shelf.stored name) shelf.absent_faults

-- the most bytes that a load has taken
abbrev pub most_of : MemShelf → ℕ
most_of shelf = shelf.most

-- how many loads it was asked for
abbrev pub loads_of : MemShelf → ℕ
loads_of shelf = shelf.calls

-- the numbers of the loads that are to fail, counted from 1
abbrev pub failing_loads : MemShelf → List ℕ
failing_loads shelf = shelf.failing.items

-- the next load, of this name, is one that is to fail, or the name isn't held
abbrev pub RefusesLoad : MemShelf → List ℕ → Type 0
RefusesLoad shelf name = (held_of shelf name ≡ Absent) ⊎ Contains (failing_loads shelf) (one_more (loads_of shelf))

-- two names have one counter: they are one name, or neither is held
abbrev pub ShareCounter : MemShelf → List ℕ → List ℕ → Type 0
ShareCounter shelf name other = (other ≡ name) ⊎ ((held_of shelf name ≡ Absent) × (held_of shelf other ≡ Absent))

-- a load of these bytes that is too long took them all
abbrev pub TakesWhole : List ℕ → LoadError → Type 0
TakesWhole bytes Failed = Unit {0}
TakesWhole bytes (TooLong taken) = taken ≡ length bytes
TakesWhole bytes Memory = Unit {0}
