-- What stands on a shelf, and what a load of a name may answer.
use Rattle.std.specs.Prelude.{◌≡◌, ℕ, ◌<◌, ◌≤◌, List, length}
use Rattle.scj_io.specs.Counters.{Rose}
use Rattle.scj_io.specs.declared.shelves.LoadError.{LoadError}
use Rattle.scj_io.specs.declared.shelves.LoadError.TheVariants.{Failed, TooLong, Memory}

-- what a shelf tells of a name: its bytes, that it holds none, or nothing
pub data Held : Type 0 where
  Reported : List ℕ → Held
  Absent : Held
  Unreported : Held

-- a shelf at two moments: what it holds, its count of faults of each name at the first and at the
-- second moment, and by the second moment the most bytes that a load of each name has taken
pub record ShelfRun : Type 0 where
  pub held : List ℕ → Held
  pub faults_before : List ℕ → ℕ
  pub faults_after : List ℕ → ℕ
  pub most : List ℕ → ℕ

abbrev pub shelf_run : (List ℕ → Held) → (List ℕ → ℕ) → (List ℕ → ℕ) → (List ℕ → ℕ) → ShelfRun
shelf_run held faults_before faults_after most = record {
  held = held;
  faults_before = faults_before;
  faults_after = faults_after;
  most = most;
}

-- from one moment to a later one: what is held stays as it is, and no count falls, whatever the name
pub record ShelfGoes (old_held new_held : List ℕ → Held) (old_faults new_faults old_most new_most : List ℕ → ℕ) : Type 0
  where
    pub held : (name : List ℕ) → new_held name ≡ old_held name
    pub faults : (name : List ℕ) → old_faults name ≤ new_faults name
    pub most : (name : List ℕ) → old_most name ≤ new_most name

-- the bytes may be what stands under a name
abbrev pub MayHold : Held → List ℕ → Type 0
MayHold (Reported bytes) items = items ≡ bytes
MayHold Absent items = ⊥
MayHold Unreported items = Unit {0}

-- more bytes than the limit may stand under a name
abbrev pub MayExceed : Held → ℕ → Type 0
MayExceed (Reported bytes) limit = limit < length bytes
MayExceed Absent limit = ⊥
MayExceed Unreported limit = Unit {0}

-- a load of the name gave these bytes
pub record LoadHolds (run : ShelfRun) (name : List ℕ) (limit : ℕ) (items : List ℕ) : Type 0 where
  pub content : MayHold (run.held name) items
  pub within : length items ≤ limit
  pub counted : length items ≤ run.most name

-- a load of the name took more bytes than the limit
pub record LoadExceeds (run : ShelfRun) (name : List ℕ) (limit taken : ℕ) : Type 0 where
  pub content : MayExceed (run.held name) limit
  pub beyond : limit < taken
  pub counted : taken ≤ run.most name

-- when each refusal of a load comes; want of memory is free
abbrev pub LoadRefuses : ShelfRun → List ℕ → ℕ → LoadError → Type 0
LoadRefuses run name limit Failed = Rose (run.faults_before name) (run.faults_after name)
LoadRefuses run name limit (TooLong taken) = LoadExceeds run name limit taken
LoadRefuses run name limit Memory = Unit {0}

-- the answers that are left for a name whose bytes are more than the limit where no fault rises
abbrev pub IsTooLongOrMemory : LoadError → Type 0
IsTooLongOrMemory Failed = ⊥
IsTooLongOrMemory (TooLong taken) = Unit {0}
IsTooLongOrMemory Memory = Unit {0}
