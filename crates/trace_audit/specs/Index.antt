-- How the releases of a replay are kept, so that Pick and a release of a name are found quickly: each candidate has a
-- key among those of a heap, the greatest of which belongs to the most urgent one; and each handler has the places of
-- its releases.
use Rattle.std.specs.Prelude.{◌≡◌, ◌≤◌, ℕ, zero, suc, ◌+◌, ◌-◌, ◌*◌, ◌/◌, ◌%◌, ◌==◌, Bool, true, false, List, [], ◌∷◌, ◌++◌, length, map, option_map, slice_get, slice_set, Option, Some, None}
use Rattle.std.specs.BinaryHeap.{IsHeap, heap_items}
use Rattle.std.specs.List.{list_any}
use Rattle.std.specs.Ordering.{nat_cmp}
use Rattle.scj_rules.specs.Words.{◌>>=◌, holds}
use Rattle.trace_audit.specs.declared.releases.Release.{Release}
use Rattle.trace_audit.specs.declared.releases.Standing.{Standing}
use Rattle.trace_audit.specs.declared.releases.Standing.TheVariants.{Waits, Started, Gone}
use Rattle.trace_audit.specs.declared.handlers.Handler.{Handler}
use Rattle.trace_audit.specs.declared.tables.ReleaseTable.{ReleaseTable}
use Rattle.trace_audit.specs.Replay.{HandlerSeen, Releases, handler_at, is_named, priority_at, release_named}

abbrev pub handler_seen : Handler → HandlerSeen
handler_seen h = record { priority = h.priority; arrived = length h.indices.items }

abbrev pub all_seen : List Handler → List Release → Releases
all_seen handlers releases = record { handlers = map handler_seen handlers; releases = releases }

-- ---- keys

-- one more than the greatest place
abbrev pub indices_end : ℕ
indices_end = 4294967296

-- how urgent a candidate is, besides its place: by its active priority, and between equals by whether it is started
abbrev pub rank_of : List HandlerSeen → Release → Option ℕ
rank_of handlers r =
    elim r.standing [
      | Waits ↦ Some (2 * priority_at handlers r.handler)
      | Started priority ↦ Some (2 * priority + 1)
      | Gone ↦ None
    ]

-- the key of a candidate: of equal ranks the earlier place has the greater one
abbrev pub key_of : ℕ → ℕ → ℕ
key_of rank index = rank * indices_end + (4294967295 - index)

abbrev pub rank_in : ℕ → ℕ
rank_in key = key / indices_end

abbrev pub index_in : ℕ → ℕ
index_in key = 4294967295 - key % indices_end

abbrev pub is_rank : ℕ → Option ℕ → Bool
is_rank rank None = false
is_rank rank (Some n) = n == rank

-- the release at the key's place has the key's rank
abbrev pub is_current : Releases → ℕ → Bool
is_current all key =
    holds (slice_get all.releases (index_in key)) (λ r. is_rank (rank_in key) (rank_of all.handlers r))

abbrev pub is_among_keys : ℕ → List ℕ → Bool
is_among_keys key keys = list_any (λ k. k == key) keys

-- each candidate has its key in the heap; others may stand there, too
pub record HasKeys (all : Releases) (keys : List ℕ) : Type 0 where
  pub few : length all.releases ≤ indices_end
  pub is : (index rank : ℕ) (r : Release) → slice_get all.releases index ≡ Some r →
      rank_of all.handlers r ≡ Some rank → is_among_keys (key_of rank index) keys ≡ true

-- the keys are those of before, and that of a candidate of the rank, if there is one
pub record HasMoreKeys (keys after : List ℕ) (rank : Option ℕ) (index : ℕ) : Type 0 where
  pub stay : (key : ℕ) → is_among_keys key keys ≡ true → is_among_keys key after ≡ true
  pub new : (n : ℕ) → rank ≡ Some n → is_among_keys (key_of n index) after ≡ true

-- ---- places of handlers

-- the place that a handler has for the release of a number
abbrev pub index_kept : List Handler → ℕ → ℕ → Option ℕ
index_kept handlers zero number = None
index_kept handlers (suc k) zero = None
index_kept handlers (suc k) (suc i) = slice_get handlers k >>= (λ h. slice_get h.indices.items i)

pub record HasIndices (handlers : List Handler) (releases : List Release) : Type 0 where
  pub kept : (index : ℕ) (r : Release) → slice_get releases index ≡ Some r →
      index_kept handlers r.handler r.number ≡ Some index
  pub right : (handler number index : ℕ) → index_kept handlers handler number ≡ Some index →
      holds (slice_get releases index) (is_named handler number) ≡ true

-- a handler has one more place, behind its others
pub record HasIndexAdded (handlers after : List Handler) (k index : ℕ) : Type 0 where
  pub row : Handler
  pub new : Handler
  pub there : slice_get handlers k ≡ Some row
  pub same_priority : new.priority ≡ row.priority
  pub pushed : new.indices.items ≡ row.indices.items ++ index ∷ []
  pub are : after ≡ slice_set handlers k new

-- the heap is one, and both hold
pub record IsIndexed (handlers : List Handler) (releases : List Release) (keys : List ℕ) : Type 0 where
  pub ordered : IsHeap nat_cmp keys
  pub keyed : HasKeys (all_seen handlers releases) keys
  pub placed : HasIndices handlers releases

-- ---- a table of releases

-- what a table holds
abbrev pub seen : ReleaseTable → Releases
seen table = all_seen table.handlers.items table.releases.items

abbrev pub IsKept : ReleaseTable → Type 0
IsKept table = IsIndexed table.handlers.items table.releases.items (heap_items table.keys)

-- the standing of a release of this name
abbrev pub standing_named : Releases → ℕ → ℕ → Option Standing
standing_named all handler number =
    option_map (λ (r : Release). r.standing) (release_named all.releases handler number)

-- the number is that of the handler's next release
abbrev pub is_next : List HandlerSeen → ℕ → ℕ → Bool
is_next handlers handler number = holds (handler_at handlers handler) (λ h. number == h.arrived + 1)
