-- What a sink in memory holds, and when it refuses a put.
use Rattle.std.specs.Prelude.{ℕ, ◌+◌, ◌<◌, List, [], length, Contains, ◌⊎◌}
use Rattle.scj_io.specs.Counters.{one_more}

-- a sink in memory: the bytes that it has taken, the most that it may take, how many puts it was asked
-- for, the numbers of those that are to fail, counted from 1, and how many it has refused
pub record MemSinkView : Type 0 where
  pub taken : List ℕ
  pub capacity : ℕ
  pub puts : ℕ
  pub failing : List ℕ
  pub faults : ℕ

-- a sink that was asked for nothing
abbrev pub empty_sink : ℕ → MemSinkView
empty_sink capacity = record { taken = []; capacity = capacity; puts = 0; failing = []; faults = 0 }

-- the next put, of these bytes, is one that is to fail, or has no room
abbrev pub RefusesPut : MemSinkView → List ℕ → Type 0
RefusesPut sink bytes = Contains sink.failing (one_more sink.puts) ⊎ (sink.capacity < length sink.taken + length bytes)
