-- What a sink has taken, and what a put of a piece leaves behind.
use Rattle.std.specs.Prelude.{◌≡◌, ℕ, ◌≤◌, List, ◌++◌, Option, Some, None}
use Rattle.scj_io.specs.Counters.{Rose}

-- all that a sink has taken with more bytes behind it; a sink that doesn't tell what it has taken goes on so
abbrev pub appended : Option (List ℕ) → List ℕ → Option (List ℕ)
appended (Some taken) bytes = Some (taken ++ bytes)
appended None bytes = None

-- the sink took exactly these bytes
pub record Took (before after : Option (List ℕ)) (bytes : List ℕ) : Type 0 where
  pub whole : after ≡ appended before bytes

-- the sink took a front of these bytes, which may be none or all of them
pub record TookFront (before after : Option (List ℕ)) (bytes : List ℕ) : Type 0 where
  pub front : List ℕ
  pub rest : List ℕ
  pub parts : bytes ≡ front ++ rest
  pub took : after ≡ appended before front

-- a sink at two moments: what it has taken, and its count of faults
pub record SinkRun : Type 0 where
  pub taken_before : Option (List ℕ)
  pub taken_after : Option (List ℕ)
  pub faults_before : ℕ
  pub faults_after : ℕ

abbrev pub sink_run : Option (List ℕ) → Option (List ℕ) → ℕ → ℕ → SinkRun
sink_run taken_before taken_after faults_before faults_after = record {
  taken_before = taken_before;
  taken_after = taken_after;
  faults_before = faults_before;
  faults_after = faults_after;
}

-- between the two moments the sink took exactly these bytes
pub record PutWhole (run : SinkRun) (bytes : List ℕ) : Type 0 where
  pub later : run.faults_before ≤ run.faults_after
  pub took : Took run.taken_before run.taken_after bytes

-- between the two moments the sink had a fault, and took no more than a front of these bytes
pub record PutFront (run : SinkRun) (bytes : List ℕ) : Type 0 where
  pub later : run.faults_before ≤ run.faults_after
  pub rose : Rose run.faults_before run.faults_after
  pub took : TookFront run.taken_before run.taken_after bytes
