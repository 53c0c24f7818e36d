-- What a sink does to its writer.
use Rattle.std.specs.Prelude.{◌≡◌, ℕ, List, ◌++◌, Option}
use Rattle.std.specs.Io.KnownBytes.{Appends}
use Rattle.scj_io.specs.declared.std_sinks.StdSink.{StdSink}

abbrev pub writer_of : {W : Type 0} → StdSink W → W
writer_of sink = sink.writer

abbrev pub faults_of : {W : Type 0} → StdSink W → ℕ
faults_of sink = sink.faults

-- what a writer is known to hold grew by a front of these bytes
abbrev pub AppendsFront : Option (List ℕ) → Option (List ℕ) → List ℕ → Type 0
AppendsFront before after bytes = (front : List ℕ) × (rest : List ℕ) × (bytes ≡ front ++ rest) ×
    Appends before after front
