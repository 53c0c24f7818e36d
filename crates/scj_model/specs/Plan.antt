-- A plan: what a run is given from outside (this project's profile).
use Rattle.std.specs.Prelude.{ℕ, List}
use Rattle.scj_model.specs.declared.plans.Fire.{Fire}
use Rattle.scj_model.specs.declared.plans.ReadingRow.{ReadingRow}

-- how many units the run has at most, the bytes of the store, the releases from outside, and what the device reads
pub record Plan : Type 0 where
  pub units : ℕ
  pub store : ℕ
  pub fires : List Fire
  pub readings : List ReadingRow
