-- Findings whose order and repetitions don't matter.
use Rattle.std.specs.Prelude.{◌↔◌, List}
use Rattle.std.specs.List.{Contains}
use Rattle.scj_base.specs.declared.findings.Found.{Found}

-- two lists hold the same findings
pub record FindSame (xs ys : List Found) : Type 0 where
  pub exact : (f : Found) → Contains xs f ↔ Contains ys f
