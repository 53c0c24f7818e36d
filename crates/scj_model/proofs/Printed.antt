-- What a run of a program prints, from its nodes on.
use Rattle.std.specs.Prelude.{ℕ, [], List}
use Rattle.scj_tree.specs.Forest.{Forest}
use Rattle.scj_model.specs.declared.plans.Fire.{Fire}
use Rattle.scj_model.specs.Code.{code_of}
use Rattle.scj_model.specs.Plan.{Plan}
use Rattle.scj_model.specs.Run.{trace}
use Rattle.scj_model.specs.TraceText.{text}

-- so many units, so many bytes of store, and these fires
abbrev pub with_fires : ℕ → ℕ → List Fire → Plan
with_fires units store fires = record { units = units; store = store; fires = fires; readings = [] }

abbrev pub with_store : ℕ → ℕ → Plan
with_store units store = with_fires units store []

-- the text of the trace, the files having these names
abbrev pub printed : Forest → List (List ℕ) → Plan → List ℕ
printed program files plan = text program.nodes files (trace (code_of program) plan plan.units)
