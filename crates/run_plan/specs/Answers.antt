-- What the answers to a text of a plan must be.
use Rattle.std.specs.Prelude.{◌≡◌, Option, Some, None, Result, Ok, Err}
use Rattle.scj_model.specs.Plan.{Plan}
use Rattle.toml.specs.Errors.{IsMemory}
use Rattle.toml.specs.declared.de.error.Error.{Error}
use Rattle.run_plan.specs.PlanOf.{Refusal, not_toml, bad_key, bad_value, Meaning, plan, refused}
use Rattle.run_plan.specs.declared.answers.PlanError.{PlanError}
use Rattle.run_plan.specs.declared.answers.PlanError.TheVariants as answer

-- the answer tells the refusal; memory may run out at any
abbrev pub Reports : Refusal → PlanError → Type 0
Reports refusal answer.NotToml = refusal ≡ not_toml
Reports refusal (answer.BadKey key) = refusal ≡ bad_key key
Reports refusal (answer.BadValue key) = refusal ≡ bad_value key
Reports refusal answer.Memory = Unit {0}

-- `Ok` where nothing is refused, and else the refusal
abbrev pub ReportsWhether : Option Refusal → Result (Unit {0}) PlanError → Type 0
ReportsWhether refusal (Ok _) = refusal ≡ None
ReportsWhether refusal (Err answer.NotToml) = refusal ≡ Some not_toml
ReportsWhether refusal (Err (answer.BadKey key)) = refusal ≡ Some (bad_key key)
ReportsWhether refusal (Err (answer.BadValue key)) = refusal ≡ Some (bad_value key)
ReportsWhether refusal (Err answer.Memory) = Unit {0}

-- why `toml` refuses a text: it isn't TOML, or memory ran out
abbrev pub ReportsError : Error → PlanError → Type 0
ReportsError error answer.Memory = IsMemory error
ReportsError error answer.NotToml = ¬ IsMemory error
ReportsError error _ = ⊥

-- the plan, or the refusal
abbrev pub ReportsMeaning : Meaning → Result Plan PlanError → Type 0
ReportsMeaning meaning (Ok p) = meaning ≡ plan p
ReportsMeaning meaning (Err answer.NotToml) = meaning ≡ refused not_toml
ReportsMeaning meaning (Err (answer.BadKey key)) = meaning ≡ refused (bad_key key)
ReportsMeaning meaning (Err (answer.BadValue key)) = meaning ≡ refused (bad_value key)
ReportsMeaning meaning (Err answer.Memory) = Unit {0}
