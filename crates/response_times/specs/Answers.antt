-- What the answers to a text of declared rows must be.
use Rattle.std.specs.Prelude.{◌≡◌, Option, Some, None, Result, Ok, Err}
use Rattle.toml.specs.Errors.{IsMemory}
use Rattle.toml.specs.declared.de.error.Error.{Error}
use Rattle.run_plan.specs.PlanOf.{Refusal, not_toml, bad_key, bad_value}
use Rattle.response_times.specs.DeclaredOf.{DeclaredMeaning, declared, refused}
use Rattle.response_times.specs.declared.answers.DeclaredError.{DeclaredError}
use Rattle.response_times.specs.declared.answers.DeclaredError.TheVariants as answer
use Rattle.response_times.specs.declared.files.DeclaredFile.{DeclaredFile}

-- the answer tells the refusal; memory may run out at any
abbrev pub Reports : Refusal → DeclaredError → Type 0
Reports refusal answer.NotToml = refusal ≡ not_toml
Reports refusal (answer.BadKey key) = refusal ≡ bad_key key
Reports refusal (answer.BadValue key) = refusal ≡ bad_value key
Reports refusal answer.Memory = Unit {0}

-- `Ok` where nothing is refused, and else the refusal
abbrev pub ReportsWhether : Option Refusal → Result (Unit {0}) DeclaredError → Type 0
ReportsWhether refusal (Ok _) = refusal ≡ None
ReportsWhether refusal (Err answer.NotToml) = refusal ≡ Some not_toml
ReportsWhether refusal (Err (answer.BadKey key)) = refusal ≡ Some (bad_key key)
ReportsWhether refusal (Err (answer.BadValue key)) = refusal ≡ Some (bad_value key)
ReportsWhether refusal (Err answer.Memory) = Unit {0}

-- why `toml` refuses a text: it isn't TOML, or memory ran out
abbrev pub ReportsError : Error → DeclaredError → Type 0
ReportsError error answer.Memory = IsMemory error
ReportsError error answer.NotToml = ¬ IsMemory error
ReportsError error _ = ⊥

-- the rows with what is claimed for them, or the refusal
abbrev pub ReportsDeclared : DeclaredMeaning → Result DeclaredFile DeclaredError → Type 0
ReportsDeclared meaning (Ok file) = meaning ≡ declared file.rows file.claimed
ReportsDeclared meaning (Err answer.NotToml) = meaning ≡ refused not_toml
ReportsDeclared meaning (Err (answer.BadKey key)) = meaning ≡ refused (bad_key key)
ReportsDeclared meaning (Err (answer.BadValue key)) = meaning ≡ refused (bad_value key)
ReportsDeclared meaning (Err answer.Memory) = Unit {0}
