-- What the modes over declared rows answer, by what the text of their file means.
use Rattle.std.specs.Prelude.{ℕ, Bool, List, [], codes, if◌then◌else◌}
use Rattle.scj_base.specs.declared.statuses.Status.{Status}
use Rattle.scj_base.specs.declared.statuses.Status.TheVariants as status
use Rattle.response_bounds.specs.Responses.{responses_of, are_bounds}
use Rattle.response_times.specs.DeclaredOf.{DeclaredMeaning, declared, refused}
use Rattle.response_times.specs.Lines.{response_lines}
use Rattle.scj_cli.specs.Outcomes.{plan_line}

abbrev pub declared_status : DeclaredMeaning → Status
declared_status (refused why) = status.PlanRefused
declared_status (declared rows claims) = status.Done

-- on `out`, where the responses are bounded: a line a row
abbrev pub respond_out : DeclaredMeaning → List ℕ
respond_out (refused why) = []
respond_out (declared rows claims) = response_lines rows (responses_of rows)

-- whether the bounds are confirmed
abbrev pub confirmed_line : Bool → List ℕ
confirmed_line are_confirmed = if are_confirmed then codes "yes\n" else codes "no\n"

-- on `out`, where the claimed bounds are confirmed
abbrev pub confirm_out : DeclaredMeaning → List ℕ
confirm_out (refused why) = []
confirm_out (declared rows claims) = confirmed_line (are_bounds rows claims)

-- on `err`, as of a text that is no plan
abbrev pub declared_err : DeclaredMeaning → List ℕ
declared_err (refused why) = plan_line why
declared_err (declared rows claims) = []
