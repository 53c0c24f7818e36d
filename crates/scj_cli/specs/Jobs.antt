-- The files that a call reads.
use Rattle.std.specs.Prelude.{ℕ, List, [], ◌∷◌, ◌++◌, length, take, slice_index_or, Option, Some, None, if◌then◌else◌}
use Rattle.std.specs.Str.{bytes_eq}
use Rattle.command_line.specs.Job.{Job, Check, Run, Areas, Show, Gen, Respond, Confirm, Faults, Audit, Migrate, Bounds}

-- the names of the files that a call reads, in this order: beside others the plan's comes last
abbrev pub files_of : Option Job → List (List ℕ)
files_of None = []
files_of (Some (Check names)) = names
files_of (Some (Run plan names)) = names ++ plan ∷ []
files_of (Some (Areas plan names)) = names ++ plan ∷ []
files_of (Some (Show names)) = names
files_of (Some (Gen size)) = []
files_of (Some (Respond plan)) = plan ∷ []
files_of (Some (Confirm plan)) = plan ∷ []
files_of (Some (Faults names)) = names
files_of (Some (Audit plan trace)) = trace ∷ plan ∷ []
files_of (Some (Migrate plan)) = plan ∷ []
files_of (Some (Bounds names)) = names

-- of the contents of the files of a run, those of its sources, which have these names
abbrev pub sources_among : List (List ℕ) → List (List ℕ) → List (List ℕ)
sources_among names contents = take (length names) contents

-- and the plan's, behind them
abbrev pub plan_among : List (List ℕ) → List (List ℕ) → List ℕ
plan_among names contents = slice_index_or contents (length names) []

-- the most bytes of a file
abbrev pub file_limit : ℕ
file_limit = 1048576

-- and of the file of a trace
abbrev pub trace_limit : ℕ
trace_limit = 67108864

-- the most bytes of the file of each name
abbrev pub one_limit : List ℕ → ℕ
one_limit name = file_limit

-- in an audit: a file that is the plan's, too, has no more bytes than another plan's
abbrev pub audit_limits : List ℕ → List ℕ → ℕ
audit_limits plan name = if bytes_eq name plan then file_limit else trace_limit

-- in a job
abbrev pub limits_of : Option Job → List ℕ → ℕ
limits_of (Some (Audit plan trace)) = audit_limits plan
limits_of _ = one_limit
