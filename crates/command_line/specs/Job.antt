-- What the words of a call ask for.
use Rattle.std.specs.Prelude.{ℕ, Bool, not, ◌==◌, ◌&&◌, ◌||◌, List, [], ◌∷◌, Option, Some, None, is_some, nat_le, length, codes, if◌then◌else◌, option_map}
use Rattle.std.specs.List.{list_all}
use Rattle.std.specs.Option.{option_and_then}
use Rattle.std.specs.Str.{bytes_eq}
use Rattle.clap.specs.Walk.{is_empty}
use Rattle.clap.specs.Words.{Row, Text, all_of, fault_of, first_of, matches_of}
use Rattle.command_line.specs.Command.{command}
use Rattle.command_line.specs.Sizes.{size_of}

-- check the files of these names; run their program by the plan in the file of the first name; tell what areas
-- that run needs; show them; generate a
-- program of this size and run it; bound the responses of the rows in the file of this name; confirm the bounds that
-- stand beside them; list the faults of the files of these names that are certain; audit, by the plan in the file of
-- the first name, the trace in the file of the other; print the plan in the file of this name as one of version 2; or
-- bound the private memories of the program of the files of these names
pub data Job : Type 0 where
  Check : List Text → Job
  Run : Text → List Text → Job
  Areas : Text → List Text → Job
  Show : List Text → Job
  Gen : ℕ → Job
  Respond : Text → Job
  Confirm : Text → Job
  Faults : List Text → Job
  Audit : Text → Text → Job
  Migrate : Text → Job
  Bounds : List Text → Job

-- what the command finds in the words: MODE, FILE of `--plan`, N of `--size` and each SOURCE
pub record Given : Type 0 where
  pub mode : Text
  pub plan : Option Text
  pub size : Option Text
  pub sources : Option (List Text)

-- ---- the rules of the modes

-- a byte that may stand in a line that is printed: no control byte
abbrev pub is_printable : ℕ → Bool
is_printable b = nat_le 32 b && not (b == 127)

-- the name of a file is not empty, and has no control byte
unfoldable pub is_file_name : Text → Bool
is_file_name name = not (is_empty name) && list_all is_printable name

-- the names of 1 to 16 files
unfoldable pub are_sources : List Text → Bool
are_sources names =
    not (is_empty names) && (nat_le (length names) 16 && list_all is_file_name names)

-- the sources, where they are the names of 1 to 16 files
unfoldable pub sources_in : Given → Option (List Text)
sources_in g = option_and_then (λ names. if are_sources names then Some names else None) g.sources

-- the plan, where it is the name of a file
unfoldable pub plan_in : Given → Option Text
plan_in g = option_and_then (λ name. if is_file_name name then Some name else None) g.plan

-- the sources, where there is no option
unfoldable pub sources_alone : Given → Option (List Text)
sources_alone g = if is_some g.plan || is_some g.size then None else sources_in g

-- the one name among names, where there is one alone
unfoldable pub only_name : List Text → Option Text
only_name (name ∷ []) = Some name
only_name _ = None

-- the source, where it is the name of one file
unfoldable pub only_source : Given → Option Text
only_source g = option_and_then only_name (sources_in g)

-- the plan and the sources, where there is no size
unfoldable pub plan_and_sources : Given → Option (Text × List Text)
plan_and_sources g = if is_some g.size then None
    else option_and_then (λ plan. option_map (λ sources. (plan, sources)) (sources_in g)) (plan_in g)

-- the plan, where there is neither a size nor a source
unfoldable pub plan_alone : Given → Option Text
plan_alone g = if is_some g.size || is_some g.sources then None else plan_in g

-- the size, where there is neither a plan nor a source
unfoldable pub size_alone : Given → Option ℕ
size_alone g = if is_some g.plan || is_some g.sources then None else option_and_then size_of g.size

unfoldable pub check_job : Given → Option Job
check_job g = option_map Check (sources_alone g)

unfoldable pub run_job : Given → Option Job
run_job g = option_map (λ given. Run given.0 given.1) (plan_and_sources g)

unfoldable pub areas_job : Given → Option Job
areas_job g = option_map (λ given. Areas given.0 given.1) (plan_and_sources g)

unfoldable pub show_job : Given → Option Job
show_job g = option_map Show (sources_alone g)

unfoldable pub gen_job : Given → Option Job
gen_job g = option_map Gen (size_alone g)

unfoldable pub respond_job : Given → Option Job
respond_job g = option_map Respond (plan_alone g)

unfoldable pub confirm_job : Given → Option Job
confirm_job g = option_map Confirm (plan_alone g)

unfoldable pub faults_job : Given → Option Job
faults_job g = option_map Faults (sources_alone g)

unfoldable pub audit_job : Given → Option Job
audit_job g = if is_some g.size then None
    else option_and_then (λ plan. option_map (Audit plan) (only_source g)) (plan_in g)

unfoldable pub migrate_job : Given → Option Job
migrate_job g = option_map Migrate (plan_alone g)

unfoldable pub bounds_job : Given → Option Job
bounds_job g = option_map Bounds (sources_alone g)

-- the job of each mode; there are no other modes
unfoldable pub job_by_mode : Given → Option Job
job_by_mode g = if bytes_eq g.mode (codes "check") then check_job g
    else (if bytes_eq g.mode (codes "run") then run_job g
    else (if bytes_eq g.mode (codes "areas") then areas_job g
    else (if bytes_eq g.mode (codes "show") then show_job g
    else (if bytes_eq g.mode (codes "gen") then gen_job g
    else (if bytes_eq g.mode (codes "respond") then respond_job g
    else (if bytes_eq g.mode (codes "confirm") then confirm_job g
    else (if bytes_eq g.mode (codes "faults") then faults_job g
    else (if bytes_eq g.mode (codes "audit") then audit_job g
    else (if bytes_eq g.mode (codes "migrate") then migrate_job g
    else (if bytes_eq g.mode (codes "bounds") then bounds_job g else None))))))))))

-- ---- the job of the words

abbrev pub given_with : List Row → Text → Given
given_with rows mode = record {
  mode = mode;
  plan = first_of (codes "plan") rows;
  size = first_of (codes "size") rows;
  sources = all_of (codes "source") rows;
}

-- what the matches hold
unfoldable pub given_in : List Row → Option Given
given_in rows = option_map (given_with rows) (first_of (codes "mode") rows)

-- the job that the matches of the command ask for
unfoldable pub job_in : List Row → Option Job
job_in rows = option_and_then job_by_mode (given_in rows)

-- the command takes the words, and what they hold keeps the rules of the mode
unfoldable pub job_of : List Text → Option Job
job_of words =
    if is_empty (fault_of command words) then job_in (matches_of command words) else None
