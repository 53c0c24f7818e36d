-- How the values of the code are seen, and what an answer must be.
use Rattle.std.specs.Prelude.{◌≡◌, ◌≤◌, length, Result, MatchResult, Option, Some, None, List, map, option_map, string_bytes}
use Rattle.command_line.specs.Job.{Given as GivenTexts, Job as JobOfWords, Check, Run, Areas, Show, Gen, Respond, Confirm, Faults, Audit, Migrate, Bounds}
use Rattle.command_line.specs.Sizes.{IsSize}
use Rattle.command_line.specs.declared.given.Given.{Given}
use Rattle.command_line.specs.declared.jobs.Job.{Job}
use Rattle.command_line.specs.declared.jobs.Job.TheVariants as job
use Rattle.command_line.specs.declared.jobs.WordsError.{WordsError}
use Rattle.command_line.specs.declared.jobs.WordsError.TheVariants as answer

-- the job that a value of the code is
abbrev pub job_seen : Job → JobOfWords
job_seen (job.Check sources) = Check (map string_bytes sources.items)
job_seen (job.Run plan sources) = Run (string_bytes plan) (map string_bytes sources.items)
job_seen (job.Areas plan sources) = Areas (string_bytes plan) (map string_bytes sources.items)
job_seen (job.Show sources) = Show (map string_bytes sources.items)
job_seen (job.Gen size) = Gen size
job_seen (job.Respond plan) = Respond (string_bytes plan)
job_seen (job.Confirm plan) = Confirm (string_bytes plan)
job_seen (job.Faults sources) = Faults (map string_bytes sources.items)
job_seen (job.Audit plan trace) = Audit (string_bytes plan) (string_bytes trace)
job_seen (job.Migrate plan) = Migrate (string_bytes plan)
job_seen (job.Bounds sources) = Bounds (map string_bytes sources.items)

-- the job that is wanted is answered, and `Usage` only where none is; memory may run out in both
abbrev pub AnswersJob : Option JobOfWords → Result Job WordsError → Type 0
AnswersJob wanted r =
    MatchResult r (λ j. wanted ≡ Some (job_seen j)) (λ e. e ≡ answer.Usage → wanted ≡ None)

-- 1 to 16 names
abbrev pub IsFew : {X : Type 0} → List X → Type 0
IsFew names = (1 ≤ length names) × (length names ≤ 16)

-- sources are 1 to 16, and a size is 1 to 250
abbrev pub KeepsLimits : Job → Type 0
KeepsLimits (job.Check sources) = IsFew sources.items
KeepsLimits (job.Run plan sources) = IsFew sources.items
KeepsLimits (job.Areas plan sources) = IsFew sources.items
KeepsLimits (job.Show sources) = IsFew sources.items
KeepsLimits (job.Gen size) = IsSize size
KeepsLimits (job.Respond plan) = Unit {0}
KeepsLimits (job.Confirm plan) = Unit {0}
KeepsLimits (job.Faults sources) = IsFew sources.items
KeepsLimits (job.Audit plan trace) = Unit {0}
KeepsLimits (job.Migrate plan) = Unit {0}
KeepsLimits (job.Bounds sources) = IsFew sources.items

-- what the command found, as texts
abbrev pub texts_of : Given → GivenTexts
texts_of g = record {
  mode = g.mode.now;
  plan = option_map (λ s. s.now) g.plan;
  size = option_map (λ s. s.now) g.size;
  sources = option_map (λ names. map (λ s. s.now) names.now) g.sources;
}
