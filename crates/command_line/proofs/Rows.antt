-- Command lines, word by word, with the job that each is: a check of the definitions by hand.
use Rattle.std.proofs.Common.{◌≡◌, ℕ, List, [], ◌∷◌, Some, None, map, refl, codes, decimal}
use Rattle.std.specs.Fmt.{digits}
use Rattle.std.specs.List.{range_with_len}
use Rattle.clap.specs.Words.{Text}
use Rattle.clap.proofs.OnLiterals.{clap_on_literals}
use Rattle.command_line.specs.Command.{bare_command, command, mode_rule, plan_rule, size_rule, source_rule}
use Rattle.command_line.specs.Job.{Job, Check, Run, Areas, Show, Gen, Respond, Confirm, Faults, Audit, Migrate, Bounds, are_sources, areas_job, audit_job, bounds_job, check_job, confirm_job, faults_job, gen_job, given_in, is_file_name, job_by_mode, job_in, job_of, migrate_job, only_name, only_source, plan_alone, plan_and_sources, plan_in, respond_job, run_job, show_job, size_alone, sources_alone, sources_in}
use Rattle.command_line.specs.Sizes.{digit_of, first_digit, number_of, size_of, with_digit}

abbrev letters : List Text
letters = map (λ c. c ∷ []) (codes "ABCDEFGHIJKLMNOP")

abbrev jobs : List (List Text × Job)
jobs =
    (codes "check" ∷ codes "A" ∷ codes "B" ∷ codes "C" ∷ [], Check (codes "A" ∷ codes "B" ∷ codes "C" ∷ []))
    ∷ (codes "--" ∷ codes "check" ∷ codes "A" ∷ [], Check (codes "A" ∷ []))
    ∷ (codes "check" ∷ codes "--" ∷ codes "A" ∷ codes "-B" ∷ [], Check (codes "A" ∷ codes "-B" ∷ []))
    ∷ (codes "check" ∷ codes "A" ∷ codes "--" ∷ codes "--plan" ∷ [], Check (codes "A" ∷ codes "--plan" ∷ []))
    ∷ (codes "check" ∷ codes "-" ∷ [], Check (codes "-" ∷ []))
    ∷ (codes "check" ∷ codes "help" ∷ codes "A" ∷ [], Check (codes "help" ∷ codes "A" ∷ []))
    ∷ (codes "check" ∷ letters, Check letters)
    ∷ (codes "check" ∷ (32 ∷ []) ∷ [], Check ((32 ∷ []) ∷ []))
    ∷ (codes "check" ∷ (195 ∷ 164 ∷ []) ∷ [], Check ((195 ∷ 164 ∷ []) ∷ []))
    ∷ (codes "show" ∷ codes "A" ∷ [], Show (codes "A" ∷ []))
    ∷ (codes "show" ∷ letters, Show letters)
    ∷ (
      codes "run" ∷ codes "--plan" ∷ codes "p" ∷ codes "A" ∷ codes "B" ∷ [],
      Run (codes "p") (codes "A" ∷ codes "B" ∷ []),
    )
    ∷ (
      codes "run" ∷ codes "A" ∷ codes "--plan" ∷ codes "p" ∷ codes "B" ∷ [],
      Run (codes "p") (codes "A" ∷ codes "B" ∷ []),
    )
    ∷ (codes "--plan" ∷ codes "p" ∷ codes "run" ∷ codes "A" ∷ [], Run (codes "p") (codes "A" ∷ []))
    ∷ (codes "run" ∷ codes "--plan=p" ∷ codes "A" ∷ [], Run (codes "p") (codes "A" ∷ []))
    ∷ (codes "run" ∷ codes "--plan=-x" ∷ codes "A" ∷ [], Run (codes "-x") (codes "A" ∷ []))
    ∷ (codes "run" ∷ codes "--plan" ∷ codes "-" ∷ codes "A" ∷ [], Run (codes "-") (codes "A" ∷ []))
    ∷ (codes "run" ∷ codes "--plan" ∷ codes "A" ∷ codes "A" ∷ [], Run (codes "A") (codes "A" ∷ []))
    ∷ (codes "run" ∷ codes "--plan" ∷ codes "p" ∷ letters, Run (codes "p") letters)
    ∷ (codes "areas" ∷ codes "--plan" ∷ codes "p" ∷ codes "A" ∷ codes "B" ∷ [], Areas (codes "p") (codes "A" ∷ codes "B" ∷ []))
    ∷ (codes "areas" ∷ codes "--plan=p" ∷ letters, Areas (codes "p") letters)
    ∷ (codes "gen" ∷ codes "--size" ∷ codes "1" ∷ [], Gen 1)
    ∷ (codes "--size" ∷ codes "40" ∷ codes "gen" ∷ [], Gen 40)
    ∷ (codes "gen" ∷ codes "--size=250" ∷ [], Gen 250)
    ∷ (codes "respond" ∷ codes "--plan" ∷ codes "p" ∷ [], Respond (codes "p"))
    ∷ (codes "--plan=p" ∷ codes "respond" ∷ [], Respond (codes "p"))
    ∷ (codes "confirm" ∷ codes "--plan" ∷ codes "p" ∷ [], Confirm (codes "p"))
    ∷ (codes "--plan=p" ∷ codes "--" ∷ codes "confirm" ∷ [], Confirm (codes "p"))
    ∷ (codes "faults" ∷ codes "A" ∷ codes "--" ∷ codes "-B" ∷ [], Faults (codes "A" ∷ codes "-B" ∷ []))
    ∷ (codes "faults" ∷ letters, Faults letters)
    ∷ (codes "audit" ∷ codes "--plan" ∷ codes "p" ∷ codes "t" ∷ [], Audit (codes "p") (codes "t"))
    ∷ (codes "audit" ∷ codes "t" ∷ codes "--plan=t" ∷ [], Audit (codes "t") (codes "t"))
    ∷ (codes "migrate" ∷ codes "--plan" ∷ codes "p" ∷ [], Migrate (codes "p"))
    ∷ (codes "--plan=p" ∷ codes "--" ∷ codes "migrate" ∷ [], Migrate (codes "p"))
    ∷ (codes "bounds" ∷ codes "A" ∷ codes "--" ∷ codes "-B" ∷ [], Bounds (codes "A" ∷ codes "-B" ∷ []))
    ∷ (codes "bounds" ∷ letters, Bounds letters)
    ∷ []

abbrev refused : List (List Text)
refused =
    []
    ∷ (codes "check" ∷ [])
    ∷ (codes "show" ∷ [])
    ∷ (codes "walk" ∷ codes "A" ∷ [])
    ∷ (codes "A" ∷ codes "check" ∷ [])
    ∷ (codes "help" ∷ [])
    ∷ (codes "check" ∷ codes "A" ∷ codes "-B" ∷ [])
    ∷ (codes "check" ∷ codes "-h" ∷ codes "A" ∷ [])
    ∷ (codes "--help" ∷ [])
    ∷ (codes "--version" ∷ [])
    ∷ (codes "check" ∷ codes "--pla" ∷ codes "p" ∷ codes "A" ∷ [])
    ∷ (codes "check" ∷ codes "A" ∷ codes "--plan" ∷ codes "p" ∷ [])
    ∷ (codes "check" ∷ codes "--plan=p" ∷ codes "A" ∷ [])
    ∷ (codes "check" ∷ codes "A" ∷ codes "--plan=" ∷ [])
    ∷ (codes "check" ∷ codes "A" ∷ codes "--size" ∷ codes "5" ∷ [])
    ∷ (codes "show" ∷ codes "A" ∷ codes "--size" ∷ codes "5" ∷ [])
    ∷ (codes "check" ∷ codes "Q" ∷ letters)
    ∷ (codes "show" ∷ codes "Q" ∷ letters)
    ∷ (codes "check" ∷ [] ∷ [])
    ∷ (codes "check" ∷ codes "A" ∷ [] ∷ [])
    ∷ ([] ∷ codes "A" ∷ [])
    ∷ (codes "check" ∷ (65 ∷ 0 ∷ []) ∷ [])
    ∷ (codes "check" ∷ (31 ∷ 65 ∷ []) ∷ [])
    ∷ (codes "check" ∷ codes "A" ∷ (65 ∷ 127 ∷ 65 ∷ []) ∷ [])
    ∷ (codes "run" ∷ codes "A" ∷ [])
    ∷ (codes "run" ∷ codes "--plan" ∷ codes "p" ∷ [])
    ∷ (codes "run" ∷ codes "--plan" ∷ [])
    ∷ (codes "run" ∷ codes "--plan=" ∷ codes "A" ∷ [])
    ∷ (codes "run" ∷ codes "--plan" ∷ codes "-x" ∷ codes "A" ∷ [])
    ∷ (codes "run" ∷ codes "--plan" ∷ codes "--" ∷ codes "A" ∷ [])
    ∷ (codes "run" ∷ codes "--plan" ∷ codes "p" ∷ codes "--plan" ∷ codes "p" ∷ codes "A" ∷ [])
    ∷ (codes "run" ∷ codes "--plan" ∷ codes "p" ∷ codes "A" ∷ codes "--size" ∷ codes "5" ∷ [])
    ∷ (codes "Run" ∷ codes "--plan" ∷ codes "p" ∷ codes "A" ∷ [])
    ∷ (codes "areas" ∷ codes "A" ∷ [])
    ∷ (codes "areas" ∷ codes "--plan" ∷ codes "p" ∷ [])
    ∷ (codes "areas" ∷ codes "--plan" ∷ codes "p" ∷ codes "--size" ∷ codes "5" ∷ codes "A" ∷ [])
    ∷ (codes "area" ∷ codes "--plan" ∷ codes "p" ∷ codes "A" ∷ [])
    ∷ (codes "gen" ∷ [])
    ∷ (codes "gen" ∷ codes "--size" ∷ [])
    ∷ (codes "gen" ∷ codes "--size=" ∷ [])
    ∷ (codes "gen" ∷ codes "--size" ∷ codes "0" ∷ [])
    ∷ (codes "gen" ∷ codes "--size" ∷ codes "05" ∷ [])
    ∷ (codes "gen" ∷ codes "--size" ∷ codes "251" ∷ [])
    ∷ (codes "gen" ∷ codes "--size" ∷ codes "1000" ∷ [])
    ∷ (codes "gen" ∷ codes "--size" ∷ codes "+5" ∷ [])
    ∷ (codes "gen" ∷ codes "--size=-5" ∷ [])
    ∷ (codes "gen" ∷ codes "--size" ∷ codes "5x" ∷ [])
    ∷ (codes "gen" ∷ codes "--size" ∷ codes "5" ∷ codes "A" ∷ [])
    ∷ (codes "gen" ∷ codes "--size" ∷ codes "5" ∷ codes "--plan" ∷ codes "p" ∷ [])
    ∷ (codes "gen" ∷ codes "--size" ∷ codes "5" ∷ codes "--size" ∷ codes "5" ∷ [])
    ∷ (codes "run" ∷ codes "--plan" ∷ (65 ∷ 31 ∷ []) ∷ codes "A" ∷ [])
    ∷ (codes "run" ∷ codes "--plan" ∷ codes "p" ∷ (65 ∷ 127 ∷ []) ∷ [])
    ∷ (codes "run" ∷ codes "--plan" ∷ codes "p" ∷ codes "Q" ∷ letters)
    ∷ (codes "gen" ∷ codes "--size" ∷ (32 ∷ 53 ∷ []) ∷ [])
    ∷ (codes "gen" ∷ codes "--size" ∷ (58 ∷ []) ∷ [])
    ∷ (codes "respond" ∷ [])
    ∷ (codes "respond" ∷ codes "--plan=" ∷ [])
    ∷ (codes "respond" ∷ codes "--plan" ∷ (65 ∷ 31 ∷ []) ∷ [])
    ∷ (codes "respond" ∷ codes "--plan" ∷ codes "p" ∷ codes "A" ∷ [])
    ∷ (codes "respond" ∷ codes "--plan" ∷ codes "p" ∷ codes "--size" ∷ codes "5" ∷ [])
    ∷ (codes "confirm" ∷ [])
    ∷ (codes "confirm" ∷ codes "--plan" ∷ codes "p" ∷ codes "A" ∷ [])
    ∷ (codes "confirm" ∷ codes "--plan" ∷ codes "p" ∷ codes "--size=5" ∷ [])
    ∷ (codes "faults" ∷ [])
    ∷ (codes "faults" ∷ codes "Q" ∷ letters)
    ∷ (codes "faults" ∷ codes "--plan" ∷ codes "p" ∷ codes "A" ∷ [])
    ∷ (codes "faults" ∷ codes "--size" ∷ codes "5" ∷ codes "A" ∷ [])
    ∷ (codes "faults" ∷ codes "A" ∷ (65 ∷ 127 ∷ []) ∷ [])
    ∷ (codes "audit" ∷ codes "t" ∷ [])
    ∷ (codes "audit" ∷ codes "--plan" ∷ codes "p" ∷ [])
    ∷ (codes "audit" ∷ codes "--plan" ∷ codes "p" ∷ codes "t" ∷ codes "u" ∷ [])
    ∷ (codes "audit" ∷ codes "--plan" ∷ codes "p" ∷ (65 ∷ 10 ∷ []) ∷ [])
    ∷ (codes "audit" ∷ codes "--plan=" ∷ codes "t" ∷ [])
    ∷ (codes "audit" ∷ codes "--plan" ∷ codes "p" ∷ codes "t" ∷ codes "--size" ∷ codes "5" ∷ [])
    ∷ (codes "migrate" ∷ [])
    ∷ (codes "migrate" ∷ codes "--plan" ∷ [])
    ∷ (codes "migrate" ∷ codes "--plan=" ∷ [])
    ∷ (codes "migrate" ∷ codes "--plan" ∷ (65 ∷ 127 ∷ []) ∷ [])
    ∷ (codes "migrate" ∷ codes "p" ∷ [])
    ∷ (codes "migrate" ∷ codes "--plan" ∷ codes "p" ∷ codes "A" ∷ [])
    ∷ (codes "migrate" ∷ codes "--plan" ∷ codes "p" ∷ codes "--size" ∷ codes "5" ∷ [])
    ∷ (codes "Migrate" ∷ codes "--plan" ∷ codes "p" ∷ [])
    ∷ (codes "bounds" ∷ [])
    ∷ (codes "bounds" ∷ codes "Q" ∷ letters)
    ∷ (codes "bounds" ∷ codes "--plan" ∷ codes "p" ∷ codes "A" ∷ [])
    ∷ (codes "bounds" ∷ codes "--size" ∷ codes "5" ∷ codes "A" ∷ [])
    ∷ (codes "bounds" ∷ codes "A" ∷ (65 ∷ 127 ∷ []) ∷ [])
    ∷ (codes "bound" ∷ codes "A" ∷ [])
    ∷ []

job_rows : map (λ line. job_of line.0) jobs ≡ map (λ line. Some line.1) jobs
unfolding clap_on_literals command bare_command mode_rule plan_rule size_rule source_rule job_of job_in given_in
    job_by_mode check_job run_job areas_job show_job gen_job respond_job confirm_job faults_job audit_job migrate_job
    bounds_job sources_in plan_in plan_and_sources sources_alone only_source only_name plan_alone size_alone are_sources
    is_file_name size_of number_of with_digit first_digit digit_of
job_rows = refl

refused_rows : map job_of refused ≡ map (λ line. None) refused
unfolding clap_on_literals command bare_command mode_rule plan_rule size_rule source_rule job_of job_in given_in
    job_by_mode check_job run_job areas_job show_job gen_job respond_job confirm_job faults_job audit_job migrate_job
    bounds_job sources_in plan_in plan_and_sources sources_alone only_source only_name plan_alone size_alone are_sources
    is_file_name size_of number_of with_digit first_digit digit_of
refused_rows = refl

-- each size is the number whose decimal digits are given
abbrev sizes : List ℕ
sizes = range_with_len 1 250

size_rows : map (λ n. size_of (decimal n)) sizes ≡ map (λ n. Some n) sizes
unfolding size_of number_of with_digit first_digit digit_of digits
size_rows = refl
