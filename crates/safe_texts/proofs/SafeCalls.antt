-- What a call accepts is safe: its sources are within the limits, and their report is empty.
use Rattle.std.specs.Prelude.{◌≤◌, Option, Some, None, take}
use Rattle.std.proofs.Common.{◌≡◌, ℕ, zero, suc, List, [], ◌∷◌, ◌++◌, length, refl, arith}
use Rattle.scj_base.specs.declared.statuses.Status.{Status}
use Rattle.scj_base.specs.declared.statuses.Status.TheVariants.{Done, Refused, Halted, PlanRefused, ReadFault, WriteFault, NoMemory, TooLong}
use Rattle.scj_io.specs.Loads.{ShelfRun}
use Rattle.scj_io.specs.Puts.{SinkRun}
use Rattle.scj_tree.specs.Forest.{Forest}
use Rattle.scj_rules.specs.Verdicts.{IsReportOf}
use Rattle.scj_model.specs.Code.{code_of}
use Rattle.scj_model.specs.Plan.{Plan}
use Rattle.scj_model.specs.Safety.{IsSafe}
use Rattle.source_gen.specs.Generated.{source_of}
use Rattle.source_gen.proofs.Lengths.{source_is_short}
use Rattle.command_line.specs.Job.{Job, Check, Run, Areas, Gen, Faults, Bounds, job_of}
use Rattle.scj_cli.specs.Jobs.{files_of, sources_among, limits_of, one_limit}
use Rattle.scj_cli.specs.Outcomes.{Outcome, Reported, Unplanned, Ran, ComesTo, breaks_rules, has_no_plan, runs, run_status}
use Rattle.scj_cli.specs.Answers.{Answer, refused, accepted, ran, needed, generated, faults_of_none, faults_listed, bounds_of_none, bounds_listed}
use Rattle.scj_cli.specs.Endings.{Call, call_of, MayStand, none, next, Comes, answered, unread, overlong, out_of_memory, Ends, whole, fault_of_out, fault_of_err, cut_short, cut_short_unreported, IsUnanswered}
use Rattle.safe_texts.specs.SafeCalls.{sources_of, Accepts, HasSafeProgram}
use Rattle.safe_texts.specs.SafePrograms.{AreShort, AreWithinLimits}
use Rattle.safe_texts.proofs.JobLimits.{IsWithin, job_within}
use Rattle.safe_texts.proofs.SafeLaws.{accepted_is_safe, small_is_safe}
use Rattle.safe_texts.proofs.SmallPrograms.{reads_small}

-- ---- each program that is run

pub run_is_safe : (texts : List (List ℕ)) (plan_text : List ℕ) (program : Forest) (plan : Plan) →
    AreWithinLimits texts → ComesTo texts plan_text (Ran program plan) → IsSafe (code_of program)
run_is_safe texts plan_text program plan within (runs report reads meaning) =
    small_is_safe texts program report reads (reads_small texts program within reads)

-- ---- the report is empty

unbroken : (job : Option Job) (texts : List (List ℕ)) (plan_text : List ℕ) (outcome : Outcome) →
    (Accepts job Refused → ⊥) → (Accepts job PlanRefused → ⊥) → ComesTo texts plan_text outcome →
    Accepts job (run_status outcome) → IsReportOf texts []
unbroken job texts plan_text (Reported found) refuses unplans (breaks_rules l r) a = absurd (refuses a)
unbroken job texts plan_text (Unplanned refusal) refuses unplans (has_no_plan r m) a = absurd (unplans a)
unbroken job texts plan_text (Ran forest plan) refuses unplans (runs report reads meaning) a = report

empty_report : (job : Option Job) (contents : List (List ℕ)) (status : Status) (out err : List ℕ) →
    Answer job contents status out err → Accepts job status → IsReportOf (sources_of job contents) []
unfolding Accepts sources_of
empty_report (Some (Check names)) contents Refused out err (refused l r) a = absurd a
empty_report (Some (Check names)) contents Done out err (accepted r) a = r
empty_report (Some (Run plan names)) contents status out err (ran {outcome = outcome} comes) a =
    unbroken (Some (Run plan names)) (sources_among names contents) _ outcome (λ x. x) (λ x. x) comes a
empty_report (Some (Areas plan names)) contents status out err (needed {outcome = outcome} comes) a =
    unbroken (Some (Areas plan names)) (sources_among names contents) _ outcome (λ x. x) (λ x. x) comes a
empty_report (Some (Gen size)) contents status out err (generated {outcome = outcome} comes) a =
    unbroken (Some (Gen size)) (source_of size ∷ []) _ outcome (λ x. x) (λ x. x) comes a
empty_report (Some (Faults names)) contents Refused out err (faults_of_none l r) a = absurd a
empty_report (Some (Faults names)) contents Done out err (faults_listed r reads is) a = r
empty_report (Some (Bounds names)) contents Refused out err (bounds_of_none l r) a = absurd a
empty_report (Some (Bounds names)) contents Done out err (bounds_listed r reads is) a = r
empty_report job contents status out err answer a = absurd a

-- ---- the sources are within the limits

all_short : (shelf : ShelfRun) (names contents : List (List ℕ)) → MayStand shelf one_limit names contents →
    AreShort contents
all_short shelf [] [] none = tt
all_short shelf [] (content ∷ contents) stand = elim stand [ ]
all_short shelf (name ∷ names) [] stand = elim stand [ ]
all_short shelf (name ∷ names) (content ∷ contents) (next holds short more) =
    (short, all_short shelf names contents more)

as_many : (shelf : ShelfRun) (limits : List ℕ → ℕ) (names contents : List (List ℕ)) →
    MayStand shelf limits names contents → length contents ≡ length names
as_many shelf limits [] [] none = refl
as_many shelf limits [] (content ∷ contents) stand = elim stand [ ]
as_many shelf limits (name ∷ names) [] stand = elim stand [ ]
as_many shelf limits (name ∷ names) (content ∷ contents) (next holds short more) =
    omega (arith, as_many shelf limits names contents more)

taken_short : (n : ℕ) (texts : List (List ℕ)) → AreShort texts → AreShort (take n texts)
taken_short zero texts h = tt
taken_short (suc n) [] h = tt
taken_short (suc n) (text ∷ texts) h = (h.0, taken_short n texts h.1)

taken_few : (n : ℕ) (texts : List (List ℕ)) → length (take n texts) ≤ n
taken_few zero texts = omega arith
taken_few (suc n) [] = omega arith
taken_few (suc n) (text ∷ texts) = omega (arith, taken_few n texts)

files_within : (shelf : ShelfRun) (names contents : List (List ℕ)) → length names ≤ 16 →
    MayStand shelf one_limit names contents → AreWithinLimits contents
files_within shelf names contents few stand =
    record {
      few = omega (arith, few, as_many shelf one_limit names contents stand);
      short = all_short shelf names contents stand;
    }

sources_within : (shelf : ShelfRun) (job : Job) (contents : List (List ℕ)) (status : Status) → IsWithin job →
    MayStand shelf (limits_of (Some job)) (files_of (Some job)) contents → Accepts (Some job) status →
    AreWithinLimits (sources_of (Some job) contents)
unfolding IsWithin sources_of Accepts
sources_within shelf (Check names) contents status few stand a = files_within shelf names contents few stand
sources_within shelf (Faults names) contents status few stand a = files_within shelf names contents few stand
sources_within shelf (Bounds names) contents status few stand a = files_within shelf names contents few stand
sources_within shelf (Run plan names) contents status few stand a =
    record {
      few = omega (arith, few, taken_few (length names) contents);
      short = taken_short (length names) contents (all_short shelf (names ++ plan ∷ []) contents stand);
    }
sources_within shelf (Areas plan names) contents status few stand a =
    record {
      few = omega (arith, few, taken_few (length names) contents);
      short = taken_short (length names) contents (all_short shelf (names ++ plan ∷ []) contents stand);
    }
sources_within shelf (Gen size) contents status small stand a =
    record { few = omega arith; short = (source_is_short size small, tt) }
sources_within shelf job contents status w stand a = absurd a

-- ---- however the call ends

never_unanswered : (job : Option Job) (status : Status) → Accepts job status → IsUnanswered status → ⊥
unfolding Accepts
never_unanswered (Some (Check names)) Done a u = u
never_unanswered (Some (Run plan names)) Done a u = u
never_unanswered (Some (Run plan names)) Halted a u = u
never_unanswered (Some (Areas plan names)) Done a u = u
never_unanswered (Some (Areas plan names)) Halted a u = u
never_unanswered (Some (Gen size)) Done a u = u
never_unanswered (Some (Gen size)) Halted a u = u
never_unanswered (Some (Faults names)) Done a u = u
never_unanswered (Some (Bounds names)) Done a u = u
never_unanswered job status a u = absurd a

module _ (words : List (List ℕ)) (shelf : ShelfRun) (out err : SinkRun) where
  abbrev call : Call
  call = call_of (job_of words) shelf out err

  of_job : (o : Option Job) → job_of words ≡ o → (contents : List (List ℕ)) (status : Status) →
      MayStand shelf (limits_of o) (files_of o) contents → Accepts o status → AreWithinLimits (sources_of o contents)
  unfolding Accepts
  of_job None e contents status stand a = absurd a
  of_job (Some job) e contents status stand a =
      sources_within shelf job contents status (job_within words job e) stand a

  of_comes : (status : Status) (on_out on_err : List ℕ) → Comes (job_of words) shelf status on_out on_err →
      Accepts (job_of words) status → HasSafeProgram (call_of (job_of words) shelf out err)
  of_comes status on_out on_err (answered {contents = contents} stand answer) a =
      record {
        contents = contents;
        stand = stand;
        safe = accepted_is_safe (sources_of (job_of words) contents)
            (of_job (job_of words) refl contents status stand a)
            (empty_report (job_of words) contents status on_out on_err answer a);
      }
  of_comes ReadFault on_out on_err (unread r u) a = absurd (never_unanswered (job_of words) ReadFault a tt)
  of_comes TooLong on_out on_err (overlong r m l) a = absurd (never_unanswered (job_of words) TooLong a tt)
  of_comes NoMemory on_out on_err out_of_memory a = absurd (never_unanswered (job_of words) NoMemory a tt)

  of_end : (status : Status) → Ends (call_of (job_of words) shelf out err) status → Accepts (job_of words) status →
      HasSafeProgram (call_of (job_of words) shelf out err)
  of_end status (whole {out = on_out} {err = on_err} comes p q) a = of_comes status on_out on_err comes a
  of_end WriteFault (fault_of_out c p q) a = absurd (never_unanswered (job_of words) WriteFault a tt)
  of_end WriteFault (fault_of_err c p q) a = absurd (never_unanswered (job_of words) WriteFault a tt)
  of_end NoMemory (cut_short s c p) a = absurd (never_unanswered (job_of words) NoMemory a tt)
  of_end WriteFault (cut_short_unreported s c p) a = absurd (never_unanswered (job_of words) WriteFault a tt)

pub accepted_calls : (words : List (List ℕ)) (shelf : ShelfRun) (out err : SinkRun) (status : Status) →
    Ends (call_of (job_of words) shelf out err) status → Accepts (job_of words) status →
    HasSafeProgram (call_of (job_of words) shelf out err)
accepted_calls words shelf out err status ends a = of_end words shelf out err status ends a
