-- Steps of a run: what they put, and where they lead.
use Rattle.std.specs.Prelude.{◌++◌, Some}
use Rattle.std.proofs.Common.{◌≡◌, ℕ, ◌+◌, ◌<◌, true, false, List, refl, sym, ap, ◌∙◌, arith}
use Rattle.scj_io.specs.Puts.{SinkRun, PutWhole}
use Rattle.scj_tree.specs.Forest.{Forest}
use Rattle.scj_model.specs.declared.events.Event.{Event}
use Rattle.scj_model.specs.declared.events.Event.TheVariants.{Stopped}
use Rattle.scj_model.specs.Plan.{Plan}
use Rattle.scj_model.specs.Run.{has_ended}
use Rattle.scj_model.specs.TraceText.{line_of, text}
use Rattle.op_list.specs.Listed.{Listing}
use Rattle.plain_machine.specs.Ends.{end_of}
use Rattle.plain_machine.specs.Printing.{BreaksOffIn}
use Rattle.plain_machine.specs.Runs.{trace_text}
use Rattle.plain_machine.specs.Reported.{BreaksOffFrom, reported_text}
use Rattle.plain_machine.specs.UnderWay.{EndedIn, GoesTo, HasSpent, IsBetween, none_left, one_spent, StepsTo, run_at}
use Rattle.plain_machine.specs.declared.runs.RunEnd.{RunEnd}
use Rattle.plain_machine.specs.declared.runs.RunEnd.TheVariants.{Stopped as StoppedEnd}
use Rattle.plain_machine.specs.declared.runs.RunError.{RunError}
use Rattle.plain_machine.specs.declared.steps.Progress.{Progress}
use Rattle.plain_machine.specs.declared.steps.Progress.TheVariants.{Went, Finished}
use Rattle.plain_machine.specs.declared.under_way.UnderWay.{UnderWay}
use Rattle.plain_machine.proofs.BehindLaws.{breaks_in}
use Rattle.plain_machine.proofs.EndLaws.{ends_behind}
use Rattle.plain_machine.proofs.TextLaws.{ended_text, ended_trace, next_last, next_more, stopped_ends, stopped_text, reported_more}
use Rattle.plain_machine.proofs.UnderLaws.{between_after, ended_after, goes_on_after}

-- ---- all units are spent

module _ (code : Listing) (program : Forest) (plan : Plan) (names : List (List ℕ)) (at : UnderWay) (out : SinkRun)
    (printed : program ≡ code.program) (between : IsBetween code plan at) (spent : at.state.unit ≡ plan.units) where
  goes_on : has_ended (run_at code.program plan plan.units) ≡ false
  goes_on = ap (λ (m : ℕ). has_ended (run_at code.program plan m)) (sym spent) ∙ between.goes_on

  abbrev line : Forest → List ℕ
  line f = line_of f.nodes names (Stopped at.state.unit)

  parts : trace_text code.program plan names ≡ reported_text code.program plan names at.state.unit ++ line program
  parts =
      stopped_text code.program plan names goes_on
      ∙ (ap (λ (m : ℕ). reported_text code.program plan names m ++ line_of code.program.nodes names (Stopped m)) (sym spent)
      ∙ ap (λ (f : Forest). reported_text code.program plan names at.state.unit ++ line f) (sym printed))

  pub stops : (end : RunEnd) → end ≡ StoppedEnd → PutWhole out (line program) →
      EndedIn code.program plan names at.state.unit at out end
  stops end e put =
      record {
        last = none_left spent refl;
        puts = record {
          put = record { bytes = line program; parts = parts; holds = put };
          ends = stopped_ends code.program plan names goes_on ∙ ap (λ (x : RunEnd). Some x) (sym e);
        };
      }

  pub stops_broken : (stop : RunError) → BreaksOffIn (line program) out stop →
      BreaksOffFrom code.program plan names at.state.unit out stop
  stops_broken stop broke =
      breaks_in code.program plan names at.state.unit out (line program) between.within
      (next_last code.program plan names at.state.unit spent ∙ parts) stop broke

-- ---- a unit was spent

module _ (code : Listing) (program : Forest) (plan : Plan) (names : List (List ℕ)) (n : ℕ) (at : UnderWay) (out : SinkRun)
    (reported : List Event) (printed : program ≡ code.program) (same : reported ≡ at.reported.items) (within : n < plan.units)
    (spent : HasSpent code plan n at) where
  abbrev lines : List ℕ
  lines = text program.nodes names reported

  behind : reported_text code.program plan names (n + 1) ≡ reported_text code.program plan names n ++ lines
  behind =
      reported_more code.program plan names n at.reported.items spent.reported
      ∙ (ap (λ (events : List Event). reported_text code.program plan names n ++ text code.program.nodes names events) (sym same)
      ∙ ap (λ (f : Forest). reported_text code.program plan names n ++ text f.nodes names reported) (sym printed))

  pub unit_broken : (stop : RunError) → BreaksOffIn lines out stop → BreaksOffFrom code.program plan names n out stop
  unit_broken stop broke =
      breaks_in code.program plan names n out lines (omega arith) (next_more code.program plan names n within ∙ behind) stop broke

  pub steps : (progress : Progress) → PutWhole out lines → GoesTo at progress →
      StepsTo code plan names n at out progress
  steps Went put goes =
      record {
        between = between_after code plan n at spent goes within;
        unit = spent.unit;
        goes_on = goes_on_after code plan n at spent goes;
        puts = record { within = within; put = record { bytes = lines; parts = behind; holds = put } };
      }
  steps (Finished end) put comes =
      let ended : has_ended (run_at code.program plan (n + 1)) ≡ true = ended_after code plan n at spent comes.over in
      record {
        last = one_spent within spent.unit ended;
        puts = record {
          put = record {
            bytes = lines;
            parts = ended_text code.program plan names (n + 1) (omega arith) ended ∙ behind;
            holds = put;
          };
          ends = ap end_of (ended_trace code.program plan names (n + 1) (omega arith) ended ∙ spent.reported)
              ∙ ends_behind (run_at code.program plan n).events at.reported.items end comes.ends;
        };
      }
