-- From what the text of a plan means to the answer of a migration.
use Rattle.std.proofs.Common.{ℕ, List, [], ◌∷◌}
use Rattle.command_line.specs.Job.{Migrate}
use Rattle.run_plan.specs.PlanOf.{meaning_of_text}
use Rattle.scj_cli.specs.Answers.Answer.{not_migrated}
use Rattle.scj_cli.specs.Judgements.{RefusesPlan}
use Rattle.scj_cli.specs.Modes.{RefusesForm}
use Rattle.scj_cli.specs.declared.refusals.Refusal.{Refusal}
use Rattle.scj_cli.specs.declared.refusals.Refusal.TheVariants.{Usage, Unread, Overlong, Unplanned, OutOfMemory}

pub form_of_migrate : (text : List ℕ) (refusal : Refusal) → RefusesPlan (meaning_of_text text) refusal →
    (plan : List ℕ) → RefusesForm (Migrate plan) (text ∷ []) refusal
form_of_migrate text Usage refuses plan = absurd refuses
form_of_migrate text (Unread line) refuses plan = absurd refuses
form_of_migrate text (Overlong line) refuses plan = absurd refuses
form_of_migrate text (Unplanned line) refuses plan = rw refuses.2 (not_migrated refuses.1)
form_of_migrate text OutOfMemory refuses plan = tt
