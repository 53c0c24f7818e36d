use Rattle.std.proofs.Common.{◌≡◌}
use Rattle.toml.specs.View.{members_view}
use Rattle.run_plan.specs.PlanOf.{first_refusal}
use Rattle.run_plan.proofs.plan_texts.judge_all.Given as goal

abbrev pub invariant-loop-key : goal.invariant-loop-key
invariant-loop-key l = first_refusal l.second (members_view l.key-iterator) ≡ first_refusal l.second (members_view l.table.entries)
