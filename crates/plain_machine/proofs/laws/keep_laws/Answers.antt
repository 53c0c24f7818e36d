use Rattle.std.proofs.Common.{◌∙◌, ◌≤◌, ℕ, subst}
use Rattle.scj_tree.specs.Forest.{Forest}
use Rattle.scj_model.specs.Code.{code_of}
use Rattle.scj_model.specs.Choice.{by_priority}
use Rattle.scj_model.specs.Safety.{IsSafe}
use Rattle.run_plan.specs.Limits.{most_units}
use Rattle.plain_machine.specs.Watched.{IsSituatedRun}
use Rattle.plain_machine.proofs.LawfulRuns.{KeepsLaws, lawful}
use Rattle.plain_machine.proofs.UnderLaws.{safe_never_stuck}
use Rattle.plain_machine.proofs.laws.keep_laws.Goals as goal

pub returns-clause-never : goal.returns-clause-never
returns-clause-never c =
    safe_never_stuck c.args.setting.code.now.program c.args.setting.plan.now
    (subst (λ (forest : Forest). IsSafe (code_of forest)) (c.checked-checked.ensures ∙ c.code.ensures) c.law_safe.ensures)

pub returns-clause-lawful : goal.returns-clause-lawful
returns-clause-lawful c =
    let laws : KeepsLaws c.checked-checked.result.now.program = record {
      safe = c.law_safe.ensures;
      jobs = c.jobs_stand_in_open_areas.ensures;
      release_closes = c.areas_close_as_the_last.ensures.release;
      sequencer_closes = c.areas_close_as_the_last.ensures.sequencer;
      mission_closes = c.areas_close_as_the_last.ensures.mission;
      few_outside = c.few_areas_are_open.ensures.outside;
      few_under_way = c.few_areas_are_open.ensures.under_way;
      few_at_start = c.few_areas_are_open.ensures.start;
      operands = c.operations_are_on_live_objects.ensures;
      named = c.effects_name_live_objects.ensures;
      grows = λ plan moment s reached. c.grows_by_units.ensures _ plan by_priority moment s reached;
      reads = c.operation_reads_live.ensures _;
    } in
    lawful c.args.setting.code.now c.args.setting.plan.now
    (subst (λ (n : ℕ). n ≤ most_units) c.units-units.ensures.units c.units-units.ensures.limit)
    (subst KeepsLaws (c.checked-checked.ensures ∙ c.code.ensures) laws)

pub returns-clause-situated : goal.returns-clause-situated
returns-clause-situated c =
    subst (λ (forest : Forest). IsSituatedRun forest c.args.setting.plan.now) (c.checked-checked.ensures ∙ c.code.ensures)
    (record { at = λ s reached. c.operations_are_situated.ensures c.args.setting.plan.now s reached })
