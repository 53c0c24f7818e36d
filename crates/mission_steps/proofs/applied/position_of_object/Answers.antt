use Rattle.std.proofs.Common.{◌∙◌, slice_get, Some, None}
use Rattle.scj_rules.specs.Views.{nowhere}
use Rattle.scj_rules.specs.Bodies.{class_position}
use Rattle.scj_model.specs.Code.{code_of}
use Rattle.run_state.specs.Seen.{state_of}
use Rattle.mission_steps.proofs.Done.{by_class}
use Rattle.mission_steps.proofs.applied.position_of_object.Goals as goal

pub returns-in-Some : goal.returns-in-Some
unfolding state_of
returns-in-Some c =
    c.class_position.ensures
    ∙ by_class (slice_get c.args.state.now.memory.objects c.args.r) nowhere
    (class_position (code_of c.args.code.now.program).program) (Some c.in-Some.class) c.in-Some.ensures

pub returns-in-None : goal.returns-in-None
unfolding state_of
returns-in-None c =
    by_class (slice_get c.args.state.now.memory.objects c.args.r) nowhere
    (class_position (code_of c.args.code.now.program).program) None c.in-None.ensures
