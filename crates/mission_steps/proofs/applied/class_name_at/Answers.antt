use Rattle.std.proofs.Common.{◌∙◌, slice_get, Some, None, []}
use Rattle.scj_model.specs.Apply.{class_name}
use Rattle.scj_model.specs.Code.{code_of}
use Rattle.run_state.specs.Seen.{state_of}
use Rattle.mission_steps.proofs.Done.{by_class}
use Rattle.mission_steps.proofs.applied.class_name_at.Goals as goal

pub returns-in-Some : goal.returns-in-Some
unfolding state_of
returns-in-Some c =
    c.class_name.ensures
    ∙ by_class (slice_get c.args.state.now.memory.objects c.args.r) [] (class_name (code_of c.args.code.now.program))
    (Some c.in-Some.class) c.in-Some.ensures

pub returns-in-None : goal.returns-in-None
unfolding state_of
returns-in-None c =
    c.new.ensures
    ∙ by_class (slice_get c.args.state.now.memory.objects c.args.r) [] (class_name (code_of c.args.code.now.program)) None
    c.in-None.ensures
