use Rattle.std.proofs.Common.{◌∙◌, Option, ap, option_map}
use Rattle.scj_model.specs.Code.{code_of}
use Rattle.scj_model.specs.State.{Object}
use Rattle.scj_model.specs.Registry.{new_row}
use Rattle.mission_steps.proofs.requests.row_of.Goals as goal

pub returns-in-None : goal.returns-in-None
returns-in-None c =
    ap (λ (found : Option Object). option_map (new_row (code_of c.args.code.now.program).program c.args.r) found)
    (c.in-None.ensures ∙ c.requires)
