use Rattle.std.proofs.Common.{◌∙◌, Option, Some, ap, option_map}
use Rattle.scj_model.specs.State.{Object}
use Rattle.mission_steps.proofs.looks.class_of.Goals as goal

pub returns-in-Some : goal.returns-in-Some
returns-in-Some c =
    ap Some c.class.ensures
    ∙ ap (λ (found : Option Object). option_map (λ (o : Object). o.class) found) (c.in-Some.ensures ∙ c.requires)

pub returns-in-None : goal.returns-in-None
returns-in-None c =
    ap (λ (found : Option Object). option_map (λ (o : Object). o.class) found) (c.in-None.ensures ∙ c.requires)
