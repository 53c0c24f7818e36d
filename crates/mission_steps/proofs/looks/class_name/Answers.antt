use Rattle.std.proofs.Common.{◌∙◌, ap, slice_get, sym}
use Rattle.scj_tree.specs.Forest.{Forest}
use Rattle.scj_rules.specs.Contexts.{declarations_of}
use Rattle.mission_steps.proofs.Names.{named_nowhere, named_there}
use Rattle.mission_steps.proofs.looks.class_name.Goals as goal

pub returns-in-Some : goal.returns-in-Some
returns-in-Some c =
    named_there c.args.code.now.program c.args.class c.in-Some.name
    (ap (λ (forest : Forest). slice_get (declarations_of forest).names c.args.class) (sym (c.layout.ensures ∙ c.code.ensures))
    ∙ (sym c.class_name.ensures ∙ c.in-Some.is))

pub returns-in-None : goal.returns-in-None
returns-in-None c =
    c.new.ensures
    ∙ named_nowhere c.args.code.now.program c.args.class
    (ap (λ (forest : Forest). slice_get (declarations_of forest).names c.args.class) (sym (c.layout.ensures ∙ c.code.ensures))
    ∙ (sym c.class_name.ensures ∙ c.in-None.is))
