use Rattle.std.proofs.Common.{sym, ap, ◌∙◌}
use Rattle.scj_tree.specs.Forest.{Forest}
use Rattle.scj_rules.specs.Bodies.{is_synchronized_body, locals}
use Rattle.scj_rules.specs.Contexts.{declarations_of}
use Rattle.scj_model.specs.Code.{code_of}
use Rattle.op_list.specs.Listed.{is_monitored}
use Rattle.op_list.proofs.Layouts.{longer_nothing}
use Rattle.op_list.proofs.Listings.{no_body, body_laid}
use Rattle.op_list.proofs.bodies.lay_body.Goals as goal

pub returns-then-not-names_body-clause-longer : goal.returns-then-not-names_body-clause-longer
returns-then-not-names_body-clause-longer c = longer_nothing (code_of c.args.code.now) c.args.rows.now.items

pub returns-then-not-names_body-clause-body : goal.returns-then-not-names_body-clause-body
unfolding code_of declarations_of
returns-then-not-names_body-clause-body c =
    no_body (code_of c.args.code.now) c.args.rows.now.items c.args.id
    (sym c.names_body.ensures ∙ c.if-not-names_body.true)

pub returns-clause-body : goal.returns-clause-body
unfolding code_of is_monitored
returns-clause-body c =
    body_laid (code_of c.args.code.now) c.args.rows.now.items c.lay_node.new.rows.items c.args.id _ c.in_ok-start.ensures
    (c.locals.ensures ∙ ap (λ (f : Forest). locals (declarations_of f) c.args.id) c.layout.ensures)
    (c.is_synchronized.ensures
    ∙ ap (λ (f : Forest). is_synchronized_body (declarations_of f) c.args.id) c.layout-2.ensures)
