use Rattle.std.specs.Prelude.{Option, Some, None}
use Rattle.std.proofs.Common.{◌∙◌, ℕ, ap}
use Rattle.scj_base.specs.declared.positions.Position.{Position}
use Rattle.scj_rules.specs.Views.{nowhere}
use Rattle.scj_model.specs.Code.{code_of, position_of_node}
use Rattle.op_list.specs.Listed.{Listing}
use Rattle.unit_steps.proofs.positions.position_of.Goals as goal

position_at : Listing → Option ℕ → Position
position_at code o = elim o as (λ z. Position) [ None ↦ nowhere | Some node ↦ position_of_node (code_of code.program) node ]

pub returns-in-Some : goal.returns-in-Some
unfolding position_at
returns-in-Some c = c.position_of_node.ensures ∙ ap (position_at c.args.code.now) c.in-Some.ensures

pub returns-in-None : goal.returns-in-None
unfolding position_at
returns-in-None c = ap (position_at c.args.code.now) c.in-None.ensures
