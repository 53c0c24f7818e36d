-- The facts at a body of a whole controller, whose nodes are computed: none of the premises of the law speaks of
-- nothing.
use Rattle.std.proofs.Common.{◌≡◌, ℕ, [], refl, true, Some, None, slice_get, codes, true≢false, sym}
use Rattle.scj_base.specs.declared.positions.Position.{Position}
use Rattle.scj_tree.specs.declared.nodes.Node.{Node}
use Rattle.scj_tree.specs.declared.nodes.Node.TheVariants.{Call, Method}
use Rattle.scj_rules.specs.declared.typing.Scope.TheVariants.{In}
use Rattle.scj_rules.specs.Bodies.{class_of_body}
use Rattle.scj_rules.specs.CheckedProgram.{IsReadFromTexts}
use Rattle.scj_rules.specs.Contexts.{Declarations, declarations_of}
use Rattle.scj_rules.proofs.Computing.{computing}
use Rattle.scj_rules.proofs.RowOfUse.{controller, controller_accepted, controller_is_forest}
use Rattle.scj_rules.specs.StaticScopes.{this_in, current_in}
use Rattle.accepted_laws.specs.Judgements.{Inside, Judged}
use Rattle.accepted_laws.specs.Kinds.{number, kind_of}
use Rattle.accepted_laws.proofs.Instances.{controller_sorted}
use Rattle.accepted_laws.specs.Variables.{parameter_list}
use Rattle.scj_model.specs.Code.{code_of}
use Rattle.scope_flow.specs.Signatures.{kinds_of_variables, parameters_of, kind_of_result, kind_given, may_run, IsBody}
use Rattle.scope_flow.specs.CallFacts.{ExpressionFact}
use Rattle.flow_facts.proofs.AllExpressions.{expression_facts}
use Rattle.flow_facts.proofs.Bodies.{make_body, signature}
use Rattle.accepted_laws.specs.Sorts.{is_class}
use Rattle.scj_rules.specs.Types.{constructor_in}

abbrev p : Declarations
p = declarations_of controller

abbrev at : ℕ → ℕ → Position
at line col = record { file = 1; line = line; col = col }

-- the alarm's `handleAsyncEvent` runs in the scope that the alarm defines
handler : Node
handler = Method (at 24 15) (codes "handleAsyncEvent") None 148 None (Some 155)

handler_stands : slice_get p.nodes 156 ≡ Some handler
unfolding computing handler
handler_stands = refl

handler_runs : may_run handler ≡ true
unfolding computing may_run handler
handler_runs = refl

handler_other : is_class handler ≡ true → constructor_in p.classes 21 ≡ None
unfolding is_class handler
handler_other e = absurd (true≢false (sym e))

handler_class : class_of_body p 156 ≡ Some 21
unfolding computing class_of_body
handler_class = refl

handler_gives : kind_given p 21 156 ≡ None
unfolding computing kind_given kind_of_result kind_of
handler_gives = refl

handler_takes : kinds_of_variables p (parameters_of p 156) ≡ Some []
unfolding computing parameters_of parameter_list kinds_of_variables
handler_takes = refl

handler_runs_in : current_in p 21 156 ≡ Some (In 21)
unfolding computing current_in
handler_runs_in = refl

handler_home : this_in p 21 ≡ Some (In 18)
unfolding computing this_in
handler_home = refl

alarm_body : IsReadFromTexts controller → IsBody p 156 21 (signature [] None (In 21))
alarm_body r =
    (make_body controller controller_accepted controller_is_forest controller_sorted r 156 21 handler [] None (In 21)
    (In 18) handler_stands handler_runs handler_other handler_class handler_gives handler_takes handler_runs_in
    handler_home).0

-- in which it calls `t.get()`
call_inside : Inside p 156 21 152
unfolding computing
call_inside = record { here = (Call (at 24 59) (codes "get") (Some 151) [], refl); class = refl; member = refl }

call_judged : Judged p 152 (Some number)
unfolding computing Judged kind_of
call_judged = refl

call_there : slice_get p.nodes 152 ≡ Some (Call (at 24 59) (codes "get") (Some 151) [])
unfolding computing
call_there = refl

get_is_called : IsReadFromTexts controller → ExpressionFact (code_of controller) 156 21 (signature [] None (In 21)) 152
    (Call (at 24 59) (codes "get") (Some 151) []) (Some number)
unfolding code_of
get_is_called r =
    expression_facts controller
    (record { whole = controller_is_forest; is_read = r; is_accepted = controller_accepted }) 156 21
    (signature [] None (In 21)) 152 (Call (at 24 59) (codes "get") (Some 151) []) (Some number)
    (alarm_body r) call_inside call_there call_judged
