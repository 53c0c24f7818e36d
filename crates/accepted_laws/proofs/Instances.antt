-- The laws at a whole controller, whose nodes are computed: none of them speaks of nothing.
use Rattle.std.proofs.Common.{◌≡◌, ℕ, refl, Some, true}
use Rattle.scj_tree.specs.declared.nodes.Node.{Node}
use Rattle.scj_tree.specs.declared.nodes.Node.TheVariants.{Binary}
use Rattle.scj_rules.specs.declared.typing.Ty.TheVariants.{Bool as Boolean}
use Rattle.scj_rules.specs.Words.{is_among}
use Rattle.scj_rules.specs.Contexts.{Declarations, declarations_of, is_member, is_super_call}
use Rattle.scj_rules.specs.LimitRules.{variables_of}
use Rattle.scj_rules.specs.StaticScopes.{this_in}
use Rattle.scj_rules.specs.TypeRules.{type_of}
use Rattle.scj_rules.proofs.Computing.{computing}
use Rattle.scj_rules.proofs.RowOfUse.{controller, controller_accepted, controller_is_forest}
use Rattle.accepted_laws.specs.Judgements.{type_at_node, HasScope, IsMemberOf}
use Rattle.accepted_laws.specs.Sorts.{IsWellSorted, is_expression, is_argument, is_target, is_invocation, is_literal, is_type, is_element_type, is_result, is_type_argument, is_flags, is_define_scope, is_scope_name, is_statement, is_block, is_assignment, is_for_start, is_parameter, is_parameter_list, is_super_type, is_header}
use Rattle.accepted_laws.specs.Unbroken.{NoBreakAtNode}
use Rattle.accepted_laws.proofs.Breaks.{no_break_at_node, type_phase_empty}
use Rattle.accepted_laws.proofs.DeclarationScopes.{this_has_scope}
use Rattle.accepted_laws.proofs.MemberContexts.{member_is}
use Rattle.accepted_laws.proofs.MemberVariables.{known_is_variable}
use Rattle.accepted_laws.proofs.SortTests.{all_test, has_right_children, all_have_right_children, sorted_passes}
use Rattle.accepted_laws.proofs.Typed.{types_are, behind_children}

abbrev p : Declarations
p = declarations_of controller

-- the controller has children of the right sorts
pub controller_sorted : IsWellSorted controller.nodes
unfolding is_expression is_argument is_target is_invocation is_literal is_type is_element_type is_result is_type_argument is_flags is_define_scope is_scope_name is_statement is_block is_assignment is_for_start is_parameter is_parameter_list is_super_type is_header is_member is_super_call all_test has_right_children all_have_right_children
controller_sorted = sorted_passes controller.nodes refl

-- its 31st node, the comparison `n == 0`, breaks no rule, and has the type that its kind asks
abbrev comparison : Node
comparison = Binary (record { file = 0; line = 10; col = 11 }) 14 28 29

comparison_unbroken : NoBreakAtNode p 30 comparison
unfolding declarations_of
comparison_unbroken = no_break_at_node controller controller_accepted 30 comparison refl

comparison_type : type_at_node p 30 ≡ type_of p (type_at_node p) 30 comparison
unfolding declarations_of
comparison_type = (types_are p (behind_children controller controller_is_forest) (type_phase_empty controller controller_accepted) 30 comparison refl).1

comparison_boolean : type_at_node p 30 ≡ Some Boolean
unfolding computing
comparison_boolean = refl

-- the method `set` of the tank is the member of its assignment, where its parameter is in scope and so has a number
set_is_member : IsMemberOf p 103 105
unfolding computing
set_is_member = member_is controller controller_is_forest controller_sorted 103 105 refl

parameter_has_number : is_among 99 (variables_of p 105) ≡ true
unfolding computing
parameter_has_number = known_is_variable controller controller_is_forest controller_sorted 103 105 99 refl refl

-- THIS has a scope in the tank's class
tank_has_scope : (class : ℕ) → HasScope (this_in p class)
tank_has_scope class = this_has_scope controller controller_accepted controller_is_forest controller_sorted class
