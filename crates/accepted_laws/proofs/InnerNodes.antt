-- Each sort of child but members is inner: neither a class nor a member.
use Rattle.std.proofs.Common.{◌≡◌, Bool, true, false, refl}
use Rattle.scj_tree.specs.declared.nodes.Node.{Node}
use Rattle.scj_tree.specs.declared.nodes.Node.TheVariants.{Class, Field, Method, Constructor}
use Rattle.scj_rules.specs.Contexts.{is_member, is_super_call}
use Rattle.accepted_laws.specs.Sorts.{is_expression, is_argument, is_target, is_invocation, is_literal, is_type, is_element_type, is_result, is_type_argument, is_flags, is_define_scope, is_scope_name, is_statement, is_block, is_assignment, is_for_start, is_parameter, is_parameter_list, is_super_type, is_header}

-- neither a class nor a member
unfoldable pub is_inner : Node → Bool
is_inner (Class position name flags header members) = false
is_inner (Field position name flags declared_type equals value) = false
is_inner (Method position name flags result_type parameters body) = false
is_inner (Constructor position name flags parameters super_call body) = false
is_inner _ = true

abbrev pub Within : (Node → Bool) → (Node → Bool) → Type 0
Within narrow wide = (n : Node) → narrow n ≡ true → wide n ≡ true

-- ---- each sort of child but members is inner

pub inner_expression : Within is_expression is_inner
unfolding is_expression is_inner
inner_expression (Class position name flags header members) e = e
inner_expression (Field position name flags declared_type equals value) e = e
inner_expression (Method position name flags result_type parameters body) e = e
inner_expression (Constructor position name flags parameters super_call body) e = e
inner_expression _ e = refl

pub inner_argument : Within is_argument is_inner
unfolding is_argument is_expression is_inner
inner_argument (Class position name flags header members) e = e
inner_argument (Field position name flags declared_type equals value) e = e
inner_argument (Method position name flags result_type parameters body) e = e
inner_argument (Constructor position name flags parameters super_call body) e = e
inner_argument _ e = refl

pub inner_target : Within is_target is_inner
unfolding is_target is_inner
inner_target (Class position name flags header members) e = e
inner_target (Field position name flags declared_type equals value) e = e
inner_target (Method position name flags result_type parameters body) e = e
inner_target (Constructor position name flags parameters super_call body) e = e
inner_target _ e = refl

pub inner_invocation : Within is_invocation is_inner
unfolding is_invocation is_inner
inner_invocation (Class position name flags header members) e = e
inner_invocation (Field position name flags declared_type equals value) e = e
inner_invocation (Method position name flags result_type parameters body) e = e
inner_invocation (Constructor position name flags parameters super_call body) e = e
inner_invocation _ e = refl

pub inner_literal : Within is_literal is_inner
unfolding is_literal is_inner
inner_literal (Class position name flags header members) e = e
inner_literal (Field position name flags declared_type equals value) e = e
inner_literal (Method position name flags result_type parameters body) e = e
inner_literal (Constructor position name flags parameters super_call body) e = e
inner_literal _ e = refl

pub inner_element_type : Within is_element_type is_inner
unfolding is_element_type is_inner
inner_element_type (Class position name flags header members) e = e
inner_element_type (Field position name flags declared_type equals value) e = e
inner_element_type (Method position name flags result_type parameters body) e = e
inner_element_type (Constructor position name flags parameters super_call body) e = e
inner_element_type _ e = refl

pub inner_type : Within is_type is_inner
unfolding is_type is_inner
inner_type (Class position name flags header members) e = e
inner_type (Field position name flags declared_type equals value) e = e
inner_type (Method position name flags result_type parameters body) e = e
inner_type (Constructor position name flags parameters super_call body) e = e
inner_type _ e = refl

pub inner_type_argument : Within is_type_argument is_inner
unfolding is_type_argument is_inner
inner_type_argument (Class position name flags header members) e = e
inner_type_argument (Field position name flags declared_type equals value) e = e
inner_type_argument (Method position name flags result_type parameters body) e = e
inner_type_argument (Constructor position name flags parameters super_call body) e = e
inner_type_argument _ e = refl

pub inner_flags : Within is_flags is_inner
unfolding is_flags is_inner
inner_flags (Class position name flags header members) e = e
inner_flags (Field position name flags declared_type equals value) e = e
inner_flags (Method position name flags result_type parameters body) e = e
inner_flags (Constructor position name flags parameters super_call body) e = e
inner_flags _ e = refl

pub inner_define_scope : Within is_define_scope is_inner
unfolding is_define_scope is_inner
inner_define_scope (Class position name flags header members) e = e
inner_define_scope (Field position name flags declared_type equals value) e = e
inner_define_scope (Method position name flags result_type parameters body) e = e
inner_define_scope (Constructor position name flags parameters super_call body) e = e
inner_define_scope _ e = refl

pub inner_scope_name : Within is_scope_name is_inner
unfolding is_scope_name is_inner
inner_scope_name (Class position name flags header members) e = e
inner_scope_name (Field position name flags declared_type equals value) e = e
inner_scope_name (Method position name flags result_type parameters body) e = e
inner_scope_name (Constructor position name flags parameters super_call body) e = e
inner_scope_name _ e = refl

pub inner_statement : Within is_statement is_inner
unfolding is_statement is_inner
inner_statement (Class position name flags header members) e = e
inner_statement (Field position name flags declared_type equals value) e = e
inner_statement (Method position name flags result_type parameters body) e = e
inner_statement (Constructor position name flags parameters super_call body) e = e
inner_statement _ e = refl

pub inner_block : Within is_block is_inner
unfolding is_block is_inner
inner_block (Class position name flags header members) e = e
inner_block (Field position name flags declared_type equals value) e = e
inner_block (Method position name flags result_type parameters body) e = e
inner_block (Constructor position name flags parameters super_call body) e = e
inner_block _ e = refl

pub inner_assignment : Within is_assignment is_inner
unfolding is_assignment is_inner
inner_assignment (Class position name flags header members) e = e
inner_assignment (Field position name flags declared_type equals value) e = e
inner_assignment (Method position name flags result_type parameters body) e = e
inner_assignment (Constructor position name flags parameters super_call body) e = e
inner_assignment _ e = refl

pub inner_for_start : Within is_for_start is_inner
unfolding is_for_start is_inner
inner_for_start (Class position name flags header members) e = e
inner_for_start (Field position name flags declared_type equals value) e = e
inner_for_start (Method position name flags result_type parameters body) e = e
inner_for_start (Constructor position name flags parameters super_call body) e = e
inner_for_start _ e = refl

pub inner_parameter : Within is_parameter is_inner
unfolding is_parameter is_inner
inner_parameter (Class position name flags header members) e = e
inner_parameter (Field position name flags declared_type equals value) e = e
inner_parameter (Method position name flags result_type parameters body) e = e
inner_parameter (Constructor position name flags parameters super_call body) e = e
inner_parameter _ e = refl

pub inner_parameter_list : Within is_parameter_list is_inner
unfolding is_parameter_list is_inner
inner_parameter_list (Class position name flags header members) e = e
inner_parameter_list (Field position name flags declared_type equals value) e = e
inner_parameter_list (Method position name flags result_type parameters body) e = e
inner_parameter_list (Constructor position name flags parameters super_call body) e = e
inner_parameter_list _ e = refl

pub inner_super_type : Within is_super_type is_inner
unfolding is_super_type is_inner
inner_super_type (Class position name flags header members) e = e
inner_super_type (Field position name flags declared_type equals value) e = e
inner_super_type (Method position name flags result_type parameters body) e = e
inner_super_type (Constructor position name flags parameters super_call body) e = e
inner_super_type _ e = refl

pub inner_header : Within is_header is_inner
unfolding is_header is_inner
inner_header (Class position name flags header members) e = e
inner_header (Field position name flags declared_type equals value) e = e
inner_header (Method position name flags result_type parameters body) e = e
inner_header (Constructor position name flags parameters super_call body) e = e
inner_header _ e = refl

pub inner_super_call : Within is_super_call is_inner
unfolding is_super_call is_inner
inner_super_call (Class position name flags header members) e = e
inner_super_call (Field position name flags declared_type equals value) e = e
inner_super_call (Method position name flags result_type parameters body) e = e
inner_super_call (Constructor position name flags parameters super_call body) e = e
inner_super_call _ e = refl

pub inner_result : Within is_result is_inner
unfolding is_result is_type is_inner
inner_result (Class position name flags header members) e = e
inner_result (Field position name flags declared_type equals value) e = e
inner_result (Method position name flags result_type parameters body) e = e
inner_result (Constructor position name flags parameters super_call body) e = e
inner_result _ e = refl

-- no class
unfoldable pub is_no_class : Node → Bool
is_no_class (Class position name flags header members) = false
is_no_class _ = true

pub inner_no_class : Within is_inner is_no_class
unfolding is_inner is_no_class
inner_no_class (Class position name flags header members) e = e
inner_no_class _ e = refl

pub member_no_class : Within is_member is_no_class
unfolding is_member is_no_class
member_no_class (Class position name flags header members) e = e
member_no_class _ e = refl
