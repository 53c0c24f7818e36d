-- A list of nodes is well sorted where these tests pass.
use Rattle.std.proofs.Common.{◌≡◌, ℕ, zero, suc, List, [], ◌∷◌, refl, sym, ap, ◌∙◌, Option, Some, None, Bool, true, false, ◌&&◌, true≢false, slice_get}
use Rattle.scj_tree.specs.declared.nodes.Node.{Node}
use Rattle.scj_tree.specs.declared.nodes.Node.TheVariants.{Class, Flags, DefineScope, Supers, SuperType, ClassType, Field, Method, Constructor, Parameters, Parameter, SuperCall, Block, Local, LocalWithValue, Assign, ExpressionStatement, If, While, For, Return, Binary, Unary, Cast, Parenthesized, FieldAccess, Call, Element, New, NewArray}
use Rattle.scj_rules.specs.Words.{holds}
use Rattle.scj_rules.specs.Contexts.{is_member, is_super_call}
use Rattle.accepted_laws.specs.Sorts.{Of, AllOf, OptionOf, HasRightChildren, IsWellSorted, is_expression, is_argument, is_target, is_invocation, is_literal, is_type, is_element_type, is_result, is_type_argument, is_flags, is_define_scope, is_scope_name, is_statement, is_block, is_assignment, is_for_start, is_parameter, is_parameter_list, is_super_type, is_header}
use Rattle.accepted_laws.proofs.Tools.{some_inj}

abbrev of_test : (Node → Bool) → List Node → ℕ → Bool
of_test test nodes id = holds (slice_get nodes id) test

unfoldable pub all_test : (Node → Bool) → List Node → List ℕ → Bool
all_test test nodes [] = true
all_test test nodes (x ∷ xs) = of_test test nodes x && all_test test nodes xs

abbrev option_test : (Node → Bool) → List Node → Option ℕ → Bool
option_test test nodes None = true
option_test test nodes (Some x) = of_test test nodes x

unfoldable pub has_right_children : List Node → Node → Bool
has_right_children nodes (Class position name flags header members) = option_test is_flags nodes flags && (option_test is_header nodes header && all_test is_member nodes members)
has_right_children nodes (Flags position define_scope scope runs_in is_static is_abstract is_synchronized) = option_test is_define_scope nodes define_scope && (option_test is_scope_name nodes scope && option_test is_scope_name nodes runs_in)
has_right_children nodes (DefineScope position first second parent_first) = of_test is_scope_name nodes first && of_test is_scope_name nodes second
has_right_children nodes (Supers position superclass interfaces) = option_test is_super_type nodes superclass && all_test is_super_type nodes interfaces
has_right_children nodes (SuperType position name argument) = option_test is_type_argument nodes argument
has_right_children nodes (ClassType position name argument is_array) = option_test is_type_argument nodes argument
has_right_children nodes (Field position name flags declared_type equals value) = option_test is_flags nodes flags && (of_test is_type nodes declared_type && option_test is_literal nodes value)
has_right_children nodes (Method position name flags result_type parameters body) = option_test is_flags nodes flags && (of_test is_result nodes result_type && (option_test is_parameter_list nodes parameters && option_test is_block nodes body))
has_right_children nodes (Constructor position name flags parameters super_call body) = option_test is_flags nodes flags && (option_test is_parameter_list nodes parameters && (option_test is_super_call nodes super_call && of_test is_block nodes body))
has_right_children nodes (Parameters position list) = all_test is_parameter nodes list
has_right_children nodes (Parameter position name flags declared_type) = option_test is_flags nodes flags && of_test is_type nodes declared_type
has_right_children nodes (SuperCall position arguments) = all_test is_argument nodes arguments
has_right_children nodes (Block position statements) = all_test is_statement nodes statements
has_right_children nodes (Local position name flags declared_type) = option_test is_flags nodes flags && of_test is_type nodes declared_type
has_right_children nodes (LocalWithValue position name_position name flags declared_type value) = option_test is_flags nodes flags && (of_test is_type nodes declared_type && of_test is_expression nodes value)
has_right_children nodes (Assign position target value) = of_test is_target nodes target && of_test is_expression nodes value
has_right_children nodes (ExpressionStatement position expression) = of_test is_invocation nodes expression
has_right_children nodes (If position condition then_part else_part) = of_test is_expression nodes condition && (of_test is_statement nodes then_part && option_test is_statement nodes else_part)
has_right_children nodes (While position condition body) = of_test is_expression nodes condition && of_test is_statement nodes body
has_right_children nodes (For position first condition step body) = of_test is_for_start nodes first && (of_test is_expression nodes condition && (of_test is_assignment nodes step && of_test is_statement nodes body))
has_right_children nodes (Return position value) = option_test is_expression nodes value
has_right_children nodes (Binary position operator left right) = of_test is_expression nodes left && of_test is_expression nodes right
has_right_children nodes (Unary position operator operand) = of_test is_expression nodes operand
has_right_children nodes (Cast position name_position name operand) = of_test is_expression nodes operand
has_right_children nodes (Parenthesized position inner) = of_test is_expression nodes inner
has_right_children nodes (FieldAccess position name object) = of_test is_expression nodes object
has_right_children nodes (Call position name object arguments) = option_test is_expression nodes object && all_test is_argument nodes arguments
has_right_children nodes (Element position array index) = of_test is_expression nodes array && of_test is_expression nodes index
has_right_children nodes (New position name_position name arguments) = all_test is_argument nodes arguments
has_right_children nodes (NewArray position element length) = of_test is_element_type nodes element && of_test is_expression nodes length
has_right_children nodes _ = true

unfoldable pub all_have_right_children : List Node → List Node → Bool
all_have_right_children nodes [] = true
all_have_right_children nodes (x ∷ xs) = has_right_children nodes x && all_have_right_children nodes xs

parts : (a b : Bool) → (a && b) ≡ true → (a ≡ true) × (b ≡ true)
parts true b e = (refl, e)
parts false b e = absurd (true≢false (sym e))

of_right : (test : Node → Bool) (nodes : List Node) (id : ℕ) → of_test test nodes id ≡ true → Of test nodes id
of_right test nodes id e = go (slice_get nodes id) refl e
  where
    go : (o : Option Node) → slice_get nodes id ≡ o → holds o test ≡ true → Of test nodes id
    go None s e = absurd (true≢false (sym e))
    go (Some node) s e = record { node = node; is_there = s; passes = e }

all_right : (test : Node → Bool) (nodes : List Node) (ids : List ℕ) → all_test test nodes ids ≡ true → AllOf test nodes ids
unfolding all_test
all_right test nodes [] e = tt
all_right test nodes (x ∷ xs) e = let a = parts (of_test test nodes x) (all_test test nodes xs) e in (of_right test nodes x a.0, all_right test nodes xs a.1)

option_right : (test : Node → Bool) (nodes : List Node) (o : Option ℕ) → option_test test nodes o ≡ true → OptionOf test nodes o
option_right test nodes None e = tt
option_right test nodes (Some x) e = of_right test nodes x e

right_children : (nodes : List Node) (node : Node) → has_right_children nodes node ≡ true → HasRightChildren nodes node
unfolding has_right_children HasRightChildren
right_children nodes (Class position name flags header members) e = let a0 = parts (option_test is_flags nodes flags) (option_test is_header nodes header && all_test is_member nodes members) e in let a1 = parts (option_test is_header nodes header) (all_test is_member nodes members) a0.1 in (option_right is_flags nodes flags a0.0, option_right is_header nodes header a1.0, all_right is_member nodes members a1.1)
right_children nodes (Flags position define_scope scope runs_in is_static is_abstract is_synchronized) e = let a0 = parts (option_test is_define_scope nodes define_scope) (option_test is_scope_name nodes scope && option_test is_scope_name nodes runs_in) e in let a1 = parts (option_test is_scope_name nodes scope) (option_test is_scope_name nodes runs_in) a0.1 in (option_right is_define_scope nodes define_scope a0.0, option_right is_scope_name nodes scope a1.0, option_right is_scope_name nodes runs_in a1.1)
right_children nodes (DefineScope position first second parent_first) e = let a0 = parts (of_test is_scope_name nodes first) (of_test is_scope_name nodes second) e in (of_right is_scope_name nodes first a0.0, of_right is_scope_name nodes second a0.1)
right_children nodes (Supers position superclass interfaces) e = let a0 = parts (option_test is_super_type nodes superclass) (all_test is_super_type nodes interfaces) e in (option_right is_super_type nodes superclass a0.0, all_right is_super_type nodes interfaces a0.1)
right_children nodes (SuperType position name argument) e = option_right is_type_argument nodes argument e
right_children nodes (ClassType position name argument is_array) e = option_right is_type_argument nodes argument e
right_children nodes (Field position name flags declared_type equals value) e = let a0 = parts (option_test is_flags nodes flags) (of_test is_type nodes declared_type && option_test is_literal nodes value) e in let a1 = parts (of_test is_type nodes declared_type) (option_test is_literal nodes value) a0.1 in (option_right is_flags nodes flags a0.0, of_right is_type nodes declared_type a1.0, option_right is_literal nodes value a1.1)
right_children nodes (Method position name flags result_type parameters body) e = let a0 = parts (option_test is_flags nodes flags) (of_test is_result nodes result_type && (option_test is_parameter_list nodes parameters && option_test is_block nodes body)) e in let a1 = parts (of_test is_result nodes result_type) (option_test is_parameter_list nodes parameters && option_test is_block nodes body) a0.1 in let a2 = parts (option_test is_parameter_list nodes parameters) (option_test is_block nodes body) a1.1 in (option_right is_flags nodes flags a0.0, of_right is_result nodes result_type a1.0, option_right is_parameter_list nodes parameters a2.0, option_right is_block nodes body a2.1)
right_children nodes (Constructor position name flags parameters super_call body) e = let a0 = parts (option_test is_flags nodes flags) (option_test is_parameter_list nodes parameters && (option_test is_super_call nodes super_call && of_test is_block nodes body)) e in let a1 = parts (option_test is_parameter_list nodes parameters) (option_test is_super_call nodes super_call && of_test is_block nodes body) a0.1 in let a2 = parts (option_test is_super_call nodes super_call) (of_test is_block nodes body) a1.1 in (option_right is_flags nodes flags a0.0, option_right is_parameter_list nodes parameters a1.0, option_right is_super_call nodes super_call a2.0, of_right is_block nodes body a2.1)
right_children nodes (Parameters position list) e = all_right is_parameter nodes list e
right_children nodes (Parameter position name flags declared_type) e = let a0 = parts (option_test is_flags nodes flags) (of_test is_type nodes declared_type) e in (option_right is_flags nodes flags a0.0, of_right is_type nodes declared_type a0.1)
right_children nodes (SuperCall position arguments) e = all_right is_argument nodes arguments e
right_children nodes (Block position statements) e = all_right is_statement nodes statements e
right_children nodes (Local position name flags declared_type) e = let a0 = parts (option_test is_flags nodes flags) (of_test is_type nodes declared_type) e in (option_right is_flags nodes flags a0.0, of_right is_type nodes declared_type a0.1)
right_children nodes (LocalWithValue position name_position name flags declared_type value) e = let a0 = parts (option_test is_flags nodes flags) (of_test is_type nodes declared_type && of_test is_expression nodes value) e in let a1 = parts (of_test is_type nodes declared_type) (of_test is_expression nodes value) a0.1 in (option_right is_flags nodes flags a0.0, of_right is_type nodes declared_type a1.0, of_right is_expression nodes value a1.1)
right_children nodes (Assign position target value) e = let a0 = parts (of_test is_target nodes target) (of_test is_expression nodes value) e in (of_right is_target nodes target a0.0, of_right is_expression nodes value a0.1)
right_children nodes (ExpressionStatement position expression) e = of_right is_invocation nodes expression e
right_children nodes (If position condition then_part else_part) e = let a0 = parts (of_test is_expression nodes condition) (of_test is_statement nodes then_part && option_test is_statement nodes else_part) e in let a1 = parts (of_test is_statement nodes then_part) (option_test is_statement nodes else_part) a0.1 in (of_right is_expression nodes condition a0.0, of_right is_statement nodes then_part a1.0, option_right is_statement nodes else_part a1.1)
right_children nodes (While position condition body) e = let a0 = parts (of_test is_expression nodes condition) (of_test is_statement nodes body) e in (of_right is_expression nodes condition a0.0, of_right is_statement nodes body a0.1)
right_children nodes (For position first condition step body) e = let a0 = parts (of_test is_for_start nodes first) (of_test is_expression nodes condition && (of_test is_assignment nodes step && of_test is_statement nodes body)) e in let a1 = parts (of_test is_expression nodes condition) (of_test is_assignment nodes step && of_test is_statement nodes body) a0.1 in let a2 = parts (of_test is_assignment nodes step) (of_test is_statement nodes body) a1.1 in (of_right is_for_start nodes first a0.0, of_right is_expression nodes condition a1.0, of_right is_assignment nodes step a2.0, of_right is_statement nodes body a2.1)
right_children nodes (Return position value) e = option_right is_expression nodes value e
right_children nodes (Binary position operator left right) e = let a0 = parts (of_test is_expression nodes left) (of_test is_expression nodes right) e in (of_right is_expression nodes left a0.0, of_right is_expression nodes right a0.1)
right_children nodes (Unary position operator operand) e = of_right is_expression nodes operand e
right_children nodes (Cast position name_position name operand) e = of_right is_expression nodes operand e
right_children nodes (Parenthesized position inner) e = of_right is_expression nodes inner e
right_children nodes (FieldAccess position name object) e = of_right is_expression nodes object e
right_children nodes (Call position name object arguments) e = let a0 = parts (option_test is_expression nodes object) (all_test is_argument nodes arguments) e in (option_right is_expression nodes object a0.0, all_right is_argument nodes arguments a0.1)
right_children nodes (Element position array index) e = let a0 = parts (of_test is_expression nodes array) (of_test is_expression nodes index) e in (of_right is_expression nodes array a0.0, of_right is_expression nodes index a0.1)
right_children nodes (New position name_position name arguments) e = all_right is_argument nodes arguments e
right_children nodes (NewArray position element length) e = let a0 = parts (of_test is_element_type nodes element) (of_test is_expression nodes length) e in (of_right is_element_type nodes element a0.0, of_right is_expression nodes length a0.1)
right_children nodes _ e = tt

each_right : (nodes xs : List Node) (id : ℕ) (node : Node) → all_have_right_children nodes xs ≡ true → slice_get xs id ≡ Some node → HasRightChildren nodes node
unfolding all_have_right_children
each_right nodes [] id node e s = absurd (cc (s))
each_right nodes (x ∷ xs) zero node e s = right_children nodes node (ap (has_right_children nodes) (sym (some_inj x node s)) ∙ (parts (has_right_children nodes x) (all_have_right_children nodes xs) e).0)
each_right nodes (x ∷ xs) (suc id) node e s = each_right nodes xs id node (parts (has_right_children nodes x) (all_have_right_children nodes xs) e).1 s

pub sorted_passes : (nodes : List Node) → all_have_right_children nodes nodes ≡ true → IsWellSorted nodes
sorted_passes nodes e = record { each = λ id node s. each_right nodes nodes id node e s }
