-- The sorts of nodes, and which sorts the children of a node are of: what the grammar says of a tree (JLS 19).
use Rattle.std.specs.Prelude.{◌≡◌, ℕ, Bool, true, false, List, [], ◌∷◌, slice_get, Option, Some, None}
use Rattle.scj_tree.specs.declared.nodes.Node.{Node}
use Rattle.scj_tree.specs.declared.nodes.Node.TheVariants.{Class, Flags, DefineScope, ScopeName, Supers, SuperType, TypeArgument, IntType, BooleanType, ClassType, VoidType, LongType, Field, Method, Constructor, Parameters, Parameter, SuperCall, Block, Empty, Local, LocalWithValue, Assign, ExpressionStatement, If, While, For, Return, Binary, Unary, Cast, Parenthesized, SimpleName, FieldAccess, Call, Element, New, NewArray, Text, Number, True, False, Null, This}
use Rattle.scj_rules.specs.Contexts.{is_member, is_super_call}

-- ---- expressions (JLS 15)

unfoldable pub is_expression : Node → Bool
is_expression (Binary position operator left right) = true
is_expression (Unary position operator operand) = true
is_expression (Cast position name_position name operand) = true
is_expression (Parenthesized position inner) = true
is_expression (SimpleName position name) = true
is_expression (FieldAccess position name object) = true
is_expression (Call position name object arguments) = true
is_expression (Element position array index) = true
is_expression (New position name_position name arguments) = true
is_expression (NewArray position element length) = true
is_expression (Number position value is_negative) = true
is_expression (True position) = true
is_expression (False position) = true
is_expression (Null position) = true
is_expression (This position) = true
is_expression _ = false

-- an argument is an expression, or a text
unfoldable pub is_argument : Node → Bool
is_argument (Text position text) = true
is_argument node = is_expression node

-- what may stand before `=` (JLS 15.26)
unfoldable pub is_target : Node → Bool
is_target (SimpleName position name) = true
is_target (FieldAccess position name object) = true
is_target (Element position array index) = true
is_target _ = false

-- an expression that may stand as a statement, but for assignments (JLS 14.8)
unfoldable pub is_invocation : Node → Bool
is_invocation (Call position name object arguments) = true
is_invocation (New position name_position name arguments) = true
is_invocation _ = false

-- the value with which a field is declared
unfoldable pub is_literal : Node → Bool
is_literal (Number position value is_negative) = true
is_literal (True position) = true
is_literal (False position) = true
is_literal (Null position) = true
is_literal _ = false

-- ---- types (JLS 4), and the results of methods

unfoldable pub is_type : Node → Bool
is_type (IntType position is_array) = true
is_type (BooleanType position is_array) = true
is_type (ClassType position name argument is_array) = true
is_type _ = false

-- the type of the elements of a new array: no array itself
unfoldable pub is_element_type : Node → Bool
is_element_type (IntType position false) = true
is_element_type (BooleanType position false) = true
is_element_type (ClassType position name argument false) = true
is_element_type _ = false

unfoldable pub is_result : Node → Bool
is_result (VoidType position) = true
is_result (LongType position) = true
is_result node = is_type node

unfoldable pub is_type_argument : Node → Bool
is_type_argument (TypeArgument position name) = true
is_type_argument _ = false

-- ---- annotations and modifiers

unfoldable pub is_flags : Node → Bool
is_flags (Flags position define_scope scope runs_in is_static is_abstract is_synchronized) = true
is_flags _ = false

unfoldable pub is_define_scope : Node → Bool
is_define_scope (DefineScope position first second parent_first) = true
is_define_scope _ = false

unfoldable pub is_scope_name : Node → Bool
is_scope_name (ScopeName position name) = true
is_scope_name _ = false

-- ---- statements (JLS 14)

unfoldable pub is_statement : Node → Bool
is_statement (Block position statements) = true
is_statement (Empty position) = true
is_statement (Local position name flags declared_type) = true
is_statement (LocalWithValue position name_position name flags declared_type value) = true
is_statement (Assign position target value) = true
is_statement (ExpressionStatement position expression) = true
is_statement (If position condition then_part else_part) = true
is_statement (While position condition body) = true
is_statement (For position first condition step body) = true
is_statement (Return position value) = true
is_statement _ = false

unfoldable pub is_block : Node → Bool
is_block (Block position statements) = true
is_block _ = false

unfoldable pub is_assignment : Node → Bool
is_assignment (Assign position target value) = true
is_assignment _ = false

-- what stands first in a `for`
unfoldable pub is_for_start : Node → Bool
is_for_start (Assign position target value) = true
is_for_start (LocalWithValue position name_position name flags declared_type value) = true
is_for_start _ = false

-- ---- members and classes (JLS 8)

unfoldable pub is_parameter : Node → Bool
is_parameter (Parameter position name flags declared_type) = true
is_parameter _ = false

unfoldable pub is_parameter_list : Node → Bool
is_parameter_list (Parameters position list) = true
is_parameter_list _ = false

unfoldable pub is_super_type : Node → Bool
is_super_type (SuperType position name argument) = true
is_super_type _ = false

unfoldable pub is_header : Node → Bool
is_header (Supers position superclass interfaces) = true
is_header _ = false

unfoldable pub is_class : Node → Bool
is_class (Class position name flags header members) = true
is_class _ = false

-- ---- the sorts of children

-- the number is that of a node, which passes the test
pub record Of (test : Node → Bool) (nodes : List Node) (id : ℕ) : Type 0 where
  pub node : Node
  pub is_there : slice_get nodes id ≡ Some node
  pub passes : test node ≡ true

abbrev pub AllOf : (Node → Bool) → List Node → List ℕ → Type 0
AllOf test nodes [] = Unit {0}
AllOf test nodes (x ∷ xs) = Of test nodes x × AllOf test nodes xs

abbrev pub OptionOf : (Node → Bool) → List Node → Option ℕ → Type 0
OptionOf test nodes None = Unit {0}
OptionOf test nodes (Some x) = Of test nodes x

-- the children of the node are of the sorts that its kind asks
unfoldable pub HasRightChildren : List Node → Node → Type 0
HasRightChildren nodes (Class position name flags header members) =
    OptionOf is_flags nodes flags × OptionOf is_header nodes header × AllOf is_member nodes members
HasRightChildren nodes (Flags position define_scope scope runs_in is_static is_abstract is_synchronized) =
    OptionOf is_define_scope nodes define_scope × OptionOf is_scope_name nodes scope
    × OptionOf is_scope_name nodes runs_in
HasRightChildren nodes (DefineScope position first second parent_first) =
    Of is_scope_name nodes first × Of is_scope_name nodes second
HasRightChildren nodes (Supers position superclass interfaces) =
    OptionOf is_super_type nodes superclass × AllOf is_super_type nodes interfaces
HasRightChildren nodes (SuperType position name argument) = OptionOf is_type_argument nodes argument
HasRightChildren nodes (ClassType position name argument is_array) = OptionOf is_type_argument nodes argument
HasRightChildren nodes (Field position name flags declared_type equals value) =
    OptionOf is_flags nodes flags × Of is_type nodes declared_type × OptionOf is_literal nodes value
HasRightChildren nodes (Method position name flags result_type parameters body) =
    OptionOf is_flags nodes flags × Of is_result nodes result_type × OptionOf is_parameter_list nodes parameters
    × OptionOf is_block nodes body
HasRightChildren nodes (Constructor position name flags parameters super_call body) =
    OptionOf is_flags nodes flags × OptionOf is_parameter_list nodes parameters
    × OptionOf is_super_call nodes super_call × Of is_block nodes body
HasRightChildren nodes (Parameters position list) = AllOf is_parameter nodes list
HasRightChildren nodes (Parameter position name flags declared_type) =
    OptionOf is_flags nodes flags × Of is_type nodes declared_type
HasRightChildren nodes (SuperCall position arguments) = AllOf is_argument nodes arguments
HasRightChildren nodes (Block position statements) = AllOf is_statement nodes statements
HasRightChildren nodes (Local position name flags declared_type) =
    OptionOf is_flags nodes flags × Of is_type nodes declared_type
HasRightChildren nodes (LocalWithValue position name_position name flags declared_type value) =
    OptionOf is_flags nodes flags × Of is_type nodes declared_type × Of is_expression nodes value
HasRightChildren nodes (Assign position target value) = Of is_target nodes target × Of is_expression nodes value
HasRightChildren nodes (ExpressionStatement position expression) = Of is_invocation nodes expression
HasRightChildren nodes (If position condition then_part else_part) =
    Of is_expression nodes condition × Of is_statement nodes then_part × OptionOf is_statement nodes else_part
HasRightChildren nodes (While position condition body) = Of is_expression nodes condition × Of is_statement nodes body
HasRightChildren nodes (For position first condition step body) =
    Of is_for_start nodes first × Of is_expression nodes condition × Of is_assignment nodes step
    × Of is_statement nodes body
HasRightChildren nodes (Return position value) = OptionOf is_expression nodes value
HasRightChildren nodes (Binary position operator left right) = Of is_expression nodes left × Of is_expression nodes right
HasRightChildren nodes (Unary position operator operand) = Of is_expression nodes operand
HasRightChildren nodes (Cast position name_position name operand) = Of is_expression nodes operand
HasRightChildren nodes (Parenthesized position inner) = Of is_expression nodes inner
HasRightChildren nodes (FieldAccess position name object) = Of is_expression nodes object
HasRightChildren nodes (Call position name object arguments) =
    OptionOf is_expression nodes object × AllOf is_argument nodes arguments
HasRightChildren nodes (Element position array index) = Of is_expression nodes array × Of is_expression nodes index
HasRightChildren nodes (New position name_position name arguments) = AllOf is_argument nodes arguments
HasRightChildren nodes (NewArray position element length) =
    Of is_element_type nodes element × Of is_expression nodes length
HasRightChildren nodes _ = Unit {0}

-- each node has children of the sorts that its kind asks
pub record IsWellSorted (nodes : List Node) : Type 0 where
  pub each : (id : ℕ) (node : Node) → slice_get nodes id ≡ Some node → HasRightChildren nodes node
