-- The kind of a node.
use Rattle.scj_tree.specs.declared.nodes.Node.{Node}
use Rattle.scj_tree.specs.declared.nodes.Node.TheVariants.{Class, Flags, DefineScope, ScopeName, Supers, SuperType, TypeArgument, IntType, BooleanType, ClassType, VoidType, LongType, Field, Method, Constructor, Parameters, Parameter, SuperCall, Block, Empty, Local, LocalWithValue, Assign, ExpressionStatement, If, While, For, Return, Binary, Unary, Cast, Parenthesized, SimpleName, FieldAccess, Call, Element, New, NewArray, Text, Number, True, False, Null, This}
use Rattle.scj_tree.specs.declared.kinds.NodeKind.{NodeKind}
use Rattle.scj_tree.specs.declared.kinds.NodeKind.TheVariants.{Class as class_kind, Flags as flags_kind, DefineScope as define_scope_kind, ScopeName as scope_name_kind, Supers as supers_kind, SuperType as super_type_kind, TypeArgument as type_argument_kind, IntType as int_type_kind, BooleanType as boolean_type_kind, ClassType as class_type_kind, VoidType as void_type_kind, LongType as long_type_kind, Field as field_kind, Method as method_kind, Constructor as constructor_kind, Parameters as parameters_kind, Parameter as parameter_kind, SuperCall as super_call_kind, Block as block_kind, Empty as empty_kind, Local as local_kind, LocalWithValue as local_with_value_kind, Assign as assign_kind, ExpressionStatement as expression_statement_kind, If as if_kind, While as while_kind, For as for_kind, Return as return_kind, Binary as binary_kind, Unary as unary_kind, Cast as cast_kind, Parenthesized as parenthesized_kind, SimpleName as simple_name_kind, FieldAccess as field_access_kind, Call as call_kind, Element as element_kind, New as new_kind, NewArray as new_array_kind, Text as text_kind, Number as number_kind, True as true_kind, False as false_kind, Null as null_kind, This as this_kind}

-- which production made the node
unfoldable pub kind_of : Node → NodeKind
kind_of (Class position name flags header members) = class_kind
kind_of (Flags position define_scope scope runs_in is_static is_abstract is_synchronized) = flags_kind
kind_of (DefineScope position first second parent_first) = define_scope_kind
kind_of (ScopeName position name) = scope_name_kind
kind_of (Supers position superclass interfaces) = supers_kind
kind_of (SuperType position name argument) = super_type_kind
kind_of (TypeArgument position name) = type_argument_kind
kind_of (IntType position is_array) = int_type_kind
kind_of (BooleanType position is_array) = boolean_type_kind
kind_of (ClassType position name argument is_array) = class_type_kind
kind_of (VoidType position) = void_type_kind
kind_of (LongType position) = long_type_kind
kind_of (Field position name flags declared_type equals value) = field_kind
kind_of (Method position name flags result_type parameters body) = method_kind
kind_of (Constructor position name flags parameters super_call body) = constructor_kind
kind_of (Parameters position list) = parameters_kind
kind_of (Parameter position name flags declared_type) = parameter_kind
kind_of (SuperCall position arguments) = super_call_kind
kind_of (Block position statements) = block_kind
kind_of (Empty position) = empty_kind
kind_of (Local position name flags declared_type) = local_kind
kind_of (LocalWithValue position name_position name flags declared_type value) = local_with_value_kind
kind_of (Assign position target value) = assign_kind
kind_of (ExpressionStatement position expression) = expression_statement_kind
kind_of (If position condition then_part else_part) = if_kind
kind_of (While position condition body) = while_kind
kind_of (For position first condition step body) = for_kind
kind_of (Return position value) = return_kind
kind_of (Binary position operator left right) = binary_kind
kind_of (Unary position operator operand) = unary_kind
kind_of (Cast position name_position name operand) = cast_kind
kind_of (Parenthesized position inner) = parenthesized_kind
kind_of (SimpleName position name) = simple_name_kind
kind_of (FieldAccess position name object) = field_access_kind
kind_of (Call position name object arguments) = call_kind
kind_of (Element position array index) = element_kind
kind_of (New position name_position name arguments) = new_kind
kind_of (NewArray position element length) = new_array_kind
kind_of (Text position text) = text_kind
kind_of (Number position value is_negative) = number_kind
kind_of (True position) = true_kind
kind_of (False position) = false_kind
kind_of (Null position) = null_kind
kind_of (This position) = this_kind
