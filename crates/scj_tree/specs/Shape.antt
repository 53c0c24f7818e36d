-- The place of a node and its children, for each kind of node.
use Rattle.std.specs.Prelude.{ℕ, List, [], ◌∷◌, ◌++◌, Option, Some, None}
use Rattle.scj_base.specs.declared.positions.Position.{Position}
use Rattle.scj_tree.specs.declared.nodes.Node.{Node}
use Rattle.scj_tree.specs.declared.nodes.Node.TheVariants.{Class, Flags, DefineScope, ScopeName, Supers, SuperType, TypeArgument, IntType, BooleanType, ClassType, VoidType, LongType, Field, Method, Constructor, Parameters, Parameter, SuperCall, Block, Empty, Local, LocalWithValue, Assign, ExpressionStatement, If, While, For, Return, Binary, Unary, Cast, Parenthesized, SimpleName, FieldAccess, Call, Element, New, NewArray, Text, Number, True, False, Null, This}

-- where reports name a node
unfoldable pub position_of : Node → Position
position_of (Class position name flags header members) = position
position_of (Flags position define_scope scope runs_in is_static is_abstract is_synchronized) = position
position_of (DefineScope position first second parent_first) = position
position_of (ScopeName position name) = position
position_of (Supers position superclass interfaces) = position
position_of (SuperType position name argument) = position
position_of (TypeArgument position name) = position
position_of (IntType position is_array) = position
position_of (BooleanType position is_array) = position
position_of (ClassType position name argument is_array) = position
position_of (VoidType position) = position
position_of (LongType position) = position
position_of (Field position name flags declared_type equals value) = position
position_of (Method position name flags result_type parameters body) = position
position_of (Constructor position name flags parameters super_call body) = position
position_of (Parameters position list) = position
position_of (Parameter position name flags declared_type) = position
position_of (SuperCall position arguments) = position
position_of (Block position statements) = position
position_of (Empty position) = position
position_of (Local position name flags declared_type) = position
position_of (LocalWithValue position name_position name flags declared_type value) = position
position_of (Assign position target value) = position
position_of (ExpressionStatement position expression) = position
position_of (If position condition then_part else_part) = position
position_of (While position condition body) = position
position_of (For position first condition step body) = position
position_of (Return position value) = position
position_of (Binary position operator left right) = position
position_of (Unary position operator operand) = position
position_of (Cast position name_position name operand) = position
position_of (Parenthesized position inner) = position
position_of (SimpleName position name) = position
position_of (FieldAccess position name object) = position
position_of (Call position name object arguments) = position
position_of (Element position array index) = position
position_of (New position name_position name arguments) = position
position_of (NewArray position element length) = position
position_of (Text position text) = position
position_of (Number position value is_negative) = position
position_of (True position) = position
position_of (False position) = position
position_of (Null position) = position
position_of (This position) = position

-- a child that may be missing, as a list
abbrev pub optional : Option ℕ → List ℕ
optional None = []
optional (Some child) = child ∷ []

-- the children of a node, in the order of the source
unfoldable pub children : Node → List ℕ
children (Class position name flags header members) = optional flags ++ (optional header ++ members)
children (Flags position define_scope scope runs_in is_static is_abstract is_synchronized) =
    optional define_scope ++ (optional scope ++ optional runs_in)
children (DefineScope position first second parent_first) = first ∷ second ∷ []
children (ScopeName position name) = []
children (Supers position superclass interfaces) = optional superclass ++ interfaces
children (SuperType position name argument) = optional argument
children (TypeArgument position name) = []
children (IntType position is_array) = []
children (BooleanType position is_array) = []
children (ClassType position name argument is_array) = optional argument
children (VoidType position) = []
children (LongType position) = []
children (Field position name flags declared_type equals value) = optional flags ++ (declared_type ∷ optional value)
children (Method position name flags result_type parameters body) =
    optional flags ++ (result_type ∷ optional parameters ++ optional body)
children (Constructor position name flags parameters super_call body) =
    optional flags ++ (optional parameters ++ (optional super_call ++ (body ∷ [])))
children (Parameters position list) = list
children (Parameter position name flags declared_type) = optional flags ++ (declared_type ∷ [])
children (SuperCall position arguments) = arguments
children (Block position statements) = statements
children (Empty position) = []
children (Local position name flags declared_type) = optional flags ++ (declared_type ∷ [])
children (LocalWithValue position name_position name flags declared_type value) =
    optional flags ++ (declared_type ∷ value ∷ [])
children (Assign position target value) = target ∷ value ∷ []
children (ExpressionStatement position expression) = expression ∷ []
children (If position condition then_part else_part) = condition ∷ then_part ∷ optional else_part
children (While position condition body) = condition ∷ body ∷ []
children (For position first condition step body) = first ∷ condition ∷ step ∷ body ∷ []
children (Return position value) = optional value
children (Binary position operator left right) = left ∷ right ∷ []
children (Unary position operator operand) = operand ∷ []
children (Cast position name_position name operand) = operand ∷ []
children (Parenthesized position inner) = inner ∷ []
children (SimpleName position name) = []
children (FieldAccess position name object) = object ∷ []
children (Call position name object arguments) = optional object ++ arguments
children (Element position array index) = array ∷ index ∷ []
children (New position name_position name arguments) = arguments
children (NewArray position element length) = element ∷ length ∷ []
children (Text position text) = []
children (Number position value is_negative) = []
children (True position) = []
children (False position) = []
children (Null position) = []
children (This position) = []
