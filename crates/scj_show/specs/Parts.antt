-- Of which parts a node is printed, in their order: nodes below it, and lexemes. What has no effect isn't in the tree,
-- and so in no part.
use Rattle.std.specs.Prelude.{ℕ, Bool, true, false, List, [], ◌∷◌, ◌++◌, Option, Some, None, codes, if◌then◌else◌}
use Rattle.scj_base.specs.Vocabulary.{word_abstract, word_boolean, word_class, word_else, word_extends, word_false, word_for, word_if, word_implements, word_int, word_long, word_new, word_null, word_return, word_static, word_super, word_synchronized, word_this, word_true, word_void, word_while, sign_left_brace, sign_right_brace, sign_left_parenthesis, sign_right_parenthesis, sign_left_bracket, sign_right_bracket, sign_semicolon, sign_comma, sign_dot, sign_at, sign_assign, sign_less, sign_greater, sign_minus}
use Rattle.scj_tree.specs.declared.nodes.Node.{Node}
use Rattle.scj_tree.specs.declared.nodes.Node.TheVariants.{Class, Flags, DefineScope, ScopeName, Supers, SuperType, TypeArgument, IntType, BooleanType, ClassType, VoidType, LongType, Field, Method, Constructor, Parameters, Parameter, SuperCall, Block, Empty, Local, LocalWithValue, Assign, ExpressionStatement, If, While, For, Return, Binary, Unary, Cast, Parenthesized, SimpleName, FieldAccess, Call, Element, New, NewArray, Text, Number, True, False, Null, This}
use Rattle.scj_show.specs.declared.parts.Part.{Part}
use Rattle.scj_show.specs.declared.parts.Part.TheVariants.{Whole, Bare, Named, Quoted, Word, Sign, Digits}

-- a node that may be missing
unfoldable pub maybe : Option ℕ → List Part
maybe None = []
maybe (Some id) = Whole id ∷ []

-- nodes one behind the other
unfoldable pub each : List ℕ → List Part
each [] = []
each (id ∷ ids) = Whole id ∷ each ids

-- nodes, each behind a comma
unfoldable pub each_behind_comma : List ℕ → List Part
each_behind_comma [] = []
each_behind_comma (id ∷ ids) = Sign sign_comma ∷ Whole id ∷ each_behind_comma ids

-- nodes with commas between them
unfoldable pub listed : List ℕ → List Part
listed [] = []
listed (id ∷ ids) = Whole id ∷ each_behind_comma ids

-- a word that may be missing
unfoldable pub word_if_set : Bool → ℕ → List Part
word_if_set false word = []
word_if_set true word = Word word ∷ []

-- an annotation with the name of a scope, which may be missing
unfoldable pub annotation : List ℕ → Option ℕ → List Part
annotation name None = []
annotation name (Some id) = Sign sign_at ∷ Named name ∷ Sign sign_left_parenthesis ∷ Whole id
    ∷ Sign sign_right_parenthesis ∷ []

unfoldable pub scope_definition : ℕ → ℕ → List Part
scope_definition name parent = Sign sign_at ∷ Named (codes "DefineScope") ∷ Sign sign_left_parenthesis
    ∷ Named (codes "name") ∷ Sign sign_assign ∷ Whole name ∷ Sign sign_comma ∷ Named (codes "parent") ∷ Sign sign_assign
    ∷ Whole parent ∷ Sign sign_right_parenthesis ∷ []

-- a type argument with its brackets, which may be missing
unfoldable pub argument_in_brackets : Option ℕ → List Part
argument_in_brackets None = []
argument_in_brackets (Some id) = Sign sign_less ∷ Whole id ∷ Sign sign_greater ∷ []

unfoldable pub brackets : Bool → List Part
brackets false = []
brackets true = Sign sign_left_bracket ∷ Sign sign_right_bracket ∷ []

-- the class behind `extends`, which may be missing
unfoldable pub extended : Option ℕ → List Part
extended None = []
extended (Some id) = Word word_extends ∷ Whole id ∷ []

-- the interfaces behind `implements`, of which there may be none
unfoldable pub implemented : List ℕ → List Part
implemented [] = []
implemented (id ∷ ids) = Word word_implements ∷ Whole id ∷ each_behind_comma ids

-- a value behind `=`, which may be missing
unfoldable pub assigned : Option ℕ → List Part
assigned None = []
assigned (Some id) = Sign sign_assign ∷ Whole id ∷ []

-- the parameters of a declaration, which print their parentheses
unfoldable pub parameters_or_none : Option ℕ → List Part
parameters_or_none None = Sign sign_left_parenthesis ∷ Sign sign_right_parenthesis ∷ []
parameters_or_none (Some id) = Whole id ∷ []

-- the body of a method, or `;`
unfoldable pub body_or_semicolon : Option ℕ → List Part
body_or_semicolon None = Sign sign_semicolon ∷ []
body_or_semicolon (Some id) = Whole id ∷ []

-- the body of a constructor, with the call of the superclass's constructor at its begin
unfoldable pub body_with_call : Option ℕ → ℕ → List Part
body_with_call None body = Whole body ∷ []
body_with_call (Some call) body = Sign sign_left_brace ∷ Whole call ∷ Bare body ∷ []

unfoldable pub alternative : Option ℕ → List Part
alternative None = []
alternative (Some id) = Word word_else ∷ Whole id ∷ []

-- an object and the dot behind it, which may be missing
unfoldable pub object_and_dot : Option ℕ → List Part
object_and_dot None = []
object_and_dot (Some id) = Whole id ∷ Sign sign_dot ∷ []

unfoldable pub in_parentheses : List ℕ → List Part
in_parentheses ids = Sign sign_left_parenthesis ∷ (listed ids ++ Sign sign_right_parenthesis ∷ [])

unfoldable pub sign_if_set : Bool → ℕ → List Part
sign_if_set false sign = []
sign_if_set true sign = Sign sign ∷ []

-- ---- the productions of more than two steps

unfoldable pub class_parts : List ℕ → Option ℕ → Option ℕ → List ℕ → List Part
class_parts name flags header members =
    maybe flags
    ++ ((Word word_class ∷ Named name ∷ [])
    ++ (maybe header ++ ((Sign sign_left_brace ∷ []) ++ (each members ++ Sign sign_right_brace ∷ []))))

-- flags in one order, whichever stood in the source
unfoldable pub flag_parts : Option ℕ → Option ℕ → Option ℕ → Bool → Bool → Bool → List Part
flag_parts define_scope scope runs_in is_static is_abstract is_synchronized = maybe define_scope
    ++ (annotation (codes "Scope") scope
    ++ (annotation (codes "RunsIn") runs_in
    ++ (word_if_set is_static word_static
    ++ (word_if_set is_abstract word_abstract ++ word_if_set is_synchronized word_synchronized))))

unfoldable pub class_type_parts : List ℕ → Option ℕ → Bool → List Part
class_type_parts name argument is_array = (Named name ∷ []) ++ (argument_in_brackets argument ++ brackets is_array)

unfoldable pub field_parts : List ℕ → Option ℕ → ℕ → Option ℕ → List Part
field_parts name flags declared_type value =
    maybe flags ++ ((Whole declared_type ∷ Named name ∷ []) ++ (assigned value ++ Sign sign_semicolon ∷ []))

unfoldable pub method_parts : List ℕ → Option ℕ → ℕ → Option ℕ → Option ℕ → List Part
method_parts name flags result_type parameters body =
    maybe flags ++ ((Whole result_type ∷ Named name ∷ []) ++ (parameters_or_none parameters ++ body_or_semicolon body))

unfoldable pub constructor_parts : List ℕ → Option ℕ → Option ℕ → Option ℕ → ℕ → List Part
constructor_parts name flags parameters super_call body =
    maybe flags ++ ((Named name ∷ []) ++ (parameters_or_none parameters ++ body_with_call super_call body))

unfoldable pub super_call_parts : List ℕ → List Part
super_call_parts arguments = (Word word_super ∷ []) ++ (in_parentheses arguments ++ Sign sign_semicolon ∷ [])

-- the statements of a block and its `}`
unfoldable pub block_end : List ℕ → List Part
block_end statements = each statements ++ Sign sign_right_brace ∷ []

unfoldable pub return_parts : Option ℕ → List Part
return_parts value = (Word word_return ∷ []) ++ (maybe value ++ Sign sign_semicolon ∷ [])

unfoldable pub call_parts : List ℕ → Option ℕ → List ℕ → List Part
call_parts name object arguments = object_and_dot object ++ ((Named name ∷ []) ++ in_parentheses arguments)

-- ---- all productions

-- the parts of a node; an assignment with the `;` that makes it a statement
unfoldable pub parts_of : Node → List Part
parts_of (Class position name flags header members) = class_parts name flags header members
parts_of (Flags position define_scope scope runs_in is_static is_abstract is_synchronized) =
    flag_parts define_scope scope runs_in is_static is_abstract is_synchronized
parts_of (DefineScope position first second parent_first) =
    if parent_first then scope_definition second first else scope_definition first second
parts_of (ScopeName position name) = Quoted name ∷ []
parts_of (Supers position superclass interfaces) = extended superclass ++ implemented interfaces
parts_of (SuperType position name argument) = (Named name ∷ []) ++ argument_in_brackets argument
parts_of (TypeArgument position name) = Named name ∷ []
parts_of (IntType position is_array) = (Word word_int ∷ []) ++ brackets is_array
parts_of (BooleanType position is_array) = (Word word_boolean ∷ []) ++ brackets is_array
parts_of (ClassType position name argument is_array) = class_type_parts name argument is_array
parts_of (VoidType position) = Word word_void ∷ []
parts_of (LongType position) = Word word_long ∷ []
parts_of (Field position name flags declared_type equals value) = field_parts name flags declared_type value
parts_of (Method position name flags result_type parameters body) = method_parts name flags result_type parameters body
parts_of (Constructor position name flags parameters super_call body) =
    constructor_parts name flags parameters super_call body
parts_of (Parameters position list) = in_parentheses list
parts_of (Parameter position name flags declared_type) = maybe flags ++ (Whole declared_type ∷ Named name ∷ [])
parts_of (SuperCall position arguments) = super_call_parts arguments
parts_of (Block position statements) = (Sign sign_left_brace ∷ []) ++ block_end statements
parts_of (Empty position) = Sign sign_semicolon ∷ []
parts_of (Local position name flags declared_type) =
    maybe flags ++ (Whole declared_type ∷ Named name ∷ Sign sign_semicolon ∷ [])
parts_of (LocalWithValue position name_position name flags declared_type value) =
    maybe flags ++ (Whole declared_type ∷ Named name ∷ Sign sign_assign ∷ Whole value ∷ Sign sign_semicolon ∷ [])
parts_of (Assign position target value) = Whole target ∷ Sign sign_assign ∷ Whole value ∷ Sign sign_semicolon ∷ []
parts_of (ExpressionStatement position expression) = Whole expression ∷ Sign sign_semicolon ∷ []
parts_of (If position condition then_part else_part) =
    (Word word_if ∷ Sign sign_left_parenthesis ∷ Whole condition ∷ Sign sign_right_parenthesis ∷ Whole then_part ∷ [])
    ++ alternative else_part
parts_of (While position condition body) = Word word_while ∷ Sign sign_left_parenthesis ∷ Whole condition
    ∷ Sign sign_right_parenthesis ∷ Whole body ∷ []
parts_of (For position first condition step body) = Word word_for ∷ Sign sign_left_parenthesis ∷ Whole first
    ∷ Whole condition ∷ Sign sign_semicolon ∷ Bare step ∷ Sign sign_right_parenthesis ∷ Whole body ∷ []
parts_of (Return position value) = return_parts value
parts_of (Binary position operator left right) = Whole left ∷ Sign operator ∷ Whole right ∷ []
parts_of (Unary position operator operand) = Sign operator ∷ Whole operand ∷ []
parts_of (Cast position name_position name operand) = Sign sign_left_parenthesis ∷ Named name ∷ Sign sign_right_parenthesis
    ∷ Whole operand ∷ []
parts_of (Parenthesized position inner) = Sign sign_left_parenthesis ∷ Whole inner ∷ Sign sign_right_parenthesis ∷ []
parts_of (SimpleName position name) = Named name ∷ []
parts_of (FieldAccess position name object) = Whole object ∷ Sign sign_dot ∷ Named name ∷ []
parts_of (Call position name object arguments) = call_parts name object arguments
parts_of (Element position array index) = Whole array ∷ Sign sign_left_bracket ∷ Whole index ∷ Sign sign_right_bracket ∷ []
parts_of (New position name_position name arguments) = (Word word_new ∷ Named name ∷ []) ++ in_parentheses arguments
parts_of (NewArray position element length) = Word word_new ∷ Whole element ∷ Sign sign_left_bracket ∷ Whole length
    ∷ Sign sign_right_bracket ∷ []
parts_of (Text position text) = []
parts_of (Number position value is_negative) = sign_if_set is_negative sign_minus ++ (Digits value ∷ [])
parts_of (True position) = Word word_true ∷ []
parts_of (False position) = Word word_false ∷ []
parts_of (Null position) = Word word_null ∷ []
parts_of (This position) = Word word_this ∷ []

-- of a block the parts behind its `{`, and of an assignment those before its `;`
unfoldable pub bare_parts : Node → List Part
bare_parts (Block position statements) = block_end statements
bare_parts (Assign position target value) = Whole target ∷ Sign sign_assign ∷ Whole value ∷ []
bare_parts _ = []
