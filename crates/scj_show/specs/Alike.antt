-- Trees that are the same but for the places of their nodes. Where a definition of a scope or the flags stand in
-- another order, their nodes have other numbers, so trees are compared and not rows of nodes.
use Rattle.std.specs.Prelude.{◌≡◌, ℕ, true, false, List, [], ◌∷◌, map, Option, Some, None, slice_get}
use Rattle.scj_base.specs.declared.positions.Position.{Position}
use Rattle.scj_tree.specs.declared.nodes.Node.{Node}
use Rattle.scj_tree.specs.declared.nodes.Node.TheVariants.{Class, Flags, DefineScope, ScopeName, Supers, SuperType, TypeArgument, IntType, BooleanType, ClassType, VoidType, LongType, Field, Method, Constructor, Parameters, Parameter, SuperCall, Block, Empty, Local, LocalWithValue, Assign, ExpressionStatement, If, While, For, Return, Binary, Unary, Cast, Parenthesized, SimpleName, FieldAccess, Call, Element, New, NewArray, Text, Number, True, False, Null, This}
use Rattle.scj_tree.specs.Shape.{children}

abbrev pub nowhere : Position
nowhere = record { file = 0; line = 0; col = 0 }

-- that a child is there, and how many children there are
abbrev pub there : Option ℕ → Option ℕ
there None = None
there (Some id) = Some 0

abbrev pub counted : List ℕ → List ℕ
counted ids = map (λ (id : ℕ). 0) ids

-- a node without its places and without the numbers of its children
unfoldable pub shape : Node → Node
shape (Class position name flags header members) = Class nowhere name (there flags) (there header) (counted members)
shape (Flags position define_scope scope runs_in is_static is_abstract is_synchronized) =
    Flags nowhere (there define_scope) (there scope) (there runs_in) is_static is_abstract is_synchronized
shape (DefineScope position first second parent_first) = DefineScope nowhere 0 0 false
shape (ScopeName position name) = ScopeName nowhere name
shape (Supers position superclass interfaces) = Supers nowhere (there superclass) (counted interfaces)
shape (SuperType position name argument) = SuperType nowhere name (there argument)
shape (TypeArgument position name) = TypeArgument nowhere name
shape (IntType position is_array) = IntType nowhere is_array
shape (BooleanType position is_array) = BooleanType nowhere is_array
shape (ClassType position name argument is_array) = ClassType nowhere name (there argument) is_array
shape (VoidType position) = VoidType nowhere
shape (LongType position) = LongType nowhere
shape (Field position name flags declared_type equals value) = Field nowhere name (there flags) 0 None (there value)
shape (Method position name flags result_type parameters body) =
    Method nowhere name (there flags) 0 (there parameters) (there body)
shape (Constructor position name flags parameters super_call body) =
    Constructor nowhere name (there flags) (there parameters) (there super_call) 0
shape (Parameters position list) = Parameters nowhere (counted list)
shape (Parameter position name flags declared_type) = Parameter nowhere name (there flags) 0
shape (SuperCall position arguments) = SuperCall nowhere (counted arguments)
shape (Block position statements) = Block nowhere (counted statements)
shape (Empty position) = Empty nowhere
shape (Local position name flags declared_type) = Local nowhere name (there flags) 0
shape (LocalWithValue position name_position name flags declared_type value) =
    LocalWithValue nowhere nowhere name (there flags) 0 0
shape (Assign position target value) = Assign nowhere 0 0
shape (ExpressionStatement position expression) = ExpressionStatement nowhere 0
shape (If position condition then_part else_part) = If nowhere 0 0 (there else_part)
shape (While position condition body) = While nowhere 0 0
shape (For position first condition step body) = For nowhere 0 0 0 0
shape (Return position value) = Return nowhere (there value)
shape (Binary position operator left right) = Binary nowhere operator 0 0
shape (Unary position operator operand) = Unary nowhere operator 0
shape (Cast position name_position name operand) = Cast nowhere nowhere name 0
shape (Parenthesized position inner) = Parenthesized nowhere 0
shape (SimpleName position name) = SimpleName nowhere name
shape (FieldAccess position name object) = FieldAccess nowhere name 0
shape (Call position name object arguments) = Call nowhere name (there object) (counted arguments)
shape (Element position array index) = Element nowhere 0 0
shape (New position name_position name arguments) = New nowhere nowhere name (counted arguments)
shape (NewArray position element length) = NewArray nowhere 0 0
shape (Text position text) = Text nowhere text
shape (Number position value is_negative) = Number nowhere value is_negative
shape (True position) = True nowhere
shape (False position) = False nowhere
shape (Null position) = Null nowhere
shape (This position) = This nowhere

-- the children of a node, of a scope's definition the name first
unfoldable pub in_order : Node → List ℕ
in_order (DefineScope position first second true) = second ∷ first ∷ []
in_order node = children node

mutual
  -- the node x among N and the node y among M are the same, and so are their children in order
  pub data Alike (N M : List Node) : ℕ → ℕ → Type 0 where
    alike : {x y : ℕ} {a b : Node} → slice_get N x ≡ Some a → slice_get M y ≡ Some b → shape a ≡ shape b →
        AllAlike N M (in_order a) (in_order b) → Alike N M x y

  pub data AllAlike (N M : List Node) : List ℕ → List ℕ → Type 0 where
    none_alike : AllAlike N M [] []
    one_alike : {x y : ℕ} {xs ys : List ℕ} → Alike N M x y → AllAlike N M xs ys → AllAlike N M (x ∷ xs) (y ∷ ys)
