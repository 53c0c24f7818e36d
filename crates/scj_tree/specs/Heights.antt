-- How deep the statements and expressions of a body nest, and which body is too deep.
use Rattle.std.specs.Prelude.{ℕ, ◌+◌, max, List, [], ◌∷◌, length, drop, Option, Some, None, slice_get, nat_lt, if◌then◌else◌}
use Rattle.scj_base.specs.declared.positions.Position.{Position}
use Rattle.scj_tree.specs.declared.nodes.Node.{Node}
use Rattle.scj_tree.specs.declared.nodes.Node.TheVariants.{Method, Constructor, Block, Empty, Local, LocalWithValue, Assign, ExpressionStatement, If, While, For, Return, Binary, Unary, Cast, Parenthesized, SimpleName, FieldAccess, Call, Element, New, NewArray, Number, True, False, Null, This}
use Rattle.scj_tree.specs.Recursion.{by_smaller}
use Rattle.scj_tree.specs.Shape.{position_of, children}

-- ---- heights

-- statements and expressions count, a text does not; nor do flags, types and the call of a superclass's constructor
unfoldable pub weight : Node → ℕ
weight (Block position statements) = 1
weight (Empty position) = 1
weight (Local position name flags declared_type) = 1
weight (LocalWithValue position name_position name flags declared_type value) = 1
weight (Assign position target value) = 1
weight (ExpressionStatement position expression) = 1
weight (If position condition then_part else_part) = 1
weight (While position condition body) = 1
weight (For position first condition step body) = 1
weight (Return position value) = 1
weight (Binary position operator left right) = 1
weight (Unary position operator operand) = 1
weight (Cast position name_position name operand) = 1
weight (Parenthesized position inner) = 1
weight (SimpleName position name) = 1
weight (FieldAccess position name object) = 1
weight (Call position name object arguments) = 1
weight (Element position array index) = 1
weight (New position name_position name arguments) = 1
weight (NewArray position element length) = 1
weight (Number position value is_negative) = 1
weight (True position) = 1
weight (False position) = 1
weight (Null position) = 1
weight (This position) = 1
weight _ = 0

-- the greatest of what a list of nodes gives
unfoldable pub highest : (ℕ → ℕ) → List ℕ → ℕ
highest g [] = 0
highest g (x ∷ xs) = max (g x) (highest g xs)

-- of a node, from what its children give
unfoldable pub node_height : Option Node → (ℕ → ℕ) → ℕ
node_height None sub = 0
node_height (Some node) sub = weight node + highest sub (children node)

-- how many counted nodes stand one under the other, from a node down
unfoldable pub height : List Node → ℕ → ℕ
height nodes = by_smaller 0 (λ n sub. node_height (slice_get nodes n) sub)

-- of a body; the arguments of a superclass's constructor stand directly under its block
unfoldable pub super_height : List Node → Option ℕ → ℕ
super_height nodes None = 0
super_height nodes (Some id) = 1 + height nodes id

unfoldable pub body_height : List Node → Node → ℕ
body_height nodes (Method position name flags result_type parameters (Some body)) = height nodes body
body_height nodes (Constructor position name flags parameters super_call body) =
    max (height nodes body) (super_height nodes super_call)
body_height nodes _ = 0

-- P2, too deep: the name of the first method or constructor among some of the nodes whose body is higher than 64
unfoldable pub first_too_deep : List Node → List Node → Option Position
first_too_deep nodes [] = None
first_too_deep nodes (node ∷ more) =
    if nat_lt 64 (body_height nodes node) then Some (position_of node) else first_too_deep nodes more

-- in a file that was read from the first n nodes on
unfoldable pub too_deep : ℕ → List Node → Option Position
too_deep n nodes = first_too_deep nodes (drop n nodes)
