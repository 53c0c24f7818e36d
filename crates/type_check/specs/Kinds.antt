-- What the kind of a node tells of its type.
use Rattle.std.specs.Prelude.{Bool, true, false, Option, Some, None}
use Rattle.scj_tree.specs.declared.kinds.NodeKind.{NodeKind}
use Rattle.scj_tree.specs.declared.kinds.NodeKind.TheVariants.{Flags, IntType, BooleanType, ClassType, Parameters, Block, ExpressionStatement, Number, True, False}
use Rattle.scj_tree.specs.declared.nodes.Node.{Node}
use Rattle.scj_tree.specs.declared.nodes.Node.TheVariants.{Class, Field, Method, LocalWithValue, SuperCall, Cast, Parenthesized, This, New, NewArray}
use Rattle.scj_rules.specs.declared.typing.Ty.{Ty}
use Rattle.scj_rules.specs.declared.typing.Ty.TheVariants.{Int, Bool as Boolean}

-- the type of each node of a frequent kind whose nodes break no rule, if one has any
unfoldable pub type_of_kind : Option NodeKind → Option (Option Ty)
type_of_kind (Some Number) = Some (Some Int)
type_of_kind (Some True) = Some (Some Boolean)
type_of_kind (Some False) = Some (Some Boolean)
type_of_kind (Some Flags) = Some None
type_of_kind (Some Parameters) = Some None
type_of_kind (Some Block) = Some None
type_of_kind (Some ExpressionStatement) = Some None
type_of_kind (Some IntType) = Some None
type_of_kind (Some BooleanType) = Some None
type_of_kind (Some ClassType) = Some None
type_of_kind _ = None

-- classes, their members, and what else may break two rules
unfoldable pub is_declaration : Node → Bool
is_declaration (Class position name flags header members) = true
is_declaration (Field position name flags declared_type equals value) = true
is_declaration (Method position name flags result_type parameters body) = true
is_declaration (LocalWithValue position name_position name flags declared_type value) = true
is_declaration (SuperCall position arguments) = true
is_declaration _ = false

-- expressions that are seldom written
unfoldable pub is_seldom : Node → Bool
is_seldom (Cast position name_position name operand) = true
is_seldom (Parenthesized position inner) = true
is_seldom (New position name_position name arguments) = true
is_seldom (NewArray position element length) = true
is_seldom (This position) = true
is_seldom _ = false
