-- What the kind of a node tells of what it stands for.
use Rattle.std.specs.Prelude.{Bool, true, false, Option, Some}
use Rattle.scj_tree.specs.declared.kinds.NodeKind.{NodeKind}
use Rattle.scj_tree.specs.declared.kinds.NodeKind.TheVariants.{Class, Field, Constructor, Parameter, SuperCall, Local, LocalWithValue, Cast, SimpleName, FieldAccess, Call, New, NewArray}

-- nodes of the kind may stand for something else than themselves
unfoldable pub is_bound_kind : Option NodeKind → Bool
is_bound_kind (Some Class) = true
is_bound_kind (Some Field) = true
is_bound_kind (Some Constructor) = true
is_bound_kind (Some Parameter) = true
is_bound_kind (Some SuperCall) = true
is_bound_kind (Some Local) = true
is_bound_kind (Some LocalWithValue) = true
is_bound_kind (Some Cast) = true
is_bound_kind (Some SimpleName) = true
is_bound_kind (Some FieldAccess) = true
is_bound_kind (Some Call) = true
is_bound_kind (Some New) = true
is_bound_kind (Some NewArray) = true
is_bound_kind _ = false
