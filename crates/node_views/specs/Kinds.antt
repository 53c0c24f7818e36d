-- What the kind of a node tells of what it declares.
use Rattle.std.specs.Prelude.{Bool, true, false, Option, Some}
use Rattle.scj_tree.specs.declared.kinds.NodeKind.{NodeKind}
use Rattle.scj_tree.specs.declared.kinds.NodeKind.TheVariants.{Parameter, Local, LocalWithValue, Field, Method}

-- a parameter or a local
unfoldable pub is_variable_kind : Option NodeKind → Bool
is_variable_kind (Some Parameter) = true
is_variable_kind (Some Local) = true
is_variable_kind (Some LocalWithValue) = true
is_variable_kind _ = false

unfoldable pub is_field_kind : Option NodeKind → Bool
is_field_kind (Some Field) = true
is_field_kind _ = false

unfoldable pub is_method_kind : Option NodeKind → Bool
is_method_kind (Some Method) = true
is_method_kind _ = false
