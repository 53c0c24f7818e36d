-- What the kind of a node tells of what it declares.
use Rattle.std.proofs.Common.{◌≡◌, ℕ, List, Option, Some, None, is_some, option_map, option_and_then, slice_get, refl}
use Rattle.scj_tree.specs.declared.nodes.Node.{Node}
use Rattle.scj_tree.specs.declared.nodes.Node.TheVariants.{Parameter, Field, Method}
use Rattle.scj_tree.specs.Kinds.{kind_of}
use Rattle.scj_rules.specs.Views.{variable_at, variable_of, field_at, field_of, method_at, method_of}
use Rattle.node_views.specs.Kinds.{is_variable_kind, is_field_kind, is_method_kind}

pub variable_kind : (nodes : List Node) (id : ℕ) →
    is_some (variable_at nodes id) ≡ is_variable_kind (option_map kind_of (slice_get nodes id))
unfolding variable_of kind_of is_variable_kind
variable_kind nodes id = go (slice_get nodes id)
  where
    go : (o : Option Node) → is_some (option_and_then (variable_of nodes id) o) ≡ is_variable_kind
        (option_map kind_of o)
    go None = refl
    go (Some (Parameter position name flags declared_type)) = refl
    go (Some _) = refl

pub field_kind : (nodes : List Node) (id : ℕ) →
    is_some (field_at nodes id) ≡ is_field_kind (option_map kind_of (slice_get nodes id))
unfolding field_of kind_of is_field_kind
field_kind nodes id = go (slice_get nodes id)
  where
    go : (o : Option Node) → is_some (option_and_then (field_of nodes id) o) ≡ is_field_kind (option_map kind_of o)
    go None = refl
    go (Some (Field position name flags declared_type equals value)) = refl
    go (Some _) = refl

pub method_kind : (nodes : List Node) (id : ℕ) →
    is_some (method_at nodes id) ≡ is_method_kind (option_map kind_of (slice_get nodes id))
unfolding method_of kind_of is_method_kind
method_kind nodes id = go (slice_get nodes id)
  where
    go : (o : Option Node) → is_some (option_and_then (method_of nodes id) o) ≡ is_method_kind (option_map kind_of o)
    go None = refl
    go (Some (Method position name flags result_type parameters body)) = refl
    go (Some _) = refl
