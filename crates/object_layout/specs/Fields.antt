-- What is read of a field at its node.
use Rattle.std.specs.Prelude.{ℕ, Bool, not, List, Option, Some, None, option_map, option_and_then, if◌then◌else◌}
use Rattle.scj_tree.specs.declared.nodes.Node.{Node}
use Rattle.scj_rules.specs.Definitions.{read}
use Rattle.scj_rules.specs.Words.{holds}
use Rattle.scj_rules.specs.Views.{field_at}
use Rattle.scj_rules.specs.Layout.{kind_of_type, literal_written}
use Rattle.scj_rules.specs.declared.views.Declared.{Declared}
use Rattle.scj_rules.specs.declared.views.SlotKind.{SlotKind}
use Rattle.object_layout.specs.declared.fields.StaticField.{StaticField}

-- what a field holds
abbrev pub kind_of_field : Declared → SlotKind
kind_of_field f = kind_of_type f.declared_type

unfoldable pub kind_at : List Node → ℕ → Option SlotKind
kind_at nodes id = option_map kind_of_field (field_at nodes id)

-- a static field, as far as it is asked for before a run
unfoldable pub static_row : List Node → Declared → StaticField
static_row nodes f =
    record { node = f.node; kind = kind_of_type f.declared_type; literal = read nodes literal_written f.node }

unfoldable pub static_at : List Node → ℕ → Option StaticField
static_at nodes id =
    option_and_then
    (λ (f : Declared). if f.modifiers.is_static then Some (static_row nodes f) else None)
    (field_at nodes id)

-- the node declares a static field, or one that is not static
abbrev pub is_static_at : List Node → ℕ → Bool
is_static_at nodes id = holds (field_at nodes id) (λ (f : Declared). f.modifiers.is_static)

abbrev pub is_instance_at : List Node → ℕ → Bool
is_instance_at nodes id = holds (field_at nodes id) (λ (f : Declared). not f.modifiers.is_static)
