-- The field for which a short row stands.
use Rattle.std.specs.Prelude.{ℕ, List, [], unwrap_or}
use Rattle.scj_tree.specs.declared.nodes.Node.{Node}
use Rattle.scj_rules.specs.declared.views.Declared.{Declared}
use Rattle.scj_rules.specs.declared.views.WrittenType.TheVariants.{Void as void_type}
use Rattle.scj_rules.specs.declared.typing.FoundField.{FoundField}
use Rattle.scj_rules.specs.Views.{nowhere, no_modifiers, field_at}
use Rattle.class_rows.specs.declared.fields.FieldRef.{FieldRef}

-- a field that stands for none, at a node
abbrev pub no_field : ℕ → Declared
no_field node = record { node = node; position = nowhere; name = []; modifiers = no_modifiers; declared_type = void_type }

-- the field that a row stands for, with the class that declares it
unfoldable pub found_field : List Node → FieldRef → FoundField
found_field nodes f = record { on = f.on; field = unwrap_or (field_at nodes f.node) (no_field f.node) }
