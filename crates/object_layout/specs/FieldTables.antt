-- What the table of the fields holds.
use Rattle.std.specs.Prelude.{◌≡◌, ℕ, List, Option, map}
use Rattle.scj_tree.specs.Forest.{Forest}
use Rattle.scj_rules.specs.Contexts.{Declarations, declarations_of}
use Rattle.scj_rules.specs.Layout.{declared_fields, static_fields, index_among}
use Rattle.scj_rules.specs.declared.views.Declared.{Declared}
use Rattle.object_layout.specs.Fields.{static_row}
use Rattle.object_layout.specs.declared.field_tables.FieldTable.{FieldTable}

-- the place of each field among all statics
unfoldable pub indices_among_statics : Declarations → List (Option ℕ)
indices_among_statics p = map (λ (f : Declared). index_among (static_fields p) f) (declared_fields p)

-- the columns have at the number of each field what is said of it
pub record IsFieldTableOf (forest : Forest) (table : FieldTable) : Type 0 where
  pub static_indices : table.static_indices.items ≡ indices_among_statics (declarations_of forest)
  pub statics : table.statics.items ≡ map (static_row forest.nodes) (static_fields (declarations_of forest))
