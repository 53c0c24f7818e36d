-- The table of the objects with the places of their fields.
use Rattle.std.specs.Prelude.{◌≡◌, ◌↔◌, ℕ, true, List, [], ◌∷◌, length, replicate, slice_get, Some}
use Rattle.scj_tree.specs.Forest.{Forest}
use Rattle.scj_rules.specs.Contexts.{declarations_of}
use Rattle.object_layout.specs.declared.objects.ObjectRow.{ObjectRow}
use Rattle.object_layout.specs.declared.object_tables.ObjectTable.{ObjectTable}
use Rattle.object_layout.specs.ObjectTables.{AreObjectRows}
use Rattle.object_layout.specs.Slots.{HasIndices, noted}

-- the table in which the places of the fields of these rows are noted
unfoldable pub all_noted : List ℕ → List ObjectRow → List ℕ
all_noted indices [] = indices
all_noted indices (row ∷ rows) = all_noted (noted indices 0 row.fields.items) rows

-- the rows are those of the program, the places are noted from them, and the mark says whether the fields of each row
-- have their places in it
pub record IsObjectTableOf (forest : Forest) (table : ObjectTable) : Type 0 where
  pub rows : AreObjectRows (declarations_of forest) (length (declarations_of forest).classes) table.rows.items
  pub indices : table.indices.items ≡ all_noted (replicate (length forest.nodes) 0) table.rows.items
  pub regular : (table.is_regular ≡ true) ↔
      ((class : ℕ) (row : ObjectRow) → slice_get table.rows.items class ≡ Some row →
      HasIndices table.indices.items row.fields.items)
