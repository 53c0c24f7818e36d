-- What the table of the objects holds.
use Rattle.std.specs.Prelude.{◌≡◌, ℕ, ◌+◌, ◌==◌, List, length, map, position, slice_get, Option, Some, option_map}
use Rattle.scj_tree.specs.Recursion.{listed}
use Rattle.scj_rules.specs.Classes.{own_instance_fields, instance_fields, hidden_fields}
use Rattle.scj_rules.specs.Contexts.{Declarations}
use Rattle.scj_rules.specs.Layout.{slots, fields_with_literal}
use Rattle.scj_rules.specs.declared.views.Declared.{Declared}
use Rattle.scj_rules.specs.declared.views.SlotKind.{SlotKind}
use Rattle.object_layout.specs.Fields.{kind_of_field}
use Rattle.object_layout.specs.declared.objects.ObjectRow.{ObjectRow}

abbrev pub nodes_of_fields : List Declared → List ℕ
nodes_of_fields fields = map (λ (f : Declared). f.node) fields

-- the nodes of the instance fields that a class itself declares, and of all that its objects have
unfoldable pub own_nodes : Declarations → ℕ → List ℕ
own_nodes p class = nodes_of_fields (own_instance_fields p.classes class)

unfoldable pub instance_nodes : Declarations → ℕ → List ℕ
instance_nodes p class = nodes_of_fields (instance_fields p.classes class)

-- what these hold
unfoldable pub instance_kinds : Declarations → ℕ → List SlotKind
instance_kinds p class = map kind_of_field (instance_fields p.classes class)

-- the nodes of the instance fields that a class itself declares with a literal
unfoldable pub literal_nodes : Declarations → ℕ → List ℕ
literal_nodes p class = nodes_of_fields (fields_with_literal p class)

-- the slot of the field at a node in the objects of a class
unfoldable pub slot_of_node : Declarations → ℕ → ℕ → Option ℕ
slot_of_node p class node =
    option_map (λ k. hidden_fields p.classes class + k) (position (λ other. node == other) (instance_nodes p class))

-- the own fields of each class, at its number
unfoldable pub all_own_nodes : Declarations → List (List ℕ)
all_own_nodes p = listed (own_nodes p) (length p.classes)

-- the row tells what the objects of a class have
pub record IsObjectRowOf (p : Declarations) (class : ℕ) (row : ObjectRow) : Type 0 where
  pub hidden : row.hidden ≡ hidden_fields p.classes class
  pub slots : row.slots ≡ slots p class
  pub fields : row.fields.items ≡ instance_nodes p class
  pub kinds : row.kinds.items ≡ instance_kinds p class
  pub literals : row.literals.items ≡ literal_nodes p class

-- the rows from the first class on tell that
pub record AreObjectRows (p : Declarations) (count : ℕ) (rows : List ObjectRow) : Type 0 where
  pub whole : length rows ≡ count
  pub each : (class : ℕ) (row : ObjectRow) → slice_get rows class ≡ Some row → IsObjectRowOf p class row
