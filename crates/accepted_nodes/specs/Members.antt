-- Fields and methods in the objects and classes of an accepted program.
use Rattle.std.specs.Prelude.{◌≡◌, ◌+◌, ℕ, Some, slice_get}
use Rattle.scj_rules.specs.declared.views.Declared.{Declared}
use Rattle.scj_rules.specs.Classes.{field_number, instance_fields, hidden_fields}
use Rattle.scj_rules.specs.Contexts.{Declarations}
use Rattle.scj_rules.specs.Layout.{field_numbered, slot_of}

-- the field has a number, which is its own
pub record HasNumber (p : Declarations) (field : Declared) : Type 0 where
  pub number : ℕ
  pub is : field_number p.classes field.node ≡ Some number
  pub numbers : field_numbered p number ≡ Some field

-- each object of the class has a slot for the field of a number: it stands behind the hidden fields, at the place that the
-- field has among the instance fields of the class
pub record HasSlot (p : Declarations) (class : ℕ) (number : ℕ) (field : Declared) : Type 0 where
  pub index : ℕ
  pub slot : slot_of p class number ≡ Some (hidden_fields p.classes class + index)
  pub declares : slice_get (instance_fields p.classes class) index ≡ Some field
