-- What slots hold: those of the objects of a class, the elements of arrays, and the static fields.
use Rattle.std.specs.Prelude.{◌≡◌, ℕ, ◌<◌, ◌-◌, nat_lt, true, length, slice_get, Option, Some, None, if◌then◌else◌, option_map}
use Rattle.scj_tree.specs.declared.nodes.Node.{Node}
use Rattle.scj_tree.specs.declared.nodes.Node.TheVariants.{Number, True, False, Null}
use Rattle.scj_rules.specs.declared.typing.Ty.{Ty}
use Rattle.scj_rules.specs.declared.typing.Ty.TheVariants.{NullTy, Class as ClassTy, IntArray, BoolArray, ClassArray}
use Rattle.scj_rules.specs.declared.typing.Scope.TheVariants.{Any, This, In}
use Rattle.scj_rules.specs.declared.views.SlotKind.{SlotKind}
use Rattle.scj_rules.specs.declared.views.SlotKind.TheVariants.{Number as NumberSlot, Truth as TruthSlot, Reference as ReferenceSlot}
use Rattle.scj_rules.specs.Words.{◌>>=◌}
use Rattle.scj_rules.specs.Classes.{is_sub, hidden_fields, instance_fields}
use Rattle.scj_rules.specs.Contexts.{Declarations}
use Rattle.scj_rules.specs.Layout.{slots, slot_of, element_kind, class_of_elements, static_fields, static_index}
use Rattle.scj_rules.specs.ScopeRules.{immortal_scope}
use Rattle.scj_rules.specs.StaticScopes.{this_in}
use Rattle.accepted_laws.specs.Kinds.{Kind, number, truth, yes, reference, fresh, kind_of_field}

-- ---- arrays

-- the type of the arrays of a class, by what their elements hold; none of a class that is no array's
unfoldable pub array_type_by : Declarations → ℕ → SlotKind → Option Ty
array_type_by p class NumberSlot = Some IntArray
array_type_by p class TruthSlot = Some BoolArray
array_type_by p class ReferenceSlot = option_map (λ c. ClassArray c) (class_of_elements p class)

unfoldable pub array_type : Declarations → ℕ → Option Ty
array_type p class = element_kind p class >>= array_type_by p class

-- the kind of the elements of an array of this type, with the array's scope as THIS
unfoldable pub kind_of_elements : Declarations → Ty → Option Kind
kind_of_elements p IntArray = Some number
kind_of_elements p BoolArray = Some truth
kind_of_elements p (ClassArray class) = option_map (λ s. reference (ClassTy class) s) (this_in p class)
kind_of_elements p _ = None

-- ---- the slots of an object, and the elements of an array

-- of an object: the hidden fields of a handler are numbers
unfoldable pub kind_of_own_slot : Declarations → ℕ → ℕ → Option Kind
kind_of_own_slot p class slot =
    if nat_lt slot (hidden_fields p.classes class) then Some number
    else (slice_get (instance_fields p.classes class) (slot - hidden_fields p.classes class) >>= kind_of_field p)

unfoldable pub kind_of_slot : Declarations → ℕ → ℕ → Option Kind
kind_of_slot p class slot =
    elim (array_type p class) [ None ↦ kind_of_own_slot p class slot | Some t ↦ kind_of_elements p t ]

-- the scopes that slots have: THIS, or a named one
unfoldable pub IsSlotKind : Kind → Type 0
IsSlotKind (reference t This) = Unit {0}
IsSlotKind (reference t (In n)) = Unit {0}
IsSlotKind (reference t _) = ⊥
IsSlotKind (fresh c s) = ⊥
IsSlotKind _ = Unit {0}

-- the slot of a field in the objects of a class
pub record HasSlot (p : Declarations) (field class : ℕ) (kind : Kind) : Type 0 where
  pub is_no_array : array_type p class ≡ None
  pub slot : ℕ
  pub is : slot_of p class field ≡ Some slot
  pub within : slot < slots p class
  pub holds : kind_of_slot p class slot ≡ Some kind

-- each object of the class and of the classes under it has a slot of the field, of one kind
pub record HasField (p : Declarations) (class field : ℕ) : Type 0 where
  pub kind : Kind
  pub is_slot_kind : IsSlotKind kind
  pub each : (c : ℕ) → c < length p.classes → is_sub p.classes c class ≡ true → HasSlot p field c kind

-- ---- static fields

-- a reference in a static field lies in immortal memory
unfoldable pub IsImmortal : Kind → Type 0
IsImmortal (reference t (In n)) = n ≡ immortal_scope
IsImmortal (reference t _) = ⊥
IsImmortal (fresh c s) = ⊥
IsImmortal _ = Unit {0}

unfoldable pub kind_of_static : Declarations → ℕ → Option Kind
kind_of_static p index = slice_get (static_fields p) index >>= kind_of_field p

pub record HasStatic (p : Declarations) (field : ℕ) : Type 0 where
  pub index : ℕ
  pub is : static_index p field ≡ Some index
  pub kind : Kind
  pub holds : kind_of_static p index ≡ Some kind
  pub is_immortal : IsImmortal kind

-- ---- types of objects

-- an object or array of this class is of a type
unfoldable pub IsOfType : Declarations → ℕ → Ty → Type 0
IsOfType p class (ClassTy c) = (class < length p.classes) × (is_sub p.classes class c ≡ true)
IsOfType p class IntArray = array_type p class ≡ Some IntArray
IsOfType p class BoolArray = array_type p class ≡ Some BoolArray
IsOfType p class (ClassArray c) = array_type p class ≡ Some (ClassArray c)
IsOfType p class _ = ⊥

-- ---- literals

unfoldable pub kind_of_literal : Node → Option Kind
kind_of_literal (Number position value is_negative) = Some number
kind_of_literal (True position) = Some yes
kind_of_literal (False position) = Some truth
kind_of_literal (Null position) = Some (reference NullTy Any)
kind_of_literal _ = None
