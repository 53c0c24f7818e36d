-- What an operation may rest on: the numbers of literals, of objects, of static fields and of ports have 32 bits.
use Rattle.std.proofs.Common.{◌≡◌, ℕ, ◌+◌, ◌≤◌, All, FitsSigned, List, ◌∷◌, pos, Option, Some, None, subst, arith}
use Rattle.std.specs.Prelude.{option_map, slice_get}
use Rattle.std.specs.Int.{w32}
use Rattle.std.proofs.lemmas.Option.{get_or_from_slice_get, slice_get_within}
use Rattle.scj_rules.specs.declared.typing.Ty.{Ty}
use Rattle.scj_rules.specs.declared.views.Declared.{Declared}
use Rattle.scj_rules.specs.Classes.{hidden_fields, instance_fields}
use Rattle.scj_rules.specs.Contexts.{Declarations}
use Rattle.scj_rules.specs.Layout.{field_numbered, index_among, slot_of}
use Rattle.scj_rules.specs.Words.{◌>>=◌}
use Rattle.scj_base.specs.declared.values.Value.{Value}
use Rattle.scj_base.specs.declared.values.Value.TheVariants.{At}
use Rattle.accepted_laws.proofs.Tools.{some_inj}
use Rattle.scj_model.specs.Code.{Code}
use Rattle.scj_model.specs.Operations.{Environment}
use Rattle.scj_model.specs.State.{Object, Frame}
use Rattle.scope_flow.specs.Slots.{array_type}
use Rattle.int_values.specs.Ints.{FitsInt, HasInts, ObjectFits}

pub record Known (code : Code) (world : Environment) : Type 0 where
  pub nodes : HasInts code.program.nodes
  pub objects : (r : ℕ) (o : Object) → world.object_at r ≡ Some o → ObjectFits code.program o
  pub statics : All FitsInt world.statics
  pub reading : (port : ℕ) → FitsSigned w32 (world.reading port)

-- the operand under the last one refers to an array
abbrev pub TakesElement : Code → Environment → Frame → Type 0
TakesElement code world f =
    (index : Value) (r : ℕ) (below : List Value) (o : Object) → f.operands ≡ index ∷ At r ∷ below →
    world.object_at r ≡ Some o → (t : Ty) × (array_type code.program o.class ≡ Some t)

pub all_at : {A : Type 0} (P : A → Type 0) (xs : List A) (i : ℕ) (x : A) → All P xs → slice_get xs i ≡ Some x → P x
all_at P xs i x h e = subst P (get_or_from_slice_get xs i x x e) (h i x (slice_get_within xs i x e))

pub length_fits : (n : ℕ) → n ≤ 67108864 → FitsSigned w32 (pos n)
length_fits n l = record { sfits = omega (arith, l) }

-- the slot of a field stands behind the hidden ones
pub slot_is_behind : (p : Declarations) (class field slot : ℕ) → slot_of p class field ≡ Some slot →
    hidden_fields p.classes class ≤ slot
unfolding slot_of
slot_is_behind p class field slot e = go (field_numbered p field) e
  where
    counted : (o : Option ℕ) → option_map (λ k. hidden_fields p.classes class + k) o ≡ Some slot →
        hidden_fields p.classes class ≤ slot
    counted None g = absurd (cc (g))
    counted (Some k) g =
        let s : hidden_fields p.classes class + k ≡ slot = some_inj (hidden_fields p.classes class + k) slot g in
        omega (arith, s)

    go : (o : Option Declared) →
        o >>= (λ (f : Declared). option_map (λ k. hidden_fields p.classes class + k)
        (index_among (instance_fields p.classes class) f)) ≡ Some slot →
        hidden_fields p.classes class ≤ slot
    go None g = absurd (cc (g))
    go (Some f) g = counted (index_among (instance_fields p.classes class) f) g
