-- The values with which something begins have 32 bits: literals, defaults, new objects and arrays, and new frames.
use Rattle.std.proofs.Common.{◌≡◌, ℕ, zero, suc, ◌≤◌, ◌<◌, All, Bool, true, false, FitsSigned, List, [], ◌∷◌, pos, Option, Some, None, if◌then◌else◌, refl, subst, arith}
use Rattle.std.specs.Prelude.{map, neg_ℤ, slice_get}
use Rattle.std.specs.Int.{w32}
use Rattle.std.proofs.lemmas.List.Elements.{All-append, All-cons, All-from_recursion, All-nil, All-replicate}
use Rattle.scj_base.specs.declared.values.Value.{Value}
use Rattle.scj_base.specs.declared.values.Value.TheVariants.{Int, Bool as Truth, Null}
use Rattle.scj_base.specs.Lexeme.{greatest_number}
use Rattle.scj_builtins.specs.Framework.{periodic_handler, aperiodic_handler}
use Rattle.scj_tree.specs.declared.nodes.Node.{Node}
use Rattle.scj_tree.specs.declared.nodes.Node.TheVariants.{Number, True, False, Null as NullNode}
use Rattle.scj_rules.specs.declared.views.Body.{Body}
use Rattle.scj_rules.specs.declared.views.Declared.{Declared}
use Rattle.scj_rules.specs.declared.views.SlotKind.{SlotKind}
use Rattle.scj_rules.specs.declared.views.SlotKind.TheVariants.{Number as NumberSlot, Truth as TruthSlot, Reference as ReferenceSlot}
use Rattle.scj_rules.specs.Classes.{superclasses, instance_fields}
use Rattle.scj_rules.specs.Contexts.{Declarations}
use Rattle.scj_rules.specs.Definitions.{read}
use Rattle.scj_rules.specs.Layout.{kind_of_type}
use Rattle.scj_rules.specs.Words.{is_among, ◌>>=◌}
use Rattle.accepted_laws.proofs.Tools.{some_inj}
use Rattle.scj_model.specs.Memory.{literal_value, default_value, hidden_values, new_slots, new_elements}
use Rattle.scj_model.specs.Effects.{new_frame}
use Rattle.value_operators.specs.Literals.{HasInt}
use Rattle.int_values.specs.Ints.{FitsInt, FrameFits, HasInts}

-- ---- literals

positive : (n : ℕ) → n < greatest_number → FitsSigned w32 (pos n)
positive n l = record { sfits = omega (arith, l) }

negative : (n : ℕ) → n ≤ greatest_number → FitsSigned w32 (neg_ℤ (pos n))
negative zero l = record { sfits = omega arith }
negative (suc n) l = record { sfits = omega (arith, l) }

literal_fits : (node : Node) (value : Value) → HasInt node → literal_value node ≡ Some value → FitsInt value
unfolding literal_value HasInt
literal_fits (Number position n true) value h e = subst FitsInt (some_inj (Int (neg_ℤ (pos n))) value e) (negative n h)
literal_fits (Number position n false) value h e = subst FitsInt (some_inj (Int (pos n)) value e) (positive n h)
literal_fits (True position) value h e = subst FitsInt (some_inj (Truth true) value e) tt
literal_fits (False position) value h e = subst FitsInt (some_inj (Truth false) value e) tt
literal_fits (NullNode position) value h e = subst FitsInt (some_inj Null value e) tt
literal_fits _ value h e = absurd (cc (e))

pub node_fits : (nodes : List Node) → HasInts nodes → (id : ℕ) (value : Value) →
    read nodes literal_value id ≡ Some value → FitsInt value
node_fits nodes ints id value e = go (slice_get nodes id) refl e
  where
    go : (o : Option Node) → slice_get nodes id ≡ o → o >>= literal_value ≡ Some value → FitsInt value
    go None f g = absurd (cc (g))
    go (Some node) f g = literal_fits node value (ints id node f) g

pub written_fits : (nodes : List Node) → HasInts nodes → (o : Option ℕ) (value : Value) →
    o >>= read nodes literal_value ≡ Some value → FitsInt value
written_fits nodes ints None value e = absurd (cc (e))
written_fits nodes ints (Some id) value e = node_fits nodes ints id value e

-- ---- new objects and arrays

pub default_fits : (kind : SlotKind) → FitsInt (default_value kind)
unfolding default_value
default_fits NumberSlot = record { sfits = omega arith }
default_fits TruthSlot = tt
default_fits ReferenceSlot = tt

hidden_fit : (p : Declarations) (class : ℕ) → All FitsInt (hidden_values p class)
unfolding hidden_values
hidden_fit p class =
    go (is_among periodic_handler (superclasses p.classes class))
    (is_among aperiodic_handler (superclasses p.classes class))
  where
    one : FitsSigned w32 (pos 1)
    one = record { sfits = omega arith }

    none : FitsSigned w32 (pos 0)
    none = record { sfits = omega arith }

    go : (t u : Bool) → All FitsInt (if t then Int (pos 1) ∷ Int (pos 0) ∷ Int (pos 0) ∷ Int (pos 1) ∷ []
        else (if u then Int (pos 1) ∷ Int (pos 0) ∷ [] else []))
    go true u =
        All-from_recursion FitsInt (Int (pos 1) ∷ Int (pos 0) ∷ Int (pos 0) ∷ Int (pos 1) ∷ [])
        (one, (none, (none, (one, tt))))
    go false true = All-from_recursion FitsInt (Int (pos 1) ∷ Int (pos 0) ∷ []) (one, (none, tt))
    go false false = All-nil FitsInt

fields_fit : (fs : List Declared) →
    All FitsInt (map (λ (f : Declared). default_value (kind_of_type f.declared_type)) fs)
fields_fit [] = All-nil FitsInt
fields_fit (f ∷ fs) = All-cons FitsInt _ _ (default_fits (kind_of_type f.declared_type)) (fields_fit fs)

pub slots_fit : (p : Declarations) (class : ℕ) → All FitsInt (new_slots p class)
unfolding new_slots
slots_fit p class =
    All-append FitsInt (hidden_values p class) _ (hidden_fit p class) (fields_fit (instance_fields p.classes class))

pub elements_fit : (kind : SlotKind) (count : ℕ) → All FitsInt (new_elements kind count)
elements_fit kind count = All-replicate FitsInt count (default_value kind) (default_fits kind)

-- ---- new frames

pub frame_begins : (code : _) (body : Body) (called_at this : Option ℕ) (area : ℕ) (args : List Value) →
    All FitsInt args → FrameFits (new_frame code body called_at this area args)
unfolding new_frame
frame_begins code body called_at this area args h =
    record { locals = All-append FitsInt args _ h (All-replicate FitsInt _ Null tt); operands = All-nil FitsInt }
