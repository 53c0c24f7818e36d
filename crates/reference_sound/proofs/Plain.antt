-- Values that are no references: those of literals, and those with which locals and slots begin. And references at
-- places of a list.
use Rattle.std.specs.Prelude.{slice_get, Option, Some, None, map, if◌then◌else◌, pos}
use Rattle.std.proofs.Common.{◌≡◌, ℕ, zero, suc, List, [], ◌∷◌, Bool, true, false, subst}
use Rattle.std.proofs.lemmas.List.Elements.{All-nil, All-cons, All-head, All-tail, All-append, All-replicate, All-weaker, All-from_recursion}
use Rattle.scj_base.specs.declared.values.Value.{Value}
use Rattle.scj_base.specs.declared.values.Value.TheVariants.{Int, Bool as Truth, Null, At}
use Rattle.scj_builtins.specs.Framework.{periodic_handler, aperiodic_handler}
use Rattle.scj_tree.specs.declared.nodes.Node.{Node}
use Rattle.scj_tree.specs.declared.nodes.Node.TheVariants.{Number, True, False, Null as NullNode}
use Rattle.scj_rules.specs.declared.views.Declared.{Declared}
use Rattle.scj_rules.specs.declared.views.SlotKind.{SlotKind}
use Rattle.scj_rules.specs.declared.views.SlotKind.TheVariants.{Number as NumberSlot, Truth as TruthSlot, Reference as ReferenceSlot}
use Rattle.scj_rules.specs.Words.{is_among, ◌>>=◌}
use Rattle.scj_rules.specs.Classes.{superclasses, instance_fields}
use Rattle.scj_rules.specs.Contexts.{Declarations}
use Rattle.scj_rules.specs.Layout.{kind_of_type}
use Rattle.accepted_laws.proofs.Tools.{some_inj}
use Rattle.scj_model.specs.Code.{Code, part}
use Rattle.scj_model.specs.Effects.{new_frame}
use Rattle.scj_model.specs.Memory.{literal_value, default_value, hidden_values, new_slots, new_elements}
use Rattle.reference_sound.specs.References.{IfReference, EachReference}

module _ (Q : ℕ → Type 0) where
  abbrev P : Value → Type 0
  P = IfReference Q

  -- the value at a place of a list
  pub at_place : (vs : List Value) (i : ℕ) (v : Value) → EachReference Q vs → slice_get vs i ≡ Some v → IfReference Q v
  at_place [] i v h e = absurd (cc (e))
  at_place (x ∷ xs) zero v h e = subst P (some_inj x v e) (All-head P x xs h)
  at_place (x ∷ xs) (suc i) v h e = at_place xs i v (All-tail P x xs h) e

  -- ---- literals

  literal_plain : (n : Node) (v : Value) → literal_value n ≡ Some v → IfReference Q v
  unfolding literal_value
  literal_plain (Number position value negative) v e = subst P (some_inj _ v e) tt
  literal_plain (True position) v e = subst P (some_inj _ v e) tt
  literal_plain (False position) v e = subst P (some_inj _ v e) tt
  literal_plain (NullNode position) v e = subst P (some_inj _ v e) tt
  literal_plain _ v e = absurd (cc (e))

  pub node_plain : (o : Option Node) (v : Value) → o >>= literal_value ≡ Some v → IfReference Q v
  node_plain None v e = absurd (cc (e))
  node_plain (Some n) v e = literal_plain n v e

  pub written_plain : (code : Code) (o : Option ℕ) (v : Value) → o >>= part code literal_value ≡ Some v →
      IfReference Q v
  written_plain code None v e = absurd (cc (e))
  written_plain code (Some id) v e = node_plain (slice_get code.program.nodes id) v e

  -- ---- values with which something begins

  pub default_plain : (kind : SlotKind) → IfReference Q (default_value kind)
  unfolding default_value
  default_plain NumberSlot = tt
  default_plain TruthSlot = tt
  default_plain ReferenceSlot = tt

  hidden_plain : (p : Declarations) (class : ℕ) → EachReference Q (hidden_values p class)
  unfolding hidden_values
  hidden_plain p class =
      go (is_among periodic_handler (superclasses p.classes class))
      (is_among aperiodic_handler (superclasses p.classes class))
    where
      go : (t u : Bool) → EachReference Q (if t then Int (pos 1) ∷ Int (pos 0) ∷ Int (pos 0) ∷ Int (pos 1) ∷ []
          else (if u then Int (pos 1) ∷ Int (pos 0) ∷ [] else []))
      go true u = All-from_recursion P (Int (pos 1) ∷ Int (pos 0) ∷ Int (pos 0) ∷ Int (pos 1) ∷ [])
          (tt, (tt, (tt, (tt, tt))))
      go false true = All-from_recursion P (Int (pos 1) ∷ Int (pos 0) ∷ []) (tt, (tt, tt))
      go false false = All-nil P

  fields_plain : (fs : List Declared) →
      EachReference Q (map (λ (f : Declared). default_value (kind_of_type f.declared_type)) fs)
  fields_plain [] = All-nil P
  fields_plain (f ∷ fs) = All-cons P _ _ (default_plain (kind_of_type f.declared_type)) (fields_plain fs)

  pub slots_plain : (p : Declarations) (class : ℕ) → EachReference Q (new_slots p class)
  unfolding new_slots
  slots_plain p class =
      All-append P (hidden_values p class) _ (hidden_plain p class) (fields_plain (instance_fields p.classes class))

  pub elements_plain : (kind : SlotKind) (count : ℕ) → EachReference Q (new_elements kind count)
  elements_plain kind count = All-replicate P count (default_value kind) (default_plain kind)

  -- ---- new frames

  pub arguments_first : (code : Code) (body : _) (called_at this : Option ℕ) (area : ℕ) (args : List Value) →
      EachReference Q args → EachReference Q (new_frame code body called_at this area args).locals
  unfolding new_frame
  arguments_first code body called_at this area args h = All-append P args _ h (All-replicate P _ Null tt)

-- ---- what holds of the references

pub if_weaker : (Q R : ℕ → Type 0) → ((r : ℕ) → Q r → R r) → (v : Value) → IfReference Q v → IfReference R v
if_weaker Q R h (Int z) q = tt
if_weaker Q R h (Truth b) q = tt
if_weaker Q R h Null q = tt
if_weaker Q R h (At r) q = h r q

pub each_weaker : (Q R : ℕ → Type 0) → ((r : ℕ) → Q r → R r) → (vs : List Value) → EachReference Q vs →
    EachReference R vs
each_weaker Q R h vs q = All-weaker (IfReference Q) (IfReference R) (if_weaker Q R h) vs q
