-- The values with which a new object begins are of the kinds of its slots.
use Rattle.std.specs.Prelude.{Option, Some, None, slice_get, ◌-◌, ◌++◌, nat_lt, map, if◌then◌else◌, ℤ, pos}
use Rattle.std.proofs.Common.{◌≡◌, ℕ, zero, suc, ◌<◌, ◌≤◌, List, [], ◌∷◌, length, Bool, true, false, refl, sym, ◌∙◌, ap, subst, arith, ◌⊎◌, inl, inr}
use Rattle.std.proofs.lemmas.Bool.Decides.{nat_tests}
use Rattle.scj_base.specs.declared.values.Value.{Value}
use Rattle.scj_base.specs.declared.values.Value.TheVariants.{Int}
use Rattle.scj_builtins.specs.Framework.{periodic_handler, aperiodic_handler}
use Rattle.scj_rules.specs.declared.typing.Ty.{Ty}
use Rattle.scj_rules.specs.declared.typing.Scope.{Scope}
use Rattle.scj_rules.specs.declared.views.Declared.{Declared}
use Rattle.scj_rules.specs.Words.{is_among, ◌>>=◌}
use Rattle.scj_rules.specs.Classes.{superclasses, instance_fields, hidden_fields}
use Rattle.scj_rules.specs.Contexts.{Declarations, in_class}
use Rattle.scj_rules.specs.Layout.{kind_of_type}
use Rattle.scj_rules.specs.StaticScopes.{field_scope}
use Rattle.accepted_laws.specs.Kinds.{Kind, number, kind_of_field}
use Rattle.accepted_laws.proofs.Tools.{some_inj}
use Rattle.scj_model.specs.Memory.{default_value, hidden_values, new_slots}
use Rattle.scj_model.proofs.Slots.{hidden_counted}
use Rattle.scope_flow.specs.Slots.{array_type, kind_of_elements, kind_of_own_slot, kind_of_slot}
use Rattle.scope_flow.proofs.Known.{bool_cases}
use Rattle.frame_sound.specs.Places.{World, Place, held, Has}
use Rattle.frame_sound.proofs.Defaults.{default_has}

-- ---- lists

abbrev AreAllInts : List Value → Type 0
AreAllInts xs = (i : ℕ) (v : Value) → slice_get xs i ≡ Some v → (z : ℤ) × (v ≡ Int z)

get_front : (xs ys : List Value) (i : ℕ) → i < length xs → slice_get (xs ++ ys) i ≡ slice_get xs i
get_front [] ys i l = absurd (omega (arith, l))
get_front (x ∷ xs) ys zero l = refl
get_front (x ∷ xs) ys (suc i) l = get_front xs ys i (omega (arith, l))

get_behind : (xs ys : List Value) (i : ℕ) → length xs ≤ i → slice_get (xs ++ ys) i ≡ slice_get ys (i - length xs)
get_behind [] ys i l = let e : i ≡ i - 0 = omega arith in ap (slice_get ys) e
get_behind (x ∷ xs) ys zero l = absurd (omega (arith, l))
get_behind (x ∷ xs) ys (suc i) l =
    let e : i - length xs ≡ suc i - suc (length xs) = omega arith in
    get_behind xs ys i (omega (arith, l)) ∙ ap (slice_get ys) e

get_mapped : {A : Type 0} (f : A → Value) (xs : List A) (i : ℕ) (v : Value) → slice_get (map f xs) i ≡ Some v →
    (x : A) × (slice_get xs i ≡ Some x) × (f x ≡ v)
get_mapped f [] i v e = absurd (cc (e))
get_mapped f (x ∷ xs) zero v e = (x, refl, some_inj (f x) v e)
get_mapped f (x ∷ xs) (suc i) v e = get_mapped f xs i v e

-- ---- objects

hidden_ints : (p : Declarations) (class : ℕ) → AreAllInts (hidden_values p class)
unfolding hidden_values
hidden_ints p class i v e =
    go (is_among periodic_handler (superclasses p.classes class))
    (is_among aperiodic_handler (superclasses p.classes class)) i e
  where
    go : (a b : Bool) (i : ℕ) → slice_get (if a then Int (pos 1) ∷ Int (pos 0) ∷ Int (pos 0) ∷ Int (pos 1) ∷ []
        else (if b then Int (pos 1) ∷ Int (pos 0) ∷ [] else [])) i ≡ Some v → (z : ℤ) × (v ≡ Int z)
    go true b zero e = (pos 1, sym (some_inj _ v e))
    go true b (suc zero) e = (pos 0, sym (some_inj _ v e))
    go true b (suc (suc zero)) e = (pos 0, sym (some_inj _ v e))
    go true b (suc (suc (suc zero))) e = (pos 1, sym (some_inj _ v e))
    go true b (suc (suc (suc (suc i)))) e = absurd (cc (e))
    go false true zero e = (pos 1, sym (some_inj _ v e))
    go false true (suc zero) e = (pos 0, sym (some_inj _ v e))
    go false true (suc (suc i)) e = absurd (cc (e))
    go false false i e = absurd (cc (e))

module _ (p : Declarations) (w : World) (den : Scope → Place) (class : ℕ) where
  field_begins : (slot : ℕ) (k : Kind) (v : Value) →
      slice_get (instance_fields p.classes class) slot >>= kind_of_field p ≡ Some k →
      slice_get (map (λ (f : Declared). default_value (kind_of_type f.declared_type)) (instance_fields p.classes class))
      slot ≡ Some v →
      Has p w (held den k) v
  unfolding kind_of_field
  field_begins slot k v is there =
      let d = get_mapped (λ (f : Declared). default_value (kind_of_type f.declared_type))
      (instance_fields p.classes class) slot v there in
      subst (λ v. Has p w (held den k) v) d.2
      (default_has p w den p.names d.0.declared_type (in_class p d.0.node (λ class. field_scope p class d.0)) k
      (ap (λ (o : Option Declared). o >>= kind_of_field p) (sym d.1) ∙ is))

  own_begins : (slot : ℕ) (k : Kind) (v : Value) → kind_of_own_slot p class slot ≡ Some k →
      slice_get (new_slots p class) slot ≡ Some v → Has p w (held den k) v
  unfolding kind_of_own_slot new_slots held
  own_begins slot k v is there = go (bool_cases (nat_lt slot (hidden_fields p.classes class)))
    where
      counted : length (hidden_values p class) ≡ hidden_fields p.classes class
      counted = hidden_counted p class

      go : (nat_lt slot (hidden_fields p.classes class) ≡ true) ⊎
          (nat_lt slot (hidden_fields p.classes class) ≡ false) →
          Has p w (held den k) v
      go (inl t) =
          let l : slot < length (hidden_values p class) =
          (let u : slot < hidden_fields p.classes class = grind (arith, nat_tests) in omega (arith, u, counted)) in
          let z = hidden_ints p class slot v (sym (get_front (hidden_values p class) _ slot l) ∙ there) in
          let same : Some number ≡ Some k =
          ap
          (λ (b : Bool). if b then Some number
          else (slice_get (instance_fields p.classes class) (slot - hidden_fields p.classes class)
          >>= kind_of_field p)) (sym t) ∙ is in
          subst (λ k. Has p w (held den k) v) (some_inj number k same) z
      go (inr t) =
          let l : length (hidden_values p class) ≤ slot =
          (let u : hidden_fields p.classes class ≤ slot = grind (arith, nat_tests) in omega (arith, u, counted)) in
          field_begins (slot - hidden_fields p.classes class) k v
          (ap (λ (b : Bool). if b then Some number
          else (slice_get (instance_fields p.classes class) (slot - hidden_fields p.classes class)
          >>= kind_of_field p)) (sym t) ∙ is)
          (ap (λ n. slice_get
          (map (λ (f : Declared). default_value (kind_of_type f.declared_type)) (instance_fields p.classes class))
          (slot - n)) (sym counted)
          ∙ sym (get_behind (hidden_values p class) _ slot l) ∙ there)

  -- the class is no array's
  pub slots_begin : array_type p class ≡ None → (slot : ℕ) (k : Kind) (v : Value) →
      kind_of_slot p class slot ≡ Some k → slice_get (new_slots p class) slot ≡ Some v → Has p w (held den k) v
  unfolding kind_of_slot
  slots_begin no_array slot k v is there =
      own_begins slot k v
      (sym (ap (λ (o : Option Ty). elim o as (λ z. Option Kind) [
        | None ↦ kind_of_own_slot p class slot
        | Some t ↦ kind_of_elements p t
      ]) no_array) ∙ is) there
