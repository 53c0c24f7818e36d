-- New objects and arrays begin with values of the kinds of their slots.
use Rattle.std.specs.Prelude.{Option, Some, None, slice_get, ◌-◌, ◌++◌, nat_lt, map, replicate, if◌then◌else◌, ℤ, pos, unsigned_abs, option_map}
use Rattle.std.specs.Int.{is_negative}
use Rattle.std.proofs.Common.{◌≡◌, ℕ, zero, suc, ◌<◌, ◌≤◌, List, [], ◌∷◌, length, Bool, true, false, refl, sym, ◌∙◌, ap, subst, arith, ◌⊎◌, inl, inr}
use Rattle.std.proofs.lemmas.Bool.Decides.{nat_tests}
use Rattle.scj_base.specs.declared.faults.RunFault.TheVariants.{NegativeSize}
use Rattle.scj_base.specs.declared.values.Value.{Value}
use Rattle.scj_base.specs.declared.values.Value.TheVariants.{Int, Bool as Truth, Null}
use Rattle.scj_builtins.specs.Framework.{periodic_handler, aperiodic_handler}
use Rattle.scj_rules.specs.declared.typing.Ty.{Ty}
use Rattle.scj_rules.specs.declared.typing.Ty.TheVariants.{Class as ClassTy, IntArray, BoolArray, ClassArray}
use Rattle.scj_rules.specs.declared.typing.Scope.{Scope}
use Rattle.scj_rules.specs.declared.views.Declared.{Declared}
use Rattle.scj_rules.specs.declared.views.SlotKind.{SlotKind}
use Rattle.scj_rules.specs.declared.views.SlotKind.TheVariants.{Number as NumberSlot, Truth as TruthSlot, Reference as ReferenceSlot}
use Rattle.scj_rules.specs.Words.{is_among, ◌>>=◌}
use Rattle.scj_rules.specs.Classes.{superclasses, instance_fields, hidden_fields}
use Rattle.scj_rules.specs.Contexts.{Declarations, in_class}
use Rattle.scj_rules.specs.Layout.{kind_of_type, element_kind, class_of_elements}
use Rattle.scj_rules.specs.StaticScopes.{this_in, field_scope}
use Rattle.accepted_laws.specs.Kinds.{Kind, number, truth, reference, fresh, kind_of_field}
use Rattle.accepted_laws.proofs.Tools.{some_inj}
use Rattle.scj_model.specs.declared.operations.Op.TheVariants.{Alloc as ALLOC, AllocArray as ALLOCARRAY}
use Rattle.scj_model.specs.Memory.{default_value, hidden_values, new_slots, new_elements}
use Rattle.scj_model.proofs.Slots.{hidden_counted, slots_counted}
use Rattle.scj_model.specs.Effects.{Makes, Faults}
use Rattle.scj_model.specs.Operations.{effect_of}
use Rattle.scope_flow.specs.Slots.{array_type_by, array_type, kind_of_elements, kind_of_own_slot, kind_of_slot, IsOfType}
use Rattle.scope_flow.specs.Needs.{pushed}
use Rattle.scope_flow.proofs.Known.{bool_cases}
use Rattle.frame_sound.specs.Places.{World, Place, held, Has}
use Rattle.frame_sound.proofs.Defaults.{default_has}
use Rattle.frame_sound.proofs.Scenes.{Scene, HoldAll, FlowsOn, Ok, take, pop_fine, given_fine, int_fine, ready, guards_left}
use Rattle.frame_sound.proofs.ActsOnValues.{Does}

-- ---- lists

abbrev AreAllInts : List Value → Type 0
AreAllInts xs = (i : ℕ) (v : Value) → slice_get xs i ≡ Some v → (z : ℤ) × (v ≡ Int z)

get_front : (xs ys : List Value) (i : ℕ) → i < length xs → slice_get (xs ++ ys) i ≡ slice_get xs i
get_front [] ys i l = absurd (omega (arith, l))
get_front (x ∷ xs) ys zero l = refl
get_front (x ∷ xs) ys (suc i) l = get_front xs ys i (omega (arith, l))

get_behind : (xs ys : List Value) (i : ℕ) → length xs ≤ i → slice_get (xs ++ ys) i ≡ slice_get ys (i - length xs)
get_behind [] ys i l = let e : i ≡ i - 0 = omega arith in ap (slice_get ys) e
get_behind (x ∷ xs) ys zero l = absurd (omega (arith, l))
get_behind (x ∷ xs) ys (suc i) l =
    let e : i - length xs ≡ suc i - suc (length xs) = omega arith in
    get_behind xs ys i (omega (arith, l)) ∙ ap (slice_get ys) e

get_mapped : {A : Type 0} (f : A → Value) (xs : List A) (i : ℕ) (v : Value) → slice_get (map f xs) i ≡ Some v →
    (x : A) × (slice_get xs i ≡ Some x) × (f x ≡ v)
get_mapped f [] i v e = absurd (cc (e))
get_mapped f (x ∷ xs) zero v e = (x, refl, some_inj (f x) v e)
get_mapped f (x ∷ xs) (suc i) v e = get_mapped f xs i v e

get_replicated : (n : ℕ) (x : Value) (i : ℕ) (v : Value) → slice_get (replicate n x) i ≡ Some v → x ≡ v
get_replicated zero x i v e = absurd (cc (e))
get_replicated (suc n) x zero v e = some_inj x v e
get_replicated (suc n) x (suc i) v e = get_replicated n x i v e

-- ---- objects

hidden_ints : (p : Declarations) (class : ℕ) → AreAllInts (hidden_values p class)
unfolding hidden_values
hidden_ints p class i v e =
    go (is_among periodic_handler (superclasses p.classes class))
    (is_among aperiodic_handler (superclasses p.classes class)) i e
  where
    go : (a b : Bool) (i : ℕ) → slice_get (if a then Int (pos 1) ∷ Int (pos 0) ∷ Int (pos 0) ∷ Int (pos 1) ∷ []
        else (if b then Int (pos 1) ∷ Int (pos 0) ∷ [] else [])) i ≡ Some v → (z : ℤ) × (v ≡ Int z)
    go true b zero e = (pos 1, sym (some_inj _ v e))
    go true b (suc zero) e = (pos 0, sym (some_inj _ v e))
    go true b (suc (suc zero)) e = (pos 0, sym (some_inj _ v e))
    go true b (suc (suc (suc zero))) e = (pos 1, sym (some_inj _ v e))
    go true b (suc (suc (suc (suc i)))) e = absurd (cc (e))
    go false true zero e = (pos 1, sym (some_inj _ v e))
    go false true (suc zero) e = (pos 0, sym (some_inj _ v e))
    go false true (suc (suc i)) e = absurd (cc (e))
    go false false i e = absurd (cc (e))

module _ (p : Declarations) (w : World) (den : Scope → Place) (class : ℕ) where
  field_begins : (slot : ℕ) (k : Kind) (v : Value) →
      slice_get (instance_fields p.classes class) slot >>= kind_of_field p ≡ Some k →
      slice_get (map (λ (f : Declared). default_value (kind_of_type f.declared_type)) (instance_fields p.classes class))
      slot ≡ Some v →
      Has p w (held den k) v
  unfolding kind_of_field
  field_begins slot k v is there =
      let d = get_mapped (λ (f : Declared). default_value (kind_of_type f.declared_type))
      (instance_fields p.classes class) slot v there in
      subst (λ v. Has p w (held den k) v) d.2
      (default_has p w den p.names d.0.declared_type (in_class p d.0.node (λ class. field_scope p class d.0)) k
      (ap (λ (o : Option Declared). o >>= kind_of_field p) (sym d.1) ∙ is))

  own_begins : (slot : ℕ) (k : Kind) (v : Value) → kind_of_own_slot p class slot ≡ Some k →
      slice_get (new_slots p class) slot ≡ Some v → Has p w (held den k) v
  unfolding kind_of_own_slot new_slots held
  own_begins slot k v is there = go (bool_cases (nat_lt slot (hidden_fields p.classes class)))
    where
      counted : length (hidden_values p class) ≡ hidden_fields p.classes class
      counted = hidden_counted p class

      go : (nat_lt slot (hidden_fields p.classes class) ≡ true) ⊎
          (nat_lt slot (hidden_fields p.classes class) ≡ false) →
          Has p w (held den k) v
      go (inl t) =
          let l : slot < length (hidden_values p class) =
          (let u : slot < hidden_fields p.classes class = grind (arith, nat_tests) in omega (arith, u, counted)) in
          let z = hidden_ints p class slot v (sym (get_front (hidden_values p class) _ slot l) ∙ there) in
          let same : Some number ≡ Some k =
          ap
          (λ (b : Bool). if b then Some number
          else (slice_get (instance_fields p.classes class) (slot - hidden_fields p.classes class)
          >>= kind_of_field p)) (sym t) ∙ is in
          subst (λ k. Has p w (held den k) v) (some_inj number k same) z
      go (inr t) =
          let l : length (hidden_values p class) ≤ slot =
          (let u : hidden_fields p.classes class ≤ slot = grind (arith, nat_tests) in omega (arith, u, counted)) in
          field_begins (slot - hidden_fields p.classes class) k v
          (ap (λ (b : Bool). if b then Some number
          else (slice_get (instance_fields p.classes class) (slot - hidden_fields p.classes class)
          >>= kind_of_field p)) (sym t) ∙ is)
          (ap (λ n. slice_get
          (map (λ (f : Declared). default_value (kind_of_type f.declared_type)) (instance_fields p.classes class))
          (slot - n)) (sym counted)
          ∙ sym (get_behind (hidden_values p class) _ slot l) ∙ there)

  -- ---- arrays

  element_begins : (slot : SlotKind) (t : Ty) (k : Kind) → array_type_by p class slot ≡ Some t →
      kind_of_elements p t ≡ Some k → Has p w (held den k) (default_value slot)
  unfolding array_type_by kind_of_elements default_value held
  element_begins NumberSlot t k e f =
      let g : Some number ≡ Some k = ap (kind_of_elements p) (some_inj IntArray t e) ∙ f in
      subst (λ k. Has p w (held den k) (Int (pos 0))) (some_inj number k g) (pos 0, refl)
  element_begins TruthSlot t k e f =
      let g : Some truth ≡ Some k = ap (kind_of_elements p) (some_inj BoolArray t e) ∙ f in
      subst (λ k. Has p w (held den k) (Truth false)) (some_inj truth k g) (false, refl)
  element_begins ReferenceSlot t k e f = go (class_of_elements p class) e
    where
      at_class : (c : ℕ) → ClassArray c ≡ t → (o : Option Scope) → this_in p c ≡ o → Has p w (held den k) Null
      at_class c g None h =
          absurd (let x : None ≡ Some k = sym (ap (λ (o : Option Scope). option_map (λ s. reference (ClassTy c) s) o) h)
          ∙ ap (kind_of_elements p) g ∙ f in cc (x))
      at_class c g (Some s) h =
          let x : Some (reference (ClassTy c) s) ≡ Some k =
          sym (ap (λ (o : Option Scope). option_map (λ s. reference (ClassTy c) s) o) h) ∙ ap (kind_of_elements p) g
          ∙ f in
          subst (λ k. Has p w (held den k) Null) (some_inj (reference (ClassTy c) s) k x) (inl refl)

      go : (o : Option ℕ) → option_map (λ c. ClassArray c) o ≡ Some t → Has p w (held den k) Null
      go None e = absurd (cc (e))
      go (Some c) e = at_class c (some_inj (ClassArray c) t e) (this_in p c) refl

-- by whether it is an array
by_array : (p : Declarations) (class slot : ℕ) (o : Option Ty) → array_type p class ≡ o →
    kind_of_slot p class slot ≡ (elim o [ None ↦ kind_of_own_slot p class slot | Some t ↦ kind_of_elements p t ])
unfolding kind_of_slot
by_array p class slot o e =
    ap (λ (o : Option Ty). elim o as (λ z. Option Kind) [
      | None ↦ kind_of_own_slot p class slot
      | Some t ↦ kind_of_elements p t
    ]) e

module _ (m : Scene) where
  pub alloc_fine : (id : ℕ) → Does m (ALLOC id)
  unfolding effect_of pushed IsOfType
  alloc_fine id l r =
      let n = r.needed in
      let no_array = m.facts.classes n.class (m.facts.concrete n.class n.is_concrete).0 in
      given_fine m _ _ n.class n.is
      (record {
        is = record {
          kind = fresh n.class m.sig.runs_in;
          is_kind = inl (refl, n.is_concrete);
          goes =
              ready m m.frame.operands m.frame.locals m.frame.rest (Some (fresh n.class m.sig.runs_in)) m.known m.kinds
              m.operands m.locals (subst (FlowsOn m m.frame.rest m.known) n.leaves r.goes)
              (guards_left m l m.frame.operands (Some (fresh n.class m.sig.runs_in)));
          lies = n.lies;
          reach = n.reach;
          is_full = λ e. slots_counted m.code.program n.class;
          begins = λ u d slot k v is there. own_begins m.code.program u d n.class slot k v
              (sym (by_array m.code.program n.class slot None no_array) ∙ is) there;
        };
      })

  type_by_slot : (class : ℕ) (slot : SlotKind) (t : Ty) → element_kind m.code.program class ≡ Some slot →
      array_type m.code.program class ≡ Some t → array_type_by m.code.program class slot ≡ Some t
  unfolding array_type
  type_by_slot class slot t e f = ap (λ (o : Option SlotKind). o >>= array_type_by m.code.program class) (sym e) ∙ f

  pub alloc_array_fine : (id : ℕ) → Does m (ALLOCARRAY id)
  unfolding effect_of held pushed
  alloc_array_fine id l r =
      let n = r.needed in
      let x = take m number n.others n.takes in
      given_fine m _ _ n.class n.is
      (given_fine m _ _ n.slot n.elements
      (pop_fine m m.frame.operands _ x.v x.rest x.is
      (int_fine m x.v _ x.has (λ z. go (is_negative z) (unsigned_abs z) x.rest x.have))))
    where
      go : (t : Bool) (count : ℕ) (rest : List Value) → HoldAll m r.needed.others rest →
          Ok m (if t then Faults NegativeSize
          else Makes (record m.frame { operands = rest }) r.needed.class (new_elements r.needed.slot count))
      go true count rest have = record { is = tt }
      go false count rest have =
          let n = r.needed in
          record {
            is = record {
              kind = reference n.type m.sig.runs_in;
              is_kind = inr (n.type, refl, n.is_type);
              goes =
                  ready m rest m.frame.locals m.frame.rest (Some (reference n.type m.sig.runs_in)) m.known n.others have
                  m.locals (subst (FlowsOn m m.frame.rest m.known) n.leaves r.goes)
                  (guards_left m l rest (Some (reference n.type m.sig.runs_in)));
              lies = n.lies;
              reach = n.reach;
              is_full = λ e. absurd (let y = sym e ∙ n.is_type in cc (y));
              begins = λ u d slot k v is there.
                  subst (λ v. Has m.code.program u (held d k) v)
                  (get_replicated count (default_value n.slot) slot v there)
                  (element_begins m.code.program u d n.class n.slot n.type k
                  (type_by_slot n.class n.slot n.type n.elements n.is_type)
                  (sym (by_array m.code.program n.class slot (Some n.type) n.is_type) ∙ is));
            };
          }
