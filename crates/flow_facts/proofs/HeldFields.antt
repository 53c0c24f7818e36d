-- Fields in objects and in the static memory: their places, and what they hold.
use Rattle.std.proofs.Common.{◌≡◌, ℕ, ◌+◌, ◌-◌, ◌<◌, suc, nat_lt, List, [], ◌∷◌, length, filter, position, refl, sym, ap, ◌∙◌, subst, arith, Option, Some, None, Bool, true, false, true≢false, ◌⊎◌, inl, inr, ◌==◌, option_and_then, option_map, slice_get, if◌then◌else◌}
use Rattle.std.proofs.lemmas.Bool.{lt-ltb, le-ltb}
use Rattle.std.proofs.lemmas.Option.{slice_get_within}
use Rattle.scj_tree.specs.Forest.{Forest, IsForest}
use Rattle.scj_rules.specs.declared.scopes.ClassScope.{ClassScope}
use Rattle.scj_rules.specs.declared.scopes.ClassScope.TheVariants.{Unannotated as unannotated, Annotated as annotated, Missing as scopeless}
use Rattle.scj_rules.specs.declared.typing.Scope.{Scope}
use Rattle.scj_rules.specs.declared.typing.Scope.TheVariants.{Any, This, Caller, In, Unknown, Lost}
use Rattle.scj_rules.specs.declared.typing.Ty.{Ty}
use Rattle.scj_rules.specs.declared.typing.Ty.TheVariants.{Int, Bool as Boolean, Class as ClassTy, IntArray, BoolArray, ClassArray}
use Rattle.scj_rules.specs.declared.views.Declared.{Declared}
use Rattle.scj_rules.specs.declared.views.SlotKind.TheVariants.{Number as NumberSlot, Truth as TruthSlot, Reference as ReferenceSlot}
use Rattle.scj_rules.specs.Views.{field_at}
use Rattle.scj_rules.specs.Classes.{ClassRow, is_sub, instance_fields, hidden_fields}
use Rattle.scj_rules.specs.Contexts.{Declarations, declarations_of, in_class}
use Rattle.scj_rules.specs.Layout.{slots, element_kind, first_array_class, declared_fields, static_fields, static_index, index_among}
use Rattle.scj_rules.specs.ScopeRules.{immortal_scope, is_outer}
use Rattle.scj_rules.specs.StaticScopes.{are_same_scope, class_scope, is_outer_of, suits_field, field_scope}
use Rattle.scj_rules.specs.TypeRules.{declared_type_of}
use Rattle.scj_rules.specs.Phases.{IsAccepted}
use Rattle.scj_rules.proofs.ChainLemmas.{or_cases, is_same_number, same_number}
use Rattle.accepted_laws.specs.Kinds.{Kind, number, truth, yes, reference, fresh, kind_of, kind_of_field}
use Rattle.accepted_laws.specs.Sorts.{IsWellSorted}
use Rattle.accepted_laws.proofs.DeclarationScopes.{all_known}
use Rattle.accepted_laws.proofs.Fields.{In as Element, here, there, in_filter, position-cons}
use Rattle.accepted_laws.proofs.Interfaces.{flat_in}
use Rattle.accepted_laws.proofs.Positions.{position_least}
use Rattle.accepted_laws.proofs.Tools.{some_inj}
use Rattle.accepted_nodes.proofs.DeclaredScopes.{field_suits}
use Rattle.accepted_nodes.proofs.FoundMembers.{in_filtered, row_field, field_found}
use Rattle.accepted_nodes.proofs.Slots.{get_in, field_has_number, field_has_slot}
use Rattle.accepted_nodes.proofs.Uses.{same_scope}
use Rattle.accepted_facts.specs.Expressions.{InstanceFieldOf, StaticFieldOf, LiesInImmortal}
use Rattle.accepted_facts.proofs.ClassBounds.{names_and_classes}
use Rattle.accepted_facts.proofs.DeclaredKinds.{holds_values, field_holds}
use Rattle.scope_flow.specs.Slots.{array_type, array_type_by, kind_of_elements, kind_of_own_slot, kind_of_slot, IsSlotKind, HasSlot, HasField, IsImmortal, kind_of_static, HasStatic}
use Rattle.flow_facts.proofs.FrameworkRows.{field_reached}

-- ---- lists

pub in_get : {A : Type 0} (xs : List A) (x : A) → Element x xs → (k : ℕ) × (slice_get xs k ≡ Some x)
in_get [] x h = elim h [ ]
in_get (y ∷ xs) x here = (0, refl)
in_get (y ∷ xs) x (there h) = (let q = in_get xs x h in (suc q.0, q.1))

-- what stands at a position passes the test
position_passes : {A : Type 0} (test : A → Bool) (xs : List A) (j : ℕ) → position test xs ≡ Some j →
    (y : A) × (slice_get xs j ≡ Some y) × (test y ≡ true)
position_passes test [] j e = absurd (cc (e))
position_passes {A} test (x ∷ xs) j e =
    go (test x) refl (sym (position-cons test x xs) ∙ e) (λ j e. position_passes test xs j e)
  where
    Passes : ℕ → Type 0
    Passes j = (y : A) × (slice_get (x ∷ xs) j ≡ Some y) × (test y ≡ true)

    later : (o : Option ℕ) → position test xs ≡ o → option_map (λ k. 1 + k) o ≡ Some j →
        ((j : ℕ) → position test xs ≡ Some j → (y : A) × (slice_get xs j ≡ Some y) × (test y ≡ true)) → Passes j
    later None q e ih = absurd (cc (e))
    later (Some i) q e ih =
        let s : 1 + i ≡ j = some_inj (1 + i) j e in
        let n : suc i ≡ j = omega (arith, s) in
        let r = ih i q in subst Passes n (r.0, r.1, r.2)

    go : (t : Bool) → test x ≡ t → (if test x then Some 0 else option_map (λ k. 1 + k) (position test xs)) ≡ Some j →
        ((j : ℕ) → position test xs ≡ Some j → (y : A) × (slice_get xs j ≡ Some y) × (test y ≡ true)) → Passes j
    go true t e ih =
        subst Passes
        (some_inj 0 j (sym (ap (λ b. if b then Some 0 else option_map (λ k. 1 + k) (position test xs)) t) ∙ e))
        (x, refl, t)
    go false t e ih =
        later (position test xs) refl
        (sym (ap (λ b. if b then Some 0 else option_map (λ k. 1 + k) (position test xs)) t) ∙ e) ih

-- ---- scopes of fields

-- an instance field lies in THIS, in IMMORTAL, or in a scope outside of that of an annotated class
pub suited : (p : Declarations) (cs : ClassScope) (s : Scope) → suits_field p cs false s ≡ true → (cs ≡ scopeless → ⊥) →
    (s ≡ This) ⊎
    ((n : ℕ) × (s ≡ In n) × ((n ≡ immortal_scope) ⊎ ((m : ℕ) × (cs ≡ annotated m) × (is_outer p n m ≡ true))))
unfolding suits_field is_outer_of
suited p unannotated s e k =
    elim (or_cases (are_same_scope s This) (are_same_scope s (In immortal_scope)) e) as
    (λ z. (s ≡ This) ⊎
    ((n : ℕ) × (s ≡ In n) ×
    ((n ≡ immortal_scope) ⊎ ((m : ℕ) × (unannotated ≡ annotated m) × (is_outer p n m ≡ true)))))
    [ inl h ↦ inl (same_scope s This h) | inr h ↦ inr (immortal_scope, same_scope s (In immortal_scope) h, inl refl) ]
suited p (annotated m) (In n) e k = inr (n, refl, inr (m, refl, e))
suited p (annotated m) Any e k = absurd (true≢false (sym e))
suited p (annotated m) This e k = absurd (true≢false (sym e))
suited p (annotated m) Caller e k = absurd (true≢false (sym e))
suited p (annotated m) Unknown e k = absurd (true≢false (sym e))
suited p (annotated m) Lost e k = absurd (true≢false (sym e))
suited p scopeless s e k = absurd (k refl)

-- a declared type with such a scope has the kind of a slot
slot_kind_of : (t : Ty) (s : Option Scope) (k : Kind) → holds_values t ≡ true →
    ((r : Scope) → s ≡ Some r → (r ≡ This) ⊎ ((n : ℕ) × (r ≡ In n))) → kind_of (Some t) s ≡ Some k → IsSlotKind k
unfolding kind_of holds_values IsSlotKind
slot_kind_of Int s k h g e = subst IsSlotKind (some_inj number k e) tt
slot_kind_of Boolean s k h g e = subst IsSlotKind (some_inj truth k e) tt
slot_kind_of (ClassTy c) (Some r) k h g e = elim (g r refl) as (λ z. IsSlotKind k) [
  | inl q ↦ subst IsSlotKind (ap (λ r. reference (ClassTy c) r) (sym q) ∙ some_inj (reference (ClassTy c) r) k e) tt
  | inr q ↦ subst IsSlotKind (ap (λ r. reference (ClassTy c) r) (sym q.1)
      ∙ some_inj (reference (ClassTy c) r) k e) tt
]
slot_kind_of IntArray (Some r) k h g e = elim (g r refl) as (λ z. IsSlotKind k) [
  | inl q ↦ subst IsSlotKind (ap (λ r. reference IntArray r) (sym q) ∙ some_inj (reference IntArray r) k e) tt
  | inr q ↦ subst IsSlotKind (ap (λ r. reference IntArray r) (sym q.1) ∙ some_inj (reference IntArray r) k e) tt
]
slot_kind_of BoolArray (Some r) k h g e = elim (g r refl) as (λ z. IsSlotKind k) [
  | inl q ↦ subst IsSlotKind (ap (λ r. reference BoolArray r) (sym q) ∙ some_inj (reference BoolArray r) k e) tt
  | inr q ↦ subst IsSlotKind (ap (λ r. reference BoolArray r) (sym q.1) ∙ some_inj (reference BoolArray r) k e) tt
]
slot_kind_of (ClassArray c) (Some r) k h g e = elim (g r refl) as (λ z. IsSlotKind k) [
  | inl q ↦ subst IsSlotKind (ap (λ r. reference (ClassArray c) r) (sym q)
      ∙ some_inj (reference (ClassArray c) r) k e) tt
  | inr q ↦ subst IsSlotKind (ap (λ r. reference (ClassArray c) r) (sym q.1)
      ∙ some_inj (reference (ClassArray c) r) k e) tt
]
slot_kind_of (ClassTy c) None k h g e = absurd (cc (e))
slot_kind_of IntArray None k h g e = absurd (cc (e))
slot_kind_of BoolArray None k h g e = absurd (cc (e))
slot_kind_of (ClassArray c) None k h g e = absurd (cc (e))
slot_kind_of _ s k h g e = absurd (true≢false (sym h))

none_kind : (s : Option Scope) (k : Kind) → kind_of None s ≡ Some k → ⊥
unfolding kind_of
none_kind s k e = cc (e)

immortal_kind : (k : Kind) → LiesInImmortal k → IsImmortal k
unfolding IsImmortal
immortal_kind number h = tt
immortal_kind truth h = tt
immortal_kind (reference t s) h = subst (λ s. IsImmortal (reference t s)) (sym h) refl
immortal_kind yes h = absurd h
immortal_kind (fresh c s) h = absurd h

module _ (forest : Forest) (accepted : IsAccepted forest) (whole : IsForest forest) (sorted : IsWellSorted forest.nodes)
  where
    abbrev p : Declarations
    p = declarations_of forest

    -- a class is no array's
    pub class_no_array : (class : ℕ) → class < length p.classes → array_type p class ≡ None
    unfolding array_type element_kind
    class_no_array class l =
        let below : class < length p.names = subst (λ n. class < n) (sym (names_and_classes forest)) l in
        ap (λ t. option_and_then (array_type_by p class)
        (if t then None
        else (if class == first_array_class p then Some NumberSlot
        else (if class == first_array_class p + 1 then Some TruthSlot
        else (if nat_lt class (first_array_class p + 2 + length p.names) then Some ReferenceSlot else None)))))
        (lt-ltb class (length p.names) below)

    -- ---- instance fields

    own_slot : (c i : ℕ) (d : Declared) (k : Kind) → slice_get (instance_fields p.classes c) i ≡ Some d →
        kind_of_field p d ≡ Some k → kind_of_own_slot p c (hidden_fields p.classes c + i) ≡ Some k
    unfolding kind_of_own_slot
    own_slot c i d k e h =
        let hidden : ℕ = hidden_fields p.classes c in
        let fields : List Declared = instance_fields p.classes c in
        let n : (hidden + i) - hidden ≡ i = omega arith in
        ap (λ t. if t then Some number else option_and_then (kind_of_field p) (slice_get fields ((hidden + i) - hidden)))
        (le-ltb (hidden + i) hidden (omega arith))
        ∙ ap (λ j. option_and_then (kind_of_field p) (slice_get fields j)) n ∙ ap (option_and_then (kind_of_field p)) e
        ∙ h

    pub in_object : (c slot : ℕ) → c < length p.classes → kind_of_slot p c slot ≡ kind_of_own_slot p c slot
    unfolding kind_of_slot
    in_object c slot l =
        ap
        (λ (o : Option Ty). elim o as (λ _. Option Kind) [
          | None ↦ kind_of_own_slot p c slot
          | Some t ↦ kind_of_elements p t
        ]) (class_no_array c l)

    within_slots : (c i : ℕ) (d : Declared) → slice_get (instance_fields p.classes c) i ≡ Some d →
        hidden_fields p.classes c + i < slots p c
    unfolding slots
    within_slots c i d e =
        (let l : i < length (instance_fields p.classes c) = slice_get_within (instance_fields p.classes c) i d e in
        omega (arith, l))

    has_slot : (c class n : ℕ) (name : List ℕ) (k : Kind) → (f : InstanceFieldOf p class name n k) →
        c < length p.classes → is_sub p.classes c class ≡ true → HasSlot p n c k
    has_slot c class n name k f l sub =
        let s = field_has_slot forest accepted whole sorted class c n name f.field l
        (field_reached forest accepted whole sorted c class name f.field sub f.named) f.named f.plain f.numbered in
        record {
          is_no_array = class_no_array c l;
          slot = hidden_fields p.classes c + s.index;
          is = s.slot;
          within = within_slots c s.index f.field.field s.declares;
          holds = in_object c (hidden_fields p.classes c + s.index) l
              ∙ own_slot c s.index f.field.field k s.declares f.kind;
        }

    -- the kind of a field that is found, by its type and its scope
    found_kind : (class : ℕ) (name : List ℕ) (n : ℕ) (k : Kind) → (f : InstanceFieldOf p class name n k) → IsSlotKind k
    unfolding kind_of_field
    found_kind class name n k f = go (declared_type_of p d) refl f.kind
      where
        d : Declared
        d = f.field.field

        scoped : (r : Scope) → in_class p d.node (λ class. field_scope p class d) ≡ Some r →
            (r ≡ This) ⊎ ((n : ℕ) × (r ≡ In n))
        scoped r e =
            let q = field_found forest accepted whole sorted class name f.field f.named in
            let h : field_scope p f.field.on d ≡ Some r =
            sym (ap (λ (o : Option ℕ). option_and_then (λ class. field_scope p class d) o) q.stands_in_class) ∙ e in
            elim (suited p (class_scope p f.field.on) r
            (sym (ap (λ t. suits_field p (class_scope p f.field.on) t r) f.plain) ∙ field_suits p f.field.on d r h)
            (all_known forest accepted whole sorted f.field.on)) as (λ z. (r ≡ This) ⊎ ((n : ℕ) × (r ≡ In n)))
            [ inl s ↦ inl s | inr s ↦ inr (s.0, s.1) ]

        go : (t : Option Ty) → declared_type_of p d ≡ t →
            kind_of t (in_class p d.node (λ class. field_scope p class d)) ≡ Some k → IsSlotKind k
        go None a e = absurd (none_kind (in_class p d.node (λ class. field_scope p class d)) k e)
        go (Some t) a e = slot_kind_of t (in_class p d.node (λ class. field_scope p class d)) k
            (field_holds forest sorted d.node d t
            (field_found forest accepted whole sorted class name f.field f.named).is_there a) scoped e

    pub has_field : (class n : ℕ) (name : List ℕ) (k : Kind) → InstanceFieldOf p class name n k →
        (h : HasField p class n) × (h.kind ≡ k)
    has_field class n name k f = (
      record {
        kind = k;
        is_slot_kind = found_kind class name n k f;
        each = λ c l sub. has_slot c class n name k f l
            sub;
      },
      refl,
    )

    -- ---- static fields

    declared_stands : (d : Declared) → Element d (declared_fields p) → field_at p.nodes d.node ≡ Some d
    unfolding declared_fields
    declared_stands d h =
        let q = flat_in (λ (row : ClassRow). row.fields) d p.classes h in
        let k = in_get p.classes q.0 q.1 in
        (row_field forest accepted whole sorted k.0 q.0 d k.1 q.2).is_there

    pub has_static : (class n : ℕ) (name : List ℕ) (k : Kind) → StaticFieldOf p class name n k → (h : HasStatic p n) ×
        (h.kind ≡ k)
    unfolding static_index kind_of_static static_fields
    has_static class n name k f =
        let d : Declared = f.field.field in
        let q = field_has_number forest accepted whole sorted class name f.field f.named in
        let same : q.number ≡ n = some_inj q.number n (sym q.is ∙ f.numbered) in
        let test : Declared → Bool = λ (e : Declared). e.node == d.node in
        let statics : List Declared = filter (λ (f : Declared). f.modifiers.is_static) (declared_fields p) in
        let i =
        in_get statics d
        (in_filter (λ (f : Declared). f.modifiers.is_static) d (declared_fields p)
        (get_in (declared_fields p) q.number d q.numbers) f.static) in
        let j = position_least test statics i.0 d i.1 (is_same_number d.node d.node refl) in
        let y = position_passes test statics j.0 j.1 in
        let stands : field_at p.nodes y.0.node ≡ Some y.0 =
        declared_stands y.0
        (in_filtered (λ (f : Declared). f.modifiers.is_static) y.0 (declared_fields p) (get_in statics j.0 y.0 y.1))
        in
        let one : y.0 ≡ d =
        some_inj y.0 d (sym stands ∙ ap (field_at p.nodes) (same_number y.0.node d.node y.2)
        ∙ (field_found forest accepted whole sorted class name f.field f.named).is_there) in (
          record {
            index = j.0;
            is = ap (λ m. option_and_then (index_among statics) (slice_get (declared_fields p) m)) (sym same)
                ∙ ap (option_and_then (index_among statics)) q.numbers ∙ j.1;
            kind = k;
            holds = ap (option_and_then (kind_of_field p)) (y.1 ∙ ap (λ d. Some d) one) ∙ f.kind;
            is_immortal = immortal_kind k f.lies;
          },
          refl,
        )
