-- The scopes that the slots of a class's objects name lie around the scope in which these objects are made.
use Rattle.std.proofs.Common.{◌≡◌, ℕ, ◌-◌, ◌<◌, nat_lt, List, [], ◌∷◌, length, filter, reverse, refl, sym, ap, ◌∙◌, subst, Option, Some, None, Bool, true, false, not, true≢false, ◌⊎◌, inl, inr, option_and_then, slice_get, if◌then◌else◌}
use mathlib.Core.List.{reverse_aux}
use Rattle.scj_tree.specs.Forest.{Forest, IsForest}
use Rattle.scj_rules.specs.declared.scopes.ClassScope.TheVariants.{Annotated as annotated}
use Rattle.scj_rules.specs.declared.typing.Scope.{Scope}
use Rattle.scj_rules.specs.declared.typing.Scope.TheVariants.{Any, This, In}
use Rattle.scj_rules.specs.declared.typing.Ty.{Ty}
use Rattle.scj_rules.specs.declared.typing.Ty.TheVariants.{Int, Bool as Boolean, Void, NullTy, Label, Class as ClassTy, IntArray, BoolArray, ClassArray}
use Rattle.scj_rules.specs.declared.views.Declared.{Declared}
use Rattle.scj_rules.specs.Classes.{ClassRow, superclasses, instance_fields, own_instance_fields, hidden_fields}
use Rattle.scj_rules.specs.Contexts.{Declarations, declarations_of, in_class}
use Rattle.scj_rules.specs.ScopeRules.{is_outer}
use Rattle.scj_rules.specs.StaticScopes.{class_scope, scope_or, this_in, suits_field, field_scope}
use Rattle.scj_rules.specs.TypeRules.{declared_type_of}
use Rattle.scj_rules.specs.Phases.{IsAccepted}
use Rattle.accepted_laws.specs.Kinds.{number, truth, reference, kind_of, kind_of_field}
use Rattle.accepted_laws.specs.Sorts.{IsWellSorted}
use Rattle.accepted_laws.proofs.DeclarationScopes.{all_known}
use Rattle.accepted_laws.proofs.Fields.{In as Element, here, there}
use Rattle.accepted_laws.proofs.Interfaces.{flat_in}
use Rattle.accepted_laws.proofs.ScopesOfClasses.{scope_of_above}
use Rattle.accepted_laws.proofs.Subtypes.{among_in}
use Rattle.accepted_laws.proofs.Tools.{some_inj}
use Rattle.accepted_nodes.proofs.DeclaredScopes.{field_suits}
use Rattle.accepted_nodes.proofs.FoundMembers.{in_filtered, row_field, FieldAt}
use Rattle.accepted_nodes.proofs.ScopesComplete.{of_option}
use Rattle.accepted_nodes.proofs.Slots.{get_in}
use Rattle.scope_flow.specs.Slots.{kind_of_own_slot}
use Rattle.scope_flow.specs.Signatures.{LiesAround, SlotsReach}
use Rattle.flow_facts.proofs.HeldFields.{suited, in_object}

pub in_head : {A : Type 0} (x y : A) (xs : List A) → Element x (y ∷ xs) → (y ≡ x) ⊎ Element x xs
in_head x y xs here = inl refl
in_head x y xs (there h) = inr h

in_aux : {A : Type 0} (x : A) (xs ys : List A) → Element x (reverse_aux xs ys) → Element x xs ⊎ Element x ys
in_aux x [] ys h = inr h
in_aux x (y ∷ xs) ys h = elim (in_aux x xs (y ∷ ys) h) as (λ z. Element x (y ∷ xs) ⊎ Element x ys) [
  | inl k ↦ inl (there k)
  | inr k ↦ elim (in_head x y ys k) as (λ z. Element x (y ∷ xs) ⊎ Element x ys)
      [ inl e ↦ inl (subst (λ z. Element z (y ∷ xs)) e here) | inr m ↦ inr m ]
]

pub in_reversed : {A : Type 0} (x : A) (xs : List A) → Element x (reverse xs) → Element x xs
in_reversed x xs h = elim (in_aux x xs [] h) as (λ z. Element x xs) [ inl k ↦ k | inr k ↦ absurd (elim k [ ]) ]

-- what a filter leaves passes its test
pub filter_passes : {A : Type 0} (test : A → Bool) (x : A) (xs : List A) → Element x (filter test xs) → test x ≡ true
filter_passes test x [] h = elim h [ ]
filter_passes {A} test x (y ∷ xs) h = go (test y) refl (filter_passes test x xs) h
  where
    go : (t : Bool) → test y ≡ t → (Element x (filter test xs) → test x ≡ true) → Element x (filter test (y ∷ xs)) →
        test x ≡ true
    go true e ih h = elim (in_head x y (filter test xs) (rw e at h)) as (λ z. test x ≡ true)
        [ inl s ↦ ap test (sym s) ∙ e | inr k ↦ ih k ]
    go false e ih h = ih (rw e at h)

-- a reference in a named scope is declared there
named_scope : (o : Option Ty) (s : Option Scope) (t : Ty) (n : ℕ) → kind_of o s ≡ Some (reference t (In n)) →
    s ≡ Some (In n)
unfolding kind_of
named_scope (Some (ClassTy c)) (Some r) t n e =
    (let f : reference (ClassTy c) r ≡ reference t (In n) = some_inj _ _ e in let g : r ≡ In n = cc (f) in
    ap (λ r. Some r) g)
named_scope (Some IntArray) (Some r) t n e =
    (let f : reference IntArray r ≡ reference t (In n) = some_inj _ _ e in let g : r ≡ In n = cc (f) in
    ap (λ r. Some r) g)
named_scope (Some BoolArray) (Some r) t n e =
    (let f : reference BoolArray r ≡ reference t (In n) = some_inj _ _ e in let g : r ≡ In n = cc (f) in
    ap (λ r. Some r) g)
named_scope (Some (ClassArray c)) (Some r) t n e =
    (let f : reference (ClassArray c) r ≡ reference t (In n) = some_inj _ _ e in let g : r ≡ In n = cc (f) in
    ap (λ r. Some r) g)
named_scope (Some (ClassTy c)) None t n e = absurd (cc (e))
named_scope (Some IntArray) None t n e = absurd (cc (e))
named_scope (Some BoolArray) None t n e = absurd (cc (e))
named_scope (Some (ClassArray c)) None t n e = absurd (cc (e))
named_scope (Some Int) s t n e = absurd (let f : number ≡ reference t (In n) = some_inj _ _ e in cc (f))
named_scope (Some Boolean) s t n e = absurd (let f : truth ≡ reference t (In n) = some_inj _ _ e in cc (f))
named_scope (Some NullTy) s t n e =
    absurd (let f : reference NullTy Any ≡ reference t (In n) = some_inj _ _ e in let g : Any ≡ In n = cc (f) in cc (g))
named_scope (Some Void) s t n e = absurd (cc (e))
named_scope (Some Label) s t n e = absurd (cc (e))
named_scope None s t n e = absurd (cc (e))

module _ (forest : Forest) (accepted : IsAccepted forest) (whole : IsForest forest) (sorted : IsWellSorted forest.nodes)
  where
    abbrev p : Declarations
    p = declarations_of forest

    -- an instance field of an object, with the class that declares it
    record IsDeclaredOn (class : ℕ) (d : Declared) : Type 0 where
      on : ℕ
      above : Element on (superclasses p.classes class)
      plain : d.modifiers.is_static ≡ false
      stands : FieldAt forest accepted whole sorted on d

    declared_on : (class : ℕ) (d : Declared) → Element d (instance_fields p.classes class) → IsDeclaredOn class d
    unfolding instance_fields own_instance_fields
    declared_on class d h =
        let q = flat_in (own_instance_fields p.classes) d (reverse (superclasses p.classes class)) h in
        go q.0 (in_reversed q.0 (superclasses p.classes class) q.1) (slice_get p.classes q.0) refl q.2
      where
        none : Element d [] → ⊥
        none h = elim h [ ]

        go : (on : ℕ) → Element on (superclasses p.classes class) → (o : Option ClassRow) → slice_get p.classes on ≡ o →
            Element d
            (elim o as (λ _. List Declared)
            [ None ↦ [] | Some row ↦ filter (λ (f : Declared). not f.modifiers.is_static) row.fields ]) →
            IsDeclaredOn class d
        go on a None e h = absurd (none h)
        go on a (Some row) e h =
            record {
              on = on;
              above = a;
              plain =
                  not_true d.modifiers.is_static
                  (filter_passes (λ (f : Declared). not f.modifiers.is_static) d row.fields h);
              stands =
                  row_field forest accepted whole sorted on row d e
                  (in_filtered (λ (f : Declared). not f.modifiers.is_static) d row.fields h);
            }
          where
            not_true : (t : Bool) → not t ≡ true → t ≡ false
            not_true true e = absurd (true≢false (sym e))
            not_true false e = refl

    abbrev Lies : ℕ → Scope → Type 0
    Lies class now = (this_in p class ≡ Some This) ⊎ (this_in p class ≡ Some now)

    -- a class that lies in a scope is made there
    made_there : (class n : ℕ) (now : Scope) → class_scope p class ≡ annotated n → Lies class now → now ≡ In n
    unfolding this_in
    made_there class n now e (inl h) =
        absurd (let z : Some (In n) ≡ Some This = sym (ap (λ s. scope_or s (Some This)) e) ∙ h in
        let f : In n ≡ This = some_inj (In n) This z in cc (f))
    made_there class n now e (inr h) = some_inj now (In n) (sym h ∙ ap (λ s. scope_or s (Some This)) e)

    around : (class n : ℕ) (now : Scope) (d : Declared) (t : Ty) → class < length p.classes → Lies class now →
        IsDeclaredOn class d → kind_of_field p d ≡ Some (reference t (In n)) → LiesAround p n now
    unfolding kind_of_field
    around class n now d t l lies on e =
        let s = on.stands in
        let scope : field_scope p on.on d ≡ Some (In n) =
        sym (ap (λ (o : Option ℕ). option_and_then (λ class. field_scope p class d) o) s.stands_in_class)
        ∙ named_scope (declared_type_of p d) (in_class p d.node (λ class. field_scope p class d)) t n e in
        let suits : suits_field p (class_scope p on.on) false (In n) ≡ true =
        sym (ap (λ t. suits_field p (class_scope p on.on) t (In n)) on.plain) ∙ field_suits p on.on d (In n) scope in
        elim (suited p (class_scope p on.on) (In n) suits (all_known forest accepted whole sorted on.on)) as
        (λ z. LiesAround p n now) [
          | inl h ↦ absurd (cc (h))
          | inr h ↦ (
              let same : h.0 ≡ n = (let f = h.1 in cc (f)) in
              elim h.2 as (λ z. LiesAround p n now) [
                | inl i ↦ inl (sym same ∙ i)
                | inr m ↦ inr (
                  m.0,
                  made_there class m.0 now
                      (scope_of_above forest accepted whole sorted class on.on m.0 l
                      (among_in on.on (superclasses p.classes class) on.above) m.1) lies,
                  subst (λ k. is_outer p k m.0 ≡ true) same m.2,
                )
              ])
        ]

    pub slots_reach : (class : ℕ) (now : Scope) → class < length p.classes → Lies class now → SlotsReach p class now
    unfolding kind_of_own_slot
    slots_reach class now l lies slot t n e =
        go (nat_lt slot (hidden_fields p.classes class)) (sym (in_object forest accepted whole sorted class slot l) ∙ e)
      where
        index : ℕ
        index = slot - hidden_fields p.classes class

        go : (h : Bool) →
            (if h then Some number else option_and_then (kind_of_field p)
            (slice_get (instance_fields p.classes class) index)) ≡ Some (reference t (In n)) → LiesAround p n now
        go true e = absurd (let f : number ≡ reference t (In n) = some_inj number (reference t (In n)) e in cc (f))
        go false e =
            let d = of_option (slice_get (instance_fields p.classes class) index) (kind_of_field p) (reference t (In n)) e
            in
            around class n now d.0 t l lies
            (declared_on class d.0 (get_in (instance_fields p.classes class) index d.0 d.1)) d.2
