-- The classes and types of an accepted program, as its runs see them: what an object is assigned to, that a class is of
-- its own type and no array's, and that a class has the scope of an annotated class above it.
use Rattle.std.proofs.Common.{◌≡◌, ℕ, ◌≤◌, zero, suc, List, [], ◌∷◌, ◌++◌, length, map, refl, sym, ap, ◌∙◌, subst, arith, Option, Some, None, Bool, true, false, ◌||◌, true≢false, ◌⊎◌, inl, inr, ◌==◌, option_and_then, slice_get, if◌then◌else◌, ◌&&◌}
use Rattle.std.proofs.lemmas.Bool.Decides.{nat_tests}
use Rattle.std.proofs.lemmas.Option.{slice_get_within}
use Rattle.scj_builtins.specs.Framework.{framework_classes, object, mission, mission_sequencer, safelet}
use Rattle.scj_tree.specs.Forest.{Forest, IsForest}
use Rattle.scj_rules.specs.declared.scopes.ClassScope.{ClassScope}
use Rattle.scj_rules.specs.declared.scopes.ClassScope.TheVariants.{Unannotated as unannotated, Annotated as annotated, Missing as scopeless}
use Rattle.scj_rules.specs.declared.typing.Scope.TheVariants.{This, In}
use Rattle.scj_rules.specs.declared.typing.Ty.{Ty}
use Rattle.scj_rules.specs.declared.typing.Ty.TheVariants.{Int, Bool as Boolean, Void, NullTy, Label, Class as ClassTy, IntArray, BoolArray, ClassArray}
use Rattle.scj_rules.specs.Words.{is_among, chain}
use Rattle.scj_rules.specs.Views.{WrittenClass}
use Rattle.scj_rules.specs.Classes.{ClassRow, first_user_class, is_user_class, framework_rows_from, superclass_in, superclasses, all_interfaces, is_sub, user_row, class_names, user_classes, written_rows}
use Rattle.scj_rules.specs.Contexts.{Declarations, declarations_of}
use Rattle.scj_rules.specs.ScopeRules.{scope_written_in}
use Rattle.scj_rules.specs.StaticScopes.{class_scope, class_scope_on, class_scope_under, scope_or, this_in, has_unknown_scope, differs_from_above, is_implied_immortal, scope_of_right_class}
use Rattle.scj_rules.specs.Types.{are_same, assigns, is_concrete}
use Rattle.scj_rules.specs.Phases.{IsAccepted}
use Rattle.scj_rules.proofs.ChainLemmas.{or_cases, same_number}
use Rattle.accepted_laws.specs.Sorts.{IsWellSorted}
use Rattle.accepted_laws.proofs.ClassNumbers.{framework_count}
use Rattle.accepted_laws.proofs.Interfaces.{interface_of_framework}
use Rattle.accepted_laws.proofs.Rows.{IsFrameworkRow, counted_is_written}
use Rattle.accepted_laws.proofs.ScopesOfClasses.{chain_is, scope_of_above, class_scope_known}
use Rattle.accepted_laws.proofs.Subtypes.{is_sub_itself, is_sub_on}
use Rattle.accepted_laws.proofs.Tools.{some_inj}
use Rattle.accepted_nodes.proofs.FormParts.{held}
use Rattle.accepted_nodes.proofs.FoundMembers.{in_mapped}
use Rattle.accepted_nodes.proofs.Slots.{get_in}
use Rattle.scope_flow.specs.Signatures.{IsConcrete}
use Rattle.scope_flow.specs.Slots.{array_type, IsOfType}
use Rattle.accepted_laws.proofs.ClassChains.{top_row}

behind_first : {A : Type 0} (xs ys : List A) (i : ℕ) (z : A) → length xs ≤ i → slice_get (xs ++ ys) i ≡ Some z →
    (j : ℕ) × (slice_get ys j ≡ Some z)
behind_first [] ys i z l e = (i, e)
behind_first (x ∷ xs) ys zero z l e = absurd (omega (arith, l))
behind_first (x ∷ xs) ys (suc i) z l e = behind_first xs ys i z (omega (arith, l)) e

written_of_user : (c : WrittenClass) (row : ClassRow) → row.written ≡ Some c → row.written ≡ None → ⊥
written_of_user c row e f = (let z : None ≡ Some c = sym f ∙ e in cc (z))

-- a chain whose first number has no next one is that number
chain_alone : (next : ℕ → Option ℕ) (n a b : ℕ) → next a ≡ None → is_among b (chain next n a) ≡ true → b ≡ a
unfolding chain
chain_alone next zero a b none h = absurd (true≢false (sym h))
chain_alone next (suc n) a b none h =
    elim (or_cases (b == a) (is_among b [])
    (ap (λ (o : Option ℕ). (b == a) || is_among b (elim o as (λ _. List ℕ) [ None ↦ [] | Some c ↦ chain next n c ]))
    (sym none) ∙ h)) as (λ z. b ≡ a)
    [ inl e ↦ same_number b a e | inr e ↦ absurd (true≢false (sym e)) ]

-- the scope that a class has where its objects lie in one
annotated_is : (s : ClassScope) (n : ℕ) → scope_or s (Some This) ≡ Some (In n) → s ≡ annotated n
annotated_is unannotated n e = absurd (let f : This ≡ In n = some_inj This (In n) e in cc (f))
annotated_is (annotated m) n e =
    (let f : In m ≡ In n = some_inj (In m) (In n) e in let g : m ≡ n = cc (f) in ap (λ k. annotated k) g)
annotated_is scopeless n e = absurd (cc (e))

module _ (forest : Forest) (accepted : IsAccepted forest) where
  abbrev p : Declarations
  p = declarations_of forest

  -- a class that is concrete is one of its own type
  pub concrete_of_itself : (class : ℕ) → IsConcrete p class → IsOfType p class (ClassTy class)
  unfolding IsOfType
  concrete_of_itself class c =
      let row = held (slice_get p.classes class) (λ (row : ClassRow). is_concrete row.kind) c in
      (slice_get_within p.classes class row.0 row.1, is_sub_itself forest accepted class)

  -- an object of a type is of each type that this one may be assigned to
  pub of_assigned_type : (class : ℕ) (t u : Ty) → IsOfType p class t → assigns p.classes t u ≡ true → IsOfType p class u
  unfolding IsOfType assigns are_same
  of_assigned_type class (ClassTy b) (ClassTy c) h k = (h.0, is_sub_on forest accepted class b c h.0 h.1 k)
  of_assigned_type class IntArray IntArray h k = h
  of_assigned_type class BoolArray BoolArray h k = h
  of_assigned_type class (ClassArray b) (ClassArray c) h k =
      subst (λ x. array_type p class ≡ Some (ClassArray x)) (same_number b c k) h
  of_assigned_type class Int u h k = absurd h
  of_assigned_type class Boolean u h k = absurd h
  of_assigned_type class Void u h k = absurd h
  of_assigned_type class NullTy u h k = absurd h
  of_assigned_type class Label u h k = absurd h
  of_assigned_type class t u h k = absurd (true≢false (sym k))

  -- ---- classes of the framework have no scope

  user_row_written : (i : ℕ) (row : ClassRow) → slice_get p.classes i ≡ Some row → is_user_class i ≡ true →
      row.written ≡ None → ⊥
  unfolding declarations_of written_rows user_row
  user_row_written i row e user none =
      let users = user_classes forest in
      let first : length (framework_rows_from 0 framework_classes) ≤ i =
      (let k : first_user_class ≤ i = grind (arith, nat_tests, user) in let n = framework_count in
      omega (arith, k, n)) in
      let at : slice_get p.written i ≡ Some row =
      ap (λ rows. slice_get rows i) (sym (counted_is_written forest accepted)) ∙ e in
      let j =
      behind_first (framework_rows_from 0 framework_classes) (map (user_row forest.nodes (class_names users)) users)
      i row first at in
      let m =
      in_mapped (user_row forest.nodes (class_names users)) row users
      (get_in (map (user_row forest.nodes (class_names users)) users) j.0 row j.1) in
      written_of_user m.0 row (sym (ap (λ (r : ClassRow). r.written) m.2)) none

  pub framework_number : (i : ℕ) (row : ClassRow) → slice_get p.classes i ≡ Some row → row.written ≡ None →
      is_user_class i ≡ false
  framework_number i row e none = go (is_user_class i) refl
    where
      go : (t : Bool) → is_user_class i ≡ t → is_user_class i ≡ false
      go false u = u
      go true u = absurd (user_row_written i row e u none)

  module _ (whole : IsForest forest) (sorted : IsWellSorted forest.nodes) where
    abbrev next : ℕ → Option ℕ
    next = superclass_in p.classes

    next_is : (i : ℕ) (row : ClassRow) → slice_get p.classes i ≡ Some row → next i ≡ row.superclass
    next_is i row e = ap (λ (o : Option ClassRow). option_and_then (λ (row : ClassRow). row.superclass) o) e

    none_written : (i : ℕ) (row : ClassRow) → slice_get p.classes i ≡ Some row → row.written ≡ None →
        scope_written_in p i ≡ None
    unfolding scope_written_in
    none_written i row e w =
        ap (λ (o : Option ClassRow). option_and_then (λ (c : WrittenClass). c.modifiers.scope)
        (option_and_then (λ (row : ClassRow). row.written) o)) e
        ∙ ap (option_and_then (λ (c : WrittenClass). c.modifiers.scope)) w

    -- an unwritten class under an unannotated one isn't annotated
    isnt_annotated : (i n : ℕ) (row : ClassRow) (above : List ℕ) → slice_get p.classes i ≡ Some row →
        row.written ≡ None → superclasses p.classes i ≡ i ∷ above → class_scope_on p above ≡ unannotated →
        class_scope p i ≡ annotated n → ⊥
    unfolding class_scope class_scope_on class_scope_under scope_of_right_class is_implied_immortal
    isnt_annotated i n row above e w chain s h =
        go (has_unknown_scope p None || differs_from_above p None unannotated (is_implied_immortal p i))
        (sym (ap (class_scope_on p) chain
        ∙ ap (λ w. if has_unknown_scope p w || differs_from_above p w (class_scope_on p above)
        (is_implied_immortal p i) then scopeless else scope_of_right_class p w (class_scope_on p above)
        (is_implied_immortal p i)) (none_written i row e w)
        ∙ ap (λ s. if has_unknown_scope p None
        || differs_from_above p None s (is_implied_immortal p i) then scopeless else scope_of_right_class p None s
        (is_implied_immortal p i)) s
        ∙ ap (λ t. if has_unknown_scope p None
        || differs_from_above p None unannotated (is_implied_immortal p i) then scopeless else scope_of_right_class p
        None unannotated t) implied) ∙ h)
      where
        implied : is_implied_immortal p i ≡ false
        implied =
            ap
            (λ t. t
            && (is_among mission (superclasses p.classes i)
            || (is_among mission_sequencer (superclasses p.classes i)
            || is_among safelet (all_interfaces p.classes i)))) (framework_number i row e w)

        go : (t : Bool) → (if t then scopeless else unannotated) ≡ annotated n → ⊥
        go true h = cc (h)
        go false h = cc (h)

    chain_of : (i : ℕ) (row : ClassRow) (o : Option ℕ) → slice_get p.classes i ≡ Some row → row.superclass ≡ o →
        superclasses p.classes i ≡ i ∷ (elim o as (λ _. List ℕ) [ None ↦ [] | Some b ↦ superclasses p.classes b ])
    chain_of i row o e s =
        chain_is forest accepted i (slice_get_within p.classes i row e)
        ∙ ap (λ (o : Option ℕ). i ∷ (elim o as (λ _. List ℕ) [ None ↦ [] | Some b ↦ superclasses p.classes b ]))
        (next_is i row e ∙ s)

    top_scope : class_scope_on p [] ≡ unannotated
    unfolding class_scope_on
    top_scope = refl

    object_scope : class_scope p object ≡ unannotated
    object_scope = go (class_scope p object) refl
      where
        go : (s : ClassScope) → class_scope p object ≡ s → class_scope p object ≡ unannotated
        go unannotated e = e
        go (annotated n) e =
            (let r = top_row forest accepted in
            absurd (isnt_annotated object n r.0 [] r.1 r.4 (chain_of object r.0 None r.1 r.2) top_scope e))
        go scopeless e =
            (let r = top_row forest accepted in
            absurd
            (class_scope_known forest accepted whole sorted object (slice_get_within p.classes object r.0 r.1) e))

    above_object : class_scope_on p (superclasses p.classes object) ≡ unannotated
    unfolding class_scope
    above_object = object_scope

    framework_scope : (i n : ℕ) (row : ClassRow) → slice_get p.classes i ≡ Some row → IsFrameworkRow i row →
        class_scope p i ≡ annotated n → ⊥
    framework_scope i n row e k h = elim k.extends_object as (λ z. ⊥) [
      | inl s ↦ isnt_annotated i n row (superclasses p.classes object) e k.unwritten (chain_of i row (Some object) e s)
          above_object h
      | inr s ↦ isnt_annotated i n row [] e k.unwritten (chain_of i row None e s.0) top_scope h
    ]

    -- a class has the scope of an annotated class above it
    pub inherits_scope : (c above n : ℕ) → is_sub p.classes c above ≡ true → this_in p above ≡ Some (In n) →
        this_in p c ≡ Some (In n)
    unfolding is_sub this_in superclasses
    inherits_scope c above n h k =
        go (slice_get p.classes c) refl
        (or_cases (is_among above (superclasses p.classes c)) (is_among above (all_interfaces p.classes c)) h)
      where
        scope : class_scope p above ≡ annotated n
        scope = annotated_is (class_scope p above) n k

        go : (o : Option ClassRow) → slice_get p.classes c ≡ o → (is_among above (superclasses p.classes c) ≡ true) ⊎
            (is_among above (all_interfaces p.classes c) ≡ true) → scope_or (class_scope p c) (Some This) ≡ Some (In n)
        go (Some row) e (inl s) =
            ap (λ s. scope_or s (Some This))
            (scope_of_above forest accepted whole sorted c above n (slice_get_within p.classes c row e) s scope)
        go None e (inl s) =
            let none : superclass_in p.classes c ≡ None =
            ap (λ (o : Option ClassRow). option_and_then (λ (row : ClassRow). row.superclass) o) e in
            ap (λ x. scope_or (class_scope p x) (Some This))
            (sym (chain_alone (superclass_in p.classes) (length p.classes) c above none s)) ∙ k
        go o e (inr i) =
            (let r = interface_of_framework forest accepted c above i in
            absurd (framework_scope above n r.0 r.1 r.2 scope))
