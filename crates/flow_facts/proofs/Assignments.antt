-- What an assignment of an accepted program has, by its target: a local, a field of the own object or of another one, a
-- static field, or an element of an array. A target has what it has as an expression, and the value fits it.
use Rattle.std.proofs.Common.{◌≡◌, ℕ, List, refl, sym, ap, ◌∙◌, subst, Option, Some, None, Bool, true, false, not, ◌&&◌, true≢false, inl, inr, option_and_then, option_map, slice_get, arith, if◌then◌else◌, ◌⊎◌}
use Rattle.scj_base.specs.declared.positions.Position.{Position}
use Rattle.scj_tree.specs.declared.nodes.Node.{Node}
use Rattle.scj_tree.specs.declared.nodes.Node.TheVariants.{Assign, SimpleName, FieldAccess, Element}
use Rattle.scj_tree.specs.Forest.{Forest, IsForest}
use Rattle.scj_rules.specs.declared.typing.Binding.TheVariants.{Plain, Length, Static, Field as InstanceField, Local as LocalVariable}
use Rattle.scj_rules.specs.declared.typing.Meaning.{Meaning}
use Rattle.scj_rules.specs.declared.typing.Meaning.TheVariants.{Class as a_class, Field as a_field, Nothing as nothing, Variable as a_variable}
use Rattle.scj_rules.specs.declared.typing.Subject.{Subject}
use Rattle.scj_rules.specs.declared.typing.Subject.TheVariants.{This as this_object}
use Rattle.scj_rules.specs.declared.typing.Scope.{Scope}
use Rattle.scj_rules.specs.declared.typing.Scope.TheVariants.{This, Caller}
use Rattle.scj_rules.specs.declared.typing.Ty.{Ty}
use Rattle.scj_rules.specs.declared.typing.Ty.TheVariants.{Class as ClassTy, IntArray, BoolArray, ClassArray}
use Rattle.scj_rules.specs.Words.{holds}
use Rattle.scj_rules.specs.Contexts.{Declarations, declarations_of}
use Rattle.scj_rules.specs.Guards.{subject_at, is_in_this, field_of_this, stored_field, is_guarded_store}
use Rattle.scj_base.specs.Bytes.{is_same}
use Rattle.scj_rules.specs.StaticScopes.{this_in, this_name}
use Rattle.scj_rules.specs.Types.{meaning, receiver, is_length_of_array, accessed_field}
use Rattle.scj_rules.specs.TypeRules.{is_length_target}
use Rattle.scj_rules.specs.Bindings.{binding_of, access_binding, field_binding, meaning_binding, variable_binding, plain_or}
use Rattle.scj_rules.specs.Phases.{IsAccepted}
use Rattle.accepted_laws.specs.Judgements.{Inside, type_at_node, binding_at_node, Child}
use Rattle.accepted_laws.specs.Kinds.{Kind, number, truth, reference, yes, fresh, seen_kind, seen_as, unscoped, Fits, IsRealKind}
use Rattle.accepted_laws.specs.Sorts.{HasRightChildren, IsWellSorted, is_target}
use Rattle.accepted_laws.proofs.RealScopes.{variable_is_real, named_is_real, this_named}
use Rattle.accepted_laws.proofs.Tools.{some_inj}
use Rattle.accepted_nodes.proofs.TypesComplete.{at_p}
use Rattle.accepted_facts.specs.Statements.{FitsAsSeen, AssignFacts}
use Rattle.accepted_facts.specs.Expressions.{InstanceFieldOf}
use Rattle.accepted_facts.proofs.NameFacts.{binding_is}
use Rattle.accepted_facts.proofs.StatementFacts.{assign_facts, fits_go}
use Rattle.scj_model.specs.Code.{Code, code_of}
use Rattle.scope_flow.specs.Needs.{FieldTakes}
use Rattle.scope_flow.specs.Slots.{kind_of_elements, IsSlotKind}
use Rattle.scope_flow.specs.StatementFacts.{ValueFits, FieldValueFits, SetStaticFact, AssignFact}
use Rattle.scj_rules.specs.declared.typing.FoundField.{FoundField}
use Rattle.scj_rules.specs.declared.typing.Receiver.{Receiver}
use Rattle.scj_rules.specs.Definitions.{read}
use Rattle.scj_rules.specs.Classes.{field_number}
use Rattle.scope_flow.specs.ValueFacts.{StaticFact, ElementFact, HasValue}
use Rattle.flow_facts.proofs.Arrays.{element_fact}
use Rattle.flow_facts.proofs.GuardedFields.{GuardedTarget, guarded_target, lies_with_object}
use Rattle.flow_facts.proofs.Locals.{goes_here}
use Rattle.flow_facts.proofs.Names.{NameFact, AccessFact, named_fact, accessed_fact}
use Rattle.flow_facts.proofs.RealKinds.{slot_is_real, immortal_is_real}
use Rattle.flow_facts.proofs.SparedGuards.{assignment_spares}

-- ---- the length of an array is no target

field_no_length : (p : Declarations) (static : Bool) (o : Option ℕ) →
    plain_or (λ k. if static then Static k else InstanceField k) o ≡ Length → ⊥
field_no_length p static None e = cc (e)
field_no_length p true (Some k) e = cc (e)
field_no_length p false (Some k) e = cc (e)

found_no_length : (p : Declarations) (o : Option FoundField) →
    plain_or (λ (f : FoundField). field_binding p f.field) o ≡ Length → ⊥
unfolding field_binding
found_no_length p None e = cc (e)
found_no_length p (Some f) e = field_no_length p f.field.modifiers.is_static (field_number p.classes f.field.node) e

bound_length : (p : Declarations) (r : Receiver) (name : List ℕ) → access_binding p r name ≡ Length →
    is_length_of_array r name ≡ true
unfolding access_binding
bound_length p r name e = go (is_length_of_array r name) refl e
  where
    go : (t : Bool) → is_length_of_array r name ≡ t →
        (if t then Length else plain_or (λ (f : FoundField). field_binding p f.field) (accessed_field p r name))
        ≡ Length → is_length_of_array r name ≡ true
    go true l e = l
    go false l e = absurd (found_no_length p (accessed_field p r name) e)

receiver_length : (p : Declarations) (name : List ℕ) (o : Option Receiver) →
    plain_or (λ r. access_binding p r name) o ≡ Length → holds o (λ r. is_length_of_array r name) ≡ true
receiver_length p name None e = absurd (cc (e))
receiver_length p name (Some r) e = bound_length p r name e

module _ (forest : Forest) (accepted : IsAccepted forest) (whole : IsForest forest) (sorted : IsWellSorted forest.nodes)
  where
    abbrev p : Declarations
    p = declarations_of forest

    abbrev code : Code
    code = code_of forest

    length_target : (target object : ℕ) (position : Position) (name : List ℕ) →
        slice_get forest.nodes target ≡ Some (FieldAccess position name object) → binding_at_node p target ≡ Length →
        holds (read p.nodes (is_length_target p (type_at_node p)) target) (λ b. b) ≡ true
    unfolding is_length_target binding_of
    length_target target object position name there e =
        ap (λ (o : Option Node). holds (option_and_then (is_length_target p (type_at_node p)) o) (λ b. b))
        (at_p forest accepted whole sorted target (FieldAccess position name object) there)
        ∙ receiver_length p name (receiver p (type_at_node p) object)
        (sym (binding_is forest accepted whole sorted target (FieldAccess position name object) there) ∙ e)

    element_bound : (target array index : ℕ) (position : Position) →
        slice_get forest.nodes target ≡ Some (Element position array index) → binding_at_node p target ≡ Plain
    unfolding binding_of
    element_bound target array index position there =
        binding_is forest accepted whole sorted target (Element position array index) there

    element_is_real : (t : Ty) (k : Kind) → kind_of_elements p t ≡ Some k → IsRealKind k
    unfolding kind_of_elements
    element_is_real IntArray k e = subst IsRealKind (some_inj number k e) tt
    element_is_real BoolArray k e = subst IsRealKind (some_inj truth k e) tt
    element_is_real (ClassArray d) k e = go (this_in p d) refl e
      where
        go : (o : Option Scope) → this_in p d ≡ o → option_map (λ s. reference (ClassTy d) s) o ≡ Some k → IsRealKind k
        go None h e = absurd (cc (e))
        go (Some s) h e =
            subst IsRealKind (some_inj (reference (ClassTy d) s) k e) (named_is_real s (this_named p s d h))
    element_is_real _ k e = absurd (cc (e))

    -- ---- what a guard allows to be stored

    guarded_at : (id target value : ℕ) (node : Node) → slice_get forest.nodes target ≡ Some node →
        is_guarded_store p (type_at_node p) id target value ≡ true → GuardedTarget forest accepted whole sorted target node
    guarded_at id target value node there g = guarded_target forest accepted whole sorted id target value node there g

    element_unguarded : (id target value array index : ℕ) (position : Position) →
        slice_get forest.nodes target ≡ Some (Element position array index) →
        is_guarded_store p (type_at_node p) id target value ≡ true → ⊥
    unfolding stored_field
    element_unguarded id target value array index position there g =
        (let t = guarded_at id target value (Element position array index) there g in let e = t.is in cc (e))

    -- the field of a guarded store, by a simple name and by an access
    own_in_this : (id target value : ℕ) (position : Position) (name : List ℕ) (f : FoundField) →
        slice_get forest.nodes target ≡ Some (SimpleName position name) → meaning p target name ≡ a_field f →
        is_guarded_store p (type_at_node p) id target value ≡ true → is_in_this f.field ≡ true
    unfolding stored_field field_of_this
    own_in_this id target value position name f there meant g =
        let t = guarded_at id target value (SimpleName position name) there g in
        let e : Some (Some this_object, f) ≡ Some (t.subject, t.field) = sym (ap field_of_this meant) ∙ t.is in
        let h : f ≡ t.field = ap (λ (x : Option Subject × FoundField). x.1) (some_inj (Some this_object, f) (t.subject, t.field) e) in
        ap (λ (f : FoundField). is_in_this f.field) h ∙ t.in_this

    field_in_this : (id target value object : ℕ) (position : Position) (name : List ℕ) (f : FoundField) →
        slice_get forest.nodes target ≡ Some (FieldAccess position name object) →
        option_and_then (λ r. accessed_field p r name) (receiver p (type_at_node p) object) ≡ Some f →
        is_guarded_store p (type_at_node p) id target value ≡ true → is_in_this f.field ≡ true
    unfolding stored_field
    field_in_this id target value object position name f there accessed g =
        let t = guarded_at id target value (FieldAccess position name object) there g in
        go (receiver p (type_at_node p) object) accessed t.field t.in_this t.is
      where
        found : (o : Option FoundField) → o ≡ Some f → (u : Option Subject) (h : FoundField) → is_in_this h.field ≡ true →
            option_map {U = Option Subject × FoundField} (λ f. (subject_at p object, f)) o ≡ Some (u, h) → is_in_this f.field ≡ true
        found None a u h i e = absurd (cc (a))
        found (Some k) a u h i e =
            let same : k ≡ h = ap (λ (x : Option Subject × FoundField). x.1) (some_inj (subject_at p object, k) (u, h) e) in
            ap (λ (f : FoundField). is_in_this f.field) (sym (some_inj k f a) ∙ same) ∙ i

        go : (o : Option Receiver) → option_and_then (λ r. accessed_field p r name) o ≡ Some f → (h : FoundField) →
            is_in_this h.field ≡ true → {u : Option Subject} →
            option_and_then (λ r. option_map {U = Option Subject × FoundField} (λ f. (subject_at p object, f)) (accessed_field p r name)) o ≡ Some (u, h) →
            is_in_this f.field ≡ true
        go None a h i e = absurd (cc (a))
        go (Some r) a h i {u} e = found (accessed_field p r name) a u h i e

    -- what is bound as a local, or as a static field, is none
    local_unguarded : (id target value : ℕ) (position : Position) (name : List ℕ) (n : ℕ) →
        slice_get forest.nodes target ≡ Some (SimpleName position name) → binding_at_node p target ≡ LocalVariable n →
        is_guarded_store p (type_at_node p) id target value ≡ true → ⊥
    unfolding stored_field field_of_this binding_of meaning_binding field_binding
    local_unguarded id target value position name n there bound g =
        let t = guarded_at id target value (SimpleName position name) there g in
        go (meaning p target name) t.is
        (sym (binding_is forest accepted whole sorted target (SimpleName position name) there) ∙ bound)
      where
        no_local : (static_ : Bool) (o : Option ℕ) →
            plain_or (λ k. if static_ then Static k else InstanceField k) o ≡ LocalVariable n → ⊥
        no_local true None e = cc (e)
        no_local false None e = cc (e)
        no_local true (Some k) e = cc (e)
        no_local false (Some k) e = cc (e)

        go : {x : Option Subject × FoundField} (m : Meaning) → field_of_this m ≡ Some x →
            meaning_binding p target m ≡ LocalVariable n → ⊥
        go (a_field f) e b = no_local f.field.modifiers.is_static (field_number p.classes f.field.node) b
        go (a_variable v) e b = absurd (cc (e))
        go (a_class c) e b = absurd (cc (e))
        go nothing e b = absurd (cc (e))

    plain_of : (f : FoundField) → is_in_this f.field ≡ true → f.field.modifiers.is_static ≡ false
    plain_of f e = go f.field.modifiers.is_static e
      where
        go : (t : Bool) → (not t && not (holds f.field.modifiers.scope (λ w. not (is_same w.name this_name)))) ≡ true →
            t ≡ false
        go true e = absurd (true≢false (sym e))
        go false e = refl

    no_static : (n : ℕ) (o : Option ℕ) (t : Bool) → t ≡ false →
        plain_or (λ k. if t then Static k else InstanceField k) o ≡ Static n → ⊥
    no_static n o true h e = true≢false h
    no_static n None false h e = cc (e)
    no_static n (Some k) false h e = cc (e)

    static_name_unguarded : (id target value : ℕ) (position : Position) (name : List ℕ) (n : ℕ) →
        slice_get forest.nodes target ≡ Some (SimpleName position name) → binding_at_node p target ≡ Static n →
        is_guarded_store p (type_at_node p) id target value ≡ true → ⊥
    unfolding stored_field field_of_this binding_of meaning_binding field_binding variable_binding
    static_name_unguarded id target value position name n there bound g =
        let t = guarded_at id target value (SimpleName position name) there g in
        go (meaning p target name) t.is t.in_this
        (sym (binding_is forest accepted whole sorted target (SimpleName position name) there) ∙ bound)
      where
        go : {u : Option Subject} {h : FoundField} (m : Meaning) → field_of_this m ≡ Some (u, h) → is_in_this h.field ≡ true →
            meaning_binding p target m ≡ Static n → ⊥
        go {u} {h} (a_field f) e i b =
            let same : f ≡ h = ap (λ (x : Option Subject × FoundField). x.1) (some_inj (Some this_object, f) (u, h) e) in
            no_static n (field_number p.classes f.field.node) f.field.modifiers.is_static
            (plain_of f (ap (λ (f : FoundField). is_in_this f.field) same ∙ i)) b
        go (a_variable v) e i b = absurd (cc (e))
        go (a_class c) e i b = absurd (cc (e))
        go nothing e i b = absurd (cc (e))

    static_access_unguarded : (id target value object : ℕ) (position : Position) (name : List ℕ) (n : ℕ) →
        slice_get forest.nodes target ≡ Some (FieldAccess position name object) → binding_at_node p target ≡ Static n →
        is_guarded_store p (type_at_node p) id target value ≡ true → ⊥
    unfolding stored_field binding_of access_binding field_binding
    static_access_unguarded id target value object position name n there bound g =
        let t = guarded_at id target value (FieldAccess position name object) there g in
        go (receiver p (type_at_node p) object) t.is t.in_this
        (sym (binding_is forest accepted whole sorted target (FieldAccess position name object) there) ∙ bound)
      where
        found : {u : Option Subject} {h : FoundField} (o : Option FoundField) →
            option_map {U = Option Subject × FoundField} (λ f. (subject_at p object, f)) o ≡ Some (u, h) → is_in_this h.field ≡ true →
            plain_or (λ (f : FoundField). field_binding p f.field) o ≡ Static n → ⊥
        found None e i b = cc (e)
        found {u} {h} (Some f) e i b =
            let same : f ≡ h = ap (λ (x : Option Subject × FoundField). x.1) (some_inj (subject_at p object, f) (u, h) e) in
            no_static n (field_number p.classes f.field.node) f.field.modifiers.is_static
            (plain_of f (ap (λ (f : FoundField). is_in_this f.field) same ∙ i)) b

        by_length : {u : Option Subject} {h : FoundField} (r : Receiver) (l : Bool) →
            option_map {U = Option Subject × FoundField} (λ f. (subject_at p object, f)) (accessed_field p r name) ≡ Some (u, h) → is_in_this h.field ≡ true →
            (if l then Length else plain_or (λ (f : FoundField). field_binding p f.field) (accessed_field p r name)) ≡ Static n → ⊥
        by_length r true e i b = cc (b)
        by_length r false e i b = found (accessed_field p r name) e i b

        go : {u : Option Subject} {h : FoundField} (o : Option Receiver) →
            option_and_then (λ r. option_map {U = Option Subject × FoundField} (λ f. (subject_at p object, f)) (accessed_field p r name)) o ≡ Some (u, h) →
            is_in_this h.field ≡ true → plain_or (λ r. access_binding p r name) o ≡ Static n → ⊥
        go None e i b = cc (e)
        go (Some r) e i b = by_length r (is_length_of_array r name) e i b

    -- ---- kinds of which no scope is asked

    unscoped_seen : (home : Scope) (k : Kind) → unscoped (seen_kind home Caller k) ≡ seen_kind home Caller (unscoped k)
    unfolding unscoped seen_kind seen_as
    unscoped_seen home number = refl
    unscoped_seen home truth = refl
    unscoped_seen home yes = refl
    unscoped_seen home (fresh c s) = refl
    unscoped_seen home (reference t s) = refl

    unscoped_real : (k : Kind) → IsRealKind k → IsRealKind (unscoped k)
    unfolding unscoped
    unscoped_real number h = tt
    unscoped_real truth h = tt
    unscoped_real yes h = tt
    unscoped_real (fresh c s) h = tt
    unscoped_real (reference t s) h = tt

    -- what is no reference has no scope
    plain_fits : (home : Scope) (j k : Kind) → (k ≡ number) ⊎ (k ≡ truth) → Fits p home Caller j (unscoped k) →
        Fits p home Caller j k
    unfolding unscoped
    plain_fits home j k (inl e) h = subst (Fits p home Caller j) (ap unscoped e ∙ sym e) h
    plain_fits home j k (inr e) h = subst (Fits p home Caller j) (ap unscoped e ∙ sym e) h

    -- ---- what is below the target is below the assignment

    child_on : (b c id t x : ℕ) → Child p b c id t → Child p b c t x → Child p b c id x
    child_on b c id t x h k =
        record {
          smaller = (let l = h.smaller in let m = k.smaller in omega (arith, l, m));
          inside = k.inside;
          known = λ v
              a. h.known v (k.known v a);
        }

    module _ (b c id target value : ℕ) (a : AssignFacts p b c id target value) where
      abbrev given : Kind
      given = a.given

      value_fits : (home : Scope) (k : Kind) → Fits p home Caller given k → ValueFits p b c id value home k
      value_fits home k h = record { kind = given; value_is = (a.value_is.child, a.value_is.judged); fits = h }

      abbrev Guarded : Type 0
      Guarded = is_guarded_store p (type_at_node p) id target value ≡ true

      -- where no guard allows the store the value fits
      unguarded : (Guarded → ⊥) → FitsAsSeen p given a.expected
      unguarded n = elim a.fit as (λ _. FitsAsSeen p given a.expected) [ inl h ↦ h | inr h ↦ absurd (n h.1) ]

      -- a value that fits what is seen of a place of another object
      seen_goes : (home : Scope) (k : Kind) → IsRealKind k → Some a.expected ≡ Some (seen_kind home Caller k) →
          FitsAsSeen p given a.expected → Fits p home Caller given k
      seen_goes home k real e h =
          fits_go p home Caller given k real tt
          (subst (FitsAsSeen p given) (some_inj a.expected (seen_kind home Caller k) e) h)

      seen_fits : (home : Scope) (k : Kind) → IsRealKind k → Some a.expected ≡ Some (seen_kind home Caller k) →
          (Guarded → ⊥) → ValueFits p b c id value home k
      seen_fits home k real e n = value_fits home k (seen_goes home k real e (unguarded n))

      -- one that fits a place of the same body
      here_fits : (k : Kind) → IsRealKind k → Some a.expected ≡ Some k → (Guarded → ⊥) → ValueFits p b c id value This k
      here_fits k real e n =
          value_fits This k
          (goes_here p given k real (subst (FitsAsSeen p given) (some_inj a.expected k e) (unguarded n)))

      -- one that is stored in a field, which is found so
      field_fits : (position : Position) → slice_get p.nodes id ≡ Some (Assign position target value) → (class n : ℕ)
          (name : List ℕ) (home : Scope) (k : Kind) → IsSlotKind k → Some a.expected ≡ Some (seen_kind home Caller k) →
          (f : InstanceFieldOf p class name n k) → (Guarded → is_in_this f.field.field ≡ true) →
          FieldValueFits p b c id value class home k
      field_fits position stands class n name home k slot e f in_this =
          record {
            kind = given;
            value_is = (a.value_is.child, a.value_is.judged);
            fits = elim a.fit as (λ _. FieldTakes p id class home given k) [
              | inl h ↦ inl (seen_goes home k (slot_is_real k slot) e h)
              | inr h ↦ (
                  let seen : FitsAsSeen p given (seen_kind home Caller (unscoped k)) =
                  subst (FitsAsSeen p given) (ap unscoped (some_inj a.expected (seen_kind home Caller k) e) ∙ unscoped_seen home k) h.0
                  in
                  let goes : Fits p home Caller given (unscoped k) =
                  fits_go p home Caller given (unscoped k) (unscoped_real k (slot_is_real k slot)) tt seen in
                  elim (lies_with_object forest accepted whole sorted class n name k f (in_this h.1))
                  as (λ _. FieldTakes p id class home given k) [
                    | inl v ↦ inl (plain_fits home given k v goes)
                    | inr l ↦ inr (goes, l, record { position = position; target = target; value = value; is_there = stands; is_guarded = h.1 })
                  ])
            ];
          }

      below : (x : ℕ) (k : Option Kind) → HasValue p b c target x k → HasValue p b c id x k
      below x k h = (child_on b c id target x a.target_is.child h.0, h.1)

      set_static : (node : Node) → slice_get p.nodes target ≡ Some node → (Guarded → ⊥) →
          StaticFact code target (Some a.expected) → SetStaticFact code b c id target value
      unfolding code_of
      set_static node stands n x =
          record {
            node = node;
            is_there = stands;
            field = x.field;
            is = x.is;
            has = x.has;
            fits = here_fits x.has.kind
                (immortal_is_real x.has.kind x.has.is_immortal) x.is_given n;
          }

      module _ (at_place : Position) (assigned : slice_get p.nodes id ≡ Some (Assign at_place target value)) where
        of_name : (position : Position) (name : List ℕ) → slice_get forest.nodes target ≡ Some (SimpleName position name) →
            slice_get p.nodes target ≡ Some (SimpleName position name) →
            NameFact forest accepted whole sorted b c target name (Some a.expected) → AssignFact code b c id target value
        unfolding code_of
        of_name position name there stands (inl x) =
            inl (record {
              position = position;
              name = name;
              is_there = stands;
              local = x.local;
              is = x.is;
              variable = x.variable;
              is_variable = x.is_variable;
              spares = assignment_spares forest accepted whole sorted b c id target value x.local x.variable at_place position
                  name assigned there a.target_is.child.inside x.is x.is_variable.is_there;
              fits = here_fits x.is_variable.kind (variable_is_real p x.variable x.is_variable.kind x.is_variable.is_kind)
                  x.is_given (λ g. local_unguarded id target value position name x.local there x.is g);
            })
        of_name position name there stands (inr (inl y)) =
            let x = y.fact in
            inr (inl (record {
              position = position;
              name = name;
              is_there = stands;
              field = x.field;
              is = x.is;
              own = x.own;
              has = x.has;
              fits = field_fits at_place assigned c x.field name x.own.home x.has.kind x.has.is_slot_kind x.is_given y.field
                  (λ g. own_in_this id target value position name y.field.field there y.meant g);
            }))
        of_name position name there stands (inr (inr x)) =
            inr (inr (inr (inl (set_static (SimpleName position name) stands
            (λ g. static_name_unguarded id target value position name x.field there x.is g) x))))

        of_access : (position : Position) (name : List ℕ) (object : ℕ) →
            slice_get forest.nodes target ≡ Some (FieldAccess position name object) →
            slice_get p.nodes target ≡ Some (FieldAccess position name object)
            → AccessFact forest accepted whole sorted b c target object name (Some a.expected) →
            AssignFact code b c id target value
        unfolding code_of
        of_access position name object there stands (inl y) =
            let x = y.fact in
            inr (inr (inl (record {
              position = position;
              name = name;
              object = object;
              is_there = stands;
              field = x.field;
              is = x.is;
              class = x.class;
              scope = x.scope;
              object_is = below object (Some (reference (ClassTy x.class) x.scope)) x.object_is;
              has = x.has;
              fits = field_fits at_place assigned x.class x.field name x.scope x.has.kind x.has.is_slot_kind x.is_given y.field
                  (λ g. field_in_this id target value object position name y.field.field there y.accessed g);
            })))
        of_access position name object there stands (inr (inl x)) =
            inr (inr (inr (inl (set_static (FieldAccess position name object) stands
            (λ g. static_access_unguarded id target value object position name x.field there x.is g) x))))
        of_access position name object there stands (inr (inr x)) =
            absurd (true≢false (sym (length_target target object position name there x.is) ∙ a.is_no_length))

        of_element : (position : Position) (array index : ℕ) → slice_get forest.nodes target ≡ Some (Element position array index) →
            slice_get p.nodes target ≡ Some (Element position array index) →
            ElementFact p b c target array index (Some a.expected) → AssignFact code b c id target value
        unfolding code_of
        of_element position array index there stands x =
            inr (inr (inr (inr (record {
              position = position;
              array = array;
              index = index;
              is_there = stands;
              is = element_bound target array index position there;
              type = x.type;
              scope = x.scope;
              array_is = below array (Some (reference x.type x.scope)) x.array_is;
              index_is = below index (Some number) x.index_is;
              kind = x.kind;
              elements = x.elements;
              fits = seen_fits x.scope x.kind (element_is_real x.type x.kind x.elements) x.is_given
                  (λ g. element_unguarded id target value array index position there g);
            }))))

        by_target : (node : Node) → slice_get forest.nodes target ≡ Some node → is_target node ≡ true →
            AssignFact code b c id target value
        unfolding is_target
        by_target (SimpleName position name) there k =
            of_name position name there (at_p forest accepted whole sorted target (SimpleName position name) there)
            (named_fact forest accepted whole sorted b c target position name
            (Some a.expected) there a.target_is.child.inside a.target_is.judged)
        by_target (FieldAccess position name object) there k =
            of_access position name object there
            (at_p forest accepted whole sorted target (FieldAccess position name object) there)
            (accessed_fact forest accepted whole sorted b c target object position name
            (Some a.expected) there a.target_is.child.inside a.target_is.judged)
        by_target (Element position array index) there k =
            of_element position array index there (at_p forest accepted whole sorted target (Element position array index) there)
            (element_fact forest accepted whole sorted b c target array index position
            (Some a.expected) there a.target_is.child.inside a.target_is.judged)
        by_target _ there k = absurd (true≢false (sym k))

    pub assign_fact : (b c id target value : ℕ) (position : Position) →
        slice_get forest.nodes id ≡ Some (Assign position target value) → Inside p b c id →
        AssignFact code b c id target value
    unfolding HasRightChildren
    assign_fact b c id target value position there inside =
        let o = (sorted.each id (Assign position target value) there).0 in
        by_target b c id target value
        (assign_facts forest accepted whole sorted b c id target value position there inside) position
        (at_p forest accepted whole sorted id (Assign position target value) there) o.node o.is_there o.passes
