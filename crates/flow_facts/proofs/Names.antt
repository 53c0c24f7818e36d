-- Simple names and accesses: variables in scope, fields and the length of arrays.
use Rattle.std.proofs.Common.{◌≡◌, ℕ, List, refl, sym, ap, ◌∙◌, subst, Option, Some, None, ◌⊎◌, inl, inr, slice_get}
use Rattle.scj_base.specs.declared.positions.Position.{Position}
use Rattle.scj_tree.specs.declared.nodes.Node.TheVariants.{SimpleName, FieldAccess}
use Rattle.scj_tree.specs.Forest.{Forest, IsForest}
use Rattle.scj_rules.specs.declared.typing.Meaning.{Meaning}
use Rattle.scj_rules.specs.declared.typing.Meaning.TheVariants.{Class as a_class, Field as a_field, Nothing as nothing, Variable as a_variable}
use Rattle.scj_rules.specs.declared.typing.Scope.TheVariants.{Caller}
use Rattle.scj_rules.specs.declared.typing.Ty.{Ty}
use Rattle.scj_rules.specs.declared.views.Body.TheVariants.{Written}
use Rattle.scj_rules.specs.Words.{◌>>=◌}
use Rattle.scj_rules.specs.Contexts.{Declarations, declarations_of}
use Rattle.scj_rules.specs.Types.{meaning, class_in, class_at_name, receiver, accessed_field}
use Rattle.scj_rules.specs.TypeRules.{type_of, type_of_meaning}
use Rattle.scj_rules.specs.Phases.{IsAccepted}
use Rattle.accepted_laws.specs.Judgements.{type_at_node, scope_at_node, Inside, IsValue, Judged}
use Rattle.accepted_laws.specs.Kinds.{Kind, seen_kind}
use Rattle.accepted_laws.specs.Sorts.{IsWellSorted, is_argument, is_expression}
use Rattle.accepted_laws.proofs.MemberVariables.{variable_once}
use Rattle.accepted_nodes.proofs.TypesComplete.{type_is, at_p}
use Rattle.accepted_nodes.proofs.ValueFacts.{typed_of}
use Rattle.accepted_facts.specs.Expressions.{InstanceFieldOf, IsLocal, IsOwnField, IsStaticField, IsFieldOf, IsLengthOf, NameFacts, AccessFacts}
use Rattle.accepted_facts.proofs.AccessFacts.{access_facts}
use Rattle.accepted_facts.proofs.NameFacts.{name_facts}
use Rattle.scj_model.specs.Code.{Code, code_of}
use Rattle.scope_flow.specs.Needs.{IsVariable}
use Rattle.scope_flow.specs.ValueFacts.{LocalFact, OwnFieldFact, StaticFact, FieldFact, LengthFact}
use Rattle.flow_facts.proofs.FormNodes.{is_new_node, no_form_part}
use Rattle.flow_facts.proofs.GivenKinds.{gives_value, valued}
use Rattle.flow_facts.proofs.HeldFields.{has_field, has_static}
use Rattle.flow_facts.proofs.Literals.{value_of, object_of_own}

module _ (forest : Forest) (accepted : IsAccepted forest) (whole : IsForest forest) (sorted : IsWellSorted forest.nodes)
  where
    abbrev p : Declarations
    p = declarations_of forest

    abbrev code : Code
    code = code_of forest

    local_fact : (b id : ℕ) (k : Kind) → IsLocal p b id k → LocalFact code b id (Some k)
    unfolding code_of
    local_fact b id k l =
        let v : IsVariable p (Written b) l.n l.variable =
        record {
          is_there = l.numbered;
          only = λ j e. variable_once forest b j l.n l.variable e l.numbered;
          kind = k;
          is_kind = l.kind;
        } in
        record { local = l.n; is = l.binding; variable = l.variable; is_variable = v; known = l.known; is_given = refl }

    -- a field with its declaration: of the own object, and of another one
    pub record OwnField (b c id : ℕ) (name : List ℕ) (o : Option Kind) : Type 0 where
      pub fact : OwnFieldFact code b c id o
      pub field : InstanceFieldOf p c name fact.field fact.has.kind
      pub meant : meaning p id name ≡ a_field field.field

    pub record FieldOf (b c id object : ℕ) (name : List ℕ) (o : Option Kind) : Type 0 where
      pub fact : FieldFact code b c id object o
      pub field : InstanceFieldOf p fact.class name fact.field fact.has.kind
      pub accessed : receiver p (type_at_node p) object >>= (λ r. accessed_field p r name) ≡ Some field.field

    of_kind : (class n : ℕ) (name : List ℕ) (j k : Kind) → k ≡ j → InstanceFieldOf p class name n j →
        InstanceFieldOf p class name n k
    of_kind class n name j k e f =
        record {
          field = f.field;
          named = f.named;
          plain = f.plain;
          numbered = f.numbered;
          kind = f.kind ∙ ap (λ k. Some k) (sym e);
        }

    own_field_fact : (b c id : ℕ) (name : List ℕ) (k : Kind) → IsOwnField p b c id name k → OwnField b c id name (Some k)
    unfolding code_of object_of_own of_kind
    own_field_fact b c id name k f =
        let h = has_field forest accepted whole sorted c f.n name f.declared f.field in
        let own = f.own in
        record {
          fact = record {
            field = f.n;
            is = f.binding;
            own = object_of_own p b c own;
            has = h.0;
            is_given = ap (λ k. Some k) (f.gives ∙ ap (seen_kind own.home Caller) (sym h.1));
          };
          field = of_kind c f.n name f.declared h.0.kind h.1 f.field;
          meant = f.meant;
        }

    static_fact : (class id : ℕ) (name : List ℕ) (k : Kind) → IsStaticField p class id name k →
        StaticFact code id (Some k)
    unfolding code_of
    static_fact class id name k f =
        let h = has_static forest accepted whole sorted class f.n name k f.field in
        record { field = f.n; is = f.binding; has = h.0; is_given = ap (λ k. Some k) (sym h.1) }

    field_fact : (b c id object : ℕ) (name : List ℕ) (k : Kind) → IsFieldOf p b c id object name k →
        FieldOf b c id object name (Some k)
    unfolding code_of of_kind
    field_fact b c id object name k f =
        let h = has_field forest accepted whole sorted f.class f.n name f.declared f.field in
        record {
          fact = record {
            field = f.n;
            is = f.binding;
            class = f.class;
            scope = f.scope;
            object_is = value_of p b c id object _ f.operand;
            has = h.0;
            is_given = ap (λ k. Some k) (f.gives ∙ ap (seen_kind f.scope Caller) (sym h.1));
          };
          field = of_kind f.class f.n name f.declared h.0.kind h.1 f.field;
          accessed = f.accessed;
        }

    length_fact : (b c id array : ℕ) (k : Kind) → IsLengthOf p b c id array k → LengthFact code b c id array (Some k)
    unfolding code_of
    length_fact b c id array k l =
        record {
          is = l.binding;
          type = l.array;
          scope = l.scope;
          array_is = value_of p b c id array _ l.operand;
          is_given = ap (λ k. Some k) l.gives;
        }

    -- a name that has a type names no class
    no_class : (id : ℕ) (position : Position) (name : List ℕ) (k : Kind) →
        slice_get forest.nodes id ≡ Some (SimpleName position name) → Judged p id (Some k) →
        class_at_name p id (SimpleName position name) ≡ None
    unfolding class_at_name class_in Judged type_of type_of_meaning
    no_class id position name k there j = go (meaning p id name) refl
      where
        typed : (t : Ty) × (type_of_meaning p (meaning p id name) ≡ Some t)
        typed =
            (let t = typed_of (type_at_node p id) (scope_at_node p id) k j in
            (t.0, sym (type_is forest accepted whole sorted id (SimpleName position name) there) ∙ t.1))

        go : (m : Meaning) → meaning p id name ≡ m → class_in m ≡ None
        go (a_variable v) e = refl
        go (a_field f) e = refl
        go nothing e = refl
        go (a_class c) e = absurd (let z : None ≡ Some typed.0 = sym (ap (type_of_meaning p) e) ∙ typed.1 in cc (z))

    is_value : (id : ℕ) (position : Position) (name : List ℕ) (k : Kind) →
        slice_get forest.nodes id ≡ Some (SimpleName position name) → Judged p id (Some k) →
        IsValue p id (SimpleName position name)
    unfolding is_argument is_expression is_new_node
    is_value id position name k there j =
        record {
          is_argument = refl;
          no_class = no_class id position name k there j;
          no_form_part = no_form_part forest
              accepted whole id (SimpleName position name) (at_p forest accepted whole sorted id (SimpleName position name) there)
              refl;
        }

    abbrev pub NameFact : ℕ → ℕ → ℕ → List ℕ → Option Kind → Type 0
    NameFact b c id name o = LocalFact code b id o ⊎ (OwnField b c id name o ⊎ StaticFact code id o)

    abbrev pub AccessFact : ℕ → ℕ → ℕ → ℕ → List ℕ → Option Kind → Type 0
    AccessFact b c id object name o =
        FieldOf b c id object name o ⊎ (StaticFact code id o ⊎ LengthFact code b c id object o)

    of_name : (b c id : ℕ) (name : List ℕ) (k : Kind) → NameFacts p b c id name k → NameFact b c id name (Some k)
    of_name b c id name k (inl l) = inl (local_fact b id k l)
    of_name b c id name k (inr (inl f)) = inr (inl (own_field_fact b c id name k f))
    of_name b c id name k (inr (inr f)) = inr (inr (static_fact c id name k f))

    -- what a name stands for, with the declaration of a field
    pub named_fact : (b c id : ℕ) (position : Position) (name : List ℕ) (o : Option Kind) →
        slice_get forest.nodes id ≡ Some (SimpleName position name) → Inside p b c id → Judged p id o →
        NameFact b c id name o
    unfolding gives_value
    named_fact b c id position name o there inside j =
        let v = valued forest accepted whole sorted id (SimpleName position name) o there refl j in
        subst (NameFact b c id name) (sym v.1)
        (of_name b c id name v.0
        (name_facts forest accepted whole sorted b c id position name v.0 there inside
        (is_value id position name v.0 there v.2) v.2))

    pub name_fact : (b c id : ℕ) (position : Position) (name : List ℕ) (o : Option Kind) →
        slice_get forest.nodes id ≡ Some (SimpleName position name) → Inside p b c id → Judged p id o →
        LocalFact code b id o ⊎ (OwnFieldFact code b c id o ⊎ StaticFact code id o)
    name_fact b c id position name o there inside j = go (named_fact b c id position name o there inside j)
      where
        go : NameFact b c id name o → LocalFact code b id o ⊎ (OwnFieldFact code b c id o ⊎ StaticFact code id o)
        go (inl l) = inl l
        go (inr (inl f)) = inr (inl f.fact)
        go (inr (inr f)) = inr (inr f)

    of_access : (b c id object : ℕ) (name : List ℕ) (k : Kind) → AccessFacts p b c id object name k →
        AccessFact b c id object name (Some k)
    of_access b c id object name k (inl f) = inl (field_fact b c id object name k f)
    of_access b c id object name k (inr (inl l)) = inr (inr (length_fact b c id object k l))
    of_access b c id object name k (inr (inr s)) = inr (inl (static_fact s.0 id name k s.1))

    -- what an access stands for, with the declaration of a field
    pub accessed_fact : (b c id object : ℕ) (position : Position) (name : List ℕ) (o : Option Kind) →
        slice_get forest.nodes id ≡ Some (FieldAccess position name object) → Inside p b c id → Judged p id o →
        AccessFact b c id object name o
    unfolding gives_value
    accessed_fact b c id object position name o there inside j =
        let v = valued forest accepted whole sorted id (FieldAccess position name object) o there refl j in
        subst (AccessFact b c id object name) (sym v.1)
        (of_access b c id object name v.0
        (access_facts forest accepted whole sorted b c id object position name v.0 there inside v.2))

    pub access_fact : (b c id object : ℕ) (position : Position) (name : List ℕ) (o : Option Kind) →
        slice_get forest.nodes id ≡ Some (FieldAccess position name object) → Inside p b c id → Judged p id o →
        FieldFact code b c id object o ⊎ (StaticFact code id o ⊎ LengthFact code b c id object o)
    access_fact b c id object position name o there inside j = go (accessed_fact b c id object position name o there inside j)
      where
        go : AccessFact b c id object name o →
            FieldFact code b c id object o ⊎ (StaticFact code id o ⊎ LengthFact code b c id object o)
        go (inl f) = inl f.fact
        go (inr (inl f)) = inr (inl f)
        go (inr (inr f)) = inr (inr f)
