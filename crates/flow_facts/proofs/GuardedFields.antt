-- A store that a guard allows: its field's scope is where the object lies, and the node is such an assignment.
use Rattle.std.proofs.Common.{◌≡◌, ℕ, List, refl, sym, ap, ◌∙◌, subst, Option, Some, None, Bool, true, false, not, ◌||◌, ◌&&◌, true≢false, ◌⊎◌, inl, inr, option_and_then, option_map, slice_get, if◌then◌else◌}
use Rattle.scj_base.specs.Bytes.{is_same}
use Rattle.scj_tree.specs.declared.nodes.Node.{Node}
use Rattle.scj_tree.specs.Forest.{Forest, IsForest}
use Rattle.scj_rules.specs.declared.scopes.ClassScope.{ClassScope}
use Rattle.scj_rules.specs.declared.scopes.ClassScope.TheVariants.{Unannotated as unannotated, Annotated as annotated, Missing as scopeless}
use Rattle.scj_rules.specs.declared.scopes.Resolution.TheVariants.{Resolved as resolved, Unresolved as unresolved}
use Rattle.scj_rules.specs.declared.scopes.ScopedDeclaration.{ScopedDeclaration}
use Rattle.scj_rules.specs.declared.scopes.Written.{Written}
use Rattle.scj_rules.specs.declared.typing.FoundField.{FoundField}
use Rattle.scj_rules.specs.declared.typing.Scope.{Scope}
use Rattle.scj_rules.specs.declared.typing.Scope.TheVariants.{This, In, Unknown}
use Rattle.scj_rules.specs.declared.typing.Subject.{Subject}
use Rattle.scj_rules.specs.declared.typing.Ty.{Ty}
use Rattle.scj_rules.specs.declared.typing.Ty.TheVariants.{Int, Bool as Boolean, NullTy, Class as ClassTy, IntArray, BoolArray, ClassArray}
use Rattle.scj_rules.specs.declared.views.Declared.{Declared}
use Rattle.scj_rules.specs.declared.views.WrittenType.{WrittenType}
use Rattle.scj_rules.specs.declared.views.WrittenType.TheVariants.{Class as class_type}
use Rattle.scj_rules.specs.Words.{is_among, holds}
use Rattle.scj_rules.specs.Classes.{is_sub, superclasses, all_interfaces}
use Rattle.scj_rules.specs.ClassRules.{class_written}
use Rattle.scj_rules.specs.Contexts.{Declarations, declarations_of, in_class}
use Rattle.scj_rules.specs.Guards.{is_guarded, subject_at, is_in_this, stored_field, fits_by_guard, is_guarded_store}
use Rattle.scj_rules.specs.ScopeRules.{immortal_scope}
use Rattle.scj_rules.specs.StaticScopes.{class_scope, scope_or, this_in, this_name, caller_name, unknown_name, resolved_or_missing, resolved_scope, resolve_at, resolve_defined, resolve_name, denotes_nothing, has_no_scope, type_scope, is_rightly_scoped, scope_as_written, declaration_scope, scoped_field, misfits_field, field_scope}
use Rattle.scj_rules.specs.Types.{type_written}
use Rattle.scj_rules.specs.TypeRules.{declared_type_of}
use Rattle.scj_rules.specs.Phases.{IsAccepted}
use Rattle.accepted_laws.specs.Judgements.{type_at_node}
use Rattle.accepted_laws.specs.Kinds.{Kind, number, truth, reference, kind_of, kind_of_field}
use Rattle.accepted_laws.specs.Sorts.{IsWellSorted}
use Rattle.accepted_laws.proofs.MethodNodes.{same_bytes}
use Rattle.accepted_laws.proofs.Tools.{some_inj}
use Rattle.accepted_nodes.proofs.FoundMembers.{FieldFound, field_found}
use Rattle.accepted_nodes.proofs.TypesComplete.{at_p}
use Rattle.accepted_facts.specs.Expressions.{InstanceFieldOf}
use Rattle.accepted_facts.proofs.DeclaredKinds.{holds_values, field_holds}
use Rattle.scope_flow.specs.Needs.{LiesWithObject}
use Rattle.flow_facts.proofs.ClassFacts.{inherits_scope}

and_true : (a b : Bool) → (a && b) ≡ true → (a ≡ true) × (b ≡ true)
and_true true b e = (refl, e)
and_true false b e = absurd (true≢false (sym e))

not_true : (t : Bool) → not t ≡ true → t ≡ false
not_true true e = absurd (true≢false (sym e))
not_true false e = refl

not_false : (t : Bool) → not t ≡ false → t ≡ true
not_false true e = refl
not_false false e = absurd (true≢false e)

-- what holds of an option holds of something
held : {A : Type 0} (o : Option A) (test : A → Bool) → holds o test ≡ true → (x : A) × (o ≡ Some x) × (test x ≡ true)
held None test e = absurd (true≢false (sym e))
held (Some x) test e = (x, refl, e)

-- THIS isn't the name UNKNOWN
this_is_known : (name : List ℕ) → is_same name this_name ≡ true → is_same name unknown_name ≡ false
this_is_known name e = ap (λ n. is_same n unknown_name) (same_bytes name this_name e)

module _ (p : Declarations) where
  none_is : (s : Scope) → None ≡ Some s → ⊥
  none_is s e = cc (e)

  -- a class that lies in one scope is one's own
  class_named : (names : List (List ℕ)) (w : WrittenType) (class : ℕ) → class_written names w ≡ Some class →
      type_written names w ≡ Some (ClassTy class)
  unfolding class_written type_written
  class_named names (class_type name) class e = ap (option_map (λ class. ClassTy class)) e
  class_named names _ class e = absurd (cc (e))

  -- the type of a declaration lies in a scope of its own
  record TypeLies (d : Declared) (s : Scope) : Type 0 where
    class : ℕ
    scope : ℕ
    typed : declared_type_of p d ≡ Some (ClassTy class)
    is : s ≡ In scope
    lies : this_in p class ≡ Some (In scope)

  type_lies : (d : Declared) (n : ℕ) (s : Scope) → type_scope p d.declared_type ≡ annotated n → Some (In n) ≡ Some s →
      TypeLies d s
  unfolding type_scope this_in
  type_lies d n s e h = go (class_written p.names d.declared_type) refl e
    where
      go : (o : Option ℕ) → class_written p.names d.declared_type ≡ o →
          (elim o as (λ _. ClassScope) [ None ↦ unannotated | Some class ↦ class_scope p class ]) ≡ annotated n →
          TypeLies d s
      go None k e = absurd (cc (e))
      go (Some class) k e =
          record {
            class = class;
            scope = n;
            typed = class_named p.names d.declared_type class k;
            is = sym (some_inj (In n) s h);
            lies = ap (λ s. scope_or s (Some This)) e;
          }

  -- the name THIS in an annotation
  names_this : (f : ScopedDeclaration) (w : Written) (s : Scope) → is_same w.name this_name ≡ true →
      resolved_scope (resolve_at p f w.name) ≡ Some s → this_in p f.class ≡ Some s
  unfolding resolve_at resolve_name
  names_this f w s same e =
      by_nothing (denotes_nothing p f w.name)
      (sym
      (ap
      (λ t. resolved_scope (if t then (if f.is_variable then resolved Unknown else unresolved)
      else (if denotes_nothing p f w.name then unresolved else resolve_name p f.class f.current w.name)))
      (this_is_known w.name same)) ∙ e)
    where
      resolved_is : (o : Option Scope) → resolved_scope (resolved_or_missing o) ≡ o
      resolved_is None = refl
      resolved_is (Some s) = refl

      by_nothing : (b : Bool) →
          resolved_scope (if b then unresolved else resolve_name p f.class f.current w.name) ≡ Some s →
          this_in p f.class ≡ Some s
      by_nothing true e = absurd (none_is s e)
      by_nothing false e =
          sym
          (ap
          (λ t. resolved_scope (if t then resolved_or_missing (this_in p f.class)
          else (if is_same w.name caller_name then resolved_or_missing f.current else resolve_defined p w.name))) same
          ∙ resolved_is (this_in p f.class)) ∙ e

  -- the scope of an instance field whose written or default scope is THIS: its class's THIS, or that of its type
  in_this : (class : ℕ) (d : Declared) (s : Scope) → is_in_this d ≡ true → field_scope p class d ≡ Some s →
      (this_in p class ≡ Some s) ⊎ TypeLies d s
  unfolding field_scope declaration_scope scope_as_written
  in_this class d s t e = by_misfit (misfits_field p class d) e
    where
      parts : (not d.modifiers.is_static ≡ true) × (not (holds d.modifiers.scope (λ w. not (is_same w.name this_name))) ≡ true)
      parts = and_true (not d.modifiers.is_static) (not (holds d.modifiers.scope (λ w. not (is_same w.name this_name)))) t

      plain : d.modifiers.is_static ≡ false
      plain = not_true d.modifiers.is_static parts.0

      named : (w : Written) → Option Scope
      named w = resolved_scope (resolve_at p (scoped_field p class d) w.name)

      written : Option Scope
      written = elim d.modifiers.scope as (λ _. Option Scope) [ None ↦ (scoped_field p class d).default | Some w ↦ named w ]

      by_scope : (o : Option Written) → not (holds o (λ w. not (is_same w.name this_name))) ≡ true →
          (elim o as (λ _. Option Scope) [ None ↦ (scoped_field p class d).default | Some w ↦ named w ]) ≡ Some s →
          this_in p class ≡ Some s
      by_scope None k e = sym (ap (λ t. if t then Some (In immortal_scope) else this_in p class) plain) ∙ e
      by_scope (Some w) k e =
          names_this (scoped_field p class d) w s
          (not_false (is_same w.name this_name) (not_true (not (is_same w.name this_name)) k)) e

      by_class : (c : ClassScope) → type_scope p d.declared_type ≡ c → scope_or c written ≡ Some s →
          (this_in p class ≡ Some s) ⊎ TypeLies d s
      by_class unannotated c e = inl (by_scope d.modifiers.scope parts.1 e)
      by_class (annotated n) c e = inr (type_lies d n s c e)
      by_class scopeless c e = absurd (none_is s e)

      by_right : (b : Bool) → (if b then scope_or (type_scope p d.declared_type) written else None) ≡ Some s →
          (this_in p class ≡ Some s) ⊎ TypeLies d s
      by_right true e = by_class (type_scope p d.declared_type) refl e
      by_right false e = absurd (none_is s e)

      by_kind : (b : Bool) →
          (if b then None
          else (if is_rightly_scoped p (scoped_field p class d) then scope_or (type_scope p d.declared_type) written
          else None)) ≡ Some s → (this_in p class ≡ Some s) ⊎ TypeLies d s
      by_kind true e = absurd (none_is s e)
      by_kind false e = by_right (is_rightly_scoped p (scoped_field p class d)) e

      by_misfit : (b : Bool) → (if b then None else declaration_scope p (scoped_field p class d)) ≡ Some s →
          (this_in p class ≡ Some s) ⊎ TypeLies d s
      by_misfit true e = absurd (none_is s e)
      by_misfit false e = by_kind (has_no_scope d.declared_type) e

-- a kind of a reference: its type and its scope
record ReferenceKind (t : Option Ty) (s : Option Scope) (k : Kind) : Type 0 where
  type : Ty
  scope : Scope
  typed : t ≡ Some type
  scoped : s ≡ Some scope
  is : k ≡ reference type scope

-- a kind of a declared type is that of a value, or of a reference
referred : (t : Option Ty) (s : Option Scope) (k : Kind) →
    ((u : Ty) → t ≡ Some u → holds_values u ≡ true) → kind_of t s ≡ Some k →
    ((k ≡ number) ⊎ (k ≡ truth)) ⊎ ReferenceKind t s k
unfolding kind_of holds_values
referred (Some Int) s k n e = inl (inl (sym (some_inj number k e)))
referred (Some Boolean) s k n e = inl (inr (sym (some_inj truth k e)))
referred (Some (ClassTy c)) (Some r) k n e =
    inr (record { type = ClassTy c; scope = r; typed = refl; scoped = refl; is = sym (some_inj (reference (ClassTy c) r) k e) })
referred (Some IntArray) (Some r) k n e =
    inr (record { type = IntArray; scope = r; typed = refl; scoped = refl; is = sym (some_inj (reference IntArray r) k e) })
referred (Some BoolArray) (Some r) k n e =
    inr (record { type = BoolArray; scope = r; typed = refl; scoped = refl; is = sym (some_inj (reference BoolArray r) k e) })
referred (Some (ClassArray c)) (Some r) k n e =
    inr (record { type = ClassArray c; scope = r; typed = refl; scoped = refl; is = sym (some_inj (reference (ClassArray c) r) k e) })
referred (Some NullTy) s k n e = absurd (true≢false (sym (n NullTy refl)))
referred t s k n e = absurd (cc (e))

module _ (forest : Forest) (accepted : IsAccepted forest) (whole : IsForest forest) (sorted : IsWellSorted forest.nodes)
  where
    abbrev q : Declarations
    q = declarations_of forest

    -- THIS of the class that declares a field is THIS or a named scope, and then that of the classes under it
    this_under : (class on : ℕ) (s : Scope) (t : Ty) → is_among on (superclasses q.classes class) ≡ true →
        this_in q on ≡ Some s → LiesWithObject q class (reference t s)
    unfolding LiesWithObject this_in is_sub
    this_under class on s t above e = go (class_scope q on) refl e
      where
        there : (n : ℕ) → class_scope q on ≡ annotated n → scope_or (class_scope q class) (Some This) ≡ Some (In n)
        there n c =
            inherits_scope forest accepted whole sorted class on n
            (ap (λ b. b || is_among on (all_interfaces q.classes class)) above)
            (ap (λ s. scope_or s (Some This)) c)

        go : (c : ClassScope) → class_scope q on ≡ c → scope_or c (Some This) ≡ Some s →
            LiesWithObject q class (reference t s)
        go unannotated c e = subst (λ s. LiesWithObject q class (reference t s)) (some_inj This s e) tt
        go (annotated n) c e = subst (λ s. LiesWithObject q class (reference t s)) (some_inj (In n) s e) (inl (there n c))
        go scopeless c e = absurd (cc (e))

    type_under : (class : ℕ) (d : Declared) (s : Scope) (t : Ty) → declared_type_of q d ≡ Some t → TypeLies q d s →
        LiesWithObject q class (reference t s)
    unfolding LiesWithObject
    type_under class d s t typed h =
        subst (λ s. LiesWithObject q class (reference t s)) (sym h.is)
        (inr (h.class, some_inj t (ClassTy h.class) (sym typed ∙ h.typed), h.lies))

    -- a field whose written or default scope is THIS holds a number or a truth value, or lies with its object
    pub lies_with_object : (class n : ℕ) (name : List ℕ) (k : Kind) (f : InstanceFieldOf q class name n k) →
        is_in_this f.field.field ≡ true → ((k ≡ number) ⊎ (k ≡ truth)) ⊎ LiesWithObject q class k
    unfolding kind_of_field
    lies_with_object class n name k f t =
        elim (referred (declared_type_of q d) (in_class q d.node (λ class. field_scope q class d)) k
        (λ u e. field_holds forest sorted d.node d u stands.is_there e) f.kind) as (λ _. ((k ≡ number) ⊎ (k ≡ truth)) ⊎ LiesWithObject q class k)
        [ inl h ↦ inl h | inr h ↦ inr (subst (LiesWithObject q class) (sym h.is) (by_scope h.type h.scope h.typed h.scoped)) ]
      where
        d : Declared
        d = f.field.field

        stands : FieldFound forest accepted whole sorted class f.field
        stands = field_found forest accepted whole sorted class name f.field f.named

        by_scope : (type : Ty) (s : Scope) → declared_type_of q d ≡ Some type →
            in_class q d.node (λ class. field_scope q class d) ≡ Some s → LiesWithObject q class (reference type s)
        by_scope type s typed scoped =
            let e : field_scope q f.field.on d ≡ Some s =
            sym (ap (λ (o : Option ℕ). option_and_then (λ class. field_scope q class d) o) stands.stands_in_class) ∙ scoped in
            elim (in_this q f.field.on d s t e) as (λ _. LiesWithObject q class (reference type s))
            [ inl h ↦ this_under class f.field.on s type stands.above h | inr h ↦ type_under class d s type typed h ]

    -- what is stored under a guard, by its target
    pub record GuardedTarget (target : ℕ) (node : Node) : Type 0 where
      pub subject : Option Subject
      pub field : FoundField
      pub is : stored_field q (type_at_node q) target node ≡ Some (subject, field)
      pub in_this : is_in_this field.field ≡ true

    pub guarded_target : (id target value : ℕ) (node : Node) → slice_get forest.nodes target ≡ Some node →
        is_guarded_store q (type_at_node q) id target value ≡ true → GuardedTarget target node
    unfolding is_guarded_store
    guarded_target id target value node there e =
        let h = held (stored_field q (type_at_node q) target node) (fits_by_guard q (type_at_node q) id (subject_at q value))
        (sym (ap (λ (o : Option Node). holds (option_and_then (stored_field q (type_at_node q) target) o)
        (fits_by_guard q (type_at_node q) id (subject_at q value))) (at_p forest accepted whole sorted target node there)) ∙ e)
        in
        record {
          subject = h.0.0;
          field = h.0.1;
          is = h.1;
          in_this = (and_true (is_in_this h.0.1.field) (holds h.0.0 (λ x. holds (subject_at q value) (is_guarded q (type_at_node q) id x))) h.2).0;
        }

    -- the subjects of a guarded store
    pub record GuardedSubjects (id target value : ℕ) (node : Node) : Type 0 where
      pub holder : Subject
      pub stored : Subject
      pub field : FoundField
      pub is : stored_field q (type_at_node q) target node ≡ Some (Some holder, field)
      pub is_stored : subject_at q value ≡ Some stored
      pub guarded : is_guarded q (type_at_node q) id holder stored ≡ true

    pub guarded_subjects : (id target value : ℕ) (node : Node) → slice_get forest.nodes target ≡ Some node →
        is_guarded_store q (type_at_node q) id target value ≡ true → GuardedSubjects id target value node
    unfolding is_guarded_store
    guarded_subjects id target value node there e =
        let h = held (stored_field q (type_at_node q) target node) (fits_by_guard q (type_at_node q) id (subject_at q value))
        (sym (ap (λ (o : Option Node). holds (option_and_then (stored_field q (type_at_node q) target) o)
        (fits_by_guard q (type_at_node q) id (subject_at q value))) (at_p forest accepted whole sorted target node there)) ∙ e)
        in
        let both = and_true (is_in_this h.0.1.field) (holds h.0.0 (λ x. holds (subject_at q value) (is_guarded q (type_at_node q) id x))) h.2 in
        let a = held h.0.0 (λ x. holds (subject_at q value) (is_guarded q (type_at_node q) id x)) both.1 in
        let b = held (subject_at q value) (is_guarded q (type_at_node q) id a.0) a.2 in
        record {
          holder = a.0;
          stored = b.0;
          field = h.0.1;
          is = h.1 ∙ ap (λ (o : Option Subject). Some (o, h.0.1)) a.1;
          is_stored = b.1;
          guarded = b.2;
        }
