-- What names and field accesses of an accepted program stand for, and their kinds.
use Rattle.std.proofs.Common.{◌≡◌, ℕ, List, refl, sym, ap, ◌∙◌, subst, Option, Some, None, Bool, true, false, not, ◌&&◌, true≢false, ◌⊎◌, inl, inr, option_and_then, slice_get, position, if◌then◌else◌, ◌==◌}
use Rattle.scj_base.specs.declared.positions.Position.{Position}
use Rattle.scj_tree.specs.declared.nodes.Node.{Node}
use Rattle.scj_tree.specs.declared.nodes.Node.TheVariants.{SimpleName}
use Rattle.scj_tree.specs.Forest.{Forest, IsForest}
use Rattle.scj_rules.specs.declared.typing.Binding.TheVariants.{Local as LocalVariable, Field as InstanceField, Static}
use Rattle.scj_rules.specs.declared.typing.FoundField.{FoundField}
use Rattle.scj_rules.specs.declared.typing.Meaning.{Meaning}
use Rattle.scj_rules.specs.declared.typing.Meaning.TheVariants.{Class as a_class, Field as a_field, Nothing as nothing, Variable as a_variable}
use Rattle.scj_rules.specs.declared.typing.Scope.{Scope}
use Rattle.scj_rules.specs.declared.typing.Scope.TheVariants.{Any, This, Caller, In, Unknown, Lost}
use Rattle.scj_rules.specs.declared.typing.Ty.{Ty}
use Rattle.scj_rules.specs.declared.typing.Ty.TheVariants.{Int, Bool as Boolean, NullTy, Class as ClassTy, IntArray, BoolArray, ClassArray}
use Rattle.scj_rules.specs.Views.{variable_at}
use Rattle.scj_rules.specs.Classes.{class_number, field_named, field_number}
use Rattle.scj_rules.specs.Contexts.{Declarations, declarations_of, context, in_class, variable_named, has_object}
use Rattle.scj_rules.specs.LimitRules.{variables_of}
use Rattle.scj_rules.specs.ScopeRules.{immortal_scope}
use Rattle.scj_rules.specs.StaticScopes.{this_in, substitute, field_scope}
use Rattle.scj_rules.specs.Types.{is_reference, meaning, class_meaning, class_in, class_at_name}
use Rattle.scj_rules.specs.TypeRules.{type_of, type_of_meaning, declared_type_of, is_instance_field}
use Rattle.scj_rules.specs.UseRules.{scope_of, scope_of_meaning, scope_of_field, this_at, variable_scope_at}
use Rattle.scj_rules.specs.Bindings.{variable_binding, field_binding, meaning_binding, plain_or, binding_of}
use Rattle.scj_rules.specs.Phases.{IsAccepted}
use Rattle.accepted_laws.specs.Judgements.{type_at_node, scope_at_node, binding_at_node, Inside, IsValue, Judged}
use Rattle.accepted_laws.specs.Kinds.{Kind, number, truth, reference, kind_of, kind_of_variable, kind_of_field, seen_as, seen_kind}
use Rattle.accepted_laws.specs.Sorts.{IsWellSorted}
use Rattle.accepted_laws.proofs.DeclarationScopes.{this_has_scope, all_known}
use Rattle.accepted_laws.proofs.Judged.{bindings_are, has_object_static}
use Rattle.scj_rules.proofs.ChainLemmas.{is_same_number, same_number}
use Rattle.accepted_laws.proofs.Fields.{in_among}
use Rattle.accepted_laws.proofs.MemberVariables.{known_is_variable}
use Rattle.accepted_laws.proofs.Tools.{some_inj}
use Rattle.accepted_nodes.proofs.DeclaredScopes.{field_suits, static_field_scope, field_not_caller}
use Rattle.accepted_nodes.proofs.FoundMembers.{field_found, found_field_type}
use Rattle.accepted_nodes.proofs.ScopesComplete.{scope_is, found_field_scope}
use Rattle.accepted_nodes.proofs.Slots.{field_has_number, position_there, position_stands}
use Rattle.accepted_nodes.proofs.TypeBreaks.{right_name}
use Rattle.accepted_nodes.proofs.TypesComplete.{type_is, unbroken, variable_meant}
use Rattle.accepted_facts.specs.Expressions.{IsLocal, IsOwnField, IsStaticField, NameFacts, InstanceFieldOf, StaticFieldOf, LiesInImmortal}
use Rattle.accepted_facts.proofs.DeclaredKinds.{holds_values, has_kind, field_holds}

-- the kind of a field as one sees it who has the object in some scope
pub seen_field : (t : Ty) (f : Option Scope) (s : Scope) (j k : Kind) → kind_of (Some t) f ≡ Some j → kind_of (Some t) (option_and_then (substitute (Some s) None) f) ≡ Some k → (f ≡ Some Caller → ⊥) → k ≡ seen_kind s Caller j
unfolding kind_of substitute seen_kind seen_as
seen_field Int f s j k a b n = sym (some_inj _ _ b) ∙ ap (seen_kind s Caller) (some_inj _ _ a)
seen_field Boolean f s j k a b n = sym (some_inj _ _ b) ∙ ap (seen_kind s Caller) (some_inj _ _ a)
seen_field t (Some Caller) s j k a b n = absurd (n refl)
seen_field (ClassTy c) (Some This) s j k a b n = sym (some_inj _ _ b) ∙ ap (seen_kind s Caller) (some_inj _ _ a)
seen_field (ClassTy c) (Some Any) s j k a b n = sym (some_inj _ _ b) ∙ ap (seen_kind s Caller) (some_inj _ _ a)
seen_field (ClassTy c) (Some (In m)) s j k a b n = sym (some_inj _ _ b) ∙ ap (seen_kind s Caller) (some_inj _ _ a)
seen_field (ClassTy c) (Some Unknown) s j k a b n = sym (some_inj _ _ b) ∙ ap (seen_kind s Caller) (some_inj _ _ a)
seen_field (ClassTy c) (Some Lost) s j k a b n = sym (some_inj _ _ b) ∙ ap (seen_kind s Caller) (some_inj _ _ a)
seen_field IntArray (Some This) s j k a b n = sym (some_inj _ _ b) ∙ ap (seen_kind s Caller) (some_inj _ _ a)
seen_field IntArray (Some Any) s j k a b n = sym (some_inj _ _ b) ∙ ap (seen_kind s Caller) (some_inj _ _ a)
seen_field IntArray (Some (In m)) s j k a b n = sym (some_inj _ _ b) ∙ ap (seen_kind s Caller) (some_inj _ _ a)
seen_field IntArray (Some Unknown) s j k a b n = sym (some_inj _ _ b) ∙ ap (seen_kind s Caller) (some_inj _ _ a)
seen_field IntArray (Some Lost) s j k a b n = sym (some_inj _ _ b) ∙ ap (seen_kind s Caller) (some_inj _ _ a)
seen_field BoolArray (Some This) s j k a b n = sym (some_inj _ _ b) ∙ ap (seen_kind s Caller) (some_inj _ _ a)
seen_field BoolArray (Some Any) s j k a b n = sym (some_inj _ _ b) ∙ ap (seen_kind s Caller) (some_inj _ _ a)
seen_field BoolArray (Some (In m)) s j k a b n = sym (some_inj _ _ b) ∙ ap (seen_kind s Caller) (some_inj _ _ a)
seen_field BoolArray (Some Unknown) s j k a b n = sym (some_inj _ _ b) ∙ ap (seen_kind s Caller) (some_inj _ _ a)
seen_field BoolArray (Some Lost) s j k a b n = sym (some_inj _ _ b) ∙ ap (seen_kind s Caller) (some_inj _ _ a)
seen_field (ClassArray c) (Some This) s j k a b n = sym (some_inj _ _ b) ∙ ap (seen_kind s Caller) (some_inj _ _ a)
seen_field (ClassArray c) (Some Any) s j k a b n = sym (some_inj _ _ b) ∙ ap (seen_kind s Caller) (some_inj _ _ a)
seen_field (ClassArray c) (Some (In m)) s j k a b n = sym (some_inj _ _ b) ∙ ap (seen_kind s Caller) (some_inj _ _ a)
seen_field (ClassArray c) (Some Unknown) s j k a b n = sym (some_inj _ _ b) ∙ ap (seen_kind s Caller) (some_inj _ _ a)
seen_field (ClassArray c) (Some Lost) s j k a b n = sym (some_inj _ _ b) ∙ ap (seen_kind s Caller) (some_inj _ _ a)
seen_field NullTy f s j k a b n = sym (some_inj _ _ b) ∙ ap (seen_kind s Caller) (some_inj _ _ a)
seen_field _ _ s j k a b n = absurd (cc (a))

-- a static field lies in IMMORTAL
in_immortal : (t : Ty) (s : Option Scope) (k : Kind) → holds_values t ≡ true → (is_reference t ≡ true → s ≡ Some (In immortal_scope)) → kind_of (Some t) s ≡ Some k → LiesInImmortal k
unfolding kind_of holds_values is_reference
in_immortal Int s k h i e = subst LiesInImmortal (some_inj number k e) tt
in_immortal Boolean s k h i e = subst LiesInImmortal (some_inj truth k e) tt
in_immortal (ClassTy c) s k h i e = subst LiesInImmortal (some_inj (reference (ClassTy c) (In immortal_scope)) k (sym (ap (kind_of (Some (ClassTy c))) (i refl)) ∙ e)) refl
in_immortal IntArray s k h i e = subst LiesInImmortal (some_inj (reference IntArray (In immortal_scope)) k (sym (ap (kind_of (Some IntArray)) (i refl)) ∙ e)) refl
in_immortal BoolArray s k h i e = subst LiesInImmortal (some_inj (reference BoolArray (In immortal_scope)) k (sym (ap (kind_of (Some BoolArray)) (i refl)) ∙ e)) refl
in_immortal (ClassArray c) s k h i e = subst LiesInImmortal (some_inj (reference (ClassArray c) (In immortal_scope)) k (sym (ap (kind_of (Some (ClassArray c))) (i refl)) ∙ e)) refl
in_immortal _ s k h i e = absurd (true≢false (sym h))

-- what is seen of a static field
seen_static : (t : Ty) (object f : Option Scope) (k : Kind) → holds_values t ≡ true → (is_reference t ≡ true → f ≡ Some (In immortal_scope)) → kind_of (Some t) (option_and_then (substitute object None) f) ≡ Some k → kind_of (Some t) f ≡ Some k
unfolding kind_of holds_values is_reference substitute
seen_static Int object f k h i e = e
seen_static Boolean object f k h i e = e
seen_static (ClassTy c) object f k h i e = ap (kind_of (Some (ClassTy c))) (i refl) ∙ sym (ap (λ f. kind_of (Some (ClassTy c)) (option_and_then (substitute object None) f)) (i refl)) ∙ e
seen_static IntArray object f k h i e = ap (kind_of (Some IntArray)) (i refl) ∙ sym (ap (λ f. kind_of (Some IntArray) (option_and_then (substitute object None) f)) (i refl)) ∙ e
seen_static BoolArray object f k h i e = ap (kind_of (Some BoolArray)) (i refl) ∙ sym (ap (λ f. kind_of (Some BoolArray) (option_and_then (substitute object None) f)) (i refl)) ∙ e
seen_static (ClassArray c) object f k h i e = ap (kind_of (Some (ClassArray c))) (i refl) ∙ sym (ap (λ f. kind_of (Some (ClassArray c)) (option_and_then (substitute object None) f)) (i refl)) ∙ e
seen_static _ object f k h i e = absurd (true≢false (sym h))

module _ (forest : Forest) (accepted : IsAccepted forest) (whole : IsForest forest) (sorted : IsWellSorted forest.nodes) where
  abbrev p : Declarations
  p = declarations_of forest

  -- ---- a field that is found

  -- its type, its scope, its number and its kind
  pub record FieldKind (class : ℕ) (f : FoundField) : Type 0 where
    pub type : Ty
    pub typed : declared_type_of p f.field ≡ Some type
    pub value : holds_values type ≡ true
    pub kind : Kind
    pub is_kind : kind_of (Some type) (field_scope p f.on f.field) ≡ Some kind
    pub as_field : kind_of_field p f.field ≡ Some kind
    pub n : ℕ
    pub numbered : field_number p.classes f.field.node ≡ Some n

  pub field_kind : (class : ℕ) (name : List ℕ) (f : FoundField) → field_named p.classes class name ≡ Some f → FieldKind class f
  unfolding kind_of_field
  field_kind class name f e =
      let q = field_found forest accepted whole sorted class name f e in
      let t = found_field_type forest accepted whole sorted class name f e in
      let v = field_holds forest sorted f.field.node f.field t.0 q.is_there t.1 in
      let k = has_kind t.0 (field_scope p f.on f.field) v (λ r. found_field_scope forest accepted whole sorted class name f t.0 e t.1 r) in
      let n = field_has_number forest accepted whole sorted class name f e in
      record {
        type = t.0;
        typed = t.1;
        value = v;
        kind = k.0;
        is_kind = k.1;
        as_field = ap (λ (o : Option Ty). kind_of o (in_class p f.field.node (λ class. field_scope p class f.field))) t.1 ∙ ap (λ (o : Option ℕ). kind_of (Some t.0) (option_and_then (λ class. field_scope p class f.field) o)) q.stands_in_class ∙ k.1;
        n = n.number;
        numbered = n.is;
      }

  static_scope : (class : ℕ) (name : List ℕ) (f : FoundField) (t : Ty) → field_named p.classes class name ≡ Some f → declared_type_of p f.field ≡ Some t → f.field.modifiers.is_static ≡ true → is_reference t ≡ true → field_scope p f.on f.field ≡ Some (In immortal_scope)
  static_scope class name f t e d k r =
      let s = found_field_scope forest accepted whole sorted class name f t e d r in
      s.1 ∙ ap (λ x. Some x) (static_field_scope p f.on f.field s.0 k (field_suits p f.on f.field s.0 s.1))

  not_caller : (f : FoundField) → field_scope p f.on f.field ≡ Some Caller → ⊥
  not_caller f e = field_not_caller p f.on f.field (all_known forest accepted whole sorted f.on) e

  unfoldable pub instance_of : (class : ℕ) (name : List ℕ) (f : FoundField) → field_named p.classes class name ≡ Some f → f.field.modifiers.is_static ≡ false → (q : FieldKind class f) → InstanceFieldOf p class name q.n q.kind
  instance_of class name f e plain q = record { field = f; named = e; plain = plain; numbered = q.numbered; kind = q.as_field }

  pub static_of : (class : ℕ) (name : List ℕ) (f : FoundField) → field_named p.classes class name ≡ Some f → f.field.modifiers.is_static ≡ true → (q : FieldKind class f) → StaticFieldOf p class name q.n q.kind
  static_of class name f e static q =
      record {
        field = f;
        named = e;
        static = static;
        numbered = q.numbered;
        kind = q.as_field;
        lies = in_immortal q.type (field_scope p f.on f.field) q.kind q.value (λ r. static_scope class name f q.type e q.typed static r) q.is_kind;
      }

  pub instance_binding : (class : ℕ) (f : FoundField) → f.field.modifiers.is_static ≡ false → (q : FieldKind class f) → field_binding p f.field ≡ InstanceField q.n
  unfolding field_binding
  instance_binding class f plain q = ap (λ (o : Option ℕ). plain_or (λ k. if f.field.modifiers.is_static then Static k else InstanceField k) o) q.numbered ∙ ap (λ t. if t then Static q.n else InstanceField q.n) plain

  pub static_binding : (class : ℕ) (f : FoundField) → f.field.modifiers.is_static ≡ true → (q : FieldKind class f) → field_binding p f.field ≡ Static q.n
  unfolding field_binding
  static_binding class f static q = ap (λ (o : Option ℕ). plain_or (λ k. if f.field.modifiers.is_static then Static k else InstanceField k) o) q.numbered ∙ ap (λ t. if t then Static q.n else InstanceField q.n) static

  -- the kind of an instance field, where the object lies in some scope
  pub instance_seen : (class : ℕ) (name : List ℕ) (f : FoundField) (s : Scope) (k : Kind) → (q : FieldKind class f) → kind_of (declared_type_of p f.field) (scope_of_field p (Some s) f) ≡ Some k → k ≡ seen_kind s Caller q.kind
  unfolding scope_of_field
  instance_seen class name f s k q e = seen_field q.type (field_scope p f.on f.field) s q.kind k q.is_kind (sym (ap (λ (o : Option Ty). kind_of o (option_and_then (substitute (Some s) None) (field_scope p f.on f.field))) q.typed) ∙ e) (not_caller f)

  pub static_seen_kind : (class : ℕ) (name : List ℕ) (f : FoundField) (object : Option Scope) (k : Kind) → field_named p.classes class name ≡ Some f → f.field.modifiers.is_static ≡ true → (q : FieldKind class f) → kind_of (declared_type_of p f.field) (scope_of_field p object f) ≡ Some k → q.kind ≡ k
  unfolding scope_of_field
  static_seen_kind class name f object k e static q h =
      some_inj q.kind k (sym q.is_kind ∙ seen_static q.type object (field_scope p f.on f.field) k q.value (λ r. static_scope class name f q.type e q.typed static r)
      (sym (ap (λ (o : Option Ty). kind_of o (option_and_then (substitute object None) (field_scope p f.on f.field))) q.typed) ∙ h))

  pub binding_is : (id : ℕ) (node : Node) → slice_get forest.nodes id ≡ Some node → binding_at_node p id ≡ binding_of p (type_at_node p) id node
  unfolding declarations_of
  binding_is id node there = bindings_are p id node there

  -- ---- simple names

  turned : (w v : ℕ) → (w == v) ≡ (v == w)
  turned w v = go (w == v) refl (v == w) refl
    where
      go : (a : Bool) → (w == v) ≡ a → (b : Bool) → (v == w) ≡ b → (w == v) ≡ (v == w)
      go true e true f = e ∙ sym f
      go false e false f = e ∙ sym f
      go true e false f = absurd (true≢false (sym (is_same_number v w (sym (same_number w v e))) ∙ f))
      go false e true f = absurd (true≢false (sym (is_same_number w v (sym (same_number v w f))) ∙ e))

  position_turned : (v : ℕ) (xs : List ℕ) → position (λ w. w == v) xs ≡ position (λ w. v == w) xs
  position_turned v xs = ap (λ (test : ℕ → Bool). position test xs) (λ i w. turned w v i)

  local_facts : (b c id v : ℕ) (name : List ℕ) (k : Kind) → Inside p b c id → variable_named p id name ≡ Some v → binding_at_node p id ≡ variable_binding p id v → kind_of (option_and_then (declared_type_of p) (variable_at p.nodes v)) (variable_scope_at p v) ≡ Some k → IsLocal p b id k
  unfolding variable_binding kind_of_variable
  local_facts b c id v name k inside a bound kind =
      let d = variable_meant forest accepted whole sorted id v name a in
      let m = known_is_variable forest whole sorted id b v inside.member d.2 in
      let n = position_there v (variables_of p b) (in_among v (variables_of p b) m) in
      record {
        variable = v;
        n = n.0;
        binding = bound ∙ ap (λ (o : Option ℕ). plain_or (λ k. LocalVariable k) (option_and_then (λ member. position (λ w. w == v) (variables_of p member)) o)) inside.member
            ∙ ap (plain_or (λ k. LocalVariable k)) (position_turned v (variables_of p b) ∙ n.1);
        numbered = position_stands v (variables_of p b) n.0 n.1;
        known = d.2;
        kind = kind;
      }

  field_facts : (b c id : ℕ) (name : List ℕ) (f : FoundField) (k : Kind) → Inside p b c id → field_named p.classes c name ≡ Some f → (not f.field.modifiers.is_static && not (has_object p id)) ≡ false → binding_at_node p id ≡ field_binding p f.field → meaning p id name ≡ a_field f → kind_of (declared_type_of p f.field) (scope_of_field p (this_at p id) f) ≡ Some k
      → IsOwnField p b c id name k ⊎ IsStaticField p c id name k
  unfolding instance_of
  field_facts b c id name f k inside e object bound meant kind = go f.field.modifiers.is_static refl
    where
      q : FieldKind c f
      q = field_kind c name f e

      second : (x y : Bool) → x ≡ false → (not x && not y) ≡ false → not y ≡ false
      second true y h e = absurd (true≢false h)
      second false y h e = e

      go : (t : Bool) → f.field.modifiers.is_static ≡ t → IsOwnField p b c id name k ⊎ IsStaticField p c id name k
      go true s =
          let same = static_seen_kind c name f (this_at p id) k e s q kind in
          inr (record { n = q.n; binding = bound ∙ static_binding c f s q; field = subst (StaticFieldOf p c name q.n) same (static_of c name f e s q) })
      go false s =
          let h = this_has_scope forest accepted whole sorted c in
          let here : this_at p id ≡ Some h.0 = ap (option_and_then (this_in p)) inside.class ∙ h.1 in
          inl (record {
            own = record { has_object = has_object_static p id b inside.member (second f.field.modifiers.is_static (has_object p id) s object); home = h.0; is_home = h.1 };
            n = q.n;
            binding = bound ∙ instance_binding c f s q;
            declared = q.kind;
            field = instance_of c name f e s q;
            meant = meant;
            gives = instance_seen c name f h.0 k q (sym (ap (λ (o : Option Scope). kind_of (declared_type_of p f.field) (scope_of_field p o f)) here) ∙ kind);
          })

  -- what a simple name has, by what it means
  by_meaning : (b c id : ℕ) (name : List ℕ) (k : Kind) → Inside p b c id → (is_instance_field (meaning p id name) && not (has_object p id)) ≡ false → class_in (meaning p id name) ≡ None → binding_at_node p id ≡ meaning_binding p id (meaning p id name)
      → kind_of (type_of_meaning p (meaning p id name)) (scope_of_meaning p id (meaning p id name)) ≡ Some k → NameFacts p b c id name k
  unfolding meaning class_meaning is_instance_field class_in meaning_binding type_of_meaning scope_of_meaning kind_of
  by_meaning b c id name k inside object class bound kind = go (variable_named p id name) refl (option_and_then (λ class. field_named p.classes class name) (context p id).class) refl (context p id).before_dot (class_number p.names name) object class bound kind
    where
      last : Bool → Option ℕ → Meaning
      last t o = if t then (elim o as (λ _. Meaning) [ None ↦ nothing | Some class ↦ a_class class ]) else nothing

      of : Option ℕ → Option FoundField → Bool → Option ℕ → Meaning
      of v f t o = elim v as (λ _. Meaning) [ Some v ↦ a_variable v | None ↦ elim f as (λ _. Meaning) [ Some f ↦ a_field f | None ↦ last t o ] ]

      go : (v : Option ℕ) → variable_named p id name ≡ v → (f : Option FoundField) → option_and_then (λ class. field_named p.classes class name) (context p id).class ≡ f → (t : Bool) (o : Option ℕ)
          → (is_instance_field (of v f t o) && not (has_object p id)) ≡ false → class_in (of v f t o) ≡ None → binding_at_node p id ≡ meaning_binding p id (of v f t o) → kind_of (type_of_meaning p (of v f t o)) (scope_of_meaning p id (of v f t o)) ≡ Some k → NameFacts p b c id name k
      go (Some v) a f g t o object class bound kind = inl (local_facts b c id v name k inside a bound kind)
      go None a (Some f) g t o object class bound kind =
          let e : field_named p.classes c name ≡ Some f = sym (ap (option_and_then (λ class. field_named p.classes class name)) inside.class) ∙ g in
          let meant : meaning p id name ≡ a_field f = ap (λ v. of v (option_and_then (λ class. field_named p.classes class name) (context p id).class) (context p id).before_dot (class_number p.names name)) a
          ∙ ap (λ f. of None f (context p id).before_dot (class_number p.names name)) g in
          inr (field_facts b c id name f k inside e object bound meant kind)
      go None a None g true (Some x) object class bound kind = absurd (cc (class))
      go None a None g true None object class bound kind = absurd (cc (kind))
      go None a None g false o object class bound kind = absurd (cc (kind))

  pub name_facts : (b c id : ℕ) (position : Position) (name : List ℕ) (k : Kind) → slice_get forest.nodes id ≡ Some (SimpleName position name) → Inside p b c id → IsValue p id (SimpleName position name) → Judged p id (Some k) → NameFacts p b c id name k
  unfolding Judged type_of scope_of binding_of class_at_name
  name_facts b c id position name k there inside v judged =
      let w = right_name p (type_at_node p) id position name (unbroken forest accepted whole sorted id (SimpleName position name) there) in
      by_meaning b c id name k inside w.has_object v.no_class (binding_is id (SimpleName position name) there)
      (sym (ap (λ (o : Option Ty). kind_of o (scope_at_node p id)) (type_is forest accepted whole sorted id (SimpleName position name) there) ∙ ap (kind_of (type_of_meaning p (meaning p id name))) (scope_is forest accepted whole sorted id (SimpleName position name) there)) ∙ judged)
