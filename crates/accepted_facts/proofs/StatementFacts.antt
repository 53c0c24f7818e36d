-- What assignments, declarations with a value, returns and conditions of an accepted program have.
use Rattle.std.proofs.Common.{◌≡◌, ℕ, List, [], ◌∷◌, ◌++◌, refl, sym, ap, ◌∙◌, subst, Option, Some, None, Bool, true, false, not, ◌||◌, ◌&&◌, true≢false, ◌⊎◌, inl, inr, option_and_then, is_some, slice_get, if◌then◌else◌, ◌==◌}
use Rattle.scj_base.specs.declared.findings.Rule.{Rule}
use Rattle.scj_base.specs.declared.findings.Rule.TheVariants.{T8, E5}
use Rattle.scj_base.specs.declared.positions.Position.{Position}
use Rattle.scj_tree.specs.declared.nodes.Node.{Node}
use Rattle.scj_tree.specs.declared.nodes.Node.TheVariants.{Assign, If, While, For, SimpleName, FieldAccess, Element}
use Rattle.scj_tree.specs.Forest.{Forest, IsForest}
use Rattle.scj_tree.specs.Shape.{children, optional}
use Rattle.scj_rules.specs.declared.typing.FoundField.{FoundField}
use Rattle.scj_rules.specs.declared.typing.Meaning.{Meaning}
use Rattle.scj_rules.specs.declared.typing.Meaning.TheVariants.{Class as a_class, Field as a_field, Nothing as nothing, Variable as a_variable}
use Rattle.scj_rules.specs.declared.typing.Receiver.{Receiver}
use Rattle.scj_rules.specs.declared.typing.Scope.{Scope}
use Rattle.scj_rules.specs.declared.typing.Scope.TheVariants.{Any, This, Caller, In, Unknown, Lost}
use Rattle.scj_rules.specs.declared.typing.Ty.{Ty}
use Rattle.scj_rules.specs.declared.typing.Ty.TheVariants.{Int, Bool as Boolean, Void, NullTy, Class as ClassTy, IntArray, BoolArray, ClassArray}
use Rattle.scj_rules.specs.Definitions.{read}
use Rattle.scj_rules.specs.Words.{is_among, holds, broken, found_at}
use Rattle.scj_rules.specs.Views.{position_at}
use Rattle.scj_rules.specs.Classes.{ClassRow, class_number, field_named}
use Rattle.scj_rules.specs.Contexts.{Declarations, declarations_of, context, variable_named, object_of, declared_before}
use Rattle.scj_rules.specs.Guards.{is_guarded_store}
use Rattle.scj_rules.specs.StaticScopes.{fits, substitute}
use Rattle.scj_rules.specs.Types.{assigns, are_same, is_boolean, is_reference, element_type, meaning, class_meaning, receiver, accessed_field, class_of_receiver, is_length_of_array}
use Rattle.scj_rules.specs.TypeRules.{Types, type_of, type_of_meaning, access_type, misfits_assignment, misfits_value, is_length_target, declared_type_of, type_breaks, t1, t2, t3, t4, t5, t6, t7, t8, t9, t10, t11, t12, t13, t14}
use Rattle.scj_rules.specs.UseRules.{Scopes, misfit_scope, target_rule, use_breaks, e1, e2, e3, e4_and_e5, e6, e7, e8, e9, e10}
use Rattle.scj_rules.specs.Phases.{IsAccepted}
use Rattle.accepted_laws.specs.Judgements.{type_at_node, scope_at_node, Inside, Judged}
use Rattle.accepted_laws.specs.Kinds.{Kind, number, truth, reference, kind_of, seen_as, seen_kind, GoesTo, Fits, IsReal, IsRealKind, NamesArea, unscoped}
use Rattle.accepted_laws.specs.Sorts.{Of, HasRightChildren, IsWellSorted, is_argument, is_expression, is_target}
use Rattle.accepted_laws.proofs.Breaks.{both_empty, right, no_break_at_node}
use Rattle.accepted_laws.proofs.InnerNodes.{is_inner}
use Rattle.accepted_laws.proofs.Tools.{some_inj}
use Rattle.scj_rules.proofs.ParentLemmas.{child-less}
use Rattle.accepted_nodes.proofs.FormParts.{takes_parts}
use Rattle.accepted_nodes.proofs.FoundMembers.{field_found}
use Rattle.accepted_nodes.proofs.ScopesComplete.{of_option}
use Rattle.accepted_nodes.proofs.TypeBreaks.{right_assign}
use Rattle.accepted_nodes.proofs.TypesComplete.{at_p, type_is, unbroken, ValueAt, of_expression, same_first, same_second, of_class, variable_meant}
use Rattle.accepted_nodes.proofs.Uses.{goes_where_fits}
use Rattle.accepted_nodes.proofs.ValueChildren.{inside_child, value_child}
use Rattle.accepted_nodes.proofs.ValueFacts.{boolean_is}
use Rattle.accepted_facts.specs.Expressions.{Operand}
use Rattle.accepted_facts.specs.Statements.{FitsAsSeen, ForFacts, IsAllowedByGuard, AssignFacts}
use Rattle.accepted_facts.proofs.AccessFacts.{operand_at, type_of_value, scope_of_value, boolean_judged}
use Rattle.accepted_facts.proofs.DeclaredKinds.{holds_values, has_kind, variable_holds, field_holds}
use Rattle.accepted_facts.proofs.JudgedValues.{judged}

pub or_false : (a b : Bool) → (a || b) ≡ false → (a ≡ false) × (b ≡ false)
or_false true b e = absurd (true≢false e)
or_false false b e = (refl, e)

pub not_false : (t : Bool) → not t ≡ false → t ≡ true
not_false true e = refl
not_false false e = absurd (true≢false e)

as_fits : (p : Declarations) (x y j k : Kind) → x ≡ j → y ≡ k → FitsAsSeen p x y → FitsAsSeen p j k
as_fits p x y j k ex ey h = subst (λ y. FitsAsSeen p j y) ey (subst (λ x. FitsAsSeen p x y) ex h)

any_fits : (r : Scope) → fits Any r ≡ true
unfolding fits
any_fits r = refl

-- two kinds whose types and scopes pass
pub fits_as_seen : (p : Declarations) (t u : Ty) (s r : Option Scope) (j k : Kind) → kind_of (Some t) s ≡ Some j → kind_of (Some u) r ≡ Some k → assigns p.classes t u ≡ true → misfit_scope s r ≡ false → FitsAsSeen p j k
unfolding kind_of assigns are_same is_reference
fits_as_seen p Int Int s r j k e f a m = as_fits p number number j k (some_inj _ _ e) (some_inj _ _ f) tt
fits_as_seen p Boolean Boolean s r j k e f a m = as_fits p truth truth j k (some_inj _ _ e) (some_inj _ _ f) tt
fits_as_seen p NullTy (ClassTy c) s (Some r) j k e f a m = as_fits p (reference NullTy Any) (reference (ClassTy c) r) j k (some_inj _ _ e) (some_inj _ _ f) (refl, any_fits r)
fits_as_seen p NullTy IntArray s (Some r) j k e f a m = as_fits p (reference NullTy Any) (reference IntArray r) j k (some_inj _ _ e) (some_inj _ _ f) (refl, any_fits r)
fits_as_seen p NullTy BoolArray s (Some r) j k e f a m = as_fits p (reference NullTy Any) (reference BoolArray r) j k (some_inj _ _ e) (some_inj _ _ f) (refl, any_fits r)
fits_as_seen p NullTy (ClassArray c) s (Some r) j k e f a m = as_fits p (reference NullTy Any) (reference (ClassArray c) r) j k (some_inj _ _ e) (some_inj _ _ f) (refl, any_fits r)
fits_as_seen p NullTy NullTy s r j k e f a m = as_fits p (reference NullTy Any) (reference NullTy Any) j k (some_inj _ _ e) (some_inj _ _ f) (refl, any_fits Any)
fits_as_seen p (ClassTy c) (ClassTy d) (Some s) (Some r) j k e f a m = as_fits p (reference (ClassTy c) s) (reference (ClassTy d) r) j k (some_inj _ _ e) (some_inj _ _ f) (a, not_false (fits s r) m)
fits_as_seen p IntArray IntArray (Some s) (Some r) j k e f a m = as_fits p (reference IntArray s) (reference IntArray r) j k (some_inj _ _ e) (some_inj _ _ f) (refl, not_false (fits s r) m)
fits_as_seen p BoolArray BoolArray (Some s) (Some r) j k e f a m = as_fits p (reference BoolArray s) (reference BoolArray r) j k (some_inj _ _ e) (some_inj _ _ f) (refl, not_false (fits s r) m)
fits_as_seen p (ClassArray c) (ClassArray d) (Some s) (Some r) j k e f a m = as_fits p (reference (ClassArray c) s) (reference (ClassArray d) r) j k (some_inj _ _ e) (some_inj _ _ f) (a, not_false (fits s r) m)
fits_as_seen p t u s r j k e f a m = absurd (cc (e, f, a))

seen_fits : (home now s r : Scope) → IsReal r → NamesArea now → fits s (seen_as home now r) ≡ true → GoesTo home now s r
unfolding seen_as substitute
seen_fits home now s This real here e = goes_where_fits home now s This real here (ap not e)
seen_fits home now s Caller real here e = goes_where_fits home now s Caller real here (ap not e)
seen_fits home now s (In n) real here e = goes_where_fits home now s (In n) real here (ap not e)
seen_fits home now s Unknown real here e = goes_where_fits home now s Unknown real here (ap not e)
seen_fits home now s Lost real here e = goes_where_fits home now s Lost real here (ap not e)
seen_fits home now s Any real here e = absurd real

-- what fits a kind as it is seen goes to the kind
pub fits_go : (p : Declarations) (home now : Scope) (j k : Kind) → IsRealKind k → NamesArea now → FitsAsSeen p j (seen_kind home now k) → Fits p home now j k
unfolding seen_kind
fits_go p home now number number real here h = tt
fits_go p home now truth truth real here h = tt
fits_go p home now (reference t s) (reference u r) real here h = (h.0, seen_fits home now s r real here h.1)
fits_go p home now _ _ real here h = absurd h

-- a place of the same type of which no scope is asked, and what goes there
unscoped_kind : (u : Ty) (r : Option Scope) (k : Kind) → holds_values u ≡ true → kind_of (Some u) r ≡ Some k → kind_of (Some u) (Some Unknown) ≡ Some (unscoped k)
unfolding kind_of holds_values unscoped
unscoped_kind Int r k h e = ap (λ k. Some (unscoped k)) (some_inj _ _ e)
unscoped_kind Boolean r k h e = ap (λ k. Some (unscoped k)) (some_inj _ _ e)
unscoped_kind (ClassTy c) (Some s) k h e = ap (λ k. Some (unscoped k)) (some_inj _ _ e)
unscoped_kind IntArray (Some s) k h e = ap (λ k. Some (unscoped k)) (some_inj _ _ e)
unscoped_kind BoolArray (Some s) k h e = ap (λ k. Some (unscoped k)) (some_inj _ _ e)
unscoped_kind (ClassArray c) (Some s) k h e = ap (λ k. Some (unscoped k)) (some_inj _ _ e)
unscoped_kind u r k h e = absurd (cc (h, e))

unknown_taken : (s : Option Scope) → misfit_scope s (Some Unknown) ≡ false
unfolding fits
unknown_taken None = refl
unknown_taken (Some Any) = refl
unknown_taken (Some This) = refl
unknown_taken (Some Caller) = refl
unknown_taken (Some (In n)) = refl
unknown_taken (Some Unknown) = refl
unknown_taken (Some Lost) = refl

typed_kind : (o : Option Ty) (s : Option Scope) (k : Kind) → kind_of o s ≡ Some k → (t : Ty) × (o ≡ Some t) × (kind_of (Some t) s ≡ Some k)
unfolding kind_of
typed_kind None s k e = absurd (cc (e))
typed_kind (Some t) s k e = (t, refl, e)

pub void_no_kind : (s : Option Scope) (k : Kind) → kind_of (Some Void) s ≡ Some k → ⊥
unfolding kind_of
void_no_kind s k e = cc (e)

-- what is assigned has a value
assigns_no_void : (rows : List ClassRow) (u : Ty) → assigns rows Void u ≡ true → u ≡ Void
unfolding assigns are_same
assigns_no_void rows Void e = refl
assigns_no_void rows _ e = absurd (true≢false (sym e))

module _ (forest : Forest) (accepted : IsAccepted forest) (whole : IsForest forest) (sorted : IsWellSorted forest.nodes) where
  abbrev p : Declarations
  p = declarations_of forest

  abbrev types : Types
  types = type_at_node p

  abbrev scopes : Scopes
  scopes = scope_at_node p

  abbrev At : ℕ → ℕ → ℕ → ℕ → Type 0
  At b c id x = ValueAt forest accepted whole sorted b c id x

  -- a value directly below a statement
  pub statement_value : (b c id x : ℕ) (node : Node) → slice_get forest.nodes id ≡ Some node → Inside p b c id → is_inner node ≡ true → is_among x (children node) ≡ true → Of is_argument forest.nodes x → holds (object_of node) (λ object. object == x) ≡ false → takes_parts p id node ≡ false → At b c id x
  statement_value b c id x node there inside inner among o plain takes =
      record {
        node = o.node;
        is_there = o.is_there;
        less = child-less forest whole id x node there among;
        inside = inside_child forest whole accepted b c id x node o.node inside there inner among o.is_there;
        value = value_child forest whole accepted id x node there among o plain takes;
      }

  -- what the rules on uses say of a node that breaks none
  pub use_unbroken : (id : ℕ) (node : Node) → slice_get forest.nodes id ≡ Some node → use_breaks p types scopes id node ≡ []
  unfolding declarations_of
  use_unbroken id node there = (no_break_at_node forest accepted id node there).no_use_rule

  -- ---- conditions

  condition_at : (b c id x : ℕ) → At b c id x → broken (holds (types x) (λ t. not (is_boolean t))) T8 (position_at p.nodes x) ++ [] ≡ [] → Judged p x (Some truth)
  condition_at b c id x v e =
      let t = type_of_value forest accepted whole sorted b c id x v in
      let k = boolean_is t.0 (sym (ap (λ (o : Option Ty). holds o (λ t. not (is_boolean t))) t.1) ∙ right (holds (types x) (λ t. not (is_boolean t))) T8 (position_at p.nodes x) (both_empty (broken (holds (types x) (λ t. not (is_boolean t))) T8 (position_at p.nodes x)) [] e).0) in
      boolean_judged forest accepted whole sorted x (t.1 ∙ ap (λ t. Some t) k)

  pub if_condition : (b c id condition then_part : ℕ) (position : Position) (else_part : Option ℕ) → slice_get forest.nodes id ≡ Some (If position condition then_part else_part) → Inside p b c id → Operand p b c id condition truth
  unfolding children is_inner object_of takes_parts HasRightChildren declared_before type_breaks t1 t2 t3 t4 t5 t6 t7 t8 t9 t10 t11 t12 t13 t14
  if_condition b c id condition then_part position else_part there inside =
      let node : Node = If position condition then_part else_part in
      let s = sorted.each id node there in
      let v = statement_value b c id condition node there inside refl (same_first forest accepted whole sorted condition (then_part ∷ optional else_part)) (of_expression forest accepted whole sorted condition s.0) refl refl in
      operand_at forest accepted whole sorted b c id condition node truth there (same_first forest accepted whole sorted condition (then_part ∷ optional else_part)) refl v (condition_at b c id condition v (unbroken forest accepted whole sorted id node there))

  pub while_condition : (b c id condition body : ℕ) (position : Position) → slice_get forest.nodes id ≡ Some (While position condition body) → Inside p b c id → Operand p b c id condition truth
  unfolding children is_inner object_of takes_parts HasRightChildren declared_before type_breaks t1 t2 t3 t4 t5 t6 t7 t8 t9 t10 t11 t12 t13 t14
  while_condition b c id condition body position there inside =
      let node : Node = While position condition body in
      let s = sorted.each id node there in
      let v = statement_value b c id condition node there inside refl (same_first forest accepted whole sorted condition (body ∷ [])) (of_expression forest accepted whole sorted condition s.0) refl refl in
      operand_at forest accepted whole sorted b c id condition node truth there (same_first forest accepted whole sorted condition (body ∷ [])) refl v (condition_at b c id condition v (unbroken forest accepted whole sorted id node there))

  pub for_condition : (b c id first condition step body : ℕ) (position : Position) → slice_get forest.nodes id ≡ Some (For position first condition step body) → Inside p b c id → ForFacts p b c id condition
  unfolding children is_inner object_of takes_parts HasRightChildren type_breaks t1 t2 t3 t4 t5 t6 t7 t8 t9 t10 t11 t12 t13 t14
  for_condition b c id first condition step body position there inside =
      let node : Node = For position first condition step body in
      let s = sorted.each id node there in
      let v = statement_value b c id condition node there inside refl (same_second forest accepted whole sorted first condition (step ∷ body ∷ [])) (of_expression forest accepted whole sorted condition s.1) refl refl in
      record { smaller = v.less; inside = v.inside; judged = condition_at b c id condition v (unbroken forest accepted whole sorted id node there) }

  -- ---- a value and where it goes

  -- what is assigned to a place of a type and a scope fits the place's kind, which is there
  pub value_fits : (b c id x : ℕ) (u : Ty) (r : Option Scope) (k : Kind) → At b c id x → (node : Node) → slice_get forest.nodes x ≡ Some node → is_expression node ≡ true → kind_of (Some u) r ≡ Some k → ((t : Ty) → types x ≡ Some t → assigns p.classes t u ≡ true) → misfit_scope (scopes x) r ≡ false
      → (j : Kind) × Judged p x (Some j) × FitsAsSeen p j k
  unfolding Judged
  value_fits b c id x u r k v node there expression kind fit scope =
      let t = type_of_value forest accepted whole sorted b c id x v in
      let a = fit t.0 t.1 in
      by_judgement t.0 t.1 a (judged forest accepted whole sorted b c x v.node v.is_there v.inside v.value (ap is_expression (some_inj v.node node (sym v.is_there ∙ there)) ∙ expression))
    where
      by_judgement : (t : Ty) → types x ≡ Some t → assigns p.classes t u ≡ true → (o : Option Kind) × Judged p x o → (j : Kind) × (kind_of (types x) (scopes x) ≡ Some j) × FitsAsSeen p j k
      by_judgement t e a (None, h) =
          absurd (
          let void : t ≡ Void = some_inj t Void (sym e ∙ h) in
          let other : u ≡ Void = assigns_no_void p.classes u (sym (ap (λ t. assigns p.classes t u) void) ∙ a) in
          void_no_kind r k (sym (ap (λ u. kind_of (Some u) r) other) ∙ kind))
      by_judgement t e a (Some j, h) = (j, h, fits_as_seen p t u (scopes x) r j k (sym (ap (λ o. kind_of o (scopes x)) e) ∙ h) kind a scope)

  -- ---- targets hold values

  meaning_holds : (id : ℕ) (name : List ℕ) (u : Ty) → type_of_meaning p (meaning p id name) ≡ Some u → holds_values u ≡ true
  unfolding meaning class_meaning type_of_meaning
  meaning_holds id name u e = go (variable_named p id name) refl (option_and_then (λ class. field_named p.classes class name) (context p id).class) refl (context p id).before_dot (class_number p.names name) e
    where
      last : Bool → Option ℕ → Meaning
      last t o = if t then (elim o as (λ _. Meaning) [ None ↦ nothing | Some class ↦ a_class class ]) else nothing

      of : Option ℕ → Option FoundField → Bool → Option ℕ → Meaning
      of v f t o = elim v as (λ _. Meaning) [ Some v ↦ a_variable v | None ↦ elim f as (λ _. Meaning) [ Some f ↦ a_field f | None ↦ last t o ] ]

      go : (v : Option ℕ) → variable_named p id name ≡ v → (f : Option FoundField) → option_and_then (λ class. field_named p.classes class name) (context p id).class ≡ f → (t : Bool) (o : Option ℕ) → type_of_meaning p (of v f t o) ≡ Some u → holds_values u ≡ true
      go (Some v) a f b t o e =
          let d = variable_meant forest accepted whole sorted id v name a in
          variable_holds forest sorted v d.0 u d.1 (sym (ap (option_and_then (declared_type_of p)) d.1) ∙ e)
      go None a (Some f) b t o e = (let q = of_class (context p id).class (λ class. field_named p.classes class name) f b in field_holds forest sorted f.field.node f.field u (field_found forest accepted whole sorted q.0 name f q.2).is_there e)
      go None a None b true (Some class) e = absurd (cc (e))
      go None a None b true None e = absurd (cc (e))
      go None a None b false o e = absurd (cc (e))

  int_holds : (u : Ty) → Some Int ≡ Some u → holds_values u ≡ true
  unfolding holds_values
  int_holds u e = ap holds_values (sym (some_inj Int u e))

  access_holds : (r : Receiver) (name : List ℕ) (u : Ty) → access_type p r name ≡ Some u → holds_values u ≡ true
  unfolding access_type
  access_holds r name u e = go (is_length_of_array r name) e
    where
      go : (l : Bool) → (if l then Some Int else option_and_then (λ (f : FoundField). declared_type_of p f.field) (accessed_field p r name)) ≡ Some u → holds_values u ≡ true
      go true e = int_holds u e
      go false e =
          let f = of_option (accessed_field p r name) (λ (f : FoundField). declared_type_of p f.field) u e in
          let q = of_class (class_of_receiver r) (λ class. field_named p.classes class name) f.0 f.1 in
          field_holds forest sorted f.0.field.node f.0.field u (field_found forest accepted whole sorted q.0 name f.0 q.2).is_there f.2

  element_holds : (a u : Ty) → element_type a ≡ Some u → holds_values u ≡ true
  unfolding element_type holds_values
  element_holds IntArray u e = ap holds_values (sym (some_inj Int u e))
  element_holds BoolArray u e = ap holds_values (sym (some_inj Boolean u e))
  element_holds (ClassArray c) u e = ap holds_values (sym (some_inj (ClassTy c) u e))
  element_holds _ u e = absurd (cc (e))

  target_holds : (id : ℕ) (node : Node) (u : Ty) → slice_get forest.nodes id ≡ Some node → is_target node ≡ true → type_of p types id node ≡ Some u → holds_values u ≡ true
  unfolding type_of is_target
  target_holds id (SimpleName position name) u there k e = meaning_holds id name u e
  target_holds id (FieldAccess position name object) u there k e = (let a = of_option (receiver p types object) (λ r. access_type p r name) u e in access_holds a.0 name u a.2)
  target_holds id (Element position array index) u there k e =
      let a = of_option (types array) (λ a. option_and_then (λ i. element_type a) (types index)) u e in
      let b = of_option (types index) (λ i. element_type a.0) u a.2 in element_holds a.0 u b.2
  target_holds id _ u there k e = absurd (true≢false (sym k))

  target_is_expression : (n : Node) → is_target n ≡ true → is_expression n ≡ true
  unfolding is_target is_expression
  target_is_expression (SimpleName position name) e = refl
  target_is_expression (FieldAccess position name object) e = refl
  target_is_expression (Element position array index) e = refl
  target_is_expression _ e = absurd (true≢false (sym e))

  as_expression : (x : ℕ) → Of is_target forest.nodes x → Of is_expression forest.nodes x
  as_expression x o = record { node = o.node; is_there = o.is_there; passes = target_is_expression o.node o.passes }

  -- ---- assignments (JLS 15.26)

  target_has_rule : (id : ℕ) (node : Node) → (rule : Rule) × (target_rule p id node ≡ Some rule)
  unfolding target_rule
  target_has_rule id (SimpleName position name) = (_, refl)
  target_has_rule id _ = (E5, refl)

  abbrev Stores : ℕ → ℕ → ℕ → Bool
  Stores id target value = misfit_scope (scopes value) (scopes target) && not (is_guarded_store p types id target value)

  -- E4 and E5 at an assignment: the scope fits, or a guard allows the store
  scopes_pass : (id target value : ℕ) (position : Position) (node : Node) → slice_get forest.nodes target ≡ Some node →
      found_at (read p.nodes (target_rule p target) target) (λ rule. broken (Stores id target value) rule position) ≡ [] →
      (misfit_scope (scopes value) (scopes target) ≡ false) ⊎ (is_guarded_store p types id target value ≡ true)
  scopes_pass id target value position node there e =
      let r = target_has_rule target node in
      let s : read p.nodes (target_rule p target) target ≡ Some r.0 = ap (option_and_then (target_rule p target)) (at_p forest accepted whole sorted target node there) ∙ r.1 in
      either (misfit_scope (scopes value) (scopes target)) (is_guarded_store p types id target value)
      (right (Stores id target value) r.0 position (sym (ap (λ (o : Option Rule). found_at o (λ rule. broken (Stores id target value) rule position)) s) ∙ e))
    where
      either : (a b : Bool) → (a && not b) ≡ false → (a ≡ false) ⊎ (b ≡ true)
      either false b e = inl refl
      either true true e = inr refl
      either true false e = absurd (true≢false e)

  use_of_assign : (id target value : ℕ) (position : Position) → use_breaks p types scopes id (Assign position target value) ≡ [] → found_at (read p.nodes (target_rule p target) target) (λ rule. broken (Stores id target value) rule position) ≡ []
  unfolding use_breaks e1 e2 e3 e4_and_e5 e6 e7 e8 e9 e10
  use_of_assign id target value position e = (both_empty (found_at (read p.nodes (target_rule p target) target) (λ rule. broken (Stores id target value) rule position)) [] e).0

  -- T7 at typed sides
  assigned : (target value : ℕ) (u t : Ty) → types target ≡ Some u → types value ≡ Some t → misfits_assignment p types target value ≡ false → (assigns p.classes t u ≡ true) × (holds (read p.nodes (is_length_target p types) target) (λ b. b) ≡ false)
  assigned target value u t e f m =
      let both = or_false (misfits_value p (types target) (types value)) (holds (read p.nodes (is_length_target p types) target) (λ b. b))
      (sym (ap (λ (o : Option Ty). is_some o && (is_some (types value) && (misfits_value p (types target) (types value) || holds (read p.nodes (is_length_target p types) target) (λ b. b)))) e
      ∙ ap (λ (o : Option Ty). is_some o && (misfits_value p (types target) (types value) || holds (read p.nodes (is_length_target p types) target) (λ b. b))) f) ∙ m) in
      (not_false (assigns p.classes t u) (sym (ap (λ (o : Option Ty). holds o (λ t. holds (types value) (λ v. not (assigns p.classes v t)))) e ∙ ap (λ (o : Option Ty). holds o (λ v. not (assigns p.classes v u))) f) ∙ both.0), both.1)

  -- what is stored fits the target, or a guard allows the store
  stored_fits : (b c id target value : ℕ) (u : Ty) (k : Kind) → holds_values u ≡ true → At b c id value → (node : Node) → slice_get forest.nodes value ≡ Some node → is_expression node ≡ true → kind_of (Some u) (scopes target) ≡ Some k → ((t : Ty) → types value ≡ Some t → assigns p.classes t u ≡ true)
      → (misfit_scope (scopes value) (scopes target) ≡ false) ⊎ (is_guarded_store p types id target value ≡ true) → (j : Kind) × Judged p value (Some j) × (FitsAsSeen p j k ⊎ IsAllowedByGuard p id target value j k)
  stored_fits b c id target value u k h v node there expression kind fit (inl s) =
      let j = value_fits b c id value u (scopes target) k v node there expression kind fit s in (j.0, j.1, inl j.2)
  stored_fits b c id target value u k h v node there expression kind fit (inr guarded) =
      let j = value_fits b c id value u (Some Unknown) (unscoped k) v node there expression (unscoped_kind u (scopes target) k h kind) fit (unknown_taken (scopes value)) in
      (j.0, j.1, inr (j.2, guarded))

  pub assign_facts : (b c id target value : ℕ) (position : Position) → slice_get forest.nodes id ≡ Some (Assign position target value) → Inside p b c id → AssignFacts p b c id target value
  unfolding children is_inner object_of takes_parts HasRightChildren declared_before Judged
  assign_facts b c id target value position there inside =
      let node : Node = Assign position target value in
      let s = sorted.each id node there in
      let o = s.0 in
      let w = s.1 in
      let first = same_first forest accepted whole sorted target (value ∷ []) in
      let second = same_second forest accepted whole sorted target value [] in
      let x = statement_value b c id target node there inside refl first (of_expression forest accepted whole sorted target (as_expression target o)) refl refl in
      let y = statement_value b c id value node there inside refl second (of_expression forest accepted whole sorted value w) refl refl in
      let u = type_of_value forest accepted whole sorted b c id target x in
      let t = type_of_value forest accepted whole sorted b c id value y in
      let value_type = target_holds target o.node u.0 o.is_there o.passes (sym (type_is forest accepted whole sorted target o.node o.is_there) ∙ u.1) in
      let k = has_kind u.0 (scopes target) value_type (λ r. scope_of_value forest accepted whole sorted b c id target u.0 x u.1 r) in
      let types_fit = assigned target value u.0 t.0 u.1 t.1 (right_assign p types id position target value (unbroken forest accepted whole sorted id node there)) in
      let scopes_fit = scopes_pass id target value position o.node o.is_there (use_of_assign id target value position (use_unbroken id node there)) in
      let fit : (t2 : Ty) → types value ≡ Some t2 → assigns p.classes t2 u.0 ≡ true = λ t2 e. ap (λ t. assigns p.classes t u.0) (some_inj t2 t.0 (sym e ∙ t.1)) ∙ types_fit.0 in
      let j = stored_fits b c id target value u.0 k.0 value_type y w.node w.is_there w.passes k.1 fit scopes_fit in
      record {
        expected = k.0;
        target_is = operand_at forest accepted whole sorted b c id target node k.0 there first refl x (ap (λ (o : Option Ty). kind_of o (scopes target)) u.1 ∙ k.1);
        is_no_length = types_fit.1;
        given = j.0;
        value_is = operand_at forest accepted whole sorted b c id value node j.0 there second refl y j.1;
        fit = j.2;
      }
