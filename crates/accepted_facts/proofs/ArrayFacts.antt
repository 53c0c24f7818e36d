-- What elements, new arrays and casts of an accepted program have.
use Rattle.std.proofs.Common.{◌≡◌, ℕ, List, [], ◌∷◌, refl, sym, ap, ◌∙◌, Option, Some, true, false, not, ◌||◌, ◌&&◌, true≢false, ◌⊎◌, inl, inr, option_and_then, option_map, slice_get}
use Rattle.scj_base.specs.declared.findings.Rule.TheVariants.{E9, E10}
use Rattle.scj_base.specs.declared.positions.Position.{Position}
use Rattle.scj_tree.specs.declared.nodes.Node.{Node}
use Rattle.scj_tree.specs.declared.nodes.Node.TheVariants.{Element, NewArray, Cast}
use Rattle.scj_tree.specs.Forest.{Forest, IsForest}
use Rattle.scj_tree.specs.Shape.{children}
use Rattle.scj_rules.specs.declared.scopes.ClassScope.TheVariants.{Annotated as annotated}
use Rattle.scj_rules.specs.declared.typing.Binding.TheVariants.{Class as ClassNamed}
use Rattle.scj_rules.specs.declared.typing.Scope.{Scope}
use Rattle.scj_rules.specs.declared.typing.Scope.TheVariants.{Any, In}
use Rattle.scj_rules.specs.declared.typing.Ty.{Ty}
use Rattle.scj_rules.specs.declared.typing.Ty.TheVariants.{Int, Bool as Boolean, NullTy, Class as ClassTy, IntArray, BoolArray, ClassArray}
use Rattle.scj_rules.specs.Words.{holds, broken}
use Rattle.scj_rules.specs.Classes.{ClassRow, class_number}
use Rattle.scj_rules.specs.Contexts.{Declarations, declarations_of, context, object_of, declared_before}
use Rattle.scj_rules.specs.ScopeRules.{is_outer}
use Rattle.scj_rules.specs.StaticScopes.{class_scope, fits, is_annotated_and}
use Rattle.scj_rules.specs.Types.{is_array, is_int, is_reference, are_same, assigns, element_type, array_of}
use Rattle.scj_rules.specs.TypeRules.{Types, type_of, written_type, class_type_named, misfits_index, are_related}
use Rattle.scj_rules.specs.UseRules.{Scopes, scope_of, scope_of_element, scope_in_class, current_at, misfit_scope, lies_outside, misfits_cast as misfits_scope, is_outer_of_current, isnt_around_current, misfits_element, use_breaks, e1, e2, e3, e4_and_e5, e6, e7, e8, e9, e10}
use Rattle.scj_rules.specs.Bindings.{plain_or, binding_of}
use Rattle.scj_rules.specs.Phases.{IsAccepted}
use Rattle.accepted_laws.specs.Judgements.{type_at_node, scope_at_node, HasScope, Inside, Judged}
use Rattle.accepted_laws.specs.Kinds.{Kind, number, reference, kind_of}
use Rattle.accepted_laws.specs.Sorts.{HasRightChildren, IsWellSorted, is_argument, is_expression}
use Rattle.accepted_laws.proofs.Breaks.{both_empty, right}
use Rattle.accepted_laws.proofs.DeclarationScopes.{current_has_scope}
use Rattle.accepted_laws.proofs.MemberContexts.{member_is}
use Rattle.accepted_laws.proofs.Tools.{some_inj}
use Rattle.accepted_nodes.proofs.DeclaredTypes.{new_array_has_type, cast_names_class}
use Rattle.accepted_nodes.proofs.FormParts.{takes_parts}
use Rattle.accepted_nodes.proofs.ScopesComplete.{of_option, scope_is, cast_of_reference}
use Rattle.accepted_nodes.proofs.TypeBreaks.{right_element, right_new_array, right_cast}
use Rattle.accepted_nodes.proofs.TypesComplete.{at_p, type_is, unbroken, child_at, of_expression, same_first, same_second}
use Rattle.accepted_facts.specs.Expressions.{ElementFacts, NewArrayFacts, CastFacts}
use Rattle.accepted_facts.proofs.AccessFacts.{operand_at, type_of_value, scope_of_value, array_judged, int_judged, array_kind, array_is_reference, and_true}
use Rattle.accepted_facts.proofs.NameFacts.{binding_is}
use Rattle.accepted_facts.proofs.NewFacts.{current_is}
use Rattle.accepted_facts.proofs.ReturnFacts.{is_int_type}
use Rattle.accepted_facts.proofs.StatementFacts.{not_false, use_unbroken}

-- a reference that can be cast has a kind: one of a class or array, or that of null
cast_kind : (rows : List ClassRow) (u : Ty) (s : Option Scope) (class : ℕ) → is_reference u ≡ true → HasScope s → (assigns rows u (ClassTy class) || assigns rows (ClassTy class) u) ≡ true → (t : Scope) × (kind_of (Some u) s ≡ Some (reference u t)) × (((u ≡ NullTy) × (t ≡ Any)) ⊎ (s ≡ Some t))
unfolding is_reference kind_of assigns are_same
cast_kind rows NullTy s class r h a = (Any, refl, inl (refl, refl))
cast_kind rows (ClassTy c) s class r h a = (h.0, ap (kind_of (Some (ClassTy c))) h.1, inr h.1)
cast_kind rows IntArray s class r h a = absurd (true≢false (sym a))
cast_kind rows BoolArray s class r h a = absurd (true≢false (sym a))
cast_kind rows (ClassArray c) s class r h a = absurd (true≢false (sym a))
cast_kind rows _ s class r h a = absurd (true≢false (sym r))

module _ (forest : Forest) (accepted : IsAccepted forest) (whole : IsForest forest) (sorted : IsWellSorted forest.nodes) where
  abbrev p : Declarations
  p = declarations_of forest

  abbrev types : Types
  types = type_at_node p

  abbrev scopes : Scopes
  scopes = scope_at_node p

  -- ---- elements

  indexed : (array index : ℕ) (a i : Ty) → types array ≡ Some a → types index ≡ Some i → misfits_index types array index ≡ false → (is_array a ≡ true) × (is_int i ≡ true)
  indexed array index a i e f m = and_true (is_array a) (is_int i) (not_false _ (sym (ap (λ (o : Option Ty). holds o (λ a. holds (types index) (λ i. not (is_array a && is_int i)))) e ∙ ap (λ (o : Option Ty). holds o (λ i. not (is_array a && is_int i))) f) ∙ m))

  pub element_facts : (b c id array index : ℕ) (position : Position) (k : Kind) → slice_get forest.nodes id ≡ Some (Element position array index) → Inside p b c id → Judged p id (Some k) → ElementFacts p b c id array index k
  unfolding children is_argument is_expression object_of takes_parts HasRightChildren declared_before type_of scope_of Judged
  element_facts b c id array index position k there inside judged =
      let node : Node = Element position array index in
      let s = sorted.each id node there in
      let first = same_first forest accepted whole sorted array (index ∷ []) in
      let second = same_second forest accepted whole sorted array index [] in
      let x = child_at forest accepted whole sorted b c id node there inside refl array first (of_expression forest accepted whole sorted array s.0) refl refl in
      let y = child_at forest accepted whole sorted b c id node there inside refl index second (of_expression forest accepted whole sorted index s.1) refl refl in
      let a = type_of_value forest accepted whole sorted b c id array x in
      let i = type_of_value forest accepted whole sorted b c id index y in
      let w = indexed array index a.0 i.0 a.1 i.1 (right_element p types id position array index (unbroken forest accepted whole sorted id node there)) in
      let h = scope_of_value forest accepted whole sorted b c id array a.0 x a.1 (array_is_reference a.0 w.0) in
      let typed : types id ≡ element_type a.0 = type_is forest accepted whole sorted id node there ∙ ap (option_and_then (λ a. option_and_then (λ i. element_type a) (types index))) a.1 ∙ ap (option_and_then (λ i. element_type a.0)) i.1 in
      let scoped : scopes id ≡ scope_of_element p (Some h.0) a.0 = scope_is forest accepted whole sorted id node there ∙ ap (option_and_then (scope_of_element p (scopes array))) a.1 ∙ ap (λ (o : Option Scope). scope_of_element p o a.0) h.1 in
      record {
        type = a.0;
        scope = h.0;
        array_is = operand_at forest accepted whole sorted b c id array node (reference a.0 h.0) there first refl x (array_judged forest accepted whole sorted array a.0 h.0 a.1 w.0 h.1);
        index_is = operand_at forest accepted whole sorted b c id index node number there second refl y (int_judged forest accepted whole sorted index (i.1 ∙ ap (λ t. Some t) (is_int_type i.0 w.1)));
        gives = sym (ap (λ (o : Option Ty). kind_of o (scopes id)) typed ∙ ap (kind_of (element_type a.0)) scoped) ∙ judged;
      }

  -- ---- new arrays

  use_of_array : (id element size : ℕ) (position : Position) → use_breaks p types scopes id (NewArray position element size) ≡ [] → holds (written_type p element) (misfits_element p id) ≡ false
  unfolding use_breaks e1 e2 e3 e4_and_e5 e6 e7 e8 e9 e10
  use_of_array id element size position e = right _ E10 position e

  outer_is : (s : ℕ) (now : Scope) → is_outer_of_current p s now ≡ true → (current : ℕ) × (now ≡ In current) × (is_outer p s current ≡ true)
  unfolding is_outer_of_current
  outer_is s (In n) e = (n, refl, e)
  outer_is s _ e = absurd (true≢false (sym e))

  around : (id : ℕ) (of : Ty) (now : Scope) → current_at p id ≡ Some now → misfits_element p id of ≡ false → (class scope : ℕ) → of ≡ ClassTy class → class_scope p class ≡ annotated scope → (current : ℕ) × (now ≡ In current) × (is_outer p scope current ≡ true)
  unfolding misfits_element
  around id of now h e class scope t s =
      let f : isnt_around_current p id scope ≡ false = sym (ap (misfits_element p id) t ∙ ap (λ s. is_annotated_and s (isnt_around_current p id)) s) ∙ e in
      outer_is scope now (not_false _ (sym (ap (λ (o : Option Scope). holds o (λ current. not (is_outer_of_current p scope current))) h) ∙ f))

  array_of_kind : (of array : Ty) → array_of of ≡ Some array → is_array array ≡ true
  unfolding array_of is_array
  array_of_kind Int array e = ap is_array (sym (some_inj IntArray array e))
  array_of_kind Boolean array e = ap is_array (sym (some_inj BoolArray array e))
  array_of_kind (ClassTy c) array e = ap is_array (sym (some_inj (ClassArray c) array e))
  array_of_kind _ array e = absurd (cc (e))

  pub new_array_facts : (b c id element size : ℕ) (position : Position) (k : Kind) → slice_get forest.nodes id ≡ Some (NewArray position element size) → Inside p b c id → Judged p id (Some k) → NewArrayFacts p b c id element size k
  unfolding children is_argument is_expression object_of takes_parts HasRightChildren declared_before type_of scope_of Judged
  new_array_facts b c id element size position k there inside judged =
      let node : Node = NewArray position element size in
      let s = sorted.each id node there in
      let second = same_second forest accepted whole sorted element size [] in
      let y = child_at forest accepted whole sorted b c id node there inside refl size second (of_expression forest accepted whole sorted size s.1) refl refl in
      let i = type_of_value forest accepted whole sorted b c id size y in
      let w = right_new_array p types id position element size (unbroken forest accepted whole sorted id node there) in
      let int = not_false (is_int i.0) (sym (ap (λ (o : Option Ty). holds o (λ n. not (is_int n))) i.1) ∙ w.right_length) in
      let t = new_array_has_type forest accepted sorted id position element size (at_p forest accepted whole sorted id node there) in
      let of = of_option (written_type p element) array_of t.0 t.1 in
      let class_of_b : (context p b).class ≡ Some c = (member_is forest whole sorted id b inside.member).same_class ∙ inside.class in
      let now = current_has_scope forest accepted whole sorted c b class_of_b in
      let here = current_is forest accepted whole sorted b c id now.0 inside now.1 in
      let e10_at : misfits_element p id of.0 ≡ false = sym (ap (λ (o : Option Ty). holds o (misfits_element p id)) of.1) ∙ use_of_array id element size position (use_unbroken forest accepted whole sorted id node there) in
      let typed : types id ≡ Some t.0 = type_is forest accepted whole sorted id node there ∙ ap (option_and_then (λ n. option_and_then array_of (written_type p element))) i.1 ∙ t.1 in
      let scoped : scopes id ≡ Some now.0 = scope_is forest accepted whole sorted id node there ∙ here in
      record {
        now = now.0;
        is_now = now.1;
        size_is = operand_at forest accepted whole sorted b c id size node number there second refl y (int_judged forest accepted whole sorted size (i.1 ∙ ap (λ t. Some t) (is_int_type i.0 int)));
        of = of.0;
        is_element = of.1;
        array = t.0;
        is_array_of = of.2;
        outer = around id of.0 now.0 here e10_at;
        gives = some_inj k (reference t.0 now.0) (sym judged ∙ ap (λ (o : Option Ty). kind_of o (scopes id)) typed ∙ array_kind t.0 (scopes id) now.0 (array_of_kind of.0 t.0 of.2) scoped);
      }

  -- ---- casts

  use_of_cast : (id operand : ℕ) (position name_position : Position) (name : List ℕ) → use_breaks p types scopes id (Cast position name_position name operand) ≡ [] → misfits_scope p (scopes operand) name ≡ false
  unfolding use_breaks e1 e2 e3 e4_and_e5 e6 e7 e8 e9 e10
  use_of_cast id operand position name_position name e = right _ E9 position (both_empty (broken (misfits_scope p (scopes operand) name) E9 position) [] e).0

  null_fits : (r : Scope) → fits Any r ≡ true
  unfolding fits
  null_fits r = refl

  lies_there : (operand class : ℕ) (u : Ty) (t : Scope) → lies_outside p (scopes operand) class ≡ false → ((u ≡ NullTy) × (t ≡ Any)) ⊎ (scopes operand ≡ Some t) → (s : ℕ) → class_scope p class ≡ annotated s → fits t (In s) ≡ true
  lies_there operand class u t e (inl a) s k = ap (λ t. fits t (In s)) a.1 ∙ null_fits (In s)
  lies_there operand class u t e (inr h) s k =
      not_false (fits t (In s)) (sym (ap (λ x. is_annotated_and x (λ s. misfit_scope (scopes operand) (Some (In s)))) k ∙ ap (λ (o : Option Scope). misfit_scope o (Some (In s))) h) ∙ e)

  null_or_there : (operand : ℕ) (u : Ty) (t : Scope) → ((u ≡ NullTy) × (t ≡ Any)) ⊎ (scopes operand ≡ Some t) → (u ≡ NullTy) ⊎ (scopes operand ≡ Some t)
  null_or_there operand u t (inl a) = inl a.0
  null_or_there operand u t (inr h) = inr h

  second_of : (u v : Ty) → not (are_related p.classes u v) ≡ false → (assigns p.classes u v || assigns p.classes v u) ≡ true
  second_of u v e = (and_true (is_reference u) (assigns p.classes u v || assigns p.classes v u) (not_false _ e)).1

  pub cast_facts : (b c id operand : ℕ) (position name_position : Position) (name : List ℕ) (k : Kind) → slice_get forest.nodes id ≡ Some (Cast position name_position name operand) → Inside p b c id → Judged p id (Some k) → CastFacts p b c id name operand k
  unfolding children is_argument is_expression object_of takes_parts HasRightChildren declared_before type_of scope_of binding_of Judged
  cast_facts b c id operand position name_position name k there inside judged =
      let node : Node = Cast position name_position name operand in
      let s = sorted.each id node there in
      let first = same_first forest accepted whole sorted operand [] in
      let x = child_at forest accepted whole sorted b c id node there inside refl operand first (of_expression forest accepted whole sorted operand s) refl refl in
      let u = type_of_value forest accepted whole sorted b c id operand x in
      let n = cast_names_class forest accepted sorted id position name_position name operand (at_p forest accepted whole sorted id node there) in
      let w = right_cast p types id position name_position name operand (unbroken forest accepted whole sorted id node there) in
      let rel : not (are_related p.classes u.0 (ClassTy n.0)) ≡ false = sym (ap (λ (o : Option Ty). holds o (λ t. holds (class_number p.names name) (λ class. not (are_related p.classes t (ClassTy class))))) u.1 ∙ ap (λ (o : Option ℕ). holds o (λ class. not (are_related p.classes u.0 (ClassTy class)))) n.1) ∙ w in
      let reference_type = cast_of_reference forest accepted whole sorted u.0 (ClassTy n.0) rel in
      let related = second_of u.0 (ClassTy n.0) rel in
      let h = scope_of_value forest accepted whole sorted b c id operand u.0 x u.1 reference_type in
      let v = cast_kind p.classes u.0 (scopes operand) n.0 reference_type h related in
      let outside : lies_outside p (scopes operand) n.0 ≡ false = sym (ap (λ (o : Option ℕ). holds o (lies_outside p (scopes operand))) n.1) ∙ use_of_cast id operand position name_position name (use_unbroken forest accepted whole sorted id node there) in
      let typed : types id ≡ Some (ClassTy n.0) = type_is forest accepted whole sorted id node there ∙ ap (option_and_then (λ t. class_type_named p name)) u.1 ∙ ap (option_map (λ class. ClassTy class)) n.1 in
      let scoped : scopes id ≡ scope_in_class p n.0 (scopes operand) = scope_is forest accepted whole sorted id node there ∙ ap (option_and_then (λ class. scope_in_class p class (scopes operand))) n.1 in
      record {
        class = n.0;
        named = n.1;
        binding = binding_is forest accepted whole sorted id node there ∙ ap (plain_or (λ c. ClassNamed c)) n.1;
        type = u.0;
        scope = v.0;
        operand_is = operand_at forest accepted whole sorted b c id operand node (reference u.0 v.0) there first refl x (ap (λ (o : Option Ty). kind_of o (scopes operand)) u.1 ∙ v.1);
        related = related;
        is_null_or_there = null_or_there operand u.0 v.0 v.2;
        lies = lies_there operand n.0 u.0 v.0 outside v.2;
        gives = sym (ap (λ (o : Option Ty). kind_of o (scopes id)) typed ∙ ap (kind_of (Some (ClassTy n.0))) scoped) ∙ judged;
      }
