-- What a `new` of an accepted program has.
use Rattle.std.proofs.Common.{◌≡◌, ℕ, ◌<◌, List, [], ◌∷◌, ◌++◌, length, map, refl, sym, ap, ◌∙◌, subst, Option, Some, None, Bool, true, false, not, ◌||◌, ◌&&◌, true≢false, ◌⊎◌, inl, inr, option_and_then, option_map, unwrap_or, is_some, slice_get, if◌then◌else◌, ◌==◌}
use Rattle.scj_base.specs.declared.findings.Rule.TheVariants.{C11, E1}
use Rattle.scj_base.specs.declared.positions.Position.{Position}
use Rattle.scj_builtins.specs.declared.kinds.ClassKind.{ClassKind}
use Rattle.scj_builtins.specs.Framework.{object}
use Rattle.scj_tree.specs.declared.nodes.Node.{Node}
use Rattle.scj_tree.specs.declared.nodes.Node.TheVariants.{Constructor, New}
use Rattle.scj_tree.specs.Forest.{Forest, IsForest}
use Rattle.scj_tree.specs.Shape.{children, optional}
use Rattle.scj_rules.specs.declared.scopes.ClassScope.{ClassScope}
use Rattle.scj_rules.specs.declared.scopes.ClassScope.TheVariants.{Unannotated as unannotated, Annotated as annotated, Missing as scopeless}
use Rattle.scj_rules.specs.declared.typing.Binding.TheVariants.{Plain, Class as ClassNamed}
use Rattle.scj_rules.specs.declared.typing.Scope.{Scope}
use Rattle.scj_rules.specs.declared.typing.Scope.TheVariants.{This, In}
use Rattle.scj_rules.specs.declared.typing.Ty.{Ty}
use Rattle.scj_rules.specs.declared.typing.Ty.TheVariants.{Class as ClassTy}
use Rattle.scj_rules.specs.declared.views.Declared.{Declared}
use Rattle.scj_rules.specs.declared.views.Modifiers.{Modifiers}
use Rattle.scj_rules.specs.Definitions.{read}
use Rattle.scj_rules.specs.Words.{is_among, holds, broken, found_at}
use Rattle.scj_rules.specs.Views.{DeclaredMethod, DeclaredConstructor, method_at, method_of, constructor_at, constructor_of, modifiers_at, parameters_of}
use Rattle.scj_rules.specs.Classes.{ClassRow, class_number, is_user_class, user_row}
use Rattle.scj_rules.specs.ClassRules.{c9, c11, node_breaks, has_class_words, has_method_words, is_misplaced_on_constructor, is_named_as_class}
use Rattle.scj_rules.specs.Contexts.{Declarations, declarations_of, context, is_member, member_flags, is_static_member, object_of, declared_before}
use Rattle.scj_rules.specs.StaticScopes.{are_same_scope, class_scope, scope_or, is_annotated_and, this_in, runs_in, current_in, substitute, declaration_scope, scoped_variable, constructor_parameter_scope}
use Rattle.scj_rules.specs.Types.{all_types, accepts_arguments, constructor_in, constructor_parameters, kind_is, is_concrete, is_form, is_form_part}
use Rattle.scj_rules.specs.TypeRules.{Types, type_of, declared_type_of, class_type_named, misfits_constructor, misfits_form_part, misfits_new as misfits_types, makes_no_object, is_never_made, is_misplaced_form}
use Rattle.scj_rules.specs.UseRules.{Scopes, scope_of, scope_of_new, current_at, isnt_current, lies_elsewhere, misfits_new as misfits_scope, misfit_arguments, e3_of_constructor, use_breaks, variable_scope_at, e1, e2, e3, e4_and_e5, e6, e7, e8, e9, e10}
use Rattle.scj_rules.specs.Bindings.{class_binding, plain_or, binding_of}
use Rattle.scj_rules.specs.Phases.{IsAccepted}
use Rattle.accepted_laws.specs.Judgements.{type_at_node, scope_at_node, binding_at_node, Inside, Judged}
use Rattle.accepted_laws.specs.Kinds.{Kind, reference, kind_of}
use Rattle.accepted_laws.specs.Sorts.{HasRightChildren, IsWellSorted, is_argument, is_expression}
use Rattle.accepted_laws.proofs.Breaks.{both_empty, right, no_break_at_node}
use Rattle.accepted_laws.proofs.ClassNumbers.{member_class}
use Rattle.accepted_laws.proofs.DeclarationScopes.{all_known, current_has_scope}
use Rattle.accepted_laws.proofs.Dispatch.{written_of}
use Rattle.accepted_laws.proofs.Fields.{In as Element, here}
use Rattle.accepted_laws.proofs.InnerNodes.{is_no_class}
use Rattle.accepted_laws.proofs.Interfaces.{row_is, mapped_in}
use Rattle.accepted_laws.proofs.MemberContexts.{member_is}
use Rattle.accepted_laws.proofs.Rows.{get_from_within}
use Rattle.accepted_laws.proofs.Subtypes.{among_in}
use Rattle.accepted_laws.proofs.Tools.{some_inj}
use Rattle.accepted_nodes.proofs.DeclaredScopes.{at_variable, variable_has_scope}
use Rattle.accepted_nodes.proofs.DeclaredTypes.{variable_has_type, new_names_class}
use Rattle.accepted_nodes.proofs.FormParts.{takes_parts, bound}
use Rattle.accepted_nodes.proofs.ScopesComplete.{scope_is, arguments_typed}
use Rattle.accepted_nodes.proofs.TypeBreaks.{right_new}
use Rattle.accepted_nodes.proofs.Uses.{same_scope}
use Rattle.accepted_nodes.proofs.TypesComplete.{at_p, type_is, unbroken, ValueAt, child_at, all_of}
use Rattle.accepted_facts.specs.Calls.{kind_of_constructor_parameter, ConstructorTakes, NewFacts}
use Rattle.accepted_facts.proofs.AccessFacts.{operand_at}
use Rattle.accepted_facts.proofs.Arguments.{pass}
use Rattle.accepted_facts.proofs.ClassBounds.{named_is_class}
use Rattle.accepted_facts.proofs.DeclaredKinds.{has_kind, variable_holds}
use Rattle.accepted_facts.proofs.NameFacts.{binding_is}
use Rattle.accepted_facts.proofs.Parameters.{IsParameter, listed_parameter, behind, at_front}
use Rattle.accepted_facts.proofs.StatementFacts.{not_false, use_unbroken}

third : (a b c d e f : Bool) → (a || b || c || d || e || f) ≡ false → c ≡ false
third true b c d e f h = absurd (true≢false h)
third false true c d e f h = absurd (true≢false h)
third false false true d e f h = absurd (true≢false h)
third false false false d e f h = refl

-- what is neither a form nor never made is concrete
concrete_left : (k : ClassKind) → is_never_made k ≡ false → is_form k ≡ false → is_concrete k ≡ true
concrete_left k n f = go (is_concrete k) (is_form k) n f
  where
    go : (a b : Bool) → not (a || b) ≡ false → b ≡ false → a ≡ true
    go true b n f = refl
    go false true n f = absurd (true≢false f)
    go false false n f = absurd (true≢false n)

class_kind : (c : ℕ) (t : Scope) → kind_of (Some (ClassTy c)) (Some t) ≡ Some (reference (ClassTy c) t)
unfolding kind_of
class_kind c t = refl

module _ (forest : Forest) (accepted : IsAccepted forest) (whole : IsForest forest) (sorted : IsWellSorted forest.nodes) where
  abbrev p : Declarations
  p = declarations_of forest

  abbrev types : Types
  types = type_at_node p

  abbrev scopes : Scopes
  scopes = scope_at_node p

  -- ---- constructors

  pub record ConstructorStands (class : ℕ) (con : DeclaredConstructor) : Type 0 where
    pub b : ℕ
    pub is_there : constructor_at p.nodes b ≡ Some con
    pub class_is : (context p b).class ≡ Some class

  head_in : (cs : List DeclaredConstructor) (con : DeclaredConstructor) → (elim cs as (λ _. Option DeclaredConstructor) [ [] ↦ None | c ∷ cs ↦ Some c ]) ≡ Some con → Element con cs
  head_in [] con e = absurd (cc (e))
  head_in (d ∷ cs) con e = subst (λ x. Element x (d ∷ cs)) (some_inj d con e) here

  none_in : (con : DeclaredConstructor) → Element con [] → ⊥
  none_in con h = elim h [ ]

  pub constructor_stands : (class : ℕ) (con : DeclaredConstructor) → constructor_in p.classes class ≡ Some con → ConstructorStands class con
  unfolding constructor_in user_row
  constructor_stands class con e =
      let a = bound (slice_get p.classes class) (λ (row : ClassRow). elim row.constructors as (λ _. Option DeclaredConstructor) [ [] ↦ None | c ∷ cs ↦ Some c ]) con e in
      let i = head_in a.0.constructors con a.2 in
      elim (row_is forest accepted class a.0 a.1) as (λ z. ConstructorStands class con) [
        | inl k ↦ absurd (none_in con (subst (Element con) k.constructs_nothing i))
        | inr u ↦ (
            let m = mapped_in (constructor_at p.nodes) con u.2.class.members (subst (Element con) (ap (λ (r : ClassRow). r.constructors) u.2.is) i) in
            record { b = m.0; is_there = m.2; class_is = member_class forest whole accepted sorted class a.0 u.2.class a.1 (written_of forest accepted whole sorted u.0 a.0 u.2) m.0 (among_in m.0 u.2.class.members m.1) })
      ]

  -- a parameter of a constructor, with what the constructor is
  constructor_parameter : (b c q : ℕ) (position : Position) (name : List ℕ) (flags parameters super_call : Option ℕ) (body : ℕ) (n : Node) (d : Declared) → slice_get forest.nodes b ≡ Some (Constructor position name flags parameters super_call body) → (context p b).class ≡ Some c
      → parameters ≡ Some q → slice_get forest.nodes q ≡ Some n → (ds : List Declared) → parameters_of p.nodes n ≡ Some ds → Element d ds → IsParameter forest accepted whole sorted b c d
  unfolding children is_member is_no_class
  constructor_parameter b c q position name flags parameters super_call body n d at class e stands ds k h =
      listed_parameter forest accepted whole sorted b c q (Constructor position name flags parameters super_call body) n d at refl refl class
      (behind forest accepted whole sorted q (optional flags) _ (at_front forest accepted whole sorted q parameters (optional super_call ++ body ∷ []) e)) stands ds k h

  of_constructor : (b c : ℕ) (node : Node) (con : DeclaredConstructor) (d : Declared) → slice_get forest.nodes b ≡ Some node → constructor_of p.nodes b node ≡ Some con → (context p b).class ≡ Some c → Element d con.parameters → IsParameter forest accepted whole sorted b c d
  unfolding constructor_of declarations_of
  of_constructor b c (Constructor position name flags parameters super_call body) con d at is class h = go parameters refl (subst (Element d) (sym (ap (λ (m : DeclaredConstructor). m.parameters) (some_inj _ con is))) h)
    where
      none : Element d [] → ⊥
      none h = elim h [ ]

      by_list : (q : ℕ) → parameters ≡ Some q → (n : Node) → slice_get forest.nodes q ≡ Some n → (ds : Option (List Declared)) → parameters_of forest.nodes n ≡ ds → Element d (unwrap_or ds []) → IsParameter forest accepted whole sorted b c d
      by_list q e n stands None k h = absurd (none h)
      by_list q e n stands (Some ds) k h = constructor_parameter b c q position name flags parameters super_call body n d at class e stands ds k h

      listed : (q : ℕ) → parameters ≡ Some q → (n : Option Node) → slice_get forest.nodes q ≡ n → Element d (unwrap_or (option_and_then (parameters_of forest.nodes) n) []) → IsParameter forest accepted whole sorted b c d
      listed q e None stands h = absurd (none h)
      listed q e (Some n) stands h = by_list q e n stands (parameters_of forest.nodes n) refl h

      go : (o : Option ℕ) → parameters ≡ o → Element d (unwrap_or (option_and_then (read forest.nodes (parameters_of forest.nodes)) o) []) → IsParameter forest accepted whole sorted b c d
      go None e h = absurd (none h)
      go (Some q) e h = listed q e (slice_get forest.nodes q) refl h
  of_constructor b c _ con d at is class h = absurd (cc (is))

  -- a constructor is no method, and isn't static (C11)
  plain_constructor : (b : ℕ) (node : Node) (con : DeclaredConstructor) → slice_get p.nodes b ≡ Some node → constructor_of p.nodes b node ≡ Some con → (method_at p.nodes b ≡ None) × (is_static_member p.nodes b ≡ false)
  unfolding constructor_of method_of member_flags node_breaks c9 c11
  plain_constructor b (Constructor position name flags parameters super_call body) con at is =
      let node : Node = Constructor position name flags parameters super_call body in
      let m : Modifiers = modifiers_at p.nodes flags in
      let e = right (is_misplaced_on_constructor p b name m) C11 position (no_break_at_node forest accepted b node at).no_class_rule in (
        ap (option_and_then (method_of p.nodes b)) at,
        ap (λ (o : Option Node). holds (option_and_then member_flags o) (λ flags. (modifiers_at p.nodes flags).is_static)) at
            ∙ third (has_class_words m) (has_method_words m) m.is_static m.is_abstract (is_some m.scope) (not (is_named_as_class p b name)) e,
      )
  plain_constructor b _ con at is = absurd (cc (is))

  constructor_scope_is : (b c : ℕ) (d : Declared) → method_at p.nodes b ≡ None → is_static_member p.nodes b ≡ false → IsParameter forest accepted whole sorted b c d → variable_scope_at p d.node ≡ constructor_parameter_scope p c d
  unfolding current_in
  constructor_scope_is b c d none plain i =
      ap (option_and_then (declaration_scope p)) (at_variable forest accepted whole sorted d.node b c d i.class i.member i.is_there)
      ∙ ap (λ (o : Option DeclaredMethod). declaration_scope p (scoped_variable c (elim o as (λ _. Option Scope) [ Some m ↦ runs_in p c m | None ↦ this_in p c ]) (is_static_member p.nodes b) d)) none
      ∙ ap (λ t. declaration_scope p (scoped_variable c (this_in p c) t d)) plain

  pub constructor_kind : (class : ℕ) (con : DeclaredConstructor) (d : Declared) → constructor_in p.classes class ≡ Some con → Element d con.parameters → (k : Kind) × (kind_of (declared_type_of p d) (constructor_parameter_scope p class d) ≡ Some k)
  unfolding declarations_of
  constructor_kind class con d e h =
      let s = constructor_stands class con e in
      let n = bound (slice_get forest.nodes s.b) (constructor_of forest.nodes s.b) con s.is_there in
      let i = of_constructor s.b class n.0 con d n.1 n.2 s.class_is h in
      let plain = plain_constructor s.b n.0 con n.1 n.2 in
      let t = variable_has_type forest accepted sorted d.node d i.is_there in
      let k = has_kind t.0 (constructor_parameter_scope p class d) (variable_holds forest sorted d.node d t.0 i.is_there t.1)
      (λ r. (let s2 = variable_has_scope forest accepted whole sorted d.node s.b class d t.0 i.is_there i.class i.member t.1 r in (s2.0, sym (constructor_scope_is s.b class d plain.0 plain.1 i) ∙ s2.1))) in
      (k.0, ap (λ (o : Option Ty). kind_of o (constructor_parameter_scope p class d)) t.1 ∙ k.1)

  -- the parameters of a class's constructor have kinds
  pub parameters_kinds : (class : ℕ) (d : Declared) → Element d (constructor_parameters p.classes class) → (k : Kind) × (kind_of (declared_type_of p d) (constructor_parameter_scope p class d) ≡ Some k)
  unfolding constructor_parameters
  parameters_kinds class d h = go (constructor_in p.classes class) refl h
    where
      none : Element d [] → ⊥
      none h = elim h [ ]

      go : (o : Option DeclaredConstructor) → constructor_in p.classes class ≡ o → Element d (elim o as (λ _. List Declared) [ None ↦ [] | Some c ↦ c.parameters ]) → (k : Kind) × (kind_of (declared_type_of p d) (constructor_parameter_scope p class d) ≡ Some k)
      go None e h = absurd (none h)
      go (Some con) e h = constructor_kind class con d e h

  -- ---- new

  record UseOfNew (id : ℕ) (name arguments : List ℕ) : Type 0 where
    lies : misfits_scope p id name ≡ false
    passes : found_at (class_number p.names name) (λ class. e3_of_constructor p scopes (scope_of_new p id class) arguments class) ≡ []

  use_of_new : (id : ℕ) (position name_position : Position) (name arguments : List ℕ) → use_breaks p types scopes id (New position name_position name arguments) ≡ [] → UseOfNew id name arguments
  unfolding use_breaks e1 e2 e3 e4_and_e5 e6 e7 e8 e9 e10
  use_of_new id position name_position name arguments e =
      let one = both_empty (broken (misfits_scope p id name) E1 position) (found_at (class_number p.names name) (λ class. e3_of_constructor p scopes (scope_of_new p id class) arguments class) ++ []) e in
      let two = both_empty (found_at (class_number p.names name) (λ class. e3_of_constructor p scopes (scope_of_new p id class) arguments class)) [] one.1 in
      record { lies = right _ _ _ one.0; passes = two.0 }

  pub current_is : (b c id : ℕ) (now : Scope) → Inside p b c id → current_in p c b ≡ Some now → current_at p id ≡ Some now
  unfolding current_at
  current_is b c id now i e = ap (λ (o : Option ℕ). option_and_then (λ class. option_and_then (current_in p class) (context p id).member) o) i.class ∙ ap (option_and_then (current_in p c)) i.member ∙ e

  -- E1: the class's objects lie in the current scope
  new_lies : (id class : ℕ) (now : Scope) → current_at p id ≡ Some now → lies_elsewhere p id class ≡ false → ((this_in p class ≡ Some This) ⊎ (this_in p class ≡ Some now)) × (scope_of_new p id class ≡ Some now)
  unfolding this_in scope_of_new
  new_lies id class now h e = go (class_scope p class) refl e
    where
      go : (s : ClassScope) → class_scope p class ≡ s → is_annotated_and s (λ s. isnt_current p id (In s)) ≡ false → ((scope_or s (Some This) ≡ Some This) ⊎ (scope_or s (Some This) ≡ Some now)) × (scope_or s (current_at p id) ≡ Some now)
      go unannotated k e = (inl refl, h)
      go (annotated n) k e =
          let same : now ≡ In n = same_scope now (In n) (not_false _ (sym (ap (λ (o : Option Scope). holds o (λ current. not (are_same_scope current (In n)))) h) ∙ e)) in
          (inr (ap (λ s. Some s) (sym same)), ap (λ s. Some s) (sym same))
      go scopeless k e = absurd (all_known forest accepted whole sorted class k)

  is_concrete_class : (id : ℕ) (name arguments : List ℕ) (class : ℕ) (ts : List Ty) → class_number p.names name ≡ Some class → all_types types arguments ≡ Some ts → is_form_part p id ≡ false → makes_no_object p types name arguments ≡ false → is_misplaced_form p id name ≡ false → class < length p.classes → kind_is is_concrete p class ≡ true
  is_concrete_class id name arguments class ts n k part made form l =
      let row = get_from_within p.classes class l in
      let never : is_never_made row.0.kind ≡ false = sym (ap (λ (o : Option (List Ty)). holds o (λ ts. holds (class_number p.names name) (kind_is is_never_made p))) k ∙ ap (λ (o : Option ℕ). holds o (kind_is is_never_made p)) n ∙ ap (λ (o : Option ClassRow). holds o (λ (row : ClassRow). is_never_made row.kind)) row.1) ∙ made in
      let no_form : is_form row.0.kind ≡ false = second (is_form row.0.kind) (is_form_part p id) part (sym (ap (λ (o : Option ℕ). holds o (kind_is is_form p) && not (is_form_part p id)) n ∙ ap (λ (o : Option ClassRow). holds o (λ (row : ClassRow). is_form row.kind) && not (is_form_part p id)) row.1) ∙ form) in
      ap (λ (o : Option ClassRow). holds o (λ (row : ClassRow). is_concrete row.kind)) row.1 ∙ concrete_left row.0.kind never no_form
    where
      second : (a b : Bool) → b ≡ false → (a && not b) ≡ false → a ≡ false
      second true true k e = absurd (true≢false k)
      second true false k e = absurd (true≢false e)
      second false b k e = refl

  constructor_accepts : (id : ℕ) (name arguments : List ℕ) (class : ℕ) (ts : List Ty) → class_number p.names name ≡ Some class → all_types types arguments ≡ Some ts → is_form_part p id ≡ false → misfits_types p types id name arguments ≡ false → is_user_class class ≡ true → accepts_arguments p (constructor_parameters p.classes class) ts ≡ true
  unfolding misfits_types
  constructor_accepts id name arguments class ts n k part e user =
      not_false _ (sym (ap (λ t. if t then misfits_form_part p types arguments else holds (class_number p.names name) (misfits_constructor p types arguments)) part
      ∙ ap (λ (o : Option ℕ). holds o (misfits_constructor p types arguments)) n
      ∙ ap (λ t. (t || (class == object)) && holds (all_types types arguments) (λ ts. not (accepts_arguments p (constructor_parameters p.classes class) ts))) user
      ∙ ap (λ (o : Option (List Ty)). holds o (λ ts. not (accepts_arguments p (constructor_parameters p.classes class) ts))) k) ∙ e)

  constructor_scoped : (id : ℕ) (name arguments : List ℕ) (class : ℕ) (now : Scope) → class_number p.names name ≡ Some class → scope_of_new p id class ≡ Some now → found_at (class_number p.names name) (λ class. e3_of_constructor p scopes (scope_of_new p id class) arguments class) ≡ []
      → misfit_arguments p scopes (λ d. option_and_then (substitute (Some now) (Some now)) (constructor_parameter_scope p class d)) (constructor_parameters p.classes class) arguments ≡ []
  unfolding e3_of_constructor
  constructor_scoped id name arguments class now n s e =
      sym (ap (λ (o : Option ℕ). found_at o (λ class. e3_of_constructor p scopes (scope_of_new p id class) arguments class)) n
      ∙ ap (λ (x : Option Scope). misfit_arguments p scopes (λ d. option_and_then (substitute x x) (constructor_parameter_scope p class d)) (constructor_parameters p.classes class) arguments) s) ∙ e

  pub takes_are : (class : ℕ) (ks : List Kind) → map (λ d. kind_of (declared_type_of p d) (constructor_parameter_scope p class d)) (constructor_parameters p.classes class) ≡ map (λ (k : Kind). Some k) ks → ConstructorTakes p class ks
  unfolding kind_of_constructor_parameter
  takes_are class ks e = record { are = e }

  new_bound : (id : ℕ) (position name_position : Position) (name arguments : List ℕ) (class : ℕ) → slice_get forest.nodes id ≡ Some (New position name_position name arguments) → is_form_part p id ≡ false → class_number p.names name ≡ Some class → binding_at_node p id ≡ ClassNamed class
  unfolding binding_of
  new_bound id position name_position name arguments class there part n =
      binding_is forest accepted whole sorted id (New position name_position name arguments) there ∙ ap (λ t. if t then Plain else class_binding (class_number p.names name)) part ∙ ap (plain_or (λ c. ClassNamed c)) n

  new_kind : (id : ℕ) (position name_position : Position) (name arguments : List ℕ) (class : ℕ) (now : Scope) (ts : List Ty) (k : Kind) → slice_get forest.nodes id ≡ Some (New position name_position name arguments) → is_form_part p id ≡ false → class_number p.names name ≡ Some class → all_types types arguments ≡ Some ts → scope_of_new p id class ≡ Some now → Judged p id (Some k) → k ≡ reference (ClassTy class) now
  unfolding type_of scope_of Judged
  new_kind id position name_position name arguments class now ts k there part n e s judged =
      let node : Node = New position name_position name arguments in
      let typed : types id ≡ Some (ClassTy class) = type_is forest accepted whole sorted id node there ∙ ap (λ t. if t then None else option_and_then (λ ts. class_type_named p name) (all_types types arguments)) part
      ∙ ap (option_and_then (λ ts. class_type_named p name)) e ∙ ap (option_map (λ class. ClassTy class)) n in
      let scoped : scopes id ≡ Some now = scope_is forest accepted whole sorted id node there ∙ ap (option_and_then (scope_of_new p id)) n ∙ s in
      some_inj k (reference (ClassTy class) now) (sym judged ∙ ap (λ (o : Option Ty). kind_of o (scopes id)) typed ∙ ap (kind_of (Some (ClassTy class))) scoped ∙ class_kind class now)

  pub new_facts : (b c id : ℕ) (position name_position : Position) (name arguments : List ℕ) (k : Kind) → slice_get forest.nodes id ≡ Some (New position name_position name arguments) → Inside p b c id → is_form_part p id ≡ false → Judged p id (Some k) → NewFacts p b c id name arguments k
  unfolding children is_argument is_expression object_of takes_parts HasRightChildren declared_before
  new_facts b c id position name_position name arguments k there inside part judged =
      let node : Node = New position name_position name arguments in
      let s = sorted.each id node there in
      let values : (x : ℕ) → is_among x arguments ≡ true → ValueAt forest accepted whole sorted b c id x = λ x among. child_at forest accepted whole sorted b c id node there inside refl x among (all_of forest accepted whole sorted x arguments s among) refl part in
      let ts = arguments_typed forest accepted whole sorted b c id arguments values in
      let n = new_names_class forest accepted sorted id position name_position name arguments (at_p forest accepted whole sorted id node there) in
      let l = named_is_class forest name n.0 n.1 in
      let class_of_b : (context p b).class ≡ Some c = (member_is forest whole sorted id b inside.member).same_class ∙ inside.class in
      let now = current_has_scope forest accepted whole sorted c b class_of_b in
      let here = current_is b c id now.0 inside now.1 in
      let uses = use_of_new id position name_position name arguments (use_unbroken forest accepted whole sorted id node there) in
      let lies = new_lies id n.0 now.0 here (sym (ap (λ (o : Option ℕ). holds o (lies_elsewhere p id)) n.1) ∙ uses.lies) in
      let w = right_new p types id position name_position name arguments (unbroken forest accepted whole sorted id node there) in
      record {
        now = now.0;
        is_now = now.1;
        class = n.0;
        named = n.1;
        is_class = l;
        concrete = is_concrete_class id name arguments n.0 ts.0 n.1 ts.1 part w.makes_object w.no_form l;
        binding = new_bound id position name_position name arguments n.0 there part n.1;
        lies = lies.0;
        passes = λ user. (
            let passed = pass forest accepted whole sorted b c id arguments ts.0 (constructor_parameters p.classes n.0) (constructor_parameter_scope p n.0) now.0 now.0 values
            (λ x k among j. operand_at forest accepted whole sorted b c id x node k there among refl (values x among) j) ts.1
            (constructor_accepts id name arguments n.0 ts.0 n.1 ts.1 part w.arguments_fit user) (constructor_scoped id name arguments n.0 now.0 n.1 lies.1 uses.passes) (λ d h. parameters_kinds n.0 d h) in
            record { taken = passed.0; takes = takes_are n.0 passed.0 passed.1; passes = passed.2 });
        gives = new_kind id position name_position name arguments n.0 now.0 ts.0 k there part n.1 ts.1 lies.1 judged;
      }
