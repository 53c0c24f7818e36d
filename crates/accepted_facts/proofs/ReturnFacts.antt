-- What a declaration with a value and a `return` of an accepted program have.
use Rattle.std.proofs.Common.{◌≡◌, ℕ, List, [], ◌∷◌, ◌++◌, refl, sym, ap, ◌∙◌, Option, Some, None, Bool, true, false, not, ◌&&◌, true≢false, ◌⊎◌, inl, inr, option_and_then, option_map, slice_get, if◌then◌else◌, ◌==◌}
use Rattle.scj_base.specs.declared.findings.Rule.TheVariants.{T2, T7, T9, E4, E6}
use Rattle.scj_base.specs.declared.positions.Position.{Position}
use Rattle.scj_tree.specs.declared.nodes.Node.{Node}
use Rattle.scj_tree.specs.declared.nodes.Node.TheVariants.{Method as MethodNode, LocalWithValue, Return}
use Rattle.scj_tree.specs.Forest.{Forest, IsForest}
use Rattle.scj_tree.specs.Shape.{children, optional}
use Rattle.scj_rules.specs.declared.typing.Ty.{Ty}
use Rattle.scj_rules.specs.declared.typing.Ty.TheVariants.{Int, Bool as Boolean, Void, Label, Class as ClassTy, IntArray, BoolArray, ClassArray}
use Rattle.scj_rules.specs.declared.views.Declared.{Declared}
use Rattle.scj_rules.specs.declared.views.WrittenType.{WrittenType}
use Rattle.scj_rules.specs.declared.views.WrittenType.TheVariants.{Boolean as boolean_type, BooleanArray as boolean_array, Class as class_type, ClassArray as class_array, Int as int_type, IntArray as int_array, Long as long_type, Text as text_type, Void as void_type}
use Rattle.scj_rules.specs.Definitions.{read}
use Rattle.scj_rules.specs.Words.{is_among, holds, broken}
use Rattle.scj_rules.specs.Views.{DeclaredMethod, type_at, variable_at, variable_of, method_at, method_of}
use Rattle.scj_rules.specs.Classes.{class_number}
use Rattle.scj_rules.specs.ClassRules.{is_same_type}
use Rattle.scj_rules.specs.Contexts.{Declarations, declarations_of, context, object_of, declared_before}
use Rattle.scj_rules.specs.AnnotationRules.{result_scope}
use Rattle.scj_rules.specs.Types.{assigns, are_same, is_int, is_reference, type_written}
use Rattle.scj_rules.specs.TypeRules.{Types, misfits_initial_value, written_type, declared_type_of, is_declared_already, result_at, result_of_member, fits_result, misfits_result, lacks_value, type_breaks, t1, t2, t3, t4, t5, t6, t7, t8, t9, t10, t11, t12, t13, t14}
use Rattle.scj_rules.specs.UseRules.{Scopes, misfit_scope, variable_scope_at, result_scope_at, use_breaks, e1, e2, e3, e4_and_e5, e6, e7, e8, e9, e10}
use Rattle.scj_rules.specs.Phases.{IsAccepted}
use Rattle.accepted_laws.specs.Judgements.{type_at_node, scope_at_node, HasType, Inside, Judged}
use Rattle.accepted_laws.specs.Kinds.{Kind, number, kind_of, kind_of_variable}
use Rattle.accepted_laws.specs.Sorts.{Of, HasRightChildren, IsWellSorted, is_expression}
use Rattle.accepted_laws.proofs.Breaks.{both_empty, right}
use Rattle.accepted_laws.proofs.InnerNodes.{is_inner}
use Rattle.accepted_laws.proofs.MemberContexts.{member_is}
use Rattle.accepted_laws.proofs.MemberScopes.{result_has_scope}
use Rattle.accepted_laws.proofs.Tools.{some_inj}
use Rattle.scj_rules.proofs.ChainLemmas.{or_left, or_right, is_same_number}
use Rattle.accepted_nodes.proofs.DeclaredScopes.{variable_has_scope, reference_has_scope}
use Rattle.accepted_nodes.proofs.DeclaredTypes.{variable_has_type}
use Rattle.accepted_nodes.proofs.FormParts.{takes_parts, bound, held}
use Rattle.accepted_nodes.proofs.TypeBreaks.{right_return}
use Rattle.accepted_nodes.proofs.TypesComplete.{at_p, unbroken, ValueAt, of_expression, same_first}
use Rattle.accepted_facts.specs.Expressions.{Operand}
use Rattle.accepted_facts.specs.Statements.{InitialValueFacts, ReturnFacts}
use Rattle.accepted_facts.proofs.AccessFacts.{operand_at, type_of_value, int_judged}
use Rattle.accepted_facts.proofs.DeclaredKinds.{holds_values, has_kind, variable_holds, method_gives}
use Rattle.accepted_facts.proofs.OverridingKinds.{same_type}
use Rattle.accepted_facts.proofs.StatementFacts.{not_false, statement_value, use_unbroken, value_fits}

pub is_int_type : (t : Ty) → is_int t ≡ true → t ≡ Int
unfolding are_same
is_int_type Int e = refl
is_int_type _ e = absurd (true≢false (sym e))

assigns_to_void : (p : Declarations) (t : Ty) → assigns p.classes t Void ≡ true → t ≡ Void
unfolding assigns are_same is_reference
assigns_to_void p Void e = refl
assigns_to_void p _ e = absurd (true≢false (sym e))

void_written : (names : List (List ℕ)) (w : WrittenType) → type_written names w ≡ Some Void → is_same_type w void_type ≡ true
unfolding type_written is_same_type
void_written names int_type e = absurd (let f : Int ≡ Void = some_inj Int Void e in cc (f))
void_written names boolean_type e = absurd (let f : Boolean ≡ Void = some_inj Boolean Void e in cc (f))
void_written names void_type e = refl
void_written names long_type e = absurd (cc (e))
void_written names text_type e = absurd (let f : Label ≡ Void = some_inj Label Void e in cc (f))
void_written names int_array e = absurd (let f : IntArray ≡ Void = some_inj IntArray Void e in cc (f))
void_written names boolean_array e = absurd (let f : BoolArray ≡ Void = some_inj BoolArray Void e in cc (f))
void_written names (class_type name) e = absurd (go (class_number names name) e)
  where
    go : (o : Option ℕ) → option_map (λ class. ClassTy class) o ≡ Some Void → ⊥
    go None e = cc (e)
    go (Some c) e = (let f : ClassTy c ≡ Void = some_inj (ClassTy c) Void e in cc (f))
void_written names (class_array name) e = absurd (go (class_number names name) e)
  where
    go : (o : Option ℕ) → option_map (λ class. ClassArray class) o ≡ Some Void → ⊥
    go None e = cc (e)
    go (Some c) e = (let f : ClassArray c ≡ Void = some_inj (ClassArray c) Void e in cc (f))

module _ (forest : Forest) (accepted : IsAccepted forest) (whole : IsForest forest) (sorted : IsWellSorted forest.nodes) where
  abbrev p : Declarations
  p = declarations_of forest

  abbrev types : Types
  types = type_at_node p

  abbrev scopes : Scopes
  scopes = scope_at_node p

  -- ---- declarations with a value (JLS 14.4)

  rules_of_local : (id : ℕ) (position name_position : Position) (name : List ℕ) (flags : Option ℕ) (declared_type value : ℕ) → slice_get forest.nodes id ≡ Some (LocalWithValue position name_position name flags declared_type value)
      → (misfits_initial_value p types declared_type value ≡ false) × (misfit_scope (scopes value) (variable_scope_at p id) ≡ false)
  unfolding type_breaks t1 t2 t3 t4 t5 t6 t7 t8 t9 t10 t11 t12 t13 t14 use_breaks e1 e2 e3 e4_and_e5 e6 e7 e8 e9 e10
  rules_of_local id position name_position name flags declared_type value there =
      let node : Node = LocalWithValue position name_position name flags declared_type value in
      let after = both_empty (broken (is_declared_already p id name) T2 name_position) (broken (misfits_initial_value p types declared_type value) T7 position ++ []) (unbroken forest accepted whole sorted id node there) in (
        right (misfits_initial_value p types declared_type value) T7 position (both_empty (broken (misfits_initial_value p types declared_type value) T7 position) [] after.1).0,
        right (misfit_scope (scopes value) (variable_scope_at p id)) E4 position (both_empty (broken (misfit_scope (scopes value) (variable_scope_at p id)) E4 position) [] (use_unbroken forest accepted whole sorted id node there)).0,
      )

  local_is : (id : ℕ) (position name_position : Position) (name : List ℕ) (flags : Option ℕ) (declared_type value : ℕ) → slice_get p.nodes id ≡ Some (LocalWithValue position name_position name flags declared_type value) → (d : Declared) × (variable_at p.nodes id ≡ Some d) × (declared_type_of p d ≡ written_type p declared_type)
  unfolding variable_of
  local_is id position name_position name flags declared_type value there = (_, ap (λ (o : Option Node). option_and_then (variable_of p.nodes id) o) there, refl)

  behind : (q : ℕ) (xs ys : List ℕ) → is_among q ys ≡ true → is_among q (xs ++ ys) ≡ true
  behind q [] ys h = h
  behind q (x ∷ xs) ys h = or_right (q == x) (is_among q (xs ++ ys)) (behind q xs ys h)

  pub initial_value_facts : (b c id value declared_type : ℕ) (position name_position : Position) (name : List ℕ) (flags : Option ℕ) → slice_get forest.nodes id ≡ Some (LocalWithValue position name_position name flags declared_type value) → Inside p b c id → InitialValueFacts p b c id value
  unfolding children is_inner object_of takes_parts HasRightChildren declared_before kind_of_variable
  initial_value_facts b c id value declared_type position name_position name flags there inside =
      let node : Node = LocalWithValue position name_position name flags declared_type value in
      let w = (sorted.each id node there).2 in
      let among = behind value (optional flags) (declared_type ∷ value ∷ []) (or_right (value == declared_type) _ (or_left (value == value) _ (is_same_number value value refl))) in
      let y = statement_value forest accepted whole sorted b c id value node there inside refl among (of_expression forest accepted whole sorted value w) refl refl in
      let t = type_of_value forest accepted whole sorted b c id value y in
      let d = local_is id position name_position name flags declared_type value (at_p forest accepted whole sorted id node there) in
      let u = variable_has_type forest accepted sorted id d.0 d.1 in
      let k = has_kind u.0 (variable_scope_at p id) (variable_holds forest sorted id d.0 u.0 d.1 u.1) (λ r. variable_has_scope forest accepted whole sorted id b c d.0 u.0 d.1 inside.class inside.member u.1 r) in
      let rules = rules_of_local id position name_position name flags declared_type value there in
      let fit : assigns p.classes t.0 u.0 ≡ true = not_false (assigns p.classes t.0 u.0)
      (sym (ap (λ (o : Option Ty). holds o (λ u. holds (types value) (λ v. not (assigns p.classes v u)))) (sym d.2 ∙ u.1) ∙ ap (λ (o : Option Ty). holds o (λ v. not (assigns p.classes v u.0))) t.1) ∙ rules.0) in
      let j = value_fits forest accepted whole sorted b c id value u.0 (variable_scope_at p id) k.0 y w.node w.is_there w.passes k.1 (λ t2 e. ap (λ t. assigns p.classes t u.0) (some_inj t2 t.0 (sym e ∙ t.1)) ∙ fit) rules.1 in
      record {
        expected = k.0;
        variable_is = ap (λ (o : Option Declared). kind_of (option_and_then (declared_type_of p) o) (variable_scope_at p id)) d.1 ∙ ap (λ (o : Option Ty). kind_of o (variable_scope_at p id)) u.1 ∙ k.1;
        given = j.0;
        value_is = operand_at forest accepted whole sorted b c id value node j.0 there among refl y j.1;
        fit = j.2;
      }

  -- ---- returns (JLS 14.17)

  -- the member around a node, where it is a method with this result
  method_result : (b : ℕ) (node : Node) (m : DeclaredMethod) → slice_get p.nodes b ≡ Some node → method_of p.nodes b node ≡ Some m → (result : ℕ) × (result_of_member node ≡ Some result) × (type_at p.nodes result ≡ m.declared.declared_type)
  unfolding method_of result_of_member
  method_result b (MethodNode position name flags result_type parameters body) m at is = (result_type, refl, ap (λ (m : DeclaredMethod). m.declared.declared_type) (some_inj _ m is))
  method_result b _ m at is = absurd (cc (is))

  no_method_result : (b : ℕ) (node : Node) → method_of p.nodes b node ≡ None → result_of_member node ≡ None
  unfolding method_of result_of_member
  no_method_result b (MethodNode position name flags result_type parameters body) e = absurd (cc (e))
  no_method_result b _ e = refl

  result_is : (b id : ℕ) (m : DeclaredMethod) → (context p id).member ≡ Some b → method_at p.nodes b ≡ Some m → result_at p id ≡ m.declared.declared_type
  unfolding result_at
  result_is b id m e k =
      let n = bound (slice_get p.nodes b) (method_of p.nodes b) m k in
      let r = method_result b n.0 m n.1 n.2 in
      ap (λ (o : Option ℕ). elim (option_and_then (read p.nodes result_of_member) o) as (λ _. WrittenType) [ None ↦ void_type | Some result ↦ type_at p.nodes result ]) e
      ∙ ap (λ (o : Option ℕ). elim o as (λ _. WrittenType) [ None ↦ void_type | Some result ↦ type_at p.nodes result ]) (ap (option_and_then result_of_member) n.1 ∙ r.1) ∙ r.2

  result_none : (b id : ℕ) → (context p id).member ≡ Some b → method_at p.nodes b ≡ None → result_at p id ≡ void_type
  unfolding result_at
  result_none b id e k = ap (λ (o : Option ℕ). elim (option_and_then (read p.nodes result_of_member) o) as (λ _. WrittenType) [ None ↦ void_type | Some result ↦ type_at p.nodes result ]) e ∙ go (slice_get p.nodes b) k
    where
      go : (o : Option Node) → option_and_then (method_of p.nodes b) o ≡ None → (elim (option_and_then result_of_member o) as (λ _. WrittenType) [ None ↦ void_type | Some result ↦ type_at p.nodes result ]) ≡ void_type
      go None k = refl
      go (Some node) k = ap (λ (o : Option ℕ). elim o as (λ _. WrittenType) [ None ↦ void_type | Some result ↦ type_at p.nodes result ]) (no_method_result b node k)

  rules_of_return : (id : ℕ) (position : Position) (value : ℕ) → slice_get forest.nodes id ≡ Some (Return position (Some value)) → (misfits_result p types id value ≡ false) × (misfit_scope (scopes value) (result_scope_at p id) ≡ false)
  unfolding use_breaks e1 e2 e3 e4_and_e5 e6 e7 e8 e9 e10
  rules_of_return id position value there = (
    right_return p types id position value (unbroken forest accepted whole sorted id (Return position (Some value)) there),
    right (misfit_scope (scopes value) (result_scope_at p id)) E6 position (both_empty (broken (misfit_scope (scopes value) (result_scope_at p id)) E6 position) [] (use_unbroken forest accepted whole sorted id (Return position (Some value)) there)).0,
  )

  fits_parts : (w : WrittenType) (t : Ty) → fits_result p w t ≡ true → ((is_same_type w long_type ≡ true) × (is_int t ≡ true)) ⊎ ((is_same_type w void_type ≡ false) × ((u : Ty) × (type_written p.names w ≡ Some u) × (assigns p.classes t u ≡ true)))
  fits_parts w t e = go (is_same_type w long_type) refl e
    where
      second : (a : Bool) → is_same_type w void_type ≡ a → (not a && holds (type_written p.names w) (assigns p.classes t)) ≡ true → (is_same_type w void_type ≡ false) × ((u : Ty) × (type_written p.names w ≡ Some u) × (assigns p.classes t u ≡ true))
      second true a e = absurd (true≢false (sym e))
      second false a e = (a, held (type_written p.names w) (assigns p.classes t) e)

      go : (l : Bool) → is_same_type w long_type ≡ l → (if l then is_int t else (not (is_same_type w void_type) && holds (type_written p.names w) (assigns p.classes t))) ≡ true → ((is_same_type w long_type ≡ true) × (is_int t ≡ true)) ⊎ ((is_same_type w void_type ≡ false) × ((u : Ty) × (type_written p.names w ≡ Some u) × (assigns p.classes t u ≡ true)))
      go true l e = inl (l, e)
      go false l e = inr (second (is_same_type w void_type) refl e)

  void_type_same : is_same_type void_type void_type ≡ true
  unfolding is_same_type
  void_type_same = refl

  void_not_long : is_same_type void_type long_type ≡ true → ⊥
  unfolding is_same_type
  void_not_long e = true≢false (sym e)

  pub return_facts : (b c id value : ℕ) (position : Position) → slice_get forest.nodes id ≡ Some (Return position (Some value)) → Inside p b c id → ReturnFacts p b c id value
  unfolding children is_inner object_of takes_parts HasRightChildren declared_before result_scope_at
  return_facts b c id value position there inside = by_member (method_at p.nodes b) refl
    where
      node : Node
      node = Return position (Some value)

      w : Of is_expression forest.nodes value
      w = sorted.each id node there

      y : ValueAt forest accepted whole sorted b c id value
      y = statement_value forest accepted whole sorted b c id value node there inside refl (same_first forest accepted whole sorted value []) (of_expression forest accepted whole sorted value w) refl refl

      t : HasType (types value)
      t = type_of_value forest accepted whole sorted b c id value y

      rules : (misfits_result p types id value ≡ false) × (misfit_scope (scopes value) (result_scope_at p id) ≡ false)
      rules = rules_of_return id position value there

      fits : fits_result p (result_at p id) t.0 ≡ true
      fits = not_false (fits_result p (result_at p id) t.0) (sym (ap (λ (o : Option Ty). holds o (λ t. not (fits_result p (result_at p id) t))) t.1) ∙ rules.0)

      operand : (k : Kind) → Judged p value (Some k) → Operand p b c id value k
      operand k j = operand_at forest accepted whole sorted b c id value node k there (same_first forest accepted whole sorted value []) refl y j

      of_method : (m : DeclaredMethod) → method_at p.nodes b ≡ Some m → ReturnFacts p b c id value
      of_method m k =
          let r = result_is b id m inside.member k in
          elim (fits_parts m.declared.declared_type t.0 (sym (ap (λ w. fits_result p w t.0) r) ∙ fits)) as (λ z. ReturnFacts p b c id value) [
            | inl long ↦ record {
              method = m;
              is_method = k;
              given = number;
              value_is = operand number (int_judged forest accepted whole sorted value (t.1 ∙ ap (λ t. Some t) (is_int_type t.0 long.1)));
              fit = inl (same_type m.declared.declared_type long_type long.0, refl);
            }
            | inr q ↦ (
                let class_of_b : (context p b).class ≡ Some c = (member_is forest whole sorted id b inside.member).same_class ∙ inside.class in
                let gives : holds_values q.1.0 ≡ true = elim (method_gives forest sorted b m q.1.0 k q.1.1) as (λ z. holds_values q.1.0 ≡ true) [
                  | inl v ↦ absurd (true≢false (sym (void_written p.names m.declared.declared_type (q.1.1 ∙ ap (λ u. Some u) v)) ∙ q.0))
                  | inr h ↦ h
                ] in
                let e = has_kind q.1.0 (result_scope p c m) gives (λ r. result_has_scope forest accepted whole sorted c b m k class_of_b (reference_has_scope p.names m.declared.declared_type q.1.0 q.1.1 r)) in
                let scope : result_scope_at p id ≡ result_scope p c m
                = ap (λ (o : Option ℕ). option_and_then (λ class. option_and_then (λ (m : DeclaredMethod). result_scope p class m) (option_and_then (method_at p.nodes) (context p id).member)) o) inside.class
                ∙ ap (λ (o : Option ℕ). option_and_then (λ (m : DeclaredMethod). result_scope p c m) (option_and_then (method_at p.nodes) o)) inside.member ∙ ap (option_and_then (λ (m : DeclaredMethod). result_scope p c m)) k in
                let j = value_fits forest accepted whole sorted b c id value q.1.0 (result_scope p c m) e.0 y w.node w.is_there w.passes e.1 (λ t2 h. ap (λ t. assigns p.classes t q.1.0) (some_inj t2 t.0 (sym h ∙ t.1)) ∙ q.1.2) (sym (ap (misfit_scope (scopes value)) scope) ∙ rules.1) in
                record {
                  method = m;
                  is_method = k;
                  given = j.0;
                  value_is = operand j.0 j.1;
                  fit = inr (e.0, ap (λ (o : Option Ty). kind_of o (result_scope p c m)) q.1.1 ∙ e.1, j.2);
                })
          ]

      by_member : (o : Option DeclaredMethod) → method_at p.nodes b ≡ o → ReturnFacts p b c id value
      by_member (Some m) k = of_method m k
      by_member None k =
          absurd (elim (fits_parts void_type t.0 (sym (ap (λ w. fits_result p w t.0) (result_none b id inside.member k)) ∙ fits)) as (λ z. ⊥)
          [ inl long ↦ void_not_long long.0 | inr q ↦ true≢false (sym void_type_same ∙ q.0) ])

  -- a `return` without a value stands in no method that gives one
  pub returns_nothing : (b c id : ℕ) (position : Position) (m : DeclaredMethod) → slice_get forest.nodes id ≡ Some (Return position None) → Inside p b c id → method_at p.nodes b ≡ Some m → m.declared.declared_type ≡ void_type
  unfolding type_breaks t1 t2 t3 t4 t5 t6 t7 t8 t9 t10 t11 t12 t13 t14
  returns_nothing b c id position m there inside k =
      let e = right (lacks_value p id) T9 position (both_empty (broken (lacks_value p id) T9 position) [] (unbroken forest accepted whole sorted id (Return position None) there)).0 in
      same_type m.declared.declared_type void_type (sym (ap (λ w. is_same_type w void_type) (result_is b id m inside.member k)) ∙ not_false (is_same_type (result_at p id) void_type) e)
