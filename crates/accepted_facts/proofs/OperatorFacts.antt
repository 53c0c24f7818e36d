-- What operators of an accepted program have.
use Rattle.std.proofs.Common.{◌≡◌, ℕ, List, [], ◌∷◌, refl, sym, ap, ◌∙◌, subst, Option, Some, None, Bool, true, false, ◌||◌, ◌&&◌, true≢false, ◌⊎◌, inl, inr, option_and_then, slice_get, if◌then◌else◌, ◌==◌}
use Rattle.scj_base.specs.Vocabulary.{sign_not}
use Rattle.scj_base.specs.declared.positions.Position.{Position}
use Rattle.scj_tree.specs.declared.nodes.Node.{Node}
use Rattle.scj_tree.specs.declared.nodes.Node.TheVariants.{Binary, Unary}
use Rattle.scj_tree.specs.Forest.{Forest, IsForest}
use Rattle.scj_tree.specs.Shape.{children}
use Rattle.scj_rules.specs.declared.typing.Scope.{Scope}
use Rattle.scj_rules.specs.declared.typing.Scope.TheVariants.{Any}
use Rattle.scj_rules.specs.declared.typing.Ty.{Ty}
use Rattle.scj_rules.specs.declared.typing.Ty.TheVariants.{Int, Bool as Boolean, NullTy, Class as ClassTy, IntArray, BoolArray, ClassArray}
use Rattle.scj_rules.specs.Words.{is_among}
use Rattle.scj_rules.specs.Classes.{ClassRow}
use Rattle.scj_rules.specs.Contexts.{Declarations, declarations_of, object_of, declared_before}
use Rattle.scj_rules.specs.Types.{is_int, is_boolean, is_reference, are_same, are_comparable, assigns, binary_type, unary_type, conditional_operators, relational_operators, equality_operators}
use Rattle.scj_rules.specs.TypeRules.{Types, type_of}
use Rattle.scj_rules.specs.UseRules.{Scopes}
use Rattle.scj_rules.specs.Phases.{IsAccepted}
use Rattle.accepted_laws.specs.Judgements.{type_at_node, scope_at_node, HasScope, Inside, Judged}
use Rattle.accepted_laws.specs.Kinds.{Kind, number, truth, reference, kind_of}
use Rattle.accepted_laws.specs.Sorts.{HasRightChildren, IsWellSorted, is_argument, is_expression}
use Rattle.accepted_laws.proofs.Tools.{some_inj}
use Rattle.accepted_nodes.proofs.FormParts.{takes_parts}
use Rattle.accepted_nodes.proofs.ScopesComplete.{of_option}
use Rattle.accepted_nodes.proofs.ValueFacts.{typed_of}
use Rattle.scj_rules.proofs.ChainLemmas.{same_number}
use Rattle.accepted_nodes.proofs.TypesComplete.{type_is, child_at, of_expression, same_first, same_second}
use Rattle.accepted_facts.specs.Expressions.{Operates, conditional, relational, equality_of_numbers, equality_of_truths, equality_of_references, arithmetic, BinaryFacts, UnaryFacts}
use Rattle.accepted_facts.proofs.AccessFacts.{operand_at, scope_of_value, and_true}
use Rattle.accepted_facts.proofs.ReturnFacts.{is_int_type}

-- ---- operators

-- a reference has a kind
reference_kind : (t : Ty) (s : Option Scope) → is_reference t ≡ true → HasScope s → (u : Ty) × (r : Scope) × (kind_of (Some t) s ≡ Some (reference u r))
unfolding is_reference kind_of
reference_kind NullTy s k h = (NullTy, Any, refl)
reference_kind (ClassTy c) s k h = (ClassTy c, h.0, ap (kind_of (Some (ClassTy c))) h.1)
reference_kind IntArray s k h = (IntArray, h.0, ap (kind_of (Some IntArray)) h.1)
reference_kind BoolArray s k h = (BoolArray, h.0, ap (kind_of (Some BoolArray)) h.1)
reference_kind (ClassArray c) s k h = (ClassArray c, h.0, ap (kind_of (Some (ClassArray c))) h.1)
reference_kind _ s k h = absurd (true≢false (sym k))

int_kind_of : (t : Ty) (s : Option Scope) → is_int t ≡ true → kind_of (Some t) s ≡ Some number
unfolding kind_of
int_kind_of t s k = ap (λ t. kind_of (Some t) s) (is_int_type t k)

boolean_kind_of : (t : Ty) (s : Option Scope) → is_boolean t ≡ true → kind_of (Some t) s ≡ Some truth
unfolding kind_of are_same
boolean_kind_of Boolean s k = refl
boolean_kind_of _ s k = absurd (true≢false (sym k))

boolean_of : (o : Option Scope) → kind_of (Some Boolean) o ≡ Some truth
unfolding kind_of
boolean_of o = refl

int_of : (o : Option Scope) → kind_of (Some Int) o ≡ Some number
unfolding kind_of
int_of o = refl

given_some : (test : Bool) (t u : Ty) → (if test then Some t else None) ≡ Some u → (test ≡ true) × (t ≡ u)
given_some true t u e = (refl, some_inj t u e)
given_some false t u e = absurd (cc (e))

or_true : (a b : Bool) → (a || b) ≡ true → (a ≡ true) ⊎ (b ≡ true)
or_true true b e = inl refl
or_true false b e = inr e

-- two operands of which an operator has a value: their kinds, and that of the value
pub record OperatorKinds (operator : ℕ) (a b t : Ty) (s r o : Option Scope) : Type 0 where
  pub first : Kind
  pub second : Kind
  pub third : Kind
  pub is_first : kind_of (Some a) s ≡ Some first
  pub is_second : kind_of (Some b) r ≡ Some second
  pub is_third : kind_of (Some t) o ≡ Some third
  pub operates : Operates operator first second third

module _ (rows : List ClassRow) (operator : ℕ) (a b t : Ty) (s r o : Option Scope) (ha : is_reference a ≡ true → HasScope s) (hb : is_reference b ≡ true → HasScope r) where
  truths : (is_boolean a && is_boolean b) ≡ true → Boolean ≡ t → Operates operator truth truth truth → OperatorKinds operator a b t s r o
  unfolding kind_of
  truths e k h =
      let x = and_true (is_boolean a) (is_boolean b) e in
      record { first = truth; second = truth; third = truth; is_first = boolean_kind_of a s x.0; is_second = boolean_kind_of b r x.1; is_third = ap (λ t. kind_of (Some t) o) (sym k); operates = h }

  numbers : (is_int a && is_int b) ≡ true → Boolean ≡ t → Operates operator number number truth → OperatorKinds operator a b t s r o
  unfolding kind_of
  numbers e k h =
      let x = and_true (is_int a) (is_int b) e in
      record { first = number; second = number; third = truth; is_first = int_kind_of a s x.0; is_second = int_kind_of b r x.1; is_third = ap (λ t. kind_of (Some t) o) (sym k); operates = h }

  sums : (is_int a && is_int b) ≡ true → Int ≡ t → OperatorKinds operator a b t s r o
  unfolding kind_of
  sums e k =
      let x = and_true (is_int a) (is_int b) e in
      record { first = number; second = number; third = number; is_first = int_kind_of a s x.0; is_second = int_kind_of b r x.1; is_third = ap (λ t. kind_of (Some t) o) (sym k); operates = arithmetic }

  references : is_reference a ≡ true → is_reference b ≡ true → Boolean ≡ t → is_among operator equality_operators ≡ true → OperatorKinds operator a b t s r o
  unfolding kind_of
  references x y k q =
      let i = reference_kind a s x (ha x) in
      let j = reference_kind b r y (hb y) in
      record { first = reference i.0 i.1; second = reference j.0 j.1; third = truth; is_first = i.2; is_second = j.2; is_third = ap (λ t. kind_of (Some t) o) (sym k); operates = equality_of_references q }

  compared : are_comparable rows a b ≡ true → Boolean ≡ t → is_among operator equality_operators ≡ true → OperatorKinds operator a b t s r o
  compared e k q =
      elim (or_true (is_int a && is_int b) ((is_boolean a && is_boolean b) || (is_reference a && (is_reference b && (assigns rows a b || assigns rows b a)))) e) as (λ z. OperatorKinds operator a b t s r o) [
        | inl x ↦ numbers x k (equality_of_numbers q)
        | inr y ↦ elim (or_true (is_boolean a && is_boolean b) (is_reference a && (is_reference b && (assigns rows a b || assigns rows b a))) y) as (λ z. OperatorKinds operator a b t s r o) [
          | inl x ↦ truths x k (equality_of_truths q)
          | inr x ↦ (let u = and_true (is_reference a) (is_reference b && (assigns rows a b || assigns rows b a)) x in references u.0 (and_true (is_reference b) (assigns rows a b || assigns rows b a) u.1).0 k q)
        ]
      ]

  operator_kinds : binary_type rows operator a b ≡ Some t → OperatorKinds operator a b t s r o
  unfolding binary_type
  operator_kinds e = first (is_among operator conditional_operators) refl e
    where
      third : (x : Bool) → is_among operator equality_operators ≡ x → (if x then (if are_comparable rows a b then Some Boolean else None) else (if is_int a && is_int b then Some Int else None)) ≡ Some t → OperatorKinds operator a b t s r o
      third true q e = (let g = given_some (are_comparable rows a b) Boolean t e in compared g.0 g.1 q)
      third false q e = (let g = given_some (is_int a && is_int b) Int t e in sums g.0 g.1)

      second : (x : Bool) → is_among operator relational_operators ≡ x → (if x then (if is_int a && is_int b then Some Boolean else None) else (if is_among operator equality_operators then (if are_comparable rows a b then Some Boolean else None) else (if is_int a && is_int b then Some Int else None))) ≡ Some t → OperatorKinds operator a b t s r o
      second true q e = (let g = given_some (is_int a && is_int b) Boolean t e in numbers g.0 g.1 (relational q))
      second false q e = third (is_among operator equality_operators) refl e

      first : (x : Bool) → is_among operator conditional_operators ≡ x
          → (if x then (if is_boolean a && is_boolean b then Some Boolean else None) else (if is_among operator relational_operators then (if is_int a && is_int b then Some Boolean else None) else (if is_among operator equality_operators then (if are_comparable rows a b then Some Boolean else None) else (if is_int a && is_int b then Some Int else None)))) ≡ Some t
          → OperatorKinds operator a b t s r o
      first true q e = (let g = given_some (is_boolean a && is_boolean b) Boolean t e in truths g.0 g.1 (conditional q))
      first false q e = second (is_among operator relational_operators) refl e

module _ (forest : Forest) (accepted : IsAccepted forest) (whole : IsForest forest) (sorted : IsWellSorted forest.nodes) where
  abbrev p : Declarations
  p = declarations_of forest

  abbrev types : Types
  types = type_at_node p

  abbrev scopes : Scopes
  scopes = scope_at_node p

  typed_some : (id : ℕ) (k : Kind) → Judged p id (Some k) → (t : Ty) × (types id ≡ Some t) × (kind_of (Some t) (scopes id) ≡ Some k)
  unfolding Judged
  typed_some id k j = (let t = typed_of (types id) (scopes id) k j in (t.0, t.1, ap (λ o. kind_of o (scopes id)) (sym t.1) ∙ j))

  judged_as : (x : ℕ) (t : Ty) (k : Kind) → types x ≡ Some t → kind_of (Some t) (scopes x) ≡ Some k → Judged p x (Some k)
  unfolding Judged
  judged_as x t k e h = ap (λ o. kind_of o (scopes x)) e ∙ h

  pub binary_facts : (b c id operator left operand : ℕ) (position : Position) (k : Kind) → slice_get forest.nodes id ≡ Some (Binary position operator left operand) → Inside p b c id → Judged p id (Some k) → BinaryFacts p b c id operator left operand k
  unfolding children is_argument is_expression object_of takes_parts HasRightChildren declared_before type_of
  binary_facts b c id operator left operand position k there inside judged =
      let node : Node = Binary position operator left operand in
      let s = sorted.each id node there in
      let first = same_first forest accepted whole sorted left (operand ∷ []) in
      let second = same_second forest accepted whole sorted left operand [] in
      let x = child_at forest accepted whole sorted b c id node there inside refl left first (of_expression forest accepted whole sorted left s.0) refl refl in
      let y = child_at forest accepted whole sorted b c id node there inside refl operand second (of_expression forest accepted whole sorted operand s.1) refl refl in
      let t = typed_some id k judged in
      let e : type_of p types id node ≡ Some t.0 = sym (type_is forest accepted whole sorted id node there) ∙ t.1 in
      let a = of_option (types left) (λ a. option_and_then (binary_type p.classes operator a) (types operand)) t.0 e in
      let d = of_option (types operand) (binary_type p.classes operator a.0) t.0 a.2 in
      let w = operator_kinds p.classes operator a.0 d.0 t.0 (scopes left) (scopes operand) (scopes id) (λ r. scope_of_value forest accepted whole sorted b c id left a.0 x a.1 r) (λ r. scope_of_value forest accepted whole sorted b c id operand d.0 y d.1 r) d.2 in
      record {
        first = w.first;
        second = w.second;
        left_operand = operand_at forest accepted whole sorted b c id left node w.first there first refl x (judged_as left a.0 w.first a.1 w.is_first);
        right_operand = operand_at forest accepted whole sorted b c id operand node w.second there second refl y (judged_as operand d.0 w.second d.1 w.is_second);
        operates = subst (Operates operator w.first w.second) (some_inj w.third k (sym w.is_third ∙ t.2)) w.operates;
      }

  unary_operates : (operator : ℕ) (a t : Ty) (s o : Option Scope) (k : Kind) → unary_type operator a ≡ Some t → kind_of (Some t) o ≡ Some k → (kind_of (Some a) s ≡ Some k) × (((operator ≡ sign_not) × (k ≡ truth)) ⊎ (k ≡ number))
  unfolding unary_type
  unary_operates operator a t s o k e h = go (operator == sign_not) refl e
    where
      go : (x : Bool) → (operator == sign_not) ≡ x → (if x then (if is_boolean a then Some Boolean else None) else (if is_int a then Some Int else None)) ≡ Some t → (kind_of (Some a) s ≡ Some k) × (((operator ≡ sign_not) × (k ≡ truth)) ⊎ (k ≡ number))
      go true q e =
          let g = given_some (is_boolean a) Boolean t e in
          let same : truth ≡ k = some_inj truth k (sym (boolean_of o) ∙ ap (λ t. kind_of (Some t) o) g.1 ∙ h) in
          (boolean_kind_of a s g.0 ∙ ap (λ k. Some k) same, inl (same_number operator sign_not q, sym same))
      go false q e =
          let g = given_some (is_int a) Int t e in
          let same : number ≡ k = some_inj number k (sym (int_of o) ∙ ap (λ t. kind_of (Some t) o) g.1 ∙ h) in
          (int_kind_of a s g.0 ∙ ap (λ k. Some k) same, inr (sym same))

  pub unary_facts : (b c id operator operand : ℕ) (position : Position) (k : Kind) → slice_get forest.nodes id ≡ Some (Unary position operator operand) → Inside p b c id → Judged p id (Some k) → UnaryFacts p b c id operator operand k
  unfolding children is_argument is_expression object_of takes_parts HasRightChildren declared_before type_of
  unary_facts b c id operator operand position k there inside judged =
      let node : Node = Unary position operator operand in
      let s = sorted.each id node there in
      let first = same_first forest accepted whole sorted operand [] in
      let x = child_at forest accepted whole sorted b c id node there inside refl operand first (of_expression forest accepted whole sorted operand s) refl refl in
      let t = typed_some id k judged in
      let a = of_option (types operand) (unary_type operator) t.0 (sym (type_is forest accepted whole sorted id node there) ∙ t.1) in
      let w = unary_operates operator a.0 t.0 (scopes operand) (scopes id) k a.2 t.2 in
      record { operand_is = operand_at forest accepted whole sorted b c id operand node k there first refl x (judged_as operand a.0 k a.1 w.0); operates = w.1 }
