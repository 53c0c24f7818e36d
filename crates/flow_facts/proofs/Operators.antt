-- Unary and binary expressions: their operands, and what their operators give.
use Rattle.std.proofs.Common.{◌≡◌, ℕ, List, [], ◌∷◌, refl, sym, ap, ◌∙◌, subst, Option, Some, None, Bool, true, false, ◌&&◌, ◌==◌, true≢false, ◌⊎◌, inl, inr, is_some, slice_get, option_and_then, if◌then◌else◌}
use Rattle.scj_base.specs.Vocabulary.{sign_minus, sign_not, sign_tilde}
use Rattle.scj_base.specs.declared.positions.Position.{Position}
use Rattle.scj_tree.specs.declared.nodes.Node.TheVariants.{Binary, Unary}
use Rattle.scj_tree.specs.Forest.{Forest, IsForest}
use Rattle.scj_tree.specs.Terminals.{is_binary}
use Rattle.scj_rules.specs.declared.typing.Scope.{Scope}
use Rattle.scj_rules.specs.declared.typing.Scope.TheVariants.{Any}
use Rattle.scj_rules.specs.declared.typing.Ty.{Ty}
use Rattle.scj_rules.specs.declared.typing.Ty.TheVariants.{Int, Bool as Boolean, Void, NullTy, Label, Class as ClassTy, IntArray, BoolArray, ClassArray}
use Rattle.scj_rules.specs.Words.{is_among}
use Rattle.scj_rules.specs.Classes.{ClassRow}
use Rattle.scj_rules.specs.CheckedProgram.{IsReadFromTexts}
use Rattle.scj_rules.specs.Contexts.{Declarations, declarations_of}
use Rattle.scj_rules.specs.Phases.{IsAccepted}
use Rattle.scj_rules.specs.Types.{binary_type, unary_type, is_boolean, is_int, are_comparable, conditional_operators, relational_operators, equality_operators}
use Rattle.scj_rules.specs.TypeRules.{Types, type_of}
use Rattle.scj_rules.proofs.ChainLemmas.{or_cases, same_number}
use Rattle.accepted_laws.specs.Judgements.{type_at_node, scope_at_node, Inside, Judged}
use Rattle.accepted_laws.specs.Kinds.{Kind, number, truth, reference, kind_of}
use Rattle.accepted_laws.specs.Sorts.{IsWellSorted}
use Rattle.accepted_laws.proofs.Tools.{some_inj}
use Rattle.accepted_nodes.proofs.ScopesComplete.{of_option}
use Rattle.accepted_nodes.proofs.TypesComplete.{type_is}
use Rattle.accepted_nodes.proofs.ValueFacts.{typed_of}
use Rattle.accepted_facts.specs.Expressions.{Operates, conditional, relational, equality_of_numbers, equality_of_truths, equality_of_references, arithmetic}
use Rattle.accepted_facts.proofs.OperatorFacts.{binary_facts, unary_facts}
use Rattle.scope_flow.specs.Needs.{kind_of_unary}
use Rattle.scope_flow.specs.ValueFacts.{HasValue, UnaryFact, ShortFact, BinaryFact}
use Rattle.flow_facts.proofs.GivenKinds.{gives_value, valued}
use Rattle.flow_facts.proofs.Literals.{value_of}
use Rattle.flow_facts.proofs.ReadOperators.{operators_right}
use Rattle.flow_facts.proofs.RightOperators.{unary_operators, has_right_operator}
use Rattle.flow_facts.proofs.BinarySigns.{IsArithmetic, arithmetic_sign, Compares, relational_sign, equal_numbers, equal_truths, equal_references}

-- ---- types of operations

-- an operator that gives an int is neither conditional nor a comparison
record GivesInt (n : ℕ) : Type 0 where
  no_conditional : is_among n conditional_operators ≡ false
  no_relational : is_among n relational_operators ≡ false
  no_equality : is_among n equality_operators ≡ false

boolean_or_none : (t : Bool) → (if t then Some Boolean else None) ≡ Some Int → ⊥
boolean_or_none true e = (let f : Boolean ≡ Int = some_inj Boolean Int e in cc (f))
boolean_or_none false e = cc (e)

gives_int : (rows : List ClassRow) (n : ℕ) (a b : Ty) → binary_type rows n a b ≡ Some Int → GivesInt n
unfolding binary_type
gives_int rows n a b e = go (is_among n conditional_operators) refl (is_among n relational_operators) refl
    (is_among n equality_operators) refl e
  where
    go : (c : Bool) → is_among n conditional_operators ≡ c → (r : Bool) → is_among n relational_operators ≡ r →
        (q : Bool) → is_among n equality_operators ≡ q
        → (if c then (if is_boolean a && is_boolean b then Some Boolean else None)
        else (if r then (if is_int a && is_int b then Some Boolean else None)
        else (if q then (if are_comparable rows a b then Some Boolean else None) else (if is_int a
        && is_int b then Some Int else None)))) ≡ Some Int → GivesInt n
    go true c r rr q qq e = absurd (boolean_or_none (is_boolean a && is_boolean b) e)
    go false c true r q qq e = absurd (boolean_or_none (is_int a && is_int b) e)
    go false c false r true q e = absurd (boolean_or_none (are_comparable rows a b) e)
    go false c false r false q e = record { no_conditional = c; no_relational = r; no_equality = q }

int_of_number : (t : Ty) (s : Option Scope) → kind_of (Some t) s ≡ Some number → t ≡ Int
unfolding kind_of
int_of_number Int s e = refl
int_of_number Boolean s e = absurd (let f : truth ≡ number = some_inj truth number e in cc (f))
int_of_number NullTy s e =
    absurd (let f : reference NullTy Any ≡ number = some_inj (reference NullTy Any) number e in cc (f))
int_of_number Void s e = absurd (cc (e))
int_of_number Label s e = absurd (cc (e))
int_of_number (ClassTy c) None e = absurd (cc (e))
int_of_number IntArray None e = absurd (cc (e))
int_of_number BoolArray None e = absurd (cc (e))
int_of_number (ClassArray c) None e = absurd (cc (e))
int_of_number (ClassTy c) (Some r) e =
    absurd (let f : reference (ClassTy c) r ≡ number = some_inj (reference (ClassTy c) r) number e in cc (f))
int_of_number IntArray (Some r) e =
    absurd (let f : reference IntArray r ≡ number = some_inj (reference IntArray r) number e in cc (f))
int_of_number BoolArray (Some r) e =
    absurd (let f : reference BoolArray r ≡ number = some_inj (reference BoolArray r) number e in cc (f))
int_of_number (ClassArray c) (Some r) e =
    absurd (let f : reference (ClassArray c) r ≡ number = some_inj (reference (ClassArray c) r) number e in cc (f))

not_gives_truth : (a : Ty) → unary_type sign_not a ≡ Some Int → ⊥
unfolding unary_type
not_gives_truth a e = boolean_or_none (is_boolean a) e

unary_kind : (n : ℕ) (k : Kind) → is_among n unary_operators ≡ true →
    ((n ≡ sign_not) × (k ≡ truth)) ⊎ ((k ≡ number) × (n ≡ sign_not → ⊥)) → kind_of_unary n k ≡ Some k
unfolding kind_of_unary
unary_kind n k h (inl q) =
    subst (λ k. kind_of_unary n k ≡ Some k) (sym q.1) (subst (λ n. kind_of_unary n truth ≡ Some truth) (sym q.0) refl)
unary_kind n k h (inr q) = subst (λ k. kind_of_unary n k ≡ Some k) (sym q.0) (by_sign (or_cases (n == sign_minus) _ h))
  where
    of_sign : (m : ℕ) → (n == m) ≡ true → kind_of_unary m number ≡ Some number → kind_of_unary n number ≡ Some number
    of_sign m e r = subst (λ n. kind_of_unary n number ≡ Some number) (sym (same_number n m e)) r

    by_sign : ((n == sign_minus) ≡ true) ⊎ (is_among n (sign_not ∷ (sign_tilde ∷ [])) ≡ true) →
        kind_of_unary n number ≡ Some number
    by_sign (inl e) = of_sign sign_minus e refl
    by_sign (inr h) = elim (or_cases (n == sign_not) _ h) as (λ z. kind_of_unary n number ≡ Some number) [
      | inl e ↦ absurd (q.1 (same_number n sign_not e))
      | inr h ↦ elim (or_cases (n == sign_tilde) false h) as (λ z. kind_of_unary n number ≡ Some number)
          [ inl e ↦ of_sign sign_tilde e refl | inr e ↦ absurd (true≢false (sym e)) ]
    ]

module _ (forest : Forest) (accepted : IsAccepted forest) (whole : IsForest forest) (sorted : IsWellSorted forest.nodes)
    (is_read : IsReadFromTexts forest) where
  abbrev p : Declarations
  p = declarations_of forest

  abbrev types : Types
  types = type_at_node p

  -- the type of what is a number
  typed_int : (id : ℕ) → Judged p id (Some number) → types id ≡ Some Int
  unfolding Judged
  typed_int id j =
      (let t = typed_of (types id) (scope_at_node p id) number j in t.1
      ∙ ap (λ t. Some t)
      (int_of_number t.0 (scope_at_node p id) (ap (λ o. kind_of o (scope_at_node p id)) (sym t.1) ∙ j)))

  unary_case : (id operator operand : ℕ) (position : Position) (k : Kind) →
      slice_get forest.nodes id ≡ Some (Unary position operator operand) → Judged p id (Some k) →
      ((operator ≡ sign_not) × (k ≡ truth)) ⊎ (k ≡ number) →
      ((operator ≡ sign_not) × (k ≡ truth)) ⊎ ((k ≡ number) × (operator ≡ sign_not → ⊥))
  unfolding type_of
  unary_case id operator operand position k there j (inl q) = inl q
  unary_case id operator operand position k there j (inr q) =
      inr (
        q,
        λ n. (
            let t = typed_int id (subst (λ k. Judged p id (Some k)) q j) in
            let a =
            of_option (types operand) (unary_type operator) Int
            (sym (type_is forest accepted whole sorted id (Unary position operator operand) there) ∙ t) in
            not_gives_truth a.0 (ap (λ n. unary_type n a.0) (sym n) ∙ a.2)),
      )

  pub unary_fact : (b c id operator operand : ℕ) (position : Position) (o : Option Kind) →
      slice_get forest.nodes id ≡ Some (Unary position operator operand) → Inside p b c id → Judged p id o →
      UnaryFact p b c id operator operand o
  unfolding gives_value has_right_operator
  unary_fact b c id operator operand position o there inside j =
      let v = valued forest accepted whole sorted id (Unary position operator operand) o there refl j in
      let f = unary_facts forest accepted whole sorted b c id operator operand position v.0 there inside v.2 in
      let sign : is_among operator unary_operators ≡ true =
      operators_right forest is_read id (Unary position operator operand) there in
      let kind = unary_kind operator v.0 sign (unary_case id operator operand position v.0 there v.2 f.operates) in
      record {
        kind = v.0;
        operand_is = value_of p b c id operand v.0 f.operand_is;
        is_given = v.1
            ∙ sym kind;
        is_some = ap is_some v.1;
      }

  abbrev BinaryCases : ℕ → ℕ → ℕ → ℕ → ℕ → ℕ → Option Kind → Type 0
  BinaryCases b c id operator left right o =
      ((is_among operator conditional_operators ≡ true) × ShortFact p b c id left right o) ⊎ BinaryFact p b c id
      operator left right o

  compared : (b c id operator left right : ℕ) (j k : Kind) → HasValue p b c id left (Some j) →
      HasValue p b c id right (Some k) → Compares operator j k → BinaryCases b c id operator left right (Some truth)
  compared b c id operator left right j k x y h =
      inr (record {
        is_not_and = h.no_and;
        is_not_or = h.no_or;
        left_kind = j;
        right_kind = k;
        left_is = x;
        right_is = y;
        kind = truth;
        is_kind = h.gives;
        is_given = refl;
      })

  computed : (b c id operator left right : ℕ) → HasValue p b c id left (Some number) →
      HasValue p b c id right (Some number) → IsArithmetic operator →
      BinaryCases b c id operator left right (Some number)
  computed b c id operator left right x y h =
      inr (record {
        is_not_and = h.no_and;
        is_not_or = h.no_or;
        left_kind = number;
        right_kind = number;
        left_is = x;
        right_is = y;
        kind = number;
        is_kind = h.gives;
        is_given = refl;
      })

  int_given : (id operator left right : ℕ) (position : Position) →
      slice_get forest.nodes id ≡ Some (Binary position operator left right) → Judged p id (Some number) →
      GivesInt operator
  unfolding type_of
  int_given id operator left right position there j =
      let a = of_option (types left) (λ a. option_and_then (binary_type p.classes operator a) (types right)) Int
      (sym (type_is forest accepted whole sorted id (Binary position operator left right) there) ∙ typed_int id j) in
      let d = of_option (types right) (binary_type p.classes operator a.0) Int a.2 in
      gives_int p.classes operator a.0 d.0 d.2

  by_operator : (b c id operator left right : ℕ) (position : Position) (j k l : Kind) →
      slice_get forest.nodes id ≡ Some (Binary position operator left right) → HasValue p b c id left (Some j) →
      HasValue p b c id right (Some k) → Operates operator j k l → Judged p id (Some l) →
      BinaryCases b c id operator left right (Some l)
  unfolding has_right_operator
  by_operator b c id operator left right position j k l there x y (conditional h) judged =
      inl (h, record { left_is = x; right_is = y; is_given = refl })
  by_operator b c id operator left right position j k l there x y (relational h) judged =
      compared b c id operator left right number number x y (relational_sign operator h)
  by_operator b c id operator left right position j k l there x y (equality_of_numbers h) judged =
      compared b c id operator left right number number x y (equal_numbers operator h)
  by_operator b c id operator left right position j k l there x y (equality_of_truths h) judged =
      compared b c id operator left right truth truth x y (equal_truths operator h)
  by_operator b c id operator left right position j k l there x y
      (equality_of_references {t = t} {u = u} {s = s} {r = r} h) judged =
      compared b c id operator left right (reference t s) (reference u r) x y (equal_references operator t u s r h)
  by_operator b c id operator left right position j k l there x y arithmetic judged =
      let g = int_given id operator left right position there judged in
      let sign : is_binary operator ≡ true = operators_right forest is_read id (Binary position operator left right) there
      in
      computed b c id operator left right x y
      (arithmetic_sign operator sign g.no_conditional g.no_relational g.no_equality)

  pub binary_fact : (b c id operator left right : ℕ) (position : Position) (o : Option Kind) →
      slice_get forest.nodes id ≡ Some (Binary position operator left right) → Inside p b c id → Judged p id o →
      BinaryCases b c id operator left right o
  unfolding gives_value
  binary_fact b c id operator left right position o there inside j =
      let v = valued forest accepted whole sorted id (Binary position operator left right) o there refl j in
      let f = binary_facts forest accepted whole sorted b c id operator left right position v.0 there inside v.2 in
      subst (BinaryCases b c id operator left right) (sym v.1)
      (by_operator b c id operator left right position f.first f.second v.0 there
      (value_of p b c id left f.first f.left_operand) (value_of p b c id right f.second f.right_operand) f.operates
      v.2)
