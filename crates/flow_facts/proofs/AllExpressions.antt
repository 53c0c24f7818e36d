-- What each expression of an accepted program has, by its kind.
use Rattle.std.proofs.Common.{◌≡◌, ℕ, List, refl, sym, ap, ◌∙◌, Option, Some, None, Bool, true, false, true≢false, ◌⊎◌, inl, inr, slice_get}
use Rattle.scj_base.specs.declared.positions.Position.{Position}
use Rattle.scj_tree.specs.declared.nodes.Node.{Node}
use Rattle.scj_tree.specs.declared.nodes.Node.TheVariants.{Binary, Unary, Cast, Parenthesized, SimpleName, FieldAccess, Call, Element, New, NewArray, Text, Number, True, False, Null, This as ThisNode}
use Rattle.scj_tree.specs.Forest.{Forest, IsForest}
use Rattle.scj_rules.specs.declared.typing.Ty.{Ty}
use Rattle.scj_rules.specs.declared.typing.Ty.TheVariants.{Void, Label}
use Rattle.scj_rules.specs.CheckedProgram.{IsReadFromTexts}
use Rattle.scj_rules.specs.Contexts.{Declarations, declarations_of}
use Rattle.scj_rules.specs.TypeRules.{Types, type_of}
use Rattle.scj_rules.specs.Phases.{IsAccepted}
use Rattle.accepted_laws.specs.Judgements.{type_at_node, scope_at_node, Inside, Judged}
use Rattle.accepted_laws.specs.Kinds.{Kind, kind_of}
use Rattle.accepted_laws.specs.Programs.{IsAcceptedProgram}
use Rattle.accepted_laws.specs.Sorts.{IsWellSorted, is_expression}
use Rattle.accepted_laws.proofs.ClassSorts.{well_sorted}
use Rattle.accepted_laws.proofs.Tools.{some_inj}
use Rattle.accepted_nodes.proofs.TypesComplete.{type_is}
use Rattle.scj_model.specs.Code.{Code, code_of}
use Rattle.scope_flow.specs.Signatures.{Signature, IsBody}
use Rattle.scope_flow.specs.CallFacts.{CallFact, StaticCallFact, BuiltinFact, ExpressionFact}
use Rattle.flow_facts.proofs.Arrays.{element_fact, new_array_fact, cast_fact}
use Rattle.flow_facts.proofs.Calls.{Invoked, invoked, call_fact}
use Rattle.flow_facts.proofs.FrameworkCalls.{builtin_fact}
use Rattle.flow_facts.proofs.Literals.{number_fact, true_fact, false_fact, null_fact, this_fact, parenthesized_fact}
use Rattle.flow_facts.proofs.Names.{name_fact, access_fact}
use Rattle.flow_facts.proofs.NewObjects.{new_fact}
use Rattle.flow_facts.proofs.Operators.{unary_fact, binary_fact}
use Rattle.flow_facts.proofs.StaticCalls.{static_call_fact}

module _ (forest : Forest) (accepted : IsAccepted forest) (whole : IsForest forest) (sorted : IsWellSorted forest.nodes)
    (is_read : IsReadFromTexts forest) where
  abbrev p : Declarations
  p = declarations_of forest

  abbrev types : Types
  types = type_at_node p

  abbrev code : Code
  code = code_of forest

  -- ---- what is no expression isn't judged

  no_type : (id : ℕ) (node : Node) → is_expression node ≡ false →
      (type_of p types id node ≡ None) ⊎ (type_of p types id node ≡ Some Label)
  unfolding type_of is_expression
  no_type id (Text position text) e = inr refl
  no_type id (Binary a b c d) e = absurd (true≢false e)
  no_type id (Unary a b c) e = absurd (true≢false e)
  no_type id (Cast a b c d) e = absurd (true≢false e)
  no_type id (Parenthesized a b) e = absurd (true≢false e)
  no_type id (SimpleName a b) e = absurd (true≢false e)
  no_type id (FieldAccess a b c) e = absurd (true≢false e)
  no_type id (Call a b c d) e = absurd (true≢false e)
  no_type id (Element a b c) e = absurd (true≢false e)
  no_type id (New a b c d) e = absurd (true≢false e)
  no_type id (NewArray a b c) e = absurd (true≢false e)
  no_type id (Number a b c) e = absurd (true≢false e)
  no_type id (True a) e = absurd (true≢false e)
  no_type id (False a) e = absurd (true≢false e)
  no_type id (Null a) e = absurd (true≢false e)
  no_type id (ThisNode a) e = absurd (true≢false e)
  no_type id _ e = inl refl

  untyped : (id : ℕ) (o : Option Kind) (t : Option Ty) → (t ≡ None) ⊎ (t ≡ Some Label) → types id ≡ t → Judged p id o →
      ⊥
  unfolding Judged kind_of
  untyped id None t (inl n) e j = (let z : None ≡ Some Void = sym (e ∙ n) ∙ j in cc (z))
  untyped id None t (inr n) e j = (let z : Label ≡ Void = some_inj Label Void (sym (e ∙ n) ∙ j) in cc (z))
  untyped id (Some k) t (inl n) e j =
      (let z : None ≡ Some k = sym (ap (λ t. kind_of t (scope_at_node p id)) (e ∙ n)) ∙ j in cc (z))
  untyped id (Some k) t (inr n) e j =
      (let z : None ≡ Some k = sym (ap (λ t. kind_of t (scope_at_node p id)) (e ∙ n)) ∙ j in cc (z))

  not_judged : (id : ℕ) (node : Node) (o : Option Kind) → is_expression node ≡ false →
      slice_get forest.nodes id ≡ Some node → Judged p id o → ⊥
  not_judged id node o e there j =
      untyped id o (type_of p types id node) (no_type id node e) (type_is forest accepted whole sorted id node there) j

  -- ---- calls

  abbrev CallCases : ℕ → ℕ → Signature → ℕ → Option ℕ → List ℕ → Option Kind → Type 0
  CallCases b c sig id object arguments o =
      CallFact code b c sig id object arguments o ⊎
      (StaticCallFact code b c sig id arguments o ⊎ BuiltinFact code b c sig id object arguments o)

  calls : (b c : ℕ) (sig : Signature) (id : ℕ) (position : Position) (name : List ℕ) (object : Option ℕ) (arguments : List ℕ)
      (o : Option Kind) → IsBody p b c sig → slice_get forest.nodes id ≡ Some (Call position name object arguments) →
      Inside p b c id → Judged p id o → CallCases b c sig id object arguments o
  calls b c sig id position name object arguments o body there inside j = by_method v.method.method.builtin refl
    where
      v : Invoked forest accepted whole sorted is_read id name object
      v = invoked forest accepted whole sorted is_read id position name object arguments o there j

      by_static : v.method.method.builtin ≡ None → (t : Bool) → v.method.method.declared.modifiers.is_static ≡ t →
          CallCases b c sig id object arguments o
      by_static n false s =
          inl
          (call_fact forest accepted whole sorted is_read b c sig id position name object arguments o body there inside v n
          s j)
      by_static n true s =
          inr
          (inl
          (static_call_fact forest accepted whole sorted is_read b c sig id position name object arguments o body there
          inside v n s j))

      by_method : (n : Option ℕ) → v.method.method.builtin ≡ n → CallCases b c sig id object arguments o
      by_method None n = by_static n v.method.method.declared.modifiers.is_static refl
      by_method (Some k) n =
          inr
          (inr
          (builtin_fact forest accepted whole sorted is_read b c sig id position name object arguments o k body there
          inside v n j))

  -- ---- all expressions

  by_node : (b c : ℕ) (sig : Signature) (id : ℕ) (node : Node) (o : Option Kind) → IsBody p b c sig → Inside p b c id →
      slice_get forest.nodes id ≡ Some node → Judged p id o → ExpressionFact code b c sig id node o
  unfolding ExpressionFact code_of is_expression
  by_node b c sig id (Number position value is_negative) o body inside there j =
      number_fact forest accepted whole sorted id position value is_negative o there j
  by_node b c sig id (True position) o body inside there j = true_fact forest accepted whole sorted id position o there j
  by_node b c sig id (False position) o body inside there j = false_fact forest accepted whole sorted id position o there j
  by_node b c sig id (Null position) o body inside there j = null_fact forest accepted whole sorted id position o there j
  by_node b c sig id (ThisNode position) o body inside there j =
      this_fact forest accepted whole sorted b c id position o there inside j
  by_node b c sig id (SimpleName position name) o body inside there j =
      name_fact forest accepted whole sorted b c id position name o there inside j
  by_node b c sig id (Parenthesized position inner) o body inside there j =
      parenthesized_fact forest accepted whole sorted b c id inner position o there inside j
  by_node b c sig id (FieldAccess position name object) o body inside there j =
      access_fact forest accepted whole sorted b c id object position name o there inside j
  by_node b c sig id (Element position array index) o body inside there j =
      element_fact forest accepted whole sorted b c id array index position o there inside j
  by_node b c sig id (Unary position operator operand) o body inside there j =
      unary_fact forest accepted whole sorted is_read b c id operator operand position o there inside j
  by_node b c sig id (Binary position operator left operand) o body inside there j =
      binary_fact forest accepted whole sorted is_read b c id operator left operand position o there inside j
  by_node b c sig id (New position name_position name arguments) o body inside there j =
      new_fact forest accepted whole sorted is_read b c sig id position name_position name arguments o body there inside j
  by_node b c sig id (NewArray position element size) o body inside there j =
      new_array_fact forest accepted whole sorted b c sig id element size position o body there inside j
  by_node b c sig id (Cast position name_position name operand) o body inside there j =
      cast_fact forest accepted whole sorted b c id operand position name_position name o there inside j
  by_node b c sig id (Call position name object arguments) o body inside there j =
      calls b c sig id position name object arguments o body there inside j
  by_node b c sig id _ o body inside there j = not_judged id _ o refl there j

-- each expression of an accepted program has what the proofs about runs ask of it
pub expression_facts : (forest : Forest) → IsAcceptedProgram forest → (b c : ℕ) (sig : Signature) (id : ℕ) (node : Node)
    (gives : Option Kind) → IsBody (code_of forest).program b c sig → Inside (code_of forest).program b c id →
    slice_get (code_of forest).program.nodes id ≡ Some node → Judged (code_of forest).program id gives
    → ExpressionFact (code_of forest) b c sig id node gives
unfolding code_of declarations_of
expression_facts forest a b c sig id node gives body inside there j =
    by_node forest a.is_accepted a.whole (well_sorted forest a.is_read) a.is_read b c sig id node gives body inside
    there j
