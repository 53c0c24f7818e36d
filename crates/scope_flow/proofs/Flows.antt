-- The operations of every node flow, by induction on its number; so do what conditions put in front of the rest.
use Rattle.std.specs.Prelude.{Option, Some, None, slice_get}
use Rattle.std.proofs.Common.{◌≡◌, ℕ, zero, suc, ◌<◌, List, [], ◌∷◌, ◌++◌, refl, sym, ◌∙◌, ap, subst, arith, inl, inr}
use Rattle.scj_base.specs.declared.positions.Position.{Position}
use Rattle.scj_tree.specs.declared.nodes.Node.{Node}
use Rattle.scj_tree.specs.declared.nodes.Node.TheVariants.{Binary, Unary, Cast, Parenthesized, SimpleName, FieldAccess, Call, Element, New, NewArray, Number, True, False, Null, This as ThisNode, Text}
use Rattle.scj_tree.specs.Recursion.{below}
use Rattle.scj_tree.proofs.RecursionLemmas.{by_smaller-is}
use Rattle.scj_rules.specs.declared.typing.Ty.TheVariants.{NullTy}
use Rattle.scj_rules.specs.declared.typing.Scope.TheVariants.{Any}
use Rattle.scj_rules.specs.declared.views.Body.TheVariants.{Written}
use Rattle.scj_rules.specs.Contexts.{known_variables}
use Rattle.accepted_laws.specs.Kinds.{Kind, number, truth, yes, reference}
use Rattle.accepted_laws.specs.Judgements.{Among, Inside, Judged}
use Rattle.scj_model.specs.declared.operations.Op.{Op}
use Rattle.scj_model.specs.declared.operations.Op.TheVariants.{Push as PUSH}
use Rattle.scj_model.specs.Code.{Code}
use Rattle.scj_model.specs.Ops.{node_ops, next_ops, ops_of}
use Rattle.scope_flow.specs.Slots.{kind_of_literal}
use Rattle.scope_flow.specs.Signatures.{Signature, IsBody}
use Rattle.scope_flow.specs.Flow.{Flow}
use Rattle.scope_flow.specs.Pushers.{IsKindOfExpression}
use Rattle.scope_flow.specs.Facts.{Facts}
use Rattle.scope_flow.specs.CallFacts.{ExpressionFact}
use Rattle.scope_flow.proofs.Known.{below_lt, among_self}
use Rattle.scope_flow.proofs.FlowTools.{After, ValueFlows, StatementFlows, FlowsBelow, expression, behind}
use Rattle.scope_flow.proofs.ExpressionFlows.{literal_flow, this_flow, name_flow, access_flow, element_flow, unary_flow, operator_flow, new_flow, new_array_flow, cast_flow}
use Rattle.scope_flow.proofs.CallFlows.{call_flow}
use Rattle.scope_flow.proofs.StatementFlows.{statement_node}

module _ (code : Code) (b c : ℕ) (sig : Signature) (id : ℕ) (sub : ℕ → List Op) (hyp : FlowsBelow code b c sig id sub) where
  -- the scope of a kind that the node has is the node's
  of_kind : {o : Option Kind} → Judged code.program id o → (k : Kind) → o ≡ Some k →
      IsKindOfExpression code.program id k
  of_kind j k e s is = (k, subst (Judged code.program id) e j, is)

  expression_node : Inside code.program b c id → (n : Node) → slice_get code.program.nodes id ≡ Some n → (o : Option Kind) →
      Judged code.program id o → ExpressionFact code b c sig id n o → (ls : List ℕ) → Among (known_variables code.program id) ls →
      (os : List Op) (s : List Kind) → After code b c sig o ls os s →
      Flow code (Written b) c sig (node_ops code sub id n ++ os) ls s
  unfolding node_ops ExpressionFact kind_of_literal
  expression_node inside (Number position v n) there o j r ls am os s a =
      literal_flow code b c sig id sub hyp o j ls am os s a number
      (ap (λ (x : Option Node). elim x [ None ↦ None | Some y ↦ kind_of_literal y ]) there) number (inl refl) (of_kind j _ r)
      (behind code b c sig id sub hyp o _ r ls os s a ls (among_self ls))
  expression_node inside (True position) there o j r ls am os s a =
      literal_flow code b c sig id sub hyp o j ls am os s a yes
      (ap (λ (x : Option Node). elim x [ None ↦ None | Some y ↦ kind_of_literal y ]) there) truth (inr (refl, refl)) (of_kind j _ r)
      (behind code b c sig id sub hyp o _ r ls os s a ls (among_self ls))
  expression_node inside (False position) there o j r ls am os s a =
      literal_flow code b c sig id sub hyp o j ls am os s a truth
      (ap (λ (x : Option Node). elim x [ None ↦ None | Some y ↦ kind_of_literal y ]) there) truth (inl refl) (of_kind j _ r)
      (behind code b c sig id sub hyp o _ r ls os s a ls (among_self ls))
  expression_node inside (Null position) there o j r ls am os s a =
      literal_flow code b c sig id sub hyp o j ls am os s a (reference NullTy Any)
      (ap (λ (x : Option Node). elim x [ None ↦ None | Some y ↦ kind_of_literal y ]) there) (reference NullTy Any) (inl refl) (of_kind j _ r)
      (behind code b c sig id sub hyp o _ r ls os s a ls (among_self ls))
  expression_node inside (ThisNode position) there o j r ls am os s a = this_flow code b c sig id sub hyp o j ls am os s a position r
  expression_node inside (SimpleName position name) there o j r ls am os s a = name_flow code b c sig id sub hyp o j ls am os s a r
  expression_node inside (Parenthesized position inner) there o j r ls am os s a =
      expression code b c sig id sub hyp inner o r ls am os s a
  expression_node inside (FieldAccess position name object) there o j r ls am os s a =
      access_flow code b c sig id sub hyp o j ls am os s a object r
  expression_node inside (Element position array index) there o j r ls am os s a =
      element_flow code b c sig id sub hyp o j ls am os s a array index r
  expression_node inside (Unary position operator operand) there o j r ls am os s a =
      unary_flow code b c sig id sub hyp o j ls am os s a position operator operand there r
  expression_node inside (Binary position operator left right) there o j r ls am os s a =
      operator_flow code b c sig id sub hyp o j ls am os s a position operator left right there r
  expression_node inside (New position name_position name xs) there o j r ls am os s a =
      new_flow code b c sig id sub hyp o j ls am os s a position name_position name xs inside there r
  expression_node inside (NewArray position element count) there o j r ls am os s a =
      new_array_flow code b c sig id sub hyp o j ls am os s a count r
  expression_node inside (Cast position name_position name operand) there o j r ls am os s a =
      cast_flow code b c sig id sub hyp o j ls am os s a operand r
  expression_node inside (Call position name object xs) there o j r ls am os s a =
      call_flow code b c sig id sub hyp o j ls am os s a position name object xs there r
  expression_node inside _ there o j r ls am os s a = absurd r

-- ---- all nodes, by induction

module _ (code : Code) where
  ops_are : (id : ℕ) → ops_of code id ≡ next_ops code id (below [] id (ops_of code))
  unfolding ops_of
  ops_are id = by_smaller-is [] (next_ops code) id

  pub ops_at : (id : ℕ) (n : Node) → slice_get code.program.nodes id ≡ Some n →
      ops_of code id ≡ node_ops code (below [] id (ops_of code)) id n
  unfolding next_ops
  ops_at id n there =
      ops_are id
      ∙ ap (λ (o : Option Node). elim o [ None ↦ [] | Some node ↦ node_ops code (below [] id (ops_of code)) id node ]) there

  literal_ops : (id : ℕ) (n : Node) → slice_get code.program.nodes id ≡ Some n → kind_of_literal n ≡ Some yes →
      ops_of code id ≡ PUSH id ∷ []
  unfolding node_ops kind_of_literal
  literal_ops id (True position) there e = ops_at id (True position) there
  literal_ops id _ there e = absurd (cc (e))

  text_ops : (id : ℕ) (position : Position) (text : List ℕ) → slice_get code.program.nodes id ≡ Some (Text position text) →
      ops_of code id ≡ []
  unfolding node_ops
  text_ops id position text there = ops_at id (Text position text) there

module _ (code : Code) (facts : Facts code) (b c : ℕ) (sig : Signature) (body : IsBody code.program b c sig) where
  record Both (id : ℕ) : Type 0 where
    value : ValueFlows code b c sig (ops_of code id) id
    statement : StatementFlows code b c sig (ops_of code id) id

  -- the nodes before one, by operations that are the same there
  flows_before : (id : ℕ) (sub : ℕ → List Op) → ((x : ℕ) → x < id → sub x ≡ ops_of code x) →
      ((x : ℕ) → x < id → Both x) → FlowsBelow code b c sig id sub
  flows_before id sub same hyp =
      record {
        values = λ x l. subst (λ xs. ValueFlows code b c sig xs x) (sym (same x l)) (hyp x l).value;
        statements = λ x l. subst (λ xs. StatementFlows code b c sig xs x) (sym (same x l)) (hyp x l).statement;
        literals = λ x l n e t. same x l ∙ literal_ops code x n e t;
        texts = λ x l position text e. same x l ∙ text_ops code x position text e;
      }

  both_step : (id : ℕ) → ((x : ℕ) → x < id → Both x) → Both id
  both_step id hyp = record { value = as_value; statement = as_statement }
    where
      sub : ℕ → List Op
      sub = below [] id (ops_of code)

      flows : FlowsBelow code b c sig id sub
      flows = flows_before id sub (λ x l. below_lt [] id (ops_of code) x l) hyp

      as_value : ValueFlows code b c sig (ops_of code id) id
      as_value o inside judged ls am os s a =
          subst (λ xs. Flow code (Written b) c sig (xs ++ os) ls s) (sym (ops_at code id inside.here.0 inside.here.1))
          (expression_node code b c sig id sub flows inside inside.here.0 inside.here.1 o judged
          (facts.expressions b c sig id inside.here.0 o body inside inside.here.1 judged) ls am os s a)

      as_statement : StatementFlows code b c sig (ops_of code id) id
      as_statement me ls am os s k =
          subst (λ xs. Flow code (Written b) c sig (xs ++ os) ls s) (sym (ops_at code id me.node me.is_there))
          (statement_node code b c sig id sub flows me.node me.is_there me
          (facts.statements b c sig id me.node body me me.is_there) ls am os s k)

  flows_up_to : (bound id : ℕ) → id < bound → Both id
  flows_up_to zero id l = absurd (omega (arith, l))
  flows_up_to (suc bound) id l = both_step id (λ x m. flows_up_to bound x (omega (arith, l, m)))

  pub value_flows : (id : ℕ) → ValueFlows code b c sig (ops_of code id) id
  value_flows id = (flows_up_to (suc id) id (omega arith)).value

  pub statement_flows : (id : ℕ) → StatementFlows code b c sig (ops_of code id) id
  statement_flows id = (flows_up_to (suc id) id (omega arith)).statement

  -- before any number
  pub all_flow : (id : ℕ) → FlowsBelow code b c sig id (ops_of code)
  all_flow id = flows_before id (ops_of code) (λ x l. refl) (λ x l. flows_up_to (suc x) x (omega arith))
