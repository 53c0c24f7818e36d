-- Parts that AND, OR, IF and LOOP put in front of the rest flow.
use Rattle.std.specs.Prelude.{Some, slice_get}
use Rattle.std.proofs.Common.{◌≡◌, ℕ, suc, List, [], ◌∷◌, ◌++◌, true, sym, ◌∙◌, ap, subst, arith, append_assoc, true≢false, ◌⊎◌, inl, inr}
use Rattle.scj_tree.specs.declared.nodes.Node.{Node}
use Rattle.scj_tree.specs.declared.nodes.Node.TheVariants.{While, For}
use Rattle.scj_rules.specs.declared.views.Body.TheVariants.{Written}
use Rattle.scj_rules.specs.Types.{returns_of, is_true_literal}
use Rattle.scj_rules.specs.TypeRules.{always_returns}
use Rattle.accepted_laws.specs.Kinds.{Kind, truth}
use Rattle.accepted_laws.specs.Judgements.{Among}
use Rattle.accepted_laws.proofs.Tools.{some_inj}
use Rattle.scj_model.specs.declared.operations.Op.{Op}
use Rattle.scj_model.specs.declared.operations.Op.TheVariants.{Loop as LOOP}
use Rattle.scj_model.specs.Code.{Code}
use Rattle.scj_model.specs.Ops.{ops_of, iteration_ops}
use Rattle.scope_flow.specs.Signatures.{Signature, IsBody}
use Rattle.scope_flow.specs.Needs.{IsValuePart, IsStatementPart, pushed}
use Rattle.scope_flow.specs.Flow.{Flow, AreLoopParts}
use Rattle.scope_flow.specs.Facts.{Facts}
use Rattle.scope_flow.proofs.Known.{among_trans}
use Rattle.scope_flow.proofs.Widens.{statement_widens, value_widens, loop_widens}
use Rattle.scope_flow.proofs.LoopFlows.{returns_at, condition_flow, always}
use Rattle.scope_flow.proofs.Flows.{value_flows, statement_flows, all_flow}

module _ (code : Code) (facts : Facts code) (b c : ℕ) (sig : Signature) (body : IsBody code.program b c sig) where
  abbrev F : List Op → List ℕ → List Kind → Type 0
  F xs ms t = Flow code (Written b) c sig xs ms t

  pub value_part_flows : (known : List ℕ) (x : ℕ) (k : Kind) → IsValuePart code.program b c known x k →
      (os : List Op) (s : List Kind) → ((ms : List ℕ) → Among known ms → F os ms (k ∷ s)) →
      F (ops_of code x ++ os) known s
  unfolding pushed
  value_part_flows known x k r os s h =
      value_flows code facts b c sig body x (Some k) r.inside r.judged known r.are_set os s h

  pub statement_part_flows : (known : List ℕ) (x : ℕ) → IsStatementPart code.program b c known x →
      (os : List Op) (s : List Kind) →
      (always_returns code.program x ≡ true) ⊎ ((ms : List ℕ) → Among known ms → F os ms s) →
      F (ops_of code x ++ os) known s
  statement_part_flows known x r os s (inl h) =
      statement_flows code facts b c sig body x r.is known r.are_set os s (inl h)
  statement_part_flows known x r os s (inr h) =
      statement_flows code facts b c sig body x r.is known r.are_set os s (inr (λ ms m st. h ms m))

  module _ (id : ℕ) (node : Node) (there : slice_get code.program.nodes id ≡ Some node) (os : List Op) (s : List Kind) where
    -- the condition of one more turn
    again_flow : (condition : ℕ) (known : List ℕ) → AreLoopParts code.program b c known node →
        IsValuePart code.program b c known condition truth →
        ((n : Node) → slice_get code.program.nodes condition ≡ Some n → always_returns code.program id ≡ true →
        is_true_literal n ≡ Some true) →
        (always_returns code.program id ≡ true) ⊎ ((ms : List ℕ) → Among known ms → F os ms s) →
        F (ops_of code condition ++ (LOOP id ∷ os)) known s
    again_flow condition known parts r literal k =
        condition_flow code b c sig id (suc condition) (ops_of code) (all_flow code facts b c sig body (suc condition))
        node there known (λ ms m. loop_widens code.program b c known ms node m parts) os s condition (omega arith)
        r.inside r.judged r.are_set literal k

  either_on : (id : ℕ) (known ms : List ℕ) (os : List Op) (s : List Kind) → Among known ms →
      (always_returns code.program id ≡ true) ⊎ ((ms : List ℕ) → Among known ms → F os ms s) →
      (always_returns code.program id ≡ true) ⊎ ((ns : List ℕ) → Among ms ns → F os ns s)
  either_on id known ms os s m (inl h) = inl h
  either_on id known ms os s m (inr h) = inr (λ ns n. h ns (among_trans known ms ns m n))

  -- one more turn of a loop, up to its next LOOP
  pub turn_flow : (id : ℕ) (node : Node) → slice_get code.program.nodes id ≡ Some node → (known : List ℕ) →
      AreLoopParts code.program b c known node → (os : List Op) (s : List Kind) →
      (always_returns code.program id ≡ true) ⊎ ((ms : List ℕ) → Among known ms → F os ms s) → (turn : List Op) →
      iteration_ops code id node ≡ Some turn → F (turn ++ os) known s
  unfolding AreLoopParts iteration_ops returns_of
  turn_flow id (While position condition x) there known parts os s k turn e =
      subst (λ ys. F (ys ++ os) known s) (some_inj _ turn e)
      (subst (λ ys. F ys known s)
      (sym (append_assoc (ops_of code x) (ops_of code condition ++ LOOP id ∷ []) os
      ∙ ap (λ ys. ops_of code x ++ ys) (append_assoc (ops_of code condition) (LOOP id ∷ []) os)))
      (statement_part_flows known x parts.1 (ops_of code condition ++ (LOOP id ∷ os)) s (inr (λ ms m.
      again_flow id (While position condition x) there os s condition ms
      (loop_widens code.program b c known ms (While position condition x) m parts)
      (value_widens code.program b c known ms condition truth m parts.0)
      (always code b c sig id (ops_of code) (all_flow code facts b c sig body id) position condition x there)
      (either_on id known ms os s m k)))))
  turn_flow id (For position first condition step x) there known parts os s k turn e =
      subst (λ ys. F (ys ++ os) known s) (some_inj _ turn e)
      (subst (λ ys. F ys known s)
      (sym (append_assoc (ops_of code x) (ops_of code step ++ (ops_of code condition ++ LOOP id ∷ [])) os
      ∙ ap (λ ys. ops_of code x ++ ys) (append_assoc (ops_of code step) (ops_of code condition ++ LOOP id ∷ []) os
      ∙ ap (λ ys. ops_of code step ++ ys) (append_assoc (ops_of code condition) (LOOP id ∷ []) os))))
      (statement_part_flows known x parts.2 (ops_of code step ++ (ops_of code condition ++ (LOOP id ∷ os))) s (inr (λ ms m.
      statement_part_flows ms step (statement_widens code.program b c known ms step m parts.1)
      (ops_of code condition ++ (LOOP id ∷ os)) s (inr (λ ns n.
      again_flow id (For position first condition step x) there os s condition ns
      (loop_widens code.program b c known ns (For position first condition step x) (among_trans known ms ns m n) parts)
      (value_widens code.program b c known ns condition truth (among_trans known ms ns m n) parts.0)
      (λ n e h. absurd (true≢false (sym h ∙ returns_at code.program id _ there)))
      (either_on id known ns os s (among_trans known ms ns m n) k)))))))
  turn_flow id _ there known parts os s k turn e = absurd parts
