-- The operations of each expression of a body leave one operand more, if any, and those of each statement leave as many;
-- and there is room for them: by recursion over the nodes.
use Rattle.std.specs.Prelude.{Option, Some, slice_get}
use Rattle.std.proofs.Common.{◌≡◌, ◌≤◌, ◌<◌, ℕ, ◌+◌, ◌*◌, zero, suc, List, [], sym, ◌∙◌, subst, arith}
use Rattle.scj_base.specs.declared.positions.Position.{Position}
use Rattle.scj_tree.specs.declared.nodes.Node.TheVariants.{Text}
use Rattle.scj_tree.specs.Heights.{height}
use Rattle.accepted_laws.specs.Judgements.{Inside, Judged}
use Rattle.accepted_laws.specs.Kinds.{Kind}
use Rattle.scj_model.specs.declared.operations.Op.{Op}
use Rattle.scj_model.specs.Code.{Code}
use Rattle.scj_model.specs.Ops.{node_ops, ops_of}
use Rattle.scope_flow.specs.Needs.{IsStatement}
use Rattle.scope_flow.specs.Signatures.{Signature, IsBody}
use Rattle.scope_flow.specs.Facts.{Facts}
use Rattle.scope_flow.proofs.Known.{below_lt}
use Rattle.scope_flow.proofs.Flows.{ops_at}
use Rattle.scj_tree.specs.Recursion.{below}
use Rattle.frame_sizes.specs.Sizes.{most_operands}
use Rattle.frame_sizes.proofs.Counts.{Brings}
use Rattle.frame_sizes.proofs.Places.{Limits, with_kind, Before, Place}
use Rattle.frame_sizes.proofs.Expressions.{node_brings}
use Rattle.frame_sizes.proofs.Statements.{statement_brings}

module _ (code : Code) (b c : ℕ) (sig : Signature) (body : IsBody code.program b c sig) where
  module _ (facts : Facts code) (limits : Limits code) where
    position : (id d : ℕ) → d + 9 * height code.program.nodes id ≤ most_operands →
        Before code b c id (below [] id (ops_of code)) → Place code
    position id d r h =
        record {
          member = b;
          class = c;
          sig = sig;
          body = body;
          limits = limits;
          id = id;
          sub = below [] id (ops_of code);
          hyp = h;
          depth = d;
          room = r;
        }

    record Both (id : ℕ) : Type 0 where
      value : (o : Option Kind) → Inside code.program b c id → Judged code.program id o → (d : ℕ) →
          d + 9 * height code.program.nodes id ≤ most_operands → Brings code (ops_of code id) d (with_kind o d)
      statement : IsStatement code.program b c id → (d : ℕ) →
          d + 9 * height code.program.nodes id ≤ most_operands → Brings code (ops_of code id) d d

    text_ops : (id : ℕ) (position : Position) (text : List ℕ) → slice_get code.program.nodes id ≡ Some (Text position text) →
        ops_of code id ≡ []
    unfolding node_ops
    text_ops id position text there = ops_at code id (Text position text) there

    all_before : (id : ℕ) (sub : ℕ → List Op) → ((x : ℕ) → x < id → sub x ≡ ops_of code x) →
        ((x : ℕ) → x < id → Both x) → Before code b c id sub
    all_before id sub same h =
        record {
          values = λ x l o i j d r.
              subst (λ xs. Brings code xs d (with_kind o d)) (sym (same x l)) ((h x l).value o i j d r);
          statements = λ x l i d r. subst (λ xs. Brings code xs d d) (sym (same x l)) ((h x l).statement i d r);
          texts = λ x l position text e. same x l ∙ text_ops x position text e;
        }

    both_step : (id : ℕ) → ((x : ℕ) → x < id → Both x) → Both id
    unfolding position
    both_step id h =
        record {
          value = λ o i j d r.
              subst (λ xs. Brings code xs d (with_kind o d)) (sym (ops_at code id i.here.0 i.here.1))
              (node_brings code (position id d r here) o i.here.0 i.here.1 i j
              (facts.expressions b c sig id i.here.0 o body i i.here.1 j));
          statement = λ m d r.
              subst (λ xs. Brings code xs d d) (sym (ops_at code id m.node m.is_there))
              (statement_brings code (position id d r here) m.node m.is_there
              (facts.statements b c sig id m.node body m m.is_there));
        }
      where
        here : Before code b c id (below [] id (ops_of code))
        here = all_before id (below [] id (ops_of code)) (λ x l. below_lt [] id (ops_of code) x l) h

    up_to : (bound id : ℕ) → id < bound → Both id
    up_to zero id l = absurd (omega (arith, l))
    up_to (suc bound) id l = both_step id (λ x m. up_to bound x (omega (arith, l, m)))

    pub value_brings : (id : ℕ) (o : Option Kind) → Inside code.program b c id → Judged code.program id o → (d : ℕ) →
        d + 9 * height code.program.nodes id ≤ most_operands → Brings code (ops_of code id) d (with_kind o d)
    value_brings id = (up_to (suc id) id (omega arith)).value

    pub statement_at : (id : ℕ) → IsStatement code.program b c id → (d : ℕ) →
        d + 9 * height code.program.nodes id ≤ most_operands → Brings code (ops_of code id) d d
    statement_at id = (up_to (suc id) id (omega arith)).statement
