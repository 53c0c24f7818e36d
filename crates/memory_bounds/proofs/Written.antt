-- The operand that an operation takes as a size is the number that is written: the length of an array, and the size of a
-- private memory.
use Rattle.std.specs.Prelude.{Option, Some, None, slice_get, pos}
use Rattle.std.proofs.Common.{◌≡◌, ℕ, List, [], ◌∷◌, true, false, refl, sym, ◌∙◌, ap, subst}
use Rattle.scj_base.specs.declared.values.Value.{Value}
use Rattle.scj_base.specs.declared.values.Value.TheVariants.{Int}
use Rattle.scj_tree.specs.declared.nodes.Node.{Node}
use Rattle.scj_tree.specs.declared.nodes.Node.TheVariants.{Call, NewArray, Number}
use Rattle.scj_tree.specs.Forest.{AllBelow}
use Rattle.scj_tree.specs.Shape.{children, optional}
use Rattle.scj_tree.proofs.RecursionLemmas.{by_smaller-is}
use Rattle.scj_rules.specs.Bodies.{number_literal}
use Rattle.scj_rules.specs.Words.{◌>>=◌}
use Rattle.scj_rules.specs.declared.typing.Ty.TheVariants.{Class as ClassTy}
use Rattle.scj_rules.specs.declared.views.Body.{Body}
use Rattle.scj_rules.specs.declared.views.Body.TheVariants.{Written, Empty}
use Rattle.accepted_laws.specs.Kinds.{reference}
use Rattle.accepted_laws.proofs.Tools.{some_inj}
use Rattle.accepted_laws.proofs.TypesBelow.{BehindChildren, below-right}
use Rattle.scj_model.specs.declared.operations.Op.TheVariants.{AllocArray as ALLOCARRAY, Enter as ENTER}
use Rattle.scj_model.specs.Code.{Code, part}
use Rattle.scj_model.specs.State.{Frame}
use Rattle.scj_model.specs.Memory.{literal_value}
use Rattle.scope_flow.specs.CallNeeds.{EnterNeeds}
use Rattle.scope_flow.specs.Facts.{Facts}
use Rattle.scope_flow.specs.Flow.{InNode}
use Rattle.scope_flow.specs.Signatures.{Signature, Runs}
use Rattle.scope_flow.specs.ValueFacts.{HasValue}
use Rattle.certain_faults.specs.declared.known.Left.{Left}
use Rattle.certain_faults.specs.declared.known.Left.TheVariants.{Forgets, Zero, One, Two, Four}
use Rattle.certain_faults.specs.declared.known.Known.TheVariants.{Exactly}
use Rattle.certain_faults.specs.Known.{left_by_literal, left_by_node, next_left, left_by, leaves_one}
use Rattle.certain_faults.proofs.Stacks.{Stack, nothing, put, with_left, Less}
use Rattle.certain_faults.proofs.Passes.{array_length, arguments_of, left_below, part_left, with_parts, asked}
use Rattle.certain_faults.proofs.Frames.{Shadows}
use Rattle.certain_faults.proofs.Meets.{Operands, operands_are}
use Rattle.certain_faults.proofs.Ends.{below_is, all_is}
use Rattle.certain_faults.proofs.OneOperand.{value_leaves}
use Rattle.memory_bounds.specs.Weights.{length_node, size_node}
use Rattle.memory_bounds.proofs.Counted.{SizeIsWritten}

module _ (code : Code) where
  -- a number leaves itself
  pub number_leaves : (x n : ℕ) → part code number_literal x ≡ Some n → left_by code x ≡ One (Exactly (Int (pos n)))
  unfolding left_by next_left number_literal left_by_node left_by_literal literal_value
  number_leaves x n e = of (slice_get code.program.nodes x) refl
    where
      literal : (node : Node) → slice_get code.program.nodes x ≡ Some node → number_literal node ≡ Some n →
          left_by_node code (left_below code x) x node ≡ One (Exactly (Int (pos n)))
      literal (Number position value true) there h = absurd (cc (h))
      literal (Number position value false) there h =
          ap (λ (o : Option Node). left_by_literal (o >>= literal_value)) there
          ∙ ap (λ (m : ℕ). One (Exactly (Int (pos m)))) (some_inj value n h)
      literal _ there h = absurd (cc (h))

      of : (o : Option Node) → slice_get code.program.nodes x ≡ o → left_by code x ≡ One (Exactly (Int (pos n)))
      of None there = absurd (cc (sym (ap (λ (o : Option Node). o >>= number_literal) there) ∙ e))
      of (Some node) there =
          by_smaller-is Forgets (next_left code) x
          ∙ (ap (λ (o : Option Node). elim o as (λ z. Left) [
            | None ↦ Forgets
            | Some node ↦ left_by_node code (left_below code x) x node
          ]) there
          ∙ literal node there (sym (ap (λ (o : Option Node). o >>= number_literal) there) ∙ e))

  -- what is known of the highest operand, and of the one under one operand
  pub highest : (l : Left) (v : Value) (s : Stack) (operands : List Value) → l ≡ One (Exactly v) →
      Operands (with_left l s) operands → slice_get operands 0 ≡ Some v
  unfolding with_left
  highest l v s operands e h = subst (λ (x : Left). Operands (with_left x s) operands) e h 0

  under_one : (l r : Left) (v : Value) (operands : List Value) → l ≡ One (Exactly v) → leaves_one r ≡ true →
      Operands (with_left r (with_left l nothing)) operands → slice_get operands 1 ≡ Some v
  unfolding with_left leaves_one
  under_one l (One a) v operands e one h =
      subst (λ (x : Left). Operands (put a (with_left x nothing)) operands) e h 1
  under_one l Forgets v operands e one h = absurd (cc (one))
  under_one l Zero v operands e one h = absurd (cc (one))
  under_one l (Two a b) v operands e one h = absurd (cc (one))
  under_one l (Four a b c d) v operands e one h = absurd (cc (one))

  module _ (behind : BehindChildren code.program) (f : Frame) (s : Stack) (shadows : Shadows s f.operands) (id : ℕ) where
    pub length_is_written : Less (asked code (ALLOCARRAY id)) s → SizeIsWritten code f id 0 length_node
    unfolding asked length_node array_length children AllBelow
    length_is_written less = record { written = λ n e. of (slice_get code.program.nodes id) refl n e }
      where
        at : (node : Node) → slice_get code.program.nodes id ≡ Some node → (n : ℕ) →
            length_node node >>= part code number_literal ≡ Some n → slice_get f.operands 0 ≡ Some (Int (pos n))
        at (NewArray position element count) there n e =
            highest (left_by code count) (Int (pos n)) nothing f.operands (number_leaves count n e)
            (subst (λ (t : Stack). Operands t f.operands)
            (ap (λ (o : Option ℕ). with_left (part_left code id o) nothing)
            (ap (λ (o : Option Node). o >>= array_length) there)
            ∙ ap (λ (l : Left). with_left l nothing)
            (below_is code id count (behind id (NewArray position element count) there).1.0))
            (operands_are (asked code (ALLOCARRAY id)) s f.operands less shadows))
        at _ there n e = absurd (cc (e))

        of : (o : Option Node) → slice_get code.program.nodes id ≡ o → (n : ℕ) →
            part code length_node id >>= part code number_literal ≡ Some n → slice_get f.operands 0 ≡ Some (Int (pos n))
        of None there n e =
            absurd (cc (sym (ap (λ (o : Option Node). o >>= length_node >>= part code number_literal) there) ∙ e))
        of (Some node) there n e =
            at node there n (sym (ap (λ (o : Option Node). o >>= length_node >>= part code number_literal) there) ∙ e)

    module _ (facts : Facts code) (c : ℕ) (sig : Signature) (runs : Runs code.program f.body c sig) where
      pub size_is_written : {s_kinds out : _} → EnterNeeds code f.body c sig id s_kinds out →
          Less (asked code (ENTER id)) s → SizeIsWritten code f id 1 size_node
      unfolding asked arguments_of size_node children AllBelow Runs
      size_is_written need less = record {
        written = λ n e.
            under_one (left_by code need.size) (left_by code need.runnable) (Int (pos n)) f.operands
            (number_leaves need.size n
            (sym (ap (λ (o : Option Node). o >>= size_node >>= part code number_literal) need.is_there) ∙ e))
            (value f.body runs need.is_value) operands;
      }
        where
          value : (body : Body) → Runs code.program body c sig →
              InNode body (λ b. HasValue code.program b c id need.runnable (Some (reference (ClassTy need.class) need.scope))) →
              leaves_one (left_by code need.runnable) ≡ true
          value (Written b) is h =
              value_leaves code facts b c sig is need.runnable (reference (ClassTy need.class) need.scope) h.0.inside h.1
          value Empty is h = absurd h

          first : AllBelow id (need.size ∷ (need.runnable ∷ []))
          first =
              below-right id (optional need.object) (need.size ∷ (need.runnable ∷ []))
              (behind id (Call need.position need.name need.object (need.size ∷ (need.runnable ∷ []))) need.is_there)

          operands : Operands (with_left (left_by code need.runnable) (with_left (left_by code need.size) nothing)) f.operands
          operands =
              subst (λ (t : Stack). Operands t f.operands)
              (ap (λ (o : Option (List ℕ)). with_parts code id o) (ap (λ (o : Option Node). o >>= arguments_of) need.is_there)
              ∙ all_is code id (need.size ∷ (need.runnable ∷ [])) nothing first)
              (operands_are (asked code (ENTER id)) s f.operands less shadows)
