-- Behind the operations of arguments that leave one operand each, an object lies under as many operands.
use Rattle.std.specs.Prelude.{Some, flat_map}
use Rattle.std.proofs.Common.{◌≡◌, ℕ, suc, ◌+◌, List, [], ◌∷◌, length, Bool, true, false, refl, ◌∙◌, ap, subst, arith, append-nil, ◌&&◌}
use Rattle.scj_base.specs.declared.values.Value.TheVariants.{At}
use Rattle.scj_tree.specs.Recursion.{below}
use Rattle.scj_model.specs.declared.operations.Op.{Op}
use Rattle.scj_model.specs.Code.{Code}
use Rattle.scj_model.specs.Ops.{ops_of}
use Rattle.scope_flow.specs.Facts.{Facts}
use Rattle.scope_flow.specs.Signatures.{Signature, IsBody}
use Rattle.scope_flow.specs.ValueFacts.{HaveValues}
use Rattle.scope_flow.proofs.Known.{below_lt}
use Rattle.accepted_laws.specs.Kinds.{Kind}
use Rattle.certain_faults.specs.declared.known.Known.TheVariants.{Exactly}
use Rattle.certain_faults.specs.declared.known.Left.{Left}
use Rattle.certain_faults.specs.declared.known.Left.TheVariants.{Forgets, Zero, One, Two, Four}
use Rattle.certain_faults.specs.Known.{all_leave_one, leaves_one, left_by}
use Rattle.certain_faults.proofs.Stacks.{Stack, put, with_all, with_left}
use Rattle.certain_faults.proofs.Passes.{PassesTo, Runs, runs_none, runs_then}
use Rattle.certain_faults.proofs.RunsOfNodes.{ClassesAskNothing, nodes_run}
use Rattle.certain_faults.proofs.OneOperand.{value_leaves}

both_true : (a b : Bool) → (a && b) ≡ true → (a ≡ true) × (b ≡ true)
both_true true true e = (refl, refl)
both_true true false e = absurd (cc (e))
both_true false b e = absurd (cc (e))

-- what was known at a place is known under one operand more for each argument
pub under_all : (left : ℕ → Left) (xs : List ℕ) (s : Stack) (m : ℕ) → all_leave_one left xs ≡ true →
    with_all left xs s (length xs + m) ≡ s m
unfolding leaves_one with_left
under_all left [] s m e = ap s (let same : 0 + m ≡ m = omega arith in same)
under_all left (x ∷ xs) s m e =
    go (left x) (both_true (leaves_one (left x)) (all_leave_one left xs) e).0
    (λ t. under_all left xs t (suc m) (both_true (leaves_one (left x)) (all_leave_one left xs) e).1)
  where
    go : (l : Left) → leaves_one l ≡ true → ((t : Stack) → with_all left xs t (length xs + suc m) ≡ t (suc m)) →
        with_all left xs (with_left l s) (length (x ∷ xs) + m) ≡ s m
    go (One a) k h =
        ap (with_all left xs (put a s)) (let same : suc (length xs) + m ≡ length xs + suc m = omega arith in same)
        ∙ h (put a s)
    go Forgets k h = absurd (cc (k))
    go Zero k h = absurd (cc (k))
    go (Two a b) k h = absurd (cc (k))
    go (Four a b c d) k h = absurd (cc (k))

module _ (code : Code) (bare : ClassesAskNothing code) where
  all_run : (xs : List ℕ) (s : Stack) → Runs code (flat_map (ops_of code) xs) s (with_all (left_by code) xs s)
  all_run [] s = runs_none code s
  all_run (x ∷ xs) s =
      runs_then code (ops_of code x) (flat_map (ops_of code) xs) s (with_left (left_by code x) s)
      (with_all (left_by code) (x ∷ xs) s) (nodes_run code bare x s) (all_run xs (with_left (left_by code x) s))

  -- the object lies under the arguments when their operations are done
  pub arguments_pass : (u : ℕ) (xs : List ℕ) (s : Stack) → all_leave_one (left_by code) xs ≡ true →
      PassesTo code (Some (length xs, u)) (flat_map (ops_of code) xs) (put (Exactly (At u)) s)
  arguments_pass u xs s e =
      subst (λ (ys : List Op). PassesTo code (Some (length xs, u)) ys (put (Exactly (At u)) s))
      (append-nil (flat_map (ops_of code) xs))
      ((all_run xs (put (Exactly (At u)) s)).is (Some (length xs, u)) []
      (ap (with_all (left_by code) xs (put (Exactly (At u)) s)) (let same : length xs ≡ length xs + 0 = omega arith in same)
      ∙ under_all (left_by code) xs (put (Exactly (At u)) s) 0 e))

  module _ (facts : Facts code) (b c : ℕ) (sig : Signature) (body : IsBody code.program b c sig) where
    -- values leave one operand each
    pub values_leave : (id : ℕ) (xs : List ℕ) (ks : List Kind) → HaveValues code.program b c id xs ks →
        all_leave_one (left_by code) xs ≡ true
    values_leave id [] ks h = refl
    values_leave id (x ∷ xs) [] h = absurd h
    values_leave id (x ∷ xs) (k ∷ ks) h =
        ap (λ t. t && all_leave_one (left_by code) xs) (value_leaves code facts b c sig body x k h.0.0.inside h.0.1)
        ∙ values_leave id xs ks h.1

    -- and have smaller numbers
    pub values_below : (id : ℕ) (xs : List ℕ) (ks : List Kind) → HaveValues code.program b c id xs ks →
        flat_map (below [] id (ops_of code)) xs ≡ flat_map (ops_of code) xs
    values_below id [] ks h = refl
    values_below id (x ∷ xs) [] h = absurd h
    values_below id (x ∷ xs) (k ∷ ks) h =
        cc (below_lt [] id (ops_of code) x h.0.0.smaller, values_below id xs ks h.1)
