-- What holds of each effect that a small step of an operation leads to holds of the step's.
use Rattle.std.proofs.Common.{◌≡◌, ℕ, zero, suc, Bool, true, false, List, [], ◌∷◌, ◌++◌, Option, Some, None, if◌then◌else◌, refl, ◌∙◌}
use Rattle.std.specs.Prelude.{ℤ}
use Rattle.scj_base.specs.declared.faults.RunFault.{RunFault}
use Rattle.scj_base.specs.declared.faults.RunFault.TheVariants.{NullPointer}
use Rattle.scj_base.specs.declared.values.Value.{Value}
use Rattle.scj_base.specs.declared.values.Value.TheVariants.{Int, Bool as Truth, Null, At}
use Rattle.scj_model.specs.declared.operations.Op.{Op}
use Rattle.scj_model.specs.Code.{Code}
use Rattle.scj_model.specs.State.{Frame}
use Rattle.scj_model.specs.Ops.{put_in_front}
use Rattle.scj_model.specs.Effects.{Effect, Faults, Stuck, given, pop, pop_from, pop_all, as_int, as_truth, as_reference, as_object, branch}
use Rattle.priority_laws.proofs.ReleaseMoves.{StandsAs}

pub stands_same : (f : Frame) → StandsAs f f
stands_same f = record { body = refl; this = refl; saved = refl; opened = refl }

pub stands_then : (f g h : Frame) → StandsAs f g → StandsAs g h → StandsAs f h
stands_then f g h x y =
    record { body = y.body ∙ x.body; this = y.this ∙ x.this; saved = y.saved ∙ x.saved; opened = y.opened ∙ x.opened }

module _ (P : Effect → Type 0) (stuck : P Stuck) (faults : (x : RunFault) → P (Faults x)) where
  pub on_given : {A : Type 0} (o : Option A) (next : A → Effect) → ((a : A) → o ≡ Some a → P (next a)) →
      P (given o next)
  on_given None next h = stuck
  on_given (Some a) next h = h a refl

  pub on_if : (b : Bool) (x y : Effect) → (b ≡ true → P x) → (b ≡ false → P y) → P (if b then x else y)
  on_if true x y h k = h refl
  on_if false x y h k = k refl

  pub on_pop : (f : Frame) (next : Value → Frame → Effect) → ((v : Value) (h : Frame) → StandsAs f h → P (next v h)) →
      P (pop f next)
  on_pop f next h = go f.operands
    where
      go : (vs : List Value) →
          P (elim vs as (λ z. Effect) [ [] ↦ Stuck | value ∷ below ↦ next value (record f { operands = below }) ])
      go [] = stuck
      go (v ∷ below) =
          h v (record f { operands = below }) (record { body = refl; this = refl; saved = refl; opened = refl })

  on_pop_from : (count : ℕ) (f : Frame) (taken : List Value) (next : List Value → Frame → Effect) →
      ((vs : List Value) (h : Frame) → StandsAs f h → P (next vs h)) → P (pop_from count f taken next)
  on_pop_from zero f taken next h = h taken f (stands_same f)
  on_pop_from (suc count) f taken next h =
      on_pop f (λ value g. pop_from count g (value ∷ taken) next)
      (λ v g s. on_pop_from count g (v ∷ taken) next (λ vs k t. h vs k (stands_then f g k s t)))

  pub on_pop_all : (count : ℕ) (f : Frame) (next : List Value → Frame → Effect) →
      ((vs : List Value) (h : Frame) → StandsAs f h → P (next vs h)) → P (pop_all count f next)
  on_pop_all count f next h = on_pop_from count f [] next h

  pub on_int : (v : Value) (next : ℤ → Effect) → ((z : ℤ) → P (next z)) → P (as_int v next)
  on_int (Int z) next h = h z
  on_int (Truth b) next h = stuck
  on_int Null next h = stuck
  on_int (At r) next h = stuck

  pub on_truth : (v : Value) (next : Bool → Effect) → ((b : Bool) → P (next b)) → P (as_truth v next)
  on_truth (Truth b) next h = h b
  on_truth (Int z) next h = stuck
  on_truth Null next h = stuck
  on_truth (At r) next h = stuck

  pub on_reference : (v : Value) (next : ℕ → Effect) → ((r : ℕ) → P (next r)) → P (as_reference v next)
  on_reference (At r) next h = h r
  on_reference (Int z) next h = stuck
  on_reference (Truth b) next h = stuck
  on_reference Null next h = stuck

  pub on_object : (v : Value) (next : ℕ → Effect) → ((r : ℕ) → P (next r)) → P (as_object v next)
  on_object (At r) next h = h r
  on_object Null next h = faults NullPointer
  on_object (Int z) next h = stuck
  on_object (Truth b) next h = stuck

  pub on_branch : (code : Code) (op : Op) (f : Frame) (next : Bool → Frame → Effect) →
      ((b : Bool) (h : Frame) → StandsAs f h → P (next b h)) → P (branch code op f next)
  on_branch code op f next h =
      on_pop f _ (λ v g s. on_truth v _ (λ b. on_given (put_in_front code op b) _
      (λ ops e. h b (record g { rest = ops ++ g.rest })
      (record { body = s.body; this = s.this; saved = s.saved; opened = s.opened }))))
