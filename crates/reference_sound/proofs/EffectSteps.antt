-- The small steps of operations: whatever each finds, references stay where they may be.
use Rattle.std.specs.Prelude.{Option, Some, None, ℤ, if◌then◌else◌}
use Rattle.std.proofs.Common.{◌≡◌, ℕ, zero, suc, List, [], ◌∷◌, Bool, true, false, refl, sym, subst}
use Rattle.std.proofs.lemmas.List.Elements.{All-cons, All-head, All-tail}
use Rattle.scj_base.specs.declared.faults.RunFault.{RunFault}
use Rattle.scj_base.specs.declared.values.Value.{Value}
use Rattle.scj_base.specs.declared.values.Value.TheVariants.{Int, Bool as Truth, Null, At}
use Rattle.scj_model.specs.State.{Frame}
use Rattle.scj_model.specs.Effects.{Effect, Goes, Faults, Stuck, given, pop_from, as_int, as_truth, as_reference, as_object}
use Rattle.frame_sound.specs.Places.{World}
use Rattle.reference_sound.specs.References.{IfReference, EachReference}
use Rattle.reference_sound.specs.EffectsHold.{Holding}

module _ (w : World) (Q : ℕ → Type 0) where
  abbrev Ok : Effect → Type 0
  Ok e = Holding w Q e

  pub stops : Ok Stuck
  stops = record { is = tt }

  pub faults : (fault : RunFault) → Ok (Faults fault)
  faults fault = record { is = tt }

  pub goes : (f : Frame) → EachReference Q f.locals → Ok (Goes f)
  goes f h = record { is = h }

  pub any_given : {A : Type 0} (o : Option A) (next : A → Effect) → ((x : A) → o ≡ Some x → Ok (next x)) →
      Ok (given o next)
  any_given None next h = stops
  any_given (Some x) next h = h x refl

  pub known_given : {A : Type 0} (o : Option A) (next : A → Effect) (x : A) → o ≡ Some x → Ok (next x) →
      Ok (given o next)
  known_given o next x e h = subst (λ y. Ok (given y next)) (sym e) h

  pub any_choice : {A : Type 0} (o : Option A) (x : Effect) (next : A → Effect) → Ok x → ((a : A) → Ok (next a)) →
      Ok (elim o [ None ↦ x | Some a ↦ next a ])
  any_choice None x next hx h = hx
  any_choice (Some a) x next hx h = h a

  pub any_if : (t : Bool) (x y : Effect) → Ok x → Ok y → Ok (if t then x else y)
  any_if true x y hx hy = hx
  any_if false x y hx hy = hy

  -- `pop`, as it is defined
  pub any_pop : (vs : List Value) (next : Value → List Value → Effect) → EachReference Q vs →
      ((v : Value) (below : List Value) → IfReference Q v → EachReference Q below → Ok (next v below)) →
      Ok (elim vs [ [] ↦ Stuck | x ∷ xs ↦ next x xs ])
  any_pop [] next held h = stops
  any_pop (v ∷ vs) next held h = h v vs (All-head (IfReference Q) v vs held) (All-tail (IfReference Q) v vs held)

  pub known_pop : (vs : List Value) (next : Value → List Value → Effect) (v : Value) (below : List Value) →
      vs ≡ v ∷ below → Ok (next v below) → Ok (elim vs [ [] ↦ Stuck | x ∷ xs ↦ next x xs ])
  known_pop vs next v below e h =
      subst (λ (ops : List Value). Ok (elim ops [ [] ↦ Stuck | x ∷ xs ↦ next x xs ])) (sym e) h

  pub any_pop_from : (count : ℕ) (f : Frame) (taken : List Value) (next : List Value → Frame → Effect) →
      EachReference Q f.operands → EachReference Q taken →
      ((args rest : List Value) → EachReference Q args → EachReference Q rest →
      Ok (next args (record f { operands = rest }))) →
      Ok (pop_from count f taken next)
  any_pop_from zero f taken next held have h = h taken f.operands have held
  any_pop_from (suc count) f taken next held have h =
      any_pop f.operands _ held (λ v below hv hb.
      any_pop_from count (record f { operands = below }) (v ∷ taken) next hb (All-cons (IfReference Q) v taken hv have)
      h)

  pub any_int : (v : Value) (next : ℤ → Effect) → ((z : ℤ) → Ok (next z)) → Ok (as_int v next)
  any_int (Int z) next h = h z
  any_int (Truth b) next h = stops
  any_int Null next h = stops
  any_int (At r) next h = stops

  pub any_truth : (v : Value) (next : Bool → Effect) → ((b : Bool) → Ok (next b)) → Ok (as_truth v next)
  any_truth (Int z) next h = stops
  any_truth (Truth b) next h = h b
  any_truth Null next h = stops
  any_truth (At r) next h = stops

  pub any_reference : (v : Value) (next : ℕ → Effect) → ((r : ℕ) → Ok (next r)) → Ok (as_reference v next)
  any_reference (Int z) next h = stops
  any_reference (Truth b) next h = stops
  any_reference Null next h = stops
  any_reference (At r) next h = h r

  pub any_object : (v : Value) (next : ℕ → Effect) → ((r : ℕ) → v ≡ At r → Ok (next r)) → Ok (as_object v next)
  any_object (Int z) next h = stops
  any_object (Truth b) next h = stops
  any_object Null next h = record { is = tt }
  any_object (At r) next h = h r refl
