-- The small steps of operations: whatever each finds, the numbers have 32 bits.
use Rattle.std.proofs.Common.{◌≡◌, ℕ, zero, suc, All, Bool, true, false, FitsSigned, List, [], ◌∷◌, ℤ, Option, Some, None, if◌then◌else◌, refl}
use Rattle.std.specs.Int.{w32}
use Rattle.std.proofs.lemmas.List.Elements.{All-cons, All-head, All-tail}
use Rattle.scj_base.specs.declared.faults.RunFault.{RunFault}
use Rattle.scj_base.specs.declared.values.Value.{Value}
use Rattle.scj_base.specs.declared.values.Value.TheVariants.{Int, Bool as Truth, Null, At}
use Rattle.scj_model.specs.State.{Frame}
use Rattle.scj_model.specs.Effects.{Effect, Goes, Faults, Stuck, given, pop_from, as_int, as_truth, as_reference, as_object}
use Rattle.int_values.specs.Ints.{FitsInt, FrameFits}
use Rattle.int_values.proofs.Effects.{Asks}

pub stops : Asks Stuck
stops = record { is = tt }

pub faults : (fault : RunFault) → Asks (Faults fault)
faults fault = record { is = tt }

pub goes : (f : Frame) → FrameFits f → Asks (Goes f)
goes f h = record { is = h }

pub any_given : {A : Type 0} (o : Option A) (next : A → Effect) → ((x : A) → o ≡ Some x → Asks (next x)) →
    Asks (given o next)
any_given None next h = stops
any_given (Some x) next h = h x refl

pub any_choice : {A : Type 0} (o : Option A) (x : Effect) (next : A → Effect) → Asks x → ((a : A) → Asks (next a)) →
    Asks (elim o [ None ↦ x | Some a ↦ next a ])
any_choice None x next hx h = hx
any_choice (Some a) x next hx h = h a

pub any_if : (t : Bool) (x y : Effect) → Asks x → Asks y → Asks (if t then x else y)
any_if true x y hx hy = hx
any_if false x y hx hy = hy

-- `pop`, as it is defined
pub any_pop : (vs : List Value) (next : Value → List Value → Effect) → All FitsInt vs →
    ((v : Value) (below : List Value) → FitsInt v → All FitsInt below → Asks (next v below)) →
    Asks (elim vs [ [] ↦ Stuck | x ∷ xs ↦ next x xs ])
any_pop [] next held h = stops
any_pop (v ∷ vs) next held h = h v vs (All-head FitsInt v vs held) (All-tail FitsInt v vs held)

pub any_pop_from : (count : ℕ) (f : Frame) (taken : List Value) (next : List Value → Frame → Effect) →
    All FitsInt f.operands → All FitsInt taken →
    ((args rest : List Value) → All FitsInt args → All FitsInt rest → Asks (next args (record f { operands = rest }))) →
    Asks (pop_from count f taken next)
any_pop_from zero f taken next held have h = h taken f.operands have held
any_pop_from (suc count) f taken next held have h =
    any_pop f.operands _ held (λ v below hv hb.
    any_pop_from count (record f { operands = below }) (v ∷ taken) next hb (All-cons FitsInt v taken hv have) h)

pub any_int : (v : Value) (next : ℤ → Effect) → FitsInt v → ((z : ℤ) → FitsSigned w32 z → Asks (next z)) →
    Asks (as_int v next)
any_int (Int z) next held h = h z held
any_int (Truth b) next held h = stops
any_int Null next held h = stops
any_int (At r) next held h = stops

pub any_truth : (v : Value) (next : Bool → Effect) → ((b : Bool) → Asks (next b)) → Asks (as_truth v next)
any_truth (Int z) next h = stops
any_truth (Truth b) next h = h b
any_truth Null next h = stops
any_truth (At r) next h = stops

pub any_reference : (v : Value) (next : ℕ → Effect) → ((r : ℕ) → Asks (next r)) → Asks (as_reference v next)
any_reference (Int z) next h = stops
any_reference (Truth b) next h = stops
any_reference Null next h = stops
any_reference (At r) next h = h r

pub any_object : (v : Value) (next : ℕ → Effect) → ((r : ℕ) → v ≡ At r → Asks (next r)) → Asks (as_object v next)
any_object (Int z) next h = stops
any_object (Truth b) next h = stops
any_object Null next h = record { is = tt }
any_object (At r) next h = h r refl

-- the same, and these are the values of which one is taken
pub popped : (vs : List Value) (next : Value → List Value → Effect) → All FitsInt vs →
    ((v : Value) (below : List Value) → vs ≡ v ∷ below → FitsInt v → All FitsInt below → Asks (next v below)) →
    Asks (elim vs [ [] ↦ Stuck | x ∷ xs ↦ next x xs ])
popped [] next held h = stops
popped (v ∷ vs) next held h = h v vs refl (All-head FitsInt v vs held) (All-tail FitsInt v vs held)

pub frame_fits : (f : Frame) → All FitsInt f.locals → All FitsInt f.operands → FrameFits f
frame_fits f h k = record { locals = h; operands = k }

-- the frame goes on, and may have one more operand
pub goes_with : (f : Frame) → All FitsInt f.locals → All FitsInt f.operands → Asks (Goes f)
goes_with f h k = goes f (frame_fits f h k)
