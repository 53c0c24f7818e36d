-- Frames of which it is known how many operands they have, and that there is room for those of their operations.
use Rattle.std.specs.Prelude.{Option, Some, None, is_some, slice_get, length, codes}
use Rattle.std.proofs.Common.{◌≡◌, ◌≤◌, ℕ, zero, suc, List, ◌∷◌, Bool, true, false, arith}
use Rattle.scj_base.specs.declared.faults.RunFault.{RunFault}
use Rattle.scj_base.specs.declared.values.Value.{Value}
use Rattle.scj_base.specs.declared.values.Value.TheVariants.{At}
use Rattle.scj_rules.specs.declared.views.Body.{Body}
use Rattle.scj_rules.specs.Bodies.{body_named, constructor_body}
use Rattle.scj_model.specs.declared.operations.Op.{Op}
use Rattle.scj_model.specs.declared.operations.Op.TheVariants.{Enter as ENTER, ExecuteIn as EXECUTEIN, Super as SUPER}
use Rattle.scj_model.specs.Code.{Code, binding}
use Rattle.scj_model.specs.State.{Object, Frame}
use Rattle.scj_model.specs.Ops.{ops_of, body_ops}
use Rattle.scj_model.specs.Effects.{Effect, Goes, Prints, Makes, Stores, StoresStatic, SetsHidden, SetsCeiling, Calls, Opens, Leaves, AsksRegistration, AsksRelease, AsksTermination, Faults, Stuck, new_frame}
use Rattle.scj_model.specs.Operations.{Environment, bound_class}
use Rattle.scope_flow.specs.Signatures.{Signature, Runs}
use Rattle.certain_faults.proofs.Frames.{with_given}
use Rattle.frame_sizes.proofs.Counts.{fewer, with_result, Value as ValuePart, Statement, Fits, Brings}

-- ---- frames

-- a frame that goes on
pub record Counted (code : Code) (f : Frame) : Type 0 where
  pub depth : ℕ
  pub fits : Fits code f.rest depth
  pub few : length f.operands ≤ depth

-- it is known of each frame that runs a body with a signature
pub record Explained (code : Code) (f : Frame) : Type 0 where
  pub is : (c : ℕ) (sig : Signature) → Runs code.program f.body c sig → Counted code f

-- a frame under one that runs this body, of which may be said whether it gives a value
pub record CountedWaiting (code : Code) (Gives : Body → Bool → Type 0) (f : Frame) (body : Body) : Type 0 where
  pub depth : ℕ
  pub fits : Fits code f.rest depth
  pub returns : (v : Option Value) → ((b : Bool) → Gives body b → is_some v ≡ b) →
      length (with_given v f.operands) ≤ depth

pub record Waits (code : Code) (Gives : Body → Bool → Type 0) (f : Frame) (body : Body) : Type 0 where
  pub is : (c : ℕ) (sig : Signature) → Runs code.program f.body c sig → CountedWaiting code Gives f body

-- the body that is called gives no value where it is a constructor's or a `run`
abbrev pub GivesNothing : Code → (Body → Bool → Type 0) → Environment → Frame → Op → Type 0
GivesNothing code G world f (ENTER id) =
    (r : ℕ) (o : Object) (body : Body) → slice_get f.operands 0 ≡ Some (At r) → world.object_at r ≡ Some o →
    body_named code.program o.class (codes "run") ≡ Some body → G body false
GivesNothing code G world f (EXECUTEIN id) =
    (r : ℕ) (o : Object) (body : Body) → slice_get f.operands 0 ≡ Some (At r) → world.object_at r ≡ Some o →
    body_named code.program o.class (codes "run") ≡ Some body → G body false
GivesNothing code G world f (SUPER id) =
    (class : ℕ) (body : Body) → bound_class (binding code id) ≡ Some class →
    constructor_body code.program class ≡ Some body → G body false
GivesNothing code G world f _ = Unit {0}

-- ---- counts

pub few_left : (n d : ℕ) → suc n ≤ d → n ≤ fewer d
few_left n zero l = absurd (omega (arith, l))
few_left n (suc d) l = omega (arith, l)

pub given_few : (gives : Bool) (d : ℕ) (operands : List Value) (v : Option Value) → is_some v ≡ gives →
    length operands ≤ d → length (with_given v operands) ≤ with_result gives d
given_few true d operands (Some v) e l = omega (arith, l)
given_few false d operands None e l = l
given_few true d operands None e l = absurd (cc (e))
given_few false d operands (Some v) e l = absurd (cc (e))

pub some_is : {A : Type 0} (a b : A) → Some a ≡ Some b → a ≡ b
some_is a b e = cc (e)

module _ (code : Code) (G : Body → Bool → Type 0) where
  abbrev pub IsExplained : Effect → Type 0
  IsExplained (Goes h) = Explained code h
  IsExplained (Prints h label value) = Explained code h
  IsExplained (Makes h class slots) = (r : ℕ) → Explained code (record h { operands = At r ∷ h.operands })
  IsExplained (Stores h r slot value) = Explained code h
  IsExplained (StoresStatic h place value) = Explained code h
  IsExplained (SetsHidden h r values) = Explained code h
  IsExplained (SetsCeiling h r ceiling) = Explained code h
  IsExplained (Calls h g) = Waits code G h g.body × Explained code g
  IsExplained (Opens h g scope bytes) = Waits code G h g.body × Explained code g
  IsExplained (Leaves h value) = Unit {0}
  IsExplained (AsksRegistration h r) = Explained code h
  IsExplained (AsksRelease h r) = Explained code h
  IsExplained (AsksTermination h r) = Explained code h
  IsExplained (Faults fault) = Unit {0}
  IsExplained Stuck = Unit {0}

  pub record Fine (e : Effect) : Type 0 where
    pub is : IsExplained e

  pub stuck : Fine Stuck
  stuck = record { is = tt }

  pub faults : (x : RunFault) → Fine (Faults x)
  faults x = record { is = tt }

-- ---- what is known of all bodies

pub record BodiesFit (code : Code) : Type 0 where
  pub bodies : (body : Body) (c : ℕ) (sig : Signature) → Runs code.program body c sig → Fits code (body_ops code body) 0
  pub values : (x d : ℕ) → ValuePart code x d → Brings code (ops_of code x) d (suc d)
  pub statements : (x d : ℕ) → Statement code x d → Brings code (ops_of code x) d d

module _ (code : Code) (G : Body → Bool → Type 0) (static : BodiesFit code) where
  pub new_explained : (body : Body) (called_at this : Option ℕ) (area : ℕ) (arguments : List Value) →
      (opened : Option ℕ) →
      Explained code (record (new_frame code body called_at this area arguments) { opened = opened })
  unfolding new_frame
  new_explained body called_at this area arguments opened =
      record { is = λ c sig runs. record { depth = 0; fits = static.bodies body c sig runs; few = omega arith } }
