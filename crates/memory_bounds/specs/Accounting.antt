-- Accounting: what an effect puts into memory at once and leaves to be put there later, against what was reckoned with.
use Rattle.std.specs.Prelude.{◌≡◌, ◌≤◌, ◌<◌, ℕ, ◌+◌, ◌⊎◌, List, length, None}
use Rattle.scj_base.specs.declared.values.Value.{Value}
use Rattle.scj_rules.specs.Layout.{size_with_slots}
use Rattle.scj_model.specs.declared.operations.Op.{Op}
use Rattle.scj_model.specs.Code.{Code}
use Rattle.scj_model.specs.State.{Frame}
use Rattle.scj_model.specs.Effects.{Effect, Goes, Prints, Makes, Stores, StoresStatic, SetsHidden, SetsCeiling, Calls, Opens, Leaves, AsksRegistration, AsksRelease, AsksTermination, Faults, Stuck}
use Rattle.memory_needs.specs.Need.{Table, too_much}
use Rattle.memory_bounds.specs.Weights.{op_weight, ops_weight}

-- what has to be known of an operation and its effect: a new object is no larger, and a body that is called needs no
-- more, than the operation was reckoned with; and an area that is opened is large enough
pub record IsCounted (code : Code) (table : Table) (op : Op) (e : Effect) : Type 0 where
  pub makes : (h : Frame) (class : ℕ) (values : List Value) → e ≡ Makes h class values →
      size_with_slots (length values) ≤ op_weight code table op
  pub calls : (h g : Frame) → e ≡ Calls h g → table g.body ≤ op_weight code table op
  pub opens : (h g : Frame) (scope bytes : ℕ) → e ≡ Opens h g scope bytes →
      (table g.body ≤ bytes) × (bytes < too_much)

-- the frame stays in its area, opened what it opened, and needs with this much no more than n
abbrev pub Within : Code → Table → ℕ → Frame → Frame → ℕ → Type 0
Within code table n f h more = (h.area ≡ f.area) × (h.opened ≡ f.opened) × (ops_weight code table h.rest + more ≤ n)

-- a new frame that runs in the area of the one below, or needs nothing
abbrev pub CallWithin : Code → Table → ℕ → Frame → Frame → Frame → Type 0
CallWithin code table n f h g =
    (g.opened ≡ None)
    × (((g.area ≡ f.area) × Within code table n f h (ops_weight code table g.rest))
    ⊎ ((ops_weight code table g.rest ≡ 0) × Within code table n f h 0))

abbrev pub OpenWithin : Code → Table → ℕ → Frame → Frame → Frame → ℕ → Type 0
OpenWithin code table n f h g bytes =
    Within code table n f h 0 × (ops_weight code table g.rest ≤ bytes) × (bytes < too_much)

abbrev pub EffectWithin : Code → Table → ℕ → Frame → Effect → Type 0
EffectWithin code table n f (Goes h) = Within code table n f h 0
EffectWithin code table n f (Prints h label value) = Within code table n f h 0
EffectWithin code table n f (Makes h class values) = Within code table n f h (size_with_slots (length values))
EffectWithin code table n f (Stores h r slot v) = Within code table n f h 0
EffectWithin code table n f (StoresStatic h index v) = Within code table n f h 0
EffectWithin code table n f (SetsHidden h r values) = Within code table n f h 0
EffectWithin code table n f (SetsCeiling h r ceiling) = Within code table n f h 0
EffectWithin code table n f (Calls h g) = CallWithin code table n f h g
EffectWithin code table n f (Opens h g scope bytes) = OpenWithin code table n f h g bytes
EffectWithin code table n f (Leaves h v) = h.opened ≡ f.opened
EffectWithin code table n f (AsksRegistration h r) = Within code table n f h 0
EffectWithin code table n f (AsksRelease h r) = Within code table n f h 0
EffectWithin code table n f (AsksTermination h r) = Within code table n f h 0
EffectWithin code table n f (Faults fault) = Unit {0}
EffectWithin code table n f Stuck = Unit {0}
