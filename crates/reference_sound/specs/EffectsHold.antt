-- What an operation's effect has to keep of references, where Q is what holds of those of the frame that acts: the
-- locals of frames refer to what Q holds of, new slots refer to nothing, and what is stored lies around the place.
use Rattle.std.specs.Prelude.{◌≡◌, ℕ, Some}
use Rattle.scj_base.specs.declared.values.Value.{Value}
use Rattle.scj_model.specs.State.{Object}
use Rattle.scj_model.specs.Effects.{Effect, Goes, Prints, Makes, Stores, StoresStatic, SetsHidden, SetsCeiling, Calls, Opens, Leaves, AsksRegistration, AsksRelease, AsksTermination, Faults, Stuck}
use Rattle.frame_sound.specs.Places.{World}
use Rattle.reference_sound.specs.References.{IfReference, EachReference, NoReference, LiesAround, LiesInImmortal}

-- an object is there that may hold the value
pub record MayStore (w : World) (r : ℕ) (v : Value) : Type 0 where
  pub object : Object
  pub found : w.objects r ≡ Some object
  pub around : IfReference (LiesAround w object.area) v

abbrev pub EffectHolds : World → (ℕ → Type 0) → Effect → Type 0
EffectHolds w Q (Goes f) = EachReference Q f.locals
EffectHolds w Q (Prints f label value) = EachReference Q f.locals
EffectHolds w Q (Makes f class slots) = EachReference Q f.locals × NoReference slots
EffectHolds w Q (Stores f r slot v) = EachReference Q f.locals × MayStore w r v
EffectHolds w Q (StoresStatic f index v) = EachReference Q f.locals × IfReference (LiesInImmortal w) v
EffectHolds w Q (SetsHidden f r values) = EachReference Q f.locals × NoReference values
EffectHolds w Q (SetsCeiling f r ceiling) = EachReference Q f.locals
EffectHolds w Q (Calls f g) = EachReference Q f.locals × EachReference Q g.locals
EffectHolds w Q (Opens f g scope bytes) = EachReference Q f.locals × EachReference Q g.locals
EffectHolds w Q (Leaves f v) = Unit {0}
EffectHolds w Q (AsksRegistration f r) = EachReference Q f.locals
EffectHolds w Q (AsksRelease f r) = EachReference Q f.locals
EffectHolds w Q (AsksTermination f r) = EachReference Q f.locals
EffectHolds w Q (Faults fault) = Unit {0}
EffectHolds w Q Stuck = Unit {0}

-- as a record, so that it can be the end of a lemma
pub record Holding (w : World) (Q : ℕ → Type 0) (e : Effect) : Type 0 where
  pub is : EffectHolds w Q e
