-- What an effect has to keep of the numbers: those of its frames, and what it prints, stores, makes and leaves with.
use Rattle.std.proofs.Common.{All, FitsSigned, Option, Some, None}
use Rattle.std.specs.Int.{w32}
use Rattle.scj_base.specs.declared.values.Value.{Value}
use Rattle.scj_model.specs.Effects.{Effect, Goes, Prints, Makes, Stores, StoresStatic, SetsHidden, SetsCeiling, Calls, Opens, Leaves, AsksRegistration, AsksRelease, AsksTermination, Faults, Stuck}
use Rattle.int_values.specs.Ints.{FitsInt, FrameFits}

abbrev pub OptionFits : Option Value → Type 0
OptionFits None = Unit {0}
OptionFits (Some value) = FitsInt value

abbrev pub EffectFits : Effect → Type 0
EffectFits (Goes f) = FrameFits f
EffectFits (Prints f label value) = FrameFits f × FitsSigned w32 value
EffectFits (Makes f class slots) = FrameFits f × All FitsInt slots
EffectFits (Stores f r slot value) = FrameFits f × FitsInt value
EffectFits (StoresStatic f place value) = FrameFits f × FitsInt value
EffectFits (SetsHidden f r values) = FrameFits f
EffectFits (SetsCeiling f r ceiling) = FrameFits f
EffectFits (Calls f g) = FrameFits f × FrameFits g
EffectFits (Opens f g scope bytes) = FrameFits f × FrameFits g
EffectFits (Leaves f value) = OptionFits value
EffectFits (AsksRegistration f r) = FrameFits f
EffectFits (AsksRelease f r) = FrameFits f
EffectFits (AsksTermination f r) = FrameFits f
EffectFits (Faults fault) = Unit {0}
EffectFits Stuck = Unit {0}

-- as a record, so that it can be the end of a lemma
pub record Asks (e : Effect) : Type 0 where
  pub is : EffectFits e
