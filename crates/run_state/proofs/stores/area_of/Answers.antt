use Rattle.std.proofs.Common.{refl, sym}
use Rattle.run_state.proofs.MakingLemmas.{top_area}
use Rattle.run_state.proofs.stores.area_of.Goals as goal

pub returns-in-Some-clause-top : goal.returns-in-Some-clause-top
returns-in-Some-clause-top c =
    record { frame = c.in-Some.frame.now; is = sym c.in-Some.ensures; area_is = refl }

pub returns-in-Some-clause-area : goal.returns-in-Some-clause-area
returns-in-Some-clause-area c = λ f below e.
    top_area c.args.activity.now f below c.in-Some.frame.now e c.in-Some.ensures
