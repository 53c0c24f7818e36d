use Rattle.std.proofs.Common.{refl, sym}
use Rattle.run_state.proofs.leaving.opened_by.Goals as goal

pub returns-in-Some-clause-top : goal.returns-in-Some-clause-top
returns-in-Some-clause-top c =
    record { frame = c.in-Some.frame.now; is = sym c.in-Some.ensures; opened_is = refl }
