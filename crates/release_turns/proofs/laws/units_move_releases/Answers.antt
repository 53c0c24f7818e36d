use Rattle.std.proofs.Common.{◌≡◌, ◌+◌, ℕ, suc, false, sym, subst, arith}
use Rattle.scj_model.specs.Choice.{by_priority}
use Rattle.scj_model.specs.Run.{run}
use Rattle.release_turns.specs.Choices.{at_choice}
use Rattle.release_turns.specs.UnitSteps.{UnitStep}
use Rattle.release_turns.proofs.Turns.{unit_step}
use Rattle.release_turns.proofs.laws.units_move_releases.Goals as goal

next : (t : ℕ) → t + 1 ≡ suc t
next t = omega arith

pub returns : goal.returns
returns c =
    λ code plan t lives free.
    subst (λ k. UnitStep (at_choice code plan t) (at_choice code plan k)) (sym (next t))
    (unit_step code plan t lives (subst (λ k. (run code plan by_priority k).is_stuck ≡ false) (next t) free))
