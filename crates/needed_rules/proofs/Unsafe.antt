-- A program isn't safe where its run leaves a reference without its object, or is stuck.
use Rattle.std.proofs.Common.{◌≡◌, ℕ, true, false, List, Some}
use Rattle.std.specs.Prelude.{Contains, slice_get}
use Rattle.std.proofs.lemmas.Option.{slice_get_within, get_or_from_slice_get}
use Rattle.scj_tree.specs.Forest.{Forest}
use Rattle.scj_model.specs.Code.{code_of}
use Rattle.scj_model.specs.Plan.{Plan}
use Rattle.scj_model.specs.State.{State}
use Rattle.scj_model.specs.Choice.{by_priority}
use Rattle.scj_model.specs.Reached.{Between}
use Rattle.scj_model.specs.Run.{run}
use Rattle.scj_model.specs.Safety.{IsSafeInAnyOrder, NoDangling, is_of_open_area, live}
use Rattle.scj_model.proofs.Following.{by_some_list, fair_listed, priority_is_fair}
use Rattle.scj_model.proofs.ListedRuns.{safe_run}
use Rattle.scj_model.proofs.Printed.{with_store}
use Rattle.scj_model.proofs.Reaching.{reached_run}

abbrev plan : Plan
plan = with_store 100 1000

abbrev state_of : Forest → ℕ → State
state_of program units = (run (code_of program) plan by_priority units).state

-- after so many units a reference that can be used leads into a closed area
pub record Dangles (program : Forest) (units : ℕ) : Type 0 where
  pub index : ℕ
  pub r : ℕ
  pub is_live : slice_get (live (state_of program units)) index ≡ Some r
  pub is_gone : is_of_open_area (state_of program units) r ≡ false

pub record IsStuck (program : Forest) (units : ℕ) : Type 0 where
  pub is : (run (code_of program) plan by_priority units).is_stuck ≡ true

contains_at : (xs : List ℕ) (k x : ℕ) → slice_get xs k ≡ Some x → Contains xs x
contains_at xs k x e = (k, slice_get_within xs k x e, get_or_from_slice_get xs k x x e)

none_dangles : (program : Forest) (units : ℕ) → IsSafeInAnyOrder (code_of program) → NoDangling (state_of program units)
none_dangles program units safe =
    let reached = fair_listed (code_of program) plan by_priority priority_is_fair
    (reached_run (code_of program) plan by_priority units) in
    let listed = by_some_list (code_of program) plan Between (state_of program units) reached in
    safe.none_dangles plan listed.0 Between (state_of program units) listed.1

pub dangles : (program : Forest) (units : ℕ) → Dangles program units → IsSafeInAnyOrder (code_of program) → ⊥
dangles program units d safe =
    absurd (cc (d.is_gone, (none_dangles program units safe).are_open d.r (contains_at (live (state_of program units)) d.index d.r d.is_live)))

pub is_stuck : (program : Forest) (units : ℕ) → IsStuck program units → IsSafeInAnyOrder (code_of program) → ⊥
is_stuck program units d safe = absurd (cc (d.is, safe_run (code_of program) plan safe units))
