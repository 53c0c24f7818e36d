-- What it means that the claim of reached states isn't empty.
use Rattle.std.specs.Prelude.{◌≡◌, ℕ, List, [], ◌∷◌, length, slice_get, Some, option_map}
use Rattle.scj_tree.specs.Forest.{Forest}
use Rattle.scj_rules.specs.Phases.{IsAccepted}
use Rattle.scj_rules.specs.Syntax.{Reads}
use Rattle.scj_model.specs.Code.{code_of}
use Rattle.scj_model.specs.Plan.{Plan}
use Rattle.scj_model.specs.State.{Activity, Release, Waits, ReleaseAt, State, activity_of}
use Rattle.scj_model.specs.Choice.{by_list}
use Rattle.scj_model.specs.Reached.{Between, Reached}
use Rattle.scope_sound.specs.FramedAndPlaced.{Framed, Placed}

-- the texts are a program that breaks no rule, and a run of it comes to a state in which a release is under way in its
-- private memory, inside the mission's. It has called a method from its first frame, and its priority is the ceiling of
-- the object that it holds; a second release waits. The job is framed there, and all is placed
pub record ComesIntoMonitor (texts : List (List ℕ)) (ceiling : ℕ) : Type 0 where
  pub program : Forest
  pub reads : Reads texts program
  pub breaks_none : IsAccepted program
  pub plan : Plan
  pub choices : List ℕ
  pub state : State
  pub reached : Reached (code_of program) plan (by_list choices) Between state
  pub frames : option_map (λ (a : Activity). length a.frames) (activity_of state (ReleaseAt 0)) ≡ Some 2
  pub areas : option_map (λ (a : Activity). a.areas) (activity_of state (ReleaseAt 0)) ≡ Some (2 ∷ 1 ∷ 0 ∷ [])
  pub priority : option_map (λ (a : Activity). a.priority) (activity_of state (ReleaseAt 0)) ≡ Some ceiling
  pub waits : option_map (λ (r : Release). r.status) (slice_get state.releases 1) ≡ Some Waits
  pub framed : Framed (code_of program) state (ReleaseAt 0)
  pub placed : Placed (code_of program) state
