-- A run under way: between two units, and after a unit that was spent.
use Rattle.std.specs.Prelude.{◌≡◌, ◌+◌, ◌<◌, ◌≤◌, ℕ, true, false, List, ◌++◌, Some}
use Rattle.scj_io.specs.Puts.{SinkRun}
use Rattle.scj_tree.specs.Forest.{Forest}
use Rattle.scj_model.specs.Choice.{by_priority}
use Rattle.scj_model.specs.Code.{code_of}
use Rattle.scj_model.specs.Plan.{Plan}
use Rattle.scj_model.specs.Run.{RunSoFar, has_ended, run}
use Rattle.scj_model.specs.State.{is_over}
use Rattle.run_plan.specs.Index.{fires_before}
use Rattle.op_list.specs.Listed.{Listing}
use Rattle.run_state.specs.Seen.{state_of}
use Rattle.unit_steps.specs.Alike.{IsAlike}
use Rattle.plain_machine.specs.Ends.{end_of}
use Rattle.plain_machine.specs.Reported.{PutsRest, PutsUnit}
use Rattle.plain_machine.specs.declared.runs.RunEnd.{RunEnd}
use Rattle.plain_machine.specs.declared.steps.Progress.{Progress}
use Rattle.plain_machine.specs.declared.steps.Progress.TheVariants.{Went, Finished}
use Rattle.plain_machine.specs.declared.under_way.UnderWay.{UnderWay}

-- the run after so many units
abbrev pub run_at : Forest → Plan → ℕ → RunSoFar
run_at forest plan n = run (code_of forest) plan by_priority n

-- each unit of the run has a result
pub record IsNeverStuck (forest : Forest) (plan : Plan) : Type 0 where
  pub at : (n : ℕ) → (run_at forest plan n).is_stuck ≡ false

-- the run hasn't ended, and this is where it stands before its next unit
pub record IsBetween (code : Listing) (plan : Plan) (at : UnderWay) : Type 0 where
  pub goes_on : has_ended (run_at code.program plan at.state.unit) ≡ false
  pub state : (run_at code.program plan at.state.unit).state ≡ state_of code at.state
  pub past : at.past ≡ fires_before plan at.state.unit
  pub within : at.state.unit ≤ plan.units

-- the run has spent unit n, and told this in it. Where it is over nobody looks at the sequencer's frames again
pub record HasSpent (code : Listing) (plan : Plan) (n : ℕ) (at : UnderWay) : Type 0 where
  pub reported : (run_at code.program plan (n + 1)).events ≡ (run_at code.program plan n).events ++ at.reported.items
  pub alike : IsAlike (run_at code.program plan (n + 1)).state (state_of code at.state)
  pub not_stuck : (run_at code.program plan (n + 1)).is_stuck ≡ false
  pub past : at.past ≡ fires_before plan at.state.unit
  pub unit : at.state.unit ≡ n + 1

-- how a run goes on after a unit, by its phase and the last event
pub record EndsAs (at : UnderWay) (end : RunEnd) : Type 0 where
  pub over : is_over at.state.phase ≡ true
  pub ends : end_of at.reported.items ≡ Some end

abbrev pub GoesTo : UnderWay → Progress → Type 0
GoesTo at Went = is_over at.state.phase ≡ false
GoesTo at (Finished end) = EndsAs at end

-- a step of the run from unit n
pub record WentTo (code : Listing) (plan : Plan) (names : List (List ℕ)) (n : ℕ) (at : UnderWay) (out : SinkRun) :
    Type 0 where
  pub between : IsBetween code plan at
  pub unit : at.state.unit ≡ n + 1
  pub goes_on : has_ended (run_at code.program plan (n + 1)) ≡ false
  pub puts : PutsUnit code.program plan names n out

-- the last step, from unit n to unit m: all units are spent, and it spends none; or it spends one, and the run has ended
pub data IsLast (forest : Forest) (plan : Plan) (n m : ℕ) : Type 0 where
  none_left : n ≡ plan.units → m ≡ n → IsLast forest plan n m
  one_spent : n < plan.units → m ≡ n + 1 → has_ended (run_at forest plan (n + 1)) ≡ true → IsLast forest plan n m

-- the last step of the run from unit n
pub record EndedIn (forest : Forest) (plan : Plan) (names : List (List ℕ)) (n : ℕ) (at : UnderWay) (out : SinkRun)
    (end : RunEnd) : Type 0 where
  pub last : IsLast forest plan n at.state.unit
  pub puts : PutsRest forest plan names n out end

abbrev pub StepsTo : Listing → Plan → List (List ℕ) → ℕ → UnderWay → SinkRun → Progress → Type 0
StepsTo code plan names n at out Went = WentTo code plan names n at out
StepsTo code plan names n at out (Finished end) = EndedIn code.program plan names n at out end
