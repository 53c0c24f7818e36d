-- A run that stays within declared rows, in which a release ends in the last unit of its bound.
use Rattle.std.specs.Prelude.{◌≡◌, ◌≤◌, ℕ, ◌+◌, true, false, List, slice_get, Some}
use Rattle.scj_tree.specs.Forest.{Forest}
use Rattle.scj_rules.specs.Phases.{IsAccepted}
use Rattle.scj_model.specs.Code.{code_of}
use Rattle.scj_model.specs.Plan.{Plan}
use Rattle.scj_model.specs.State.{Release}
use Rattle.scj_model.specs.Choice.{may_act}
use Rattle.release_turns.specs.Choices.{at_choice}
use Rattle.response_bounds.specs.declared.rows.Declared.{Declared}
use Rattle.response_bounds.specs.Responses.{IsBound}
use Rattle.response_bounds.specs.Rows.{AreDeclared}
use Rattle.response_times.specs.Runs.{IsReadyIn, Within}

pub record MeetsItsBound : Type 0 where
  pub program : Forest
  pub plan : Plan
  pub rows : List Declared
  pub n : ℕ
  pub keeps_rules : IsAccepted program
  pub declared : AreDeclared rows
  pub within : Within rows (code_of program) plan n
  -- a release of a handler with a bound of x + 1 units becomes ready in unit t
  pub i : ℕ
  pub x : ℕ
  pub t : ℕ
  pub index : ℕ
  pub release : Release
  pub bound : IsBound rows i (x + 1)
  pub ready : IsReadyIn (code_of program) plan t index
  pub is_there : slice_get (at_choice (code_of program) plan t).releases index ≡ Some release
  pub handler : release.handler ≡ i + 1
  pub in_time : t + (x + 1) ≤ n
  -- it is left x units later, and one unit further it isn't
  pub left_before : may_act (at_choice (code_of program) plan (t + x)) index ≡ true
  pub ended : may_act (at_choice (code_of program) plan (t + (x + 1))) index ≡ false
