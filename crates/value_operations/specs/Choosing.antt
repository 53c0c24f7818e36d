-- The rows of AND, OR, IF and LOOP.
use Rattle.std.specs.Prelude.{◌≡◌, ℕ, Bool, List, ◌++◌, Some}
use Rattle.scj_model.specs.declared.operations.Op.{Op}
use Rattle.scj_model.specs.Code.{code_of}
use Rattle.scj_model.specs.Ops.{put_in_front}
use Rattle.op_list.specs.declared.rows.Row.{Row}
use Rattle.op_list.specs.Listed.{Listing}
use Rattle.op_list.specs.Rows.{rest_at, target}

-- the row goes on as the operation decides: whatever the condition is, the operation puts something in front of what is
-- left at the place, and with that the run goes on at the row's target
pub record Chooses (code : Listing) (row : Row) (op : Op) (index : ℕ) : Type 0 where
  pub front : Bool → List Op
  pub puts : (condition : Bool) → put_in_front (code_of code.program) op condition ≡ Some (front condition)
  pub goes : (condition : Bool) →
      rest_at code.rows (target row condition) ≡ front condition ++ rest_at code.rows index
