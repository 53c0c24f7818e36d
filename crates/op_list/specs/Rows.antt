-- The rows of the list: the operations that are left from a place on, and where each row goes on.
use Rattle.std.specs.Prelude.{◌≡◌, ℕ, zero, suc, Bool, ◌<◌, ◌≤◌, List, [], ◌∷◌, ◌++◌, length, slice_get, Some, None, if◌then◌else◌}
use Rattle.scj_tree.specs.Recursion.{by_smaller}
use Rattle.scj_model.specs.declared.operations.Op.{Op}
use Rattle.scj_model.specs.Code.{Code}
use Rattle.scj_model.specs.Ops.{put_in_front}
use Rattle.op_list.specs.declared.rows.Row.{Row}
use Rattle.op_list.specs.Instructions.{instruction_of}

-- the operations from a place on: its own, and those from the next place on, which is a smaller one. Place 0 is the end
unfoldable pub row_rest : List Row → ℕ → (ℕ → List Op) → List Op
row_rest rows zero sub = []
row_rest rows (suc p) sub = elim (slice_get rows (suc p)) [ None ↦ [] | Some row ↦ row.op ∷ sub row.next ]

unfoldable pub rest_at : List Row → ℕ → List Op
rest_at rows = by_smaller [] (row_rest rows)

-- the row of an operation that goes on at these places
abbrev pub row_of : Code → Op → ℕ → ℕ → ℕ → Row
row_of code op next if_true if_false =
    record {
      op = op;
      instruction = instruction_of code op;
      next = next;
      if_true = if_true;
      if_false = if_false;
    }

-- where AND, OR, IF and LOOP go on
unfoldable pub target : Row → Bool → ℕ
target row condition = if condition then row.if_true else row.if_false

-- from a row on, which was taken in front of a place, a run goes on where the definition does
unfoldable pub GoesBy : Code → List Row → Row → ℕ → Type 0
GoesBy code rows row index =
    (condition : Bool) (front : List Op) → put_in_front code row.op condition ≡ Some front →
    rest_at rows (target row condition) ≡ front ++ rest_at rows index

-- a row goes on where the definition does, and has what its operation asks
pub record GoesOn (code : Code) (rows : List Row) (index : ℕ) (row : Row) : Type 0 where
  pub asked : row.instruction ≡ instruction_of code row.op
  pub down : row.next < index
  pub if_true : row.if_true < length rows
  pub if_false : row.if_false < length rows
  pub branch : (condition : Bool) (front : List Op) → put_in_front code row.op condition ≡ Some front →
      rest_at rows (target row condition) ≡ front ++ rest_at rows row.next

-- rows were put behind others, and each of the new ones goes on where the definition does
pub record IsLonger (code : Code) (before after : List Row) : Type 0 where
  pub grown : (more : List Row) × (after ≡ before ++ more)
  pub good : (index : ℕ) (row : Row) → length before ≤ index → slice_get after index ≡ Some row →
      GoesOn code after index row

-- operations were laid out in front of place `next`, from `place` on
pub record IsLaid (code : Code) (before after : List Row) (ops : List Op) (next index : ℕ) : Type 0 where
  pub longer : IsLonger code before after
  pub inside : index < length after
  pub rest : rest_at after index ≡ ops ++ rest_at before next
