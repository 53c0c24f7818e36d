-- The text of the bounds of a program's private memories.
use Rattle.std.specs.Prelude.{◌≡◌, ℕ, List, [], ◌++◌, codes, decimal, slice_index_or, flat_map, Option, Some, None}
use Rattle.scj_base.specs.declared.positions.Position.{Position}
use Rattle.scj_tree.specs.Forest.{Forest}
use Rattle.scj_rules.specs.Contexts.{Declarations, declarations_of}
use Rattle.scj_model.specs.Code.{code_of}
use Rattle.class_rows.specs.Tables.{name_of}
use Rattle.memory_needs.specs.declared.answers.BoundAnswer.{BoundAnswer}
use Rattle.memory_needs.specs.declared.answers.BoundAnswer.TheVariants.{Yes, No}
use Rattle.memory_needs.specs.declared.answers.BoundRow.{BoundRow}
use Rattle.memory_needs.specs.declared.answers.NoBound.{NoBound}
use Rattle.memory_needs.specs.declared.answers.NoBound.TheVariants.{Recursion, NotLiteral, OuterArea, NewInLoop, TooSmall}
use Rattle.memory_needs.specs.Rows.{AreRows, ReportsStore}

-- ---- the row of a handler class

abbrev pub class_name : Declarations → ℕ → List ℕ
class_name p class = elim (name_of p class) [ None ↦ [] | Some name ↦ name ]

abbrev pub cause_word : NoBound → List ℕ
cause_word Recursion = codes "Recursion"
cause_word NotLiteral = codes "NotLiteral"
cause_word OuterArea = codes "OuterArea"
cause_word NewInLoop = codes "NewInLoop"
cause_word TooSmall = codes "TooSmall"

-- file, line and column
abbrev pub place_text : List (List ℕ) → Position → List ℕ
place_text names at =
    slice_index_or names at.file [] ++ (codes ":" ++ (decimal at.line ++ (codes ":" ++ decimal at.col)))

-- the bytes that a release puts into its memory at most, or why that can't be told and where
abbrev pub answer_text : List (List ℕ) → BoundAnswer → List ℕ
answer_text names (Yes bytes) = codes "yes " ++ decimal bytes
answer_text names (No cause at) = codes "no " ++ (cause_word cause ++ (codes " " ++ place_text names at))

abbrev pub row_line : Declarations → List (List ℕ) → BoundRow → List ℕ
row_line p names row =
    class_name p row.handler ++ (codes " " ++ (answer_text names row.answer ++ codes "\n"))

-- ---- the line of the store

abbrev pub need_line : Option ℕ → List ℕ
need_line None = codes "need none\n"
need_line (Some bytes) = codes "need " ++ (decimal bytes ++ codes "\n")

-- ---- the whole

-- the lines of rows, in their order, and that of the store, over the files of these names
unfoldable pub bound_list : Declarations → List (List ℕ) → List BoundRow → Option ℕ → List ℕ
bound_list p names rows need = flat_map (row_line p names) rows ++ need_line need

-- the text says of each concrete handler class what is so of it, and of the store
pub record IsBoundList (forest : Forest) (names : List (List ℕ)) (text : List ℕ) : Type 0 where
  pub rows : List BoundRow
  pub need : Option ℕ
  pub are_rows : AreRows (code_of forest) rows
  pub reports_store : ReportsStore (code_of forest) rows need
  pub is_text : text ≡ bound_list (declarations_of forest) names rows need
