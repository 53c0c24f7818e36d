-- The summary of the run of a generated program: how many lines of its trace are those of prints, and the last line.
use Rattle.std.specs.Prelude.{ℕ, ◌+◌, ◌==◌, Bool, true, not, ◌&&◌, List, [], ◌∷◌, ◌++◌, length, if◌then◌else◌, codes, decimal}
use Rattle.std.specs.List.{starts_with}
use Rattle.scj_base.specs.Lexeme.{is_digit}

-- ---- lines of prints

-- what stands behind the digits with which a text begins
unfoldable pub behind_digits : List ℕ → List ℕ
behind_digits [] = []
behind_digits (b ∷ bs) = if is_digit b then behind_digits bs else b ∷ bs

-- the text begins with the line of a print: the unit, and then the word `print`
unfoldable pub begins_with_print : List ℕ → Bool
begins_with_print text = starts_with ◌==◌ (behind_digits text) (codes " print ")

-- how many lines of a text are those of prints, the line under way only where it begins here
unfoldable pub prints_from : Bool → List ℕ → ℕ
prints_from is_begin [] = 0
prints_from is_begin (b ∷ bs) =
    (if is_begin && begins_with_print (b ∷ bs) then 1 else 0) + prints_from (b == 10) bs

abbrev pub print_count : List ℕ → ℕ
print_count text = prints_from true text

-- ---- the last line

-- the last line of a text, where this is the line under way
unfoldable pub last_line_from : List ℕ → List ℕ → List ℕ
last_line_from line [] = line
last_line_from line (b ∷ bs) =
    if (b == 10) && not (length bs == 0) then last_line_from bs bs else last_line_from line bs

-- with its end
abbrev pub last_line : List ℕ → List ℕ
last_line text = last_line_from text text

-- ---- the summary

abbrev pub summary_head : ℕ → ℕ → List ℕ
summary_head size prints =
    codes "gen " ++ (decimal size ++ (codes "\nprints " ++ (decimal prints ++ codes "\n")))

-- of a run of the generated program of this size, with this text of its trace
unfoldable pub summary_text : ℕ → List ℕ → List ℕ
summary_text size text = summary_head size (print_count text) ++ last_line text
