-- A change of a source.
use Rattle.std.specs.Prelude.{ℕ, ◌==◌, ◌<◌, ◌≤◌, ◌⊎◌, List, ◌++◌, length, take, drop}
use Rattle.std.specs.List.{before_first, after_first}
use Rattle.std.specs.Str.Parse.{digits_value, without_leading_plus}
use Rattle.case_tables.specs.declared.stops.TableError.{TableError}
use Rattle.case_tables.specs.declared.stops.TableError.TheVariants.{Memory, BadLine}
use Rattle.case_tables.specs.Lines.{text_bytes}

-- what stands before the first blank, and what behind it
abbrev pub first_word : List ℕ → List ℕ
first_word words = before_first (λ byte. byte == 32) words

abbrev pub other_words : List ℕ → List ℕ
other_words words = after_first (λ byte. byte == 32) words

-- the number that digits write
abbrev pub number_of : List ℕ → ℕ
number_of word = digits_value 10 (without_leading_plus word)

-- the source with a text in the place of the bytes from one place up to another
abbrev pub changed : List ℕ → ℕ → ℕ → List ℕ → List ℕ
changed source from to text = take from source ++ text_bytes text ++ drop to source

-- both places are the source's
abbrev pub LiesWithin : List ℕ → ℕ → ℕ → Type 0
LiesWithin source from to = (from ≤ length source) × (to ≤ length source)

-- a change is refused where one of the places lies behind the source, or for want of memory
unfoldable pub RefusesPlaces : List ℕ → ℕ → ℕ → TableError → Type 0
RefusesPlaces source from to BadLine = (length source < from) ⊎ (length source < to)
RefusesPlaces source from to Memory = Unit {0}
RefusesPlaces source from to _ = ⊥
