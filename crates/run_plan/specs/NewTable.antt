-- A plan as a table of version 2, as `migrate` prints it, and what a text of that table is.
use Rattle.std.specs.Prelude.{◌≡◌, true, ℕ, pos, List, map, codes, Some}
use Rattle.std.specs.Ordering.{nat_cmp, match_ordering}
use Rattle.std.specs.Cmp.Lexicographic.{slice_cmp}
use Rattle.std.specs.Str.{is_utf8}
use Rattle.scj_model.specs.Plan.{Plan}
use Rattle.scj_model.specs.declared.plans.Fire.{Fire}
use Rattle.scj_model.specs.declared.plans.FireFrom.{FireFrom}
use Rattle.scj_model.specs.declared.plans.FireFrom.TheVariants.{Start, Mission}
use Rattle.scj_model.specs.declared.plans.ReadingRow.{ReadingRow}
use Rattle.toml.specs.Data.{Data, array, integer, string, table, Members, member, no_members}
use Rattle.toml.specs.View.{items_of}
use Rattle.toml.specs.Parse.{parse_document}

-- the word from when the unit of a fire is counted
abbrev pub word_of : FireFrom → List ℕ
word_of Start = codes "start"
word_of Mission = codes "mission"

-- a number that isn't negative
abbrev pub number : ℕ → Data
number n = integer (pos n)

abbrev pub fire_row : Fire → Members
fire_row fire =
    member (codes "at") (number fire.at)
    (member (codes "from") (string (word_of fire.from))
    (member (codes "handler") (string fire.handler) no_members))

abbrev pub reading_row : ReadingRow → Members
reading_row row =
    member (codes "at") (number row.at)
    (member (codes "port") (number row.port)
    (member (codes "value") (integer row.value) no_members))

-- an array with a table for each row, in the order of the rows
abbrev pub array_of : {Row : Type 0} → (Row → Members) → List Row → Data
array_of row_of rows = array (items_of (map (λ row. table (row_of row)) rows))

-- the table; its arrays are there also where they are empty
abbrev pub new_table : Plan → Members
new_table plan =
    member (codes "fire") (array_of fire_row plan.fires)
    (member (codes "reading") (array_of reading_row plan.readings)
    (member (codes "store") (number plan.store)
    (member (codes "units") (number plan.units)
    (member (codes "version") (number 2) no_members))))

-- `toml` reads the text as the table
pub record IsTextOf (table : Members) (text : List ℕ) : Type 0 where
  pub valid : is_utf8 text ≡ true
  pub read : parse_document text ≡ Some table

-- members with one more, at its place in the order of the keys
abbrev pub with_member : List ℕ → Data → Members → Members
with_member key value no_members = member key value no_members
with_member key value (member other kept rest) =
    match_ordering (slice_cmp nat_cmp key other) (member key value (member other kept rest)) (member other value rest)
    (member other kept (with_member key value rest))
