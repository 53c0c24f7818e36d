-- The rows of a plan: its fires and its readings.
use Rattle.std.specs.Prelude.{ℕ, ℤ, suc, Bool, true, false, ◌==◌, nat_le, List, [], ◌∷◌, Option, Some, None, if◌then◌else◌, codes, option_map}
use Rattle.scj_model.specs.declared.plans.Fire.{Fire}
use Rattle.scj_model.specs.declared.plans.FireFrom.{FireFrom}
use Rattle.scj_model.specs.declared.plans.FireFrom.TheVariants.{Start}
use Rattle.scj_model.specs.declared.plans.ReadingRow.{ReadingRow}
use Rattle.scj_rules.specs.Words.{◌>>=◌}
use Rattle.toml.specs.Data.{Data, as_array, as_table, Items, no_items, item, Members, no_members, member}
use Rattle.run_plan.specs.Limits.{last_unit, most_rows, last_port}
use Rattle.run_plan.specs.Values.{from_at, number_at, integer_at, name_at}

-- how many keys a table has
abbrev pub key_count : Members → ℕ
key_count no_members = 0
key_count (member key value rest) = suc (key_count rest)

abbrev pub fire_with : Option ℕ → Option (List ℕ) → Option FireFrom → Option Fire
fire_with (Some at) (Some handler) (Some from) = Some (record { at = at; handler = handler; from = from })
fire_with _ _ _ = None

-- a fire of version 1 is a table of the keys `at` and `handler`, and of no other; it is counted from the start
abbrev pub first_fire_of : Members → Option Fire
first_fire_of row =
    if key_count row == 2
    then fire_with (number_at (codes "at") 0 last_unit row) (name_at (codes "handler") row) (Some Start)
    else None

-- one of version 2 is a table of the keys `at`, `handler` and `from`, and of no other
abbrev pub second_fire_of : Members → Option Fire
second_fire_of row =
    if key_count row == 3
    then fire_with (number_at (codes "at") 0 last_unit row) (name_at (codes "handler") row) (from_at (codes "from") row)
    else None

abbrev pub fire_of : Bool → Members → Option Fire
fire_of false = first_fire_of
fire_of true = second_fire_of

-- a reading is a table of the keys `port`, `at` and `value`, and of no other
abbrev pub reading_with : Option ℕ → Option ℕ → Option ℤ → Option ReadingRow
reading_with (Some port) (Some at) (Some value) = Some (record { port = port; at = at; value = value })
reading_with _ _ _ = None

abbrev pub reading_of : Members → Option ReadingRow
reading_of row =
    if key_count row == 3
    then reading_with (number_at (codes "port") 0 last_port row) (number_at (codes "at") 0 last_unit row)
    (integer_at (codes "value") row)
    else None

-- how many items an array has
abbrev pub item_count : Items → ℕ
item_count no_items = 0
item_count (item value rest) = suc (item_count rest)

-- the row first, then the others, where there are such
abbrev pub before : {Row : Type 0} → Row → Option (List Row) → Option (List Row)
before row rows = option_map (λ others. row ∷ others) rows

-- a row for each item, where each item is one
abbrev pub each_row : {Row : Type 0} → (Members → Option Row) → Items → Option (List Row)
each_row row_of no_items = Some []
each_row row_of (item value rest) = (as_table value >>= row_of) >>= (λ row. before row (each_row row_of rest))

abbrev pub few_rows : {Row : Type 0} → (Members → Option Row) → Items → Option (List Row)
few_rows row_of items = if nat_le (item_count items) most_rows then each_row row_of items else None

-- the rows that a value is: an array of few tables, each of which is a row
abbrev pub rows_in : {Row : Type 0} → (Members → Option Row) → Data → Option (List Row)
rows_in row_of value = as_array value >>= few_rows row_of
