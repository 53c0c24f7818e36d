-- The table that `migrate` prints is that of the plan.
use Rattle.std.proofs.Common.{◌≡◌, ◌∙◌, ℕ, suc, pos, ◌≤◌, nat_le, le-leb, ℤ, ◌≤ℤ◌, int_le, Bool, true, List, [], ◌∷◌, length, map, All, Option, Some, None, is_some, unwrap_or, codes, refl, ap, arith}
use Rattle.std.proofs.lemmas.Int.{ints}
use Rattle.std.proofs.lemmas.Bool.Decides.{nat_tests}
use Rattle.scj_model.specs.Plan.{Plan}
use Rattle.scj_model.specs.declared.plans.Fire.{Fire}
use Rattle.scj_model.specs.declared.plans.FireFrom.{FireFrom}
use Rattle.scj_model.specs.declared.plans.FireFrom.TheVariants.{Start, Mission}
use Rattle.scj_model.specs.declared.plans.ReadingRow.{ReadingRow}
use Rattle.scj_rules.specs.Words.{or_else}
use Rattle.toml.specs.Data.{Data, table, Members, member, no_members, items_depth, members_depth}
use Rattle.toml.specs.View.{items_of}
use Rattle.run_plan.specs.Limits.{IsFire, IsReading, KeepsLimits, greatest_value, largest_store, last_port, last_unit, least_value, most_rows, most_units}
use Rattle.run_plan.specs.NewTable.{array_of, fire_row, new_table, number, reading_row, word_of}
use Rattle.run_plan.specs.PlanOf.{completed, first_refusal, meaning_of, plan as is_plan, plan_with, refusal_at, required, rows_at, store_at, suits, units_at}
use Rattle.run_plan.specs.Rows.{each_row, item_count, reading_of, rows_in, second_fire_of}
use Rattle.run_plan.specs.Values.{from_named, of_32_bits, within}

-- ---- rows

from_word : (from : FireFrom) → from_named (word_of from) ≡ Some from
from_word Start = refl
from_word Mission = refl

up_to : (n most : ℕ) → n ≤ most → within 0 most (pos n) ≡ Some n
up_to n most few =
    let low : nat_le 0 n ≡ true = le-leb 0 n (omega arith) in
    let high : nat_le n most ≡ true = le-leb n most few in
    rw (low, high) refl

in_32_bits : (z : ℤ) → least_value ≤ℤ z → z ≤ℤ greatest_value → of_32_bits z ≡ Some z
in_32_bits z least greatest =
    let low : int_le least_value z ≡ true = grind (arith, ints) in
    let high : int_le z greatest_value ≡ true = grind (arith, ints) in
    rw (low, high) refl

fire_read : (fire : Fire) → IsFire fire → second_fire_of (fire_row fire) ≡ Some fire
fire_read fire is = rw (up_to fire.at last_unit is.in_time, is.named, from_word fire.from) refl

reading_read : (row : ReadingRow) → IsReading row → reading_of (reading_row row) ≡ Some row
reading_read row is = rw (up_to row.port last_port is.of_a_port, up_to row.at last_unit is.in_time, in_32_bits row.value is.least is.greatest) refl

module _ {Row : Type 0} (row_of : Row → Members) (read : Members → Option Row) where
  each_read : (rows : List Row) → All (λ row. read (row_of row) ≡ Some row) rows → each_row read (items_of (map (λ row. table (row_of row)) rows)) ≡ Some rows
  each_read [] h = refl
  each_read (row ∷ rows) h = rw (h 0 row (omega arith), each_read rows (λ i d l. h (suc i) d (omega arith))) refl

  count_read : (rows : List Row) → item_count (items_of (map (λ row. table (row_of row)) rows)) ≡ length rows
  count_read [] = refl
  count_read (row ∷ rows) = ap suc (count_read rows)

  rows_read : (rows : List Row) → length rows ≤ most_rows → All (λ row. read (row_of row) ≡ Some row) rows → rows_in read (array_of row_of rows) ≡ Some rows
  rows_read rows few h =
      let fits : nat_le (length rows) most_rows ≡ true = le-leb (length rows) most_rows few in
      rw (count_read rows, fits) (each_read rows h)

-- ---- the table

passed : (second : Bool) (key : List ℕ) (value : Data) (rest : Members) → suits second key value ≡ Some true → first_refusal second rest ≡ None → first_refusal second (member key value rest) ≡ None
passed second key value rest fits others = ap (λ suited. or_else (refusal_at key suited) (first_refusal second rest)) fits ∙ others

abbrev with_rows : ℕ → ℕ → List Fire → List ReadingRow → Plan
with_rows units store fires readings = record { units = units; store = store; fires = fires; readings = readings }

module _ (plan : Plan) (keeps : KeepsLimits plan) where
  fires : rows_in second_fire_of (array_of fire_row plan.fires) ≡ Some plan.fires
  fires = rows_read fire_row second_fire_of plan.fires keeps.fires.few (λ i fire l. fire_read _ (keeps.fires.each i fire l))

  readings : rows_in reading_of (array_of reading_row plan.readings) ≡ Some plan.readings
  readings = rows_read reading_row reading_of plan.readings keeps.readings.few (λ i row l. reading_read _ (keeps.readings.each i row l))

  units : units_at (new_table plan) ≡ Some plan.units
  units = up_to plan.units most_units keeps.units

  store : store_at (new_table plan) ≡ Some plan.store
  store = up_to plan.store largest_store keeps.store

  abbrev last_key : Members
  last_key = member (codes "version") (number 2) no_members

  abbrev last_keys : Members
  last_keys = member (codes "units") (number plan.units) last_key

  abbrev numbers : Members
  numbers = member (codes "store") (number plan.store) last_keys

  abbrev behind_fires : Members
  behind_fires = member (codes "reading") (array_of reading_row plan.readings) numbers

  nothing_refused : first_refusal true (new_table plan) ≡ None
  nothing_refused =
      passed true (codes "fire") (array_of fire_row plan.fires) behind_fires (ap (λ o. Some (is_some o)) fires)
      (passed true (codes "reading") (array_of reading_row plan.readings) numbers (ap (λ o. Some (is_some o)) readings)
      (passed true (codes "store") (number plan.store) last_keys (ap (λ o. Some (is_some o)) store)
      (passed true (codes "units") (number plan.units) last_key (ap (λ o. Some (is_some o)) units) refl)))

  same_rows : plan_with plan.units plan.store (new_table plan) ≡ plan
  same_rows =
      ap (λ o. with_rows plan.units plan.store (unwrap_or o []) (rows_at reading_of (codes "reading") (new_table plan))) fires
      ∙ ap (λ o. with_rows plan.units plan.store plan.fires (unwrap_or o [])) readings

  all_there : completed (new_table plan) ≡ is_plan plan
  all_there =
      ap (λ o. required (codes "units") o (λ u. required (codes "store") (store_at (new_table plan)) (λ s. is_plan (plan_with u s (new_table plan))))) units
      ∙ ap (λ o. required (codes "store") o (λ s. is_plan (plan_with plan.units s (new_table plan)))) store
      ∙ ap is_plan same_rows

  pub same_plan : meaning_of (new_table plan) ≡ is_plan plan
  unfolding meaning_of
  same_plan = rw (nothing_refused, meaning_of) all_there

-- ---- how deep the table is

module _ {Row : Type 0} (row_of : Row → Members) (flat : (row : Row) → members_depth (row_of row) ≡ 0) where
  rows_depth : (rows : List Row) → items_depth (items_of (map (λ row. table (row_of row)) rows)) ≤ 1
  rows_depth [] = omega arith
  rows_depth (row ∷ rows) =
      let here : members_depth (row_of row) ≡ 0 = flat row in
      let others : items_depth (items_of (map (λ row. table (row_of row)) rows)) ≤ 1 = rows_depth rows in
      grind (arith, nat_tests)

pub shallow : (plan : Plan) → members_depth (new_table plan) ≤ 80
shallow plan =
    let fires = rows_depth fire_row (λ row. refl) plan.fires in
    let readings = rows_depth reading_row (λ row. refl) plan.readings in
    grind (arith, nat_tests)
