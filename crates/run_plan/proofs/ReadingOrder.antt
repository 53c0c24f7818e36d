-- Readings of a port, unit by unit: what it reads in a unit is the last row of that unit, or else what it read before.
use Rattle.std.proofs.Common.{◌≡◌, ◌∙◌, ℕ, pos, zero, suc, ◌<◌, ◌≤◌, ◌==◌, nat_lt, Bool, true, false, ◌&&◌, List, [], ◌∷◌, Option, Some, None, filter, unwrap_or, refl, ap, sym, inl, inr, arith}
use Rattle.std.proofs.lemmas.Bool.{cases_Bool, cases_order, and_parts, not-true, lt-ltb, le-ltb, ltb-false, eq-eqb, ne_eqb, eqb-true}
use Rattle.std.proofs.lemmas.Option.{same_Some}
use Rattle.scj_rules.specs.Words.{or_else}
use Rattle.scj_model.specs.Reading.{counts_at, later_row, reading, row_at}
use Rattle.scj_model.specs.declared.plans.ReadingRow.{ReadingRow}

-- the row is of the port and of the unit
abbrev pub is_at : ℕ → ℕ → ReadingRow → Bool
is_at port unit row = (row.port == port) && (row.at == unit)

abbrev last_row : List ReadingRow → Option ReadingRow
last_row [] = None
last_row (row ∷ rows) = Some (unwrap_or (last_row rows) row)

-- ---- units of rows that were found

last_or_this : (row : ReadingRow) (found : Option ReadingRow) (unit : ℕ) (r : ReadingRow) → row.at ≡ unit → ((s : ReadingRow) → found ≡ Some s → s.at ≡ unit) → Some (unwrap_or found row) ≡ Some r → r.at ≡ unit
last_or_this row None unit r here others e = ap (λ (s : ReadingRow). s.at) (sym (same_Some row r e)) ∙ here
last_or_this row (Some s) unit r here others e = ap (λ (s : ReadingRow). s.at) (sym (same_Some s r e)) ∙ others s refl

unit_of_last : (port unit : ℕ) (rows : List ReadingRow) (r : ReadingRow) → last_row (filter (is_at port unit) rows) ≡ Some r → r.at ≡ unit
unit_of_last port unit [] r e = cc
unit_of_last port unit (row ∷ rows) r e = elim (cases_Bool (is_at port unit row)) [
  | inl here ↦
      let h = rw here at e in
      last_or_this row (last_row (filter (is_at port unit) rows)) unit r (eqb-true row.at unit (and_parts _ _ here).1) (unit_of_last port unit rows) h
  | inr other ↦ let h = rw other at e in unit_of_last port unit rows r h
]

later_or_this : (row : ReadingRow) (found : Option ReadingRow) (unit : ℕ) (r : ReadingRow) → row.at ≤ unit → ((s : ReadingRow) → found ≡ Some s → s.at ≤ unit) → Some (later_row row found) ≡ Some r → r.at ≤ unit
later_or_this row None unit r here others e = let same : row ≡ r = same_Some row r e in omega (arith, ap (λ (s : ReadingRow). s.at) same)
later_or_this row (Some s) unit r here others e = elim (cases_Bool (nat_lt s.at row.at)) [
  | inl before ↦
      let h = rw before at e in
      let same : row ≡ r = same_Some row r h in omega (arith, ap (λ (s : ReadingRow). s.at) same)
  | inr behind ↦
      let h = rw behind at e in
      let same : s ≡ r = same_Some s r h in
      omega (arith, ap (λ (s : ReadingRow). s.at) same, others s refl)
]

unit_of_row : (port unit : ℕ) (rows : List ReadingRow) (r : ReadingRow) → row_at rows port unit ≡ Some r → r.at ≤ unit
unfolding row_at
unit_of_row port unit [] r e = cc
unit_of_row port unit (row ∷ rows) r e = elim (cases_Bool (counts_at port unit row)) [
  | inl here ↦
      let h = rw here at e in
      later_or_this row (row_at rows port unit) unit r (ltb-false unit row.at (not-true _ (and_parts _ _ here).1)) (unit_of_row port unit rows) h
  | inr other ↦ let h = rw other at e in unit_of_row port unit rows r h
]

-- ---- one more unit

-- a row of the unit, before what was found behind it
this_unit : (row : ReadingRow) (unit : ℕ) (last found : Option ReadingRow) → row.at ≡ suc unit → ((s : ReadingRow) → last ≡ Some s → s.at ≡ suc unit) → ((s : ReadingRow) → found ≡ Some s → s.at ≤ unit) → Some (later_row row (or_else last found)) ≡ Some (unwrap_or last row)
this_unit row unit None None here of_last of_found = refl
this_unit row unit None (Some s) here of_last of_found =
    let before : nat_lt s.at row.at ≡ true = lt-ltb s.at row.at (omega (arith, of_found s refl)) in
    rw before refl
this_unit row unit (Some s) found here of_last of_found =
    let behind : nat_lt s.at row.at ≡ false = le-ltb s.at row.at (omega (arith, of_last s refl)) in
    rw behind refl

-- a row of an earlier unit
earlier_unit : (row : ReadingRow) (unit : ℕ) (last found : Option ReadingRow) → row.at < suc unit → ((s : ReadingRow) → last ≡ Some s → s.at ≡ suc unit) → Some (later_row row (or_else last found)) ≡ or_else last (Some (later_row row found))
earlier_unit row unit None found here of_last = refl
earlier_unit row unit (Some s) found here of_last =
    let behind : nat_lt s.at row.at ≡ false = le-ltb s.at row.at (omega (arith, of_last s refl)) in
    rw behind refl

step : (port unit : ℕ) (rows : List ReadingRow) → row_at rows port (suc unit) ≡ or_else (last_row (filter (is_at port (suc unit)) rows)) (row_at rows port unit)
unfolding row_at
step port unit [] = refl
step port unit (row ∷ rows) =
    let rest = step port unit rows in
    elim (cases_Bool (row.port == port)) [
      | inr other ↦ rw other rest
      | inl same ↦ elim (cases_order row.at (suc unit)) [
        | inl here ↦
            let counts : nat_lt (suc unit) row.at ≡ false = le-ltb (suc unit) row.at (omega arith) in
            let at : (row.at == suc unit) ≡ true = eq-eqb row.at (suc unit) here in
            rw (same, counts, at, rest)
            (this_unit row unit (last_row (filter (is_at port (suc unit)) rows)) (row_at rows port unit) here (unit_of_last port (suc unit) rows) (unit_of_row port unit rows))
        | inr (inl less) ↦
            let counts : nat_lt (suc unit) row.at ≡ false = le-ltb (suc unit) row.at (omega arith) in
            let at : (row.at == suc unit) ≡ false = ne_eqb row.at (suc unit) (λ e. omega arith) in
            let late : nat_lt unit row.at ≡ false = le-ltb unit row.at (omega arith) in
            rw (same, counts, at, late, rest)
            (earlier_unit row unit (last_row (filter (is_at port (suc unit)) rows)) (row_at rows port unit) less (unit_of_last port (suc unit) rows))
        | inr (inr more) ↦
            let counts : nat_lt (suc unit) row.at ≡ true = lt-ltb (suc unit) row.at more in
            let at : (row.at == suc unit) ≡ false = ne_eqb row.at (suc unit) (λ e. omega arith) in
            let late : nat_lt unit row.at ≡ true = lt-ltb unit row.at (omega arith) in
            rw (same, counts, at, late) rest
      ]
    ]

-- ---- the first unit

first_unit : (row : ReadingRow) (last : Option ReadingRow) → row.at ≡ 0 → Some (later_row row last) ≡ Some (unwrap_or last row)
first_unit row None here = refl
first_unit row (Some s) here =
    let behind : nat_lt s.at row.at ≡ false = le-ltb s.at row.at (omega arith) in
    rw behind refl

base : (port : ℕ) (rows : List ReadingRow) → row_at rows port 0 ≡ last_row (filter (is_at port 0) rows)
unfolding row_at
base port [] = refl
base port (row ∷ rows) =
    let rest = base port rows in
    elim (cases_Bool (row.port == port)) [
      | inr other ↦ rw other rest
      | inl same ↦ elim (cases_order row.at 0) [
        | inl here ↦
            let counts : nat_lt 0 row.at ≡ false = le-ltb 0 row.at (omega arith) in
            let at : (row.at == 0) ≡ true = eq-eqb row.at 0 here in
            rw (same, counts, at, rest) (first_unit row (last_row (filter (is_at port 0) rows)) here)
        | inr (inl less) ↦ absurd (omega arith)
        | inr (inr more) ↦
            let counts : nat_lt 0 row.at ≡ true = lt-ltb 0 row.at more in
            let at : (row.at == 0) ≡ false = ne_eqb row.at 0 (λ e. omega arith) in
            rw (same, counts, at) rest
      ]
    ]

-- rows with the same rows of each port and unit read alike
pub same_row : (rows sorted : List ReadingRow) → ((port unit : ℕ) → filter (is_at port unit) sorted ≡ filter (is_at port unit) rows) → (port unit : ℕ) → row_at sorted port unit ≡ row_at rows port unit
same_row rows sorted same port zero = base port sorted ∙ ap last_row (same port 0) ∙ sym (base port rows)
same_row rows sorted same port (suc unit) =
    step port unit sorted
    ∙ ap (λ (found : List ReadingRow). or_else (last_row found) (row_at sorted port unit)) (same port (suc unit))
    ∙ ap (or_else (last_row (filter (is_at port (suc unit)) rows))) (same_row rows sorted same port unit)
    ∙ sym (step port unit rows)

-- ---- what a port reads

pub value_read : (rows : List ReadingRow) (port unit : ℕ) (row : ReadingRow) → row_at rows port unit ≡ Some row → reading rows port unit ≡ row.value
unfolding reading
value_read rows port unit row found = rw (found, reading) refl

pub nothing_read : (rows : List ReadingRow) (port unit : ℕ) → row_at rows port unit ≡ None → reading rows port unit ≡ pos 0
unfolding reading
nothing_read rows port unit none = rw (none, reading) refl
