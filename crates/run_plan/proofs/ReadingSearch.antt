-- The row that counts, found in sorted rows at the end of those up to the port and the unit.
use Rattle.std.proofs.Common.{◌≡◌, ◌∙◌, ℕ, pos, zero, suc, ◌-◌, ◌<◌, ◌≤◌, nat_lt, true, false, List, [], ◌∷◌, length, get_or, Option, Some, None, All, filter, refl, sym, inl, inr, arith, is_lt, IsSorted}
use Rattle.std.proofs.lemmas.Bool.{cases_Bool, cases_lt, and_parts, le-ltb, eqb-true}
use Rattle.std.proofs.lemmas.Bool.Decides.{nat_tests}
use Rattle.std.proofs.lemmas.Cmp.{nat_cmp_total, on_total, then_total}
use Rattle.std.proofs.lemmas.List.{get_or_default}
use Rattle.std.proofs.lemmas.List.Elements.{filter_agree}
use Rattle.std.proofs.lemmas.List.Sorted.{ranks_by, sorted_far}
use Rattle.std.specs.Cmp.{IsStrictWeakOrder}
use Rattle.std.specs.List.Sorted.{IsPartitionedBy, IsPartitionPoint, ties}
use Rattle.scj_model.specs.Reading.{counts_at, later_row, row_at}
use Rattle.scj_model.specs.declared.plans.ReadingRow.{ReadingRow}
use Rattle.run_plan.specs.Index.{AreByPort, by_port, is_up_to}
use Rattle.run_plan.proofs.ReadingOrder.{is_at, same_row}

-- ---- which row counts

none_counts : (port unit : ℕ) (rows : List ReadingRow) → All (λ row. counts_at port unit row ≡ false) rows → row_at rows port unit ≡ None
unfolding row_at
none_counts port unit [] h = refl
none_counts port unit (row ∷ rows) h = rw (h 0 row (omega arith)) (none_counts port unit rows (λ i d l. h (suc i) d (omega arith)))

-- the rows that count stand up to a place, and none is later than the one there
abbrev IsLatest : ℕ → ℕ → List ReadingRow → ℕ → ReadingRow → Type 0
IsLatest port unit rows i r = (j : ℕ) (d : ReadingRow) → j < length rows → counts_at port unit (get_or rows j d) ≡ true → (j ≤ i) × ((get_or rows j d).at ≤ r.at)

behind_a_row : (row r : ReadingRow) (rest : Option ReadingRow) → rest ≡ Some r → row.at ≤ r.at → Some (later_row row rest) ≡ Some r
behind_a_row row r rest found order =
    let behind : nat_lt r.at row.at ≡ false = le-ltb r.at row.at order in
    rw (found, behind) refl

latest : (port unit : ℕ) (rows : List ReadingRow) (i : ℕ) (d : ReadingRow) → i < length rows → counts_at port unit (get_or rows i d) ≡ true → IsLatest port unit rows i (get_or rows i d) → row_at rows port unit ≡ Some (get_or rows i d)
unfolding row_at
latest port unit [] i d fits counts h = absurd (omega arith)
latest port unit (row ∷ rows) zero d fits counts h =
    let others : row_at rows port unit ≡ None = none_counts port unit rows (λ j e l. elim (cases_Bool (counts_at port unit (get_or rows j e))) [
      | inl c ↦ absurd (omega (arith, (h (suc j) e (omega arith) c).0))
      | inr out ↦ out
    ]) in
    rw (counts, others) refl
latest port unit (row ∷ rows) (suc i) d fits counts h =
    let rest : row_at rows port unit ≡ Some (get_or rows i d) = latest port unit rows i d (omega arith) counts (λ j e l c. (omega (arith, (h (suc j) e (omega arith) c).0), (h (suc j) e (omega arith) c).1)) in
    elim (cases_Bool (counts_at port unit row)) [
      | inl c ↦ rw c (behind_a_row row (get_or rows i d) (row_at rows port unit) rest (h 0 row (omega arith) c).1)
      | inr out ↦ rw out rest
    ]

-- ---- sorted rows

order : IsStrictWeakOrder (λ (a b : ReadingRow). is_lt (by_port a b))
order = ranks_by (then_total (on_total (λ (r : ReadingRow). r.port) nat_cmp_total) (on_total (λ (r : ReadingRow). r.at) nat_cmp_total)) (λ r. r)

record IsBehind (a b : ReadingRow) : Type 0 where
  port : a.port ≤ b.port
  unit : a.port ≡ b.port → a.at ≤ b.at

is_behind : (a b : ReadingRow) → is_lt (by_port b a) ≡ false → IsBehind a b
is_behind a b h = record { port = grind (arith, nat_tests); unit = λ e. grind (arith, nat_tests) }

up_to_too : (port unit : ℕ) (a b : ReadingRow) → IsBehind a b → is_up_to port unit b ≡ true → is_up_to port unit a ≡ true
up_to_too port unit a b h up = grind (arith, nat_tests)

pub parted : (port unit : ℕ) (rows : List ReadingRow) → IsSorted by_port rows → IsPartitionedBy (is_up_to port unit) rows
parted port unit rows sorted i j d le fits up =
    up_to_too port unit (get_or rows i d) (get_or rows j d) (is_behind (get_or rows i d) (get_or rows j d) (sorted_far (λ (a b : ReadingRow). is_lt (by_port a b)) order rows sorted i j d le fits)) up

up_to_of_counts : (port unit : ℕ) (row : ReadingRow) → counts_at port unit row ≡ true → is_up_to port unit row ≡ true
up_to_of_counts port unit row counts = grind (arith, nat_tests)

-- the rows before the point are up to the port and the unit, the others aren't
abbrev pub IsPoint : ℕ → ℕ → List ReadingRow → ℕ → Type 0
IsPoint port unit rows n = IsPartitionPoint (λ row. is_up_to port unit row ≡ true) (λ row. is_up_to port unit row ≡ false) rows n

-- a row that counts stands before the point
before_point : (port unit : ℕ) (rows : List ReadingRow) (n : ℕ) → IsPoint port unit rows n → (j : ℕ) (d : ReadingRow) → j < length rows → counts_at port unit (get_or rows j d) ≡ true → j < n
before_point port unit rows n point j d fits counts = elim (cases_lt j n) [
  | inl before ↦ before
  | inr behind ↦ let up : is_up_to port unit (get_or rows j d) ≡ true = up_to_of_counts port unit (get_or rows j d) counts in cc (point.1 j d behind fits)
]

pub nothing_before : (port unit : ℕ) (rows : List ReadingRow) (n : ℕ) → IsPoint port unit rows n → n ≡ 0 → row_at rows port unit ≡ None
nothing_before port unit rows n point none = none_counts port unit rows (λ j d fits. elim (cases_Bool (counts_at port unit (get_or rows j d))) [
  | inl counts ↦ absurd (omega (arith, before_point port unit rows n point j d fits counts))
  | inr out ↦ out
])

counts_here : (port unit : ℕ) (row : ReadingRow) → is_up_to port unit row ≡ true → row.port ≡ port → counts_at port unit row ≡ true
counts_here port unit row up same = grind (arith, nat_tests)

below_here : (port unit : ℕ) (row : ReadingRow) → is_up_to port unit row ≡ true → (row.port ≡ port → ⊥) → row.port < port
below_here port unit row up other = grind (arith, nat_tests)

port_of_counts : (port unit : ℕ) (row : ReadingRow) → counts_at port unit row ≡ true → row.port ≡ port
port_of_counts port unit row counts = eqb-true row.port port (and_parts _ _ counts).0

-- an earlier row stands behind no later one
far : (rows : List ReadingRow) (j n : ℕ) (e d : ReadingRow) → IsSorted by_port rows → j < length rows → j ≤ n → n < length rows → IsBehind (get_or rows j e) (get_or rows n d)
far rows j n e d sorted l before fits =
    rw (get_or_default rows j e d l)
    (is_behind (get_or rows j d) (get_or rows n d) (sorted_far (λ (a b : ReadingRow). is_lt (by_port a b)) order rows sorted j n d before fits))

-- the last row before the point, which is of the port
pub last_before : (port unit : ℕ) (rows : List ReadingRow) (n : ℕ) (d : ReadingRow) → IsSorted by_port rows → n ≤ length rows → IsPoint port unit rows n → (n ≡ 0 → ⊥) → (get_or rows (n - 1) d).port ≡ port → row_at rows port unit ≡ Some (get_or rows (n - 1) d)
last_before port unit rows n d sorted fits point some same =
    let counts : counts_at port unit (get_or rows (n - 1) d) ≡ true = counts_here port unit (get_or rows (n - 1) d) (point.0 (n - 1) d (omega arith) (omega arith)) same in
    latest port unit rows (n - 1) d (omega arith) counts (λ j e l c.
    let before : j ≤ n - 1 = omega (arith, before_point port unit rows n point j e l c) in
    let behind = far rows j (n - 1) e d sorted l before (omega arith) in
    (before, behind.unit (port_of_counts port unit (get_or rows j e) c ∙ sym same)))

-- the last row before the point, which is of another port
pub other_before : (port unit : ℕ) (rows : List ReadingRow) (n : ℕ) (d : ReadingRow) → IsSorted by_port rows → n ≤ length rows → IsPoint port unit rows n → (n ≡ 0 → ⊥) → ((get_or rows (n - 1) d).port ≡ port → ⊥) → row_at rows port unit ≡ None
other_before port unit rows n d sorted fits point some other =
    let below : (get_or rows (n - 1) d).port < port = below_here port unit (get_or rows (n - 1) d) (point.0 (n - 1) d (omega arith) (omega arith)) other in
    none_counts port unit rows (λ j e l. elim (cases_Bool (counts_at port unit (get_or rows j e))) [
      | inr out ↦ out
      | inl c ↦
          let before : j ≤ n - 1 = omega (arith, before_point port unit rows n point j e l c) in
          let behind = far rows j (n - 1) e d sorted l before (omega arith) in
          absurd (omega (arith, behind.port, port_of_counts port unit (get_or rows j e) c))
    ])

-- ---- the rows of a port and a unit, in the plan's order and sorted

tie : (port unit : ℕ) (row : ReadingRow) → ties (λ (a b : ReadingRow). is_lt (by_port a b)) (record { port = port; at = unit; value = pos 0 }) row ≡ is_at port unit row
tie port unit row = grind (arith, nat_tests)

same_at : (rows sorted : List ReadingRow) → AreByPort rows sorted → (port unit : ℕ) → filter (is_at port unit) sorted ≡ filter (is_at port unit) rows
same_at rows sorted index port unit =
    let here : ReadingRow = record { port = port; at = unit; value = pos 0 } in
    sym (filter_agree (ties (λ (a b : ReadingRow). is_lt (by_port a b)) here) (is_at port unit) (tie port unit) sorted)
    ∙ index.stable here
    ∙ filter_agree (ties (λ (a b : ReadingRow). is_lt (by_port a b)) here) (is_at port unit) (tie port unit) rows

-- sorted rows read as those of the plan
pub sorted_row : (rows sorted : List ReadingRow) → AreByPort rows sorted → (port unit : ℕ) → row_at sorted port unit ≡ row_at rows port unit
sorted_row rows sorted index = same_row rows sorted (same_at rows sorted index)
