-- What a port reads has 32 bits, by a plan that keeps its limits.
use Rattle.std.proofs.Common.{◌≡◌, ℕ, nat_lt, All, Bool, true, false, FitsSigned, List, [], ◌∷◌, pos, Option, Some, None, if◌then◌else◌, refl, subst, arith}
use Rattle.std.specs.Int.{w32}
use Rattle.std.proofs.lemmas.Int.{ints}
use Rattle.std.proofs.lemmas.List.Elements.{All-head, All-tail}
use Rattle.accepted_laws.proofs.Tools.{some_inj}
use Rattle.scj_model.specs.declared.plans.ReadingRow.{ReadingRow}
use Rattle.scj_model.specs.Reading.{counts_at, later_row, reading, row_at}
use Rattle.run_plan.specs.Limits.{IsReading}

later_reads : (row : ReadingRow) (o : Option ReadingRow) → IsReading row →
    ((x : ReadingRow) → o ≡ Some x → IsReading x) → IsReading (later_row row o)
later_reads row None h k = h
later_reads row (Some second) h k = go (nat_lt second.at row.at)
  where
    go : (b : Bool) → IsReading (if b then row else second)
    go true = h
    go false = k second refl

row_reads : (port unit : ℕ) (rows : List ReadingRow) → All IsReading rows → (row : ReadingRow) →
    row_at rows port unit ≡ Some row → IsReading row
unfolding row_at
row_reads port unit [] all row e = absurd (cc (e))
row_reads port unit (first ∷ rows) all row e =
    go (counts_at port unit first)
    (λ x k. row_reads port unit rows (All-tail IsReading first rows all) x k) e
  where
    go : (b : Bool) → ((x : ReadingRow) → row_at rows port unit ≡ Some x → IsReading x) →
        (if b then Some (later_row first (row_at rows port unit)) else row_at rows port unit) ≡ Some row →
        IsReading row
    go true more k =
        subst IsReading (some_inj (later_row first (row_at rows port unit)) row k)
        (later_reads first (row_at rows port unit) (All-head IsReading first rows all) more)
    go false more k = more row k

value_fits : (row : ReadingRow) → IsReading row → FitsSigned w32 row.value
value_fits row h = let least = h.least in let greatest = h.greatest in omega (arith, ints, least, greatest)

pub reading_fits : (rows : List ReadingRow) (port unit : ℕ) → All IsReading rows →
    FitsSigned w32 (reading rows port unit)
unfolding reading
reading_fits rows port unit all = go (row_at rows port unit) refl
  where
    go : (o : Option ReadingRow) → row_at rows port unit ≡ o →
        FitsSigned w32 (elim o [ None ↦ pos 0 | Some row ↦ row.value ])
    go None e = record { sfits = omega arith }
    go (Some row) e = value_fits row (row_reads port unit rows all row e)
