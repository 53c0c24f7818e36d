-- Chains of scopes, and rows of tables.
use Rattle.std.proofs.Common.{◌≡◌, ◌-◌, ℕ, ◌<◌, false, List, [], length, slice_get, Option, Some, ap, arith, ◌==◌}
use Rattle.std.proofs.lemmas.Bool.Decides.{nat_tests}
use Rattle.std.proofs.lemmas.Option.{get_or_from_slice_get, slice_get_within}
use Rattle.scj_tree.specs.Recursion.{lookup, listed}
use Rattle.scj_tree.proofs.RecursionLemmas.{listed-at, length-listed}
use Rattle.scj_rules.specs.Words.{is_among}
use Rattle.class_rows.specs.Walks.{chain_from}
use Rattle.class_rows.proofs.WalkLemmas.{chain_here}
use Rattle.program_facts.specs.Tables.{AreRowsOf}

-- another number than the first is looked for behind it
pub passed_here : (next : ℕ → Option ℕ) (a scope left : ℕ) → 0 < left → false ≡ (a == scope)
    → is_among a (chain_from next (left - 1) (next scope)) ≡ is_among a (chain_from next left (Some scope))
passed_here next a scope left l h = grind (arith, nat_tests, chain_here next left scope l, h)

-- rows that are made number after number, and no rows at all
pub rows_listed : {A : Type 0} (f : ℕ → A) (rows : List A) (n : ℕ) → rows ≡ listed f n → AreRowsOf f rows
rows_listed {A} f rows n e = record { reported = reported }
  where
    reported : (k : ℕ) (row : A) → slice_get rows k ≡ Some row → row ≡ f k
    reported k row h =
        let inside = slice_get_within rows k row h in
        let here = get_or_from_slice_get rows k row row h in
        let same = ap (λ (xs : List A). lookup row xs k) e in
        grind (arith, nat_tests, inside, here, same, ap length e, length-listed f n, listed-at row f n k)

pub no_rows : {A : Type 0} (f : ℕ → A) (rows : List A) → rows ≡ [] → AreRowsOf f rows
unfolding listed
no_rows f rows e = rows_listed f rows 0 e
