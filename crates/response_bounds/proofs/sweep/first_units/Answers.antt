use Rattle.std.proofs.Common.{rules, ◌≡◌, ◌≤◌, ◌<◌, ◌+◌, ◌-◌, ◌⊎◌, inl, inr, ℕ, List, length, sym, subst, arith}
use Rattle.std.specs.Prelude.{slice_index, slice_set}
use Rattle.std.proofs.lemmas.Bool.{cases_eq}
use Rattle.std.proofs.lemmas.List.{get_or-set_same, get_or-set_other}
use Rattle.response_bounds.specs.declared.rows.Declared.{Declared}
use Rattle.response_bounds.specs.Levels.{IsFirst, NoneBelow, level_demand}
use Rattle.response_bounds.specs.Rows.{AreDeclared, highest_priority, row_at}
use Rattle.response_bounds.proofs.Levels.{none_lower}
use Rattle.response_bounds.proofs.sweep.first_units.Goals as goal

below : (rows : List Declared) (level from x : ℕ) → AreDeclared rows → NoneBelow rows (level + 1) from →
    (NoneBelow rows level from → NoneBelow rows level x) → NoneBelow rows level x
below rows level from x declared h search = search (none_lower rows (level + 1) level from declared (omega arith) h)

less_one : (rows : List Declared) (level x : ℕ) → 0 < level → NoneBelow rows level x → NoneBelow rows (level - 1 + 1) x
less_one rows level x some h =
    let same : level ≡ level - 1 + 1 = omega (arith, some) in
    subst (λ k. NoneBelow rows k x) same h

is_first : (rows : List Declared) (level x most : ℕ) → 1 ≤ x → NoneBelow rows level x →
    (x ≤ most → level_demand rows level x ≤ x) →
    ((i : ℕ) → i < length rows → (row_at rows i).priority ≡ level → (row_at rows i).gap ≤ most) → IsFirst rows level x
is_first rows level x most from none serves greatest =
    record { from = from; none = none; serves = λ i l e upto. serves (fits i upto (greatest i l e)) }
  where
    fits : (i : ℕ) → x ≤ (row_at rows i).gap → (row_at rows i).gap ≤ most → x ≤ most
    fits i a b = omega (arith, a, b)

one_more : (rows : List Declared) (firsts : List ℕ) (level x : ℕ) → level < length firsts → IsFirst rows level x →
    ((q : ℕ) → level < q → q ≤ highest_priority → IsFirst rows q (slice_index firsts q)) →
    (q : ℕ) → level - 1 < q → q ≤ highest_priority → IsFirst rows q (slice_index (slice_set firsts level x) q)
one_more rows firsts level x l first h q a b = go (cases_eq q level)
  where
    go : (q ≡ level) ⊎ (q ≡ level → ⊥) → IsFirst rows q (slice_index (slice_set firsts level x) q)
    go (inl e) =
        let same : slice_index (slice_set firsts level x) level ≡ x = get_or-set_same firsts level x 0 l in
        subst (λ k. IsFirst rows k (slice_index (slice_set firsts level x) k)) (sym e)
        (subst (λ k. IsFirst rows level k) (sym same) first)
    go (inr e) =
        let same : slice_index (slice_set firsts level x) q ≡ slice_index firsts q = get_or-set_other firsts level q x 0 e in
        subst (λ k. IsFirst rows q k) (sym same) (h q (omega (arith, a, e)) b)

pub loop-level-preserved : goal.loop-level-preserved
loop-level-preserved c =
    let rows : List Declared = c.args.rows.now in
    let level : ℕ = c.loop-level.level in
    let old = c.loop-level.invariant in
    let none : NoneBelow rows level c.in_ok-units.units =
    below rows level c.loop-level.units c.in_ok-units.units c.requires old.3 c.in_ok-units.ensures.none in
    let first : IsFirst rows level c.in_ok-units.units =
    is_first rows level c.in_ok-units.units c.greatest_gap.result c.in_ok-units.ensures.from none
    c.in_ok-units.ensures.serves c.greatest_gap.ensures.greatest in (
      omega (arith, old.0),
      c.in_ok-units.ensures.from,
      search rules,
      less_one rows level c.in_ok-units.units (omega (arith, c.loop-level-test.true)) none,
      one_more rows c.loop-level.firsts.items level c.in_ok-units.units (omega (arith, old.0, old.2)) first old.4,
    )
