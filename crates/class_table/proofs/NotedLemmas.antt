-- What is found at classes, in whatever order.
use Rattle.std.proofs.Common.{Option, ◌≡◌, ◌⊎◌, inl, inr, ⊎_elim, ◌+◌, ◌<◌, ◌≤◌, ℕ, ◌==◌, ◌&&◌, not, nat_lt, Bool, true, false, List, [], ◌∷◌, ◌++◌, length, set, flat_map, refl, sym, ◌∙◌, subst, arith}
use Rattle.std.specs.List.{list_any, Contains}
use Rattle.std.proofs.lemmas.Bool.{cases_eq, cases_lt, or_cases, or_left, or_right}
use Rattle.std.proofs.lemmas.Bool.Decides.{nat_tests}
use Rattle.std.proofs.lemmas.Grind.{common_steps}
use Rattle.std.proofs.lemmas.List.{get_or-set_other}
use Rattle.std.proofs.lemmas.List.Folds.{Any-from_list_any}
use Rattle.std.proofs.lemmas.List.Elements.{Contains-append_left, Contains-append_right, Contains-append_cases}
use Rattle.std.proofs.lemmas.Option.{slice_get_past}
use Rattle.scj_base.specs.declared.findings.Found.{Found}
use Rattle.scj_tree.specs.Forest.{Forest}
use Rattle.scj_tree.specs.Recursion.{lookup, joined_below}
use Rattle.scj_tree.proofs.RecursionLemmas.{from_joined, to_joined}
use Rattle.scj_rules.specs.Words.{is_among, found_at}
use Rattle.scj_rules.specs.Classes.{ClassRow}
use Rattle.scj_rules.specs.ClassRules.{numbers_from}
use Rattle.scj_rules.specs.Contexts.{declarations_of}
use Rattle.scj_rules.specs.Phases.{at_class, over_classes}
use Rattle.scj_rules.proofs.ChainLemmas.{same_number, is_same_number}
use Rattle.scj_rules.proofs.NumberLemmas.{joined_all}
use Rattle.scj_rules.proofs.ReportLemmas.{none_contained}
use Rattle.class_headers.proofs.SuperLemmas.{any_alike, bools}
use Rattle.class_rules.specs.Parts.{class_found}
use Rattle.node_rules.specs.Findings.{FindSame}
use Rattle.node_rules.proofs.FindingLemmas.{same_lists, same_then, both_same}
use Rattle.symbol_table.specs.Symbols.{AreClasses}
use Rattle.class_table.specs.Noted.{broken_at_class, HasEach}

-- ---- marks

pub marked_before : (marks : List Bool) (at class : ℕ) → lookup false (set marks at true) class ≡ true →
    (class ≡ at) ⊎ (lookup false marks class ≡ true)
marked_before marks at class h =
    ⊎_elim (λ (e : class ≡ at). inl e)
    (λ (apart : class ≡ at → ⊥). inr (sym (get_or-set_other marks at class true false apart) ∙ h)) (cases_eq class at)

-- ---- the classes one after the other

module _ (f : ℕ → List Found) (x : Found) where
  found_from : (ks : List ℕ) → Contains (flat_map f ks) x → (k : ℕ) × (is_among k ks ≡ true) × Contains (f k) x
  found_from [] h = absurd (none_contained x h)
  found_from (k ∷ ks) h =
      ⊎_elim
      (λ (e : Contains (f k) x). (k, or_left (k == k) (is_among k ks) (is_same_number k k refl), e))
      (λ (e : Contains (flat_map f ks) x). let r = found_from ks e in
      (r.0, or_right (r.0 == k) (is_among r.0 ks) r.1, r.2))
      (Contains-append_cases (f k) (flat_map f ks) x h)

  found_in : (ks : List ℕ) (k : ℕ) → is_among k ks ≡ true → Contains (f k) x → Contains (flat_map f ks) x
  found_in [] k e h = cc
  found_in (j ∷ ks) k e h =
      ⊎_elim
      (λ (s : (k == j) ≡ true). Contains-append_left (f j) (flat_map f ks) x
      (subst (λ m. Contains (f m) x) (same_number k j s) h))
      (λ (s : is_among k ks ≡ true). Contains-append_right (f j) (flat_map f ks) x (found_in ks k s h))
      (or_cases (k == j) (is_among k ks) e)

module _ (forest : Forest) where
  abbrev broken : ℕ → List Found
  broken = broken_at_class forest

  abbrev rows : List ClassRow
  rows = (declarations_of forest).classes

  -- something is broken at classes alone
  is_class : (k : ℕ) (x : Found) → Contains (broken k) x → k < length rows
  unfolding at_class
  is_class k x h =
      ⊎_elim (λ (l : k < length rows). l)
      (λ (l : length rows ≤ k). absurd (none_contained x (subst (λ (o : Option ClassRow). Contains (found_at o
      (λ (row : ClassRow). found_at row.written (class_found (declarations_of forest) k row))) x)
      (slice_get_past rows k l) h)))
      (cases_lt k (length rows))

  pub each_noted : (before found : List Found) (order : List ℕ) → HasEach forest order → found ≡ before
      ++ flat_map broken order →
      FindSame found (before ++ over_classes (declarations_of forest) (class_found (declarations_of forest)))
  unfolding over_classes
  each_noted before found order h e =
      let each : FindSame (flat_map broken order) (joined_below broken (length rows)) =
      record {
        exact = λ x. (
          (λ k. let r = found_from broken x order k in
              to_joined broken (length rows) r.0 x (is_class r.0 x r.2) r.2),
          (λ k. let r = from_joined broken (length rows) x k in found_in broken x order r.0 (h r.0 r.1) r.2),
        );
      } in
      rw e (both_same (same_lists refl) (same_then each (same_lists (sym (joined_all broken rows)))))

-- ---- each class is asked

among_numbers : {A : Type 0} (x k : ℕ) (xs : List A) →
    is_among x (numbers_from k xs) ≡ (not (nat_lt x k) && nat_lt x (k + length xs))
unfolding numbers_from
among_numbers x k [] = grind (arith, nat_tests)
among_numbers x k (y ∷ xs) = grind (arith, common_steps, nat_tests, among_numbers x (k + 1) xs)

among_classes : (forest : Forest) (order : List ℕ) (x : ℕ) → AreClasses forest order → is_among x order ≡ true →
    x < length (declarations_of forest).classes
among_classes forest order x are h =
    let a = Any-from_list_any (λ y. x == y) order h in
    let low = are a.0 a.1 a.2 in
    omega (arith, low, a.3, same_number x a.1 a.4)

pub all_asked : (forest : Forest) (order : List ℕ) (f : ℕ → Bool) → HasEach forest order → AreClasses forest order →
    list_any f order ≡ list_any f (numbers_from 0 (declarations_of forest).classes)
all_asked forest order f each are =
    any_alike f order (numbers_from 0 rows) (λ x.
    bools (is_among x order) (is_among x (numbers_from 0 rows))
    (λ h. let low = among_classes forest order x are h in
    grind (arith, nat_tests, among_numbers x 0 rows))
    (λ h. each x (grind (arith, nat_tests, among_numbers x 0 rows))))
  where
    rows : List ClassRow
    rows = (declarations_of forest).classes
