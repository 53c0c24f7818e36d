-- Lists that are made class after class.
use Rattle.std.specs.Prelude.{Contains, map, filter, max, flat_map, if◌then◌else◌}
use Rattle.std.proofs.Common.{◌≡◌, ℕ, ◌+◌, ◌<◌, List, [], ◌∷◌, ◌++◌, length, Bool, true, false, refl, sym, ◌∙◌, ap, subst, arith, append-nil, ⊎_elim}
use Rattle.std.proofs.lemmas.List.Elements.{Contains-append_cases}
use Rattle.scj_tree.specs.Heights.{highest}
use Rattle.scj_tree.specs.Recursion.{joined_below}
use Rattle.scj_tree.proofs.RecursionLemmas.{from_joined, to_joined, joined_next}
use Rattle.scj_rules.specs.ClassRules.{numbers_from}
use Rattle.scj_rules.proofs.NumberLemmas.{joined_all}
use Rattle.scj_rules.proofs.ReportLemmas.{Contains-head, Contains-tail, Contains-cases, none_contained}
use Rattle.scj_model.specs.Code.{Code}
use Rattle.memory_needs.specs.declared.answers.BoundAnswer.{BoundAnswer}
use Rattle.memory_needs.specs.declared.answers.BoundRow.{BoundRow}
use Rattle.memory_needs.specs.Rows.{is_concrete_handler, handler_classes, IsAnswer, AreRows}
use Rattle.memory_needs.specs.RowLists.{if_picked, AreRowsFor, IsWithRow}

-- ---- the numbers that pass a test

filter_is : (test : ℕ → Bool) (ns : List ℕ) → flat_map (if_picked test) ns ≡ filter test ns
filter_is test [] = refl
filter_is test (n ∷ ns) = of (test n) (filter_is test ns)
  where
    of : (b : Bool) → flat_map (if_picked test) ns ≡ filter test ns →
        (if b then n ∷ [] else []) ++ flat_map (if_picked test) ns ≡ (if b then n ∷ filter test ns else filter test ns)
    of true h = ap (λ ms. n ∷ ms) h
    of false h = h

pub picked_all : {X : Type 0} (test : ℕ → Bool) (xs : List X) →
    joined_below (if_picked test) (length xs) ≡ filter test (numbers_from 0 xs)
picked_all test xs = sym (joined_all (if_picked test) xs) ∙ filter_is test (numbers_from 0 xs)

pub picked_next : (test : ℕ → Bool) (n : ℕ) →
    joined_below (if_picked test) (n + 1) ≡ joined_below (if_picked test) n ++ (if test n then n ∷ [] else [])
picked_next test n = joined_next (if_picked test) n []

pub picked_in : (test : ℕ → Bool) (n k : ℕ) → k < n → test k ≡ true → Contains (joined_below (if_picked test) n) k
picked_in test n k l t =
    to_joined (if_picked test) n k k l
    (subst (λ ns. Contains ns k) (sym (ap (λ b. if b then k ∷ [] else []) t)) (Contains-head k []))

pub picked_there : {X : Type 0} (test : ℕ → Bool) (xs : List X) (n : ℕ) → n < length xs → test n ≡ true →
    Contains (filter test (numbers_from 0 xs)) n
picked_there test xs n l t = subst (λ ns. Contains ns n) (picked_all test xs) (picked_in test (length xs) n l t)

pub picked_below : (test : ℕ → Bool) (n k : ℕ) → Contains (joined_below (if_picked test) n) k → k < n
picked_below test n k c =
    let r = from_joined (if_picked test) n k c in
    subst (λ m. m < n) (of (test r.0) r.0 r.2) r.1
  where
    of : (b : Bool) (m : ℕ) → Contains (if b then m ∷ [] else []) k → m ≡ k
    of true m h = ⊎_elim (λ (e : m ≡ k). e) (λ i. absurd (none_contained k i)) (Contains-cases m [] k h)
    of false m h = absurd (none_contained k h)

-- ---- the greatest of them

pub highest_both : (f : ℕ → ℕ) (xs ys : List ℕ) → highest f (xs ++ ys) ≡ max (highest f xs) (highest f ys)
unfolding highest
highest_both f [] ys = omega arith
highest_both f (x ∷ xs) ys = let e = highest_both f xs ys in omega (arith, e)

pub highest_next : (f : ℕ → ℕ) (test : ℕ → Bool) (n : ℕ) →
    highest f (joined_below (if_picked test) (n + 1))
    ≡ max (highest f (joined_below (if_picked test) n)) (if test n then f n else 0)
unfolding highest
highest_next f test n =
    ap (highest f) (joined_next (if_picked test) n [])
    ∙ (highest_both f (joined_below (if_picked test) n) (if test n then n ∷ [] else []) ∙ of (test n))
  where
    of : (b : Bool) →
        max (highest f (joined_below (if_picked test) n)) (highest f (if b then n ∷ [] else []))
        ≡ max (highest f (joined_below (if_picked test) n)) (if b then f n else 0)
    of true = omega arith
    of false = refl

-- none yet
pub highest_none : (f : ℕ → ℕ) (test : ℕ → Bool) → highest f (joined_below (if_picked test) 0) ≡ 0
unfolding highest joined_below
highest_none f test = refl

pub highest_all : {X : Type 0} (f : ℕ → ℕ) (test : ℕ → Bool) (xs : List X) (n : ℕ) → n ≡ length xs →
    highest f (joined_below (if_picked test) n) ≡ highest f (filter test (numbers_from 0 xs))
highest_all f test xs n e =
    ap (λ m. highest f (joined_below (if_picked test) m)) e ∙ ap (highest f) (picked_all test xs)

-- ---- rows

map_both : {A B : Type 0} (f : A → B) (xs ys : List A) → map f (xs ++ ys) ≡ map f xs ++ map f ys
map_both f [] ys = refl
map_both f (x ∷ xs) ys = ap (λ zs. f x ∷ zs) (map_both f xs ys)

pub rows_none : (code : Code) (rows : List BoundRow) → rows ≡ [] →
    AreRowsFor code (joined_below (if_picked (is_concrete_handler code.program)) 0) rows
unfolding joined_below
rows_none code rows e = record {
  of_classes = ap (λ (rs : List BoundRow). map (λ (row : BoundRow). row.handler) rs) e;
  are_answers = λ row c. absurd (none_contained row (subst (λ rs. Contains rs row) e c));
}

pub rows_more : (code : Code) (n : ℕ) (before after : List BoundRow) →
    AreRowsFor code (joined_below (if_picked (is_concrete_handler code.program)) n) before →
    IsWithRow code n before after →
    AreRowsFor code (joined_below (if_picked (is_concrete_handler code.program)) (n + 1)) after
rows_more code n before after are with = record {
  of_classes =
      ap (λ (rs : List BoundRow). map (λ (row : BoundRow). row.handler) rs) with.is
      ∙ (map_both (λ (row : BoundRow). row.handler) before with.more
      ∙ (ap (λ ns. ns ++ map (λ (row : BoundRow). row.handler) with.more) are.of_classes
      ∙ (ap (λ ns. joined_below (if_picked (is_concrete_handler code.program)) n ++ ns) with.are.of_classes
      ∙ sym (joined_next (if_picked (is_concrete_handler code.program)) n []))));
  are_answers = λ row c.
      ⊎_elim (λ h. are.are_answers row h) (λ h. with.are.are_answers row h)
      (Contains-append_cases before with.more row (subst (λ rs. Contains rs row) with.is c));
}

pub rows_all : (code : Code) (n : ℕ) (rows : List BoundRow) → n ≡ length code.program.classes →
    AreRowsFor code (joined_below (if_picked (is_concrete_handler code.program)) n) rows → AreRows code rows
unfolding handler_classes
rows_all code n rows e are = record {
  of_handlers =
      are.of_classes
      ∙ (ap (joined_below (if_picked (is_concrete_handler code.program))) e
      ∙ picked_all (is_concrete_handler code.program) code.program.classes);
  are_answers = are.are_answers;
}

pub class_listed : (code : Code) (class : ℕ) → class < length code.program.classes →
    is_concrete_handler code.program class ≡ true → Contains (handler_classes code.program) class
unfolding handler_classes
class_listed code class l t = picked_there (is_concrete_handler code.program) code.program.classes class l t

pub with_none : (code : Code) (class : ℕ) (before after : List BoundRow) → after ≡ before →
    is_concrete_handler code.program class ≡ false → IsWithRow code class before after
with_none code class before after e t = record {
  more = [];
  is = e ∙ sym (append-nil before);
  are = record {
    of_classes = sym (ap (λ b. if b then class ∷ [] else []) t);
    are_answers = λ row c. absurd (none_contained row c);
  };
}

pub with_one : (code : Code) (class : ℕ) (answer : BoundAnswer) (before after : List BoundRow) →
    after ≡ before ++ record { handler = class; answer = answer } ∷ [] → IsAnswer code class answer →
    is_concrete_handler code.program class ≡ true → IsWithRow code class before after
with_one code class answer before after e is t = record {
  more = record { handler = class; answer = answer } ∷ [];
  is = e;
  are = record {
    of_classes = sym (ap (λ b. if b then class ∷ [] else []) t);
    are_answers = λ row c.
        ⊎_elim
        (λ (h : record { handler = class; answer = answer } ≡ row).
        subst (λ (r : BoundRow). IsAnswer code r.handler r.answer) h is)
        (λ h. absurd (none_contained row h))
        (Contains-cases (record { handler = class; answer = answer }) [] row c);
  };
}

-- a class of a list has its row
pub row_there : (rows : List BoundRow) (class : ℕ) → Contains (map (λ (row : BoundRow). row.handler) rows) class →
    (row : BoundRow) × Contains rows row × (row.handler ≡ class)
row_there [] class c = absurd (none_contained class c)
row_there (row ∷ rows) class c =
    ⊎_elim
    (λ (e : row.handler ≡ class). (row, Contains-head row rows, e))
    (λ h. (let r = row_there rows class h in (r.0, Contains-tail row rows r.0 r.1, r.2)))
    (Contains-cases row.handler (map (λ (row : BoundRow). row.handler) rows) class c)
