-- The `if`s around a node, step by step.
use Rattle.std.proofs.Common.{◌≡◌, ℕ, ◌+◌, ◌-◌, zero, suc, List, [], ◌∷◌, ◌++◌, length, refl, sym, ap, ◌∙◌, arith, Option, Some, None, Bool, true, false, ◌||◌, ◌&&◌, ◌==◌, ◌<◌, ◌≤◌, drop, nat_lt, true≢false, is_some, cond, if◌then◌else◌, slice_get}
use Rattle.std.specs.List.{list_any, cons_option}
use Rattle.std.proofs.lemmas.List.Folds.{list_any-append}
use Rattle.std.proofs.lemmas.Bool.Decides.{nat_tests}
use Rattle.std.proofs.lemmas.Option.{slice_get_past}
use Rattle.scj_tree.specs.declared.nodes.Node.{Node}
use Rattle.scj_tree.specs.Forest.{Forest}
use Rattle.scj_rules.specs.declared.typing.Guard.{Guard}
use Rattle.scj_rules.specs.declared.typing.Subject.{Subject}
use Rattle.scj_rules.specs.Words.{holds, is_among, chain}
use Rattle.scj_rules.specs.Contexts.{parent_in}
use Rattle.scj_rules.specs.Guards.{is_first_part, is_subject}
use Rattle.scj_rules.specs.Guards.{asked_at, assigned_at, ifs_around, guard_at, undoes, is_guarded, are_subjects}
use Rattle.scj_rules.specs.TypeRules.{Types}
use Rattle.scj_rules.specs.Contexts.{Declarations, declarations_of}
use Rattle.scj_rules.specs.ClassRules.{numbers_from}
use Rattle.scj_rules.proofs.NumberLemmas.{numbers_next, numbers_end}
use Rattle.runs_in_check.specs.declared.guards.Guards.{Guards}
use Rattle.runs_in_check.specs.Guards.{AreGuards, guards_both, ifs_on, ifs_at, unless, left_by, left_from, row_in}

-- one step up
pub no_ifs : (nodes : List Node) (bound part : ℕ) → parent_in nodes part ≡ None → ifs_on nodes (suc bound) part ≡ []
unfolding chain
no_ifs nodes bound part e = rw e refl

pub more_ifs : (nodes : List Node) (bound part parent : ℕ) → parent_in nodes part ≡ Some parent →
    ifs_on nodes (suc bound) part ≡ ifs_at nodes parent part ++ ifs_on nodes bound parent
unfolding chain
more_ifs nodes bound part parent e = rw e (go (holds (slice_get nodes parent) (is_first_part part)))
  where
    go : (t : Bool)
        → cons_option (if t then Some parent else None) (ifs_on nodes bound parent)
        ≡ (if t then parent ∷ [] else []) ++ ifs_on nodes bound parent
    go true = refl
    go false = refl

-- a test of them
pub no_test_left : (nodes : List Node) (test : ℕ → Bool) (left part : ℕ) → left ≡ 0 →
    list_any test (ifs_on nodes left part) ≡ false
unfolding chain
no_test_left nodes test left part e = rw e refl

pub no_test : (nodes : List Node) (test : ℕ → Bool) (left part : ℕ) → 0 < left → parent_in nodes part ≡ None →
    list_any test (ifs_on nodes left part) ≡ false
no_test nodes test zero part l e = absurd (omega (arith, l))
no_test nodes test (suc left) part l e = rw (no_ifs nodes left part e) refl

pub more_tests : (nodes : List Node) (test : ℕ → Bool) (left part parent : ℕ) → 0 < left →
    parent_in nodes part ≡ Some parent
    → list_any test (ifs_on nodes left part)
    ≡ ((holds (slice_get nodes parent) (is_first_part part) && test parent)
    || list_any test (ifs_on nodes (left - 1) parent))
more_tests nodes test zero part parent l e = absurd (omega (arith, l))
more_tests nodes test (suc left) part parent l e =
    let one : suc left - 1 ≡ left = omega arith in
    rw (one, more_ifs nodes left part parent e) (go (holds (slice_get nodes parent) (is_first_part part)))
  where
    go : (t : Bool) → list_any test ((if t then parent ∷ [] else []) ++ ifs_on nodes left parent)
        ≡ ((t && test parent) || list_any test (ifs_on nodes left parent))
    go true = refl
    go false = refl

pub some_test : (nodes : List Node) (test : ℕ → Bool) (left part parent : ℕ) → 0 < left →
    parent_in nodes part ≡ Some parent
    → (holds (slice_get nodes parent) (is_first_part part) && test parent) ≡ true
    → list_any test (ifs_on nodes left part) ≡ true
some_test nodes test left part parent l e here = more_tests nodes test left part parent l e ∙ rw here refl

pub other_tests : (nodes : List Node) (test : ℕ → Bool) (left part parent : ℕ) → 0 < left →
    parent_in nodes part ≡ Some parent
    → (holds (slice_get nodes parent) (is_first_part part) && test parent) ≡ false
    → list_any test (ifs_on nodes (left - 1) parent) ≡ list_any test (ifs_on nodes left part)
other_tests nodes test left part parent l e here = sym (more_tests nodes test left part parent l e ∙ rw here refl)

-- tests that agree
pub same_tests : (test other : ℕ → Bool) → ((number : ℕ) → test number ≡ other number) → (ifs : List ℕ) →
    list_any test ifs ≡ list_any other ifs
same_tests test other same [] = refl
same_tests test other same (x ∷ ifs) = rw (same x, same_tests test other same ifs) refl

-- none of them passes where no `if` at all does
pub none_passes : (test : ℕ → Bool) → ((number : ℕ) → test number ≡ false) → (ifs : List ℕ) →
    list_any test ifs ≡ false
none_passes test none [] = refl
none_passes test none (x ∷ ifs) = rw (none x) (none_passes test none ifs)

-- ---- what is left of guards

-- two tests, one after the other
pub unless_either : (s t : Guard → Bool) (o : Option Guard) → unless t (unless s o) ≡ unless (λ g. s g || t g) o
unless_either s t None = refl
unless_either s t (Some g) = go (s g)
  where
    go : (b : Bool) → unless t (if b then None else Some g) ≡ (if b || t g then None else Some g)
    go true = refl
    go false = refl

unless_same : (s t : Guard → Bool) → ((g : Guard) → s g ≡ t g) → (o : Option Guard) → unless s o ≡ unless t o
unless_same s t same None = refl
unless_same s t same (Some g) = rw (same g) refl

pub left_by_none : (x : Subject) (number : ℕ) (o : Option Guard) → left_by x [] number o ≡ o
left_by_none x number None = refl
left_by_none x number (Some g) = go (is_subject g x)
  where
    go : (b : Bool) → (if b && false then None else Some g) ≡ Some g
    go true = refl
    go false = refl

left_by_both : (x : Subject) (number : ℕ) (xs ys : List ℕ) (o : Option Guard) →
    left_by x ys number (left_by x xs number o) ≡ left_by x (xs ++ ys) number o
left_by_both x number xs ys o =
    unless_either (λ g. is_subject g x && is_among number xs) (λ g. is_subject g x && is_among number ys) o
    ∙ unless_same _ (λ g. is_subject g x && is_among number (xs ++ ys))
    (λ g. go (is_subject g x) ∙ ap (λ b. is_subject g x && b) (sym (list_any-append (λ m. number == m) xs ys))) o
  where
    go : (b : Bool) → ((b && is_among number xs) || (b && is_among number ys))
        ≡ (b && (is_among number xs || is_among number ys))
    go true = refl
    go false = refl

pub left_at_end : (nodes : List Node) (x : Subject) (left part number : ℕ) (o : Option Guard) → left ≡ 0 →
    left_by x (ifs_on nodes left part) number o ≡ o
unfolding chain
left_at_end nodes x left part number o e = rw e (left_by_none x number o)

pub left_at_top : (nodes : List Node) (x : Subject) (left part number : ℕ) (o : Option Guard) → 0 < left →
    parent_in nodes part ≡ None → left_by x (ifs_on nodes left part) number o ≡ o
left_at_top nodes x zero part number o l e = absurd (omega (arith, l))
left_at_top nodes x (suc left) part number o l e = rw (no_ifs nodes left part e) (left_by_none x number o)

pub left_by_next : (nodes : List Node) (x : Subject) (left part parent number : ℕ) (o : Option Guard) → 0 < left →
    parent_in nodes part ≡ Some parent
    → left_by x (ifs_on nodes (left - 1) parent) number (left_by x (ifs_at nodes parent part) number o)
    ≡ left_by x (ifs_on nodes left part) number o
left_by_next nodes x zero part parent number o l e = absurd (omega (arith, l))
left_by_next nodes x (suc left) part parent number o l e =
    let one : suc left - 1 ≡ left = omega arith in
    rw one
    (left_by_both x number (ifs_at nodes parent part) (ifs_on nodes left parent) o
    ∙ ap (λ ifs. left_by x ifs number o) (sym (more_ifs nodes left part parent e)))

-- ---- guards, node by node

module _ (p : Declarations) (k : ℕ) (within : k < length p.nodes) where
  next : (number : ℕ) (o : Option Guard) →
      left_from p (k + 1) number (unless (λ g. undoes p number g k) o) ≡ left_from p k number o
  next number o =
      unless_either (λ g. undoes p number g k) (λ g. list_any (undoes p number g) (numbers_from (k + 1) (drop (k + 1) p.nodes))) o
      ∙ unless_same _ (λ g. list_any (undoes p number g) (numbers_from k (drop k p.nodes)))
      (λ g. sym (numbers_next (undoes p number g) k p.nodes within)) o

  -- a node that assigns to nothing leaves all
  pub left_from_plain : (number : ℕ) (o : Option Guard) → assigned_at p k ≡ None →
      left_from p (k + 1) number o ≡ left_from p k number o
  left_from_plain number o e =
      ap (λ (g : Option Guard). left_from p (k + 1) number g) (sym (keeps o)) ∙ next number o
    where
      keeps : (o : Option Guard) → unless (λ g. undoes p number g k) o ≡ o
      keeps None = refl
      keeps (Some g) = rw e refl

  pub left_from_assigned : (x : Subject) (number : ℕ) (o : Option Guard) → assigned_at p k ≡ Some x →
      left_from p (k + 1) number (left_by x (ifs_around p.nodes k) number o) ≡ left_from p k number o
  left_from_assigned x number o e =
      ap (λ (g : Option Guard). left_from p (k + 1) number g) (undone o) ∙ next number o
    where
      undone : (o : Option Guard) → left_by x (ifs_around p.nodes k) number o
          ≡ unless (λ g. undoes p number g k) o
      undone None = refl
      undone (Some g) = rw e refl

-- at the start, and at the end
pub left_from_start : (p : Declarations) (types : Types) (number : ℕ) →
    left_from p 0 number (asked_at p types number) ≡ guard_at p types number
unfolding guard_at
left_from_start p types number = refl

pub left_from_end : (p : Declarations) (k number : ℕ) (o : Option Guard) → length p.nodes ≤ k →
    left_from p k number o ≡ o
left_from_end p k number None l = refl
left_from_end p k number (Some g) l = rw (← (numbers_end (undoes p number g) k p.nodes l)) refl

-- ---- the rows of guards

-- behind the last node nothing asks
pub asked_past : (forest : Forest) (types : Types) (number : ℕ) → length forest.nodes ≤ number →
    asked_at (declarations_of forest) types number ≡ None
unfolding declarations_of
asked_past forest types number l = rw (slice_get_past forest.nodes number l) refl

-- rows with what the numbers below a bound have
module _ (f : ℕ → Option Guard) (n number : ℕ) (o : Option Guard)
    (below : o ≡ (if nat_lt number n then f number else None)) where
  -- the bound itself has nothing
  pub none_below : f n ≡ None → o ≡ (if nat_lt number (n + 1) then f number else None)
  none_below e = by (nat_lt number n) refl (nat_lt number (n + 1)) refl
    where
      by : (a : Bool) → nat_lt number n ≡ a → (b : Bool) → nat_lt number (n + 1) ≡ b
          → o ≡ (if nat_lt number (n + 1) then f number else None)
      by true la true lb = rw lb (rw la at below)
      by false la true lb =
          let same : number ≡ n = grind (arith, nat_tests, la, lb) in
          rw lb ((rw la at below) ∙ sym (ap f same ∙ e))
      by true la false lb = absurd (grind (arith, nat_tests, la, lb))
      by false la false lb = rw lb (rw la at below)

  -- it has a guard
  pub one_below : (g : Guard) (after : Option Guard) → f n ≡ Some g → after ≡ cond (n == number) (Some g) o
      → after ≡ (if nat_lt number (n + 1) then f number else None)
  one_below g after e h = by (n == number) refl (nat_lt number n) refl (nat_lt number (n + 1)) refl
    where
      by : (s : Bool) → (n == number) ≡ s → (a : Bool) → nat_lt number n ≡ a → (b : Bool) → nat_lt number (n + 1) ≡ b
          → after ≡ (if nat_lt number (n + 1) then f number else None)
      by true ls a la true lb =
          let same : number ≡ n = grind (arith, nat_tests, ls) in
          rw lb ((rw ls at h) ∙ sym (ap f same ∙ e))
      by true ls a la false lb = absurd (grind (arith, nat_tests, ls, lb))
      by false ls true la true lb = rw lb ((rw ls at h) ∙ (rw la at below))
      by false ls false la true lb = absurd (grind (arith, nat_tests, ls, la, lb))
      by false ls true la false lb = absurd (grind (arith, nat_tests, la, lb))
      by false ls false la false lb = rw lb ((rw ls at h) ∙ (rw la at below))

pub all_below : (forest : Forest) (types : Types) (n number : ℕ) → length forest.nodes ≤ n
    → (if nat_lt number n then asked_at (declarations_of forest) types number else None)
    ≡ asked_at (declarations_of forest) types number
all_below forest types n number l = by (nat_lt number n) refl
  where
    by : (b : Bool) → nat_lt number n ≡ b
        → (if nat_lt number n then asked_at (declarations_of forest) types number else None)
        ≡ asked_at (declarations_of forest) types number
    by true e = rw e refl
    by false e = rw e (sym (asked_past forest types number (grind (arith, nat_tests, e, l))))

pub none_is : (o : Option Guard) → is_some o ≡ false → o ≡ None
none_is None e = refl
none_is (Some g) e = absurd (true≢false e)

-- a guard that stays, and one that goes
kept : (s : Guard → Bool) (o : Option Guard) → holds o s ≡ false → o ≡ unless s o
kept s None e = refl
kept s (Some g) e = rw e refl

gone : (s : Guard → Bool) (o : Option Guard) → holds o s ≡ true → None ≡ unless s o
gone s None e = refl
gone s (Some g) e = rw e refl

-- an assignment in the first part of one `if` leaves the guards of the others
elsewhere : (x : Subject) (number other : ℕ) (o : Option Guard) → (other == number) ≡ false
    → o ≡ left_by x (number ∷ []) other o
elsewhere x number other None e = refl
elsewhere x number other (Some g) e = rw e (go (is_subject g x))
  where
    go : (s : Bool) → Some g ≡ (if s && false then None else Some g)
    go true = refl
    go false = refl

-- and undoes its own
here : (x : Subject) (number other : ℕ) (o : Option Guard) → (other == number) ≡ true
    → unless (λ g. is_subject g x) o ≡ left_by x (number ∷ []) other o
here x number other o e =
    unless_same (λ g. is_subject g x) (λ g. is_subject g x && is_among other (number ∷ []))
    (λ g. rw e (go (is_subject g x))) o
  where
    go : (s : Bool) → s ≡ (s && true)
    go true = refl
    go false = refl

-- the rows where an `if` asks of nothing that is assigned to stay as they are
pub left_as_they_are : (x : Subject) (row : ℕ → Option Guard) (number : ℕ) →
    holds (row number) (λ g. is_subject g x) ≡ false → (other : ℕ)
    → row other ≡ left_by x (number ∷ []) other (row other)
left_as_they_are x row number h other = by (other == number) refl
  where
    by : (b : Bool) → (other == number) ≡ b → row other ≡ left_by x (number ∷ []) other (row other)
    by true e =
        let same : other ≡ number = grind (arith, nat_tests, e) in
        kept (λ g. is_subject g x) (row other) (rw (← same) at h) ∙ here x number other (row other) e
    by false e = elsewhere x number other (row other) e

pub left_without : (x : Subject) (row : ℕ → Option Guard) (number : ℕ) →
    holds (row number) (λ g. is_subject g x) ≡ true → (other : ℕ)
    → cond (number == other) None (row other) ≡ left_by x (number ∷ []) other (row other)
left_without x row number h other = by (number == other) refl (other == number) refl
  where
    by : (a : Bool) → (number == other) ≡ a → (b : Bool) → (other == number) ≡ b
        → cond (number == other) None (row other) ≡ left_by x (number ∷ []) other (row other)
    by true d true e =
        let same : other ≡ number = grind (arith, nat_tests, e) in
        rw d (gone (λ g. is_subject g x) (row other) (rw (← same) at h) ∙ here x number other (row other) e)
    by false d false e = rw d (elsewhere x number other (row other) e)
    by true d false e = absurd (grind (arith, nat_tests, d, e))
    by false d true e = absurd (grind (arith, nat_tests, d, e))

pub left_at_first : (nodes : List Node) (parent part : ℕ) (x : Subject) (number : ℕ) (o after : Option Guard) →
    true ≡ holds (slice_get nodes parent) (is_first_part part) → after ≡ left_by x (parent ∷ []) number o
    → after ≡ left_by x (ifs_at nodes parent part) number o
left_at_first nodes parent part x number o after first e = rw (← first) e

pub left_elsewhere : (nodes : List Node) (parent part : ℕ) (x : Subject) (number : ℕ) (o : Option Guard) →
    false ≡ holds (slice_get nodes parent) (is_first_part part)
    → o ≡ left_by x (ifs_at nodes parent part) number o
left_elsewhere nodes parent part x number o first = rw (← first) (sym (left_by_none x number o))

-- no node asks, if none below a bound behind all of them does
pub none_asked : (forest : Forest) (types : Types) (n : ℕ) → length forest.nodes ≤ n →
    ((number : ℕ) → number < n → asked_at (declarations_of forest) types number ≡ None) → (number : ℕ) →
    asked_at (declarations_of forest) types number ≡ None
none_asked forest types n l none number = by (nat_lt number n) refl
  where
    by : (b : Bool) → nat_lt number n ≡ b → asked_at (declarations_of forest) types number ≡ None
    by true e = none number (grind (arith, nat_tests, e))
    by false e = asked_past forest types number (grind (arith, nat_tests, e, l))

-- where nothing asks, nothing guards
pub no_guard : (p : Declarations) (types : Types) → ((number : ℕ) → asked_at p types number ≡ None) → (number : ℕ) →
    None ≡ guard_at p types number
unfolding guard_at
no_guard p types none number = rw (none number) refl

pub none_guarded : (p : Declarations) (types : Types) → ((number : ℕ) → None ≡ guard_at p types number) →
    (id : ℕ) (x y : Subject) → is_guarded p types id x y ≡ false
unfolding is_guarded
none_guarded p types none id x y =
    none_passes (λ number. holds (guard_at p types number) (are_subjects x y))
    (λ number. rw (← (none number)) refl) (ifs_around p.nodes id)

pub guarded_by_rows : (p : Declarations) (types : Types) (guards : Guards) → AreGuards p types guards →
    (id : ℕ) (x y : Subject)
    → list_any (guards_both (row_in guards) x y) (ifs_on p.nodes (length p.nodes) id) ≡ is_guarded p types id x y
unfolding is_guarded ifs_around
guarded_by_rows p types guards h id x y =
    same_tests (guards_both (row_in guards) x y) (λ number. holds (guard_at p types number) (are_subjects x y))
    (λ number. ap (λ (o : Option Guard). holds o (are_subjects x y)) (h.exact number)) (ifs_on p.nodes (length p.nodes) id)

-- there are rows
pub some_rows : (n : ℕ) → (n == 0) ≡ false → n ≡ 0 → ⊥
some_rows n e none = absurd (true≢false (ap (λ (m : ℕ). m == 0) (sym none) ∙ e))
