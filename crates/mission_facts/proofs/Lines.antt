-- The classes above a class stand in one line: of two of them one is above the other. So a user's class that is above
-- another one stands under the framework's classes that are above that one.
use Rattle.std.proofs.Common.{arith, ◌≡◌, ℕ, ◌<◌, List, length, map, sym, ap, ◌∙◌, subst, Option, Some, None, true, true≢false, ◌⊎◌, inl, inr, option_and_then, slice_get}
use Rattle.scj_builtins.specs.Framework.{object, framework_classes}
use Rattle.scj_tree.specs.Forest.{Forest, IsForest}
use Rattle.scj_rules.specs.Chains.{Follows, one, more}
use Rattle.scj_rules.specs.Words.{is_among}
use Rattle.scj_rules.specs.Views.{WrittenClass}
use Rattle.scj_rules.specs.Classes.{ClassRow, first_user_class, is_user_class, framework_rows_from, user_row, written_rows, superclass_in, superclasses}
use Rattle.scj_rules.specs.Contexts.{Declarations, declarations_of}
use Rattle.scj_rules.specs.Phases.{IsAccepted}
use Rattle.scj_rules.proofs.ChainLemmas.{chain_reaches, on_chain_follows}
use Rattle.scj_rules.proofs.WithinLemmas.{counted-stays}
use Rattle.accepted_laws.specs.Sorts.{IsWellSorted}
use Rattle.accepted_laws.proofs.ClassChains.{top_row}
use Rattle.accepted_laws.proofs.ClassNumbers.{framework_count}
use Rattle.accepted_laws.proofs.Dispatch.{written_of}
use Rattle.accepted_laws.proofs.Interfaces.{row_is}
use Rattle.accepted_laws.proofs.Lists.{get_left}
use Rattle.accepted_laws.proofs.Rows.{counted_is_written, get_from_within}
use Rattle.accepted_laws.proofs.Subtypes.{above_below}
use Rattle.accepted_laws.proofs.Tools.{some_inj}
use Rattle.flow_facts.proofs.ClassFacts.{framework_number}
use Rattle.flow_facts.proofs.FrameworkRows.{IsOfFramework, above_framework}

follow_line : (next : ℕ → Option ℕ) (a b c : ℕ) → Follows next a b → Follows next a c →
    (b ≡ c) ⊎ (Follows next b c ⊎ Follows next c b)
follow_line next a b c (one e) (one f) = inl (some_inj b c (sym e ∙ f))
follow_line next a b c (one e) (more {b = x} f g) =
    inr (inl (subst (λ y. Follows next y c) (some_inj x b (sym f ∙ e)) g))
follow_line next a b c (more {b = x} e g) (one f) =
    inr (inr (subst (λ y. Follows next y b) (some_inj x c (sym e ∙ f)) g))
follow_line next a b c (more {b = x} e g) (more {b = y} f h) =
    follow_line next x b c g (subst (λ z. Follows next z c) (some_inj y x (sym f ∙ e)) h)

module _ (forest : Forest) (accepted : IsAccepted forest) where
  abbrev p : Declarations
  p = declarations_of forest

  abbrev next : ℕ → Option ℕ
  next = superclass_in p.classes

  on_chain : (b c : ℕ) → b < length p.classes → (b ≡ c) ⊎ Follows next b c →
      is_among c (superclasses p.classes b) ≡ true
  unfolding superclasses
  on_chain b c l = (chain_reaches next (length p.classes) b c (counted-stays forest) l).1

  from_chain : (b c : ℕ) → is_among c (superclasses p.classes b) ≡ true → (b ≡ c) ⊎ Follows next b c
  unfolding superclasses
  from_chain b c h = on_chain_follows next c b (length p.classes) h

  abbrev Line : ℕ → ℕ → Type 0
  Line b c = (is_among c (superclasses p.classes b) ≡ true) ⊎ (is_among b (superclasses p.classes c) ≡ true)

  -- of two classes above a class one is above the other
  pub one_line : (a b c : ℕ) → a < length p.classes → is_among b (superclasses p.classes a) ≡ true →
      is_among c (superclasses p.classes a) ≡ true →
      (is_among c (superclasses p.classes b) ≡ true) ⊎ (is_among b (superclasses p.classes c) ≡ true)
  one_line a b c l h k = go (from_chain a b h) (from_chain a c k)
    where
      lb : b < length p.classes
      lb = above_below forest accepted a b l h

      lc : c < length p.classes
      lc = above_below forest accepted a c l k

      apart : (b ≡ c) ⊎ (Follows next b c ⊎ Follows next c b) → Line b c
      apart (inl s) = inl (on_chain b c lb (inl s))
      apart (inr (inl g)) = inl (on_chain b c lb (inr g))
      apart (inr (inr g)) = inr (on_chain c b lc (inr g))

      go : (a ≡ b) ⊎ Follows next a b → (a ≡ c) ⊎ Follows next a c → Line b c
      go (inl e) y = inl (subst (λ x. is_among c (superclasses p.classes x) ≡ true) e k)
      go (inr e) (inl f) = inr (subst (λ x. is_among b (superclasses p.classes x) ≡ true) f h)
      go (inr e) (inr f) = apart (follow_line next a b c e f)

  module _ (whole : IsForest forest) (sorted : IsWellSorted forest.nodes) where
    -- the first numbers are those of the framework's classes
    pub of_framework : (i : ℕ) → i < first_user_class → IsOfFramework forest accepted whole sorted i
    unfolding declarations_of written_rows
    of_framework i l =
        let rows : List ClassRow = framework_rows_from 0 framework_classes in
        let few : i < length rows = subst (λ n. i < n) (sym framework_count) l in
        let r = get_from_within rows i few in
        let stands : slice_get p.classes i ≡ Some r.0 =
        ap (λ rows. slice_get rows i) (counted_is_written forest accepted)
        ∙ get_left rows (map (user_row p.nodes p.names) p.users) i r.0 r.1 in
        elim (row_is forest accepted i r.0 stands) as (λ z. IsOfFramework forest accepted whole sorted i) [
          | inl k ↦ (r.0, stands, k)
          | inr u ↦ absurd (let e = u.1 in omega (arith, few, e))
        ]

    -- no user's class is above one of the framework
    pub no_user_above : (i y : ℕ) (row : ClassRow) (c : WrittenClass) → i < first_user_class →
        slice_get p.classes y ≡ Some row → row.written ≡ Some c → is_among y (superclasses p.classes i) ≡ true → ⊥
    no_user_above i y row c l stands is h =
        let f = above_framework forest accepted whole sorted i y (of_framework i l) h in
        let same : f.0 ≡ row = some_inj f.0 row (sym f.1 ∙ stands) in
        let z : None ≡ Some c = sym f.2.unwritten ∙ ap (λ (r : ClassRow). r.written) same ∙ is in cc (z)

    -- a user's class above a class is under each class of the framework above that one
    pub under_framework : (class y i : ℕ) (row : ClassRow) (c : WrittenClass) → class < length p.classes →
        is_among y (superclasses p.classes class) ≡ true → is_among i (superclasses p.classes class) ≡ true →
        i < first_user_class → slice_get p.classes y ≡ Some row → row.written ≡ Some c →
        is_among i (superclasses p.classes y) ≡ true
    under_framework class y i row c l h k few stands is =
        elim (one_line class y i l h k) as (λ z. is_among i (superclasses p.classes y) ≡ true)
        [ inl s ↦ s | inr s ↦ absurd (no_user_above i y row c few stands is s) ]

    -- the same of a number that is a user's
    pub user_under : (class y i : ℕ) → class < length p.classes → is_user_class y ≡ true →
        is_among y (superclasses p.classes class) ≡ true → is_among i (superclasses p.classes class) ≡ true →
        i < first_user_class → is_among i (superclasses p.classes y) ≡ true
    user_under class y i l user h k few =
        let row = get_from_within p.classes y (above_below forest accepted class y l h) in
        elim (row_is forest accepted y row.0 row.1) as (λ z. is_among i (superclasses p.classes y) ≡ true) [
          | inl f ↦ absurd (true≢false (sym user ∙ framework_number forest accepted y row.0 row.1 f.unwritten))
          | inr u ↦ under_framework class y i row.0 u.2.class l h k few row.1
              (written_of forest accepted whole sorted u.0 row.0 u.2)
        ]

    -- above a class of the framework stands Object alone
    pub framework_line : (i c : ℕ) → i < first_user_class → is_among c (superclasses p.classes i) ≡ true →
        (c ≡ i) ⊎ (c ≡ object)
    framework_line i c l h = go (from_chain i c h)
      where
        f : IsOfFramework forest accepted whole sorted i
        f = of_framework i l

        next_is : next i ≡ f.0.superclass
        next_is = ap (λ (o : Option ClassRow). option_and_then (λ (row : ClassRow). row.superclass) o) f.1

        object_next : next object ≡ None
        object_next =
            let r = top_row forest accepted in
            ap (λ (o : Option ClassRow). option_and_then (λ (row : ClassRow). row.superclass) o) r.1 ∙ r.2

        step : (b : ℕ) → next i ≡ Some b → b ≡ object
        step b e = elim f.2.extends_object as (λ z. b ≡ object) [
          | inl s ↦ some_inj b object (sym e ∙ next_is ∙ s)
          | inr s ↦ absurd (let z : None ≡ Some b = sym (next_is ∙ s.0) ∙ e in cc (z))
        ]

        last : (b : ℕ) → b ≡ object → Follows next b c → ⊥
        last b s (one e) = (let z : None ≡ Some c = sym (ap next s ∙ object_next) ∙ e in cc (z))
        last b s (more {b = x} e g) = (let z : None ≡ Some x = sym (ap next s ∙ object_next) ∙ e in cc (z))

        go : (i ≡ c) ⊎ Follows next i c → (c ≡ i) ⊎ (c ≡ object)
        go (inl e) = inl (sym e)
        go (inr (one e)) = inr (step c e)
        go (inr (more {b = b} e g)) = absurd (last b (step b e) g)

    -- no class is under two other classes of the framework than Object
    pub not_under_both : (class i j : ℕ) → class < length p.classes → i < first_user_class → j < first_user_class →
        (i ≡ j → ⊥) → (i ≡ object → ⊥) → (j ≡ object → ⊥) → is_among i (superclasses p.classes class) ≡ true →
        is_among j (superclasses p.classes class) ≡ true → ⊥
    not_under_both class i j l few many differ not_first not_second h k = go (one_line class i j l h k)
      where
        go : (is_among j (superclasses p.classes i) ≡ true) ⊎ (is_among i (superclasses p.classes j) ≡ true) → ⊥
        go (inl s) = elim (framework_line i j few s) as (λ z. ⊥) [ inl e ↦ differ (sym e) | inr e ↦ not_second e ]
        go (inr s) = elim (framework_line j i many s) as (λ z. ⊥) [ inl e ↦ differ e | inr e ↦ not_first e ]
