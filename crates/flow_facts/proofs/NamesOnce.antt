-- Lists in which no name stands twice: the name of an element finds that element.
use Rattle.std.proofs.Common.{◌≡◌, ℕ, List, [], ◌∷◌, filter, find, refl, sym, ap, ◌∙◌, Some, Bool, true, false, true≢false, ◌⊎◌, inl, inr, if◌then◌else◌}
use Rattle.scj_base.specs.Bytes.{is_same, is_one_of}
use Rattle.scj_rules.specs.Words.{named_twice}
use Rattle.accepted_laws.proofs.Breaks.{both_empty}
use Rattle.accepted_laws.proofs.Fields.{In as Element, here as at_head, there as in_tail}
use Rattle.accepted_laws.proofs.Positions.{same_name}
use Rattle.accepted_facts.proofs.StatementFacts.{or_false}

pub head_or_tail : {A : Type 0} {x y : A} {xs : List A} → Element x (y ∷ xs) → (x ≡ y) ⊎ Element x xs
head_or_tail at_head = inl refl
head_or_tail (in_tail h) = inr h

-- what is left of a list passes
pub passes_in : {A : Type 0} (test : A → Bool) (x : A) (xs : List A) → Element x (filter test xs) → test x ≡ true
passes_in test x [] h = elim h [ ]
passes_in test x (y ∷ xs) h = go (test y) refl h (λ h. passes_in test x xs h)
  where
    go : (t : Bool) → test y ≡ t → Element x (if t then y ∷ filter test xs else filter test xs) →
        (Element x (filter test xs) → test x ≡ true) → test x ≡ true
    go true e h ih = elim (head_or_tail h) as (λ z. test x ≡ true) [ inl s ↦ ap test s ∙ e | inr i ↦ ih i ]
    go false e h ih = ih h

none_if : {A : Type 0} (t : Bool) (x : A) → (if t then x ∷ [] else []) ≡ [] → t ≡ false
none_if true x e = absurd (cc (e))
none_if false x e = refl

module _ {A : Type 0} (name : A → List ℕ) where
  -- the head's name is no earlier one, and no later one is the head's
  pub both_once : (x : A) (xs : List A) (earlier : List (List ℕ)) → named_twice name earlier (x ∷ xs) ≡ [] →
      (is_one_of (name x) earlier ≡ false) × (named_twice name (name x ∷ earlier) xs ≡ [])
  unfolding named_twice
  both_once x xs earlier e =
      let both = both_empty (if is_one_of (name x) earlier then x ∷ [] else []) (named_twice name (name x ∷ earlier) xs)
      e in
      (none_if (is_one_of (name x) earlier) x both.0, both.1)

  -- a name that is named later is no earlier one
  pub not_earlier : (xs : List A) (earlier : List (List ℕ)) → named_twice name earlier xs ≡ [] → (x : A) →
      Element x xs →
      is_one_of (name x) earlier ≡ false
  not_earlier [] earlier e x h = elim h [ ]
  not_earlier (y ∷ xs) earlier e x h =
      go (head_or_tail h) (λ h. not_earlier xs (name y ∷ earlier) (both_once y xs earlier e).1 x h)
    where
      go : (x ≡ y) ⊎ Element x xs → (Element x xs → is_one_of (name x) (name y ∷ earlier) ≡ false) →
          is_one_of (name x) earlier ≡ false
      go (inl s) ih = ap (λ x. is_one_of (name x) earlier) s ∙ (both_once y xs earlier e).0
      go (inr h) ih = (or_false (is_same (name x) (name y)) (is_one_of (name x) earlier) (ih h)).1

  -- the element that a name finds is the one that has it
  pub find_once : (xs : List A) (earlier : List (List ℕ)) → named_twice name earlier xs ≡ [] → (x : A) → Element x xs →
      find (λ y. is_same (name x) (name y)) xs ≡ Some x
  find_once [] earlier e x h = elim h [ ]
  find_once (y ∷ xs) earlier e x h =
      go (is_same (name x) (name y)) refl (head_or_tail h)
      (λ h. find_once xs (name y ∷ earlier) (both_once y xs earlier e).1 x h)
    where
      go : (t : Bool) → is_same (name x) (name y) ≡ t → (x ≡ y) ⊎ Element x xs →
          (Element x xs → find (λ y. is_same (name x) (name y)) xs ≡ Some x) →
          find (λ y. is_same (name x) (name y)) (y ∷ xs) ≡ Some x
      go true e (inl s) ih = rw e (ap (λ x. Some x) (sym s))
      go true k (inr h) ih =
          absurd
          (true≢false
          (sym k
          ∙ (or_false (is_same (name x) (name y)) (is_one_of (name x) earlier)
          (not_earlier xs (name y ∷ earlier) (both_once y xs earlier e).1 x h)).0))
      go false e (inl s) ih =
          absurd (true≢false (sym (ap (λ y. is_same (name x) (name y)) (sym s) ∙ same_name (name x)) ∙ e))
      go false e (inr h) ih = rw e (ih h)
