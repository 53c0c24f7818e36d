-- What holds of a class and goes from each superclass to its subclass holds of all classes under it.
use Rattle.std.proofs.Common.{◌≡◌, ℕ, zero, suc, ◌<◌, ◌≤◌, List, [], ◌∷◌, ◌++◌, length, refl, sym, ap, ◌∙◌, subst, arith, Option, Some, None, true, ◌==◌, true≢false, ◌⊎◌, inl, inr}
use Rattle.scj_tree.specs.Forest.{Forest}
use Rattle.scj_rules.specs.Words.{is_among, along}
use Rattle.scj_rules.specs.Classes.{superclass_in, superclasses}
use Rattle.scj_rules.specs.Contexts.{Declarations, declarations_of}
use Rattle.scj_rules.specs.Phases.{IsAccepted}
use Rattle.scj_rules.proofs.ChainLemmas.{or_cases, same_number}
use Rattle.scj_rules.proofs.WithinLemmas.{counted-stays}
use Rattle.accepted_laws.proofs.Fields.{In as Element, here, there}
use Rattle.accepted_laws.proofs.ScopesOfClasses.{chain_is}

-- along a list that has a value there is a first one
pub along_some : {A B : Type 0} (f : A → Option B) (x : A) (y : B) (xs : List A) → Element x xs → f x ≡ Some y →
    (z : B) × (along f xs ≡ Some z)
unfolding along
along_some f x y [] h e = elim h [ ]
along_some {A} {B} f x y (w ∷ xs) here e =
    (y, ap (λ (o : Option B). elim o as (λ _. Option B) [ None ↦ along f xs | Some z ↦ Some z ]) e)
along_some {A} {B} f x y (w ∷ xs) (there h) e = go (f w) refl (along_some f x y xs h e)
  where
    go : (o : Option B) → f w ≡ o → (z : B) × (along f xs ≡ Some z) →
        (z : B) × ((elim (f w) as (λ _. Option B) [ None ↦ along f xs | Some z ↦ Some z ]) ≡ Some z)
    go None k q =
        (q.0, ap (λ (o : Option B). elim o as (λ _. Option B) [ None ↦ along f xs | Some z ↦ Some z ]) k ∙ q.1)
    go (Some z) k q = (z, ap (λ (o : Option B). elim o as (λ _. Option B) [ None ↦ along f xs | Some z ↦ Some z ]) k)

-- what is found along the first list is found along both
pub along_left : {A B : Type 0} (f : A → Option B) (xs ys : List A) (z : B) → along f xs ≡ Some z →
    along f (xs ++ ys) ≡ Some z
unfolding along
along_left f [] ys z e = absurd (cc (e))
along_left {A} {B} f (x ∷ xs) ys z e = go (f x) refl e (along_left f xs ys z)
  where
    go : (o : Option B) → f x ≡ o → (elim (f x) as (λ _. Option B) [ None ↦ along f xs | Some z ↦ Some z ]) ≡ Some z →
        (along f xs ≡ Some z → along f (xs ++ ys) ≡ Some z) →
        (elim (f x) as (λ _. Option B) [ None ↦ along f (xs ++ ys) | Some z ↦ Some z ]) ≡ Some z
    go None k e ih = ap (λ (o : Option B). elim o as (λ _. Option B) [ None ↦ along f (xs ++ ys) | Some z ↦ Some z ]) k
        ∙ ih (sym (ap (λ (o : Option B). elim o as (λ _. Option B) [ None ↦ along f xs | Some z ↦ Some z ]) k) ∙ e)
    go (Some w) k e ih =
        ap (λ (o : Option B). elim o as (λ _. Option B) [ None ↦ along f (xs ++ ys) | Some z ↦ Some z ]) k
        ∙ sym (ap (λ (o : Option B). elim o as (λ _. Option B) [ None ↦ along f xs | Some z ↦ Some z ]) k) ∙ e

module _ (forest : Forest) (accepted : IsAccepted forest) where
  abbrev p : Declarations
  p = declarations_of forest

  abbrev next : ℕ → Option ℕ
  next = superclass_in p.classes

  -- the chain of a class with a superclass
  pub chain_next : (on x : ℕ) → on < length p.classes → next on ≡ Some x → superclasses p.classes on ≡ on
      ∷ superclasses p.classes x
  chain_next on x l s = chain_is forest accepted on l
      ∙ ap (λ (o : Option ℕ). on ∷ (elim o as (λ _. List ℕ) [ None ↦ [] | Some b ↦ superclasses p.classes b ])) s

  module _ (class : ℕ) (P : ℕ → Type 0) (base : P class) (step : (on x : ℕ) → on < length p.classes → next on ≡ Some x →
      is_among class (superclasses p.classes x) ≡ true → P x → P on) where
    down : (d on : ℕ) → on < length p.classes → length (superclasses p.classes on) ≤ d →
        is_among class (superclasses p.classes on) ≡ true → P on
    down zero on l m h =
        absurd
        (let c : length (superclasses p.classes on) ≡ suc
        (length (elim (next on) as (λ _. List ℕ) [ None ↦ [] | Some b ↦ superclasses p.classes b ])) =
        ap length (chain_is forest accepted on l) in omega (arith, c, m))
    down (suc d) on l m h =
        go (next on) refl (or_cases (class == on) _ (sym (ap (is_among class) (chain_is forest accepted on l)) ∙ h))
        (down d)
      where
        go : (o : Option ℕ) → next on ≡ o →
            ((class == on) ≡ true) ⊎
            (is_among class (elim (next on) as (λ _. List ℕ) [ None ↦ [] | Some b ↦ superclasses p.classes b ]) ≡ true)
            → ((on : ℕ) → on < length p.classes → length (superclasses p.classes on) ≤ d →
            is_among class (superclasses p.classes on) ≡ true → P on) → P on
        go o s (inl k) ih = subst P (same_number class on k) base
        go None s (inr k) ih =
            absurd
            (true≢false
            (sym
            (sym
            (ap
            (λ (o : Option ℕ). is_among class
            (elim o as (λ _. List ℕ) [ None ↦ [] | Some b ↦ superclasses p.classes b ])) s) ∙ k)))
        go (Some x) s (inr k) ih =
            let c : length (superclasses p.classes on) ≡ suc (length (superclasses p.classes x)) =
            ap length (chain_next on x l s) in
            let above : is_among class (superclasses p.classes x) ≡ true =
            sym
            (ap
            (λ (o : Option ℕ). is_among class
            (elim o as (λ _. List ℕ) [ None ↦ [] | Some b ↦ superclasses p.classes b ])) s) ∙ k in
            step on x l s above (ih x (counted-stays forest on x s) (omega (arith, c, m)) above)

    pub under : (on : ℕ) → on < length p.classes → is_among class (superclasses p.classes on) ≡ true → P on
    under on l h = down (length (superclasses p.classes on)) on l (omega arith) h
