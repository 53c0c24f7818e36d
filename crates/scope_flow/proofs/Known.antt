-- Variables that are set, and small steps on tests.
use Rattle.std.specs.Prelude.{◌||◌, ◌==◌, nat_lt, is_some, if◌then◌else◌}
use Rattle.std.proofs.Common.{◌≡◌, ℕ, ◌<◌, List, ◌∷◌, Bool, true, false, refl, ap, subst, arith, ◌⊎◌, inl, inr}
use Rattle.std.proofs.lemmas.Bool.Decides.{nat_tests}
use Rattle.scj_tree.specs.Recursion.{below}
use Rattle.scj_rules.specs.Words.{is_among}
use Rattle.scj_rules.specs.Views.{variable_at}
use Rattle.scj_rules.specs.Contexts.{Declarations}
use Rattle.accepted_laws.specs.Judgements.{Among, known_behind}

pub bool_cases : (t : Bool) → (t ≡ true) ⊎ (t ≡ false)
bool_cases true = inl refl
bool_cases false = inr refl

pub or_cases : (a b : Bool) → (a || b) ≡ true → (a ≡ true) ⊎ (b ≡ true)
or_cases true b h = inl refl
or_cases false b h = inr h

pub below_lt : {A : Type 0} (d : A) (n : ℕ) (f : ℕ → A) (x : ℕ) → x < n → below d n f x ≡ f x
below_lt d n f x l =
    let t : nat_lt x n ≡ true = grind (arith, nat_tests) in
    rw t refl

pub among_self : (ks : List ℕ) → Among ks ks
among_self ks v e = e

pub among_trans : (a b c : List ℕ) → Among a b → Among b c → Among a c
among_trans a b c h k v e = k v (h v e)

pub among_more : (ls : List ℕ) (k : ℕ) → Among ls (k ∷ ls)
among_more ls k v e = elim (v == k) as (λ t. (t || is_among v ls) ≡ true) [ true ↦ refl | false ↦ e ]

pub among_first : (ls : List ℕ) (k : ℕ) → is_among k (k ∷ ls) ≡ true
among_first ls k =
    let e : (k == k) ≡ true = grind (arith, nat_tests) in
    ap (λ t. t || is_among k ls) e

pub among_both : (ks ls : List ℕ) (k : ℕ) → Among ks ls → Among (k ∷ ks) (k ∷ ls)
among_both ks ls k h v e =
    elim (v == k) as (λ t. ((t || is_among v ks) ≡ true) → ((t || is_among v ls) ≡ true)) [
      | true ↦ (λ e. refl)
      | false ↦ (λ e. h v e)
    ] e

pub among_put : (ks ls : List ℕ) (k : ℕ) → Among ks ls → is_among k ls ≡ true → Among (k ∷ ks) ls
among_put ks ls k h m v e =
    elim (or_cases (v == k) (is_among v ks) e) as (λ z. is_among v ls ≡ true) [
      | inl s ↦ (let same : k ≡ v = grind (arith, nat_tests) in subst (λ x. is_among x ls ≡ true) same m)
      | inr s ↦ h v s
    ]

-- the variable that a statement declares is set
abbrev pub IsSetBy : Declarations → ℕ → List ℕ → Type 0
IsSetBy p id ms = is_some (variable_at p.nodes id) ≡ true → is_among id ms ≡ true

pub known_set : (p : Declarations) (x : ℕ) (known ms : List ℕ) → Among known ms → IsSetBy p x ms →
    Among (known_behind p x known) ms
known_set p x known ms a st = go (is_some (variable_at p.nodes x)) refl
  where
    go : (t : Bool) → is_some (variable_at p.nodes x) ≡ t → Among (if t then x ∷ known else known) ms
    go true e = among_put known ms x a (st e)
    go false e = a
