-- Steps on chains, what is told of the classes above a class, and what is found along lists.
use Rattle.std.proofs.Common.{◌≡◌, ℕ, zero, suc, ◌-◌, ◌+◌, ◌<◌, ◌≤◌, ◌==◌, false, List, [], ◌∷◌, ◌++◌, length, set, refl, sym, ap, ◌∙◌, ⊎_elim, arith, Option, Some, None}
use Rattle.std.specs.Option.{IfSome}
use Rattle.std.proofs.lemmas.Bool.{cases_eq}
use Rattle.std.proofs.lemmas.Bool.Decides.{nat_tests}
use Rattle.std.proofs.lemmas.Grind.{common_steps}
use Rattle.std.proofs.lemmas.List.{get_or-set_other, get_or-set_same}
use Rattle.scj_builtins.specs.Framework.{object}
use Rattle.scj_tree.specs.Forest.{Forest}
use Rattle.scj_rules.specs.Words.{chain, along, or_else}
use Rattle.scj_rules.specs.Classes.{ClassRow, superclass_in, superclasses}
use Rattle.scj_rules.specs.Contexts.{declarations_of}
use Rattle.scj_rules.proofs.WithinLemmas.{user_count}
use Rattle.class_rows.specs.declared.ancestries.Ancestry.{Ancestry}
use Rattle.class_rows.specs.Walks.{chain_from, AreAncestries, IsAncestor, IsAncestry, IsRoot}

-- one step on a chain
pub chain_here : (next : ℕ → Option ℕ) (left a : ℕ) → 0 < left → chain next left a ≡ a
    ∷ chain_from next (left - 1) (next a)
unfolding chain
chain_here next zero a h = absurd (omega (arith, h))
chain_here next (suc left) a h = grind (arith)

pub chain_ended : (next : ℕ → Option ℕ) (left : ℕ) (o : Option ℕ) → left ≤ 0 → chain_from next left o ≡ []
unfolding chain
chain_ended next zero None h = refl
chain_ended next zero (Some a) h = refl
chain_ended next (suc left) o h = absurd (omega (arith, h))

-- ---- what is told of the classes above a class

chain_short : (next : ℕ → Option ℕ) (m a : ℕ) → length (chain next (suc m) a) ≤ m →
    chain next m a ≡ chain next (suc m) a
unfolding chain
chain_short next zero a h = absurd (omega (arith, h))
chain_short next (suc m) a h = grind (arith, common_steps, chain_short next m)

module _ (rows : List ClassRow) where
  abbrev those : ℕ → List ℕ
  those = superclasses rows

  pub next_chain : (class above : ℕ) → superclass_in rows class ≡ Some above → length (those above) < length rows →
      those class ≡ class ∷ those above
  unfolding superclasses chain
  next_chain class above e l = go (length rows) l
    where
      go : (m : ℕ) → length (chain (superclass_in rows) m above) < m →
          chain (superclass_in rows) m class ≡ class ∷ chain (superclass_in rows) m above
      go zero h = absurd (omega (arith, h))
      go (suc m) h =
          let short = chain_short (superclass_in rows) m above (omega (arith, h)) in
          grind (arith, common_steps, e, short)

  -- chains of different lengths are those of different classes
  apart : (a b : ℕ) → (length (those a) ≡ length (those b) → ⊥) → (a == b) ≡ false
  apart a b h = grind (arith, nat_tests, h)

  pub right_above : (class above : ℕ) → those class ≡ class ∷ those above → IsAncestor rows class above 1
  right_above class above e = record {
    steps = omega (arith, ap length e);
    same = λ other l. rw (e, apart other class (λ k. omega (arith, ap length e, k, l))) refl;
  }

  pub further : {a b c m n : ℕ} → IsAncestor rows a b m → IsAncestor rows b c n → IsAncestor rows a c (m + n)
  further h k = record {
    steps = omega (arith, h.steps, k.steps);
    same = λ other l. h.same other (omega (arith, l, k.steps)) ∙ k.same other l;
  }

  -- what is told of a class right under another one
  pub reported_under : (class above root ancestor distance : ℕ) (near : Ancestry) → Some above ≡ superclass_in rows class
      → near.depth < length rows → IsAncestry rows above near
      → (those class ≡ class ∷ those above → IsRoot rows above near.root → IsRoot rows class root)
      → (those class ≡ class ∷ those above → IsAncestor rows class ancestor distance)
      → IsAncestry rows class
      (record { root = root; depth = near.depth + 1; ancestor = ancestor; distance = distance })
  reported_under class above root ancestor distance near s l n r a =
      let e = next_chain class above (sym s) (omega (arith, l, n.depth)) in
      record {
        root = r e n.root;
        depth = omega (arith, n.depth, ap length e);
        ancestor = a e;
        above = λ other h. let same : above ≡ other = cc (s, h) in rw (← same) (right_above class above e);
        alone = λ other h. grind (arith, common_steps, nat_tests, e, ap length e, h, n.alone other, apart other above);
      }

  pub noted : (reported : List (Option Ancestry)) (at : ℕ) (own : Option Ancestry) → at < length reported →
      IfSome own (λ a. IsAncestry rows at a) → AreAncestries rows reported → AreAncestries rows (set reported at own)
  noted reported at own within is are class a e =
      ⊎_elim
      (λ (s : class ≡ at). let here : own ≡ Some a = sym (get_or-set_same reported at own None within) ∙ rw s at e in
      rw s (rw here at is))
      (λ (n : class ≡ at → ⊥). are class a (sym (get_or-set_other reported at class own None n) ∙ e))
      (cases_eq class at)

module _ (forest : Forest) (class : ℕ) (s : None ≡ superclass_in (declarations_of forest).classes class) where
  pub chain_alone : superclasses (declarations_of forest).classes class ≡ class ∷ []
  unfolding superclasses
  chain_alone = chain_here _ _ class (omega (arith, user_count forest)) ∙ rw (← s) refl

  pub object_reported : class ≡ object → IsAncestry (declarations_of forest).classes class
      (record { root = class; depth = 1; ancestor = class; distance = 0 })
  object_reported o = record {
    root = rw chain_alone (grind (arith, common_steps, nat_tests, o));
    depth = rw chain_alone refl;
    ancestor = record { steps = omega arith; same = λ other l. refl };
    above = λ other h. cc (s, h);
    alone = λ other l. rw chain_alone (grind (arith, common_steps));
  }

-- ---- what is found along lists

pub along_front : {A B : Type 0} (f : A → Option B) (x : A) (xs : List A) →
    along f (x ∷ xs) ≡ or_else (f x) (along f xs)
unfolding along
along_front f x xs = grind (arith, common_steps)

pub along_end : {A B : Type 0} (f : A → Option B) → along f [] ≡ None
unfolding along
along_end f = refl

pub along_append : {A B : Type 0} (f : A → Option B) (xs ys : List A) →
    or_else (along f xs) (along f ys) ≡ along f (xs ++ ys)
unfolding along
along_append f [] ys = refl
along_append f (x ∷ xs) ys = grind (arith, common_steps, along_append f xs ys)
