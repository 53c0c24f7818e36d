-- Operations that are put in front of others: one behind the other, and those of many nodes.
use Rattle.std.specs.Prelude.{flat_map, ◌==◌, ◌||◌}
use Rattle.std.proofs.Common.{◌≡◌, ℕ, List, [], ◌∷◌, ◌++◌, Bool, true, false, refl, sym, ◌∙◌, ap, subst, append_assoc, arith}
use Rattle.std.proofs.lemmas.Bool.Decides.{nat_tests}
use Rattle.scj_rules.specs.declared.views.Body.{Body}
use Rattle.scj_rules.specs.Words.{is_among}
use Rattle.scj_model.specs.declared.operations.Op.{Op}
use Rattle.scj_model.specs.Code.{Code}
use Rattle.scope_flow.specs.Guards.{IsPlain, StandsIn, AreAmong, Rest, at_end, outside, plain, asking, putting, Adds}

pub here : (x : ℕ) (xs : List ℕ) → is_among x (x ∷ xs) ≡ true
here x xs = let e : (x == x) ≡ true = grind (arith, nat_tests) in ap (λ t. t || is_among x xs) e

pub later : (x y : ℕ) (xs : List ℕ) → is_among x xs ≡ true → is_among x (y ∷ xs) ≡ true
later x y xs e = elim (x == y) as (λ t. (t || is_among x xs) ≡ true) [ true ↦ refl | false ↦ e ]

-- fewer `if`s around
pub among_later : (y : ℕ) (xs : List ℕ) → AreAmong xs (y ∷ xs)
among_later y xs x e = later x y xs e

module _ (code : Code) (body : Body) (around : List ℕ) where
  pub adds_none : Adds code body around []
  adds_none rest r = r

  pub adds_op : (op : Op) → IsPlain code op → StandsIn code around op → Adds code body around (op ∷ [])
  adds_op op is_plain stands rest r = plain around op rest is_plain stands r

  pub adds_both : (xs ys : List Op) → Adds code body around xs → Adds code body around ys →
      Adds code body around (xs ++ ys)
  adds_both xs ys first second rest r =
      subst (Rest code body around) (sym (append_assoc xs ys rest)) (first (ys ++ rest) (second rest r))

  -- an operation behind others
  pub adds_behind : (xs : List Op) (op : Op) → Adds code body around xs → IsPlain code op → StandsIn code around op →
      Adds code body around (xs ++ op ∷ [])
  adds_behind xs op first is_plain stands = adds_both xs (op ∷ []) first (adds_op op is_plain stands)

  pub adds_all : (sub : ℕ → List Op) (xs : List ℕ) →
      ((x : ℕ) → is_among x xs ≡ true → Adds code body around (sub x)) → Adds code body around (flat_map sub xs)
  adds_all sub [] h = adds_none
  adds_all sub (x ∷ xs) h =
      adds_both (sub x) (flat_map sub xs) (h x (here x xs)) (adds_all sub xs (λ y e. h y (later y x xs e)))
