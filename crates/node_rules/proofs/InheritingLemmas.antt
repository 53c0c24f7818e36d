-- Methods that a class inherits as those of Safelet or of Runnable.
use Rattle.std.proofs.Common.{◌≡◌, ℕ, Bool, ◌&&◌, ◌||◌, List, [], ◌∷◌, refl, arith, is_some}
use Rattle.std.specs.List.{list_any}
use Rattle.std.proofs.lemmas.Bool.Decides.{nat_tests}
use Rattle.scj_builtins.specs.Framework.{runnable, safelet}
use Rattle.scj_rules.specs.Words.{is_among}
use Rattle.scj_rules.specs.Classes.{all_interfaces, own_method}
use Rattle.scj_rules.specs.ClassRules.{inherits_as}
use Rattle.scj_rules.specs.Contexts.{Declarations}

-- two members of a list are looked for, each where a test holds
either_interface : (test : ℕ → Bool) (a b : ℕ) (xs : List ℕ) → list_any (λ i. is_among i (a ∷ b ∷ []) && test i) xs
    ≡ (list_any (λ i. is_among i (a ∷ []) && test i) xs || list_any (λ i. is_among i (b ∷ []) && test i) xs)
either_interface test a b [] = refl
either_interface test a b (x ∷ xs) = grind (arith, nat_tests, either_interface test a b xs)

-- what is inherited as a method of one of both is inherited as one of Safelet, or of Runnable
pub either_inherited : (p : Declarations) (node : ℕ) (name classes : List ℕ)
    → list_any (inherits_as p (safelet ∷ runnable ∷ []) node name) classes
    ≡ (list_any (inherits_as p (safelet ∷ []) node name) classes
    || list_any (inherits_as p (runnable ∷ []) node name) classes)
unfolding inherits_as
either_inherited p node name [] = refl
either_inherited p node name (c ∷ cs) =
    let has : ℕ → Bool = λ i. is_some (own_method p.classes name i) in
    let one = either_interface has safelet runnable (all_interfaces p.classes c) in
    grind (arith, nat_tests, one, either_inherited p node name cs)
