-- Small tests, and what follows from them.
use Rattle.std.proofs.Common.{◌≡◌, ℕ, List, [], ◌∷◌, map, refl, sym, Bool, true, false, not, ◌||◌, ◌==◌, true≢false, if◌then◌else◌}
use Rattle.scj_builtins.specs.declared.kinds.ParameterKind.{ParameterKind}
use Rattle.scj_rules.specs.declared.views.Declared.{Declared}
use Rattle.scj_rules.specs.Classes.{of_framework, parameter_written}
use Rattle.scj_rules.specs.ClassRules.{have_same_types}
use Rattle.scj_rules.proofs.ChainLemmas.{same_number}

pub not_true : (t : Bool) → not t ≡ true → t ≡ false
not_true true e = absurd (true≢false (sym e))
not_true false e = refl

pub not_or : (a b : Bool) → a ≡ true → (not a || b) ≡ true → b ≡ true
not_or true b e h = h
not_or false b e h = absurd (true≢false (sym e))

pub none_if : {A : Type 0} (t : Bool) (x : A) → (if t then x ∷ [] else []) ≡ [] → t ≡ false
none_if true x e = absurd (cc (e))
none_if false x e = refl

pub not_other : (a b : ℕ) → not (a == b) ≡ false → a ≡ b
not_other a b e = go (a == b) refl e
  where
    go : (t : Bool) → (a == b) ≡ t → not t ≡ false → a ≡ b
    go true h e = same_number a b h
    go false h e = absurd (true≢false e)

-- the parameters of a method of the framework, as they are written
abbrev pub parameters_written : List ParameterKind → List Declared
parameters_written ks = map (λ (k : ParameterKind). of_framework [] false false (parameter_written k)) ks

-- what has the types of no parameters has none
pub none_taken : (ds : List Declared) → have_same_types ds [] ≡ true → ds ≡ []
none_taken [] e = refl
none_taken (d ∷ ds) e = absurd (true≢false (sym e))
