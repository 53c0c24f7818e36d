-- Of which classes something is told, after it is told of one more, and where all that was told stays.
use Rattle.std.proofs.Common.{◌≡◌, ℕ, ◌<◌, ◌==◌, Bool, true, ◌||◌, List, [], ◌∷◌, length, All, Some, refl, ◌∙◌, arith}
use Rattle.std.proofs.lemmas.Bool.{or_left, or_right}
use Rattle.std.proofs.lemmas.List.Elements.{All-cons, All-weaker}
use Rattle.scj_rules.proofs.ChainLemmas.{is_same_number}
use Rattle.symbol_table.specs.declared.levels.Level.{Level}
use Rattle.symbol_table.specs.Scopes.{nearest_level}

abbrev AreReported : (ℕ → Bool) → List ℕ → Type 0
AreReported reported classes = All (λ class. reported class ≡ true) classes

module _ (was now : ℕ → Bool) where
  pub still_reported : (classes : List ℕ) → ((class : ℕ) → now class ≡ was class) → AreReported was classes →
      AreReported now classes
  still_reported classes same reported =
      All-weaker (λ class. was class ≡ true) (λ class. now class ≡ true) (λ class h. same class ∙ h) classes reported

  module _ (class : ℕ) (more : (other : ℕ) → now other ≡ ((class == other) || was other)) where
    pub is_reported_now : now class ≡ true
    is_reported_now = more class ∙ or_left (class == class) (was class) (is_same_number class class refl)

    pub others_reported : (classes : List ℕ) → AreReported was classes → AreReported now classes
    others_reported classes reported =
        All-weaker (λ other. was other ≡ true) (λ other. now other ≡ true)
        (λ other h. more other ∙ or_right (class == other) (was other) h) classes reported

    pub one_reported : (classes : List ℕ) → AreReported was classes → AreReported now (class ∷ classes)
    one_reported classes reported =
        All-cons (λ other. now other ≡ true) class classes is_reported_now (others_reported classes reported)

-- a path with a nearest class has one
pub some_nearest : (level : Level) (path : List Level) → Some level ≡ nearest_level path → 0 < length path
some_nearest level [] e = cc
some_nearest level (l ∷ path) e = omega arith
