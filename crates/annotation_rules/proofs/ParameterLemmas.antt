-- The parameters of a method beside those above, number after number.
use Rattle.std.proofs.Common.{◌≡◌, ◌<◌, ℕ, zero, suc, Bool, true, false, List, [], ◌∷◌, length, slice_get, refl, arith}
use Rattle.scj_rules.specs.declared.views.Declared.{Declared}
use Rattle.scj_rules.specs.Words.{holds}
use Rattle.scj_rules.specs.Classes.{FoundMethod}
use Rattle.scj_rules.specs.Contexts.{Declarations}
use Rattle.scj_rules.specs.StaticScopes.{parameter_scope}
use Rattle.scj_rules.specs.AnnotationRules.{seen_in, differ, parameters_differ}
use Rattle.annotation_rules.specs.Parts.{parameters_differ_at}

module _ (p : Declarations) (f g : FoundMethod) where
  abbrev both : List Declared → List Declared → Bool
  both ds es = parameters_differ p f.on f.method g.on g.method ds es

  abbrev at : List Declared → List Declared → ℕ → Bool
  at ds es i = holds (slice_get ds i) (λ (d : Declared). holds (slice_get es i) (λ (e : Declared).
      differ (parameter_scope p f.on f.method d) (seen_in p f.on (parameter_scope p g.on g.method e))))

  found : (ds es : List Declared) (i : ℕ) → true ≡ at ds es i → true ≡ both ds es
  unfolding parameters_differ
  found [] es i h = h
  found (d ∷ ds) [] zero h = h
  found (d ∷ ds) [] (suc i) h = grind (arith, h, found ds [] i h)
  found (d ∷ ds) (e ∷ es) zero h = rw (← h) refl
  found (d ∷ ds) (e ∷ es) (suc i) h = grind (arith, found ds es i h)

  missing : (ds es : List Declared) → ((i : ℕ) → i < length ds → false ≡ at ds es i) → false ≡ both ds es
  unfolding parameters_differ
  missing [] es h = refl
  missing (d ∷ ds) [] h = refl
  missing (d ∷ ds) (e ∷ es) h = rw (← h 0 (omega arith)) (missing ds es (λ i l. h (suc i) (omega (arith, l))))

  pub differs_found : (i : ℕ) → true ≡ parameters_differ_at p f g i →
      true ≡ both f.method.parameters g.method.parameters
  differs_found i h = found f.method.parameters g.method.parameters i h

  pub none_differs : ((i : ℕ) → i < length f.method.parameters → false ≡ parameters_differ_at p f g i)
      → false ≡ both f.method.parameters g.method.parameters
  none_differs h = missing f.method.parameters g.method.parameters h
