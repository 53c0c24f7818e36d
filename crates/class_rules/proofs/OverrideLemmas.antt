-- The types of parameters.
use Rattle.std.proofs.Common.{◌≡◌, ℕ, zero, suc, ◌+◌, ◌&&◌, List, [], ◌∷◌, drop, map, slice_get, Some, None, option_map, refl, sym, ap, arith}
use Rattle.std.specs.Cmp.Lexicographic.{pointwise}
use Rattle.scj_rules.specs.declared.views.Declared.{Declared}
use Rattle.scj_rules.specs.declared.views.WrittenType.{WrittenType}
use Rattle.scj_rules.specs.ClassRules.{is_same_type, have_same_types}

abbrev types : List Declared → List WrittenType
types ds = map (λ (d : Declared). d.declared_type) ds

pub same_mapped : (xs ys : List Declared) → pointwise is_same_type (types xs) (types ys) ≡ have_same_types xs ys
same_mapped [] [] = refl
same_mapped [] (y ∷ ys) = refl
same_mapped (x ∷ xs) [] = refl
same_mapped (x ∷ xs) (y ∷ ys) = ap (λ b. is_same_type x.declared_type y.declared_type && b) (same_mapped xs ys)

-- the type of the parameter of a number, and those behind it
pub type_there : (ds : List Declared) (number : ℕ) (t : WrittenType) →
    Some t ≡ option_map (λ (d : Declared). d.declared_type) (slice_get ds number) →
    types (drop number ds) ≡ t ∷ types (drop (number + 1) ds)
type_there [] zero t e = cc
type_there [] (suc number) t e = cc
type_there (d ∷ ds) zero t e = let same : t ≡ d.declared_type = cc in ap (λ u. u ∷ types ds) (sym same)
type_there (d ∷ ds) (suc number) t e =
    let next : suc number + 1 ≡ suc (number + 1) = omega arith in rw next (type_there ds number t e)

pub none_there : (ds : List Declared) (number : ℕ) →
    None ≡ option_map (λ (d : Declared). d.declared_type) (slice_get ds number) → types (drop number ds) ≡ []
none_there [] zero e = refl
none_there [] (suc number) e = refl
none_there (d ∷ ds) zero e = cc
none_there (d ∷ ds) (suc number) e = none_there ds number e
