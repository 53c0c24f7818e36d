-- Arguments that have types, and parameters that take them.
use Rattle.std.proofs.Common.{◌≡◌, ℕ, ◌+◌, ◌<◌, ◌≤◌, sym, get_or, zero, suc, List, [], ◌∷◌, length, drop, refl, ap, ◌∙◌, arith, Option, Some, None, Bool, true, false, not, ◌&&◌, nat_lt, is_some, option_map, option_and_then, unwrap_or}
use Rattle.std.proofs.lemmas.Bool.Decides.{nat_tests}
use Rattle.std.proofs.lemmas.List.{drop_all, drop_more}
use Rattle.std.specs.List.{list_all}
use Rattle.scj_rules.specs.declared.views.Declared.{Declared}
use Rattle.scj_rules.specs.declared.typing.Ty.{Ty}
use Rattle.scj_rules.specs.Views.{DeclaredConstructor}
use Rattle.scj_rules.specs.Words.{holds}
use Rattle.scj_rules.specs.Classes.{ClassRow}
use Rattle.scj_rules.specs.Contexts.{Declarations}
use Rattle.scj_rules.specs.Types.{all_types, accepts_arguments, constructor_in, constructor_parameters}
use Rattle.scj_rules.specs.TypeRules.{Types, misfit}
use Rattle.type_rules.specs.Parameters.{parameter_type, takes_value, fits, all_fit}

pub constructor_takes : (rows : List ClassRow) (class : ℕ) → constructor_parameters rows class ≡ unwrap_or
    (option_map (λ (c : DeclaredConstructor). c.parameters) (constructor_in rows class)) []
unfolding constructor_parameters
constructor_takes rows class = elim (constructor_in rows class) as
    (λ (o : Option DeclaredConstructor). elim o as (λ _. List Declared) [ None ↦ [] | Some c ↦ c.parameters ]
    ≡ unwrap_or (option_map (λ (c : DeclaredConstructor). c.parameters) o) []) [ None ↦ refl | Some c ↦ refl ]

pub typed_each : (types : Types) (ids : List ℕ) →
    is_some (all_types types ids) ≡ list_all (λ id. is_some (types id)) ids
unfolding all_types
typed_each types [] = refl
typed_each types (id ∷ ids) =
    go (types id) (all_types types ids) ∙ ap (λ b. is_some (types id) && b) (typed_each types ids)
  where
    go : (o : Option Ty) (us : Option (List Ty)) →
        is_some (option_and_then (λ t. option_map (λ ts. t ∷ ts) us) o) ≡ (is_some o && is_some us)
    go None us = refl
    go (Some t) None = refl
    go (Some t) (Some ts) = refl

module _ (p : Declarations) (types : Types) where
  accepts-more : (ds : List Declared) (i : ℕ) (t : Ty) (ts : List Ty) → accepts_arguments p (drop i ds) (t ∷ ts)
      ≡ (holds (parameter_type ds i) (takes_value p t) && accepts_arguments p (drop (suc i) ds) ts)
  unfolding accepts_arguments
  accepts-more [] zero t ts = refl
  accepts-more [] (suc i) t ts = refl
  accepts-more (d ∷ ds) zero t ts = refl
  accepts-more (d ∷ ds) (suc i) t ts = accepts-more ds i t ts

  accepts-none : (ds : List Declared) (i : ℕ) → accepts_arguments p (drop i ds) [] ≡ not (nat_lt i (length ds))
  unfolding accepts_arguments
  accepts-none [] zero = grind (arith, nat_tests)
  accepts-none [] (suc i) = grind (arith, nat_tests)
  accepts-none (d ∷ ds) zero = grind (arith, nat_tests)
  accepts-none (d ∷ ds) (suc i) = let same : nat_lt (suc i) (suc (length ds)) ≡ nat_lt i (length ds) =
      grind (arith, nat_tests) in accepts-none ds i ∙ ap not (sym same)

  misfit_from : (ds : List Declared) (i : ℕ) (ids : List ℕ) → misfit p types (drop i ds) ids
      ≡ (is_some (all_types types ids) && not (all_fit p types ds i ids))
  unfolding all_types all_fit
  misfit_from ds i [] = ap not (accepts-none ds i)
  misfit_from ds i (id ∷ ids) =
      go (types id) (all_types types ids) (all_fit p types ds (suc i) ids) (misfit_from ds (suc i) ids)
    where
      both : (b c e : Bool) → not c ≡ not e → not (b && c) ≡ not (b && e)
      both true c e h = h
      both false c e h = refl

      go : (o : Option Ty) (us : Option (List Ty)) (b : Bool) →
          holds us (λ ts. not (accepts_arguments p (drop (suc i) ds) ts)) ≡ (is_some us && not b) →
          holds (option_and_then (λ t. option_map (λ ts. t ∷ ts) us) o)
          (λ ts. not (accepts_arguments p (drop i ds) ts))
          ≡ (is_some (option_and_then (λ t. option_map (λ ts. t ∷ ts) us) o)
          && not (holds o (λ t. holds (parameter_type ds i) (takes_value p t)) && b))
      go None us b h = refl
      go (Some t) None b h = refl
      go (Some t) (Some ts) b h = ap not (accepts-more ds i t ts)
          ∙ both (holds (parameter_type ds i) (takes_value p t)) (accepts_arguments p (drop (suc i) ds) ts) b h

  -- arguments misfit where they have types and don't all fit
  pub misfit_is : (ds : List Declared) (ids : List ℕ) →
      misfit p types ds ids ≡ (is_some (all_types types ids) && not (all_fit p types ds 0 ids))
  misfit_is ds ids = misfit_from ds 0 ids

  one_more : (ds : List Declared) (ids : List ℕ) (i id : ℕ) (b : Bool) → i < length ids → id ≡ get_or ids i id →
      b ≡ fits p types ds i id
      → all_fit p types ds i (drop i ids) ≡ (b && all_fit p types ds (i + 1) (drop (i + 1) ids))
  unfolding all_fit
  one_more ds ids i id b l e f =
      ap (all_fit p types ds i) (drop_more ids i id l ∙ ap (λ x. x ∷ drop (i + 1) ids) (sym e))
      ∙ ap (λ c. c && all_fit p types ds (suc i) (drop (i + 1) ids)) (sym f)
      ∙ ap (λ n. b && all_fit p types ds n (drop (i + 1) ids)) (let next : suc i ≡ i + 1 = omega arith in next)

  pub one_fits : (ds : List Declared) (ids : List ℕ) (i id : ℕ) → i < length ids → id ≡ get_or ids i id →
      fits p types ds i id ≡ true → all_fit p types ds i (drop i ids) ≡ all_fit p types ds (i + 1) (drop (i + 1) ids)
  one_fits ds ids i id l e f = one_more ds ids i id true l e (sym f)

  pub one_misfits : (ds : List Declared) (ids : List ℕ) (i id : ℕ) → i < length ids → id ≡ get_or ids i id →
      fits p types ds i id ≡ false → all_fit p types ds i (drop i ids) ≡ false
  one_misfits ds ids i id l e f = one_more ds ids i id false l e (sym f)

  pub none_left : (ds : List Declared) (ids : List ℕ) (i : ℕ) → length ids ≤ i →
      all_fit p types ds i (drop i ids) ≡ not (nat_lt i (length ds))
  unfolding all_fit
  none_left ds ids i l = ap (all_fit p types ds i) (drop_all i ids l)
