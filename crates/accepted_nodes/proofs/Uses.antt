-- The rules on uses, in the words of the machine's proofs: a value whose scope fits goes to the place, and a callee that may
-- be called runs here.
use Rattle.std.proofs.Common.{◌≡◌, ℕ, refl, sym, ap, ◌∙◌, subst, Option, Some, Bool, true, false, not, true≢false, ◌⊎◌, inl, inr, option_and_then}
use Rattle.std.proofs.lemmas.Bool.Decides.{nat_tests}
use Rattle.std.proofs.Common.{arith}
use Rattle.scj_rules.specs.declared.typing.Ty.{Ty}
use Rattle.scj_rules.specs.declared.typing.Ty.TheVariants.{Int, Bool as Boolean, NullTy, Class as ClassTy, IntArray, BoolArray, ClassArray}
use Rattle.scj_rules.specs.declared.typing.Scope.{Scope}
use Rattle.scj_rules.specs.declared.typing.Scope.TheVariants.{Any, This, Caller, In, Unknown, Lost}
use Rattle.scj_rules.specs.Words.{holds}
use Rattle.scj_rules.specs.Contexts.{Declarations}
use Rattle.scj_rules.specs.Types.{assigns, are_same, is_reference}
use Rattle.scj_rules.specs.UseRules.{current_at, misfits_runs_in, misfit_scope}
use Rattle.scj_rules.specs.StaticScopes.{are_same_scope, beside, fits, substitute}
use Rattle.accepted_laws.specs.Kinds.{Kind, number, truth, reference, kind_of, seen_as, GoesTo, Fits, RunsHere, IsReal, IsRealKind, NamesArea}
use Rattle.accepted_laws.proofs.Tools.{some_inj}

not_false : (t : Bool) → not t ≡ false → t ≡ true
not_false true e = refl
not_false false e = absurd (true≢false e)

pub same_scope : (a b : Scope) → are_same_scope a b ≡ true → a ≡ b
unfolding are_same_scope
same_scope Any Any e = refl
same_scope This This e = refl
same_scope Caller Caller e = refl
same_scope (In a) (In b) e = let x : a ≡ b = grind (arith, nat_tests) in ap (λ n. In n) x
same_scope Unknown Unknown e = refl
same_scope Lost Lost e = refl
same_scope _ _ e = absurd (cc (e))

-- what fits: null, or what names an area the same; or anything where the place is null or unknown
fits_cases : (s t : Scope) → fits s t ≡ true → (s ≡ Any) ⊎ ((t ≡ Any) ⊎ ((t ≡ Unknown) ⊎ (NamesArea s × (s ≡ t))))
unfolding fits are_same_scope
fits_cases Any t e = inl refl
fits_cases s Any e = inr (inl refl)
fits_cases s Unknown e = inr (inr (inl refl))
fits_cases This This e = inr (inr (inr (tt, same_scope This This e)))
fits_cases This Caller e = inr (inr (inr (tt, same_scope This Caller e)))
fits_cases This (In m) e = inr (inr (inr (tt, same_scope This (In m) e)))
fits_cases Caller This e = inr (inr (inr (tt, same_scope Caller This e)))
fits_cases Caller Caller e = inr (inr (inr (tt, same_scope Caller Caller e)))
fits_cases Caller (In m) e = inr (inr (inr (tt, same_scope Caller (In m) e)))
fits_cases (In n) This e = inr (inr (inr (tt, same_scope (In n) This e)))
fits_cases (In n) Caller e = inr (inr (inr (tt, same_scope (In n) Caller e)))
fits_cases (In n) (In m) e = inr (inr (inr (tt, same_scope (In n) (In m) e)))
fits_cases s t e = absurd (true≢false (sym e))

-- what lies beside null is null, and what lies beside anything isn't unknown but lost
beside_any : (s : Scope) → beside s ≡ Any → s ≡ Any
unfolding beside
beside_any Any e = refl
beside_any This e = e
beside_any Caller e = e
beside_any (In n) e = e
beside_any Unknown e = absurd (cc (e))
beside_any Lost e = e

beside_known : (s : Scope) → beside s ≡ Unknown → ⊥
unfolding beside
beside_known Any e = cc (e)
beside_known This e = cc (e)
beside_known Caller e = cc (e)
beside_known (In n) e = cc (e)
beside_known Unknown e = cc (e)
beside_known Lost e = cc (e)

-- a value whose scope fits a place of another's goes there
pub goes_where_fits : (home now s r : Scope) → IsReal r → NamesArea now → holds (substitute (Some home) (Some now) r) (λ t. not (fits s t)) ≡ false → GoesTo home now s r
unfolding substitute seen_as
goes_where_fits home now s This real_ here e =
    elim (fits_cases s (beside home) (not_false _ e)) as (λ z. GoesTo home now s This) [
      | inl a ↦ inl a
      | inr (inl h) ↦ inr (inr (inr (refl, beside_any home h)))
      | inr (inr (inl h)) ↦ absurd (beside_known home h)
      | inr (inr (inr h)) ↦ inr (inr (inl h))
    ]
goes_where_fits home now s Caller real_ here e =
    elim (fits_cases s now (not_false _ e)) as (λ z. GoesTo home now s Caller) [
      | inl a ↦ inl a
      | inr (inl h) ↦ absurd (subst NamesArea h here)
      | inr (inr (inl h)) ↦ absurd (subst NamesArea h here)
      | inr (inr (inr h)) ↦ inr (inr (inl h))
    ]
goes_where_fits home now s (In n) real_ here e =
    elim (fits_cases s (In n) (not_false _ e)) as (λ z. GoesTo home now s (In n)) [
      | inl a ↦ inl a
      | inr (inl h) ↦ absurd (subst NamesArea h tt)
      | inr (inr (inl h)) ↦ absurd (subst NamesArea h tt)
      | inr (inr (inr h)) ↦ inr (inr (inl h))
    ]
goes_where_fits home now s Unknown real_ here e = inr (inl refl)
goes_where_fits home now s Lost real_ here e =
    elim (fits_cases s Lost (not_false _ e)) as (λ z. GoesTo home now s Lost) [
      | inl a ↦ inl a
      | inr (inl h) ↦ absurd (cc (h))
      | inr (inr (inl h)) ↦ absurd (cc (h))
      | inr (inr (inr h)) ↦ absurd (subst NamesArea h.1 h.0)
    ]
goes_where_fits home now s Any real_ here e = absurd real_

-- E2: what may be called runs here
pub runs_where_called : (p : Declarations) (id : ℕ) (home now r : Scope) → NamesArea r → NamesArea now → current_at p id ≡ Some now → misfits_runs_in p id (Some home) r ≡ false → RunsHere home now r
unfolding misfits_runs_in
runs_where_called p id home now Caller names here is e = inl refl
runs_where_called p id home now This names here is e =
    elim (fits_cases home now (not_false _ (sym (ap (λ o. holds o (λ current. not (fits home current))) is) ∙ e))) as (λ z. RunsHere home now This) [
      | inl a ↦ inr (inl (refl, inl a))
      | inr (inl h) ↦ absurd (subst NamesArea h here)
      | inr (inr (inl h)) ↦ absurd (subst NamesArea h here)
      | inr (inr (inr h)) ↦ inr (inl (refl, inr h.1))
    ]
runs_where_called p id home now (In n) names here is e =
    inr (inr (n, refl, same_scope now (In n) (not_false _ (sym (ap (λ o. holds o (λ current. not (are_same_scope current (In n)))) is) ∙ e))))
runs_where_called p id home now Any names here is e = absurd names
runs_where_called p id home now Unknown names here is e = absurd names
runs_where_called p id home now Lost names here is e = absurd names

-- ---- one argument: T6 and E3

as_fits : (p : Declarations) (home now : Scope) (x y j k : Kind) → x ≡ j → y ≡ k → Fits p home now x y → Fits p home now j k
as_fits p home now x y j k ex ey h = subst (λ y. Fits p home now j y) ey (subst (λ x. Fits p home now x y) ex h)

-- two scopes that fit, as the rule tests it
goes_of_misfit : (home now s r : Scope) → IsReal r → NamesArea now → misfit_scope (Some s) (option_and_then (substitute (Some home) (Some now)) (Some r)) ≡ false → GoesTo home now s r
goes_of_misfit home now s r real_ here e = goes_where_fits home now s r real_ here e

pub fits_where_passed : (p : Declarations) (home now : Scope) → NamesArea now → (t u : Ty) (s r : Option Scope) (j k : Kind) → kind_of (Some t) s ≡ Some j → kind_of (Some u) r ≡ Some k → IsRealKind k
    → not (assigns p.classes t u) ≡ false → misfit_scope s (option_and_then (substitute (Some home) (Some now)) r) ≡ false → Fits p home now j k
unfolding kind_of assigns are_same is_reference
fits_where_passed p home now here Int Int s r j k e f real_ a m = as_fits p home now number number j k (some_inj _ _ e) (some_inj _ _ f) tt
fits_where_passed p home now here Boolean Boolean s r j k e f real_ a m = as_fits p home now truth truth j k (some_inj _ _ e) (some_inj _ _ f) tt
fits_where_passed p home now here NullTy (ClassTy c) s (Some r) j k e f real_ a m = as_fits p home now (reference NullTy Any) (reference (ClassTy c) r) j k (some_inj _ _ e) (some_inj _ _ f) (refl, inl refl)
fits_where_passed p home now here NullTy IntArray s (Some r) j k e f real_ a m = as_fits p home now (reference NullTy Any) (reference IntArray r) j k (some_inj _ _ e) (some_inj _ _ f) (refl, inl refl)
fits_where_passed p home now here NullTy BoolArray s (Some r) j k e f real_ a m = as_fits p home now (reference NullTy Any) (reference BoolArray r) j k (some_inj _ _ e) (some_inj _ _ f) (refl, inl refl)
fits_where_passed p home now here NullTy (ClassArray c) s (Some r) j k e f real_ a m = as_fits p home now (reference NullTy Any) (reference (ClassArray c) r) j k (some_inj _ _ e) (some_inj _ _ f) (refl, inl refl)
fits_where_passed p home now here NullTy NullTy s r j k e f real_ a m = absurd (subst IsRealKind (sym (some_inj (reference NullTy Any) k f)) real_)
fits_where_passed p home now here (ClassTy c) (ClassTy d) (Some s) (Some r) j k e f real_ a m =
    as_fits p home now (reference (ClassTy c) s) (reference (ClassTy d) r) j k (some_inj _ _ e) (some_inj _ _ f) (not_false _ a, goes_of_misfit home now s r (subst IsRealKind (sym (some_inj (reference (ClassTy d) r) k f)) real_) here m)
fits_where_passed p home now here IntArray IntArray (Some s) (Some r) j k e f real_ a m =
    as_fits p home now (reference IntArray s) (reference IntArray r) j k (some_inj _ _ e) (some_inj _ _ f) (refl, goes_of_misfit home now s r (subst IsRealKind (sym (some_inj (reference IntArray r) k f)) real_) here m)
fits_where_passed p home now here BoolArray BoolArray (Some s) (Some r) j k e f real_ a m =
    as_fits p home now (reference BoolArray s) (reference BoolArray r) j k (some_inj _ _ e) (some_inj _ _ f) (refl, goes_of_misfit home now s r (subst IsRealKind (sym (some_inj (reference BoolArray r) k f)) real_) here m)
fits_where_passed p home now here (ClassArray c) (ClassArray d) (Some s) (Some r) j k e f real_ a m =
    as_fits p home now (reference (ClassArray c) s) (reference (ClassArray d) r) j k (some_inj _ _ e) (some_inj _ _ f) (not_false _ a, goes_of_misfit home now s r (subst IsRealKind (sym (some_inj (reference (ClassArray d) r) k f)) real_) here m)
fits_where_passed p home now here t u s r j k e f real_ a m = absurd (cc (e, f, a))
