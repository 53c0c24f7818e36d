-- The concrete handler classes of a program, as they are listed.
use Rattle.std.specs.Prelude.{Some, Contains, filter, max, slice_get, if◌then◌else◌}
use Rattle.std.proofs.Common.{◌≡◌, ◌⊎◌, ℕ, zero, suc, ◌+◌, ◌≤◌, List, [], ◌∷◌, ◌&&◌, Bool, true, false, true≢false, inl, inr, refl, sym, ◌∙◌, ap, subst, arith, zero-add}
use Rattle.scj_tree.specs.Heights.{highest}
use Rattle.scj_rules.specs.ClassRules.{numbers_from}
use Rattle.scj_rules.specs.Classes.{ClassRow}
use Rattle.scj_rules.specs.Contexts.{Declarations}
use Rattle.scj_rules.specs.ScopeRules.{is_handler}
use Rattle.scj_rules.specs.Types.{kind_is, is_concrete}
use Rattle.scj_rules.proofs.ReportLemmas.{Contains-cases, Contains-head, Contains-tail, none_contained}
use Rattle.accepted_laws.proofs.MethodNodes.{and_true}
use Rattle.accepted_nodes.proofs.FormParts.{held}
use Rattle.memory_needs.specs.Rows.{handler_classes, is_concrete_handler}

-- ---- lists that are filtered

pub passes : {A : Type 0} (test : A → Bool) (xs : List A) (x : A) → Contains (filter test xs) x → test x ≡ true
passes test [] x c = absurd (none_contained x c)
passes {A} test (y ∷ ys) x c = of (test y) refl c (λ k. passes test ys x k)
  where
    of : (b : Bool) → test y ≡ b → Contains (if b then y ∷ filter test ys else filter test ys) x →
        (Contains (filter test ys) x → test x ≡ true) → test x ≡ true
    of false e k later = later k
    of true e k later =
        elim (Contains-cases y (filter test ys) x k) as (λ z. test x ≡ true) [
          | inl same ↦ subst (λ z. test z ≡ true) same e
          | inr more ↦ later more
        ]

pub kept : {A : Type 0} (test : A → Bool) (xs : List A) (x : A) → Contains xs x → test x ≡ true →
    Contains (filter test xs) x
kept test [] x c e = absurd (none_contained x c)
kept {A} test (y ∷ ys) x c e = of (test y) refl (Contains-cases y ys x c) (λ k. kept test ys x k e)
  where
    of : (b : Bool) → test y ≡ b → (y ≡ x) ⊎ Contains ys x → (Contains ys x → Contains (filter test ys) x) →
        Contains (if b then y ∷ filter test ys else filter test ys) x
    of true t (inl same) later = subst (Contains (y ∷ filter test ys)) same (Contains-head y (filter test ys))
    of true t (inr more) later = Contains-tail y (filter test ys) x (later more)
    of false t (inl same) later = absurd (true≢false (sym e ∙ (ap test (sym same) ∙ t)))
    of false t (inr more) later = later more

pub numbered : {A : Type 0} (from : ℕ) (rows : List A) (k : ℕ) (row : A) → slice_get rows k ≡ Some row →
    Contains (numbers_from from rows) (from + k)
unfolding numbers_from
numbered from [] k row e = absurd (cc (e))
numbered from (x ∷ rows) zero row e =
    (let z : from ≡ from + 0 = omega arith in
    subst (Contains (from ∷ numbers_from (from + 1) rows)) z (Contains-head from (numbers_from (from + 1) rows)))
numbered from (x ∷ rows) (suc k) row e =
    (let shift : from + 1 + k ≡ from + suc k = omega arith in
    Contains-tail from (numbers_from (from + 1) rows) (from + suc k)
    (subst (Contains (numbers_from (from + 1) rows)) shift (numbered (from + 1) rows k row e)))

-- the greatest of all is as great as each
pub one_of_highest : (f : ℕ → ℕ) (xs : List ℕ) (x : ℕ) → Contains xs x → f x ≤ highest f xs
unfolding highest
one_of_highest f [] x c = absurd (none_contained x c)
one_of_highest f (y ∷ ys) x c =
    elim (Contains-cases y ys x c) as (λ z. f x ≤ max (f y) (highest f ys)) [
      | inl same ↦ (let e : f y ≡ f x = ap f same in omega (arith, e))
      | inr more ↦ (let h = one_of_highest f ys x more in omega (arith, h))
    ]

-- ---- handler classes

pub record IsConcreteHandler (p : Declarations) (class : ℕ) : Type 0 where
  pub concrete : kind_is is_concrete p class ≡ true
  pub handler : is_handler p class ≡ true

pub listed_is : (p : Declarations) (class : ℕ) → Contains (handler_classes p) class → IsConcreteHandler p class
unfolding handler_classes
listed_is p class c =
    (let both = and_true (kind_is is_concrete p class) (is_handler p class)
    (passes (is_concrete_handler p) (numbers_from 0 p.classes) class c) in
    record { concrete = both.0; handler = both.1 })

pub is_listed : (p : Declarations) (class : ℕ) → IsConcreteHandler p class → Contains (handler_classes p) class
unfolding handler_classes
is_listed p class h =
    (let row = held (slice_get p.classes class) (λ (r : ClassRow). is_concrete r.kind) h.concrete in
    kept (is_concrete_handler p) (numbers_from 0 p.classes) class
    (subst (Contains (numbers_from 0 p.classes)) (zero-add class) (numbered 0 p.classes class row.0 row.1))
    (ap (λ t. t && is_handler p class) h.concrete ∙ h.handler))
