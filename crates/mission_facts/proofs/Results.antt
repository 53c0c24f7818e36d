-- What a method may give where another type is declared above it: that type, or a narrower class (C6, C7).
use Rattle.std.proofs.Common.{◌≡◌, ℕ, List, sym, ap, ◌∙◌, subst, refl, Option, Some, None, true, false, ◌&&◌, true≢false, ◌⊎◌, inl, inr, option_map}
use Rattle.scj_rules.specs.declared.typing.Ty.TheVariants.{Class as ClassTy}
use Rattle.scj_rules.specs.declared.views.WrittenType.{WrittenType}
use Rattle.scj_rules.specs.declared.views.WrittenType.TheVariants.{Long as long_type, Void as void_type, Class as class_type}
use Rattle.scj_rules.specs.Words.{holds}
use Rattle.scj_rules.specs.Classes.{is_sub, is_user_class}
use Rattle.scj_rules.specs.ClassRules.{is_same_type, class_written, narrower_kind, is_narrower, is_result_of}
use Rattle.scj_rules.specs.Contexts.{Declarations}
use Rattle.scj_rules.specs.StaticScopes.{has_no_scope}
use Rattle.scj_rules.specs.Types.{type_written}
use Rattle.scj_rules.proofs.ChainLemmas.{or_cases, or_left}
use Rattle.accepted_laws.proofs.Tools.{some_inj}
use Rattle.accepted_facts.proofs.OverridingKinds.{and_true, same_type}
use Rattle.accepted_nodes.proofs.FormParts.{held}

module _ (p : Declarations) where
  -- what may be given for another type than `long` is another one itself
  pub not_long : (class : ℕ) (name : List ℕ) (t above : WrittenType) → (above ≡ long_type → ⊥) →
      is_result_of p class name t above ≡ true → t ≡ long_type → ⊥
  unfolding is_result_of class_written
  not_long class name t above other e long =
      go (or_cases (is_same_type t above) (holds (narrower_kind p class name) (λ kind. is_narrower p kind t above)) e)
    where
      narrower : (kind : ℕ) → is_narrower p kind long_type above ≡ false
      narrower kind = refl

      go : (is_same_type t above ≡ true)
          ⊎ (holds (narrower_kind p class name) (λ kind. is_narrower p kind t above) ≡ true) → ⊥
      go (inl s) = other (sym (same_type t above s) ∙ long)
      go (inr s) =
          (let k = held (narrower_kind p class name) (λ kind. is_narrower p kind t above) s in
          true≢false (sym k.2 ∙ ap (λ t. is_narrower p k.0 t above) long ∙ narrower k.0))

  -- what may be given for a class is of a class under it
  pub under_result : ((a : ℕ) → is_sub p.classes a a ≡ true) → (class a : ℕ) (name : List ℕ) (t above : WrittenType) →
      class_written p.names above ≡ Some a → is_result_of p class name t above ≡ true →
      (r : ℕ) × (class_written p.names t ≡ Some r) × (is_sub p.classes r a ≡ true)
  unfolding is_result_of
  under_result itself class a name t above n e =
      go (or_cases (is_same_type t above) (holds (narrower_kind p class name) (λ kind. is_narrower p kind t above)) e)
    where
      go : (is_same_type t above ≡ true)
          ⊎ (holds (narrower_kind p class name) (λ kind. is_narrower p kind t above) ≡ true) →
          (r : ℕ) × (class_written p.names t ≡ Some r) × (is_sub p.classes r a ≡ true)
      go (inl s) = (a, ap (class_written p.names) (same_type t above s) ∙ n, itself a)
      go (inr s) =
          let k = held (narrower_kind p class name) (λ kind. is_narrower p kind t above) s in
          let r = held (class_written p.names t)
          (λ r. holds (class_written p.names above) (λ a. is_user_class r && is_sub p.classes r k.0
          && is_sub p.classes r a)) k.2 in
          let b = held (class_written p.names above)
          (λ a. is_user_class r.0 && is_sub p.classes r.0 k.0 && is_sub p.classes r.0 a) r.2 in
          let same : b.0 ≡ a = some_inj b.0 a (sym b.1 ∙ n) in (
            r.0,
            r.1,
            subst (λ a. is_sub p.classes r.0 a ≡ true) same
                (and_true (is_user_class r.0 && is_sub p.classes r.0 k.0) (is_sub p.classes r.0 b.0) b.2).1,
          )

  -- a class type
  pub class_is : (t : WrittenType) (r : ℕ) → class_written p.names t ≡ Some r →
      (type_written p.names t ≡ Some (ClassTy r)) × (has_no_scope t ≡ false)
  unfolding class_written type_written has_no_scope
  class_is (class_type name) r e = (ap (option_map (λ class. ClassTy class)) e, refl)
  class_is _ r e = absurd (cc (e))

-- what may be given for `long` is `long`
pub long_result : (p : Declarations) (class : ℕ) (name : List ℕ) (t : WrittenType) →
    is_result_of p class name t long_type ≡ true → t ≡ long_type
unfolding is_result_of class_written
long_result p class name t e =
    elim (or_cases (is_same_type t long_type)
    (holds (narrower_kind p class name) (λ kind. is_narrower p kind t long_type))
    e) as (λ z. t ≡ long_type) [
      | inl s ↦ same_type t long_type s
      | inr s ↦
          (let k = held (narrower_kind p class name) (λ kind. is_narrower p kind t long_type) s in
          absurd (none (class_written p.names t) k.2))
    ]
  where
    none : (o : Option ℕ) → holds o (λ r. false) ≡ true → ⊥
    none None e = true≢false (sym e)
    none (Some r) e = true≢false (sym e)

-- what may be given for nothing is nothing
pub void_result : (p : Declarations) (class : ℕ) (name : List ℕ) (t : WrittenType) →
    is_result_of p class name t void_type ≡ true → t ≡ void_type
unfolding is_result_of class_written
void_result p class name t e =
    elim (or_cases (is_same_type t void_type)
    (holds (narrower_kind p class name) (λ kind. is_narrower p kind t void_type))
    e) as (λ z. t ≡ void_type) [
      | inl s ↦ same_type t void_type s
      | inr s ↦
          (let k = held (narrower_kind p class name) (λ kind. is_narrower p kind t void_type) s in
          absurd (none (class_written p.names t) k.2))
    ]
  where
    none : (o : Option ℕ) → holds o (λ r. false) ≡ true → ⊥
    none None e = true≢false (sym e)
    none (Some r) e = true≢false (sym e)

pub result_void : (p : Declarations) (class : ℕ) (name : List ℕ) (t : WrittenType) → t ≡ void_type →
    is_result_of p class name t void_type ≡ true
unfolding is_result_of is_same_type
result_void p class name t e =
    or_left (is_same_type t void_type) (holds (narrower_kind p class name) (λ kind. is_narrower p kind t void_type))
    (ap (λ t. is_same_type t void_type) e)
