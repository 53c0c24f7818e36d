-- Subtyping in an accepted program is reflexive and transitive (JLS 4.10.2), and so is assignment of references (JLS 5.2).
use Rattle.std.proofs.Common.{◌≡◌, ℕ, ◌<◌, zero, suc, List, [], ◌∷◌, length, refl, sym, ap, ◌∙◌, subst, arith, Option, Some, None, true, ◌||◌, true≢false, slice_get, ◌==◌, option_and_then, ◌⊎◌, inl, inr}
use Rattle.std.proofs.lemmas.Option.{slice_get_within}
use Rattle.scj_builtins.specs.Framework.{object}
use Rattle.scj_tree.specs.Forest.{Forest}
use Rattle.scj_rules.specs.declared.typing.Ty.{Ty}
use Rattle.scj_rules.specs.declared.typing.Ty.TheVariants.{Int, Bool as Boolean, Void, NullTy, Label, Class as ClassTy, IntArray, BoolArray, ClassArray}
use Rattle.scj_rules.specs.Chains.{Follows, one, more}
use Rattle.scj_rules.specs.Words.{is_among, chain}
use Rattle.scj_rules.specs.Classes.{ClassRow, superclass_in, superclasses, interfaces_in, all_interfaces, is_sub}
use Rattle.scj_rules.specs.Contexts.{Declarations, declarations_of}
use Rattle.scj_rules.specs.Types.{assigns, are_same}
use Rattle.scj_rules.specs.Phases.{IsAccepted}
use Rattle.scj_rules.proofs.ChainLemmas.{chain_reaches, or_cases, or_left, or_right, is_same_number}
use Rattle.scj_rules.proofs.WithinLemmas.{counted-stays}
use Rattle.accepted_laws.proofs.ChainSteps.{ends}
use Rattle.accepted_laws.proofs.Fields.{In, here, there, in_among, in_flat, chain_on}
use Rattle.accepted_laws.proofs.Interfaces.{flat_in, interface_of_framework}
use Rattle.accepted_laws.proofs.Rows.{IsFrameworkRow}
use Rattle.accepted_laws.proofs.ClassChains.{acyclic, object_alone_is_top, top_row}

pub among_in : (x : ℕ) (xs : List ℕ) → In x xs → is_among x xs ≡ true
among_in x [] h = elim h [ ]
among_in x (y ∷ xs) here = or_left (x == y) (is_among x xs) (is_same_number x x refl)
among_in x (y ∷ xs) (there h) = or_right (x == y) (is_among x xs) (among_in x xs h)

no_element : (x : ℕ) (xs : List ℕ) → xs ≡ [] → In x xs → ⊥
no_element x [] e h = elim h [ ]
no_element x (y ∷ xs) e h = cc (e)

-- the head of a chain with a bound is its first number
chain_head : (next : ℕ → Option ℕ) (n a : ℕ) → 0 < n → is_among a (chain next n a) ≡ true
unfolding chain
chain_head next zero a l = absurd (omega (arith, l))
chain_head next (suc n) a l = or_left (a == a) _ (is_same_number a a refl)

module _ (forest : Forest) (accepted : IsAccepted forest) where
  abbrev p : Declarations
  p = declarations_of forest

  abbrev next : ℕ → Option ℕ
  next = superclass_in p.classes

  -- there is a class: Object
  pub some_classes : 0 < length p.classes
  some_classes = let r = top_row forest accepted in slice_get_within p.classes object r.0 r.1

  -- each class is a subtype of itself
  pub is_sub_itself : (a : ℕ) → is_sub p.classes a a ≡ true
  unfolding is_sub superclasses
  is_sub_itself a = or_left (is_among a (chain next (length p.classes) a)) _ (chain_head next (length p.classes) a some_classes)

  -- Object is above each class
  pub under_object : (a : ℕ) → a < length p.classes → is_among object (superclasses p.classes a) ≡ true
  unfolding superclasses
  under_object a l = ends next (length p.classes) (counted-stays forest) (acyclic forest accepted) object (object_alone_is_top forest accepted) a l

  reached : (a b : ℕ) → a < length p.classes → is_among b (superclasses p.classes a) ≡ true → (a ≡ b) ⊎ Follows next a b
  unfolding superclasses
  reached a b l h = (chain_reaches next (length p.classes) a b (counted-stays forest) l).0 h

  follows_below : (a b : ℕ) → Follows next a b → b < length p.classes
  follows_below a b (one e) = counted-stays forest a b e
  follows_below a b (more e f) = follows_below _ b f

  pub above_below : (a b : ℕ) → a < length p.classes → is_among b (superclasses p.classes a) ≡ true → b < length p.classes
  above_below a b l h = elim (reached a b l h) as (λ z. b < length p.classes) [ inl e ↦ subst (λ x. x < length p.classes) e l | inr f ↦ follows_below a b f ]

  pub is_above_on : (a b c : ℕ) → a < length p.classes → is_among b (superclasses p.classes a) ≡ true → is_among c (superclasses p.classes b) ≡ true → is_among c (superclasses p.classes a) ≡ true
  is_above_on a b c l h k = chain_on p (counted-stays forest) a b c l (above_below a b l h) h k

  -- the interfaces of a class above are interfaces
  interfaces_on : (a b i : ℕ) → a < length p.classes → is_among b (superclasses p.classes a) ≡ true → is_among i (all_interfaces p.classes b) ≡ true → is_among i (all_interfaces p.classes a) ≡ true
  unfolding all_interfaces
  interfaces_on a b i l h k =
      let q = flat_in (interfaces_in p.classes) i (superclasses p.classes b) (in_among i (all_interfaces p.classes b) k) in
      among_in i (all_interfaces p.classes a) (in_flat (interfaces_in p.classes) i q.0 (superclasses p.classes a) (in_among q.0 (superclasses p.classes a) (is_above_on a b q.0 l h (among_in q.0 (superclasses p.classes b) q.1))) q.2)

  next_is : (a : ℕ) (row : ClassRow) → slice_get p.classes a ≡ Some row → next a ≡ row.superclass
  next_is a row e = ap (λ (o : Option ClassRow). option_and_then (λ (row : ClassRow). row.superclass) o) e

  object_next : next object ≡ None
  object_next = let r = top_row forest accepted in next_is object r.0 r.1 ∙ r.2

  -- above an interface stands Object alone
  above_interface : (i c : ℕ) (row : ClassRow) → slice_get p.classes i ≡ Some row → IsFrameworkRow i row → is_among c (superclasses p.classes i) ≡ true → (i ≡ c) ⊎ (c ≡ object)
  above_interface i c row e k h = go (reached i c (slice_get_within p.classes i row e) h)
    where
      last : (b : ℕ) → b ≡ object → Follows next b c → ⊥
      last b s (one {b = x} f) = (let z : None ≡ Some c = sym (ap next s ∙ object_next) ∙ f in cc (z))
      last b s (more {b = x} f g) = (let z : None ≡ Some x = sym (ap next s ∙ object_next) ∙ f in cc (z))

      step : (b : ℕ) → next i ≡ Some b → b ≡ object
      step b f = elim k.extends_object as (λ z. b ≡ object) [
        | inl s ↦ (let z : Some b ≡ Some object = sym f ∙ next_is i row e ∙ s in cc (z))
        | inr s ↦ absurd (let z : None ≡ Some b = sym (next_is i row e ∙ s.0) ∙ f in cc (z))
      ]

      go : (i ≡ c) ⊎ Follows next i c → (i ≡ c) ⊎ (c ≡ object)
      go (inl s) = inl s
      go (inr (one f)) = inr (step c f)
      go (inr (more {b = b} f g)) = absurd (last b (step b f) g)

  -- and it has no interfaces itself
  no_interface_above : (i c : ℕ) (row : ClassRow) → slice_get p.classes i ≡ Some row → IsFrameworkRow i row → is_among c (all_interfaces p.classes i) ≡ true → ⊥
  unfolding all_interfaces
  no_interface_above i c row e k h =
      let q = flat_in (interfaces_in p.classes) c (superclasses p.classes i) (in_among c (all_interfaces p.classes i) h) in
      go q.0 (above_interface i q.0 row e k (among_in q.0 (superclasses p.classes i) q.1)) q.2
    where
      empty : (x : ℕ) (row : ClassRow) → slice_get p.classes x ≡ Some row → row.interfaces ≡ [] → In c (interfaces_in p.classes x) → ⊥
      empty x row e n h = no_element c (interfaces_in p.classes x) (ap (λ (o : Option ClassRow). elim o as (λ _. List ℕ) [ None ↦ [] | Some row ↦ row.interfaces ]) e ∙ n) h

      go : (x : ℕ) → (i ≡ x) ⊎ (x ≡ object) → In c (interfaces_in p.classes x) → ⊥
      go x (inl s) h = empty x row (ap (slice_get p.classes) (sym s) ∙ e) k.implements_nothing h
      go x (inr s) h = (let r = top_row forest accepted in empty x r.0 (ap (slice_get p.classes) s ∙ r.1) r.3 h)

  -- a subtype of a subtype is a subtype
  pub is_sub_on : (a b c : ℕ) → a < length p.classes → is_sub p.classes a b ≡ true → is_sub p.classes b c ≡ true → is_sub p.classes a c ≡ true
  unfolding is_sub
  is_sub_on a b c l h k = by_first (or_cases (is_among b (superclasses p.classes a)) (is_among b (all_interfaces p.classes a)) h) (or_cases (is_among c (superclasses p.classes b)) (is_among c (all_interfaces p.classes b)) k)
    where
      by_class : is_among c (superclasses p.classes a) ≡ true → (is_among c (superclasses p.classes a) || is_among c (all_interfaces p.classes a)) ≡ true
      by_class e = or_left (is_among c (superclasses p.classes a)) (is_among c (all_interfaces p.classes a)) e

      by_interface : is_among c (all_interfaces p.classes a) ≡ true → (is_among c (superclasses p.classes a) || is_among c (all_interfaces p.classes a)) ≡ true
      by_interface e = or_right (is_among c (superclasses p.classes a)) (is_among c (all_interfaces p.classes a)) e

      by_first : (is_among b (superclasses p.classes a) ≡ true) ⊎ (is_among b (all_interfaces p.classes a) ≡ true) → (is_among c (superclasses p.classes b) ≡ true) ⊎ (is_among c (all_interfaces p.classes b) ≡ true)
          → (is_among c (superclasses p.classes a) || is_among c (all_interfaces p.classes a)) ≡ true
      by_first (inl x) (inl y) = by_class (is_above_on a b c l x y)
      by_first (inl x) (inr y) = by_interface (interfaces_on a b c l x y)
      by_first (inr x) (inl y) =
          let r = interface_of_framework forest accepted a b x in
          elim (above_interface b c r.0 r.1 r.2 y) as (λ z. (is_among c (superclasses p.classes a) || is_among c (all_interfaces p.classes a)) ≡ true) [
            | inl s ↦ by_interface (subst (λ z. is_among z (all_interfaces p.classes a) ≡ true) s x)
            | inr s ↦ by_class (subst (λ z. is_among z (superclasses p.classes a) ≡ true) (sym s) (under_object a l))
          ]
      by_first (inr x) (inr y) = absurd (let r = interface_of_framework forest accepted a b x in no_interface_above b c r.0 r.1 r.2 y)

  -- references of a class may be assigned to itself
  pub assigns_itself : (a : ℕ) → assigns p.classes (ClassTy a) (ClassTy a) ≡ true
  unfolding assigns
  assigns_itself a = is_sub_itself a

  pub assigns_on : (a : ℕ) (t u : Ty) → a < length p.classes → assigns p.classes (ClassTy a) t ≡ true → assigns p.classes t u ≡ true → assigns p.classes (ClassTy a) u ≡ true
  unfolding assigns are_same
  assigns_on a (ClassTy b) (ClassTy c) l h k = is_sub_on a b c l h k
  assigns_on a (ClassTy b) Int l h k = k
  assigns_on a (ClassTy b) Boolean l h k = k
  assigns_on a (ClassTy b) Void l h k = k
  assigns_on a (ClassTy b) NullTy l h k = k
  assigns_on a (ClassTy b) Label l h k = k
  assigns_on a (ClassTy b) IntArray l h k = k
  assigns_on a (ClassTy b) BoolArray l h k = k
  assigns_on a (ClassTy b) (ClassArray c) l h k = k
  assigns_on a Int u l h k = absurd (true≢false (sym h))
  assigns_on a Boolean u l h k = absurd (true≢false (sym h))
  assigns_on a Void u l h k = absurd (true≢false (sym h))
  assigns_on a NullTy u l h k = absurd (true≢false (sym h))
  assigns_on a Label u l h k = absurd (true≢false (sym h))
  assigns_on a IntArray u l h k = absurd (true≢false (sym h))
  assigns_on a BoolArray u l h k = absurd (true≢false (sym h))
  assigns_on a (ClassArray c) u l h k = absurd (true≢false (sym h))
