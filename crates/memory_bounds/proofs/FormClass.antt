-- The class of a chain whose constructor begins with a form: it is one, and the classes under it are on the way to it.
use Rattle.std.specs.Prelude.{Option, Some, None, cond, find, nat_lt, slice_get}
use Rattle.std.proofs.lemmas.Bool.Decides.{nat_tests}
use Rattle.std.proofs.Common.{◌≡◌, ◌⊎◌, ℕ, ◌+◌, ◌<◌, not, arith, List, [], ◌∷◌, length, Bool, true, false, refl, sym, ◌∙◌, ap, inl, inr, true≢false}
use Rattle.scj_builtins.specs.Framework.{framework_classes, object}
use Rattle.scj_tree.specs.Forest.{Forest}
use Rattle.scj_rules.specs.Words.{holds, is_among}
use Rattle.scj_rules.specs.Classes.{ClassRow, all_interfaces, first_user_class, framework_rows_from, written_rows, is_sub, is_user_class, superclass_in, superclasses}
use Rattle.scj_rules.specs.Contexts.{Declarations, declarations_of}
use Rattle.scj_rules.specs.Types.{has_form}
use Rattle.scj_rules.proofs.ChainLemmas.{or_cases}
use Rattle.scj_rules.proofs.WithinLemmas.{counted-stays}
use Rattle.accepted_laws.specs.Programs.{IsAcceptedProgram}
use Rattle.accepted_laws.proofs.Interfaces.{interface_of_framework, row_is}
use Rattle.accepted_laws.proofs.Rows.{IsFrameworkRow, counted_is_written, get_from_within, object_is_top}
use Rattle.accepted_laws.proofs.ClassNumbers.{framework_count}
use Rattle.accepted_laws.proofs.ScopesOfClasses.{chain_is}
use Rattle.accepted_laws.proofs.Tools.{some_inj}
use Rattle.flow_facts.proofs.ChainInduction.{chain_next, under}
use Rattle.flow_facts.proofs.SuperConstructors.{user_no_form}
use Rattle.memory_needs.specs.Causes.{class_with_form}
use Rattle.memory_bounds.proofs.FormBodies.{GoesOn}

module _ (forest : Forest) (a : IsAcceptedProgram forest) where
  abbrev p : Declarations
  p = declarations_of forest

  -- a form begins the constructor of the class
  abbrev begins : ℕ → Bool
  begins c = holds (superclass_in p.classes c) has_form

  begins_is : (c s : ℕ) → superclass_in p.classes c ≡ Some s → begins c ≡ has_form s
  begins_is c s up = ap (λ (o : Option ℕ). holds o has_form) up

  -- ---- one step along the chain

  pub formed : (c s : ℕ) → c < length p.classes → superclass_in p.classes c ≡ Some s → has_form s ≡ true →
      class_with_form p c ≡ Some c
  formed c s l up form =
      ap (find begins) (chain_next forest a.is_accepted c s l up)
      ∙ ap (λ t. cond t (Some c) (find begins (superclasses p.classes s))) (begins_is c s up ∙ form)

  pub passed : (c s : ℕ) → c < length p.classes → superclass_in p.classes c ≡ Some s → has_form s ≡ false →
      class_with_form p c ≡ class_with_form p s
  passed c s l up none =
      ap (find begins) (chain_next forest a.is_accepted c s l up)
      ∙ ap (λ t. cond t (Some c) (find begins (superclasses p.classes s))) (begins_is c s up ∙ none)

  alone : (c : ℕ) → c < length p.classes → superclass_in p.classes c ≡ None → class_with_form p c ≡ None
  alone c l top =
      ap (find begins)
      (chain_is forest a.is_accepted c l
      ∙ ap (λ (o : Option ℕ). c ∷ (elim o as (λ z. List ℕ) [ None ↦ [] | Some b ↦ superclasses p.classes b ])) top)
      ∙ ap (λ (o : Option ℕ). cond (holds o has_form) (Some c) None) top

  -- ---- classes of the framework

  -- Object is their superclass
  super_of_framework : (c : ℕ) (row : ClassRow) → slice_get p.classes c ≡ Some row → IsFrameworkRow c row →
      (superclass_in p.classes c ≡ Some object) ⊎ ((superclass_in p.classes c ≡ None) × (c ≡ object))
  super_of_framework c row there f = of f.extends_object
    where
      is : superclass_in p.classes c ≡ row.superclass
      is = ap (λ (o : Option ClassRow). elim o as (λ z. Option ℕ) [ None ↦ None | Some r ↦ r.superclass ]) there

      of : (row.superclass ≡ Some object) ⊎ ((row.superclass ≡ None) × (c ≡ object)) →
          (superclass_in p.classes c ≡ Some object) ⊎ ((superclass_in p.classes c ≡ None) × (c ≡ object))
      of (inl e) = inl (is ∙ e)
      of (inr e) = inr (is ∙ e.0, e.1)

  top : superclass_in p.classes object ≡ None
  unfolding written_rows declarations_of framework_rows_from
  top =
      ap (λ rows. superclass_in rows object) (counted_is_written forest a.is_accepted) ∙ object_is_top p.nodes p.users

  of_user : (c j : ℕ) → c ≡ length (framework_rows_from 0 framework_classes) + j → is_user_class c ≡ true
  of_user c j e = go (nat_lt c first_user_class) refl
    where
      go : (t : Bool) → nat_lt c first_user_class ≡ t → not (nat_lt c first_user_class) ≡ true
      go true s =
          absurd
          (let l : c < first_user_class = grind (arith, nat_tests) in
          let n = framework_count in
          omega (arith, l, e, n))
      go false s = ap not s

  -- no form stands above them
  pub framework_none : (c : ℕ) → c < length p.classes → is_user_class c ≡ false → class_with_form p c ≡ None
  framework_none c l framework =
      elim (row_is forest a.is_accepted c row.0 row.1) as (λ z. class_with_form p c ≡ None) [
        | inl f ↦ of (super_of_framework c row.0 row.1 f)
        | inr u ↦ absurd (true≢false (sym (of_user c u.0 u.1) ∙ framework))
      ]
    where
      row : (r : ClassRow) × (slice_get p.classes c ≡ Some r)
      row = get_from_within p.classes c l

      of : (superclass_in p.classes c ≡ Some object) ⊎ ((superclass_in p.classes c ≡ None) × (c ≡ object)) →
          class_with_form p c ≡ None
      of (inl e) = passed c object l e refl ∙ alone object (counted-stays forest c object e) top
      of (inr e) = alone c l e.0

  -- ---- classes on the way to a form

  -- the constructor of the class, or of one above it, begins with a form
  pub record OnWay (c : ℕ) : Type 0 where
    pub within : c < length p.classes
    pub of : ℕ
    pub is : class_with_form p c ≡ Some of

  user_is : (c : ℕ) → OnWay c → is_user_class c ≡ true
  user_is c w = go (is_user_class c) refl
    where
      go : (t : Bool) → is_user_class c ≡ t → is_user_class c ≡ true
      go true e = e
      go false e = absurd (let none = framework_none c w.within e in let is = w.is in cc (none, is))

  pub way_user : (c : ℕ) → OnWay c → is_user_class c ≡ true
  way_user c w = user_is c w

  -- the next class is on the way, or asks for the form
  pub goes_on : (c s : ℕ) → OnWay c → superclass_in p.classes c ≡ Some s → GoesOn OnWay s
  goes_on c s w up = go (has_form s) refl
    where
      no_user : (t : Bool) → is_user_class s ≡ t → has_form s ≡ true → is_user_class s ≡ false
      no_user true e form = absurd (true≢false (sym form ∙ user_no_form s e))
      no_user false e form = e

      go : (t : Bool) → has_form s ≡ t → GoesOn OnWay s
      go true form = inr (no_user (is_user_class s) refl form, form)
      go false none = inl (user_is s above, above)
        where
          above : OnWay s
          above = record {
            within = counted-stays forest c s up;
            of = w.of;
            is = sym (passed c s w.within up none) ∙ w.is;
          }

  -- ---- the class with the form is one

  pub one_class : (class c s : ℕ) → class < length p.classes → c < length p.classes →
      superclass_in p.classes c ≡ Some s → has_form s ≡ true → is_sub p.classes class c ≡ true →
      class_with_form p class ≡ Some c
  unfolding is_sub
  one_class class c s l m up form sub =
      elim (or_cases (is_among c (superclasses p.classes class)) (is_among c (all_interfaces p.classes class)) sub) as
      (λ z. class_with_form p class ≡ Some c) [
        | inl e ↦ under forest a.is_accepted c (λ on. class_with_form p on ≡ Some c) (formed c s m up form)
            (λ on x n q above h. along on x n q h) class l e
        | inr e ↦ absurd (no_interface (interface_of_framework forest a.is_accepted class c e))
      ]
    where
      along : (on x : ℕ) → on < length p.classes → superclass_in p.classes on ≡ Some x → class_with_form p x ≡ Some c →
          class_with_form p on ≡ Some c
      along on x n q h = go (has_form x) refl
        where
          framework : (t : Bool) → is_user_class x ≡ t → has_form x ≡ true → is_user_class x ≡ false
          framework true e k = absurd (true≢false (sym k ∙ user_no_form x e))
          framework false e k = e

          go : (t : Bool) → has_form x ≡ t → class_with_form p on ≡ Some c
          go true k =
              absurd
              (let none = framework_none x (counted-stays forest on x q) (framework (is_user_class x) refl k) in
              cc (none, h))
          go false k = passed on x n q k ∙ h

      no_interface : (row : ClassRow) × (slice_get p.classes c ≡ Some row) × IsFrameworkRow c row → ⊥
      no_interface (row, there, f) = of (super_of_framework c row there f)
        where
          of : (superclass_in p.classes c ≡ Some object) ⊎ ((superclass_in p.classes c ≡ None) × (c ≡ object)) → ⊥
          of (inl e) =
              (let same : s ≡ object = some_inj s object (sym up ∙ e) in
              true≢false (sym form ∙ ap has_form same))
          of (inr e) = (let none = e.0 in cc (none, up))

  -- a class under a class of the framework that asks for a form is this class, or is under one with that form
  pub under_form : (class h : ℕ) → has_form h ≡ true → class < length p.classes →
      is_among h (superclasses p.classes class) ≡ true →
      (class ≡ h) ⊎ ((c : ℕ) × (class_with_form p class ≡ Some c) × (superclass_in p.classes c ≡ Some h))
  under_form class h form l among =
      under forest a.is_accepted h (λ on. (on ≡ h)
      ⊎ ((c : ℕ) × (class_with_form p on ≡ Some c) × (superclass_in p.classes c ≡ Some h))) (inl refl)
      (λ on x m up above q. along on x m up q) class l among
    where
      framework : (x : ℕ) (t : Bool) → is_user_class x ≡ t → has_form x ≡ true → is_user_class x ≡ false
      framework x true e k = absurd (true≢false (sym k ∙ user_no_form x e))
      framework x false e k = e

      more : (on x c : ℕ) (t : Bool) → has_form x ≡ t → on < length p.classes → superclass_in p.classes on ≡ Some x →
          class_with_form p x ≡ Some c → class_with_form p on ≡ Some c
      more on x c true k m up q =
          absurd
          (let none = framework_none x (counted-stays forest on x up) (framework x (is_user_class x) refl k) in cc (none, q))
      more on x c false k m up q = passed on x m up k ∙ q

      along : (on x : ℕ) → on < length p.classes → superclass_in p.classes on ≡ Some x →
          (x ≡ h) ⊎ ((c : ℕ) × (class_with_form p x ≡ Some c) × (superclass_in p.classes c ≡ Some h)) →
          (on ≡ h) ⊎ ((c : ℕ) × (class_with_form p on ≡ Some c) × (superclass_in p.classes c ≡ Some h))
      along on x m up (inl e) =
          inr (on, formed on x m up (ap has_form e ∙ form), up ∙ ap (λ n. Some n) e)
      along on x m up (inr q) = inr (q.0, more on x q.0 (has_form x) refl m up q.1, q.2)

  -- so the class that has the form is under that one
  pub handler_form : (class h d : ℕ) → has_form h ≡ true → class < length p.classes →
      is_among h (superclasses p.classes class) ≡ true → class_with_form p class ≡ Some d →
      superclass_in p.classes d ≡ Some h
  handler_form class h d form l among is = of (under_form class h form l among)
    where
      framework : (t : Bool) → is_user_class h ≡ t → is_user_class h ≡ false
      framework true e = absurd (true≢false (sym form ∙ user_no_form h e))
      framework false e = e

      of : (class ≡ h) ⊎ ((c : ℕ) × (class_with_form p class ≡ Some c) × (superclass_in p.classes c ≡ Some h)) →
          superclass_in p.classes d ≡ Some h
      of (inl e) =
          absurd
          (let none = framework_none class l (ap is_user_class e ∙ framework (is_user_class h) refl) in cc (none, is))
      of (inr q) = ap (superclass_in p.classes) (some_inj d q.0 (sym is ∙ q.1)) ∙ q.2
