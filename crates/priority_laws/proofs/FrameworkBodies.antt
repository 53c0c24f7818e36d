-- In an accepted program the bodies that the framework calls in a release, `run` and `handleAsyncEvent`, aren't
-- synchronized.
use Rattle.std.proofs.Common.{◌≡◌, ℕ, ◌+◌, ◌<◌, ◌==◌, Bool, true, false, not, ◌||◌, ◌&&◌, List, [], ◌∷◌, length, ◌⊎◌, inl, inr, Option, Some, None, refl, sym, ap, ◌∙◌, subst, arith}
use Rattle.std.specs.Prelude.{slice_get, is_some, codes}
use Rattle.std.specs.List.{list_any}
use Rattle.std.proofs.lemmas.Option.{slice_get_within}
use Rattle.scj_builtins.specs.Framework.{object, runnable, safelet, periodic_handler, aperiodic_handler, framework_classes, framework_methods}
use Rattle.scj_tree.specs.Forest.{Forest}
use Rattle.scj_rules.specs.declared.views.Body.{Body}
use Rattle.scj_rules.specs.Words.{holds, is_among}
use Rattle.scj_rules.specs.Classes.{ClassRow, FoundMethod, is_user_class, written_rows, framework_rows_from, framework_row, framework_method, framework_methods_on, superclasses, all_interfaces, is_sub, superclass_in, own_method, framework_row_named}
use Rattle.scj_rules.specs.Contexts.{Declarations, declarations_of}
use Rattle.scj_rules.specs.ClassRules.{is_framework_method, inherits_as, implements_method, has_method_of_node, numbers_from}
use Rattle.scj_rules.specs.ScopeRules.{is_handler, is_runnable}
use Rattle.scj_rules.specs.Bodies.{body_named}
use Rattle.scj_rules.proofs.WithinLemmas.{counted-stays}
use Rattle.accepted_laws.specs.Programs.{IsAcceptedProgram}
use Rattle.accepted_laws.proofs.Fields.{In, in_left, in_filter, in_among}
use Rattle.accepted_laws.proofs.Rows.{counted_is_written, object_is_top}
use Rattle.accepted_laws.proofs.ScopesOfClasses.{chain_is}
use Rattle.scj_model.specs.Code.{code_of}
use Rattle.priority_laws.specs.Premises.{is_synchronized}
use Rattle.priority_laws.proofs.FrameworkMethods.{IsOfUser, body_plain, any_passes, in_numbers, along_some, head_same, tail_same, in_cases, same_is}

module _ (forest : Forest) (a : IsAcceptedProgram forest) where
  abbrev p : Declarations
  p = declarations_of forest

  -- ---- classes of the framework among superclasses

  -- of two classes of a chain one stands above the other
  stand_in_line : (xs : List ℕ) (class : ℕ) → class < length p.classes → superclasses p.classes class ≡ xs → (y h : ℕ) →
      In y xs → In h xs → In h (superclasses p.classes y) ⊎ In y (superclasses p.classes h)
  stand_in_line [] class l e y h i j = elim i [ ]
  stand_in_line (x ∷ xs) class l e y h i j =
      by i j (λ b k. stand_in_line xs b (counted-stays forest class b k.0) k.1 y h)
    where
      unrolled : class
          ∷ (elim (superclass_in p.classes class) as (λ z. List ℕ) [ None ↦ [] | Some b ↦ superclasses p.classes b ])
          ≡ x ∷ xs
      unrolled = sym (chain_is forest a.is_accepted class l) ∙ e

      first : class ≡ x
      first = head_same class x _ xs unrolled

      rest_is : (elim (superclass_in p.classes class) as (λ z. List ℕ)
          [ None ↦ [] | Some b ↦ superclasses p.classes b ]) ≡ xs
      rest_is = tail_same class x _ xs unrolled

      above : (o : Option ℕ) → superclass_in p.classes class ≡ o →
          (elim o as (λ z. List ℕ) [ None ↦ [] | Some b ↦ superclasses p.classes b ]) ≡ xs → In y xs → In h xs →
          ((b : ℕ) → (superclass_in p.classes class ≡ Some b) × (superclasses p.classes b ≡ xs) → In y xs → In h xs →
          In h (superclasses p.classes y) ⊎ In y (superclasses p.classes h)) →
          In h (superclasses p.classes y) ⊎ In y (superclasses p.classes h)
      above None n k i j more = none_of xs k i
        where
          none_of : {B : Type 0} (zs : List ℕ) → [] ≡ zs → In y zs → B
          none_of [] k i = elim i [ ]
          none_of (z ∷ zs) k i = absurd (cc (k))
      above (Some b) n k i j more = more b (n, k) i j

      by : In y (x ∷ xs) → In h (x ∷ xs) →
          ((b : ℕ) → (superclass_in p.classes class ≡ Some b) × (superclasses p.classes b ≡ xs) → In y xs → In h xs →
          In h (superclasses p.classes y) ⊎ In y (superclasses p.classes h)) →
          In h (superclasses p.classes y) ⊎ In y (superclasses p.classes h)
      by i j more = go (in_cases y x xs i) (in_cases h x xs j)
        where
          whole : superclasses p.classes x ≡ x ∷ xs
          whole = ap (superclasses p.classes) (sym first) ∙ e

          go : (y ≡ x) ⊎ In y xs → (h ≡ x) ⊎ In h xs → In h (superclasses p.classes y) ⊎ In y (superclasses p.classes h)
          go (inl s) k = inl (subst (λ zs. In h zs) (sym whole ∙ ap (superclasses p.classes) (sym s)) j)
          go (inr m) (inl s) = inr (subst (λ zs. In y zs) (sym whole ∙ ap (superclasses p.classes) (sym s)) i)
          go (inr m) (inr n) = above (superclass_in p.classes class) refl rest_is m n more

  module _ (name : List ℕ) (h : ℕ) (has : is_some (own_method p.classes name h) ≡ true)
      (up : superclass_in p.classes h ≡ Some object) (within : h < length p.classes)
      (framework : is_user_class h ≡ false) where
    -- above such a class of the framework stands Object alone
    only_object : superclasses p.classes h ≡ h ∷ object ∷ []
    unfolding written_rows declarations_of framework_rows_from
    only_object =
        chain_is forest a.is_accepted h within
        ∙ (ap (λ (o : Option ℕ). h ∷ (elim o as (λ z. List ℕ) [ None ↦ [] | Some b ↦ superclasses p.classes b ])) up
        ∙ ap (λ xs. h ∷ xs)
        (chain_is forest a.is_accepted object (counted-stays forest h object up)
        ∙ ap (λ (o : Option ℕ). object ∷ (elim o as (λ z. List ℕ) [ None ↦ [] | Some b ↦ superclasses p.classes b ]))
        top))
      where
        top : superclass_in p.classes object ≡ None
        top = ap (λ rows. superclass_in rows object) (counted_is_written forest a.is_accepted)
            ∙ object_is_top p.nodes p.users

    no_user : (y : ℕ) → In y (h ∷ object ∷ []) → is_user_class y ≡ true → ⊥
    unfolding framework_classes
    no_user y i u = by (in_cases y h (object ∷ []) i)
      where
        last : (y ≡ object) ⊎ In y [] → ⊥
        last (inl e) = let f : is_user_class object ≡ false = refl in cc (sym (ap (λ n. is_user_class n) e) ∙ u, f)
        last (inr j) = elim j [ ]

        by : (y ≡ h) ⊎ In y (object ∷ []) → ⊥
        by (inl e) = cc (sym (ap (λ n. is_user_class n) e) ∙ u, framework)
        by (inr j) = last (in_cases y object [] j)

    plain_above : (class : ℕ) (body : Body) → class < length p.classes → In h (superclasses p.classes class) →
        body_named p class name ≡ Some body → is_synchronized (code_of forest) body ≡ false
    unfolding is_framework_method framework_row_named
    plain_above class body l i e = body_plain forest a class name body e overrides
      where
        below : (f : FoundMethod) → IsOfUser forest a class name f → In h (superclasses p.classes f.on)
        below f u = by (stand_in_line (superclasses p.classes class) class l refl f.on h u.on_chain i)
          where
            by : In h (superclasses p.classes f.on) ⊎ In f.on (superclasses p.classes h) →
                In h (superclasses p.classes f.on)
            by (inl j) = j
            by (inr j) = absurd (no_user f.on (subst (λ xs. In f.on xs) only_object j) u.user.on_user_class)

        overrides : (f : FoundMethod) → IsOfUser forest a class name f →
            is_framework_method p (Some f.on) f.method.declared.node name ≡ true
        overrides f u =
            ap (λ b. b || list_any (inherits_as p (safelet ∷ runnable ∷ []) f.method.declared.node name)
            (numbers_from 0 p.classes))
            (along_some (own_method p.classes name) h _
            (in_filter (λ c. not (is_user_class c)) h _
            (in_left h (superclasses p.classes f.on) (all_interfaces p.classes f.on) (below f u))
            (ap not framework)) has)

  row_within : (h : ℕ) (row : ClassRow) → slice_get p.written h ≡ Some row → h < length p.classes
  row_within h row e =
      slice_get_within p.classes h row (ap (λ rows. slice_get rows h) (counted_is_written forest a.is_accepted) ∙ e)

  -- ---- `handleAsyncEvent`

  pub handle_plain : (class : ℕ) (body : Body) → class < length p.classes → is_handler p class ≡ true →
      body_named p class (codes "handleAsyncEvent") ≡ Some body → is_synchronized (code_of forest) body ≡ false
  unfolding declarations_of own_method written_rows framework_classes framework_rows_from framework_row
      framework_methods_on framework_methods framework_method
  handle_plain class body l i e =
      by (is_among periodic_handler (superclasses p.classes class))
      (is_among aperiodic_handler (superclasses p.classes class)) refl refl i
    where
      of : ℕ → Type 0
      of h = In h (superclasses p.classes class) → is_synchronized (code_of forest) body ≡ false

      periodic : of periodic_handler
      periodic j =
          plain_above (codes "handleAsyncEvent") periodic_handler
          (ap (λ rows. is_some (own_method rows (codes "handleAsyncEvent") periodic_handler))
          (counted_is_written forest a.is_accepted))
          (ap (λ rows. superclass_in rows periodic_handler) (counted_is_written forest a.is_accepted))
          (row_within periodic_handler _ refl) refl class body l j e

      aperiodic : of aperiodic_handler
      aperiodic j =
          plain_above (codes "handleAsyncEvent") aperiodic_handler
          (ap (λ rows. is_some (own_method rows (codes "handleAsyncEvent") aperiodic_handler))
          (counted_is_written forest a.is_accepted))
          (ap (λ rows. superclass_in rows aperiodic_handler) (counted_is_written forest a.is_accepted))
          (row_within aperiodic_handler _ refl) refl class body l j e

      by : (s t : Bool) → is_among periodic_handler (superclasses p.classes class) ≡ s →
          is_among aperiodic_handler (superclasses p.classes class) ≡ t → (s || t) ≡ true →
          is_synchronized (code_of forest) body ≡ false
      by true t f g k = periodic (in_among periodic_handler (superclasses p.classes class) f)
      by false true f g k = aperiodic (in_among aperiodic_handler (superclasses p.classes class) g)
      by false false f g k = absurd (cc (k))

  -- ---- `run`

  has_run : is_some (own_method p.classes (codes "run") runnable) ≡ true
  unfolding declarations_of own_method written_rows framework_classes framework_rows_from framework_row
      framework_methods_on framework_methods framework_method
  has_run = ap (λ rows. is_some (own_method rows (codes "run") runnable)) (counted_is_written forest a.is_accepted)
      ∙ refl

  implemented_plain : (class : ℕ) (body : Body) → class < length p.classes →
      is_among runnable (all_interfaces p.classes class) ≡ true → body_named p class (codes "run") ≡ Some body →
      is_synchronized (code_of forest) body ≡ false
  unfolding is_framework_method inherits_as
  implemented_plain class body l i e = body_plain forest a class (codes "run") body e framework
    where
      implements : implements_method p (safelet ∷ runnable ∷ []) (codes "run") class ≡ true
      implements =
          any_passes (λ i. is_among i (safelet ∷ runnable ∷ []) && is_some (own_method p.classes (codes "run") i))
          runnable (all_interfaces p.classes class) (in_among runnable (all_interfaces p.classes class) i) has_run

      inherited : (f : FoundMethod) → IsOfUser forest a class (codes "run") f →
          inherits_as p (safelet ∷ runnable ∷ []) f.method.declared.node (codes "run") class ≡ true
      inherited f u =
          ap (λ b. b && has_method_of_node p f.method.declared.node (codes "run") class) implements
          ∙ (ap
          (λ (o : Option FoundMethod). holds o (λ (g : FoundMethod). not (is_some g.method.builtin)
          && (g.method.declared.node == f.method.declared.node))) u.is
          ∙ (ap (λ (o : Option ℕ). not (is_some o) && (f.method.declared.node == f.method.declared.node))
          u.user.not_builtin ∙ same_is f.method.declared.node))

      or_any : (t u : Bool) → u ≡ true → (t || u) ≡ true
      or_any true u h = refl
      or_any false u h = h

      framework : (f : FoundMethod) → IsOfUser forest a class (codes "run") f →
          is_framework_method p (Some f.on) f.method.declared.node (codes "run") ≡ true
      framework f u =
          let here_ : In (0 + class) (numbers_from 0 p.classes) = in_numbers p.classes 0 class l in
          let same : 0 + class ≡ class = omega arith in
          or_any _ _ (any_passes (inherits_as p (safelet ∷ runnable ∷ []) f.method.declared.node (codes "run")) class
          (numbers_from 0 p.classes) (subst (λ n. In n (numbers_from 0 p.classes)) same here_) (inherited f u))

  -- Runnable stands among the superclasses or the interfaces
  pub run_plain : (class : ℕ) (body : Body) → class < length p.classes → is_runnable p class ≡ true →
      body_named p class (codes "run") ≡ Some body → is_synchronized (code_of forest) body ≡ false
  unfolding is_sub declarations_of written_rows framework_classes framework_rows_from framework_row
  run_plain class body l i e =
      by (is_among runnable (superclasses p.classes class)) (is_among runnable (all_interfaces p.classes class)) refl
      refl i
    where
      by : (s t : Bool) → is_among runnable (superclasses p.classes class) ≡ s →
          is_among runnable (all_interfaces p.classes class) ≡ t → (s || t) ≡ true →
          is_synchronized (code_of forest) body ≡ false
      by true t f g k =
          plain_above (codes "run") runnable has_run
          (ap (λ rows. superclass_in rows runnable) (counted_is_written forest a.is_accepted))
          (row_within runnable _ refl) refl class body l (in_among runnable (superclasses p.classes class) f) e
      by false true f g k = implemented_plain class body l g e
      by false false f g k = absurd (cc (k))
