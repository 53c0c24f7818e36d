-- The interfaces of an accepted program are classes of the framework, and so are the methods that come from them.
use Rattle.std.proofs.Common.{◌≡◌, ℕ, ◌+◌, List, [], ◌∷◌, ◌++◌, length, map, filter, filter_map, flat_map, find, refl, sym, ap, ◌∙◌, subst, Option, Some, None, Bool, true, false, not, ◌||◌, true≢false, slice_get, ◌==◌, if◌then◌else◌, option_and_then, option_map, is_some, ◌⊎◌, inl, inr}
use Rattle.std.specs.List.{cons_option}
use Rattle.scj_base.specs.Bytes.{is_same}
use Rattle.scj_builtins.specs.declared.methods.FrameworkMethod.{FrameworkMethod}
use Rattle.scj_builtins.specs.declared.kinds.ClassKind.TheVariants.{Abstract as abstract_class, Concrete as concrete_class}
use Rattle.scj_builtins.specs.Framework.{framework_classes, framework_methods}
use Rattle.scj_tree.specs.declared.nodes.Node.{Node}
use Rattle.scj_tree.specs.Forest.{Forest}
use Rattle.scj_rules.specs.declared.scopes.Written.{Written}
use Rattle.scj_rules.specs.Words.{is_among, along, holds}
use Rattle.scj_rules.specs.Views.{WrittenClass, DeclaredMethod}
use Rattle.scj_rules.specs.Classes.{ClassRow, FoundMethod, first_user_class, class_number, framework_rows_from, framework_method, framework_methods_on, user_row, superclasses, interfaces_in, all_interfaces, own_method, is_implemented, is_forbidden_interface, is_forbidden_superclass, forbidden_interfaces, forbidden_supers, with_kinds, kinds_of, class_names, user_classes}
use Rattle.scj_rules.specs.ClassRules.{c10}
use Rattle.scj_rules.specs.Contexts.{Declarations, declarations_of}
use Rattle.scj_rules.specs.Phases.{IsAccepted}
use Rattle.accepted_laws.proofs.Breaks.{both_empty}
use Rattle.accepted_laws.proofs.Fields.{In, here, there, in_among, along_in}
use Rattle.accepted_laws.proofs.Rows.{IsFrameworkRow, IsUserRow, row_of, counted_is_written, at_class_unbroken, none_broken}
use Rattle.accepted_laws.proofs.Tools.{some_inj}

-- ---- elements of lists

in_either : {A : Type 0} (y : A) (ys zs : List A) → In y (ys ++ zs) → In y ys ⊎ In y zs
in_either y [] zs h = inr h
in_either y (z ∷ ys) zs here = inl here
in_either y (z ∷ ys) zs (there h) = elim (in_either y ys zs h) as (λ s. In y (z ∷ ys) ⊎ In y zs) [ inl a ↦ inl (there a) | inr b ↦ inr b ]

pub flat_in : {A B : Type 0} (f : A → List B) (y : B) (xs : List A) → In y (flat_map f xs) → (x : A) × In x xs × In y (f x)
flat_in f y [] h = elim h [ ]
flat_in {A} {B} f y (x ∷ xs) h = go (in_either y (f x) (flat_map f xs) h) (flat_in f y xs)
  where
    go : In y (f x) ⊎ In y (flat_map f xs) → (In y (flat_map f xs) → (w : A) × In w xs × In y (f w)) → (w : A) × In w (x ∷ xs) × In y (f w)
    go (inl a) ih = (x, here, a)
    go (inr b) ih = (let q = ih b in (q.0, there q.1, q.2))

pub mapped_in : {A B : Type 0} (f : A → Option B) (y : B) (xs : List A) → In y (filter_map f xs) → (x : A) × In x xs × (f x ≡ Some y)
mapped_in f y [] h = elim h [ ]
mapped_in {A} {B} f y (x ∷ xs) h = go (f x) refl h (mapped_in f y xs)
  where
    go : (o : Option B) → f x ≡ o → In y (cons_option o (filter_map f xs)) → (In y (filter_map f xs) → (w : A) × In w xs × (f w ≡ Some y)) → (w : A) × In w (x ∷ xs) × (f w ≡ Some y)
    go None e h ih = (let q = ih h in (q.0, there q.1, q.2))
    go (Some z) e here ih = (x, here, e)
    go (Some z) e (there h) ih = (let q = ih h in (q.0, there q.1, q.2))

-- ---- C10

in_head : (w v : Written) (ws : List Written) → In w (v ∷ ws) → (v ≡ w) ⊎ In w ws
in_head w v ws here = inl refl
in_head w v ws (there h) = inr h

unless_empty : (t : Bool) (w : Written) → (if t then w ∷ [] else []) ≡ [] → t ≡ false
unless_empty true w e = absurd (cc (e))
unless_empty false w e = refl

or_false : (a b : Bool) → (a || b) ≡ false → (a ≡ false) × (b ≡ false)
or_false true b e = absurd (true≢false e)
or_false false b e = (refl, e)

not_false : (t : Bool) → not t ≡ false → t ≡ true
not_false true e = refl
not_false false e = absurd (true≢false e)

allowed : (names : List (List ℕ)) (rows : List ClassRow) (before : List ℕ) (ws : List Written) → forbidden_interfaces names rows before ws ≡ [] → (w : Written) → In w ws → (i : ℕ) → class_number names w.name ≡ Some i
    → holds (slice_get rows i) (λ (row : ClassRow). is_implemented row.kind) ≡ true
unfolding forbidden_interfaces
allowed names rows before [] e w h i n = elim h [ ]
allowed names rows before (v ∷ ws) e w h i n = go (class_number names v.name) refl e (in_head w v ws h) (λ before e h. allowed names rows before ws e w h i n)
  where
    go : (o : Option ℕ) → class_number names v.name ≡ o
        → elim o as (λ _. List Written) [ None ↦ forbidden_interfaces names rows before ws | Some class ↦ (if is_forbidden_interface rows before class then v ∷ [] else []) ++ forbidden_interfaces names rows (with_kinds before (kinds_of rows class)) ws ] ≡ []
        → (v ≡ w) ⊎ In w ws → ((before : List ℕ) → forbidden_interfaces names rows before ws ≡ [] → In w ws → holds (slice_get rows i) (λ (row : ClassRow). is_implemented row.kind) ≡ true) → holds (slice_get rows i) (λ (row : ClassRow). is_implemented row.kind) ≡ true
    go None k e (inl s) ih = absurd (let z : None ≡ Some i = sym k ∙ ap (λ (v : Written). class_number names v.name) s ∙ n in cc (z))
    go None k e (inr h) ih = ih before e h
    go (Some class) k e (inl s) ih =
        let parts = both_empty (if is_forbidden_interface rows before class then v ∷ [] else []) (forbidden_interfaces names rows (with_kinds before (kinds_of rows class)) ws) e in
        let same : class ≡ i = some_inj class i (sym k ∙ ap (λ (v : Written). class_number names v.name) s ∙ n) in
        subst (λ i. holds (slice_get rows i) (λ (row : ClassRow). is_implemented row.kind) ≡ true) same (not_false _ (or_false _ _ (unless_empty (is_forbidden_interface rows before class) v parts.0)).0)
    go (Some class) k e (inr h) ih =
        let parts = both_empty (if is_forbidden_interface rows before class then v ∷ [] else []) (forbidden_interfaces names rows (with_kinds before (kinds_of rows class)) ws) e in
        ih (with_kinds before (kinds_of rows class)) parts.1 h

-- of a class: its interfaces, whatever its superclass is
interfaces_allowed : (names : List (List ℕ)) (rows : List ClassRow) (c : WrittenClass) → forbidden_supers names rows c ≡ [] → (before : List ℕ) × (forbidden_interfaces names rows before c.implements ≡ [])
unfolding forbidden_supers
interfaces_allowed names rows c e = go c.extends e
  where
    numbered : (w : Written) (o : Option ℕ) → elim o as (λ _. List Written) [ None ↦ forbidden_interfaces names rows [] c.implements | Some class ↦ (if is_forbidden_superclass rows class then w ∷ [] else []) ++ forbidden_interfaces names rows (kinds_of rows class) c.implements ] ≡ []
        → (before : List ℕ) × (forbidden_interfaces names rows before c.implements ≡ [])
    numbered w None e = ([], e)
    numbered w (Some class) e = (kinds_of rows class, (both_empty (if is_forbidden_superclass rows class then w ∷ [] else []) (forbidden_interfaces names rows (kinds_of rows class) c.implements) e).1)

    go : (o : Option Written) → elim o as (λ _. List Written) [ None ↦ forbidden_interfaces names rows [] c.implements | Some w ↦ elim (class_number names w.name) as (λ _. List Written) [ None ↦ forbidden_interfaces names rows [] c.implements | Some class ↦ (if is_forbidden_superclass rows class then w ∷ [] else []) ++ forbidden_interfaces names rows (kinds_of rows class) c.implements ] ] ≡ []
        → (before : List ℕ) × (forbidden_interfaces names rows before c.implements ≡ [])
    go None e = ([], e)
    go (Some w) e = numbered w (class_number names w.name) e

-- ---- framework classes

framework_count : length (framework_rows_from 0 framework_classes) ≡ first_user_class
unfolding framework_rows_from framework_classes
framework_count = refl

-- a class of the user is no interface
user_not_implemented : (nodes : List Node) (names : List (List ℕ)) (c : WrittenClass) → is_implemented (user_row nodes names c).kind ≡ true → ⊥
unfolding user_row is_implemented
user_not_implemented nodes names c e = go c.modifiers.is_abstract e
  where
    go : (t : Bool) → is_implemented (if t then abstract_class else concrete_class) ≡ true → ⊥
    go true e = true≢false (sym e)
    go false e = true≢false (sym e)

built : (name : List ℕ) (ms : List FrameworkMethod) (m : DeclaredMethod) → find (λ (m : DeclaredMethod). is_same name m.declared.name) (map framework_method ms) ≡ Some m → is_some m.builtin ≡ true
unfolding framework_method
built name [] m e = absurd (cc (e))
built name (x ∷ ms) m e = go (is_same name (framework_method x).declared.name) refl e (built name ms m)
  where
    go : (t : Bool) → is_same name (framework_method x).declared.name ≡ t → find (λ (m : DeclaredMethod). is_same name m.declared.name) (framework_method x ∷ map framework_method ms) ≡ Some m → (find (λ (m : DeclaredMethod). is_same name m.declared.name) (map framework_method ms) ≡ Some m → is_some m.builtin ≡ true) → is_some m.builtin ≡ true
    go true s e ih = (let q : framework_method x ≡ m = some_inj _ m (rw s at e) in ap (λ (m : DeclaredMethod). is_some m.builtin) (sym q))
    go false s e ih = ih (rw s at e)

module _ (forest : Forest) (accepted : IsAccepted forest) where
  abbrev p : Declarations
  p = declarations_of forest

  pub row_is : (k : ℕ) (row : ClassRow) → slice_get p.classes k ≡ Some row → IsFrameworkRow k row ⊎ ((j : ℕ) × (k ≡ length (framework_rows_from 0 framework_classes) + j) × IsUserRow p.nodes p.users j row)
  unfolding declarations_of
  row_is k row e = row_of forest.nodes (user_classes forest) k row (ap (λ rows. slice_get rows k) (sym (counted_is_written forest accepted)) ∙ e)

  -- an interface of a class has the row of a framework class
  interface_row : (class i : ℕ) → In i (interfaces_in p.classes class) → (row : ClassRow) × (slice_get p.classes i ≡ Some row) × IsFrameworkRow i row
  unfolding c10 user_row declarations_of
  interface_row class i h = by_row (slice_get p.classes class) refl h
    where
      allowed_there : (k : Bool) → holds (slice_get p.written i) (λ (row : ClassRow). is_implemented row.kind) ≡ k → k ≡ true → (row : ClassRow) × (slice_get p.classes i ≡ Some row) × IsFrameworkRow i row
      allowed_there k e t = found (slice_get p.written i) refl (e ∙ t)
        where
          found : (o : Option ClassRow) → slice_get p.written i ≡ o → holds o (λ (row : ClassRow). is_implemented row.kind) ≡ true → (row : ClassRow) × (slice_get p.classes i ≡ Some row) × IsFrameworkRow i row
          found None e t = absurd (true≢false (sym t))
          found (Some row) e t =
              let there : slice_get p.classes i ≡ Some row = ap (λ rows. slice_get rows i) (counted_is_written forest accepted) ∙ e in
              elim (row_is i row there) as (λ z. (row : ClassRow) × (slice_get p.classes i ≡ Some row) × IsFrameworkRow i row) [
                | inl f ↦ (row, there, f)
                | inr u ↦ absurd (user_not_implemented p.nodes (class_names p.users) u.2.class (sym (ap (λ (r : ClassRow). is_implemented r.kind) u.2.is) ∙ t))
              ]

      of_user : (row : ClassRow) → slice_get p.classes class ≡ Some row → (j : ℕ) → (u : IsUserRow p.nodes p.users j row) → In i row.interfaces → (row : ClassRow) × (slice_get p.classes i ≡ Some row) × IsFrameworkRow i row
      of_user row e j u h =
          let w : row.written ≡ Some u.class = ap (λ (r : ClassRow). r.written) u.is in
          let n = at_class_unbroken forest accepted class row u.class e w in
          let q = mapped_in (λ (w : Written). class_number (class_names p.users) w.name) i u.class.implements (subst (In i) (ap (λ (r : ClassRow). r.interfaces) u.is) h) in
          let a = interfaces_allowed p.names p.written u.class (none_broken _ _ (forbidden_supers p.names p.written u.class) n.forbidden_super) in
          allowed_there true (allowed p.names p.written a.0 u.class.implements a.1 q.0 q.1 i q.2) refl

      by_row : (o : Option ClassRow) → slice_get p.classes class ≡ o → In i (elim o as (λ _. List ℕ) [ None ↦ [] | Some row ↦ row.interfaces ]) → (row : ClassRow) × (slice_get p.classes i ≡ Some row) × IsFrameworkRow i row
      by_row None e h = elim h [ ]
      by_row (Some row) e h = elim (row_is class row e) as (λ z. (row : ClassRow) × (slice_get p.classes i ≡ Some row) × IsFrameworkRow i row)
          [ inl f ↦ absurd (no_element i row.interfaces f.implements_nothing h) | inr u ↦ of_user row e u.0 u.2 h ]
        where
          no_element : (i : ℕ) (xs : List ℕ) → xs ≡ [] → In i xs → ⊥
          no_element i [] e h = elim h [ ]
          no_element i (x ∷ xs) e h = cc (e)

  -- an interface of a class or of a class above it is of the framework
  pub interface_of_framework : (class i : ℕ) → is_among i (all_interfaces p.classes class) ≡ true → (row : ClassRow) × (slice_get p.classes i ≡ Some row) × IsFrameworkRow i row
  unfolding all_interfaces
  interface_of_framework class i h =
      let q = flat_in (interfaces_in p.classes) i (superclasses p.classes class) (in_among i (all_interfaces p.classes class) h) in interface_row q.0 i q.2

  pub own_of_framework : (i : ℕ) (row : ClassRow) (name : List ℕ) (f : FoundMethod) → slice_get p.classes i ≡ Some row → IsFrameworkRow i row → own_method p.classes name i ≡ Some f → is_some f.method.builtin ≡ true
  unfolding own_method framework_methods_on
  own_of_framework i row name f e k h =
      go (find (λ (m : DeclaredMethod). is_same name m.declared.name) row.methods) refl
      (sym (ap (λ (o : Option ClassRow). option_map (λ (m : DeclaredMethod). record { on = i; method = m }) (option_and_then (λ (row : ClassRow). find (λ (m : DeclaredMethod). is_same name m.declared.name) row.methods) o)) e) ∙ h)
    where
      go : (o : Option DeclaredMethod) → find (λ (m : DeclaredMethod). is_same name m.declared.name) row.methods ≡ o → option_map (λ (m : DeclaredMethod). record { on = i; method = m }) o ≡ Some f → is_some f.method.builtin ≡ true
      go None s h = absurd (cc (h))
      go (Some m) s h =
          ap (λ (f : FoundMethod). is_some f.method.builtin) (sym (some_inj _ f h))
          ∙ built name (filter (λ (m : FrameworkMethod). m.on == i) framework_methods) m (sym (ap (λ ms. find (λ (m : DeclaredMethod). is_same name m.declared.name) ms) k.methods) ∙ s)

  -- what an interface gives is a method of the framework
  pub interfaces_give_framework_methods : (class : ℕ) (name : List ℕ) (f : FoundMethod) → along (own_method p.classes name) (all_interfaces p.classes class) ≡ Some f → is_some f.method.builtin ≡ true
  unfolding all_interfaces
  interfaces_give_framework_methods class name f e =
      let q = along_in (own_method p.classes name) (all_interfaces p.classes class) f e in
      let s = flat_in (interfaces_in p.classes) q.0 (superclasses p.classes class) q.1 in
      let r = interface_row s.0 q.0 s.2 in
      own_of_framework q.0 r.0 name f r.1 r.2 q.2
