-- In an accepted program what a concrete class has for a user's method has a body (C7).
use Rattle.std.proofs.Common.{◌≡◌, ℕ, List, [], ◌∷◌, ◌++◌, length, filter, flat_map, refl, sym, ap, ◌∙◌, subst, Option, Some, None, Bool, true, false, not, ◌||◌, ◌&&◌, true≢false, slice_get, is_some, if◌then◌else◌, ◌⊎◌, inl, inr, ◌+◌}
use Rattle.std.specs.List.{list_any}
use Rattle.scj_base.specs.declared.findings.Rule.TheVariants.{C7}
use Rattle.scj_builtins.specs.Framework.{framework_classes}
use Rattle.scj_tree.specs.Forest.{Forest, IsForest}
use Rattle.scj_rules.specs.Words.{broken, holds}
use Rattle.scj_rules.specs.Views.{WrittenClass, DeclaredMethod}
use Rattle.scj_rules.specs.Classes.{ClassRow, FoundMethod, framework_rows_from, superclasses, all_interfaces, own_method, method_named}
use Rattle.scj_rules.specs.ClassRules.{c7, own_abstract_methods, abstract_methods, is_left_open, leaves_open, stays_open, misfits_framework, has_wrong_body}
use Rattle.scj_rules.specs.Contexts.{Declarations, declarations_of}
use Rattle.scj_rules.specs.Phases.{IsAccepted}
use Rattle.accepted_laws.specs.Overriding.{IsUserMethod}
use Rattle.accepted_laws.specs.Sorts.{IsWellSorted}
use Rattle.accepted_laws.proofs.Breaks.{both_empty, right}
use Rattle.accepted_laws.proofs.Dispatch.{OwnDeclaration, own_declaration, on_superclass, written_of}
use Rattle.accepted_laws.proofs.MethodNodes.{flat_none}
use Rattle.accepted_laws.proofs.Fields.{In, here, there, in_left, in_filter, in_flat}
use Rattle.accepted_laws.proofs.Interfaces.{row_is, own_of_framework}
use Rattle.accepted_laws.proofs.Rows.{IsFrameworkRow, IsUserRow, at_class_unbroken}

none_passes : {A : Type 0} (test : A → Bool) (xs : List A) (x : A) → list_any test xs ≡ false → In x xs → test x ≡ false
none_passes test [] x e h = elim h [ ]
none_passes test (y ∷ xs) x e here = first (test x) (list_any test xs) e
  where
    first : (a b : Bool) → (a || b) ≡ false → a ≡ false
    first true b e = e
    first false b e = refl
none_passes test (y ∷ xs) x e (there h) = none_passes test xs x (second (test y) (list_any test xs) e) h
  where
    second : (a b : Bool) → (a || b) ≡ false → b ≡ false
    second true b e = absurd (true≢false e)
    second false b e = e

-- a method without abstract has a body
has_body : (m : DeclaredMethod) → m.declared.modifiers.is_abstract ≡ false → has_wrong_body m ≡ false → is_some m.body ≡ true
has_body m a e = go (is_some m.body) (sym (ap (λ t. if t then is_some m.body else not (is_some m.body)) a) ∙ e)
  where
    go : (t : Bool) → not t ≡ false → t ≡ true
    go true e = refl
    go false e = absurd (true≢false e)

module _ (forest : Forest) (accepted : IsAccepted forest) (whole : IsForest forest) (sorted : IsWellSorted forest.nodes) where
  abbrev p : Declarations
  p = declarations_of forest

  -- an abstract method that a class has for its name is left open in it
  open_if_abstract : (class : ℕ) (m : DeclaredMethod) (g : FoundMethod) → method_named p.classes class m.declared.name ≡ Some g → g.method.declared.modifiers.is_abstract ≡ true → is_left_open p class m ≡ true
  unfolding is_left_open
  open_if_abstract class m g e a =
      ap (λ (o : Option FoundMethod). holds o (λ (f : FoundMethod). stays_open p class m f.method)) e
      ∙ ap (λ t. t || misfits_framework p class g.method m) a

  pub concrete_has_body : (class : ℕ) (row : ClassRow) (c : WrittenClass) (name : List ℕ) (g : FoundMethod) → slice_get p.classes class ≡ Some row → row.written ≡ Some c → c.modifiers.is_abstract ≡ false
      → method_named p.classes class name ≡ Some g → IsUserMethod p g → is_some g.method.body ≡ true
  unfolding c7 abstract_methods
  concrete_has_body class row c name g there_ is plain e u = go (g.method.declared.modifiers.is_abstract) refl
    where
      user : is_some g.method.builtin ≡ false
      user = ap is_some u.not_builtin

      q : (y : ℕ) × In y (superclasses p.classes class) × (own_method p.classes name y ≡ Some g)
      q = on_superclass forest accepted whole sorted class name g e user

      d : OwnDeclaration forest accepted q.0 name g
      d = own_declaration forest accepted q.0 name g q.2

      left : list_any (is_left_open p class) (abstract_methods p.classes class) ≡ false
      left =
          let n = at_class_unbroken forest accepted class row c there_ is in
          sym (ap (λ t. not t && list_any (is_left_open p class) (abstract_methods p.classes class)) plain)
          ∙ right (leaves_open p class c) C7 c.position (both_empty (broken (leaves_open p class c) C7 c.position) (flat_map (λ (m : DeclaredMethod). broken (has_wrong_body m) C7 m.declared.position) row.methods) n.left_open).0

      among : g.method.declared.modifiers.is_abstract ≡ true → In g.method (abstract_methods p.classes class)
      among a =
          in_flat (own_abstract_methods p.classes) g.method q.0 (superclasses p.classes class ++ all_interfaces p.classes class) (in_left q.0 (superclasses p.classes class) (all_interfaces p.classes class) q.1)
          (subst (λ (o : Option ClassRow). In g.method (elim o as (λ _. List DeclaredMethod) [ None ↦ [] | Some row ↦ filter (λ (m : DeclaredMethod). m.declared.modifiers.is_abstract) row.methods ])) (sym d.is_row)
          (in_filter (λ (m : DeclaredMethod). m.declared.modifiers.is_abstract) g.method d.row.methods d.among a))

      open_there : g.method.declared.modifiers.is_abstract ≡ true → is_left_open p class g.method ≡ true
      open_there a = open_if_abstract class g.method g (ap (method_named p.classes class) (sym d.same_name) ∙ e) a

      wrong_body : IsFrameworkRow q.0 d.row ⊎ ((j : ℕ) × (q.0 ≡ length (framework_rows_from 0 framework_classes) + j) × IsUserRow p.nodes p.users j d.row) → has_wrong_body g.method ≡ false
      wrong_body (inl k) = absurd (true≢false (sym (own_of_framework forest accepted q.0 d.row name g d.is_row k q.2) ∙ user))
      wrong_body (inr w) =
          let n = at_class_unbroken forest accepted q.0 d.row w.2.class d.is_row (written_of forest accepted whole sorted w.0 d.row w.2) in
          right (has_wrong_body g.method) C7 g.method.declared.position
          (flat_none (λ (m : DeclaredMethod). broken (has_wrong_body m) C7 m.declared.position) g.method d.row.methods
          (both_empty (broken (leaves_open p q.0 w.2.class) C7 w.2.class.position) (flat_map (λ (m : DeclaredMethod). broken (has_wrong_body m) C7 m.declared.position) d.row.methods) n.left_open).1 d.among)

      go : (t : Bool) → g.method.declared.modifiers.is_abstract ≡ t → is_some g.method.body ≡ true
      go true a = absurd (true≢false (sym (open_there a) ∙ none_passes (is_left_open p class) (abstract_methods p.classes class) g.method left (among a)))
      go false a = has_body g.method a (wrong_body (row_is forest accepted q.0 d.row d.is_row))
