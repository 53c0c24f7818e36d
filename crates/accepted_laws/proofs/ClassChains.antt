-- In an accepted program no class is above itself, and each chain of superclasses ends with Object.
use Rattle.std.proofs.Common.{◌≡◌, ℕ, ◌+◌, ◌<◌, List, [], ◌∷◌, length, filter, refl, sym, ap, ◌∙◌, subst, Option, Some, None, Bool, true, false, not, true≢false, slice_get, option_and_then, is_some, ◌⊎◌, inl, inr}
use Rattle.scj_builtins.specs.Framework.{framework_classes, object}
use Rattle.scj_tree.specs.Forest.{Forest}
use Rattle.scj_rules.specs.declared.scopes.Written.{Written}
use Rattle.scj_rules.specs.Chains.{Follows, one, more, ComesBack}
use Rattle.scj_rules.specs.Views.{WrittenClass}
use Rattle.scj_rules.specs.Classes.{ClassRow, class_number, framework_rows_from, superclass_written, user_row, superclass_in, classes_above, is_cyclic, unknown_supers, user_classes}
use Rattle.scj_rules.specs.ClassRules.{c2, c3}
use Rattle.scj_rules.specs.Contexts.{Declarations, declarations_of}
use Rattle.scj_rules.specs.Phases.{IsAccepted}
use Rattle.scj_rules.proofs.ChainLemmas.{chain_comes_back}
use Rattle.scj_rules.proofs.WithinLemmas.{written-stays}
use Rattle.accepted_laws.proofs.Breaks.{right}
use Rattle.accepted_laws.proofs.Rows.{IsFrameworkRow, IsUserRow, row_of, counted_is_written, at_class_unbroken, none_broken, get_from_within, top_written, object_is_top}

first_step : (next : ℕ → Option ℕ) (a b : ℕ) → Follows next a b → (c : ℕ) × (next a ≡ Some c)
first_step next a b (one {b = c} e) = (b, e)
first_step next a b (more {b = c} e f) = (c, e)

module _ (forest : Forest) (accepted : IsAccepted forest) where
  abbrev q : Declarations
  q = declarations_of forest

  abbrev next : ℕ → Option ℕ
  next = superclass_in q.written

  top_is : next object ≡ None
  unfolding declarations_of
  top_is = object_is_top forest.nodes (user_classes forest)

  row_is : (k : ℕ) (row : ClassRow) → slice_get q.written k ≡ Some row → IsFrameworkRow k row ⊎ ((j : ℕ) × (k ≡ length (framework_rows_from 0 framework_classes) + j) × IsUserRow q.nodes q.users j row)
  unfolding declarations_of
  row_is k row e = row_of forest.nodes (user_classes forest) k row e

  framework_ends : (a : ℕ) → next a ≡ Some object → ComesBack next a → ⊥
  framework_ends a e (one f) = (let same : Some a ≡ Some object = sym f ∙ e in let g : a ≡ object = cc (same) in let h : None ≡ Some object = sym top_is ∙ ap next (sym g) ∙ e in cc (h))
  framework_ends a e (more {b = b} f g) =
      (let same : Some b ≡ Some object = sym f ∙ e in
      let h : b ≡ object = cc (same) in
      let s = first_step next b a g in
      let z : None ≡ Some s.0 = sym top_is ∙ ap next (sym h) ∙ s.1 in cc (z))

  next_is : (a : ℕ) (row : ClassRow) → slice_get q.written a ≡ Some row → next a ≡ row.superclass
  next_is a row e = ap (λ (o : Option ClassRow). option_and_then (λ (row : ClassRow). row.superclass) o) e

  user_acyclic : (a : ℕ) (row : ClassRow) (c : WrittenClass) → slice_get q.written a ≡ Some row → row.written ≡ Some c → ComesBack next a → ⊥
  unfolding c3 classes_above
  user_acyclic a row c e w back =
      let n = at_class_unbroken forest accepted a row c (ap (λ rows. slice_get rows a) (counted_is_written forest accepted) ∙ e) w in
      true≢false (sym ((chain_comes_back next (length q.written) a (written-stays forest)).1 back) ∙ right (is_cyclic q.written a) _ c.position n.class_cycle)

  framework_acyclic : (a : ℕ) (row : ClassRow) → slice_get q.written a ≡ Some row → IsFrameworkRow a row → ComesBack next a → ⊥
  framework_acyclic a row e k back = elim k.extends_object as (λ _. ⊥) [
    | inl h ↦ framework_ends a (next_is a row e ∙ h) back
    | inr h ↦ (let s = first_step next a a back in let z : None ≡ Some s.0 = sym (next_is a row e ∙ h.0) ∙ s.1 in cc (z))
  ]

  written_of_user : (j : ℕ) (row : ClassRow) → (u : IsUserRow q.nodes q.users j row) → row.written ≡ Some u.class
  unfolding user_row
  written_of_user j row u = ap (λ (r : ClassRow). r.written) u.is

  written_acyclic : (a : ℕ) → ComesBack next a → ⊥
  written_acyclic a back = by_row (slice_get q.written a) refl
    where
      by_row : (o : Option ClassRow) → slice_get q.written a ≡ o → ⊥
      by_row None e = (let s = first_step next a a back in let z : None ≡ Some s.0 = sym (ap (λ (o : Option ClassRow). option_and_then (λ (row : ClassRow). row.superclass) o) e) ∙ s.1 in cc (z))
      by_row (Some row) e = elim (row_is a row e) as (λ _. ⊥) [
        | inl k ↦ framework_acyclic a row e k back
        | inr k ↦ user_acyclic a row k.2.class e (written_of_user k.0 row k.2) back
      ]

  -- no class is above itself
  pub acyclic : (a : ℕ) → ComesBack (superclass_in q.classes) a → ⊥
  acyclic = subst (λ rows. (a : ℕ) → ComesBack (superclass_in rows) a → ⊥) (sym (counted_is_written forest accepted)) written_acyclic

  -- only Object has no superclass
  no_unknown : (c : WrittenClass) (e : Written) → c.extends ≡ Some e → unknown_supers q.names c ≡ [] → is_some (class_number q.names e.name) ≡ true
  no_unknown c e h u = known (is_some (class_number q.names e.name)) refl (sym (ap (λ (o : Option Written). filter (λ (w : Written). not (is_some (class_number q.names w.name))) (elim o as (λ _. List Written) [ None ↦ c.implements | Some e ↦ e ∷ c.implements ])) h) ∙ u)
    where
      known : (t : Bool) → is_some (class_number q.names e.name) ≡ t → filter (λ (w : Written). not (is_some (class_number q.names w.name))) (e ∷ c.implements) ≡ [] → is_some (class_number q.names e.name) ≡ true
      known true k f = k
      known false k f = absurd (let g : e ∷ filter (λ (w : Written). not (is_some (class_number q.names w.name))) c.implements ≡ [] = rw k at f in cc (g))

  user_has_super : (names : List (List ℕ)) (o : Option Written) → ((e : Written) → o ≡ Some e → is_some (class_number names e.name) ≡ true) → superclass_written names o ≡ None → ⊥
  unfolding superclass_written
  user_has_super names None k n = cc (n)
  user_has_super names (Some e) k n = true≢false (sym (k e refl) ∙ ap is_some n)

  super_of_user : (j : ℕ) (row : ClassRow) → (u : IsUserRow q.nodes q.users j row) → row.superclass ≡ superclass_written q.names u.class.extends
  unfolding user_row declarations_of
  super_of_user j row u = ap (λ (r : ClassRow). r.superclass) u.is

  top_alone : (a : ℕ) → a < length q.written → next a ≡ None → a ≡ object
  unfolding c2
  top_alone a l n = by_row (slice_get q.written a) refl
    where
      by_row : (o : Option ClassRow) → slice_get q.written a ≡ o → a ≡ object
      by_row None e = absurd (let g = get_from_within q.written a l in let z : None ≡ Some g.0 = sym e ∙ g.1 in cc (z))
      by_row (Some row) e = elim (row_is a row e) as (λ _. a ≡ object) [
        | inl k ↦ elim k.extends_object as (λ _. a ≡ object) [ inl h ↦ absurd (let z : None ≡ Some object = sym n ∙ next_is a row e ∙ h in cc (z)) | inr h ↦ h.1 ]
        | inr k ↦ absurd (
            let b = at_class_unbroken forest accepted a row k.2.class (ap (λ rows. slice_get rows a) (counted_is_written forest accepted) ∙ e) (written_of_user k.0 row k.2) in
            user_has_super q.names k.2.class.extends (λ w h. no_unknown k.2.class w h (none_broken _ _ (unknown_supers q.names k.2.class) b.unknown_super)) (sym (super_of_user k.0 row k.2) ∙ sym (next_is a row e) ∙ n))
      ]

  pub object_alone_is_top : (a : ℕ) → a < length q.classes → superclass_in q.classes a ≡ None → a ≡ object
  object_alone_is_top = subst (λ (rows : List ClassRow). (a : ℕ) → a < length rows → superclass_in rows a ≡ None → a ≡ object) (sym (counted_is_written forest accepted)) top_alone

  top_row_written : (row : ClassRow) × (slice_get q.written object ≡ Some row) × (row.superclass ≡ None) × (row.interfaces ≡ []) × (row.written ≡ None)
  unfolding declarations_of
  top_row_written = top_written forest.nodes (user_classes forest)

  -- Object has neither a superclass nor interfaces
  pub top_row : (row : ClassRow) × (slice_get q.classes object ≡ Some row) × (row.superclass ≡ None) × (row.interfaces ≡ []) × (row.written ≡ None)
  top_row = (top_row_written.0, ap (λ rows. slice_get rows object) (counted_is_written forest accepted) ∙ top_row_written.1, top_row_written.2, top_row_written.3, top_row_written.4)
