-- The scope that a class or one above it defines: it is that of all classes under it, and has a parent.
use Rattle.std.proofs.Common.{◌≡◌, ℕ, ◌<◌, List, [], ◌∷◌, ◌++◌, length, find, refl, sym, ap, ◌∙◌, Option, Some, None, Bool, true, false, not, ◌||◌, ◌==◌, true≢false, option_and_then, is_some, slice_get}
use Rattle.std.specs.List.{list_any}
use Rattle.scj_base.specs.declared.findings.Rule.TheVariants.{S1, S2, S4}
use Rattle.scj_tree.specs.Forest.{Forest}
use Rattle.scj_rules.specs.declared.scopes.Definition.{Definition}
use Rattle.scj_rules.specs.Definitions.{is_reserved}
use Rattle.scj_rules.specs.Words.{is_among, holds, along, found_at, chain, chain_behind}
use Rattle.scj_rules.specs.Views.{WrittenClass}
use Rattle.scj_rules.specs.Classes.{ClassRow, superclass_in, superclasses, classes_above}
use Rattle.scj_rules.specs.Contexts.{Declarations, declarations_of}
use Rattle.scj_rules.specs.Phases.{IsAccepted}
use Rattle.scj_rules.specs.ScopeRules.{scope_number, scope_of_class, user_class_in, definition_in, defined_by, defined_by_chain, parent_scope, is_defined_already, has_unknown_parent, has_definition_above, is_wrong_class, is_mission, is_handler, is_runnable, definition_breaks, scope_breaks, s1, s2, s3, s4, s5, s6}
use Rattle.scj_rules.proofs.ChainLemmas.{same_number}
use Rattle.accepted_laws.proofs.Breaks.{both_empty, right, no_break_at_class}
use Rattle.accepted_laws.proofs.Fields.{In as Element, here, there, along_in}
use Rattle.accepted_nodes.proofs.FormParts.{bound}
use Rattle.accepted_facts.proofs.StatementFacts.{or_false, not_false}
use Rattle.flow_facts.proofs.ChainInduction.{chain_next, under}

any_of : {A : Type 0} (test : A → Bool) (x : A) (xs : List A) → Element x xs → test x ≡ true → list_any test xs ≡ true
any_of test x [] h e = elim h [ ]
any_of test x (y ∷ xs) here e = ap (λ t. t || list_any test xs) e
any_of test x (y ∷ xs) (there h) e = either (test y) (any_of test x xs h e)
  where
    either : (t : Bool) → list_any test xs ≡ true → (t || list_any test xs) ≡ true
    either true k = refl
    either false k = k

some_there : (o : Option ℕ) → not (is_some o) ≡ false → (n : ℕ) × (o ≡ Some n)
some_there None e = absurd (true≢false e)
some_there (Some n) e = (n, refl)

module _ (forest : Forest) (accepted : IsAccepted forest) where
  abbrev p : Declarations
  p = declarations_of forest

  -- what isn't broken at a definition
  record Unbroken (class : ℕ) (d : Definition) : Type 0 where
    once : is_defined_already p class d ≡ false
    parent : has_unknown_parent p d ≡ false
    right_class : is_wrong_class p class ≡ false

  unbroken : (class : ℕ) (d : Definition) → definition_in p class ≡ Some d → Unbroken class d
  unfolding definition_in scope_breaks definition_breaks s1 s2 s3 s4 s5
  unbroken class d e =
      let a =
      bound (user_class_in p.classes class)
      (λ (c : WrittenClass). find (λ (d : Definition). d.class == c.node) p.scopes) d e in
      let row = bound (slice_get p.classes class) (λ (row : ClassRow). row.written) a.0 a.1 in
      let n = no_break_at_class forest accepted class row.0 a.0 row.1 row.2 in
      let whole : s1 p class d ++ s2 p class d ++ s3 p class d ++ s4 p class d ++ s5 p class d ≡ [] =
      sym
      (ap
      (λ (o : Option Definition). found_at o (λ d. s1 p class d ++ s2 p class d ++ s3 p class d ++ s4 p class d
      ++ s5 p class d)) e)
      ∙ (both_empty (definition_breaks p class) (s6 p class a.0) n.no_scope_rule).0 in
      let four = both_empty (s1 p class d ++ s2 p class d ++ s3 p class d ++ s4 p class d) (s5 p class d) whole in
      let three = both_empty (s1 p class d ++ s2 p class d ++ s3 p class d) (s4 p class d) four.0 in
      let two = both_empty (s1 p class d ++ s2 p class d) (s3 p class d) three.0 in
      let one = both_empty (s1 p class d) (s2 p class d) two.0 in
      record {
        once = right (is_defined_already p class d) S1 d.scope.position one.0;
        parent = right (has_unknown_parent p d) S2 d.parent.position one.1;
        right_class = right (is_wrong_class p class) S4 d.scope.position three.1;
      }

  -- S1: a class defines the scope of its own number
  scope_is : (class scope : ℕ) (d : Definition) → definition_in p class ≡ Some d →
      scope_number p d.scope.name ≡ Some scope → scope ≡ class
  scope_is class scope d e s =
      let u = unbroken class d e in
      let h =
      (or_false (is_reserved d.scope.name)
      (holds (scope_number p d.scope.name) (λ scope. not (scope == scope_of_class class))) u.once).1 in
      same_number scope class
      (not_false (scope == class) (sym (ap (λ (o : Option ℕ). holds o (λ scope. not (scope == class))) s) ∙ h))

  defines : (class scope : ℕ) → defined_by p class ≡ Some scope → (d : Definition) × (definition_in p class ≡ Some d) ×
      (scope_number p d.scope.name ≡ Some scope)
  unfolding defined_by
  defines class scope e = bound (definition_in p class) (λ (d : Definition). scope_number p d.scope.name) scope e

  -- S2: a scope that a chain defines has a parent
  pub has_parent : (class scope : ℕ) → defined_by_chain p class ≡ Some scope →
      (parent : ℕ) × (parent_scope p scope ≡ Some parent)
  unfolding defined_by_chain parent_scope
  has_parent class scope e =
      let q = along_in (defined_by p) (superclasses p.classes class) scope e in
      let d = defines q.0 scope q.2 in
      let same = scope_is q.0 scope d.0 d.1 d.2 in
      let m = some_there (scope_number p d.0.parent.name) (unbroken q.0 d.0 d.1).parent in (
        m.0,
        ap (λ k. option_and_then (λ (d : Definition). scope_number p d.parent.name) (definition_in p k)) same
            ∙ ap (option_and_then (λ (d : Definition). scope_number p d.parent.name)) d.1 ∙ m.1,
      )

  above_is : (on x : ℕ) → superclass_in p.classes on ≡ Some x → classes_above p.classes on ≡ superclasses p.classes x
  unfolding classes_above chain_behind superclasses
  above_is on x s =
      ap
      (λ (o : Option ℕ). elim o as (λ _. List ℕ)
      [ None ↦ [] | Some b ↦ chain (superclass_in p.classes) (length p.classes) b ]) s

  -- S4: where a class above defines a scope, a class defines none
  none_below : (on x scope : ℕ) → superclass_in p.classes on ≡ Some x → defined_by_chain p x ≡ Some scope →
      defined_by p on ≡ None
  unfolding defined_by_chain
  none_below on x scope s e = go (defined_by p on) refl
    where
      go : (o : Option ℕ) → defined_by p on ≡ o → defined_by p on ≡ None
      go None k = k
      go (Some n) k =
          absurd (
          let d = defines on n k in
          let q = along_in (defined_by p) (superclasses p.classes x) scope e in
          let above = defines q.0 scope q.2 in
          let wrong =
          (or_false (not (is_mission p on || (is_handler p on || is_runnable p on))) (has_definition_above p on)
          (unbroken on d.0 d.1).right_class).1 in
          let there_is : has_definition_above p on ≡ true =
          ap (λ xs. list_any (λ above. is_some (definition_in p above)) xs) (above_is on x s)
          ∙ any_of (λ above. is_some (definition_in p above)) q.0 (superclasses p.classes x) q.1
          (ap is_some above.1) in
          true≢false (sym there_is ∙ wrong))

  chained : (on x : ℕ) → superclasses p.classes on ≡ on ∷ superclasses p.classes x → defined_by p on ≡ None →
      defined_by_chain p on ≡ defined_by_chain p x
  unfolding defined_by_chain along
  chained on x c n =
      ap (along (defined_by p)) c
      ∙ ap
      (λ (o : Option ℕ). elim o as (λ _. Option ℕ) [
        | None ↦ along (defined_by p) (superclasses p.classes x)
        | Some y ↦ Some y
      ]) n

  -- a class has the scope that a class above it defines
  pub defined_under : (class scope : ℕ) → defined_by_chain p class ≡ Some scope → (on : ℕ) → on < length p.classes →
      is_among class (superclasses p.classes on) ≡ true → defined_by_chain p on ≡ Some scope
  defined_under class scope e on l h =
      under forest accepted class (λ on. defined_by_chain p on ≡ Some scope) e step on l h
    where
      step : (on x : ℕ) → on < length p.classes → superclass_in p.classes on ≡ Some x →
          is_among class (superclasses p.classes x) ≡ true → defined_by_chain p x ≡ Some scope →
          defined_by_chain p on ≡ Some scope
      step on x l s above ih = chained on x (chain_next forest accepted on x l s) (none_below on x scope s ih) ∙ ih
