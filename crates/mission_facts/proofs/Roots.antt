-- IMMORTAL is the root of the scopes, and no mission's.
use Rattle.std.proofs.Common.{arith, ◌≡◌, find, ap, ◌∙◌, Option, None, Bool, true, false, ◌==◌, option_and_then, refl, inl, inr}
use Rattle.scj_builtins.specs.Framework.{object, mission}
use Rattle.scj_tree.specs.Forest.{Forest, IsForest}
use Rattle.scj_rules.specs.declared.scopes.Definition.{Definition}
use Rattle.scj_rules.specs.Words.{is_among}
use Rattle.scj_rules.specs.Views.{WrittenClass}
use Rattle.scj_rules.specs.Classes.{ClassRow, superclasses}
use Rattle.scj_rules.specs.Contexts.{Declarations, declarations_of}
use Rattle.scj_rules.specs.ScopeRules.{immortal_scope, definer, scope_number, definition_in, parent_scope, is_mission}
use Rattle.scj_rules.specs.Phases.{IsAccepted}
use Rattle.accepted_laws.specs.Sorts.{IsWellSorted}
use Rattle.accepted_laws.proofs.ClassChains.{top_row}
use Rattle.mission_facts.proofs.Lines.{framework_line}

module _ (forest : Forest) (accepted : IsAccepted forest) where
  abbrev p : Declarations
  p = declarations_of forest

  pub root : parent_scope p immortal_scope ≡ None
  unfolding parent_scope definition_in
  root =
      let r = top_row forest accepted in
      ap (λ (o : Option ClassRow). option_and_then (λ (d : Definition). scope_number p d.parent.name)
      (option_and_then (λ (c : WrittenClass). find (λ (d : Definition). d.class == c.node) p.scopes)
      (option_and_then (λ (row : ClassRow). row.written) o))) r.1
      ∙ ap (λ (o : Option WrittenClass). option_and_then (λ (d : Definition). scope_number p d.parent.name)
      (option_and_then (λ (c : WrittenClass). find (λ (d : Definition). d.class == c.node) p.scopes) o)) r.4

  module _ (whole : IsForest forest) (sorted : IsWellSorted forest.nodes) where
    pub root_is_no_missions : is_mission p (definer immortal_scope) ≡ false
    root_is_no_missions = go (is_mission p object) refl
      where
        go : (t : Bool) → is_among mission (superclasses p.classes object) ≡ t →
            is_among mission (superclasses p.classes object) ≡ false
        go false e = e
        go true e =
            absurd (elim (framework_line forest accepted whole sorted object mission (omega arith) e) as (λ z. ⊥)
            [ inl s ↦ omega (arith, s) | inr s ↦ omega (arith, s) ])
