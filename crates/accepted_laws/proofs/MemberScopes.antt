-- In an accepted program each field and each result whose values are references has a scope.
use Rattle.std.proofs.Common.{◌≡◌, ℕ, sym, ap, ◌∙◌, Option, Some, None, false, option_and_then, option_map, slice_get, if◌then◌else◌}
use Rattle.scj_tree.specs.declared.nodes.Node.{Node}
use Rattle.scj_tree.specs.declared.nodes.Node.TheVariants.{Field, Method}
use Rattle.scj_tree.specs.Forest.{Forest, IsForest}
use Rattle.scj_rules.specs.declared.views.Declared.{Declared}
use Rattle.scj_rules.specs.Words.{found_at}
use Rattle.scj_rules.specs.Views.{DeclaredMethod, field_of, field_at, method_of, method_at}
use Rattle.scj_rules.specs.Contexts.{Declarations, declarations_of, context}
use Rattle.scj_rules.specs.StaticScopes.{class_scope, has_no_scope, scoped_field, scoped_result, declaration_scope, misfits_field, field_scope}
use Rattle.scj_rules.specs.AnnotationRules.{scoped_declaration_at, field_rule, a3_to_a5, a3_to_a5_of, result_scope}
use Rattle.scj_rules.specs.Phases.{IsAccepted}
use Rattle.accepted_laws.specs.Judgements.{HasScope}
use Rattle.accepted_laws.specs.Sorts.{IsWellSorted}
use Rattle.accepted_laws.proofs.Breaks.{right, no_break_at_node}
use Rattle.accepted_laws.proofs.DeclarationScopes.{declaration_has_scope}
use Rattle.accepted_laws.proofs.MethodNodes.{method_node}
use Rattle.accepted_laws.proofs.ScopesOfClasses.{no_annotation_break}

module _ (forest : Forest) (accepted : IsAccepted forest) (whole : IsForest forest) (sorted : IsWellSorted forest.nodes) where
  abbrev p : Declarations
  p = declarations_of forest

  pub field_has_scope : (class id : ℕ) (node : Node) (f : Declared) → slice_get p.nodes id ≡ Some node → field_of p.nodes id node ≡ Some f → (context p id).class ≡ Some class → has_no_scope f.declared_type ≡ false → HasScope (field_scope p class f)
  unfolding field_scope a3_to_a5 field_of scoped_declaration_at
  field_has_scope class id (Field position name flags declared_type equals value) f there is c kind =
      let n = no_break_at_node forest accepted id (Field position name flags declared_type equals value) there in
      let b = no_annotation_break p id (Field position name flags declared_type equals value) n.no_annotation_rule in
      let at : field_at p.nodes id ≡ Some f = ap (option_and_then (field_of p.nodes id)) there ∙ is in
      let misfit : misfits_field p class f ≡ false =
      right (misfits_field p class f) (field_rule (class_scope p class) f.modifiers.is_static) f.position
      (sym (ap (λ (o : Option ℕ). found_at o (λ class. found_at (field_at p.nodes id) (a3_to_a5_of p class))) c ∙ ap (λ (o : Option Declared). found_at o (a3_to_a5_of p class)) at) ∙ b.field_scope) in
      let d = declaration_has_scope forest accepted whole sorted id (Field position name flags declared_type equals value) (scoped_field p class f) there
      (ap (λ (o : Option ℕ). option_and_then (λ class. option_map (λ (f : Declared). scoped_field p class f) (field_at p.nodes id)) o) c ∙ ap (λ (o : Option Declared). option_map (λ (f : Declared). scoped_field p class f) o) at) kind in
      (d.0, ap (λ t. if t then None else declaration_scope p (scoped_field p class f)) misfit ∙ d.1)
  field_has_scope class id _ f there is c kind = absurd (cc (is))

  result_step : (class id : ℕ) (node : Node) (m : DeclaredMethod) → slice_get p.nodes id ≡ Some node → method_of p.nodes id node ≡ Some m → (context p id).class ≡ Some class → has_no_scope m.declared.declared_type ≡ false → HasScope (result_scope p class m)
  unfolding method_of scoped_declaration_at
  result_step class id (Method position name flags result_type parameters body) m there is c kind =
      let at : method_at p.nodes id ≡ Some m = ap (option_and_then (method_of p.nodes id)) there ∙ is in
      declaration_has_scope forest accepted whole sorted id (Method position name flags result_type parameters body) (scoped_result p class m) there
      (ap (λ (o : Option ℕ). option_and_then (λ class. option_map (λ (m : DeclaredMethod). scoped_result p class m) (method_at p.nodes id)) o) c ∙ ap (λ (o : Option DeclaredMethod). option_map (λ (m : DeclaredMethod). scoped_result p class m) o) at) kind
  result_step class id _ m there is c kind = absurd (cc (is))

  pub result_has_scope : (class id : ℕ) (m : DeclaredMethod) → method_at p.nodes id ≡ Some m → (context p id).class ≡ Some class → has_no_scope m.declared.declared_type ≡ false → HasScope (result_scope p class m)
  result_has_scope class id m e c kind = let n = method_node p.nodes id m e in result_step class id n.node m n.is_there n.is c kind
