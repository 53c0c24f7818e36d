-- What the rules on scopes find at the classes, number after number.
use Rattle.std.proofs.Common.{◌≡◌, ℕ, List, [], ◌++◌, length, refl, arith, Option, Some, None, option_map}
use Rattle.scj_base.specs.declared.findings.Found.{Found}
use Rattle.scj_base.specs.declared.findings.Rule.TheVariants.{S6}
use Rattle.scj_base.specs.declared.positions.Position.{Position}
use Rattle.scj_tree.specs.Recursion.{joined_below}
use Rattle.scj_rules.specs.declared.views.Modifiers.{Modifiers}
use Rattle.scj_rules.specs.Words.{broken, found_at}
use Rattle.scj_rules.specs.Views.{WrittenClass}
use Rattle.scj_rules.specs.Classes.{ClassRow}
use Rattle.scj_rules.specs.Contexts.{Declarations}
use Rattle.scj_rules.specs.ScopeRules.{user_class_in, definition_in, scope_breaks, definition_breaks, lacks_scope, s6}
use Rattle.scj_rules.specs.Phases.{at_class, over_classes}
use Rattle.scj_rules.proofs.NumberLemmas.{joined_all}

pub classes_joined : (p : Declarations) (rule : ℕ → ClassRow → WrittenClass → List Found)
    → over_classes p rule ≡ joined_below (at_class p rule) (length p.classes)
unfolding over_classes
classes_joined p rule = joined_all (at_class p rule) p.classes

-- S6 by the parts of a class, and where there is none
pub missing_at : (p : Declarations) (class : ℕ) (o : Option WrittenClass) (m : Modifiers) (position : Position)
    → Some m ≡ option_map (λ (c : WrittenClass). c.modifiers) o → Some position ≡ option_map (λ (c : WrittenClass). c.position) o
    → broken (lacks_scope p class m.is_abstract) S6 position ≡ found_at o (s6 p class)
unfolding s6
missing_at p class None m position h k = cc
missing_at p class (Some c) m position h k = grind (arith, h, k)

none_written : (p : Declarations) (class : ℕ) → user_class_in p.classes class ≡ None → definition_breaks p class ≡ []
unfolding definition_breaks definition_in
none_written p class e = rw e refl

-- what is found at a class in its two parts: where it isn't a user class, it writes no definition
pub parts_of : (p : Declarations) (class : ℕ) → definition_breaks p class
    ++ found_at (user_class_in p.classes class) (s6 p class) ≡ at_class p (λ class row c. scope_breaks p class c) class
unfolding at_class scope_breaks
parts_of p class = grind (arith, none_written p class)
