-- What is broken at the members of a class and at its interfaces, by their nodes; names that stand twice; and the
-- abstract methods of the framework that a class has.
use Rattle.std.specs.Prelude.{ℕ, List, filter, filter_map, Bool, ◌&&◌, Option, is_some, option_map}
use Rattle.scj_base.specs.declared.findings.Found.{Found}
use Rattle.scj_base.specs.declared.findings.Rule.TheVariants.{C2, C4, C6}
use Rattle.scj_tree.specs.declared.nodes.Node.{Node}
use Rattle.scj_rules.specs.declared.scopes.Written.{Written}
use Rattle.scj_rules.specs.Definitions.{read}
use Rattle.scj_rules.specs.Words.{broken, holds, named_twice}
use Rattle.scj_rules.specs.Views.{DeclaredMethod, callable_name, field_at, named_super}
use Rattle.scj_rules.specs.ClassRules.{broken_at, has_wrong_body, names_no_class, overrides_wrongly, is_left_open}
use Rattle.scj_rules.specs.Contexts.{Declarations}
use Rattle.scj_builtins.specs.declared.methods.FrameworkMethod.{FrameworkMethod}
use Rattle.scj_rules.specs.Classes.{is_sub, field_named, framework_method, superclass_in}
use Rattle.scj_base.specs.declared.findings.Rule.{Rule}
use Rattle.node_views.specs.Parts.{naming}

-- a field of a class above has the name
unfoldable pub hiding : Declarations → ℕ → Written → List Found
hiding p class w =
    broken (holds (superclass_in p.classes class) (λ above. is_some (field_named p.classes above w.name))) C4 w.position

-- a method breaks a rule: it overrides wrongly, or its body is missing or too much
abbrev pub is_wrong : Rule → Declarations → ℕ → DeclaredMethod → Bool
is_wrong C6 p class m = overrides_wrongly p class m
is_wrong _ p class m = has_wrong_body m

abbrev pub broken_by : Rule → Declarations → ℕ → DeclaredMethod → List Found
broken_by rule p class m = broken (is_wrong rule p class m) rule m.declared.position

-- interfaces that no class is
abbrev pub unknown_interfaces : Declarations → List Node → List ℕ → List Found
unknown_interfaces p nodes ids =
    broken_at C2 (filter (λ (w : Written). names_no_class p w.name) (filter_map (read nodes named_super) ids))

-- the name at a node of a member that a rule lets a class have once: of a field, or of a method or constructor
unfoldable pub member_name : Rule → List Node → ℕ → Option Written
member_name C4 nodes = λ id. option_map naming (field_at nodes id)
member_name _ nodes = read nodes callable_name

-- the rule is broken at the names that are known or that an earlier one is
unfoldable pub left_twice : Rule → List (List ℕ) → List Written → List Found
left_twice rule known names = broken_at rule (named_twice (λ (w : Written). w.name) known names)

-- a class has an abstract method of the framework left
abbrev pub is_row_left : Declarations → ℕ → FrameworkMethod → Bool
is_row_left p class m = is_sub p.classes class m.on && (m.is_abstract && is_left_open p class (framework_method m))
