-- What a table of the members in scope at a class is of, and what it tells of the abstract methods there.
use Rattle.std.specs.Prelude.{ℕ, ◌<◌, Bool, List, length, All, filter, flat_map}
use Rattle.std.specs.List.{list_any}
use Rattle.scj_tree.specs.Forest.{Forest}
use Rattle.scj_rules.specs.Views.{DeclaredMethod}
use Rattle.scj_rules.specs.Classes.{ClassRow, is_user_class, superclasses}
use Rattle.scj_rules.specs.ClassRules.{own_abstract_methods, is_left_open}
use Rattle.scj_rules.specs.Contexts.{Declarations, declarations_of}

-- the classes of a program, at one of them
pub record AtClass : Type 0 where
  pub forest : Forest
  pub class : ℕ

abbrev pub at_class : Forest → ℕ → AtClass
at_class forest class = record { forest = forest; class = class }

-- these are classes of the program
abbrev pub AreClasses : Forest → List ℕ → Type 0
AreClasses forest classes = All (λ class. class < length (declarations_of forest).classes) classes

-- the abstract methods that the user classes of a chain declare
unfoldable pub declared_abstract_methods : List ClassRow → ℕ → List DeclaredMethod
declared_abstract_methods rows class =
    flat_map (own_abstract_methods rows) (filter is_user_class (superclasses rows class))

-- one of these methods isn't implemented in the class
unfoldable pub leaves_declared_open : Declarations → ℕ → Bool
leaves_declared_open p class = list_any (is_left_open p class) (declared_abstract_methods p.classes class)
