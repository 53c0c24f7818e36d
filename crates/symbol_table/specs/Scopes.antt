-- What a table keeps: a class, those above it, and the members of those.
pub use Rattle.class_rows.specs.Members.{rows_of, is_abstract, is_reported, AreNamed, IsSplit}
use Rattle.std.specs.Prelude.{◌≡◌, ℕ, ◌<◌, Bool, true, false, not, ◌&&◌, List, [], ◌∷◌, length, map, filter, All, Option, None, Some, if◌then◌else◌}
use Rattle.scj_builtins.specs.Framework.{object}
use Rattle.scj_tree.specs.declared.nodes.Node.{Node}
use Rattle.scj_tree.specs.Forest.{Forest}
use Rattle.scj_rules.specs.declared.views.Declared.{Declared}
use Rattle.scj_rules.specs.Words.{along, holds}
use Rattle.scj_rules.specs.Views.{DeclaredMethod, method_at}
use Rattle.scj_rules.specs.Classes.{ClassRow, FoundMethod, classes_above, instance_fields, is_user_class, own_method, superclass_in, superclasses}
use Rattle.class_rows.specs.declared.members.MemberKind.TheVariants.{Field, Method}
use Rattle.class_rows.specs.declared.nearest.NearestMembers.{NearestMembers}
use Rattle.symbol_table.specs.declared.levels.Level.{Level}
use Rattle.symbol_table.specs.declared.scopes.Entered.{Entered}
use Rattle.symbol_table.specs.declared.scopes.Scope.{Scope}

abbrev pub is_instance : Declared → Bool
is_instance f = not f.modifiers.is_static

abbrev pub object_level : Level
object_level = record { class = object; field_count = 0 }

-- a class stands right under another one, which is the last of so many; one of the framework's under Object
pub record IsNext (rows : List ClassRow) (above count class : ℕ) : Type 0 where
  pub superclass : superclass_in rows class ≡ Some above
  pub shorter : count < length rows
  pub framework : is_user_class class ≡ false → above ≡ object

abbrev pub classes_of : List Level → List ℕ
classes_of path = map (λ (level : Level). level.class) path

abbrev pub nearest_level : List Level → Option Level
nearest_level [] = None
nearest_level (level ∷ above) = Some level

-- a class with those above it: behind the user classes of its chain come framework classes
pub record IsUnder (rows : List ClassRow) (level : Level) (above : List ℕ) : Type 0 where
  pub chain : superclasses rows level.class ≡ level.class ∷ above
  pub behind : classes_above rows level.class ≡ above
  pub split : IsSplit (superclasses rows level.class)
  pub count : level.field_count ≡ length (instance_fields rows level.class)

abbrev pub IsPath : List ClassRow → List Level → Type 0
IsPath rows [] = Unit {0}
IsPath rows (level ∷ above) = IsUnder rows level (classes_of above) × IsPath rows above

-- the classes with one more before them, where it is entered
abbrev pub with_class : Bool → ℕ → List ℕ → List ℕ
with_class is_entered class classes = if is_entered then class ∷ classes else classes

-- of each of these classes it is told what stands above it
abbrev pub AreReported : NearestMembers → List ℕ → Type 0
AreReported ns classes = All (λ class. is_reported ns class ≡ true) classes

-- the members of these classes are entered, and it is told which fields and which methods stand above each
pub record IsEntered (forest : Forest) (entered : Entered) : Type 0 where
  pub path : IsPath (rows_of forest) entered.path
  pub fields : AreNamed Field forest entered.fields (classes_of entered.path)
  pub methods : AreNamed Method forest entered.methods (classes_of entered.path)
  pub fields_reported : AreReported entered.fields (classes_of entered.path)
  pub methods_reported : AreReported entered.methods (classes_of entered.path)

-- those of the classes above are entered
pub record IsScope (forest : Forest) (scope : Scope) : Type 0 where
  pub under : IsUnder (rows_of forest) scope.level (classes_of scope.above.path)
  pub above : IsEntered forest scope.above

-- ---- abstract methods

-- the method that the user classes of a chain give the class is abstract
abbrev pub is_left : List ClassRow → ℕ → List ℕ → Bool
is_left rows class name = holds (along (own_method rows name) (filter is_user_class (superclasses rows class)))
    (λ (f : FoundMethod). is_abstract f.method)

-- an abstract method stands at the node, and the one of its name that the class has is abstract, too
abbrev pub leaves_at : List Node → List ClassRow → ℕ → ℕ → Bool
leaves_at nodes rows class node =
    holds (method_at nodes node) (λ (d : DeclaredMethod). is_abstract d && is_left rows class d.declared.name)
