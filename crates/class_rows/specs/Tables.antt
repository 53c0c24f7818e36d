-- What the table of the classes of a program holds.
unfoldable pub use Rattle.class_headers.specs.Members.{class_written, members_in}
use Rattle.class_headers.specs.Columns.{AreWaysOf}
use Rattle.std.specs.Prelude.{◌≡◌, ℕ, Bool, true, not, List, [], length, slice_get, Option, Some, None, option_map}
use Rattle.scj_builtins.specs.declared.classes.FrameworkClass.{FrameworkClass}
use Rattle.scj_builtins.specs.Framework.{framework_classes}
use Rattle.scj_tree.specs.Forest.{Forest}
use Rattle.scj_tree.specs.Recursion.{listed}
use Rattle.scj_rules.specs.Words.{or_else}
use Rattle.scj_rules.specs.Views.{WrittenClass}
use Rattle.scj_rules.specs.Classes.{ClassRow, is_well_headed}
use Rattle.scj_rules.specs.Contexts.{Declarations, declarations_of}
use Rattle.scj_rules.specs.ScopeRules.{defined_by_chain}
use Rattle.class_rows.specs.declared.members.MemberKind.TheVariants.{Field, Method}
use Rattle.class_rows.specs.declared.tables.ClassTable.TheInside.{Inside}
use Rattle.class_rows.specs.declared.inherited.InheritedMethods.{InheritedMethods}
use Rattle.class_rows.specs.Inherited.{AreInheritedMethods}
use Rattle.class_rows.specs.Members.{IsMembersOf, AreNearest}
use Rattle.class_rows.specs.Walks.{AreAncestries}

-- the name of the framework's class of a number, or of the class that is written
unfoldable pub name_of : Declarations → ℕ → Option (List ℕ)
name_of p class = or_else (option_map (λ (c : FrameworkClass). c.name) (slice_get framework_classes class))
    (option_map (λ (c : WrittenClass). c.name) (class_written p class))

-- nothing in the header is forbidden, where there is one
unfoldable pub is_good_header : Declarations → ℕ → Option WrittenClass → Bool
is_good_header p class None = true
is_good_header p class (Some c) = is_well_headed p.names p.written class c

abbrev pub has_good_header : Declarations → ℕ → ClassRow → Bool
has_good_header p class row = is_good_header p class row.written

-- the class counts as one under Object
abbrev pub is_under_object : Declarations → ℕ → Bool
is_under_object p class = not (is_good_header p class (class_written p class))

-- the classes are marked that do
abbrev pub AreUnderObject : Forest → List Bool → Type 0
AreUnderObject forest marks =
    marks ≡ listed (is_under_object (declarations_of forest)) (length (declarations_of forest).written)

-- the scopes are those that the chains of the classes define, class after class
abbrev pub AreChainedScopes : Forest → List (Option ℕ) → Type 0
AreChainedScopes forest scopes =
    scopes ≡ listed (defined_by_chain (declarations_of forest)) (length (declarations_of forest).classes)

-- the table is that of the program
pub record IsTableOf (forest : Forest) (table : Inside) : Type 0 where
  pub count : table.count ≡ length (declarations_of forest).classes
  pub under_object : AreUnderObject forest table.under_object.items
  pub ways : AreWaysOf (declarations_of forest).classes table.ways.items
  pub ancestries : AreAncestries (declarations_of forest).classes table.ancestries.items
  pub fields : IsMembersOf Field forest table.fields
  pub methods : IsMembersOf Method forest table.methods
  pub fields_above : AreNearest Field forest table.fields_above
  pub methods_above : AreNearest Method forest table.methods_above
  pub inherited : (reported : InheritedMethods) → table.inherited ≡ Some reported →
      AreInheritedMethods (declarations_of forest) [] reported
