-- What simple names, accesses and calls stand for, by short rows.
use Rattle.std.specs.Prelude.{ℕ, ◌≡◌, List, Option, Some, None}
use Rattle.scj_tree.specs.declared.nodes.Node.{Node}
use Rattle.scj_tree.specs.declared.nodes.Node.TheVariants.{SimpleName, FieldAccess, Call}
use Rattle.scj_tree.specs.Forest.{Forest}
use Rattle.scj_tree.specs.Recursion.{lookup}
use Rattle.scj_rules.specs.Definitions.{read}
use Rattle.scj_rules.specs.Classes.{field_named, method_named}
use Rattle.scj_rules.specs.Contexts.{declarations_of}
use Rattle.scj_rules.specs.Types.{meaning}
use Rattle.scj_rules.specs.declared.typing.Meaning.{Meaning}
use Rattle.scj_rules.specs.declared.typing.Meaning.TheVariants.{Variable as a_variable, Field as a_field, Class as a_class, Nothing as nothing}
use Rattle.class_rows.specs.Fields.{found_field}
use Rattle.method_rows.specs.Methods.{found_method}
use Rattle.program_facts.specs.declared.meanings.NameMeaning.{NameMeaning}
use Rattle.program_facts.specs.declared.meanings.NameMeaning.TheVariants.{Variable as variable_row, Field as field_row, Class as class_row, Nothing as no_row}
use Rattle.program_facts.specs.declared.meanings.NodeMeaning.{NodeMeaning}
use Rattle.program_facts.specs.declared.meanings.NodeMeaning.TheVariants.{Name as of_name, Field as of_access, Method as of_call, Nothing as of_other}

unfoldable pub meant : List Node → NameMeaning → Meaning
meant nodes (variable_row variable) = a_variable variable
meant nodes (field_row field) = a_field (found_field nodes field)
meant nodes (class_row class) = a_class class
meant nodes no_row = nothing

-- the name of a simple name
unfoldable pub simply_named : Node → Option (List ℕ)
simply_named (SimpleName position name) = Some name
simply_named _ = None

-- the name of an access or a call
unfoldable pub member_named : Node → Option (List ℕ)
member_named (FieldAccess position name object) = Some name
member_named (Call position name object arguments) = Some name
member_named _ = None

-- the row tells which field or method of the name the class has
unfoldable pub IsMember : Forest → List ℕ → NodeMeaning → Type 0
IsMember forest name (of_access class field) =
    Some (found_field forest.nodes field) ≡ field_named (declarations_of forest).classes class name
IsMember forest name (of_call class method) =
    Some (found_method forest.nodes method) ≡ method_named (declarations_of forest).classes class name
IsMember forest name _ = Unit

-- the row tells what the node's name stands for, or which field or method of the node's name the class has
unfoldable pub IsMeaningAt : Forest → ℕ → NodeMeaning → Type 0
IsMeaningAt forest id (of_name row) = (name : List ℕ) → read forest.nodes simply_named id ≡ Some name →
    meant forest.nodes row ≡ meaning (declarations_of forest) id name
IsMeaningAt forest id of_other = Unit
IsMeaningAt forest id row = (name : List ℕ) → read forest.nodes member_named id ≡ Some name → IsMember forest name row

-- the rows that are there tell it of the first nodes
abbrev pub AreMeanings : Forest → List NodeMeaning → Type 0
AreMeanings forest rows = (id : ℕ) → IsMeaningAt forest id (lookup of_other rows id)
