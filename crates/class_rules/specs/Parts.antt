-- A class as its parts write it, and what is broken at it.
use Rattle.std.specs.Prelude.{ℕ, List, ◌++◌, filter_map}
use Rattle.scj_base.specs.declared.findings.Found.{Found}
use Rattle.scj_tree.specs.declared.nodes.Node.{Node}
use Rattle.scj_tree.specs.Forest.{Forest}
use Rattle.scj_rules.specs.Definitions.{read}
use Rattle.scj_rules.specs.Classes.{ClassRow, user_row}
use Rattle.scj_rules.specs.ClassRules.{class_breaks}
use Rattle.scj_rules.specs.Contexts.{Declarations, declarations_of}
use Rattle.scj_rules.specs.LimitRules.{class_limits}
use Rattle.scj_rules.specs.Views.{named_super, WrittenClass}
use Rattle.class_rules.specs.declared.parts.ClassParts.{ClassParts}

abbrev pub written_class : List Node → ClassParts → WrittenClass
written_class nodes c =
    record {
      node = c.node;
      position = c.position;
      name = c.name;
      modifiers = c.modifiers;
      extends = c.extends;
      implements = filter_map (read nodes named_super) c.interfaces.now;
      members = c.members.now;
    }

-- the row of a user class by what it writes
abbrev pub own_row : Declarations → WrittenClass → ClassRow
own_row p c = user_row p.nodes p.names c

abbrev pub row_of : Forest → ClassParts → ClassRow
row_of forest c = own_row (declarations_of forest) (written_class forest.nodes c)

abbrev pub class_found : Declarations → ℕ → ClassRow → WrittenClass → List Found
class_found p class row c = class_breaks p class row c ++ class_limits p class c
