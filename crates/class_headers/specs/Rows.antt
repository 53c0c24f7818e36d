-- The headers of classes, part by part.
use Rattle.std.specs.Prelude.{ℕ, List, [], ◌∷◌, filter_map, Option, Some, None, option_map, option_and_then, unwrap_or, if◌then◌else◌}
use Rattle.scj_builtins.specs.declared.kinds.ClassKind.TheVariants.{Abstract as abstract_class, Concrete as concrete_class}
use Rattle.scj_builtins.specs.declared.classes.FrameworkClass.{FrameworkClass}
use Rattle.scj_builtins.specs.Framework.{object}
use Rattle.scj_tree.specs.declared.nodes.Node.{Node}
use Rattle.scj_rules.specs.declared.scopes.Written.{Written}
use Rattle.scj_rules.specs.Views.{DeclaredConstructor, WrittenClass, class_at, constructor_at}
use Rattle.scj_rules.specs.Classes.{ClassRow, framework_row}
use Rattle.class_headers.specs.declared.filling.Header.{Header}

abbrev pub first_node : List DeclaredConstructor → Option ℕ
first_node cs = option_map (λ (c : DeclaredConstructor). c.node) (elim cs [ [] ↦ None | c ∷ more ↦ Some c ])

-- the header in a row
unfoldable pub header_of : ClassRow → Header
header_of row =
    record {
      node = option_map (λ (c : WrittenClass). c.node) row.written;
      kind = row.kind;
      superclass = row.superclass;
      constructor = first_node row.constructors;
    }

-- the same by what `find` tells of names
unfoldable pub superclass_by : (List ℕ → Option ℕ) → Option Written → Option ℕ
superclass_by find None = Some object
superclass_by find (Some extends) = find extends.name

abbrev pub interfaces_by : (List ℕ → Option ℕ) → List Written → List ℕ
interfaces_by find ws = filter_map (λ (w : Written). find w.name) ws

-- the interfaces of the class at a node, and none of no class
unfoldable pub interfaces_at : List Node → (List ℕ → Option ℕ) → Option ℕ → List ℕ
interfaces_at nodes find node =
    interfaces_by find
    (unwrap_or (option_map (λ (c : WrittenClass). c.implements) (option_and_then (class_at nodes) node)) [])

unfoldable pub header_by : List Node → (List ℕ → Option ℕ) → WrittenClass → Header
header_by nodes find c =
    record {
      node = Some c.node;
      kind = if c.modifiers.is_abstract then abstract_class else concrete_class;
      superclass = superclass_by find c.extends;
      constructor = first_node (filter_map (constructor_at nodes) c.members);
    }

-- the header of a framework class
abbrev pub framework_header : FrameworkClass → Header
framework_header c = header_of (framework_row c.number c)
