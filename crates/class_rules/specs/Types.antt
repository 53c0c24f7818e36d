-- The types of parameters that are compared.
use Rattle.std.specs.Prelude.{ℕ, List, drop, map, filter_map}
use Rattle.scj_tree.specs.declared.nodes.Node.{Node}
use Rattle.scj_rules.specs.declared.views.Declared.{Declared}
use Rattle.scj_rules.specs.declared.views.WrittenType.{WrittenType}
use Rattle.scj_rules.specs.Views.{variable_at}
use Rattle.method_rows.specs.Methods.{found_method}
use Rattle.class_rules.specs.declared.types.Types.{Types}
use Rattle.class_rules.specs.declared.types.Types.TheVariants.{Nodes, Parameters}

-- the types of the parameters among nodes
unfoldable pub types_among : List Node → List ℕ → List WrittenType
types_among nodes list = map (λ (d : Declared). d.declared_type) (filter_map (variable_at nodes) list)

-- the types that are still to be compared
unfoldable pub types_left : List Node → Types → List WrittenType
types_left nodes (Nodes list) = types_among nodes list.now
types_left nodes (Parameters m number) =
    map (λ (d : Declared). d.declared_type) (drop number (found_method nodes m).method.parameters)
