-- What is found at the nodes, in the order in which it is noted.
use Rattle.std.specs.Prelude.{ℕ, nat_le, Bool, true, false, ◌&&◌, List, [], ◌++◌, Option, Some, slice_get, option_map, if◌then◌else◌}
use Rattle.scj_base.specs.declared.findings.Found.{Found}
use Rattle.scj_base.specs.declared.findings.Rule.TheVariants.{K2}
use Rattle.scj_tree.specs.declared.nodes.Node.{Node}
use Rattle.scj_tree.specs.declared.nodes.Node.TheVariants.{Method as method_node, Constructor as constructor_node}
use Rattle.scj_tree.specs.declared.kinds.NodeKind.{NodeKind}
use Rattle.scj_tree.specs.declared.kinds.NodeKind.TheVariants.{Class, Field, Method, Constructor, Parameter, Local, LocalWithValue, TypeArgument, New, Cast, NewArray}
use Rattle.scj_rules.specs.Words.{broken, found_at, holds}
use Rattle.scj_rules.specs.Views.{variable_at}
use Rattle.scj_rules.specs.Classes.{is_callable}
use Rattle.scj_rules.specs.ClassRules.{node_breaks}
use Rattle.scj_rules.specs.LimitRules.{most_locals, k3, node_limits}
use Rattle.scj_rules.specs.Contexts.{Declarations}
use Rattle.scj_rules.specs.Phases.{over_nodes}
use Rattle.node_views.specs.Parts.{naming}
use Rattle.node_contexts.specs.Numbers.{owner_of, number_before}

-- K3 at a node
unfoldable pub parameter_limit : Declarations → Node → List Found
parameter_limit p (method_node position name flags result_type parameters body) = k3 p parameters
parameter_limit p (constructor_node position name flags parameters super_call body) = k3 p parameters
parameter_limit p _ = []

-- what is found at a node, if there is one, but for the limit on variables
unfoldable pub found_there : Declarations → ℕ → List Found
found_there p id = found_at (slice_get p.nodes id) (λ node. node_breaks p id node ++ parameter_limit p node)

-- the node declares a variable of a method or a constructor behind 32 others, if there are so many before it
abbrev pub is_late : Declarations → ℕ → ℕ → Bool
is_late p id number = holds (owner_of p id) (is_callable p.nodes) && nat_le most_locals number

-- K2 at the variable that a node declares
abbrev pub broken_at_variable : List Node → ℕ → List Found
broken_at_variable nodes id = found_at (option_map naming (variable_at nodes id)) (λ w. broken true K2 w.position)

-- the same, where it comes late
abbrev pub too_late : Declarations → ℕ → ℕ → List Found
too_late p id number = if is_late p id number then broken_at_variable p.nodes id else []

unfoldable pub late_at : Declarations → ℕ → List Found
late_at p id = too_late p id (number_before p id)

-- what is found at a node, with the limit on variables, as they are counted one after the other
unfoldable pub noted_at : Declarations → ℕ → List Found
noted_at p id = found_there p id ++ late_at p id

-- what the rules find at all nodes
abbrev pub nodes_broken : Declarations → List Found
nodes_broken p = over_nodes p (λ id node. node_breaks p id node ++ node_limits p id node)

-- the rules on single nodes ask nodes of the kind
unfoldable pub is_asked_kind : Option NodeKind → Bool
is_asked_kind (Some Class) = true
is_asked_kind (Some Field) = true
is_asked_kind (Some Method) = true
is_asked_kind (Some Constructor) = true
is_asked_kind (Some Parameter) = true
is_asked_kind (Some Local) = true
is_asked_kind (Some LocalWithValue) = true
is_asked_kind (Some TypeArgument) = true
is_asked_kind (Some New) = true
is_asked_kind (Some Cast) = true
is_asked_kind (Some NewArray) = true
is_asked_kind _ = false
