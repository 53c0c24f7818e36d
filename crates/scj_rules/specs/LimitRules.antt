-- K1 to K4: the limits of this checker.
use Rattle.std.specs.Prelude.{ℕ, ◌+◌, nat_lt, Bool, ◌&&◌, ◌==◌, List, [], ◌++◌, length, filter, filter_map, drop, Option, is_some}
use Rattle.scj_base.specs.declared.findings.Found.{Found}
use Rattle.scj_base.specs.declared.findings.Rule.{Rule}
use Rattle.scj_base.specs.declared.findings.Rule.TheVariants.{K1, K2, K3, K4}
use Rattle.scj_tree.specs.declared.nodes.Node.{Node}
use Rattle.scj_tree.specs.declared.nodes.Node.TheVariants.{Method, Constructor}
use Rattle.scj_rules.specs.Words.{broken, broken_at_each, holds}
use Rattle.scj_rules.specs.Views.{WrittenClass, variable_at, parameters_at}
use Rattle.scj_rules.specs.Classes.{first_user_class, instance_fields}
use Rattle.scj_rules.specs.Contexts.{Declarations, context}
use Rattle.scj_rules.specs.ClassRules.{numbers_from}
use Rattle.scj_rules.specs.declared.views.Declared.{Declared}

-- the limits of docs/LANGUAGE.md
abbrev pub most_classes : ℕ
most_classes = 256

abbrev pub most_locals : ℕ
most_locals = 32

abbrev pub most_parameters : ℕ
most_parameters = 8

abbrev pub most_fields : ℕ
most_fields = 64

-- a parameter or local of the member is declared at the node
abbrev pub is_variable_of : Declarations → ℕ → ℕ → Bool
is_variable_of p member id = is_some (variable_at p.nodes id) && holds (context p id).member (λ m. m == member)

-- the parameters and locals of a member, each at its number: parameters first, then locals in the order of the source
unfoldable pub variables_of : Declarations → ℕ → List ℕ
variables_of p member = filter (is_variable_of p member) (numbers_from 0 p.nodes)

-- the rule is broken at each of these declarations
abbrev pub broken_at_declared : Rule → List Declared → List Found
broken_at_declared rule list = broken_at_each (λ (d : Declared). d.position) rule list

-- the class is beyond the first 256 of the user
abbrev pub exceeds_classes : ℕ → Bool
exceeds_classes class = nat_lt (first_user_class + most_classes) (class + 1)

-- K1, too many classes
unfoldable pub k1 : ℕ → WrittenClass → List Found
k1 class c = broken (exceeds_classes class) K1 c.position

-- K2, too many locals: parameters count as locals
unfoldable pub k2 : Declarations → ℕ → List Found
k2 p member = broken_at_declared K2 (filter_map (variable_at p.nodes) (drop most_locals (variables_of p member)))

-- K3, too many parameters
unfoldable pub k3 : Declarations → Option ℕ → List Found
k3 p parameters = broken_at_declared K3 (drop most_parameters (parameters_at p.nodes parameters))

-- the class has more than 64 instance fields that are declared, inherited ones included
abbrev pub exceeds_fields : Declarations → ℕ → Bool
exceeds_fields p class = nat_lt most_fields (length (instance_fields p.classes class))

-- K4, too many fields
unfoldable pub k4 : Declarations → ℕ → WrittenClass → List Found
k4 p class c = broken (exceeds_fields p class) K4 c.position

-- the breaks at a user class, and at a node
unfoldable pub class_limits : Declarations → ℕ → WrittenClass → List Found
class_limits p class c = k1 class c ++ k4 p class c

unfoldable pub node_limits : Declarations → ℕ → Node → List Found
node_limits p id (Method position name flags result_type parameters body) = k2 p id ++ k3 p parameters
node_limits p id (Constructor position name flags parameters super_call body) = k2 p id ++ k3 p parameters
node_limits p id _ = []
