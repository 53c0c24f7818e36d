-- The variables of a member, in the order of their numbers.
use Rattle.std.specs.Prelude.{◌≡◌, ℕ, List, [], ◌++◌, map, Option, None, unwrap_or}
use Rattle.scj_tree.specs.declared.nodes.Node.{Node}
use Rattle.scj_tree.specs.declared.nodes.Node.TheVariants.{Method, Constructor}
use Rattle.scj_rules.specs.declared.views.Declared.{Declared}
use Rattle.scj_rules.specs.Definitions.{read}
use Rattle.scj_rules.specs.Words.{◌>>=◌}
use Rattle.scj_rules.specs.Views.{parameters_of}
use Rattle.scj_rules.specs.Contexts.{Declarations}
use Rattle.scj_rules.specs.LimitRules.{variables_of}

-- the list of parameters of a method or a constructor
unfoldable pub parameter_list : Node → Option ℕ
parameter_list (Method position name flags result_type parameters body) = parameters
parameter_list (Constructor position name flags parameters super_call body) = parameters
parameter_list _ = None

-- the parameters of a body; a class's unwritten constructor has none
unfoldable pub body_parameters : Declarations → ℕ → List Declared
body_parameters p body =
    unwrap_or (read p.nodes parameter_list body >>= read p.nodes (parameters_of p.nodes)) []

-- the parameters of a member have its first numbers, each its place among the parameters
pub record BeginWithParameters (p : Declarations) (member : ℕ) : Type 0 where
  pub others : List ℕ
  pub is : variables_of p member ≡ map (λ (d : Declared). d.node) (body_parameters p member) ++ others
