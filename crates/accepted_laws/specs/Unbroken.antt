-- No rule is broken at a node, and none at a class.
use Rattle.std.specs.Prelude.{◌≡◌, ℕ, []}
use Rattle.scj_tree.specs.declared.nodes.Node.{Node}
use Rattle.scj_rules.specs.Views.{WrittenClass}
use Rattle.scj_rules.specs.Classes.{ClassRow}
use Rattle.scj_rules.specs.Contexts.{Declarations}
use Rattle.scj_rules.specs.ClassRules.{c1, c2, c3, c4, c5, c6, c7, c10, class_breaks, node_breaks}
use Rattle.scj_rules.specs.LimitRules.{class_limits, node_limits}
use Rattle.scj_rules.specs.TypeRules.{type_breaks}
use Rattle.scj_rules.specs.ScopeRules.{scope_breaks}
use Rattle.scj_rules.specs.AnnotationRules.{a1, a2, a3_to_a5, a6_to_a8, a9, annotation_breaks}
use Rattle.scj_rules.specs.UseRules.{use_breaks}
use Rattle.accepted_laws.specs.Judgements.{type_at_node, scope_at_node}

-- neither C9 or C11, nor K2 or K3, nor T, A or E is broken at the node
pub record NoBreakAtNode (p : Declarations) (id : ℕ) (node : Node) : Type 0 where
  pub no_class_rule : node_breaks p id node ≡ []
  pub no_limit : node_limits p id node ≡ []
  pub no_type_rule : type_breaks p (type_at_node p) id node ≡ []
  pub no_annotation_rule : annotation_breaks p id node ≡ []
  pub no_use_rule : use_breaks p (type_at_node p) (scope_at_node p) id node ≡ []

-- neither C1 to C7 or C10, nor K1 or K4, nor S is broken at the class
pub record NoBreakAtClass (p : Declarations) (class : ℕ) (row : ClassRow) (c : WrittenClass) : Type 0 where
  pub no_class_rule : class_breaks p class row c ≡ []
  pub no_limit : class_limits p class c ≡ []
  pub no_scope_rule : scope_breaks p class c ≡ []

-- the rules on classes at a class, one by one
pub record NoClassBreak (p : Declarations) (class : ℕ) (row : ClassRow) (c : WrittenClass) : Type 0 where
  pub class_twice : c1 p class c ≡ []
  pub unknown_super : c2 p c ≡ []
  pub class_cycle : c3 p class c ≡ []
  pub field_twice : c4 p class row ≡ []
  pub method_twice : c5 p c ≡ []
  pub override_types : c6 p class row ≡ []
  pub left_open : c7 p class c row ≡ []
  pub forbidden_super : c10 p c ≡ []

-- the rules on annotations at a node, one by one
pub record NoAnnotationBreak (p : Declarations) (id : ℕ) (node : Node) : Type 0 where
  pub unknown_scope : a1 p id node ≡ []
  pub class_scope : a2 p id node ≡ []
  pub field_scope : a3_to_a5 p id node ≡ []
  pub methods : a6_to_a8 p id node ≡ []
  pub contradicting_scope : a9 p id node ≡ []
