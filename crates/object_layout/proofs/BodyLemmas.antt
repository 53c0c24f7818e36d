-- The nodes of methods, and the nodes of a program among its declarations.
use Rattle.std.proofs.Common.{◌≡◌, ℕ, ◌-◌, ◌<◌, ◌≤◌, None, true, false, nat_lt, slice_get, refl, arith}
use Rattle.std.proofs.lemmas.Bool.Decides.{nat_tests}
use Rattle.scj_builtins.specs.Framework.{framework_methods, framework_method_count}
use Rattle.scj_tree.specs.Forest.{Forest}
use Rattle.scj_rules.specs.Classes.{method_nodes}
use Rattle.scj_rules.specs.Contexts.{Declarations, declarations_of, contexts_in}
use Rattle.scj_rules.specs.Bodies.{method_node}

pub nodes_are : (forest : Forest) → (declarations_of forest).nodes ≡ forest.nodes
unfolding declarations_of
nodes_are forest = refl

pub no_framework_node : (p : Declarations) (method : ℕ) → method < framework_method_count → method_node p method ≡ None
unfolding method_node framework_methods
no_framework_node p method h =
    (let t : nat_lt method framework_method_count ≡ true = grind (arith, nat_tests) in rw t refl)

pub declared_node : (forest : Forest) (method : ℕ) → framework_method_count ≤ method
    → method_node (declarations_of forest) method ≡ slice_get
    (method_nodes forest.nodes (declarations_of forest).users) (method - framework_method_count)
unfolding method_node framework_methods declarations_of
declared_node forest method h =
    (let t : nat_lt method framework_method_count ≡ false = grind (arith, nat_tests) in rw t refl)

pub contexts_are : (forest : Forest) → (declarations_of forest).contexts ≡ contexts_in forest
unfolding declarations_of
contexts_are forest = refl
