-- Nodes of most kinds stand for nothing but themselves.
use Rattle.std.proofs.Common.{◌≡◌, ℕ, Option, Some, None, option_map, slice_get, refl, false}
use Rattle.scj_tree.specs.declared.nodes.Node.{Node}
use Rattle.scj_tree.specs.declared.nodes.Node.TheVariants.{Class}
use Rattle.scj_tree.specs.Kinds.{kind_of}
use Rattle.scj_rules.specs.declared.typing.Binding.TheVariants.{Plain}
use Rattle.scj_tree.specs.Forest.{Forest}
use Rattle.scj_rules.specs.Contexts.{declarations_of}
use Rattle.scj_rules.specs.TypeRules.{Types}
use Rattle.scj_rules.specs.Bindings.{binding_of, binding_at, plain_or}
use Rattle.node_bindings.specs.Kinds.{is_bound_kind}

module _ (forest : Forest) (types : Types) (id : ℕ) where
  plain : (node : Node) → is_bound_kind (Some (kind_of node)) ≡ false →
      Plain ≡ binding_of (declarations_of forest) types id node
  unfolding is_bound_kind kind_of binding_of
  plain (Class a b c d e) h = cc
  plain _ h = cc

  pub unbound : is_bound_kind (option_map kind_of (slice_get forest.nodes id)) ≡ false →
      Plain ≡ binding_at (declarations_of forest) types id
  unfolding binding_at declarations_of
  unbound = go (slice_get forest.nodes id)
    where
      go : (o : Option Node) → is_bound_kind (option_map kind_of o) ≡ false →
          Plain ≡ plain_or (binding_of (declarations_of forest) types id) o
      go None h = refl
      go (Some node) h = plain node h
