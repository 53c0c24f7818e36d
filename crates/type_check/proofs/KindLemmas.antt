-- Nodes whose kind tells their type break no rule.
use Rattle.std.proofs.Common.{◌≡◌, ℕ, List, [], ◌++◌, Option, Some, None, option_and_then, option_map, slice_get, append-nil, sym}
use Rattle.scj_base.specs.declared.findings.Found.{Found}
use Rattle.scj_tree.specs.declared.nodes.Node.{Node}
use Rattle.scj_tree.specs.declared.nodes.Node.TheVariants.{Class}
use Rattle.scj_tree.specs.Forest.{Forest}
use Rattle.scj_tree.specs.Kinds.{kind_of}
use Rattle.scj_rules.specs.declared.typing.Ty.{Ty}
use Rattle.scj_rules.specs.Words.{found_at}
use Rattle.scj_rules.specs.Classes.{is_empty}
use Rattle.scj_rules.specs.Contexts.{declarations_of}
use Rattle.scj_rules.specs.TypeRules.{Types, t1, t2, t3, t4, t5, t6, t7, t8, t9, t10, t11, t12, t13, t14, type_breaks, type_of, type_of_right, type_of_next}
use Rattle.type_check.specs.Kinds.{type_of_kind}

module _ (forest : Forest) (types : Types) (id : ℕ) (t : Option Ty) where
  right : (node : Node) → type_of_kind (Some (kind_of node)) ≡ Some t →
      (type_breaks (declarations_of forest) types id node ≡ []) × (t ≡ type_of (declarations_of forest) types id node)
  unfolding type_of_kind kind_of type_of type_breaks t1 t2 t3 t4 t5 t6 t7 t8 t9 t10 t11 t12 t13 t14
  right (Class a b c d e) h = (cc, cc)
  right _ h = (cc, cc)

  pub none_of_kind : (found : List Found) → type_of_kind (option_map kind_of (slice_get forest.nodes id)) ≡ Some t →
      found ≡ found ++ found_at (slice_get forest.nodes id) (type_breaks (declarations_of forest) types id)
  none_of_kind found = go (slice_get forest.nodes id)
    where
      go : (o : Option Node) → type_of_kind (option_map kind_of o) ≡ Some t →
          found ≡ found ++ found_at o (type_breaks (declarations_of forest) types id)
      go None h = sym (append-nil found)
      go (Some node) h = rw (right node h).0 (sym (append-nil found))

  pub typed_by_kind : type_of_kind (option_map kind_of (slice_get forest.nodes id)) ≡ Some t →
      t ≡ type_of_next (declarations_of forest) id types
  unfolding type_of_kind type_of_next type_of_right is_empty declarations_of
  typed_by_kind = go (slice_get forest.nodes id)
    where
      go : (o : Option Node) → type_of_kind (option_map kind_of o) ≡ Some t →
          t ≡ option_and_then (type_of_right (declarations_of forest) types id) o
      go None h = cc
      go (Some node) h = rw (right node h).0 (right node h).1
