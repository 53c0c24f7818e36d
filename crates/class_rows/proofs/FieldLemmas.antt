-- What a field has that a short row stands for.
use Rattle.std.proofs.Common.{◌≡◌, ℕ, List, refl, arith, Option, Some, None, true, is_some, slice_get, option_map, option_and_then, unwrap_or}
use Rattle.std.proofs.lemmas.Grind.{common_steps}
use Rattle.scj_tree.specs.declared.nodes.Node.{Node}
use Rattle.scj_tree.specs.declared.nodes.Node.TheVariants.{Field}
use Rattle.scj_rules.specs.declared.views.Declared.{Declared}
use Rattle.scj_rules.specs.Words.{holds}
use Rattle.scj_rules.specs.Views.{field_at, field_of}
use Rattle.class_rows.specs.declared.fields.FieldRef.{FieldRef}
use Rattle.class_rows.specs.Fields.{found_field, no_field}

pub static_is : (o : Option Declared) (node : ℕ) →
    holds o (λ (f : Declared). f.modifiers.is_static) ≡ (unwrap_or o (no_field node)).modifiers.is_static
static_is None node = refl
static_is (Some d) node = refl

-- a field that is read at a node is that node's
pub field_there : (nodes : List Node) (id : ℕ) → is_some (field_at nodes id) ≡ true →
    option_map (λ (f : Declared). f.node) (field_at nodes id) ≡ Some id
unfolding field_of
field_there nodes id e = go (slice_get nodes id) e
  where
    go : (o : Option Node) → is_some (option_and_then (field_of nodes id) o) ≡ true →
        option_map (λ (f : Declared). f.node) (option_and_then (field_of nodes id) o) ≡ Some id
    go None e = cc
    go (Some (Field position name flags declared_type equals value)) e = refl
    go (Some _) e = cc

pub node_of_found : (nodes : List Node) (f : FieldRef) → (found_field nodes f).field.node ≡ f.node
unfolding found_field
node_of_found nodes f = grind (arith, common_steps, field_there nodes f.node)
