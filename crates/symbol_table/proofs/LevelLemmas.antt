-- The chain of Object and of a class right under another one, and what a class has of those above.
use Rattle.std.proofs.Common.{◌≡◌, ℕ, suc, List, [], ◌∷◌, length, slice_get, Option, None, Some, ap, ◌∙◌, arith, option_and_then, ◌+◌, filter, sym, filter_map}
use Rattle.std.proofs.lemmas.List.{length-map}
use Rattle.std.proofs.lemmas.Grind.{common_steps}
use Rattle.scj_builtins.specs.Framework.{framework_classes, object, object_name, class_row}
use Rattle.scj_builtins.specs.declared.kinds.ClassKind.TheVariants.{Concrete as concrete_class}
use Rattle.scj_tree.specs.Forest.{Forest}
use Rattle.scj_rules.specs.Words.{chain_behind}
use Rattle.scj_rules.specs.Classes.{ClassRow, classes_above, framework_row, framework_rows_from, superclass_in, superclasses, written_rows, instance_fields, own_instance_fields}
use Rattle.scj_rules.specs.Contexts.{declarations_of}
use Rattle.scj_rules.specs.Views.{field_at}
use Rattle.class_rows.specs.Tables.{is_good_header, members_in}
use Rattle.class_rows.proofs.RowLemmas.{class_get, counted_is}
use Rattle.class_rows.proofs.OwnLemmas.{fields_at, no_members}
use Rattle.class_rows.proofs.WalkLemmas.{chain_alone, next_chain}
use Rattle.symbol_table.specs.Scopes.{IsNext, rows_of, IsPath, IsUnder, classes_of, is_instance, nearest_level, object_level}
use Rattle.symbol_table.specs.declared.levels.Level.{Level}

-- ---- Object

abbrev object_row : ClassRow
object_row = framework_row object (class_row object object_name concrete_class)

module _ (forest : Forest) where
  object_at : slice_get (rows_of forest) object ≡ Some object_row
  unfolding declarations_of written_rows framework_classes framework_rows_from is_good_header framework_row
  object_at =
      class_get forest object ∙ ap (λ (r : ClassRow). Some r) (counted_is (declarations_of forest) object object_row)

  no_superclass : superclass_in (rows_of forest) object ≡ None
  unfolding framework_row
  no_superclass = ap (λ (o : Option ClassRow). option_and_then (λ (row : ClassRow). row.superclass) o) object_at

  pub object_chain : superclasses (rows_of forest) object ≡ object ∷ []
  object_chain = chain_alone forest object (sym no_superclass)

-- the instance fields that a class declares
pub fields_of_class : (forest : Forest) (class : ℕ) → own_instance_fields (rows_of forest) class ≡ filter is_instance
    (filter_map (field_at forest.nodes) (members_in (declarations_of forest) class))
unfolding own_instance_fields
fields_of_class forest class = grind (arith, common_steps, fields_at forest class)

-- ---- a class with those above it

pub object_under : (forest : Forest) → IsUnder (rows_of forest) object_level []
unfolding instance_fields classes_above chain_behind
object_under forest =
    let rows = rows_of forest in
    let members = no_members forest object (omega arith) in
    let none : own_instance_fields rows object ≡ [] =
    grind (arith, common_steps, fields_of_class forest object, members) in
    record {
      chain = object_chain forest;
      behind = grind (arith, common_steps, no_superclass forest);
      split = grind (arith, common_steps, object_chain forest);
      count = grind (arith, common_steps, object_chain forest, none);
    }

module _ (forest : Forest) (above level : Level) (behind : List ℕ) (count : ℕ)
    (u : IsUnder (rows_of forest) above behind) (n : IsNext (rows_of forest) above.class count level.class)
    (d : count ≡ suc (length behind)) where
  abbrev rows : List ClassRow
  rows = rows_of forest

  abbrev those : List ℕ
  those = superclasses rows above.class

  chain_is : superclasses rows level.class ≡ level.class ∷ those
  chain_is = next_chain rows level.class above.class n.superclass (omega (arith, n.shorter, ap length u.chain, d))

  level_is : level.field_count ≡ length (own_instance_fields rows level.class) + above.field_count →
      IsUnder rows level (above.class ∷ behind)
  unfolding instance_fields classes_above chain_behind superclasses
  level_is c =
      record {
        chain = chain_is ∙ ap (λ (xs : List ℕ). level.class ∷ xs) u.chain;
        behind = grind (arith, common_steps, n.superclass, u.chain);
        split = grind (arith, common_steps, n.framework, chain_is, u.split, object_chain forest);
        count = grind (arith, common_steps, c, u.count, chain_is);
      }

module _ (forest : Forest) (level : Level) where
  pub lowest_is : (path : List Level) → None ≡ nearest_level path → level ≡ object_level →
      IsUnder (rows_of forest) level (classes_of path)
  lowest_is [] e s = rw s (object_under forest)
  lowest_is (l ∷ path) e s = cc

  pub next_is : (path : List Level) (above : Level) (count : ℕ) → Some above ≡ nearest_level path →
      IsPath (rows_of forest) path → count ≡ length path → IsNext (rows_of forest) above.class count level.class →
      level.field_count ≡ length (own_instance_fields (rows_of forest) level.class) + above.field_count →
      IsUnder (rows_of forest) level (classes_of path)
  next_is [] above count e p d n c = cc
  next_is (l ∷ path) above count e p d n c =
      let same : l ≡ above = cc in
      rw same (level_is forest above level (classes_of path) count (rw same at p.0) n
      (omega (arith, d, length-map path (λ (x : Level). x.class))) c)
