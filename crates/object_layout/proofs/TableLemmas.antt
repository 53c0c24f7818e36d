-- What the rows of the objects tell, and what there is to tell where there is no row.
use Rattle.std.proofs.Common.{◌≡◌, ℕ, zero, suc, ◌≤◌, ◌+◌, ◌==◌, List, [], ◌∷◌, length, position, sym, ap, arith, Some, None, slice_get, option_map}
use Rattle.scj_tree.specs.Forest.{Forest}
use Rattle.scj_rules.specs.Classes.{hidden_fields}
use Rattle.scj_rules.specs.Contexts.{Declarations, declarations_of}
use Rattle.scj_rules.specs.Layout.{slots}
use Rattle.object_layout.specs.declared.object_tables.ObjectTable.{ObjectTable}
use Rattle.object_layout.specs.declared.objects.ObjectRow.{ObjectRow}
use Rattle.object_layout.specs.ObjectTables.{instance_kinds, literal_nodes, slot_of_node, IsObjectRowOf}
use Rattle.object_layout.specs.Objects.{IsObjectTableOf}
use Rattle.object_layout.proofs.ObjectLemmas.{hidden_past, slots_past, kinds_past, literals_past, nodes_past}

missing_past : {A : Type 0} (xs : List A) (i : ℕ) → slice_get xs i ≡ None → length xs ≤ i
missing_past [] i e = omega arith
missing_past (x ∷ xs) zero e = absurd (cc)
missing_past (x ∷ xs) (suc i) e = omega (arith, missing_past xs i e)

module _ (forest : Forest) (table : ObjectTable) (class : ℕ) (is : IsObjectTableOf forest table) where
  abbrev p : Declarations
  p = declarations_of forest

  abbrev rows : List ObjectRow
  rows = table.rows.items

  there : (row : ObjectRow) → Some row ≡ slice_get rows class → IsObjectRowOf p class row
  there row e = is.rows.each class row (sym e)

  past : None ≡ slice_get rows class → length p.classes ≤ class
  past e = (let l = missing_past rows class (sym e) in let w = is.rows.whole in omega (arith, l, w))

  pub hidden_there : (row : ObjectRow) → Some row ≡ slice_get rows class → row.hidden ≡ hidden_fields p.classes class
  hidden_there row e = (there row e).hidden

  pub hidden_missing : None ≡ slice_get rows class → 0 ≡ hidden_fields p.classes class
  hidden_missing e = sym (hidden_past forest class (past e))

  pub slots_there : (row : ObjectRow) → Some row ≡ slice_get rows class → row.slots ≡ slots p class
  slots_there row e = (there row e).slots

  pub slots_missing : None ≡ slice_get rows class → 0 ≡ slots p class
  slots_missing e = sym (slots_past forest class (past e))

  pub kinds_there : (row : ObjectRow) → Some row ≡ slice_get rows class → row.kinds.items ≡ instance_kinds p class
  kinds_there row e = (there row e).kinds

  pub kinds_missing : None ≡ slice_get rows class → [] ≡ instance_kinds p class
  kinds_missing e = sym (kinds_past forest class (past e))

  pub literals_there : (row : ObjectRow) → Some row ≡ slice_get rows class →
      row.literals.items ≡ literal_nodes p class
  literals_there row e = (there row e).literals

  pub literals_missing : None ≡ slice_get rows class → [] ≡ literal_nodes p class
  literals_missing e = sym (literals_past forest class (past e))

  pub slot_missing : (node : ℕ) → None ≡ slice_get rows class → None ≡ slot_of_node p class node
  unfolding slot_of_node
  slot_missing node e =
      ap (λ (ids : List ℕ). option_map (λ k. hidden_fields p.classes class + k)
      (position (λ other. node == other) ids)) (sym (nodes_past forest class (past e)))
