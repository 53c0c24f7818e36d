-- The user classes of a program, as they are written, at their numbers.
use Rattle.std.proofs.Common.{◌≡◌, ℕ, ◌≤◌, List, [], ◌∷◌, length, map, filter_map, slice_get, Option, Some, option_and_then, refl, sym, arith}
use Rattle.scj_tree.specs.declared.nodes.Node.{Node}
use Rattle.scj_tree.specs.Forest.{Forest, IsClass, is_class, AllClasses}
use Rattle.scj_rules.specs.Views.{WrittenClass, class_at, class_of}
use Rattle.scj_rules.specs.Classes.{ClassRow, first_user_class}
use Rattle.scj_rules.specs.Contexts.{declarations_of}
use Rattle.scj_rules.proofs.WithinLemmas.{user_count}
use Rattle.class_rows.specs.Tables.{class_written}
use Rattle.class_rows.proofs.RowLemmas.{as_written}

-- ---- the nodes of the user classes are the classes of the files

class_read : (nodes : List Node) (x : ℕ) (node : Node) → IsClass node → (c : WrittenClass) ×
    (class_of nodes x node ≡ Some c) × (c.node ≡ x)
unfolding class_of
class_read nodes x node is_class = (_, refl, refl)

pub nodes_of_users : (nodes : List Node) (ids : List ℕ) → AllClasses nodes ids →
    map (λ (c : WrittenClass). c.node) (filter_map (class_at nodes) ids) ≡ ids
unfolding AllClasses
nodes_of_users nodes [] h = refl
nodes_of_users nodes (x ∷ ids) h =
    let there = class_read nodes x h.0.0 h.0.2 in
    let here : class_at nodes x ≡ Some there.0 = (rw h.0.1 there.1) in
    rw here (let rest = nodes_of_users nodes ids h.1 in let same = there.2 in cc)

-- ---- a class at its number

abbrev pub written_in : List ClassRow → ℕ → Option WrittenClass
written_in rows k = option_and_then (λ (row : ClassRow). row.written) (slice_get rows k)

-- how a class is written stays, however it counts
pub written_stays : (forest : Forest) (class : ℕ) → class_written (declarations_of forest) class ≡ written_in
    (declarations_of forest).classes class
unfolding class_written
written_stays forest class =
    sym (as_written (option_and_then (λ (row : ClassRow). row.written)) (λ row. refl) forest class)

-- the framework's classes are there
pub framework_first : (forest : Forest) → first_user_class ≤ length (declarations_of forest).classes
framework_first forest = omega (arith, user_count forest)
