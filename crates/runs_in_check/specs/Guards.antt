-- The tables of parents and guards, and how they are made.
use Rattle.std.specs.Prelude.{◌≡◌, ◌<◌, ◌==◌, ℕ, Bool, ◌&&◌, List, [], ◌∷◌, drop, set, length, filter_map, slice_get, Option, Some, None, option_map, if◌then◌else◌}
use Rattle.std.specs.List.{list_any, position_from}
use Rattle.std.specs.HashMap.{get, hash_map_len}
use Rattle.scj_tree.specs.declared.nodes.Node.{Node}
use Rattle.scj_tree.specs.Recursion.{lookup}
use Rattle.scj_tree.specs.Shape.{children}
use Rattle.scj_rules.specs.declared.typing.Guard.{Guard}
use Rattle.scj_rules.specs.declared.typing.Subject.{Subject}
use Rattle.scj_rules.specs.Words.{holds, is_among, chain, ◌>>=◌}
use Rattle.scj_rules.specs.ClassRules.{numbers_from}
use Rattle.scj_rules.specs.Contexts.{Declarations, parent_in}
use Rattle.scj_rules.specs.TypeRules.{Types}
use Rattle.scj_rules.specs.Guards.{are_subjects, guard_at, if_of, is_first_part, is_subject, subject_at, undoes}
use Rattle.scj_rules.specs.Types.{receiver, accessed_field}
use Rattle.scj_rules.specs.declared.typing.FoundField.{FoundField}
use Rattle.class_rows.specs.Fields.{found_field}
use Rattle.runs_in_check.specs.declared.stores.StoredField.{StoredField}
use Rattle.runs_in_check.specs.declared.guards.Guards.{Guards}

-- ---- parents

-- rows of parents with this one for each of these children
abbrev pub noted : ℕ → List (Option ℕ) → List ℕ → List (Option ℕ)
noted parent rows [] = rows
noted parent rows (child ∷ rest) = noted parent (set rows child (Some parent)) rest

-- the first of the nodes from k on of which a node is a child
abbrev pub parent_from : List Node → ℕ → ℕ → Option ℕ
parent_from nodes k id = position_from (λ node. is_among id (children node)) k (drop k nodes)

-- the rows hold the parents of the children of the nodes from k on
pub record AreParents (nodes : List Node) (k : ℕ) (rows : List (Option ℕ)) : Type 0 where
  pub whole : length rows ≡ length nodes
  pub exact : (id : ℕ) → id < length nodes → lookup None rows id ≡ parent_from nodes k id

-- ---- the `if`s around a node

-- those on a way of so many steps at most
abbrev pub ifs_on : List Node → ℕ → ℕ → List ℕ
ifs_on nodes bound part = filter_map (if_of nodes) (chain (parent_in nodes) bound part)

-- that of which a part of a parent is the first
abbrev pub ifs_at : List Node → ℕ → ℕ → List ℕ
ifs_at nodes parent part = if holds (slice_get nodes parent) (is_first_part part) then parent ∷ [] else []

-- ---- stores

-- the subject that the object of a stored field is, if it is one, and the field
abbrev pub stored_in : List Node → StoredField → Option Subject × FoundField
stored_in nodes s = (s.object, found_field nodes s.field)

-- the same of the field that an access names
abbrev pub accessed_of : Declarations → Types → ℕ → List ℕ → Option (Option Subject × FoundField)
accessed_of p types object name =
    receiver p types object >>= (λ r. option_map (λ f. (subject_at p object, f)) (accessed_field p r name))

-- ---- guards

-- what is left of what an `if` asks, where the test says what undoes it
abbrev pub unless : (Guard → Bool) → Option Guard → Option Guard
unless test guard = guard >>= (λ g. if test g then None else Some g)

-- what is left of a guard where a node of these `if`s assigns to x
abbrev pub left_by : Subject → List ℕ → ℕ → Option Guard → Option Guard
left_by x ifs number guard = unless (λ g. is_subject g x && is_among number ifs) guard

-- what is left of it by the nodes from k on
abbrev pub left_from : Declarations → ℕ → ℕ → Option Guard → Option Guard
left_from p k number guard =
    unless (λ g. list_any (undoes p number g) (numbers_from k (drop k p.nodes))) guard

-- the row of a number
abbrev pub row_in : Guards → ℕ → Option Guard
row_in guards = get ◌==◌ guards.rows

-- it has a guard of x and y
abbrev pub guards_both : (ℕ → Option Guard) → Subject → Subject → ℕ → Bool
guards_both row x y number = holds (row number) (are_subjects x y)

-- each row has the guard of its number, and where there are rows, each node has its parent
pub record AreGuards (p : Declarations) (types : Types) (guards : Guards) : Type 0 where
  pub exact : (number : ℕ) → row_in guards number ≡ guard_at p types number
  pub around : (hash_map_len guards.rows ≡ 0 → ⊥) → (id : ℕ) →
      lookup None guards.parents.items id ≡ parent_in p.nodes id
