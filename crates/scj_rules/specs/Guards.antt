-- Guards: in the first part of `if (ManagedMemory.allocInSame(a, b))` the objects of a and b lie in one area, so there
-- one of them may be stored in a field of the other (this project's profile). A guard is exact: a and b are each a
-- local, a parameter or `this` without parentheses, the call is the whole condition, and the part assigns to neither.
use Rattle.std.specs.Prelude.{ℕ, Bool, true, false, not, ◌&&◌, ◌||◌, ◌==◌, List, [], ◌∷◌, length, filter_map, slice_get, Option, Some, None, if◌then◌else◌, option_map}
use Rattle.std.specs.List.{list_any}
use Rattle.scj_base.specs.Bytes.{is_same}
use Rattle.scj_builtins.specs.Framework.{managed_memory_alloc_in_same}
use Rattle.scj_tree.specs.declared.nodes.Node.{Node}
use Rattle.scj_tree.specs.declared.nodes.Node.TheVariants.{Assign, If, SimpleName, FieldAccess, Call, This as ThisNode}
use Rattle.scj_rules.specs.declared.typing.FoundField.{FoundField}
use Rattle.scj_rules.specs.declared.typing.Guard.{Guard}
use Rattle.scj_rules.specs.declared.typing.Meaning.{Meaning}
use Rattle.scj_rules.specs.declared.typing.Meaning.TheVariants.{Field as a_field, Variable as a_variable}
use Rattle.scj_rules.specs.declared.typing.Subject.{Subject}
use Rattle.scj_rules.specs.declared.typing.Subject.TheVariants.{This as this_object, Variable as the_variable}
use Rattle.scj_rules.specs.declared.views.Declared.{Declared}
use Rattle.scj_rules.specs.Definitions.{read}
use Rattle.scj_rules.specs.Words.{is_among, chain, holds, ◌>>=◌}
use Rattle.scj_rules.specs.ClassRules.{numbers_from}
use Rattle.scj_rules.specs.Contexts.{Declarations, parent_in}
use Rattle.scj_rules.specs.Types.{meaning, receiver, accessed_field, called_builtin}
use Rattle.scj_rules.specs.TypeRules.{Types}
use Rattle.scj_rules.specs.StaticScopes.{this_name}

-- ---- subjects

unfoldable pub subject_of_meaning : Meaning → Option Subject
subject_of_meaning (a_variable v) = Some (the_variable v)
subject_of_meaning _ = None

unfoldable pub subject_of : Declarations → ℕ → Node → Option Subject
subject_of p id (ThisNode position) = Some this_object
subject_of p id (SimpleName position name) = subject_of_meaning (meaning p id name)
subject_of p id _ = None

abbrev pub subject_at : Declarations → ℕ → Option Subject
subject_at p id = read p.nodes (subject_of p id) id

unfoldable pub are_same_subject : Subject → Subject → Bool
are_same_subject this_object this_object = true
are_same_subject (the_variable v) (the_variable w) = v == w
are_same_subject _ _ = false

-- ---- what an `if` asks

unfoldable pub condition_of : Node → Option ℕ
condition_of (If position condition first second) = Some condition
condition_of _ = None

abbrev pub guard_of : Option Subject → Option Subject → Option Guard
guard_of a b = a >>= (λ x. option_map (λ y. record { first = x; second = y }) b)

-- the subjects of which a condition asks whether their objects lie in one area
unfoldable pub asked_by : Declarations → Types → ℕ → Node → Option Guard
asked_by p types id (Call position name object (a ∷ b ∷ [])) =
    if holds (called_builtin p types id object name) (λ number. number == managed_memory_alloc_in_same)
    then guard_of (subject_at p a) (subject_at p b) else None
asked_by p types id _ = None

-- those of which the condition of an `if` asks so
abbrev pub asked_at : Declarations → Types → ℕ → Option Guard
asked_at p types id =
    read p.nodes condition_of id >>= (λ condition. read p.nodes (asked_by p types condition) condition)

-- ---- the first parts in which a node stands

unfoldable pub is_first_part : ℕ → Node → Bool
is_first_part part (If position condition first second) = part == first
is_first_part part _ = false

-- the `if` whose first part a node is
abbrev pub if_of : List Node → ℕ → Option ℕ
if_of nodes part =
    parent_in nodes part
    >>= (λ parent. if holds (slice_get nodes parent) (is_first_part part) then Some parent else None)

-- the `if`s in whose first part a node stands, the innermost first
unfoldable pub ifs_around : List Node → ℕ → List ℕ
ifs_around nodes id = filter_map (if_of nodes) (chain (parent_in nodes) (length nodes) id)

-- ---- guards

-- the subject to which a node assigns
unfoldable pub assigned_by : Declarations → Node → Option Subject
assigned_by p (Assign position target value) = subject_at p target
assigned_by p _ = None

abbrev pub assigned_at : Declarations → ℕ → Option Subject
assigned_at p id = read p.nodes (assigned_by p) id

abbrev pub is_subject : Guard → Subject → Bool
is_subject guard x = are_same_subject x guard.first || are_same_subject x guard.second

-- a node in the first part of an `if` assigns to one of the subjects
abbrev pub undoes : Declarations → ℕ → Guard → ℕ → Bool
undoes p number guard id = holds (assigned_at p id) (is_subject guard) && is_among number (ifs_around p.nodes id)

abbrev pub is_undone : Declarations → ℕ → Guard → Bool
is_undone p number guard = list_any (undoes p number guard) (numbers_from 0 p.nodes)

-- the guard that an `if` is
unfoldable pub guard_at : Declarations → Types → ℕ → Option Guard
guard_at p types number = asked_at p types number >>= (λ g. if is_undone p number g then None else Some g)

-- x and y are the subjects of a guard, in either order
abbrev pub are_subjects : Subject → Subject → Guard → Bool
are_subjects x y guard =
    (are_same_subject x guard.first && are_same_subject y guard.second)
    || (are_same_subject y guard.first && are_same_subject x guard.second)

-- a node stands in the first part of a guard of x and y
unfoldable pub is_guarded : Declarations → Types → ℕ → Subject → Subject → Bool
is_guarded p types id x y =
    list_any (λ number. holds (guard_at p types number) (are_subjects x y)) (ifs_around p.nodes id)

-- ---- stores

-- the scope that is written of an instance field, or else its default, is THIS
abbrev pub is_in_this : Declared → Bool
is_in_this f = not f.modifiers.is_static && not (holds f.modifiers.scope (λ w. not (is_same w.name this_name)))

-- the field that a target names, and the subject that its object is, if it is one
unfoldable pub field_of_this : Meaning → Option (Option Subject × FoundField)
field_of_this (a_field f) = Some (Some this_object, f)
field_of_this _ = None

unfoldable pub stored_field : Declarations → Types → ℕ → Node → Option (Option Subject × FoundField)
stored_field p types id (SimpleName position name) = field_of_this (meaning p id name)
stored_field p types id (FieldAccess position name object) =
    receiver p types object >>= (λ r. option_map (λ f. (subject_at p object, f)) (accessed_field p r name))
stored_field p types id _ = None

-- a value may be stored at a node in a field
abbrev pub fits_by_guard : Declarations → Types → ℕ → Option Subject → Option Subject × FoundField → Bool
fits_by_guard p types id value target =
    is_in_this target.1.field && holds target.0 (λ x. holds value (is_guarded p types id x))

-- the store of a value in a target, at a node, is one of a subject in a field of the other under their guard
unfoldable pub is_guarded_store : Declarations → Types → ℕ → ℕ → ℕ → Bool
is_guarded_store p types id target value =
    holds (read p.nodes (stored_field p types target) target) (fits_by_guard p types id (subject_at p value))
