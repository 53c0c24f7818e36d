-- What is forbidden in the header of a class, where there is one.
use Rattle.std.specs.Prelude.{ℕ, List, [], ◌∷◌, Bool, true, not, ◌&&◌, ◌||◌, is_some, slice_get, Option, Some, None, if◌then◌else◌}
use Rattle.scj_rules.specs.Words.{holds}
use Rattle.scj_builtins.specs.declared.kinds.ClassKind.{ClassKind}
use Rattle.scj_rules.specs.declared.scopes.Written.{Written}
use Rattle.scj_rules.specs.Views.{WrittenClass}
use Rattle.scj_rules.specs.Classes.{ClassRow, class_number, kinds_of, brings_too_many, is_extended, is_implemented, unknown_supers, forbidden_supers, is_cyclic, is_empty}
use Rattle.scj_rules.specs.Contexts.{Declarations}

abbrev pub is_known : List (List ℕ) → Written → Bool
is_known names w = is_some (class_number names w.name)

-- the name after `extends` is known, where there is one
abbrev pub is_known_if_there : List (List ℕ) → Option Written → Bool
is_known_if_there names None = true
is_known_if_there names (Some w) = is_known names w

-- none of the names in the header is unknown
unfoldable pub knows_supers : Declarations → Option WrittenClass → Bool
knows_supers p None = true
knows_supers p (Some c) = is_empty (unknown_supers p.names c)

unfoldable pub forbidden_in : Declarations → Option WrittenClass → List Written
forbidden_in p None = []
forbidden_in p (Some c) = forbidden_supers p.names p.written c

-- nothing in the header is forbidden
unfoldable pub is_well_headed_in : Declarations → ℕ → Option WrittenClass → Bool
is_well_headed_in p class o = knows_supers p o && not (is_cyclic p.written class) && is_empty (forbidden_in p o)

-- a class of this kind may be named after `implements`, or after `extends`
abbrev pub is_nameable : Bool → ClassKind → Bool
is_nameable as_interface kind = if as_interface then is_implemented kind else is_extended kind

abbrev pub may_be_named : Declarations → Bool → ℕ → Bool
may_be_named p as_interface class = holds (slice_get p.written class)
    (λ (row : ClassRow). is_nameable as_interface row.kind)

-- the class may not be named so, or adds a second kind to those of the names before it
abbrev pub is_forbidden : Declarations → Bool → List ℕ → ℕ → Bool
is_forbidden p as_interface before class =
    not (may_be_named p as_interface class) || brings_too_many before (kinds_of p.written class)

-- the name, where it is forbidden
unfoldable pub forbidden_name : Declarations → Bool → List ℕ → Written → List Written
forbidden_name p as_interface before w =
    elim (class_number p.names w.name) [
      | None ↦ []
      | Some class ↦ if is_forbidden p as_interface before class then w ∷ [] else []
    ]

-- the kinds of the class of a name
unfoldable pub kinds_named : Declarations → Written → List ℕ
kinds_named p w = elim (class_number p.names w.name) [ None ↦ [] | Some class ↦ kinds_of p.written class ]
