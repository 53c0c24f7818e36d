-- The definitions of scopes that the classes of a program write (JSR 302: DefineScope).
use Rattle.std.specs.Prelude.{ℕ, Bool, List, [], ◌∷◌, find, slice_get, Option, Some, None, codes, if◌then◌else◌}
use Rattle.scj_base.specs.Bytes.{is_same, is_one_of}
use Rattle.scj_tree.specs.declared.nodes.Node.{Node}
use Rattle.scj_tree.specs.declared.nodes.Node.TheVariants.{Class, Flags, DefineScope, ScopeName}
use Rattle.scj_tree.specs.Forest.{Forest, joined}
use Rattle.scj_rules.specs.declared.scopes.Definition.{Definition}
use Rattle.scj_rules.specs.declared.scopes.Written.{Written}
use Rattle.scj_rules.specs.Words.{◌>>=◌}

-- the annotations and modifiers of a class
unfoldable pub flags_of : Node → Option ℕ
flags_of (Class position name flags header members) = flags
flags_of _ = None

-- `@DefineScope` among annotations and modifiers
unfoldable pub define_scope_of : Node → Option ℕ
define_scope_of (Flags position define_scope scope runs_in is_static is_abstract is_synchronized) = define_scope
define_scope_of _ = None

-- the two values of `@DefineScope`, the scope's name first and the parent's second
unfoldable pub values_of : Node → Option (ℕ × ℕ)
values_of (DefineScope position first second parent_first) =
    Some (if parent_first then (second, first) else (first, second))
values_of _ = None

-- the name of a scope, and where it is written
unfoldable pub written_of : Node → Option Written
written_of (ScopeName position name) = Some (record { name = name; position = position })
written_of _ = None

-- what a node of a number is by one of these readings
abbrev pub read : {A : Type 0} → List Node → (Node → Option A) → ℕ → Option A
read nodes reading id = slice_get nodes id >>= reading

abbrev pub definition : ℕ → Written → Written → Definition
definition class scope parent = record { class = class; scope = scope; parent = parent }

-- the definition with these two values
unfoldable pub definition_with : List Node → ℕ → ℕ × ℕ → Option Definition
definition_with nodes class values =
    read nodes written_of values.0 >>= (λ scope. read nodes written_of values.1 >>= (λ parent.
    Some (definition class scope parent)))

-- the definition that a class writes, if it writes one
unfoldable pub definition_of : List Node → ℕ → Option Definition
definition_of nodes class =
    read nodes flags_of class >>= read nodes define_scope_of >>= read nodes values_of >>= definition_with nodes class

-- an element that may be missing, in front of others
abbrev pub in_front : {A : Type 0} → Option A → List A → List A
in_front None xs = xs
in_front (Some x) xs = x ∷ xs

-- the definitions that classes write, in the order of the classes
unfoldable pub definitions_in : List Node → List ℕ → List Definition
definitions_in nodes [] = []
definitions_in nodes (class ∷ classes) = in_front (definition_of nodes class) (definitions_in nodes classes)

-- the definitions of a program: file after file, each in the order of the source
unfoldable pub definitions : Forest → List Definition
definitions forest = definitions_in forest.nodes (joined forest.files)

-- the root of the scopes
abbrev pub immortal : List ℕ
immortal = codes "IMMORTAL"

-- the names that no class can define
unfoldable pub is_reserved : List ℕ → Bool
is_reserved name = is_one_of name (immortal ∷ codes "CALLER" ∷ codes "THIS" ∷ codes "UNKNOWN" ∷ [])

-- the first definition of a scope of this name. A definition of a reserved name makes no scope
unfoldable pub first_definition : List Definition → List ℕ → Option Definition
first_definition written name =
    if is_reserved name then None else find (λ (d : Definition). is_same name d.scope.name) written
