-- The scopes that classes define, their tree, and the rules on it: S1 to S6 (JSR 302: DefineScope).
use Rattle.std.specs.Prelude.{ℕ, Bool, not, ◌&&◌, ◌||◌, ◌==◌, List, ◌++◌, length, map, find, slice_get, Option, Some, if◌then◌else◌, is_some}
use Rattle.std.specs.List.{list_any}
use Rattle.scj_base.specs.Bytes.{is_same}
use Rattle.scj_base.specs.declared.findings.Found.{Found}
use Rattle.scj_base.specs.declared.findings.Rule.TheVariants.{S1, S2, S3, S4, S5, S6}
use Rattle.scj_builtins.specs.Framework.{mission, periodic_handler, aperiodic_handler, runnable}
use Rattle.scj_rules.specs.declared.scopes.Definition.{Definition}
use Rattle.scj_rules.specs.declared.scopes.Written.{Written}
use Rattle.scj_rules.specs.Definitions.{immortal, is_reserved, first_definition}
use Rattle.scj_rules.specs.Words.{is_among, broken, found_at, along, chain, chain_behind, holds, ◌>>=◌}
use Rattle.scj_rules.specs.Views.{WrittenClass}
use Rattle.scj_rules.specs.Classes.{ClassRow, superclasses, classes_above, is_sub}
use Rattle.scj_rules.specs.Contexts.{Declarations, number_of_class}

-- ---- scopes and their numbers

-- A scope has the number of the class that is the first to define it. No class defines IMMORTAL: it has the number 0,
-- which no class of the sources has. As a class, 0 is Object, which is of the framework and writes no definition, so
-- that IMMORTAL has no parent and is the scope of no mission
abbrev pub immortal_scope : ℕ
immortal_scope = 0

-- the scope that a class is the first to define
abbrev pub scope_of_class : ℕ → ℕ
scope_of_class class = class

-- the class that is the first to define a scope
abbrev pub definer : ℕ → ℕ
definer scope = scope

-- the scope that the first definition of a name makes
abbrev pub scope_of_definition : Declarations → Definition → Option ℕ
scope_of_definition p d = number_of_class (map (λ (c : WrittenClass). c.node) p.users) d.class

-- the scope of a name
unfoldable pub scope_number : Declarations → List ℕ → Option ℕ
scope_number p name =
    if is_same name immortal then Some immortal_scope else (first_definition p.scopes name >>= scope_of_definition p)

-- a class of the sources, as it is written
abbrev pub user_class_in : List ClassRow → ℕ → Option WrittenClass
user_class_in rows class = slice_get rows class >>= (λ (row : ClassRow). row.written)

-- the definition that a class writes
unfoldable pub definition_in : Declarations → ℕ → Option Definition
definition_in p class =
    user_class_in p.classes class >>= (λ (c : WrittenClass). find (λ (d : Definition). d.class == c.node) p.scopes)

-- the scope that a class defines, first or not, and the one that its chain of superclasses defines
unfoldable pub defined_by : Declarations → ℕ → Option ℕ
defined_by p class = definition_in p class >>= (λ (d : Definition). scope_number p d.scope.name)

unfoldable pub defined_by_chain : Declarations → ℕ → Option ℕ
defined_by_chain p class = along (defined_by p) (superclasses p.classes class)

-- the parent of a scope
unfoldable pub parent_scope : Declarations → ℕ → Option ℕ
parent_scope p scope = definition_in p (definer scope) >>= (λ (d : Definition). scope_number p d.parent.name)

-- Outer: a is IMMORTAL, b itself, or a parent of b, a parent of that, and so on
unfoldable pub is_outer : Declarations → ℕ → ℕ → Bool
is_outer p a b = (a == immortal_scope) || is_among a (chain (parent_scope p) (length p.classes) b)

-- ---- S1 to S3: each of the definitions

-- the name is reserved, or an earlier definition makes its scope
abbrev pub is_defined_already : Declarations → ℕ → Definition → Bool
is_defined_already p class d =
    is_reserved d.scope.name || holds (scope_number p d.scope.name) (λ scope. not (scope == scope_of_class class))

-- S1, scope defined twice or reserved
unfoldable pub s1 : Declarations → ℕ → Definition → List Found
s1 p class d = broken (is_defined_already p class d) S1 d.scope.position

-- the parent is neither IMMORTAL nor a scope that a class defines
abbrev pub has_unknown_parent : Declarations → Definition → Bool
has_unknown_parent p d = not (is_some (scope_number p d.parent.name))

-- S2, unknown parent
unfoldable pub s2 : Declarations → ℕ → Definition → List Found
s2 p class d = broken (has_unknown_parent p d) S2 d.parent.position

-- the definition makes the scope of its name
abbrev pub makes_scope : Declarations → ℕ → Definition → Bool
makes_scope p class d = holds (scope_number p d.scope.name) (λ scope. scope == scope_of_class class)

-- the parents of a scope lead back to it
abbrev pub is_cyclic_scope : Declarations → ℕ → Bool
is_cyclic_scope p scope = is_among scope (chain_behind (parent_scope p) (length p.classes) scope)

-- S3, scope cycle
unfoldable pub s3 : Declarations → ℕ → Definition → List Found
s3 p class d = broken (makes_scope p class d && is_cyclic_scope p (scope_of_class class)) S3 d.parent.position

-- ---- S4 to S6: the definition and the class that writes it

abbrev pub is_mission : Declarations → ℕ → Bool
is_mission p class = is_among mission (superclasses p.classes class)

abbrev pub is_handler : Declarations → ℕ → Bool
is_handler p class =
    is_among periodic_handler (superclasses p.classes class)
    || is_among aperiodic_handler (superclasses p.classes class)

abbrev pub is_runnable : Declarations → ℕ → Bool
is_runnable p class = is_sub p.classes class runnable

-- a class above writes a definition
abbrev pub has_definition_above : Declarations → ℕ → Bool
has_definition_above p class = list_any (λ above. is_some (definition_in p above)) (classes_above p.classes class)

-- the class is no mission, handler or Runnable, or a class above it defines a scope
abbrev pub is_wrong_class : Declarations → ℕ → Bool
is_wrong_class p class =
    not (is_mission p class || (is_handler p class || is_runnable p class)) || has_definition_above p class

-- S4, wrong class
unfoldable pub s4 : Declarations → ℕ → Definition → List Found
s4 p class d = broken (is_wrong_class p class) S4 d.scope.position

-- the name after @Scope on a class, or on the nearest class above
unfoldable pub scope_written_in : Declarations → ℕ → Option Written
scope_written_in p class = user_class_in p.classes class >>= (λ (c : WrittenClass). c.modifiers.scope)

unfoldable pub scope_written_on_chain : Declarations → ℕ → Option Written
scope_written_on_chain p class = along (scope_written_in p) (superclasses p.classes class)

-- the instances of the class lie in the parent of its scope
abbrev pub lies_in_parent : Declarations → ℕ → Definition → Bool
lies_in_parent p class d = holds (scope_written_on_chain p class) (λ (w : Written). is_same w.name d.parent.name)

-- the parent doesn't suit the class: a mission's is IMMORTAL, a handler's is a mission's scope and the one in which the
-- handler itself lies, a Runnable's is any but IMMORTAL
unfoldable pub misfits_parent : Declarations → ℕ → Definition → ℕ → Bool
misfits_parent p class d parent =
    if is_mission p class then not (parent == immortal_scope)
    else (if is_handler p class then not (is_mission p (definer parent) && lies_in_parent p class d)
    else (is_runnable p class && (parent == immortal_scope)))

-- the parent is a scope, and doesn't suit the class
abbrev pub has_wrong_parent : Declarations → ℕ → Definition → Bool
has_wrong_parent p class d = holds (scope_number p d.parent.name) (misfits_parent p class d)

-- S5, wrong parent
unfoldable pub s5 : Declarations → ℕ → Definition → List Found
s5 p class d = broken (has_wrong_parent p class d) S5 d.parent.position

-- objects of the class have a memory of their own: a mission's, or a handler's releases
abbrev pub needs_scope : Declarations → ℕ → Bool
needs_scope p class = is_mission p class || is_handler p class

-- a concrete mission or handler class has no definition on its chain
abbrev pub lacks_scope : Declarations → ℕ → Bool → Bool
lacks_scope p class is_abstract =
    not is_abstract
    && (needs_scope p class
    && not (list_any (λ d. is_some (definition_in p d)) (superclasses p.classes class)))

-- S6, scope missing
unfoldable pub s6 : Declarations → ℕ → WrittenClass → List Found
s6 p class c = broken (lacks_scope p class c.modifiers.is_abstract) S6 c.position

-- what is broken at the definition that a class writes
unfoldable pub definition_breaks : Declarations → ℕ → List Found
definition_breaks p class =
    found_at (definition_in p class) (λ d. s1 p class d ++ s2 p class d ++ s3 p class d ++ s4 p class d ++ s5 p class d)

-- what is broken at a user class
unfoldable pub scope_breaks : Declarations → ℕ → WrittenClass → List Found
scope_breaks p class c = definition_breaks p class ++ s6 p class c
