-- The phases of the rules, and the report: all breaks of the first phase that has any.
use Rattle.std.specs.Prelude.{ℕ, List, [], ◌∷◌, ◌++◌, length, flat_map, slice_get, Option, Some, None}
use Rattle.std.specs.List.{Contains}
use Rattle.scj_base.specs.declared.findings.Found.{Found}
use Rattle.scj_base.specs.declared.findings.Rule.{Rule}
use Rattle.scj_base.specs.declared.positions.Position.{Position}
use Rattle.scj_tree.specs.declared.nodes.Node.{Node}
use Rattle.scj_tree.specs.Forest.{Forest}
use Rattle.scj_tree.specs.Recursion.{lookup, joined_below}
use Rattle.scj_rules.specs.Words.{found_at}
use Rattle.scj_rules.specs.Views.{WrittenClass}
use Rattle.scj_rules.specs.Classes.{ClassRow}
use Rattle.scj_rules.specs.Contexts.{Declarations, declarations_of}
use Rattle.scj_rules.specs.ClassRules.{c8, class_breaks, node_breaks, numbers_from}
use Rattle.scj_rules.specs.LimitRules.{class_limits, node_limits}
use Rattle.scj_rules.specs.TypeRules.{types_in, type_breaks}
use Rattle.scj_rules.specs.ScopeRules.{scope_breaks}
use Rattle.scj_rules.specs.AnnotationRules.{annotation_breaks}
use Rattle.scj_rules.specs.UseRules.{scopes_in, use_breaks}
use Rattle.scj_rules.specs.Report.{IsReport}

-- the breaks of a rule at all nodes
unfoldable pub over_nodes : Declarations → (ℕ → Node → List Found) → List Found
over_nodes p rule = joined_below (λ id. found_at (slice_get p.nodes id) (rule id)) (length p.nodes)

-- the breaks of a rule at a class, where it is a user class
unfoldable pub at_class : Declarations → (ℕ → ClassRow → WrittenClass → List Found) → ℕ → List Found
at_class p rule class =
    found_at (slice_get p.classes class) (λ (row : ClassRow). found_at row.written (rule class row))

-- the breaks of a rule at all user classes
unfoldable pub over_classes : Declarations → (ℕ → ClassRow → WrittenClass → List Found) → List Found
over_classes p rule = flat_map (at_class p rule) (numbers_from 0 p.classes)

-- C and K
unfoldable pub class_phase : Declarations → List Found
class_phase p =
    c8 p
    ++ (over_classes p (λ class row c. class_breaks p class row c ++ class_limits p class c)
    ++ over_nodes p (λ id node. node_breaks p id node ++ node_limits p id node))

-- T
unfoldable pub type_phase : Declarations → List Found
type_phase p = let types = types_in p in over_nodes p (type_breaks p (lookup None types))

-- S
unfoldable pub scope_phase : Declarations → List Found
scope_phase p = over_classes p (λ class row c. scope_breaks p class c)

-- A and E
unfoldable pub use_phase : Declarations → List Found
use_phase p =
    let types = types_in p in
    let scopes = scopes_in p (lookup None types) in
    over_nodes p (λ id node. annotation_breaks p id node
    ++ use_breaks p (lookup None types) (lookup None scopes) id node)

-- the break of a rule at a place is in a list, however often
abbrev pub IsFound : List Found → Rule → Position → Type 0
IsFound found rule position = Contains found (record { pos = position; rule = rule })

abbrev pub BreaksClassRules : Forest → Rule → Position → Type 0
BreaksClassRules forest = IsFound (class_phase (declarations_of forest))

abbrev pub BreaksTypeRules : Forest → Rule → Position → Type 0
BreaksTypeRules forest = IsFound (type_phase (declarations_of forest))

abbrev pub BreaksScopeRules : Forest → Rule → Position → Type 0
BreaksScopeRules forest = IsFound (scope_phase (declarations_of forest))

abbrev pub BreaksUseRules : Forest → Rule → Position → Type 0
BreaksUseRules forest = IsFound (use_phase (declarations_of forest))

abbrev pub NothingBreaks : (Rule → Position → Type 0) → Type 0
NothingBreaks breaks = (rule : Rule) (position : Position) → ¬ (breaks rule position)

-- no rule from C1 on is broken
pub record IsAccepted (forest : Forest) : Type 0 where
  pub classes : NothingBreaks (BreaksClassRules forest)
  pub types : NothingBreaks (BreaksTypeRules forest)
  pub scopes : NothingBreaks (BreaksScopeRules forest)
  pub uses : NothingBreaks (BreaksUseRules forest)

-- the report of a program. The option is the first break of L or P in the sources: where there is one, it is the report
pub data Reports (forest : Forest) : Option Found → List Found → Type 0 where
  in_the_text : {found : Found} → Reports forest (Some found) (found ∷ [])
  in_classes : {first : Found} {more : List Found}
      → IsReport (BreaksClassRules forest) (first ∷ more)
      → Reports forest None (first ∷ more)
  in_types : {first : Found} {more : List Found}
      → NothingBreaks (BreaksClassRules forest)
      → IsReport (BreaksTypeRules forest) (first ∷ more)
      → Reports forest None (first ∷ more)
  in_scopes : {first : Found} {more : List Found}
      → NothingBreaks (BreaksClassRules forest)
      → NothingBreaks (BreaksTypeRules forest)
      → IsReport (BreaksScopeRules forest) (first ∷ more)
      → Reports forest None (first ∷ more)
  in_uses : {first : Found} {more : List Found}
      → NothingBreaks (BreaksClassRules forest)
      → NothingBreaks (BreaksTypeRules forest)
      → NothingBreaks (BreaksScopeRules forest)
      → IsReport (BreaksUseRules forest) (first ∷ more)
      → Reports forest None (first ∷ more)
  nowhere : IsAccepted forest → Reports forest None []
