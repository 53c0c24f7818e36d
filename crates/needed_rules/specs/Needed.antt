-- A rule is needed: some text is read as a program that breaks it and no other one, and isn't safe.
use Rattle.std.specs.Prelude.{◌≡◌, ℕ, true, List, [], ◌∷◌, slice_get, Option, Some, None}
use Rattle.scj_base.specs.declared.findings.Rule.{Rule}
use Rattle.scj_base.specs.declared.findings.Rule.TheVariants.{E5}
use Rattle.scj_base.specs.declared.positions.Position.{Position}
use Rattle.scj_tree.specs.declared.nodes.Node.TheVariants.{Assign}
use Rattle.scj_tree.specs.Forest.{Forest}
use Rattle.scj_tree.specs.Recursion.{lookup}
use Rattle.scj_rules.specs.declared.typing.Guard.{Guard}
use Rattle.scj_rules.specs.declared.typing.Scope.{Scope}
use Rattle.scj_rules.specs.declared.typing.Scope.TheVariants.{Lost, Unknown}
use Rattle.scj_rules.specs.Words.{is_among}
use Rattle.scj_rules.specs.Views.{position_at}
use Rattle.scj_rules.specs.Contexts.{declarations_of}
use Rattle.scj_rules.specs.TypeRules.{types_in}
use Rattle.scj_rules.specs.Guards.{asked_at, is_undone, ifs_around}
use Rattle.scj_rules.specs.UseRules.{scopes_in}
use Rattle.scj_rules.specs.Syntax.{Reads}
use Rattle.scj_rules.specs.Phases.{class_phase, type_phase, scope_phase, use_phase}
use Rattle.scj_model.specs.Code.{code_of}
use Rattle.scj_model.specs.Safety.{IsSafeInAnyOrder}

-- this is all that is broken: one rule, at one place
pub record BreaksOnly (program : Forest) (rule : Rule) (position : Position) : Type 0 where
  pub classes : class_phase (declarations_of program) ≡ []
  pub types : type_phase (declarations_of program) ≡ []
  pub scopes : scope_phase (declarations_of program) ≡ []
  pub uses : use_phase (declarations_of program) ≡ record { pos = position; rule = rule } ∷ []

-- the program is that of a text, in which no body is too deep
pub record IsNeeded (rule : Rule) : Type 0 where
  pub text : List ℕ
  pub program : Forest
  pub reads : Reads (text ∷ []) program
  pub position : Position
  pub breaks : BreaksOnly program rule position
  pub is_unsafe : IsSafeInAnyOrder (code_of program) → ⊥

-- the static scope of a node
abbrev pub scope_at : Forest → ℕ → Option Scope
scope_at program id =
    let p = declarations_of program in
    lookup None (scopes_in p (lookup None (types_in p))) id

-- where nothing is known of two areas, a store needs a guard: some text is read as a program that breaks E5 alone, by a
-- store of an object that may lie anywhere in a field that is lost, with no `if` around it, and isn't safe
pub record IsUnsafeUnguarded : Type 0 where
  pub needed : IsNeeded E5
  pub store : ℕ
  pub target : ℕ
  pub value : ℕ
  pub is_store : slice_get (declarations_of needed.program).nodes store ≡ Some (Assign needed.position target value)
  pub is_lost : scope_at needed.program target ≡ Some Lost
  pub is_unknown : scope_at needed.program value ≡ Some Unknown
  pub stands_alone : ifs_around (declarations_of needed.program).nodes store ≡ []

-- it isn't enough that an `if` asks: some text is read as a program that breaks E5 alone, by a store in the first part of
-- an `if` that asks, in which one of its subjects is assigned to, and isn't safe
pub record IsUnsafeWhereUndone : Type 0 where
  pub needed : IsNeeded E5
  pub store : ℕ
  pub is_at : position_at (declarations_of needed.program).nodes store ≡ needed.position
  pub number : ℕ
  pub stands : is_among number (ifs_around (declarations_of needed.program).nodes store) ≡ true
  pub guard : Guard
  pub asks : asked_at (declarations_of needed.program) (lookup None (types_in (declarations_of needed.program))) number
      ≡ Some guard
  pub is_undone : is_undone (declarations_of needed.program) number guard ≡ true
