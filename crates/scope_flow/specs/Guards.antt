-- Guards along the way through a body: what stands before an `if` that is a guard and before a store that a guard
-- allows, and in the first parts of which `if`s the operations stand that are left.
use Rattle.std.specs.Prelude.{◌≡◌, ℕ, true, false, List, [], ◌∷◌, ◌++◌, slice_get, Option, Some, None}
use Rattle.scj_rules.specs.declared.typing.Guard.{Guard}
use Rattle.scj_rules.specs.declared.typing.Subject.{Subject}
use Rattle.scj_rules.specs.declared.typing.Subject.TheVariants.{This as this_object, Variable as the_variable}
use Rattle.scj_rules.specs.declared.views.Body.{Body}
use Rattle.scj_rules.specs.Words.{is_among}
use Rattle.scj_rules.specs.Guards.{ifs_around, guard_at, is_guarded, is_subject}
use Rattle.accepted_laws.specs.Judgements.{type_at_node}
use Rattle.scj_model.specs.declared.operations.Op.{Op}
use Rattle.scj_model.specs.declared.operations.Op.TheVariants.{This as THIS, Load as LOAD, Same as SAME, And as AND, Or as OR, Zero as ZERO, Store as STORE, Put as PUT, If as IF, Loop as LOOP}
use Rattle.scj_model.specs.Code.{Code, binding}
use Rattle.scj_model.specs.Operations.{bound_local}
use Rattle.scope_flow.specs.Signatures.{variables_in}
use Rattle.scope_flow.specs.Needs.{IsGuardedAssign}

-- the guard that an `if` of this number is
abbrev pub guard_of : Code → ℕ → Option Guard
guard_of code number = guard_at code.program (type_at_node code.program) number

-- the operation pushes the value of a subject
pub data PushesSubject (code : Code) (body : Body) : Subject → Op → Type 0 where
  pushes_this : (id : ℕ) → PushesSubject code body this_object (THIS id)
  pushes_variable : (id v local : ℕ) → bound_local (binding code id) ≡ Some local →
      slice_get (variables_in code.program body) local ≡ Some v → PushesSubject code body (the_variable v) (LOAD id)

-- the operations directly before an `if` that is a guard push the values of its subjects, and ask
pub record AsksGuard (code : Code) (body : Body) (number : ℕ) (first second : Op) : Type 0 where
  pub guard : Guard
  pub is : guard_of code number ≡ Some guard
  pub first_is : PushesSubject code body guard.first first
  pub second_is : PushesSubject code body guard.second second

-- those directly before a store that a guard allows push the object and the value, which are the guard's subjects
pub record PutsByGuard (code : Code) (body : Body) (id : ℕ) (object value : Op) : Type 0 where
  pub holder : Subject
  pub stored : Subject
  pub object_is : PushesSubject code body holder object
  pub value_is : PushesSubject code body stored value
  pub is_guarded : is_guarded code.program (type_at_node code.program) id holder stored ≡ true

-- an operation that has nothing to do with a guard, by itself
unfoldable pub IsPlain : Code → Op → Type 0
IsPlain code (IF id) = guard_of code id ≡ None
IsPlain code (PUT id) = IsGuardedAssign code.program id → ⊥
IsPlain code _ = Unit {0}

-- an operation that leads into a part, that stores in a field or that sets a variable stands in the first parts of these
-- `if`s
unfoldable pub StandsIn : Code → List ℕ → Op → Type 0
StandsIn code around (AND id) = ifs_around code.program.nodes id ≡ around
StandsIn code around (OR id) = ifs_around code.program.nodes id ≡ around
StandsIn code around (IF id) = ifs_around code.program.nodes id ≡ around
StandsIn code around (LOOP id) = ifs_around code.program.nodes id ≡ around
StandsIn code around (ZERO id) = ifs_around code.program.nodes id ≡ around
StandsIn code around (STORE id) = ifs_around code.program.nodes id ≡ around
StandsIn code around (PUT id) = ifs_around code.program.nodes id ≡ around
StandsIn code around _ = Unit {0}

abbrev pub AreAmong : List ℕ → List ℕ → Type 0
AreAmong inner outer = (number : ℕ) → is_among number inner ≡ true → is_among number outer ≡ true

-- the operations that are left stand in the first parts of these `if`s: the later ones in fewer of them
pub data Rest (code : Code) (body : Body) : List ℕ → List Op → Type 0 where
  at_end : (around : List ℕ) → Rest code body around []
  outside : (around outer : List ℕ) (ops : List Op) → AreAmong outer around → Rest code body outer ops →
      Rest code body around ops
  plain : (around : List ℕ) (op : Op) (ops : List Op) → IsPlain code op → StandsIn code around op →
      Rest code body around ops → Rest code body around (op ∷ ops)
  asking : (around : List ℕ) (number id : ℕ) (first second : Op) (ops : List Op) →
      AsksGuard code body number first second → StandsIn code around (IF number) → Rest code body around ops →
      Rest code body around (first ∷ (second ∷ (SAME id ∷ (IF number ∷ ops))))
  putting : (around : List ℕ) (id : ℕ) (object value : Op) (ops : List Op) → PutsByGuard code body id object value →
      StandsIn code around (PUT id) → Rest code body around ops →
      Rest code body around (object ∷ (value ∷ (PUT id ∷ ops)))

-- what the operations of a node add in front of a rest
abbrev pub Adds : Code → Body → List ℕ → List Op → Type 0
Adds code body around ops = (rest : List Op) → Rest code body around rest → Rest code body around (ops ++ rest)

-- a variable that is set at a node isn't a subject of a guard in whose first part the node stands
abbrev pub SparesGuards : Code → ℕ → ℕ → Type 0
SparesGuards code id v =
    (number : ℕ) (guard : Guard) → is_among number (ifs_around code.program.nodes id) ≡ true →
    guard_of code number ≡ Some guard → is_subject guard (the_variable v) ≡ false
