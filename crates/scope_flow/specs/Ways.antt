-- The ways through a body: where the operations that are left begin, and who pushed the operands that are there; and the
-- flow of a frame that stands on such a way.
use Rattle.std.specs.Prelude.{◌≡◌, ℕ, suc, Bool, true, false, ◌⊎◌, List, [], ◌∷◌, ◌++◌, length, Some, None}
use Rattle.scj_rules.specs.declared.views.Body.{Body}
use Rattle.accepted_laws.specs.Kinds.{Kind}
use Rattle.scj_model.specs.declared.operations.Op.{Op}
use Rattle.scj_model.specs.declared.operations.Op.TheVariants.{Push as PUSH, This as THIS, Load as LOAD, Get as GET, GetStatic as GETSTATIC, Length as LENGTH, Elem as ELEM, Unary as UNARY, Bin as BIN, And as AND, Or as OR, Alloc as ALLOC, Construct as CONSTRUCT, AllocArray as ALLOCARRAY, Call as CALL, CallStatic as CALLSTATIC, Cast as CAST, Enter as ENTER, ExecuteIn as EXECUTEIN, Same as SAME, SetCeiling as SETCEILING, Print as PRINT, Read as READ, Register as REGISTER, Release as RELEASE, Terminate as TERMINATE, Zero as ZERO, Store as STORE, Put as PUT, PutStatic as PUTSTATIC, PutElem as PUTELEM, If as IF, Loop as LOOP, LeaveWith as LEAVEWITH, Leave as LEAVE, Drop as DROP, Init as INIT, Super as SUPER, Params as PARAMS}
use Rattle.scj_model.specs.Code.{Code, binding}
use Rattle.scj_model.specs.Ops.{body_ops, put_in_front}
use Rattle.scj_model.specs.Operations.{bound_class, super_count}
use Rattle.scope_flow.specs.Signatures.{Signature}
use Rattle.scope_flow.specs.Pushers.{Pusher, expression, own_object, ArePushed}
use Rattle.scope_flow.specs.Needs.{parameter_count}
use Rattle.scope_flow.specs.Flow.{Needs}

-- ---- how many operands an operation takes

-- of a form its numbers
abbrev pub form_count : Code → ℕ → ℕ
form_count code id = elim (bound_class (binding code id)) [ None ↦ 0 | Some superclass ↦ parameter_count superclass ]

-- a call takes its arguments and the object below them. A constructor that is called by a `new` leaves the object there
unfoldable pub taken_by : Code → Op → ℕ
taken_by code (PUSH id) = 0
taken_by code (THIS id) = 0
taken_by code (LOAD id) = 0
taken_by code (GET id) = 1
taken_by code (GETSTATIC id) = 0
taken_by code (LENGTH id) = 1
taken_by code (ELEM id) = 2
taken_by code (UNARY id) = 1
taken_by code (BIN id) = 2
taken_by code (AND id) = 1
taken_by code (OR id) = 1
taken_by code (ALLOC id) = 0
taken_by code (CONSTRUCT id) = super_count code id
taken_by code (ALLOCARRAY id) = 1
taken_by code (CALL id) = suc (super_count code id)
taken_by code (CALLSTATIC id) = super_count code id
taken_by code (CAST id) = 1
taken_by code (ENTER id) = 2
taken_by code (EXECUTEIN id) = 2
taken_by code (SAME id) = 2
taken_by code (SETCEILING id) = 2
taken_by code (PRINT id) = 1
taken_by code (READ id) = 1
taken_by code (REGISTER id) = 1
taken_by code (RELEASE id) = 1
taken_by code (TERMINATE id) = 1
taken_by code (ZERO id) = 0
taken_by code (STORE id) = 1
taken_by code (PUT id) = 2
taken_by code (PUTSTATIC id) = 1
taken_by code (PUTELEM id) = 3
taken_by code (IF id) = 1
taken_by code (LOOP id) = 1
taken_by code (LEAVEWITH id) = 1
taken_by code LEAVE = 0
taken_by code (DROP id) = 1
taken_by code (INIT id) = 0
taken_by code (SUPER id) = suc (super_count code id)
taken_by code (PARAMS id) = form_count code id

-- ---- what is pushed in their place

-- an expression pushes its value; a call pushes one or none
unfoldable pub Pushes : Op → List Pusher → Type 0
Pushes (PUSH id) given = given ≡ expression id ∷ []
Pushes (THIS id) given = given ≡ own_object ∷ []
Pushes (LOAD id) given = given ≡ expression id ∷ []
Pushes (GET id) given = given ≡ expression id ∷ []
Pushes (GETSTATIC id) given = given ≡ expression id ∷ []
Pushes (LENGTH id) given = given ≡ expression id ∷ []
Pushes (ELEM id) given = given ≡ expression id ∷ []
Pushes (UNARY id) given = given ≡ expression id ∷ []
Pushes (BIN id) given = given ≡ expression id ∷ []
Pushes (AND id) given = given ≡ expression id ∷ []
Pushes (OR id) given = given ≡ expression id ∷ []
Pushes (ALLOC id) given = given ≡ expression id ∷ []
Pushes (ALLOCARRAY id) given = given ≡ expression id ∷ []
Pushes (CALL id) given = (given ≡ expression id ∷ []) ⊎ (given ≡ [])
Pushes (CALLSTATIC id) given = (given ≡ expression id ∷ []) ⊎ (given ≡ [])
Pushes (CAST id) given = given ≡ expression id ∷ []
Pushes (READ id) given = given ≡ expression id ∷ []
Pushes (SAME id) given = given ≡ expression id ∷ []
Pushes _ given = given ≡ []

-- ---- ways

-- where the condition is so the way goes into a part: AND and OR into the right operand, IF and LOOP into a statement
unfoldable pub goes_into : Op → Bool → Bool
goes_into (AND id) condition = condition
goes_into (OR id) false = true
goes_into (IF id) condition = true
goes_into (LOOP id) true = true
goes_into _ condition = false

-- a way from the beginning of a body comes to these operations, where the operands were pushed by these, the last one
-- first. What stands behind a part is also reached past the whole part
pub data Comes (code : Code) (body : Body) : List Op → List Pusher → Type 0 where
  at_entry : Comes code body (body_ops code body) []
  behind : (op : Op) (ops : List Op) (taken left given : List Pusher) → Comes code body (op ∷ ops) (taken ++ left) →
      length taken ≡ taken_by code op → Pushes op given → Comes code body ops (given ++ left)
  into : (op : Op) (condition : Bool) (front ops : List Op) (pusher : Pusher) (left : List Pusher) →
      Comes code body (op ∷ ops) (pusher ∷ left) → goes_into op condition ≡ true →
      put_in_front code op condition ≡ Some front → Comes code body (front ++ ops) left

-- operands of these kinds are there on some way, and their scopes are those of what pushed them
pub record Stood (code : Code) (body : Body) (c : ℕ) (ops : List Op) (s : List Kind) : Type 0 where
  pub pushers : List Pusher
  pub came : Comes code body ops pushers
  pub pushed : ArePushed code.program c pushers s

-- ---- the flow along a way

abbrev pub Course : Code → Body → ℕ → Signature → List Op → List ℕ → List Kind → Type 0
Course code body c sig [] ks s = ⊥
Course code body c sig (op ∷ ops) ks s =
    Stood code body c (op ∷ ops) s × Needs code body c sig op ks s (Course code body c sig ops)
