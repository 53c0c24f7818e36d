-- Flow: what the operations that are left of a frame take and give, in the words of the rules.
use Rattle.std.specs.Prelude.{◌≡◌, ℕ, ◌&&◌, Bool, true, ◌⊎◌, List, [], ◌∷◌, slice_get, Option, Some, None}
use Rattle.scj_tree.specs.declared.nodes.Node.{Node}
use Rattle.scj_tree.specs.declared.nodes.Node.TheVariants.{While, For}
use Rattle.scj_rules.specs.declared.typing.Scope.TheVariants.{This, Caller}
use Rattle.scj_rules.specs.declared.views.Body.{Body}
use Rattle.scj_rules.specs.Words.{holds, ◌>>=◌}
use Rattle.scj_rules.specs.Contexts.{Declarations}
use Rattle.scj_rules.specs.TypeRules.{always_returns}
use Rattle.accepted_laws.specs.Kinds.{Kind, truth, yes, Fits}
use Rattle.scj_model.specs.declared.operations.Op.{Op}
use Rattle.scj_model.specs.declared.operations.Op.TheVariants.{Push as PUSH, This as THIS, Load as LOAD, Get as GET, GetStatic as GETSTATIC, Length as LENGTH, Elem as ELEM, Unary as UNARY, Bin as BIN, And as AND, Or as OR, Alloc as ALLOC, Construct as CONSTRUCT, AllocArray as ALLOCARRAY, Call as CALL, CallStatic as CALLSTATIC, Cast as CAST, Enter as ENTER, ExecuteIn as EXECUTEIN, Same as SAME, SetCeiling as SETCEILING, Print as PRINT, Read as READ, Register as REGISTER, Release as RELEASE, Terminate as TERMINATE, Zero as ZERO, Store as STORE, Put as PUT, PutStatic as PUTSTATIC, PutElem as PUTELEM, If as IF, Loop as LOOP, LeaveWith as LEAVEWITH, Leave as LEAVE, Drop as DROP, Init as INIT, Super as SUPER, Params as PARAMS}
use Rattle.scj_model.specs.Code.{Code, binding, part}
use Rattle.scj_model.specs.Ops.{if_parts}
use Rattle.scj_model.specs.Operations.{bound_local, assigned}
use Rattle.scope_flow.specs.Signatures.{Signature}
use Rattle.scope_flow.specs.Guards.{SparesGuards}
pub use Rattle.scope_flow.specs.Needs.{InNode}
use Rattle.scope_flow.specs.Needs.{PushNeeds, ThisNeeds, IsVariable, LoadNeeds, GetNeeds, GetStaticNeeds, LengthNeeds, ElemNeeds, UnaryNeeds, BinNeeds, TakesTruth, IsValuePart, IsStatementPart, IsOptionPart, ShortNeeds, AllocNeeds, ConstructNeeds, SuperNeeds, AllocArrayNeeds, InitNeeds, ParamsNeeds}
use Rattle.scope_flow.specs.CallNeeds.{CallNeeds, CallStaticNeeds, CastNeeds, EnterNeeds, ExecuteInNeeds, SameNeeds, SetCeilingNeeds, PrintNeeds, ReadNeeds, ReceiverNeeds, RegisterNeeds, PutNeeds, PutStaticNeeds, PutElemNeeds, DropNeeds}

-- ---- the rest of a frame

-- the operations behind it find what they need, where these variables are set and the operands are of these kinds
abbrev pub Goals : Type 1
Goals = List ℕ → List Kind → Type 0

-- an operation that sets no variable
pub record Steps (Needed : List Kind → Type 0) (known : List ℕ) (next : Goals) : Type 0 where
  pub out : List Kind
  pub needed : Needed out
  pub goes : next known out

-- an operation that sets one
pub record ZeroNeeds (code : Code) (body : Body) (id : ℕ) (known : List ℕ) (s : List Kind) (next : Goals) : Type 0 where
  pub local : ℕ
  pub is : bound_local (binding code id) ≡ Some local
  pub is_variable : IsVariable code.program body local id
  pub spares : SparesGuards code id id
  pub goes : next (id ∷ known) s

pub record StoreNeeds (code : Code) (body : Body) (id : ℕ) (known : List ℕ) (s : List Kind) (next : Goals) : Type 0 where
  pub local : ℕ
  pub is : assigned code id >>= bound_local ≡ Some local
  pub variable : ℕ
  pub is_variable : IsVariable code.program body local variable
  pub spares : SparesGuards code id variable
  pub value : Kind
  pub others : List Kind
  pub takes : s ≡ value ∷ others
  pub fit : Fits code.program This Caller value is_variable.kind
  pub goes : next (variable ∷ known) others

-- a choice between parts; what comes behind is reached unless both parts return
abbrev pub both_return : Declarations → ℕ × Option ℕ → Bool
both_return p parts = holds parts.1 (λ other. always_returns p parts.0 && always_returns p other)

pub record IfNeeds (code : Code) (b c id : ℕ) (known : List ℕ) (s : List Kind) (next : Goals) : Type 0 where
  pub parts : ℕ × Option ℕ
  pub is : part code if_parts id ≡ Some parts
  pub others : List Kind
  pub condition : TakesTruth code.program s others
  pub first : IsStatementPart code.program b c known parts.0
  pub second : IsOptionPart code.program b c known parts.1
  pub goes : (both_return code.program parts ≡ true) ⊎ next known others

-- the parts of a loop
unfoldable pub AreLoopParts : Declarations → ℕ → ℕ → List ℕ → Node → Type 0
AreLoopParts p b c known (While position condition body) =
    IsValuePart p b c known condition truth × IsStatementPart p b c known body
AreLoopParts p b c known (For position first condition step body) =
    IsValuePart p b c known condition truth × IsStatementPart p b c known step × IsStatementPart p b c known body
AreLoopParts p b c known _ = ⊥

-- a loop; what comes behind is reached unless its condition is the literal true
pub record LoopNeeds (code : Code) (b c id : ℕ) (known : List ℕ) (s : List Kind) (next : Goals) : Type 0 where
  pub node : Node
  pub is : slice_get code.program.nodes id ≡ Some node
  pub parts : AreLoopParts code.program b c known node
  pub others : List Kind
  pub condition : TakesTruth code.program s others
  pub goes : ((condition.kind ≡ yes) × (always_returns code.program id ≡ true)) ⊎ next known others

pub record LeaveWithNeeds (p : Declarations) (sig : Signature) (s : List Kind) : Type 0 where
  pub wanted : Kind
  pub is : sig.gives ≡ Some wanted
  pub kind : Kind
  pub others : List Kind
  pub takes : s ≡ kind ∷ others
  pub fit : Fits p This Caller kind wanted

-- ---- all operations, one line each, beside `node_ops` and `effect_of`: in a body of a class with a signature

abbrev pub Needs : Code → Body → ℕ → Signature → Op → List ℕ → List Kind → Goals → Type 0
Needs code body c sig (PUSH id) ks s next = Steps (PushNeeds code id s) ks next
Needs code body c sig (THIS id) ks s next = Steps (ThisNeeds code body c s) ks next
Needs code body c sig (LOAD id) ks s next = Steps (LoadNeeds code body id ks s) ks next
Needs code body c sig (GET id) ks s next = Steps (GetNeeds code id s) ks next
Needs code body c sig (GETSTATIC id) ks s next = Steps (GetStaticNeeds code id s) ks next
Needs code body c sig (LENGTH id) ks s next = Steps (LengthNeeds s) ks next
Needs code body c sig (ELEM id) ks s next = Steps (ElemNeeds code.program id s) ks next
Needs code body c sig (UNARY id) ks s next = Steps (UnaryNeeds code id s) ks next
Needs code body c sig (BIN id) ks s next = Steps (BinNeeds code id s) ks next
Needs code body c sig (AND id) ks s next = Steps (λ out. InNode body (λ b. ShortNeeds code b c id ks s out)) ks next
Needs code body c sig (OR id) ks s next = Steps (λ out. InNode body (λ b. ShortNeeds code b c id ks s out)) ks next
Needs code body c sig (ALLOC id) ks s next = Steps (AllocNeeds code body c sig id s) ks next
Needs code body c sig (CONSTRUCT id) ks s next = Steps (ConstructNeeds code sig id s) ks next
Needs code body c sig (ALLOCARRAY id) ks s next = Steps (AllocArrayNeeds code sig id s) ks next
Needs code body c sig (CALL id) ks s next = Steps (CallNeeds code c sig id s) ks next
Needs code body c sig (CALLSTATIC id) ks s next = Steps (CallStaticNeeds code sig id s) ks next
Needs code body c sig (CAST id) ks s next = Steps (CastNeeds code id s) ks next
Needs code body c sig (ENTER id) ks s next = Steps (EnterNeeds code body c sig id s) ks next
Needs code body c sig (EXECUTEIN id) ks s next = Steps (ExecuteInNeeds code id s) ks next
Needs code body c sig (SAME id) ks s next = Steps (SameNeeds s) ks next
Needs code body c sig (SETCEILING id) ks s next = Steps (SetCeilingNeeds s) ks next
Needs code body c sig (PRINT id) ks s next = Steps (PrintNeeds code id s) ks next
Needs code body c sig (READ id) ks s next = Steps (ReadNeeds s) ks next
Needs code body c sig (REGISTER id) ks s next = Steps (RegisterNeeds code.program s) ks next
Needs code body c sig (RELEASE id) ks s next = Steps (ReceiverNeeds s) ks next
Needs code body c sig (TERMINATE id) ks s next = Steps (ReceiverNeeds s) ks next
Needs code body c sig (ZERO id) ks s next = ZeroNeeds code body id ks s next
Needs code body c sig (STORE id) ks s next = StoreNeeds code body id ks s next
Needs code body c sig (PUT id) ks s next = Steps (PutNeeds code id s) ks next
Needs code body c sig (PUTSTATIC id) ks s next = Steps (PutStaticNeeds code id s) ks next
Needs code body c sig (PUTELEM id) ks s next = Steps (PutElemNeeds code.program s) ks next
Needs code body c sig (IF id) ks s next = InNode body (λ b. IfNeeds code b c id ks s next)
Needs code body c sig (LOOP id) ks s next = InNode body (λ b. LoopNeeds code b c id ks s next)
Needs code body c sig (LEAVEWITH id) ks s next = LeaveWithNeeds code.program sig s
Needs code body c sig LEAVE ks s next = sig.gives ≡ None
Needs code body c sig (DROP id) ks s next = Steps (DropNeeds s) ks next
Needs code body c sig (INIT id) ks s next = Steps (InitNeeds code body c id s) ks next
Needs code body c sig (SUPER id) ks s next = Steps (SuperNeeds code c sig id s) ks next
Needs code body c sig (PARAMS id) ks s next = Steps (ParamsNeeds code body c id s) ks next

abbrev pub Flow : Code → Body → ℕ → Signature → List Op → List ℕ → List Kind → Type 0
Flow code body c sig [] ks s = ⊥
Flow code body c sig (op ∷ ops) ks s = Needs code body c sig op ks s (Flow code body c sig ops)
