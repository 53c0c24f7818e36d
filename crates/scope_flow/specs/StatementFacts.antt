-- What each statement of an accepted program has, one record a kind of node.
use Rattle.std.specs.Prelude.{◌≡◌, ℕ, ◌<◌, ◌⊎◌, List, Option, Some, None, is_some, slice_get}
use Rattle.scj_base.specs.declared.positions.Position.{Position}
use Rattle.scj_tree.specs.declared.nodes.Node.{Node}
use Rattle.scj_tree.specs.declared.nodes.Node.TheVariants.{Block, Empty as EmptyStatement, Local as LocalNode, LocalWithValue, Assign, ExpressionStatement, If, While, For, Return, SimpleName, FieldAccess, Element}
use Rattle.scj_rules.specs.declared.typing.Binding.TheVariants.{Plain, Local as LocalVariable, Field as InstanceField, Static}
use Rattle.scj_rules.specs.declared.typing.Scope.{Scope}
use Rattle.scj_rules.specs.declared.typing.Scope.TheVariants.{This, Caller}
use Rattle.scj_rules.specs.declared.typing.Ty.{Ty}
use Rattle.scj_rules.specs.declared.typing.Ty.TheVariants.{Class as ClassTy}
use Rattle.scj_rules.specs.declared.views.Body.TheVariants.{Written}
use Rattle.scj_rules.specs.Contexts.{Declarations, known_variables}
use Rattle.accepted_laws.specs.Kinds.{Kind, number, truth, reference, Fits}
use Rattle.accepted_laws.specs.Judgements.{Judged, Inside, Among, known_behind}
use Rattle.scj_model.specs.Code.{Code, binding}
use Rattle.scj_model.specs.Ops.{leaves_value}
use Rattle.scj_model.specs.Operations.{bound_local}
use Rattle.scope_flow.specs.Slots.{kind_of_elements, HasField, HasStatic}
use Rattle.scope_flow.specs.Signatures.{Signature}
use Rattle.scope_flow.specs.Guards.{SparesGuards}
use Rattle.scope_flow.specs.Needs.{IsVariable, FieldTakes}
use Rattle.scope_flow.specs.ValueFacts.{HasValue, HasStatement, HasOptionStatement, HasNext, HaveStatements, HasObject}

-- ---- statements

pub record DeclaredFact (code : Code) (b id : ℕ) : Type 0 where
  pub local : ℕ
  pub is : bound_local (binding code id) ≡ Some local
  pub is_variable : IsVariable code.program (Written b) local id
  pub spares : SparesGuards code id id

-- a value of a kind that fits a place of another one, seen with this THIS
pub record ValueFits (p : Declarations) (b c id value : ℕ) (home : Scope) (place : Kind) : Type 0 where
  pub kind : Kind
  pub value_is : HasValue p b c id value (Some kind)
  pub fits : Fits p home Caller kind place

-- a value that may be stored in a field of this kind of an object of the class
pub record FieldValueFits (p : Declarations) (b c id value class : ℕ) (home : Scope) (place : Kind) : Type 0 where
  pub kind : Kind
  pub value_is : HasValue p b c id value (Some kind)
  pub fits : FieldTakes p id class home kind place

pub record InitialValueFact (code : Code) (b c id value : ℕ) : Type 0 where
  pub declared : DeclaredFact code b id
  pub fits : ValueFits code.program b c id value This declared.is_variable.kind

-- ---- assignments, by the target

pub record SetLocalFact (code : Code) (b c id target value : ℕ) : Type 0 where
  pub position : Position
  pub name : List ℕ
  pub is_there : slice_get code.program.nodes target ≡ Some (SimpleName position name)
  pub local : ℕ
  pub is : binding code target ≡ LocalVariable local
  pub variable : ℕ
  pub is_variable : IsVariable code.program (Written b) local variable
  pub spares : SparesGuards code id variable
  pub fits : ValueFits code.program b c id value This is_variable.kind

pub record SetOwnFieldFact (code : Code) (b c id target value : ℕ) : Type 0 where
  pub position : Position
  pub name : List ℕ
  pub is_there : slice_get code.program.nodes target ≡ Some (SimpleName position name)
  pub field : ℕ
  pub is : binding code target ≡ InstanceField field
  pub own : HasObject code.program b c
  pub has : HasField code.program c field
  pub fits : FieldValueFits code.program b c id value c own.home has.kind

pub record SetFieldFact (code : Code) (b c id target value : ℕ) : Type 0 where
  pub position : Position
  pub name : List ℕ
  pub object : ℕ
  pub is_there : slice_get code.program.nodes target ≡ Some (FieldAccess position name object)
  pub field : ℕ
  pub is : binding code target ≡ InstanceField field
  pub class : ℕ
  pub scope : Scope
  pub object_is : HasValue code.program b c id object (Some (reference (ClassTy class) scope))
  pub has : HasField code.program class field
  pub fits : FieldValueFits code.program b c id value class scope has.kind

pub record SetStaticFact (code : Code) (b c id target value : ℕ) : Type 0 where
  pub node : Node
  pub is_there : slice_get code.program.nodes target ≡ Some node
  pub field : ℕ
  pub is : binding code target ≡ Static field
  pub has : HasStatic code.program field
  pub fits : ValueFits code.program b c id value This has.kind

pub record SetElementFact (code : Code) (b c id target value : ℕ) : Type 0 where
  pub position : Position
  pub array : ℕ
  pub index : ℕ
  pub is_there : slice_get code.program.nodes target ≡ Some (Element position array index)
  pub is : binding code target ≡ Plain
  pub type : Ty
  pub scope : Scope
  pub array_is : HasValue code.program b c id array (Some (reference type scope))
  pub index_is : HasValue code.program b c id index (Some number)
  pub kind : Kind
  pub elements : kind_of_elements code.program type ≡ Some kind
  pub fits : ValueFits code.program b c id value scope kind

abbrev pub AssignFact : Code → ℕ → ℕ → ℕ → ℕ → ℕ → Type 0
AssignFact code b c id target value =
    SetLocalFact code b c id target value
    ⊎ (SetOwnFieldFact code b c id target value
    ⊎ (SetFieldFact code b c id target value
    ⊎ (SetStaticFact code b c id target value ⊎ SetElementFact code b c id target value)))

-- ---- the other statements

pub record InvocationFact (code : Code) (b c id expression : ℕ) : Type 0 where
  pub gives : Option Kind
  pub expression_is : HasValue code.program b c id expression gives
  pub is : leaves_value (binding code expression) ≡ is_some gives

pub record IfFact (p : Declarations) (b c id condition then_part : ℕ) (else_part : Option ℕ) : Type 0 where
  pub condition_is : HasValue p b c id condition (Some truth)
  pub then_is : HasStatement p b c id then_part
  pub else_is : HasOptionStatement p b c id else_part

pub record WhileFact (p : Declarations) (b c id condition body : ℕ) : Type 0 where
  pub condition_is : HasValue p b c id condition (Some truth)
  pub body_is : HasStatement p b c id body

-- of a `for` the variable that its start declares is in scope in the other parts
pub record ForFact (p : Declarations) (b c id first condition step body : ℕ) : Type 0 where
  pub first_is : HasStatement p b c id first
  pub condition_smaller : condition < id
  pub condition_inside : Inside p b c condition
  pub condition_judged : Judged p condition (Some truth)
  pub condition_known : Among (known_variables p condition) (known_behind p first (known_variables p id))
  pub step_is : HasNext p b c id (known_behind p first (known_variables p id)) step
  pub body_is : HasNext p b c id (known_behind p first (known_variables p id)) body

pub record ReturnValueFact (p : Declarations) (b c : ℕ) (sig : Signature) (id value : ℕ) : Type 0 where
  pub wanted : Kind
  pub is : sig.gives ≡ Some wanted
  pub fits : ValueFits p b c id value This wanted

unfoldable pub ReturnFact : Declarations → ℕ → ℕ → Signature → ℕ → Option ℕ → Type 0
ReturnFact p b c sig id None = sig.gives ≡ None
ReturnFact p b c sig id (Some value) = ReturnValueFact p b c sig id value

unfoldable pub StatementFact : Code → ℕ → ℕ → Signature → ℕ → Node → Type 0
StatementFact code b c sig id (Block position statements) =
    HaveStatements code.program b c id (known_variables code.program id) statements
StatementFact code b c sig id (EmptyStatement position) = Unit {0}
StatementFact code b c sig id (LocalNode position name flags declared_type) = DeclaredFact code b id
StatementFact code b c sig id (LocalWithValue position name_position name flags declared_type value) =
    InitialValueFact code b c id value
StatementFact code b c sig id (Assign position target value) = AssignFact code b c id target value
StatementFact code b c sig id (ExpressionStatement position expression) = InvocationFact code b c id expression
StatementFact code b c sig id (If position condition then_part else_part) =
    IfFact code.program b c id condition then_part else_part
StatementFact code b c sig id (While position condition body) = WhileFact code.program b c id condition body
StatementFact code b c sig id (For position first condition step body) =
    ForFact code.program b c id first condition step body
StatementFact code b c sig id (Return position value) = ReturnFact code.program b c sig id value
StatementFact code b c sig id _ = ⊥
