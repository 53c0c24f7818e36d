-- What operations need and leave: of calls, of the framework, and of assignments.
use Rattle.std.specs.Prelude.{◌≡◌, ℕ, true, false, ◌⊎◌, List, [], ◌∷◌, length, slice_get, Option, Some, None, is_some}
use Rattle.scj_base.specs.declared.positions.Position.{Position}
use Rattle.scj_tree.specs.declared.nodes.Node.{Node}
use Rattle.scj_tree.specs.declared.nodes.Node.TheVariants.{Call as CallNode}
use Rattle.scj_rules.specs.declared.typing.Binding.TheVariants.{Method, Builtin}
use Rattle.scj_rules.specs.declared.typing.Target.{Target}
use Rattle.scj_rules.specs.declared.typing.Ty.{Ty}
use Rattle.scj_rules.specs.declared.typing.Ty.TheVariants.{Class as ClassTy}
use Rattle.scj_rules.specs.declared.typing.Scope.{Scope}
use Rattle.scj_rules.specs.declared.typing.Scope.TheVariants.{Any, This, Caller, In}
use Rattle.scj_rules.specs.declared.views.Body.{Body}
use Rattle.scj_rules.specs.declared.views.Body.TheVariants.{Written}
use Rattle.scj_rules.specs.Words.{◌>>=◌}
use Rattle.scj_rules.specs.Classes.{is_sub}
use Rattle.scj_rules.specs.Contexts.{Declarations}
use Rattle.scj_rules.specs.ScopeRules.{parent_scope, is_handler}
use Rattle.scj_rules.specs.Types.{is_array}
use Rattle.scj_rules.specs.Bodies.{body_of}
use Rattle.accepted_laws.specs.Kinds.{Kind, number, truth, reference, seen_option, Fits, AllFit, RunsHere}
use Rattle.scj_model.specs.Code.{Code, binding, part}
use Rattle.scj_model.specs.Ops.{leaves_value}
use Rattle.scj_model.specs.Operations.{bound_field, bound_static, bound_class, bound_method, bound_static_method, assigned, argument_count, first_argument}
use Rattle.scope_flow.specs.Slots.{kind_of_elements, HasField, HasStatic}
use Rattle.scope_flow.specs.Signatures.{Gives, Signature, IsBody, runs_for_object, IsConcrete, IsDispatched, IsEntered, IsExecuted, AreWithoutThis}
use Rattle.scope_flow.specs.Pushers.{IsKindOfExpression, IsGivenBy, IsScopeOfReceiver}
use Rattle.scope_flow.specs.Needs.{FieldTakes, InNode, pushed, stacked}
use Rattle.scope_flow.specs.ValueFacts.{HasValue}

-- ---- calls: one leaves a value where its method has a result

-- the receiver of a call, if it is written
unfoldable pub receiver_of : Node → Option (Option ℕ)
receiver_of (CallNode position name object arguments) = Some object
receiver_of _ = None

pub record CallNeeds (code : Code) (c : ℕ) (sig : Signature) (id : ℕ) (s out : List Kind) : Type 0 where
  pub method : ℕ
  pub is : bound_method (binding code id) ≡ Some method
  pub arguments : List Kind
  pub count : part code argument_count id ≡ Some (length arguments)
  pub class : ℕ
  pub is_on : (t : Target) → binding code id ≡ Method t → t.on ≡ class
  pub scope : Scope
  pub receiver : Option ℕ
  pub is_receiver : part code receiver_of id ≡ Some receiver
  pub of_receiver : IsScopeOfReceiver code.program c receiver scope
  pub others : List Kind
  pub takes : s ≡ stacked arguments (reference (ClassTy class) scope ∷ others)
  pub static : Signature
  pub fit : AllFit code.program scope sig.runs_in arguments static.takes
  pub runs : RunsHere scope sig.runs_in static.runs_in
  pub each : (c : ℕ) → is_sub code.program.classes c class ≡ true → IsConcrete code.program c →
      IsDispatched code.program c method static
  pub by_expression : IsGivenBy code.program id (seen_option scope sig.runs_in static.gives)
  pub is_left : leaves_value (binding code id) ≡ is_some static.gives
  pub leaves : out ≡ pushed (seen_option scope sig.runs_in static.gives) others

-- a static method runs in CALLER, and no THIS is in its scopes
pub record CallStaticNeeds (code : Code) (sig : Signature) (id : ℕ) (s out : List Kind) : Type 0 where
  pub method : ℕ × ℕ
  pub is : bound_static_method (binding code id) ≡ Some method
  pub arguments : List Kind
  pub count : part code argument_count id ≡ Some (length arguments)
  pub others : List Kind
  pub takes : s ≡ stacked arguments others
  pub body : ℕ
  pub is_body : body_of code.program method.0 method.1 ≡ Some (Written body)
  pub on : ℕ
  pub static : Signature
  pub has_signature : IsBody code.program body on static
  pub for_no_object : runs_for_object code.program (Written body) ≡ false
  pub runs : static.runs_in ≡ Caller
  pub fit : AllFit code.program Any sig.runs_in arguments static.takes
  pub takes_no_this : AreWithoutThis static.takes
  pub gives_no_this : AreWithoutThis (pushed static.gives [])
  pub gives_itself : Gives code.program Any static.gives static.gives
  pub by_expression : IsGivenBy code.program id (seen_option Any sig.runs_in static.gives)
  pub is_left : leaves_value (binding code id) ≡ is_some static.gives
  pub leaves : out ≡ pushed (seen_option Any sig.runs_in static.gives) others

-- an object that passes a cast lies where it lay, or where the class's objects lie
pub record CastNeeds (code : Code) (id : ℕ) (s out : List Kind) : Type 0 where
  pub class : ℕ
  pub is : bound_class (binding code id) ≡ Some class
  pub type : Ty
  pub scope : Scope
  pub others : List Kind
  pub takes : s ≡ reference type scope ∷ others
  pub is_no_array : is_array type ≡ false
  pub seen : Scope
  pub lies : (scope ≡ Any) ⊎ (seen ≡ scope)
  pub by_expression : IsKindOfExpression code.program id (reference (ClassTy class) seen)
  pub leaves : out ≡ reference (ClassTy class) seen ∷ others

-- the arguments stand in the node, and the second one is a value of the body
pub record EnterNeeds (code : Code) (body : Body) (c : ℕ) (sig : Signature) (id : ℕ) (s out : List Kind) : Type 0 where
  pub position : Position
  pub name : List ℕ
  pub object : Option ℕ
  pub size : ℕ
  pub runnable : ℕ
  pub is_there : slice_get code.program.nodes id ≡ Some (CallNode position name object (size ∷ (runnable ∷ [])))
  pub target : Target
  pub is : binding code id ≡ Builtin target
  pub class : ℕ
  pub is_on : target.on ≡ class
  pub scope : Scope
  pub takes : s ≡ reference (ClassTy class) scope ∷ (number ∷ out)
  pub entered : ℕ
  pub parent : ℕ
  pub is_parent : parent_scope code.program entered ≡ Some parent
  pub now : sig.runs_in ≡ In parent
  pub each : (c : ℕ) → is_sub code.program.classes c class ≡ true → IsConcrete code.program c →
      IsEntered code.program c entered
  pub is_value : InNode body (λ b. HasValue code.program b c id runnable (Some (reference (ClassTy class) scope)))

pub record ExecuteInNeeds (code : Code) (id : ℕ) (s out : List Kind) : Type 0 where
  pub target : Target
  pub is : binding code id ≡ Builtin target
  pub class : ℕ
  pub is_on : target.on ≡ class
  pub scope : Scope
  pub type : Ty
  pub area : ℕ
  pub takes : s ≡ reference (ClassTy class) scope ∷ (reference type (In area) ∷ out)
  pub each : (c : ℕ) → is_sub code.program.classes c class ≡ true → IsConcrete code.program c →
      IsExecuted code.program c area

-- ---- the other calls of the framework

pub record SetCeilingNeeds (s out : List Kind) : Type 0 where
  pub type : Ty
  pub scope : Scope
  pub takes : s ≡ number ∷ (reference type scope ∷ out)

pub record PrintNeeds (code : Code) (id : ℕ) (s out : List Kind) : Type 0 where
  pub label : ℕ
  pub is : part code first_argument id ≡ Some label
  pub takes : s ≡ number ∷ out

pub record ReadNeeds (s out : List Kind) : Type 0 where
  pub others : List Kind
  pub takes : s ≡ number ∷ others
  pub leaves : out ≡ number ∷ others

pub record SameNeeds (s out : List Kind) : Type 0 where
  pub first_type : Ty
  pub first_scope : Scope
  pub second_type : Ty
  pub second_scope : Scope
  pub others : List Kind
  pub takes : s ≡ reference second_type second_scope ∷ (reference first_type first_scope ∷ others)
  pub leaves : out ≡ truth ∷ others

-- an object of a class is the receiver: of a handler's where it is registered
pub record ReceiverNeeds (s out : List Kind) : Type 0 where
  pub class : ℕ
  pub scope : Scope
  pub takes : s ≡ reference (ClassTy class) scope ∷ out

pub record RegisterNeeds (p : Declarations) (s out : List Kind) : Type 0 where
  pub receiver : ReceiverNeeds s out
  pub are_handlers : (c : ℕ) → is_sub p.classes c receiver.class ≡ true → is_handler p c ≡ true

-- ---- assignments

pub record PutNeeds (code : Code) (id : ℕ) (s out : List Kind) : Type 0 where
  pub field : ℕ
  pub is : assigned code id >>= bound_field ≡ Some field
  pub value : Kind
  pub class : ℕ
  pub scope : Scope
  pub takes : s ≡ value ∷ (reference (ClassTy class) scope ∷ out)
  pub has : HasField code.program class field
  pub fit : FieldTakes code.program id class scope value has.kind

pub record PutStaticNeeds (code : Code) (id : ℕ) (s out : List Kind) : Type 0 where
  pub field : ℕ
  pub is : assigned code id >>= bound_static ≡ Some field
  pub value : Kind
  pub takes : s ≡ value ∷ out
  pub has : HasStatic code.program field
  pub fit : Fits code.program This Caller value has.kind

pub record PutElemNeeds (p : Declarations) (s out : List Kind) : Type 0 where
  pub value : Kind
  pub type : Ty
  pub scope : Scope
  pub takes : s ≡ value ∷ (number ∷ (reference type scope ∷ out))
  pub kind : Kind
  pub elements : kind_of_elements p type ≡ Some kind
  pub fit : Fits p scope Caller value kind

pub record DropNeeds (s out : List Kind) : Type 0 where
  pub kind : Kind
  pub takes : s ≡ kind ∷ out
