-- What each call of an accepted program has; and all expressions.
use Rattle.std.specs.Prelude.{◌≡◌, ℕ, ◌<◌, true, false, ◌⊎◌, List, [], ◌∷◌, Option, Some, None, is_some, slice_get}
use Rattle.scj_base.specs.declared.positions.Position.{Position}
use Rattle.scj_builtins.specs.Framework.{mission_request_termination, periodic_handler_register, aperiodic_handler_register, aperiodic_handler_release, managed_memory_enter_private_memory, managed_memory_execute_in_area_of, managed_memory_alloc_in_same, services_set_ceiling, trace_print, device_read}
use Rattle.scj_tree.specs.declared.nodes.Node.{Node}
use Rattle.scj_tree.specs.declared.nodes.Node.TheVariants.{Binary, Unary, Cast, Parenthesized, SimpleName, FieldAccess, Call, Element, New, NewArray, Text, Number, True, False, Null, This as ThisNode}
use Rattle.scj_rules.specs.declared.typing.Binding.TheVariants.{Method, StaticMethod, Builtin}
use Rattle.scj_rules.specs.declared.typing.Scope.{Scope}
use Rattle.scj_rules.specs.declared.typing.Scope.TheVariants.{Any, Caller, In}
use Rattle.scj_rules.specs.declared.typing.Target.{Target}
use Rattle.scj_rules.specs.declared.typing.Ty.{Ty}
use Rattle.scj_rules.specs.declared.typing.Ty.TheVariants.{NullTy, Class as ClassTy}
use Rattle.scj_rules.specs.declared.views.Body.TheVariants.{Written}
use Rattle.scj_rules.specs.Words.{is_among}
use Rattle.scj_rules.specs.Classes.{is_sub}
use Rattle.scj_rules.specs.Contexts.{Declarations}
use Rattle.scj_rules.specs.ScopeRules.{parent_scope, is_handler}
use Rattle.scj_rules.specs.Types.{conditional_operators}
use Rattle.scj_rules.specs.Bodies.{body_of}
use Rattle.accepted_laws.specs.Kinds.{Kind, number, truth, reference, seen_option, AllFit, RunsHere}
use Rattle.scj_model.specs.Code.{Code, binding}
use Rattle.scj_model.specs.Ops.{leaves_value}
use Rattle.scope_flow.specs.Signatures.{Gives, Signature, IsBody, runs_for_object, IsConcrete, IsDispatched, IsEntered, IsExecuted, AreWithoutThis}
use Rattle.scope_flow.specs.Needs.{pushed}
use Rattle.scope_flow.specs.ValueFacts.{HasValue, HaveValues, HasObject, ThisFact, LocalFact, OwnFieldFact, StaticFact, FieldFact, LengthFact, ElementFact, UnaryFact, ShortFact, BinaryFact, NewFact, NewArrayFact, CastFact}

-- ---- calls. What is bound says of each whether it leaves a value

abbrev pub ReceiverIs : Declarations → ℕ → ℕ → ℕ → Option ℕ → ℕ → Scope → Type 0
ReceiverIs p b c id None class scope = (own : HasObject p b c) × (class ≡ c) × (scope ≡ own.home)
ReceiverIs p b c id (Some object) class scope = HasValue p b c id object (Some (reference (ClassTy class) scope))

pub record CallFact (code : Code) (b c : ℕ) (sig : Signature) (id : ℕ) (object : Option ℕ) (arguments : List ℕ) (gives : Option Kind) : Type 0 where
  pub target : Target
  pub is : binding code id ≡ Method target
  pub class : ℕ
  pub is_on : target.on ≡ class
  pub scope : Scope
  pub receiver_is : ReceiverIs code.program b c id object class scope
  pub static : Signature
  pub kinds : List Kind
  pub arguments_are : HaveValues code.program b c id arguments kinds
  pub fit : AllFit code.program scope sig.runs_in kinds static.takes
  pub runs : RunsHere scope sig.runs_in static.runs_in
  pub each : (on : ℕ) → is_sub code.program.classes on class ≡ true → IsConcrete code.program on →
      IsDispatched code.program on target.id static
  pub is_given : gives ≡ seen_option scope sig.runs_in static.gives
  pub is_left : leaves_value (binding code id) ≡ is_some gives

pub record StaticCallFact (code : Code) (b c : ℕ) (sig : Signature) (id : ℕ) (arguments : List ℕ) (gives : Option Kind) : Type 0 where
  pub target : Target
  pub is : binding code id ≡ StaticMethod target
  pub body : ℕ
  pub is_body : body_of code.program target.on target.id ≡ Some (Written body)
  pub on : ℕ
  pub static : Signature
  pub has_signature : IsBody code.program body on static
  pub for_no_object : runs_for_object code.program (Written body) ≡ false
  pub runs : static.runs_in ≡ Caller
  pub kinds : List Kind
  pub arguments_are : HaveValues code.program b c id arguments kinds
  pub fit : AllFit code.program Any sig.runs_in kinds static.takes
  pub takes_no_this : AreWithoutThis static.takes
  pub gives_no_this : AreWithoutThis (pushed static.gives [])
  pub gives_itself : Gives code.program Any static.gives static.gives
  pub is_given : gives ≡ seen_option Any sig.runs_in static.gives
  pub is_left : leaves_value (binding code id) ≡ is_some gives

-- ---- calls of the framework. What is bound tells the class of the Runnable where memory is entered

pub record EnterFact (code : Code) (b c : ℕ) (sig : Signature) (id method on : ℕ) (arguments : List ℕ) (gives : Option Kind) : Type 0 where
  pub is_method : method ≡ managed_memory_enter_private_memory
  pub size : ℕ
  pub object : ℕ
  pub are : arguments ≡ size ∷ (object ∷ [])
  pub size_is : HasValue code.program b c id size (Some number)
  pub class : ℕ
  pub is_on : on ≡ class
  pub scope : Scope
  pub object_is : HasValue code.program b c id object (Some (reference (ClassTy class) scope))
  pub entered : ℕ
  pub parent : ℕ
  pub is_parent : parent_scope code.program entered ≡ Some parent
  pub now : sig.runs_in ≡ In parent
  pub each : (on : ℕ) → is_sub code.program.classes on class ≡ true → IsConcrete code.program on →
      IsEntered code.program on entered
  pub is_given : gives ≡ None

pub record ExecuteInFact (code : Code) (b c id method on : ℕ) (arguments : List ℕ) (gives : Option Kind) : Type 0 where
  pub is_method : method ≡ managed_memory_execute_in_area_of
  pub place : ℕ
  pub object : ℕ
  pub are : arguments ≡ place ∷ (object ∷ [])
  pub type : Ty
  pub area : ℕ
  pub place_is : HasValue code.program b c id place (Some (reference type (In area)))
  pub class : ℕ
  pub is_on : on ≡ class
  pub scope : Scope
  pub object_is : HasValue code.program b c id object (Some (reference (ClassTy class) scope))
  pub each : (on : ℕ) → is_sub code.program.classes on class ≡ true → IsConcrete code.program on →
      IsExecuted code.program on area
  pub is_given : gives ≡ None

pub record SetCeilingFact (code : Code) (b c id method : ℕ) (arguments : List ℕ) (gives : Option Kind) : Type 0 where
  pub is_method : method ≡ services_set_ceiling
  pub object : ℕ
  pub ceiling : ℕ
  pub are : arguments ≡ object ∷ (ceiling ∷ [])
  pub type : Ty
  pub scope : Scope
  pub object_is : HasValue code.program b c id object (Some (reference type scope))
  pub ceiling_is : HasValue code.program b c id ceiling (Some number)
  pub is_given : gives ≡ None

pub record PrintFact (code : Code) (b c id method : ℕ) (arguments : List ℕ) (gives : Option Kind) : Type 0 where
  pub is_method : method ≡ trace_print
  pub label : ℕ
  pub value : ℕ
  pub are : arguments ≡ label ∷ (value ∷ [])
  pub position : Position
  pub text : List ℕ
  pub is_smaller : label < id
  pub is_text : slice_get code.program.nodes label ≡ Some (Text position text)
  pub value_is : HasValue code.program b c id value (Some number)
  pub is_given : gives ≡ None

pub record ReadFact (code : Code) (b c id method : ℕ) (arguments : List ℕ) (gives : Option Kind) : Type 0 where
  pub is_method : method ≡ device_read
  pub port : ℕ
  pub are : arguments ≡ port ∷ []
  pub port_is : HasValue code.program b c id port (Some number)
  pub is_given : gives ≡ Some number

pub record SameFact (code : Code) (b c id method : ℕ) (arguments : List ℕ) (gives : Option Kind) : Type 0 where
  pub is_method : method ≡ managed_memory_alloc_in_same
  pub first : ℕ
  pub second : ℕ
  pub are : arguments ≡ first ∷ (second ∷ [])
  pub first_type : Ty
  pub first_scope : Scope
  pub first_is : HasValue code.program b c id first (Some (reference first_type first_scope))
  pub second_type : Ty
  pub second_scope : Scope
  pub second_is : HasValue code.program b c id second (Some (reference second_type second_scope))
  pub is_given : gives ≡ Some truth

-- on a handler or a mission
pub record ReceiverFact (code : Code) (b c id : ℕ) (object : Option ℕ) (gives : Option Kind) : Type 0 where
  pub class : ℕ
  pub scope : Scope
  pub receiver_is : ReceiverIs code.program b c id object class scope
  pub is_given : gives ≡ None

pub record RegisterFact (code : Code) (b c id : ℕ) (object : Option ℕ) (gives : Option Kind) : Type 0 where
  pub receiver : ReceiverFact code b c id object gives
  pub are_handlers : (on : ℕ) → is_sub code.program.classes on receiver.class ≡ true →
      is_handler code.program on ≡ true

abbrev pub registering : List ℕ
registering = periodic_handler_register ∷ (aperiodic_handler_register ∷ [])

-- by the number of the framework's method, and the class that the binding tells
abbrev pub BuiltinCases : Code → ℕ → ℕ → Signature → ℕ → Option ℕ → List ℕ → ℕ → ℕ → Option Kind → Type 0
BuiltinCases code b c sig id object arguments method on gives =
    EnterFact code b c sig id method on arguments gives
    ⊎ (ExecuteInFact code b c id method on arguments gives
    ⊎ (SetCeilingFact code b c id method arguments gives
    ⊎ (PrintFact code b c id method arguments gives
    ⊎ (ReadFact code b c id method arguments gives
    ⊎ (((method ≡ mission_request_termination) × ReceiverFact code b c id object gives)
    ⊎ (((method ≡ aperiodic_handler_release) × ReceiverFact code b c id object gives)
    ⊎ ((((method ≡ periodic_handler_register) ⊎ (method ≡ aperiodic_handler_register))
    × RegisterFact code b c id object gives)
    ⊎ SameFact code b c id method arguments gives)))))))

pub record BuiltinFact (code : Code) (b c : ℕ) (sig : Signature) (id : ℕ) (object : Option ℕ) (arguments : List ℕ) (gives : Option Kind) : Type 0 where
  pub target : Target
  pub is : binding code id ≡ Builtin target
  pub cases : BuiltinCases code b c sig id object arguments target.id target.on gives

-- ---- all expressions: what a node that is judged so has

unfoldable pub ExpressionFact : Code → ℕ → ℕ → Signature → ℕ → Node → Option Kind → Type 0
ExpressionFact code b c sig id (Number position value is_negative) o = o ≡ Some number
ExpressionFact code b c sig id (True position) o = o ≡ Some truth
ExpressionFact code b c sig id (False position) o = o ≡ Some truth
ExpressionFact code b c sig id (Null position) o = o ≡ Some (reference NullTy Any)
ExpressionFact code b c sig id (ThisNode position) o = ThisFact code.program b c o
ExpressionFact code b c sig id (SimpleName position name) o =
    LocalFact code b id o ⊎ (OwnFieldFact code b c id o ⊎ StaticFact code id o)
ExpressionFact code b c sig id (Parenthesized position inner) o = HasValue code.program b c id inner o
ExpressionFact code b c sig id (FieldAccess position name object) o =
    FieldFact code b c id object o ⊎ (StaticFact code id o ⊎ LengthFact code b c id object o)
ExpressionFact code b c sig id (Element position array index) o = ElementFact code.program b c id array index o
ExpressionFact code b c sig id (Unary position operator operand) o = UnaryFact code.program b c id operator operand o
ExpressionFact code b c sig id (Binary position operator left right) o =
    ((is_among operator conditional_operators ≡ true) × ShortFact code.program b c id left right o)
    ⊎ BinaryFact code.program b c id operator left right o
ExpressionFact code b c sig id (New position name_position name arguments) o = NewFact code b c sig id arguments o
ExpressionFact code b c sig id (NewArray position element count) o = NewArrayFact code b c sig id count o
ExpressionFact code b c sig id (Cast position name_position name operand) o = CastFact code b c id operand o
ExpressionFact code b c sig id (Call position name object arguments) o =
    CallFact code b c sig id object arguments o
    ⊎ (StaticCallFact code b c sig id arguments o ⊎ BuiltinFact code b c sig id object arguments o)
ExpressionFact code b c sig id _ o = ⊥
