-- What the bodies, classes and types of an accepted program have: what the proofs about runs ask of the rules, but for the
-- mission sequencer.
use Rattle.std.specs.Prelude.{◌≡◌, ℕ, ◌+◌, ◌<◌, true, false, List, [], ◌∷◌, Option, Some, None, slice_get, length}
use Rattle.scj_base.specs.declared.positions.Position.{Position}
use Rattle.scj_tree.specs.declared.nodes.Node.{Node}
use Rattle.scj_tree.specs.declared.nodes.Node.TheVariants.{Class, Method as MethodNode, Constructor, SuperCall, New}
use Rattle.scj_rules.specs.declared.typing.Binding.TheVariants.{Plain, Class as ClassNamed}
use Rattle.scj_rules.specs.declared.typing.Scope.{Scope}
use Rattle.scj_rules.specs.declared.typing.Scope.TheVariants.{Caller, In}
use Rattle.scj_rules.specs.declared.typing.Ty.{Ty}
use Rattle.scj_rules.specs.declared.typing.Ty.TheVariants.{Class as ClassTy}
use Rattle.scj_rules.specs.declared.views.Declared.{Declared}
use Rattle.scj_rules.specs.declared.views.WrittenType.TheVariants.{Void as void_type}
use Rattle.scj_rules.specs.Words.{◌>>=◌}
use Rattle.scj_rules.specs.Views.{type_at}
use Rattle.scj_rules.specs.Classes.{is_user_class, is_sub}
use Rattle.scj_rules.specs.ClassRules.{is_same_type}
use Rattle.scj_rules.specs.Contexts.{Declarations, known_variables}
use Rattle.scj_rules.specs.StaticScopes.{this_in}
use Rattle.scj_rules.specs.Types.{assigns, has_form}
use Rattle.scj_rules.specs.TypeRules.{always_returns}
use Rattle.scj_rules.specs.Layout.{fields_with_literal, literal_written}
use Rattle.scj_rules.specs.Bodies.{class_node, class_of_body}
use Rattle.accepted_laws.specs.Kinds.{Kind, number, Fits}
use Rattle.accepted_laws.specs.Judgements.{Judged, Inside, Among}
use Rattle.scj_model.specs.Code.{Code, binding, part}
use Rattle.scj_model.specs.Operations.{bound_field, super_count}
use Rattle.scope_flow.specs.Slots.{array_type, HasField, IsOfType, kind_of_literal}
use Rattle.scope_flow.specs.Signatures.{Signature, IsBody, parameters_of, IsConcrete}
use Rattle.scope_flow.specs.GuardFacts.{GuardFacts}
use Rattle.scope_flow.specs.Needs.{IsStatement, CallsConstructor, HasHidden, parameter_count, hidden_count}
use Rattle.scope_flow.specs.CallFacts.{ExpressionFact}
use Rattle.scope_flow.specs.ValueFacts.{HaveValues, HasObject}
use Rattle.scope_flow.specs.StatementFacts.{StatementFact}

-- ---- constructors: the super part, the literals, the body

abbrev pub AreSmaller : ℕ → List ℕ → Type 0
AreSmaller id [] = Unit {0}
AreSmaller id (x ∷ xs) = (x < id) × AreSmaller id xs

-- a node stands for so many numbers: it is a number, or a part of a form whose arguments are so many in all
mutual
  pub data Numbers (code : Code) (b c : ℕ) (known : List ℕ) : ℕ → ℕ → Type 0 where
    one_number : {x : ℕ} → Inside code.program b c x → Judged code.program x (Some number) →
        Among (known_variables code.program x) known → Numbers code b c known x 1
    form_part : {x n : ℕ} {position name_position : Position} {name xs : List ℕ} →
        slice_get code.program.nodes x ≡ Some (New position name_position name xs) → binding code x ≡ Plain →
        AreSmaller x xs → AllNumbers code b c known xs n → Numbers code b c known x n

  pub data AllNumbers (code : Code) (b c : ℕ) (known : List ℕ) : List ℕ → ℕ → Type 0 where
    no_numbers : AllNumbers code b c known [] 0
    more_numbers : {x m n : ℕ} {xs : List ℕ} →
        Numbers code b c known x m → AllNumbers code b c known xs n → AllNumbers code b c known (x ∷ xs) (m + n)

-- the superclass is a user class: its constructor is called
pub record SuperCallFact (code : Code) (b c : ℕ) (sig : Signature) (id : ℕ) (arguments : List ℕ) (superclass : ℕ) : Type 0 where
  pub kinds : List Kind
  pub arguments_are : HaveValues code.program b c id arguments kinds
  pub above : is_sub code.program.classes c superclass ≡ true
  pub constructor : CallsConstructor code.program superclass sig.runs_in kinds

-- the superclass asks for a form
pub record FormFact (code : Code) (b c id : ℕ) (arguments : List ℕ) (superclass : ℕ) : Type 0 where
  pub are : AllNumbers code b c (known_variables code.program id) arguments (parameter_count superclass)
  pub hidden : HasHidden code.program c (hidden_count superclass)

pub record SuperFact (code : Code) (b c : ℕ) (sig : Signature) (id : ℕ) (arguments : List ℕ) : Type 0 where
  pub superclass : ℕ
  pub is : binding code id ≡ ClassNamed superclass
  pub user : is_user_class superclass ≡ true → SuperCallFact code b c sig id arguments superclass
  pub form : is_user_class superclass ≡ false → has_form superclass ≡ true →
      FormFact code b c id arguments superclass

-- where no super call is written it stands at the class, without arguments
pub record UnwrittenSuperFact (code : Code) (b c : ℕ) (sig : Signature) (node : ℕ) : Type 0 where
  pub count : super_count code node ≡ 0
  pub known : Among (known_variables code.program node) []
  pub super_fact : SuperFact code b c sig node []

-- where it is written it is that of its node
pub record WrittenSuperFact (code : Code) (b c : ℕ) (sig : Signature) (call : ℕ) : Type 0 where
  pub smaller : call < b
  pub position : Position
  pub arguments : List ℕ
  pub is_there : slice_get code.program.nodes call ≡ Some (SuperCall position arguments)
  pub are_smaller : AreSmaller call arguments
  pub known : Among (known_variables code.program call) (parameters_of code.program b)
  pub super_fact : SuperFact code b c sig call arguments

-- ---- literals and bodies

-- of a field that its class declares with a literal
pub record LiteralFact (code : Code) (c : ℕ) (home : Scope) (id : ℕ) : Type 0 where
  pub literal : Kind
  pub is_literal : part code literal_written id >>= part code kind_of_literal ≡ Some literal
  pub field : ℕ
  pub is : bound_field (binding code id) ≡ Some field
  pub has : HasField code.program c field
  pub fit : Fits code.program home Caller literal has.kind

abbrev pub LiteralFacts : Code → ℕ → Scope → List Declared → Type 0
LiteralFacts code c home [] = Unit {0}
LiteralFacts code c home (f ∷ fs) = LiteralFact code c home f.node × LiteralFacts code c home fs

-- a body that begins with its parameters
pub record BodyFact (p : Declarations) (b c body : ℕ) : Type 0 where
  pub smaller : body < b
  pub is : IsStatement p b c body
  pub known : Among (known_variables p body) (parameters_of p b)

abbrev pub OptionSuperFact : Code → ℕ → ℕ → Signature → Option ℕ → Type 0
OptionSuperFact code b c sig None =
    (node : ℕ) → class_node code.program c ≡ Some node → UnwrittenSuperFact code b c sig node
OptionSuperFact code b c sig (Some call) = WrittenSuperFact code b c sig call

-- a constructor, and a class whose constructor isn't written: it runs where its object lies
pub record ConstructorFact (code : Code) (b c : ℕ) (sig : Signature) (super_call : Option ℕ) : Type 0 where
  pub is_class : class_of_body code.program b ≡ Some c
  pub own : HasObject code.program b c
  pub runs : sig.runs_in ≡ own.home
  pub gives : sig.gives ≡ None
  pub super_fact : OptionSuperFact code b c sig super_call
  pub literals : LiteralFacts code c own.home (fields_with_literal code.program c)

pub record MethodFact (p : Declarations) (b c : ℕ) (sig : Signature) (result_type body : ℕ) : Type 0 where
  pub body_is : BodyFact p b c body
  pub is_void : is_same_type (type_at p.nodes result_type) void_type ≡ true → sig.gives ≡ None
  pub returns : is_same_type (type_at p.nodes result_type) void_type ≡ false → always_returns p body ≡ true

unfoldable pub EntryFact : Code → ℕ → ℕ → Signature → Node → Type 0
EntryFact code b c sig (MethodNode position name flags result_type parameters (Some body)) =
    MethodFact code.program b c sig result_type body
EntryFact code b c sig (Constructor position name flags parameters super_call body) =
    ConstructorFact code b c sig super_call × BodyFact code.program b c body
EntryFact code b c sig (Class position name flags header members) = ConstructorFact code b c sig None
EntryFact code b c sig _ = ⊥

-- ---- all of it

pub record Facts (code : Code) : Type 0 where
  pub expressions : (b c : ℕ) (sig : Signature) (id : ℕ) (node : Node) (gives : Option Kind) →
      IsBody code.program b c sig → Inside code.program b c id → slice_get code.program.nodes id ≡ Some node →
      Judged code.program id gives → ExpressionFact code b c sig id node gives
  pub statements : (b c : ℕ) (sig : Signature) (id : ℕ) (node : Node) →
      IsBody code.program b c sig → IsStatement code.program b c id → slice_get code.program.nodes id ≡ Some node →
      StatementFact code b c sig id node
  pub entries : (b c : ℕ) (sig : Signature) (body : IsBody code.program b c sig) →
      EntryFact code b c sig body.node
  pub guards : GuardFacts code
  -- an object of a type is of each type that this one may be assigned to
  pub assigned : (class : ℕ) (t u : Ty) → IsOfType code.program class t →
      assigns code.program.classes t u ≡ true → IsOfType code.program class u
  -- a class that is concrete is one of its own type, and a class is no array's
  pub concrete : (class : ℕ) → IsConcrete code.program class → IsOfType code.program class (ClassTy class)
  pub classes : (class : ℕ) → class < length code.program.classes → array_type code.program class ≡ None
  -- a class has the scope of an annotated class above it
  pub inherits : (c above n : ℕ) → is_sub code.program.classes c above ≡ true →
      this_in code.program above ≡ Some (In n) → this_in code.program c ≡ Some (In n)
