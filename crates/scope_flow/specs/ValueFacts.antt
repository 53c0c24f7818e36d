-- What each expression of an accepted program has but for calls, one record a kind of node.
use Rattle.std.specs.Prelude.{◌≡◌, ℕ, ◌<◌, ◌==◌, true, false, ◌⊎◌, List, [], ◌∷◌, Option, Some, None, is_some}
use Rattle.scj_base.specs.Vocabulary.{sign_and_and, sign_or_or}
use Rattle.scj_rules.specs.declared.typing.Binding.TheVariants.{Local as LocalVariable, Field as InstanceField, Static, Length, Class as ClassNamed}
use Rattle.scj_rules.specs.declared.typing.Scope.{Scope}
use Rattle.scj_rules.specs.declared.typing.Scope.TheVariants.{Any, Caller}
use Rattle.scj_rules.specs.declared.typing.Ty.{Ty}
use Rattle.scj_rules.specs.declared.typing.Ty.TheVariants.{Class as ClassTy}
use Rattle.scj_rules.specs.declared.views.Body.TheVariants.{Written}
use Rattle.scj_rules.specs.declared.views.SlotKind.{SlotKind}
use Rattle.scj_rules.specs.Words.{is_among}
use Rattle.scj_rules.specs.Contexts.{Declarations, known_variables}
use Rattle.scj_rules.specs.StaticScopes.{this_in}
use Rattle.scj_rules.specs.Types.{is_array}
use Rattle.scj_rules.specs.Layout.{element_kind}
use Rattle.accepted_laws.specs.Kinds.{Kind, number, truth, reference, seen_kind}
use Rattle.accepted_laws.specs.Judgements.{Judged, Among, known_behind, Child}
use Rattle.scj_model.specs.Code.{Code, binding}
use Rattle.scope_flow.specs.Slots.{array_type, kind_of_elements, HasField, HasStatic}
use Rattle.scope_flow.specs.Signatures.{Signature, runs_for_object, IsConcrete, LiesHere, SlotsReach}
use Rattle.scope_flow.specs.Needs.{IsVariable, kind_of_unary, kind_of_binary, IsStatement, CallsConstructor}

-- ---- children

-- a child that is a value of a kind, or a call without one
abbrev pub HasValue : Declarations → ℕ → ℕ → ℕ → ℕ → Option Kind → Type 0
HasValue p b c id x kind = Child p b c id x × Judged p x kind

abbrev pub HaveValues : Declarations → ℕ → ℕ → ℕ → List ℕ → List Kind → Type 0
HaveValues p b c id [] [] = Unit {0}
HaveValues p b c id (x ∷ xs) (k ∷ ks) = HasValue p b c id x (Some k) × HaveValues p b c id xs ks
HaveValues p b c id [] (k ∷ ks) = ⊥
HaveValues p b c id (x ∷ xs) [] = ⊥

abbrev pub HasStatement : Declarations → ℕ → ℕ → ℕ → ℕ → Type 0
HasStatement p b c id x = Child p b c id x × IsStatement p b c x

abbrev pub HasOptionStatement : Declarations → ℕ → ℕ → ℕ → Option ℕ → Type 0
HasOptionStatement p b c id None = Unit {0}
HasOptionStatement p b c id (Some x) = HasStatement p b c id x

-- a statement of a block, where these variables are in scope
pub record HasNext (p : Declarations) (b c id : ℕ) (variables : List ℕ) (x : ℕ) : Type 0 where
  pub smaller : x < id
  pub is : IsStatement p b c x
  pub known : Among (known_variables p x) variables

abbrev pub HaveStatements : Declarations → ℕ → ℕ → ℕ → List ℕ → List ℕ → Type 0
HaveStatements p b c id known [] = Unit {0}
HaveStatements p b c id known (x ∷ xs) =
    HasNext p b c id known x × HaveStatements p b c id (known_behind p x known) xs

-- ---- names and accesses

-- there is an object, whose scope is told
pub record HasObject (p : Declarations) (b c : ℕ) : Type 0 where
  pub for_object : runs_for_object p (Written b) ≡ true
  pub home : Scope
  pub is_home : this_in p c ≡ Some home

pub record ThisFact (p : Declarations) (b c : ℕ) (gives : Option Kind) : Type 0 where
  pub own : HasObject p b c
  pub is_given : gives ≡ Some (reference (ClassTy c) own.home)

pub record LocalFact (code : Code) (b id : ℕ) (gives : Option Kind) : Type 0 where
  pub local : ℕ
  pub is : binding code id ≡ LocalVariable local
  pub variable : ℕ
  pub is_variable : IsVariable code.program (Written b) local variable
  pub known : is_among variable (known_variables code.program id) ≡ true
  pub is_given : gives ≡ Some is_variable.kind

pub record OwnFieldFact (code : Code) (b c id : ℕ) (gives : Option Kind) : Type 0 where
  pub field : ℕ
  pub is : binding code id ≡ InstanceField field
  pub own : HasObject code.program b c
  pub has : HasField code.program c field
  pub is_given : gives ≡ Some (seen_kind own.home Caller has.kind)

pub record StaticFact (code : Code) (id : ℕ) (gives : Option Kind) : Type 0 where
  pub field : ℕ
  pub is : binding code id ≡ Static field
  pub has : HasStatic code.program field
  pub is_given : gives ≡ Some has.kind

pub record FieldFact (code : Code) (b c id object : ℕ) (gives : Option Kind) : Type 0 where
  pub field : ℕ
  pub is : binding code id ≡ InstanceField field
  pub class : ℕ
  pub scope : Scope
  pub object_is : HasValue code.program b c id object (Some (reference (ClassTy class) scope))
  pub has : HasField code.program class field
  pub is_given : gives ≡ Some (seen_kind scope Caller has.kind)

pub record LengthFact (code : Code) (b c id array : ℕ) (gives : Option Kind) : Type 0 where
  pub is : binding code id ≡ Length
  pub type : Ty
  pub scope : Scope
  pub array_is : HasValue code.program b c id array (Some (reference type scope))
  pub is_given : gives ≡ Some number

pub record ElementFact (p : Declarations) (b c id array index : ℕ) (gives : Option Kind) : Type 0 where
  pub type : Ty
  pub scope : Scope
  pub array_is : HasValue p b c id array (Some (reference type scope))
  pub index_is : HasValue p b c id index (Some number)
  pub kind : Kind
  pub elements : kind_of_elements p type ≡ Some kind
  pub is_given : gives ≡ Some (seen_kind scope Caller kind)

-- ---- operators

pub record UnaryFact (p : Declarations) (b c id operator operand : ℕ) (gives : Option Kind) : Type 0 where
  pub kind : Kind
  pub operand_is : HasValue p b c id operand (Some kind)
  pub is_given : gives ≡ kind_of_unary operator kind
  pub is_some : is_some gives ≡ true

-- of `&&` and `||`
pub record ShortFact (p : Declarations) (b c id left right : ℕ) (gives : Option Kind) : Type 0 where
  pub left_is : HasValue p b c id left (Some truth)
  pub right_is : HasValue p b c id right (Some truth)
  pub is_given : gives ≡ Some truth

pub record BinaryFact (p : Declarations) (b c id operator left right : ℕ) (gives : Option Kind) : Type 0 where
  pub is_not_and : (operator == sign_and_and) ≡ false
  pub is_not_or : (operator == sign_or_or) ≡ false
  pub left_kind : Kind
  pub right_kind : Kind
  pub left_is : HasValue p b c id left (Some left_kind)
  pub right_is : HasValue p b c id right (Some right_kind)
  pub kind : Kind
  pub is_kind : kind_of_binary operator left_kind right_kind ≡ Some kind
  pub is_given : gives ≡ Some kind

-- ---- new objects, arrays and casts

pub record NewFact (code : Code) (b c : ℕ) (sig : Signature) (id : ℕ) (arguments : List ℕ) (gives : Option Kind) : Type 0 where
  pub class : ℕ
  pub is : binding code id ≡ ClassNamed class
  pub is_concrete : IsConcrete code.program class
  pub lies : LiesHere code.program class sig.runs_in
  pub reach : SlotsReach code.program class sig.runs_in
  pub kinds : List Kind
  pub arguments_are : HaveValues code.program b c id arguments kinds
  pub constructor : CallsConstructor code.program class sig.runs_in kinds
  pub is_given : gives ≡ Some (reference (ClassTy class) sig.runs_in)

pub record NewArrayFact (code : Code) (b c : ℕ) (sig : Signature) (id count : ℕ) (gives : Option Kind) : Type 0 where
  pub class : ℕ
  pub is : binding code id ≡ ClassNamed class
  pub slot : SlotKind
  pub elements : element_kind code.program class ≡ Some slot
  pub type : Ty
  pub is_type : array_type code.program class ≡ Some type
  pub lies : LiesHere code.program class sig.runs_in
  pub reach : SlotsReach code.program class sig.runs_in
  pub count_is : HasValue code.program b c id count (Some number)
  pub is_given : gives ≡ Some (reference type sig.runs_in)

pub record CastFact (code : Code) (b c id operand : ℕ) (gives : Option Kind) : Type 0 where
  pub class : ℕ
  pub is : binding code id ≡ ClassNamed class
  pub type : Ty
  pub scope : Scope
  pub operand_is : HasValue code.program b c id operand (Some (reference type scope))
  pub is_no_array : is_array type ≡ false
  pub seen : Scope
  pub lies : (scope ≡ Any) ⊎ (seen ≡ scope)
  pub is_given : gives ≡ Some (reference (ClassTy class) seen)
