-- What an expression of an accepted program has, kind by kind: its operands with their kinds, what it stands for, and its own
-- kind.
use Rattle.std.specs.Prelude.{◌≡◌, ◌⊎◌, ◌||◌, ℕ, true, false, List, [], ◌∷◌, Some, slice_get}
use Rattle.scj_base.specs.Vocabulary.{sign_not}
use Rattle.scj_rules.specs.declared.typing.Binding.TheVariants.{Local as LocalVariable, Field as InstanceField, Static, Length, Class as ClassNamed}
use Rattle.scj_rules.specs.declared.scopes.ClassScope.TheVariants.{Annotated as annotated}
use Rattle.scj_rules.specs.declared.typing.FoundField.{FoundField}
use Rattle.scj_rules.specs.declared.typing.Meaning.TheVariants.{Field as MeansField}
use Rattle.scj_rules.specs.declared.typing.Scope.{Scope}
use Rattle.scj_rules.specs.declared.typing.Scope.TheVariants.{Caller, In}
use Rattle.scj_rules.specs.declared.typing.Ty.{Ty}
use Rattle.scj_rules.specs.declared.typing.Ty.TheVariants.{NullTy, Class as ClassTy}
use Rattle.scj_rules.specs.Words.{is_among, ◌>>=◌}
use Rattle.scj_rules.specs.Classes.{class_number, field_named, field_number}
use Rattle.scj_rules.specs.Contexts.{Declarations, known_variables}
use Rattle.scj_rules.specs.LimitRules.{variables_of}
use Rattle.scj_rules.specs.ScopeRules.{immortal_scope, is_outer}
use Rattle.scj_rules.specs.StaticScopes.{class_scope, current_in, fits}
use Rattle.scj_rules.specs.Types.{is_array, meaning, receiver, accessed_field, assigns, element_type, array_of, conditional_operators, relational_operators, equality_operators}
use Rattle.scj_rules.specs.TypeRules.{written_type}
use Rattle.scj_rules.specs.UseRules.{scope_of_element, scope_in_class}
use Rattle.accepted_laws.specs.Judgements.{type_at_node, scope_at_node, binding_at_node, Judged, Child, OwnObject}
use Rattle.accepted_laws.specs.Kinds.{Kind, number, truth, reference, kind_of, kind_of_variable, kind_of_field, seen_kind}

-- ---- operands

-- the node x is below the node id in the same body, and is an expression of the kind k
pub record Operand (p : Declarations) (b c id x : ℕ) (k : Kind) : Type 0 where
  pub child : Child p b c id x
  pub judged : Judged p x (Some k)

-- expressions of these kinds, in their order
abbrev pub Operands : Declarations → ℕ → ℕ → ℕ → List ℕ → List Kind → Type 0
Operands p b c id [] [] = Unit {0}
Operands p b c id (x ∷ xs) (k ∷ ks) = Operand p b c id x k × Operands p b c id xs ks
Operands p b c id [] (k ∷ ks) = ⊥
Operands p b c id (x ∷ xs) [] = ⊥

-- ---- fields

-- an instance field of a class, by its name: its number and its kind, as the class that declares it sees that
pub record InstanceFieldOf (p : Declarations) (class : ℕ) (name : List ℕ) (n : ℕ) (k : Kind) : Type 0 where
  pub field : FoundField
  pub named : field_named p.classes class name ≡ Some field
  pub plain : field.field.modifiers.is_static ≡ false
  pub numbered : field_number p.classes field.field.node ≡ Some n
  pub kind : kind_of_field p field.field ≡ Some k

-- a number, a truth value, or a reference in IMMORTAL
abbrev pub LiesInImmortal : Kind → Type 0
LiesInImmortal number = Unit {0}
LiesInImmortal truth = Unit {0}
LiesInImmortal (reference t s) = s ≡ In immortal_scope
LiesInImmortal _ = ⊥

-- a static field of a class, by its name
pub record StaticFieldOf (p : Declarations) (class : ℕ) (name : List ℕ) (n : ℕ) (k : Kind) : Type 0 where
  pub field : FoundField
  pub named : field_named p.classes class name ≡ Some field
  pub static : field.field.modifiers.is_static ≡ true
  pub numbered : field_number p.classes field.field.node ≡ Some n
  pub kind : kind_of_field p field.field ≡ Some k
  pub lies : LiesInImmortal k

-- ---- names (JLS 6.5.6)

-- a name stands for a local or a parameter that is in scope, by its number in the body
pub record IsLocal (p : Declarations) (b id : ℕ) (k : Kind) : Type 0 where
  pub variable : ℕ
  pub n : ℕ
  pub binding : binding_at_node p id ≡ LocalVariable n
  pub numbered : slice_get (variables_of p b) n ≡ Some variable
  pub known : is_among variable (known_variables p id) ≡ true
  pub kind : kind_of_variable p variable ≡ Some k

-- a name stands for a field of the object in whose body it stands
pub record IsOwnField (p : Declarations) (b c id : ℕ) (name : List ℕ) (k : Kind) : Type 0 where
  pub own : OwnObject p b c
  pub n : ℕ
  pub binding : binding_at_node p id ≡ InstanceField n
  pub declared : Kind
  pub field : InstanceFieldOf p c name n declared
  pub meant : meaning p id name ≡ MeansField field.field
  pub gives : k ≡ seen_kind own.home Caller declared

-- a name, or an access through the name of a class, stands for a static field of a class
pub record IsStaticField (p : Declarations) (class id : ℕ) (name : List ℕ) (k : Kind) : Type 0 where
  pub n : ℕ
  pub binding : binding_at_node p id ≡ Static n
  pub field : StaticFieldOf p class name n k

-- what a simple name that stands for a value has
abbrev pub NameFacts : Declarations → ℕ → ℕ → ℕ → List ℕ → Kind → Type 0
NameFacts p b c id name k = IsLocal p b id k ⊎ (IsOwnField p b c id name k ⊎ IsStaticField p c id name k)

-- ---- accesses (JLS 15.11, 10.7)

-- an access to a field of an object
pub record IsFieldOf (p : Declarations) (b c id object : ℕ) (name : List ℕ) (k : Kind) : Type 0 where
  pub class : ℕ
  pub scope : Scope
  pub operand : Operand p b c id object (reference (ClassTy class) scope)
  pub n : ℕ
  pub binding : binding_at_node p id ≡ InstanceField n
  pub declared : Kind
  pub field : InstanceFieldOf p class name n declared
  pub accessed : receiver p (type_at_node p) object >>= (λ r. accessed_field p r name) ≡ Some field.field
  pub gives : k ≡ seen_kind scope Caller declared

-- the length of an array
pub record IsLengthOf (p : Declarations) (b c id object : ℕ) (k : Kind) : Type 0 where
  pub array : Ty
  pub is_an_array : is_array array ≡ true
  pub scope : Scope
  pub operand : Operand p b c id object (reference array scope)
  pub binding : binding_at_node p id ≡ Length
  pub gives : k ≡ number

-- what a field access has
abbrev pub AccessFacts : Declarations → ℕ → ℕ → ℕ → ℕ → List ℕ → Kind → Type 0
AccessFacts p b c id object name k =
    IsFieldOf p b c id object name k
    ⊎ (IsLengthOf p b c id object k ⊎ ((class : ℕ) × IsStaticField p class id name k))

-- ---- operators (JLS 15.15 to 15.24)

-- the operator takes operands of the first two kinds, and gives one of the third
pub data Operates (operator : ℕ) : Kind → Kind → Kind → Type 0 where
  conditional : is_among operator conditional_operators ≡ true → Operates operator truth truth truth
  relational : is_among operator relational_operators ≡ true → Operates operator number number truth
  equality_of_numbers : is_among operator equality_operators ≡ true → Operates operator number number truth
  equality_of_truths : is_among operator equality_operators ≡ true → Operates operator truth truth truth
  equality_of_references : {t u : Ty} {s r : Scope} → is_among operator equality_operators ≡ true →
      Operates operator (reference t s) (reference u r) truth
  arithmetic : Operates operator number number number

-- what a binary expression has
pub record BinaryFacts (p : Declarations) (b c id operator left right : ℕ) (k : Kind) : Type 0 where
  pub first : Kind
  pub second : Kind
  pub left_operand : Operand p b c id left first
  pub right_operand : Operand p b c id right second
  pub operates : Operates operator first second k

-- what a unary expression has: `!` of a truth value, and the others of a number
pub record UnaryFacts (p : Declarations) (b c id operator operand : ℕ) (k : Kind) : Type 0 where
  pub operand_is : Operand p b c id operand k
  pub operates : ((operator ≡ sign_not) × (k ≡ truth)) ⊎ (k ≡ number)

-- ---- arrays (JLS 15.10, 15.13)

-- an element of an array: of class type it lies in its class's scope, or else where the array lies
pub record ElementFacts (p : Declarations) (b c id array index : ℕ) (k : Kind) : Type 0 where
  pub type : Ty
  pub scope : Scope
  pub array_is : Operand p b c id array (reference type scope)
  pub index_is : Operand p b c id index number
  pub gives : kind_of (element_type type) (scope_of_element p (Some scope) type) ≡ Some k

-- a new array of a type lies in the current scope; that of an annotated class's elements is around it
pub record NewArrayFacts (p : Declarations) (b c id element size : ℕ) (k : Kind) : Type 0 where
  pub now : Scope
  pub is_now : current_in p c b ≡ Some now
  pub size_is : Operand p b c id size number
  pub of : Ty
  pub is_element : written_type p element ≡ Some of
  pub array : Ty
  pub is_array_of : array_of of ≡ Some array
  pub outer : (class scope : ℕ) → of ≡ ClassTy class → class_scope p class ≡ annotated scope →
      (current : ℕ) × (now ≡ In current) × (is_outer p scope current ≡ true)
  pub gives : k ≡ reference array now

-- ---- casts (JLS 15.16)

-- a cast to a class: the operand is a reference of a related type, and lies where the class's objects lie, if these lie in
-- one scope. The value lies there, or else where the operand lies
pub record CastFacts (p : Declarations) (b c id : ℕ) (name : List ℕ) (operand : ℕ) (k : Kind) : Type 0 where
  pub class : ℕ
  pub named : class_number p.names name ≡ Some class
  pub binding : binding_at_node p id ≡ ClassNamed class
  pub type : Ty
  pub scope : Scope
  pub operand_is : Operand p b c id operand (reference type scope)
  pub is_null_or_there : (type ≡ NullTy) ⊎ (scope_at_node p operand ≡ Some scope)
  pub related : (assigns p.classes type (ClassTy class) || assigns p.classes (ClassTy class) type) ≡ true
  pub lies : (s : ℕ) → class_scope p class ≡ annotated s → fits scope (In s) ≡ true
  pub gives : kind_of (Some (ClassTy class)) (scope_in_class p class (scope_at_node p operand)) ≡ Some k
