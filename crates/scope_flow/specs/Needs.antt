-- What operations need and leave: of values, variables, operators, and of new objects. What an operation needs is a
-- record, of the operands that are there and of those that it leaves.
use Rattle.std.specs.Prelude.{◌≡◌, ℕ, zero, suc, ◌<◌, ◌==◌, ◌||◌, Bool, true, false, ◌⊎◌, List, [], ◌∷◌, length, slice_get, Option, Some, None, if◌then◌else◌, is_some}
use Rattle.scj_base.specs.Vocabulary.{sign_equal, sign_not_equal, sign_minus, sign_not, sign_tilde}
use Rattle.scj_builtins.specs.Framework.{mission_sequencer, periodic_handler}
use Rattle.scj_base.specs.declared.positions.Position.{Position}
use Rattle.scj_tree.specs.declared.nodes.Node.{Node}
use Rattle.scj_tree.specs.declared.nodes.Node.TheVariants.{Assign, Constructor, SuperCall}
use Rattle.scj_rules.specs.declared.typing.Ty.{Ty}
use Rattle.scj_rules.specs.declared.typing.Ty.TheVariants.{Class as ClassTy}
use Rattle.scj_rules.specs.declared.typing.Scope.{Scope}
use Rattle.scj_rules.specs.declared.typing.Scope.TheVariants.{This, Caller, In}
use Rattle.scj_rules.specs.declared.views.Body.{Body}
use Rattle.scj_rules.specs.declared.views.Body.TheVariants.{Written, Empty}
use Rattle.scj_rules.specs.declared.views.SlotKind.{SlotKind}
use Rattle.scj_rules.specs.Words.{is_among, ◌>>=◌}
use Rattle.scj_rules.specs.Classes.{is_sub, is_user_class, hidden_fields}
use Rattle.scj_rules.specs.Contexts.{Declarations, known_variables}
use Rattle.scj_rules.specs.Guards.{is_guarded_store}
use Rattle.scj_rules.specs.StaticScopes.{this_in}
use Rattle.scj_rules.specs.Layout.{element_kind, literal_written}
use Rattle.scj_rules.specs.Bodies.{constructor_body}
use Rattle.scj_rules.specs.Types.{has_form}
use Rattle.accepted_laws.specs.Kinds.{Kind, number, truth, yes, reference, fresh, kind_of_variable, seen_kind, unscoped, Fits, AllFit}
use Rattle.accepted_laws.specs.Judgements.{type_at_node, Judged, Inside, Among}
use Rattle.accepted_laws.specs.Sorts.{is_statement}
use Rattle.scj_model.specs.Code.{Code, binding, part}
use Rattle.scj_model.specs.Ops.{right_operand}
use Rattle.scj_model.specs.Operations.{bound_local, bound_field, bound_static, bound_class, operator_of, argument_count, super_count}
use Rattle.scj_model.specs.Arithmetic.{entry, int_operators, comparisons}
use Rattle.scope_flow.specs.Slots.{array_type, kind_of_elements, kind_of_slot, HasField, HasStatic, kind_of_literal}
use Rattle.scope_flow.specs.Pushers.{IsScopeOfExpression, IsKindOfExpression}
use Rattle.scope_flow.specs.Signatures.{Signature, Runs, variables_in, runs_for_object, IsConcrete, LiesHere, SlotsReach}

-- what has no nodes of its own has no parts
abbrev pub InNode : Body → (ℕ → Type 0) → Type 0
InNode (Written b) P = P b
InNode Empty P = ⊥

-- ---- operands: the last one is first

unfoldable pub pushed : Option Kind → List Kind → List Kind
pushed None s = s
pushed (Some k) s = k ∷ s

-- the operands behind these arguments
abbrev pub stacked : List Kind → List Kind → List Kind
stacked [] s = s
stacked (k ∷ ks) s = stacked ks (k ∷ s)

abbrev pub numbers : ℕ → List Kind
numbers zero = []
numbers (suc n) = number ∷ numbers n

-- ---- values, variables, fields and elements

-- the literal true may be taken for any truth value
abbrev pub Loosely : Kind → Kind → Type 0
Loosely j k = (j ≡ k) ⊎ ((j ≡ yes) × (k ≡ truth))

pub record PushNeeds (code : Code) (id : ℕ) (s out : List Kind) : Type 0 where
  pub exact : Kind
  pub is : part code kind_of_literal id ≡ Some exact
  pub kind : Kind
  pub loose : Loosely exact kind
  pub by_expression : IsKindOfExpression code.program id kind
  pub leaves : out ≡ kind ∷ s

-- the object of a body, which is never null
pub record ThisNeeds (code : Code) (body : Body) (class : ℕ) (s out : List Kind) : Type 0 where
  pub for_object : runs_for_object code.program body ≡ true
  pub home : Scope
  pub is_home : this_in code.program class ≡ Some home
  pub kind : Kind
  pub loose : (kind ≡ fresh class home) ⊎ (kind ≡ reference (ClassTy class) home)
  pub leaves : out ≡ kind ∷ s

-- the variable of a number in a body
pub record IsVariable (p : Declarations) (body : Body) (k v : ℕ) : Type 0 where
  pub is_there : slice_get (variables_in p body) k ≡ Some v
  pub only : (j : ℕ) → slice_get (variables_in p body) j ≡ Some v → j ≡ k
  pub kind : Kind
  pub is_kind : kind_of_variable p v ≡ Some kind

pub record LoadNeeds (code : Code) (body : Body) (id : ℕ) (known : List ℕ) (s out : List Kind) : Type 0 where
  pub local : ℕ
  pub is : bound_local (binding code id) ≡ Some local
  pub variable : ℕ
  pub is_variable : IsVariable code.program body local variable
  pub is_set : is_among variable known ≡ true
  pub by_expression : IsKindOfExpression code.program id is_variable.kind
  pub leaves : out ≡ is_variable.kind ∷ s

pub record GetNeeds (code : Code) (id : ℕ) (s out : List Kind) : Type 0 where
  pub field : ℕ
  pub is : bound_field (binding code id) ≡ Some field
  pub class : ℕ
  pub scope : Scope
  pub others : List Kind
  pub takes : s ≡ reference (ClassTy class) scope ∷ others
  pub has : HasField code.program class field
  pub by_expression : IsKindOfExpression code.program id (seen_kind scope Caller has.kind)
  pub leaves : out ≡ seen_kind scope Caller has.kind ∷ others

pub record GetStaticNeeds (code : Code) (id : ℕ) (s out : List Kind) : Type 0 where
  pub field : ℕ
  pub is : bound_static (binding code id) ≡ Some field
  pub has : HasStatic code.program field
  pub by_expression : IsKindOfExpression code.program id has.kind
  pub leaves : out ≡ has.kind ∷ s

pub record LengthNeeds (s out : List Kind) : Type 0 where
  pub type : Ty
  pub scope : Scope
  pub others : List Kind
  pub takes : s ≡ reference type scope ∷ others
  pub leaves : out ≡ number ∷ others

pub record ElemNeeds (p : Declarations) (id : ℕ) (s out : List Kind) : Type 0 where
  pub type : Ty
  pub scope : Scope
  pub others : List Kind
  pub takes : s ≡ number ∷ (reference type scope ∷ others)
  pub kind : Kind
  pub elements : kind_of_elements p type ≡ Some kind
  pub by_expression : IsKindOfExpression p id (seen_kind scope Caller kind)
  pub leaves : out ≡ seen_kind scope Caller kind ∷ others

-- ---- fields

-- the scope of a field of a class is where the object lies: THIS, or the one scope in which all objects of the class lie,
-- or all that the field may refer to
unfoldable pub LiesWithObject : Declarations → ℕ → Kind → Type 0
LiesWithObject p class (reference t This) = Unit {0}
LiesWithObject p class (reference t (In n)) =
    (this_in p class ≡ Some (In n)) ⊎ ((c : ℕ) × (t ≡ ClassTy c) × (this_in p c ≡ Some (In n)))
LiesWithObject p class _ = ⊥

-- a node is an assignment that a guard allows
pub record IsGuardedAssign (p : Declarations) (id : ℕ) : Type 0 where
  pub position : Position
  pub target : ℕ
  pub value : ℕ
  pub is_there : slice_get p.nodes id ≡ Some (Assign position target value)
  pub is_guarded : is_guarded_store p (type_at_node p) id target value ≡ true

-- a value may be stored in a field of this kind of an object of the class, which lies in the scope `home`: it fits, or a
-- guard allows the store, and the field's scope is where the object lies
abbrev pub FieldTakes : Declarations → ℕ → ℕ → Scope → Kind → Kind → Type 0
FieldTakes p id class home value place =
    Fits p home Caller value place
    ⊎ (Fits p home Caller value (unscoped place) × LiesWithObject p class place × IsGuardedAssign p id)

-- ---- operators

unfoldable pub kind_of_unary : ℕ → Kind → Option Kind
kind_of_unary operator number = if (operator == sign_minus) || (operator == sign_tilde) then Some number else None
kind_of_unary operator truth = if operator == sign_not then Some truth else None
kind_of_unary operator _ = None

unfoldable pub kind_of_ints : ℕ → Option Kind
kind_of_ints operator =
    if is_some (entry int_operators operator) then Some number
    else (if is_some (entry comparisons operator) then Some truth else None)

abbrev pub is_equality : ℕ → Bool
is_equality operator = is_among operator (sign_equal ∷ sign_not_equal ∷ [])

abbrev pub kind_of_equality : ℕ → Option Kind
kind_of_equality operator = if is_equality operator then Some truth else None

unfoldable pub kind_of_binary : ℕ → Kind → Kind → Option Kind
kind_of_binary operator number number = if is_equality operator then Some truth else kind_of_ints operator
kind_of_binary operator truth truth = kind_of_equality operator
kind_of_binary operator (reference t s) (reference u r) = kind_of_equality operator
kind_of_binary operator _ _ = None

pub record UnaryNeeds (code : Code) (id : ℕ) (s out : List Kind) : Type 0 where
  pub operator : ℕ
  pub is : part code operator_of id ≡ Some operator
  pub operand : Kind
  pub others : List Kind
  pub takes : s ≡ operand ∷ others
  pub kind : Kind
  pub gives : kind_of_unary operator operand ≡ Some kind
  pub leaves : out ≡ kind ∷ others

pub record BinNeeds (code : Code) (id : ℕ) (s out : List Kind) : Type 0 where
  pub operator : ℕ
  pub is : part code operator_of id ≡ Some operator
  pub left : Kind
  pub right : Kind
  pub others : List Kind
  pub takes : s ≡ right ∷ (left ∷ others)
  pub kind : Kind
  pub gives : kind_of_binary operator left right ≡ Some kind
  pub leaves : out ≡ kind ∷ others

-- a value that is used in the same body fits a place there
pub record TakesTruth (p : Declarations) (s others : List Kind) : Type 0 where
  pub kind : Kind
  pub takes : s ≡ kind ∷ others
  pub fits : Fits p This Caller kind truth

-- ---- parts that are put in front of the rest

-- an expression of a kind, where these variables are set
pub record IsValuePart (p : Declarations) (b c : ℕ) (known : List ℕ) (id : ℕ) (kind : Kind) : Type 0 where
  pub inside : Inside p b c id
  pub judged : Judged p id (Some kind)
  pub are_set : Among (known_variables p id) known

pub record IsStatement (p : Declarations) (b c id : ℕ) : Type 0 where
  pub node : Node
  pub is_there : slice_get p.nodes id ≡ Some node
  pub is_statement : is_statement node ≡ true
  pub inside : Inside p b c id

pub record IsStatementPart (p : Declarations) (b c : ℕ) (known : List ℕ) (id : ℕ) : Type 0 where
  pub is : IsStatement p b c id
  pub are_set : Among (known_variables p id) known

abbrev pub IsOptionPart : Declarations → ℕ → ℕ → List ℕ → Option ℕ → Type 0
IsOptionPart p b c known None = Unit {0}
IsOptionPart p b c known (Some id) = IsStatementPart p b c known id

-- the right operand of `&&` and `||`
pub record ShortNeeds (code : Code) (b c id : ℕ) (known : List ℕ) (s out : List Kind) : Type 0 where
  pub right : ℕ
  pub is : part code right_operand id ≡ Some right
  pub others : List Kind
  pub left : TakesTruth code.program s others
  pub right_part : IsValuePart code.program b c known right truth
  pub leaves : out ≡ truth ∷ others

-- ---- new objects and arrays

-- the node is one of the body
pub record AllocNeeds (code : Code) (body : Body) (c : ℕ) (sig : Signature) (id : ℕ) (s out : List Kind) : Type 0 where
  pub inside : InNode body (λ b. Inside code.program b c id)
  pub class : ℕ
  pub is : bound_class (binding code id) ≡ Some class
  pub is_concrete : IsConcrete code.program class
  pub lies : LiesHere code.program class sig.runs_in
  pub reach : SlotsReach code.program class sig.runs_in
  pub by_expression : IsScopeOfExpression code.program id sig.runs_in
  pub leaves : out ≡ fresh class sig.runs_in ∷ s

-- a constructor that is called on an object of this scope: it runs where its own object lies
pub record CallsConstructor (p : Declarations) (class : ℕ) (home : Scope) (arguments : List Kind) : Type 0 where
  pub body : Body
  pub is : constructor_body p class ≡ Some body
  pub sig : Signature
  pub runs : Runs p body class sig
  pub gives_nothing : sig.gives ≡ None
  pub runs_in_home : (sig.runs_in ≡ Caller) ⊎ (this_in p class ≡ Some sig.runs_in)
  pub fit : AllFit p home home arguments sig.takes

pub record ConstructNeeds (code : Code) (sig : Signature) (id : ℕ) (s out : List Kind) : Type 0 where
  pub class : ℕ
  pub is : bound_class (binding code id) ≡ Some class
  pub arguments : List Kind
  pub count : part code argument_count id ≡ Some (length arguments)
  pub others : List Kind
  pub takes : s ≡ stacked arguments (fresh class sig.runs_in ∷ others)
  pub constructor : CallsConstructor code.program class sig.runs_in arguments
  pub by_expression : IsScopeOfExpression code.program id sig.runs_in
  pub leaves : out ≡ reference (ClassTy class) sig.runs_in ∷ others

pub record SuperNeeds (code : Code) (class : ℕ) (sig : Signature) (id : ℕ) (s out : List Kind) : Type 0 where
  pub superclass : ℕ
  pub is : bound_class (binding code id) ≡ Some superclass
  pub arguments : List Kind
  pub count : super_count code id ≡ length arguments
  pub above : is_sub code.program.classes class superclass ≡ true
  pub own : this_in code.program class ≡ Some sig.runs_in
  pub takes : s ≡ stacked arguments (fresh class sig.runs_in ∷ out)
  pub constructor : CallsConstructor code.program superclass sig.runs_in arguments

pub record AllocArrayNeeds (code : Code) (sig : Signature) (id : ℕ) (s out : List Kind) : Type 0 where
  pub class : ℕ
  pub is : bound_class (binding code id) ≡ Some class
  pub slot : SlotKind
  pub elements : element_kind code.program class ≡ Some slot
  pub type : Ty
  pub is_type : array_type code.program class ≡ Some type
  pub lies : LiesHere code.program class sig.runs_in
  pub reach : SlotsReach code.program class sig.runs_in
  pub others : List Kind
  pub takes : s ≡ number ∷ others
  pub by_expression : IsScopeOfExpression code.program id sig.runs_in
  pub leaves : out ≡ reference type sig.runs_in ∷ others

-- the literal of a field of the object that is constructed
pub record InitNeeds (code : Code) (body : Body) (class : ℕ) (id : ℕ) (s out : List Kind) : Type 0 where
  pub for_object : runs_for_object code.program body ≡ true
  pub home : Scope
  pub is_home : this_in code.program class ≡ Some home
  pub literal : Kind
  pub is_literal : part code literal_written id >>= part code kind_of_literal ≡ Some literal
  pub field : ℕ
  pub is : bound_field (binding code id) ≡ Some field
  pub has : HasField code.program class field
  pub fit : Fits code.program home Caller literal has.kind
  pub leaves : out ≡ s

-- how many numbers are read of a form, and how many of them become hidden slots
unfoldable pub parameter_count : ℕ → ℕ
parameter_count superclass = if superclass == periodic_handler then 6 else 2

unfoldable pub hidden_count : ℕ → ℕ
hidden_count superclass =
    if superclass == periodic_handler then 4 else (if superclass == mission_sequencer then 0 else 2)

-- each object of the class and of those under it has so many hidden slots
abbrev pub HasHidden : Declarations → ℕ → ℕ → Type 0
HasHidden p class count =
    (c slot : ℕ) → c < length p.classes → is_sub p.classes c class ≡ true → slot < count →
    (slot < hidden_fields p.classes c) × (kind_of_slot p c slot ≡ Some number)

-- the super call with which a constructor begins, where it is written
unfoldable pub super_call_of : Node → Option ℕ
super_call_of (Constructor position name flags parameters super_call body) = super_call
super_call_of _ = None

pub record IsSuperCall (p : Declarations) (b id : ℕ) : Type 0 where
  pub node : Node
  pub is_body : slice_get p.nodes b ≡ Some node
  pub is_call : super_call_of node ≡ Some id
  pub position : Position
  pub arguments : List ℕ
  pub is_there : slice_get p.nodes id ≡ Some (SuperCall position arguments)

pub record ParamsNeeds (code : Code) (body : Body) (class : ℕ) (id : ℕ) (s out : List Kind) : Type 0 where
  pub is_written : InNode body (λ b. IsSuperCall code.program b id)
  pub for_object : runs_for_object code.program body ≡ true
  pub superclass : ℕ
  pub is : bound_class (binding code id) ≡ Some superclass
  pub framework : is_user_class superclass ≡ false
  pub form : has_form superclass ≡ true
  pub hidden : HasHidden code.program class (hidden_count superclass)
  pub takes : s ≡ stacked (numbers (parameter_count superclass)) out
