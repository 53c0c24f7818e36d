-- What a body takes and gives, and where it runs, in its own scopes; and what a call finds.
use Rattle.std.specs.Prelude.{◌≡◌, ℕ, Bool, true, false, not, List, [], ◌∷◌, ◌++◌, ◌⊎◌, slice_get, Option, Some, None, codes}
use Rattle.scj_builtins.specs.Framework.{object, runnable}
use Rattle.scj_tree.specs.declared.nodes.Node.{Node}
use Rattle.scj_tree.specs.declared.nodes.Node.TheVariants.{Class, Method as MethodNode, Constructor}
use Rattle.scj_rules.specs.declared.typing.Ty.{Ty}
use Rattle.scj_rules.specs.declared.typing.Scope.{Scope}
use Rattle.scj_rules.specs.declared.typing.Scope.TheVariants.{This, Caller, In, Unknown}
use Rattle.scj_rules.specs.declared.views.Body.{Body}
use Rattle.scj_rules.specs.declared.views.Body.TheVariants.{Written, Empty}
use Rattle.scj_rules.specs.declared.views.WrittenType.{WrittenType}
use Rattle.scj_rules.specs.declared.views.WrittenType.TheVariants.{Long as long_type}
use Rattle.scj_rules.specs.Definitions.{read}
use Rattle.scj_rules.specs.Words.{is_among, ◌>>=◌}
use Rattle.scj_rules.specs.Views.{method_at}
use Rattle.scj_rules.specs.Classes.{is_sub}
use Rattle.scj_rules.specs.Contexts.{Declarations, is_static_member, parameter_nodes}
use Rattle.scj_rules.specs.LimitRules.{variables_of}
use Rattle.scj_rules.specs.StaticScopes.{this_in, current_in}
use Rattle.scj_rules.specs.ScopeRules.{immortal_scope, is_outer, defined_by_chain}
use Rattle.scj_rules.specs.Types.{type_written, kind_is, is_concrete, constructor_in}
use Rattle.scj_rules.specs.AnnotationRules.{result_scope}
use Rattle.scj_rules.specs.Bodies.{body_named, body_of, class_of_body}
use Rattle.accepted_laws.specs.Kinds.{Kind, number, reference, kind_of, kind_of_variable, Fits, seen_as, seen_kinds}
use Rattle.accepted_laws.specs.Sorts.{is_class}
use Rattle.accepted_laws.specs.Variables.{parameter_list}
use Rattle.scope_flow.specs.Slots.{kind_of_slot}

-- ---- what bodies take and give

pub record Signature : Type 0 where
  pub takes : List Kind
  pub gives : Option Kind
  pub runs_in : Scope

unfoldable pub kinds_of_variables : Declarations → List ℕ → Option (List Kind)
kinds_of_variables p [] = Some []
kinds_of_variables p (v ∷ vs) =
    kind_of_variable p v >>= (λ k. kinds_of_variables p vs >>= (λ ks. Some (k ∷ ks)))

-- the parameters of a body, by their nodes; none of an unwritten constructor
unfoldable pub parameters_of : Declarations → ℕ → List ℕ
parameters_of p b =
    elim (read p.nodes parameter_list b >>= read p.nodes parameter_nodes) [ None ↦ [] | Some list ↦ list ]

-- what a result gives; those of the size methods are numbers
unfoldable pub kind_of_result : Declarations → WrittenType → Option Scope → Option Kind
kind_of_result p long_type s = Some number
kind_of_result p t s = kind_of (type_written p.names t) s

-- what a body gives: nothing where it is a constructor's
unfoldable pub kind_given : Declarations → ℕ → ℕ → Option Kind
kind_given p class b =
    elim (method_at p.nodes b) [
      | None ↦ None
      | Some m ↦ kind_of_result p m.declared.declared_type (result_scope p class m)
    ]

-- the node has a body that may run
unfoldable pub may_run : Node → Bool
may_run (MethodNode position name flags result_type parameters (Some body)) = true
may_run (Constructor position name flags parameters super_call body) = true
may_run (Class position name flags header members) = true
may_run _ = false

-- a written body, the class in which it stands, and its signature. A class is the body of its own constructor where none
-- is written in it (JLS 8.8.9)
pub record IsBody (p : Declarations) (b class : ℕ) (sig : Signature) : Type 0 where
  pub node : Node
  pub is_there : slice_get p.nodes b ≡ Some node
  pub runs : may_run node ≡ true
  pub unwritten : is_class node ≡ true → constructor_in p.classes class ≡ None
  pub is_class : class_of_body p b ≡ Some class
  pub gives : kind_given p class b ≡ sig.gives
  pub more : List ℕ
  pub variables : variables_of p b ≡ parameters_of p b ++ more
  pub first : (i v : ℕ) → slice_get (variables_of p b) i ≡ Some v → is_among v (parameters_of p b) ≡ true →
      slice_get (parameters_of p b) i ≡ Some v
  pub takes : kinds_of_variables p (parameters_of p b) ≡ Some sig.takes
  pub runs_in : current_in p class b ≡ Some sig.runs_in
  pub home : Scope
  pub is_home : this_in p class ≡ Some home

-- the empty body of the framework is called on an object of any class, and runs where it is called
abbrev pub empty_signature : Signature
empty_signature = record { takes = []; gives = None; runs_in = Caller }

unfoldable pub Runs : Declarations → Body → ℕ → Signature → Type 0
Runs p (Written b) class sig = IsBody p b class sig
Runs p Empty class sig = (class ≡ object) × (sig ≡ empty_signature)

-- the variables of a body, and whether it runs for an object
abbrev pub variables_in : Declarations → Body → List ℕ
variables_in p (Written b) = variables_of p b
variables_in p Empty = []

abbrev pub runs_for_object : Declarations → Body → Bool
runs_for_object p (Written b) = not (is_static_member p.nodes b)
runs_for_object p Empty = false

-- ---- what is called on an object of a class

-- a result is never said to be unknown
abbrev pub IsKnownResult : Kind → Type 0
IsKnownResult (reference t Unknown) = ⊥
IsKnownResult _ = Unit {0}

-- what an override gives fits what is said of the method above
abbrev pub Gives : Declarations → Scope → Option Kind → Option Kind → Type 0
Gives p home (Some j) (Some k) = Fits p home Caller j k × IsKnownResult k
Gives p home None None = Unit {0}
Gives p home _ _ = ⊥

-- objects are made of the class
abbrev pub IsConcrete : Declarations → ℕ → Type 0
IsConcrete p class = kind_is is_concrete p class ≡ true

-- a body of the class or of one above it
pub record IsInherited (p : Declarations) (class body : ℕ) : Type 0 where
  pub on : ℕ
  pub above : is_sub p.classes class on ≡ true
  pub sig : Signature
  pub is_body : IsBody p body on sig

-- the body that a call of a method of this signature runs for an object of a class. An override sees the signature with
-- THIS as its own class has it
pub record IsDispatched (p : Declarations) (class method : ℕ) (static : Signature) : Type 0 where
  pub body : ℕ
  pub is : body_of p class method ≡ Some (Written body)
  pub own : IsInherited p class body
  pub takes : own.sig.takes ≡ seen_kinds own.is_body.home Caller static.takes
  pub gives : Gives p own.is_body.home own.sig.gives static.gives
  pub runs : own.sig.runs_in ≡ seen_as own.is_body.home Caller static.runs_in

-- the body of `run` for an object of a class: it takes and gives nothing
pub record HasRun (p : Declarations) (class : ℕ) : Type 0 where
  pub body : ℕ
  pub is : body_named p class (codes "run") ≡ Some (Written body)
  pub own : IsInherited p class body
  pub takes : own.sig.takes ≡ []
  pub gives : own.sig.gives ≡ None

-- `run` in the private memory that an object of the class defines
pub record IsEntered (p : Declarations) (class scope : ℕ) : Type 0 where
  pub defines : defined_by_chain p class ≡ Some scope
  pub run : HasRun p class
  pub is_runnable : is_sub p.classes class runnable ≡ true
  pub runs : (run.own.sig.runs_in ≡ Caller) ⊎ (run.own.sig.runs_in ≡ In scope)

-- `run` in an area of a named scope
pub record IsExecuted (p : Declarations) (class scope : ℕ) : Type 0 where
  pub run : HasRun p class
  pub runs : run.own.sig.runs_in ≡ In scope

-- a scope doesn't speak of an object that there isn't
abbrev pub IsWithoutThis : Scope → Type 0
IsWithoutThis This = ⊥
IsWithoutThis _ = Unit {0}

abbrev pub AreWithoutThis : List Kind → Type 0
AreWithoutThis [] = Unit {0}
AreWithoutThis (reference t s ∷ ks) = IsWithoutThis s × AreWithoutThis ks
AreWithoutThis (k ∷ ks) = AreWithoutThis ks

-- ---- new objects and arrays of a class, where a scope is current

-- they lie in the current scope
abbrev pub LiesHere : Declarations → ℕ → Scope → Type 0
LiesHere p class now = (home : Scope) → this_in p class ≡ Some home → (home ≡ This) ⊎ (home ≡ now)

-- the scopes that their slots name lie around the current one
abbrev pub LiesAround : Declarations → ℕ → Scope → Type 0
LiesAround p n now = (n ≡ immortal_scope) ⊎ ((s : ℕ) × (now ≡ In s) × (is_outer p n s ≡ true))

abbrev pub SlotsReach : Declarations → ℕ → Scope → Type 0
SlotsReach p class now =
    (slot : ℕ) (t : Ty) (n : ℕ) → kind_of_slot p class slot ≡ Some (reference t (In n)) → LiesAround p n now
