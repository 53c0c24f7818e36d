-- What the calls of an accepted program have: the receiver, the method, where it runs, and arguments that fit (JLS 15.12).
use Rattle.std.specs.Prelude.{◌≡◌, ◌⊎◌, ◌<◌, ℕ, true, false, not, length, List, [], ◌∷◌, map, Option, Some, None}
use Rattle.scj_rules.specs.declared.typing.Binding.TheVariants.{Method as MethodCalled, Class as ClassNamed}
use Rattle.scj_rules.specs.declared.typing.Scope.{Scope}
use Rattle.scj_rules.specs.declared.typing.Scope.TheVariants.{This, Caller, In}
use Rattle.scj_rules.specs.declared.typing.Ty.{Ty}
use Rattle.scj_rules.specs.declared.typing.Ty.TheVariants.{Class as ClassTy}
use Rattle.scj_rules.specs.declared.views.Declared.{Declared}
use Rattle.scj_rules.specs.declared.views.WrittenType.TheVariants.{Void as void_type}
use Rattle.scj_rules.specs.Classes.{FoundMethod, class_number, is_user_class, method_named, method_number}
use Rattle.scj_rules.specs.ClassRules.{is_same_type}
use Rattle.scj_rules.specs.Contexts.{Declarations}
use Rattle.scj_rules.specs.StaticScopes.{this_in, runs_in, current_in, constructor_parameter_scope}
use Rattle.scj_rules.specs.Types.{all_types, accepts_arguments, has_form, constructor_parameters, kind_is, is_concrete}
use Rattle.scj_rules.specs.TypeRules.{declared_type_of}
use Rattle.scj_rules.specs.ScopeRules.{defined_by_chain, parent_scope}
use Rattle.scj_rules.specs.UseRules.{run_of}
use Rattle.accepted_laws.specs.Judgements.{type_at_node, scope_at_node, binding_at_node, OwnObject}
use Rattle.accepted_laws.specs.Kinds.{Kind, reference, kind_of, seen_kinds, seen_option, RunsHere}
use Rattle.accepted_laws.specs.Overriding.{IsUserMethod}
use Rattle.accepted_facts.specs.Expressions.{Operand, Operands}
use Rattle.accepted_facts.specs.Methods.{Takes, kind_given}
use Rattle.accepted_facts.specs.Statements.{FitsAsSeen}

-- as many values as are expected, each of which fits
abbrev pub AllFitAsSeen : Declarations → List Kind → List Kind → Type 0
AllFitAsSeen p [] [] = Unit {0}
AllFitAsSeen p (j ∷ js) (k ∷ ks) = FitsAsSeen p j k × AllFitAsSeen p js ks
AllFitAsSeen p [] (k ∷ ks) = ⊥
AllFitAsSeen p (j ∷ js) [] = ⊥

-- the object on which a method is called: the own one, or one before a dot
abbrev pub IsReceiver : Declarations → ℕ → ℕ → ℕ → Option ℕ → ℕ → Scope → Type 0
IsReceiver p b c id None class scope = (own : OwnObject p b c) × (class ≡ c) × (scope ≡ own.home)
IsReceiver p b c id (Some object) class scope = Operand p b c id object (reference (ClassTy class) scope)

-- arguments fit what is taken, as one sees it for whom THIS and CALLER are these scopes
pub record Passes (p : Declarations) (b c id : ℕ) (arguments : List ℕ) (home now : Scope) (taken : List Kind) : Type 0 where
  pub given : List Kind
  pub operands : Operands p b c id arguments given
  pub fit : AllFitAsSeen p given (seen_kinds home now taken)

-- a call of a user's method on an object
pub record CallFacts (p : Declarations) (b c id : ℕ) (object : Option ℕ) (arguments : List ℕ) (f : FoundMethod) (o : Option Kind) :
    Type 0 where
  pub now : Scope
  pub is_now : current_in p c b ≡ Some now
  pub class : ℕ
  pub scope : Scope
  pub receiver : IsReceiver p b c id object class scope
  pub named : method_named p.classes class f.method.declared.name ≡ Some f
  pub is_user : IsUserMethod p f
  pub n : ℕ
  pub numbered : method_number p.nodes p.users f.method.declared.node ≡ Some n
  pub binding :
      binding_at_node p id
      ≡ MethodCalled (record { id = n; on = class; gives = not (is_same_type f.method.declared.declared_type void_type) })
  pub runs : Scope
  pub is_runs : runs_in p f.on f.method ≡ Some runs
  pub runs_here : RunsHere scope now runs
  pub taken : List Kind
  pub takes : Takes p f taken
  pub passes : Passes p b c id arguments scope now taken
  pub gives : o ≡ seen_option scope now (kind_given p f)

-- ---- new objects (JLS 15.9)

-- the kind of a parameter of a class's constructor, for the object that it constructs
unfoldable pub kind_of_constructor_parameter : Declarations → ℕ → Declared → Option Kind
kind_of_constructor_parameter p class d = kind_of (declared_type_of p d) (constructor_parameter_scope p class d)

-- the constructor of a class takes values of these kinds
pub record ConstructorTakes (p : Declarations) (class : ℕ) (kinds : List Kind) : Type 0 where
  pub are : map (kind_of_constructor_parameter p class) (constructor_parameters p.classes class) ≡ map (λ (k : Kind). Some k) kinds

-- what is passed to the constructor of a class that runs in this scope
pub record PassesToConstructor (p : Declarations) (b c id class : ℕ) (arguments : List ℕ) (home : Scope) : Type 0 where
  pub taken : List Kind
  pub takes : ConstructorTakes p class taken
  pub passes : Passes p b c id arguments home home taken

-- a `new`: an object of a concrete class in the current scope, which is the class's own where it has one
pub record NewFacts (p : Declarations) (b c id : ℕ) (name arguments : List ℕ) (k : Kind) : Type 0 where
  pub now : Scope
  pub is_now : current_in p c b ≡ Some now
  pub class : ℕ
  pub named : class_number p.names name ≡ Some class
  pub is_class : class < length p.classes
  pub concrete : kind_is is_concrete p class ≡ true
  pub binding : binding_at_node p id ≡ ClassNamed class
  pub lies : (this_in p class ≡ Some This) ⊎ (this_in p class ≡ Some now)
  pub passes : is_user_class class ≡ true → PassesToConstructor p b c id class arguments now
  pub gives : k ≡ reference (ClassTy class) now

-- ---- calls of the framework's methods (JSR 302)

-- a call of any method: its arguments have types that the method's parameters take
pub record ArgumentFacts (p : Declarations) (id : ℕ) (arguments : List ℕ) (f : FoundMethod) : Type 0 where
  pub types : List Ty
  pub typed : all_types (type_at_node p) arguments ≡ Some types
  pub accepts : accepts_arguments p f.method.parameters types ≡ true

-- `enterPrivateMemory`: the object is of a user class whose chain defines a scope; that scope's parent is the current one,
-- and a user's `run` of the class runs there or in CALLER
pub record EnterFacts (p : Declarations) (b c id r : ℕ) : Type 0 where
  pub now : Scope
  pub is_now : current_in p c b ≡ Some now
  pub class : ℕ
  pub is_user : is_user_class class ≡ true
  pub scope : Scope
  pub object_is : Operand p b c id r (reference (ClassTy class) scope)
  pub entered : ℕ
  pub defined : defined_by_chain p class ≡ Some entered
  pub parent : (m : ℕ) → parent_scope p entered ≡ Some m → now ≡ In m
  pub runs : (f : FoundMethod) (s : Scope) → run_of p class ≡ Some f → runs_in p f.on f.method ≡ Some s →
      (s ≡ Caller) ⊎ (s ≡ In entered)

-- `executeInAreaOf`: the object r has a user's `run`, and the object o lies in a named scope, where that runs
pub record ExecuteFacts (p : Declarations) (b c id o r : ℕ) : Type 0 where
  pub class : ℕ
  pub scope : Scope
  pub object_is : Operand p b c id r (reference (ClassTy class) scope)
  pub run : FoundMethod
  pub is_run : run_of p class ≡ Some run
  pub area : (s : Scope) → scope_at_node p o ≡ Some s →
      (n : ℕ) × (s ≡ In n) × (runs_in p run.on run.method ≡ Some (In n))

-- ---- calls of a superclass's constructor (JLS 8.8.7.1)

-- a super call stands in a class with this superclass. Where no form is due, its arguments fit the parameters of the
-- superclass's constructor, which constructs the same object
pub record SuperCallFacts (p : Declarations) (b c id superclass : ℕ) (arguments : List ℕ) : Type 0 where
  pub binding : binding_at_node p id ≡ ClassNamed superclass
  pub home : Scope
  pub is_home : this_in p c ≡ Some home
  pub passes : has_form superclass ≡ false → PassesToConstructor p b c id superclass arguments home
