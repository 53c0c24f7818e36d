-- What the methods of an accepted program take and give, and what a call of one runs (JLS 8.4.8, 15.12.4).
use Rattle.std.specs.Prelude.{◌≡◌, ◌⊎◌, ◌<◌, ℕ, true, List, length, map, Option, Some, is_some}
use Rattle.scj_rules.specs.declared.typing.Scope.{Scope}
use Rattle.scj_rules.specs.declared.typing.Scope.TheVariants.{Caller}
use Rattle.scj_rules.specs.declared.typing.Ty.TheVariants.{Class as ClassTy}
use Rattle.scj_rules.specs.declared.views.Declared.{Declared}
use Rattle.scj_rules.specs.Classes.{FoundMethod, is_sub, method_named}
use Rattle.scj_rules.specs.Contexts.{Declarations}
use Rattle.scj_rules.specs.StaticScopes.{this_in, parameter_scope}
use Rattle.scj_rules.specs.AnnotationRules.{result_scope}
use Rattle.scj_rules.specs.TypeRules.{declared_type_of}
use Rattle.accepted_laws.specs.Kinds.{Kind, reference, kind_of, seen_option}
use Rattle.accepted_laws.specs.Overriding.{IsUserMethod, RunsAs}

-- the kind of a parameter, of all parameters, and of the result. A result `void` or `long` has none
unfoldable pub kind_of_parameter : Declarations → FoundMethod → Declared → Option Kind
kind_of_parameter p f d = kind_of (declared_type_of p d) (parameter_scope p f.on f.method d)

unfoldable pub kinds_taken : Declarations → FoundMethod → List (Option Kind)
kinds_taken p f = map (kind_of_parameter p f) f.method.parameters

unfoldable pub kind_given : Declarations → FoundMethod → Option Kind
kind_given p f = kind_of (declared_type_of p f.method.declared) (result_scope p f.on f.method)

-- a method takes values of these kinds: none of them is missing
pub record Takes (p : Declarations) (f : FoundMethod) (kinds : List Kind) : Type 0 where
  pub are : kinds_taken p f ≡ map (λ (k : Kind). Some k) kinds

-- a method g takes what a method f takes, as its own class sees it: with its own scope for THIS
pub record TakesAs (p : Declarations) (f g : FoundMethod) : Type 0 where
  pub home : Scope
  pub is_home : this_in p g.on ≡ Some home
  pub are : kinds_taken p g ≡ map (seen_option home Caller) (kinds_taken p f)

-- a kind is another one, or a reference to objects of a class under the other's, in the same scope
abbrev pub IsNarrower : Declarations → Option Kind → Option Kind → Type 0
IsNarrower p j k =
    (j ≡ k)
    ⊎ ((a b : ℕ) × (s : Scope) × (j ≡ Some (reference (ClassTy a) s)) × (k ≡ Some (reference (ClassTy b) s))
    × (a < length p.classes) × (is_sub p.classes a b ≡ true))

-- a method g gives what a method f gives, as its own class sees it, or something narrower
pub record GivesAs (p : Declarations) (f g : FoundMethod) : Type 0 where
  pub home : Scope
  pub is_home : this_in p g.on ≡ Some home
  pub is : IsNarrower p (kind_given p g) (seen_option home Caller (kind_given p f))

-- what a call of a method f, which runs in the scope r, runs on an object of a concrete class: a user's method with a body,
-- which runs, takes and gives as f does
pub record Dispatched (p : Declarations) (class : ℕ) (name : List ℕ) (f : FoundMethod) (r : Scope) : Type 0 where
  pub method : FoundMethod
  pub is : method_named p.classes class name ≡ Some method
  pub is_user : IsUserMethod p method
  pub has_body : is_some method.method.body ≡ true
  pub runs : RunsAs p r method
  pub takes : TakesAs p f method
  pub gives : GivesAs p f method
