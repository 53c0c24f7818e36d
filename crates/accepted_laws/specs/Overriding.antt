-- Methods of classes of an accepted program, and overriding (JLS 8.4.8).
use Rattle.std.specs.Prelude.{◌≡◌, ◌<◌, ℕ, true, false, List, length, Some, None}
use Rattle.scj_rules.specs.declared.typing.Scope.{Scope}
use Rattle.scj_rules.specs.declared.typing.Scope.TheVariants.{Caller}
use Rattle.scj_rules.specs.Words.{is_among}
use Rattle.scj_rules.specs.Views.{DeclaredMethod, method_at}
use Rattle.scj_rules.specs.Classes.{FoundMethod, is_user_class, superclasses, method_named}
use Rattle.scj_rules.specs.ClassRules.{have_same_types, is_result_of, both_static}
use Rattle.scj_rules.specs.Contexts.{Declarations, context}
use Rattle.scj_rules.specs.StaticScopes.{this_in, runs_in}
use Rattle.scj_rules.specs.AnnotationRules.{scopes_differ}
use Rattle.accepted_laws.specs.Kinds.{seen_as}

-- a method that a user class declares
pub record IsUserMethod (p : Declarations) (f : FoundMethod) : Type 0 where
  pub is_class : f.on < length p.classes
  pub on_user_class : is_user_class f.on ≡ true
  pub not_builtin : f.method.builtin ≡ None
  pub is_there : method_at p.nodes f.method.declared.node ≡ Some f.method
  pub stands_in_class : (context p f.method.declared.node).class ≡ Some f.on

-- a method m of a class overrides the method f of a class or interface above it, and may do so: the types are the same
-- or narrower (C6), and so are the scopes between user classes (A6)
pub record OverridesRightly (p : Declarations) (class : ℕ) (m : DeclaredMethod) (f : FoundMethod) : Type 0 where
  pub same_parameters : have_same_types m.parameters f.method.parameters ≡ true
  pub right_result :
      is_result_of p class m.declared.name m.declared.declared_type f.method.declared.declared_type ≡ true
  pub both_are_static : both_static m f.method ≡ true
  pub overridable : f.method.overridable ≡ true
  pub same_scopes :
      m.declared.modifiers.is_static ≡ false → is_user_class f.on ≡ true →
      scopes_differ p class m f.on f.method ≡ false

-- a method g is f, or overrides f in one step or more, each right and to a class above
pub data OverridesInSteps (p : Declarations) (f : FoundMethod) : FoundMethod → Type 0 where
  itself : OverridesInSteps p f f
  by_step : {g h : FoundMethod} → OverridesRightly p g.on g.method h → IsUserMethod p g →
      is_among h.on (superclasses p.classes g.on) ≡ true → OverridesInSteps p f h → OverridesInSteps p f g

-- what a call of a method f runs for an object of a class: the method of its name that the class has, which a user
-- class declares, and which is f or overrides it
pub record Dispatches (p : Declarations) (class : ℕ) (name : List ℕ) (f : FoundMethod) : Type 0 where
  pub method : FoundMethod
  pub is : method_named p.classes class name ≡ Some method
  pub is_user : IsUserMethod p method
  pub overrides : OverridesInSteps p f method

-- a method runs in the scope r, as its class sees it: with its own scope for THIS
pub record RunsAs (p : Declarations) (r : Scope) (g : FoundMethod) : Type 0 where
  pub home : Scope
  pub is_home : this_in p g.on ≡ Some home
  pub is : runs_in p g.on g.method ≡ Some (seen_as home Caller r)
