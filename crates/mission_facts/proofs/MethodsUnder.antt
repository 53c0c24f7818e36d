-- The methods that the framework calls on objects of concrete classes under its own: they are there, and run where the
-- framework fixes it.
use Rattle.std.proofs.Common.{arith, ◌≡◌, ℕ, ◌<◌, ◌++◌, length, sym, ap, ◌∙◌, subst, refl, Some, true, ◌⊎◌, inl, inr}
use Rattle.std.proofs.lemmas.Option.{slice_get_within}
use Rattle.scj_builtins.specs.declared.kinds.Parameters.TheVariants.{Empty as no_parameters}
use Rattle.scj_builtins.specs.declared.methods.FrameworkMethod.{FrameworkMethod}
use Rattle.scj_builtins.specs.Framework.{object, safelet, framework_methods}
use Rattle.scj_tree.specs.Forest.{Forest, IsForest}
use Rattle.scj_rules.specs.CheckedProgram.{IsReadFromTexts}
use Rattle.scj_rules.specs.declared.scopes.ClassScope.TheVariants.{Annotated as annotated}
use Rattle.scj_rules.specs.declared.typing.Scope.{Scope}
use Rattle.scj_rules.specs.declared.typing.Scope.TheVariants.{Caller, In}
use Rattle.scj_rules.specs.declared.views.WrittenType.TheVariants.{Long as long_type}
use Rattle.scj_rules.specs.Words.{is_among}
use Rattle.scj_rules.specs.Classes.{FoundMethod, superclasses, all_interfaces, own_method, method_named, result_written}
use Rattle.scj_rules.specs.Contexts.{Declarations, declarations_of}
use Rattle.scj_rules.specs.ScopeRules.{immortal_scope, defined_by_chain}
use Rattle.scj_rules.specs.StaticScopes.{class_scope, runs_in}
use Rattle.scj_rules.specs.Phases.{IsAccepted}
use Rattle.accepted_laws.specs.Sorts.{IsWellSorted}
use Rattle.accepted_laws.proofs.Fields.{In as Element, in_left, in_among}
use Rattle.accepted_laws.proofs.Subtypes.{is_above_on}
use Rattle.accepted_laws.proofs.Tools.{some_inj}
use Rattle.accepted_facts.specs.Methods.{kind_given as kind_given_by}
use Rattle.scope_flow.specs.Signatures.{IsConcrete}
use Rattle.flow_facts.proofs.ConcreteClasses.{IsWritten, concrete_is}
use Rattle.mission_facts.proofs.CalledBodies.{body_called}
use Rattle.mission_facts.proofs.FixedScopes.{runs_so_if_named, is_in_immortal, is_in_defined, runs_in_immortal, runs_in_defined}
use Rattle.mission_facts.proofs.FrameworkTable.{IsInTable}
use Rattle.mission_facts.proofs.Implemented.{IsImplemented, implemented, has_itself}
use Rattle.mission_facts.proofs.Lines.{framework_line, user_under}
use Rattle.mission_facts.proofs.ScopeDefinitions.{IsDefiner, definer_of, one_scope}
use Rattle.mission_facts.proofs.Searches.{all_pass, in_back}
use Rattle.mission_sound.specs.SequencerFacts.{RunsInImmortal, RunsInNamed, HasImmortalMethod, HasMethodIn}
use Rattle.mission_facts.proofs.SafeletScopes.{safelet_runs}

module _ (forest : Forest) (accepted : IsAccepted forest) (whole : IsForest forest) (sorted : IsWellSorted forest.nodes)
    (is_read : IsReadFromTexts forest) where
  abbrev p : Declarations
  p = declarations_of forest

  abbrev Implements : ℕ → FrameworkMethod → Type 0
  Implements class m = IsImplemented forest accepted whole sorted class m

  pub class_within : (class : ℕ) → IsWritten p class → class < length p.classes
  class_within class w = slice_get_within p.classes class w.row w.stands

  -- a concrete class under a class of the framework is a user's
  pub concrete_under : (class i : ℕ) → (i ≡ object → ⊥) → IsConcrete p class →
      is_among i (superclasses p.classes class) ≡ true → IsWritten p class
  concrete_under class i other c h =
      elim (concrete_is forest accepted whole sorted class c) as (λ z. IsWritten p class) [
        | inl w ↦ w
        | inr e ↦ absurd (elim (framework_line forest accepted whole sorted object i (omega arith)
            (ap (λ class. is_among i (superclasses p.classes class)) (sym e) ∙ h)) as (λ z. ⊥)
            [ inl s ↦ other s | inr s ↦ other s ])
      ]

  -- a row of the table that a concrete class implements
  pub record IsAsked (m : FrameworkMethod) : Type 0 where
    pub there : IsInTable m
    pub few : m.on < 16
    pub is_abstract : m.is_abstract ≡ true
    pub takes_none : m.parameters ≡ no_parameters
    pub not_long : result_written m.gives ≡ long_type → ⊥

  implements_under : (class : ℕ) (m : FrameworkMethod) → IsWritten p class → IsAsked m →
      Element m.on (superclasses p.classes class ++ all_interfaces p.classes class) → Implements class m
  implements_under class m w a under =
      implemented forest accepted whole sorted class w m a.there.among a.few a.is_abstract a.takes_none
      a.there.abstract_all under

  pub implements_below : (class : ℕ) (m : FrameworkMethod) → IsWritten p class → IsAsked m →
      is_among m.on (superclasses p.classes class) ≡ true → Implements class m
  implements_below class m w a h =
      implements_under class m w a
      (in_left m.on (superclasses p.classes class) (all_interfaces p.classes class)
      (in_among m.on (superclasses p.classes class) h))

  pub implements_interface : (class : ℕ) (m : FrameworkMethod) → IsWritten p class → IsAsked m →
      is_among m.on (all_interfaces p.classes class) ≡ true → Implements class m
  implements_interface class m w a h =
      implements_under class m w a
      (in_back m.on (superclasses p.classes class) (all_interfaces p.classes class)
      (in_among m.on (all_interfaces p.classes class) h))

  -- a method that runs in immortal memory, and what it gives
  pub record RunsImmortal (class : ℕ) (m : FrameworkMethod) : Type 0 where
    pub method : Implements class m
    pub has : HasImmortalMethod p class m.name
    pub gives : has.called.sig.gives ≡ kind_given_by p method.method

  pub immortal_method : (class : ℕ) (m : FrameworkMethod) → IsWritten p class → IsAsked m →
      is_among m.on (superclasses p.classes class) ≡ true →
      all_pass (runs_so_if_named is_in_immortal m.name) framework_methods ≡ true → RunsImmortal class m
  immortal_method class m w a h all =
      let x = implements_below class m w a h in
      let b = body_called forest accepted whole sorted is_read class m x a.not_long in
      let under =
      user_under forest accepted whole sorted class x.method.on m.on (class_within class w) x.is_user.on_user_class
      x.above h a.few in
      let own = has_itself forest accepted whole sorted m a.there.among a.few in
      let runs =
      runs_in_immortal forest accepted whole sorted x.method m.on own.0 x.is_user x.for_object a.few
      (ap (λ name. own_method p.classes name m.on) x.named ∙ own.1) under
      (ap (λ name. all_pass (runs_so_if_named is_in_immortal name) framework_methods) x.named ∙ all) in
      record {
        method = x;
        has = record {
          called = b.called;
          runs = subst RunsInImmortal
              (some_inj (In immortal_scope) b.called.sig.runs_in (sym runs ∙ b.runs)) refl;
        };
        gives = b.gives;
      }

  -- the same of a safelet
  pub safelet_method : (class : ℕ) (m : FrameworkMethod) → IsWritten p class → IsAsked m → m.on ≡ safelet →
      is_among safelet (all_interfaces p.classes class) ≡ true → class_scope p class ≡ annotated immortal_scope →
      all_pass (runs_so_if_named is_in_immortal m.name) framework_methods ≡ true → RunsImmortal class m
  safelet_method class m w a on h lies all =
      let x = implements_interface class m w a
      (ap (λ i. is_among i (all_interfaces p.classes class)) on ∙ h) in
      let b = body_called forest accepted whole sorted is_read class m x a.not_long in
      let own = has_itself forest accepted whole sorted m a.there.among a.few in
      let runs =
      safelet_runs forest accepted whole sorted class x.method own.0 b.called.sig.runs_in (class_within class w) h
      lies (ap (own_method p.classes x.method.method.declared.name) (sym on)
      ∙ ap (λ name. own_method p.classes name m.on) x.named ∙ own.1)
      (ap (method_named p.classes class) x.named ∙ x.is) x.is_user x.for_object x.above
      (ap (λ name. all_pass (runs_so_if_named is_in_immortal name) framework_methods) x.named ∙ all) b.runs in
      record { method = x; has = record { called = b.called; runs = runs }; gives = b.gives }

  -- a method that runs in the scope that a class defines
  pub defined_method : (class scope : ℕ) (m : FrameworkMethod) → IsWritten p class → Implements class m →
      Element m framework_methods → m.on < 16 → (result_written m.gives ≡ long_type → ⊥) →
      is_among m.on (superclasses p.classes class) ≡ true →
      all_pass (runs_so_if_named is_in_defined m.name) framework_methods ≡ true →
      IsDefiner forest accepted whole sorted class scope → HasMethodIn p scope class m.name
  defined_method class scope m w x among few other h all definer =
      let l = class_within class w in
      let f : FoundMethod = x.method in
      let b = body_called forest accepted whole sorted is_read class m x other in
      let under =
      user_under forest accepted whole sorted class f.on m.on l x.is_user.on_user_class x.above h few in
      let own = has_itself forest accepted whole sorted m among few in
      let cases =
      runs_in_defined forest accepted whole sorted f m.on own.0 x.is_user x.for_object few
      (ap (λ name. own_method p.classes name m.on) x.named ∙ own.1) under
      (ap (λ name. all_pass (runs_so_if_named is_in_defined name) framework_methods) x.named ∙ all) in
      record { called = b.called; runs = go b.called.sig.runs_in b.runs cases }
    where
      go : (r : Scope) → runs_in p x.method.on x.method.method ≡ Some r →
          (runs_in p x.method.on x.method.method ≡ Some Caller)
          ⊎ ((s : ℕ) × (defined_by_chain p x.method.on ≡ Some s) ×
          (runs_in p x.method.on x.method.method ≡ Some (In s))) →
          RunsInNamed scope r
      go r e (inl c) = inl (some_inj r Caller (sym e ∙ c))
      go r e (inr d) =
          let l = class_within class w in
          let y = definer_of forest accepted whole sorted x.method.on d.0 d.1 in
          let same : scope ≡ d.0 =
          one_scope forest accepted whole sorted class x.method.on scope d.0 l x.above definer y
          (is_above_on forest accepted class x.method.on d.0 l x.above y.above) in
          inr (some_inj r (In d.0) (sym e ∙ d.2) ∙ ap (λ n. In n) (sym same))
