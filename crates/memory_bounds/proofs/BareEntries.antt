-- In an accepted program no private memory is entered without a size.
use Rattle.std.specs.Prelude.{Option, Some, None, is_some, slice_get, if◌then◌else◌}
use Rattle.std.proofs.Common.{◌≡◌, ℕ, ◌==◌, ◌&&◌, List, [], Bool, true, false, true≢false, refl, sym, ◌∙◌, ap, subst, arith}
use Rattle.scj_base.specs.declared.positions.Position.{Position}
use Rattle.scj_builtins.specs.declared.methods.FrameworkMethod.{FrameworkMethod}
use Rattle.scj_builtins.specs.Framework.{managed_memory_enter_private_memory, parameter_list}
use Rattle.scj_tree.specs.declared.nodes.Node.TheVariants.{Call}
use Rattle.scj_tree.specs.Forest.{Forest}
use Rattle.scj_rules.specs.declared.typing.Binding.{Binding}
use Rattle.scj_rules.specs.declared.typing.Binding.TheVariants.{Builtin, Method, StaticMethod}
use Rattle.scj_rules.specs.declared.typing.Receiver.{Receiver}
use Rattle.scj_rules.specs.declared.typing.Target.{Target}
use Rattle.scj_rules.specs.Bindings.{binding_of, method_binding, plain_or, target}
use Rattle.scj_rules.specs.Classes.{FoundMethod, framework_method, method_named, method_number, parameter_written}
use Rattle.scj_rules.specs.Contexts.{Declarations, declarations_of}
use Rattle.scj_rules.specs.Types.{accepts_arguments, all_types, call_receiver, called_method, class_of_receiver, is_callable}
use Rattle.scj_rules.specs.TypeRules.{Types}
use Rattle.scj_rules.specs.Views.{DeclaredMethod}
use Rattle.scj_rules.proofs.ChainLemmas.{same_number}
use Rattle.accepted_laws.specs.Judgements.{binding_at_node, type_at_node}
use Rattle.accepted_laws.specs.Programs.{IsAcceptedProgram}
use Rattle.accepted_laws.specs.Sorts.{IsWellSorted}
use Rattle.accepted_laws.proofs.ClassSorts.{well_sorted}
use Rattle.accepted_laws.proofs.Tools.{some_inj}
use Rattle.accepted_nodes.proofs.FoundMembers.{own_found}
use Rattle.accepted_nodes.proofs.ScopesComplete.{call_rules}
use Rattle.accepted_nodes.proofs.TypeBreaks.{right_call}
use Rattle.accepted_nodes.proofs.TypesComplete.{method_there, of_class, unbroken}
use Rattle.accepted_facts.proofs.CallFacts.{arguments_accepted}
use Rattle.accepted_facts.proofs.NameFacts.{binding_is}
use Rattle.flow_facts.proofs.CalledMethods.{number_is}
use Rattle.flow_facts.proofs.FrameworkMethods.{IsCalled, terminates, registers_periodic, registers_aperiodic, releases, enters, executes, sets_ceiling, prints, reads, compares, callable_is, of_framework}

-- of the methods that a program calls this one enters a private memory, and it has arguments
none_taken : (p : Declarations) (row : FrameworkMethod) → IsCalled row →
    row.number ≡ managed_memory_enter_private_memory →
    accepts_arguments p (framework_method row).parameters [] ≡ true → ⊥
unfolding framework_method parameter_list parameter_written accepts_arguments
none_taken p _ terminates n e = omega (arith, n)
none_taken p _ registers_periodic n e = omega (arith, n)
none_taken p _ registers_aperiodic n e = omega (arith, n)
none_taken p _ releases n e = omega (arith, n)
none_taken p _ enters n e = true≢false (sym e)
none_taken p _ executes n e = omega (arith, n)
none_taken p _ sets_ceiling n e = omega (arith, n)
none_taken p _ prints n e = omega (arith, n)
none_taken p _ reads n e = omega (arith, n)
none_taken p _ compares n e = omega (arith, n)

both : (a b : Bool) → (a && b) ≡ true → a ≡ true
both true b e = refl
both false b e = absurd (true≢false (sym e))

-- what is bound to a method of the framework is one
builtin_of : (p : Declarations) (types : Types) (r : Receiver) (arguments : List ℕ) (f : FoundMethod) (x : Target) →
    method_binding p types r arguments f ≡ Builtin x → f.method.builtin ≡ Some x.id
unfolding method_binding target
builtin_of p types r arguments f x e =
    of f.method.builtin (method_number p.nodes p.users f.method.declared.node) refl e
  where
    bound_as : ℕ → Target
    bound_as n = target types r f arguments n

    other : (b : Bool) (k : Target) → (if b then StaticMethod k else Method k) ≡ Builtin x → ⊥
    other true k e = cc (e)
    other false k e = cc (e)

    numbered : (o : Option ℕ) → plain_or (λ n.
        if f.method.declared.modifiers.is_static then StaticMethod (bound_as n) else Method (bound_as n)) o ≡ Builtin x → ⊥
    numbered None e = cc (e)
    numbered (Some n) e = other f.method.declared.modifiers.is_static _ e

    of : (o m : Option ℕ) → f.method.builtin ≡ o → (elim o as (λ z. Binding) [
      | Some n ↦ Builtin (bound_as n)
      | None ↦ plain_or (λ n.
          if f.method.declared.modifiers.is_static then StaticMethod (bound_as n) else Method (bound_as n)) m
    ]) ≡ Builtin x → f.method.builtin ≡ Some x.id
    of (Some n) m is e =
        (let same : bound_as n ≡ x = cc (e) in is ∙ ap (λ (t : Target). Some t.id) same)
    of None m is e = absurd (numbered m e)

module _ (forest : Forest) (a : IsAcceptedProgram forest) where
  abbrev p : Declarations
  p = declarations_of forest

  abbrev types : Types
  types = type_at_node p

  sorted : IsWellSorted forest.nodes
  sorted = well_sorted forest a.is_read

  module _ (id : ℕ) (position : Position) (name : List ℕ) (object : Option ℕ) (x : Target)
      (there : slice_get forest.nodes id ≡ Some (Call position name object []))
      (enters : (x.id == managed_memory_enter_private_memory) ≡ true) where
    with_method : (r : Receiver) (f : FoundMethod) → call_receiver p types id object ≡ Some r →
        called_method p r name ≡ Some f → f.method.builtin ≡ Some x.id → ⊥
    unfolding all_types framework_method
    with_method r f e m number_of =
        (let w = right_call p types id position name object []
        (unbroken forest a.is_accepted a.whole sorted id (Call position name object []) there) in
        let rules = call_rules forest a.is_accepted a.whole sorted id name object [] r [] e refl w in
        let t = method_there forest a.is_accepted a.whole sorted r name rules.of_reference rules.has_method in
        let callable : f.method.callable ≡ true =
        both f.method.callable _ (subst (λ (g : FoundMethod). is_callable p g ≡ true) (some_inj t.0 f (sym t.1 ∙ m)) t.2) in
        let q = of_class (class_of_receiver r) (λ class. method_named p.classes class name) f m in
        let y = own_found forest a.is_accepted a.whole sorted q.0 name f q.2 in
        let k = of_framework forest a.is_accepted a.whole sorted y.0 name f y.1 (ap is_some number_of) in
        let is_called = callable_is k.row k.among (ap (λ (m : DeclaredMethod). m.callable) k.is ∙ callable) in
        let same : k.row.number ≡ x.id =
        some_inj k.row.number x.id
        (sym (number_is forest a.is_accepted a.whole sorted a.is_read f k.row k.is) ∙ number_of) in
        let accepts =
        arguments_accepted forest a.is_accepted a.whole sorted id name object [] r [] f e m refl rules.has_method
        w.arguments_fit in
        none_taken p k.row is_called (same ∙ same_number x.id managed_memory_enter_private_memory enters)
        (ap (λ (m : DeclaredMethod). accepts_arguments p m.parameters []) k.is ∙ accepts))

    by_method : (r : Receiver) → call_receiver p types id object ≡ Some r → (o : Option FoundMethod) →
        called_method p r name ≡ o → plain_or (method_binding p types r []) o ≡ Builtin x → ⊥
    by_method r e None m k = cc (k)
    by_method r e (Some f) m k = with_method r f e m (builtin_of p types r [] f x k)

    by_receiver : (o : Option Receiver) → call_receiver p types id object ≡ o →
        plain_or (λ r. plain_or (method_binding p types r []) (called_method p r name)) o ≡ Builtin x → ⊥
    by_receiver None e k = cc (k)
    by_receiver (Some r) e k = by_method r e (called_method p r name) refl k

    pub no_bare_entry : binding_at_node p id ≡ Builtin x → ⊥
    unfolding binding_of
    no_bare_entry bound =
        by_receiver (call_receiver p types id object) refl
        (sym (binding_is forest a.is_accepted a.whole sorted id (Call position name object []) there) ∙ bound)
