-- Calls of the framework's methods.
use Rattle.std.proofs.Common.{◌≡◌, ℕ, ◌&&◌, ◌<◌, ◌≤◌, nat_lt, arith, List, ◌++◌, length, refl, sym, ap, ◌∙◌, subst, Option, Some, None, Bool, true, false, ◌==◌, true≢false, ◌⊎◌, inl, inr, option_and_then, is_some, slice_get}
use Rattle.std.proofs.lemmas.Bool.Decides.{nat_tests}
use Rattle.scj_base.specs.declared.positions.Position.{Position}
use Rattle.scj_builtins.specs.declared.methods.FrameworkMethod.{FrameworkMethod}
use Rattle.scj_builtins.specs.Framework.{object as object_class, periodic_handler, aperiodic_handler, parameter_list}
use Rattle.scj_tree.specs.declared.nodes.Node.TheVariants.{Call}
use Rattle.scj_tree.specs.Forest.{Forest, IsForest}
use Rattle.scj_rules.specs.declared.typing.Binding.{Binding}
use Rattle.scj_rules.specs.declared.typing.Binding.TheVariants.{Builtin}
use Rattle.scj_rules.specs.declared.typing.Receiver.{Receiver}
use Rattle.scj_rules.specs.Words.{is_among}
use Rattle.scj_rules.specs.Views.{DeclaredMethod}
use Rattle.scj_rules.specs.CheckedProgram.{IsReadFromTexts}
use Rattle.scj_rules.specs.Classes.{FoundMethod, result_written, parameter_written, framework_method, superclasses, all_interfaces, is_sub, own_method, method_named, method_number}
use Rattle.scj_rules.specs.Contexts.{Declarations, declarations_of}
use Rattle.scj_rules.specs.ScopeRules.{is_handler}
use Rattle.scj_rules.specs.Types.{type_written, call_receiver, called_method, class_of_receiver, is_callable}
use Rattle.scj_rules.specs.TypeRules.{Types, declared_type_of}
use Rattle.scj_rules.specs.Bindings.{called_on, target, user_method_binding, method_binding, plain_or, binding_of}
use Rattle.scj_rules.specs.Phases.{IsAccepted}
use Rattle.scj_rules.proofs.ChainLemmas.{or_cases, or_left, or_right, among-cases, same_number}
use Rattle.accepted_laws.specs.Judgements.{type_at_node, binding_at_node, Inside, Judged}
use Rattle.accepted_laws.specs.Kinds.{Kind, number, truth}
use Rattle.accepted_laws.specs.Sorts.{IsWellSorted}
use Rattle.accepted_laws.proofs.Dispatch.{own_declaration}
use Rattle.accepted_laws.proofs.Fields.{along_in}
use Rattle.accepted_laws.proofs.Interfaces.{interface_of_framework}
use Rattle.accepted_laws.proofs.Subtypes.{among_in, is_above_on}
use Rattle.accepted_laws.proofs.Tools.{some_inj}
use Rattle.accepted_nodes.proofs.FoundMembers.{own_found}
use Rattle.accepted_nodes.proofs.ScopesComplete.{call_rules}
use Rattle.accepted_nodes.proofs.TypeBreaks.{right_call}
use Rattle.accepted_nodes.proofs.TypesComplete.{unbroken, of_class, method_there}
use Rattle.accepted_facts.proofs.AccessFacts.{int_judged, boolean_judged}
use Rattle.accepted_facts.proofs.FrameworkCalls.{argument_facts}
use Rattle.accepted_facts.proofs.NameFacts.{binding_is}
use Rattle.scj_model.specs.Code.{Code, code_of}
use Rattle.scope_flow.specs.Signatures.{Signature, IsBody}
use Rattle.scope_flow.specs.CallFacts.{ReceiverFact, RegisterFact, BuiltinCases, BuiltinFact}
use Rattle.flow_facts.proofs.ArrayClasses.{alone}
use Rattle.flow_facts.proofs.CallParts.{call_parts}
use Rattle.flow_facts.proofs.Calls.{Invoked}
use Rattle.flow_facts.proofs.EnteringCalls.{enter_fact, execute_fact}
use Rattle.flow_facts.proofs.FrameworkArguments.{AllTaken, all_taken, two, one, CalledOn, called_on_object}
use Rattle.flow_facts.proofs.FrameworkMethods.{IsCalled, terminates, registers_periodic, registers_aperiodic, releases, enters, executes, sets_ceiling, prints, reads, compares, callable_is, of_framework}
use Rattle.flow_facts.proofs.FrameworkRows.{above_is}
use Rattle.flow_facts.proofs.GivenKinds.{judged_once}
use Rattle.flow_facts.proofs.InterfaceRows.{no_handler_implemented}
use Rattle.flow_facts.proofs.CalledMethods.{Called as CalledAt, number_is, plain_is, nothing_judged, same_case, ceiling_case, print_case, read_case}

module _ (forest : Forest) (accepted : IsAccepted forest) (whole : IsForest forest) (sorted : IsWellSorted forest.nodes)
    (is_read : IsReadFromTexts forest) where
  abbrev p : Declarations
  p = declarations_of forest

  abbrev types : Types
  types = type_at_node p

  abbrev code : Code
  code = code_of forest

  abbrev Called : ℕ → ℕ → ℕ → List ℕ → Option ℕ → List ℕ → FoundMethod → FrameworkMethod → Type 0
  Called b c id name object arguments f row =
      CalledAt forest accepted whole sorted is_read b c id name object arguments f row

  -- ---- receivers

  received : (b c id : ℕ) (name : List ℕ) (object : Option ℕ) (arguments : List ℕ) (f : FoundMethod)
      (row : FrameworkMethod) → Called b c id name object arguments f row → row.is_static ≡ false →
      (q : CalledOn forest accepted whole sorted b c id object name f) × (r : ReceiverFact code b c id object None) ×
      (r.class ≡ q.class)
  unfolding code_of
  received b c id name object arguments f row x plain =
      let q = called_on_object forest accepted whole sorted b c id x.position name object arguments f x.stands x.inside
      x.method (plain_is forest accepted whole sorted is_read f row x.is ∙ plain) in
      (q, record { class = q.class; scope = q.scope; receiver_is = q.receiver_is; is_given = refl }, refl)

  abbrev IsHandlerClass : ℕ → Type 0
  IsHandlerClass y = (y ≡ periodic_handler) ⊎ (y ≡ aperiodic_handler)

  -- a class that has a method of a handler stands under that handler
  under_handler : (class y : ℕ) (name : List ℕ) (f : FoundMethod) → method_named p.classes class name ≡ Some f →
      f.on ≡ y → IsHandlerClass y → is_among y (superclasses p.classes class) ≡ true
  unfolding method_named
  under_handler class y name f m on h =
      let q = along_in (own_method p.classes name) (superclasses p.classes class ++ all_interfaces p.classes class) f m
      in
      let d = own_declaration forest accepted q.0 name f q.2 in
      let same : q.0 ≡ y = sym d.on ∙ on in
      let among : is_among y (superclasses p.classes class ++ all_interfaces p.classes class) ≡ true =
      ap (λ z. is_among z (superclasses p.classes class ++ all_interfaces p.classes class)) (sym same)
      ∙ among_in q.0 (superclasses p.classes class ++ all_interfaces p.classes class) q.1 in
      elim (among-cases y (superclasses p.classes class) (all_interfaces p.classes class) among) as
      (λ z. is_among y (superclasses p.classes class) ≡ true)
      [ inl k ↦ k | inr k ↦ absurd (no_handler_implemented forest accepted whole sorted class y h k) ]

  handler_number : (y : ℕ) → IsHandlerClass y → (y ≡ object_class) → ⊥
  handler_number y (inl e) o =
      (let z : periodic_handler ≡ object_class = sym e ∙ o in true≢false (sym (ap (λ n. n == object_class) z)))
  handler_number y (inr e) o =
      (let z : aperiodic_handler ≡ object_class = sym e ∙ o in true≢false (sym (ap (λ n. n == object_class) z)))

  is_handler_by : (on y : ℕ) → IsHandlerClass y → is_among y (superclasses p.classes on) ≡ true → is_handler p on ≡ true
  is_handler_by on y (inl e) h =
      or_left (is_among periodic_handler (superclasses p.classes on))
      (is_among aperiodic_handler (superclasses p.classes on)) (ap (λ z. is_among z (superclasses p.classes on)) (sym e)
      ∙ h)
  is_handler_by on y (inr e) h =
      or_right (is_among periodic_handler (superclasses p.classes on))
      (is_among aperiodic_handler (superclasses p.classes on)) (ap (λ z. is_among z (superclasses p.classes on)) (sym e)
      ∙ h)

  -- and so do the classes under it
  handler_below : (class on y : ℕ) → IsHandlerClass y → is_among y (superclasses p.classes class) ≡ true →
      is_sub p.classes on class ≡ true → is_handler p on ≡ true
  unfolding is_sub
  handler_below class on y h above sub =
      elim (or_cases (is_among class (superclasses p.classes on)) (is_among class (all_interfaces p.classes on)) sub) as
      (λ z. is_handler p on ≡ true) [
        | inl k ↦ by_number (nat_lt on (length p.classes)) refl k
        | inr k ↦ elim
            (above_is forest accepted whole sorted class y (interface_of_framework forest accepted on class k) above) as
            (λ z. is_handler p on ≡ true) [
              | inl e ↦ absurd
                  (no_handler_implemented forest accepted whole sorted on y h
                  (ap (λ z. is_among z (all_interfaces p.classes on)) e ∙ k))
              | inr o ↦ absurd (handler_number y h o)
            ]
      ]
    where
      alone_class : (on class : ℕ) → length p.classes ≤ on → is_among class (superclasses p.classes on) ≡ true →
          on ≡ class
      alone_class on class l k =
          elim (or_cases (class == on) false (ap (is_among class) (sym (alone forest accepted on l)) ∙ k)) as
          (λ z. on ≡ class) [ inl e ↦ sym (same_number class on e) | inr e ↦ absurd (true≢false (sym e)) ]

      by_number : (t : Bool) → nat_lt on (length p.classes) ≡ t → is_among class (superclasses p.classes on) ≡ true →
          is_handler p on ≡ true
      by_number true e k =
          (let l : on < length p.classes = grind (arith, nat_tests) in
          is_handler_by on y h (is_above_on forest accepted on class y l k above))
      by_number false e k =
          let l : length p.classes ≤ on = grind (arith, nat_tests) in
          is_handler_by on y h (ap (λ z. is_among y (superclasses p.classes z)) (alone_class on class l k) ∙ above)

  registered : (b c id : ℕ) (name : List ℕ) (object : Option ℕ) (arguments : List ℕ) (f : FoundMethod)
      (row : FrameworkMethod) → Called b c id name object arguments f row → row.is_static ≡ false →
      IsHandlerClass row.on → RegisterFact code b c id object None
  unfolding code_of
  registered b c id name object arguments f row x plain h =
      let q = received b c id name object arguments f row x plain in
      let k = q.0 in
      let above = under_handler k.class row.on name f k.named x.on h in
      record {
        receiver = q.1;
        are_handlers = λ on sub. handler_below k.class on row.on h above
            (ap (is_sub p.classes on) (sym q.2) ∙ sub);
      }

  -- ---- all of them

  abbrev Cases : ℕ → ℕ → Signature → ℕ → Option ℕ → List ℕ → FrameworkMethod → ℕ → Option Kind → Type 0
  Cases b c sig id object arguments row on o = BuiltinCases code b c sig id object arguments row.number on o

  by_row : (b c : ℕ) (sig : Signature) (id : ℕ) (name : List ℕ) (object : Option ℕ) (arguments : List ℕ)
      (f : FoundMethod) (row : FrameworkMethod) (o : Option Kind) → IsBody p b c sig → IsCalled row →
      (x : Called b c id name object arguments f row) → Judged p id o →
      Cases b c sig id object arguments row (called_on types x.parts.r f arguments) o
  unfolding framework_method parameter_list parameter_written result_written type_written
  by_row b c sig id name object arguments f row o body terminates x j =
      subst (Cases b c sig id object arguments row (called_on types x.parts.r f arguments))
      (sym (judged_once p id o None j (nothing_judged forest accepted whole sorted is_read id x.given)))
      (inr (inr (inr (inr (inr (inl (refl, (received b c id name object arguments f row x refl).1)))))))
  by_row b c sig id name object arguments f row o body releases x j =
      subst (Cases b c sig id object arguments row (called_on types x.parts.r f arguments))
      (sym (judged_once p id o None j (nothing_judged forest accepted whole sorted is_read id x.given)))
      (inr (inr (inr (inr (inr (inr (inl (refl, (received b c id name object arguments f row x refl).1))))))))
  by_row b c sig id name object arguments f row o body registers_periodic x j =
      subst (Cases b c sig id object arguments row (called_on types x.parts.r f arguments))
      (sym (judged_once p id o None j (nothing_judged forest accepted whole sorted is_read id x.given)))
      (inr
      (inr (inr (inr (inr (inr (inr
      (inl (inl refl, registered b c id name object arguments f row x refl (inl refl))))))))))
  by_row b c sig id name object arguments f row o body registers_aperiodic x j =
      subst (Cases b c sig id object arguments row (called_on types x.parts.r f arguments))
      (sym (judged_once p id o None j (nothing_judged forest accepted whole sorted is_read id x.given)))
      (inr
      (inr (inr (inr (inr (inr (inr
      (inl (inr refl, registered b c id name object arguments f row x refl (inr refl))))))))))
  by_row b c sig id name object arguments f row o body enters x j =
      let k = two forest accepted whole sorted arguments _ _ x.taken in
      subst (Cases b c sig id object arguments row (called_on types x.parts.r f arguments))
      (sym (judged_once p id o None j (nothing_judged forest accepted whole sorted is_read id x.given)))
      (inl (enter_fact forest accepted whole sorted is_read b c sig id x.position name object arguments f _ _ body x.stands
      x.inside x.method (number_is forest accepted whole sorted is_read f row x.is) x.parts refl refl k x.on))
  by_row b c sig id name object arguments f row o body executes x j =
      let k = two forest accepted whole sorted arguments _ _ x.taken in
      subst (Cases b c sig id object arguments row (called_on types x.parts.r f arguments))
      (sym (judged_once p id o None j (nothing_judged forest accepted whole sorted is_read id x.given)))
      (inr (inl
      (execute_fact forest accepted whole sorted is_read b c id x.position name object arguments f _ _ x.stands
      x.inside x.method (number_is forest accepted whole sorted is_read f row x.is) x.parts refl refl k x.on)))
  by_row b c sig id name object arguments f row o body sets_ceiling x j =
      let k = two forest accepted whole sorted arguments _ _ x.taken in
      subst (Cases b c sig id object arguments row (called_on types x.parts.r f arguments))
      (sym (judged_once p id o None j (nothing_judged forest accepted whole sorted is_read id x.given)))
      (inr (inr
      (inl
      (ceiling_case forest accepted whole sorted is_read b c id name object arguments _ _ 0 x.parts refl refl
      k))))
  by_row b c sig id name object arguments f row o body prints x j =
      let k = two forest accepted whole sorted arguments _ _ x.taken in
      subst (Cases b c sig id object arguments row (called_on types x.parts.r f arguments))
      (sym (judged_once p id o None j (nothing_judged forest accepted whole sorted is_read id x.given)))
      (inr (inr
      (inr
      (inl
      (print_case forest accepted whole sorted is_read b c id name object arguments _ _ x.parts refl refl k)))))
  by_row b c sig id name object arguments f row o body reads x j =
      let k = one forest accepted whole sorted arguments _ x.taken in
      subst (Cases b c sig id object arguments row (called_on types x.parts.r f arguments))
      (sym (judged_once p id o (Some number) j (int_judged forest accepted whole sorted id x.given)))
      (inr (inr
      (inr
      (inr
      (inl (read_case forest accepted whole sorted is_read b c id name object arguments _ x.parts refl k))))))
  by_row b c sig id name object arguments f row o body compares x j =
      let k = two forest accepted whole sorted arguments _ _ x.taken in
      subst (Cases b c sig id object arguments row (called_on types x.parts.r f arguments))
      (sym (judged_once p id o (Some truth) j (boolean_judged forest accepted whole sorted id x.given)))
      (inr (inr
      (inr
      (inr
      (inr
      (inr
      (inr
      (inr (same_case forest accepted whole sorted is_read b c id name object arguments _ _ x.parts refl refl k)))))))))

  pub builtin_bound : (id n : ℕ) (position : Position) (name : List ℕ) (object : Option ℕ) (arguments : List ℕ) (f : FoundMethod)
      (r : Receiver) → slice_get forest.nodes id ≡ Some (Call position name object arguments) →
      call_receiver p types id object ≡ Some r → called_method p r name ≡ Some f → f.method.builtin ≡ Some n →
      binding_at_node p id ≡ Builtin (target types r f arguments n)
  unfolding binding_of method_binding
  builtin_bound id n position name object arguments f r there e m b =
      binding_is forest accepted whole sorted id (Call position name object arguments) there
      ∙ ap (λ (o : Option Receiver). plain_or
      (λ r. plain_or (method_binding p types r arguments) (called_method p r name)) o) e
      ∙ ap (λ (o : Option FoundMethod). plain_or (method_binding p types r arguments) o) m
      ∙ ap (λ (o : Option ℕ). elim o as (λ _. Binding) [
        | Some m ↦ Builtin (target types r f arguments m)
        | None ↦ plain_or (user_method_binding types r arguments f)
            (method_number p.nodes p.users f.method.declared.node)
      ]) b

  first_true : (a b : Bool) → (a && b) ≡ true → a ≡ true
  first_true true b e = refl
  first_true false b e = absurd (true≢false (sym e))

  pub builtin_fact : (b c : ℕ) (sig : Signature) (id : ℕ) (position : Position) (name : List ℕ) (object : Option ℕ)
      (arguments : List ℕ) (o : Option Kind) (n : ℕ) → IsBody p b c sig →
      slice_get forest.nodes id ≡ Some (Call position name object arguments) → Inside p b c id →
      (m : Invoked forest accepted whole sorted is_read id name object) → m.method.method.builtin ≡ Some n →
      Judged p id o
      → BuiltinFact code b c sig id object arguments o
  unfolding code_of target framework_method
  builtin_fact b c sig id position name object arguments o n body there inside v number_of j =
      let f = v.method in
      let x = call_parts forest accepted whole sorted b c id position name object arguments there inside in
      let m : called_method p x.r name ≡ Some f = sym (ap (option_and_then (λ r. called_method p r name)) x.is_receiver)
      ∙ v.is in
      let w =
      right_call p types id position name object arguments
      (unbroken forest accepted whole sorted id (Call position name object arguments) there) in
      let rules = call_rules forest accepted whole sorted id name object arguments x.r x.ts x.is_receiver x.typed w in
      let t = method_there forest accepted whole sorted x.r name rules.of_reference rules.has_method in
      let callable : f.method.callable ≡ true =
      first_true f.method.callable _ (subst (λ g. is_callable p g ≡ true) (some_inj t.0 f (sym t.1 ∙ m)) t.2) in
      let q = of_class (class_of_receiver x.r) (λ class. method_named p.classes class name) f m in
      let y = own_found forest accepted whole sorted q.0 name f q.2 in
      let k = of_framework forest accepted whole sorted y.0 name f y.1 (ap is_some number_of) in
      let a = argument_facts forest accepted whole sorted b c id position name object arguments f there inside v.is in
      let is_called = callable_is k.row k.among (ap (λ (m : DeclaredMethod). m.callable) k.is ∙ callable) in
      let same : k.row.number ≡ n =
      some_inj k.row.number n (sym (number_is forest accepted whole sorted is_read f k.row k.is) ∙ number_of) in
      let called : Called b c id name object arguments f k.row = record {
        position = position;
        stands = there;
        inside = inside;
        method = v.is;
        is = k.is;
        on = k.found_on ∙ sym k.on;
        parts = x;
        taken =
            subst (AllTaken forest accepted whole sorted arguments)
            (ap (λ (m : DeclaredMethod). m.parameters) (sym k.is))
            (all_taken forest accepted whole sorted arguments a.types f.method.parameters a.typed a.accepts);
        given = v.given ∙ sym v.typed ∙ ap (λ (m : DeclaredMethod). declared_type_of p m.declared) (sym k.is);
      } in
      record {
        target = target types x.r f arguments n;
        is = builtin_bound id n position name object arguments f x.r there x.is_receiver m number_of;
        cases = subst (λ n. BuiltinCases code b c sig id object arguments n (called_on types x.r f arguments) o) same
            (by_row b c sig id name object arguments f k.row o body is_called called j);
      }
