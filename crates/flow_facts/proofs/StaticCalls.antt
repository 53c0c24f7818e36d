-- Calls of users' static methods.
use Rattle.std.proofs.Common.{◌≡◌, ℕ, List, [], ◌∷◌, ◌++◌, map, refl, sym, ap, ◌∙◌, Option, Some, None, true, false, not, option_and_then, unwrap_or, is_some, slice_get, if◌then◌else◌, ◌==◌}
use Rattle.scj_base.specs.declared.findings.Rule.TheVariants.{E3}
use Rattle.scj_base.specs.declared.positions.Position.{Position}
use Rattle.scj_builtins.specs.Framework.{managed_memory}
use Rattle.scj_tree.specs.declared.nodes.Node.{Node}
use Rattle.scj_tree.specs.declared.nodes.Node.TheVariants.{Call}
use Rattle.scj_tree.specs.Forest.{Forest, IsForest}
use Rattle.scj_rules.specs.declared.typing.Binding.{Binding}
use Rattle.scj_rules.specs.declared.typing.Binding.TheVariants.{Method as MethodCalled, StaticMethod, Builtin}
use Rattle.scj_rules.specs.declared.typing.Receiver.{Receiver}
use Rattle.scj_rules.specs.declared.typing.Scope.{Scope}
use Rattle.scj_rules.specs.declared.typing.Scope.TheVariants.{Any, This, Caller}
use Rattle.scj_rules.specs.declared.typing.Ty.{Ty}
use Rattle.scj_rules.specs.declared.typing.Ty.TheVariants.{Void}
use Rattle.scj_rules.specs.declared.views.Declared.{Declared}
use Rattle.scj_rules.specs.declared.views.WrittenType.TheVariants.{Void as void_type}
use Rattle.scj_rules.specs.Words.{broken, found_at}
use Rattle.scj_rules.specs.Views.{position_at}
use Rattle.scj_rules.specs.CheckedProgram.{IsReadFromTexts}
use Rattle.scj_rules.specs.Classes.{FoundMethod, method_named, method_number}
use Rattle.scj_rules.specs.ClassRules.{is_same_type}
use Rattle.scj_rules.specs.Contexts.{Declarations, declarations_of}
use Rattle.scj_rules.specs.StaticScopes.{substitute, parameter_scope}
use Rattle.scj_rules.specs.AnnotationRules.{result_scope}
use Rattle.scj_rules.specs.Types.{call_receiver, class_of_receiver, called_method}
use Rattle.scj_rules.specs.TypeRules.{Types, declared_type_of}
use Rattle.scj_rules.specs.UseRules.{Scopes, scope_of, receiver_scope, scope_of_call, current_at, called_user_method, misfit_scope, misfit_arguments, e3_of_call}
use Rattle.scj_rules.specs.Bindings.{second_class, called_on, target, user_method_binding, method_binding, plain_or, binding_of}
use Rattle.scj_rules.specs.Phases.{IsAccepted}
use Rattle.accepted_laws.specs.Judgements.{type_at_node, scope_at_node, binding_at_node, Inside, Judged}
use Rattle.accepted_laws.specs.Kinds.{Kind, kind_of, seen_option}
use Rattle.accepted_laws.specs.Overriding.{IsUserMethod}
use Rattle.accepted_laws.specs.Sorts.{IsWellSorted}
use Rattle.accepted_laws.proofs.DeclarationScopes.{runs_in_has_scope}
use Rattle.accepted_laws.proofs.Dispatch.{user_method}
use Rattle.accepted_laws.proofs.Fields.{In as Element}
use Rattle.accepted_nodes.proofs.DeclaredScopes.{static_result_not_this}
use Rattle.accepted_nodes.proofs.FoundMembers.{own_found}
use Rattle.accepted_nodes.proofs.ScopesComplete.{scope_is, call_rules}
use Rattle.accepted_nodes.proofs.TypeBreaks.{right_call}
use Rattle.accepted_nodes.proofs.TypesComplete.{unbroken, of_class}
use Rattle.accepted_facts.specs.Methods.{Takes, kind_of_parameter, kinds_taken, kind_given as kind_given_by}
use Rattle.accepted_facts.proofs.Arguments.{pass, seen_there}
use Rattle.accepted_facts.proofs.CallFacts.{method_has_number, arguments_accepted}
use Rattle.accepted_facts.proofs.NameFacts.{binding_is}
use Rattle.accepted_facts.proofs.NewFacts.{current_is}
use Rattle.accepted_facts.proofs.Parameters.{parameter_has_kind}
use Rattle.accepted_facts.proofs.StatementFacts.{use_unbroken}
use Rattle.scj_model.specs.Code.{Code, code_of}
use Rattle.scope_flow.specs.Signatures.{Signature, IsBody, AreWithoutThis}
use Rattle.scope_flow.specs.CallFacts.{StaticCallFact}
use Rattle.flow_facts.proofs.Bodies.{signature, taken_real, method_body}
use Rattle.flow_facts.proofs.CallParts.{user_not_memory, call_parts, passed_rightly, user_called}
use Rattle.flow_facts.proofs.Calls.{Invoked, not_long}
use Rattle.flow_facts.proofs.Dispatched.{body_found}
use Rattle.flow_facts.proofs.Invocations.{call_value}
use Rattle.flow_facts.proofs.Literals.{values_of}
use Rattle.flow_facts.proofs.NewObjects.{all_go, names_now}
use Rattle.flow_facts.proofs.StaticMethods.{never_this, static_runs, all_without, result_itself, result_without, static_body, own_is_named, static_node}

-- with no THIS it is one what that is
not_this : (o : Option Scope) → (o ≡ Some This → ⊥) → (x y now : Option Scope) →
    option_and_then (substitute x now) o ≡ option_and_then (substitute y now) o
unfolding substitute
not_this None e x y now = refl
not_this (Some This) e x y now = absurd (e refl)
not_this (Some Caller) e x y now = refl
not_this (Some _) e x y now = refl

misfits_same : (p : Declarations) (scopes : Scopes) (s r : Declared → Option Scope) → ((d : Declared) → s d ≡ r d) →
    (ds : List Declared) (xs : List ℕ) → misfit_arguments p scopes s ds xs ≡ misfit_arguments p scopes r ds xs
unfolding misfit_arguments
misfits_same p scopes s r e [] xs = refl
misfits_same p scopes s r e (d ∷ ds) [] = refl
misfits_same p scopes s r e (d ∷ ds) (x ∷ xs) =
    ap (λ o. broken (misfit_scope (scopes x) o) E3 (position_at p.nodes x) ++ misfit_arguments p scopes s ds xs) (e d)
    ∙ ap (λ found. broken (misfit_scope (scopes x) (r d)) E3 (position_at p.nodes x) ++ found)
    (misfits_same p scopes s r e ds xs)

void_none : (home now : Scope) (s : Option Scope) → seen_option home now (kind_of (Some Void) s) ≡ None
unfolding kind_of seen_option
void_none home now s = refl

module _ (forest : Forest) (accepted : IsAccepted forest) (whole : IsForest forest) (sorted : IsWellSorted forest.nodes)
    (is_read : IsReadFromTexts forest) where
  abbrev p : Declarations
  p = declarations_of forest

  abbrev types : Types
  types = type_at_node p

  abbrev scopes : Scopes
  scopes = scope_at_node p

  abbrev code : Code
  code = code_of forest

  static_bound : (id : ℕ) (position : Position) (name : List ℕ) (object : Option ℕ) (arguments : List ℕ) (f : FoundMethod)
      (r : Receiver) (n : ℕ) → slice_get forest.nodes id ≡ Some (Call position name object arguments) →
      call_receiver p types id object ≡ Some r → called_method p r name ≡ Some f → f.method.builtin ≡ None →
      f.method.declared.modifiers.is_static ≡ true
      → method_number p.nodes p.users f.method.declared.node ≡ Some n → (f.on == managed_memory) ≡ false →
      binding_at_node p id ≡ StaticMethod
      (record { id = n; on = f.on; gives = not (is_same_type f.method.declared.declared_type void_type) })
  unfolding binding_of method_binding target called_on
  static_bound id position name object arguments f r n there e m b plain k on =
      binding_is forest accepted whole sorted id (Call position name object arguments) there
      ∙ ap (λ (o : Option Receiver). plain_or
      (λ r. plain_or (method_binding p types r arguments) (called_method p r name)) o) e
      ∙ ap (λ (o : Option FoundMethod). plain_or (method_binding p types r arguments) o) m
      ∙ ap (λ (o : Option ℕ). elim o as (λ _. Binding) [
        | Some number ↦ Builtin (target types r f arguments number)
        | None ↦ plain_or (user_method_binding types r arguments f)
            (method_number p.nodes p.users f.method.declared.node)
      ]) b
      ∙ ap (plain_or (user_method_binding types r arguments f)) k
      ∙ ap (λ t. if t then StaticMethod (target types r f arguments n) else MethodCalled (target types r f arguments n))
      plain
      ∙ ap (λ t. StaticMethod
      (record {
        id = n;
        on = if t then unwrap_or (second_class types arguments) f.on
            else (if f.method.declared.modifiers.is_static then f.on else unwrap_or (class_of_receiver r) f.on);
        gives =
            not (is_same_type f.method.declared.declared_type void_type);
      })) on
      ∙ ap (λ t. StaticMethod
      (record {
        id = n;
        on = if t then f.on else unwrap_or (class_of_receiver r) f.on;
        gives = not
            (is_same_type f.method.declared.declared_type void_type);
      })) plain

  static_gives : (id : ℕ) (position : Position) (name : List ℕ) (object : Option ℕ) (arguments : List ℕ) (f : FoundMethod)
      (r : Receiver) (now : Scope) (o : Option Kind) →
      slice_get forest.nodes id ≡ Some (Call position name object arguments) → call_receiver p types id object ≡ Some r →
      called_method p r name ≡ Some f
      → f.method.declared.modifiers.is_static ≡ true → current_at p id ≡ Some now →
      types id ≡ declared_type_of p f.method.declared → Judged p id o → o ≡ seen_option Any now (kind_given_by p f)
  unfolding scope_of scope_of_call kind_given_by Judged
  static_gives id position name object arguments f r now o there e m static h typed judged = by_kind o judged
    where
      node : Node
      node = Call position name object arguments

      scoped : scopes id ≡ option_and_then (substitute (Some Any) (Some now)) (result_scope p f.on f.method)
      scoped =
          scope_is forest accepted whole sorted id node there
          ∙ ap
          (option_and_then
          (λ r. option_and_then (scope_of_call p (receiver_scope p scopes id object) (current_at p id))
          (called_method p r name))) e
          ∙ ap (option_and_then (scope_of_call p (receiver_scope p scopes id object) (current_at p id))) m
          ∙ not_this (result_scope p f.on f.method) (λ c. static_result_not_this p f.on f.method static c)
          (receiver_scope p scopes id object) (Some Any) (current_at p id)
          ∙ ap (λ (x : Option Scope). option_and_then (substitute (Some Any) x) (result_scope p f.on f.method)) h

      by_kind : (o : Option Kind) → Judged p id o →
          o ≡ seen_option Any now (kind_of (declared_type_of p f.method.declared) (result_scope p f.on f.method))
      by_kind None j =
          sym (ap (λ (x : Option Ty). seen_option Any now (kind_of x (result_scope p f.on f.method))) (sym typed ∙ j)
          ∙ void_none Any now (result_scope p f.on f.method))
      by_kind (Some y) j = sym j ∙ ap (λ x. kind_of x (scopes id)) typed
          ∙ ap (kind_of (declared_type_of p f.method.declared)) scoped
          ∙ seen_there Any now (declared_type_of p f.method.declared) (result_scope p f.on f.method)

  static_scoped : (id : ℕ) (name : List ℕ) (object : Option ℕ) (arguments : List ℕ) (f : FoundMethod) (now : Scope) →
      called_user_method p types id object name ≡ Some f → f.method.declared.modifiers.is_static ≡ true →
      current_at p id ≡ Some now
      → found_at (called_user_method p types id object name)
      (e3_of_call p scopes (receiver_scope p scopes id object) (current_at p id) arguments) ≡ [] →
      misfit_arguments p scopes
      (λ d. option_and_then (substitute (Some Any) (Some now)) (parameter_scope p f.on f.method d))
      f.method.parameters arguments ≡ []
  unfolding e3_of_call
  static_scoped id name object arguments f now e static h k =
      sym (ap
      (λ (o : Option FoundMethod). found_at o
      (e3_of_call p scopes (receiver_scope p scopes id object) (current_at p id) arguments)) e
      ∙ ap (λ (x : Option Scope). misfit_arguments p scopes
      (λ d. option_and_then (substitute (receiver_scope p scopes id object) x) (parameter_scope p f.on f.method d))
      f.method.parameters arguments) h
      ∙ misfits_same p scopes
      (λ d. option_and_then (substitute (receiver_scope p scopes id object) (Some now))
      (parameter_scope p f.on f.method d))
      (λ d. option_and_then (substitute (Some Any) (Some now)) (parameter_scope p f.on f.method d))
      (λ d. not_this (parameter_scope p f.on f.method d) (λ c. never_this p f.on f.method d static c)
      (receiver_scope p scopes id object) (Some Any) (Some now)) f.method.parameters arguments) ∙ k

  parameter_kind : (f : FoundMethod) (d : Declared) → IsUserMethod p f → Element d f.method.parameters →
      (k : Kind) × (kind_of (declared_type_of p d) (parameter_scope p f.on f.method d) ≡ Some k)
  unfolding kind_of_parameter
  parameter_kind f d u h = parameter_has_kind forest accepted whole sorted f d u h

  kinds_are : (f : FoundMethod) (ks : List Kind) →
      map (λ d. kind_of (declared_type_of p d) (parameter_scope p f.on f.method d)) f.method.parameters ≡ map
      (λ (k : Kind). Some k) ks → kinds_taken p f ≡ map (λ (k : Kind). Some k) ks
  unfolding kinds_taken kind_of_parameter
  kinds_are f ks e = e

  takes_without : (f : FoundMethod) (ks : List Kind) → f.method.declared.modifiers.is_static ≡ true →
      kinds_taken p f ≡ map (λ (k : Kind). Some k) ks → AreWithoutThis ks
  unfolding kinds_taken
  takes_without f ks s e = all_without forest accepted whole sorted f f.method.parameters ks s e

  pub static_call_fact : (b c : ℕ) (sig : Signature) (id : ℕ) (position : Position) (name : List ℕ) (object : Option ℕ)
      (arguments : List ℕ) (o : Option Kind) → IsBody p b c sig →
      slice_get forest.nodes id ≡ Some (Call position name object arguments) → Inside p b c id →
      (m : Invoked forest accepted whole sorted is_read id name object)
      → m.method.method.builtin ≡ None → m.method.method.declared.modifiers.is_static ≡ true → Judged p id o →
      StaticCallFact code b c sig id arguments o
  unfolding code_of
  static_call_fact b c sig id position name object arguments o body there inside v not_builtin static j =
      let f = v.method in
      let x = call_parts forest accepted whole sorted b c id position name object arguments there inside in
      let m : called_method p x.r name ≡ Some f = sym (ap (option_and_then (λ r. called_method p r name)) x.is_receiver)
      ∙ v.is in
      let q = of_class (class_of_receiver x.r) (λ class. method_named p.classes class name) f m in
      let y = own_found forest accepted whole sorted q.0 name f q.2 in
      let plain_builtin : is_some f.method.builtin ≡ false = ap is_some not_builtin in
      let user = user_method forest accepted whole sorted y.0 name f y.1 plain_builtin in
      let n = method_has_number forest accepted whole sorted y.0 name f y.1 plain_builtin in
      let now : Scope = sig.runs_in in
      let here : current_at p id ≡ Some now = current_is forest accepted whole sorted b c id now inside body.runs_in in
      let runs =
      static_runs p f.on f.method static
      (runs_in_has_scope forest accepted whole sorted f.on f.method.declared.node f.method user.is_there
      user.stands_in_class) in
      let e3_at =
      static_scoped id name object arguments f now
      (user_called forest accepted whole sorted id name object f v.is not_builtin) static here
      (passed_rightly forest accepted whole sorted id position name object arguments
      (use_unbroken forest accepted whole sorted id (Call position name object arguments) there)) in
      let w =
      right_call p types id position name object arguments
      (unbroken forest accepted whole sorted id (Call position name object arguments) there) in
      let rules = call_rules forest accepted whole sorted id name object arguments x.r x.ts x.is_receiver x.typed w in
      let accepts =
      arguments_accepted forest accepted whole sorted id name object arguments x.r x.ts f x.is_receiver m x.typed
      rules.has_method w.arguments_fit in
      let passed = pass forest accepted whole sorted b c id arguments x.ts f.method.parameters
      (parameter_scope p f.on f.method) Any now x.values x.operands x.typed accepts e3_at
      (λ d h. parameter_kind f d user h) in
      let taken : List Kind = passed.0 in
      let takes : Takes p f taken = record { are = kinds_are f taken passed.1 } in
      let has = static_body forest accepted whole sorted y.0 name f y.1 user static in
      let is_body = method_body forest accepted whole sorted is_read f taken Caller user has takes
      (not_long forest accepted whole sorted is_read f v.type v.typed) runs in
      record {
        target = _;
        is = static_bound id position name object arguments f x.r n.0 there x.is_receiver m not_builtin static n.1
            (user_not_memory f.on user.on_user_class);
        body = f.method.declared.node;
        is_body = body_found forest accepted whole sorted is_read f.on n.0 f f user user n.1
            (own_is_named forest accepted whole sorted y.0 name f y.1);
        on = f.on;
        static = signature taken (kind_given_by p f) Caller;
        has_signature = is_body;
        for_no_object = ap not (static_node forest accepted whole sorted f user static);
        runs = refl;
        kinds = passed.2.given;
        arguments_are = values_of p b c id arguments passed.2.given passed.2.operands;
        fit = all_go p Any now passed.2.given taken (taken_real p _ taken is_body.takes)
            (names_now p b c now body.runs_in) passed.2.fit;
        takes_no_this = takes_without f taken static takes.are;
        gives_no_this = result_without forest accepted whole sorted f static;
        gives_itself = result_itself forest accepted whole sorted f static;
        is_given = static_gives id position name object arguments f x.r now o there x.is_receiver m static here
            (v.given ∙ sym v.typed) j;
        is_left = call_value forest accepted whole sorted id position name object arguments o there j;
      }
