-- What a call of a user's method on an object has.
use Rattle.std.proofs.Common.{◌≡◌, ℕ, ◌+◌, List, [], ◌++◌, length, map, filter, flat_map, position, refl, sym, ap, ◌∙◌, subst, Option, Some, None, Bool, true, false, not, ◌&&◌, true≢false, inl, inr, option_and_then, option_map, unwrap_or, is_some, slice_get, if◌then◌else◌, ◌==◌}
use Rattle.scj_base.specs.declared.findings.Rule.TheVariants.{E2}
use Rattle.scj_base.specs.declared.positions.Position.{Position}
use Rattle.scj_builtins.specs.Framework.{managed_memory, framework_methods}
use Rattle.scj_tree.specs.declared.nodes.Node.{Node}
use Rattle.scj_tree.specs.declared.nodes.Node.TheVariants.{Call}
use Rattle.scj_tree.specs.Forest.{Forest, IsForest}
use Rattle.scj_tree.specs.Shape.{children}
use Rattle.scj_rules.specs.declared.typing.Binding.{Binding}
use Rattle.scj_rules.specs.declared.typing.Binding.TheVariants.{Method as MethodCalled, StaticMethod, Builtin}
use Rattle.scj_rules.specs.declared.typing.Receiver.{Receiver}
use Rattle.scj_rules.specs.declared.typing.Receiver.TheVariants.{Class as the_class, Value as the_value, Own as own_object}
use Rattle.scj_rules.specs.declared.typing.Scope.{Scope}
use Rattle.scj_rules.specs.declared.typing.Scope.TheVariants.{Any, This, Caller, In}
use Rattle.scj_rules.specs.declared.typing.Ty.{Ty}
use Rattle.scj_rules.specs.declared.typing.Ty.TheVariants.{Void, Class as ClassTy}
use Rattle.scj_rules.specs.declared.views.Declared.{Declared}
use Rattle.scj_rules.specs.declared.views.WrittenType.TheVariants.{Void as void_type}
use Rattle.scj_rules.specs.Words.{is_among, holds, broken, found_at}
use Rattle.scj_rules.specs.Views.{WrittenClass, DeclaredMethod, method_at, constructor_at}
use Rattle.scj_rules.specs.Classes.{ClassRow, FoundMethod, is_user_class, is_callable as is_callable_node, method_named, method_nodes, method_number, own_method, user_row}
use Rattle.scj_rules.specs.ClassRules.{is_same_type}
use Rattle.scj_rules.specs.Contexts.{Declarations, declarations_of, context, object_of, declared_before, has_object}
use Rattle.scj_rules.specs.StaticScopes.{this_in, current_in, substitute, parameter_scope}
use Rattle.scj_rules.specs.AnnotationRules.{result_scope}
use Rattle.scj_rules.specs.Types.{class_at_name, call_receiver, class_of_receiver, called_method, names_class, is_value, all_types, accepts_arguments, method_called}
use Rattle.scj_rules.specs.TypeRules.{Types, type_of, declared_type_of, lacks_method, misfits_method, lacks_object_of_method}
use Rattle.scj_rules.specs.UseRules.{Scopes, scope_of, receiver_scope, scope_of_call, current_at, of_user, called_user_method, misfits_call, misfits_runs_in, misfit_arguments, e3_of_call, use_breaks, e1, e2, e3, e4_and_e5, e6, e7, e8, e9, e10}
use Rattle.scj_rules.specs.Bindings.{second_class, called_on, target, user_method_binding, method_binding, plain_or, binding_of}
use Rattle.scj_rules.specs.Phases.{IsAccepted}
use Rattle.accepted_laws.specs.Judgements.{type_at_node, scope_at_node, binding_at_node, HasType, Inside, Judged}
use Rattle.accepted_laws.specs.Kinds.{Kind, reference, kind_of, seen_option}
use Rattle.accepted_laws.specs.Overriding.{IsUserMethod}
use Rattle.accepted_laws.specs.Sorts.{HasRightChildren, IsWellSorted, is_argument, is_expression}
use Rattle.accepted_laws.proofs.Breaks.{both_empty, right}
use Rattle.accepted_laws.proofs.DeclarationScopes.{this_has_scope, current_has_scope, runs_in_has_scope}
use Rattle.accepted_laws.proofs.Dispatch.{own_declaration, user_method}
use Rattle.accepted_laws.proofs.MethodNodes.{method_node}
use Rattle.accepted_laws.proofs.Fields.{In as Element, in_flat, in_filter}
use Rattle.accepted_laws.proofs.Interfaces.{row_is, mapped_in, own_of_framework}
use Rattle.accepted_laws.proofs.Judged.{has_object_static}
use Rattle.accepted_laws.proofs.MemberContexts.{member_is}
use Rattle.accepted_laws.proofs.RealScopes.{runs_in_named, current_named}
use Rattle.accepted_laws.proofs.Rows.{IsUserRow}
use Rattle.accepted_laws.proofs.Tools.{some_inj}
use Rattle.scj_rules.proofs.ChainLemmas.{or_left, or_right, same_number}
use Rattle.accepted_nodes.proofs.FormParts.{takes_parts}
use Rattle.accepted_nodes.proofs.FoundMembers.{own_found}
use Rattle.accepted_nodes.proofs.ScopesComplete.{scope_is, static_call, call_rules, call_type_is, class_value, class_is_reference, arguments_typed}
use Rattle.accepted_nodes.proofs.Slots.{position_there, get_in as in_users}
use Rattle.accepted_nodes.proofs.TypeBreaks.{right_call}
use Rattle.accepted_nodes.proofs.TypesComplete.{type_is, unbroken, ValueAt, value_at, child_at, all_of, of_expression, same_first, of_class, receiver_cases}
use Rattle.accepted_nodes.proofs.Uses.{runs_where_called}
use Rattle.accepted_nodes.proofs.ValueChildren.{not_first}
use Rattle.accepted_nodes.proofs.ValueFacts.{typed_of}
use Rattle.accepted_facts.specs.Calls.{IsReceiver, CallFacts}
use Rattle.accepted_facts.specs.Expressions.{Operand}
use Rattle.accepted_facts.specs.Methods.{kind_of_parameter, kinds_taken, kind_given}
use Rattle.accepted_facts.proofs.AccessFacts.{operand_at, type_of_value, scope_of_value, class_judged}
use Rattle.accepted_facts.proofs.Arguments.{pass, seen_there}
use Rattle.accepted_facts.proofs.NameFacts.{binding_is}
use Rattle.accepted_facts.proofs.Parameters.{parameter_has_kind}
use Rattle.accepted_facts.proofs.StatementFacts.{not_false, use_unbroken}

void_kind : (s : Option Scope) → kind_of (Some Void) s ≡ None
unfolding kind_of
void_kind s = refl

none_seen : (home now : Scope) → seen_option home now None ≡ None
unfolding seen_option
none_seen home now = refl

user_is : (f : FoundMethod) → f.method.builtin ≡ None → of_user (Some f) ≡ Some f
user_is f n = ap (λ (o : Option ℕ). if is_some o then None else Some f) n

module _ (forest : Forest) (accepted : IsAccepted forest) (whole : IsForest forest) (sorted : IsWellSorted forest.nodes) where
  abbrev p : Declarations
  p = declarations_of forest

  abbrev types : Types
  types = type_at_node p

  abbrev scopes : Scopes
  scopes = scope_at_node p

  abbrev At : ℕ → ℕ → ℕ → ℕ → Type 0
  At b c id x = ValueAt forest accepted whole sorted b c id x

  -- ---- numbers of methods

  of_row : (y j : ℕ) (row : ClassRow) (m : DeclaredMethod) → IsUserRow p.nodes p.users j row → Element m row.methods → (n : ℕ) × (method_number p.nodes p.users m.declared.node ≡ Some n)
  unfolding user_row method_number method_nodes
  of_row y j row m u h =
      let q = mapped_in (method_at p.nodes) m u.class.members (subst (Element m) (ap (λ (r : ClassRow). r.methods) u.is) h) in
      let n = method_node p.nodes q.0 m q.2 in
      let callable : is_callable_node p.nodes q.0 ≡ true = or_left (is_some (method_at p.nodes q.0)) (is_some (constructor_at p.nodes q.0)) (ap is_some q.2) in
      let among = in_flat (λ (c : WrittenClass). filter (is_callable_node p.nodes) c.members) q.0 u.class p.users (in_users p.users j u.class u.is_there) (in_filter (is_callable_node p.nodes) q.0 u.class.members q.1 callable) in
      let k = position_there q.0 (flat_map (λ (c : WrittenClass). filter (is_callable_node p.nodes) c.members) p.users) among in
      (length framework_methods + k.0, ap (λ x. option_map (λ k. length framework_methods + k) (position (λ other. x == other) (flat_map (λ (c : WrittenClass). filter (is_callable_node p.nodes) c.members) p.users))) n.number ∙ ap (option_map (λ k. length framework_methods + k)) k.1)

  -- a method that a user class declares has a number
  pub method_has_number : (y : ℕ) (name : List ℕ) (f : FoundMethod) → own_method p.classes name y ≡ Some f → is_some f.method.builtin ≡ false → (n : ℕ) × (method_number p.nodes p.users f.method.declared.node ≡ Some n)
  method_has_number y name f e b =
      let d = own_declaration forest accepted y name f e in
      elim (row_is forest accepted y d.row d.is_row) as (λ z. (n : ℕ) × (method_number p.nodes p.users f.method.declared.node ≡ Some n)) [
        | inl k ↦ absurd (true≢false (sym (own_of_framework forest accepted y d.row name f d.is_row k e) ∙ b))
        | inr u ↦ of_row y u.0 d.row f.method u.2 d.among
      ]

  -- ---- what the rules on uses say of a call

  record UseOfCall (id : ℕ) (name : List ℕ) (object : Option ℕ) (arguments : List ℕ) : Type 0 where
    runs : holds (called_user_method p types id object name) (misfits_call p scopes id object) ≡ false
    passes : found_at (called_user_method p types id object name) (e3_of_call p scopes (receiver_scope p scopes id object) (current_at p id) arguments) ≡ []

  use_of_call : (id : ℕ) (position : Position) (name : List ℕ) (object : Option ℕ) (arguments : List ℕ) → use_breaks p types scopes id (Call position name object arguments) ≡ [] → UseOfCall id name object arguments
  unfolding use_breaks e1 e2 e3
  use_of_call id position name object arguments e =
      let node : Node = Call position name object arguments in
      let one = both_empty (broken (holds (called_user_method p types id object name) (misfits_call p scopes id object)) E2 position)
      (found_at (called_user_method p types id object name) (e3_of_call p scopes (receiver_scope p scopes id object) (current_at p id) arguments)
      ++ (e4_and_e5 p types scopes id node ++ (e6 p types scopes id node ++ (e7 p types scopes id node ++ (e8 p types scopes id node ++ (e9 p types scopes id node ++ e10 p types scopes id node)))))) e in
      let two = both_empty (found_at (called_user_method p types id object name) (e3_of_call p scopes (receiver_scope p scopes id object) (current_at p id) arguments))
      (e4_and_e5 p types scopes id node ++ (e6 p types scopes id node ++ (e7 p types scopes id node ++ (e8 p types scopes id node ++ (e9 p types scopes id node ++ e10 p types scopes id node))))) one.1 in
      record { runs = right _ _ _ one.0; passes = two.0 }

  -- ---- the parts of a call whose receiver, method and arguments are known

  record Called (b c id : ℕ) (name : List ℕ) (object : Option ℕ) (arguments : List ℕ) (f : FoundMethod) : Type 0 where
    position : Position
    stands : slice_get forest.nodes id ≡ Some (Call position name object arguments)
    inside : Inside p b c id
    r : Receiver
    is_receiver : call_receiver p types id object ≡ Some r
    is_method : called_method p r name ≡ Some f
    not_builtin : f.method.builtin ≡ None
    plain : f.method.declared.modifiers.is_static ≡ false
    ts : List Ty
    typed : all_types types arguments ≡ Some ts
    values : (x : ℕ) → is_among x arguments ≡ true → At b c id x
    operands : (x : ℕ) (k : Kind) → is_among x arguments ≡ true → Judged p x (Some k) → Operand p b c id x k
    class : ℕ
    of_receiver : class_of_receiver r ≡ Some class
    scope : Scope
    is_scope : receiver_scope p scopes id object ≡ Some scope
    receiver_is : IsReceiver p b c id object class scope

  user_called : (id : ℕ) (name : List ℕ) (object : Option ℕ) (r : Receiver) (f : FoundMethod) → call_receiver p types id object ≡ Some r → called_method p r name ≡ Some f → f.method.builtin ≡ None → called_user_method p types id object name ≡ Some f
  user_called id name object r f e m n = ap (λ (o : Option Receiver). of_user (option_and_then (λ r. called_method p r name) o)) e ∙ ap of_user m ∙ user_is f n

  call_bound : (id : ℕ) (position : Position) (name : List ℕ) (object : Option ℕ) (arguments : List ℕ) (f : FoundMethod) (r : Receiver) (n class : ℕ) → slice_get forest.nodes id ≡ Some (Call position name object arguments) → call_receiver p types id object ≡ Some r → called_method p r name ≡ Some f → f.method.builtin ≡ None → f.method.declared.modifiers.is_static ≡ false
      → method_number p.nodes p.users f.method.declared.node ≡ Some n → class_of_receiver r ≡ Some class → (f.on == managed_memory) ≡ false → binding_at_node p id ≡ MethodCalled (record { id = n; on = class; gives = not (is_same_type f.method.declared.declared_type void_type) })
  unfolding binding_of method_binding target called_on
  call_bound id position name object arguments f r n class there e m b plain k cl on =
      binding_is forest accepted whole sorted id (Call position name object arguments) there
      ∙ ap (λ (o : Option Receiver). plain_or (λ r. plain_or (method_binding p types r arguments) (called_method p r name)) o) e
      ∙ ap (λ (o : Option FoundMethod). plain_or (method_binding p types r arguments) o) m
      ∙ ap (λ (o : Option ℕ). elim o as (λ _. Binding) [ Some number ↦ Builtin (target types r f arguments number) | None ↦ plain_or (user_method_binding types r arguments f) (method_number p.nodes p.users f.method.declared.node) ]) b
      ∙ ap (plain_or (user_method_binding types r arguments f)) k
      ∙ ap (λ t. if t then StaticMethod (target types r f arguments n) else MethodCalled (target types r f arguments n)) plain
      ∙ ap (λ t. MethodCalled (record { id = n; on = if t then unwrap_or (second_class types arguments) f.on else (if f.method.declared.modifiers.is_static then f.on else unwrap_or (class_of_receiver r) f.on); gives = not (is_same_type f.method.declared.declared_type void_type) })) on
      ∙ ap (λ t. MethodCalled (record { id = n; on = if t then f.on else unwrap_or (class_of_receiver r) f.on; gives = not (is_same_type f.method.declared.declared_type void_type) })) plain
      ∙ ap (λ (o : Option ℕ). MethodCalled (record { id = n; on = unwrap_or o f.on; gives = not (is_same_type f.method.declared.declared_type void_type) })) cl

  user_not_memory : (class : ℕ) → is_user_class class ≡ true → (class == managed_memory) ≡ false
  user_not_memory class u = go (class == managed_memory) refl
    where
      go : (t : Bool) → (class == managed_memory) ≡ t → (class == managed_memory) ≡ false
      go false e = e
      go true e = absurd (true≢false (sym u ∙ ap is_user_class (same_number class managed_memory e)))

  -- what a call on an object gives
  call_gives : (id : ℕ) (position : Position) (name : List ℕ) (object : Option ℕ) (arguments : List ℕ) (f : FoundMethod) (r : Receiver) (ts : List Ty) (scope now : Scope) (o : Option Kind) → slice_get forest.nodes id ≡ Some (Call position name object arguments) → call_receiver p types id object ≡ Some r → called_method p r name ≡ Some f → all_types types arguments ≡ Some ts
      → receiver_scope p scopes id object ≡ Some scope → current_at p id ≡ Some now → HasType (types id) → Judged p id o → o ≡ seen_option scope now (kind_given p f)
  unfolding type_of scope_of scope_of_call kind_given Judged
  call_gives id position name object arguments f r ts scope now o there e m k s h t judged = by_kind o judged
    where
      node : Node
      node = Call position name object arguments

      typed : types id ≡ declared_type_of p f.method.declared
      typed =
          t.1 ∙ sym (call_type_is forest accepted whole sorted id name object arguments r ts t.0 f e k m (sym (type_is forest accepted whole sorted id node there) ∙ t.1))

      scoped : scopes id ≡ option_and_then (substitute (Some scope) (Some now)) (result_scope p f.on f.method)
      scoped =
          scope_is forest accepted whole sorted id node there ∙ ap (option_and_then (λ r. option_and_then (scope_of_call p (receiver_scope p scopes id object) (current_at p id)) (called_method p r name))) e
          ∙ ap (option_and_then (scope_of_call p (receiver_scope p scopes id object) (current_at p id))) m
          ∙ ap (λ (x : Option Scope). option_and_then (substitute x (current_at p id)) (result_scope p f.on f.method)) s ∙ ap (λ (x : Option Scope). option_and_then (substitute (Some scope) x) (result_scope p f.on f.method)) h

      by_kind : (o : Option Kind) → Judged p id o → o ≡ seen_option scope now (kind_of (declared_type_of p f.method.declared) (result_scope p f.on f.method))
      by_kind None j = sym (ap (λ (x : Option Ty). seen_option scope now (kind_of x (result_scope p f.on f.method))) (sym typed ∙ j) ∙ ap (seen_option scope now) (void_kind (result_scope p f.on f.method)) ∙ none_seen scope now)
      by_kind (Some y) j = sym j ∙ ap (λ x. kind_of x (scopes id)) typed ∙ ap (kind_of (declared_type_of p f.method.declared)) scoped ∙ seen_there scope now (declared_type_of p f.method.declared) (result_scope p f.on f.method)

  current_is : (b c id : ℕ) (now : Scope) → Inside p b c id → current_in p c b ≡ Some now → current_at p id ≡ Some now
  unfolding current_at
  current_is b c id now i e = ap (λ (o : Option ℕ). option_and_then (λ class. option_and_then (current_in p class) (context p id).member) o) i.class ∙ ap (option_and_then (current_in p c)) i.member ∙ e

  kind_there : (f : FoundMethod) (d : Declared) → IsUserMethod p f → Element d f.method.parameters → (k : Kind) × (kind_of (declared_type_of p d) (parameter_scope p f.on f.method d) ≡ Some k)
  unfolding kind_of_parameter
  kind_there f d u h = parameter_has_kind forest accepted whole sorted f d u h

  kinds_are : (f : FoundMethod) (ks : List Kind) → map (λ d. kind_of (declared_type_of p d) (parameter_scope p f.on f.method d)) f.method.parameters ≡ map (λ (k : Kind). Some k) ks → kinds_taken p f ≡ map (λ (k : Kind). Some k) ks
  unfolding kinds_taken kind_of_parameter
  kinds_are f ks e = e

  -- T6 at a call with a method
  pub arguments_accepted : (id : ℕ) (name : List ℕ) (object : Option ℕ) (arguments : List ℕ) (r : Receiver) (ts : List Ty) (f : FoundMethod) → call_receiver p types id object ≡ Some r → called_method p r name ≡ Some f → all_types types arguments ≡ Some ts → lacks_method p r name ≡ false
      → holds (call_receiver p types id object) (λ r. misfits_method p types r name arguments) ≡ false → accepts_arguments p f.method.parameters ts ≡ true
  unfolding misfits_method
  arguments_accepted id name object arguments r ts f e m k l h =
      not_false (accepts_arguments p f.method.parameters ts)
      (sym (ap (λ (o : Option Receiver). holds o (λ r. misfits_method p types r name arguments)) e
      ∙ ap (λ t. not t && holds (called_method p r name) (λ (f : FoundMethod). holds (all_types types arguments) (λ ts. not (accepts_arguments p f.method.parameters ts)))) l
      ∙ ap (λ (o : Option FoundMethod). holds o (λ (f : FoundMethod). holds (all_types types arguments) (λ ts. not (accepts_arguments p f.method.parameters ts)))) m
      ∙ ap (λ (o : Option (List Ty)). holds o (λ ts. not (accepts_arguments p f.method.parameters ts))) k) ∙ h)

  -- E3 at a call with a method
  arguments_scoped : (id : ℕ) (name : List ℕ) (object : Option ℕ) (arguments : List ℕ) (f : FoundMethod) (scope now : Scope) → called_user_method p types id object name ≡ Some f → receiver_scope p scopes id object ≡ Some scope → current_at p id ≡ Some now
      → found_at (called_user_method p types id object name) (e3_of_call p scopes (receiver_scope p scopes id object) (current_at p id) arguments) ≡ [] → misfit_arguments p scopes (λ d. option_and_then (substitute (Some scope) (Some now)) (parameter_scope p f.on f.method d)) f.method.parameters arguments ≡ []
  unfolding e3_of_call
  arguments_scoped id name object arguments f scope now e s h k =
      sym (ap (λ (o : Option FoundMethod). found_at o (e3_of_call p scopes (receiver_scope p scopes id object) (current_at p id) arguments)) e
      ∙ ap (λ (x : Option Scope). misfit_arguments p scopes (λ d. option_and_then (substitute x (current_at p id)) (parameter_scope p f.on f.method d)) f.method.parameters arguments) s
      ∙ ap (λ (x : Option Scope). misfit_arguments p scopes (λ d. option_and_then (substitute (Some scope) x) (parameter_scope p f.on f.method d)) f.method.parameters arguments) h) ∙ k

  -- a call whose parts are known
  call_of : (b c id : ℕ) (name : List ℕ) (object : Option ℕ) (arguments : List ℕ) (f : FoundMethod) (o : Option Kind) → Called b c id name object arguments f → HasType (types id) → Judged p id o → CallFacts p b c id object arguments f o
  call_of b c id name object arguments f o x t judged =
      let q = of_class (class_of_receiver x.r) (λ class. method_named p.classes class name) f x.is_method in
      let same : q.0 ≡ x.class = some_inj q.0 x.class (sym q.1 ∙ x.of_receiver) in
      let y = own_found forest accepted whole sorted q.0 name f q.2 in
      let d = own_declaration forest accepted y.0 name f y.1 in
      let plain_builtin : is_some f.method.builtin ≡ false = ap is_some x.not_builtin in
      let user = user_method forest accepted whole sorted y.0 name f y.1 plain_builtin in
      let n = method_has_number y.0 name f y.1 plain_builtin in
      let i = x.inside in
      let class_of_b : (context p b).class ≡ Some c = (member_is forest whole sorted id b i.member).same_class ∙ i.class in
      let now = current_has_scope forest accepted whole sorted c b class_of_b in
      let here : current_at p id ≡ Some now.0 = current_is b c id now.0 i now.1 in
      let runs = runs_in_has_scope forest accepted whole sorted f.on f.method.declared.node f.method user.is_there user.stands_in_class in
      let uses = use_of_call id x.position name object arguments (use_unbroken forest accepted whole sorted id (Call x.position name object arguments) x.stands) in
      let called = user_called id name object x.r f x.is_receiver x.is_method x.not_builtin in
      let e2_at : misfits_runs_in p id (Some x.scope) runs.0 ≡ false = sym (ap (λ (o : Option FoundMethod). holds o (misfits_call p scopes id object)) called
      ∙ ap (λ (s : Option Scope). holds s (misfits_runs_in p id (receiver_scope p scopes id object))) runs.1 ∙ ap (λ (s : Option Scope). misfits_runs_in p id s runs.0) x.is_scope) ∙ uses.runs in
      let w = right_call p types id x.position name object arguments (unbroken forest accepted whole sorted id (Call x.position name object arguments) x.stands) in
      let rules = call_rules forest accepted whole sorted id name object arguments x.r x.ts x.is_receiver x.typed w in
      let accepts = arguments_accepted id name object arguments x.r x.ts f x.is_receiver x.is_method x.typed rules.has_method w.arguments_fit in
      let e3_at = arguments_scoped id name object arguments f x.scope now.0 called x.is_scope here uses.passes in
      let passed = pass forest accepted whole sorted b c id arguments x.ts f.method.parameters (parameter_scope p f.on f.method) x.scope now.0 x.values x.operands x.typed accepts e3_at (λ d h. kind_there f d user h) in
      record {
        now = now.0;
        is_now = now.1;
        class = x.class;
        scope = x.scope;
        receiver = x.receiver_is;
        named = ap (λ n. method_named p.classes x.class n) (sym d.same_name) ∙ ap (λ k. method_named p.classes k name) (sym same) ∙ q.2;
        is_user = user;
        n = n.0;
        numbered = n.1;
        binding = call_bound id x.position name object arguments f x.r n.0 x.class x.stands x.is_receiver x.is_method x.not_builtin x.plain n.1 x.of_receiver (user_not_memory f.on user.on_user_class);
        runs = runs.0;
        is_runs = runs.1;
        runs_here = runs_where_called p id x.scope now.0 runs.0 (runs_in_named p runs.0 f.on f.method runs.1) (current_named p now.0 c b now.1) here e2_at;
        taken = passed.0;
        takes = record { are = kinds_are f passed.0 passed.1 };
        passes = passed.2;
        gives = call_gives id x.position name object arguments f x.r x.ts x.scope now.0 o x.stands x.is_receiver x.is_method x.typed x.is_scope here t judged;
      }

  typed_of_judgement : (id : ℕ) (o : Option Kind) → Judged p id o → HasType (types id)
  unfolding Judged
  typed_of_judgement id None j = (Void, j)
  typed_of_judgement id (Some k) j = typed_of (types id) (scopes id) k j

  -- T13: a method of the own object is called where there is one
  own_called : (id class : ℕ) (name : List ℕ) (f : FoundMethod) → called_method p (own_object class) name ≡ Some f → f.method.declared.modifiers.is_static ≡ false → lacks_method p (own_object class) name ≡ false → lacks_object_of_method p id name (own_object class) ≡ false → not (has_object p id) ≡ false
  unfolding names_class is_value
  own_called id class name f m plain l e = first (not (has_object p id)) _ (ap (λ t. not t && holds (called_method p (own_object class) name) (λ (f : FoundMethod). not f.method.declared.modifiers.is_static)) l
      ∙ ap (λ (o : Option FoundMethod). holds o (λ (f : FoundMethod). not f.method.declared.modifiers.is_static)) m ∙ ap not plain) e
    where
      first : (a b : Bool) → b ≡ true → (a && b) ≡ false → a ≡ false
      first true b h e = absurd (true≢false (sym h ∙ e))
      first false b h e = refl

  -- what a call of a user's method on an object has
  pub call_facts : (b c id : ℕ) (position : Position) (name : List ℕ) (object : Option ℕ) (arguments : List ℕ) (f : FoundMethod) (o : Option Kind) → slice_get forest.nodes id ≡ Some (Call position name object arguments) → Inside p b c id → method_called p types id object name ≡ Some f → f.method.builtin ≡ None → f.method.declared.modifiers.is_static ≡ false → Judged p id o
      → CallFacts p b c id object arguments f o
  unfolding children is_argument is_expression object_of takes_parts HasRightChildren declared_before call_receiver receiver_scope class_of_receiver
  call_facts b c id position name None arguments f o there inside method user plain judged =
      let node : Node = Call position name None arguments in
      let s = sorted.each id node there in
      let values : (x : ℕ) → is_among x arguments ≡ true → At b c id x = λ x among. child_at forest accepted whole sorted b c id node there inside refl x among (all_of forest accepted whole sorted x arguments s.1 among) refl refl in
      let ts = arguments_typed forest accepted whole sorted b c id arguments values in
      let e : call_receiver p types id None ≡ Some (own_object c) = ap (option_map (λ class. own_object class)) inside.class in
      let m : called_method p (own_object c) name ≡ Some f = sym (ap (option_and_then (λ r. called_method p r name)) e) ∙ method in
      let w = right_call p types id position name None arguments (unbroken forest accepted whole sorted id node there) in
      let rules = call_rules forest accepted whole sorted id name None arguments (own_object c) ts.0 e ts.1 w in
      let h = this_has_scope forest accepted whole sorted c in
      call_of b c id name None arguments f o (record {
        position = position;
        stands = there;
        inside = inside;
        r = own_object c;
        is_receiver = e;
        is_method = m;
        not_builtin = user;
        plain = plain;
        ts = ts.0;
        typed = ts.1;
        values = values;
        operands = λ x k among j. operand_at forest accepted whole sorted b c id x node k there among refl (values x among) j;
        class = c;
        of_receiver = refl;
        scope = h.0;
        is_scope = ap (option_and_then (this_in p)) inside.class ∙ h.1;
        receiver_is = (record { has_object = has_object_static p id b inside.member (own_called id c name f m plain rules.has_method rules.has_object); home = h.0; is_home = h.1 }, refl, refl);
      }) (typed_of_judgement id o judged) judged
  call_facts b c id position name (Some object) arguments f o there inside method user plain judged =
      let node : Node = Call position name (Some object) arguments in
      let s = sorted.each id node there in
      let x = of_expression forest accepted whole sorted object s.0 in
      let values : (x : ℕ) → is_among x arguments ≡ true → At b c id x = λ x among. child_at forest accepted whole sorted b c id node there inside refl x (or_right (x == object) (is_among x arguments) among) (all_of forest accepted whole sorted x arguments s.1 among) (not_first forest whole accepted id x object node arguments there refl among) refl in
      let ts = arguments_typed forest accepted whole sorted b c id arguments values in
      let at : class_at_name p object x.node ≡ None → At b c id object = λ k. value_at forest accepted whole sorted b c id node there inside refl object (same_first forest accepted whole sorted object arguments) x k refl in
      let w = right_call p types id position name (Some object) arguments (unbroken forest accepted whole sorted id node there) in
      elim (receiver_cases forest accepted whole sorted object x.node x.is_there (λ k. type_of_value forest accepted whole sorted b c id object (at k))) as (λ z. CallFacts p b c id (Some object) arguments f o) [
        | inl q ↦ absurd (
            let m : called_method p (the_class q.0) name ≡ Some f = sym (ap (option_and_then (λ r. called_method p r name)) q.2) ∙ method in
            let rules = call_rules forest accepted whole sorted id name (Some object) arguments (the_class q.0) ts.0 q.2 ts.1 w in
            true≢false (sym (static_call forest accepted whole sorted id q.0 name f m rules.has_method rules.has_object) ∙ plain))
        | inr q ↦ (
            let m : called_method p (the_value q.0) name ≡ Some f = sym (ap (option_and_then (λ r. called_method p r name)) q.3) ∙ method in
            let v = at q.1 in
            let k = of_class (class_of_receiver (the_value q.0)) (λ class. method_named p.classes class name) f m in
            let same = class_value forest accepted whole sorted q.0 k.0 k.1 in
            let h = scope_of_value forest accepted whole sorted b c id object q.0 v q.2 (class_is_reference forest accepted whole sorted q.0 k.0 same) in
            call_of b c id name (Some object) arguments f o (record {
              position = position;
              stands = there;
              inside = inside;
              r = the_value q.0;
              is_receiver = q.3;
              is_method = m;
              not_builtin = user;
              plain = plain;
              ts = ts.0;
              typed = ts.1;
              values = values;
              operands = λ y k among j. operand_at forest accepted whole sorted b c id y node k there (or_right (y == object) (is_among y arguments) among) refl (values y among) j;
              class = k.0;
              of_receiver = k.1;
              scope = h.0;
              is_scope = h.1;
              receiver_is = operand_at forest accepted whole sorted b c id object node (reference (ClassTy k.0) h.0) there (same_first forest accepted whole sorted object arguments) refl v (class_judged forest accepted whole sorted object k.0 h.0 (q.2 ∙ ap (λ t. Some t) same) h.1);
            }) (typed_of_judgement id o judged) judged)
      ]
