-- Calls: the method that is called, and calls of users' methods on objects.
use Rattle.std.proofs.Common.{◌≡◌, ℕ, List, sym, ap, ◌∙◌, subst, Option, Some, None, false, option_and_then, slice_get, refl}
use Rattle.scj_base.specs.declared.positions.Position.{Position}
use Rattle.scj_tree.specs.declared.nodes.Node.TheVariants.{Call}
use Rattle.scj_tree.specs.Forest.{Forest, IsForest}
use Rattle.scj_rules.specs.declared.typing.Scope.{Scope}
use Rattle.scj_rules.specs.declared.typing.Ty.{Ty}
use Rattle.scj_rules.specs.declared.typing.Ty.TheVariants.{Void, Class as ClassTy}
use Rattle.scj_rules.specs.declared.views.WrittenType.TheVariants.{Long as long_type}
use Rattle.scj_rules.specs.CheckedProgram.{IsReadFromTexts}
use Rattle.scj_rules.specs.Classes.{FoundMethod}
use Rattle.scj_rules.specs.Contexts.{Declarations, declarations_of}
use Rattle.scj_rules.specs.Types.{call_receiver, called_method, all_types, type_written, method_called}
use Rattle.scj_rules.specs.TypeRules.{Types, type_of, call_type, declared_type_of}
use Rattle.scj_rules.specs.Phases.{IsAccepted}
use Rattle.accepted_laws.specs.Judgements.{type_at_node, scope_at_node, HasType, Inside, Judged}
use Rattle.accepted_laws.specs.Kinds.{Kind, reference, seen_option, AllFit, RunsHere}
use Rattle.accepted_laws.specs.Sorts.{IsWellSorted}
use Rattle.accepted_nodes.proofs.ScopesComplete.{of_option}
use Rattle.accepted_nodes.proofs.TypesComplete.{type_is}
use Rattle.accepted_nodes.proofs.ValueFacts.{typed_of}
use Rattle.accepted_facts.specs.Calls.{IsReceiver}
use Rattle.accepted_facts.specs.Methods.{kind_given as kind_given_by}
use Rattle.accepted_facts.proofs.CallFacts.{call_facts}
use Rattle.scj_model.specs.Code.{Code, code_of}
use Rattle.scope_flow.specs.Signatures.{Signature, IsBody}
use Rattle.scope_flow.specs.CallFacts.{ReceiverIs, CallFact}
use Rattle.flow_facts.proofs.Arrays.{is_current}
use Rattle.flow_facts.proofs.Bodies.{signature, taken_real, method_takes}
use Rattle.flow_facts.proofs.Dispatched.{each_dispatched}
use Rattle.flow_facts.proofs.Invocations.{call_value}
use Rattle.flow_facts.proofs.Literals.{value_of, values_of, object_of_own}
use Rattle.flow_facts.proofs.NewObjects.{all_go, names_now}

module _ (forest : Forest) (accepted : IsAccepted forest) (whole : IsForest forest) (sorted : IsWellSorted forest.nodes)
    (is_read : IsReadFromTexts forest) where
  abbrev p : Declarations
  p = declarations_of forest

  abbrev types : Types
  types = type_at_node p

  abbrev code : Code
  code = code_of forest

  -- ---- the method that is called

  has_type : (id : ℕ) (o : Option Kind) → Judged p id o → HasType (types id)
  unfolding Judged
  has_type id None j = (Void, j)
  has_type id (Some k) j = typed_of (types id) (scope_at_node p id) k j

  -- a judged call has a method, whose result has a type
  pub record Invoked (id : ℕ) (name : List ℕ) (object : Option ℕ) : Type 0 where
    pub method : FoundMethod
    pub is : method_called p types id object name ≡ Some method
    pub type : Ty
    pub typed : declared_type_of p method.method.declared ≡ Some type
    pub given : types id ≡ Some type

  pub invoked : (id : ℕ) (position : Position) (name : List ℕ) (object : Option ℕ) (arguments : List ℕ) (o : Option Kind) →
      slice_get forest.nodes id ≡ Some (Call position name object arguments) → Judged p id o → Invoked id name object
  unfolding type_of call_type
  invoked id position name object arguments o there j =
      let t = has_type id o j in
      let a =
      of_option (call_receiver p types id object)
      (λ r. option_and_then (λ ts. call_type p r name) (all_types types arguments)) t.0
      (sym (type_is forest accepted whole sorted id (Call position name object arguments) there) ∙ t.1) in
      let b = of_option (all_types types arguments) (λ ts. call_type p a.0 name) t.0 a.2 in
      let c = of_option (called_method p a.0 name) (λ (f : FoundMethod). declared_type_of p f.method.declared) t.0 b.2
      in
      record {
        method = c.0;
        is = ap (option_and_then (λ r. called_method p r name)) a.1
            ∙ c.1;
        type = t.0;
        typed = c.2;
        given = t.1;
      }

  -- a result that has a type isn't `long`
  pub not_long : (f : FoundMethod) (t : Ty) → declared_type_of p f.method.declared ≡ Some t →
      f.method.declared.declared_type ≡ long_type → ⊥
  unfolding type_written
  not_long f t e l = (let z : None ≡ Some t = sym (ap (type_written p.names) l) ∙ e in cc (z))

  -- ---- receivers

  pub receiver_of : (b c id : ℕ) (object : Option ℕ) (class : ℕ) (scope : Scope) →
      IsReceiver p b c id object class scope → ReceiverIs p b c id object class scope
  unfolding object_of_own
  receiver_of b c id None class scope r = (object_of_own p b c r.0, r.1, r.2)
  receiver_of b c id (Some object) class scope r = value_of p b c id object (reference (ClassTy class) scope) r

  -- ---- calls on objects

  pub call_fact : (b c : ℕ) (sig : Signature) (id : ℕ) (position : Position) (name : List ℕ) (object : Option ℕ)
      (arguments : List ℕ) (o : Option Kind) → IsBody p b c sig →
      slice_get forest.nodes id ≡ Some (Call position name object arguments) → Inside p b c id →
      (m : Invoked id name object) → m.method.method.builtin ≡ None →
      m.method.method.declared.modifiers.is_static ≡ false → Judged p id o
      → CallFact code b c sig id object arguments o
  unfolding code_of
  call_fact b c sig id position name object arguments o body there inside m user plain j =
      let f = m.method in
      let x = call_facts forest accepted whole sorted b c id position name object arguments f o there inside m.is user
      plain j in
      let now : x.now ≡ sig.runs_in = is_current forest accepted whole sorted b c sig x.now body x.is_now in
      let q = x.passes in
      let real = taken_real p _ x.taken (method_takes forest accepted whole sorted is_read f x.taken x.is_user x.takes)
      in
      record {
        target = _;
        is = x.binding;
        class = x.class;
        is_on = refl;
        scope = x.scope;
        receiver_is = receiver_of b c id object x.class x.scope x.receiver;
        static = signature x.taken (kind_given_by p f) x.runs;
        kinds = q.given;
        arguments_are = values_of p b c id arguments q.given q.operands;
        fit =
            subst (λ s. AllFit p x.scope s q.given x.taken) now
            (all_go p x.scope x.now q.given x.taken real (names_now p b c x.now x.is_now) q.fit);
        runs = subst (λ s. RunsHere x.scope s x.runs) now x.runs_here;
        each = each_dispatched forest accepted whole sorted is_read x.class x.n f x.taken x.runs x.named x.is_user plain
            x.is_runs x.takes x.numbered (not_long f m.type m.typed);
        is_given = x.gives ∙ ap (λ s. seen_option x.scope s (kind_given_by p f)) now;
        is_left = call_value forest accepted whole sorted id position name object arguments o there j;
      }
