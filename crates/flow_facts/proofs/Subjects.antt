-- The operations of the subjects of guards, and of the conditions that ask of them: each subject is pushed by one
-- operation, and a condition asks directly behind its two subjects.
use Rattle.std.proofs.Common.{◌≡◌, ℕ, List, [], ◌∷◌, ◌++◌, position, refl, sym, ap, ◌∙◌, subst, true≢false, Option, Some, None, option_and_then, option_map, Bool, true, false, ◌==◌, if◌then◌else◌, slice_get}
use Rattle.scj_base.specs.declared.positions.Position.{Position}
use Rattle.scj_builtins.specs.Framework.{managed_memory_alloc_in_same}
use Rattle.scj_tree.specs.declared.nodes.Node.{Node}
use Rattle.scj_tree.specs.declared.nodes.Node.TheVariants.{SimpleName, This as ThisNode, Call, If}
use Rattle.scj_tree.specs.Forest.{Forest, IsForest}
use Rattle.scj_tree.specs.Recursion.{below}
use Rattle.scj_tree.specs.Shape.{optional, children}
use Rattle.scj_rules.specs.declared.typing.Binding.TheVariants.{Local as LocalVariable}
use Rattle.scj_rules.specs.declared.typing.FoundField.{FoundField}
use Rattle.scj_rules.specs.declared.typing.Guard.{Guard}
use Rattle.scj_rules.specs.declared.typing.Meaning.{Meaning}
use Rattle.scj_rules.specs.declared.typing.Meaning.TheVariants.{Class as a_class, Field as a_field, Nothing as nothing, Variable as a_variable}
use Rattle.scj_rules.specs.declared.typing.Receiver.{Receiver}
use Rattle.scj_rules.specs.declared.typing.Subject.{Subject}
use Rattle.scj_rules.specs.declared.typing.Subject.TheVariants.{This as this_object, Variable as the_variable}
use Rattle.scj_rules.specs.declared.views.Body.TheVariants.{Written}
use Rattle.scj_rules.specs.Words.{is_among, holds}
use Rattle.scj_rules.specs.Classes.{FoundMethod, field_named, class_number}
use Rattle.scj_rules.specs.CheckedProgram.{IsReadFromTexts}
use Rattle.scj_rules.specs.Contexts.{Declarations, declarations_of, context, variable_named}
use Rattle.scj_rules.specs.LimitRules.{variables_of}
use Rattle.scj_rules.specs.Types.{meaning, class_meaning, call_receiver, called_method, called_builtin}
use Rattle.scj_rules.specs.Bindings.{plain_or, target, variable_binding, meaning_binding, binding_of, bindings_in}
use Rattle.scj_rules.specs.Guards.{subject_of_meaning, subject_of, subject_at, asked_by, asked_at, is_undone, condition_of, guard_at}
use Rattle.scj_rules.specs.Phases.{IsAccepted}
use Rattle.scj_rules.proofs.ChainLemmas.{among-behind, or_right, same_number}
use Rattle.scj_rules.proofs.ParentLemmas.{child-less}
use Rattle.accepted_laws.specs.Judgements.{Inside, binding_at_node, type_at_node}
use Rattle.accepted_laws.specs.Sorts.{IsWellSorted, HasRightChildren, Of, is_argument}
use Rattle.accepted_laws.proofs.InnerNodes.{is_inner}
use Rattle.accepted_laws.proofs.Fields.{in_among}
use Rattle.accepted_laws.proofs.MemberVariables.{known_is_variable}
use Rattle.accepted_laws.proofs.Tools.{some_inj}
use Rattle.accepted_nodes.proofs.Slots.{position_there, position_stands}
use Rattle.accepted_nodes.proofs.TypesComplete.{same_first, variable_meant}
use Rattle.accepted_nodes.proofs.ValueChildren.{inside_child}
use Rattle.accepted_facts.proofs.NameFacts.{binding_is}
use Rattle.scj_model.specs.declared.operations.Op.{Op}
use Rattle.scj_model.specs.declared.operations.Op.TheVariants.{This as THIS, Load as LOAD, Same as SAME}
use Rattle.scj_model.specs.Code.{Code}
use Rattle.scj_model.specs.Ops.{name_ops, builtin_ops, call_ops, node_ops, ops_of}
use Rattle.scj_model.specs.Operations.{bound_local}
use Rattle.scope_flow.specs.Guards.{guard_of, PushesSubject, pushes_this, pushes_variable, AsksGuard}
use Rattle.scope_flow.proofs.Flows.{ops_at}
use Rattle.scope_flow.proofs.Known.{below_lt}
use Rattle.flow_facts.proofs.FrameworkCalls.{builtin_bound}
use Rattle.flow_facts.proofs.Locals.{position_turned}

module _ (forest : Forest) (accepted : IsAccepted forest) (whole : IsForest forest) (sorted : IsWellSorted forest.nodes)
    (is_read : IsReadFromTexts forest) where
  abbrev p : Declarations
  p = declarations_of forest

  abbrev code : Code
  code = record { program = p; bindings = bindings_in p }

  -- ---- subjects

  -- one operation pushes the subject's value
  pub record Pushed (b y : ℕ) (s : Subject) : Type 0 where
    pub op : Op
    pub ops : ops_of code y ≡ op ∷ []
    pub pushes : PushesSubject code (Written b) s op

  -- a name that means a variable names it
  pub names_variable : (id v : ℕ) (name : List ℕ) → meaning p id name ≡ a_variable v → variable_named p id name ≡ Some v
  unfolding meaning class_meaning
  names_variable id v name e =
      go (variable_named p id name) (option_and_then (λ class. field_named p.classes class name) (context p id).class)
      (context p id).before_dot (class_number p.names name) e
    where
      last : Bool → Option ℕ → Meaning
      last t o = if t then (elim o as (λ _. Meaning) [ None ↦ nothing | Some class ↦ a_class class ]) else nothing

      go : (u : Option ℕ) (f : Option FoundField) (t : Bool) (o : Option ℕ) →
          (elim u as (λ _. Meaning) [
            | Some v ↦ a_variable v
            | None ↦ elim f as (λ _. Meaning) [ Some f ↦ a_field f | None ↦ last t o ]
          ]) ≡ a_variable v → u ≡ Some v
      go (Some w) f t o e = let same : w ≡ v = cc (e) in ap (λ n. Some n) same
      go None (Some f) t o e = absurd (cc (e))
      go None None true (Some class) e = absurd (cc (e))
      go None None true None e = absurd (cc (e))
      go None None false o e = absurd (cc (e))

  variable_pushed : (b c y v : ℕ) (position : Position) (name : List ℕ) →
      slice_get forest.nodes y ≡ Some (SimpleName position name) → Inside p b c y → meaning p y name ≡ a_variable v →
      Pushed b y (the_variable v)
  unfolding binding_of meaning_binding variable_binding node_ops name_ops bound_local declarations_of
  variable_pushed b c y v place name there inside meant =
      let d = variable_meant forest accepted whole sorted y v name (names_variable y v name meant) in
      let m = known_is_variable forest whole sorted y b v inside.member d.2 in
      let n = position_there v (variables_of p b) (in_among v (variables_of p b) m) in
      let bound : binding_at_node p y ≡ LocalVariable n.0 =
      binding_is forest accepted whole sorted y (SimpleName place name) there ∙ (ap (meaning_binding p y) meant
      ∙ (ap (λ (o : Option ℕ). plain_or (λ k. LocalVariable k)
      (option_and_then (λ member. position (λ w. w == v) (variables_of p member)) o)) inside.member
      ∙ ap (plain_or (λ k. LocalVariable k)) (position_turned v (variables_of p b) ∙ n.1))) in
      record {
        op = LOAD y;
        ops = ops_at code y (SimpleName place name) there ∙ ap (name_ops y) bound;
        pushes = pushes_variable y v n.0 (ap bound_local bound) (position_stands v (variables_of p b) n.0 n.1);
      }

  pub subject_pushed : (b c y : ℕ) (s : Subject) → Inside p b c y → subject_at p y ≡ Some s → Pushed b y s
  unfolding subject_of subject_of_meaning node_ops declarations_of
  subject_pushed b c y s inside e = on_node (slice_get forest.nodes y) refl e
    where
      by_meaning : (position : Position) (name : List ℕ) → slice_get forest.nodes y ≡ Some (SimpleName position name) →
          (m : Meaning) → meaning p y name ≡ m → subject_of_meaning m ≡ Some s → Pushed b y s
      by_meaning position name there (a_variable v) meant e =
          subst (Pushed b y) (some_inj (the_variable v) s e) (variable_pushed b c y v position name there inside meant)
      by_meaning position name there _ meant e = absurd (cc (e))

      on_node : (o : Option Node) → slice_get forest.nodes y ≡ o → option_and_then (subject_of p y) o ≡ Some s →
          Pushed b y s
      on_node None there e = absurd (cc (e))
      on_node (Some (ThisNode position)) there e =
          subst (Pushed b y) (some_inj this_object s e)
          (record { op = THIS y; ops = ops_at code y (ThisNode position) there; pushes = pushes_this y })
      on_node (Some (SimpleName position name)) there e = by_meaning position name there (meaning p y name) refl e
      on_node (Some _) there e = absurd (cc (e))

  -- ---- a condition that asks

  abbrev asking_of : Subject → Subject → Guard
  asking_of x y = record { first = x; second = y }

  pub record AskedCall (condition : ℕ) (guard : Guard) : Type 0 where
    pub position : Position
    pub name : List ℕ
    pub object : Option ℕ
    pub a : ℕ
    pub b : ℕ
    pub there : slice_get forest.nodes condition ≡ Some (Call position name object (a ∷ b ∷ []))
    pub called : called_builtin p (type_at_node p) condition object name ≡ Some managed_memory_alloc_in_same
    pub first : subject_at p a ≡ Some guard.first
    pub second : subject_at p b ≡ Some guard.second

  asked_call : (condition : ℕ) (guard : Guard) →
      option_and_then (asked_by p (type_at_node p) condition) (slice_get forest.nodes condition) ≡ Some guard →
      AskedCall condition guard
  unfolding asked_by
  asked_call condition guard e = on_node (slice_get forest.nodes condition) refl e
    where
      both : (a b : Option Subject) →
          option_and_then (λ x. option_map {U = Guard} (λ y. asking_of x y) b) a ≡ Some guard →
          (a ≡ Some guard.first) × (b ≡ Some guard.second)
      both None b e = absurd (cc (e))
      both (Some x) None e = absurd (cc (e))
      both (Some x) (Some y) e =
          let same : asking_of x y ≡ guard = some_inj (asking_of x y) guard e in
          (ap (λ (g : Guard). Some g.first) same, ap (λ (g : Guard). Some g.second) same)

      test : Option ℕ → Bool
      test o = holds o (λ number. number == managed_memory_alloc_in_same)

      called_is : (o : Option ℕ) → test o ≡ true → o ≡ Some managed_memory_alloc_in_same
      called_is None e = absurd (true≢false (sym e))
      called_is (Some n) e = ap (λ n. Some n) (same_number n managed_memory_alloc_in_same e)

      by_test : (position : Position) (name : List ℕ) (object : Option ℕ) (a b : ℕ) →
          slice_get forest.nodes condition ≡ Some (Call position name object (a ∷ b ∷ [])) → (t : Bool) →
          test (called_builtin p (type_at_node p) condition object name) ≡ t →
          (if t then option_and_then
          (λ x. option_map {U = Guard} (λ y. asking_of x y) (subject_at p b)) (subject_at p a)
          else None) ≡ Some guard → AskedCall condition guard
      by_test position name object a b there false t e = absurd (cc (e))
      by_test position name object a b there true t e =
          let s = both (subject_at p a) (subject_at p b) e in
          record {
            position = position;
            name = name;
            object = object;
            a = a;
            b = b;
            there = there;
            called = called_is (called_builtin p (type_at_node p) condition object name) t;
            first = s.0;
            second = s.1;
          }

      on_node : (o : Option Node) → slice_get forest.nodes condition ≡ o →
          option_and_then (asked_by p (type_at_node p) condition) o ≡ Some guard → AskedCall condition guard
      on_node None there e = absurd (cc (e))
      on_node (Some (Call position name object (a ∷ b ∷ []))) there e =
          by_test position name object a b there
          (test (called_builtin p (type_at_node p) condition object name)) refl e
      on_node (Some (Call position name object [])) there e = absurd (cc (e))
      on_node (Some (Call position name object (a ∷ []))) there e = absurd (cc (e))
      on_node (Some (Call position name object (a ∷ b ∷ d ∷ rest))) there e = absurd (cc (e))
      on_node (Some _) there e = absurd (cc (e))

  -- the call is bound to the method of the framework
  record BuiltinCalled (condition : ℕ) (name : List ℕ) (object : Option ℕ) : Type 0 where
    r : Receiver
    f : FoundMethod
    is_receiver : call_receiver p (type_at_node p) condition object ≡ Some r
    is_method : called_method p r name ≡ Some f
    is_builtin : f.method.builtin ≡ Some managed_memory_alloc_in_same

  builtin_called : (condition : ℕ) (name : List ℕ) (object : Option ℕ) →
      called_builtin p (type_at_node p) condition object name ≡ Some managed_memory_alloc_in_same →
      BuiltinCalled condition name object
  builtin_called condition name object e = go (call_receiver p (type_at_node p) condition object) refl e
    where
      by_method : (r : Receiver) → call_receiver p (type_at_node p) condition object ≡ Some r →
          (m : Option FoundMethod) → called_method p r name ≡ m →
          option_and_then (λ (f : FoundMethod). f.method.builtin) m ≡ Some managed_memory_alloc_in_same →
          BuiltinCalled condition name object
      by_method r is None m e = absurd (cc (e))
      by_method r is (Some f) m e = record { r = r; f = f; is_receiver = is; is_method = m; is_builtin = e }

      go : (o : Option Receiver) → call_receiver p (type_at_node p) condition object ≡ o →
          option_and_then (λ (f : FoundMethod). f.method.builtin)
          (option_and_then (λ r. called_method p r name) o) ≡ Some managed_memory_alloc_in_same →
          BuiltinCalled condition name object
      go None is e = absurd (cc (e))
      go (Some r) is e = by_method r is (called_method p r name) refl e

  asked_ops : (condition a b : ℕ) (position : Position) (name : List ℕ) (object : Option ℕ) →
      slice_get forest.nodes condition ≡ Some (Call position name object (a ∷ b ∷ [])) →
      called_builtin p (type_at_node p) condition object name ≡ Some managed_memory_alloc_in_same →
      ops_of code condition
      ≡ (below [] condition (ops_of code) a ++ (below [] condition (ops_of code) b ++ [])) ++ SAME condition ∷ []
  unfolding node_ops call_ops builtin_ops target declarations_of
  asked_ops condition a b position name object there called =
      let k = builtin_called condition name object called in
      ops_at code condition (Call position name object (a ∷ b ∷ [])) there
      ∙ ap (call_ops (below [] condition (ops_of code)) condition object (a ∷ b ∷ []))
      (builtin_bound forest accepted whole sorted is_read condition managed_memory_alloc_in_same position name object
      (a ∷ b ∷ []) k.f k.r there k.is_receiver k.is_method k.is_builtin)

  -- ---- the condition of an `if` that is a guard

  -- an argument that is a subject
  record Argument (b k y : ℕ) (s : Subject) : Type 0 where
    op : Op
    ops : below [] k (ops_of code) y ≡ op ∷ []
    pushes : PushesSubject code (Written b) s op

  pushed_argument : (b c k y : ℕ) (s : Subject) (node : Node) → slice_get forest.nodes k ≡ Some node →
      Inside p b c k → is_inner node ≡ true → is_among y (children node) ≡ true → Of is_argument forest.nodes y →
      subject_at p y ≡ Some s → Argument b k y s
  pushed_argument b c k y s node there inside inner among o e =
      let q =
      subject_pushed b c y s (inside_child forest whole accepted b c k y node o.node inside there inner among o.is_there)
      e in
      record {
        op = q.op;
        ops = below_lt [] k (ops_of code) y (child-less forest whole k y node there among) ∙ q.ops;
        pushes = q.pushes;
      }

  pub record Asking (b x condition : ℕ) : Type 0 where
    pub first : Op
    pub second : Op
    pub ops : ops_of code condition ≡ first ∷ (second ∷ (SAME condition ∷ []))
    pub asks : AsksGuard code (Written b) x first second

  pub asked_guard : (x condition part : ℕ) (position : Position) (other : Option ℕ) (guard : Guard) →
      slice_get forest.nodes x ≡ Some (If position condition part other) → guard_of code x ≡ Some guard →
      AskedCall condition guard
  unfolding guard_at condition_of declarations_of
  asked_guard x condition part position other guard there e =
      asked_call condition guard
      (sym (ap (λ (o : Option Node). option_and_then (λ condition.
      option_and_then (asked_by p (type_at_node p) condition) (slice_get forest.nodes condition))
      (option_and_then condition_of o)) there) ∙ asked (asked_at p (type_at_node p) x) e)
    where
      kept : (t : Bool) (g : Guard) → (if t then None else Some g) ≡ Some guard → Some g ≡ Some guard
      kept true g e = absurd (cc (e))
      kept false g e = e

      asked : (o : Option Guard) →
          option_and_then (λ g. if is_undone p x g then None else Some g) o ≡ Some guard → o ≡ Some guard
      asked None e = absurd (cc (e))
      asked (Some g) e = kept (is_undone p x g) g e

  pub guard_asks : (b c x condition part : ℕ) (position : Position) (other : Option ℕ) (guard : Guard) →
      slice_get forest.nodes x ≡ Some (If position condition part other) → Inside p b c condition →
      guard_of code x ≡ Some guard → Asking b x condition
  unfolding children is_inner HasRightChildren declarations_of
  guard_asks b c x condition part position other guard there inside is =
      let q = asked_guard x condition part position other guard there is in
      let node : Node = Call q.position q.name q.object (q.a ∷ q.b ∷ []) in
      let arguments : List ℕ = q.a ∷ q.b ∷ [] in
      let among_first : is_among q.a (children node) ≡ true =
      among-behind q.a (optional q.object) arguments (same_first forest accepted whole sorted q.a (q.b ∷ [])) in
      let among_second : is_among q.b (children node) ≡ true =
      among-behind q.b (optional q.object) arguments
      (or_right (q.b == q.a) (is_among q.b (q.b ∷ [])) (same_first forest accepted whole sorted q.b [])) in
      let right = sorted.each condition node q.there in
      let first = pushed_argument b c condition q.a guard.first node q.there inside refl among_first right.1.0 q.first in
      let second =
      pushed_argument b c condition q.b guard.second node q.there inside refl among_second right.1.1.0 q.second in
      record {
        first = first.op;
        second = second.op;
        ops =
            asked_ops condition q.a q.b q.position q.name q.object q.there q.called
            ∙ (ap (λ xs. (xs ++ (below [] condition (ops_of code) q.b ++ [])) ++ SAME condition ∷ []) first.ops
            ∙ ap (λ xs. (first.op ∷ (xs ++ [])) ++ SAME condition ∷ []) second.ops);
        asks = record { guard = guard; is = is; first_is = first.pushes; second_is = second.pushes };
      }
