-- What calls of the framework's methods have: their arguments fit, and E7 and E8 hold of those that enter memories.
use Rattle.std.proofs.Common.{◌≡◌, ℕ, List, [], ◌∷◌, ◌++◌, refl, sym, ap, ◌∙◌, subst, Option, Some, None, Bool, true, false, not, ◌||◌, ◌&&◌, true≢false, ◌⊎◌, inl, inr, option_and_then, option_map, is_some, slice_get, if◌then◌else◌, ◌==◌, codes}
use Rattle.scj_base.specs.declared.findings.Rule.TheVariants.{E2, E7, E8}
use Rattle.scj_base.specs.declared.positions.Position.{Position}
use Rattle.scj_builtins.specs.Framework.{managed_memory_enter_private_memory, managed_memory_execute_in_area_of}
use Rattle.scj_tree.specs.declared.nodes.Node.{Node}
use Rattle.scj_tree.specs.declared.nodes.Node.TheVariants.{Call}
use Rattle.scj_tree.specs.Forest.{Forest, IsForest}
use Rattle.scj_tree.specs.Shape.{children}
use Rattle.scj_rules.specs.declared.typing.Receiver.{Receiver}
use Rattle.scj_rules.specs.declared.typing.Receiver.TheVariants.{Own as own_object}
use Rattle.scj_rules.specs.declared.typing.Scope.{Scope}
use Rattle.scj_rules.specs.declared.typing.Scope.TheVariants.{Caller, In}
use Rattle.scj_rules.specs.declared.typing.Ty.{Ty}
use Rattle.scj_rules.specs.declared.typing.Ty.TheVariants.{Class as ClassTy}
use Rattle.scj_rules.specs.Words.{is_among, holds, broken, found_at}
use Rattle.scj_rules.specs.Classes.{FoundMethod, is_user_class, method_named}
use Rattle.scj_rules.specs.Contexts.{Declarations, declarations_of, context, object_of, declared_before}
use Rattle.scj_rules.specs.ScopeRules.{defined_by_chain, parent_scope}
use Rattle.scj_rules.specs.StaticScopes.{are_same_scope, runs_in}
use Rattle.scj_rules.specs.Types.{call_receiver, called_method, all_types, is_reference, method_called, called_builtin}
use Rattle.scj_rules.specs.TypeRules.{Types}
use Rattle.scj_rules.specs.UseRules.{Scopes, called_user_method, misfits_call, receiver_scope, current_at, e3_of_call, run_of, is_missing_or, isnt_current, isnt_in_parent, runs_outside, misfits_entered, misfits_enter, enters_wrong, is_named_scope, misfits_area, misfits_execute, executes_wrong, use_breaks, e1, e2, e3, e4_and_e5, e6, e7, e8, e9, e10}
use Rattle.scj_rules.specs.Phases.{IsAccepted}
use Rattle.accepted_laws.specs.Judgements.{type_at_node, scope_at_node, HasScope, Inside, Judged}
use Rattle.accepted_laws.specs.Kinds.{Kind, reference}
use Rattle.accepted_laws.specs.Sorts.{HasRightChildren, IsWellSorted, is_argument, is_expression}
use Rattle.accepted_laws.proofs.Breaks.{both_empty, right}
use Rattle.accepted_laws.proofs.DeclarationScopes.{current_has_scope, runs_in_has_scope}
use Rattle.accepted_laws.proofs.Dispatch.{user_method}
use Rattle.accepted_laws.proofs.MemberContexts.{member_is}
use Rattle.accepted_laws.proofs.Tools.{some_inj}
use Rattle.scj_rules.proofs.ChainLemmas.{or_left, or_right, is_same_number}
use Rattle.accepted_nodes.proofs.FormParts.{takes_parts}
use Rattle.accepted_nodes.proofs.FoundMembers.{own_found}
use Rattle.accepted_nodes.proofs.ScopesComplete.{of_option, call_rules, arguments_typed}
use Rattle.accepted_nodes.proofs.TypeBreaks.{right_call}
use Rattle.accepted_nodes.proofs.TypesComplete.{unbroken, ValueAt, value_at, child_at, all_of, of_expression, same_first, receiver_there}
use Rattle.accepted_nodes.proofs.Uses.{same_scope}
use Rattle.accepted_nodes.proofs.ValueChildren.{not_first}
use Rattle.accepted_facts.specs.Calls.{ArgumentFacts, EnterFacts, ExecuteFacts}
use Rattle.accepted_facts.specs.Expressions.{Operand}
use Rattle.accepted_facts.proofs.AccessFacts.{operand_at, type_of_value, scope_of_value, class_judged}
use Rattle.accepted_facts.proofs.CallFacts.{arguments_accepted}
use Rattle.accepted_facts.proofs.NewFacts.{current_is}
use Rattle.accepted_facts.proofs.StatementFacts.{not_false, or_false, use_unbroken}

or_true : (a b : Bool) → (a || b) ≡ true → (a ≡ true) ⊎ (b ≡ true)
or_true true b e = inl refl
or_true false b e = inr e

there_or : {A : Type 0} (o : Option A) (test : A → Bool) → (elim o as (λ _. Bool) [ None ↦ true | Some x ↦ test x ]) ≡ false → (x : A) × (o ≡ Some x) × (test x ≡ false)
there_or None test e = absurd (true≢false e)
there_or (Some x) test e = (x, refl, e)

user_if : (t a : Bool) → (if t then a else true) ≡ false → (t ≡ true) × (a ≡ false)
user_if true a e = (refl, e)
user_if false a e = absurd (true≢false e)

number_and : (n m : ℕ) (b : Bool) → n ≡ m → ((n == m) && b) ≡ false → b ≡ false
number_and n m b e h = sym (ap (λ t. t && b) (is_same_number n m e)) ∙ h

plain_if : (t : Bool) (f g : FoundMethod) → (if t then None else Some f) ≡ Some g → (t ≡ false) × (f ≡ g)
plain_if true f g e = absurd (cc (e))
plain_if false f g e = (refl, some_inj f g e)

reference_class : (class : ℕ) → is_reference (ClassTy class) ≡ true
unfolding is_reference
reference_class class = refl

module _ (forest : Forest) (accepted : IsAccepted forest) (whole : IsForest forest) (sorted : IsWellSorted forest.nodes) where
  abbrev p : Declarations
  p = declarations_of forest

  abbrev types : Types
  types = type_at_node p

  abbrev scopes : Scopes
  scopes = scope_at_node p

  abbrev At : ℕ → ℕ → ℕ → ℕ → Type 0
  At b c id x = ValueAt forest accepted whole sorted b c id x

  -- ---- arguments and receiver of any call

  record CallParts (b c id : ℕ) (name : List ℕ) (object : Option ℕ) (arguments : List ℕ) : Type 0 where
    values : (x : ℕ) → is_among x arguments ≡ true → At b c id x
    operands : (x : ℕ) (k : Kind) → is_among x arguments ≡ true → Judged p x (Some k) → Operand p b c id x k
    r : Receiver
    is_receiver : call_receiver p types id object ≡ Some r
    ts : List Ty
    typed : all_types types arguments ≡ Some ts

  call_parts : (b c id : ℕ) (position : Position) (name : List ℕ) (object : Option ℕ) (arguments : List ℕ) → slice_get forest.nodes id ≡ Some (Call position name object arguments) → Inside p b c id → CallParts b c id name object arguments
  unfolding children is_argument is_expression object_of takes_parts HasRightChildren declared_before call_receiver
  call_parts b c id position name None arguments there inside =
      let node : Node = Call position name None arguments in
      let s = sorted.each id node there in
      let values : (x : ℕ) → is_among x arguments ≡ true → At b c id x = λ x among. child_at forest accepted whole sorted b c id node there inside refl x among (all_of forest accepted whole sorted x arguments s.1 among) refl refl in
      let ts = arguments_typed forest accepted whole sorted b c id arguments values in
      record {
        values = values;
        operands = λ x k among j. operand_at forest accepted whole sorted b c id x node k there among refl (values x among) j;
        r = own_object c;
        is_receiver = ap (option_map (λ class. own_object class)) inside.class;
        ts = ts.0;
        typed = ts.1;
      }
  call_parts b c id position name (Some object) arguments there inside =
      let node : Node = Call position name (Some object) arguments in
      let s = sorted.each id node there in
      let o = of_expression forest accepted whole sorted object s.0 in
      let values : (x : ℕ) → is_among x arguments ≡ true → At b c id x = λ x among. child_at forest accepted whole sorted b c id node there inside refl x (or_right (x == object) (is_among x arguments) among) (all_of forest accepted whole sorted x arguments s.1 among) (not_first forest whole accepted id x object node arguments there refl among) refl in
      let ts = arguments_typed forest accepted whole sorted b c id arguments values in
      let r = receiver_there forest accepted whole sorted object o.node o.is_there (λ k. type_of_value forest accepted whole sorted b c id object (value_at forest accepted whole sorted b c id node there inside refl object (same_first forest accepted whole sorted object arguments) o k refl)) in
      record {
        values = values;
        operands = λ x k among j. operand_at forest accepted whole sorted b c id x node k there (or_right (x == object) (is_among x arguments) among) refl (values x among) j;
        r = r.0;
        is_receiver = r.1;
        ts = ts.0;
        typed = ts.1;
      }

  -- the parameters of the method that is called take the arguments
  pub argument_facts : (b c id : ℕ) (position : Position) (name : List ℕ) (object : Option ℕ) (arguments : List ℕ) (f : FoundMethod) → slice_get forest.nodes id ≡ Some (Call position name object arguments) → Inside p b c id → method_called p types id object name ≡ Some f → ArgumentFacts p id arguments f
  argument_facts b c id position name object arguments f there inside method =
      let x = call_parts b c id position name object arguments there inside in
      let m : called_method p x.r name ≡ Some f = sym (ap (option_and_then (λ r. called_method p r name)) x.is_receiver) ∙ method in
      let w = right_call p types id position name object arguments (unbroken forest accepted whole sorted id (Call position name object arguments) there) in
      let rules = call_rules forest accepted whole sorted id name object arguments x.r x.ts x.is_receiver x.typed w in
      record { types = x.ts; typed = x.typed; accepts = arguments_accepted forest accepted whole sorted id name object arguments x.r x.ts f x.is_receiver m x.typed rules.has_method w.arguments_fit }

  -- ---- E7 and E8

  record UseOfTwo (id first second : ℕ) (name : List ℕ) (object : Option ℕ) : Type 0 where
    enters : holds (called_builtin p types id object name) (λ number. enters_wrong p types id number second) ≡ false
    executes : holds (called_builtin p types id object name) (λ number. executes_wrong p types scopes number first second) ≡ false

  use_of_two : (id first second : ℕ) (position : Position) (name : List ℕ) (object : Option ℕ) → use_breaks p types scopes id (Call position name object (first ∷ second ∷ [])) ≡ [] → UseOfTwo id first second name object
  unfolding use_breaks e1 e2 e3 e4_and_e5 e6 e7 e8 e9 e10
  use_of_two id first second position name object e =
      let arguments : List ℕ = first ∷ second ∷ [] in
      let last : broken (holds (called_builtin p types id object name) (λ number. enters_wrong p types id number second)) E7 position ++ (broken (holds (called_builtin p types id object name) (λ number. executes_wrong p types scopes number first second)) E8 position ++ []) ≡ []
      = (both_empty (found_at (called_user_method p types id object name) (e3_of_call p scopes (receiver_scope p scopes id object) (current_at p id) arguments)) _
      (both_empty (broken (holds (called_user_method p types id object name) (misfits_call p scopes id object)) E2 position) _ e).1).1 in
      let one = both_empty (broken (holds (called_builtin p types id object name) (λ number. enters_wrong p types id number second)) E7 position) (broken (holds (called_builtin p types id object name) (λ number. executes_wrong p types scopes number first second)) E8 position ++ []) last in
      let two = both_empty (broken (holds (called_builtin p types id object name) (λ number. executes_wrong p types scopes number first second)) E8 position) [] one.1 in
      record { enters = right _ _ _ one.0; executes = right _ _ _ two.0 }

  builtin_called : (id : ℕ) (name : List ℕ) (object : Option ℕ) (f : FoundMethod) (number : ℕ) → method_called p types id object name ≡ Some f → f.method.builtin ≡ Some number → called_builtin p types id object name ≡ Some number
  builtin_called id name object f number m b = ap (option_and_then (λ (f : FoundMethod). f.method.builtin)) m ∙ b

  enter_class : (id : ℕ) (t : Ty) → misfits_enter p id t ≡ false → (class : ℕ) × (t ≡ ClassTy class) × (is_user_class class ≡ true) × ((entered : ℕ) × (defined_by_chain p class ≡ Some entered) × (misfits_entered p id class entered ≡ false))
  unfolding misfits_enter
  enter_class id (ClassTy class) e =
      let u = user_if (is_user_class class) (is_missing_or (defined_by_chain p class) (misfits_entered p id class)) e in
      (class, refl, u.0, there_or (defined_by_chain p class) (misfits_entered p id class) u.1)
  enter_class id _ e = absurd (true≢false e)

  record Entered (id class entered : ℕ) : Type 0 where
    parent : isnt_in_parent p id entered ≡ false
    runs : holds (run_of p class) (runs_outside p entered) ≡ false

  entered_parts : (id class entered : ℕ) → misfits_entered p id class entered ≡ false → Entered id class entered
  unfolding misfits_entered
  entered_parts id class entered e = (let q = or_false (isnt_in_parent p id entered) (holds (run_of p class) (runs_outside p entered)) e in record { parent = q.0; runs = q.1 })

  parent_is_current : (id entered : ℕ) (now : Scope) → current_at p id ≡ Some now → isnt_in_parent p id entered ≡ false → (m : ℕ) → parent_scope p entered ≡ Some m → now ≡ In m
  parent_is_current id entered now h e m k =
      same_scope now (In m) (not_false _ (sym (ap (λ (o : Option ℕ). holds o (λ parent. isnt_current p id (In parent))) k ∙ ap (λ (o : Option Scope). holds o (λ current. not (are_same_scope current (In m)))) h) ∙ e))

  runs_inside : (class entered : ℕ) → holds (run_of p class) (runs_outside p entered) ≡ false → (f : FoundMethod) (s : Scope) → run_of p class ≡ Some f → runs_in p f.on f.method ≡ Some s → (s ≡ Caller) ⊎ (s ≡ In entered)
  runs_inside class entered e f s r h =
      elim (or_true (are_same_scope s Caller) (are_same_scope s (In entered)) (not_false _ (sym (ap (λ (o : Option FoundMethod). holds o (runs_outside p entered)) r
      ∙ ap (λ (o : Option Scope). holds o (λ s. not (are_same_scope s Caller || are_same_scope s (In entered)))) h) ∙ e))) as (λ z. (s ≡ Caller) ⊎ (s ≡ In entered))
      [ inl k ↦ inl (same_scope s Caller k) | inr k ↦ inr (same_scope s (In entered) k) ]

  second_among : (x y : ℕ) → is_among y (x ∷ y ∷ []) ≡ true
  second_among x y = or_right (y == x) (is_among y (y ∷ [])) (or_left (y == y) (is_among y []) (is_same_number y y refl))

  pub enter_facts : (b c id size r : ℕ) (position : Position) (name : List ℕ) (object : Option ℕ) (f : FoundMethod) → slice_get forest.nodes id ≡ Some (Call position name object (size ∷ r ∷ [])) → Inside p b c id → method_called p types id object name ≡ Some f → f.method.builtin ≡ Some managed_memory_enter_private_memory → EnterFacts p b c id r
  enter_facts b c id size r position name object f there inside method number =
      let x = call_parts b c id position name object (size ∷ r ∷ []) there inside in
      let among = second_among size r in
      let v = x.values r among in
      let t = type_of_value forest accepted whole sorted b c id r v in
      let u = use_of_two id size r position name object (use_unbroken forest accepted whole sorted id (Call position name object (size ∷ r ∷ [])) there) in
      let e : misfits_enter p id t.0 ≡ false = sym (ap (λ (o : Option Ty). holds o (misfits_enter p id)) t.1)
      ∙ number_and managed_memory_enter_private_memory managed_memory_enter_private_memory (holds (types r) (misfits_enter p id)) refl (sym (ap (λ (o : Option ℕ). holds o (λ number. enters_wrong p types id number r)) (builtin_called id name object f managed_memory_enter_private_memory method number)) ∙ u.enters) in
      let k = enter_class id t.0 e in
      let d = k.3 in
      let w = entered_parts id k.0 d.0 d.2 in
      let class_of_b : (context p b).class ≡ Some c = (member_is forest whole sorted id b inside.member).same_class ∙ inside.class in
      let now = current_has_scope forest accepted whole sorted c b class_of_b in
      let here = current_is forest accepted whole sorted b c id now.0 inside now.1 in
      let typed : types r ≡ Some (ClassTy k.0) = t.1 ∙ ap (λ t. Some t) k.1 in
      let s = scope_of_value forest accepted whole sorted b c id r (ClassTy k.0) v typed (reference_class k.0) in
      record {
        now = now.0;
        is_now = now.1;
        class = k.0;
        is_user = k.2;
        scope = s.0;
        object_is = x.operands r (reference (ClassTy k.0) s.0) among (class_judged forest accepted whole sorted r k.0 s.0 typed s.1);
        entered = d.0;
        defined = d.1;
        parent = parent_is_current id d.0 now.0 here w.parent;
        runs = runs_inside k.0 d.0 w.runs;
      }

  execute_class : (area : Option Scope) (t : Ty) → misfits_execute p area t ≡ false → (class : ℕ) × (t ≡ ClassTy class) × ((f : FoundMethod) × (run_of p class ≡ Some f) × (holds area (λ s. not (is_named_scope s) || misfits_area p s f) ≡ false))
  unfolding misfits_execute
  execute_class area (ClassTy class) e = (class, refl, there_or (run_of p class) (λ f. holds area (λ s. not (is_named_scope s) || misfits_area p s f)) e)
  execute_class area _ e = absurd (true≢false e)

  named_is : (s : Scope) → is_named_scope s ≡ true → (n : ℕ) × (s ≡ In n)
  unfolding is_named_scope
  named_is (In n) e = (n, refl)
  named_is _ e = absurd (true≢false (sym e))

  area_of : (g : FoundMethod) (a h : Scope) → runs_in p g.on g.method ≡ Some h → (not (is_named_scope a) || misfits_area p a g) ≡ false → (n : ℕ) × (a ≡ In n) × (runs_in p g.on g.method ≡ Some (In n))
  area_of g a h r e =
      let parts = or_false (not (is_named_scope a)) (misfits_area p a g) e in
      let n = named_is a (not_false (is_named_scope a) parts.0) in
      let same : h ≡ a = same_scope h a (not_false (are_same_scope h a) (sym (ap (λ (o : Option Scope). holds o (λ s. not (are_same_scope s a))) r) ∙ parts.1)) in
      (n.0, n.1, r ∙ ap (λ s. Some s) (same ∙ n.1))

  -- a user's `run` runs in a scope
  run_has_scope : (class : ℕ) (g : FoundMethod) → run_of p class ≡ Some g → HasScope (runs_in p g.on g.method)
  run_has_scope class g e =
      let m = of_option (method_named p.classes class (codes "run")) (λ (f : FoundMethod). if is_some f.method.builtin then None else Some f) g e in
      let q = plain_if (is_some m.0.method.builtin) m.0 g m.2 in
      let y = own_found forest accepted whole sorted class (codes "run") m.0 m.1 in
      let u = user_method forest accepted whole sorted y.0 (codes "run") m.0 y.1 q.0 in
      let h = runs_in_has_scope forest accepted whole sorted m.0.on m.0.method.declared.node m.0.method u.is_there u.stands_in_class in
      subst (λ (g : FoundMethod). HasScope (runs_in p g.on g.method)) q.1 h

  pub execute_facts : (b c id o r : ℕ) (position : Position) (name : List ℕ) (object : Option ℕ) (f : FoundMethod) → slice_get forest.nodes id ≡ Some (Call position name object (o ∷ r ∷ [])) → Inside p b c id → method_called p types id object name ≡ Some f → f.method.builtin ≡ Some managed_memory_execute_in_area_of → ExecuteFacts p b c id o r
  execute_facts b c id o r position name object f there inside method number =
      let x = call_parts b c id position name object (o ∷ r ∷ []) there inside in
      let among = second_among o r in
      let v = x.values r among in
      let t = type_of_value forest accepted whole sorted b c id r v in
      let u = use_of_two id o r position name object (use_unbroken forest accepted whole sorted id (Call position name object (o ∷ r ∷ [])) there) in
      let e : misfits_execute p (scopes o) t.0 ≡ false = sym (ap (λ (y : Option Ty). holds y (misfits_execute p (scopes o))) t.1)
      ∙ number_and managed_memory_execute_in_area_of managed_memory_execute_in_area_of (holds (types r) (misfits_execute p (scopes o))) refl (sym (ap (λ (y : Option ℕ). holds y (λ number. executes_wrong p types scopes number o r)) (builtin_called id name object f managed_memory_execute_in_area_of method number)) ∙ u.executes) in
      let k = execute_class (scopes o) t.0 e in
      let g = k.2 in
      let typed : types r ≡ Some (ClassTy k.0) = t.1 ∙ ap (λ t. Some t) k.1 in
      let s = scope_of_value forest accepted whole sorted b c id r (ClassTy k.0) v typed (reference_class k.0) in
      let h = run_has_scope k.0 g.0 g.1 in
      record {
        class = k.0;
        scope = s.0;
        object_is = x.operands r (reference (ClassTy k.0) s.0) among (class_judged forest accepted whole sorted r k.0 s.0 typed s.1);
        run = g.0;
        is_run = g.1;
        area = λ a q. area_of g.0 a h.0 h.1 (sym (ap (λ (y : Option Scope). holds y (λ s. not (is_named_scope s) || misfits_area p s g.0)) q) ∙ g.2);
      }
