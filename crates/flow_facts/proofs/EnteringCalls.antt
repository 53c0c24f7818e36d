-- The calls of the framework that run a `run`: `enterPrivateMemory` and `executeInAreaOf`.
use Rattle.std.proofs.Common.{◌≡◌, ℕ, ◌+◌, ◌≤◌, nat_lt, List, [], ◌∷◌, refl, sym, ap, ◌∙◌, subst, arith, Option, Some, None, Bool, true, false, not, true≢false, ◌==◌, ◌⊎◌, inl, inr, option_map, is_some, slice_get}
use Rattle.std.specs.Prelude.{if◌then◌else◌, unwrap_or}
use Rattle.std.proofs.lemmas.Bool.Decides.{nat_tests}
use Rattle.std.proofs.lemmas.Option.{slice_get_within}
use Rattle.scj_base.specs.Bytes.{is_same}
use Rattle.scj_base.specs.declared.positions.Position.{Position}
use Rattle.scj_builtins.specs.Framework.{framework_classes, object as object_class, object_name, runnable, runnable_name, managed_memory, managed_memory_enter_private_memory, managed_memory_execute_in_area_of}
use Rattle.scj_tree.specs.declared.nodes.Node.TheVariants.{Call}
use Rattle.scj_tree.specs.Forest.{Forest, IsForest}
use Rattle.scj_rules.specs.declared.typing.Receiver.{Receiver}
use Rattle.scj_rules.specs.declared.typing.Scope.{Scope}
use Rattle.scj_rules.specs.declared.typing.Scope.TheVariants.{Any, Caller, In}
use Rattle.scj_rules.specs.declared.typing.Ty.{Ty}
use Rattle.scj_rules.specs.declared.typing.Ty.TheVariants.{Int, Bool as Boolean, Void, NullTy, Label, Class as ClassTy, IntArray, BoolArray, ClassArray}
use Rattle.scj_rules.specs.declared.views.Declared.{Declared}
use Rattle.scj_rules.specs.declared.views.WrittenType.TheVariants.{Class as class_type}
use Rattle.scj_rules.specs.Words.{is_among, holds, ◌>>=◌}
use Rattle.scj_rules.specs.CheckedProgram.{IsReadFromTexts}
use Rattle.scj_rules.specs.Classes.{FoundMethod, first_user_class, is_user_class, class_names, class_number, superclasses, all_interfaces, is_sub}
use Rattle.scj_rules.specs.Contexts.{Declarations, declarations_of}
use Rattle.scj_rules.specs.ScopeRules.{defined_by_chain}
use Rattle.scj_rules.specs.StaticScopes.{runs_in}
use Rattle.scj_rules.specs.Bindings.{class_of_type, second_class, called_on}
use Rattle.scj_rules.specs.Types.{type_written, assigns, class_of_receiver, method_called}
use Rattle.scj_rules.specs.TypeRules.{Types, declared_type_of}
use Rattle.scj_rules.specs.UseRules.{run_of}
use Rattle.scj_rules.specs.Phases.{IsAccepted}
use Rattle.scj_rules.proofs.ChainLemmas.{or_cases}
use Rattle.accepted_laws.specs.Judgements.{type_at_node, scope_at_node, Inside, Judged}
use Rattle.accepted_laws.specs.Kinds.{number, truth, reference, kind_of, seen_as}
use Rattle.accepted_laws.specs.Sorts.{IsWellSorted}
use Rattle.accepted_laws.proofs.Dispatch.{written_of}
use Rattle.accepted_laws.proofs.Fields.{position-cons}
use Rattle.accepted_laws.proofs.Interfaces.{interface_of_framework}
use Rattle.accepted_laws.proofs.Subtypes.{is_sub_on}
use Rattle.accepted_laws.proofs.Tools.{some_inj}
use Rattle.accepted_nodes.proofs.ValueFacts.{typed_of}
use Rattle.accepted_facts.proofs.FrameworkCalls.{enter_facts, execute_facts}
use Rattle.scj_model.specs.Code.{Code, code_of}
use Rattle.scope_flow.specs.Signatures.{Signature, IsBody, IsConcrete, IsEntered, IsExecuted}
use Rattle.scope_flow.specs.ValueFacts.{HasValue}
use Rattle.scope_flow.specs.CallFacts.{EnterFact, ExecuteInFact}
use Rattle.flow_facts.proofs.Arrays.{is_current}
use Rattle.flow_facts.proofs.CallParts.{CallParts}
use Rattle.flow_facts.proofs.ConcreteClasses.{IsWritten, concrete_is, behind}
use Rattle.flow_facts.proofs.DefinedScopes.{has_parent, defined_under}
use Rattle.flow_facts.proofs.EnteredRuns.{user_run, run_below, entering}
use Rattle.flow_facts.proofs.FrameworkArguments.{Two, reference_argument, class_taken, first_among, number_argument}
use Rattle.flow_facts.proofs.FrameworkRows.{IsOfFramework, object_of_framework, above_framework, no_user_method, method_reached}
use Rattle.flow_facts.proofs.Literals.{value_of}
use Rattle.flow_facts.proofs.NullScopes.{own_scope, null_lies}
use Rattle.flow_facts.proofs.RunMethods.{run_name, run_of_class, has_run}

abbrev behind_first : List (List ℕ) → List (List ℕ)
behind_first [] = []
behind_first (x ∷ xs) = xs

-- the kind of a reference of a class tells the type
kind_class : (t : Ty) (o : Option Scope) (class : ℕ) (s : Scope) →
    kind_of (Some t) o ≡ Some (reference (ClassTy class) s) → t ≡ ClassTy class
unfolding kind_of
kind_class (ClassTy c) (Some r) class s e =
    (let f : reference (ClassTy c) r ≡ reference (ClassTy class) s = some_inj _ _ e in
    let g : ClassTy c ≡ ClassTy class = cc (f) in g)
kind_class IntArray (Some r) class s e =
    absurd (let f : reference IntArray r ≡ reference (ClassTy class) s = some_inj _ _ e in
    let g : IntArray ≡ ClassTy class = cc (f) in cc (g))
kind_class BoolArray (Some r) class s e =
    absurd (let f : reference BoolArray r ≡ reference (ClassTy class) s = some_inj _ _ e in
    let g : BoolArray ≡ ClassTy class = cc (f) in cc (g))
kind_class (ClassArray c) (Some r) class s e =
    absurd (let f : reference (ClassArray c) r ≡ reference (ClassTy class) s = some_inj _ _ e in
    let g : ClassArray c ≡ ClassTy class = cc (f) in cc (g))
kind_class (ClassTy c) None class s e = absurd (cc (e))
kind_class IntArray None class s e = absurd (cc (e))
kind_class BoolArray None class s e = absurd (cc (e))
kind_class (ClassArray c) None class s e = absurd (cc (e))
kind_class NullTy o class s e =
    absurd (let f : reference NullTy Any ≡ reference (ClassTy class) s = some_inj _ _ e in
    let g : NullTy ≡ ClassTy class = cc (f) in cc (g))
kind_class Int o class s e = absurd (let f : number ≡ reference (ClassTy class) s = some_inj _ _ e in cc (f))
kind_class Boolean o class s e = absurd (let f : truth ≡ reference (ClassTy class) s = some_inj _ _ e in cc (f))
kind_class Void o class s e = absurd (cc (e))
kind_class Label o class s e = absurd (cc (e))

module _ (forest : Forest) (accepted : IsAccepted forest) (whole : IsForest forest) (sorted : IsWellSorted forest.nodes)
    (is_read : IsReadFromTexts forest) where
  abbrev p : Declarations
  p = declarations_of forest

  abbrev types : Types
  types = type_at_node p

  abbrev code : Code
  code = code_of forest

  -- ---- Object and Runnable, by their names

  runnable_named : class_number p.names runnable_name ≡ Some runnable
  unfolding class_number declarations_of class_names framework_classes
  runnable_named = position-cons (is_same runnable_name) object_name (behind_first p.names)
      ∙ ap (option_map (λ k. 1 + k))
      (position-cons (is_same runnable_name) runnable_name (behind_first (behind_first p.names)))

  pub object_named : class_number p.names object_name ≡ Some object_class
  unfolding class_number declarations_of class_names framework_classes
  object_named = position-cons (is_same object_name) object_name (behind_first p.names)

  pub runnable_type : type_written p.names (class_type runnable_name) ≡ Some (ClassTy runnable)
  unfolding type_written
  runnable_type = ap (option_map (λ class. ClassTy class)) runnable_named

  pub object_type : type_written p.names (class_type object_name) ≡ Some (ClassTy object_class)
  unfolding type_written
  object_type = ap (option_map (λ class. ClassTy class)) object_named

  -- ---- classes under a user's

  not_framework : (class : ℕ) → is_user_class class ≡ true → IsOfFramework forest accepted whole sorted class → ⊥
  not_framework class user k =
      let least : first_user_class ≤ class = at_least (nat_lt class first_user_class) refl user in
      let u = behind forest accepted whole sorted class k.0 k.1 least in
      let z : None ≡ Some u.1.class = sym k.2.unwritten ∙ written_of forest accepted whole sorted u.0 k.0 u.1 in cc (z)
    where
      at_least : (t : Bool) → nat_lt class first_user_class ≡ t → not t ≡ true → first_user_class ≤ class
      at_least true e h = absurd (true≢false (sym h))
      at_least false e h = grind (arith, nat_tests)

  record Under (class on : ℕ) : Type 0 where
    written : IsWritten p on
    above : is_among class (superclasses p.classes on) ≡ true

  above_user : (class on : ℕ) → is_user_class class ≡ true → is_sub p.classes on class ≡ true →
      is_among class (superclasses p.classes on) ≡ true
  unfolding is_sub
  above_user class on user sub =
      elim (or_cases (is_among class (superclasses p.classes on)) (is_among class (all_interfaces p.classes on)) sub) as
      (λ z. is_among class (superclasses p.classes on) ≡ true)
      [ inl h ↦ h | inr h ↦ absurd (not_framework class user (interface_of_framework forest accepted on class h)) ]

  under_user : (class on : ℕ) → is_user_class class ≡ true → is_sub p.classes on class ≡ true → IsConcrete p on →
      Under class on
  under_user class on user sub c =
      let above = above_user class on user sub in
      elim (concrete_is forest accepted whole sorted on c) as (λ z. Under class on) [
        | inl w ↦ record { written = w; above = above }
        | inr o ↦ absurd
            (not_framework class user
            (above_framework forest accepted whole sorted object_class class
            (object_of_framework forest accepted whole sorted)
            (ap (λ y. is_among class (superclasses p.classes y)) (sym o) ∙ above)))
      ]

  -- ---- entering

  entered : (class scope on : ℕ) →
      (f : (f : FoundMethod) (s : Scope) → run_of p class ≡ Some f → runs_in p f.on f.method ≡ Some s →
      (s ≡ Caller) ⊎ (s ≡ In scope)) → is_user_class class ≡ true → is_sub p.classes class runnable ≡ true →
      defined_by_chain p class ≡ Some scope
      → is_sub p.classes on class ≡ true → IsConcrete p on → IsEntered p on scope
  entered class scope on f user sub e under_class c =
      let u = under_user class on user under_class c in
      let w = u.written in
      let l = slice_get_within p.classes on w.row w.stands in
      let q =
      run_of_class forest accepted whole sorted is_read on w
      (is_sub_on forest accepted on class runnable l under_class sub) in
      let r = entering forest accepted whole sorted is_read on class scope l u.above q sub e f in
      let h = has_run forest accepted whole sorted is_read on q r.scope r.runs in
      record {
        defines = defined_under forest accepted class scope e on l u.above;
        is_runnable = is_sub_on forest
            accepted on class runnable l under_class sub;
        run = h.0;
        runs =
            elim r.is as (λ z. (h.0.own.sig.runs_in ≡ Caller) ⊎ (h.0.own.sig.runs_in ≡ In scope))
            [ inl k ↦ inl (h.1 ∙ k) | inr k ↦ inr (h.1 ∙ k) ];
      }

  -- a Runnable that is passed is of a class under Runnable
  passed_runnable : (y class : ℕ) (s : Scope) (t : Ty) (d : Declared) →
      Judged p y (Some (reference (ClassTy class) s)) → types y ≡ Some t → d.declared_type ≡ class_type runnable_name →
      holds (declared_type_of p d) (assigns p.classes t) ≡ true → is_sub p.classes class runnable ≡ true
  unfolding Judged assigns
  passed_runnable y class s t d j e w h =
      let typed = typed_of (types y) (scope_at_node p y) (reference (ClassTy class) s) j in
      let is : t ≡ ClassTy class = class_of t (sym (ap (λ o. kind_of o (scope_at_node p y)) e) ∙ j) in
      sym (ap (λ t. assigns p.classes t (ClassTy runnable)) is)
      ∙ sym (ap (λ w. holds (type_written p.names w) (assigns p.classes t)) w
      ∙ ap (λ (o : Option Ty). holds o (assigns p.classes t)) runnable_type) ∙ h
    where
      class_of : (t : Ty) → kind_of (Some t) (scope_at_node p y) ≡ Some (reference (ClassTy class) s) →
          t ≡ ClassTy class
      class_of t k = kind_class t (scope_at_node p y) class s k

  -- the class on which such a call is bound is that of the object
  entered_on : (r : Receiver) (f : FoundMethod) (arguments : List ℕ) (x y class : ℕ) (s : Scope) (t : Ty) →
      arguments ≡ x ∷ (y ∷ []) → types y ≡ Some t → Judged p y (Some (reference (ClassTy class) s)) →
      f.on ≡ managed_memory → called_on types r f arguments ≡ class
  unfolding Judged called_on second_class class_of_type
  entered_on r f arguments x y class s t are typed j memory =
      ap (called_on types r f) are
      ∙ ap (λ (on : ℕ). if on == managed_memory then unwrap_or (types y >>= class_of_type) on
      else (if f.method.declared.modifiers.is_static then on else unwrap_or (class_of_receiver r) on)) memory
      ∙ ap (λ (o : Option Ty). unwrap_or (o >>= class_of_type) managed_memory)
      (typed ∙ ap (λ (z : Ty). Some z) (kind_class t (scope_at_node p y) class s
      (sym (ap (λ o. kind_of o (scope_at_node p y)) typed) ∙ j)))

  pub enter_fact : (b c : ℕ) (sig : Signature) (id : ℕ) (position : Position) (name : List ℕ) (object : Option ℕ)
      (arguments : List ℕ) (f : FoundMethod) (d e : Declared) → IsBody p b c sig →
      slice_get forest.nodes id ≡ Some (Call position name object arguments) → Inside p b c id →
      method_called p types id object name ≡ Some f → f.method.builtin ≡ Some managed_memory_enter_private_memory →
      (x : CallParts forest accepted whole sorted b c id name object arguments) → declared_type_of p d ≡ Some Int →
      e.declared_type ≡ class_type runnable_name → Two forest accepted whole sorted arguments d e →
      f.on ≡ managed_memory →
      EnterFact code b c sig id managed_memory_enter_private_memory (called_on types x.r f arguments) arguments None
  unfolding code_of
  enter_fact b c sig id position name object arguments f d e body there inside method number_is x int run h memory =
      let x2 = enter_facts forest accepted whole sorted b c id h.first h.second position name object f
      (there ∙ ap (λ xs. Some (Call position name object xs)) h.are) inside method number_is in
      let now : x2.now ≡ sig.runs_in = is_current forest accepted whole sorted b c sig x2.now body x2.is_now in
      let given = x2.object_is in
      let sub = passed_runnable h.second x2.class x2.scope h.u e given.judged h.second_typed run h.second_taken in
      let m = has_parent forest accepted x2.class x2.entered x2.defined in
      record {
        is_method = refl;
        size = h.first;
        object = h.second;
        are = h.are;
        size_is = number_argument forest accepted whole sorted b c id name object arguments x h.first h.t d
            (first_among forest accepted whole sorted h.first (h.second ∷ []) arguments h.are) h.first_typed int
            h.first_taken;
        class = x2.class;
        is_on = entered_on x.r f arguments h.first h.second x2.class x2.scope h.u h.are h.second_typed given.judged memory;
        scope = x2.scope;
        object_is = value_of p b c id h.second (reference (ClassTy x2.class) x2.scope) given;
        entered = x2.entered;
        parent = m.0;
        is_parent = m.1;
        now = sym now ∙ x2.parent m.0 m.1;
        each = λ on under concrete. entered x2.class x2.entered on x2.runs x2.is_user sub x2.defined under concrete;
        is_given = refl;
      }

  -- ---- executing in an area

  executed : (class area on : ℕ) (f : FoundMethod) → run_of p class ≡ Some f →
      runs_in p f.on f.method ≡ Some (In area) → is_sub p.classes class runnable ≡ true →
      is_sub p.classes on class ≡ true → IsConcrete p on → IsExecuted p on area
  unfolding seen_as
  executed class area on f k e sub under_class c =
      let u = user_run forest accepted whole sorted is_read class f k in
      let builtin : is_some f.method.builtin ≡ false = (let user = u.user in ap is_some user.not_builtin) in
      let above = method_reached forest accepted whole sorted on class run_name f under_class u.named builtin in
      elim (concrete_is forest accepted whole sorted on c) as (λ z. IsExecuted p on area) [
        | inl w ↦ (
            let l = slice_get_within p.classes on w.row w.stands in
            let q =
            run_of_class forest accepted whole sorted is_read on w
            (is_sub_on forest accepted on class runnable l under_class sub) in
            let r = run_below forest accepted whole sorted is_read on class f (In area) l above q u e in
            let h = has_run forest accepted whole sorted is_read on q (In area) r.1 in
            record { run = h.0; runs = h.1 })
        | inr o ↦ absurd
            (no_user_method forest accepted whole sorted class run_name f
            (above_framework forest accepted whole sorted object_class class
            (object_of_framework forest accepted whole sorted)
            (ap (λ y. is_among class (superclasses p.classes y)) (sym o) ∙ above)) u.named builtin)
      ]

  -- what lies in a named scope is not null
  area_of : (b c id y : ℕ) (name : List ℕ) (object : Option ℕ) (arguments : List ℕ) →
      CallParts forest accepted whole sorted b c id name object arguments → is_among y arguments ≡ true →
      (t : Ty) (s a : Scope) (n : ℕ) → Judged p y (Some (reference t s)) → scope_at_node p y ≡ Some a → a ≡ In n →
      s ≡ In n
  unfolding Judged
  area_of b c id y name object arguments x among t s a n j e k =
      elim (own_scope (types y) (scope_at_node p y) a s t e j) as (λ z. s ≡ In n) [
        | inl null ↦ absurd (
            let v = x.values y among in
            let w = v.value in
            let any = null_lies forest accepted whole sorted y v.node v.is_there w.is_argument null in
            let z : Any ≡ In n = some_inj Any a (sym any ∙ e) ∙ k in cc (z))
        | inr h ↦ h ∙ k
      ]

  pub execute_fact : (b c id : ℕ) (position : Position) (name : List ℕ) (object : Option ℕ) (arguments : List ℕ)
      (f : FoundMethod) (d e : Declared) → slice_get forest.nodes id ≡ Some (Call position name object arguments) →
      Inside p b c id → method_called p types id object name ≡ Some f →
      f.method.builtin ≡ Some managed_memory_execute_in_area_of →
      (x : CallParts forest accepted whole sorted b c id name object arguments) →
      d.declared_type ≡ class_type object_name → e.declared_type ≡ class_type runnable_name →
      Two forest accepted whole sorted arguments d e → f.on ≡ managed_memory →
      ExecuteInFact code b c id managed_memory_execute_in_area_of (called_on types x.r f arguments) arguments None
  unfolding code_of
  execute_fact b c id position name object arguments f d e there inside method number_is x any run h memory =
      let x2 = execute_facts forest accepted whole sorted b c id h.first h.second position name object f
      (there ∙ ap (λ xs. Some (Call position name object xs)) h.are) inside method number_is in
      let given = x2.object_is in
      let sub = passed_runnable h.second x2.class x2.scope h.u e given.judged h.second_typed run h.second_taken in
      let among = first_among forest accepted whole sorted h.first (h.second ∷ []) arguments h.are in
      let taken : assigns p.classes h.t (ClassTy object_class) ≡ true =
      sym (ap (λ w. holds (type_written p.names w) (assigns p.classes h.t)) any
      ∙ ap (λ (o : Option Ty). holds o (assigns p.classes h.t)) object_type) ∙ h.first_taken in
      let position_at =
      reference_argument forest accepted whole sorted b c id name object arguments x h.first h.t among h.first_typed
      (class_taken p.classes h.t object_class taken) in
      let a = position_at.scoped in
      let area = x2.area a.0 a.1 in
      let there_is =
      area_of b c id h.first name object arguments x among position_at.type position_at.scope a.0 area.0
      position_at.judgement a.1 area.1 in
      record {
        is_method = refl;
        place = h.first;
        object = h.second;
        are = h.are;
        type = position_at.type;
        area = area.0;
        place_is = subst (λ s. HasValue p b c id h.first (Some (reference position_at.type s))) there_is position_at.is;
        class = x2.class;
        is_on = entered_on x.r f arguments h.first h.second x2.class x2.scope h.u h.are h.second_typed given.judged memory;
        scope = x2.scope;
        object_is = value_of p b c id h.second (reference (ClassTy x2.class) x2.scope) given;
        each = λ on under concrete. executed x2.class area.0 on x2.run x2.is_run area.2 sub under concrete;
        is_given = refl;
      }
