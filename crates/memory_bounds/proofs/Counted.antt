-- What is known of operations: a new object is as large as was reckoned with, and a body that is called is a target.
use Rattle.std.specs.Prelude.{Option, Some, None, slice_get, if◌then◌else◌, pos, unsigned_abs, codes, option_to_list, filter, filter_map, nat_lt, ◌&&◌, not}
use Rattle.std.specs.Int.{is_negative}
use Rattle.std.specs.List.{cons_option}
use Rattle.std.proofs.Common.{◌≡◌, ℕ, zero, suc, ◌+◌, ◌<◌, ◌≤◌, List, [], ◌∷◌, length, Bool, true, false, ◌==◌, refl, sym, ◌∙◌, ap, subst, arith, zero-add}
use Rattle.std.proofs.lemmas.Bool.Decides.{nat_tests}
use Rattle.scj_base.specs.declared.faults.RunFault.{RunFault}
use Rattle.scj_base.specs.declared.faults.RunFault.TheVariants.{NullPointer, NegativeSize, MemoryFull, StoreFull}
use Rattle.scj_base.specs.declared.values.Value.{Value}
use Rattle.scj_base.specs.declared.values.Value.TheVariants.{Int, Null, At}
use Rattle.scj_rules.specs.declared.typing.Binding.{Binding}
use Rattle.scj_rules.specs.declared.typing.Binding.TheVariants.{Class as ClassNamed, Method, StaticMethod}
use Rattle.scj_rules.specs.declared.typing.Target.{Target}
use Rattle.scj_rules.specs.declared.views.Body.{Body}
use Rattle.scj_rules.specs.Classes.{ClassRow, is_sub}
use Rattle.scj_rules.specs.ClassRules.{numbers_from}
use Rattle.scj_rules.specs.Contexts.{Declarations}
use Rattle.scj_rules.specs.Layout.{size_with_slots, element_kind}
use Rattle.scj_rules.specs.declared.views.SlotKind.{SlotKind}
use Rattle.std.proofs.lemmas.List.{length-replicate}
use Rattle.scj_rules.specs.Types.{kind_is, is_concrete}
use Rattle.scj_rules.specs.Bodies.{body_named, body_of, constructor_body}
use Rattle.accepted_laws.proofs.Tools.{some_inj}
use Rattle.scj_model.specs.declared.operations.Op.{Op}
use Rattle.scj_model.specs.declared.operations.Op.TheVariants.{Alloc as ALLOC, Construct as CONSTRUCT, Super as SUPER, Call as CALL, CallStatic as CALLSTATIC, Enter as ENTER, ExecuteIn as EXECUTEIN, AllocArray as ALLOCARRAY}
use Rattle.scj_model.specs.Code.{Code, binding, part}
use Rattle.scj_model.specs.State.{Object, Frame}
use Rattle.scj_model.specs.Memory.{new_slots, new_elements, default_value}
use Rattle.scj_model.specs.Effects.{Effect, Makes, Calls, Opens, Faults, Stuck, given, pop, pop_from, pop_all, as_int, as_reference, as_object, new_frame}
use Rattle.scj_model.specs.Operations.{Environment, bound_class, bound_method, bound_static_method, argument_count, alloc_op, constructs, construct_op, super_count, super_op, call_op, call_static_op, with_run, execute_in_op, enter_op, alloc_array_op}
use Rattle.scj_tree.specs.declared.nodes.Node.{Node}
use Rattle.scj_rules.specs.Words.{◌>>=◌}
use Rattle.scj_rules.specs.ScopeRules.{defined_by_chain}
use Rattle.scj_rules.specs.Bodies.{number_literal}
use Rattle.memory_needs.specs.Targets.{entered_targets, runs_under, is_concrete_under, classes_under, dispatched, call_targets, constructor_targets}
use Rattle.memory_needs.specs.Need.{Table, greatest, object_bytes, too_much}
use Rattle.memory_bounds.specs.Weights.{only_if, entered_weight, executed_weight, array_weight, size_node, length_node, op_weight}
use Rattle.memory_bounds.specs.Accounting.{IsCounted}

-- the faults of memory
abbrev pub is_memory_fault : RunFault → Bool
is_memory_fault MemoryFull = true
is_memory_fault StoreFull = true
is_memory_fault _ = false

pub of_fault : (x y : RunFault) → Faults x ≡ Faults y → is_memory_fault x ≡ false → is_memory_fault y ≡ false
of_fault x y q e = (let same : x ≡ y = cc (q) in subst (λ (z : RunFault). is_memory_fault z ≡ false) same e)

-- what an effect makes, and calls
made : Effect → List Value
made (Makes h class values) = values
made _ = []

called : Effect → Option Body
called (Calls h g) = Some g.body
called _ = None

module _ (code : Code) (table : Table) (op : Op) where
  -- an effect that is counted, and no fault of memory of its own accord
  pub record Knows (e : Effect) : Type 0 where
    pub is : IsCounted code table op e
    pub full : (x : RunFault) → e ≡ Faults x → is_memory_fault x ≡ false

  stuck : Knows Stuck
  stuck = record {
    is = record {
      makes = λ h c v q. absurd (cc (q));
      calls = λ h g q. absurd (cc (q));
      opens = λ h g s b q. absurd (cc (q));
    };
    full = λ x q. absurd (cc (q));
  }

  fault : (x : RunFault) → is_memory_fault x ≡ false → Knows (Faults x)
  fault x other = record {
    is = record {
      makes = λ h c v q. absurd (cc (q));
      calls = λ h g q. absurd (cc (q));
      opens = λ h g s b q. absurd (cc (q));
    };
    full = λ y q. of_fault x y q other;
  }

  makes : (h : Frame) (class : ℕ) (values : List Value) → size_with_slots (length values) ≤ op_weight code table op →
      Knows (Makes h class values)
  unfolding made
  makes h class values le = record {
    is = record {
      makes = λ k c v q. subst (λ (vs : List Value). size_with_slots (length vs) ≤ op_weight code table op) (ap made q) le;
      calls = λ k g q. absurd (cc (q));
      opens = λ k g s b q. absurd (cc (q));
    };
    full = λ x q. absurd (cc (q));
  }

  calls : (h g : Frame) → table g.body ≤ op_weight code table op → Knows (Calls h g)
  unfolding called
  calls h g le = record {
    is = record {
      makes = λ k c v q. absurd (cc (q));
      calls = λ k x q. subst (λ (b : Body). table b ≤ op_weight code table op) (some_inj g.body x.body (ap called q)) le;
      opens = λ k x s b q. absurd (cc (q));
    };
    full = λ x q. absurd (cc (q));
  }

  with_given : {A : Type 0} (o : Option A) (next : A → Effect) → ((x : A) → o ≡ Some x → Knows (next x)) →
      Knows (given o next)
  with_given None next k = stuck
  with_given (Some x) next k = k x refl

  with_pop : (f : Frame) (next : Value → Frame → Effect) →
      ((v : Value) (h : Frame) → f.operands ≡ v ∷ h.operands → Knows (next v h)) → Knows (pop f next)
  with_pop f next k = of f.operands refl
    where
      of : (vs : List Value) → f.operands ≡ vs →
          Knows (elim vs [ [] ↦ Stuck | value ∷ below ↦ next value (record f { operands = below }) ])
      of [] e = stuck
      of (v ∷ vs) e = k v (record f { operands = vs }) e

  with_pop_from : (count : ℕ) (f : Frame) (taken : List Value) (next : List Value → Frame → Effect) →
      ((vs : List Value) (h : Frame) → slice_get f.operands count ≡ slice_get h.operands 0 → Knows (next vs h)) →
      Knows (pop_from count f taken next)
  with_pop_from zero f taken next k = k taken f refl
  with_pop_from (suc count) f taken next k =
      with_pop f (λ value g. pop_from count g (value ∷ taken) next)
      (λ v h e. with_pop_from count h (v ∷ taken) next (λ vs g q.
      k vs g (ap (λ (xs : List Value). slice_get xs (suc count)) e ∙ q)))

  with_object : (v : Value) (next : ℕ → Effect) → ((r : ℕ) → v ≡ At r → Knows (next r)) → Knows (as_object v next)
  with_object (At r) next k = k r refl
  with_object Null next k = fault NullPointer refl
  with_object _ next k = stuck

  with_reference : (v : Value) (next : ℕ → Effect) → ((r : ℕ) → Knows (next r)) → Knows (as_reference v next)
  with_reference (At r) next k = k r
  with_reference _ next k = stuck

  constructs_known : (f : Frame) (id class count : ℕ) (keeps : Bool) →
      greatest table (option_to_list (constructor_body code.program class)) ≤ op_weight code table op →
      Knows (constructs code f id class count keeps)
  unfolding greatest new_frame
  constructs_known f id class count keeps le =
      with_given (constructor_body code.program class) _ (λ body e.
      with_pop_from count f [] _ (λ arguments f q. with_pop f _ (λ object g q. with_reference object _ (λ r.
      calls (if keeps then f else g) (new_frame code body (Some id) (Some r) f.area arguments)
      (let s : greatest table (option_to_list (constructor_body code.program class)) ≡ greatest table (body ∷ []) =
      ap (λ (o : Option Body). greatest table (option_to_list o)) e in omega (arith, s, le))))))

-- ---- without a premise: ALLOC, CONSTRUCT, SUPER, CALLSTATIC
module _ (code : Code) (table : Table) (f : Frame) (id : ℕ) where
  pub alloc_known : Knows code table (ALLOC id) (alloc_op code f id)
  unfolding op_weight object_bytes bound_class
  alloc_known = of (binding code id) refl
    where
      of : (b : Binding) → binding code id ≡ b →
          Knows code table (ALLOC id) (given (bound_class b) (λ class. Makes f class (new_slots code.program class)))
      of (ClassNamed class) e =
          makes code table (ALLOC id) f class (new_slots code.program class)
          (let s : op_weight code table (ALLOC id) ≡ size_with_slots (length (new_slots code.program class)) =
          ap (object_bytes code.program) e in omega (arith, s))
      of _ e = stuck code table (ALLOC id)

  pub construct_known : Knows code table (CONSTRUCT id) (construct_op code f id)
  unfolding op_weight constructor_targets bound_class
  construct_known = of (binding code id) refl
    where
      of : (b : Binding) → binding code id ≡ b →
          Knows code table (CONSTRUCT id) (given (bound_class b) (λ class. given (part code argument_count id) (λ count.
          constructs code f id class count true)))
      of (ClassNamed class) e =
          with_given code table (CONSTRUCT id) (part code argument_count id) _ (λ count q.
          constructs_known code table (CONSTRUCT id) f id class count true
          (let s : op_weight code table (CONSTRUCT id)
          ≡ greatest table (option_to_list (constructor_body code.program class)) =
          ap (λ (b : Binding). greatest table (constructor_targets code.program b)) e in omega (arith, s)))
      of _ e = stuck code table (CONSTRUCT id)

  pub super_known : Knows code table (SUPER id) (super_op code f id)
  unfolding op_weight constructor_targets bound_class
  super_known = of (binding code id) refl
    where
      of : (b : Binding) → binding code id ≡ b →
          Knows code table (SUPER id) (given (bound_class b) (λ class. constructs code f id class (super_count code id) false))
      of (ClassNamed class) e =
          constructs_known code table (SUPER id) f id class (super_count code id) false
          (let s : op_weight code table (SUPER id)
          ≡ greatest table (option_to_list (constructor_body code.program class)) =
          ap (λ (b : Binding). greatest table (constructor_targets code.program b)) e in omega (arith, s))
      of _ e = stuck code table (SUPER id)

  pub call_static_known : Knows code table (CALLSTATIC id) (call_static_op code f id)
  unfolding op_weight call_targets bound_static_method greatest new_frame
  call_static_known = of (binding code id) refl
    where
      of : (b : Binding) → binding code id ≡ b →
          Knows code table (CALLSTATIC id) (given (bound_static_method b) (λ method.
          given (part code argument_count id) (λ count.
          given (body_of code.program method.0 method.1) (λ body.
          pop_all count f (λ arguments f. Calls f (new_frame code body (Some id) None f.area arguments))))))
      of (StaticMethod t) e =
          with_given code table (CALLSTATIC id) (part code argument_count id) _ (λ count q.
          with_given code table (CALLSTATIC id) (body_of code.program t.on t.id) _ (λ body is.
          with_pop_from code table (CALLSTATIC id) count f [] _ (λ arguments h q.
          calls code table (CALLSTATIC id) h (new_frame code body (Some id) None h.area arguments)
          (let s : op_weight code table (CALLSTATIC id) ≡ greatest table (option_to_list (body_of code.program t.on t.id)) =
          ap (λ (b : Binding). greatest table (call_targets code.program b)) e in
          let u : greatest table (option_to_list (body_of code.program t.on t.id)) ≡ greatest table (body ∷ []) =
          ap (λ (o : Option Body). greatest table (option_to_list o)) is in omega (arith, s, u)))))
      of _ e = stuck code table (CALLSTATIC id)

-- ---- CALL: the receiver's class is a concrete one under the static type
-- a row that is there has its number among all
numbered : (p : Declarations) (rows : List ClassRow) (from k : ℕ) (row : ClassRow) → slice_get rows k ≡ Some row →
    (test : ℕ → Bool) → test (from + k) ≡ true → (give : ℕ → Option Body) (body : Body) → give (from + k) ≡ Some body →
    (table : Table) → table body ≤ greatest table (filter_map give (filter test (numbers_from from rows)))
unfolding greatest numbers_from
numbered p [] from k row there test t give body g table = absurd (cc (there))
numbered p (x ∷ rows) from zero row there test t give body g table =
    let z : from ≡ from + 0 = omega arith in
    let u : test from ≡ true = ap test z ∙ t in
    let h : give from ≡ Some body = ap give z ∙ g in
    rw (u, h) (omega arith)
numbered p (x ∷ rows) from (suc k) row there test t give body g table =
    let shift : from + 1 + k ≡ from + suc k = omega arith in
    let again : table body ≤ greatest table (filter_map give (filter test (numbers_from (from + 1) rows))) =
    numbered p rows (from + 1) k row there test (ap test shift ∙ t) give body (ap give shift ∙ g) table in
    of (test from) (give from) again
  where
    more : (o : Option Body) (xs : List Body) → table body ≤ greatest table xs → table body ≤ greatest table (cons_option o xs)
    more None xs h = h
    more (Some b) xs h = omega (arith, h)

    of : (b : Bool) (o : Option Body) →
        table body ≤ greatest table (filter_map give (filter test (numbers_from (from + 1) rows))) →
        table body ≤ greatest table (filter_map give
        (if b then from ∷ filter test (numbers_from (from + 1) rows) else filter test (numbers_from (from + 1) rows)))
    of true o h = more (give from) _ h
    of false o h = h

pub is_dispatched : (p : Declarations) (table : Table) (on method class : ℕ) (body : Body) →
    is_sub p.classes class on ≡ true → kind_is is_concrete p class ≡ true → body_of p class method ≡ Some body →
    table body ≤ greatest table (dispatched p on method)
unfolding dispatched classes_under
is_dispatched p table on method class body sub concrete is = of (slice_get p.classes class) refl
  where
    of : (o : Option ClassRow) → slice_get p.classes class ≡ o →
        table body ≤ greatest table (filter_map (λ c. body_of p c method) (filter (is_concrete_under p on) (numbers_from 0 p.classes)))
    of None e = absurd (cc (e, concrete))
    of (Some row) e =
        numbered p p.classes 0 class row e (is_concrete_under p on)
        (let t : is_concrete_under p on class ≡ true = rw (sub, concrete) refl in ap (is_concrete_under p on) (zero-add class) ∙ t)
        (λ c. body_of p c method) body (ap (λ (c : ℕ). body_of p c method) (zero-add class) ∙ is) table

-- what has to be known of the operands: the receiver is an object of a concrete class under the static type that the
-- binding tells
pub record ReceiverIsTyped (code : Code) (world : Environment) (f : Frame) (id : ℕ) : Type 0 where
  pub typed : (t : Target) (count r : ℕ) (o : Object) → binding code id ≡ Method t →
      part code argument_count id ≡ Some count → slice_get f.operands count ≡ Some (At r) → world.object_at r ≡ Some o →
      (is_sub code.program.classes o.class t.on ≡ true) × (kind_is is_concrete code.program o.class ≡ true)

module _ (code : Code) (table : Table) (world : Environment) (f : Frame) (id : ℕ) (typed : ReceiverIsTyped code world f id) where
  pub call_known : Knows code table (CALL id) (call_op code world f id)
  unfolding op_weight call_targets bound_method new_frame
  call_known = of (binding code id) refl
    where
      of : (b : Binding) → binding code id ≡ b →
          Knows code table (CALL id) (given (bound_method b) (λ method. given (part code argument_count id) (λ count.
          pop_all count f (λ arguments f. pop f (λ object f. as_object object (λ r.
          given (world.object_at r) (λ o. given (body_of code.program o.class method) (λ body.
          Calls f (new_frame code body (Some id) (Some r) f.area arguments)))))))))
      of (Method t) e =
          with_given code table (CALL id) (part code argument_count id) _ (λ count is.
          with_pop_from code table (CALL id) count f [] _ (λ arguments h q.
          with_pop code table (CALL id) h _ (λ object g top.
          with_object code table (CALL id) object _ (λ r at_.
          with_given code table (CALL id) (world.object_at r) _ (λ o there.
          with_given code table (CALL id) (body_of code.program o.class t.id) _ (λ body found.
          calls code table (CALL id) g (new_frame code body (Some id) (Some r) g.area arguments)
          (let head : slice_get f.operands count ≡ Some (At r) =
          q ∙ (ap (λ (vs : List Value). slice_get vs 0) top ∙ ap (λ (v : Value). Some v) at_) in
          let k = typed.typed t count r o e is head there in
          let d = is_dispatched code.program table t.on t.id o.class body k.0 k.1 found in
          let s : op_weight code table (CALL id) ≡ greatest table (dispatched code.program t.on t.id) =
          ap (λ (b : Binding). greatest table (call_targets code.program b)) e in
          omega (arith, s, d))))))))
      of _ e = stuck code table (CALL id)

-- ---- ENTER, EXECUTEIN and ALLOCARRAY
opened : Table → Effect → ℕ × ℕ
opened table (Opens h g scope bytes) = (table g.body, bytes)
opened table _ = (0, 0)

pub runs_are : (p : Declarations) (table : Table) (on class : ℕ) (body : Body) →
    is_sub p.classes class on ≡ true → kind_is is_concrete p class ≡ true → body_named p class (codes "run") ≡ Some body →
    table body ≤ greatest table (runs_under p on)
unfolding runs_under classes_under
runs_are p table on class body sub concrete is = of (slice_get p.classes class) refl
  where
    of : (o : Option ClassRow) → slice_get p.classes class ≡ o →
        table body ≤ greatest table (filter_map (λ c. body_named p c (codes "run")) (filter (is_concrete_under p on) (numbers_from 0 p.classes)))
    of None e = absurd (cc (e, concrete))
    of (Some row) e =
        numbered p p.classes 0 class row e (is_concrete_under p on)
        (let t : is_concrete_under p on class ≡ true = rw (sub, concrete) refl in ap (is_concrete_under p on) (zero-add class) ∙ t)
        (λ c. body_named p c (codes "run")) body (ap (λ (c : ℕ). body_named p c (codes "run")) (zero-add class) ∙ is) table

-- what has to be known: the last operand is an object of a concrete class under the class that the binding tells
pub record RunnableIsTyped (code : Code) (world : Environment) (f : Frame) (id : ℕ) : Type 0 where
  pub on : ℕ
  pub targets : entered_targets code.program (binding code id) ≡ runs_under code.program on
  pub typed : (r : ℕ) (o : Object) → slice_get f.operands 0 ≡ Some (At r) → world.object_at r ≡ Some o →
      (is_sub code.program.classes o.class on ≡ true) × (kind_is is_concrete code.program o.class ≡ true)

-- what has to be known of literals: the operand that an operation takes as a size is the number that is written
pub record SizeIsWritten (code : Code) (f : Frame) (id index : ℕ) (which : Node → Option ℕ) : Type 0 where
  pub written : (n : ℕ) → part code which id >>= part code number_literal ≡ Some n →
      slice_get f.operands index ≡ Some (Int (pos n))

module _ (code : Code) (table : Table) (world : Environment) (f : Frame) (id : ℕ) where
  greatest_run : (typed : RunnableIsTyped code world f id) (r : ℕ) (o : Object) (body : Body) →
      slice_get f.operands 0 ≡ Some (At r) → world.object_at r ≡ Some o →
      body_named code.program o.class (codes "run") ≡ Some body →
      table body ≤ greatest table (entered_targets code.program (binding code id))
  greatest_run typed r o body head there is =
      let k = typed.typed r o head there in
      let a = runs_are code.program table typed.on o.class body k.0 k.1 is in
      let s : greatest table (entered_targets code.program (binding code id)) ≡ greatest table (runs_under code.program typed.on) =
      ap (greatest table) typed.targets in
      omega (arith, a, s)

  -- where the operation is reckoned with at all
  pub execute_in_known : RunnableIsTyped code world f id → op_weight code table (EXECUTEIN id) < too_much →
      Knows code table (EXECUTEIN id) (execute_in_op code world f id)
  unfolding op_weight executed_weight new_frame
  execute_in_known typed small =
      with_pop code table (EXECUTEIN id) f _ (λ runnable g top.
      with_pop code table (EXECUTEIN id) g _ (λ object h q.
      with_object code table (EXECUTEIN id) object _ (λ place e.
      with_object code table (EXECUTEIN id) runnable _ (λ r at_.
      with_given code table (EXECUTEIN id) (world.object_at place) _ (λ there w.
      with_given code table (EXECUTEIN id) (world.object_at r) _ (λ o found.
      with_given code table (EXECUTEIN id) (body_named code.program o.class (codes "run")) _ (λ body is.
      calls code table (EXECUTEIN id) h (new_frame code body (Some id) (Some r) there.area [])
      (none (greatest table (entered_targets code.program (binding code id))) refl small
      (greatest_run typed r o body
      (ap (λ (vs : List Value). slice_get vs 0) top ∙ ap (λ (v : Value). Some v) at_) found is)))))))))
    where
      none : (n : ℕ) → greatest table (entered_targets code.program (binding code id)) ≡ n →
          op_weight code table (EXECUTEIN id) < too_much → {m : ℕ} → m ≤ n → m ≤ op_weight code table (EXECUTEIN id)
      none n e l h = of (greatest table (entered_targets code.program (binding code id)) == 0) refl l h
        where
          of : (b : Bool) → (greatest table (entered_targets code.program (binding code id)) == 0) ≡ b →
              only_if b 0 < too_much → {m : ℕ} → m ≤ n → m ≤ only_if b 0
          of true q l h =
              let z : greatest table (entered_targets code.program (binding code id)) ≡ 0 = grind (arith, nat_tests) in
              omega (arith, z, e, h)
          of false q l h = absurd (omega (arith, l))

  opens : (h g : Frame) (scope bytes : ℕ) → table g.body ≤ bytes → bytes < too_much →
      Knows code table (ENTER id) (Opens h g scope bytes)
  unfolding opened
  opens h g scope bytes le lt = record {
    is = record {
      makes = λ k c v q. absurd (cc (q));
      calls = λ k x q. absurd (cc (q));
      opens = λ k x s b q. subst (λ (z : ℕ × ℕ). (z.0 ≤ z.1) × (z.1 < too_much)) (ap (opened table) q) (le, lt);
    };
    full = λ x q. absurd (cc (q));
  }

  -- the number that is written, where the operation is reckoned with
  record Sized (most : ℕ) : Type 0 where
    size : ℕ
    is : part code size_node id >>= part code number_literal ≡ Some size
    fits : most ≤ size
    small : size < too_much

  sized : op_weight code table (ENTER id) < too_much → Sized (greatest table (entered_targets code.program (binding code id)))
  unfolding op_weight entered_weight
  sized small = of (part code size_node id >>= part code number_literal) refl small
    where
      most : ℕ
      most = greatest table (entered_targets code.program (binding code id))

      of : (o : Option ℕ) → part code size_node id >>= part code number_literal ≡ o →
          (elim o [ None ↦ too_much | Some size ↦ only_if (nat_lt size too_much && not (nat_lt size most)) 0 ]) < too_much →
          Sized most
      of None e l = absurd (omega (arith, l))
      of (Some size) e l = test (nat_lt size too_much) (nat_lt size most) refl refl l
        where
          test : (a b : Bool) → nat_lt size too_much ≡ a → nat_lt size most ≡ b → only_if (a && not b) 0 < too_much → Sized most
          test true false p q l = record { size = size; is = e; fits = grind (arith, nat_tests); small = grind (arith, nat_tests) }
          test true true p q l = absurd (omega (arith, l))
          test false b p q l = absurd (omega (arith, l))

  pub enter_known : RunnableIsTyped code world f id → SizeIsWritten code f id 1 size_node →
      op_weight code table (ENTER id) < too_much → Knows code table (ENTER id) (enter_op code world f id)
  unfolding new_frame
  enter_known typed written small =
      with_pop code table (ENTER id) f _ (λ runnable g top.
      with_pop code table (ENTER id) g _ (λ size h q.
      with_object code table (ENTER id) runnable _ (λ r at_. ints g h runnable size top q r at_ size refl)))
    where
      s : Sized (greatest table (entered_targets code.program (binding code id)))
      s = sized small

      ints : (g h : Frame) (runnable size : Value) → f.operands ≡ runnable ∷ g.operands → g.operands ≡ size ∷ h.operands →
          (r : ℕ) → runnable ≡ At r → (v : Value) → v ≡ size →
          Knows code table (ENTER id) (as_int v (λ bytes.
          if is_negative bytes then Faults NegativeSize
          else with_run code world r (λ o body. given (defined_by_chain code.program o.class) (λ scope.
          Opens h (new_frame code body (Some id) (Some r) h.area []) scope (unsigned_abs bytes)))))
      ints g h runnable size top q r at_ (Int z) e = of (is_negative z)
        where
          head : slice_get f.operands 1 ≡ Some (Int z)
          head = ap (λ (vs : List Value). slice_get vs 1) top ∙ (ap (λ (vs : List Value). slice_get vs 0) q ∙ ap (λ (v : Value). Some v) (sym e))

          is_size : z ≡ pos s.size
          is_size = let a = some_inj (Int z) (Int (pos s.size)) (sym head ∙ written.written s.size s.is) in cc (a)

          bytes : unsigned_abs z ≡ s.size
          bytes = ap unsigned_abs is_size

          of : (b : Bool) → Knows code table (ENTER id) (if b then Faults NegativeSize
              else with_run code world r (λ o body. given (defined_by_chain code.program o.class) (λ scope.
              Opens h (new_frame code body (Some id) (Some r) h.area []) scope (unsigned_abs z))))
          of true = fault code table (ENTER id) NegativeSize refl
          of false =
              with_given code table (ENTER id) (world.object_at r) _ (λ o found.
              with_given code table (ENTER id) (body_named code.program o.class (codes "run")) _ (λ body is.
              with_given code table (ENTER id) (defined_by_chain code.program o.class) _ (λ scope named.
              (let a = greatest_run typed r o body
              (ap (λ (vs : List Value). slice_get vs 0) top ∙ ap (λ (v : Value). Some v) at_) found is in
              opens h (new_frame code body (Some id) (Some r) h.area []) scope (unsigned_abs z)
              (omega (arith, a, s.fits, bytes)) (omega (arith, s.small, bytes))))))
      ints g h runnable size top q r at_ Null e = stuck code table (ENTER id)
      ints g h runnable size top q r at_ _ e = stuck code table (ENTER id)

  -- an array is as long as it is written
  pub alloc_array_known : SizeIsWritten code f id 0 length_node → op_weight code table (ALLOCARRAY id) < too_much →
      Knows code table (ALLOCARRAY id) (alloc_array_op code f id)
  unfolding op_weight array_weight
  alloc_array_known written small =
      with_given code table (ALLOCARRAY id) (bound_class (binding code id)) _ (λ class e.
      with_given code table (ALLOCARRAY id) (element_kind code.program class) _ (λ kind k.
      with_pop code table (ALLOCARRAY id) f _ (λ count g top. ints class kind g count top count refl)))
    where
      ints : (class : ℕ) (kind : SlotKind) (g : Frame) (count : Value) → f.operands ≡ count ∷ g.operands → (v : Value) →
          v ≡ count → Knows code table (ALLOCARRAY id) (as_int v (λ n.
          if is_negative n then Faults NegativeSize else Makes g class (new_elements kind (unsigned_abs n))))
      ints class kind g count top (Int z) e = of (is_negative z) (part code length_node id >>= part code number_literal) refl small
        where
          head : slice_get f.operands 0 ≡ Some (Int z)
          head = ap (λ (vs : List Value). slice_get vs 0) top ∙ ap (λ (v : Value). Some v) (sym e)

          of : (b : Bool) (o : Option ℕ) → part code length_node id >>= part code number_literal ≡ o →
              (elim o [ None ↦ too_much | Some n ↦ size_with_slots n ]) < too_much →
              Knows code table (ALLOCARRAY id)
              (if b then Faults NegativeSize else Makes g class (new_elements kind (unsigned_abs z)))
          of true o q l = fault code table (ALLOCARRAY id) NegativeSize refl
          of false None q l = absurd (omega (arith, l))
          of false (Some n) q l =
              let same : z ≡ pos n = (let a = some_inj (Int z) (Int (pos n)) (sym head ∙ written.written n q) in cc (a)) in
              let long : length (new_elements kind (unsigned_abs z)) ≡ n =
              length-replicate (unsigned_abs z) (default_value kind) ∙ ap unsigned_abs same in
              let bytes : op_weight code table (ALLOCARRAY id) ≡ size_with_slots n =
              ap (λ (o : Option ℕ). elim o [ None ↦ too_much | Some count ↦ size_with_slots count ]) q in
              let sizes = ap size_with_slots long in
              makes code table (ALLOCARRAY id) g class (new_elements kind (unsigned_abs z)) (omega (arith, bytes, sizes))
      ints class kind g count top _ e = stuck code table (ALLOCARRAY id)
