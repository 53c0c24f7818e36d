-- What an operation's effect puts into memory, and leaves to be put there, is what was reckoned with before it.
use Rattle.std.specs.Prelude.{Option, Some, None, slice_get, if◌then◌else◌, ℤ, pos, unsigned_abs, codes, slice_set, not}
use Rattle.std.specs.Int.{is_negative}
use Rattle.std.proofs.Common.{◌≡◌, ℕ, zero, suc, ◌+◌, ◌<◌, ◌≤◌, List, [], ◌∷◌, ◌++◌, length, Bool, true, false, ◌==◌, refl, ap, subst, arith, inl, inr}
use Rattle.scj_base.specs.declared.faults.RunFault.{RunFault}
use Rattle.scj_base.specs.declared.faults.RunFault.TheVariants.{NullPointer, ArrayIndex, NegativeSize, DivideByZero, ClassCast, BadPriority, BadPeriod, BadPort}
use Rattle.scj_base.specs.declared.values.Value.{Value}
use Rattle.scj_base.specs.declared.values.Value.TheVariants.{Int, Bool as Truth, Null, At}
use Rattle.scj_tree.specs.Forest.{ChildrenFirst}
use Rattle.scj_rules.specs.declared.views.Body.{Body}
use Rattle.scj_model.specs.declared.operations.Op.{Op}
use Rattle.scj_model.specs.declared.operations.Op.TheVariants.{Push as PUSH, This as THIS, Load as LOAD, Get as GET, GetStatic as GETSTATIC, Length as LENGTH, Elem as ELEM, Unary as UNARY, Bin as BIN, And as AND, Or as OR, Alloc as ALLOC, Construct as CONSTRUCT, AllocArray as ALLOCARRAY, Call as CALL, CallStatic as CALLSTATIC, Cast as CAST, Enter as ENTER, ExecuteIn as EXECUTEIN, Same as SAME, SetCeiling as SETCEILING, Print as PRINT, Read as READ, Register as REGISTER, Release as RELEASE, Terminate as TERMINATE, Zero as ZERO, Store as STORE, Put as PUT, PutStatic as PUTSTATIC, PutElem as PUTELEM, If as IF, Loop as LOOP, LeaveWith as LEAVEWITH, Leave as LEAVE, Drop as DROP, Init as INIT, Super as SUPER, Params as PARAMS}
use Rattle.scj_model.specs.Code.{Code, binding, part}
use Rattle.scj_model.specs.State.{Object, Frame}
use Rattle.scj_model.specs.Ops.{body_ops, put_in_front}
use Rattle.scj_model.specs.Effects.{Effect, Goes, Prints, Makes, Stores, StoresStatic, SetsHidden, SetsCeiling, Calls, Opens, Leaves, AsksRegistration, AsksRelease, AsksTermination, Faults, Stuck, given, pop, pop_from, as_int, as_truth, as_reference, as_object, pushes, branch, new_frame}
use Rattle.scj_rules.specs.Classes.{is_sub}
use Rattle.scj_rules.specs.ScopeRules.{defined_by_chain}
use Rattle.scj_rules.specs.Layout.{kind_of_type, literal_written, slot_of, static_index, element_kind}
use Rattle.scj_rules.specs.declared.views.Declared.{Declared}
use Rattle.scj_rules.specs.Views.{variable_at}
use Rattle.scj_rules.specs.Words.{◌>>=◌}
use Rattle.scj_builtins.specs.Framework.{mission_sequencer, periodic_handler}
use Rattle.scj_rules.specs.Bodies.{body_named, body_of, constructor_body}
use Rattle.scj_model.specs.Memory.{literal_value, new_elements, default_value}
use Rattle.scj_model.specs.Arithmetic.{binary_value, divides_by_zero, unary_value}
use Rattle.scj_model.specs.Operations.{Environment, effect_of, bound_local, bound_field, bound_static, bound_class, bound_method, bound_static_method, operator_of, argument_count, index_in, push_op, this_op, load_op, with_field, get_op, get_static_op, length_op, elem_op, unary_op, bin_op, and_op, or_op, cast_op, alloc_op, alloc_array_op, constructs, construct_op, super_count, super_op, call_op, call_static_op, with_run, enter_op, execute_in_op, if_op, loop_op, assigned, first_argument, init_op, zero_op, store_op, put_op, put_static_op, put_elem_op, with_area, are_one_area, same_op, set_ceiling_op, is_priority, print_op, is_port, read_op, register_op, release_op, terminate_op, leave_with_op, leave_op, drop_op, times_of, periodic_parameters, right_parameters, params_op}
use Rattle.memory_needs.specs.Targets.{entered_targets}
use Rattle.memory_needs.specs.Need.{Table, greatest, too_much}
use Rattle.memory_bounds.specs.Weights.{only_if, executed_weight, IsBound, op_weight, ops_weight}
use Rattle.memory_bounds.specs.Accounting.{IsCounted, Within, EffectWithin}
use Rattle.memory_bounds.proofs.NodeWeights.{append_weight, front_covered}

module _ (code : Code) (table : Table) (bound : IsBound code table) (first : ChildrenFirst 0 code.program.nodes) (op : Op) (top : Frame) (n : ℕ)
    (covers : op_weight code table op + ops_weight code table top.rest ≤ n) (small : n < too_much) where
  -- an effect within what was reckoned with, if it is counted
  record Counts (e : Effect) : Type 0 where
    is : IsCounted code table op e → EffectWithin code table n top e

  -- a frame as the operation found it, but for operands and locals
  record Like (h : Frame) : Type 0 where
    area : h.area ≡ top.area
    opened : h.opened ≡ top.opened
    rest : h.rest ≡ top.rest

  within : (h : Frame) → Like h → (m : ℕ) → m ≤ op_weight code table op → Within code table n top h m
  within h like m le =
      let a = ap (ops_weight code table) like.rest in
      (like.area, like.opened, omega (arith, a, covers, le))

  stuck : Counts Stuck
  stuck = record { is = λ c. tt }

  fault : (x : RunFault) → Counts (Faults x)
  fault x = record { is = λ c. tt }

  goes : (h : Frame) → Like h → Counts (Goes h)
  goes h like = record { is = λ c. within h like 0 (omega arith) }

  with_given : {A : Type 0} (o : Option A) (next : A → Effect) → ((x : A) → Counts (next x)) → Counts (given o next)
  with_given None next k = stuck
  with_given (Some x) next k = k x

  with_pop : (f : Frame) (next : Value → Frame → Effect) → Like f → ((v : Value) (h : Frame) → Like h → Counts (next v h)) →
      Counts (pop f next)
  with_pop f next like k = of f.operands
    where
      of : (vs : List Value) → Counts (elim vs [ [] ↦ Stuck | value ∷ below ↦ next value (record f { operands = below }) ])
      of [] = stuck
      of (v ∷ vs) = k v (record f { operands = vs }) (record { area = like.area; opened = like.opened; rest = like.rest })

  with_pop_from : (count : ℕ) (f : Frame) (taken : List Value) (next : List Value → Frame → Effect) → Like f →
      ((vs : List Value) (h : Frame) → Like h → Counts (next vs h)) → Counts (pop_from count f taken next)
  with_pop_from zero f taken next like k = k taken f like
  with_pop_from (suc count) f taken next like k =
      with_pop f (λ value g. pop_from count g (value ∷ taken) next) like
      (λ v h l. with_pop_from count h (v ∷ taken) next l k)

  with_int : (v : Value) (next : ℤ → Effect) → ((z : ℤ) → Counts (next z)) → Counts (as_int v next)
  with_int (Int z) next k = k z
  with_int _ next k = stuck

  with_truth : (v : Value) (next : Bool → Effect) → ((b : Bool) → Counts (next b)) → Counts (as_truth v next)
  with_truth (Truth b) next k = k b
  with_truth _ next k = stuck

  with_reference : (v : Value) (next : ℕ → Effect) → ((r : ℕ) → Counts (next r)) → Counts (as_reference v next)
  with_reference (At r) next k = k r
  with_reference _ next k = stuck

  with_object : (v : Value) (next : ℕ → Effect) → ((r : ℕ) → Counts (next r)) → Counts (as_object v next)
  with_object (At r) next k = k r
  with_object Null next k = fault NullPointer
  with_object _ next k = stuck

  with_test : (b : Bool) (x y : Effect) → Counts x → Counts y → Counts (if b then x else y)
  with_test true x y k l = k
  with_test false x y k l = l

  pushing : (f : Frame) (v : Value) → Like f → Counts (pushes f v)
  pushing f v like = goes (record f { operands = v ∷ f.operands })
      (record { area = like.area; opened = like.opened; rest = like.rest })

  -- ---- branches
  record Fronted (h : Frame) : Type 0 where
    b : Bool
    ops : List Op
    front : put_in_front code op b ≡ Some ops
    area : h.area ≡ top.area
    opened : h.opened ≡ top.opened
    rest : h.rest ≡ ops ++ top.rest

  goes_fronted : (h : Frame) → Fronted h → Counts (Goes h)
  goes_fronted h like =
      let a = ap (ops_weight code table) like.rest in
      let b = append_weight code table like.ops top.rest in
      let c = front_covered code table first op like.b like.ops like.front (omega (arith, covers, small)) in
      record { is = λ d. (like.area, like.opened, omega (arith, a, b, c, covers)) }

  fronted_with : (h : Frame) (vs : List Value) → Fronted h → Fronted (record h { operands = vs })
  fronted_with h vs like =
      record { b = like.b; ops = like.ops; front = like.front; area = like.area; opened = like.opened; rest = like.rest }

  with_branch : (f : Frame) (next : Bool → Frame → Effect) → Like f →
      ((b : Bool) (h : Frame) → Fronted h → Counts (next b h)) → Counts (branch code op f next)
  with_branch f next like k =
      with_pop f _ like (λ v h l. with_truth v _ (λ b. of b h l (put_in_front code op b) refl))
    where
      of : (b : Bool) (h : Frame) → Like h → (o : Option (List Op)) → put_in_front code op b ≡ o →
          Counts (given o (λ ops. next b (record h { rest = ops ++ h.rest })))
      of b h l None e = stuck
      of b h l (Some ops) e =
          k b (record h { rest = ops ++ h.rest })
          (record { b = b; ops = ops; front = e; area = l.area; opened = l.opened; rest = ap (λ (xs : List Op). ops ++ xs) l.rest })

  -- ---- calls
  body_within : (body : Body) (m : ℕ) → table body ≤ m → m < too_much → ops_weight code table (body_ops code body) ≤ m
  body_within body m le lt = let a = bound.bodies body in omega (arith, a, le, lt)

  calls : (h : Frame) (body : Body) (at_ this : Option ℕ) (area : ℕ) (arguments : List Value) → Like h → area ≡ top.area →
      Counts (Calls h (new_frame code body at_ this area arguments))
  unfolding new_frame
  calls h body at_ this area arguments like same =
      record {
        is = λ c.
            let le : table body ≤ op_weight code table op = c.calls h _ refl in
            let b = body_within body (op_weight code table op) le (omega (arith, covers, small)) in
            (refl, inl (same, within h like (ops_weight code table (body_ops code body)) b));
      }

  -- in another area
  calls_away : (h : Frame) (body : Body) (at_ this : Option ℕ) (area : ℕ) (arguments : List Value) → Like h →
      op_weight code table op ≡ 0 → Counts (Calls h (new_frame code body at_ this area arguments))
  unfolding new_frame
  calls_away h body at_ this area arguments like none =
      record {
        is = λ c.
            let le : table body ≤ op_weight code table op = c.calls h _ refl in
            let b = body_within body 0 (omega (arith, le, none)) (omega arith) in
            (refl, inr (omega (arith, b), within h like 0 (omega arith)));
      }

  opens : (h : Frame) (body : Body) (at_ this : Option ℕ) (area : ℕ) (scope bytes : ℕ) → Like h →
      Counts (Opens h (new_frame code body at_ this area []) scope bytes)
  unfolding new_frame
  opens h body at_ this area scope bytes like =
      record {
        is = λ c.
            let le : (table body ≤ bytes) × (bytes < too_much) = c.opens h _ scope bytes refl in
            (within h like 0 (omega arith), body_within body bytes le.0 le.1, le.1);
      }

  makes : (h : Frame) (class : ℕ) (values : List Value) → Like h → Counts (Makes h class values)
  makes h class values like =
      record { is = λ c. within h like _ (c.makes h class values refl) }

  -- ---- all operations
  self : Like top
  self = record { area = refl; opened = refl; rest = refl }

  module _ (world : Environment) (id : ℕ) where
    push_counts : Counts (push_op code top id)
    push_counts = with_given (part code literal_value id) _ (λ v. pushing top v self)

    this_counts : Counts (this_op top)
    this_counts = with_given top.this _ (λ r. pushing top (At r) self)

    load_counts : Counts (load_op code top id)
    load_counts =
        with_given (bound_local (binding code id)) _ (λ k. with_given (slice_get top.locals k) _ (λ v. pushing top v self))

    field_counts : (r field : ℕ) (next : Object → ℕ → Effect) → ((o : Object) (slot : ℕ) → Counts (next o slot)) →
        Counts (with_field code world r field next)
    field_counts r field next k =
        with_given (world.object_at r) _ (λ o. with_given (slot_of code.program o.class field) _ (λ slot. k o slot))

    get_counts : Counts (get_op code world top id)
    get_counts =
        with_given (bound_field (binding code id)) _ (λ field.
        with_pop top _ self (λ object f l. with_object object _ (λ r.
        field_counts r field _ (λ o slot. with_given (slice_get o.slots slot) _ (λ v. pushing f v l)))))

    get_static_counts : Counts (get_static_op code world top id)
    get_static_counts =
        with_given (bound_static (binding code id)) _ (λ field.
        with_given (static_index code.program field) _ (λ place.
        with_given (slice_get world.statics place) _ (λ v. pushing top v self)))

    length_counts : Counts (length_op world top)
    length_counts =
        with_pop top _ self (λ array f l. with_object array _ (λ r.
        with_given (world.object_at r) _ (λ o. pushing f (Int (pos (length o.slots))) l)))

    at_index : (o : Option ℕ) (next : ℕ → Effect) → ((k : ℕ) → Counts (next k)) →
        Counts (elim o [ None ↦ Faults ArrayIndex | Some k ↦ next k ])
    at_index None next k = fault ArrayIndex
    at_index (Some x) next k = k x

    elem_counts : Counts (elem_op world top)
    elem_counts =
        with_pop top _ self (λ index f l. with_pop f _ l (λ array f l. with_object array _ (λ r.
        with_int index _ (λ i. with_given (world.object_at r) _ (λ o.
        at_index (index_in o.slots i) _ (λ k. with_given (slice_get o.slots k) _ (λ v. pushing f v l)))))))

    unary_counts : Counts (unary_op code top id)
    unary_counts =
        with_given (part code operator_of id) _ (λ operator. with_pop top _ self (λ operand f l.
        with_given (unary_value operator operand) _ (λ v. pushing f v l)))

    bin_counts : Counts (bin_op code top id)
    bin_counts =
        with_given (part code operator_of id) _ (λ operator.
        with_pop top _ self (λ right f l. with_pop f _ l (λ left f l.
        with_test (divides_by_zero operator right) _ _ (fault DivideByZero)
        (with_given (binary_value operator left right) _ (λ v. pushing f v l)))))

    and_counts : op ≡ AND id → Counts (and_op code top id)
    and_counts e =
        subst (λ (o : Op). Counts (branch code o top (λ b f. if b then Goes f else pushes f (Truth false)))) e
        (with_branch top _ self (λ b h f. with_test b _ _ (goes_fronted h f)
        (goes_fronted (record h { operands = Truth false ∷ h.operands }) (fronted_with h _ f))))

    or_counts : op ≡ OR id → Counts (or_op code top id)
    or_counts e =
        subst (λ (o : Op). Counts (branch code o top (λ b f. if b then pushes f (Truth true) else Goes f))) e
        (with_branch top _ self (λ b h f. with_test b _ _
        (goes_fronted (record h { operands = Truth true ∷ h.operands }) (fronted_with h _ f)) (goes_fronted h f)))

    if_counts : op ≡ IF id → Counts (if_op code top id)
    if_counts e =
        subst (λ (o : Op). Counts (branch code o top (λ b f. Goes f))) e (with_branch top _ self (λ b h f. goes_fronted h f))

    loop_counts : op ≡ LOOP id → Counts (loop_op code top id)
    loop_counts e =
        subst (λ (o : Op). Counts (branch code o top (λ b f. Goes f))) e (with_branch top _ self (λ b h f. goes_fronted h f))

    cast_counts : Counts (cast_op code world top id)
    cast_counts =
        with_given (bound_class (binding code id)) _ (λ class. with_pop top _ self (λ operand f l. of class f l operand))
      where
        of : (class : ℕ) (f : Frame) → Like f → (operand : Value) → Counts (elim operand [
          | Null ↦ pushes f Null
          | At r ↦ given (world.object_at r) (λ o.
              if is_sub code.program.classes o.class class then pushes f (At r) else Faults ClassCast)
          | Int z ↦ Stuck
          | Truth b ↦ Stuck
        ])
        of class f l Null = pushing f Null l
        of class f l (At r) =
            with_given (world.object_at r) _ (λ o. with_test (is_sub code.program.classes o.class class) _ _
            (pushing f (At r) l) (fault ClassCast))
        of class f l (Int z) = stuck
        of class f l (Truth b) = stuck

    alloc_counts : Counts (alloc_op code top id)
    alloc_counts = with_given (bound_class (binding code id)) _ (λ class. makes top class _ self)

    alloc_array_counts : Counts (alloc_array_op code top id)
    alloc_array_counts =
        with_given (bound_class (binding code id)) _ (λ class. with_given (element_kind code.program class) _ (λ kind.
        with_pop top _ self (λ count f l. with_int count _ (λ z.
        with_test (is_negative z) _ _ (fault NegativeSize) (makes f class (new_elements kind (unsigned_abs z)) l)))))

    constructs_counts : (class count : ℕ) (keeps : Bool) → Counts (constructs code top id class count keeps)
    constructs_counts class count keeps =
        with_given (constructor_body code.program class) _ (λ body.
        with_pop_from count top [] _ self (λ arguments f l. with_pop f _ l (λ object g m. with_reference object _ (λ r.
        of body arguments f g l m r keeps))))
      where
        of : (body : Body) (arguments : List Value) (f g : Frame) → Like f → Like g → (r : ℕ) (keeps : Bool) →
            Counts (Calls (if keeps then f else g) (new_frame code body (Some id) (Some r) f.area arguments))
        of body arguments f g l m r true = calls f body (Some id) (Some r) f.area arguments l l.area
        of body arguments f g l m r false = calls g body (Some id) (Some r) f.area arguments m l.area

    construct_counts : Counts (construct_op code top id)
    construct_counts =
        with_given (bound_class (binding code id)) _ (λ class. with_given (part code argument_count id) _ (λ count.
        constructs_counts class count true))

    super_counts : Counts (super_op code top id)
    super_counts =
        with_given (bound_class (binding code id)) _ (λ class. constructs_counts class (super_count code id) false)

    call_counts : Counts (call_op code world top id)
    call_counts =
        with_given (bound_method (binding code id)) _ (λ method. with_given (part code argument_count id) _ (λ count.
        with_pop_from count top [] _ self (λ arguments f l. with_pop f _ l (λ object f l. with_object object _ (λ r.
        with_given (world.object_at r) _ (λ o. with_given (body_of code.program o.class method) _ (λ body.
        calls f body (Some id) (Some r) f.area arguments l l.area)))))))

    call_static_counts : Counts (call_static_op code top id)
    call_static_counts =
        with_given (bound_static_method (binding code id)) _ (λ method. with_given (part code argument_count id) _ (λ count.
        with_given (body_of code.program method.0 method.1) _ (λ body.
        with_pop_from count top [] _ self (λ arguments f l. calls f body (Some id) None f.area arguments l l.area))))

    run_counts : (r : ℕ) (next : Object → Body → Effect) → ((o : Object) (body : Body) → Counts (next o body)) →
        Counts (with_run code world r next)
    run_counts r next k =
        with_given (world.object_at r) _ (λ o. with_given (body_named code.program o.class (codes "run")) _ (λ body. k o body))

    enter_counts : Counts (enter_op code world top id)
    enter_counts =
        with_pop top _ self (λ runnable f l. with_pop f _ l (λ size f l. with_object runnable _ (λ r. with_int size _ (λ z.
        with_test (is_negative z) _ _ (fault NegativeSize)
        (run_counts r _ (λ o body. with_given (defined_by_chain code.program o.class) _ (λ scope.
        opens f body (Some id) (Some r) f.area scope (unsigned_abs z) l)))))))

    execute_in_counts : op_weight code table op ≡ 0 → Counts (execute_in_op code world top id)
    execute_in_counts none =
        with_pop top _ self (λ runnable f l. with_pop f _ l (λ object f l. with_object object _ (λ place.
        with_object runnable _ (λ r. with_given (world.object_at place) _ (λ there.
        run_counts r _ (λ o body. calls_away f body (Some id) (Some r) there.area [] l none))))))

    -- ---- stores and the framework
    -- the frame goes on, with some effect besides
    with_set_locals : (f : Frame) (ls : List Value) → Like f → Like (record f { locals = ls })
    with_set_locals f ls l = record { area = l.area; opened = l.opened; rest = l.rest }

    stores : (f : Frame) (r slot : ℕ) (v : Value) → Like f → Counts (Stores f r slot v)
    stores f r slot v l = record { is = λ c. within f l 0 (omega arith) }

    hidden_set : (f : Frame) (r : ℕ) (vs : List Value) → Like f → Counts (SetsHidden f r vs)
    hidden_set f r vs l = record { is = λ c. within f l 0 (omega arith) }

    static_stored : (f : Frame) (place : ℕ) (v : Value) → Like f → Counts (StoresStatic f place v)
    static_stored f place v l = record { is = λ c. within f l 0 (omega arith) }

    ceiling_set : (f : Frame) (r ceiling : ℕ) → Like f → Counts (SetsCeiling f r ceiling)
    ceiling_set f r ceiling l = record { is = λ c. within f l 0 (omega arith) }

    printed : (f : Frame) (label : ℕ) (z : ℤ) → Like f → Counts (Prints f label z)
    printed f label z l = record { is = λ c. within f l 0 (omega arith) }

    registration : (f : Frame) (r : ℕ) → Like f → Counts (AsksRegistration f r)
    registration f r l = record { is = λ c. within f l 0 (omega arith) }

    release_asked : (f : Frame) (r : ℕ) → Like f → Counts (AsksRelease f r)
    release_asked f r l = record { is = λ c. within f l 0 (omega arith) }

    termination : (f : Frame) (r : ℕ) → Like f → Counts (AsksTermination f r)
    termination f r l = record { is = λ c. within f l 0 (omega arith) }

    left : (f : Frame) (v : Option Value) → Like f → Counts (Leaves f v)
    left f v l = record { is = λ c. l.opened }

    init_counts : Counts (init_op code world top id)
    init_counts =
        with_given (part code literal_written id >>= part code literal_value) _ (λ value.
        with_given (bound_field (binding code id)) _ (λ field. with_given top.this _ (λ r.
        field_counts r field _ (λ o slot. stores top r slot value self))))

    zero_counts : Counts (zero_op code top id)
    zero_counts =
        with_given (bound_local (binding code id)) _ (λ k. with_given (variable_at code.program.nodes id) _ (λ (d : Declared).
        goes (record top { locals = slice_set top.locals k (default_value (kind_of_type d.declared_type)) })
        (with_set_locals top _ self)))

    store_counts : Counts (store_op code top id)
    store_counts =
        with_given (assigned code id >>= bound_local) _ (λ k. with_pop top _ self (λ v f l.
        goes (record f { locals = slice_set f.locals k v }) (with_set_locals f _ l)))

    put_counts : Counts (put_op code world top id)
    put_counts =
        with_given (assigned code id >>= bound_field) _ (λ field. with_pop top _ self (λ v f l. with_pop f _ l (λ object f l.
        with_object object _ (λ r. field_counts r field _ (λ o slot. stores f r slot v l)))))

    put_static_counts : Counts (put_static_op code top id)
    put_static_counts =
        with_given (assigned code id >>= bound_static) _ (λ field. with_given (static_index code.program field) _ (λ place.
        with_pop top _ self (λ v f l. static_stored f place v l)))

    put_elem_counts : Counts (put_elem_op world top)
    put_elem_counts =
        with_pop top _ self (λ v f l. with_pop f _ l (λ index f l. with_pop f _ l (λ array f l.
        with_object array _ (λ r. with_int index _ (λ i. with_given (world.object_at r) _ (λ o.
        at_index (index_in o.slots i) _ (λ k. stores f r k v l)))))))

    with_area_of : (v : Value) (next : Option ℕ → Effect) → ((a : Option ℕ) → Counts (next a)) → Counts (with_area world v next)
    with_area_of Null next k = k None
    with_area_of (At r) next k = with_given (world.object_at r) _ (λ o. k (Some o.area))
    with_area_of _ next k = stuck

    same_counts : Counts (same_op world top)
    same_counts =
        with_pop top _ self (λ second f l. with_pop f _ l (λ first f l.
        with_area_of first _ (λ a. with_area_of second _ (λ b. pushing f (Truth (are_one_area a b)) l))))

    set_ceiling_counts : Counts (set_ceiling_op top)
    set_ceiling_counts =
        with_pop top _ self (λ ceiling f l. with_pop f _ l (λ object f l. with_object object _ (λ r. with_int ceiling _ (λ c.
        with_test (is_priority c) _ _ (ceiling_set f r (unsigned_abs c) l) (fault BadPriority)))))

    print_counts : Counts (print_op code top id)
    print_counts =
        with_given (part code first_argument id) _ (λ label. with_pop top _ self (λ v f l. with_int v _ (λ z.
        printed f label z l)))

    read_counts : Counts (read_op world top)
    read_counts =
        with_pop top _ self (λ port f l. with_int port _ (λ z. with_test (is_port z) _ _
        (pushing f (Int (world.reading (unsigned_abs z))) l) (fault BadPort)))

    register_counts : Counts (register_op top)
    register_counts =
        with_pop top _ self (λ v f l. with_object v _ (λ r. registration f r l))

    release_counts : Counts (release_op top)
    release_counts =
        with_pop top _ self (λ v f l. with_object v _ (λ r. release_asked f r l))

    terminate_counts : Counts (terminate_op top)
    terminate_counts =
        with_pop top _ self (λ v f l. with_object v _ (λ r. termination f r l))

    leave_with_counts : Counts (leave_with_op top)
    leave_with_counts = with_pop top _ self (λ v f l. left f (Some v) l)

    leave_counts : Counts (leave_op top)
    leave_counts = left top None self

    drop_counts : Counts (drop_op top)
    drop_counts = with_pop top _ self (λ v f l. goes f l)

    periodic_counts : (f : Frame) (r : ℕ) (vs : List Value) → Like f → Counts (periodic_parameters f r vs)
    periodic_counts f r (Int priority ∷ Int sms ∷ Int sns ∷ Int pms ∷ Int pns ∷ Int storage ∷ []) l =
        with_test (not (is_priority priority)) _ _ (fault BadPriority) (of (times_of sms sns pms pns))
      where
        of : (o : Option (ℕ × ℕ)) → Counts (elim o [
          | None ↦ Faults BadPeriod
          | Some times ↦
              if is_negative storage then Faults NegativeSize
              else SetsHidden f r (Int priority ∷ Int storage ∷ Int (pos times.0) ∷ Int (pos times.1) ∷ [])
        ])
        of None = fault BadPeriod
        of (Some times) = with_test (is_negative storage) _ _ (fault NegativeSize) (hidden_set f r _ l)
    periodic_counts f r _ l = stuck

    right_counts : (vs : List Value) (next : ℤ → ℤ → Effect) → ((a b : ℤ) → Counts (next a b)) →
        Counts (right_parameters vs next)
    right_counts (Int priority ∷ Int storage ∷ []) next k =
        with_test (not (is_priority priority)) _ _ (fault BadPriority)
        (with_test (is_negative storage) _ _ (fault NegativeSize) (k priority storage))
    right_counts _ next k = stuck

    params_counts : Counts (params_op code top id)
    params_counts =
        with_given (bound_class (binding code id)) _ (λ superclass. with_given top.this _ (λ r.
        with_test (superclass == periodic_handler) _ _
        (with_pop_from 6 top [] _ self (λ vs f l. periodic_counts f r vs l))
        (with_test (superclass == mission_sequencer) _ _
        (with_pop_from 2 top [] _ self (λ vs f l. right_counts vs _ (λ a b. goes f l)))
        (with_pop_from 2 top [] _ self (λ vs f l. right_counts vs _ (λ a b. hidden_set f r (Int a ∷ Int b ∷ []) l))))))

  executes_free : (id : ℕ) → op ≡ EXECUTEIN id → op_weight code table op ≡ 0
  unfolding op_weight executed_weight
  executes_free id e = of (greatest table (entered_targets code.program (binding code id)) == 0)
      (ap (op_weight code table) e)
    where
      of : (b : Bool) → op_weight code table op ≡ only_if b 0 → op_weight code table op ≡ 0
      of true q = q
      of false q = absurd (omega (arith, q, covers, small))

  accounted : (world : Environment) (o : Op) → op ≡ o → Counts (effect_of code world top o)
  unfolding effect_of
  accounted world (PUSH id) e = push_counts world id
  accounted world (THIS id) e = this_counts world id
  accounted world (LOAD id) e = load_counts world id
  accounted world (GET id) e = get_counts world id
  accounted world (GETSTATIC id) e = get_static_counts world id
  accounted world (LENGTH id) e = length_counts world id
  accounted world (ELEM id) e = elem_counts world id
  accounted world (UNARY id) e = unary_counts world id
  accounted world (BIN id) e = bin_counts world id
  accounted world (AND id) e = and_counts world id e
  accounted world (OR id) e = or_counts world id e
  accounted world (ALLOC id) e = alloc_counts world id
  accounted world (CONSTRUCT id) e = construct_counts world id
  accounted world (ALLOCARRAY id) e = alloc_array_counts world id
  accounted world (CALL id) e = call_counts world id
  accounted world (CALLSTATIC id) e = call_static_counts world id
  accounted world (CAST id) e = cast_counts world id
  accounted world (ENTER id) e = enter_counts world id
  accounted world (EXECUTEIN id) e = execute_in_counts world id (executes_free id e)
  accounted world (SAME id) e = same_counts world id
  accounted world (SETCEILING id) e = set_ceiling_counts world id
  accounted world (PRINT id) e = print_counts world id
  accounted world (READ id) e = read_counts world id
  accounted world (REGISTER id) e = register_counts world id
  accounted world (RELEASE id) e = release_counts world id
  accounted world (TERMINATE id) e = terminate_counts world id
  accounted world (ZERO id) e = zero_counts world id
  accounted world (STORE id) e = store_counts world id
  accounted world (PUT id) e = put_counts world id
  accounted world (PUTSTATIC id) e = put_static_counts world id
  accounted world (PUTELEM id) e = put_elem_counts world id
  accounted world (IF id) e = if_counts world id e
  accounted world (LOOP id) e = loop_counts world id e
  accounted world (LEAVEWITH id) e = leave_with_counts world id
  accounted world LEAVE e = leave_counts world 0
  accounted world (DROP id) e = drop_counts world id
  accounted world (INIT id) e = init_counts world id
  accounted world (SUPER id) e = super_counts world id
  accounted world (PARAMS id) e = params_counts world id

-- the effect of an operation is within what was reckoned with before it
pub effect_within : (code : Code) (table : Table) → IsBound code table → ChildrenFirst 0 code.program.nodes →
    (world : Environment) (f : Frame) (op : Op) (n : ℕ) →
    op_weight code table op + ops_weight code table f.rest ≤ n → n < too_much →
    IsCounted code table op (effect_of code world f op) → EffectWithin code table n f (effect_of code world f op)
effect_within code table bound first world f op n covers small c =
    (accounted code table bound first op f n covers small world op refl).is c
