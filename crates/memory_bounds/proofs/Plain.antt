-- The operations that neither make, call nor open; and none of them has a full memory as its own fault.
use Rattle.std.specs.Prelude.{Option, Some, None, slice_get, if◌then◌else◌, ℤ, pos, unsigned_abs, slice_set, not}
use Rattle.std.specs.Int.{is_negative}
use Rattle.std.proofs.Common.{◌≡◌, ℕ, zero, suc, List, [], ◌∷◌, ◌++◌, length, Bool, true, false, ◌==◌, refl}
use Rattle.scj_base.specs.declared.faults.RunFault.{RunFault}
use Rattle.scj_base.specs.declared.faults.RunFault.TheVariants.{NullPointer, ArrayIndex, NegativeSize, DivideByZero, ClassCast, BadPriority, BadPeriod, BadPort}
use Rattle.scj_base.specs.declared.values.Value.{Value}
use Rattle.scj_base.specs.declared.values.Value.TheVariants.{Int, Bool as Truth, Null, At}
use Rattle.scj_model.specs.declared.operations.Op.{Op}
use Rattle.scj_model.specs.declared.operations.Op.TheVariants.{Push as PUSH, This as THIS, Load as LOAD, Get as GET, GetStatic as GETSTATIC, Length as LENGTH, Elem as ELEM, Unary as UNARY, Bin as BIN, And as AND, Or as OR, Alloc as ALLOC, Construct as CONSTRUCT, AllocArray as ALLOCARRAY, Call as CALL, CallStatic as CALLSTATIC, Cast as CAST, Enter as ENTER, ExecuteIn as EXECUTEIN, Same as SAME, SetCeiling as SETCEILING, Print as PRINT, Read as READ, Register as REGISTER, Release as RELEASE, Terminate as TERMINATE, Zero as ZERO, Store as STORE, Put as PUT, PutStatic as PUTSTATIC, PutElem as PUTELEM, If as IF, Loop as LOOP, LeaveWith as LEAVEWITH, Leave as LEAVE, Drop as DROP, Init as INIT, Super as SUPER, Params as PARAMS}
use Rattle.scj_model.specs.Code.{Code, binding, part}
use Rattle.scj_model.specs.State.{Object, Frame}
use Rattle.scj_model.specs.Ops.{put_in_front}
use Rattle.scj_model.specs.Effects.{Effect, Goes, Prints, Makes, Stores, StoresStatic, SetsHidden, SetsCeiling, Calls, Opens, Leaves, AsksRegistration, AsksRelease, AsksTermination, Faults, Stuck, given, pop, pop_from, as_int, as_truth, as_reference, as_object, pushes, branch}
use Rattle.scj_rules.specs.Classes.{is_sub}
use Rattle.scj_rules.specs.Layout.{kind_of_type, literal_written, slot_of, static_index}
use Rattle.scj_rules.specs.declared.views.Declared.{Declared}
use Rattle.scj_rules.specs.Views.{variable_at}
use Rattle.scj_rules.specs.Words.{◌>>=◌}
use Rattle.scj_builtins.specs.Framework.{mission_sequencer, periodic_handler}
use Rattle.scj_model.specs.Memory.{literal_value, default_value}
use Rattle.scj_model.specs.Arithmetic.{binary_value, divides_by_zero, unary_value}
use Rattle.scj_model.specs.Operations.{Environment, effect_of, bound_local, bound_field, bound_static, bound_class, operator_of, index_in, push_op, this_op, load_op, with_field, get_op, get_static_op, length_op, elem_op, unary_op, bin_op, and_op, or_op, cast_op, if_op, loop_op, assigned, first_argument, init_op, zero_op, store_op, put_op, put_static_op, put_elem_op, with_area, are_one_area, same_op, set_ceiling_op, is_priority, print_op, is_port, read_op, register_op, release_op, terminate_op, leave_with_op, leave_op, drop_op, times_of, periodic_parameters, right_parameters, params_op}
use Rattle.memory_needs.specs.Need.{Table}
use Rattle.memory_bounds.proofs.Counted.{Knows, is_memory_fault, of_fault}

module _ (code : Code) (top : Frame) where
  pub record Plain (e : Effect) : Type 0 where
    pub makes : (h : Frame) (class : ℕ) (values : List Value) → e ≡ Makes h class values → ⊥
    pub calls : (h g : Frame) → e ≡ Calls h g → ⊥
    pub opens : (h g : Frame) (scope bytes : ℕ) → e ≡ Opens h g scope bytes → ⊥
    pub full : (x : RunFault) → e ≡ Faults x → is_memory_fault x ≡ false

  -- nothing is asked of frames here
  record Like (h : Frame) : Type 0 where
    ok : h ≡ h

  self : Like top
  self = record { ok = refl }

  stuck : Plain (Stuck)
  stuck = record {
    makes = λ k c v q. absurd (cc (q));
    calls = λ k x q. absurd (cc (q));
    opens = λ k x s b q. absurd (cc (q));
    full = λ x q. absurd (cc (q));
  }

  fault_nullpointer : Plain (Faults NullPointer)
  fault_nullpointer = record {
    makes = λ k c v q. absurd (cc (q));
    calls = λ k x q. absurd (cc (q));
    opens = λ k x s b q. absurd (cc (q));
    full = λ x q. of_fault NullPointer x q refl;
  }

  fault_arrayindex : Plain (Faults ArrayIndex)
  fault_arrayindex = record {
    makes = λ k c v q. absurd (cc (q));
    calls = λ k x q. absurd (cc (q));
    opens = λ k x s b q. absurd (cc (q));
    full = λ x q. of_fault ArrayIndex x q refl;
  }

  fault_negativesize : Plain (Faults NegativeSize)
  fault_negativesize = record {
    makes = λ k c v q. absurd (cc (q));
    calls = λ k x q. absurd (cc (q));
    opens = λ k x s b q. absurd (cc (q));
    full = λ x q. of_fault NegativeSize x q refl;
  }

  fault_dividebyzero : Plain (Faults DivideByZero)
  fault_dividebyzero = record {
    makes = λ k c v q. absurd (cc (q));
    calls = λ k x q. absurd (cc (q));
    opens = λ k x s b q. absurd (cc (q));
    full = λ x q. of_fault DivideByZero x q refl;
  }

  fault_classcast : Plain (Faults ClassCast)
  fault_classcast = record {
    makes = λ k c v q. absurd (cc (q));
    calls = λ k x q. absurd (cc (q));
    opens = λ k x s b q. absurd (cc (q));
    full = λ x q. of_fault ClassCast x q refl;
  }

  fault_badpriority : Plain (Faults BadPriority)
  fault_badpriority = record {
    makes = λ k c v q. absurd (cc (q));
    calls = λ k x q. absurd (cc (q));
    opens = λ k x s b q. absurd (cc (q));
    full = λ x q. of_fault BadPriority x q refl;
  }

  fault_badperiod : Plain (Faults BadPeriod)
  fault_badperiod = record {
    makes = λ k c v q. absurd (cc (q));
    calls = λ k x q. absurd (cc (q));
    opens = λ k x s b q. absurd (cc (q));
    full = λ x q. of_fault BadPeriod x q refl;
  }

  fault_badport : Plain (Faults BadPort)
  fault_badport = record {
    makes = λ k c v q. absurd (cc (q));
    calls = λ k x q. absurd (cc (q));
    opens = λ k x s b q. absurd (cc (q));
    full = λ x q. of_fault BadPort x q refl;
  }

  goes : (f : Frame) → (l : Like f) → Plain (Goes f)
  goes f l = record {
    makes = λ k c v q. absurd (cc (q));
    calls = λ k x q. absurd (cc (q));
    opens = λ k x s b q. absurd (cc (q));
    full = λ x q. absurd (cc (q));
  }

  stores : (f : Frame) → (r : ℕ) → (slot : ℕ) → (v : Value) → (l : Like f) → Plain (Stores f r slot v)
  stores f r slot v l = record {
    makes = λ k c v q. absurd (cc (q));
    calls = λ k x q. absurd (cc (q));
    opens = λ k x s b q. absurd (cc (q));
    full = λ x q. absurd (cc (q));
  }

  hidden_set : (f : Frame) → (r : ℕ) → (vs : List Value) → (l : Like f) → Plain (SetsHidden f r vs)
  hidden_set f r vs l = record {
    makes = λ k c v q. absurd (cc (q));
    calls = λ k x q. absurd (cc (q));
    opens = λ k x s b q. absurd (cc (q));
    full = λ x q. absurd (cc (q));
  }

  static_stored : (f : Frame) → (index : ℕ) → (v : Value) → (l : Like f) → Plain (StoresStatic f index v)
  static_stored f index v l = record {
    makes = λ k c v q. absurd (cc (q));
    calls = λ k x q. absurd (cc (q));
    opens = λ k x s b q. absurd (cc (q));
    full = λ x q. absurd (cc (q));
  }

  ceiling_set : (f : Frame) → (r : ℕ) → (ceiling : ℕ) → (l : Like f) → Plain (SetsCeiling f r ceiling)
  ceiling_set f r ceiling l = record {
    makes = λ k c v q. absurd (cc (q));
    calls = λ k x q. absurd (cc (q));
    opens = λ k x s b q. absurd (cc (q));
    full = λ x q. absurd (cc (q));
  }

  printed : (f : Frame) → (label : ℕ) → (z : ℤ) → (l : Like f) → Plain (Prints f label z)
  printed f label z l = record {
    makes = λ k c v q. absurd (cc (q));
    calls = λ k x q. absurd (cc (q));
    opens = λ k x s b q. absurd (cc (q));
    full = λ x q. absurd (cc (q));
  }

  registration : (f : Frame) → (r : ℕ) → (l : Like f) → Plain (AsksRegistration f r)
  registration f r l = record {
    makes = λ k c v q. absurd (cc (q));
    calls = λ k x q. absurd (cc (q));
    opens = λ k x s b q. absurd (cc (q));
    full = λ x q. absurd (cc (q));
  }

  release_asked : (f : Frame) → (r : ℕ) → (l : Like f) → Plain (AsksRelease f r)
  release_asked f r l = record {
    makes = λ k c v q. absurd (cc (q));
    calls = λ k x q. absurd (cc (q));
    opens = λ k x s b q. absurd (cc (q));
    full = λ x q. absurd (cc (q));
  }

  termination : (f : Frame) → (r : ℕ) → (l : Like f) → Plain (AsksTermination f r)
  termination f r l = record {
    makes = λ k c v q. absurd (cc (q));
    calls = λ k x q. absurd (cc (q));
    opens = λ k x s b q. absurd (cc (q));
    full = λ x q. absurd (cc (q));
  }

  left : (f : Frame) → (v : Option Value) → (l : Like f) → Plain (Leaves f v)
  left f v l = record {
    makes = λ k c v q. absurd (cc (q));
    calls = λ k x q. absurd (cc (q));
    opens = λ k x s b q. absurd (cc (q));
    full = λ x q. absurd (cc (q));
  }

  with_given : {A : Type 0} (o : Option A) (next : A → Effect) → ((x : A) → Plain (next x)) → Plain (given o next)
  with_given None next k = stuck
  with_given (Some x) next k = k x

  with_pop : (f : Frame) (next : Value → Frame → Effect) → Like f → ((v : Value) (h : Frame) → Like h → Plain (next v h)) →
      Plain (pop f next)
  with_pop f next like k = of f.operands
    where
      of : (vs : List Value) → Plain (elim vs [ [] ↦ Stuck | value ∷ below ↦ next value (record f { operands = below }) ])
      of [] = stuck
      of (v ∷ vs) = k v (record f { operands = vs }) (record { ok = refl })

  with_pop_from : (count : ℕ) (f : Frame) (taken : List Value) (next : List Value → Frame → Effect) → Like f →
      ((vs : List Value) (h : Frame) → Like h → Plain (next vs h)) → Plain (pop_from count f taken next)
  with_pop_from zero f taken next like k = k taken f like
  with_pop_from (suc count) f taken next like k =
      with_pop f (λ value g. pop_from count g (value ∷ taken) next) like
      (λ v h l. with_pop_from count h (v ∷ taken) next l k)

  with_int : (v : Value) (next : ℤ → Effect) → ((z : ℤ) → Plain (next z)) → Plain (as_int v next)
  with_int (Int z) next k = k z
  with_int _ next k = stuck

  with_truth : (v : Value) (next : Bool → Effect) → ((b : Bool) → Plain (next b)) → Plain (as_truth v next)
  with_truth (Truth b) next k = k b
  with_truth _ next k = stuck

  with_reference : (v : Value) (next : ℕ → Effect) → ((r : ℕ) → Plain (next r)) → Plain (as_reference v next)
  with_reference (At r) next k = k r
  with_reference _ next k = stuck

  with_object : (v : Value) (next : ℕ → Effect) → ((r : ℕ) → Plain (next r)) → Plain (as_object v next)
  with_object (At r) next k = k r
  with_object Null next k = fault_nullpointer
  with_object _ next k = stuck

  with_test : (b : Bool) (x y : Effect) → Plain x → Plain y → Plain (if b then x else y)
  with_test true x y k l = k
  with_test false x y k l = l

  pushing : (f : Frame) (v : Value) → Like f → Plain (pushes f v)
  pushing f v like = goes (record f { operands = v ∷ f.operands }) (record { ok = refl })

  with_branch : (op : Op) (f : Frame) (next : Bool → Frame → Effect) → Like f →
      ((b : Bool) (h : Frame) → Like h → Plain (next b h)) → Plain (branch code op f next)
  with_branch op f next like k =
      with_pop f _ like (λ v h l. with_truth v _ (λ b. with_given (put_in_front code op b) _ (λ ops.
      k b (record h { rest = ops ++ h.rest }) (record { ok = refl }))))

  module _ (world : Environment) (id : ℕ) where
    push_counts : Plain (push_op code top id)
    push_counts = with_given (part code literal_value id) _ (λ v. pushing top v self)

    this_counts : Plain (this_op top)
    this_counts = with_given top.this _ (λ r. pushing top (At r) self)

    load_counts : Plain (load_op code top id)
    load_counts =
        with_given (bound_local (binding code id)) _ (λ k. with_given (slice_get top.locals k) _ (λ v. pushing top v self))

    field_counts : (r field : ℕ) (next : Object → ℕ → Effect) → ((o : Object) (slot : ℕ) → Plain (next o slot)) →
        Plain (with_field code world r field next)
    field_counts r field next k =
        with_given (world.object_at r) _ (λ o. with_given (slot_of code.program o.class field) _ (λ slot. k o slot))

    get_counts : Plain (get_op code world top id)
    get_counts =
        with_given (bound_field (binding code id)) _ (λ field.
        with_pop top _ self (λ object f l. with_object object _ (λ r.
        field_counts r field _ (λ o slot. with_given (slice_get o.slots slot) _ (λ v. pushing f v l)))))

    get_static_counts : Plain (get_static_op code world top id)
    get_static_counts =
        with_given (bound_static (binding code id)) _ (λ field.
        with_given (static_index code.program field) _ (λ place.
        with_given (slice_get world.statics place) _ (λ v. pushing top v self)))

    length_counts : Plain (length_op world top)
    length_counts =
        with_pop top _ self (λ array f l. with_object array _ (λ r.
        with_given (world.object_at r) _ (λ o. pushing f (Int (pos (length o.slots))) l)))

    at_index : (o : Option ℕ) (next : ℕ → Effect) → ((k : ℕ) → Plain (next k)) →
        Plain (elim o [ None ↦ Faults ArrayIndex | Some k ↦ next k ])
    at_index None next k = fault_arrayindex
    at_index (Some x) next k = k x

    elem_counts : Plain (elem_op world top)
    elem_counts =
        with_pop top _ self (λ index f l. with_pop f _ l (λ array f l. with_object array _ (λ r.
        with_int index _ (λ i. with_given (world.object_at r) _ (λ o.
        at_index (index_in o.slots i) _ (λ k. with_given (slice_get o.slots k) _ (λ v. pushing f v l)))))))

    unary_counts : Plain (unary_op code top id)
    unary_counts =
        with_given (part code operator_of id) _ (λ operator. with_pop top _ self (λ operand f l.
        with_given (unary_value operator operand) _ (λ v. pushing f v l)))

    bin_counts : Plain (bin_op code top id)
    bin_counts =
        with_given (part code operator_of id) _ (λ operator.
        with_pop top _ self (λ right f l. with_pop f _ l (λ left f l.
        with_test (divides_by_zero operator right) _ _ (fault_dividebyzero)
        (with_given (binary_value operator left right) _ (λ v. pushing f v l)))))

    and_counts : Plain (and_op code top id)
    and_counts = with_branch (AND id) top _ self (λ b h f. with_test b _ _ (goes h f)
        (goes (record h { operands = Truth false ∷ h.operands }) (record { ok = refl })))

    or_counts : Plain (or_op code top id)
    or_counts = with_branch (OR id) top _ self (λ b h f. with_test b _ _
        (goes (record h { operands = Truth true ∷ h.operands }) (record { ok = refl })) (goes h f))

    if_counts : Plain (if_op code top id)
    if_counts = with_branch (IF id) top _ self (λ b h f. goes h f)

    loop_counts : Plain (loop_op code top id)
    loop_counts = with_branch (LOOP id) top _ self (λ b h f. goes h f)

    cast_counts : Plain (cast_op code world top id)
    cast_counts =
        with_given (bound_class (binding code id)) _ (λ class. with_pop top _ self (λ operand f l. of class f l operand))
      where
        of : (class : ℕ) (f : Frame) → Like f → (operand : Value) → Plain (elim operand [
          | Null ↦ pushes f Null
          | At r ↦ given (world.object_at r) (λ o.
              if is_sub code.program.classes o.class class then pushes f (At r) else Faults ClassCast)
          | Int z ↦ Stuck
          | Truth b ↦ Stuck
        ])
        of class f l Null = pushing f Null l
        of class f l (At r) =
            with_given (world.object_at r) _ (λ o. with_test (is_sub code.program.classes o.class class) _ _
            (pushing f (At r) l) (fault_classcast))
        of class f l (Int z) = stuck
        of class f l (Truth b) = stuck

    -- ---- stores and the framework
    -- the frame goes on, with some effect besides
    with_set_locals : (f : Frame) (ls : List Value) → Like f → Like (record f { locals = ls })
    with_set_locals f ls l = record { ok = refl }

    init_counts : Plain (init_op code world top id)
    init_counts =
        with_given (part code literal_written id >>= part code literal_value) _ (λ value.
        with_given (bound_field (binding code id)) _ (λ field. with_given top.this _ (λ r.
        field_counts r field _ (λ o slot. stores top r slot value self))))

    zero_counts : Plain (zero_op code top id)
    zero_counts =
        with_given (bound_local (binding code id)) _ (λ k. with_given (variable_at code.program.nodes id) _ (λ (d : Declared).
        goes (record top { locals = slice_set top.locals k (default_value (kind_of_type d.declared_type)) })
        (with_set_locals top _ self)))

    store_counts : Plain (store_op code top id)
    store_counts =
        with_given (assigned code id >>= bound_local) _ (λ k. with_pop top _ self (λ v f l.
        goes (record f { locals = slice_set f.locals k v }) (with_set_locals f _ l)))

    put_counts : Plain (put_op code world top id)
    put_counts =
        with_given (assigned code id >>= bound_field) _ (λ field. with_pop top _ self (λ v f l. with_pop f _ l (λ object f l.
        with_object object _ (λ r. field_counts r field _ (λ o slot. stores f r slot v l)))))

    put_static_counts : Plain (put_static_op code top id)
    put_static_counts =
        with_given (assigned code id >>= bound_static) _ (λ field. with_given (static_index code.program field) _ (λ place.
        with_pop top _ self (λ v f l. static_stored f place v l)))

    put_elem_counts : Plain (put_elem_op world top)
    put_elem_counts =
        with_pop top _ self (λ v f l. with_pop f _ l (λ index f l. with_pop f _ l (λ array f l.
        with_object array _ (λ r. with_int index _ (λ i. with_given (world.object_at r) _ (λ o.
        at_index (index_in o.slots i) _ (λ k. stores f r k v l)))))))

    with_area_of : (v : Value) (next : Option ℕ → Effect) → ((a : Option ℕ) → Plain (next a)) → Plain (with_area world v next)
    with_area_of Null next k = k None
    with_area_of (At r) next k = with_given (world.object_at r) _ (λ o. k (Some o.area))
    with_area_of _ next k = stuck

    same_counts : Plain (same_op world top)
    same_counts =
        with_pop top _ self (λ second f l. with_pop f _ l (λ first f l.
        with_area_of first _ (λ a. with_area_of second _ (λ b. pushing f (Truth (are_one_area a b)) l))))

    set_ceiling_counts : Plain (set_ceiling_op top)
    set_ceiling_counts =
        with_pop top _ self (λ ceiling f l. with_pop f _ l (λ object f l. with_object object _ (λ r. with_int ceiling _ (λ c.
        with_test (is_priority c) _ _ (ceiling_set f r (unsigned_abs c) l) (fault_badpriority)))))

    print_counts : Plain (print_op code top id)
    print_counts =
        with_given (part code first_argument id) _ (λ label. with_pop top _ self (λ v f l. with_int v _ (λ z.
        printed f label z l)))

    read_counts : Plain (read_op world top)
    read_counts =
        with_pop top _ self (λ port f l. with_int port _ (λ z. with_test (is_port z) _ _
        (pushing f (Int (world.reading (unsigned_abs z))) l) (fault_badport)))

    register_counts : Plain (register_op top)
    register_counts =
        with_pop top _ self (λ v f l. with_object v _ (λ r. registration f r l))

    release_counts : Plain (release_op top)
    release_counts =
        with_pop top _ self (λ v f l. with_object v _ (λ r. release_asked f r l))

    terminate_counts : Plain (terminate_op top)
    terminate_counts =
        with_pop top _ self (λ v f l. with_object v _ (λ r. termination f r l))

    leave_with_counts : Plain (leave_with_op top)
    leave_with_counts = with_pop top _ self (λ v f l. left f (Some v) l)

    leave_counts : Plain (leave_op top)
    leave_counts = left top None self

    drop_counts : Plain (drop_op top)
    drop_counts = with_pop top _ self (λ v f l. goes f l)

    periodic_counts : (f : Frame) (r : ℕ) (vs : List Value) → Like f → Plain (periodic_parameters f r vs)
    periodic_counts f r (Int priority ∷ Int sms ∷ Int sns ∷ Int pms ∷ Int pns ∷ Int storage ∷ []) l =
        with_test (not (is_priority priority)) _ _ (fault_badpriority) (of (times_of sms sns pms pns))
      where
        of : (o : Option (ℕ × ℕ)) → Plain (elim o [
          | None ↦ Faults BadPeriod
          | Some times ↦
              if is_negative storage then Faults NegativeSize
              else SetsHidden f r (Int priority ∷ Int storage ∷ Int (pos times.0) ∷ Int (pos times.1) ∷ [])
        ])
        of None = fault_badperiod
        of (Some times) = with_test (is_negative storage) _ _ (fault_negativesize) (hidden_set f r _ l)
    periodic_counts f r _ l = stuck

    right_counts : (vs : List Value) (next : ℤ → ℤ → Effect) → ((a b : ℤ) → Plain (next a b)) →
        Plain (right_parameters vs next)
    right_counts (Int priority ∷ Int storage ∷ []) next k =
        with_test (not (is_priority priority)) _ _ (fault_badpriority)
        (with_test (is_negative storage) _ _ (fault_negativesize) (k priority storage))
    right_counts _ next k = stuck

    params_counts : Plain (params_op code top id)
    params_counts =
        with_given (bound_class (binding code id)) _ (λ superclass. with_given top.this _ (λ r.
        with_test (superclass == periodic_handler) _ _
        (with_pop_from 6 top [] _ self (λ vs f l. periodic_counts f r vs l))
        (with_test (superclass == mission_sequencer) _ _
        (with_pop_from 2 top [] _ self (λ vs f l. right_counts vs _ (λ a b. goes f l)))
        (with_pop_from 2 top [] _ self (λ vs f l. right_counts vs _ (λ a b. hidden_set f r (Int a ∷ Int b ∷ []) l))))))

  -- whether the operation neither makes, calls nor opens
  unfoldable pub IsPlain : Op → Type 0
  IsPlain (ALLOC id) = ⊥
  IsPlain (CONSTRUCT id) = ⊥
  IsPlain (ALLOCARRAY id) = ⊥
  IsPlain (CALL id) = ⊥
  IsPlain (CALLSTATIC id) = ⊥
  IsPlain (ENTER id) = ⊥
  IsPlain (EXECUTEIN id) = ⊥
  IsPlain (SUPER id) = ⊥
  IsPlain _ = Unit {0}

  pub plain_effect : (world : Environment) (o : Op) → IsPlain o → Plain (effect_of code world top o)
  unfolding effect_of IsPlain
  plain_effect world (PUSH id) p = push_counts world id
  plain_effect world (THIS id) p = this_counts world id
  plain_effect world (LOAD id) p = load_counts world id
  plain_effect world (GET id) p = get_counts world id
  plain_effect world (GETSTATIC id) p = get_static_counts world id
  plain_effect world (LENGTH id) p = length_counts world id
  plain_effect world (ELEM id) p = elem_counts world id
  plain_effect world (UNARY id) p = unary_counts world id
  plain_effect world (BIN id) p = bin_counts world id
  plain_effect world (AND id) p = and_counts world id
  plain_effect world (OR id) p = or_counts world id
  plain_effect world (ALLOC id) p = absurd p
  plain_effect world (CONSTRUCT id) p = absurd p
  plain_effect world (ALLOCARRAY id) p = absurd p
  plain_effect world (CALL id) p = absurd p
  plain_effect world (CALLSTATIC id) p = absurd p
  plain_effect world (CAST id) p = cast_counts world id
  plain_effect world (ENTER id) p = absurd p
  plain_effect world (EXECUTEIN id) p = absurd p
  plain_effect world (SAME id) p = same_counts world id
  plain_effect world (SETCEILING id) p = set_ceiling_counts world id
  plain_effect world (PRINT id) p = print_counts world id
  plain_effect world (READ id) p = read_counts world id
  plain_effect world (REGISTER id) p = register_counts world id
  plain_effect world (RELEASE id) p = release_counts world id
  plain_effect world (TERMINATE id) p = terminate_counts world id
  plain_effect world (ZERO id) p = zero_counts world id
  plain_effect world (STORE id) p = store_counts world id
  plain_effect world (PUT id) p = put_counts world id
  plain_effect world (PUTSTATIC id) p = put_static_counts world id
  plain_effect world (PUTELEM id) p = put_elem_counts world id
  plain_effect world (IF id) p = if_counts world id
  plain_effect world (LOOP id) p = loop_counts world id
  plain_effect world (LEAVEWITH id) p = leave_with_counts world id
  plain_effect world LEAVE p = leave_counts world 0
  plain_effect world (DROP id) p = drop_counts world id
  plain_effect world (INIT id) p = init_counts world id
  plain_effect world (SUPER id) p = absurd p
  plain_effect world (PARAMS id) p = params_counts world id

-- so they are counted, whatever the table is
pub plain_known : (code : Code) (table : Table) (f : Frame) (world : Environment) (op : Op) → IsPlain code f op →
    Knows code table op (effect_of code world f op)
plain_known code table f world op p =
    let e = plain_effect code f world op p in
    record {
      is = record {
        makes = λ h c v q. absurd (e.makes h c v q);
        calls = λ h g q. absurd (e.calls h g q);
        opens = λ h g s b q. absurd (e.opens h g s b q);
      };
      full = e.full;
    }
