-- Which operations make objects, set hidden fields, and store into slots: those of `new`, of forms, and of fields behind the
-- hidden ones and elements.
use Rattle.std.specs.Prelude.{Option, Some, None, ℤ, pos, codes, if◌then◌else◌, length, option_map, slice_get, slice_set, unsigned_abs}
use Rattle.std.specs.Int.{is_negative}
use Rattle.std.proofs.Common.{◌≡◌, ◌⊎◌, ℕ, ◌==◌, ◌+◌, ◌≤◌, Bool, true, false, List, [], ◌∷◌, refl, sym, ◌∙◌, ap, inl, inr, arith}
use Rattle.scj_base.specs.declared.faults.RunFault.{RunFault}
use Rattle.scj_base.specs.declared.faults.RunFault.TheVariants.{ArrayIndex, BadPeriod, BadPort, BadPriority, ClassCast, DivideByZero, NegativeSize}
use Rattle.scj_base.specs.declared.values.Value.{Value}
use Rattle.scj_base.specs.declared.values.Value.TheVariants.{Int, Bool as Truth, Null, At}
use Rattle.scj_builtins.specs.Framework.{mission_sequencer, periodic_handler}
use Rattle.scj_rules.specs.declared.views.Body.{Body}
use Rattle.scj_rules.specs.declared.views.Declared.{Declared}
use Rattle.scj_rules.specs.declared.views.SlotKind.{SlotKind}
use Rattle.scj_rules.specs.Bodies.{body_named, body_of, constructor_body}
use Rattle.scj_rules.specs.Classes.{hidden_fields, instance_fields, is_sub}
use Rattle.scj_rules.specs.Contexts.{Declarations}
use Rattle.scj_rules.specs.Layout.{element_kind, field_numbered, literal_written, index_among, slot_of, static_index}
use Rattle.scj_rules.specs.ScopeRules.{defined_by_chain}
use Rattle.scj_rules.specs.Views.{variable_at}
use Rattle.scj_rules.specs.Words.{◌>>=◌}
use Rattle.accepted_laws.proofs.Tools.{some_inj}
use Rattle.scj_model.specs.declared.operations.Op.{Op}
use Rattle.scj_model.specs.declared.operations.Op.TheVariants.{Push as PUSH, This as THIS, Load as LOAD, Get as GET, GetStatic as GETSTATIC, Length as LENGTH, Elem as ELEM, Unary as UNARY, Bin as BIN, And as AND, Or as OR, Alloc as ALLOC, Construct as CONSTRUCT, AllocArray as ALLOCARRAY, Call as CALL, CallStatic as CALLSTATIC, Cast as CAST, Enter as ENTER, ExecuteIn as EXECUTEIN, Same as SAME, SetCeiling as SETCEILING, Print as PRINT, Read as READ, Register as REGISTER, Release as RELEASE, Terminate as TERMINATE, Zero as ZERO, Store as STORE, Put as PUT, PutStatic as PUTSTATIC, PutElem as PUTELEM, If as IF, Loop as LOOP, LeaveWith as LEAVEWITH, Leave as LEAVE, Drop as DROP, Init as INIT, Super as SUPER, Params as PARAMS}
use Rattle.scj_model.specs.Arithmetic.{binary_value, divides_by_zero, unary_value}
use Rattle.scj_model.specs.Code.{Code, binding, part}
use Rattle.scj_model.specs.State.{Frame, Object}
use Rattle.scj_model.specs.Memory.{literal_value, new_elements, new_slots}
use Rattle.scj_model.specs.Effects.{Effect, Goes, Prints, Makes, Stores, StoresStatic, SetsHidden, SetsCeiling, Calls, Opens, Leaves, AsksRegistration, AsksRelease, AsksTermination, Faults, Stuck, as_int, as_object, given, pop, pushes, new_frame}
use Rattle.scj_model.specs.Operations.{Environment, argument_count, assigned, bound_class, bound_field, bound_local, bound_method, bound_static, bound_static_method, constructs, effect_of, first_argument, index_in, is_port, is_priority, operator_of, right_parameters, periodic_parameters, super_count, times_of, with_area, with_field, with_run, are_one_area}
use Rattle.priority_laws.proofs.OperationCases.{on_branch, on_given, on_if, on_int, on_object, on_pop, on_pop_all, on_reference}

-- the slots of declared fields stand behind the hidden ones
behind_hidden : (p : Declarations) (class field slot : ℕ) → slot_of p class field ≡ Some slot →
    hidden_fields p.classes class ≤ slot
unfolding slot_of
behind_hidden p class field slot e = go (field_numbered p field) refl
  where
    placed : (o : Option ℕ) → option_map (λ k. hidden_fields p.classes class + k) o ≡ Some slot →
        hidden_fields p.classes class ≤ slot
    placed None g = absurd (cc (g))
    placed (Some k) g =
        (let same : hidden_fields p.classes class + k ≡ slot = some_inj (hidden_fields p.classes class + k) slot g in
        omega (arith, same))

    go : (o : Option Declared) → field_numbered p field ≡ o → hidden_fields p.classes class ≤ slot
    go None q = absurd (cc (e, q))
    go (Some d) q =
        placed (index_among (instance_fields p.classes class) d)
        (sym (ap (λ (o : Option Declared). o >>= (λ d. option_map (λ k. hidden_fields p.classes class + k)
        (index_among (instance_fields p.classes class) d))) q) ∙ e)

module _ (code : Code) (world : Environment) (f : Frame) where
  -- an array, or the object of a `new`, before anything else is done
  pub data MadeBy (op : Op) (h : Frame) (class : ℕ) (slots : List Value) : Type 0 where
    An_array : (kind : SlotKind) → element_kind code.program class ≡ Some kind → MadeBy op h class slots
    An_object : (id : ℕ) → op ≡ ALLOC id → bound_class (binding code id) ≡ Some class → h ≡ f →
        slots ≡ new_slots code.program class → MadeBy op h class slots

  abbrev pub IsSourced : Op → Effect → Type 0
  IsSourced op (Makes h class slots) = MadeBy op h class slots
  IsSourced op (Stores h r slot v) =
      (o : Object) → world.object_at r ≡ Some o →
      (hidden_fields code.program.classes o.class ≤ slot) ⊎ ((id : ℕ) × (op ≡ PUTELEM id))
  IsSourced op (SetsHidden h r vs) = (id : ℕ) × (op ≡ PARAMS id)
  IsSourced op _ = Unit {0}

  pub record Sourced (op : Op) (e : Effect) : Type 0 where
    pub is : IsSourced op e

  module _ (op : Op) where
    stuck : Sourced op Stuck
    stuck = record { is = tt }

    faults : (x : RunFault) → Sourced op (Faults x)
    faults x = record { is = tt }

    with_given : {A : Type 0} (o : Option A) (next : A → Effect) → ((a : A) → o ≡ Some a → Sourced op (next a)) →
        Sourced op (given o next)
    with_given o next h = on_given (Sourced op) stuck faults o next h

    test : (b : Bool) (x y : Effect) → Sourced op x → Sourced op y → Sourced op (if b then x else y)
    test b x y h k = on_if (Sourced op) stuck faults b x y (λ e. h) (λ e. k)

    goes : (h : Frame) → Sourced op (Goes h)
    goes h = record { is = tt }

    given_pushed : (o : Option Value) (h : Frame) → Sourced op (given o (λ value. pushes h value))
    given_pushed o h =
        with_given o (λ value. pushes h value) (λ v e. goes (record h { operands = v ∷ h.operands }))

    -- ---- fields

    field_at : (r field : ℕ) (next : Object → ℕ → Effect) →
        ((o : Object) (slot : ℕ) → world.object_at r ≡ Some o → slot_of code.program o.class field ≡ Some slot →
        Sourced op (next o slot)) → Sourced op (with_field code world r field next)
    field_at r field next h =
        with_given (world.object_at r) _ (λ o there. with_given (slot_of code.program o.class field) _ (λ slot is.
        h o slot there is))

    stored : (h : Frame) (r field slot : ℕ) (v : Value) (o : Object) → world.object_at r ≡ Some o →
        slot_of code.program o.class field ≡ Some slot → Sourced op (Stores h r slot v)
    stored h r field slot v o there e = record { is = λ x found. inl (at x (some_inj x o (sym found ∙ there))) }
      where
        at : (x : Object) → x ≡ o → hidden_fields code.program.classes x.class ≤ slot
        at x same =
            (let q : hidden_fields code.program.classes x.class ≡ hidden_fields code.program.classes o.class =
            ap (λ (y : Object). hidden_fields code.program.classes y.class) same in
            let le = behind_hidden code.program o.class field slot e in
            omega (arith, q, le))

    -- ---- calls

    run_of : (r : ℕ) (next : Object → Body → Effect) → ((o : Object) (body : Body) → Sourced op (next o body)) →
        Sourced op (with_run code world r next)
    run_of r next h =
        with_given (world.object_at r) _
        (λ o there. with_given (body_named code.program o.class (codes "run")) _ (λ body e. h o body))

    called : (h g : Frame) → Sourced op (Calls h g)
    called h g = record { is = tt }

    constructed : (id class count : ℕ) (keeps : Bool) → Sourced op (constructs code f id class count keeps)
    constructed id class count keeps =
        with_given (constructor_body code.program class) _ (λ body e.
        on_pop_all (Sourced op) stuck faults count f _ (λ arguments g s.
        on_pop (Sourced op) stuck faults g _ (λ object h t.
        on_reference (Sourced op) stuck faults object _ (λ r.
        called (if keeps then g else h) (new_frame code body (Some id) (Some r) g.area arguments)))))

    area_of : (v : Value) (next : Option ℕ → Effect) → ((a : Option ℕ) → Sourced op (next a)) →
        Sourced op (with_area world v next)
    area_of Null next h = h None
    area_of (At r) next h = with_given (world.object_at r) _ (λ (o : Object) e. h (Some o.area))
    area_of (Int z) next h = stuck
    area_of (Truth b) next h = stuck

    at_index : (o : Option ℕ) (next : ℕ → Effect) → ((k : ℕ) → Sourced op (next k)) →
        Sourced op (elim o as (λ z. Effect) [ None ↦ Faults ArrayIndex | Some k ↦ next k ])
    at_index None next h = faults ArrayIndex
    at_index (Some k) next h = h k

    cast : (class : ℕ) (h : Frame) (v : Value) →
        Sourced op (elim v as (λ z. Effect) [
          | Null ↦ pushes h Null
          | At r ↦ given (world.object_at r) (λ o.
              if is_sub code.program.classes o.class class then pushes h (At r) else Faults ClassCast)
          | Int z ↦ Stuck
          | Truth b ↦ Stuck
        ])
    cast class h Null = goes _
    cast class h (At r) =
        with_given (world.object_at r) _ (λ o e. test (is_sub code.program.classes o.class class) _ _ (goes _) (faults ClassCast))
    cast class h (Int z) = stuck
    cast class h (Truth b) = stuck

    pop1 : (g : Frame) (next : Value → Frame → Effect) → ((v : Value) (h : Frame) → Sourced op (next v h)) →
        Sourced op (pop g next)
    pop1 g next h = on_pop (Sourced op) stuck faults g next (λ v k s. h v k)

    object : (v : Value) (next : ℕ → Effect) → ((r : ℕ) → Sourced op (next r)) → Sourced op (as_object v next)
    object v next h = on_object (Sourced op) stuck faults v next h

    int : (v : Value) (next : ℤ → Effect) → ((z : ℤ) → Sourced op (next z)) → Sourced op (as_int v next)
    int v next h = on_int (Sourced op) stuck faults v next h

  -- ---- a form

  module _ (id : ℕ) where
    hidden : (h : Frame) (r : ℕ) (vs : List Value) → Sourced (PARAMS id) (SetsHidden h r vs)
    hidden h r vs = record { is = (id, refl) }

    periodic : (h : Frame) (r : ℕ) (vs : List Value) → Sourced (PARAMS id) (periodic_parameters h r vs)
    periodic h r (Int priority ∷ Int sms ∷ Int sns ∷ Int pms ∷ Int pns ∷ Int storage ∷ []) =
        test (PARAMS id) _ _ _ (faults (PARAMS id) BadPriority) (at (times_of sms sns pms pns))
      where
        at : (o : Option (ℕ × ℕ)) → Sourced (PARAMS id) (elim o as (λ z. Effect) [
          | None ↦ Faults BadPeriod
          | Some times ↦
              if is_negative storage then Faults NegativeSize
              else SetsHidden h r (Int priority ∷ Int storage ∷ Int (pos times.0) ∷ Int (pos times.1) ∷ [])
        ])
        at None = faults (PARAMS id) BadPeriod
        at (Some times) = test (PARAMS id) (is_negative storage) _ _ (faults (PARAMS id) NegativeSize) (hidden h r _)
    periodic h r _ = stuck (PARAMS id)

    right : (vs : List Value) (next : ℤ → ℤ → Effect) → ((a b : ℤ) → Sourced (PARAMS id) (next a b)) →
        Sourced (PARAMS id) (right_parameters vs next)
    right (Int priority ∷ Int storage ∷ []) next k =
        test (PARAMS id) _ _ _ (faults (PARAMS id) BadPriority)
        (test (PARAMS id) (is_negative storage) _ _ (faults (PARAMS id) NegativeSize) (k priority storage))
    right _ next k = stuck (PARAMS id)

  abbrev elem_of_slot : Frame → Object → Option ℕ → Effect
  elem_of_slot k o m =
      elim m as (λ z. Effect) [
        | None ↦ Faults ArrayIndex
        | Some n ↦ given (slice_get o.slots n) (λ value. pushes k value)
      ]

  abbrev elem_found : Frame → ℕ → ℤ → Effect
  elem_found k r i = given (world.object_at r) (λ o. elem_of_slot k o (index_in o.slots i))

  abbrev elem_element : Frame → Value → Value → Effect
  elem_element k array index = as_object array (λ r. as_int index (λ i. elem_found k r i))

  abbrev call_on : ℕ → ℕ → List Value → Frame → Value → Effect
  call_on id method arguments h v =
      as_object v (λ r. given (world.object_at r) (λ o. given (body_of code.program o.class method) (λ body.
      Calls h (new_frame code body (Some id) (Some r) h.area arguments))))

  abbrev enter_opened : ℕ → Frame → ℕ → ℤ → Object → Body → Effect
  enter_opened id k r n o body =
      given (defined_by_chain code.program o.class) (λ scope.
      Opens k (new_frame code body (Some id) (Some r) k.area []) scope (unsigned_abs n))

  abbrev enter_sized : ℕ → Frame → ℕ → ℤ → Effect
  enter_sized id k r n =
      if is_negative n then Faults NegativeSize else with_run code world r (λ o body. enter_opened id k r n o body)

  abbrev enter_opens : ℕ → Frame → Value → Value → Effect
  enter_opens id k v size = as_object v (λ r. as_int size (λ n. enter_sized id k r n))

  abbrev exec_runs : ℕ → Frame → Object → ℕ → Effect
  exec_runs id k there r =
      with_run code world r (λ o body. Calls k (new_frame code body (Some id) (Some r) there.area []))

  abbrev exec_found : ℕ → Frame → ℕ → ℕ → Effect
  exec_found id k q r = given (world.object_at q) (λ there. exec_runs id k there r)

  abbrev exec_in_place : ℕ → Frame → Value → Value → Effect
  exec_in_place id k v index = as_object index (λ q. as_object v (λ r. exec_found id k q r))

  abbrev ceiling_sets : Frame → ℕ → ℤ → Effect
  ceiling_sets k r n = if is_priority n then SetsCeiling k r (unsigned_abs n) else Faults BadPriority

  abbrev put_of_slot : Frame → ℕ → Value → Option ℕ → Effect
  put_of_slot l r v m =
      elim m as (λ z. Effect) [
        | None ↦ Faults ArrayIndex
        | Some n ↦ Stores l r n v
      ]

  abbrev put_found : Frame → ℕ → ℤ → Value → Effect
  put_found l r n v = given (world.object_at r) (λ o. put_of_slot l r v (index_in o.slots n))

  abbrev put_element : Frame → Value → Value → Value → Effect
  put_element l array index v = as_object array (λ r. as_int index (λ n. put_found l r n v))

  pub sourced : (op : Op) → Sourced op (effect_of code world f op)
  unfolding effect_of
  sourced (PUSH id) = with_given (PUSH id) (part code literal_value id) _ (λ v e. goes (PUSH id) _)
  sourced (THIS id) = with_given (THIS id) f.this _ (λ r e. goes (THIS id) _)
  sourced (LOAD id) =
      with_given (LOAD id) (bound_local (binding code id)) _ (λ k e.
      with_given (LOAD id) (slice_get f.locals k) _ (λ v h. goes (LOAD id) _))
  sourced (GET id) =
      with_given (GET id) (bound_field (binding code id)) _ (λ field e.
      pop1 (GET id) f (λ v h. as_object v (λ r. with_field code world r field (λ o slot.
      given (slice_get o.slots slot) (λ value. pushes h value)))) (λ v h.
      object (GET id) v (λ r. with_field code world r field (λ o slot.
      given (slice_get o.slots slot) (λ value. pushes h value))) (λ r.
      field_at (GET id) r field (λ o slot. given (slice_get o.slots slot) (λ value. pushes h value)) (λ o slot t q.
      given_pushed (GET id) (slice_get o.slots slot) h))))
  sourced (GETSTATIC id) =
      with_given (GETSTATIC id) (bound_static (binding code id)) _ (λ field e.
      with_given (GETSTATIC id) (static_index code.program field) _ (λ place h.
      with_given (GETSTATIC id) (slice_get world.statics place) _ (λ v k. goes (GETSTATIC id) _)))
  sourced (LENGTH id) =
      pop1 (LENGTH id) f (λ v h. as_object v (λ r. given (world.object_at r) (λ o. pushes h (Int (pos (length o.slots))))))
      (λ v h. object (LENGTH id) v (λ r. given (world.object_at r) (λ o. pushes h (Int (pos (length o.slots))))) (λ r.
      with_given (LENGTH id) (world.object_at r) (λ o. pushes h (Int (pos (length o.slots)))) (λ o e.
      goes (LENGTH id) (record h { operands = Int (pos (length o.slots)) ∷ h.operands }))))
  sourced (ELEM id) =
      pop1 (ELEM id) f (λ index h. pop h (λ array k. elem_element k array index)) (λ index h.
      pop1 (ELEM id) h (λ array k. elem_element k array index) (λ array k.
      object (ELEM id) array (λ r. as_int index (λ i. elem_found k r i)) (λ r.
      int (ELEM id) index (λ i. elem_found k r i) (λ i.
      with_given (ELEM id) (world.object_at r) (λ o. elem_of_slot k o (index_in o.slots i)) (λ o e.
      at_index (ELEM id) (index_in o.slots i) (λ n. given (slice_get o.slots n) (λ value. pushes k value)) (λ n.
      given_pushed (ELEM id) (slice_get o.slots n) k))))))
  sourced (UNARY id) =
      with_given (UNARY id) (part code operator_of id) _ (λ operator e.
      pop1 (UNARY id) f (λ v h. given (unary_value operator v) (λ value. pushes h value)) (λ v h.
      given_pushed (UNARY id) (unary_value operator v) h))
  sourced (BIN id) =
      with_given (BIN id) (part code operator_of id) _ (λ operator e.
      pop1 (BIN id) f (λ r h. pop h (λ l k. if divides_by_zero operator r then Faults DivideByZero
      else given (binary_value operator l r) (λ value. pushes k value))) (λ r h.
      pop1 (BIN id) h (λ l k. if divides_by_zero operator r then Faults DivideByZero
      else given (binary_value operator l r) (λ value. pushes k value)) (λ l k.
      test (BIN id) (divides_by_zero operator r) (Faults DivideByZero)
      (given (binary_value operator l r) (λ value. pushes k value)) (faults (BIN id) DivideByZero)
      (given_pushed (BIN id) (binary_value operator l r) k))))
  sourced (AND id) =
      on_branch (Sourced (AND id)) (stuck (AND id)) (faults (AND id)) code (AND id) f
      (λ b h. if b then Goes h else pushes h (Truth false))
      (λ b h s. test (AND id) b (Goes h) (pushes h (Truth false)) (goes (AND id) h)
      (goes (AND id) (record h { operands = Truth false ∷ h.operands })))
  sourced (OR id) =
      on_branch (Sourced (OR id)) (stuck (OR id)) (faults (OR id)) code (OR id) f
      (λ b h. if b then pushes h (Truth true) else Goes h)
      (λ b h s. test (OR id) b (pushes h (Truth true)) (Goes h)
      (goes (OR id) (record h { operands = Truth true ∷ h.operands })) (goes (OR id) h))
  sourced (ALLOC id) =
      with_given (ALLOC id) (bound_class (binding code id)) _ (λ class e. record { is = An_object id refl e refl refl })
  sourced (CONSTRUCT id) =
      with_given (CONSTRUCT id) (bound_class (binding code id)) _ (λ class e.
      with_given (CONSTRUCT id) (part code argument_count id) _ (λ n q. constructed (CONSTRUCT id) id class n true))
  sourced (ALLOCARRAY id) =
      with_given (ALLOCARRAY id) (bound_class (binding code id)) _ (λ class e.
      with_given (ALLOCARRAY id) (element_kind code.program class) _ (λ kind q.
      pop1 (ALLOCARRAY id) f (λ v h. as_int v (λ n. if is_negative n then Faults NegativeSize
      else Makes h class (new_elements kind (unsigned_abs n)))) (λ v h.
      int (ALLOCARRAY id) v (λ n. if is_negative n then Faults NegativeSize
      else Makes h class (new_elements kind (unsigned_abs n))) (λ n.
      test (ALLOCARRAY id) (is_negative n) (Faults NegativeSize) (Makes h class (new_elements kind (unsigned_abs n)))
      (faults (ALLOCARRAY id) NegativeSize) (record { is = An_array kind q })))))
  sourced (CALL id) =
      with_given (CALL id) (bound_method (binding code id)) _ (λ method e.
      with_given (CALL id) (part code argument_count id) _ (λ n q.
      on_pop_all (Sourced (CALL id)) (stuck (CALL id)) (faults (CALL id)) n f (λ arguments g.
      pop g (λ v h. call_on id method arguments h v)) (λ arguments g s.
      pop1 (CALL id) g (λ v h. call_on id method arguments h v) (λ v h.
      object (CALL id) v (λ r. given (world.object_at r) (λ o. given (body_of code.program o.class method) (λ body.
      Calls h (new_frame code body (Some id) (Some r) h.area arguments)))) (λ r.
      with_given (CALL id) (world.object_at r) (λ o. given (body_of code.program o.class method) (λ body.
      Calls h (new_frame code body (Some id) (Some r) h.area arguments))) (λ o t.
      with_given (CALL id) (body_of code.program o.class method) (λ body.
      Calls h (new_frame code body (Some id) (Some r) h.area arguments)) (λ body k.
      called (CALL id) h (new_frame code body (Some id) (Some r) h.area arguments))))))))
  sourced (CALLSTATIC id) =
      with_given (CALLSTATIC id) (bound_static_method (binding code id)) _ (λ method e.
      with_given (CALLSTATIC id) (part code argument_count id) _ (λ n q.
      with_given (CALLSTATIC id) (body_of code.program method.0 method.1) _ (λ body k.
      on_pop_all (Sourced (CALLSTATIC id)) (stuck (CALLSTATIC id)) (faults (CALLSTATIC id)) n f
      (λ arguments g. Calls g (new_frame code body (Some id) None g.area arguments)) (λ arguments g s.
      called (CALLSTATIC id) g (new_frame code body (Some id) None g.area arguments)))))
  sourced (CAST id) =
      with_given (CAST id) (bound_class (binding code id)) _ (λ class e. pop1 (CAST id) f _ (λ v h. cast (CAST id) class h v))
  sourced (ENTER id) =
      pop1 (ENTER id) f (λ v h. pop h (λ size k. enter_opens id k v size)) (λ v h.
      pop1 (ENTER id) h (λ size k. enter_opens id k v size) (λ size k.
      object (ENTER id) v (λ r. as_int size (λ n. enter_sized id k r n)) (λ r.
      int (ENTER id) size (λ n. enter_sized id k r n) (λ n.
      test (ENTER id) (is_negative n) (Faults NegativeSize) (with_run code world r (λ o body. enter_opened id k r n o body))
      (faults (ENTER id) NegativeSize)
      (run_of (ENTER id) r (λ o body. enter_opened id k r n o body) (λ o body.
      with_given (ENTER id) (defined_by_chain code.program o.class) (λ scope.
      Opens k (new_frame code body (Some id) (Some r) k.area []) scope (unsigned_abs n)) (λ scope e.
      record { is = tt })))))))
  sourced (EXECUTEIN id) =
      pop1 (EXECUTEIN id) f (λ v h. pop h (λ place k. exec_in_place id k v place)) (λ v h.
      pop1 (EXECUTEIN id) h (λ place k. exec_in_place id k v place) (λ place k.
      object (EXECUTEIN id) place (λ q. as_object v (λ r. exec_found id k q r)) (λ q.
      object (EXECUTEIN id) v (λ r. exec_found id k q r) (λ r.
      with_given (EXECUTEIN id) (world.object_at q) (λ o. exec_runs id k o r) (λ there e.
      run_of (EXECUTEIN id) r (λ o body. Calls k (new_frame code body (Some id) (Some r) there.area [])) (λ o body.
      called (EXECUTEIN id) k (new_frame code body (Some id) (Some r) there.area [])))))))
  sourced (SAME id) =
      pop1 (SAME id) f (λ second h. pop h (λ first k. with_area world first (λ a. with_area world second (λ b.
      pushes k (Truth (are_one_area a b)))))) (λ second h.
      pop1 (SAME id) h (λ first k. with_area world first (λ a. with_area world second (λ b.
      pushes k (Truth (are_one_area a b))))) (λ first k.
      area_of (SAME id) first (λ a. with_area world second (λ b. pushes k (Truth (are_one_area a b)))) (λ a.
      area_of (SAME id) second (λ b. pushes k (Truth (are_one_area a b))) (λ b.
      goes (SAME id) (record k { operands = Truth (are_one_area a b) ∷ k.operands })))))
  sourced (SETCEILING id) =
      pop1 (SETCEILING id) f (λ c h. pop h (λ v k. as_object v (λ r. as_int c (λ n. ceiling_sets k r n)))) (λ c h.
      pop1 (SETCEILING id) h (λ v k. as_object v (λ r. as_int c (λ n. ceiling_sets k r n))) (λ v k.
      object (SETCEILING id) v (λ r. as_int c (λ n. ceiling_sets k r n)) (λ r.
      int (SETCEILING id) c (λ n. ceiling_sets k r n) (λ n.
      test (SETCEILING id) (is_priority n) (SetsCeiling k r (unsigned_abs n)) (Faults BadPriority) (record { is = tt })
      (faults (SETCEILING id) BadPriority)))))
  sourced (PRINT id) =
      with_given (PRINT id) (part code first_argument id) _ (λ label e.
      pop1 (PRINT id) f (λ v h. as_int v (λ z. Prints h label z)) (λ v h.
      int (PRINT id) v (λ z. Prints h label z) (λ z. record { is = tt })))
  sourced (READ id) =
      pop1 (READ id) f (λ v h. as_int v (λ z. if is_port z then pushes h (Int (world.reading (unsigned_abs z)))
      else Faults BadPort)) (λ v h.
      int (READ id) v (λ z. if is_port z then pushes h (Int (world.reading (unsigned_abs z))) else Faults BadPort) (λ z.
      test (READ id) (is_port z) (pushes h (Int (world.reading (unsigned_abs z)))) (Faults BadPort)
      (goes (READ id) (record h { operands = Int (world.reading (unsigned_abs z)) ∷ h.operands }))
      (faults (READ id) BadPort)))
  sourced (REGISTER id) =
      pop1 (REGISTER id) f (λ v h. as_object v (λ r. AsksRegistration h r)) (λ v h.
      object (REGISTER id) v (λ r. AsksRegistration h r) (λ r. record { is = tt }))
  sourced (RELEASE id) =
      pop1 (RELEASE id) f (λ v h. as_object v (λ r. AsksRelease h r)) (λ v h.
      object (RELEASE id) v (λ r. AsksRelease h r) (λ r. record { is = tt }))
  sourced (TERMINATE id) =
      pop1 (TERMINATE id) f (λ v h. as_object v (λ r. AsksTermination h r)) (λ v h.
      object (TERMINATE id) v (λ r. AsksTermination h r) (λ r. record { is = tt }))
  sourced (ZERO id) =
      with_given (ZERO id) (bound_local (binding code id)) _ (λ k e.
      with_given (ZERO id) (variable_at code.program.nodes id) _ (λ (d : Declared) q. goes (ZERO id) _))
  sourced (STORE id) =
      with_given (STORE id) (assigned code id >>= bound_local) _ (λ k e.
      pop1 (STORE id) f (λ v h. Goes (record h { locals = slice_set h.locals k v })) (λ v h.
      goes (STORE id) (record h { locals = slice_set h.locals k v })))
  sourced (PUT id) =
      with_given (PUT id) (assigned code id >>= bound_field) _ (λ field e.
      pop1 (PUT id) f (λ v h. pop h (λ w k. as_object w (λ r. with_field code world r field (λ o slot.
      Stores k r slot v)))) (λ v h.
      pop1 (PUT id) h (λ w k. as_object w (λ r. with_field code world r field (λ o slot. Stores k r slot v))) (λ w k.
      object (PUT id) w (λ r. with_field code world r field (λ o slot. Stores k r slot v)) (λ r.
      field_at (PUT id) r field (λ o slot. Stores k r slot v) (λ o slot t q.
      stored (PUT id) k r field slot v o t q)))))
  sourced (PUTSTATIC id) =
      with_given (PUTSTATIC id) (assigned code id >>= bound_static) _ (λ field e.
      with_given (PUTSTATIC id) (static_index code.program field) _ (λ place q.
      pop1 (PUTSTATIC id) f (λ v h. StoresStatic h place v) (λ v h. record { is = tt })))
  sourced (PUTELEM id) =
      pop1 (PUTELEM id) f (λ v h. pop h (λ index k. pop k (λ array l. put_element l array index v))) (λ v h.
      pop1 (PUTELEM id) h (λ index k. pop k (λ array l. put_element l array index v)) (λ index k.
      pop1 (PUTELEM id) k (λ array l. put_element l array index v) (λ array l.
      object (PUTELEM id) array (λ r. as_int index (λ n. put_found l r n v)) (λ r.
      int (PUTELEM id) index (λ n. put_found l r n v) (λ n.
      with_given (PUTELEM id) (world.object_at r) (λ o. put_of_slot l r v (index_in o.slots n)) (λ o e.
      at_index (PUTELEM id) (index_in o.slots n) (λ m. Stores l r m v) (λ m.
      record { is = λ x t. inr (id, refl) })))))))
  sourced (IF id) =
      on_branch (Sourced (IF id)) (stuck (IF id)) (faults (IF id)) code (IF id) f (λ b h. Goes h)
      (λ b h s. goes (IF id) h)
  sourced (LOOP id) =
      on_branch (Sourced (LOOP id)) (stuck (LOOP id)) (faults (LOOP id)) code (LOOP id) f (λ b h. Goes h)
      (λ b h s. goes (LOOP id) h)
  sourced (LEAVEWITH id) = pop1 (LEAVEWITH id) f (λ v h. Leaves h (Some v)) (λ v h. record { is = tt })
  sourced LEAVE = record { is = tt }
  sourced (DROP id) = pop1 (DROP id) f (λ v h. Goes h) (λ v h. goes (DROP id) h)
  sourced (INIT id) =
      with_given (INIT id) (part code literal_written id >>= part code literal_value) _ (λ v e.
      with_given (INIT id) (bound_field (binding code id)) _ (λ field q. with_given (INIT id) f.this _ (λ r t.
      field_at (INIT id) r field (λ o slot. Stores f r slot v) (λ o slot there is.
      stored (INIT id) f r field slot v o there is))))
  sourced (SUPER id) =
      with_given (SUPER id) (bound_class (binding code id)) _ (λ class e.
      constructed (SUPER id) id class (super_count code id) false)
  sourced (PARAMS id) =
      with_given (PARAMS id) (bound_class (binding code id)) _ (λ superclass e. with_given (PARAMS id) f.this _ (λ r t.
      test (PARAMS id) (superclass == periodic_handler) _ _
      (on_pop_all (Sourced (PARAMS id)) (stuck (PARAMS id)) (faults (PARAMS id)) 6 f
      (λ vs h. periodic_parameters h r vs) (λ vs h s. periodic id h r vs))
      (test (PARAMS id) (superclass == mission_sequencer) _ _
      (on_pop_all (Sourced (PARAMS id)) (stuck (PARAMS id)) (faults (PARAMS id)) 2 f
      (λ vs h. right_parameters vs (λ priority storage. Goes h))
      (λ vs h s. right id vs (λ priority storage. Goes h) (λ a b. goes (PARAMS id) h)))
      (on_pop_all (Sourced (PARAMS id)) (stuck (PARAMS id)) (faults (PARAMS id)) 2 f
      (λ vs h. right_parameters vs (λ priority storage. SetsHidden h r (Int priority ∷ Int storage ∷ [])))
      (λ vs h s. right id vs (λ priority storage. SetsHidden h r (Int priority ∷ Int storage ∷ []))
      (λ a b. hidden id h r (Int a ∷ Int b ∷ [])))))))
