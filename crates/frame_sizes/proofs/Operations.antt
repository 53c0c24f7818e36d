-- An operation of a frame of which it is known how many operands it has leaves frames of which it is known again.
use Rattle.std.specs.Prelude.{Option, Some, None, slice_get, slice_set, ℤ, pos, length, unsigned_abs, ◌==◌, not}
use Rattle.std.specs.Int.{is_negative}
use Rattle.std.proofs.Common.{◌≡◌, ◌≤◌, ℕ, suc, List, [], ◌∷◌, Bool, true, false, refl, ap, subst, if◌then◌else◌}
use Rattle.scj_base.specs.declared.faults.RunFault.{RunFault}
use Rattle.scj_base.specs.declared.faults.RunFault.TheVariants.{ArrayIndex, NegativeSize, DivideByZero, ClassCast, BadPriority, BadPeriod, BadPort}
use Rattle.scj_base.specs.declared.values.Value.{Value}
use Rattle.scj_base.specs.declared.values.Value.TheVariants.{Int, Bool as Truth, Null, At}
use Rattle.scj_builtins.specs.Framework.{mission_sequencer, periodic_handler}
use Rattle.scj_rules.specs.declared.views.Body.{Body}
use Rattle.scj_rules.specs.declared.views.Declared.{Declared}
use Rattle.scj_rules.specs.Words.{◌>>=◌}
use Rattle.scj_rules.specs.Views.{variable_at}
use Rattle.scj_rules.specs.Classes.{is_sub}
use Rattle.scj_rules.specs.Layout.{slot_of, static_index, element_kind, literal_written, kind_of_type}
use Rattle.scj_model.specs.declared.operations.Op.{Op}
use Rattle.scj_model.specs.declared.operations.Op.TheVariants.{Push as PUSH, This as THIS, Load as LOAD, Get as GET, GetStatic as GETSTATIC, Length as LENGTH, Elem as ELEM, Unary as UNARY, Bin as BIN, And as AND, Or as OR, Alloc as ALLOC, Construct as CONSTRUCT, AllocArray as ALLOCARRAY, Call as CALL, CallStatic as CALLSTATIC, Cast as CAST, Enter as ENTER, ExecuteIn as EXECUTEIN, Same as SAME, SetCeiling as SETCEILING, Print as PRINT, Read as READ, Register as REGISTER, Release as RELEASE, Terminate as TERMINATE, Zero as ZERO, Store as STORE, Put as PUT, PutStatic as PUTSTATIC, PutElem as PUTELEM, If as IF, Loop as LOOP, LeaveWith as LEAVEWITH, Leave as LEAVE, Drop as DROP, Init as INIT, Super as SUPER, Params as PARAMS}
use Rattle.scj_model.specs.Code.{Code, binding, part}
use Rattle.scj_model.specs.State.{Object, Frame}
use Rattle.scj_model.specs.Memory.{literal_value, default_value, new_slots, new_elements}
use Rattle.scj_model.specs.Arithmetic.{binary_value, divides_by_zero, unary_value}
use Rattle.scj_model.specs.Effects.{Effect, Goes, Prints, Makes, Stores, StoresStatic, SetsHidden, SetsCeiling, Leaves, AsksRegistration, AsksRelease, AsksTermination, Faults, Stuck, given, pop_all, pushes}
use Rattle.scj_model.specs.Operations.{Environment, effect_of, bound_local, bound_field, bound_static, bound_class, operator_of, assigned, first_argument, with_field, with_area, are_one_area, index_in, is_port, is_priority, periodic_parameters, right_parameters, times_of}
use Rattle.priority_laws.proofs.OperationCases.{on_given, on_if, on_int, on_object}
use Rattle.scope_flow.specs.Needs.{parameter_count}
use Rattle.scope_flow.specs.Ways.{form_count}
use Rattle.certain_faults.proofs.Frames.{GivesAsBound}
use Rattle.frame_sizes.proofs.Counts.{fewer, dropped, after, Asked, Fits}
use Rattle.frame_sizes.proofs.Frames.{BodiesFit, GivesNothing, Fine as FineOf, stuck as stuck_of, faults as faults_of}
use Rattle.frame_sizes.proofs.Steps.{Stands, explained, on_pop, on_pop_all, pushed, made}
use Rattle.frame_sizes.proofs.Branches.{and_fine, or_fine, if_fine, loop_fine}
use Rattle.frame_sizes.proofs.Calls.{construct_fine, call_fine, call_static_fine, super_fine, enter_fine, execute_fine}

module _ (code : Code) (G : Body → Bool → Type 0) (static : BodiesFit code) (rest : List Op) (world : Environment)
    (f : Frame) (d : ℕ) (x : Stands code G static rest d f) where
  abbrev Fine : Effect → Type 0
  Fine e = FineOf code G e

  stuck : Fine Stuck
  stuck = stuck_of code G

  faults : (x : RunFault) → Fine (Faults x)
  faults x = faults_of code G x

  abbrev pub IsLeft : Op → Type 0
  IsLeft op = Fits code rest (after code op d)

  on_field : (r field : ℕ) (next : Object → ℕ → Effect) → ((o : Object) (slot : ℕ) → Fine (next o slot)) →
      Fine (with_field code world r field next)
  on_field r field next h =
      on_given Fine stuck faults (world.object_at r) _
      (λ o e. on_given Fine stuck faults (slot_of code.program o.class field) _ (λ slot k. h o slot))

  on_area : (v : Value) (next : Option ℕ → Effect) → ((a : Option ℕ) → Fine (next a)) →
      Fine (with_area world v next)
  on_area Null next h = h None
  on_area (At r) next h = on_given Fine stuck faults (world.object_at r) _ (λ (o : Object) e. h (Some o.area))
  on_area (Int z) next h = stuck
  on_area (Truth b) next h = stuck

  -- a form is read
  periodic_fine : (r : ℕ) (e : ℕ) (g : Frame) → Stands code G static rest e g → (values : List Value) → Fits code rest e →
      Fine (periodic_parameters g r values)
  periodic_fine r e g y (Int priority ∷ Int sms ∷ Int sns ∷ Int pms ∷ Int pns ∷ Int storage ∷ []) p =
      on_if Fine stuck faults (not (is_priority priority)) _ _ (λ t. faults BadPriority)
      (λ t. timed (times_of sms sns pms pns))
    where
      timed : (o : Option (ℕ × ℕ)) → Fine (elim o as (λ z. Effect) [
        | None ↦ Faults BadPeriod
        | Some times ↦
            if is_negative storage then Faults NegativeSize
            else SetsHidden g r (Int priority ∷ Int storage ∷ Int (pos times.0) ∷ Int (pos times.1) ∷ [])
      ])
      timed None = faults BadPeriod
      timed (Some times) =
          on_if Fine stuck faults (is_negative storage) _ _ (λ t. faults NegativeSize)
          (λ t. record { is = explained code G static rest e g y p })
  periodic_fine r e g y _ p = stuck

  right_fine : (values : List Value) (next : ℤ → ℤ → Effect) → ((a b : ℤ) → Fine (next a b)) →
      Fine (right_parameters values next)
  right_fine (Int priority ∷ Int storage ∷ []) next h =
      on_if Fine stuck faults (not (is_priority priority)) _ _ (λ e. faults BadPriority)
      (λ e. on_if Fine stuck faults (is_negative storage) _ _ (λ k. faults NegativeSize) (λ k. h priority storage))
  right_fine _ next h = stuck

  element_stored : (e r k : ℕ) (value : Value) (g : Frame) (o : Option ℕ) → Stands code G static rest e g → Fits code rest e →
      Fine (elim o as (λ z. Effect) [ None ↦ Faults ArrayIndex | Some k ↦ Stores g r k value ])
  element_stored e r k value g None y p = faults ArrayIndex
  element_stored e r k value g (Some n) y p = record { is = explained code G static rest e g y p }

  element_read : (e : ℕ) (slots : List Value) (g : Frame) (o : Option ℕ) → Stands code G static rest e g → Fits code rest (suc e) →
      Fine (elim o as (λ z. Effect)
      [ None ↦ Faults ArrayIndex | Some k ↦ given (slice_get slots k) (λ value. pushes g value) ])
  element_read e slots g None y p = faults ArrayIndex
  element_read e slots g (Some k) y p =
      on_given Fine stuck faults (slice_get slots k) _ (λ value h. pushed code G static rest e g value y p)

  cast_fine : (class e : ℕ) (g : Frame) → Stands code G static rest e g → Fits code rest (suc e) → (v : Value) →
      Fine (elim v as (λ z. Effect) [
        | Null ↦ pushes g Null
        | At r ↦ given (world.object_at r)
            (λ o. if is_sub code.program.classes o.class class then pushes g (At r) else Faults ClassCast)
        | Int z ↦ Stuck
        | Truth b ↦ Stuck
      ])
  cast_fine class e g y p Null = pushed code G static rest e g Null y p
  cast_fine class e g y p (At r) =
      on_given Fine stuck faults (world.object_at r) _ (λ o h.
      on_if Fine stuck faults (is_sub code.program.classes o.class class) _ _
      (λ k. pushed code G static rest e g (At r) y p) (λ k. faults ClassCast))
  cast_fine class e g y p (Int z) = stuck
  cast_fine class e g y p (Truth b) = stuck

  params_fine : (id : ℕ) → Fits code rest (dropped (form_count code id) d) →
      Fine (effect_of code world f (PARAMS id))
  unfolding effect_of parameter_count
  params_fine id p =
      on_given Fine stuck faults (bound_class (binding code id)) _ (λ superclass e.
      on_given Fine stuck faults f.this _ (λ r t.
      by_class superclass r (superclass == periodic_handler) refl
      (subst (λ n. Fits code rest (dropped n d))
      (ap (λ (o : Option ℕ). elim o as (λ z. ℕ) [ None ↦ 0 | Some c ↦ parameter_count c ]) e) p)))
    where
      by_class : (superclass r : ℕ) (b : Bool) → (superclass == periodic_handler) ≡ b →
          Fits code rest (dropped (if b then 6 else 2) d) →
          Fine (if b then pop_all 6 f (λ values f. periodic_parameters f r values)
          else (if superclass == mission_sequencer
          then pop_all 2 f (λ values f. right_parameters values (λ priority storage. Goes f))
          else (pop_all 2 f (λ values f.
          right_parameters values (λ priority storage. SetsHidden f r (Int priority ∷ Int storage ∷ []))))))
      by_class superclass r true e q =
          on_pop_all code G static rest 6 d f (λ values f. periodic_parameters f r values) x (λ values g y. periodic_fine r (dropped 6 d) g y values q)
      by_class superclass r false e q =
          on_if Fine stuck faults (superclass == mission_sequencer)
          (pop_all 2 f (λ values f. right_parameters values (λ priority storage. Goes f)))
          (pop_all 2 f (λ values f.
          right_parameters values (λ priority storage. SetsHidden f r (Int priority ∷ Int storage ∷ []))))
          (λ b. on_pop_all code G static rest 2 d f
          (λ values f. right_parameters values (λ priority storage. Goes f)) x (λ values g y.
          right_fine values (λ priority storage. Goes g) (λ m n. record { is = explained code G static rest (dropped 2 d) g y q })))
          (λ b. on_pop_all code G static rest 2 d f
          (λ values f. right_parameters values (λ priority storage.
          SetsHidden f r (Int priority ∷ Int storage ∷ []))) x (λ values g y.
          right_fine values (λ priority storage. SetsHidden g r (Int priority ∷ Int storage ∷ []))
          (λ m n. record { is = explained code G static rest (dropped 2 d) g y q })))

  prints : (e : ℕ) (g : Frame) (label : ℕ) (z : ℤ) → Stands code G static rest e g → Fits code rest e → Fine (Prints g label z)
  prints e g label z y p = record { is = explained code G static rest e g y p }

  stores : (e : ℕ) (g : Frame) (r slot : ℕ) (v : Value) → Stands code G static rest e g → Fits code rest e → Fine (Stores g r slot v)
  stores e g r slot v y p = record { is = explained code G static rest e g y p }

  stores_static : (e : ℕ) (g : Frame) (n : ℕ) (v : Value) → Stands code G static rest e g → Fits code rest e →
      Fine (StoresStatic g n v)
  stores_static e g n v y p = record { is = explained code G static rest e g y p }

  sets_ceiling : (e : ℕ) (g : Frame) (r n : ℕ) → Stands code G static rest e g → Fits code rest e → Fine (SetsCeiling g r n)
  sets_ceiling e g r n y p = record { is = explained code G static rest e g y p }

  goes : (e : ℕ) (g : Frame) → Stands code G static rest e g → Fits code rest e → Fine (Goes g)
  goes e g y p = record { is = explained code G static rest e g y p }

  registers : (e : ℕ) (g : Frame) (r : ℕ) → Stands code G static rest e g → Fits code rest e → Fine (AsksRegistration g r)
  registers e g r y p = record { is = explained code G static rest e g y p }

  releases : (e : ℕ) (g : Frame) (r : ℕ) → Stands code G static rest e g → Fits code rest e → Fine (AsksRelease g r)
  releases e g r y p = record { is = explained code G static rest e g y p }

  terminates : (e : ℕ) (g : Frame) (r : ℕ) → Stands code G static rest e g → Fits code rest e → Fine (AsksTermination g r)
  terminates e g r y p = record { is = explained code G static rest e g y p }

  leaves : (g : Frame) (v : Option Value) → Fine (Leaves g v)
  leaves g v = record { is = tt }

  pub operation_fine : (op : Op) → Asked code op d → suc (fewer d) ≤ 640 → IsLeft op →
      GivesAsBound code G world f op → GivesNothing code G world f op → Fine (effect_of code world f op)
  unfolding effect_of after
  operation_fine (PUSH id) a l p c n =
      on_given Fine stuck faults (part code literal_value id) _ (λ v e. pushed code G static rest d f v x p)
  operation_fine (THIS id) a l p c n =
      on_given Fine stuck faults f.this _ (λ r e. pushed code G static rest d f (At r) x p)
  operation_fine (LOAD id) a l p c n =
      on_given Fine stuck faults (bound_local (binding code id)) _ (λ k e.
      on_given Fine stuck faults (slice_get f.locals k) _ (λ v h. pushed code G static rest d f v x p))
  operation_fine (GET id) a l p c n =
      on_given Fine stuck faults (bound_field (binding code id)) _ (λ field e.
      on_pop code G static rest d f _ x (λ object k y. on_object Fine stuck faults object _ (λ r.
      on_field r field _ (λ o slot.
      on_given Fine stuck faults (slice_get o.slots slot) _ (λ v h. pushed code G static rest (fewer d) k v y p)))))
  operation_fine (GETSTATIC id) a l p c n =
      on_given Fine stuck faults (bound_static (binding code id)) _ (λ field e.
      on_given Fine stuck faults (static_index code.program field) _ (λ place h.
      on_given Fine stuck faults (slice_get world.statics place) _ (λ v k. pushed code G static rest d f v x p)))
  operation_fine (LENGTH id) a l p c n =
      on_pop code G static rest d f _ x (λ array k y. on_object Fine stuck faults array _ (λ r.
      on_given Fine stuck faults (world.object_at r) _ (λ o e.
      pushed code G static rest (fewer d) k (Int (pos (length o.slots))) y p)))
  operation_fine (ELEM id) a l p c n =
      on_pop code G static rest d f _ x (λ index k y. on_pop code G static rest (fewer d) k _ y (λ array m z.
      on_object Fine stuck faults array _ (λ r. on_int Fine stuck faults index _ (λ i.
      on_given Fine stuck faults (world.object_at r) _ (λ o e.
      element_read (fewer (fewer d)) o.slots m (index_in o.slots i) z p)))))
  operation_fine (UNARY id) a l p c n =
      on_given Fine stuck faults (part code operator_of id) _ (λ operator h.
      on_pop code G static rest d f _ x (λ v k y. on_given Fine stuck faults (unary_value operator v) _
      (λ value e. pushed code G static rest (fewer d) k value y p)))
  operation_fine (BIN id) a l p c n =
      on_given Fine stuck faults (part code operator_of id) _ (λ operator h.
      on_pop code G static rest d f _ x (λ right k y. on_pop code G static rest (fewer d) k _ y (λ left m z.
      on_if Fine stuck faults (divides_by_zero operator right) _ _ (λ e. faults DivideByZero)
      (λ safe. on_given Fine stuck faults (binary_value operator left right) _
      (λ value e. pushed code G static rest (fewer (fewer d)) m value z p)))))
  operation_fine (AND id) a l p c n = and_fine code G static rest world f d x id a p
  operation_fine (OR id) a l p c n = or_fine code G static rest world f d x id a p
  operation_fine (ALLOC id) a l p c n =
      on_given Fine stuck faults (bound_class (binding code id)) _
      (λ class e. made code G static rest d f class (new_slots code.program class) x p)
  operation_fine (CONSTRUCT id) a l p c n = construct_fine code G static rest world f d x id p c
  operation_fine (ALLOCARRAY id) a l p c n =
      on_given Fine stuck faults (bound_class (binding code id)) _ (λ class e.
      on_given Fine stuck faults (element_kind code.program class) _ (λ kind h.
      on_pop code G static rest d f _ x (λ count k y. on_int Fine stuck faults count _ (λ m.
      on_if Fine stuck faults (is_negative m) (Faults NegativeSize)
      (Makes k class (new_elements kind (unsigned_abs m))) (λ t. faults NegativeSize)
      (λ t. made code G static rest (fewer d) k class (new_elements kind (unsigned_abs m)) y p)))))
  operation_fine (CALL id) a l p c n = call_fine code G static rest world f d x id p c
  operation_fine (CALLSTATIC id) a l p c n = call_static_fine code G static rest world f d x id p c
  operation_fine (CAST id) a l p c n =
      on_given Fine stuck faults (bound_class (binding code id)) _ (λ class e.
      on_pop code G static rest d f _ x (λ v k y. cast_fine class (fewer d) k y p v))
  operation_fine (ENTER id) a l p c n = enter_fine code G static rest world f d x id p n
  operation_fine (EXECUTEIN id) a l p c n = execute_fine code G static rest world f d x id p n
  operation_fine (SAME id) a l p c n =
      on_pop code G static rest d f _ x (λ second k y. on_pop code G static rest (fewer d) k _ y (λ first m z.
      on_area first _ (λ b. on_area second _ (λ q.
      pushed code G static rest (fewer (fewer d)) m (Truth (are_one_area b q)) z p))))
  operation_fine (SETCEILING id) a l p c n =
      on_pop code G static rest d f _ x (λ ceiling k y. on_pop code G static rest (fewer d) k _ y (λ object m z.
      on_object Fine stuck faults object _ (λ r. on_int Fine stuck faults ceiling _ (λ i.
      on_if Fine stuck faults (is_priority i) _ _
      (λ t. sets_ceiling (fewer (fewer d)) m r (unsigned_abs i) z p) (λ t. faults BadPriority)))))
  operation_fine (PRINT id) a l p c n =
      on_given Fine stuck faults (part code first_argument id) _ (λ label e.
      on_pop code G static rest d f _ x (λ v k y. on_int Fine stuck faults v _ (λ z. prints (fewer d) k label z y p)))
  operation_fine (READ id) a l p c n =
      on_pop code G static rest d f _ x (λ v k y. on_int Fine stuck faults v _ (λ z.
      on_if Fine stuck faults (is_port z) _ _
      (λ t. pushed code G static rest (fewer d) k (Int (world.reading (unsigned_abs z))) y p) (λ t. faults BadPort)))
  operation_fine (REGISTER id) a l p c n =
      on_pop code G static rest d f _ x (λ v k y. on_object Fine stuck faults v _ (λ r. registers (fewer d) k r y p))
  operation_fine (RELEASE id) a l p c n =
      on_pop code G static rest d f _ x (λ v k y. on_object Fine stuck faults v _ (λ r. releases (fewer d) k r y p))
  operation_fine (TERMINATE id) a l p c n =
      on_pop code G static rest d f _ x (λ v k y. on_object Fine stuck faults v _ (λ r. terminates (fewer d) k r y p))
  operation_fine (ZERO id) a l p c n =
      on_given Fine stuck faults (bound_local (binding code id)) _ (λ k e.
      on_given Fine stuck faults (variable_at code.program.nodes id) _ (λ (q : Declared) h.
      goes d (record f { locals = slice_set f.locals k (default_value (kind_of_type q.declared_type)) })
      (record { same = x.same; few = x.few }) p))
  operation_fine (STORE id) a l p c n =
      on_given Fine stuck faults (assigned code id >>= bound_local) _ (λ k e.
      on_pop code G static rest d f _ x (λ v g y.
      goes (fewer d) (record g { locals = slice_set g.locals k v }) (record { same = y.same; few = y.few }) p))
  operation_fine (PUT id) a l p c n =
      on_given Fine stuck faults (assigned code id >>= bound_field) _ (λ field e.
      on_pop code G static rest d f _ x (λ v k y. on_pop code G static rest (fewer d) k _ y (λ object m z.
      on_object Fine stuck faults object _ (λ r.
      on_field r field _ (λ o slot. stores (fewer (fewer d)) m r slot v z p)))))
  operation_fine (PUTSTATIC id) a l p c n =
      on_given Fine stuck faults (assigned code id >>= bound_static) _ (λ field e.
      on_given Fine stuck faults (static_index code.program field) _ (λ place t.
      on_pop code G static rest d f _ x (λ v k y. stores_static (fewer d) k place v y p)))
  operation_fine (PUTELEM id) a l p c n =
      on_pop code G static rest d f _ x (λ v k y. on_pop code G static rest (fewer d) k _ y (λ index m z.
      on_pop code G static rest (fewer (fewer d)) m _ z (λ array g w.
      on_object Fine stuck faults array _ (λ r. on_int Fine stuck faults index _ (λ i.
      on_given Fine stuck faults (world.object_at r) _ (λ o e.
      element_stored (fewer (fewer (fewer d))) r 0 v g (index_in o.slots i) w p))))))
  operation_fine (IF id) a l p c n = if_fine code G static rest world f d x id a p
  operation_fine (LOOP id) a l p c n = loop_fine code G static rest world f d x id a l p
  operation_fine (LEAVEWITH id) a l p c n = on_pop code G static rest d f _ x (λ v k y. leaves k (Some v))
  operation_fine LEAVE a l p c n = leaves f None
  operation_fine (DROP id) a l p c n = on_pop code G static rest d f _ x (λ v k y. goes (fewer d) k y p)
  operation_fine (INIT id) a l p c n =
      on_given Fine stuck faults (part code literal_written id >>= part code literal_value) _ (λ v e.
      on_given Fine stuck faults (bound_field (binding code id)) _ (λ field h.
      on_given Fine stuck faults f.this _ (λ r t.
      on_field r field _ (λ o slot. stores d f r slot v x p))))
  operation_fine (SUPER id) a l p c n = super_fine code G static rest world f d x id p n
  operation_fine (PARAMS id) a l p c n = params_fine id p
