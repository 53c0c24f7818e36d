-- The effect of each operation has its form: it leaves the frame standing where it stood, calls new frames alone, and
-- sets no priority but one from 1 to 28.
use Rattle.std.proofs.Common.{◌≡◌, Bool, refl, inl, inr, ℕ, true, false, List, [], ◌∷◌, Option, Some, None, if◌then◌else◌}
use Rattle.std.specs.Prelude.{ℤ, length, unsigned_abs, ◌==◌, pos, not, codes, slice_get, slice_set}
use Rattle.std.specs.Int.{is_negative}
use Rattle.scj_base.specs.declared.faults.RunFault.TheVariants.{ArrayIndex, DivideByZero, BadPort, ClassCast, BadPeriod, BadPriority, NegativeSize}
use Rattle.scj_base.specs.declared.values.Value.{Value}
use Rattle.scj_base.specs.declared.values.Value.TheVariants.{Int, Bool as Truth, Null, At}
use Rattle.scj_builtins.specs.Framework.{mission_sequencer, periodic_handler}
use Rattle.scj_rules.specs.declared.views.Body.{Body}
use Rattle.scj_rules.specs.Classes.{is_sub}
use Rattle.scj_rules.specs.Layout.{slot_of, static_index, element_kind, literal_written}
use Rattle.scj_rules.specs.Bodies.{body_named, body_of}
use Rattle.scj_rules.specs.Views.{variable_at}
use Rattle.scj_rules.specs.ScopeRules.{defined_by_chain}
use Rattle.scj_rules.specs.Words.{◌>>=◌}
use Rattle.scj_model.specs.Memory.{literal_value, new_elements}
use Rattle.scj_model.specs.Arithmetic.{binary_value, divides_by_zero, unary_value}
use Rattle.scj_model.specs.declared.operations.Op.{Op}
use Rattle.scj_model.specs.declared.operations.Op.TheVariants.{Push as PUSH, This as THIS, Load as LOAD, Get as GET, GetStatic as GETSTATIC, Length as LENGTH, Elem as ELEM, Unary as UNARY, Bin as BIN, And as AND, Or as OR, Alloc as ALLOC, Construct as CONSTRUCT, AllocArray as ALLOCARRAY, Call as CALL, CallStatic as CALLSTATIC, Cast as CAST, Enter as ENTER, ExecuteIn as EXECUTEIN, Same as SAME, SetCeiling as SETCEILING, Print as PRINT, Read as READ, Register as REGISTER, Release as RELEASE, Terminate as TERMINATE, Zero as ZERO, Store as STORE, Put as PUT, PutStatic as PUTSTATIC, PutElem as PUTELEM, If as IF, Loop as LOOP, LeaveWith as LEAVEWITH, Leave as LEAVE, Drop as DROP, Init as INIT, Super as SUPER, Params as PARAMS}
use Rattle.scj_model.specs.Code.{Code, binding, part}
use Rattle.scj_model.specs.State.{Object, Frame}
use Rattle.scj_model.specs.Effects.{Effect, Goes, Prints, Makes, Stores, StoresStatic, SetsHidden, SetsCeiling, Calls, Opens, Leaves, AsksRegistration, AsksRelease, AsksTermination, Faults, Stuck, pushes, given}
use Rattle.scj_model.specs.Operations.{bound_local, bound_field, bound_static, bound_class, bound_method, bound_static_method, operator_of, assigned, argument_count, first_argument, is_port, super_count, with_field, with_run, with_area, are_one_area, Environment, effect_of, periodic_parameters, right_parameters, times_of, is_priority, index_in}
use Rattle.priority_laws.proofs.ReleaseMoves.{StandsAs}
use Rattle.priority_laws.proofs.Shapes.{Shaped, Scene, Formed, SparesPriority, is_put_element, formed_shape}
use Rattle.priority_laws.specs.Handlers.{BeginWithPriority}
use Rattle.priority_laws.proofs.HandlerSlots.{new_begins, array_begins, field_spares, begin_with, priority_abs}
use Rattle.priority_laws.proofs.EffectShapes.{calls_there, calls_on_none, shaped_given_is, shaped_if_is, here, shaped_branch, shaped_calls, shaped_ceiling, shaped_constructs, shaped_elements, shaped_fault, shaped_given, shaped_goes, shaped_if, shaped_int, shaped_leaves, shaped_locals, shaped_made, shaped_object, shaped_opens, shaped_pop, shaped_pop_all, shaped_prints, shaped_pushes, shaped_registration, shaped_release, shaped_stores, shaped_stores_static, shaped_stuck, shaped_termination}

not_false : (b : Bool) → not b ≡ false → b ≡ true
not_false true e = refl
not_false false e = absurd (cc (e))

module _ (m : Scene) where
  shaped_field : (r field : ℕ) (next : Object → ℕ → Effect) →
      ((o : Object) (slot : ℕ) → SparesPriority m.code m.world.object_at r slot → Formed m (next o slot)) →
      Formed m (with_field m.code m.world r field next)
  shaped_field r field next h =
      shaped_given_is m (m.world.object_at r) _
      (λ o there. shaped_given_is m (slot_of m.code.program o.class field) _
      (λ slot is. h o slot (field_spares m.code m.world.object_at r o field slot there is)))

  shaped_run : (r : ℕ) (next : Object → Body → Effect) →
      ((o : Object) (body : Body) → m.world.object_at r ≡ Some o →
      body_named m.code.program o.class (codes "run") ≡ Some body → Formed m (next o body)) →
      Formed m (with_run m.code m.world r next)
  shaped_run r next h =
      shaped_given_is m (m.world.object_at r) _
      (λ o there. shaped_given_is m (body_named m.code.program o.class (codes "run")) _
      (λ body is_run. h o body there is_run))

  shaped_cast : (class : ℕ) (g : Frame) → StandsAs m.frame g → (v : Value) →
      Formed m
      (elim v as (λ z. Effect) [
        | Null ↦ pushes g Null
        | At r ↦ given (m.world.object_at r)
            (λ o. if is_sub m.code.program.classes o.class class then pushes g (At r) else Faults ClassCast)
        | Int z ↦ Stuck
        | Truth b ↦ Stuck
      ])
  shaped_cast class g s Null = shaped_pushes m g s Null
  shaped_cast class g s (At r) =
      shaped_given m (m.world.object_at r) _
      (λ o. shaped_if m (is_sub m.code.program.classes o.class class) _ _ (shaped_pushes m g s (At r))
      (shaped_fault m ClassCast))
  shaped_cast class g s (Int z) = shaped_stuck m
  shaped_cast class g s (Truth b) = shaped_stuck m

  shaped_area : (v : Value) (next : Option ℕ → Effect) → ((a : Option ℕ) → Formed m (next a)) →
      Formed m (with_area m.world v next)
  shaped_area Null next h = h None
  shaped_area (At r) next h = shaped_given m (m.world.object_at r) _ (λ (o : Object). h (Some o.area))
  shaped_area (Int z) next h = shaped_stuck m
  shaped_area (Truth b) next h = shaped_stuck m

  shaped_hidden : (r : ℕ) (g : Frame) → StandsAs m.frame g → (vs : List Value) → BeginWithPriority vs →
      Formed m (SetsHidden g r vs)
  shaped_hidden r g s vs x = record { is = (s, x) }

  shaped_times : (r : ℕ) (g : Frame) → StandsAs m.frame g → (priority storage : ℤ) → is_priority priority ≡ true →
      (o : Option (ℕ × ℕ)) →
      Formed m
      (elim o as (λ z. Effect) [
        | None ↦ Faults BadPeriod
        | Some times ↦ if is_negative storage then Faults NegativeSize else SetsHidden g r
            (Int priority ∷ Int storage ∷ Int (pos times.0) ∷ Int (pos times.1) ∷ [])
      ])
  shaped_times r g s priority storage right None = shaped_fault m _
  shaped_times r g s priority storage right (Some times) =
      shaped_if m _ _ _ (shaped_fault m _) (shaped_hidden r g s _ (begin_with priority _ right))

  shaped_periodic : (r : ℕ) (g : Frame) → StandsAs m.frame g → (vs : List Value) → Formed m (periodic_parameters g r vs)
  shaped_periodic r g s (Int priority ∷ Int sms ∷ Int sns ∷ Int pms ∷ Int pns ∷ Int storage ∷ []) =
      shaped_if_is m (not (is_priority priority)) _ _ (λ e. shaped_fault m _)
      (λ e. shaped_times r g s priority storage (not_false (is_priority priority) e) (times_of sms sns pms pns))
  shaped_periodic r g s _ = shaped_stuck m

  shaped_right : (vs : List Value) (next : ℤ → ℤ → Effect) → ((a b : ℤ) → is_priority a ≡ true → Formed m (next a b)) →
      Formed m (right_parameters vs next)
  shaped_right (Int priority ∷ Int storage ∷ []) next h =
      shaped_if_is m (not (is_priority priority)) _ _ (λ e. shaped_fault m BadPriority)
      (λ e. shaped_if m (is_negative storage) _ _ (shaped_fault m NegativeSize)
      (h priority storage (not_false (is_priority priority) e)))
  shaped_right _ next h = shaped_stuck m

  pub shaped : (op : Op) → (is_put_element op ≡ true → m.elements ≡ true) →
      Formed m (effect_of m.code m.world m.frame op)
  unfolding effect_of
  shaped (PUSH id) e = shaped_given m (part m.code literal_value id) _ (λ value. shaped_pushes m m.frame (here m) value)
  shaped (THIS id) e = shaped_given m m.frame.this _ (λ r. shaped_pushes m m.frame (here m) (At r))
  shaped (LOAD id) e =
      shaped_given m (bound_local (binding m.code id)) _
      (λ k. shaped_given m (slice_get m.frame.locals k) _ (λ value. shaped_pushes m m.frame (here m) value))
  shaped (GET id) e =
      shaped_given m (bound_field (binding m.code id)) _
      (λ field. shaped_pop m m.frame (here m) _ (λ object g s. shaped_object m object _ (λ r.
      shaped_field r field _
      (λ o slot spares. shaped_given m (slice_get o.slots slot) _ (λ value. shaped_pushes m g s value)))))
  shaped (GETSTATIC id) e =
      shaped_given m (bound_static (binding m.code id)) _
      (λ field. shaped_given m (static_index m.code.program field) _ (λ place.
      shaped_given m (slice_get m.world.statics place) _ (λ value. shaped_pushes m m.frame (here m) value)))
  shaped (LENGTH id) e =
      shaped_pop m m.frame (here m) _
      (λ array g s. shaped_object m array _
      (λ r. shaped_given m (m.world.object_at r) _
      (λ (o : Object). shaped_pushes m g s (Int (pos (length o.slots))))))
  shaped (ELEM id) e =
      shaped_pop m m.frame (here m) _
      (λ index g s. shaped_pop m g s _ (λ array h t. shaped_object m array _ (λ r. shaped_int m index _ (λ i.
      shaped_given m (m.world.object_at r) _
      (λ (o : Object). shaped_elements m (index_in o.slots i) _ _ (shaped_fault m ArrayIndex)
      (λ k. shaped_given m (slice_get o.slots k) _ (λ value. shaped_pushes m h t value)))))))
  shaped (UNARY id) e =
      shaped_given m (part m.code operator_of id) _ (λ operator. shaped_pop m m.frame (here m) _ (λ operand g s.
      shaped_given m (unary_value operator operand) _ (λ value. shaped_pushes m g s value)))
  shaped (BIN id) e =
      shaped_given m (part m.code operator_of id) _
      (λ operator. shaped_pop m m.frame (here m) _ (λ right g s. shaped_pop m g s _ (λ left h t.
      shaped_if m (divides_by_zero operator right) _ _ (shaped_fault m DivideByZero)
      (shaped_given m (binary_value operator left right) _ (λ value. shaped_pushes m h t value)))))
  shaped (AND id) e =
      shaped_branch m (AND id) _
      (λ b g s. shaped_if m b _ _ (shaped_goes m g s) (shaped_pushes m g s (Truth false)))
  shaped (OR id) e =
      shaped_branch m (OR id) _ (λ b g s. shaped_if m b _ _ (shaped_pushes m g s (Truth true)) (shaped_goes m g s))
  shaped (ALLOC id) e =
      shaped_given m (bound_class (binding m.code id)) _
      (λ class. shaped_made m m.frame (here m) class _ (new_begins m.code class))
  shaped (CONSTRUCT id) e =
      shaped_given m (bound_class (binding m.code id)) _
      (λ class. shaped_given m (part m.code argument_count id) _ (λ count.
      shaped_constructs m id class count true))
  shaped (ALLOCARRAY id) e =
      shaped_given m (bound_class (binding m.code id)) _
      (λ class. shaped_given_is m (element_kind m.code.program class) _ (λ kind is_kind.
      shaped_pop m m.frame (here m) _ (λ count g s. shaped_int m count _ (λ n.
      shaped_if m (is_negative n) _ _ (shaped_fault m NegativeSize)
      (shaped_made m g s class (new_elements kind (unsigned_abs n)) (array_begins m.code class kind _ is_kind))))))
  shaped (CALL id) e =
      shaped_given m (bound_method (binding m.code id)) _
      (λ method. shaped_given m (part m.code argument_count id) _ (λ count.
      shaped_pop_all m count m.frame (here m) _
      (λ arguments g s. shaped_pop m g s _ (λ object h t. shaped_object m object _ (λ r.
      shaped_given_is m (m.world.object_at r) _
      (λ o there. shaped_given m (body_of m.code.program o.class method) _ (λ body.
      shaped_calls m h t body (Some id) (Some r) h.area arguments
      (calls_there m.code m.world.object_at body (Some id) h.area arguments r o there))))))))
  shaped (CALLSTATIC id) e =
      shaped_given m (bound_static_method (binding m.code id)) _
      (λ method. shaped_given m (part m.code argument_count id) _ (λ count.
      shaped_given m (body_of m.code.program method.0 method.1) _ (λ body.
      shaped_pop_all m count m.frame (here m) _
      (λ arguments g s. shaped_calls m g s body (Some id) None g.area arguments
      (calls_on_none m.code m.world.object_at body (Some id) g.area arguments)))))
  shaped (CAST id) e =
      shaped_given m (bound_class (binding m.code id)) _
      (λ class. shaped_pop m m.frame (here m) _ (λ operand g s. shaped_cast class g s operand))
  shaped (ENTER id) e =
      shaped_pop m m.frame (here m) _
      (λ runnable g s. shaped_pop m g s _
      (λ size h t. shaped_object m runnable _ (λ r. shaped_int m size _ (λ bytes.
      shaped_if m (is_negative bytes) _ _ (shaped_fault m NegativeSize)
      (shaped_run r _ (λ (o : Object) body found is_run.
      shaped_given m (defined_by_chain m.code.program o.class) _ (λ scope.
      shaped_opens m h t body (Some id) r h.area scope (unsigned_abs bytes) o found is_run)))))))
  shaped (EXECUTEIN id) e =
      shaped_pop m m.frame (here m) _
      (λ runnable g s. shaped_pop m g s _ (λ object h t. shaped_object m object _ (λ place.
      shaped_object m runnable _
      (λ r. shaped_given m (m.world.object_at place) _ (λ there. shaped_run r _ (λ o body found is_run.
      shaped_calls m h t body (Some id) (Some r) there.area []
      (calls_there m.code m.world.object_at body (Some id) there.area [] r o found)))))))
  shaped (SAME id) e =
      shaped_pop m m.frame (here m) _
      (λ second g s. shaped_pop m g s _ (λ first h t. shaped_area first _ (λ a. shaped_area second _ (λ b.
      shaped_pushes m h t (Truth (are_one_area a b))))))
  shaped (SETCEILING id) e =
      shaped_pop m m.frame (here m) _
      (λ ceiling g s. shaped_pop m g s _ (λ object h t. shaped_object m object _ (λ r. shaped_int m ceiling _ (λ c.
      shaped_if_is m (is_priority c) _ _ (λ right. shaped_ceiling m h t r (unsigned_abs c) (priority_abs c right))
      (λ wrong. shaped_fault m BadPriority)))))
  shaped (PRINT id) e =
      shaped_given m (part m.code first_argument id) _
      (λ label. shaped_pop m m.frame (here m) _ (λ value g s. shaped_int m value _ (λ z.
      shaped_prints m g s label z)))
  shaped (READ id) e =
      shaped_pop m m.frame (here m) _
      (λ port g s. shaped_int m port _
      (λ z. shaped_if m (is_port z) _ _ (shaped_pushes m g s (Int (m.world.reading (unsigned_abs z))))
      (shaped_fault m BadPort)))
  shaped (REGISTER id) e =
      shaped_pop m m.frame (here m) _ (λ handler g s. shaped_object m handler _ (λ r. shaped_registration m g s r))
  shaped (RELEASE id) e =
      shaped_pop m m.frame (here m) _ (λ handler g s. shaped_object m handler _ (λ r. shaped_release m g s r))
  shaped (TERMINATE id) e =
      shaped_pop m m.frame (here m) _ (λ mission g s. shaped_object m mission _ (λ r. shaped_termination m g s r))
  shaped (ZERO id) e =
      shaped_given m (bound_local (binding m.code id)) _
      (λ k. shaped_given m (variable_at m.code.program.nodes id) _ (λ d.
      shaped_locals m m.frame (here m) _))
  shaped (STORE id) e =
      shaped_given m (assigned m.code id >>= bound_local) _ (λ k. shaped_pop m m.frame (here m) _ (λ value g s.
      shaped_locals m g s (slice_set g.locals k value)))
  shaped (PUT id) e =
      shaped_given m (assigned m.code id >>= bound_field) _
      (λ field. shaped_pop m m.frame (here m) _ (λ value g s. shaped_pop m g s _ (λ object h t.
      shaped_object m object _
      (λ r. shaped_field r field _ (λ o slot spares. shaped_stores m h t r slot value (inr spares))))))
  shaped (PUTSTATIC id) e =
      shaped_given m (assigned m.code id >>= bound_static) _
      (λ field. shaped_given m (static_index m.code.program field) _ (λ place.
      shaped_pop m m.frame (here m) _ (λ value g s. shaped_stores_static m g s place value)))
  shaped (PUTELEM id) e =
      shaped_pop m m.frame (here m) _ (λ value g s. shaped_pop m g s _ (λ index h t. shaped_pop m h t _ (λ array k u.
      shaped_object m array _ (λ r. shaped_int m index _ (λ i. shaped_given m (m.world.object_at r) _ (λ (o : Object).
      shaped_elements m (index_in o.slots i) _ _ (shaped_fault m ArrayIndex)
      (λ n. shaped_stores m k u r n value (inl (e refl)))))))))
  shaped (IF id) e = shaped_branch m (IF id) _ (λ b g s. shaped_goes m g s)
  shaped (LOOP id) e = shaped_branch m (LOOP id) _ (λ b g s. shaped_goes m g s)
  shaped (LEAVEWITH id) e = shaped_pop m m.frame (here m) _ (λ value g s. shaped_leaves m g s (Some value))
  shaped LEAVE e = shaped_leaves m m.frame (here m) None
  shaped (DROP id) e = shaped_pop m m.frame (here m) _ (λ value g s. shaped_goes m g s)
  shaped (INIT id) e =
      shaped_given m (part m.code literal_written id >>= part m.code literal_value) _ (λ value.
      shaped_given m (bound_field (binding m.code id)) _ (λ field. shaped_given m m.frame.this _ (λ r.
      shaped_field r field _ (λ o slot spares. shaped_stores m m.frame (here m) r slot value (inr spares)))))
  shaped (SUPER id) e =
      shaped_given m (bound_class (binding m.code id)) _
      (λ superclass. shaped_constructs m id superclass (super_count m.code id) false)
  shaped (PARAMS id) e =
      shaped_given m (bound_class (binding m.code id)) _ (λ superclass. shaped_given m m.frame.this _ (λ r.
      shaped_if m (superclass == periodic_handler) _ _
      (shaped_pop_all m 6 m.frame (here m) _ (λ values g s. shaped_periodic r g s values))
      (shaped_if m (superclass == mission_sequencer) _ _
      (shaped_pop_all m 2 m.frame (here m) _
      (λ values g s. shaped_right values _ (λ priority storage right. shaped_goes m g s)))
      (shaped_pop_all m 2 m.frame (here m) _
      (λ values g s. shaped_right values _
      (λ priority storage right. shaped_hidden r g s (Int priority ∷ Int storage ∷ [])
      (begin_with priority _ right)))))))

-- the operation of a frame, which has the operations behind it left
abbrev pub scene_of : Code → Environment → Frame → List Op → Op → Scene
scene_of code world f rest op =
    record { code = code; world = world; elements = is_put_element op; frame = record f { rest = rest } }

pub formed_at : (code : Code) (world : Environment) (f : Frame) (rest : List Op) (op : Op) →
    Formed (scene_of code world f rest op) (effect_of code world (record f { rest = rest }) op)
formed_at code world f rest op = shaped (scene_of code world f rest op) op (λ e. e)

-- the operations that a frame has left are no part of where it stands
module _ (f : Frame) (rest : List Op) where
  stands_with : (h : Frame) → StandsAs (record f { rest = rest }) h → StandsAs f h
  stands_with h s = record { body = s.body; this = s.this; saved = s.saved; opened = s.opened }

  pub shaped_with : (e : Effect) → Shaped (record f { rest = rest }) e → Shaped f e
  shaped_with (Goes h) x = record { is = stands_with h x.is }
  shaped_with (Prints h label value) x = record { is = stands_with h x.is }
  shaped_with (Makes h class slots) x = record { is = stands_with h x.is }
  shaped_with (Stores h r slot value) x = record { is = stands_with h x.is }
  shaped_with (StoresStatic h index value) x = record { is = stands_with h x.is }
  shaped_with (SetsHidden h r values) x = record { is = stands_with h x.is }
  shaped_with (SetsCeiling h r ceiling) x = record { is = stands_with h x.is }
  shaped_with (Calls h g) x = record { is = (stands_with h x.is.0, x.is.1) }
  shaped_with (Opens h g scope bytes) x = record { is = (stands_with h x.is.0, x.is.1) }
  shaped_with (Leaves h value) x = record { is = stands_with h x.is }
  shaped_with (AsksRegistration h r) x = record { is = stands_with h x.is }
  shaped_with (AsksRelease h r) x = record { is = stands_with h x.is }
  shaped_with (AsksTermination h r) x = record { is = stands_with h x.is }
  shaped_with (Faults fault) x = record { is = tt }
  shaped_with Stuck x = record { is = tt }

pub shaped_at : (code : Code) (world : Environment) (f : Frame) (rest : List Op) (op : Op) →
    Shaped f (effect_of code world (record f { rest = rest }) op)
shaped_at code world f rest op =
    shaped_with f rest (effect_of code world (record f { rest = rest }) op)
    (formed_shape (scene_of code world f rest op) _ (formed_at code world f rest op))
