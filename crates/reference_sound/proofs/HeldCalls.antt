-- Calls, statements and parameters: what the locals of the frames refer to after them, the locals and the operands of
-- the frame referred to before them.
use Rattle.std.specs.Prelude.{Option, Some, None, ℤ, pos, unsigned_abs, codes, ◌==◌}
use Rattle.std.specs.Int.{is_negative}
use Rattle.std.proofs.Common.{ℕ, List, [], ◌∷◌, true, false}
use Rattle.std.proofs.lemmas.List.Elements.{All-nil, All-set, All-from_recursion}
use Rattle.scj_base.specs.declared.faults.RunFault.TheVariants.{NegativeSize, BadPriority, BadPeriod, BadPort}
use Rattle.scj_base.specs.declared.values.Value.{Value}
use Rattle.scj_base.specs.declared.values.Value.TheVariants.{Int, Bool as Truth, Null, At}
use Rattle.scj_builtins.specs.Framework.{mission_sequencer, periodic_handler}
use Rattle.scj_rules.specs.Layout.{kind_of_type}
use Rattle.scj_rules.specs.Bodies.{body_named, body_of, constructor_body}
use Rattle.scj_rules.specs.ScopeRules.{defined_by_chain}
use Rattle.scj_rules.specs.Views.{variable_at}
use Rattle.scj_rules.specs.Words.{◌>>=◌}
use Rattle.scj_model.specs.declared.operations.Op.{Op}
use Rattle.scj_model.specs.declared.operations.Op.TheVariants.{Construct as CONSTRUCT, Call as CALL, CallStatic as CALLSTATIC, Enter as ENTER, ExecuteIn as EXECUTEIN, Same as SAME, SetCeiling as SETCEILING, Print as PRINT, Read as READ, Register as REGISTER, Release as RELEASE, Terminate as TERMINATE, Zero as ZERO, Store as STORE, If as IF, Loop as LOOP, LeaveWith as LEAVEWITH, Leave as LEAVE, Drop as DROP, Super as SUPER, Params as PARAMS}
use Rattle.scj_model.specs.Code.{Code, binding, part}
use Rattle.scj_model.specs.Ops.{put_in_front}
use Rattle.scj_model.specs.State.{MemoryArea, Object, Frame}
use Rattle.scj_model.specs.Effects.{Effect, Goes, SetsHidden, SetsCeiling, Faults, pop_all}
use Rattle.scj_model.specs.Operations.{Environment, effect_of, with_area, constructs, periodic_parameters, right_parameters, is_priority, times_of, bound_local, bound_class, bound_method, bound_static_method, assigned, argument_count, first_argument}
use Rattle.frame_sound.specs.Places.{World}
use Rattle.reference_sound.specs.References.{IfReference, EachReference, NoReference}
use Rattle.reference_sound.proofs.Plain.{default_plain, arguments_first}
use Rattle.reference_sound.proofs.EffectSteps.{stops, faults, goes, any_given, any_choice, any_if, any_pop, any_pop_from, any_int, any_truth, any_reference, any_object}
use Rattle.reference_sound.specs.EffectsHold.{Holding}

module _ (code : Code) (areas : ℕ → Option MemoryArea) (world : Environment) (Q : ℕ → Type 0) (f : Frame)
    (locals : EachReference Q f.locals) (operands : EachReference Q f.operands) where
  abbrev w : World
  w = record { areas = areas; objects = world.object_at }

  abbrev pub Does : Op → Type 0
  Does op = Holding w Q (effect_of code world f op)

  empty : EachReference Q []
  empty = All-nil (IfReference Q)

  -- ---- calls

  keeps_one : (id class count : ℕ) → Holding w Q (constructs code f id class count true)
  keeps_one id class count =
      any_given w Q (constructor_body code.program class) _ (λ body e.
      any_pop_from w Q count f [] _ operands empty (λ args rest ha hr.
      any_pop w Q rest _ hr (λ v below hv hb.
      any_reference w Q v _ (λ r. record { is = (locals, arguments_first Q code body _ _ _ args ha) }))))

  drops_one : (id class count : ℕ) → Holding w Q (constructs code f id class count false)
  drops_one id class count =
      any_given w Q (constructor_body code.program class) _ (λ body e.
      any_pop_from w Q count f [] _ operands empty (λ args rest ha hr.
      any_pop w Q rest _ hr (λ v below hv hb.
      any_reference w Q v _ (λ r. record { is = (locals, arguments_first Q code body _ _ _ args ha) }))))

  pub construct_holds : (id : ℕ) → Does (CONSTRUCT id)
  unfolding effect_of
  construct_holds id =
      any_given w Q (bound_class (binding code id)) _
      (λ class e. any_given w Q (part code argument_count id) _ (λ count e. keeps_one id class count))

  pub super_holds : (id : ℕ) → Does (SUPER id)
  unfolding effect_of
  super_holds id = any_given w Q (bound_class (binding code id)) _ (λ class e. drops_one id class _)

  pub call_holds : (id : ℕ) → Does (CALL id)
  unfolding effect_of
  call_holds id =
      any_given w Q (bound_method (binding code id)) _ (λ method e.
      any_given w Q (part code argument_count id) _ (λ count e.
      any_pop_from w Q count f [] _ operands empty (λ args rest ha hr.
      any_pop w Q rest _ hr (λ v below hv hb.
      any_object w Q v _ (λ r e.
      any_given w Q (world.object_at r) _ (λ o e.
      any_given w Q (body_of code.program o.class method) _
      (λ body e. record { is = (locals, arguments_first Q code body _ _ _ args ha) })))))))

  pub call_static_holds : (id : ℕ) → Does (CALLSTATIC id)
  unfolding effect_of
  call_static_holds id =
      any_given w Q (bound_static_method (binding code id)) _ (λ method e.
      any_given w Q (part code argument_count id) _ (λ count e.
      any_given w Q (body_of code.program method.0 method.1) _ (λ body e.
      any_pop_from w Q count f [] _ operands empty (λ args rest ha hr.
      record { is = (locals, arguments_first Q code body _ _ _ args ha) }))))

  pub enter_holds : (id : ℕ) → Does (ENTER id)
  unfolding effect_of
  enter_holds id =
      any_pop w Q f.operands _ operands (λ v below hv hb.
      any_pop w Q below _ hb (λ u lower hu hl.
      any_object w Q v _ (λ r e.
      any_int w Q u _ (λ bytes.
      any_if w Q _ _ _ (faults w Q NegativeSize)
      (any_given w Q (world.object_at r) _ (λ o e.
      any_given w Q (body_named code.program o.class (codes "run")) _ (λ body e.
      any_given w Q (defined_by_chain code.program o.class) _
      (λ scope e. record { is = (locals, arguments_first Q code body _ _ _ [] empty) }))))))))

  pub execute_in_holds : (id : ℕ) → Does (EXECUTEIN id)
  unfolding effect_of
  execute_in_holds id =
      any_pop w Q f.operands _ operands (λ v below hv hb.
      any_pop w Q below _ hb (λ u lower hu hl.
      any_object w Q u _ (λ place e.
      any_object w Q v _ (λ r e.
      any_given w Q (world.object_at place) _ (λ there e.
      any_given w Q (world.object_at r) _ (λ o e.
      any_given w Q (body_named code.program o.class (codes "run")) _
      (λ body e. record { is = (locals, arguments_first Q code body _ _ _ [] empty) })))))))

  -- ---- the other calls of the framework

  any_area : (v : Value) (next : Option ℕ → Effect) → ((a : Option ℕ) → Holding w Q (next a)) →
      Holding w Q (with_area world v next)
  any_area Null next h = h None
  any_area (At r) next h = any_given w Q (world.object_at r) _ (λ (o : Object) e. h (Some o.area))
  any_area (Int z) next h = stops w Q
  any_area (Truth b) next h = stops w Q

  pub same_holds : (id : ℕ) → Does (SAME id)
  unfolding effect_of
  same_holds id =
      any_pop w Q f.operands _ operands (λ v below hv hb.
      any_pop w Q below _ hb (λ u lower hu hl. any_area u _ (λ a. any_area v _ (λ b. goes w Q _ locals))))

  pub set_ceiling_holds : (id : ℕ) → Does (SETCEILING id)
  unfolding effect_of
  set_ceiling_holds id =
      any_pop w Q f.operands _ operands (λ v below hv hb.
      any_pop w Q below _ hb (λ u lower hu hl.
      any_object w Q u _ (λ r e.
      any_int w Q v _ (λ c. any_if w Q (is_priority c) (SetsCeiling (record f { operands = lower }) r (unsigned_abs c))
      (Faults BadPriority)
      (record { is = locals }) (faults w Q BadPriority)))))

  pub print_holds : (id : ℕ) → Does (PRINT id)
  unfolding effect_of
  print_holds id =
      any_given w Q (part code first_argument id) _ (λ label e.
      any_pop w Q f.operands _ operands (λ v below hv hb. any_int w Q v _ (λ z. record { is = locals })))

  pub read_holds : (id : ℕ) → Does (READ id)
  unfolding effect_of
  read_holds id =
      any_pop w Q f.operands _ operands (λ v below hv hb.
      any_int w Q v _ (λ z. any_if w Q _ _ _ (goes w Q _ locals) (faults w Q BadPort)))

  pub register_holds : (id : ℕ) → Does (REGISTER id)
  unfolding effect_of
  register_holds id =
      any_pop w Q f.operands _ operands (λ v below hv hb. any_object w Q v _ (λ r e. record { is = locals }))

  pub release_holds : (id : ℕ) → Does (RELEASE id)
  unfolding effect_of
  release_holds id =
      any_pop w Q f.operands _ operands (λ v below hv hb. any_object w Q v _ (λ r e. record { is = locals }))

  pub terminate_holds : (id : ℕ) → Does (TERMINATE id)
  unfolding effect_of
  terminate_holds id =
      any_pop w Q f.operands _ operands (λ v below hv hb. any_object w Q v _ (λ r e. record { is = locals }))

  -- ---- statements

  pub zero_holds : (id : ℕ) → Does (ZERO id)
  unfolding effect_of
  zero_holds id =
      any_given w Q (bound_local (binding code id)) _ (λ k e.
      any_given w Q (variable_at code.program.nodes id) _ (λ d e.
      goes w Q _ (All-set (IfReference Q) f.locals k _ (default_plain Q (kind_of_type d.declared_type)) locals)))

  pub store_holds : (id : ℕ) → Does (STORE id)
  unfolding effect_of
  store_holds id =
      any_given w Q (assigned code id >>= bound_local) _ (λ k e.
      any_pop w Q f.operands _ operands (λ v below hv hb.
      goes w Q _ (All-set (IfReference Q) f.locals k v hv locals)))

  pub if_holds : (id : ℕ) → Does (IF id)
  unfolding effect_of
  if_holds id =
      any_pop w Q f.operands _ operands (λ v below hv hb.
      any_truth w Q v _ (λ b. any_given w Q (put_in_front code (IF id) b) _ (λ ops e. goes w Q _ locals)))

  pub loop_holds : (id : ℕ) → Does (LOOP id)
  unfolding effect_of
  loop_holds id =
      any_pop w Q f.operands _ operands (λ v below hv hb.
      any_truth w Q v _ (λ b. any_given w Q (put_in_front code (LOOP id) b) _ (λ ops e. goes w Q _ locals)))

  pub drop_holds : (id : ℕ) → Does (DROP id)
  unfolding effect_of
  drop_holds id = any_pop w Q f.operands _ operands (λ v below hv hb. goes w Q _ locals)

  pub leave_with_holds : (id : ℕ) → Does (LEAVEWITH id)
  unfolding effect_of
  leave_with_holds id = any_pop w Q f.operands _ operands (λ v below hv hb. record { is = tt })

  pub leave_holds : Does LEAVE
  unfolding effect_of
  leave_holds = record { is = tt }

  -- ---- parameters

  two_ints : (x y : ℤ) → NoReference (Int x ∷ Int y ∷ [])
  two_ints x y = All-from_recursion (IfReference (λ r. ⊥)) (Int x ∷ Int y ∷ []) (tt, (tt, tt))

  four_ints : (x y z t : ℤ) → NoReference (Int x ∷ Int y ∷ Int z ∷ Int t ∷ [])
  four_ints x y z t =
      All-from_recursion (IfReference (λ r. ⊥)) (Int x ∷ Int y ∷ Int z ∷ Int t ∷ []) (tt, (tt, (tt, (tt, tt))))

  periodic_one : (below : List Value) (r : ℕ) (values : List Value) →
      Holding w Q (periodic_parameters (record f { operands = below }) r values)
  periodic_one below r (Int priority ∷ Int sms ∷ Int sns ∷ Int pms ∷ Int pns ∷ Int storage ∷ []) =
      any_if w Q _ _ _ (faults w Q BadPriority)
      (any_choice w Q (times_of sms sns pms pns) _ _ (faults w Q BadPeriod) (λ times.
      any_if w Q (is_negative storage) (Faults NegativeSize)
      (SetsHidden (record f { operands = below }) r
      (Int priority ∷ Int storage ∷ Int (pos times.0) ∷ Int (pos times.1) ∷ [])) (faults w Q NegativeSize)
      (record { is = (locals, four_ints priority storage (pos times.0) (pos times.1)) })))
  periodic_one below r _ = stops w Q

  right_one : (values : List Value) (next : ℤ → ℤ → Effect) → ((x y : ℤ) → Holding w Q (next x y)) →
      Holding w Q (right_parameters values next)
  right_one (Int priority ∷ Int storage ∷ []) next h =
      any_if w Q _ _ _ (faults w Q BadPriority) (any_if w Q _ _ _ (faults w Q NegativeSize) (h priority storage))
  right_one _ next h = stops w Q

  periodic_all : (r : ℕ) → Holding w Q (pop_all 6 f (λ values f. periodic_parameters f r values))
  periodic_all r =
      any_pop_from w Q 6 f [] (λ values f. periodic_parameters f r values) operands empty
      (λ args rest ha hr. periodic_one rest r args)

  sequencer_all : Holding w Q (pop_all 2 f (λ values f. right_parameters values (λ priority storage. Goes f)))
  sequencer_all =
      any_pop_from w Q 2 f [] (λ values f. right_parameters values (λ priority storage. Goes f)) operands empty
      (λ args rest ha hr.
      right_one args (λ x y. Goes (record f { operands = rest }))
      (λ x y. goes w Q (record f { operands = rest }) locals))

  aperiodic_all : (r : ℕ) →
      Holding w Q (pop_all 2 f (λ values f. right_parameters values (λ priority storage.
      SetsHidden f r (Int priority ∷ Int storage ∷ []))))
  aperiodic_all r =
      any_pop_from w Q 2 f []
      (λ values f. right_parameters values (λ priority storage. SetsHidden f r (Int priority ∷ Int storage ∷ [])))
      operands empty
      (λ args rest ha hr.
      right_one args (λ x y. SetsHidden (record f { operands = rest }) r (Int x ∷ Int y ∷ []))
      (λ x y. record { is = (locals, two_ints x y) }))

  pub params_holds : (id : ℕ) → Does (PARAMS id)
  unfolding effect_of
  params_holds id =
      any_given w Q (bound_class (binding code id)) _ (λ superclass e.
      any_given w Q f.this _ (λ r e.
      any_if w Q (superclass == periodic_handler) _ _ (periodic_all r)
      (any_if w Q (superclass == mission_sequencer) _ _ sequencer_all (aperiodic_all r))))
