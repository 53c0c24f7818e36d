-- Calls, and the calls of the framework: the numbers of both frames have 32 bits where those before them have, and so has
-- what is printed.
use Rattle.std.proofs.Common.{ℕ, All, List, [], ◌∷◌, ℤ, pos, true, false, Option, ◌==◌}
use Rattle.std.specs.Prelude.{unsigned_abs, codes}
use Rattle.std.specs.Int.{is_negative}
use Rattle.std.proofs.lemmas.List.Elements.{All-cons, All-nil}
use Rattle.scj_base.specs.declared.faults.RunFault.TheVariants.{NegativeSize, BadPriority, BadPeriod, BadPort}
use Rattle.scj_base.specs.declared.values.Value.{Value}
use Rattle.scj_base.specs.declared.values.Value.TheVariants.{Int, Bool as Truth, Null, At}
use Rattle.scj_builtins.specs.Framework.{mission_sequencer, periodic_handler}
use Rattle.scj_rules.specs.Bodies.{body_named, body_of, constructor_body}
use Rattle.scj_rules.specs.ScopeRules.{defined_by_chain}
use Rattle.scj_model.specs.declared.operations.Op.{Op}
use Rattle.scj_model.specs.declared.operations.Op.TheVariants.{Construct as CONSTRUCT, Call as CALL, CallStatic as CALLSTATIC, Enter as ENTER, ExecuteIn as EXECUTEIN, Same as SAME, SetCeiling as SETCEILING, Print as PRINT, Read as READ, Register as REGISTER, Release as RELEASE, Terminate as TERMINATE, Super as SUPER, Params as PARAMS}
use Rattle.scj_model.specs.Code.{Code, binding, part}
use Rattle.scj_model.specs.State.{Frame}
use Rattle.scj_model.specs.Effects.{Effect, Goes, SetsHidden, SetsCeiling, Faults, pop_all}
use Rattle.scj_model.specs.Operations.{Environment, effect_of, constructs, with_area, are_one_area, periodic_parameters, right_parameters, is_priority, times_of, bound_class, bound_method, bound_static_method, argument_count, first_argument}
use Rattle.int_values.specs.Ints.{FitsInt, FrameFits}
use Rattle.int_values.proofs.Begins.{frame_begins}
use Rattle.int_values.proofs.Effects.{Asks}
use Rattle.int_values.proofs.Known.{Known}
use Rattle.int_values.proofs.SmallSteps.{any_choice, any_given, any_if, any_int, any_object, any_pop, any_pop_from, any_reference, faults, frame_fits, goes_with, stops}

module _ (code : Code) (world : Environment) (known : Known code world) (f : Frame) (fits : FrameFits f) where
  abbrev pub Does : Op → Type 0
  Does op = Asks (effect_of code world f op)

  empty : All FitsInt []
  empty = All-nil FitsInt

  -- ---- calls

  keeps_one : (id class count : ℕ) → Asks (constructs code f id class count true)
  keeps_one id class count =
      any_given (constructor_body code.program class) _ (λ body e.
      any_pop_from count f [] _ fits.operands empty (λ args rest ha hr.
      any_pop rest _ hr (λ v below hv hb.
      any_reference v _ (λ r. record {
        is = (frame_fits _ fits.locals hr, frame_begins code body _ _ _ args ha);
      }))))

  drops_one : (id class count : ℕ) → Asks (constructs code f id class count false)
  drops_one id class count =
      any_given (constructor_body code.program class) _ (λ body e.
      any_pop_from count f [] _ fits.operands empty (λ args rest ha hr.
      any_pop rest _ hr (λ v below hv hb.
      any_reference v _ (λ r. record {
        is = (frame_fits _ fits.locals hb, frame_begins code body _ _ _ args ha);
      }))))

  pub construct_fits : (id : ℕ) → Does (CONSTRUCT id)
  unfolding effect_of
  construct_fits id =
      any_given (bound_class (binding code id)) _
      (λ class e. any_given (part code argument_count id) _ (λ count g. keeps_one id class count))

  pub super_fits : (id : ℕ) → Does (SUPER id)
  unfolding effect_of
  super_fits id = any_given (bound_class (binding code id)) _ (λ class e. drops_one id class _)

  pub call_fits : (id : ℕ) → Does (CALL id)
  unfolding effect_of
  call_fits id =
      any_given (bound_method (binding code id)) _ (λ method e.
      any_given (part code argument_count id) _ (λ count g.
      any_pop_from count f [] _ fits.operands empty (λ args rest ha hr.
      any_pop rest _ hr (λ v below hv hb.
      any_object v _ (λ r k.
      any_given (world.object_at r) _ (λ o k.
      any_given (body_of code.program o.class method) _ (λ body k.
      record { is = (frame_fits _ fits.locals hb, frame_begins code body _ _ _ args ha) })))))))

  pub call_static_fits : (id : ℕ) → Does (CALLSTATIC id)
  unfolding effect_of
  call_static_fits id =
      any_given (bound_static_method (binding code id)) _ (λ method e.
      any_given (part code argument_count id) _ (λ count g.
      any_given (body_of code.program method.0 method.1) _ (λ body k.
      any_pop_from count f [] _ fits.operands empty (λ args rest ha hr.
      record { is = (frame_fits _ fits.locals hr, frame_begins code body _ _ _ args ha) }))))

  pub enter_fits : (id : ℕ) → Does (ENTER id)
  unfolding effect_of
  enter_fits id =
      any_pop f.operands _ fits.operands (λ v below hv hb.
      any_pop below _ hb (λ u lower hu hl.
      any_object v _ (λ r e.
      any_int u _ hu (λ bytes z.
      any_if _ _ _ (faults NegativeSize)
      (any_given (world.object_at r) _ (λ o e.
      any_given (body_named code.program o.class (codes "run")) _ (λ body e.
      any_given (defined_by_chain code.program o.class) _ (λ scope e.
      record { is = (frame_fits _ fits.locals hl, frame_begins code body _ _ _ [] empty) }))))))))

  pub execute_in_fits : (id : ℕ) → Does (EXECUTEIN id)
  unfolding effect_of
  execute_in_fits id =
      any_pop f.operands _ fits.operands (λ v below hv hb.
      any_pop below _ hb (λ u lower hu hl.
      any_object u _ (λ place e.
      any_object v _ (λ r e.
      any_given (world.object_at place) _ (λ there e.
      any_given (world.object_at r) _ (λ o e.
      any_given (body_named code.program o.class (codes "run")) _ (λ body e.
      record { is = (frame_fits _ fits.locals hl, frame_begins code body _ _ _ [] empty) })))))))

  -- ---- the other calls of the framework

  any_area : (v : Value) (next : Option ℕ → Effect) → ((a : Option ℕ) → Asks (next a)) → Asks (with_area world v next)
  any_area (Int z) next h = stops
  any_area (Truth b) next h = stops
  any_area Null next h = h _
  any_area (At r) next h = any_given (world.object_at r) _ (λ o e. h _)

  pub same_fits : (id : ℕ) → Does (SAME id)
  unfolding effect_of
  same_fits id =
      any_pop f.operands _ fits.operands (λ v below hv hb.
      any_pop below _ hb (λ u lower hu hl.
      any_area u _ (λ a.
      any_area v _ (λ b.
      goes_with _ fits.locals (All-cons FitsInt (Truth (are_one_area a b)) lower tt hl)))))

  pub set_ceiling_fits : (id : ℕ) → Does (SETCEILING id)
  unfolding effect_of
  set_ceiling_fits id =
      any_pop f.operands _ fits.operands (λ v below hv hb.
      any_pop below _ hb (λ u lower hu hl.
      any_object u _ (λ r e.
      any_int v _ hv (λ c z.
      any_if (is_priority c) (SetsCeiling (record f { operands = lower }) r (unsigned_abs c)) (Faults BadPriority)
      (record { is = frame_fits _ fits.locals hl }) (faults BadPriority)))))

  pub print_fits : (id : ℕ) → Does (PRINT id)
  unfolding effect_of
  print_fits id =
      any_given (part code first_argument id) _ (λ label e.
      any_pop f.operands _ fits.operands (λ v below hv hb.
      any_int v _ hv (λ z small. record { is = (frame_fits _ fits.locals hb, small) })))

  pub read_fits : (id : ℕ) → Does (READ id)
  unfolding effect_of
  read_fits id =
      any_pop f.operands _ fits.operands (λ v below hv hb.
      any_int v _ hv (λ z small.
      any_if _ _ _
      (goes_with _ fits.locals
      (All-cons FitsInt (Int (world.reading (unsigned_abs z))) below (known.reading (unsigned_abs z)) hb))
      (faults BadPort)))

  pub register_fits : (id : ℕ) → Does (REGISTER id)
  unfolding effect_of
  register_fits id =
      any_pop f.operands _ fits.operands (λ v below hv hb.
      any_object v _ (λ r e. record { is = frame_fits _ fits.locals hb }))

  pub release_fits : (id : ℕ) → Does (RELEASE id)
  unfolding effect_of
  release_fits id =
      any_pop f.operands _ fits.operands (λ v below hv hb.
      any_object v _ (λ r e. record { is = frame_fits _ fits.locals hb }))

  pub terminate_fits : (id : ℕ) → Does (TERMINATE id)
  unfolding effect_of
  terminate_fits id =
      any_pop f.operands _ fits.operands (λ v below hv hb.
      any_object v _ (λ r e. record { is = frame_fits _ fits.locals hb }))

  -- ---- parameters

  periodic_one : (below : List Value) → All FitsInt below → (r : ℕ) (values : List Value) →
      Asks (periodic_parameters (record f { operands = below }) r values)
  periodic_one below hb r (Int priority ∷ Int sms ∷ Int sns ∷ Int pms ∷ Int pns ∷ Int storage ∷ []) =
      any_if _ _ _ (faults BadPriority)
      (any_choice (times_of sms sns pms pns) _ _ (faults BadPeriod) (λ times.
      any_if (is_negative storage) (Faults NegativeSize)
      (SetsHidden (record f { operands = below }) r
      (Int priority ∷ Int storage ∷ Int (pos times.0) ∷ Int (pos times.1) ∷ [])) (faults NegativeSize)
      (record { is = frame_fits _ fits.locals hb })))
  periodic_one below hb r _ = stops

  right_one : (values : List Value) (next : ℤ → ℤ → Effect) → ((x y : ℤ) → Asks (next x y)) →
      Asks (right_parameters values next)
  right_one (Int priority ∷ Int storage ∷ []) next h =
      any_if _ _ _ (faults BadPriority) (any_if _ _ _ (faults NegativeSize) (h priority storage))
  right_one _ next h = stops

  periodic_all : (r : ℕ) → Asks (pop_all 6 f (λ values f. periodic_parameters f r values))
  periodic_all r =
      any_pop_from 6 f [] (λ values f. periodic_parameters f r values) fits.operands empty
      (λ args rest ha hr. periodic_one rest hr r args)

  sequencer_all : Asks (pop_all 2 f (λ values f. right_parameters values (λ priority storage. Goes f)))
  sequencer_all =
      any_pop_from 2 f [] (λ values f. right_parameters values (λ priority storage. Goes f)) fits.operands empty
      (λ args rest ha hr.
      right_one args (λ x y. Goes (record f { operands = rest }))
      (λ x y. goes_with (record f { operands = rest }) fits.locals hr))

  aperiodic_all : (r : ℕ) →
      Asks (pop_all 2 f (λ values f. right_parameters values (λ priority storage.
      SetsHidden f r (Int priority ∷ Int storage ∷ []))))
  aperiodic_all r =
      any_pop_from 2 f []
      (λ values f. right_parameters values (λ priority storage. SetsHidden f r (Int priority ∷ Int storage ∷ [])))
      fits.operands empty
      (λ args rest ha hr.
      right_one args (λ x y. SetsHidden (record f { operands = rest }) r (Int x ∷ Int y ∷ []))
      (λ x y. record { is = frame_fits _ fits.locals hr }))

  pub params_fit : (id : ℕ) → Does (PARAMS id)
  unfolding effect_of
  params_fit id =
      any_given (bound_class (binding code id)) _ (λ superclass e.
      any_given f.this _ (λ r e.
      any_if (superclass == periodic_handler) _ _ (periodic_all r)
      (any_if (superclass == mission_sequencer) _ _ sequencer_all (aperiodic_all r))))
