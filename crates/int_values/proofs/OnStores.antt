-- Assignments and statements: what is stored has 32 bits where the operands have.
use Rattle.std.proofs.Common.{ℕ}
use Rattle.std.proofs.lemmas.List.Elements.{All-set}
use Rattle.scj_base.specs.declared.faults.RunFault.TheVariants.{ArrayIndex}
use Rattle.scj_rules.specs.Layout.{kind_of_type, slot_of, static_index}
use Rattle.scj_rules.specs.Views.{variable_at}
use Rattle.scj_rules.specs.Words.{◌>>=◌}
use Rattle.scj_model.specs.declared.operations.Op.{Op}
use Rattle.scj_model.specs.declared.operations.Op.TheVariants.{Zero as ZERO, Store as STORE, Put as PUT, PutStatic as PUTSTATIC, PutElem as PUTELEM, If as IF, Loop as LOOP, LeaveWith as LEAVEWITH, Leave as LEAVE, Drop as DROP}
use Rattle.scj_model.specs.Code.{Code, binding}
use Rattle.scj_model.specs.Ops.{put_in_front}
use Rattle.scj_model.specs.State.{Frame}
use Rattle.scj_model.specs.Operations.{Environment, effect_of, index_in, bound_local, bound_field, bound_static, assigned}
use Rattle.int_values.specs.Ints.{FitsInt, FrameFits}
use Rattle.int_values.proofs.Begins.{default_fits}
use Rattle.int_values.proofs.Effects.{Asks}
use Rattle.int_values.proofs.SmallSteps.{any_choice, any_given, any_int, any_object, any_pop, any_truth, faults, frame_fits, goes_with}

module _ (code : Code) (world : Environment) (f : Frame) (fits : FrameFits f) where
  abbrev pub Does : Op → Type 0
  Does op = Asks (effect_of code world f op)

  -- ---- assignments

  pub zero_fits : (id : ℕ) → Does (ZERO id)
  unfolding effect_of
  zero_fits id =
      any_given (bound_local (binding code id)) _ (λ k e.
      any_given (variable_at code.program.nodes id) _ (λ d g.
      goes_with _ (All-set FitsInt f.locals k _ (default_fits (kind_of_type d.declared_type)) fits.locals) fits.operands))

  pub store_fits : (id : ℕ) → Does (STORE id)
  unfolding effect_of
  store_fits id =
      any_given (assigned code id >>= bound_local) _ (λ k e.
      any_pop f.operands _ fits.operands (λ v below hv hb. goes_with _ (All-set FitsInt f.locals k v hv fits.locals) hb))

  pub put_fits : (id : ℕ) → Does (PUT id)
  unfolding effect_of
  put_fits id =
      any_given (assigned code id >>= bound_field) _ (λ field e.
      any_pop f.operands _ fits.operands (λ v below hv hb.
      any_pop below _ hb (λ u lower hu hl.
      any_object u _ (λ r g.
      any_given (world.object_at r) _ (λ o found.
      any_given (slot_of code.program o.class field) _ (λ slot at.
      record { is = (frame_fits _ fits.locals hl, hv) }))))))

  pub put_static_fits : (id : ℕ) → Does (PUTSTATIC id)
  unfolding effect_of
  put_static_fits id =
      any_given (assigned code id >>= bound_static) _ (λ field e.
      any_given (static_index code.program field) _ (λ place g.
      any_pop f.operands _ fits.operands (λ v below hv hb. record { is = (frame_fits _ fits.locals hb, hv) })))

  pub put_elem_fits : (id : ℕ) → Does (PUTELEM id)
  unfolding effect_of
  put_elem_fits id =
      any_pop f.operands _ fits.operands (λ v below hv hb.
      any_pop below _ hb (λ u lower hu hl.
      any_pop lower _ hl (λ t lowest ht hw.
      any_object t _ (λ r e.
      any_int u _ hu (λ i z.
      any_given (world.object_at r) _ (λ o found.
      any_choice (index_in o.slots i) _ _ (faults ArrayIndex) (λ n.
      record { is = (frame_fits _ fits.locals hw, hv) })))))))

  -- ---- statements

  pub if_fits : (id : ℕ) → Does (IF id)
  unfolding effect_of
  if_fits id =
      any_pop f.operands _ fits.operands (λ v below hv hb.
      any_truth v _ (λ b. any_given (put_in_front code (IF id) b) _ (λ ops e. goes_with _ fits.locals hb)))

  pub loop_fits : (id : ℕ) → Does (LOOP id)
  unfolding effect_of
  loop_fits id =
      any_pop f.operands _ fits.operands (λ v below hv hb.
      any_truth v _ (λ b. any_given (put_in_front code (LOOP id) b) _ (λ ops e. goes_with _ fits.locals hb)))

  pub drop_fits : (id : ℕ) → Does (DROP id)
  unfolding effect_of
  drop_fits id = any_pop f.operands _ fits.operands (λ v below hv hb. goes_with _ fits.locals hb)

  pub leave_with_fits : (id : ℕ) → Does (LEAVEWITH id)
  unfolding effect_of
  leave_with_fits id = any_pop f.operands _ fits.operands (λ v below hv hb. record { is = hv })

  pub leave_fits : Does LEAVE
  unfolding effect_of
  leave_fits = record { is = tt }
