-- Calls take their arguments, and leave an operand where they give a value.
use Rattle.std.specs.Prelude.{Option, Some, None, slice_get, unsigned_abs, codes}
use Rattle.std.specs.Int.{is_negative}
use Rattle.std.proofs.Common.{◌≡◌, ℕ, ◌+◌, List, [], ◌∷◌, Bool, false, ap, ◌∙◌, subst, arith}
use Rattle.scj_base.specs.declared.faults.RunFault.{RunFault}
use Rattle.scj_base.specs.declared.faults.RunFault.TheVariants.{NegativeSize}
use Rattle.scj_base.specs.declared.values.Value.{Value}
use Rattle.scj_rules.specs.declared.views.Body.{Body}
use Rattle.scj_rules.specs.ScopeRules.{defined_by_chain}
use Rattle.scj_rules.specs.Bodies.{body_named, body_of, constructor_body}
use Rattle.scj_model.specs.declared.operations.Op.{Op}
use Rattle.scj_model.specs.declared.operations.Op.TheVariants.{Construct as CONSTRUCT, Call as CALL, CallStatic as CALLSTATIC, Enter as ENTER, ExecuteIn as EXECUTEIN, Super as SUPER}
use Rattle.scj_model.specs.Code.{Code, binding, part}
use Rattle.scj_model.specs.State.{Object, Frame}
use Rattle.scj_model.specs.Ops.{leaves_value}
use Rattle.scj_model.specs.Effects.{Effect, Faults, Stuck}
use Rattle.scj_model.specs.Operations.{Environment, effect_of, bound_class, bound_method, bound_static_method, argument_count, super_count, with_run}
use Rattle.priority_laws.proofs.OperationCases.{on_given, on_if, on_int, on_reference, on_object}
use Rattle.certain_faults.proofs.Frames.{GivesAsBound}
use Rattle.frame_sizes.proofs.Counts.{fewer, dropped, with_result, Fits}
use Rattle.frame_sizes.proofs.Frames.{BodiesFit, GivesNothing, Fine as FineOf, stuck as stuck_of, faults as faults_of}
use Rattle.frame_sizes.proofs.Steps.{Stands, on_popped, on_pop, StoodBehind, on_popped_from, on_pop_all, on_object_at, calls, opens}

module _ (code : Code) (G : Body → Bool → Type 0) (static : BodiesFit code) (rest : List Op) (world : Environment)
    (f : Frame) (d : ℕ) (x : Stands code G static rest d f) where
  abbrev Fine : Effect → Type 0
  Fine e = FineOf code G e

  stuck : Fine Stuck
  stuck = stuck_of code G

  faults : (x : RunFault) → Fine (Faults x)
  faults x = faults_of code G x

  pub on_run : (r : ℕ) (next : Object → Body → Effect) →
      ((o : Object) (body : Body) → world.object_at r ≡ Some o →
      body_named code.program o.class (codes "run") ≡ Some body → Fine (next o body)) →
      Fine (with_run code world r next)
  on_run r next h =
      on_given Fine stuck faults (world.object_at r) _
      (λ o e. on_given Fine stuck faults (body_named code.program o.class (codes "run")) _
      (λ body k. h o body e k))

  -- the arguments of a call are as many as are written
  pub counted : (id count : ℕ) → part code argument_count id ≡ Some count → super_count code id ≡ count
  counted id count e = ap (λ (o : Option ℕ). elim o as (λ z. ℕ) [ None ↦ 0 | Some n ↦ n ]) e

  pub popped : (count : ℕ) (g : Frame) (object : Value) (k : Frame) → StoodBehind code G static rest count f g →
      g.operands ≡ object ∷ k.operands → slice_get f.operands count ≡ Some object
  popped count g object k b h =
      ap (slice_get f.operands) (let same : count ≡ count + 0 = omega arith in same)
      ∙ b 0 ∙ ap (λ (us : List Value). slice_get us 0) h

  pub construct_fine : (id : ℕ) → Fits code rest (dropped (super_count code id) d) →
      GivesAsBound code G world f (CONSTRUCT id) → Fine (effect_of code world f (CONSTRUCT id))
  unfolding effect_of
  construct_fine id p c =
      on_given Fine stuck faults (bound_class (binding code id)) _ (λ class e.
      on_given Fine stuck faults (part code argument_count id) _ (λ count h.
      on_given Fine stuck faults (constructor_body code.program class) _ (λ body k.
      on_pop_all code G static rest count d f _ x (λ arguments g y.
      on_pop code G static rest (dropped count d) g _ y (λ object l z.
      on_reference Fine stuck faults object _ (λ r.
      calls code G static rest false (dropped count d) g body (Some id) (Some r) g.area arguments (c class body e k) y
      (subst (λ n. Fits code rest (dropped n d)) (counted id count h) p)))))))

  pub call_fine : (id : ℕ) →
      Fits code rest (with_result (leaves_value (binding code id)) (fewer (dropped (super_count code id) d))) →
      GivesAsBound code G world f (CALL id) → Fine (effect_of code world f (CALL id))
  unfolding effect_of
  call_fine id p c =
      on_given Fine stuck faults (bound_method (binding code id)) _ (λ method e.
      on_given Fine stuck faults (part code argument_count id) _ (λ count i.
      on_popped_from code G static rest count d f [] _ x (λ arguments g b y.
      on_popped code G static rest (dropped count d) g _ y (λ object k h z.
      on_object_at code G static rest object _ (λ r at.
      on_given Fine stuck faults (world.object_at r) _ (λ o there.
      on_given Fine stuck faults (body_of code.program o.class method) _ (λ body u.
      calls code G static rest (leaves_value (binding code id)) (fewer (dropped count d)) k body (Some id) (Some r) k.area arguments
      (c method count r o body e i (popped count g object k b h ∙ ap (λ (v : Value). Some v) at) there u) z
      (subst (λ n. Fits code rest (with_result (leaves_value (binding code id)) (fewer (dropped n d))))
      (counted id count i) p))))))))

  pub call_static_fine : (id : ℕ) →
      Fits code rest (with_result (leaves_value (binding code id)) (dropped (super_count code id) d)) →
      GivesAsBound code G world f (CALLSTATIC id) → Fine (effect_of code world f (CALLSTATIC id))
  unfolding effect_of
  call_static_fine id p c =
      on_given Fine stuck faults (bound_static_method (binding code id)) _ (λ method e.
      on_given Fine stuck faults (part code argument_count id) _ (λ count i.
      on_given Fine stuck faults (body_of code.program method.0 method.1) _ (λ body u.
      on_pop_all code G static rest count d f _ x (λ arguments g y.
      calls code G static rest (leaves_value (binding code id)) (dropped count d) g body (Some id) None g.area arguments
      (c method body e u) y
      (subst (λ n. Fits code rest (with_result (leaves_value (binding code id)) (dropped n d)))
      (counted id count i) p)))))

  pub super_fine : (id : ℕ) → Fits code rest (fewer (dropped (super_count code id) d)) →
      GivesNothing code G world f (SUPER id) → Fine (effect_of code world f (SUPER id))
  unfolding effect_of
  super_fine id p c =
      on_given Fine stuck faults (bound_class (binding code id)) _ (λ superclass e.
      on_given Fine stuck faults (constructor_body code.program superclass) _ (λ body h.
      on_pop_all code G static rest (super_count code id) d f _ x (λ arguments g y.
      on_pop code G static rest (dropped (super_count code id) d) g _ y (λ object k z.
      on_reference Fine stuck faults object _ (λ r.
      calls code G static rest false (fewer (dropped (super_count code id) d)) k body (Some id) (Some r) g.area arguments
      (c superclass body e h) z p)))))

  pub enter_fine : (id : ℕ) → Fits code rest (fewer (fewer d)) → GivesNothing code G world f (ENTER id) →
      Fine (effect_of code world f (ENTER id))
  unfolding effect_of
  enter_fine id p c =
      on_popped code G static rest d f _ x (λ runnable k h y. on_pop code G static rest (fewer d) k _ y (λ size l z.
      on_object_at code G static rest runnable _ (λ r at. on_int Fine stuck faults size _ (λ bytes.
      on_if Fine stuck faults (is_negative bytes) _ _ (λ t. faults NegativeSize) (λ t.
      on_run r _ (λ o body there u.
      on_given Fine stuck faults (defined_by_chain code.program o.class) _ (λ scope e.
      opens code G static rest (fewer (fewer d)) l body (Some id) (Some r) l.area scope (unsigned_abs bytes)
      (c r o body (ap (λ (vs : List Value). slice_get vs 0) h ∙ ap (λ (v : Value). Some v) at) there u) z p)))))))

  pub execute_fine : (id : ℕ) → Fits code rest (fewer (fewer d)) → GivesNothing code G world f (EXECUTEIN id) →
      Fine (effect_of code world f (EXECUTEIN id))
  unfolding effect_of
  execute_fine id p c =
      on_popped code G static rest d f _ x (λ runnable k h y. on_pop code G static rest (fewer d) k _ y (λ object l z.
      on_object Fine stuck faults object _ (λ place. on_object_at code G static rest runnable _ (λ r at.
      on_given Fine stuck faults (world.object_at place) _ (λ area_of e.
      on_run r _ (λ o body there u.
      calls code G static rest false (fewer (fewer d)) l body (Some id) (Some r) area_of.area []
      (c r o body (ap (λ (vs : List Value). slice_get vs 0) h ∙ ap (λ (v : Value). Some v) at) there u) z p))))))
