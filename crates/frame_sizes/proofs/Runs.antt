-- In each state that a run of an accepted program comes to, all frames have as many operands as their operations leave room for.
use Rattle.std.specs.Prelude.{Option, Some, None, is_some, slice_get}
use Rattle.std.proofs.Common.{◌≡◌, ◌≤◌, ℕ, zero, suc, arith, List, [], ◌∷◌, Bool, true, false, refl, ◌∙◌, ap, subst, if◌then◌else◌}
use Rattle.scj_base.specs.declared.values.Value.{Value}
use Rattle.scj_rules.specs.declared.typing.Scope.{Scope}
use Rattle.scj_rules.specs.declared.views.Body.{Body}
use Rattle.scj_rules.specs.Words.{◌>>=◌}
use Rattle.accepted_laws.specs.Kinds.{Kind}
use Rattle.scj_model.specs.declared.operations.Op.{Op}
use Rattle.scj_model.specs.declared.plans.ReadingRow.{ReadingRow}
use Rattle.scj_model.specs.Code.{Code}
use Rattle.scj_model.specs.Plan.{Plan}
use Rattle.scj_model.specs.State.{Frame, Activity, Waits as Waiting, Started, Ended, Dropped, ReleaseStatus, Release, Job, TheSequencer, ReleaseAt, State, activity_in, activity_of, is_exec, Turn, IdleTurn, TurnOf}
use Rattle.scj_model.specs.Steps.{Step, silently, then_try}
use Rattle.scj_model.specs.Effects.{Effect, Goes, Prints, Makes, Stores, StoresStatic, SetsHidden, SetsCeiling, Calls, Opens, Leaves, AsksRegistration, AsksRelease, AsksTermination, Faults, Stuck, new_frame}
use Rattle.scj_model.specs.Apply.{applied}
use Rattle.scj_model.specs.Sequencer.{sequencer_op}
use Rattle.scj_model.specs.Choice.{Policy, by_list}
use Rattle.scj_model.specs.Run.{environment, position_of_op, effect_at, frame_op, start_op, release_op_of, ref_op, sequencer_turn, with_turn, turn_taken, turn_acts, acts, next_unit}
use Rattle.scj_model.specs.Reached.{Moment, Between, Arrived, Operated, Reached, at_first, on_arrival, on_operation, on_phase}
use Rattle.scj_model.proofs.Reaching.{reached_keeps}
use Rattle.scope_flow.specs.Facts.{Facts}
use Rattle.scope_flow.specs.Signatures.{Signature, Runs}
use Rattle.frame_sound.specs.Places.{World, Place, world_of, denote}
use Rattle.frame_sound.specs.Fine.{Ready, FramesFine, list_of, MemoryFine, JobFine}
use Rattle.frame_sound.specs.EffectsFine.{Fine as EffectIsFine, ReturnFine}
use Rattle.frame_sound.proofs.NextOperation.{next_fine}
use Rattle.mission_sound.specs.Bases.{areas_of}
use Rattle.mission_sound.specs.Invariant.{Invariant}
use Rattle.mission_sound.proofs.Phases.{time_passes}
use Rattle.reference_sound.proofs.Passes.{highest_ready}
use Rattle.scope_sound.specs.Sound.{HasFacts, SoundAt}
use Rattle.scope_sound.proofs.InAnyOrder.{reached_is_sound}
use Rattle.scope_sound.proofs.Operated.{operated}
use Rattle.certain_faults.proofs.GivenAsBound.{GivesSo, given_as_bound}
use Rattle.certain_faults.proofs.Jobs.{Jobs, jobs_still, Lead, leads, none_leads, any_leads, reported_leads}
use Rattle.certain_faults.proofs.Phases.{sequencer_jobs, start_jobs, phase_jobs, arrival_jobs, first_jobs}
use Rattle.frame_sizes.proofs.Counts.{fewer, Fits}
use Rattle.frame_sizes.proofs.Frames.{Counted, BodiesFit, new_explained}
use Rattle.frame_sizes.proofs.Operations.{operation_fine}
use Rattle.frame_sizes.proofs.GivenNothing.{given_nothing}
use Rattle.frame_sizes.proofs.Kept.{Frames, KeepsBody, effect_kept}

-- ---- counts

one_or_more : (d : ℕ) → d ≤ 640 → suc (fewer d) ≤ 640
one_or_more zero l = omega arith
one_or_more (suc d) l = l

-- ---- one operation

module _ (code : Code) where
  abbrev pub All : List Frame → Type 0
  All = Frames code (GivesSo code)

  -- a value is given exactly where the signature has one
  returned_so : (w : World) (den : Scope → Place) (gives : Option Kind) (value : Option Value) →
      ReturnFine code.program w den gives value → is_some value ≡ is_some gives
  returned_so w den None None h = refl
  returned_so w den (Some k) (Some v) h = refl
  returned_so w den None (Some v) h = absurd h
  returned_so w den (Some k) None h = absurd h

  module _ (w : World) (list : List ℕ) (f : Frame) (rest : List Op) (c : ℕ) (sig : Signature)
      (runs : Runs code.program f.body c sig) where
    keeps_body : (e : Effect) → EffectIsFine code w list c sig (record f { rest = rest }) e →
        KeepsBody code (GivesSo code) f.body e
    keeps_body (Goes h) x = x.is.same.body
    keeps_body (Prints h label value) x = x.is.same.body
    keeps_body (Makes h class values) x = x.is.goes.same.body
    keeps_body (Stores h r slot v) x = x.is.0.same.body
    keeps_body (StoresStatic h n v) x = x.is.0.same.body
    keeps_body (SetsHidden h r values) x = x.is.0.same.body
    keeps_body (SetsCeiling h r ceiling) x = x.is.0.same.body
    keeps_body (Calls h g) x = x.is.goes.same.body
    keeps_body (Opens h g scope bytes) x = x.is.goes.same.body
    keeps_body (Leaves h v) x =
        λ b g. returned_so w (denote w list f.this f.area) sig.gives v x.is.1 ∙ g c sig runs
    keeps_body (AsksRegistration h r) x = x.is.0.same.body
    keeps_body (AsksRelease h r) x = x.is.0.same.body
    keeps_body (AsksTermination h r) x = x.is.0.same.body
    keeps_body (Faults fault) x = tt
    keeps_body Stuck x = tt

-- ---- the next operation of a job

module _ (code : Code) (facts : Facts code) (static : BodiesFit code) (rows : List ReadingRow) (s : State)
    (base : List ℕ) (memory : MemoryFine code s) (held : Jobs (All code) s) (job : Job) (activity : Activity)
    (is : activity_of s job ≡ Some activity) where
  next_jobs : (frames : List Frame) → activity.frames ≡ frames → FramesFine code (world_of s) base frames →
      Lead (All code) (elim frames as (λ z. Option Step) [
        | [] ↦ None
        | f ∷ below ↦ elim f.rest [
          | [] ↦ None
          | op ∷ rest ↦ applied code s job activity below (position_of_op code op) (effect_at code rows s f op rest)
        ]
      ])
  next_jobs [] e fine = none_leads (All code)
  next_jobs (f ∷ below) e fine = next f.rest refl
    where
      list : List ℕ
      list = list_of base (f ∷ below)

      ready : Ready code (world_of s) (list_of base (f ∷ below)) fine.0.class fine.0.sig f None
      ready = highest_ready code (world_of s) (list_of base (f ∷ below)) f fine.0

      mine : All code (f ∷ below)
      mine = subst (All code) e (held.are job activity is)

      next : (ops : List Op) → f.rest ≡ ops → Lead (All code) (elim ops as (λ z. Option Step) [
        | [] ↦ None
        | op ∷ rest ↦ applied code s job activity below (position_of_op code op) (effect_at code rows s f op rest)
      ])
      next [] r = none_leads (All code)
      next (op ∷ rest) r =
          let again : Ready code (world_of s) (list_of base (f ∷ below)) fine.0.class fine.0.sig
          (record f { rest = op ∷ rest }) None =
          subst
          (λ ops. Ready code (world_of s) (list_of base (f ∷ below)) fine.0.class fine.0.sig
          (record f { rest = ops }) None) r ready in
          let own : Counted code f = mine.0.is fine.0.class fine.0.sig ready.runs in
          let fits : Fits code (op ∷ rest) own.depth =
          subst (λ (ops : List Op). Fits code ops own.depth) r own.fits in
          effect_kept code (GivesSo code) s held job activity f.body below mine.1 (position_of_op code op)
          (effect_at code rows s f op rest)
          (keeps_body code (world_of s) (list_of base (f ∷ below)) f rest fine.0.class fine.0.sig ready.runs
          (effect_at code rows s f op rest)
          (next_fine code facts (world_of s).areas (environment rows s) (list_of base (f ∷ below)) fine.0.class
          fine.0.sig f op rest fine.1 memory.heap memory.statics again))
          (operation_fine code (GivesSo code) static rest (environment rows s)
          (record f { rest = rest }) own.depth (record { same = refl; few = own.few }) op fits.1
          (one_or_more own.depth fits.0) fits.2
          (given_as_bound code facts (environment rows s) (world_of s) memory.heap refl (list_of base (f ∷ below))
          fine.0.class fine.0.sig f rest op again)
          (given_nothing code facts (environment rows s) (world_of s) memory.heap refl (list_of base (f ∷ below))
          fine.0.class fine.0.sig f rest op again))

  pub frame_jobs : JobFine code (world_of s) base activity → Lead (All code) (frame_op code rows s job activity)
  unfolding frame_op
  frame_jobs fine = next_jobs activity.frames refl fine.frames

-- ---- one unit

fresh : (code : Code) → BodiesFit code → (body : Body) (called_at this : Option ℕ) (area : ℕ)
    (opened : Option ℕ) → All code (record (new_frame code body called_at this area []) { opened = opened } ∷ [])
fresh code static body called_at this area opened =
    (new_explained code (GivesSo code) static body called_at this area [] opened, tt)

module _ (code : Code) (facts : Facts code) (static : BodiesFit code) (rows : List ReadingRow) where
  abbrev Led : Option Step → Type 0
  Led o = Lead (All code) o

  module _ (s : State) (i : Invariant code s) (held : Jobs (All code) s) where
    job_jobs : (job : Job) (activity : Activity) → activity_of s job ≡ Some activity →
        Led (frame_op code rows s job activity)
    job_jobs job activity is =
        frame_jobs code facts static rows s (areas_of i.base) i.memories.memory held job activity is
        (i.memories.jobs job activity is)

    sequencer_leads : Led (sequencer_turn code rows s)
    unfolding sequencer_turn activity_of
    sequencer_leads = go s.activity.frames
      where
        go : (fs : List Frame) → Led (elim fs as (λ z. Option Step) [
          | [] ↦ sequencer_op code s s.operation
          | f ∷ fs ↦ frame_op code rows s TheSequencer s.activity
        ])
        go [] = sequencer_jobs code (All code) (fresh code static) s held s.operation
        go (f ∷ fs) = job_jobs TheSequencer s.activity refl

    release_leads : (index : ℕ) → Led (ref_op code rows s (ReleaseAt index))
    unfolding ref_op release_op_of activity_of activity_in
    release_leads index =
        any_leads (All code) (slice_get s.releases index) (release_op_of code rows s index)
        (λ r there. by_status r there r.status refl)
      where
        by_status : (r : Release) → slice_get s.releases index ≡ Some r → (status : ReleaseStatus) →
            r.status ≡ status → Led (elim status as (λ z. Option Step) [
              | Waiting ↦ start_op code s index r
              | Started activity ↦ frame_op code rows s (ReleaseAt index) activity
              | Ended ↦ None
              | Dropped ↦ None
            ])
        by_status r there Waiting e = start_jobs code (All code) (fresh code static) s held index r
        by_status r there (Started activity) e =
            job_jobs (ReleaseAt index) activity
            (ap (λ (o : Option Release). o >>= (λ r. activity_in r.status)) there ∙ ap activity_in e)
        by_status r there Ended e = none_leads (All code)
        by_status r there Dropped e = none_leads (All code)

  pub acts_lead : (policy : Policy) (s : State) → Invariant code s → Jobs (All code) s → Led (acts code rows policy s)
  unfolding acts turn_taken turn_acts
  acts_lead policy s i held = go (is_exec s.phase)
    where
      turn_leads : (turn : Turn) → Led (then_try (turn_taken s turn) (turn_acts code rows turn))
      turn_leads IdleTurn =
          reported_leads (All code) (turn_taken s IdleTurn) (Some (silently (with_turn s IdleTurn)))
          (leads (All code) (silently (with_turn s IdleTurn))
          (jobs_still (All code) s (with_turn s IdleTurn) refl refl held))
      turn_leads (TurnOf index) =
          reported_leads (All code) (turn_taken s (TurnOf index)) (ref_op code rows (with_turn s (TurnOf index)) (ReleaseAt index))
          (release_leads (with_turn s (TurnOf index)) (time_passes code s s.unit (Some (TurnOf index)) i)
          (jobs_still (All code) s (with_turn s (TurnOf index)) refl refl held) index)

      go : (b : Bool) → Led (if b
          then policy s >>= (λ turn. then_try (turn_taken s turn) (turn_acts code rows turn))
          else sequencer_turn code rows s)
      go true = any_leads (All code) (policy s) _ (λ turn e. turn_leads turn)
      go false = sequencer_leads s i held

-- ---- all reached states

module _ (code : Code) (facts : HasFacts code) (static : BodiesFit code) (plan : Plan) (choices : List ℕ) where
  invariant_at : (moment : Moment) (s : State) → SoundAt code moment s → Invariant code s
  invariant_at Between s x = x.settled.invariant
  invariant_at Arrived s x = x.0.settled.invariant
  invariant_at Operated s x = x.after.invariant

  pub invariant_of : (moment : Moment) (s : State) → Reached code plan (by_list choices) moment s → Invariant code s
  invariant_of moment s h =
      invariant_at moment s
      (reached_is_sound code facts (operated code facts.bodies facts.sequencer) plan choices moment s h)

  record IsAt (moment : Moment) (s : State) : Type 0 where
    reached : Reached code plan (by_list choices) moment s
    jobs : Jobs (All code) s

  pub all_explained : (moment : Moment) (s : State) → Reached code plan (by_list choices) moment s →
      Jobs (All code) s
  all_explained moment s h =
      (reached_keeps code plan (by_list choices) IsAt
      (record { reached = at_first; jobs = first_jobs code (All code) tt plan })
      (λ s x e. record {
        reached = on_arrival s x.reached e;
        jobs = arrival_jobs code (All code) plan s x.jobs;
      })
      (λ s step x e. record {
        reached = on_operation s step x.reached e;
        jobs = (acts_lead code facts.bodies static plan.readings (by_list choices) s
            (invariant_of Arrived s x.reached) x.jobs).is step e;
      })
      (λ s step x e. record {
        reached = on_phase s step x.reached e;
        jobs = jobs_still (All code) step.state (next_unit step.state) refl refl
            ((phase_jobs code (All code) (fresh code static) s x.jobs).is step e);
      }) h).jobs
