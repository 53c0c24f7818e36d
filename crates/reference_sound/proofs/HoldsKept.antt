-- The next operation of a job keeps all references where they may be: those of slots and static fields, and those of
-- the frames of each job.
use Rattle.std.specs.Prelude.{Option, Some, None}
use Rattle.std.proofs.Common.{◌≡◌, ℕ, List, [], ◌∷◌, refl, sym, ◌∙◌, ap, subst}
use Rattle.scj_base.specs.declared.positions.Position.{Position}
use Rattle.scj_model.specs.declared.operations.Op.{Op}
use Rattle.scj_model.specs.declared.plans.ReadingRow.{ReadingRow}
use Rattle.scj_model.specs.Code.{Code}
use Rattle.scj_model.specs.State.{Frame, Activity, Job, State, activity_of}
use Rattle.scj_model.specs.Effects.{Effect, Goes, Prints, Makes, Stores, StoresStatic, SetsHidden, SetsCeiling, Calls, Opens, Leaves, AsksRegistration, AsksRelease, AsksTermination, Faults, Stuck, new_frame}
use Rattle.scj_model.specs.Steps.{Step}
use Rattle.scj_model.specs.Apply.{applied}
use Rattle.scj_model.specs.Run.{environment, position_of_op, effect_at, frame_op}
use Rattle.scope_flow.specs.Facts.{Facts}
use Rattle.scope_flow.specs.Signatures.{Signature}
use Rattle.frame_sound.specs.Places.{World, world_of}
use Rattle.frame_sound.specs.Fine.{Ready, FramesFine, IsOnList, list_of, MemoryFine, JobFine}
use Rattle.frame_sound.specs.EffectsFine.{IsSame, OpenFine, Fine}
use Rattle.frame_sound.proofs.NextOperation.{next_fine}
use Rattle.reference_sound.specs.References.{EachReference, JobHolds, ReferencesHold}
use Rattle.reference_sound.proofs.NextHolds.{next_holds}
use Rattle.reference_sound.proofs.Passes.{highest_ready}
use Rattle.reference_sound.proofs.Held.{AllLead, all_lead, faults_hold}
use Rattle.reference_sound.proofs.OwnEffects.{goes_hold, prints_hold, makes_hold, stores_hold, statics_hold, hidden_hold, ceiling_holds}
use Rattle.reference_sound.proofs.OwnAreas.{calls_hold, opens_hold, leaves_hold}
use Rattle.reference_sound.proofs.OwnRequests.{registrations_hold, releases_hold, terminations_hold}
use Rattle.reference_sound.specs.EffectsHold.{Holding}

-- the frame without its operation stands where the frame stood
as_before : (f h : Frame) (rest : List Op) → IsSame (record f { rest = rest }) h → IsSame f h
as_before f h rest x =
    record { body = x.body; called_at = x.called_at; this = x.this; area = x.area; saved = x.saved; opened = x.opened }

-- the area of the caller, in which the new one is opened
around_new : (code : Code) (w : World) (list : List ℕ) (c : ℕ) (sig : Signature) (f h g : Frame) (scope : ℕ)
    (x : OpenFine code w list c sig f h g scope) → w.areas g.area ≡ Some x.around
unfolding new_frame
around_new code w list c sig f h g scope x =
    ap w.areas (ap (λ (q : Frame). q.area) x.is ∙ sym x.goes.same.area) ∙ x.is_area

module _ (code : Code) (s : State) (job : Job) (activity : Activity) (is : activity_of s job ≡ Some activity)
    (base : List ℕ) (held : ReferencesHold s base) (f : Frame) (below : List Frame)
    (frames : activity.frames ≡ f ∷ below) (position : Position) (rest : List Op) (c : ℕ) (sig : Signature) where
  effect_kept : (e : Effect) → Fine code (world_of s) (list_of base (f ∷ below)) c sig (record f { rest = rest }) e →
      Holding (world_of s) (IsOnList (world_of s) (list_of base (f ∷ below))) e →
      AllLead base (applied code s job activity below position e)
  unfolding applied
  effect_kept (Goes h) x a =
      goes_hold code s job activity is base held f below frames position h (as_before f h rest x.is.same) a.is
  effect_kept (Prints h label value) x a =
      prints_hold code s job activity is base held f below frames position h label value
      (as_before f h rest x.is.same) a.is
  effect_kept (Makes h class values) x a =
      makes_hold code s job activity is base held f below frames position h class values
      (as_before f h rest x.is.goes.same) a.is
  effect_kept (Stores h r slot v) x a =
      stores_hold code s job activity is base held f below frames position h r slot v (as_before f h rest x.is.0.same) a.is
  effect_kept (StoresStatic h n v) x a =
      statics_hold code s job activity is base held f below frames position h n v (as_before f h rest x.is.0.same) a.is
  effect_kept (SetsHidden h r values) x a =
      hidden_hold code s job activity is base held f below frames position h r values (as_before f h rest x.is.0.same) a.is
  effect_kept (SetsCeiling h r ceiling) x a =
      ceiling_holds code s job activity is base held f below frames position h r ceiling
      (as_before f h rest x.is.0.same) a.is
  effect_kept (Calls h g) x a =
      calls_hold code s job activity is base held f below frames position h g (as_before f h rest x.is.goes.same) a.is
      x.is.unopened
  effect_kept (Opens h g scope bytes) x a =
      opens_hold code s job activity is base held f below frames position h g scope bytes
      (as_before f h rest x.is.goes.same) a.is x.is.around
      (around_new code (world_of s) (list_of base (f ∷ below)) c sig (record f { rest = rest }) h g scope x.is)
  effect_kept (Leaves h v) x a = leaves_hold code s job activity is base held f below frames position h v
  effect_kept (AsksRegistration h r) x a =
      registrations_hold code s job activity is base held f below frames position h r (as_before f h rest x.is.0.same) a.is
  effect_kept (AsksRelease h r) x a =
      releases_hold code s job activity is base held f below frames position h r (as_before f h rest x.is.0.same) a.is
  effect_kept (AsksTermination h r) x a =
      terminations_hold code s job activity is base held f below frames position h r (as_before f h rest x.is.0.same) a.is
  effect_kept (Faults fault) x a = all_lead base _ (faults_hold s base held job activity position fault)
  effect_kept Stuck x a = absurd x.is

module _ (code : Code) (facts : Facts code) (rows : List ReadingRow) (s : State) (job : Job) (activity : Activity)
    (is : activity_of s job ≡ Some activity) (base : List ℕ) (held : ReferencesHold s base)
    (memory : MemoryFine code s) where
  next_kept : (frames : List Frame) → activity.frames ≡ frames → FramesFine code (world_of s) base frames →
      AllLead base (elim frames as (λ z. Option Step) [
        | [] ↦ None
        | f ∷ below ↦ elim f.rest [
          | [] ↦ None
          | op ∷ rest ↦ applied code s job activity below (position_of_op code op) (effect_at code rows s f op rest)
        ]
      ])
  next_kept [] e fine = record { gives = λ step h. absurd (cc (h)) }
  next_kept (f ∷ below) e fine = next f.rest refl
    where
      list : List ℕ
      list = list_of base (f ∷ below)

      ready : Ready code (world_of s) (list_of base (f ∷ below)) fine.0.class fine.0.sig f None
      ready = highest_ready code (world_of s) (list_of base (f ∷ below)) f fine.0

      locals : EachReference (IsOnList (world_of s) (list_of base (f ∷ below))) f.locals
      locals = (subst (JobHolds (world_of s) base) e (held.jobs job activity is)).0

      next : (ops : List Op) → f.rest ≡ ops → AllLead base (elim ops as (λ z. Option Step) [
        | [] ↦ None
        | op ∷ rest ↦ applied code s job activity below (position_of_op code op) (effect_at code rows s f op rest)
      ])
      next [] r = record { gives = λ step h. absurd (cc (h)) }
      next (op ∷ rest) r =
          let again : Ready code (world_of s) (list_of base (f ∷ below)) fine.0.class fine.0.sig
          (record f { rest = op ∷ rest }) None =
          subst
          (λ ops. Ready code (world_of s) (list_of base (f ∷ below)) fine.0.class fine.0.sig
          (record f { rest = ops }) None) r ready in
          effect_kept code s job activity is base held f below e (position_of_op code op) rest fine.0.class fine.0.sig
          (effect_at code rows s f op rest)
          (next_fine code facts (world_of s).areas (environment rows s) (list_of base (f ∷ below)) fine.0.class
          fine.0.sig f
          op rest fine.1 memory.heap memory.statics again)
          (next_holds code facts (world_of s).areas (environment rows s) (list_of base (f ∷ below)) fine.0.class
          fine.0.sig
          f op rest (IsOnList (world_of s) (list_of base (f ∷ below))) (λ r h. h) fine.1 memory.heap memory.statics
          again
          locals)

  pub references_kept : JobFine code (world_of s) base activity → (step : Step) →
      frame_op code rows s job activity ≡ Some step → ReferencesHold step.state base
  unfolding frame_op
  references_kept fine step e = (next_kept activity.frames refl fine.frames).gives step e
