-- The next operation of a job that stands keeps the job: all effects, and the operation of the highest frame.
use Rattle.std.specs.Prelude.{Option, Some, None, slice_get}
use Rattle.std.proofs.Common.{◌≡◌, ℕ, List, [], ◌∷◌, refl, ◌∙◌, ap, subst, inl, inr, ◌⊎◌}
use Rattle.scj_base.specs.declared.faults.RunFault.{RunFault}
use Rattle.scj_base.specs.declared.positions.Position.{Position}
use Rattle.scj_rules.specs.Contexts.{Declarations}
use Rattle.scj_rules.specs.declared.typing.Scope.{Scope}
use Rattle.accepted_laws.specs.Kinds.{Kind}
use Rattle.scj_model.specs.declared.operations.Op.{Op}
use Rattle.scj_model.specs.declared.plans.ReadingRow.{ReadingRow}
use Rattle.scj_model.specs.Code.{Code}
use Rattle.scj_model.specs.State.{Activity, Frame, Job, State, activity_of}
use Rattle.scj_model.specs.Steps.{Step}
use Rattle.scj_model.specs.Effects.{Effect, Goes, Prints, Makes, Stores, StoresStatic, SetsHidden, SetsCeiling, Calls, Opens, Leaves, AsksRegistration, AsksRelease, AsksTermination, Faults, Stuck}
use Rattle.scj_model.specs.Apply.{applied}
use Rattle.scj_model.specs.Run.{effect_at, environment, frame_op, position_of_op}
use Rattle.scope_flow.specs.Facts.{Facts}
use Rattle.scope_flow.specs.Ways.{Course}
use Rattle.scope_flow.specs.Needs.{pushed}
use Rattle.scope_flow.specs.Signatures.{Runs, Signature}
use Rattle.frame_sound.specs.Places.{World, Place, denote}
use Rattle.frame_sound.specs.Fine.{GivenFits, Ready, Stands, WaitsFor, held_option, list_of}
use Rattle.frame_sound.specs.EffectsFine.{EffectFine, IsSame}
use Rattle.frame_sound.specs.Guards.{GuardsFine}
use Rattle.frame_sound.specs.OwnJob.{HasFaulted, HasLeft, JobGoesOn, JobStands, KeepsItsJob, lowest}
use Rattle.frame_sound.proofs.Changes.{look}
use Rattle.frame_sound.proofs.Kept.{ActsHere}
use Rattle.frame_sound.proofs.NextOperation.{next_fine}
use Rattle.frame_sound.proofs.OwnCalls.{calls_kept, opens_kept}
use Rattle.frame_sound.proofs.OwnJobs.{ceiling_kept, faults_so, hidden_kept, makes_kept, lowest_same, plain_goes, prints_keep, statics_kept, stores_kept}
use Rattle.frame_sound.proofs.OwnLeaves.{leaves_kept}
use Rattle.frame_sound.proofs.OwnRequests.{registration_kept, release_kept, termination_kept}

module _ (code : Code) (facts : Facts code) (s : State) (job : Job) (activity : Activity)
    (is : activity_of s job ≡ Some activity) (base : List ℕ) (f : Frame) (below : List Frame)
    (is_list : activity.areas ≡ list_of base (f ∷ below)) (c : ℕ) (sig : Signature)
    (runs : Runs code.program f.body c sig) (m : ActsHere code s.areas s.objects s.statics base f below c sig)
    (position : Position) where
  faults_kept : (fault : RunFault) →
      KeepsItsJob code s job activity base f below (applied code s job activity below position (Faults fault))
  unfolding applied
  faults_kept fault = faults_so code facts s job activity is base f below is_list c sig m position fault

  pub applied_kept : (e : Effect) →
      EffectFine code (look (λ a. slice_get s.areas a) s.objects) (list_of base (f ∷ below)) c sig f e →
      KeepsItsJob code s job activity base f below (applied code s job activity below position e)
  applied_kept (Goes h) x = plain_goes code facts s job activity is base f below is_list c sig m position h x
  applied_kept (Prints h label value) x =
      prints_keep code facts s job activity is base f below is_list c sig m position h label value x
  applied_kept (Makes h class values) x =
      makes_kept code facts s job activity is base f below is_list c sig m position h class values x
  applied_kept (Stores h r slot v) x =
      stores_kept code facts s job activity is base f below is_list c sig m position h r slot v x
  applied_kept (StoresStatic h n v) x =
      statics_kept code facts s job activity is base f below is_list c sig m position h n v x
  applied_kept (SetsHidden h r values) x =
      hidden_kept code facts s job activity is base f below is_list c sig m position h r values x
  applied_kept (SetsCeiling h r ceiling) x =
      ceiling_kept code facts s job activity is base f below is_list c sig m position h r ceiling x
  applied_kept (Calls h g) x = calls_kept code facts s job activity is base f below is_list c sig m position h g x
  applied_kept (Opens h g scope bytes) x =
      opens_kept code facts s job activity is base f below is_list c sig m position h g scope bytes x
  applied_kept (Leaves h v) x =
      leaves_kept code facts s job activity is base f below is_list c sig runs m position h v x.0 x.1
  applied_kept (AsksRegistration h r) x =
      registration_kept code facts s job activity is base f below is_list c sig m position h x.0 r x.1
  applied_kept (AsksRelease h r) x =
      release_kept code facts s job activity is base f below is_list c sig m position h x.0 r
  applied_kept (AsksTermination h r) x =
      termination_kept code facts s job activity is base f below is_list c sig m position h x.0 r
  applied_kept (Faults fault) x = faults_kept fault
  applied_kept Stuck x = absurd x

-- ---- the operation of the highest frame

same_over : (f g h : Frame) → IsSame f g → IsSame g h → IsSame f h
same_over f g h x y =
    record {
      body = y.body ∙ x.body;
      called_at = y.called_at ∙ x.called_at;
      this = y.this ∙ x.this;
      area = y.area ∙ x.area;
      saved = y.saved ∙ x.saved;
      opened = y.opened ∙ x.opened;
    }

-- a frame without the operation that is next stands as it stood
without_next : (f : Frame) (rest : List Op) → IsSame f (record f { rest = rest })
without_next f rest = record { body = refl; called_at = refl; this = refl; area = refl; saved = refl; opened = refl }

none_waits : (p : Declarations) (den : Scope → Place) (kind : Option Kind) →
    GivenFits p None (held_option den kind) →
    kind ≡ None
unfolding held_option
none_waits p den None h = refl
none_waits p den (Some k) h = absurd h

module _ (code : Code) (facts : Facts code) (rows : List ReadingRow) (s : State) (job : Job) (base : List ℕ)
    (stands : JobStands code s job base) (f : Frame) (below : List Frame) (has : stands.activity.frames ≡ f ∷ below)
  where
    abbrev w : World
    w = look (λ a. slice_get s.areas a) s.objects

    abbrev activity : Activity
    activity = stands.activity

    abbrev pub here : Stands code s.areas s.objects s.statics base (f ∷ below)
    here = subst (Stands code s.areas s.objects s.statics base) has stands.stands

    abbrev pub waits : WaitsFor code w (list_of base (f ∷ below)) f None
    waits = here.frames_fine.0

    ready : Ready code w (list_of base (f ∷ below)) waits.class waits.sig f None
    ready =
        subst (Ready code w (list_of base (f ∷ below)) waits.class waits.sig f)
        (none_waits code.program (denote w (list_of base (f ∷ below)) f.this f.area) waits.kind waits.fits) waits.ready

    -- the frame has an operation left
    pub record HasNext : Type 0 where
      pub op : Op
      pub rest : List Op
      pub is : f.rest ≡ op ∷ rest

    pub has_next : HasNext
    has_next = go f.rest refl ready.flow
      where
        go : (ops : List Op) → f.rest ≡ ops →
            Course code f.body waits.class waits.sig ops ready.known (pushed None ready.kinds) → HasNext
        go [] e flow = absurd flow
        go (op ∷ rest) e flow = record { op = op; rest = rest; is = e }

    pub op_is : (op : Op) (rest : List Op) → f.rest ≡ op ∷ rest → frame_op code rows s job activity
        ≡ applied code s job activity below (position_of_op code op) (effect_at code rows s f op rest)
    unfolding frame_op
    op_is op rest e =
        ap (λ (fs : List Frame). elim fs as (λ z. Option Step) [
          | [] ↦ None
          | g ∷ gs ↦ elim g.rest as (λ z. Option Step) [
            | [] ↦ None
            | op ∷ rest ↦ applied code s job activity gs (position_of_op code op) (effect_at code rows s g op rest)
          ]
        ]) has
        ∙ ap (λ (ops : List Op). elim ops as (λ z. Option Step) [
          | [] ↦ None
          | op ∷ rest ↦ applied code s job activity below (position_of_op code op) (effect_at code rows s f op rest)
        ]) e

    pub effect_is_fine : (op : Op) (rest : List Op) → f.rest ≡ op ∷ rest →
        EffectFine code w (list_of base (f ∷ below)) waits.class waits.sig (record f { rest = rest })
        (effect_at code rows s f op rest)
    effect_is_fine op rest e =
        let x = next_fine code facts (λ a. slice_get s.areas a) (environment rows s)
        (list_of base (f ∷ below)) waits.class
        waits.sig f op rest here.frames_fine.1 here.heap here.statics_fine (record {
          runs = ready.runs;
          home = ready.home;
          known = ready.known;
          kinds = ready.kinds;
          operands = ready.operands;
          locals = ready.locals;
          flow =
              subst (λ ops. Course code f.body waits.class waits.sig ops ready.known (pushed None ready.kinds)) e
              ready.flow;
          guards =
              subst (λ ops. GuardsFine code w f.body f.this f.locals None f.operands ops) e ready.guards;
        }) in
        x.is

    pub operation_kept : KeepsItsJob code s job activity base f below (frame_op code rows s job activity)
    operation_kept =
        record {
          step = k.step;
          is = op_is n.op n.rest n.is ∙ k.is;
          either = either k.either;
          registry = k.registry;
        }
      where
        n : HasNext
        n = has_next

        g : Frame
        g = record f { rest = n.rest }

        k : KeepsItsJob code s job activity base g below
            (applied code s job activity below (position_of_op code n.op) (effect_at code rows s f n.op n.rest))
        k =
            applied_kept code facts s job activity stands.is base g below
            (stands.is_list ∙ ap (list_of base) has) waits.class waits.sig ready.runs
            (record {
              areas_fine = here.areas_fine;
              heap = here.heap;
              statics_fine = here.statics_fine;
              fine = here.frames_fine.1;
              home = ready.home;
              under = here.frames_fine.2;
              on = here.frames_fine.3;
            }) (position_of_op code n.op) (effect_at code rows s f n.op n.rest) (effect_is_fine n.op n.rest n.is)

        either : JobGoesOn code s job base g below k.step.state
            ⊎ (((below ≡ []) × HasLeft code s job base g k.step.state) ⊎ HasFaulted code s job activity k.step) →
            JobGoesOn code s job base f below k.step.state
            ⊎ (((below ≡ []) × HasLeft code s job base f k.step.state) ⊎ HasFaulted code s job activity k.step)
        either (inl x) =
            inl (record {
              stands = x.stands;
              top = x.top;
              others = x.others;
              are = x.are;
              same = same_over (lowest f below) (lowest g below) (lowest x.top x.others)
                  (lowest_same f g below (without_next f n.rest)) x.same;
              operation = x.operation;
              outcome = x.outcome;
              areas = record { has = x.areas.has; lost = x.areas.lost; new = x.areas.new };
            })
        either (inr (inl (e, x))) =
            inr (inl (
              e,
              record {
                value = x.value;
                ends = x.ends;
                class = x.class;
                sig = x.sig;
                runs = x.runs;
                operation = x.operation;
                gives = x.gives;
                lies = x.lies;
                memory = x.memory;
                closed = record { areas = x.closed.areas; objects = x.closed.objects; statics = x.closed.statics };
                list = x.list;
              },
            ))
        either (inr (inr x)) = inr (inr x)
