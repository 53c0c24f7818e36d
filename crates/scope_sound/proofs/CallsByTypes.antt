-- Programs that have what the rules promise call the framework's methods on what their types say: what is registered is
-- a handler, what has elements assigned an array, and what runs in an area that is opened a Runnable. So, if they are
-- accepted, the machine's own choice is safe.
use Rattle.std.specs.Prelude.{Some, None, IsSome}
use Rattle.std.proofs.Common.{◌≡◌, ℕ, List, ◌∷◌, sym, ◌∙◌, ap, subst}
use Rattle.scj_base.specs.declared.values.Value.{Value}
use Rattle.scj_tree.specs.Forest.{Forest}
use Rattle.scj_rules.specs.Layout.{element_kind}
use Rattle.accepted_laws.specs.Programs.{IsAcceptedProgram}
use Rattle.accepted_laws.proofs.Tools.{some_inj}
use Rattle.scj_model.specs.declared.operations.Op.{Op}
use Rattle.scj_model.specs.declared.operations.Op.TheVariants.{PutElem as PUTELEM}
use Rattle.scj_model.specs.Code.{Code, code_of}
use Rattle.scj_model.specs.Plan.{Plan}
use Rattle.scj_model.specs.State.{Frame, Job, Object, ReleaseAt, State, object_at}
use Rattle.scj_model.specs.Effects.{Effect, Stores, Opens, AsksRegistration, new_frame}
use Rattle.scj_model.specs.Choice.{by_priority}
use Rattle.scj_model.specs.Run.{environment}
use Rattle.scj_model.specs.Reached.{Arrived, Reached}
use Rattle.scj_model.specs.Safety.{IsSafeByPriority}
use Rattle.scj_model.proofs.Following.{by_some_list, fair_listed, priority_is_fair}
use Rattle.priority_laws.specs.Handlers.{IsHandlerClass}
use Rattle.priority_laws.specs.Premises.{CallsFrameworkByTypes, Does, IsRunnableClass}
use Rattle.priority_laws.proofs.AcceptedMonitors.{accepted_enters}
use Rattle.priority_laws.proofs.Together.{safe_by_priority as priorities_make_safe}
use Rattle.frame_sound.specs.Places.{world_of}
use Rattle.frame_sound.specs.Fine.{FramesFine, IsOnList, Ready, WaitsFor, list_of}
use Rattle.frame_sound.specs.EffectsFine.{EffectFine, OpenFine, RegistrationFine}
use Rattle.frame_sound.specs.OwnJob.{JobStands}
use Rattle.frame_sound.proofs.OwnSteps.{effect_is_fine, waits}
use Rattle.mission_sound.specs.Bases.{areas_of}
use Rattle.mission_sound.specs.Invariant.{Invariant}
use Rattle.reference_sound.proofs.Passes.{highest_ready}
use Rattle.scope_sound.specs.Sound.{HasFacts, Sound}
use Rattle.scope_sound.proofs.AllStanding.{job_stands}
use Rattle.scope_sound.proofs.ElementStores.{elements_of_arrays, no_elements}
use Rattle.scope_sound.proofs.InAnyOrder.{reached_is_sound}
use Rattle.scope_sound.proofs.Operated.{operated}

module _ (code : Code) (facts : HasFacts code) (plan : Plan) (s : State)
    (reached : Reached code plan by_priority Arrived s) where
  -- some list of choices leads to the state
  sound : Sound code s
  sound =
      let l = by_some_list code plan Arrived s (fair_listed code plan by_priority priority_is_fair reached) in
      (reached_is_sound code facts (operated code facts.bodies facts.sequencer) plan l.0 Arrived s l.1).0

  abbrev i : Invariant code s
  i = sound.settled.invariant

  module _ (job : Job) (op : Op) (effect : Effect) (does : Does code plan.readings s job op effect) where
    abbrev base : List ℕ
    base = areas_of i.base

    abbrev list : List ℕ
    list = list_of base (does.frame ∷ does.below)

    abbrev stands : JobStands code s job base
    stands = job_stands code s i.base i.memories job does.activity does.is_activity

    abbrev top : WaitsFor code (world_of s) list does.frame None
    top = waits code facts.bodies plan.readings s job base stands does.frame does.below does.frames

    fine : EffectFine code (world_of s) list top.class top.sig (record does.frame { rest = does.rest }) effect
    fine =
        subst (EffectFine code (world_of s) list top.class top.sig (record does.frame { rest = does.rest }))
        does.is_effect
        (effect_is_fine code facts.bodies plan.readings s job base stands does.frame does.below does.frames op does.rest
        does.ops)

    frames_fine : FramesFine code (world_of s) base (does.frame ∷ does.below)
    frames_fine =
        subst (FramesFine code (world_of s) base) does.frames
        (i.memories.jobs job does.activity does.is_activity).frames

  same_object : (areas : List ℕ) (r : ℕ) (o : Object) (there : IsOnList (world_of s) areas r) → object_at s r ≡ Some o →
      there.object ≡ o
  same_object areas r o there found = some_inj there.object o (sym there.found ∙ found)

  registered_is_handler : (job : Job) (op : Op) (f : Frame) (r : ℕ) (o : Object) →
      Does code plan.readings s job op (AsksRegistration f r) → object_at s r ≡ Some o →
      IsHandlerClass code.program o.class
  registered_is_handler job op f r o does found =
      subst (λ (y : Object). IsHandlerClass code.program y.class)
      (same_object (list job op (AsksRegistration f r) does) r o x.there found)
      (record {
        is_class = facts.sequencer.handlers_are_classes x.there.object.class x.is_handler;
        is_handler = x.is_handler;
        is_no_array = no_elements code.program x.there.object.class
            (facts.bodies.classes x.there.object.class
            (facts.sequencer.handlers_are_classes x.there.object.class x.is_handler));
      })
    where
      x : RegistrationFine code.program (world_of s) (list job op (AsksRegistration f r) does) r
      x = (fine job op (AsksRegistration f r) does).1

  opened_is_runnable : (job : Job) (op : Op) (f g : Frame) (scope bytes r : ℕ) (o : Object) →
      Does code plan.readings s job op (Opens f g scope bytes) → g.this ≡ Some r → object_at s r ≡ Some o →
      IsRunnableClass code.program o.class
  unfolding new_frame
  opened_is_runnable job op f g scope bytes r o does this found =
      subst (λ (y : Object). IsRunnableClass code.program y.class)
      (same_object (list job op (Opens f g scope bytes) does) x.r o x.on_list (ap (object_at s) same ∙ found))
      (record { is_class = x.is_class; is_runnable = x.entered.is_runnable })
    where
      x : OpenFine code (world_of s) (list job op (Opens f g scope bytes) does)
          (top job op (Opens f g scope bytes) does).class (top job op (Opens f g scope bytes) does).sig
          (record does.frame { rest = does.rest }) f g scope
      x = fine job op (Opens f g scope bytes) does

      same : x.r ≡ r
      same = some_inj x.r r (sym (ap (λ (h : Frame). h.this) x.is) ∙ this)

  assigned_is_array : (job : Job) (id : ℕ) (f : Frame) (r slot : ℕ) (value : Value) (o : Object) →
      Does code plan.readings s job (PUTELEM id) (Stores f r slot value) → object_at s r ≡ Some o →
      IsSome (element_kind code.program o.class)
  assigned_is_array job id f r slot value o does found =
      elements_of_arrays code facts.bodies (world_of s).areas (environment plan.readings s) own waiting.class
      waiting.sig does.frame id does.rest stand.1 i.memories.memory.heap i.memories.memory.statics
      (subst (λ ops. Ready code (world_of s) own waiting.class waiting.sig (record does.frame { rest = ops }) None)
      does.ops (highest_ready code (world_of s) own does.frame waiting)) f r slot value does.is_effect o found
    where
      own : List ℕ
      own = list job (PUTELEM id) (Stores f r slot value) does

      stand : FramesFine code (world_of s) (areas_of i.base) (does.frame ∷ does.below)
      stand = frames_fine job (PUTELEM id) (Stores f r slot value) does

      waiting : WaitsFor code (world_of s) own does.frame None
      waiting = stand.0

pub calls_by_types : (code : Code) → HasFacts code → CallsFrameworkByTypes code
calls_by_types code facts =
    record {
      spares = record {
        elements = λ plan s job id f r slot value o reached does found.
            assigned_is_array code facts plan s reached job id f r slot value o does found;
        registrations = λ plan s job op f r o reached does found.
            registered_is_handler code facts plan s reached job op f r o does found;
      };
      opens = λ plan s index op f g scope bytes r o reached does this found.
          opened_is_runnable code facts plan s reached (ReleaseAt index) op f g scope bytes r o does this found;
    }

pub safe_by_priority : (forest : Forest) → IsAcceptedProgram forest → HasFacts (code_of forest) →
    IsSafeByPriority (code_of forest)
safe_by_priority forest accepted facts =
    priorities_make_safe (code_of forest) (accepted_enters forest accepted (calls_by_types (code_of forest) facts))
    (calls_by_types (code_of forest) facts).spares
