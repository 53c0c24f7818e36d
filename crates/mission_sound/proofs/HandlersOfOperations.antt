-- The next operation of a job, and START, keep what is known of handlers and releases.
use Rattle.std.specs.Prelude.{Option, Some, None, slice_get, length, if◌then◌else◌, codes}
use Rattle.std.proofs.Common.{◌≡◌, ℕ, List, [], ◌∷◌, Bool, true, false, refl, sym, ◌∙◌, ap, subst, true≢false}
use Rattle.scj_base.specs.declared.faults.RunFault.TheVariants.{StoreFull}
use Rattle.scj_base.specs.declared.positions.Position.{Position}
use Rattle.scj_rules.specs.declared.views.Body.{Body}
use Rattle.scj_rules.specs.Words.{◌>>=◌}
use Rattle.scj_rules.specs.ScopeRules.{defined_by_chain}
use Rattle.scj_rules.specs.Bodies.{body_named, class_position}
use Rattle.accepted_laws.proofs.Tools.{some_inj}
use Rattle.scj_model.specs.declared.handlers.HandlerRow.{HandlerRow}
use Rattle.scj_model.specs.declared.operations.Op.{Op}
use Rattle.scj_model.specs.declared.plans.ReadingRow.{ReadingRow}
use Rattle.scj_model.specs.Code.{Code}
use Rattle.scj_model.specs.State.{Frame, Activity, Waits, Started, Release, Job, TheSequencer, ReleaseAt, State, activity_of, with_activity, is_waiting, is_exec}
use Rattle.scj_model.specs.Registry.{handler_row}
use Rattle.scj_model.specs.Memory.{has_store_for, with_area}
use Rattle.scj_model.specs.Steps.{Step, silently, fault_in, opening}
use Rattle.scj_model.specs.Effects.{new_frame}
use Rattle.scj_model.specs.Apply.{applied}
use Rattle.scj_model.specs.Sequencer.{innermost}
use Rattle.scj_model.specs.Run.{effect_at, position_of_op, frame_op, no_activity, started_with, start_op}
use Rattle.mission_sound.specs.Bases.{Base}
use Rattle.mission_sound.specs.Invariant.{HandlersFine}
use Rattle.mission_sound.specs.Registering.{NextRegistersFine}
use Rattle.mission_sound.proofs.Handling.{is_live, handlers_stay, status_changes}
use Rattle.mission_sound.proofs.HandlersKept.{Outside, objects_same, fault_handled}
use Rattle.mission_sound.proofs.HandlersOfEffects.{HandlersIf, handlers_of_effect}

pub handlers_of_operation : (code : Code) (base : Base) (rows : List ReadingRow) (s : State) (job : Job)
    (activity : Activity) → activity_of s job ≡ Some activity → Outside code base job s → HandlersFine code s base →
    NextRegistersFine code base rows s activity → HandlersIf code base (frame_op code rows s job activity)
unfolding frame_op
handlers_of_operation code base rows s job activity acts outside h registers = frames activity.frames refl
  where
    ops : (f : Frame) (below : List Frame) → activity.frames ≡ f ∷ below → (os : List Op) → f.rest ≡ os →
        HandlersIf code base (elim os as (λ z. Option Step) [
          | [] ↦ None
          | op ∷ rest ↦ applied code s job activity below (position_of_op code op) (effect_at code rows s f op rest)
        ])
    ops f below e [] g = record { is = λ q x. absurd (cc (x)) }
    ops f below e (op ∷ rest) g =
        handlers_of_effect code base s job activity acts outside h below (position_of_op code op)
        (effect_at code rows s f op rest) (registers f below op rest e g)

    frames : (fs : List Frame) → activity.frames ≡ fs → HandlersIf code base (elim fs as (λ z. Option Step) [
      | [] ↦ None
      | f ∷ below ↦ elim f.rest as (λ z. Option Step) [
        | [] ↦ None
        | op ∷ rest ↦ applied code s job activity below (position_of_op code op) (effect_at code rows s f op rest)
      ]
    ])
    frames [] e = record { is = λ q x. absurd (cc (x)) }
    frames (f ∷ below) e = ops f below e f.rest refl

-- ---- START

module _ (code : Code) (base : Base) (s : State) (index : ℕ) (r : Release) (there : slice_get s.releases index ≡ Some r)
    (waits : r.status ≡ Waits) (exec : is_exec s.phase ≡ true) (h : HandlersFine code s base) where
  bind_if : {A : Type 0} (o : Option A) (next : A → Option Step) → ((a : A) → HandlersIf code base (next a)) →
      HandlersIf code base (o >>= next)
  bind_if None next k = record { is = λ q e. absurd (cc (e)) }
  bind_if (Some a) next k = k a

  waits_live : is_live r.status ≡ true
  unfolding is_waiting
  waits_live = ap is_live waits

  starts : (t : State) → t.releases ≡ s.releases → is_exec t.phase ≡ true → HandlersFine code t base → (a : Activity) →
      HandlersFine code (with_activity t (ReleaseAt index) a) base
  unfolding with_activity is_waiting
  starts t e x k a =
      status_changes code base t index (Started a) refl
      (λ q found alive. (let same : r ≡ q = some_inj r q (sym there ∙ (sym (ap (λ rs. slice_get rs index) e) ∙ found))
      in
      subst (λ (q : Release). is_live q.status ≡ true) same waits_live))
      (λ f. absurd (true≢false (sym x ∙ f))) k

  started_if : (row : HandlerRow) (scope : ℕ) (body : Body) →
      HandlersIf code base (Some (started_with code s index row scope body))
  unfolding started_with opening
  started_if row scope body = go (has_store_for s row.bytes)
    where
      at : Position
      at = class_position code.program row.class

      opened : State
      opened = with_area s scope (innermost s.activity.areas) row.bytes

      activity : Activity
      activity =
          record {
            frames = record (new_frame code body None (Some row.at) (length s.areas) []) {
              opened = Some (length s.areas);
            } ∷ [];
            areas = length s.areas ∷ s.activity.areas;
            priority = row.priority;
          }

      some_if : (step : Step) → HandlersFine code step.state base → HandlersIf code base (Some step)
      some_if step k = record { is = λ q e. subst (λ (x : Step). HandlersFine code x.state base) (some_inj step q e) k }

      go : (b : Bool) → HandlersIf code base (Some (if b then silently (with_activity opened (ReleaseAt index) activity)
          else fault_in s (ReleaseAt index) no_activity at StoreFull))
      go true =
          some_if _
          (starts opened refl exec (handlers_stay code base s opened (objects_same code base s opened refl) h)
          activity)
      go false = some_if _ (fault_handled code base s (ReleaseAt index) no_activity at StoreFull tt h)

  pub handlers_of_start : HandlersIf code base (start_op code s index r)
  unfolding start_op
  handlers_of_start =
      bind_if (handler_row s.registry r.handler) _ (λ row. bind_if (defined_by_chain code.program row.class) _ (λ scope.
      bind_if (body_named code.program row.class (codes "handleAsyncEvent")) _ (λ body. started_if row scope body)))

-- ---- as laws

pub operation_handled : (code : Code) (base : Base) (rows : List ReadingRow) (s : State) (job : Job)
    (activity : Activity) (step : Step) → activity_of s job ≡ Some activity →
    (job ≡ TheSequencer → is_exec s.phase ≡ false) → HandlersFine code s base →
    NextRegistersFine code base rows s activity → frame_op code rows s job activity ≡ Some step →
    HandlersFine code step.state base
operation_handled code base rows s job activity step acts outside h registers e =
    (handlers_of_operation code base rows s job activity acts (is_outside job outside) h registers).is step e
  where
    is_outside : (job : Job) → (job ≡ TheSequencer → is_exec s.phase ≡ false) → Outside code base job s
    is_outside TheSequencer k = k refl
    is_outside (ReleaseAt n) k = tt

pub start_handled : (code : Code) (base : Base) (s : State) (index : ℕ) (r : Release) (step : Step) →
    slice_get s.releases index ≡ Some r → r.status ≡ Waits → is_exec s.phase ≡ true → HandlersFine code s base →
    start_op code s index r ≡ Some step → HandlersFine code step.state base
start_handled code base s index r step there waits exec h e =
    (handlers_of_start code base s index r there waits exec h).is step e
