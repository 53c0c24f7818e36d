-- The rows of handlers after an operation of a body that the sequencer called.
use Rattle.std.specs.Prelude.{Option, Some, None}
use Rattle.std.proofs.Common.{◌≡◌, ◌⊎◌, ℕ, Bool, true, false, List, [], ◌∷◌, refl, sym, ◌∙◌, ap, subst, inl, inr}
use Rattle.scj_base.specs.declared.values.Value.{Value}
use Rattle.accepted_laws.proofs.Tools.{some_inj}
use Rattle.scj_model.specs.declared.operations.Op.{Op}
use Rattle.scj_model.specs.declared.operations.SeqOp.TheVariants.{OpenMission}
use Rattle.scj_model.specs.Code.{Code}
use Rattle.scj_model.specs.Apply.{applied}
use Rattle.scj_model.specs.State.{Frame, TheSequencer, State, is_exec, is_init, is_over}
use Rattle.scj_model.specs.Steps.{Step, fault_in}
use Rattle.scj_model.specs.Run.{frame_op, position_of_op, environment}
use Rattle.mission_sound.specs.Bases.{areas_of}
use Rattle.mission_sound.specs.Invariant.{Invariant, body_called_by, lowest}
use Rattle.reference_sound.specs.References.{ReferencesHold}
use Rattle.scope_sound.specs.Sound.{HasFacts}
use Rattle.certain_faults.proofs.Jobs.{Jobs}
use Rattle.certain_faults.proofs.Runs.{All}
use Rattle.certain_faults.proofs.RunsOfNodes.{ClassesAskNothing}
use Rattle.memory_bounds.specs.Theorem.{RowsReport, Storage}
use Rattle.memory_bounds.proofs.Forms.{FormFacts}
use Rattle.memory_bounds.proofs.InitSteps.{InInit}
use Rattle.scj_model.specs.declared.plans.ReadingRow.{ReadingRow}
use Rattle.scj_model.specs.Operations.{effect_of}
use Rattle.frame_sound.specs.OwnJob.{HasFaulted, HasLeft, JobGoesOn, KeepsItsJob}
use Rattle.frame_sound.specs.Places.{world_of}
use Rattle.memory_bounds.proofs.InitRows.{does, init_stays, kept, rows_report}
use Rattle.memory_bounds.proofs.RegistryKept.{rows_stay}
use Rattle.memory_bounds.proofs.RowsStill.{After, same_rows}

module _ (code : Code) (facts : HasFacts code) (bare : ClassesAskNothing code) (storage : Storage)
    (Inner : Op → Type 0) (OnWay : ℕ → Type 0) (forms : FormFacts code storage Inner OnWay) where
  abbrev Shown : State → Type 0
  Shown t = After code facts bare storage Inner OnWay forms t

  module _ (readings : List ReadingRow) (s : State) (i : Invariant code s) (refs : ReferencesHold s (areas_of i.base))
      (held : Jobs (All code) s) (outcome : s.outcome ≡ None) (going : is_over s.phase ≡ false)
      (init : is_init s.phase ≡ true → InInit code facts bare storage Inner OnWay forms s)
      (rows : RowsReport storage s) where
    -- ---- the sequencer's frames

    module _ (f : Frame) (below : List Frame) (acts_is : s.activity.frames ≡ f ∷ below) (quiet : is_exec s.phase ≡ false)
        (step : Step) (done : frame_op code readings s TheSequencer s.activity ≡ Some step) where
      keeps : KeepsItsJob code s TheSequencer s.activity (areas_of i.base) f below
          (frame_op code readings s TheSequencer s.activity)
      keeps =
          kept code facts bare storage Inner OnWay forms readings s i refs held outcome f below acts_is

      either : JobGoesOn code s TheSequencer (areas_of i.base) f below step.state
          ⊎ (((below ≡ []) × HasLeft code s TheSequencer (areas_of i.base) f step.state)
          ⊎ HasFaulted code s TheSequencer s.activity step)
      either =
          subst (λ (y : Step). JobGoesOn code s TheSequencer (areas_of i.base) f below y.state
          ⊎ (((below ≡ []) × HasLeft code s TheSequencer (areas_of i.base) f y.state)
          ⊎ HasFaulted code s TheSequencer s.activity y))
          (some_inj keeps.step step (sym keeps.is ∙ done)) keeps.either

      -- initialisation goes on, and has not begun
      was_init : is_init step.state.phase ≡ true → is_init s.phase ≡ true
      unfolding fault_in is_init
      was_init k = of either
        where
          of : JobGoesOn code s TheSequencer (areas_of i.base) f below step.state
              ⊎ (((below ≡ []) × HasLeft code s TheSequencer (areas_of i.base) f step.state)
              ⊎ HasFaulted code s TheSequencer s.activity step) → is_init s.phase ≡ true
          of (inl g) = ap is_init (sym g.operation.phase) ∙ k
          of (inr (inl h)) = ap is_init (sym h.1.operation.phase) ∙ k
          of (inr (inr h)) =
              absurd (let over : is_init step.state.phase ≡ false = ap (λ (y : Step). is_init y.state.phase) h.is in
              cc (over, k))

      -- no body is under way when the memory of a mission is opened
      not_opening : (r : ℕ) (v : Value) → step.state.operation ≡ OpenMission r → step.state.outcome ≡ Some v → ⊥
      unfolding fault_in lowest body_called_by
      not_opening r v op out = of either
        where
          of : JobGoesOn code s TheSequencer (areas_of i.base) f below step.state
              ⊎ (((below ≡ []) × HasLeft code s TheSequencer (areas_of i.base) f step.state)
              ⊎ HasFaulted code s TheSequencer s.activity step) → ⊥
          of (inl g) = (let n = outcome in let p = g.outcome in cc (n, p, out))
          of (inr (inl h)) =
              (let called = i.sequencer.called f going
              (ap lowest acts_is ∙ ap (λ (gs : List Frame). lowest (f ∷ gs)) h.0) in
              let runs = called.runs in
              let same : s.operation ≡ OpenMission r = sym h.1.operation.operation ∙ op in
              let none : body_called_by code.program (world_of s) s.operation ≡ None =
              ap (body_called_by code.program (world_of s)) same in
              cc (none, runs))
          of (inr (inr h)) =
              (let none : step.state.outcome ≡ None = ap (λ (y : Step). y.state.outcome) h.is in cc (none, out))

      with_op : (op : Op) (rest : List Op) → f.rest ≡ op ∷ rest → Shown step.state
      with_op op rest ops = record {
        init = λ k. init_stays code facts bare storage Inner OnWay forms readings s i refs held outcome f below
            acts_is step done op rest ops (init (was_init k)) k;
        opened = λ r v e k. absurd (not_opening r v e k);
        rows = by (is_init s.phase) refl;
      }
        where
          did : applied code s TheSequencer s.activity below (position_of_op code op)
              (effect_of code (environment readings s) (record f { rest = rest }) op) ≡ Some step
          did =
              does code facts bare storage Inner OnWay forms readings s i refs held outcome f below acts_is step done op rest
              ops

          by : (b : Bool) → is_init s.phase ≡ b → RowsReport storage step.state
          by true e =
              rows_report code facts bare storage Inner OnWay forms readings s i refs held outcome f below
              acts_is step done op rest ops (init e) rows
          by false e =
              of ((rows_stay code s s.activity below (position_of_op code op)
              (effect_of code (environment readings s) (record f { rest = rest }) op)).is step did)
            where
              of : (step.state.registry ≡ s.registry) ⊎ (is_init s.phase ≡ true) → RowsReport storage step.state
              of (inl q) = same_rows storage s step.state q rows
              of (inr q) = absurd (cc (q, e))

      pub of_frame : Shown step.state
      unfolding frame_op
      of_frame = of f.rest refl
        where
          of : (ops : List Op) → f.rest ≡ ops → Shown step.state
          of (op ∷ rest) e = with_op op rest e
          of [] e =
              absurd (let none : frame_op code readings s TheSequencer s.activity ≡ None =
              ap (λ (fs : List Frame). elim fs as (λ z. Option Step) [
                | [] ↦ None
                | g ∷ gs ↦ elim g.rest as (λ z. Option Step) [
                  | [] ↦ None
                  | op ∷ rest ↦ applied code s TheSequencer s.activity gs (position_of_op code op)
                      (effect_of code (environment readings s) (record g { rest = rest }) op)
                ]
              ]) acts_is
              ∙ ap (λ (ops : List Op). elim ops as (λ z. Option Step) [
                | [] ↦ None
                | op ∷ rest ↦ applied code s TheSequencer s.activity below (position_of_op code op)
                    (effect_of code (environment readings s) (record f { rest = rest }) op)
              ]) e in cc (none, done))
