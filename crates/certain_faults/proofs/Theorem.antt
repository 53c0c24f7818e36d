-- Each operation that is certain to end with a fault ends with it, in each state that a run comes to.
use Rattle.std.specs.Prelude.{None}
use Rattle.std.proofs.Common.{◌≡◌, ℕ, List, ◌∷◌, subst}
use Rattle.scj_base.specs.declared.faults.RunFault.{RunFault}
use Rattle.scj_tree.specs.Forest.{Forest}
use Rattle.accepted_laws.specs.Programs.{IsAcceptedProgram}
use Rattle.accepted_laws.proofs.Typed.{behind_children}
use Rattle.accepted_laws.proofs.TypesBelow.{BehindChildren}
use Rattle.scj_model.specs.declared.operations.Op.{Op}
use Rattle.scj_model.specs.declared.plans.ReadingRow.{ReadingRow}
use Rattle.scj_model.specs.Code.{Code, code_of}
use Rattle.scj_model.specs.Plan.{Plan}
use Rattle.scj_model.specs.State.{Frame, Job, State}
use Rattle.scj_model.specs.Effects.{Effect, Faults, Stuck}
use Rattle.scj_model.specs.Choice.{by_list, by_priority}
use Rattle.scj_model.specs.Run.{environment, effect_at}
use Rattle.scj_model.specs.Reached.{Moment, Reached}
use Rattle.scj_model.proofs.Following.{by_some_list, fair_listed, priority_is_fair}
use Rattle.scope_flow.specs.Facts.{Facts}
use Rattle.frame_sound.specs.Places.{world_of}
use Rattle.frame_sound.specs.Fine.{Ready, FramesFine, list_of}
use Rattle.frame_sound.specs.EffectsFine.{Fine as EffectIsFine}
use Rattle.frame_sound.proofs.NextOperation.{next_fine}
use Rattle.mission_sound.specs.Bases.{areas_of}
use Rattle.mission_sound.specs.Invariant.{Invariant}
use Rattle.reference_sound.proofs.Passes.{highest_ready}
use Rattle.scope_sound.specs.Sound.{HasFacts}
use Rattle.scope_sound.proofs.Safe.{has_facts}
use Rattle.certain_faults.specs.Faults.{FaultsFor}
use Rattle.certain_faults.specs.Next.{IsNext}
use Rattle.certain_faults.proofs.Passes.{Passes}
use Rattle.certain_faults.proofs.RunsOfNodes.{ClassesAskNothing}
use Rattle.certain_faults.proofs.Jobs.{Jobs}
use Rattle.certain_faults.proofs.Runs.{All, all_explained, classes_ask_nothing, invariant_of}
use Rattle.certain_faults.proofs.Ends.{certain_ends}

module _ (code : Code) (facts : Facts code) (behind : BehindChildren code.program) (rows : List ReadingRow) (s : State)
    (i : Invariant code s) (held : Jobs (All code) s) (job : Job) (op : Op) (fault : RunFault) (next : IsNext s job op)
    (x : FaultsFor code op fault) where
  abbrev f : Frame
  f = next.frame

  abbrev base : List ℕ
  base = areas_of i.base

  abbrev list : List ℕ
  list = list_of (areas_of i.base) (next.frame ∷ next.below)

  mine : All code (next.frame ∷ next.below)
  mine = subst (All code) next.frames (held.are job next.activity next.is_activity)

  frames_fine : FramesFine code (world_of s) (areas_of i.base) (next.frame ∷ next.below)
  frames_fine =
      subst (FramesFine code (world_of s) (areas_of i.base)) next.frames
      (i.memories.jobs job next.activity next.is_activity).frames

  ready : Ready code (world_of s) list frames_fine.0.class frames_fine.0.sig (record f { rest = op ∷ next.rest }) None
  ready =
      subst
      (λ ops. Ready code (world_of s) list frames_fine.0.class frames_fine.0.sig (record f { rest = ops }) None) next.ops
      (highest_ready code (world_of s) list f frames_fine.0)

  fine : EffectIsFine code (world_of s) list frames_fine.0.class frames_fine.0.sig (record f { rest = next.rest })
      (effect_at code rows s f op next.rest)
  fine =
      next_fine code facts (world_of s).areas (environment rows s) list frames_fine.0.class frames_fine.0.sig f op
      next.rest frames_fine.1 i.memories.memory.heap i.memories.memory.statics ready

  not_stuck : effect_at code rows s f op next.rest ≡ Stuck → ⊥
  not_stuck e =
      (subst (λ (a : Effect). EffectIsFine code (world_of s) list frames_fine.0.class frames_fine.0.sig
      (record f { rest = next.rest }) a) e fine).is

  ends : effect_at code rows s f op next.rest ≡ Faults fault
  ends =
      let passes : Passes code (op ∷ next.rest) mine.0.stack =
      subst (λ (ops : List Op). Passes code ops mine.0.stack) next.ops mine.0.passes in
      (certain_ends code behind (environment rows s) (record f { rest = next.rest }) mine.0.stack mine.0.shadows fault op
      x passes.0).is not_stuck

module _ (forest : Forest) (accepted : IsAcceptedProgram forest) (plan : Plan) where
  abbrev its : Code
  its = code_of forest

  behind : BehindChildren (code_of forest).program
  unfolding code_of
  behind = behind_children forest accepted.whole

  pub certain_in_any_order : (choices : List ℕ) (moment : Moment) (s : State) (job : Job) (op : Op) (fault : RunFault) →
      Reached (code_of forest) plan (by_list choices) moment s → FaultsFor (code_of forest) op fault →
      (next : IsNext s job op) → effect_at (code_of forest) plan.readings s next.frame op next.rest ≡ Faults fault
  certain_in_any_order choices moment s job op fault reached x next =
      let facts : HasFacts (code_of forest) = has_facts forest accepted in
      let bare : ClassesAskNothing (code_of forest) = classes_ask_nothing forest accepted in
      ends (code_of forest) facts.bodies behind plan.readings s
      (invariant_of (code_of forest) facts bare plan choices moment s reached)
      (all_explained (code_of forest) facts bare plan choices moment s reached) job op fault next x

  pub certain_by_priority : (moment : Moment) (s : State) (job : Job) (op : Op) (fault : RunFault) →
      Reached (code_of forest) plan by_priority moment s → FaultsFor (code_of forest) op fault →
      (next : IsNext s job op) → effect_at (code_of forest) plan.readings s next.frame op next.rest ≡ Faults fault
  certain_by_priority moment s job op fault reached x next =
      let l = by_some_list (code_of forest) plan moment s
      (fair_listed (code_of forest) plan by_priority priority_is_fair reached) in
      certain_in_any_order l.0 moment s job op fault l.1 x next
