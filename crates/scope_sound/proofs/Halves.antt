-- What a sound state has: each of its jobs is framed, and all objects and areas are placed. An operation of an accepted
-- program leaves a state so, and what it stores may be stored.
use Rattle.std.proofs.Common.{◌≡◌, ℕ, Bool, true, false, refl, sym, ◌∙◌, ap, subst, List, Option, Some, None, true≢false, ◌⊎◌, inl, inr}
use Rattle.scj_base.specs.declared.values.Value.{Value}
use Rattle.scj_tree.specs.Forest.{Forest}
use Rattle.scj_rules.specs.Words.{is_among}
use Rattle.scj_model.specs.declared.operations.SeqOp.{SeqOp}
use Rattle.scj_model.specs.declared.operations.SeqOp.TheVariants.{OpenImmortal, AllocSafelet, ConstructSafelet, InitializeApplication, GetSequencer, GetNextMission, OpenMission, Initialize, CleanUp, Execute, Finished}
use Rattle.scj_model.specs.declared.plans.ReadingRow.{ReadingRow}
use Rattle.scj_model.specs.Code.{Code, code_of}
use Rattle.scj_model.specs.Plan.{Plan}
use Rattle.scj_model.specs.State.{MemoryArea, Activity, Job, ReleaseAt, State, activity_of, is_exec}
use Rattle.scj_model.specs.Steps.{Step}
use Rattle.scj_model.specs.Choice.{by_list}
use Rattle.scj_model.specs.Run.{ref_op}
use Rattle.scj_model.specs.Reached.{Moment, Between, Arrived, Operated, Reached}
use Rattle.scj_model.specs.Safety.{job_may_act, passes}
use Rattle.accepted_laws.specs.Programs.{IsAcceptedProgram}
use Rattle.frame_sound.specs.Places.{world_of}
use Rattle.mission_sound.specs.Bases.{Base, areas_of, BaseSuits, IsInMission}
use Rattle.mission_sound.specs.Invariant.{Invariant, IsPrivateScope, phase_of}
use Rattle.mission_sound.proofs.Jobs.{not_under_way}
use Rattle.reference_sound.specs.References.{ReferencesHold}
use Rattle.reference_sound.proofs.Passes.{job_passes}
use Rattle.scope_sound.specs.FramedAndPlaced.{Framed, Placed}
use Rattle.scope_sound.specs.Sound.{HasFacts, Sound, SoundAfter, SoundAt}
use Rattle.scope_sound.proofs.Framing.{frames_framed}
use Rattle.scope_sound.proofs.InAnyOrder.{reached_is_sound}
use Rattle.scope_sound.proofs.Operated.{operated}
use Rattle.scope_sound.proofs.Rooted.{immortal_is_open}
use Rattle.scope_sound.proofs.Safe.{has_facts}

-- in execution the memory of the mission is open, also once the operation is done
started_in_mission : (operation : SeqOp) (outcome : Option Value) (base : Base) →
    is_exec (phase_of operation) ≡ true → BaseSuits operation outcome base → IsInMission base
unfolding phase_of is_exec
started_in_mission Execute None base exec h = h
started_in_mission Execute (Some v) base exec h = h
started_in_mission OpenImmortal outcome base exec h = absurd (true≢false (sym exec))
started_in_mission AllocSafelet outcome base exec h = absurd (true≢false (sym exec))
started_in_mission (ConstructSafelet r) outcome base exec h = absurd (true≢false (sym exec))
started_in_mission (InitializeApplication r) outcome base exec h = absurd (true≢false (sym exec))
started_in_mission (GetSequencer r) outcome base exec h = absurd (true≢false (sym exec))
started_in_mission (GetNextMission r) outcome base exec h = absurd (true≢false (sym exec))
started_in_mission (OpenMission r) outcome base exec h = absurd (true≢false (sym exec))
started_in_mission (Initialize r) outcome base exec h = absurd (true≢false (sym exec))
started_in_mission (CleanUp r) outcome base exec h = absurd (true≢false (sym exec))
started_in_mission Finished outcome base exec h = absurd (true≢false (sym exec))

module _ (code : Code) (s : State) (i : Invariant code s) (held : ReferencesHold s (areas_of i.base)) where
  release_in_mission : (index : ℕ) (activity : Activity) → activity_of s (ReleaseAt index) ≡ Some activity →
      IsInMission i.base
  release_in_mission index activity is = go (is_exec s.phase) refl
    where
      go : (t : Bool) → is_exec s.phase ≡ t → IsInMission i.base
      go true e =
          started_in_mission s.operation s.outcome i.base (sym (ap is_exec i.sequencer.phase) ∙ e)
          i.sequencer.base_suits
      go false e = absurd (not_under_way s (i.handlers.none_started e) index activity is)

  pub framed : (job : Job) → Framed code s job
  framed job =
      record {
        base = i.base;
        suits = i.sequencer.base_suits;
        memory = i.sequencer.base_fine;
        of_release = λ index activity e is.
            release_in_mission index activity (ap (activity_of s) (sym e) ∙ is);
        frames = i.memories.jobs job;
        each = λ activity is.
            frames_framed code (world_of s) (areas_of i.base) activity.frames (i.memories.jobs job activity is).frames;
        locals = held.jobs job;
      }

  scope_of_open : (a : ℕ) (x : MemoryArea) → (world_of s).areas a ≡ Some x → x.is_open ≡ true →
      (is_among a (areas_of i.base) ≡ true) ⊎ IsPrivateScope code.program x.scope
  scope_of_open a x there opens =
      elim (i.memories.owned a x there opens) as
      (λ z. (is_among a (areas_of i.base) ≡ true) ⊎ IsPrivateScope code.program x.scope) [
        | inl on ↦ inl on
        | inr p ↦ inr p.defined
      ]

  pub placed : Placed code s
  placed =
      record {
        invariant = i;
        memory = held.memory;
        parents = i.memories.memory.areas.parents;
        immortal = immortal_is_open code s i.base i.sequencer.base_fine;
        scopes = scope_of_open;
      }

-- ---- after an operation

module _ (forest : Forest) (accepted : IsAcceptedProgram forest) where
  abbrev facts : HasFacts (code_of forest)
  facts = has_facts forest accepted

  module _ (rows : List ReadingRow) (s : State) (job : Job) (sound : Sound (code_of forest) s)
      (may : job_may_act s job ≡ true) where
    same_step : (a b : Step) → Some a ≡ Some b → a ≡ b
    same_step a b e = cc (e)

    after : (step : Step) → ref_op (code_of forest) rows s job ≡ Some step → SoundAfter (code_of forest) step.state
    after step e =
        let x = operated (code_of forest) facts.bodies facts.sequencer rows s job sound may in
        subst (λ (y : Step). SoundAfter (code_of forest) y.state) (same_step x.step step (sym x.is ∙ e)) x.after

    pub is_framed : (step : Step) → ref_op (code_of forest) rows s job ≡ Some step →
        Framed (code_of forest) step.state job
    is_framed step e =
        let x = after step e in framed (code_of forest) step.state x.after.invariant x.references job

    pub is_placed : (step : Step) → ref_op (code_of forest) rows s job ≡ Some step →
        Placed (code_of forest) step.state
    is_placed step e = let x = after step e in placed (code_of forest) step.state x.after.invariant x.references

    pub what_is_stored_passes : passes (code_of forest) rows s job ≡ true
    what_is_stored_passes =
        job_passes (code_of forest) facts.bodies rows s (areas_of sound.settled.invariant.base) job sound.references
        sound.settled.invariant.memories.memory (sound.settled.invariant.memories.jobs job)

  -- ---- in each state that a run comes to

  module _ (plan : Plan) (choices : List ℕ) (moment : Moment) (s : State)
      (reached : Reached (code_of forest) plan (by_list choices) moment s) where
    pub reached_sound : SoundAt (code_of forest) moment s
    reached_sound =
        reached_is_sound (code_of forest) facts (operated (code_of forest) facts.bodies facts.sequencer) plan choices
        moment s reached

    framed_at : (m : Moment) → SoundAt (code_of forest) m s → (job : Job) → Framed (code_of forest) s job
    framed_at Between h job = framed (code_of forest) s h.settled.invariant h.references job
    framed_at Arrived h job = framed (code_of forest) s h.0.settled.invariant h.0.references job
    framed_at Operated h job = framed (code_of forest) s h.after.invariant h.references job

    placed_at : (m : Moment) → SoundAt (code_of forest) m s → Placed (code_of forest) s
    placed_at Between h = placed (code_of forest) s h.settled.invariant h.references
    placed_at Arrived h = placed (code_of forest) s h.0.settled.invariant h.0.references
    placed_at Operated h = placed (code_of forest) s h.after.invariant h.references

    pub reached_framed : (job : Job) → Framed (code_of forest) s job
    reached_framed job = framed_at moment reached_sound job

    pub reached_placed : Placed (code_of forest) s
    reached_placed = placed_at moment reached_sound
