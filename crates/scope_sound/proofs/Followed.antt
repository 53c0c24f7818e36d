-- What follows an operation leads from a state that is sound after it to one in which the next unit begins sound.
use Rattle.std.proofs.Common.{◌≡◌, ℕ, List, [], Bool, true, false, not, ◌&&◌, refl, sym, ◌∙◌, ap, subst, Option, Some, None, if◌then◌else◌}
use Rattle.std.specs.Prelude.{option_map, ◌||◌}
use Rattle.scj_base.specs.declared.values.Value.{Value}
use Rattle.scj_rules.specs.Words.{◌>>=◌}
use Rattle.scj_rules.specs.Classes.{is_empty}
use Rattle.scj_model.specs.declared.operations.SeqOp.TheVariants.{CleanUp}
use Rattle.scj_model.specs.declared.phases.Phase.TheVariants.{Cleanup}
use Rattle.scj_model.specs.Code.{Code}
use Rattle.scj_model.specs.State.{Activity, Release, Job, TheSequencer, ReleaseAt, State, activity_of, is_exec}
use Rattle.scj_model.specs.Steps.{Step, silently, fault_in}
use Rattle.scj_model.specs.Sequencer.{SeqEffect, Continues, TakesSafelet, TakesSequencer, TakesMission, LacksSequencer, LacksMission, BeginsMission, BeginsExecution, SkipsExecution, EndsExecution, ClosesMission, Transition, goes_to, seq_applied, transition, transition_done, after_operation, after_execution, has_started, phase_after}
use Rattle.scj_model.specs.Memory.{closed}
use Rattle.scj_model.specs.Run.{next_unit}
use Rattle.mission_sound.specs.Bases.{Base, areas_of}
use Rattle.mission_sound.specs.Invariant.{Settled}
use Rattle.mission_sound.proofs.Jobs.{not_under_way, sequencer_activity}
use Rattle.mission_sound.proofs.Phases.{phase_follows}
use Rattle.reference_sound.specs.References.{ReferencesHold}
use Rattle.reference_sound.proofs.PhaseHolds.{phase_keeps, rests}
use Rattle.reference_sound.proofs.RunHolds.{held_frameless}
use Rattle.scope_sound.specs.Sound.{Sound, SoundAfter}
use Rattle.scope_sound.proofs.OneBase.{holds_on}

-- ---- what holds of each result

record Each (P : State → Type 0) (o : Option Step) : Type 0 where
  pub is : (step : Step) → o ≡ Some step → P step.state

some_step : (a b : Step) → Some a ≡ Some b → a ≡ b
some_step a b e = cc (e)

each_some : (P : State → Type 0) (step : Step) → P step.state → Each P (Some step)
each_some P step h = record { is = λ t e. subst (λ (x : Step). P x.state) (some_step step t e) h }

each_mapped : {A : Type 0} (P : State → Type 0) (f : A → Step) (o : Option A) → ((x : A) → P (f x).state) →
    Each P (option_map f o)
each_mapped P f None h = record { is = λ t e. absurd (cc (e)) }
each_mapped P f (Some x) h = each_some P (f x) (h x)

-- ---- frames and releases are as before, and in execution the areas too

record SameJobs (s t : State) : Type 0 where
  pub frames : t.activity.frames ≡ s.activity.frames
  pub releases : t.releases ≡ s.releases

same_jobs : (s t : State) → t.activity.frames ≡ s.activity.frames → t.releases ≡ s.releases → SameJobs s t
same_jobs s t e f = record { frames = e; releases = f }

closed_jobs : (s : State) (o : Option ℕ) → (closed s o).releases ≡ s.releases
unfolding closed
closed_jobs s None = refl
closed_jobs s (Some a) = refl

module _ (code : Code) where
  applied_jobs : (s : State) (e : SeqEffect) → SameJobs s (seq_applied code s e).state
  unfolding seq_applied fault_in
  applied_jobs s Continues = same_jobs s s refl refl
  applied_jobs s (TakesSafelet r) = record { frames = refl; releases = refl }
  applied_jobs s (TakesSequencer r) = record { frames = refl; releases = refl }
  applied_jobs s (TakesMission r) = record { frames = refl; releases = refl }
  applied_jobs s (LacksSequencer safelet) = record { frames = refl; releases = refl }
  applied_jobs s LacksMission = record { frames = refl; releases = refl }
  applied_jobs s (BeginsMission r) = record { frames = refl; releases = refl }
  applied_jobs s BeginsExecution = record { frames = refl; releases = refl }
  applied_jobs s SkipsExecution = record { frames = refl; releases = refl }
  applied_jobs s EndsExecution = record { frames = refl; releases = refl }
  applied_jobs s ClosesMission = record { frames = refl; releases = closed_jobs s _ }

  done_jobs : (s : State) (t : Transition) → SameJobs s (transition_done code s t).state
  done_jobs s t =
      let h = applied_jobs (record s { phase = t.phase; operation = t.operation; outcome = None }) t.effect in
      record { frames = h.frames; releases = h.releases }

  operation_jobs : (s : State) (value : Value) → Each (SameJobs s) (after_operation code s value)
  operation_jobs s value =
      each_mapped (SameJobs s) (transition_done code s)
      (transition s.mission_sequencer (is_empty s.registry || s.is_end_asked) s.operation value) (done_jobs s)

  abbrev SameActivity : State → State → Type 0
  SameActivity s t = t.activity ≡ s.activity

  ended_activity : (s : State) (r : ℕ) → SameActivity s
      (transition_done code s (record { phase = Cleanup; operation = CleanUp r; effect = EndsExecution })).state
  unfolding seq_applied
  ended_activity s r = refl

  execution_activity : (s : State) → Each (SameActivity s) (after_execution code s)
  execution_activity s = go (s.is_end_asked && not (has_started s))
    where
      ended : (o : Option ℕ) → Each (SameActivity s)
          (option_map (transition_done code s) (o >>= (λ r. goes_to Cleanup (CleanUp r) EndsExecution)))
      ended None = record { is = λ t e. absurd (cc (e)) }
      ended (Some r) = each_some (SameActivity s) _ (ended_activity s r)

      go : (b : Bool) → Each (SameActivity s) (if b
          then option_map (transition_done code s) (s.mission >>= (λ r. goes_to Cleanup (CleanUp r) EndsExecution))
          else Some (silently s))
      go true = ended s.mission
      go false = each_some (SameActivity s) (silently s) refl

  -- ---- the base may be another one, as no job has a frame, or is the one as before

  frameless : (s t : State) → SameJobs s t → s.activity.frames ≡ [] → has_started s ≡ false → (job : Job)
      (activity : Activity) → activity_of t job ≡ Some activity → activity.frames ≡ []
  unfolding activity_of
  frameless s t same none not_started TheSequencer activity e =
      ap (λ (a : Activity). a.frames) (sym (sequencer_activity t activity e)) ∙ (same.frames ∙ none)
  frameless s t same none not_started (ReleaseAt index) activity e =
      absurd (not_under_way s not_started index activity
      (subst (λ (rs : List Release). activity_of (record t { releases = rs }) (ReleaseAt index) ≡ Some activity)
      same.releases e))

  module _ (s : State) (a : SoundAfter code s) where
    abbrev base : Base
    base = a.after.invariant.base

    abbrev Lands : State → Type 0
    Lands t = (b : Settled code (next_unit t)) → ReferencesHold t (areas_of base) →
        ReferencesHold (next_unit t) (areas_of b.invariant.base)

    in_next : (t : State) (list : List ℕ) → ReferencesHold t list → ReferencesHold (next_unit t) list
    in_next t list held = rests t list held (next_unit t) refl refl refl refl refl

    same_lands : (t : State) → SameActivity s t → Lands t
    same_lands t e b held =
        holds_on code s (next_unit t) base b.invariant.base e a.after.invariant.memories b.invariant.memories
        (in_next t (areas_of base) held)

    other_lands : is_exec s.phase ≡ false → (value : Value) → s.outcome ≡ Some value → (t : State) → SameJobs s t →
        Lands t
    other_lands outside value is t same b held =
        in_next t (areas_of b.invariant.base)
        (held_frameless t (areas_of base) (areas_of b.invariant.base)
        (frameless s t same (a.after.done value is).frameless (a.after.invariant.handlers.none_started outside)) held)

    weaker : (P : State → Type 0) (o : Option Step) → Each P o → ((t : State) → P t → Lands t) → Each Lands o
    weaker P o h f = record { is = λ step e. f step.state (h.is step e) }

    all_land : Each Lands (phase_after code s)
    unfolding phase_after
    all_land = go (is_exec s.phase) refl
      where
        outside : is_exec s.phase ≡ false → (o : Option Value) → s.outcome ≡ o →
            Each Lands (elim o [ None ↦ Some (silently s) | Some value ↦ after_operation code s value ])
        outside e None is = each_some Lands (silently s) (same_lands s refl)
        outside e (Some value) is =
            weaker (SameJobs s) (after_operation code s value) (operation_jobs s value) (other_lands e value is)

        go : (b : Bool) → is_exec s.phase ≡ b →
            Each Lands (if b then after_execution code s
            else (elim s.outcome [ None ↦ Some (silently s) | Some value ↦ after_operation code s value ]))
        go true e = weaker (SameActivity s) (after_execution code s) (execution_activity s) same_lands
        go false e = outside e s.outcome refl

    pub sound_on_phase : (step : Step) → phase_after code s ≡ Some step → Sound code (next_unit step.state)
    sound_on_phase step e =
        let follows = phase_follows code s a.after in
        let settled : Settled code (next_unit step.state)
        = subst (λ (x : Step). Settled code (next_unit x.state)) (some_step follows.step step (sym follows.is ∙ e))
        follows.settled in
        record {
          settled = settled;
          references = all_land.is step e settled ((phase_keeps code s (areas_of base) a.references).gives step e);
        }
