-- Each reached state is sound, whichever release is named in each unit; so programs that have what the rules promise
-- are safe in any order.
use Rattle.std.proofs.Common.{◌≡◌, ℕ, List, [], ◌∷◌, ◌++◌, Bool, true, false, not, ◌&&◌, refl, sym, ◌∙◌, ap, subst, Option, Some, None, if◌then◌else◌, is_some}
use Rattle.std.specs.Prelude.{IsSome, option_map, slice_get}
use Rattle.scj_rules.specs.Words.{◌>>=◌}
use Rattle.scj_model.specs.declared.plans.ReadingRow.{ReadingRow}
use Rattle.scj_model.specs.Code.{Code}
use Rattle.scj_model.specs.Plan.{Plan}
use Rattle.scj_model.specs.State.{Job, TheSequencer, ReleaseAt, State, is_exec, is_over, Turn, IdleTurn, TurnOf}
use Rattle.scj_model.specs.Steps.{Step, silently, reporting, then_try}
use Rattle.scj_model.specs.Choice.{Candidate, candidate, candidates, may_act, by_list}
use Rattle.scj_model.specs.Run.{acts, ref_op, sequencer_turn, turn_acts, turn_taken, with_turn}
use Rattle.scj_model.specs.Reached.{Moment, Between, Arrived, Operated, Reached}
use Rattle.scj_model.specs.Safety.{IsSafeInAnyOrder, NoDangling, job_may_act}
use Rattle.scj_model.proofs.Reaching.{reached_keeps}
use Rattle.mission_sound.specs.Bases.{areas_of}
use Rattle.mission_sound.specs.Invariant.{Invariant}
use Rattle.mission_sound.proofs.Phases.{phase_follows, time_passes}
use Rattle.reference_sound.proofs.Passes.{job_passes}
use Rattle.reference_sound.proofs.PhaseHolds.{rests}
use Rattle.scope_sound.specs.Sound.{HasFacts, OperatesSoundly, Sound, SoundAfter, SoundAt}
use Rattle.scope_sound.proofs.Arrived.{sound_at_first, sound_on_arrival}
use Rattle.scope_sound.proofs.Followed.{sound_on_phase}
use Rattle.scope_sound.proofs.OneBase.{holds_on}
use Rattle.scope_sound.proofs.Rooted.{no_dangling}

-- each operation of a job that may act has a result, which is sound
abbrev pub AllOperate : Code → Type 0
AllOperate code =
    (rows : List ReadingRow) (s : State) (job : Job) → Sound code s → job_may_act s job ≡ true →
    OperatesSoundly code (ref_op code rows s job)

module _ (code : Code) (facts : HasFacts code) (operates : AllOperate code) where
  some_step : (a b : Step) → Some a ≡ Some b → a ≡ b
  some_step a b e = cc (e)

  -- ---- the turn that was taken

  turned : (s : State) (turn : Turn) → Sound code s → Sound code (with_turn s turn)
  turned s turn sound =
      let i : Invariant code (with_turn s turn) = time_passes code s s.unit (Some turn) sound.settled.invariant in
      record {
        settled = record { invariant = i; followed = sound.settled.followed };
        references = holds_on code s (with_turn s turn) sound.settled.invariant.base i.base refl
            sound.settled.invariant.memories i.memories
            (rests s (areas_of sound.settled.invariant.base) sound.references (with_turn s turn) refl refl refl refl
            refl);
      }

  rested : (s : State) → Sound code s → SoundAfter code s
  rested s sound =
      record {
        after = record {
          invariant = sound.settled.invariant;
          done = λ value e. absurd (let z : None ≡ Some value = sym sound.settled.followed ∙ e in cc (z));
        };
        references = sound.references;
      }

  -- ---- who acts

  record Lead (o : Option Step) : Type 0 where
    pub is : (step : Step) → o ≡ Some step → SoundAfter code step.state

  leads : (o : Option Step) → OperatesSoundly code o → Lead o
  leads o x =
      record {
        is = λ step e. subst (λ (y : Step). SoundAfter code y.state) (some_step x.step step (sym x.is ∙ e))
            x.after;
      }

  reported_leads : (first : Step) (o : Option Step) → Lead o →
      Lead (option_map (λ (second : Step). reporting second.state (first.events ++ second.events)) o)
  reported_leads first None x = record { is = λ step e. absurd (cc (e)) }
  reported_leads first (Some second) x =
      record {
        is = λ step e.
            subst (λ (y : Step). SoundAfter code y.state)
            (some_step (reporting second.state (first.events ++ second.events)) step e) (x.is second refl);
      }

  named_may_act : (s : State) (index : ℕ) → is_exec s.phase ≡ true → may_act s index ≡ true →
      job_may_act (with_turn s (TurnOf index)) (ReleaseAt index) ≡ true
  unfolding job_may_act may_act candidate
  named_may_act s index exec may = ap (λ b. b && may_act s index) exec ∙ may

  module _ (rows : List ReadingRow) (s : State) (sound : Sound code s) where
    turn_leads : (turn : Turn) → is_exec s.phase ≡ true →
        ((index : ℕ) → turn ≡ TurnOf index → may_act s index ≡ true) →
        Lead (then_try (turn_taken s turn) (turn_acts code rows turn))
    unfolding turn_taken turn_acts
    turn_leads IdleTurn exec may =
        reported_leads (turn_taken s IdleTurn) (Some (silently (with_turn s IdleTurn)))
        (record {
          is = λ step e.
              subst (λ (y : Step). SoundAfter code y.state) (some_step (silently (with_turn s IdleTurn)) step e)
              (rested (with_turn s IdleTurn) (turned s IdleTurn sound));
        })
    turn_leads (TurnOf index) exec may =
        reported_leads (turn_taken s (TurnOf index)) (ref_op code rows (with_turn s (TurnOf index)) (ReleaseAt index))
        (leads _ (operates rows (with_turn s (TurnOf index)) (ReleaseAt index) (turned s (TurnOf index) sound)
        (named_may_act s index exec (may index refl))))

    list_leads : (choices : List ℕ) → is_exec s.phase ≡ true →
        Lead (by_list choices s >>= (λ turn. then_try (turn_taken s turn) (turn_acts code rows turn)))
    unfolding by_list
    list_leads choices exec = go (candidates s)
      where
        next : Turn → Option Step
        next turn = then_try (turn_taken s turn) (turn_acts code rows turn)

        chosen : (index : ℕ) (b : Bool) → may_act s index ≡ b →
            Lead ((if b then Some (TurnOf index) else None) >>= next)
        chosen index true e =
            turn_leads (TurnOf index) exec (λ q same. (let p : index ≡ q = cc (same) in ap (may_act s) (sym p) ∙ e))
        chosen index false e = record { is = λ step e. absurd (cc (e)) }

        named : (o : Option ℕ) →
            Lead ((o >>= (λ index. if may_act s index then Some (TurnOf index) else None)) >>= next)
        named None = record { is = λ step e. absurd (cc (e)) }
        named (Some index) = chosen index (may_act s index) refl

        go : (cs : List Candidate) →
            Lead ((elim cs as (λ z. Option Turn) [
              | [] ↦ Some IdleTurn
              | c ∷ more ↦
                  slice_get choices s.unit >>= (λ index. if may_act s index then Some (TurnOf index) else None)
            ]) >>= next)
        go [] = turn_leads IdleTurn exec (λ q same. absurd (cc (same)))
        go (c ∷ more) = named (slice_get choices s.unit)

    outside_may_act : is_exec s.phase ≡ false → is_over s.phase ≡ false → job_may_act s TheSequencer ≡ true
    unfolding job_may_act
    outside_may_act exec over = ap (λ b. not b && not (is_over s.phase)) exec ∙ ap not over

    acts_lead : (choices : List ℕ) → is_over s.phase ≡ false → Lead (acts code rows (by_list choices) s)
    unfolding acts ref_op
    acts_lead choices over = go (is_exec s.phase) refl
      where
        go : (b : Bool) → is_exec s.phase ≡ b →
            Lead (if b
            then by_list choices s >>= (λ turn. then_try (turn_taken s turn) (turn_acts code rows turn))
            else sequencer_turn code rows s)
        go true e = list_leads choices e
        go false e = leads _ (operates rows s TheSequencer sound (outside_may_act e over))

  -- ---- all reached states

  pub reached_is_sound : (plan : Plan) (choices : List ℕ) (moment : Moment) (s : State) →
      Reached code plan (by_list choices) moment s → SoundAt code moment s
  reached_is_sound plan choices moment s h =
      reached_keeps code plan (by_list choices) (SoundAt code) (sound_at_first code facts.sequencer plan)
      (λ s sound e. sound_on_arrival code plan s sound e)
      (λ s step at e. (acts_lead plan.readings s at.0 choices at.1).is step e)
      (λ s step after e. sound_on_phase code s after step e) h

  dangles_nowhere : (moment : Moment) (s : State) → SoundAt code moment s → NoDangling s
  dangles_nowhere Between s h = no_dangling code s h.settled.invariant h.references
  dangles_nowhere Arrived s h = no_dangling code s h.0.settled.invariant h.0.references
  dangles_nowhere Operated s h = no_dangling code s h.after.invariant h.references

  some_there : (o : Option Step) (step : Step) → o ≡ Some step → IsSome o
  some_there o step e = ap is_some e

  pub safe_in_any_order : IsSafeInAnyOrder code
  safe_in_any_order =
      record {
        none_dangles = λ plan choices moment s h. dangles_nowhere moment s (reached_is_sound plan choices moment s h);
        none_is_stuck = λ plan choices s job h may.
            (let x = operates plan.readings s job (reached_is_sound plan choices Arrived s h).0 may in
            some_there _ x.step x.is);
        stores_pass = λ plan choices s job h may.
            (let x = (reached_is_sound plan choices Arrived s h).0 in
            job_passes code facts.bodies plan.readings s (areas_of x.settled.invariant.base) job x.references
            x.settled.invariant.memories.memory (x.settled.invariant.memories.jobs job));
        goes_on = λ plan choices s h.
            (let x = phase_follows code s (reached_is_sound plan choices Operated s h).after in
            some_there _ x.step x.is);
      }
