-- What follows an operation keeps the order: it begins and ends execution while no release is started, and what it
-- closes is the mission's memory, which was opened last.
use Rattle.std.proofs.Common.{◌≡◌, ℕ, zero, suc, Bool, true, false, not, ◌&&◌, ◌||◌, List, [], ◌∷◌, ◌++◌, Option, Some, None, refl, sym, ap, ◌∙◌, subst}
use Rattle.std.specs.List.{list_any}
use Rattle.std.specs.Prelude.{option_map}
use Rattle.scj_base.specs.declared.values.Value.{Value}
use Rattle.scj_rules.specs.Words.{◌>>=◌}
use Rattle.scj_rules.specs.Classes.{is_empty}
use Rattle.scj_model.specs.declared.operations.SeqOp.TheVariants.{CleanUp}
use Rattle.scj_model.specs.declared.phases.Phase.TheVariants.{Cleanup}
use Rattle.scj_model.specs.Code.{Code}
use Rattle.scj_model.specs.State.{ReleaseStatus, Waits, Started, Ended, Dropped, Release, State, activity_in, is_started, is_exec}
use Rattle.scj_model.specs.Memory.{closed}
use Rattle.scj_model.specs.Steps.{fault_in, silently}
use Rattle.scj_model.specs.Sequencer.{innermost, without_innermost, SeqEffect, Continues, TakesSafelet, TakesSequencer, TakesMission, LacksSequencer, LacksMission, BeginsMission, BeginsExecution, SkipsExecution, EndsExecution, ClosesMission, Transition, goes_to, gone_to, mission_closed, seq_applied, transition, transition_done, after_operation, has_started, phase_after}
use Rattle.scj_model.proofs.Reaching.{Gives, gives_some}
use Rattle.priority_laws.specs.Started.{started_in, started_at}
use Rattle.priority_laws.specs.Nesting.{opened_by}
use Rattle.priority_laws.specs.InOrder.{IsInOrder}
use Rattle.priority_laws.proofs.AreaMoves.{AreasMove, areas_stay, area_closed}
use Rattle.priority_laws.proofs.StepCases.{gives_if, gives_mapped}
use Rattle.priority_laws.proofs.Executions.{IsKept, lifo_same}
use Rattle.priority_laws.proofs.SequencerMoves.{SequencerMoves, sequencer_kept}
use Rattle.priority_laws.proofs.SequencerEffects.{closed_releases, closed_outcome}

-- ---- no release is started

none_in : (r : Release) → is_started r.status ≡ false → started_in r ≡ None
unfolding started_in is_started activity_in
none_in r h = go r.status refl
  where
    go : (status : ReleaseStatus) → r.status ≡ status → started_in r ≡ None
    go Waits e = ap (λ status. started_in (record r { status = status })) e
    go (Started a) e = absurd (cc (h, ap is_started e))
    go Ended e = ap (λ status. started_in (record r { status = status })) e
    go Dropped e = ap (λ status. started_in (record r { status = status })) e

first_false : (a b : Bool) → (a || b) ≡ false → (a ≡ false) × (b ≡ false)
first_false true b h = absurd (cc (h))
first_false false b h = (refl, h)

none_at : (rs : List Release) (q : ℕ) → list_any (λ (r : Release). is_started r.status) rs ≡ false →
    started_at rs q ≡ None
unfolding started_at
none_at [] q h = refl
none_at (r ∷ rs) zero h = none_in r (first_false (is_started r.status) _ h).0
none_at (r ∷ rs) (suc q) h = none_at rs q (first_false (is_started r.status) _ h).1

-- ---- the effects of a transition

-- nobody has a frame, and the areas are as they were
resting : (s t : State) → ((q : ℕ) → started_at t.releases q ≡ None) → t.activity.frames ≡ [] → t.outcome ≡ None →
    t.areas ≡ s.areas → t.activity.areas ≡ s.activity.areas → SequencerMoves s t
resting s t none frames outcome areas list =
    record {
      none = none;
      inside = λ e. (frames, outcome);
      done = λ v e. frames;
      areas = subst (λ xs. AreasMove s.areas t.areas s.activity.areas xs) (sym list)
          (subst (λ xs. AreasMove s.areas xs s.activity.areas s.activity.areas) (sym areas)
          (areas_stay s.areas s.activity.areas));
      base = t.activity.areas;
      is_list = ap (λ fs. opened_by fs ++ t.activity.areas) (sym frames);
    }

-- the state has come to rest between two operations
record IsAtRest (s : State) : Type 0 where
  none : (q : ℕ) → started_at s.releases q ≡ None
  frames : s.activity.frames ≡ []
  outcome : s.outcome ≡ None

-- a step from one such state to another
record Rests (s t : State) : Type 0 where
  moves : SequencerMoves s t
  outcome : t.outcome ≡ None

-- the area that was opened last is closed
front_left : (s : State) (xs : List ℕ) → AreasMove s.areas (closed s (innermost xs)).areas xs (without_innermost xs)
unfolding closed innermost without_innermost
front_left s [] = areas_stay s.areas []
front_left s (a ∷ xs) = area_closed s.areas a xs

mission_moves : (s : State) → IsAtRest s → Rests s (mission_closed s)
mission_moves s r =
    record {
      moves = record {
        none = λ q. ap (λ rs. started_at rs q) (closed_releases s (innermost s.activity.areas)) ∙ r.none q;
        inside = λ e. (r.frames, closed_outcome s (innermost s.activity.areas) ∙ r.outcome);
        done = λ v e. r.frames;
        areas = front_left s s.activity.areas;
        base = without_innermost s.activity.areas;
        is_list = ap (λ fs. opened_by fs ++ without_innermost s.activity.areas) (sym r.frames);
      };
      outcome = closed_outcome s (innermost s.activity.areas) ∙ r.outcome;
    }

effect_moves : (code : Code) (s : State) (effect : SeqEffect) → IsAtRest s → Rests s (seq_applied code s effect).state
unfolding seq_applied fault_in
effect_moves code s Continues r =
    record { moves = resting s _ r.none r.frames r.outcome refl refl; outcome = r.outcome }
effect_moves code s (TakesSafelet q) r =
    record { moves = resting s _ r.none r.frames r.outcome refl refl; outcome = r.outcome }
effect_moves code s (TakesSequencer q) r =
    record { moves = resting s _ r.none r.frames r.outcome refl refl; outcome = r.outcome }
effect_moves code s (TakesMission q) r =
    record { moves = resting s _ r.none r.frames r.outcome refl refl; outcome = r.outcome }
effect_moves code s (LacksSequencer q) r = record { moves = resting s _ r.none r.frames refl refl refl; outcome = refl }
effect_moves code s LacksMission r =
    record { moves = resting s _ r.none r.frames r.outcome refl refl; outcome = r.outcome }
effect_moves code s (BeginsMission q) r =
    record { moves = resting s _ r.none r.frames r.outcome refl refl; outcome = r.outcome }
effect_moves code s BeginsExecution r =
    record { moves = resting s _ r.none r.frames r.outcome refl refl; outcome = r.outcome }
effect_moves code s SkipsExecution r =
    record { moves = resting s _ r.none r.frames r.outcome refl refl; outcome = r.outcome }
effect_moves code s EndsExecution r =
    record { moves = resting s _ r.none r.frames r.outcome refl refl; outcome = r.outcome }
effect_moves code s ClosesMission r = mission_moves s r

-- ---- what follows

pub record IsPhased (code : Code) (s t : State) : Type 0 where
  pub kept : IsKept code (Unit {0}) s t
  pub followed : t.outcome ≡ None

module _ (code : Code) (s : State) (o : IsInOrder s) where
  -- a transition while no release is started and the sequencer has no frame
  transits : (t : Option Transition) → ((q : ℕ) → started_at s.releases q ≡ None) → s.activity.frames ≡ [] →
      Gives (IsPhased code s) (option_map (transition_done code s) t)
  transits t none frames =
      gives_mapped (IsPhased code s) t (transition_done code s)
      (λ x e. phased x
      (effect_moves code (gone_to s x) x.effect (record { none = none; frames = frames; outcome = refl })))
    where
      phased : (x : Transition) → Rests (gone_to s x) (transition_done code s x).state →
          IsPhased code s (transition_done code s x).state
      phased x r =
          record {
            kept = sequencer_kept code s (transition_done code s x).state o none
                (record {
                  none = r.moves.none;
                  inside = r.moves.inside;
                  done = r.moves.done;
                  areas = r.moves.areas;
                  base = r.moves.base;
                  is_list = r.moves.is_list;
                })
                (Unit {0});
            followed = r.outcome;
          }

  stays : s.outcome ≡ None → IsPhased code s s
  stays e =
      record {
        kept = record { order = o; lifo = lifo_same s s refl; guarded = λ c h. h; bounded = λ c h. h };
        followed = e;
      }

  quiet_end : (a b : Bool) → (a && not b) ≡ true → b ≡ false
  quiet_end true false h = refl
  quiet_end true true h = absurd (cc (h))
  quiet_end false b h = absurd (cc (h))

  pub phase_kept : Gives (IsPhased code s) (phase_after code s)
  unfolding phase_after
  phase_kept =
      gives_if (IsPhased code s) (is_exec s.phase) _ _
      (λ e. gives_if (IsPhased code s) (s.is_end_asked && not (has_started s)) _ _
      (λ f. transits (s.mission >>= (λ r. goes_to Cleanup (CleanUp r) EndsExecution))
      (λ q. none_at s.releases q (quiet_end s.is_end_asked (has_started s) f)) (o.turns.inside e))
      (λ f. gives_some (IsPhased code s) (silently s) (stays (o.turns.waits e))))
      (λ e. on e s.outcome refl)
    where
      on : is_exec s.phase ≡ false → (v : Option Value) → s.outcome ≡ v →
          Gives (IsPhased code s) (elim v [ None ↦ Some (silently s) | Some value ↦ after_operation code s value ])
      on e None f = gives_some (IsPhased code s) (silently s) (stays f)
      on e (Some value) f =
          transits (transition s.mission_sequencer (is_empty s.registry || s.is_end_asked) s.operation value)
          (o.turns.outside e) (o.turns.done value f)
