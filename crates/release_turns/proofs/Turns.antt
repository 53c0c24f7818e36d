-- What a unit does to the releases, from the state in which its choice is made to that of the next unit.
use Rattle.std.proofs.Common.{◌≡◌, ℕ, suc, ◌≤◌, Bool, true, false, not, ◌&&◌, ◌||◌, List, [], ◌∷◌, ◌++◌, length, ◌⊎◌, inl, inr, Option, Some, None, if◌then◌else◌, refl, sym, ap, ◌∙◌, subst, arith}
use Rattle.std.specs.Prelude.{option_map, slice_get, unwrap_or, is_some}
use Rattle.std.proofs.lemmas.Bool.{cases_Bool}
use Rattle.scj_rules.specs.Words.{◌>>=◌}
use Rattle.scj_model.specs.declared.phases.Phase.TheVariants.{Cleanup}
use Rattle.scj_model.specs.declared.operations.SeqOp.TheVariants.{CleanUp}
use Rattle.scj_model.specs.declared.plans.ReadingRow.{ReadingRow}
use Rattle.scj_model.specs.Code.{Code}
use Rattle.scj_model.specs.Plan.{Plan}
use Rattle.scj_model.specs.State.{Waits, Dropped, Release, State, is_exec, Turn, IdleTurn, TurnOf}
use Rattle.scj_model.specs.Steps.{Step, silently, reporting, then_try, fault_in}
use Rattle.scj_base.specs.declared.values.Value.{Value}
use Rattle.scj_rules.specs.Classes.{is_empty}
use Rattle.scj_model.specs.Memory.{closed}
use Rattle.scj_model.specs.Sequencer.{innermost, SeqEffect, Continues, TakesSafelet, TakesSequencer, TakesMission, LacksSequencer, LacksMission, BeginsMission, BeginsExecution, SkipsExecution, ClosesMission, Transition, transition, gone_to, after_operation, goes_to, transition_done, EndsExecution, seq_applied, has_started, phase_after}
use Rattle.scj_model.proofs.Reaching.{Gives, gives_some}
use Rattle.scj_model.proofs.Orders.{aside_ref_op}
use Rattle.priority_laws.proofs.StepCases.{gives_nothing, gives_if}
use Rattle.scj_model.specs.Arrivals.{arrivals}
use Rattle.scj_model.specs.Choice.{chosen, by_priority}
use Rattle.scj_model.specs.Run.{sequencer_turn, with_turn, turn_taken, turn_acts, acts, next_unit, one_unit, RunSoFar, has_ended, continued, one_more_unit, run}
use Rattle.release_turns.specs.Choices.{state_after, at_choice, acting}
use Rattle.release_turns.specs.UnitSteps.{Stands, Move, UnitStep}
use Rattle.release_turns.proofs.OtherReleases.{MayMove, StandsYet, GoTo, MoreWait, get_more, more_goes, OneActs, acts_ref_op, Arrives, arrives}
use Rattle.release_turns.proofs.SequencerReleases.{HasSame, same_turn}

-- ---- options

step_same : (a b : Step) → Some a ≡ Some b → a ≡ b
step_same a b e = ap (λ (o : Option Step). unwrap_or o a) e

record TriedThen (first : Step) (next : State → Option Step) (r : Step) : Type 0 where
  second : Step
  is_next : next first.state ≡ Some second
  same : r.state ≡ second.state

tried_then : (first : Step) (next : State → Option Step) (r : Step) → then_try first next ≡ Some r →
    TriedThen first next r
tried_then first next r e = go (next first.state) refl
  where
    reported : Step → Step
    reported second = reporting second.state (first.events ++ second.events)

    go : (o : Option Step) → next first.state ≡ o → TriedThen first next r
    go None f = absurd (cc (e, ap (λ (o : Option Step). option_map (λ (second : Step). reporting second.state (first.events ++ second.events)) o) f))
    go (Some second) f =
        record {
          second = second;
          is_next = f;
          same = sym (ap (λ (x : Step). x.state) (step_same (reported second) r
              (sym (ap (λ (o : Option Step). option_map (λ (second : Step). reporting second.state (first.events ++ second.events)) o) f) ∙ e)));
        }

record Bound {A : Type 0} (o : Option A) (f : A → Option Step) (r : Step) : Type 0 where
  value : A
  is_value : o ≡ Some value
  is_next : f value ≡ Some r

bound : {A : Type 0} (o : Option A) (f : A → Option Step) (r : Step) → (o >>= f) ≡ Some r → Bound o f r
bound None f r e = absurd (cc (e))
bound (Some a) f r e = record { value = a; is_value = refl; is_next = e }

-- ---- a unit of a run, in its parts

pub record UnitParts (code : Code) (plan : Plan) (s after : State) : Type 0 where
  pub op : Step
  pub is_op : acts code plan.readings by_priority (arrivals code plan s).state ≡ Some op
  pub last : Step
  pub is_last : phase_after code op.state ≡ Some last
  pub is_next : after ≡ next_unit last.state

unit_parts : (code : Code) (plan : Plan) (s : State) (r : Step) → one_unit code plan by_priority s ≡ Some r →
    UnitParts code plan s r.state
unfolding one_unit
unit_parts code plan s r e = outer (bound _ (λ (result : Step). Some (reporting (next_unit result.state) result.events)) r e)
  where
    outer : Bound (then_try (arrivals code plan s) (acts code plan.readings by_priority) >>= (λ result. then_try result (phase_after code)))
        (λ (result : Step). Some (reporting (next_unit result.state) result.events)) r → UnitParts code plan s r.state
    outer b = inner (bound (then_try (arrivals code plan s) (acts code plan.readings by_priority)) (λ result. then_try result (phase_after code)) b.value b.is_value)
      where
        inner : Bound (then_try (arrivals code plan s) (acts code plan.readings by_priority)) (λ result. then_try result (phase_after code)) b.value → UnitParts code plan s r.state
        inner d =
            let x : TriedThen (arrivals code plan s) (acts code plan.readings by_priority) d.value =
            tried_then (arrivals code plan s) (acts code plan.readings by_priority) d.value d.is_value in
            let y : TriedThen d.value (phase_after code) b.value =
            tried_then d.value (phase_after code) b.value d.is_next in
            record {
              op = x.second;
              is_op = x.is_next;
              last = y.second;
              is_last = ap (phase_after code) (sym x.same) ∙ y.is_next;
              is_next = sym (ap (λ (z : Step). z.state) (step_same (reporting (next_unit b.value.state) b.value.events) r b.is_next)) ∙ ap next_unit y.same;
            }

pub run_unit : (code : Code) (plan : Plan) (t : ℕ) → has_ended (run code plan by_priority t) ≡ false →
    (run code plan by_priority (suc t)).is_stuck ≡ false → UnitParts code plan (state_after code plan t) (state_after code plan (suc t))
unfolding run one_more_unit continued
run_unit code plan t lives free = go (one_unit code plan by_priority (state_after code plan t)) refl
  where
    r : RunSoFar
    r = run code plan by_priority t

    is_more : (o : Option Step) → one_unit code plan by_priority r.state ≡ o →
        (if has_ended r then r else continued r (one_unit code plan by_priority r.state)) ≡ continued r o
    is_more o e =
        ap (λ b. if b then r else continued r (one_unit code plan by_priority r.state)) lives ∙ ap (continued r) e

    go : (o : Option Step) → one_unit code plan by_priority r.state ≡ o →
        UnitParts code plan r.state (if has_ended r then r else continued r (one_unit code plan by_priority r.state)).state
    go None e = absurd (cc (free, ap (λ (x : RunSoFar). x.is_stuck) (is_more None e)))
    go (Some step) e =
        subst (λ (x : RunSoFar). UnitParts code plan r.state x.state) (sym (is_more (Some step) e))
        (unit_parts code plan r.state step e)

-- ---- what follows an operation

-- the releases are the same, and so is the mission, or all releases are of earlier ones
pub record Follow (s t : State) : Type 0 where
  pub releases : t.releases ≡ s.releases
  pub mission : (t.earlier_releases ≡ s.earlier_releases) ⊎ (t.earlier_releases ≡ length s.releases)

-- in execution the mission stays
pub record FollowInside (s t : State) : Type 0 where
  pub earlier : t.earlier_releases ≡ s.earlier_releases

follow_closed : (s : State) (a : Option ℕ) → Follow s (closed s a)
unfolding closed
follow_closed s None = record { releases = refl; mission = inl refl }
follow_closed s (Some a) = record { releases = refl; mission = inl refl }

follow_effect : (code : Code) (s : State) (e : SeqEffect) → Follow s (seq_applied code s e).state
unfolding seq_applied fault_in
follow_effect code s Continues = record { releases = refl; mission = inl refl }
follow_effect code s (TakesSafelet r) = record { releases = refl; mission = inl refl }
follow_effect code s (TakesSequencer r) = record { releases = refl; mission = inl refl }
follow_effect code s (TakesMission r) = record { releases = refl; mission = inr refl }
follow_effect code s (LacksSequencer safelet) = record { releases = refl; mission = inl refl }
follow_effect code s LacksMission = record { releases = refl; mission = inl refl }
follow_effect code s (BeginsMission r) = record { releases = refl; mission = inl refl }
follow_effect code s BeginsExecution = record { releases = refl; mission = inl refl }
follow_effect code s SkipsExecution = record { releases = refl; mission = inl refl }
follow_effect code s EndsExecution = record { releases = refl; mission = inl refl }
follow_effect code s ClosesMission =
    let c : Follow s (closed s (innermost s.activity.areas)) = follow_closed s (innermost s.activity.areas) in
    record { releases = c.releases; mission = c.mission }

follow_transition : (code : Code) (s : State) (o : Option Transition) → Gives (Follow s) (option_map (transition_done code s) o)
follow_transition code s None = gives_nothing (Follow s)
follow_transition code s (Some t) =
    let g : Follow (gone_to s t) (seq_applied code (gone_to s t) t.effect).state = follow_effect code (gone_to s t) t.effect in
    gives_some (Follow s) (transition_done code s t) (record { releases = g.releases; mission = g.mission })

pub follow_phase : (code : Code) (s : State) → Gives (Follow s) (phase_after code s)
unfolding phase_after
follow_phase code s =
    gives_if (Follow s) (is_exec s.phase) _ _
    (λ e. gives_if (Follow s) (s.is_end_asked && not (has_started s)) _ _
    (λ f. follow_transition code s (s.mission >>= (λ r. goes_to Cleanup (CleanUp r) EndsExecution)))
    (λ f. gives_some (Follow s) (silently s) (record { releases = refl; mission = inl refl })))
    (λ e. go s.outcome)
  where
    go : (o : Option Value) → Gives (Follow s) (elim o as (λ z. Option Step) [ None ↦ Some (silently s) | Some value ↦ after_operation code s value ])
    go None = gives_some (Follow s) (silently s) (record { releases = refl; mission = inl refl })
    go (Some value) = follow_transition code s (transition s.mission_sequencer (is_empty s.registry || s.is_end_asked) s.operation value)

follow_inside : (code : Code) (s : State) → is_exec s.phase ≡ true → Gives (FollowInside s) (phase_after code s)
unfolding phase_after seq_applied
follow_inside code s exec =
    gives_if (FollowInside s) (is_exec s.phase) _ _
    (λ e. gives_if (FollowInside s) (s.is_end_asked && not (has_started s)) _ _
    (λ f. go s.mission)
    (λ f. gives_some (FollowInside s) (silently s) (record { earlier = refl })))
    (λ e. absurd (cc (e, exec)))
  where
    go : (o : Option ℕ) → Gives (FollowInside s) (option_map (transition_done code s) (o >>= (λ r. goes_to Cleanup (CleanUp r) EndsExecution)))
    go None = gives_nothing (FollowInside s)
    go (Some r) = gives_some (FollowInside s) _ (record { earlier = refl })

-- ---- the operation of a unit

move_same : (s : State) (after : List Release) → after ≡ s.releases → Move s after
move_same s after e =
    subst (λ xs. Move s xs) (sym e)
    (record {
      there = λ q r f. record { release = r; is_there = f; handler = refl; moves = inr (inl refl) };
      fresh = λ q r f g. absurd (cc (f, g));
    })

move_one : (s : State) (p : ℕ) (after : List Release) → acting s ≡ Some p → GoTo p s.releases after → Move s after
move_one s p after e h =
    record {
      there = λ q r f. stand q r (h.there q r f);
      fresh = h.fresh;
    }
  where
    stand : (q : ℕ) (r : Release) → StandsYet p q r after → Stands s q r after
    stand q r y = record { release = y.release; is_there = y.is_there; handler = y.handler; moves = moves y.moves }
      where
        moves : MayMove p q r.status y.release.status →
            (acting s ≡ Some q) ⊎ ((r.status ≡ y.release.status) ⊎ ((r.status ≡ Waits) × (y.release.status ≡ Dropped)))
        moves (inl same) = inl (e ∙ ap (λ (k : ℕ). Some k) same)
        moves (inr k) = inr k

-- the releases after an operation, and the mission
pub record Operate (s t : State) : Type 0 where
  pub move : Move s t.releases
  pub earlier : t.earlier_releases ≡ s.earlier_releases
  pub inside : is_exec s.phase ≡ true → is_exec t.phase ≡ true
  pub outside : is_exec s.phase ≡ false → t.releases ≡ s.releases

operate_exec : (code : Code) (rows : List ReadingRow) (s : State) (op : Step) → is_exec s.phase ≡ true →
    acts code rows by_priority s ≡ Some op → Operate s op.state
unfolding acts by_priority turn_taken turn_acts acting
operate_exec code rows s op exec e = go (chosen s) refl
  where
    turn_of : Option ℕ → Turn
    turn_of o = elim o as (λ z. Turn) [ None ↦ IdleTurn | Some index ↦ TurnOf index ]

    acted : (o : Option ℕ) → chosen s ≡ o → then_try (turn_taken s (turn_of o)) (turn_acts code rows (turn_of o)) ≡ Some op
    acted o f =
        sym (ap (λ (x : Option ℕ). then_try (turn_taken s (turn_of x)) (turn_acts code rows (turn_of x))) f)
        ∙ (sym (ap (λ (b : Bool). if b
        then then_try (turn_taken s (turn_of (chosen s))) (turn_acts code rows (turn_of (chosen s)))
        else sequencer_turn code rows s) exec) ∙ e)

    go : (o : Option ℕ) → chosen s ≡ o → Operate s op.state
    go None f =
        let x : TriedThen (turn_taken s IdleTurn) (turn_acts code rows IdleTurn) op =
        tried_then (turn_taken s IdleTurn) (turn_acts code rows IdleTurn) op (acted None f) in
        let same : op.state ≡ with_turn s IdleTurn =
        x.same ∙ sym (ap (λ (z : Step). z.state) (step_same (silently (with_turn s IdleTurn)) x.second x.is_next)) in
        record {
          move = move_same s op.state.releases (ap (λ (z : State). z.releases) same);
          earlier = ap (λ (z : State). z.earlier_releases) same;
          inside = λ y. ap (λ (z : State). is_exec z.phase) same ∙ y;
          outside = λ y. absurd (cc (y, exec));
        }
    go (Some p) f =
        let x : TriedThen (turn_taken s (TurnOf p)) (turn_acts code rows (TurnOf p)) op =
        tried_then (turn_taken s (TurnOf p)) (turn_acts code rows (TurnOf p)) op (acted (Some p) f) in
        let k : OneActs p (with_turn s (TurnOf p)) x.second.state =
        (acts_ref_op code rows (with_turn s (TurnOf p)) p).is x.second x.is_next in
        record {
          move = move_one s p op.state.releases
              (ap (λ (b : Bool). if b then chosen s else None) exec ∙ f)
              (subst (λ (z : State). GoTo p s.releases z.releases) (sym x.same) k.releases);
          earlier = ap (λ (z : State). z.earlier_releases) x.same ∙ k.earlier;
          inside = λ y. ap (λ (z : State). is_exec z.phase) x.same
              ∙ (ap is_exec ((aside_ref_op code rows (with_turn s (TurnOf p)) p).is x.second x.is_next).phase ∙ y);
          outside = λ y. absurd (cc (y, exec));
        }

operate_sequencer : (code : Code) (rows : List ReadingRow) (s : State) (op : Step) → is_exec s.phase ≡ false →
    acts code rows by_priority s ≡ Some op → Operate s op.state
unfolding acts
operate_sequencer code rows s op exec e =
    let f : sequencer_turn code rows s ≡ Some op =
    sym (ap (λ (b : Bool). if b
    then by_priority s >>= (λ turn. then_try (turn_taken s turn) (turn_acts code rows turn))
    else sequencer_turn code rows s) exec) ∙ e in
    let k : HasSame s op.state = (same_turn code rows s exec).is op f in
    record {
      move = move_same s op.state.releases k.releases;
      earlier = k.earlier;
      inside = λ y. absurd (cc (y, exec));
      outside = λ y. k.releases;
    }

operate : (code : Code) (rows : List ReadingRow) (s : State) (op : Step) → acts code rows by_priority s ≡ Some op →
    Operate s op.state
operate code rows s op e = go (cases_Bool (is_exec s.phase))
  where
    go : (is_exec s.phase ≡ true) ⊎ (is_exec s.phase ≡ false) → Operate s op.state
    go (inl x) = operate_exec code rows s op x e
    go (inr x) = operate_sequencer code rows s op x e

-- ---- from choice to choice

move_more : (s : State) (us vs : List Release) → Move s us → MoreWait us vs → Move s vs
move_more s us vs m w =
    record {
      there = λ q r e. stand q r (m.there q r e);
      fresh = λ q r e f. fresh q r e f (slice_get us q) refl;
    }
  where
    g : GoTo (length us) us vs
    g = more_goes (length us) us vs w

    stand : (q : ℕ) (r : Release) → Stands s q r us → Stands s q r vs
    stand q r y =
        record {
          release = y.release;
          is_there = subst (λ xs. slice_get xs q ≡ Some y.release) (sym w.is) (get_more us w.more q y.release y.is_there);
          handler = y.handler;
          moves = y.moves;
        }

    fresh : (q : ℕ) (r : Release) → slice_get s.releases q ≡ None → slice_get vs q ≡ Some r → (o : Option Release) →
        slice_get us q ≡ o → r.status ≡ Waits
    fresh q r e f None k = g.fresh q r k f
    fresh q r e f (Some u) k =
        let there : slice_get vs q ≡ Some u =
        subst (λ xs. slice_get xs q ≡ Some u) (sym w.is) (get_more us w.more q u k) in
        let same : u ≡ r = ap (λ (o : Option Release). unwrap_or o u) (sym there ∙ f) in
        ap (λ (x : Release). x.status) (sym same) ∙ m.fresh q u e k

length_at_least : (rs vs : List Release) → ((q : ℕ) (r : Release) → slice_get rs q ≡ Some r → is_some (slice_get vs q) ≡ true) →
    length rs ≤ length vs
length_at_least [] vs h = omega arith
length_at_least (r ∷ rs) [] h = absurd (cc (h 0 r refl))
length_at_least (r ∷ rs) (v ∷ vs) h =
    let a : length rs ≤ length vs = length_at_least rs vs (λ q x e. h (suc q) x e) in
    omega (arith, a)

pub longer : (s : State) (after : List Release) → Move s after → length s.releases ≤ length after
longer s after m =
    length_at_least s.releases after (λ q r e. ap is_some (m.there q r e).is_there)

pub unit_step : (code : Code) (plan : Plan) (t : ℕ) → has_ended (run code plan by_priority t) ≡ false →
    (run code plan by_priority (suc t)).is_stuck ≡ false → UnitStep (at_choice code plan t) (at_choice code plan (suc t))
unit_step code plan t lives free =
    let s : State = at_choice code plan t in
    let u : UnitParts code plan (state_after code plan t) (state_after code plan (suc t)) = run_unit code plan t lives free in
    let o : Operate s u.op.state = operate code plan.readings s u.op u.is_op in
    let f : Follow u.op.state u.last.state = (follow_phase code u.op.state).is u.last u.is_last in
    let a : Arrives (state_after code plan (suc t)) (at_choice code plan (suc t)) = arrives code plan (state_after code plan (suc t)) in
    let same : (state_after code plan (suc t)).releases ≡ u.op.state.releases =
    ap (λ (z : State). z.releases) u.is_next ∙ f.releases in
    record {
      move = move_more s u.op.state.releases (at_choice code plan (suc t)).releases o.move
          (subst (λ xs. MoreWait xs (at_choice code plan (suc t)).releases) same a.releases);
      mission = go (at_choice code plan t) (at_choice code plan (suc t)) u.op.state u.last.state o f
          (a.earlier ∙ ap (λ (z : State). z.earlier_releases) u.is_next);
      inside = λ exec.
          (a.earlier ∙ ap (λ (z : State). z.earlier_releases) u.is_next)
          ∙ (((follow_inside code u.op.state (o.inside exec)).is u.last u.is_last).earlier ∙ o.earlier);
      outside = λ exec. new (at_choice code plan t) (at_choice code plan (suc t)) u.op.state u.last.state o f
          (a.earlier ∙ ap (λ (z : State). z.earlier_releases) u.is_next) exec;
    }
  where
    new : (s t u v : State) → Operate s u → Follow u v → t.earlier_releases ≡ v.earlier_releases → is_exec s.phase ≡ false →
        (t.earlier_releases ≡ s.earlier_releases) ⊎ (t.earlier_releases ≡ length s.releases)
    new s t u v o f e out = by f.mission
      where
        by : (v.earlier_releases ≡ u.earlier_releases) ⊎ (v.earlier_releases ≡ length u.releases) →
            (t.earlier_releases ≡ s.earlier_releases) ⊎ (t.earlier_releases ≡ length s.releases)
        by (inl k) = inl (e ∙ (k ∙ o.earlier))
        by (inr k) = inr (e ∙ (k ∙ ap length (o.outside out)))

    go : (s t u v : State) → Operate s u → Follow u v → t.earlier_releases ≡ v.earlier_releases →
        (t.earlier_releases ≡ s.earlier_releases) ⊎ (length s.releases ≤ t.earlier_releases)
    go s t u v o f e = by f.mission
      where
        by : (v.earlier_releases ≡ u.earlier_releases) ⊎ (v.earlier_releases ≡ length u.releases) →
            (t.earlier_releases ≡ s.earlier_releases) ⊎ (length s.releases ≤ t.earlier_releases)
        by (inl k) = inl (e ∙ (k ∙ o.earlier))
        by (inr k) =
            let l : length s.releases ≤ length u.releases = longer s u.releases o.move in
            inr (omega (arith, l, e, k))
