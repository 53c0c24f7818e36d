-- The choice and the operation of a unit of execution, whatever is chosen.
use Rattle.std.proofs.Common.{◌≡◌, ℕ, ◌+◌, Bool, true, false, not, List, [], ◌∷◌, ◌++◌, inl, inr, Option, Some, None, if◌then◌else◌, refl, sym, ap, ◌∙◌, subst, arith}
use Rattle.std.specs.Prelude.{option_map, slice_get}
use Rattle.std.proofs.lemmas.Bool.{and_from}
use Rattle.std.proofs.lemmas.Bool.Decides.{nat_tests}
use Rattle.scj_rules.specs.Words.{holds}
use Rattle.scj_model.specs.declared.events.Event.{Event}
use Rattle.scj_model.specs.declared.events.Event.TheVariants as event
use Rattle.scj_model.specs.declared.plans.ReadingRow.{ReadingRow}
use Rattle.scj_model.specs.Code.{Code}
use Rattle.scj_model.specs.Plan.{Plan}
use Rattle.scj_model.specs.TraceText.{unit_of}
use Rattle.scj_model.specs.Arrivals.{executes_since}
use Rattle.scj_model.specs.Choice.{by_priority, chosen}
use Rattle.scj_model.specs.Run.{acts, is_same_turn, sequencer_turn, report_turn, turn_acts, turn_taken, with_turn}
use Rattle.scj_model.specs.State.{Release as ReleaseNow, State, Turn, IdleTurn, TurnOf}
use Rattle.scj_model.specs.Steps.{Step, silently, reporting, then_try}
use Rattle.trace_audit.specs.declared.choices.Choice.TheVariants.{Idle as Nobody, Chosen}
use Rattle.trace_audit.specs.declared.lines.Entry.TheVariants.{Idle}
use Rattle.trace_audit.specs.Passing.{begun, entry_done, entry_passes, rest_done, table_done}
use Rattle.trace_audit.specs.Printed.{entry_reported}
use Rattle.trace_audit.specs.Replay.{Replay, differs, is_same_choice, picked}
use Rattle.trace_audit.specs.StandsFor.{release_seen}
use Rattle.audited_runs.proofs.Reported.{reported_none, reported_one, reported_then}
use Rattle.audited_runs.proofs.InUnit.{Live, Opened, kept_then, line_opens, line_passes, live_kept}
use Rattle.accepted_laws.proofs.Tools.{some_inj}
use Rattle.audited_runs.proofs.Stands.{stands_same}
use Rattle.audited_runs.proofs.Executing.{Executes, LastIs, LastPlace, SameCore, Reports, core_begun, executes_core}
use Rattle.audited_runs.proofs.Operated.{operation_reported}
use Rattle.audited_runs.proofs.Choosing.{Picks, differs_as, nobody, picks, somebody, turn_of}
use Rattle.audited_runs.proofs.Turning.{HasChoice, MayAct, RunReported, chosen_may, goes_on_reported, has_kept, is_last, run_reported}

-- ---- whose turn is told

pub record TurnReported (plan : Plan) (s : State) (r : Replay) (t : State) (es : List Event) : Type 0 where
  pub reports : Reports plan s.unit r t es
  pub has : is_last s ≡ false → HasChoice s.unit reports.after

-- the events of a turn
abbrev events_of : State → Turn → Bool → List Event
events_of s turn same = if same then [] else report_turn s turn

-- ---- nobody is chosen

last_idle : (o : Option Turn) → holds o (is_same_turn IdleTurn) ≡ true → o ≡ Some IdleTurn
unfolding is_same_turn
last_idle None e = absurd (cc (e))
last_idle (Some IdleTurn) e = refl
last_idle (Some (TurnOf p)) e = absurd (cc (e))

idle_passes : (plan : Plan) (s : State) (r : Replay) (unit : ℕ) → Executes s r → is_last s ≡ false →
    picked r.all ≡ Nobody → entry_passes plan r unit Idle ≡ true
unfolding entry_passes
idle_passes plan s r unit h other pick =
    and_from (is_same_choice Nobody (picked r.all)) (differs r) (ap (is_same_choice Nobody) pick)
    (differs_as s r h ∙ ap not other)

idle_executes : (s : State) (b : Replay) (unit : ℕ) → Executes s b →
    Executes (with_turn s IdleTurn) (entry_done b unit Idle)
unfolding rest_done table_done executes_since
idle_executes s b unit h =
    record {
      stands = stands_same s (with_turn s IdleTurn) b.all refl refl refl h.stands;
      named = h.named;
      last = refl;
      exec = h.exec;
      since = h.since;
    }

idle_over : (b : Replay) (unit : ℕ) → (entry_done b unit Idle).is_over ≡ b.is_over
unfolding rest_done
idle_over b unit = refl

idle_has : (b : Replay) (unit : ℕ) → (entry_done b unit Idle).has_choice ≡ true
unfolding rest_done
idle_has b unit = refl

idle_line : (plan : Plan) (s : State) (r : Replay) → Live plan s.unit r → Executes s r → is_last s ≡ false →
    picked r.all ≡ Nobody → TurnReported plan s r (with_turn s IdleTurn) (event.Idle s.unit ∷ [])
unfolding entry_reported unit_of
idle_line plan s r live h other pick =
    let b : Replay = begun r s.unit in
    let core : SameCore r b = core_begun r s.unit in
    let opened : Opened s.unit r (entry_done b s.unit Idle) = line_opens s.unit r Idle live.in_order in
    record {
      reports = record {
        after = entry_done b s.unit Idle;
        is = reported_one plan r (entry_done b s.unit Idle) (event.Idle s.unit)
            (line_passes plan s.unit r (event.Idle s.unit) live refl (λ e. cc (e))
            (idle_passes plan s r s.unit h other pick));
        kept = inr opened;
        executes = idle_executes s b s.unit (executes_core s r b core h);
        goes_on = idle_over b s.unit ∙ (core.over ∙ live.goes_on);
      };
      has = λ e. record { is_unit = opened.is_unit; has = idle_has b s.unit };
    }

idle_again : (plan : Plan) (s : State) (r : Replay) → Live plan s.unit r → Executes s r → is_last s ≡ true →
    chosen s ≡ None → TurnReported plan s r (with_turn s IdleTurn) []
unfolding executes_since
idle_again plan s r live h same none =
    let last : s.last_choice ≡ Some IdleTurn =
    last_idle s.last_choice (sym (ap (λ o. holds s.last_choice (is_same_turn (turn_of o))) none) ∙ same) in
    record {
      reports = record {
        after = r;
        is = reported_none plan r;
        kept = inl refl;
        executes = record {
          stands = stands_same s (with_turn s IdleTurn) r.all refl refl refl h.stands;
          named = h.named;
          last = subst (λ o. LastIs s.earlier_releases r o) last h.last;
          exec = h.exec;
          since = h.since;
        };
        goes_on = live.goes_on;
      };
      has = λ e. absurd (cc (e, same));
    }

idle_reported : (plan : Plan) (s : State) (r : Replay) → Live plan s.unit r → Executes s r → chosen s ≡ None →
    picked r.all ≡ Nobody → TurnReported plan s r (with_turn s IdleTurn) (events_of s IdleTurn (is_last s))
unfolding report_turn
idle_reported plan s r live h none pick = go (is_last s) refl
  where
    go : (b : Bool) → is_last s ≡ b → TurnReported plan s r (with_turn s IdleTurn) (if b then [] else event.Idle s.unit ∷ [])
    go true e = idle_again plan s r live h e none
    go false e = idle_line plan s r live h e pick

-- ---- a release is chosen

last_place : (first : ℕ) (r : Replay) (p : ℕ) (o : Option Turn) → holds o (is_same_turn (TurnOf p)) ≡ true →
    LastIs first r o → LastPlace first r p
unfolding is_same_turn
last_place first r p None e last = absurd (cc (e))
last_place first r p (Some IdleTurn) e last = absurd (cc (e))
last_place first r p (Some (TurnOf n)) e last =
    let same : p ≡ n = grind (arith, nat_tests, e) in
    subst (λ m. LastPlace first r m) (sym same) last

turn_reported : (plan : Plan) (s : State) (r : Replay) (p q : ℕ) (x : ReleaseNow) → Live plan s.unit r → Executes s r →
    p ≡ s.earlier_releases + q → chosen s ≡ Some p → slice_get s.releases p ≡ Some x →
    slice_get r.all.releases q ≡ Some (release_seen x) → picked r.all ≡ Chosen x.handler x.number →
    RunReported plan s r p x (events_of s (TurnOf p) (is_last s))
unfolding report_turn
turn_reported plan s r p q x live h at is there seen pick = go (is_last s) refl
  where
    may : MayAct x
    may = chosen_may s p x is there

    go : (b : Bool) → is_last s ≡ b →
        RunReported plan s r p x
        (if b then []
        else (elim (slice_get s.releases p) as (λ _. List Event) [
          | None ↦ []
          | Some y ↦ event.Run s.unit y.handler y.number ∷ []
        ]))
    go true e =
        goes_on_reported plan s r p q x live h may at there seen e
        (last_place s.earlier_releases r p s.last_choice
        (sym (ap (λ o. holds s.last_choice (is_same_turn (turn_of o))) is) ∙ e) h.last)
    go false e =
        subst (λ o. RunReported plan s r p x (elim o as (λ _. List Event) [
          | None ↦ []
          | Some y ↦ event.Run s.unit y.handler y.number ∷ []
        ])) (sym there)
        (run_reported plan s r p q x live h may at there seen e pick)

-- ---- the choice and the operation

-- a first step, and one that follows it
pub record Tried (first : Step) (next : State → Option Step) (op : Step) : Type 0 where
  pub second : Step
  pub is_next : next first.state ≡ Some second
  pub is : op ≡ reporting second.state (first.events ++ second.events)

pub tried : (first : Step) (next : State → Option Step) (op : Step) → then_try first next ≡ Some op → Tried first next op
tried first next op e = go (next first.state) refl
  where
    go : (o : Option Step) → next first.state ≡ o → Tried first next op
    go None f =
        absurd (cc (e, ap (option_map (λ (second : Step). reporting second.state (first.events ++ second.events))) f))
    go (Some second) f =
        record {
          second = second;
          is_next = f;
          is = some_inj op (reporting second.state (first.events ++ second.events))
              (sym e ∙ ap (option_map (λ (second : Step). reporting second.state (first.events ++ second.events))) f);
        }

-- the operation of nobody
idle_acts : (plan : Plan) (code : Code) (rows : List ReadingRow) (s : State) (r : Replay) (op : Step) →
    Live plan s.unit r → Executes s r → chosen s ≡ None → picked r.all ≡ Nobody →
    then_try (reporting (with_turn s IdleTurn) (events_of s (turn_of (chosen s)) (is_last s)))
    (turn_acts code rows IdleTurn) ≡ Some op → TurnReported plan s r op.state op.events
unfolding turn_acts
idle_acts plan code rows s r op live h none pick e =
    let k : Tried (reporting (with_turn s IdleTurn) (events_of s (turn_of (chosen s)) (is_last s)))
    (turn_acts code rows IdleTurn) op =
    tried (reporting (with_turn s IdleTurn) (events_of s (turn_of (chosen s)) (is_last s))) (turn_acts code rows IdleTurn)
    op e in
    let one : TurnReported plan s r (with_turn s IdleTurn) (events_of s (turn_of (chosen s)) (is_last s)) =
    subst (λ o. TurnReported plan s r (with_turn s IdleTurn) (events_of s (turn_of o) (is_last s))) (sym none)
    (idle_reported plan s r live h none pick) in
    let same : silently (with_turn s IdleTurn) ≡ k.second = some_inj (silently (with_turn s IdleTurn)) k.second k.is_next in
    let is : op ≡ reporting (with_turn s IdleTurn) (events_of s (turn_of (chosen s)) (is_last s) ++ []) =
    k.is ∙ ap (λ (y : Step). reporting y.state (events_of s (turn_of (chosen s)) (is_last s) ++ y.events)) (sym same) in
    subst (λ (y : Step). TurnReported plan s r y.state y.events) (sym is)
    (record {
      reports = record {
        after = one.reports.after;
        is = reported_then plan r one.reports.after one.reports.after (events_of s (turn_of (chosen s)) (is_last s)) [] one.reports.is
            (reported_none plan one.reports.after);
        kept = one.reports.kept;
        executes = one.reports.executes;
        goes_on = one.reports.goes_on;
      };
      has = one.has;
    })

-- the operation of a release
release_acts : (plan : Plan) (code : Code) (rows : List ReadingRow) (s : State) (r : Replay) (op : Step) (p q : ℕ)
    (x : ReleaseNow) → Live plan s.unit r → Executes s r → p ≡ s.earlier_releases + q → chosen s ≡ Some p →
    slice_get s.releases p ≡ Some x → slice_get r.all.releases q ≡ Some (release_seen x) →
    picked r.all ≡ Chosen x.handler x.number →
    then_try (reporting (with_turn s (TurnOf p)) (events_of s (TurnOf p) (is_last s))) (turn_acts code rows (TurnOf p))
    ≡ Some op → TurnReported plan s r op.state op.events
unfolding turn_acts
release_acts plan code rows s r op p q x live h at is there seen pick e =
    let first : Step = reporting (with_turn s (TurnOf p)) (events_of s (TurnOf p) (is_last s)) in
    let k : Tried first (turn_acts code rows (TurnOf p)) op = tried first (turn_acts code rows (TurnOf p)) op e in
    let one : RunReported plan s r p x (events_of s (TurnOf p) (is_last s)) =
    turn_reported plan s r p q x live h at is there seen pick in
    let rest : Reports plan s.unit one.after k.second.state k.second.events =
    (operation_reported plan code rows (with_turn s (TurnOf p)) p one.after x there
    (live_kept plan s.unit r one.after live one.kept one.goes_on) one.acts).is k.second k.is_next in
    subst (λ (y : Step). TurnReported plan s r y.state y.events) (sym k.is)
    (record {
      reports = record {
        after = rest.after;
        is = reported_then plan r one.after rest.after first.events k.second.events one.is rest.is;
        kept = kept_then s.unit r one.after rest.after one.kept rest.kept;
        executes = rest.executes;
        goes_on = rest.goes_on;
      };
      has = λ f. has_kept s.unit one.after rest.after (one.has f) rest.kept;
    })

pub executed_reported : (plan : Plan) (code : Code) (rows : List ReadingRow) (s : State) (r : Replay) (op : Step) →
    Live plan s.unit r → Executes s r → acts code rows by_priority s ≡ Some op → TurnReported plan s r op.state op.events
unfolding acts by_priority turn_taken
executed_reported plan code rows s r op live h e = go (picks s r h.stands)
  where
    acted : then_try (reporting (with_turn s (turn_of (chosen s))) (events_of s (turn_of (chosen s)) (is_last s)))
        (turn_acts code rows (turn_of (chosen s))) ≡ Some op
    acted =
        sym (ap (λ (b : Bool). if b
        then then_try (turn_taken s (turn_of (chosen s))) (turn_acts code rows (turn_of (chosen s)))
        else sequencer_turn code rows s) h.exec) ∙ e

    go : Picks s r → TurnReported plan s r op.state op.events
    go (nobody none place_none pick) =
        idle_acts plan code rows s r op live h none pick
        (sym (ap (λ o. then_try (reporting (with_turn s (turn_of o)) (events_of s (turn_of (chosen s)) (is_last s)))
        (turn_acts code rows (turn_of o))) none) ∙ acted)
    go (somebody q p x at is there seen pick) =
        release_acts plan code rows s r op p q x live h at is there seen pick
        (sym (ap (λ o. then_try (reporting (with_turn s (turn_of o)) (events_of s (turn_of o) (is_last s)))
        (turn_acts code rows (turn_of o))) is) ∙ acted)
