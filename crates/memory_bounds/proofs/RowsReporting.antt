-- In each state that a run comes to, whichever release acts in each unit, the rows of handlers tell the storage of their
-- forms.
use Rattle.std.specs.Prelude.{Option, Some, None, if◌then◌else◌, option_map, slice_get}
use Rattle.std.proofs.Common.{◌≡◌, ◌⊎◌, ℕ, Bool, true, false, not, ◌&&◌, List, [], ◌∷◌, refl, sym, ◌∙◌, ap, subst, inl, inr, zero, suc}
use Rattle.scj_base.specs.declared.values.Value.{Value}
use Rattle.scj_base.specs.declared.values.Value.TheVariants.{At}
use Rattle.scj_rules.specs.Words.{◌>>=◌}
use Rattle.accepted_laws.proofs.Tools.{some_inj}
use Rattle.scj_model.specs.declared.operations.Op.{Op}
use Rattle.scj_model.specs.declared.operations.SeqOp.TheVariants.{OpenMission, Initialize, CleanUp}
use Rattle.scj_model.specs.declared.handlers.HandlerRow.{HandlerRow}
use Rattle.scj_model.specs.Code.{Code}
use Rattle.scj_model.specs.Plan.{Plan}
use Rattle.scj_model.specs.Arrivals.{arrivals}
use Rattle.scj_model.specs.Choice.{by_list}
use Rattle.scj_model.specs.Registry.{handler_row}
use Rattle.scj_model.specs.State.{Frame, TheSequencer, ReleaseAt, Release, State, Turn, IdleTurn, TurnOf, is_exec, is_init, is_over}
use Rattle.scj_model.specs.Steps.{Step, silently, then_try}
use Rattle.scj_model.specs.Run.{acts, empty_state, frame_op, next_unit, ref_op, release_op_of, sequencer_turn, turn_acts, turn_taken, with_turn}
use Rattle.scj_model.specs.Sequencer.{sequencer_op, BeginsMission, EndsExecution, Transition, after_execution, after_operation, gone_to, goes_to, has_started, phase_after, seq_applied, transition_done}
use Rattle.scj_model.specs.Reached.{Moment, Between, Arrived, Operated, Reached, at_first, on_arrival, on_operation, on_phase}
use Rattle.scj_model.proofs.Reaching.{Gives, gives_some, gives_reported, reached_keeps}
use Rattle.priority_laws.proofs.ReleaseMoves.{LeavesOthers}
use Rattle.priority_laws.proofs.ReleaseTurns.{TakesTurn, op_turns}
use Rattle.priority_laws.proofs.StepCases.{gives_nothing, gives_if, gives_bind, gives_mapped}
use Rattle.priority_laws.proofs.Still.{IsStill, still_arrivals}
use Rattle.mission_sound.specs.Invariant.{Invariant}
use Rattle.scope_sound.specs.Sound.{HasFacts, Sound}
use Rattle.certain_faults.proofs.Jobs.{Jobs}
use Rattle.certain_faults.proofs.Runs.{All, all_explained}
use Rattle.certain_faults.proofs.RunsOfNodes.{ClassesAskNothing}
use Rattle.memory_bounds.specs.Theorem.{RowsReport, Storage}
use Rattle.memory_bounds.proofs.Forms.{FormFacts}
use Rattle.memory_bounds.proofs.InitSteps.{InInit}
use Rattle.memory_bounds.proofs.InitWays.{Begins, Leaves, Ways, effect_keeps, ways}
use Rattle.scj_model.specs.declared.phases.Phase.TheVariants.{Boot, Next, Init, Exec, Cleanup, Over}
use Rattle.memory_bounds.proofs.RowsStill.{After, ReportsAt, arrivals_static, same_base, same_rows, sound, still_in}
use Rattle.memory_bounds.proofs.FrameRows.{of_frame}
use Rattle.memory_bounds.proofs.OwnRows.{of_own}

module _ (code : Code) (facts : HasFacts code) (bare : ClassesAskNothing code) (storage : Storage)
    (Inner : Op → Type 0) (OnWay : ℕ → Type 0) (forms : FormFacts code storage Inner OnWay) where
  module _ (plan : Plan) (choices : List ℕ) where
    arrived : (s : State) → ReportsAt code facts bare storage Inner OnWay forms plan choices Between s → (e : is_over s.phase ≡ false) →
        ReportsAt code facts bare storage Inner OnWay forms plan choices Arrived (arrivals code plan s).state
    arrived s x e = record {
      reached = on_arrival s x.reached e;
      init = λ k. still_in code facts bare storage Inner OnWay forms s (arrivals code plan s).state (arrivals_static code plan s) still.objects
          (λ u q. sym still.outcome ∙ q) still.registry still.activity i
          (same_base code facts bare storage Inner OnWay forms s (arrivals code plan s).state (arrivals_static code plan s) still.objects
          (λ u q. sym still.outcome ∙ q) still.registry still.activity i)
          (x.init (ap is_init (sym still.phase) ∙ k));
      opened = tt;
      rows = same_rows storage s (arrivals code plan s).state still.registry x.rows;
    }
      where
        still : IsStill s (arrivals code plan s).state
        still = still_arrivals code plan s

        i : Invariant code s
        i = (sound code facts bare storage Inner OnWay forms plan choices Between s x.reached).settled.invariant

    -- ---- one operation

    module _ (s : State) (x : ReportsAt code facts bare storage Inner OnWay forms plan choices Arrived s) where
      now : Sound code s
      now = (sound code facts bare storage Inner OnWay forms plan choices Arrived s x.reached).0

      abbrev i : Invariant code s
      i = now.settled.invariant

      outcome : s.outcome ≡ None
      outcome = now.settled.followed

      held : Jobs (All code) s
      held = all_explained code facts bare plan choices Arrived s x.reached

      -- a release acts
      record Rests (t : State) : Type 0 where
        phase : t.phase ≡ s.phase
        outcome : t.outcome ≡ s.outcome
        registry : t.registry ≡ s.registry

      release_rests : is_exec s.phase ≡ true → (index : ℕ) →
          Gives Rests (ref_op code plan.readings (with_turn s (TurnOf index)) (ReleaseAt index))
      unfolding ref_op
      release_rests exec index = of (slice_get s.releases index) refl
        where
          turned : (t : State) → LeavesOthers (with_turn s (TurnOf index)) t index → Rests t
          turned t l = record { phase = l.phase; outcome = l.outcome; registry = l.registry }

          of : (o : Option Release) → slice_get s.releases index ≡ o →
              Gives Rests (o >>= release_op_of code plan.readings (with_turn s (TurnOf index)) index)
          of None e = gives_nothing Rests
          of (Some r) e = record {
            is = λ step k. by step
                ((op_turns code plan.readings (with_turn s (TurnOf index)) index r e exec).is step
                (ap (λ (o : Option Release). o >>= release_op_of code plan.readings (with_turn s (TurnOf index)) index) e
                ∙ k));
          }
            where
              by : (step : Step) →
                  TakesTurn code plan.readings (with_turn s (TurnOf index)) index r e exec step.state → Rests step.state
              by step x =
                  elim x.turn as (λ z. Rests step.state) [
                    | inl q ↦ turned step.state q.2.others
                    | inr q ↦ turned step.state q.3.others
                  ]

      turn_rests : (turn : Turn) → is_exec s.phase ≡ true →
          Gives Rests (then_try (turn_taken s turn) (turn_acts code plan.readings turn))
      unfolding turn_taken turn_acts
      turn_rests IdleTurn exec =
          gives_reported Rests (turn_taken s IdleTurn) (Some (silently (with_turn s IdleTurn)))
          (λ second e. subst (λ (y : Step). Rests y.state) (some_inj (silently (with_turn s IdleTurn)) second e)
          (record { phase = refl; outcome = refl; registry = refl }))
      turn_rests (TurnOf index) exec =
          gives_reported Rests (turn_taken s (TurnOf index))
          (ref_op code plan.readings (with_turn s (TurnOf index)) (ReleaseAt index))
          (λ second e. (release_rests exec index).is second e)

      exec_no_init : is_exec s.phase ≡ true → is_init s.phase ≡ false
      unfolding is_exec is_init
      exec_no_init e = of s.phase e
        where
          of : (p : _) → is_exec p ≡ true → is_init p ≡ false
          of Init k = absurd (cc (k))
          of Boot k = refl
          of Next k = refl
          of Exec k = refl
          of Cleanup k = refl
          of Over k = refl

      in_execution : is_exec s.phase ≡ true → (t : State) → Rests t → After code facts bare storage Inner OnWay forms t
      in_execution exec t r = record {
        init = λ k. absurd (let none = exec_no_init exec in let p = ap is_init r.phase in cc (none, p, k));
        opened = λ q v e k. absurd (let n = outcome in let p = r.outcome in cc (n, p, k));
        rows = same_rows storage s t r.registry x.rows;
      }

      -- the sequencer's turn, by its frames
      abbrev turn_by : List Frame → Option Step
      turn_by fs =
          elim fs as (λ z. Option Step) [
            | [] ↦ sequencer_op code s s.operation
            | f ∷ below ↦ frame_op code plan.readings s TheSequencer s.activity
          ]

      pub operation_after : (step : Step) → acts code plan.readings (by_list choices) s ≡ Some step → After code facts bare storage Inner OnWay forms step.state
      unfolding acts sequencer_turn
      operation_after step e = of (is_exec s.phase) refl
        where
          choice : Bool → Option Step
          choice b =
              if b then by_list choices s >>= (λ turn. then_try (turn_taken s turn) (turn_acts code plan.readings turn))
              else sequencer_turn code plan.readings s

          of : (b : Bool) → is_exec s.phase ≡ b → After code facts bare storage Inner OnWay forms step.state
          of true exec =
              in_execution exec step.state
              ((gives_bind Rests (by_list choices s) _ (λ turn k. turn_rests turn exec)).is step
              (sym (ap choice exec) ∙ e))
          of false quiet = framed s.activity.frames refl
            where
              does : sequencer_turn code plan.readings s ≡ Some step
              does = sym (ap choice quiet) ∙ e

              framed : (fs : List Frame) → s.activity.frames ≡ fs → After code facts bare storage Inner OnWay forms step.state
              framed [] k =
                  of_own code facts bare storage Inner OnWay forms plan.readings s i now.references held
                  outcome (sound code facts bare storage Inner OnWay forms plan choices Arrived s x.reached).1 x.init x.rows k step (sym (ap turn_by k) ∙ does)
              framed (f ∷ below) k =
                  of_frame code facts bare storage Inner OnWay forms plan.readings s i now.references held
                  outcome (sound code facts bare storage Inner OnWay forms plan choices Arrived s x.reached).1 x.init x.rows f below k quiet step (sym (ap turn_by k) ∙ does)

    module _ (s : State) (x : ReportsAt code facts bare storage Inner OnWay forms plan choices Operated s) where
      abbrev after : Invariant code s
      after = (sound code facts bare storage Inner OnWay forms plan choices Operated s x.reached).after.invariant

      record Shows (t : State) : Type 0 where
        phase : is_init t.phase ≡ true → InInit code facts bare storage Inner OnWay forms (next_unit t)
        reported : RowsReport storage t

      -- in a state with the same memory and frames
      stands_in : (t : State) → t.statics ≡ s.statics → t.objects ≡ s.objects →
          ((u : ℕ) → t.outcome ≡ Some (At u) → s.outcome ≡ Some (At u)) → t.registry ≡ s.registry →
          t.activity ≡ s.activity → InInit code facts bare storage Inner OnWay forms s → InInit code facts bare storage Inner OnWay forms t
      stands_in t a b c d e h =
          still_in code facts bare storage Inner OnWay forms s t a b c d e after
          (same_base code facts bare storage Inner OnWay forms s t a b c d e after) h

      nothing_follows : Shows s
      nothing_follows = record {
        phase = λ k. stands_in (next_unit s) refl refl (λ u q. q) refl refl (x.init k);
        reported = x.rows;
      }

      no_rows : (t : State) → t.registry ≡ [] → RowsReport storage t
      no_rows t e zero row bytes there reported = absurd (cc (there))
      no_rows t e (suc k) row bytes there reported =
          absurd (let none : slice_get t.registry k ≡ None = ap (λ (xs : List HandlerRow). slice_get xs k) e in
          cc (none, there))

      rows_reported : (t : State) → (t.registry ≡ s.registry) ⊎ (t.registry ≡ []) → RowsReport storage t
      rows_reported t (inl e) = same_rows storage s t e x.rows
      rows_reported t (inr e) = no_rows t e

      follows : (value : Value) (t : Transition) → s.outcome ≡ Some value → Ways s.operation t →
          Shows (transition_done code s t).state
      unfolding seq_applied
      follows value t out (Leaves e) = record {
        phase = λ k. absurd (let q = (effect_keeps code (gone_to s t) t.effect).init k in cc (q, e));
        reported = rows_reported (transition_done code s t).state (effect_keeps code (gone_to s t) t.effect).registry;
      }
      follows value t out (Begins r e) = begun r e
        where
          begun : (r : ℕ) → s.operation ≡ OpenMission r →
              Shows (transition_done code s
              (record { phase = Init; operation = Initialize r; effect = BeginsMission r })).state
          begun r e = record {
            phase = λ k. stands_in
                (next_unit (record s { phase = Init; operation = Initialize r; outcome = None })) refl refl
                (λ u q. absurd (cc (q))) refl refl (x.opened r value e out);
            reported = x.rows;
          }

      after_execution_shows : Gives Shows (after_execution code s)
      unfolding seq_applied is_init
      after_execution_shows =
          gives_if Shows (s.is_end_asked && not (has_started s)) _ _
          (λ e. gives_ended s.mission) (λ e. gives_some Shows (silently s) nothing_follows)
        where
          gives_ended : (o : Option ℕ) →
              Gives Shows (option_map (transition_done code s) (o >>= (λ r. goes_to Cleanup (CleanUp r) EndsExecution)))
          gives_ended None = gives_nothing Shows
          gives_ended (Some r) =
              gives_some Shows _ (record { phase = λ k. absurd (cc (k)); reported = x.rows })

      after_own_shows : (o : Option Value) → s.outcome ≡ o →
          Gives Shows (elim o as (λ z. Option Step) [ None ↦ Some (silently s) | Some value ↦ after_operation code s value ])
      after_own_shows None e = gives_some Shows (silently s) nothing_follows
      after_own_shows (Some value) e =
          gives_mapped Shows _ (transition_done code s) (λ t k. follows value t e ((ways _ _ s.operation value).are t k))

      phase_shows : Gives Shows (phase_after code s)
      unfolding phase_after
      phase_shows =
          gives_if Shows (is_exec s.phase) _ _ (λ e. after_execution_shows) (λ e. after_own_shows s.outcome refl)

    -- ---- all of them

    first_reports : ReportsAt code facts bare storage Inner OnWay forms plan choices Between (empty_state code plan)
    unfolding empty_state is_init
    first_reports = record {
      reached = at_first;
      init = λ k. absurd (cc (k));
      opened = tt;
      rows = λ handler row bytes there reported. none handler row there;
    }
      where
        none : {A : Type 0} (handler : ℕ) (row : HandlerRow) → handler_row [] handler ≡ Some row → A
        none zero row e = absurd (cc (e))
        none (suc k) row e = absurd (cc (e))

    pub always_reports : (moment : Moment) (s : State) → Reached code plan (by_list choices) moment s →
        ReportsAt code facts bare storage Inner OnWay forms plan choices moment s
    always_reports moment s h =
        reached_keeps code plan (by_list choices) (ReportsAt code facts bare storage Inner OnWay forms plan choices)
        first_reports arrived
        (λ t step x e. record {
          reached = on_operation t step x.reached e;
          init = (operation_after t x step e).init;
          opened = (operation_after t x step e).opened;
          rows = (operation_after t x step e).rows;
        })
        (λ t step x e. record {
          reached = on_phase t step x.reached e;
          init = ((phase_shows t x).is step e).phase;
          opened = tt;
          rows = same_rows storage step.state (next_unit step.state) refl ((phase_shows t x).is step e).reported;
        })
        h
