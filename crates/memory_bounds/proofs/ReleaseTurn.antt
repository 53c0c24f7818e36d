-- A turn of a release in execution keeps what holds of the state, where START and an operation do.
use Rattle.std.specs.Prelude.{Option, Some, None, slice_get, codes}
use Rattle.std.proofs.Common.{◌≡◌, ℕ, List, [], ◌∷◌, true, ◌⊎◌, inl, inr, refl, sym, ◌∙◌, ap, subst}
use Rattle.scj_rules.specs.Bodies.{body_named}
use Rattle.scj_rules.specs.ScopeRules.{defined_by_chain}
use Rattle.scj_rules.specs.Words.{◌>>=◌}
use Rattle.scj_rules.specs.declared.views.Body.{Body}
use Rattle.accepted_laws.proofs.Tools.{some_inj}
use Rattle.scj_model.specs.declared.handlers.HandlerRow.{HandlerRow}
use Rattle.scj_model.specs.declared.operations.Op.{Op}
use Rattle.scj_model.specs.declared.plans.ReadingRow.{ReadingRow}
use Rattle.scj_model.specs.Code.{Code}
use Rattle.scj_model.specs.State.{Frame, Activity, Waits, Started, Ended, Dropped, Release, ReleaseStatus, ReleaseAt, State, is_exec}
use Rattle.scj_model.specs.Registry.{handler_row}
use Rattle.scj_model.specs.Steps.{Step}
use Rattle.scj_model.specs.Apply.{applied}
use Rattle.scj_model.specs.Run.{effect_at, position_of_op, frame_op, started_with, start_op, release_op_of, ref_op}
use Rattle.priority_laws.specs.Started.{StartedRelease, started_as, started_at}
use Rattle.priority_laws.proofs.ReleaseMoves.{LeavesOthers, GoesOn, Ends, ReleaseMoves}
use Rattle.priority_laws.proofs.ReleaseTurns.{EntersRightly, TakesTurn, op_turns}
use Rattle.memory_bounds.proofs.Standing.{IsNext}

-- what a step leaves of the handler of the release at a place
abbrev pub SameHandler : State → ℕ → ℕ → Type 0
SameHandler t index handler = (w : StartedRelease) → started_at t.releases index ≡ Some w → w.handler ≡ handler

module _ (code : Code) (rows : List ReadingRow) (s : State) (P : State → Type 0) (exec : is_exec s.phase ≡ true)
    (index : ℕ) (r : Release) (there : slice_get s.releases index ≡ Some r)
    (operates : (a : Activity) (f : Frame) (below : List Frame) (op : Op) (rest : List Op) (step : Step) →
    IsNext s index r a f below op rest →
    applied code s (ReleaseAt index) a below (position_of_op code op) (effect_at code rows s f op rest) ≡ Some step →
    LeavesOthers s step.state index → SameHandler step.state index r.handler → P step.state)
    (starts : (row : HandlerRow) (scope : ℕ) (body : Body) → r.status ≡ Waits →
    handler_row s.registry r.handler ≡ Some row →
    body_named code.program row.class (codes "handleAsyncEvent") ≡ Some body →
    LeavesOthers s (started_with code s index row scope body).state index →
    SameHandler (started_with code s index row scope body).state index r.handler →
    P (started_with code s index row scope body).state) where
  handler_of : (condition : Type 0) (priority : ℕ) (old : List Frame) (t : State) →
      ReleaseMoves code condition s index r.handler priority old t → (w : StartedRelease) →
      started_at t.releases index ≡ Some w → w.handler ≡ r.handler
  handler_of condition priority old t moves w e = of moves.own
    where
      of : GoesOn code condition s t index r.handler priority old ⊎ Ends s t index old → w.handler ≡ r.handler
      of (inl g) = ap (λ (v : StartedRelease). v.handler) (some_inj w (started_as r.handler g.after) (sym e ∙ g.is_there))
      of (inr gone) = absurd (cc (e, gone.is_gone))

  -- an operation
  operated : (a : Activity) → r.status ≡ Started a → (step : Step) → frame_op code rows s (ReleaseAt index) a ≡ Some step →
      LeavesOthers s step.state index →
      ((w : StartedRelease) → started_at step.state.releases index ≡ Some w → w.handler ≡ r.handler) →
      P step.state
  unfolding frame_op
  operated a status step e leaves same = by_frames a.frames refl e
    where
      by_ops : (f : Frame) (below : List Frame) → a.frames ≡ f ∷ below → (ops : List Op) → f.rest ≡ ops →
          (elim ops as (λ z. Option Step) [
            | [] ↦ None
            | op ∷ rest ↦ applied code s (ReleaseAt index) a below (position_of_op code op) (effect_at code rows s f op rest)
          ]) ≡ Some step → P step.state
      by_ops f below frames [] next e = absurd (cc (e))
      by_ops f below frames (op ∷ rest) next e =
          operates a f below op rest step (record { there = there; status = status; frames = frames; ops = next }) e leaves
          same

      by_frames : (fs : List Frame) → a.frames ≡ fs →
          (elim fs as (λ z. Option Step) [
            | [] ↦ None
            | f ∷ below ↦ elim f.rest [
              | [] ↦ None
              | op ∷ rest ↦ applied code s (ReleaseAt index) a below (position_of_op code op) (effect_at code rows s f op rest)
            ]
          ]) ≡ Some step → P step.state
      by_frames [] frames e = absurd (cc (e))
      by_frames (f ∷ below) frames e = by_ops f below frames f.rest refl e

  -- START
  started : (row : HandlerRow) → r.status ≡ Waits → handler_row s.registry r.handler ≡ Some row → (step : Step) →
      start_op code s index r ≡ Some step → LeavesOthers s step.state index →
      ((w : StartedRelease) → started_at step.state.releases index ≡ Some w → w.handler ≡ r.handler) →
      P step.state
  unfolding start_op
  started row waits is_row step e leaves same =
      by_scope (defined_by_chain code.program row.class)
      (sym (ap (λ (o : Option HandlerRow). o >>= (λ x. defined_by_chain code.program x.class >>= (λ scope.
      body_named code.program x.class (codes "handleAsyncEvent") >>= (λ body.
      Some (started_with code s index x scope body))))) is_row) ∙ e)
    where
      by_body : (scope : ℕ) (o : Option Body) → body_named code.program row.class (codes "handleAsyncEvent") ≡ o →
          o >>= (λ body. Some (started_with code s index row scope body)) ≡ Some step →
          P step.state
      by_body scope None is e = absurd (cc (e))
      by_body scope (Some body) is e =
          let done : started_with code s index row scope body ≡ step = some_inj (started_with code s index row scope body) step e in
          subst (λ (x : Step). P x.state) done
          (starts row scope body waits is_row is
          (subst (λ (x : Step). LeavesOthers s x.state index) (sym done) leaves)
          (λ w k. same w (ap (λ (x : Step). started_at x.state.releases index) (sym done) ∙ k)))

      by_scope : (o : Option ℕ) → o >>= (λ scope.
          body_named code.program row.class (codes "handleAsyncEvent") >>= (λ body.
          Some (started_with code s index row scope body))) ≡ Some step → P step.state
      by_scope None e = absurd (cc (e))
      by_scope (Some scope) e = by_body scope (body_named code.program row.class (codes "handleAsyncEvent")) refl e

  pub turn_keeps : (step : Step) → ref_op code rows s (ReleaseAt index) ≡ Some step →
      P step.state
  unfolding ref_op release_op_of
  turn_keeps step e = of ((op_turns code rows s index r there exec).is step e)
    where
      does : release_op_of code rows s index r ≡ Some step
      does = sym (ap (λ (o : Option Release). o >>= release_op_of code rows s index) there) ∙ e

      by_status : (status : ReleaseStatus) → Option Step
      by_status status = elim status [
        | Waits ↦ start_op code s index r
        | Started activity ↦ frame_op code rows s (ReleaseAt index) activity
        | Ended ↦ None
        | Dropped ↦ None
      ]

      by_turn : ((a : Activity) × (r.status ≡ Started a)
          × ReleaseMoves code (EntersRightly code rows s index) s index r.handler a.priority a.frames step.state)
          ⊎ ((row : HandlerRow) × (r.status ≡ Waits) × (handler_row s.registry r.handler ≡ Some row)
          × ReleaseMoves code (EntersRightly code rows s index) s index r.handler row.priority [] step.state) →
          P step.state
      by_turn (inl (a, status, moves)) =
          operated a status step (sym (ap by_status status) ∙ does) moves.others
          (handler_of (EntersRightly code rows s index) a.priority a.frames step.state moves)
      by_turn (inr (row, waits, is_row, moves)) =
          started row waits is_row step (sym (ap by_status waits) ∙ does) moves.others
          (handler_of (EntersRightly code rows s index) row.priority [] step.state moves)

      of : TakesTurn code rows s index r there exec step.state → P step.state
      of x = by_turn x.turn
