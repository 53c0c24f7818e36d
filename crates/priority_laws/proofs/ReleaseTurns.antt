-- An operation of a release in execution, be it its start or one of its frames.
use Rattle.std.proofs.Common.{◌≡◌, ℕ, true, false, ◌&&◌, List, [], ◌∷◌, length, ◌⊎◌, inl, inr, Option, Some, None, refl, sym, ap, ◌∙◌, subst, arith, if◌then◌else◌}
use Rattle.std.specs.Prelude.{slice_get, is_some, codes}
use Rattle.scj_rules.specs.declared.views.Body.{Body}
use Rattle.scj_rules.specs.declared.views.Body.TheVariants.{Written, Empty}
use Rattle.scj_rules.specs.Words.{holds, ◌>>=◌}
use Rattle.scj_rules.specs.ScopeRules.{defined_by_chain}
use Rattle.scj_rules.specs.Bodies.{body_named, is_synchronized_body}
use Rattle.scj_model.specs.declared.handlers.HandlerRow.{HandlerRow}
use Rattle.scj_model.specs.declared.operations.Op.{Op}
use Rattle.scj_model.specs.declared.plans.ReadingRow.{ReadingRow}
use Rattle.scj_model.specs.Code.{Code}
use Rattle.scj_model.specs.State.{Frame, Activity, ReleaseStatus, Waits, Started, Ended, Dropped, Release, ReleaseAt, State, activity_of, activity_in, is_exec}
use Rattle.scj_model.specs.Registry.{handler_row}
use Rattle.scj_model.specs.Memory.{has_store_for, with_area}
use Rattle.scj_model.specs.Steps.{opening}
use Rattle.scj_model.specs.Effects.{Effect, new_frame, monitor_of}
use Rattle.scj_model.specs.Apply.{applied}
use Rattle.scj_model.specs.Sequencer.{innermost}
use Rattle.scj_model.specs.Choice.{candidate, may_act}
use Rattle.scj_model.specs.Run.{frame_op, effect_at, position_of_op, start_op, started_with, no_activity, release_op_of, ref_op, environment}
use Rattle.scj_model.specs.Safety.{job_may_act}
use Rattle.scj_model.proofs.Reaching.{Gives, gives_some}
use Rattle.priority_laws.specs.Premises.{Does, is_synchronized}
use Rattle.priority_laws.proofs.AreaMoves.{area_added}
use Rattle.priority_laws.proofs.StepCases.{step_if, gives_nothing, gives_bind}
use Rattle.priority_laws.proofs.ReleaseMoves.{ceilings_same, GoesOn, Ends, ReleaseMoves, moves_on}
use Rattle.priority_laws.proofs.ReleaseEffects.{moves_fault}
use Rattle.priority_laws.proofs.Shapes.{Formed, Enters}
use Rattle.priority_laws.proofs.ReleaseApplied.{applied_moves}
use Rattle.priority_laws.proofs.OperationShapes.{scene_of, formed_at, shaped_at}

-- what the release at a place enters in a state, it enters as a monitor
pub record EntersRightly (code : Code) (rows : List ReadingRow) (s : State) (p : ℕ) : Type 0 where
  pub effects : (op : Op) (e : Effect) (f : Frame) (rest : List Op) → Does code rows s (ReleaseAt p) op e →
      Formed (scene_of code (environment rows s) f rest op) e → Enters code s e
  pub starts : (r : Release) (row : HandlerRow) (body : Body) → slice_get s.releases p ≡ Some r →
      r.status ≡ Waits → handler_row s.registry r.handler ≡ Some row →
      body_named code.program row.class (codes "handleAsyncEvent") ≡ Some body → is_synchronized code body ≡ false

pub moves_under : (code : Code) (weak strong : Type 0) → (strong → weak) →
    (s : State) (p handler priority : ℕ) (old : List Frame) (t : State) →
    ReleaseMoves code weak s p handler priority old t → ReleaseMoves code strong s p handler priority old t
moves_under code weak strong f s p handler priority old t m = record { others = m.others; own = go m.own }
  where
    go : GoesOn code weak s t p handler priority old ⊎ Ends s t p old →
        GoesOn code strong s t p handler priority old ⊎ Ends s t p old
    go (inl g) =
        inl (record {
          after = g.after;
          is_there = g.is_there;
          rises = g.rises;
          bounded = g.bounded;
          guards = λ c x. g.guards (f c) x;
          areas = g.areas;
        })
    go (inr e) = inr e

-- ---- a started release

module _ (code : Code) (rows : List ReadingRow) (s : State) (p : ℕ) (r : Release)
    (there : slice_get s.releases p ≡ Some r) (exec : is_exec s.phase ≡ true) where
  pub started_may_act : (a : Activity) → r.status ≡ Started a → job_may_act s (ReleaseAt p) ≡ true
  unfolding job_may_act may_act candidate
  started_may_act a e =
      let acts : is_some (candidate s p r) ≡ true =
      ap (λ (status : ReleaseStatus). is_some (candidate s p (record r { status = status }))) e in
      ap (λ b. b && holds (slice_get s.releases p) (λ r. is_some (candidate s p r))) exec
      ∙ (ap (λ (o : Option Release). holds o (λ r. is_some (candidate s p r))) there ∙ acts)

  pub started_is : (a : Activity) → r.status ≡ Started a → activity_of s (ReleaseAt p) ≡ Some a
  unfolding activity_of activity_in
  started_is a e = ap (λ (o : Option Release). o >>= (λ r. activity_in r.status)) there ∙ ap activity_in e

  frame_moves : (a : Activity) → r.status ≡ Started a →
      Gives (ReleaseMoves code (EntersRightly code rows s p) s p r.handler a.priority a.frames)
      (frame_op code rows s (ReleaseAt p) a)
  unfolding frame_op
  frame_moves a e = go a.frames refl
    where
      act : (f : Frame) (below : List Frame) → a.frames ≡ f ∷ below → (ops : List Op) → f.rest ≡ ops →
          Gives (ReleaseMoves code (EntersRightly code rows s p) s p r.handler a.priority (f ∷ below))
          (elim ops [
            | [] ↦ None
            | op ∷ rest ↦ applied code s (ReleaseAt p) a below (position_of_op code op)
                (effect_at code rows s f op rest)
          ])
      act f below frames [] k = gives_nothing _
      act f below frames (op ∷ rest) k =
          record {
            is = λ step x.
                moves_under code (Enters code s (effect_at code rows s f op rest)) (EntersRightly code rows s p)
                (λ c. c.effects op (effect_at code rows s f op rest) f rest (record {
                  may = started_may_act a e;
                  activity = a;
                  is_activity = started_is a e;
                  frame = f;
                  below = below;
                  frames = frames;
                  rest = rest;
                  ops = k;
                  is_effect = refl;
                })
                (formed_at code (environment rows s) f rest op))
                s p r.handler a.priority (f ∷ below) step.state
                ((applied_moves code s p r there exec a f below frames (position_of_op code op)
                (effect_at code rows s f op rest)
                (shaped_at code (environment rows s) f rest op)).is step x);
          }

      go : (fs : List Frame) → a.frames ≡ fs →
          Gives (ReleaseMoves code (EntersRightly code rows s p) s p r.handler a.priority fs)
          (elim fs [
            | [] ↦ None
            | f
                ∷ below ↦ elim f.rest [
                  | [] ↦ None
                  | op ∷ rest ↦ applied code s (ReleaseAt p) a below (position_of_op code op)
                      (effect_at code rows s f op rest)
                ]
          ])
      go [] k = gives_nothing _
      go (f ∷ below) k = act f below k f.rest refl

  -- ---- a release that waits

  start_moves : (row : HandlerRow) (scope : ℕ) (body : Body) → r.status ≡ Waits →
      handler_row s.registry r.handler ≡ Some row →
      body_named code.program row.class (codes "handleAsyncEvent") ≡ Some body →
      ReleaseMoves code (EntersRightly code rows s p) s p r.handler row.priority []
      (started_with code s p row scope body).state
  unfolding started_with opening new_frame monitor_of
  start_moves row scope body waits is_row is_body =
      step_if (ReleaseMoves code (EntersRightly code rows s p) s p r.handler row.priority [])
      (has_store_for s row.bytes) _ _
      (λ e. moves_on code (EntersRightly code rows s p) s p r there row.priority []
      (with_area s scope (innermost s.activity.areas) row.bytes)
      (record {
        phase = refl;
        activity = refl;
        outcome = refl;
        registry = refl;
        releases = refl;
        objects = ceilings_same
            s.objects;
      })
      (record {
        frames = record (new_frame code body None (Some row.at) (length s.areas) []) { opened = Some (length s.areas) }
            ∷ [];
        areas = length s.areas ∷ s.activity.areas;
        priority = row.priority;
      })
      (λ own x. (omega arith, x)) (λ most c own x l. l)
      (λ c x. ((λ q m. absurd (free body (c.starts r row body there waits is_row is_body) q m)), tt))
      (area_added s.areas _ []))
      (λ e. moves_fault code (EntersRightly code rows s p) s p r there row.priority [] no_activity refl _ _)
    where
      free : (body : Body) → is_synchronized code body ≡ false → (q : ℕ) →
          (elim body [
            | Written node ↦ if is_synchronized_body code.program node then Some row.at else None
            | Empty ↦ None
          ]) ≡ Some q → ⊥
      free (Written node) e q m = cc (m, e)
      free Empty e q m = cc (m)

  -- ---- both

  -- it waits and is started, or goes on
  pub record TakesTurn (t : State) : Type 0 where
    pub turn : ((a : Activity) × (r.status ≡ Started a) ×
        ReleaseMoves code (EntersRightly code rows s p) s p r.handler a.priority a.frames t)
        ⊎ ((row : HandlerRow) × (r.status ≡ Waits) × (handler_row s.registry r.handler ≡ Some row) ×
        ReleaseMoves code (EntersRightly code rows s p) s p r.handler row.priority [] t)

  turns : Gives TakesTurn (release_op_of code rows s p r)
  unfolding release_op_of start_op
  turns = go r.status refl
    where
      go : (status : ReleaseStatus) → r.status ≡ status →
          Gives TakesTurn
          (elim status [
            | Waits ↦ start_op code s p r
            | Started activity ↦ frame_op code rows s (ReleaseAt p) activity
            | Ended ↦ None
            | Dropped ↦ None
          ])
      go Waits e =
          gives_bind TakesTurn (handler_row s.registry r.handler) _ (λ row is_row.
          gives_bind TakesTurn (defined_by_chain code.program row.class) _ (λ scope is_scope.
          gives_bind TakesTurn (body_named code.program row.class (codes "handleAsyncEvent")) _ (λ body is_body.
          gives_some TakesTurn _
          (record { turn = inr (row, e, is_row, start_moves row scope body e is_row is_body) }))))
      go (Started a) e = record { is = λ step x. record { turn = inl (a, e, (frame_moves a e).is step x) } }
      go Ended e = gives_nothing TakesTurn
      go Dropped e = gives_nothing TakesTurn

pub op_turns : (code : Code) (rows : List ReadingRow) (s : State) (p : ℕ) (r : Release)
    (there : slice_get s.releases p ≡ Some r) (exec : is_exec s.phase ≡ true) →
    Gives (TakesTurn code rows s p r there exec) (ref_op code rows s (ReleaseAt p))
unfolding ref_op
op_turns code rows s p r there exec =
    subst (λ (o : Option Release). Gives (TakesTurn code rows s p r there exec) (o >>= release_op_of code rows s p))
    (sym there)
    (turns code rows s p r there exec)
