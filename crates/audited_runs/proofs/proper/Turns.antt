-- What the operation of a unit tells has proper parts.
use Rattle.std.proofs.Common.{◌≡◌, ℕ, ◌≤◌, Bool, true, false, not, ◌&&◌, All, List, [], ◌∷◌, length, Option, Some, None, refl, sym, subst}
use Rattle.std.specs.Prelude.{slice_get, codes}
use Rattle.std.specs.List.{list_all}
use Rattle.scj_base.specs.declared.positions.Position.{Position}
use Rattle.scj_base.specs.Lexeme.{is_text_byte}
use Rattle.scj_rules.specs.declared.views.Body.{Body}
use Rattle.scj_rules.specs.Bodies.{body_named, class_position, constructor_body, safelet_class, size_of}
use Rattle.scj_rules.specs.ScopeRules.{defined_by_chain, immortal_scope}
use Rattle.scj_rules.specs.Words.{◌>>=◌, holds}
use Rattle.scj_tree.specs.declared.nodes.Node.{Node}
use Rattle.scj_model.specs.declared.events.Event.TheVariants as event
use Rattle.scj_model.specs.declared.handlers.HandlerRow.{HandlerRow}
use Rattle.scj_model.specs.declared.operations.Op.{Op}
use Rattle.scj_model.specs.declared.operations.SeqOp.{SeqOp}
use Rattle.scj_model.specs.declared.operations.SeqOp.TheVariants.{OpenImmortal, AllocSafelet, ConstructSafelet, InitializeApplication, GetSequencer, GetNextMission, OpenMission, Initialize, CleanUp, Execute, Finished}
use Rattle.scj_model.specs.declared.plans.ReadingRow.{ReadingRow}
use Rattle.scj_model.specs.Code.{Code}
use Rattle.scj_model.specs.TraceText.{label}
use Rattle.scj_model.specs.State.{Object, Frame, Activity, ReleaseStatus, Waits, Started, Ended, Dropped, Release, Job, TheSequencer, ReleaseAt, State, Turn, IdleTurn, TurnOf, activity_of, object_at, is_exec, is_over}
use Rattle.scj_model.specs.Registry.{handler_row}
use Rattle.scj_model.specs.Memory.{new_slots}
use Rattle.scj_model.specs.Steps.{silently, then_try}
use Rattle.scj_model.specs.Apply.{applied}
use Rattle.scj_model.specs.Sequencer.{area_opened, body_called, innermost, method_called, safelet_made, sequencer_op}
use Rattle.scj_model.specs.Choice.{by_priority, candidate, chosen, may_act}
use Rattle.scj_model.specs.Run.{acts, effect_at, frame_op, is_same_turn, no_activity, position_of_op, ref_op, release_op_of, sequencer_turn, start_op, started_with, report_turn, turn_acts, turn_taken, with_turn}
use Rattle.scj_model.specs.Safety.{job_may_act}
use Rattle.priority_laws.specs.Handlers.{CeilingsArePriorities}
use Rattle.priority_laws.proofs.ReleaseTurns.{started_is, started_may_act}
use Rattle.priority_laws.proofs.Urgency.{IsChosen, is_chosen}
use Rattle.audited_runs.proofs.proper.Backing.{Backs}
use Rattle.audited_runs.proofs.proper.Effects.{few_with, good_applied, good_made, good_opening}
use Rattle.audited_runs.proofs.proper.Steps.{Good, GoodIf, IsProper, bind_good, either_good, elim_proper, good_silent, if_proper, none_proper, nothing_good, one_proper, some_good, tried_good}

-- what the operations of a state need
pub record Backed (F : Position → Type 0) (code : Code) (rows : List ReadingRow) (s : State) : Type 0 where
  pub ceilings : CeilingsArePriorities s.objects
  pub effects : (job : Job) (a : Activity) (f : Frame) (below : List Frame) (op : Op) (rest : List Op) →
      job_may_act s job ≡ true → activity_of s job ≡ Some a → a.frames ≡ f ∷ below → f.rest ≡ op ∷ rest →
      Backs F code s.objects job a (position_of_op code op) (effect_at code rows s f op rest)
  pub starts : (handler : ℕ) (row : HandlerRow) → handler_row s.registry handler ≡ Some row →
      F (class_position code.program row.class)
  pub safelet : (class : ℕ) → safelet_class code.program ≡ Some class → F (class_position code.program class)
  pub mission : (r : ℕ) (o : Object) → s.operation ≡ OpenMission r → object_at s r ≡ Some o →
      F (class_position code.program o.class)

module _ (nodes : List Node) (F : Position → Type 0) (code : Code) (rows : List ReadingRow)
    (labels : (id : ℕ) → list_all is_text_byte (label nodes id) ≡ true) where
  module _ (s : State) (few : length s.registry ≤ 64) (b : Backed F code rows s) where
    frame_good : (job : Job) (a : Activity) → job_may_act s job ≡ true → activity_of s job ≡ Some a →
        GoodIf (Good nodes F) (frame_op code rows s job a)
    unfolding frame_op
    frame_good job a may is = go a.frames refl
      where
        act : (f : Frame) (below : List Frame) → a.frames ≡ f ∷ below → (ops : List Op) → f.rest ≡ ops →
            GoodIf (Good nodes F)
            (elim ops [
              | [] ↦ None
              | op ∷ rest ↦ applied code s job a below (position_of_op code op) (effect_at code rows s f op rest)
            ])
        act f below frames [] k = nothing_good (Good nodes F)
        act f below frames (op ∷ rest) k =
            good_applied nodes F code s few labels b.ceilings job a below (position_of_op code op)
            (effect_at code rows s f op rest) (b.effects job a f below op rest may is frames k)

        go : (fs : List Frame) → a.frames ≡ fs →
            GoodIf (Good nodes F)
            (elim fs [
              | [] ↦ None
              | f
                  ∷ below ↦ elim f.rest [
                    | [] ↦ None
                    | op ∷ rest ↦ applied code s job a below (position_of_op code op)
                        (effect_at code rows s f op rest)
                  ]
            ])
        go [] k = nothing_good (Good nodes F)
        go (f ∷ below) k = act f below k f.rest refl

    -- ---- releases

    start_good : (p : ℕ) (r : Release) → GoodIf (Good nodes F) (start_op code s p r)
    unfolding start_op started_with
    start_good p r =
        bind_good (Good nodes F) (handler_row s.registry r.handler) _ (λ row e.
        bind_good (Good nodes F) (defined_by_chain code.program row.class) _ (λ scope f.
        bind_good (Good nodes F) (body_named code.program row.class (codes "handleAsyncEvent")) _ (λ body g.
        some_good (Good nodes F) _
        (good_opening nodes F s (ReleaseAt p) no_activity (class_position code.program row.class) scope
        (innermost s.activity.areas) row.bytes _ few (b.starts r.handler row e)
        (λ t n few_t. good_silent nodes F _ (few_with t (ReleaseAt p) _ few_t))))))

    pub release_good : (p : ℕ) (r : Release) → slice_get s.releases p ≡ Some r → is_exec s.phase ≡ true →
        GoodIf (Good nodes F) (ref_op code rows s (ReleaseAt p))
    unfolding ref_op release_op_of
    release_good p r there exec =
        subst (λ (o : Option Release). GoodIf (Good nodes F) (o >>= release_op_of code rows s p)) (sym there)
        (go r.status refl)
      where
        go : (status : ReleaseStatus) → r.status ≡ status →
            GoodIf (Good nodes F)
            (elim status [
              | Waits ↦ start_op code s p r
              | Started activity ↦ frame_op code rows s (ReleaseAt p) activity
              | Ended ↦ None
              | Dropped ↦ None
            ])
        go Waits e = start_good p r
        go (Started a) e =
            frame_good (ReleaseAt p) a (started_may_act code rows s p r there exec a e)
            (started_is code rows s p r there exec a e)
        go Ended e = nothing_good (Good nodes F)
        go Dropped e = nothing_good (Good nodes F)

    -- ---- the sequencer

    area_good : (position : Position) (scope bytes : ℕ) → F position → Good nodes F (area_opened s position scope bytes)
    unfolding area_opened
    area_good position scope bytes h =
        good_opening nodes F s TheSequencer s.activity position scope (innermost s.activity.areas) bytes _ few h
        (λ t n few_t. good_silent nodes F _ few_t)

    safelet_good : (position : Position) (class area : ℕ) → F position → Good nodes F (safelet_made code s position class area)
    unfolding safelet_made
    safelet_good position class area h =
        good_made nodes F s TheSequencer s.activity position class area (new_slots code.program class) _ few h
        (λ t n few_t. good_silent nodes F _ few_t)

    body_good : (r : ℕ) (body : Body) → GoodIf (Good nodes F) (body_called code s r body)
    unfolding body_called
    body_good r body =
        bind_good (Good nodes F) (innermost s.activity.areas) _ (λ area e. some_good (Good nodes F) _ (good_silent nodes F _ few))

    method_good : (r : ℕ) (name : List ℕ) → GoodIf (Good nodes F) (method_called code s r name)
    method_good r name =
        bind_good (Good nodes F) (object_at s r) _ (λ o e.
        bind_good (Good nodes F) (body_named code.program o.class name) _ (λ body f. body_good r body))

    op_good : (op : SeqOp) → s.operation ≡ op → GoodIf (Good nodes F) (sequencer_op code s op)
    unfolding sequencer_op
    op_good OpenImmortal same =
        bind_good (Good nodes F) (safelet_class code.program) _ (λ class e.
        bind_good (Good nodes F) (size_of code.program class) _ (λ bytes f.
        some_good (Good nodes F) _
        (area_good (class_position code.program class) immortal_scope bytes (b.safelet class e))))
    op_good AllocSafelet same =
        bind_good (Good nodes F) (safelet_class code.program) _ (λ class e.
        bind_good (Good nodes F) (innermost s.activity.areas) _ (λ area f.
        some_good (Good nodes F) _ (safelet_good (class_position code.program class) class area (b.safelet class e))))
    op_good (ConstructSafelet r) same =
        bind_good (Good nodes F) (object_at s r) _ (λ o e.
        bind_good (Good nodes F) (constructor_body code.program o.class) _ (λ body f. body_good r body))
    op_good (InitializeApplication r) same = method_good r _
    op_good (GetSequencer r) same = method_good r _
    op_good (GetNextMission r) same = method_good r _
    op_good (OpenMission r) same =
        bind_good (Good nodes F) (object_at s r) _ (λ o e.
        bind_good (Good nodes F) (defined_by_chain code.program o.class) _ (λ scope f.
        bind_good (Good nodes F) (size_of code.program o.class) _ (λ bytes g.
        some_good (Good nodes F) _
        (area_good (class_position code.program o.class) scope bytes (b.mission r o same e)))))
    op_good (Initialize r) same = method_good r _
    op_good (CleanUp r) same = method_good r _
    op_good Execute same = nothing_good (Good nodes F)
    op_good Finished same = nothing_good (Good nodes F)

    pub sequencer_good : job_may_act s TheSequencer ≡ true → GoodIf (Good nodes F) (sequencer_turn code rows s)
    unfolding sequencer_turn activity_of
    sequencer_good may = go s.activity.frames
      where
        go : (fs : List Frame) →
            GoodIf (Good nodes F)
            (elim fs [ [] ↦ sequencer_op code s s.operation | f ∷ below ↦ frame_op code rows s TheSequencer s.activity ])
        go [] = op_good s.operation refl
        go (f ∷ below) = frame_good TheSequencer s.activity may refl

  -- ---- the choice

  backed_turn : (s : State) (turn : Turn) → Backed F code rows s → Backed F code rows (with_turn s turn)
  unfolding job_may_act may_act candidate activity_of
  backed_turn s turn b =
      record {
        ceilings = b.ceilings;
        effects = λ job a f below op rest may is frames k. effects job a f below op rest may is frames k;
        starts = b.starts;
        safelet = b.safelet;
        mission = b.mission;
      }
    where
      effects : (job : Job) (a : Activity) (f : Frame) (below : List Frame) (op : Op) (rest : List Op) →
          job_may_act (with_turn s turn) job ≡ true → activity_of (with_turn s turn) job ≡ Some a →
          a.frames ≡ f ∷ below → f.rest ≡ op ∷ rest →
          Backs F code s.objects job a (position_of_op code op) (effect_at code rows (with_turn s turn) f op rest)
      effects TheSequencer a f below op rest may is frames k =
          b.effects TheSequencer a f below op rest may is frames k
      effects (ReleaseAt p) a f below op rest may is frames k =
          b.effects (ReleaseAt p) a f below op rest may is frames k

  module _ (s : State) (few : length s.registry ≤ 64) (b : Backed F code rows s) where
    turn_proper : (turn : Turn) → All (IsProper nodes F) (turn_taken s turn).events
    unfolding turn_taken report_turn
    turn_proper IdleTurn =
        if_proper nodes F (holds s.last_choice (is_same_turn IdleTurn)) [] _ (none_proper nodes F)
        (one_proper nodes F (event.Idle s.unit) tt)
    turn_proper (TurnOf p) =
        if_proper nodes F (holds s.last_choice (is_same_turn (TurnOf p))) [] _ (none_proper nodes F)
        (elim_proper nodes F (slice_get s.releases p) (λ (r : Release). event.Run s.unit r.handler r.number ∷ [])
        (λ r. one_proper nodes F (event.Run s.unit r.handler r.number) tt))

    by_choice : is_exec s.phase ≡ true → (index : Option ℕ) → chosen s ≡ index →
        GoodIf (Good nodes F)
        (then_try (turn_taken s (elim index [ None ↦ IdleTurn | Some index ↦ TurnOf index ]))
        (turn_acts code rows (elim index [ None ↦ IdleTurn | Some index ↦ TurnOf index ])))
    unfolding turn_taken turn_acts
    by_choice exec None e =
        tried_good nodes F (turn_taken s IdleTurn) (turn_acts code rows IdleTurn) (turn_proper IdleTurn)
        (some_good (Good nodes F) (silently (with_turn s IdleTurn)) (good_silent nodes F (with_turn s IdleTurn) few))
    by_choice exec (Some p) e =
        let k : IsChosen s p = is_chosen s p e in
        tried_good nodes F (turn_taken s (TurnOf p)) (turn_acts code rows (TurnOf p)) (turn_proper (TurnOf p))
        (release_good (with_turn s (TurnOf p)) few (backed_turn s (TurnOf p) b) p k.release k.is_there exec)

    may_not : (x y : Bool) → x ≡ false → y ≡ false → (not x && not y) ≡ true
    may_not false false e f = refl
    may_not true y e f = absurd (cc (e))
    may_not false true e f = absurd (cc (f))

    pub acts_good : is_over s.phase ≡ false → GoodIf (Good nodes F) (acts code rows by_priority s)
    unfolding acts by_priority job_may_act
    acts_good lives =
        either_good (Good nodes F) (is_exec s.phase) _ _ (λ exec. by_choice exec (chosen s) refl)
        (λ quiet. sequencer_good s few b (may_not (is_exec s.phase) (is_over s.phase) quiet lives))
