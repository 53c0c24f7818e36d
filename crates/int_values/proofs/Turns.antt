-- The operation of a unit: the numbers have 32 bits after it where they had before it.
use Rattle.std.proofs.Common.{◌≡◌, ℕ, All, List, [], ◌∷◌, length, Option, Some, None, refl, ap, ◌∙◌}
use Rattle.std.specs.Prelude.{codes, slice_get}
use Rattle.std.proofs.lemmas.List.Elements.{All-cons, All-head, All-nil, All-tail}
use Rattle.scj_base.specs.declared.positions.Position.{Position}
use Rattle.scj_rules.specs.declared.views.Body.{Body}
use Rattle.scj_rules.specs.Bodies.{body_named, class_position, constructor_body, safelet_class, size_of}
use Rattle.scj_rules.specs.ScopeRules.{defined_by_chain, immortal_scope}
use Rattle.scj_rules.specs.Words.{holds, ◌>>=◌}
use Rattle.scj_model.specs.declared.events.Event.TheVariants as event
use Rattle.scj_model.specs.declared.operations.Op.{Op}
use Rattle.scj_model.specs.declared.operations.SeqOp.{SeqOp}
use Rattle.scj_model.specs.declared.operations.SeqOp.TheVariants.{OpenImmortal, AllocSafelet, ConstructSafelet, InitializeApplication, GetSequencer, GetNextMission, OpenMission, Initialize, CleanUp, Execute, Finished}
use Rattle.scj_model.specs.declared.plans.ReadingRow.{ReadingRow}
use Rattle.scj_model.specs.Code.{Code}
use Rattle.scj_model.specs.State.{Frame, Activity, ReleaseStatus, Waits, Started, Ended, Dropped, Release, Job, TheSequencer, ReleaseAt, State, Turn, IdleTurn, TurnOf, activity_in, activity_of, is_exec, object_at}
use Rattle.scj_model.specs.Registry.{handler_row}
use Rattle.scj_model.specs.Memory.{new_slots, with_area, with_object}
use Rattle.scj_model.specs.Steps.{then_try}
use Rattle.scj_model.specs.Effects.{new_frame}
use Rattle.scj_model.specs.Apply.{applied}
use Rattle.scj_model.specs.Sequencer.{area_opened, body_called, innermost, method_called, safelet_made, sequencer_op}
use Rattle.scj_model.specs.Choice.{Policy}
use Rattle.scj_model.specs.Run.{acts, effect_at, environment, frame_op, is_same_turn, no_activity, position_of_op, ref_op, release_op_of, sequencer_turn, start_op, started_with, report_turn, turn_acts, turn_taken, with_turn}
use Rattle.int_values.specs.Ints.{FrameFits, PrintsInt, ReleaseFits, StateFits, StepFits}
use Rattle.int_values.proofs.Applied.{SetsItsHidden, applied_fits, making_fits, opening_fits}
use Rattle.int_values.proofs.Begins.{frame_begins, slots_fit}
use Rattle.int_values.proofs.Changes.{active_fits, alike}
use Rattle.int_values.proofs.Known.{Known, all_at}
use Rattle.int_values.proofs.Operations.{Takes, operation_fits}
use Rattle.int_values.proofs.Steps.{GoodIf, bind_good, either_good, elim_events, if_events, nothing_good, one_event, silent_fits, some_good, tried_fits}

-- what the next operations of the jobs of a state take and set is what the rules promise
pub record Promised (code : Code) (rows : List ReadingRow) (s : State) : Type 0 where
  pub takes : (job : Job) (a : Activity) (f : Frame) (below : List Frame) (op : Op) (rest : List Op) →
      activity_of s job ≡ Some a → a.frames ≡ f ∷ below → f.rest ≡ op ∷ rest →
      Takes code (environment rows s) (record f { rest = rest }) op
  pub sets : (job : Job) (a : Activity) (f : Frame) (below : List Frame) (op : Op) (rest : List Op) →
      activity_of s job ≡ Some a → a.frames ≡ f ∷ below → f.rest ≡ op ∷ rest →
      SetsItsHidden code.program s (effect_at code rows s f op rest)

module _ (code : Code) (rows : List ReadingRow) where
  module _ (s : State) (h : StateFits code.program s) (known : Known code (environment rows s))
      (promised : Promised code rows s) where
    frame_op_fits : (job : Job) (a : Activity) → activity_of s job ≡ Some a → All FrameFits a.frames →
        GoodIf (StepFits code.program) (frame_op code rows s job a)
    unfolding frame_op
    frame_op_fits job a is fit = go a.frames refl fit
      where
        acting : (f : Frame) (below : List Frame) → a.frames ≡ f ∷ below → FrameFits f → All FrameFits below →
            (ops : List Op) → f.rest ≡ ops →
            GoodIf (StepFits code.program)
            (elim ops [
              | [] ↦ None
              | op ∷ rest ↦ applied code s job a below (position_of_op code op) (effect_at code rows s f op rest)
            ])
        acting f below frames one under [] k = nothing_good (StepFits code.program)
        acting f below frames one under (op ∷ rest) k =
            applied_fits code.program code s h job a below under (position_of_op code op) (effect_at code rows s f op rest)
            (operation_fits code (environment rows s) known (record f { rest = rest })
            (record { locals = one.locals; operands = one.operands }) op
            (promised.takes job a f below op rest is frames k)).is
            (promised.sets job a f below op rest is frames k)

        go : (fs : List Frame) → a.frames ≡ fs → All FrameFits fs →
            GoodIf (StepFits code.program)
            (elim fs [
              | [] ↦ None
              | f
                  ∷ below ↦ elim f.rest [
                    | [] ↦ None
                    | op ∷ rest ↦ applied code s job a below (position_of_op code op)
                        (effect_at code rows s f op rest)
                  ]
            ])
        go [] k fit = nothing_good (StepFits code.program)
        go (f ∷ below) k fit =
            acting f below k (All-head FrameFits f below fit) (All-tail FrameFits f below fit) f.rest refl

    -- ---- releases

    start_fits : (n : ℕ) (r : Release) → GoodIf (StepFits code.program) (start_op code s n r)
    unfolding start_op started_with
    start_fits n r =
        bind_good (StepFits code.program) (handler_row s.registry r.handler) _ (λ row e.
        bind_good (StepFits code.program) (defined_by_chain code.program row.class) _ (λ scope g.
        bind_good (StepFits code.program) (body_named code.program row.class (codes "handleAsyncEvent")) _ (λ body k.
        some_good (StepFits code.program) _
        (opening_fits code.program s (ReleaseAt n) no_activity (class_position code.program row.class) scope
        (innermost s.activity.areas) row.bytes _ h
        (λ t. silent_fits code.program _
        (active_fits code.program (with_area s scope (innermost s.activity.areas) row.bytes) (ReleaseAt n) _ t
        (All-cons FrameFits _ [] (first body row.at) (All-nil FrameFits))))))))
      where
        first : (body : Body) (at : ℕ) →
            FrameFits (record (new_frame code body None (Some at) (length s.areas) []) { opened = Some (length s.areas) })
        first body at =
            let f = frame_begins code body None (Some at) (length s.areas) [] (All-nil _) in
            record { locals = f.locals; operands = f.operands }

    pub release_fits : (n : ℕ) (r : Release) → slice_get s.releases n ≡ Some r →
        GoodIf (StepFits code.program) (release_op_of code rows s n r)
    unfolding release_op_of activity_of activity_in
    release_fits n r there = go r.status refl
      where
        go : (status : ReleaseStatus) → r.status ≡ status →
            GoodIf (StepFits code.program)
            (elim status [
              | Waits ↦ start_op code s n r
              | Started activity ↦ frame_op code rows s (ReleaseAt n) activity
              | Ended ↦ None
              | Dropped ↦ None
            ])
        go Waits e = start_fits n r
        go (Started a) e =
            frame_op_fits (ReleaseAt n) a
            (ap (λ (o : Option Release). o >>= (λ r. activity_in r.status)) there ∙ ap activity_in e)
            ((all_at ReleaseFits s.releases n r h.releases there).frames a (ap activity_in e))
        go Ended e = nothing_good (StepFits code.program)
        go Dropped e = nothing_good (StepFits code.program)

    -- ---- the sequencer

    -- the sequencer has these frames, and an operation of its own is done with a value
    seq_fits : (t : State) (activity : Activity) (outcome : _) → StateFits code.program t →
        All FrameFits activity.frames → StateFits code.program (record t { activity = activity; outcome = outcome })
    seq_fits t activity outcome g k =
        record {
          store = g.store;
          areas = g.areas;
          objects = g.objects;
          statics = g.statics;
          sequencer = k;
          releases = g.releases;
        }

    area_fits : (position : Position) (scope bytes : ℕ) → StepFits code.program (area_opened s position scope bytes)
    unfolding area_opened
    area_fits position scope bytes =
        opening_fits code.program s TheSequencer s.activity position scope (innermost s.activity.areas) bytes _ h
        (λ t. silent_fits code.program _ (seq_fits (with_area s scope (innermost s.activity.areas) bytes) _ _ t h.sequencer))

    safelet_fits : (position : Position) (class area : ℕ) → StepFits code.program (safelet_made code s position class area)
    unfolding safelet_made
    safelet_fits position class area =
        making_fits code.program s TheSequencer s.activity position class area (new_slots code.program class) _ h
        (slots_fit code.program class)
        (λ t. silent_fits code.program _
        (seq_fits (with_object s class area (new_slots code.program class)) s.activity _ t h.sequencer))

    body_fits : (r : ℕ) (body : Body) → GoodIf (StepFits code.program) (body_called code s r body)
    unfolding body_called
    body_fits r body =
        bind_good (StepFits code.program) (innermost s.activity.areas) _ (λ area e.
        some_good (StepFits code.program) _
        (silent_fits code.program _
        (seq_fits s _ s.outcome h
        (All-cons FrameFits _ [] (frame_begins code body None (Some r) area [] (All-nil _)) (All-nil FrameFits)))))

    method_fits : (r : ℕ) (name : List ℕ) → GoodIf (StepFits code.program) (method_called code s r name)
    method_fits r name =
        bind_good (StepFits code.program) (object_at s r) _ (λ o e.
        bind_good (StepFits code.program) (body_named code.program o.class name) _ (λ body g. body_fits r body))

    op_fits : (op : SeqOp) → GoodIf (StepFits code.program) (sequencer_op code s op)
    unfolding sequencer_op
    op_fits OpenImmortal =
        bind_good (StepFits code.program) (safelet_class code.program) _ (λ class e.
        bind_good (StepFits code.program) (size_of code.program class) _ (λ bytes g.
        some_good (StepFits code.program) _ (area_fits (class_position code.program class) immortal_scope bytes)))
    op_fits AllocSafelet =
        bind_good (StepFits code.program) (safelet_class code.program) _ (λ class e.
        bind_good (StepFits code.program) (innermost s.activity.areas) _ (λ area g.
        some_good (StepFits code.program) _ (safelet_fits (class_position code.program class) class area)))
    op_fits (ConstructSafelet r) =
        bind_good (StepFits code.program) (object_at s r) _ (λ o e.
        bind_good (StepFits code.program) (constructor_body code.program o.class) _ (λ body g. body_fits r body))
    op_fits (InitializeApplication r) = method_fits r _
    op_fits (GetSequencer r) = method_fits r _
    op_fits (GetNextMission r) = method_fits r _
    op_fits (OpenMission r) =
        bind_good (StepFits code.program) (object_at s r) _ (λ o e.
        bind_good (StepFits code.program) (defined_by_chain code.program o.class) _ (λ scope g.
        bind_good (StepFits code.program) (size_of code.program o.class) _ (λ bytes k.
        some_good (StepFits code.program) _ (area_fits (class_position code.program o.class) scope bytes))))
    op_fits (Initialize r) = method_fits r _
    op_fits (CleanUp r) = method_fits r _
    op_fits Execute = nothing_good (StepFits code.program)
    op_fits Finished = nothing_good (StepFits code.program)

    sequencer_fits : GoodIf (StepFits code.program) (sequencer_turn code rows s)
    unfolding sequencer_turn activity_of
    sequencer_fits = go s.activity.frames
      where
        go : (fs : List Frame) →
            GoodIf (StepFits code.program)
            (elim fs [ [] ↦ sequencer_op code s s.operation | f ∷ below ↦ frame_op code rows s TheSequencer s.activity ])
        go [] = op_fits s.operation
        go (f ∷ below) = frame_op_fits TheSequencer s.activity refl h.sequencer

  -- ---- the choice

  promised_turn : (s : State) (turn : Turn) → Promised code rows s → Promised code rows (with_turn s turn)
  unfolding activity_of
  promised_turn s turn b =
      record {
        takes = λ job a f below op rest is frames k. takes job a f below op rest is frames k;
        sets = λ job a f below op rest is frames k. sets job a f below op rest is frames k;
      }
    where
      takes : (job : Job) (a : Activity) (f : Frame) (below : List Frame) (op : Op) (rest : List Op) →
          activity_of (with_turn s turn) job ≡ Some a → a.frames ≡ f ∷ below → f.rest ≡ op ∷ rest →
          Takes code (environment rows (with_turn s turn)) (record f { rest = rest }) op
      takes TheSequencer a f below op rest is frames k = b.takes TheSequencer a f below op rest is frames k
      takes (ReleaseAt n) a f below op rest is frames k = b.takes (ReleaseAt n) a f below op rest is frames k

      sets : (job : Job) (a : Activity) (f : Frame) (below : List Frame) (op : Op) (rest : List Op) →
          activity_of (with_turn s turn) job ≡ Some a → a.frames ≡ f ∷ below → f.rest ≡ op ∷ rest →
          SetsItsHidden code.program (with_turn s turn) (effect_at code rows (with_turn s turn) f op rest)
      sets TheSequencer a f below op rest is frames k = b.sets TheSequencer a f below op rest is frames k
      sets (ReleaseAt n) a f below op rest is frames k = b.sets (ReleaseAt n) a f below op rest is frames k

  module _ (s : State) (h : StateFits code.program s) (known : Known code (environment rows s))
      (promised : Promised code rows s) where
    turn_reported : (turn : Turn) → All PrintsInt (turn_taken s turn).events
    unfolding turn_taken report_turn
    turn_reported IdleTurn =
        if_events code.program (holds s.last_choice (is_same_turn IdleTurn)) [] _ (All-nil PrintsInt)
        (one_event code.program (event.Idle s.unit) tt)
    turn_reported (TurnOf n) =
        if_events code.program (holds s.last_choice (is_same_turn (TurnOf n))) [] _ (All-nil PrintsInt)
        (elim_events code.program (slice_get s.releases n) (λ (r : Release). event.Run s.unit r.handler r.number ∷ [])
        (λ r. one_event code.program (event.Run s.unit r.handler r.number) tt))

    turned_fits : (turn : Turn) → StateFits code.program (with_turn s turn)
    turned_fits turn = alike code.program s _ h refl refl refl refl refl refl

    known_turn : (turn : Turn) → Known code (environment rows (with_turn s turn))
    known_turn turn =
        record { nodes = known.nodes; objects = known.objects; statics = known.statics; reading = known.reading }

    turn_fits : (turn : Turn) → GoodIf (StepFits code.program) (turn_acts code rows turn (with_turn s turn))
    unfolding turn_acts ref_op
    turn_fits IdleTurn = some_good (StepFits code.program) _ (silent_fits code.program _ (turned_fits IdleTurn))
    turn_fits (TurnOf n) =
        bind_good (StepFits code.program) (slice_get s.releases n) _ (λ r there.
        release_fits (with_turn s (TurnOf n)) (turned_fits (TurnOf n)) (known_turn (TurnOf n))
        (promised_turn s (TurnOf n) promised) n r there)

    chosen_fits : (turn : Turn) →
        GoodIf (StepFits code.program) (then_try (turn_taken s turn) (turn_acts code rows turn))
    unfolding turn_taken
    chosen_fits turn =
        tried_fits code.program (turn_taken s turn) (turn_acts code rows turn) (turn_reported turn) (turn_fits turn)

    pub acts_fit : (policy : Policy) → GoodIf (StepFits code.program) (acts code rows policy s)
    unfolding acts
    acts_fit policy =
        either_good (StepFits code.program) (is_exec s.phase) _ _
        (λ e. bind_good (StepFits code.program) (policy s) _ (λ turn g. chosen_fits turn))
        (λ e. sequencer_fits s h known promised)
