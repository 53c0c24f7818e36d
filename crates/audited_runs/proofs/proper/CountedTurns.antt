-- How many lines an operation tells, and how many releases it leaves, by how many there were.
use Rattle.std.proofs.Common.{ℕ, ◌≤◌, List, [], ◌∷◌, length, None}
use Rattle.std.specs.Prelude.{codes, slice_get}
use Rattle.scj_base.specs.declared.positions.Position.{Position}
use Rattle.scj_rules.specs.declared.views.Body.{Body}
use Rattle.scj_rules.specs.Bodies.{body_named, class_position, constructor_body, safelet_class, size_of}
use Rattle.scj_rules.specs.ScopeRules.{defined_by_chain, immortal_scope}
use Rattle.scj_model.specs.declared.operations.Op.{Op}
use Rattle.scj_model.specs.declared.operations.SeqOp.{SeqOp}
use Rattle.scj_model.specs.declared.operations.SeqOp.TheVariants.{OpenImmortal, AllocSafelet, ConstructSafelet, InitializeApplication, GetSequencer, GetNextMission, OpenMission, Initialize, CleanUp, Execute, Finished}
use Rattle.scj_model.specs.declared.plans.ReadingRow.{ReadingRow}
use Rattle.scj_model.specs.Code.{Code}
use Rattle.scj_model.specs.State.{Frame, Activity, ReleaseStatus, Waits, Started, Ended, Dropped, Release, Job, TheSequencer, ReleaseAt, State, object_at}
use Rattle.scj_model.specs.Registry.{handler_row}
use Rattle.scj_model.specs.Memory.{new_slots}
use Rattle.scj_model.specs.Apply.{applied}
use Rattle.scj_model.specs.Sequencer.{area_opened, body_called, innermost, method_called, safelet_made, sequencer_op}
use Rattle.scj_model.specs.Run.{effect_at, frame_op, no_activity, position_of_op, ref_op, release_op_of, sequencer_turn, start_op, started_with}
use Rattle.audited_runs.proofs.proper.Steps.{GoodIf, bind_good, nothing_good, some_good}
use Rattle.audited_runs.proofs.proper.Counts.{S, many_with, short_applied, short_made, short_opening, silent}

module _ (n : ℕ) where
  module _ (code : Code) (rows : List ReadingRow) (s : State) (h : length s.releases ≤ n) where
    short_frame : (job : Job) (a : Activity) → GoodIf (S n) (frame_op code rows s job a)
    unfolding frame_op
    short_frame job a = go a.frames
      where
        act : (f : Frame) (below : List Frame) (ops : List Op) →
            GoodIf (S n)
            (elim ops [
              | [] ↦ None
              | op ∷ rest ↦ applied code s job a below (position_of_op code op) (effect_at code rows s f op rest)
            ])
        act f below [] = nothing_good (S n)
        act f below (op ∷ rest) =
            short_applied n code s h job a below (position_of_op code op) (effect_at code rows s f op rest)

        go : (fs : List Frame) →
            GoodIf (S n)
            (elim fs [
              | [] ↦ None
              | f
                  ∷ below ↦ elim f.rest [
                    | [] ↦ None
                    | op ∷ rest ↦ applied code s job a below (position_of_op code op)
                        (effect_at code rows s f op rest)
                  ]
            ])
        go [] = nothing_good (S n)
        go (f ∷ below) = act f below f.rest

    short_start : (p : ℕ) (r : Release) → GoodIf (S n) (start_op code s p r)
    unfolding start_op started_with
    short_start p r =
        bind_good (S n) (handler_row s.registry r.handler) _ (λ row e.
        bind_good (S n) (defined_by_chain code.program row.class) _ (λ scope f.
        bind_good (S n) (body_named code.program row.class (codes "handleAsyncEvent")) _ (λ body g.
        some_good (S n) _
        (short_opening n s (ReleaseAt p) no_activity (class_position code.program row.class) scope
        (innermost s.activity.areas) row.bytes _ h (λ t k m. silent n _ (many_with n t (ReleaseAt p) _ m))))))

    pub short_release : (p : ℕ) → GoodIf (S n) (ref_op code rows s (ReleaseAt p))
    unfolding ref_op release_op_of
    short_release p = bind_good (S n) (slice_get s.releases p) _ (λ r e. go r r.status)
      where
        go : (r : Release) (status : ReleaseStatus) →
            GoodIf (S n)
            (elim status [
              | Waits ↦ start_op code s p r
              | Started activity ↦ frame_op code rows s (ReleaseAt p) activity
              | Ended ↦ None
              | Dropped ↦ None
            ])
        go r Waits = short_start p r
        go r (Started a) = short_frame (ReleaseAt p) a
        go r Ended = nothing_good (S n)
        go r Dropped = nothing_good (S n)

    short_area : (position : Position) (scope bytes : ℕ) → (S n) (area_opened s position scope bytes)
    unfolding area_opened
    short_area position scope bytes =
        short_opening n s TheSequencer s.activity position scope (innermost s.activity.areas) bytes _ h
        (λ t k m. silent n _ m)

    short_safelet : (position : Position) (class area : ℕ) → (S n) (safelet_made code s position class area)
    unfolding safelet_made
    short_safelet position class area =
        short_made n s TheSequencer s.activity position class area (new_slots code.program class) _ h (λ t k m. silent n _ m)

    short_body : (r : ℕ) (body : Body) → GoodIf (S n) (body_called code s r body)
    unfolding body_called
    short_body r body = bind_good (S n) (innermost s.activity.areas) _ (λ area e. some_good (S n) _ (silent n _ h))

    short_method : (r : ℕ) (name : List ℕ) → GoodIf (S n) (method_called code s r name)
    short_method r name =
        bind_good (S n) (object_at s r) _ (λ o e.
        bind_good (S n) (body_named code.program o.class name) _ (λ body f. short_body r body))

    short_op : (op : SeqOp) → GoodIf (S n) (sequencer_op code s op)
    unfolding sequencer_op
    short_op OpenImmortal =
        bind_good (S n) (safelet_class code.program) _ (λ class e.
        bind_good (S n) (size_of code.program class) _ (λ bytes f. some_good (S n) _ (short_area _ immortal_scope bytes)))
    short_op AllocSafelet =
        bind_good (S n) (safelet_class code.program) _ (λ class e.
        bind_good (S n) (innermost s.activity.areas) _ (λ area f. some_good (S n) _ (short_safelet _ class area)))
    short_op (ConstructSafelet r) =
        bind_good (S n) (object_at s r) _ (λ o e.
        bind_good (S n) (constructor_body code.program o.class) _ (λ body f. short_body r body))
    short_op (InitializeApplication r) = short_method r _
    short_op (GetSequencer r) = short_method r _
    short_op (GetNextMission r) = short_method r _
    short_op (OpenMission r) =
        bind_good (S n) (object_at s r) _ (λ o e.
        bind_good (S n) (defined_by_chain code.program o.class) _ (λ scope f.
        bind_good (S n) (size_of code.program o.class) _ (λ bytes g. some_good (S n) _ (short_area _ scope bytes))))
    short_op (Initialize r) = short_method r _
    short_op (CleanUp r) = short_method r _
    short_op Execute = nothing_good (S n)
    short_op Finished = nothing_good (S n)

    pub short_sequencer : GoodIf (S n) (sequencer_turn code rows s)
    unfolding sequencer_turn
    short_sequencer = go s.activity.frames
      where
        go : (fs : List Frame) →
            GoodIf (S n)
            (elim fs [ [] ↦ sequencer_op code s s.operation | f ∷ below ↦ frame_op code rows s TheSequencer s.activity ])
        go [] = short_op s.operation
        go (f ∷ below) = short_frame TheSequencer s.activity
