-- An operation of a job makes at most one object and opens at most one area.
use Rattle.std.proofs.Common.{ℕ, Bool, true, false, List, [], ◌∷◌, Option, Some, None, if◌then◌else◌, refl, subst, ap}
use Rattle.std.specs.Prelude.{option_map, slice_get, slice_set, unwrap_or, codes}
use Rattle.scj_base.specs.declared.positions.Position.{Position}
use Rattle.scj_rules.specs.declared.views.Body.{Body}
use Rattle.scj_rules.specs.Words.{◌>>=◌}
use Rattle.scj_rules.specs.ScopeRules.{immortal_scope, defined_by_chain}
use Rattle.scj_rules.specs.Bodies.{body_named, constructor_body, size_of, safelet_class, class_position}
use Rattle.scj_model.specs.declared.operations.Op.{Op}
use Rattle.scj_model.specs.declared.operations.SeqOp.{SeqOp}
use Rattle.scj_model.specs.declared.operations.SeqOp.TheVariants.{OpenImmortal, AllocSafelet, ConstructSafelet, InitializeApplication, GetSequencer, GetNextMission, OpenMission, Initialize, CleanUp, Execute, Finished}
use Rattle.scj_model.specs.declared.plans.ReadingRow.{ReadingRow}
use Rattle.scj_model.specs.Code.{Code}
use Rattle.scj_model.specs.State.{Object, Frame, Activity, ReleaseStatus, Waits, Started, Ended, Dropped, Release, Job, TheSequencer, ReleaseAt, State, object_at}
use Rattle.scj_model.specs.Registry.{handler_row}
use Rattle.scj_model.specs.Memory.{new_slots}
use Rattle.scj_model.specs.Steps.{Step}
use Rattle.scj_model.specs.Effects.{Effect, Goes, Prints, Makes, Stores, StoresStatic, SetsHidden, SetsCeiling, Calls, Opens, Leaves, AsksRegistration, AsksRelease, AsksTermination, Faults, Stuck}
use Rattle.scj_model.specs.Apply.{with_ceiling, with_first, with_frame, applied, is_sequencer}
use Rattle.scj_model.specs.Sequencer.{innermost, area_opened, safelet_made, body_called, method_called, sequencer_op}
use Rattle.scj_model.specs.Run.{frame_op, effect_at, position_of_op, start_op, started_with, no_activity, release_op_of, sequencer_turn, ref_op}
use Rattle.run_sizes.proofs.Growing.{GrowsTo, GrowsIf, unchanged, by_one, then_grows, length_changed, grows_active, faulted, grows_called, grows_opening, grows_allocating, grows_opened, grows_left, grows_released, grows_asked, grows_registered}

-- ---- steps that may have no result

pub some_grows : (more : ℕ) (s : State) (r : Step) → GrowsTo more s r → GrowsIf more s (Some r)
some_grows more s r g =
    record {
      is = λ q e. subst (λ (x : Step). GrowsTo more s x) (ap (λ (o : Option Step). unwrap_or o r) e) g;
    }

pub none_grows : (more : ℕ) (s : State) → GrowsIf more s None
none_grows more s = record { is = λ q e. absurd (cc (e)) }

pub bind_grows : {A : Type 0} (more : ℕ) (s : State) (o : Option A) (f : A → Option Step) →
    ((a : A) → GrowsIf more s (f a)) → GrowsIf more s (o >>= f)
bind_grows more s None f h = none_grows more s
bind_grows more s (Some a) f h = h a

pub mapped_grows : {A : Type 0} (more : ℕ) (s : State) (o : Option A) (f : A → Step) →
    ((a : A) → GrowsTo more s (f a)) → GrowsIf more s (option_map f o)
mapped_grows more s None f h = none_grows more s
mapped_grows more s (Some a) f h = some_grows more s (f a) (h a)

pub either_grows : (more : ℕ) (s : State) (b : Bool) (x y : Option Step) → GrowsIf more s x → GrowsIf more s y →
    GrowsIf more s (if b then x else y)
either_grows more s true x y g h = g
either_grows more s false x y g h = h

grows_applied : (code : Code) (s : State) (job : Job) (activity : Activity) (below : List Frame) (position : Position)
    (effect : Effect) → GrowsIf 1 s (applied code s job activity below position effect)
unfolding applied
grows_applied code s job activity below position (Goes f) = some_grows 1 s _ (by_one s _ (grows_active s job _))
grows_applied code s job activity below position (Prints f label value) =
    some_grows 1 s _ (by_one s _ (grows_active s job _))
grows_applied code s job activity below position (Makes f class slots) =
    some_grows 1 s _
    (grows_allocating s job activity position class f.area slots _ (λ t r. grows_active t job _))
grows_applied code s job activity below position (Stores f r slot value) =
    some_grows 1 s _
    (by_one s _ (then_grows 0 s _ _ (unchanged s _
    (length_changed (λ (o : Object). record o { slots = slice_set o.slots slot value }) r s.objects) refl)
    (grows_active _ job _)))
grows_applied code s job activity below position (StoresStatic f k value) =
    some_grows 1 s _ (by_one s _ (then_grows 0 s _ _ (unchanged s _ refl refl) (grows_active _ job _)))
grows_applied code s job activity below position (SetsHidden f r values) =
    some_grows 1 s _
    (by_one s _ (then_grows 0 s _ _ (unchanged s _ (length_changed (with_first values) r s.objects) refl)
    (grows_active _ job _)))
grows_applied code s job activity below position (SetsCeiling f r ceiling) =
    either_grows 1 s (is_sequencer job) _ _
    (some_grows 1 s _
    (by_one s _ (then_grows 0 s _ _ (unchanged s _ (length_changed (with_ceiling ceiling) r s.objects) refl)
    (grows_active _ job _))))
    (some_grows 1 s _ (faulted s job activity position _))
grows_applied code s job activity below position (Calls f g) =
    some_grows 1 s _ (by_one s _ (grows_called code s job activity (f ∷ below) position g))
grows_applied code s job activity below position (Opens f g scope bytes) =
    some_grows 1 s _ (grows_opened s job activity (f ∷ below) position g scope bytes)
grows_applied code s job activity below position (Leaves f value) =
    some_grows 1 s _ (by_one s _ (grows_left s job activity f below value))
grows_applied code s job activity below position (AsksRegistration f r) =
    mapped_grows 1 s (object_at s r) _ (λ o.
    by_one s _ (grows_registered code s job activity position r o (with_frame s job activity f below)
    (grows_active s job _)))
grows_applied code s job activity below position (AsksRelease f r) =
    some_grows 1 s _
    (by_one s _ (then_grows 0 s (with_frame s job activity f below) _ (grows_active s job _)
    (grows_released (with_frame s job activity f below) r)))
grows_applied code s job activity below position (AsksTermination f r) =
    some_grows 1 s _
    (by_one s _ (then_grows 0 s (with_frame s job activity f below) _ (grows_active s job _)
    (grows_asked (with_frame s job activity f below) r)))
grows_applied code s job activity below position (Faults fault) =
    some_grows 1 s _ (faulted s job activity position fault)
grows_applied code s job activity below position Stuck = none_grows 1 s

-- ---- operations of jobs

grows_frame : (code : Code) (rows : List ReadingRow) (s : State) (job : Job) (activity : Activity) →
    GrowsIf 1 s (frame_op code rows s job activity)
unfolding frame_op
grows_frame code rows s job activity = go activity.frames
  where
    act : (f : Frame) (below : List Frame) (ops : List Op) →
        GrowsIf 1 s (elim ops [
          | [] ↦ None
          | op ∷ rest ↦ applied code s job activity below (position_of_op code op) (effect_at code rows s f op rest)
        ])
    act f below [] = none_grows 1 s
    act f below (op ∷ rest) =
        grows_applied code s job activity below (position_of_op code op) (effect_at code rows s f op rest)

    go : (fs : List Frame) →
        GrowsIf 1 s (elim fs [
          | [] ↦ None
          | f ∷ below ↦ elim f.rest [
            | [] ↦ None
            | op ∷ rest ↦ applied code s job activity below (position_of_op code op) (effect_at code rows s f op rest)
          ]
        ])
    go [] = none_grows 1 s
    go (f ∷ below) = act f below f.rest

grows_start : (code : Code) (s : State) (index : ℕ) (r : Release) → GrowsIf 1 s (start_op code s index r)
unfolding start_op started_with
grows_start code s index r =
    bind_grows 1 s (handler_row s.registry r.handler) _ (λ row.
    bind_grows 1 s (defined_by_chain code.program row.class) _ (λ scope.
    bind_grows 1 s (body_named code.program row.class (codes "handleAsyncEvent")) _ (λ body.
    some_grows 1 s _
    (grows_opening s (ReleaseAt index) no_activity (class_position code.program row.class) scope
    (innermost s.activity.areas) row.bytes _ (λ t a. grows_active t (ReleaseAt index) _)))))

grows_release : (code : Code) (rows : List ReadingRow) (s : State) (index : ℕ) (r : Release) →
    GrowsIf 1 s (release_op_of code rows s index r)
unfolding release_op_of
grows_release code rows s index r = go r.status
  where
    go : (p : ReleaseStatus) →
        GrowsIf 1 s (elim p [
          | Waits ↦ start_op code s index r
          | Started activity ↦ frame_op code rows s (ReleaseAt index) activity
          | Ended ↦ None
          | Dropped ↦ None
        ])
    go Waits = grows_start code s index r
    go (Started activity) = grows_frame code rows s (ReleaseAt index) activity
    go Ended = none_grows 1 s
    go Dropped = none_grows 1 s

grows_body : (code : Code) (s : State) (r : ℕ) (body : Body) → GrowsIf 1 s (body_called code s r body)
unfolding body_called
grows_body code s r body =
    bind_grows 1 s (innermost s.activity.areas) _ (λ area.
    some_grows 1 s _ (by_one s _ (unchanged s _ refl refl)))

grows_method : (code : Code) (s : State) (r : ℕ) (name : List ℕ) → GrowsIf 1 s (method_called code s r name)
grows_method code s r name =
    bind_grows 1 s (object_at s r) _ (λ o.
    bind_grows 1 s (body_named code.program o.class name) _ (λ body. grows_body code s r body))

grows_area : (s : State) (position : Position) (scope bytes : ℕ) → GrowsTo 1 s (area_opened s position scope bytes)
unfolding area_opened
grows_area s position scope bytes =
    grows_opening s TheSequencer s.activity position scope (innermost s.activity.areas) bytes _
    (λ t a. unchanged t _ refl refl)

grows_safelet : (code : Code) (s : State) (position : Position) (class area : ℕ) →
    GrowsTo 1 s (safelet_made code s position class area)
unfolding safelet_made
grows_safelet code s position class area =
    grows_allocating s TheSequencer s.activity position class area (new_slots code.program class) _
    (λ t r. unchanged t _ refl refl)

grows_sequencer_op : (code : Code) (s : State) (op : SeqOp) → GrowsIf 1 s (sequencer_op code s op)
unfolding sequencer_op
grows_sequencer_op code s OpenImmortal =
    bind_grows 1 s (safelet_class code.program) _ (λ class.
    bind_grows 1 s (size_of code.program class) _ (λ bytes.
    some_grows 1 s _ (grows_area s (class_position code.program class) immortal_scope bytes)))
grows_sequencer_op code s AllocSafelet =
    bind_grows 1 s (safelet_class code.program) _ (λ class.
    bind_grows 1 s (innermost s.activity.areas) _ (λ area.
    some_grows 1 s _ (grows_safelet code s (class_position code.program class) class area)))
grows_sequencer_op code s (ConstructSafelet r) =
    bind_grows 1 s (object_at s r) _ (λ o.
    bind_grows 1 s (constructor_body code.program o.class) _ (λ body. grows_body code s r body))
grows_sequencer_op code s (InitializeApplication r) = grows_method code s r (codes "initializeApplication")
grows_sequencer_op code s (GetSequencer r) = grows_method code s r (codes "getSequencer")
grows_sequencer_op code s (GetNextMission r) = grows_method code s r (codes "getNextMission")
grows_sequencer_op code s (OpenMission r) =
    bind_grows 1 s (object_at s r) _ (λ o.
    bind_grows 1 s (defined_by_chain code.program o.class) _ (λ scope.
    bind_grows 1 s (size_of code.program o.class) _ (λ bytes.
    some_grows 1 s _ (grows_area s (class_position code.program o.class) scope bytes))))
grows_sequencer_op code s (Initialize r) = grows_method code s r (codes "initialize")
grows_sequencer_op code s (CleanUp r) = grows_method code s r (codes "cleanUp")
grows_sequencer_op code s Execute = none_grows 1 s
grows_sequencer_op code s Finished = none_grows 1 s

pub grows_turn : (code : Code) (rows : List ReadingRow) (s : State) → GrowsIf 1 s (sequencer_turn code rows s)
unfolding sequencer_turn
grows_turn code rows s = go s.activity.frames
  where
    go : (fs : List Frame) →
        GrowsIf 1 s (elim fs [
          | [] ↦ sequencer_op code s s.operation
          | f ∷ below ↦ frame_op code rows s TheSequencer s.activity
        ])
    go [] = grows_sequencer_op code s s.operation
    go (f ∷ below) = grows_frame code rows s TheSequencer s.activity

pub grows_ref_op : (code : Code) (rows : List ReadingRow) (s : State) (job : Job) →
    GrowsIf 1 s (ref_op code rows s job)
unfolding ref_op
grows_ref_op code rows s TheSequencer = grows_turn code rows s
grows_ref_op code rows s (ReleaseAt n) =
    bind_grows 1 s (slice_get s.releases n) _ (λ r. grows_release code rows s n r)
