-- What an operation does leaves each job with few frames.
use Rattle.std.proofs.Common.{◌≡◌, ℕ, ◌+◌, ◌<◌, ◌≤◌, nat_lt, Bool, true, false, not, List, [], ◌∷◌, length, Option, Some, None, if◌then◌else◌, refl, arith}
use Rattle.std.specs.Prelude.{is_some, option_map, slice_get, slice_set, codes, unwrap_or}
use Rattle.scj_base.specs.declared.positions.Position.{Position}
use Rattle.scj_base.specs.declared.values.Value.{Value}
use Rattle.scj_base.specs.declared.values.Value.TheVariants.{At}
use Rattle.scj_rules.specs.declared.views.Body.{Body}
use Rattle.scj_rules.specs.Words.{◌>>=◌}
use Rattle.scj_rules.specs.ScopeRules.{immortal_scope, defined_by_chain}
use Rattle.scj_rules.specs.Bodies.{body_named, constructor_body, size_of, safelet_class, class_position}
use Rattle.scj_model.specs.declared.operations.Op.{Op}
use Rattle.scj_model.specs.declared.operations.SeqOp.{SeqOp}
use Rattle.scj_model.specs.declared.operations.SeqOp.TheVariants.{OpenImmortal, AllocSafelet, ConstructSafelet, InitializeApplication, GetSequencer, GetNextMission, OpenMission, Initialize, CleanUp, Execute, Finished}
use Rattle.scj_model.specs.declared.plans.ReadingRow.{ReadingRow}
use Rattle.scj_model.specs.Code.{Code}
use Rattle.scj_model.specs.State.{Object, Frame, Activity, ReleaseStatus, Waits, Started, Ended, Dropped, Release, Job, TheSequencer, ReleaseAt, State, activity_in, changed, is_exec, is_init, object_at, with_activity}
use Rattle.scj_model.specs.Registry.{handler_number, handler_row, most_handlers}
use Rattle.scj_model.specs.Memory.{area_with_scope, closed, new_slots, with_slot}
use Rattle.scj_model.specs.Steps.{Step, job_ended, silently}
use Rattle.scj_model.specs.Effects.{Effect, Goes, Prints, Makes, Stores, StoresStatic, SetsHidden, SetsCeiling, Calls, Opens, Leaves, AsksRegistration, AsksRelease, AsksTermination, Faults, Stuck}
use Rattle.scj_model.specs.Apply.{applied, asks_for_end, called, ceiling_entered, frame_left, is_full, is_sequencer, most_waiting, opened_in, registered, release_taken, released, releases_of, returned, takes_releases, termination, termination_asked, waiting_of, with_ceiling, with_first, with_frame, without}
use Rattle.scj_model.specs.Sequencer.{area_opened, body_called, innermost, method_called, safelet_made, sequencer_op}
use Rattle.scj_model.specs.Run.{effect_at, frame_op, no_activity, position_of_op, ref_op, release_op_of, sequencer_turn, start_op, started_with}
use Rattle.scj_model.proofs.Reaching.{Gives, gives_some}
use Rattle.run_sizes.proofs.DeepSteps.{FewAfter, FewFrames, few_active, few_after_close, few_allocating, few_fault, few_first, few_framed, few_if, few_job_ended, few_opening, few_option, new_waits, one_more_frame, returned_few, rows_dropped, rows_got, rows_more}

-- ---- steps

few_called : (code : Code) (s : State) (job : Job) (activity : Activity) (frames : List Frame) (position : Position)
    (g : Frame) → FewFrames s → FewAfter (called code s job activity frames position g)
unfolding called
few_called code s job activity frames position g h =
    few_if (is_full frames) _ _ (λ e. few_fault s job activity position _ h) (λ e.
    few_option (ceiling_entered code s g) _ _
    (few_active s job (record activity { frames = g ∷ frames }) h (one_more_frame frames g e)) (λ ceiling.
    few_if (nat_lt ceiling activity.priority) _ _ (λ f. few_fault s job activity position _ h) (λ f.
    few_active s job
    (record activity { frames = record g { saved = Some activity.priority } ∷ frames; priority = ceiling }) h
    (one_more_frame frames (record g { saved = Some activity.priority }) e))))

few_opened : (s : State) (job : Job) (activity : Activity) (frames : List Frame) (position : Position) (g : Frame)
    (scope bytes : ℕ) → FewFrames s → FewAfter (opened_in s job activity frames position g scope bytes)
unfolding opened_in
few_opened s job activity frames position g scope bytes h =
    few_if (is_some (area_with_scope s scope activity.areas)) _ _ (λ e. few_fault s job activity position _ h) (λ e.
    few_if (is_full frames) _ _ (λ f. few_fault s job activity position _ h) (λ f.
    few_opening s job activity position scope (Some g.area) bytes _ h (λ t a k.
    few_active t job
    (record activity { frames = record g { area = a; opened = Some a } ∷ frames; areas = a ∷ activity.areas }) k
    (one_more_frame frames (record g { area = a; opened = Some a }) f))))

few_left : (s : State) (job : Job) (activity : Activity) (f : Frame) (below : List Frame) (value : Option Value) →
    FewFrames s → length below < 64 → FewAfter (frame_left s job activity f below value)
unfolding frame_left
few_left s job activity f below value h few =
    let left : length (returned value below) ≤ 64 = omega (arith, returned_few value below, few) in
    go
    (record activity {
      frames = returned value below;
      areas = without f.opened activity.areas;
      priority = unwrap_or f.saved activity.priority;
    })
    below left
  where
    go : (a : Activity) (fs : List Frame) → length a.frames ≤ 64 →
        FewAfter (elim fs [
          | [] ↦ job_ended (closed s f.opened) job a value
          | g ∷ gs ↦ silently (with_activity (closed s f.opened) job a)
        ])
    go a [] k = few_job_ended (closed s f.opened) job a value (few_after_close s f.opened h) k
    go a (g ∷ gs) k = few_active (closed s f.opened) job a (few_after_close s f.opened h) k

pub few_taken : (s : State) (handler : ℕ) → FewFrames s → FewAfter (release_taken s handler)
unfolding release_taken
few_taken s handler h =
    few_if (not (nat_lt (length (waiting_of s handler)) most_waiting)) _ _
    (λ e. record { sequencer = h.sequencer; releases = h.releases })
    (λ e. record { sequencer = h.sequencer; releases = rows_more s.releases _ h.releases (new_waits handler (length (releases_of s handler) + 1)) })

few_released : (s : State) (r : ℕ) → FewFrames s → FewAfter (released s r)
unfolding released
few_released s r h =
    few_if (takes_releases s) _ _
    (λ e. few_option (handler_number s.registry r) _ _ (record { sequencer = h.sequencer; releases = h.releases })
    (λ handler. few_taken s handler h))
    (λ e. record { sequencer = h.sequencer; releases = h.releases })

few_asked : (s : State) (r : ℕ) → FewFrames s → FewAfter (termination_asked s r)
unfolding termination_asked termination
few_asked s r h =
    few_if (asks_for_end s.mission s.phase s.is_end_asked r) _ _
    (λ e. few_if (is_exec s.phase) _ _
    (λ f. record { sequencer = h.sequencer; releases = rows_dropped s.releases h.releases })
    (λ f. record { sequencer = h.sequencer; releases = h.releases }))
    (λ e. record { sequencer = h.sequencer; releases = h.releases })

few_registered : (code : Code) (s : State) (job : Job) (activity : Activity) (position : Position) (r : ℕ) (o : Object)
    (after : State) → FewFrames s → FewFrames after → FewAfter (registered code s job activity position r o after)
unfolding registered
few_registered code s job activity position r o after h k =
    few_if (not (is_init s.phase)) _ _ (λ e. few_fault s job activity position _ h) (λ e.
    few_if (is_some (handler_number s.registry r)) _ _ (λ f. k) (λ f.
    few_if (not (nat_lt (length s.registry) most_handlers)) _ _ (λ g. few_fault s job activity position _ h) (λ g.
    record { sequencer = k.sequencer; releases = k.releases })))

-- ---- steps that may have no result

abbrev pub FewIf : Option Step → Type 0
FewIf o = Gives FewFrames o

pub no_step : FewIf None
no_step = record { is = λ r e. absurd (cc (e)) }

pub few_bind : {A : Type 0} (o : Option A) (f : A → Option Step) → ((a : A) → o ≡ Some a → FewIf (f a)) →
    FewIf (o >>= f)
few_bind None f h = no_step
few_bind (Some a) f h = h a refl

pub few_mapped : {A : Type 0} (o : Option A) (f : A → Step) → ((a : A) → FewAfter (f a)) → FewIf (option_map f o)
few_mapped None f h = no_step
few_mapped (Some a) f h = gives_some FewFrames (f a) (h a)

pub few_either : (b : Bool) (x y : Option Step) → FewIf x → FewIf y → FewIf (if b then x else y)
few_either true x y h k = h
few_either false x y h k = k

-- an effect of the highest frame of a job that has so many below it
few_applied : (code : Code) (s : State) (job : Job) (activity : Activity) (below : List Frame) (position : Position)
    (effect : Effect) → FewFrames s → length below < 64 → FewIf (applied code s job activity below position effect)
unfolding applied
few_applied code s job activity below position (Goes f) h few =
    gives_some FewFrames _ (few_framed s job activity f below h few)
few_applied code s job activity below position (Prints f label value) h few =
    gives_some FewFrames _ (few_framed s job activity f below h few)
few_applied code s job activity below position (Makes f class slots) h few =
    gives_some FewFrames _
    (few_allocating s job activity position class f.area slots _ h (λ t r k.
    few_framed t job activity (record f { operands = At r ∷ f.operands }) below k few))
few_applied code s job activity below position (Stores f r slot value) h few =
    gives_some FewFrames _
    (few_framed (with_slot s r slot value) job activity f below
    (record { sequencer = h.sequencer; releases = h.releases }) few)
few_applied code s job activity below position (StoresStatic f k value) h few =
    gives_some FewFrames _
    (few_framed (record s { statics = slice_set s.statics k value }) job activity f below
    (record { sequencer = h.sequencer; releases = h.releases }) few)
few_applied code s job activity below position (SetsHidden f r values) h few =
    gives_some FewFrames _
    (few_framed (record s { objects = changed (with_first values) r s.objects }) job activity f below
    (record { sequencer = h.sequencer; releases = h.releases }) few)
few_applied code s job activity below position (SetsCeiling f r ceiling) h few =
    few_either (is_sequencer job) _ _
    (gives_some FewFrames _
    (few_framed (record s { objects = changed (with_ceiling ceiling) r s.objects }) job activity f below
    (record { sequencer = h.sequencer; releases = h.releases }) few))
    (gives_some FewFrames _ (few_fault s job activity position _ h))
few_applied code s job activity below position (Calls f g) h few =
    gives_some FewFrames _ (few_called code s job activity (f ∷ below) position g h)
few_applied code s job activity below position (Opens f g scope bytes) h few =
    gives_some FewFrames _ (few_opened s job activity (f ∷ below) position g scope bytes h)
few_applied code s job activity below position (Leaves f value) h few =
    gives_some FewFrames _ (few_left s job activity f below value h few)
few_applied code s job activity below position (AsksRegistration f r) h few =
    few_mapped (object_at s r) _ (λ o.
    few_registered code s job activity position r o (with_frame s job activity f below) h
    (few_framed s job activity f below h few))
few_applied code s job activity below position (AsksRelease f r) h few =
    gives_some FewFrames _
    (few_released (with_frame s job activity f below) r (few_framed s job activity f below h few))
few_applied code s job activity below position (AsksTermination f r) h few =
    gives_some FewFrames _
    (few_asked (with_frame s job activity f below) r (few_framed s job activity f below h few))
few_applied code s job activity below position (Faults fault) h few =
    gives_some FewFrames _ (few_fault s job activity position fault h)
few_applied code s job activity below position Stuck h few = no_step

-- ---- operations of jobs

few_frame : (code : Code) (rows : List ReadingRow) (s : State) (job : Job) (activity : Activity) → FewFrames s →
    length activity.frames ≤ 64 → FewIf (frame_op code rows s job activity)
unfolding frame_op
few_frame code rows s job activity h few = go activity.frames few
  where
    act : (f : Frame) (below : List Frame) (ops : List Op) → length below < 64 →
        FewIf (elim ops [
          | [] ↦ None
          | op ∷ rest ↦ applied code s job activity below (position_of_op code op) (effect_at code rows s f op rest)
        ])
    act f below [] k = no_step
    act f below (op ∷ rest) k =
        few_applied code s job activity below (position_of_op code op) (effect_at code rows s f op rest) h k

    go : (fs : List Frame) → length fs ≤ 64 →
        FewIf (elim fs [
          | [] ↦ None
          | f ∷ below ↦ elim f.rest [
            | [] ↦ None
            | op ∷ rest ↦ applied code s job activity below (position_of_op code op) (effect_at code rows s f op rest)
          ]
        ])
    go [] k = no_step
    go (f ∷ below) k = act f below f.rest (omega (arith, k))

few_start : (code : Code) (s : State) (index : ℕ) (r : Release) → FewFrames s → FewIf (start_op code s index r)
unfolding start_op started_with
few_start code s index r h =
    few_bind (handler_row s.registry r.handler) _ (λ row e.
    few_bind (defined_by_chain code.program row.class) _ (λ scope f.
    few_bind (body_named code.program row.class (codes "handleAsyncEvent")) _ (λ body g.
    gives_some FewFrames _
    (few_opening s (ReleaseAt index) no_activity (class_position code.program row.class) scope
    (innermost s.activity.areas) row.bytes _ h (λ t a k. few_first t (ReleaseAt index) _ _ _ k)))))

few_release : (code : Code) (rows : List ReadingRow) (s : State) (index : ℕ) (r : Release) → FewFrames s →
    ((a : Activity) → activity_in r.status ≡ Some a → length a.frames ≤ 64) →
    FewIf (release_op_of code rows s index r)
unfolding release_op_of activity_in
few_release code rows s index r h k = go r.status k
  where
    go : (p : ReleaseStatus) → ((a : Activity) → activity_in p ≡ Some a → length a.frames ≤ 64) →
        FewIf (elim p [
          | Waits ↦ start_op code s index r
          | Started activity ↦ frame_op code rows s (ReleaseAt index) activity
          | Ended ↦ None
          | Dropped ↦ None
        ])
    go Waits k = few_start code s index r h
    go (Started activity) k = few_frame code rows s (ReleaseAt index) activity h (k activity refl)
    go Ended k = no_step
    go Dropped k = no_step

few_body : (code : Code) (s : State) (r : ℕ) (body : Body) → FewFrames s → FewIf (body_called code s r body)
unfolding body_called
few_body code s r body h =
    few_bind (innermost s.activity.areas) _ (λ area e.
    gives_some FewFrames _ (record { sequencer = omega arith; releases = h.releases }))

few_method : (code : Code) (s : State) (r : ℕ) (name : List ℕ) → FewFrames s → FewIf (method_called code s r name)
few_method code s r name h =
    few_bind (object_at s r) _ (λ o e.
    few_bind (body_named code.program o.class name) _ (λ body f. few_body code s r body h))

few_area : (s : State) (position : Position) (scope bytes : ℕ) → FewFrames s → FewAfter (area_opened s position scope bytes)
unfolding area_opened
few_area s position scope bytes h =
    few_opening s TheSequencer s.activity position scope (innermost s.activity.areas) bytes _ h
    (λ t a k. record { sequencer = h.sequencer; releases = k.releases })

few_safelet : (code : Code) (s : State) (position : Position) (class area : ℕ) → FewFrames s →
    FewAfter (safelet_made code s position class area)
unfolding safelet_made
few_safelet code s position class area h =
    few_allocating s TheSequencer s.activity position class area (new_slots code.program class) _ h
    (λ t r k. record { sequencer = k.sequencer; releases = k.releases })

few_sequencer_op : (code : Code) (s : State) (op : SeqOp) → FewFrames s → FewIf (sequencer_op code s op)
unfolding sequencer_op
few_sequencer_op code s OpenImmortal h =
    few_bind (safelet_class code.program) _ (λ class e.
    few_bind (size_of code.program class) _ (λ bytes f.
    gives_some FewFrames _ (few_area s (class_position code.program class) immortal_scope bytes h)))
few_sequencer_op code s AllocSafelet h =
    few_bind (safelet_class code.program) _ (λ class e.
    few_bind (innermost s.activity.areas) _ (λ area f.
    gives_some FewFrames _ (few_safelet code s (class_position code.program class) class area h)))
few_sequencer_op code s (ConstructSafelet r) h =
    few_bind (object_at s r) _ (λ o e.
    few_bind (constructor_body code.program o.class) _ (λ body f. few_body code s r body h))
few_sequencer_op code s (InitializeApplication r) h = few_method code s r (codes "initializeApplication") h
few_sequencer_op code s (GetSequencer r) h = few_method code s r (codes "getSequencer") h
few_sequencer_op code s (GetNextMission r) h = few_method code s r (codes "getNextMission") h
few_sequencer_op code s (OpenMission r) h =
    few_bind (object_at s r) _ (λ o e.
    few_bind (defined_by_chain code.program o.class) _ (λ scope f.
    few_bind (size_of code.program o.class) _ (λ bytes g.
    gives_some FewFrames _ (few_area s (class_position code.program o.class) scope bytes h))))
few_sequencer_op code s (Initialize r) h = few_method code s r (codes "initialize") h
few_sequencer_op code s (CleanUp r) h = few_method code s r (codes "cleanUp") h
few_sequencer_op code s Execute h = no_step
few_sequencer_op code s Finished h = no_step

pub few_turn : (code : Code) (rows : List ReadingRow) (s : State) → FewFrames s → FewIf (sequencer_turn code rows s)
unfolding sequencer_turn
few_turn code rows s h = go s.activity.frames
  where
    go : (fs : List Frame) →
        FewIf (elim fs [
          | [] ↦ sequencer_op code s s.operation
          | f ∷ below ↦ frame_op code rows s TheSequencer s.activity
        ])
    go [] = few_sequencer_op code s s.operation h
    go (f ∷ below) = few_frame code rows s TheSequencer s.activity h h.sequencer

pub few_ref_op : (code : Code) (rows : List ReadingRow) (s : State) (job : Job) → FewFrames s →
    FewIf (ref_op code rows s job)
unfolding ref_op
few_ref_op code rows s TheSequencer h = few_turn code rows s h
few_ref_op code rows s (ReleaseAt n) h =
    few_bind (slice_get s.releases n) _ (λ r e. few_release code rows s n r h (rows_got s.releases n r h.releases e))
