-- Each operation, and what follows it, tells no last line, or it ends the run and its last event is one.
use Rattle.std.proofs.Common.{◌≡◌, ◌⊎◌, inl, inr, ⊎_elim, ℕ, zero, suc, ◌==◌, nat_lt, Bool, true, false, not, ◌&&◌, ◌||◌, List, [], ◌∷◌, ◌++◌, length, map, filter, Option, Some, None, if◌then◌else◌, refl, sym, ap, ◌∙◌, subst}
use Rattle.std.specs.Prelude.{option_map, slice_get, unwrap_or, is_some, codes}
use Rattle.std.specs.List.{list_any}
use Rattle.std.proofs.lemmas.List.{append-nil, append_assoc}
use Rattle.scj_base.specs.declared.positions.Position.{Position}
use Rattle.scj_base.specs.declared.faults.RunFault.{RunFault}
use Rattle.scj_base.specs.declared.values.Value.{Value}
use Rattle.scj_rules.specs.declared.views.Body.{Body}
use Rattle.scj_rules.specs.Words.{◌>>=◌, holds}
use Rattle.scj_model.specs.declared.events.Event.{Event}
use Rattle.scj_model.specs.declared.events.Event.TheVariants.{Drop, Prio, Stopped}
use Rattle.scj_model.specs.declared.phases.Phase.{Phase}
use Rattle.scj_model.specs.Code.{Code}
use Rattle.scj_model.specs.Plan.{Plan}
use Rattle.scj_model.specs.State.{Frame, Activity, ReleaseStatus, Waits, Started, Ended, Dropped, Release, Job, TheSequencer, ReleaseAt, State, with_activity, is_waiting, object_at, is_init, is_exec, Turn, IdleTurn, TurnOf, is_over}
use Rattle.scj_model.specs.Registry.{most_handlers, handler_number, handler_row}
use Rattle.scj_model.specs.Memory.{closed, has_room, has_store_for, area_with_scope, new_slots, with_area, with_object}
use Rattle.scj_model.specs.Steps.{Step, silently, reporting, of_release, closed_all, job_ended, fault_in, for_each, then_try, allocating, opening}
use Rattle.scj_model.specs.Effects.{Effect, Goes, Prints, Makes, Stores, StoresStatic, SetsHidden, SetsCeiling, Calls, Opens, Leaves, AsksRegistration, AsksRelease, AsksTermination, Faults, Stuck}
use Rattle.scj_model.specs.Apply.{report_priority, called, opened_in, frame_left, release_taken, registered, released, termination, termination_asked, applied, is_full, waiting_of, most_waiting, takes_releases, is_sequencer, with_frame, asks_for_end, ceiling_entered}
use Rattle.scj_model.specs.Sequencer.{innermost, area_opened, safelet_made, body_called, method_called, sequencer_op, after_operation, has_started, after_execution, phase_after, ClosesMission, EndsExecution, Transition, goes_to, seq_applied, transition, transition_done, after_initialize}
use Rattle.scj_model.specs.Arrivals.{executes_since, due_handlers, fired_handler, fired, arrivals, fired_at, fires_due}
use Rattle.scj_model.specs.Choice.{Policy}
use Rattle.scj_model.specs.Run.{report_turn, turn_taken, turn_acts, acts, next_unit, one_unit, empty_state, RunSoFar, has_ended, continued, one_more_unit, run, reported_by, frame_op, effect_at, position_of_op, start_op, started_with, no_activity, release_op_of, sequencer_turn, ref_op, is_same_turn}
use Rattle.scj_model.specs.LastLine.{is_last_line, HasNoLastLine, EndsInLastLine}
use Rattle.scj_model.specs.declared.events.Event.TheVariants.{Miss, Run as RunEvent}
use Rattle.scj_model.specs.declared.plans.Fire.{Fire}
use Rattle.scj_model.specs.declared.operations.Op.{Op}
use Rattle.scj_model.specs.declared.operations.SeqOp.{SeqOp}
use Rattle.scj_model.specs.declared.operations.SeqOp.TheVariants.{OpenImmortal, AllocSafelet, ConstructSafelet, InitializeApplication, GetSequencer, GetNextMission, OpenMission, Initialize, CleanUp, Execute, Finished}
use Rattle.scj_model.specs.declared.phases.Phase.TheVariants.{Boot, Next, Init, Exec, Cleanup, Over}
use Rattle.scj_model.specs.declared.plans.ReadingRow.{ReadingRow}
use Rattle.scj_base.specs.declared.values.Value.TheVariants.{Int, Bool as Truth, Null, At}
use Rattle.scj_rules.specs.Classes.{is_empty}
use Rattle.scj_rules.specs.ScopeRules.{immortal_scope, defined_by_chain}
use Rattle.scj_rules.specs.Bodies.{body_named, constructor_body, size_of, safelet_class, class_position}

-- the run is not over, and no last line is told
pub record IsQuiet (r : Step) : Type 0 where
  pub goes_on : is_over r.state.phase ≡ false
  pub no_last : HasNoLastLine r.events

-- the run is over, nothing is left for the sequencer, and the last event says so
pub record IsEnd (r : Step) : Type 0 where
  pub over : is_over r.state.phase ≡ true
  pub nothing_left : r.state.outcome ≡ None
  pub ends : EndsInLastLine r.events

abbrev pub IsFine : Step → Type 0
IsFine r = IsQuiet r ⊎ IsEnd r

-- ---- lists of events

any_append : (xs ys : List Event) → HasNoLastLine xs → HasNoLastLine ys → HasNoLastLine (xs ++ ys)
any_append [] ys h k = k
any_append (x ∷ xs) ys h k = step (is_last_line x) (list_any is_last_line xs) (list_any is_last_line (xs ++ ys)) h (λ e. any_append xs ys e k)
  where
    step : (a b c : Bool) → (a || b) ≡ false → (b ≡ false → c ≡ false) → (a || c) ≡ false
    step true b c h g = h
    step false b c h g = g h

ends_append : (xs ys : List Event) → HasNoLastLine xs → EndsInLastLine ys → EndsInLastLine (xs ++ ys)
ends_append xs ys h k =
    record {
      before = xs ++ k.before;
      last = k.last;
      are = ap (λ (es : List Event). xs ++ es) k.are ∙ sym (append_assoc xs k.before (k.last ∷ []));
      ends = k.ends;
      none_before = any_append xs k.before h k.none_before;
    }

-- ---- states keep their phase

abbrev Keeps : State → State → Type 0
Keeps s after = after.phase ≡ s.phase

keeps_activity : (s : State) (job : Job) (activity : Activity) → Keeps s (with_activity s job activity)
unfolding with_activity
keeps_activity s TheSequencer activity = refl
keeps_activity s (ReleaseAt index) activity = refl

keeps_closed : (s : State) (a : Option ℕ) → Keeps s (closed s a)
unfolding closed
keeps_closed s None = refl
keeps_closed s (Some a) = refl

keeps_closed_all : (s : State) (fs : List Frame) → Keeps s (closed_all s fs)
unfolding closed_all
keeps_closed_all s [] = refl
keeps_closed_all s (f ∷ fs) = keeps_closed_all (closed s f.opened) fs ∙ keeps_closed s f.opened

still : (s after : State) → is_over s.phase ≡ false → Keeps s after → is_over after.phase ≡ false
still s after h k = ap is_over k ∙ h

abbrev quiet : (s : State) → is_over s.phase ≡ false → (r : Step) → Keeps s r.state → HasNoLastLine r.events → IsFine r
quiet s h r k n = inl (record { goes_on = ap is_over k ∙ h; no_last = n })

no_last_of : (s : State) (job : Job) (report : Release → List Event) → ((r : Release) → HasNoLastLine (report r)) → HasNoLastLine (of_release s job report)
no_last_of s TheSequencer report h = refl
no_last_of s (ReleaseAt index) report h = go (slice_get s.releases index)
  where
    go : (o : Option Release) → HasNoLastLine (elim o [ None ↦ [] | Some r ↦ report r ])
    go None = refl
    go (Some r) = h r

-- ---- faults

fine_fault : (s : State) (job : Job) (activity : Activity) (position : Position) (fault : RunFault) → is_over s.phase ≡ false → IsFine (fault_in s job activity position fault)
unfolding fault_in is_last_line is_over
fine_fault s TheSequencer activity position fault h =
    inr (record { over = refl; nothing_left = refl; ends = record { before = _ ∷ []; last = _; are = refl; ends = refl; none_before = refl } })
fine_fault s (ReleaseAt n) activity position fault h =
    quiet s h (fault_in s (ReleaseAt n) activity position fault) (keeps_closed_all s activity.frames)
    (no_last_of s (ReleaseAt n) _ (λ r. refl))

-- ---- effects

reports_no_last : (s : State) (job : Job) (before after : ℕ) → HasNoLastLine (report_priority s job before after)
unfolding is_last_line
reports_no_last s job before after = go (before == after)
  where
    go : (b : Bool) → HasNoLastLine (if b then [] else of_release s job (λ (r : Release). Prio s.unit r.handler after ∷ []))
    go true = refl
    go false = no_last_of s job (λ (r : Release). Prio s.unit r.handler after ∷ []) (λ r. refl)

-- ---- tools

fine_if : (b : Bool) (x y : Step) → IsFine x → IsFine y → IsFine (if b then x else y)
fine_if true x y h k = h
fine_if false x y h k = k

fine_option : {A : Type 0} (o : Option A) (x : Step) (f : A → Step) → IsFine x → ((a : A) → IsFine (f a)) → IsFine (elim o [ None ↦ x | Some a ↦ f a ])
fine_option None x f h k = h
fine_option (Some a) x f h k = k a

end_behind : (first second : Step) → HasNoLastLine first.events → IsEnd second → IsEnd (reporting second.state (first.events ++ second.events))
end_behind first second n e =
    record { over = e.over; nothing_left = e.nothing_left; ends = ends_append first.events second.events n e.ends }

quiet_behind : (first second : Step) → HasNoLastLine first.events → IsQuiet second → IsQuiet (reporting second.state (first.events ++ second.events))
quiet_behind first second n q = record { goes_on = q.goes_on; no_last = any_append first.events second.events n q.no_last }

fine_behind : (first second : Step) → HasNoLastLine first.events → IsFine second → IsFine (reporting second.state (first.events ++ second.events))
fine_behind first second n h =
    ⊎_elim (λ (q : IsQuiet second). inl (quiet_behind first second n q)) (λ (e : IsEnd second). inr (end_behind first second n e)) h

-- ---- what effects do

fine_called : (code : Code) (s : State) (job : Job) (activity : Activity) (frames : List Frame) (position : Position) (g : Frame) → is_over s.phase ≡ false → IsFine (called code s job activity frames position g)
unfolding called
fine_called code s job activity frames position g h =
    fine_if (is_full frames) _ _ (fine_fault s job activity position _ h)
    (fine_option (ceiling_entered code s g) _ _
    (quiet s h _ (keeps_activity s job _) refl)
    (λ ceiling. fine_if (nat_lt ceiling activity.priority) _ _ (fine_fault s job activity position _ h)
    (quiet s h _ (keeps_activity s job _) (reports_no_last s job activity.priority ceiling))))

fine_opening : (s : State) (job : Job) (activity : Activity) (position : Position) (scope : ℕ) (parent : Option ℕ) (bytes : ℕ) (next : State → ℕ → Step) → is_over s.phase ≡ false → ((t : State) (a : ℕ) → is_over t.phase ≡ false → IsFine (next t a)) → IsFine (opening s job activity position scope parent bytes next)
unfolding opening
fine_opening s job activity position scope parent bytes next h k =
    fine_if (has_store_for s bytes) _ _ (k (with_area s scope parent bytes) (length s.areas) h) (fine_fault s job activity position _ h)

fine_allocating : (s : State) (job : Job) (activity : Activity) (position : Position) (class area : ℕ) (slots : List Value) (next : State → ℕ → Step) → is_over s.phase ≡ false → ((t : State) (r : ℕ) → is_over t.phase ≡ false → IsFine (next t r)) → IsFine (allocating s job activity position class area slots next)
unfolding allocating
fine_allocating s job activity position class area slots next h k =
    fine_if (has_room s area (length slots)) _ _ (k (with_object s class area slots) (length s.objects) h) (fine_fault s job activity position _ h)

fine_opened : (s : State) (job : Job) (activity : Activity) (frames : List Frame) (position : Position) (g : Frame) (scope bytes : ℕ) → is_over s.phase ≡ false → IsFine (opened_in s job activity frames position g scope bytes)
unfolding opened_in
fine_opened s job activity frames position g scope bytes h =
    fine_if (is_some (area_with_scope s scope activity.areas)) _ _ (fine_fault s job activity position _ h)
    (fine_if (is_full frames) _ _ (fine_fault s job activity position _ h)
    (fine_opening s job activity position scope (Some g.area) bytes _ h (λ t a k. quiet t k _ (keeps_activity t job _) refl)))

fine_ended : (s : State) (job : Job) (activity : Activity) (value : Option Value) → is_over s.phase ≡ false → IsFine (job_ended s job activity value)
unfolding job_ended is_last_line
fine_ended s TheSequencer activity value h = quiet s h _ refl refl
fine_ended s (ReleaseAt index) activity value h = quiet s h _ refl (no_last_of s (ReleaseAt index) _ (λ r. refl))

fine_left : (s : State) (job : Job) (activity : Activity) (f : Frame) (below : List Frame) (value : Option Value) → is_over s.phase ≡ false → IsFine (frame_left s job activity f below value)
unfolding frame_left
fine_left s job activity f below value h =
    fine_behind (reporting (closed s f.opened) (report_priority s job activity.priority (unwrap_or f.saved activity.priority))) _
    (reports_no_last s job activity.priority (unwrap_or f.saved activity.priority))
    (go _ below)
  where
    k : is_over (closed s f.opened).phase ≡ false
    k = still s (closed s f.opened) h (keeps_closed s f.opened)

    go : (a : Activity) (fs : List Frame) → IsFine (elim fs [ [] ↦ job_ended (closed s f.opened) job a value | g ∷ gs ↦ silently (with_activity (closed s f.opened) job a) ])
    go a [] = fine_ended (closed s f.opened) job a value k
    go a (g ∷ gs) = quiet (closed s f.opened) k _ (keeps_activity (closed s f.opened) job a) refl

fine_taken : (s : State) (handler : ℕ) → is_over s.phase ≡ false → IsFine (release_taken s handler)
unfolding release_taken is_last_line
fine_taken s handler h =
    fine_if (not (nat_lt (length (waiting_of s handler)) most_waiting)) _ _ (quiet s h _ refl refl) (quiet s h _ refl refl)

fine_registered : (code : Code) (s : State) (job : Job) (activity : Activity) (position : Position) (r : ℕ) (o : _) (after : State) → is_over s.phase ≡ false → Keeps s after → IsFine (registered code s job activity position r o after)
unfolding registered is_last_line
fine_registered code s job activity position r o after h k =
    fine_if (not (is_init s.phase)) _ _ (fine_fault s job activity position _ h)
    (fine_if (is_some (handler_number s.registry r)) _ _ (quiet s h (silently after) k refl)
    (fine_if (not (nat_lt (length s.registry) most_handlers)) _ _ (fine_fault s job activity position _ h) (quiet s h _ k refl)))

fine_released : (s : State) (r : ℕ) → is_over s.phase ≡ false → IsFine (released s r)
unfolding released
fine_released s r h =
    fine_if (takes_releases s) _ _ (fine_option (handler_number s.registry r) _ _ (quiet s h (silently s) refl refl) (λ handler. fine_taken s handler h)) (quiet s h (silently s) refl refl)

drops_no_last : (unit : ℕ) (rs : List Release) → HasNoLastLine (map (λ (r : Release). Drop unit r.handler r.number) rs)
unfolding is_last_line
drops_no_last unit [] = refl
drops_no_last unit (r ∷ rs) = drops_no_last unit rs

fine_asked : (s : State) (r : ℕ) → is_over s.phase ≡ false → IsFine (termination_asked s r)
unfolding termination_asked termination is_last_line
fine_asked s r h =
    fine_if (asks_for_end s.mission s.phase s.is_end_asked r) _ _
    (fine_if (is_exec s.phase) _ _ (quiet s h _ refl (drops_no_last s.unit (filter (λ (r : Release). is_waiting r.status) s.releases))) (quiet s h _ refl refl))
    (quiet s h (silently s) refl refl)

-- ---- operations, which may have no result

pub record IsFineIf (o : Option Step) : Type 0 where
  pub is : (r : Step) → o ≡ Some r → IsFine r

some_same : (a b : Step) → Some a ≡ Some b → a ≡ b
some_same a b e = ap (λ (o : Option Step). unwrap_or o a) e

fine_some : (r : Step) → IsFine r → IsFineIf (Some r)
fine_some r h = record { is = λ q e. subst IsFine (some_same r q e) h }

fine_none : IsFineIf None
fine_none = record { is = λ q e. absurd (cc (e)) }

fine_bind : {A : Type 0} (o : Option A) (f : A → Option Step) → ((a : A) → IsFineIf (f a)) → IsFineIf (o >>= f)
fine_bind None f h = fine_none
fine_bind (Some a) f h = h a

fine_mapped : {A : Type 0} (o : Option A) (f : A → Step) → ((a : A) → IsFine (f a)) → IsFineIf (option_map f o)
fine_mapped None f h = fine_none
fine_mapped (Some a) f h = fine_some (f a) (h a)

fine_either : (b : Bool) (x y : Option Step) → IsFineIf x → IsFineIf y → IsFineIf (if b then x else y)
fine_either true x y h k = h
fine_either false x y h k = k

fine_applied : (code : Code) (s : State) (job : Job) (activity : Activity) (below : List Frame) (position : Position) (effect : Effect) → is_over s.phase ≡ false → IsFineIf (applied code s job activity below position effect)
unfolding applied is_last_line
fine_applied code s job activity below position (Goes f) h = fine_some _ (quiet s h _ (keeps_activity s job _) refl)
fine_applied code s job activity below position (Prints f label value) h = fine_some _ (quiet s h _ (keeps_activity s job _) refl)
fine_applied code s job activity below position (Makes f class slots) h =
    fine_some _ (fine_allocating s job activity position class f.area slots _ h (λ t r k. quiet t k _ (keeps_activity t job _) refl))
fine_applied code s job activity below position (Stores f r slot value) h = fine_some _ (quiet s h _ (keeps_activity _ job _) refl)
fine_applied code s job activity below position (StoresStatic f n value) h = fine_some _ (quiet s h _ (keeps_activity _ job _) refl)
fine_applied code s job activity below position (SetsHidden f r values) h = fine_some _ (quiet s h _ (keeps_activity _ job _) refl)
fine_applied code s job activity below position (SetsCeiling f r ceiling) h =
    fine_either (is_sequencer job) _ _ (fine_some _ (quiet s h _ (keeps_activity _ job _) refl)) (fine_some _ (fine_fault s job activity position _ h))
fine_applied code s job activity below position (Calls f g) h = fine_some _ (fine_called code s job activity (f ∷ below) position g h)
fine_applied code s job activity below position (Opens f g scope bytes) h =
    fine_some _ (fine_opened s job activity (f ∷ below) position g scope bytes h)
fine_applied code s job activity below position (Leaves f value) h = fine_some _ (fine_left s job activity f below value h)
fine_applied code s job activity below position (AsksRegistration f r) h =
    fine_mapped (object_at s r) _ (λ o. fine_registered code s job activity position r o _ h (keeps_activity s job _))
fine_applied code s job activity below position (AsksRelease f r) h =
    fine_some _ (fine_released (with_frame s job activity f below) r
    (still s (with_frame s job activity f below) h (keeps_activity s job (record activity { frames = f ∷ below }))))
fine_applied code s job activity below position (AsksTermination f r) h =
    fine_some _ (fine_asked (with_frame s job activity f below) r
    (still s (with_frame s job activity f below) h (keeps_activity s job (record activity { frames = f ∷ below }))))
fine_applied code s job activity below position (Faults fault) h = fine_some _ (fine_fault s job activity position fault h)
fine_applied code s job activity below position Stuck h = fine_none

-- ---- the operations of jobs

fine_frame : (code : Code) (rows : List ReadingRow) (s : State) (job : Job) (activity : Activity) → is_over s.phase ≡ false → IsFineIf (frame_op code rows s job activity)
unfolding frame_op
fine_frame code rows s job activity h = go activity.frames
  where
    act : (f : Frame) (below : List Frame) (ops : List Op) → IsFineIf (elim ops [ [] ↦ None | op ∷ rest ↦ applied code s job activity below (position_of_op code op) (effect_at code rows s f op rest) ])
    act f below [] = fine_none
    act f below (op ∷ rest) = fine_applied code s job activity below (position_of_op code op) (effect_at code rows s f op rest) h

    go : (fs : List Frame) → IsFineIf (elim fs [ [] ↦ None | f ∷ below ↦ elim f.rest [ [] ↦ None | op ∷ rest ↦ applied code s job activity below (position_of_op code op) (effect_at code rows s f op rest) ] ])
    go [] = fine_none
    go (f ∷ below) = act f below f.rest

fine_start : (code : Code) (s : State) (index : ℕ) (r : Release) → is_over s.phase ≡ false → IsFineIf (start_op code s index r)
unfolding start_op started_with
fine_start code s index r h =
    fine_bind (handler_row s.registry r.handler) _ (λ row. fine_bind (defined_by_chain code.program row.class) _ (λ scope.
    fine_bind (body_named code.program row.class (codes "handleAsyncEvent")) _ (λ body.
    fine_some _ (fine_opening s (ReleaseAt index) no_activity (class_position code.program row.class) scope (innermost s.activity.areas) row.bytes _ h
    (λ t a k. quiet t k _ (keeps_activity t (ReleaseAt index) _) refl)))))

fine_release : (code : Code) (rows : List ReadingRow) (s : State) (index : ℕ) (r : Release) → is_over s.phase ≡ false → IsFineIf (release_op_of code rows s index r)
unfolding release_op_of
fine_release code rows s index r h = go r.status
  where
    go : (p : ReleaseStatus) → IsFineIf (elim p [ Waits ↦ start_op code s index r | Started activity ↦ frame_op code rows s (ReleaseAt index) activity | Ended ↦ None | Dropped ↦ None ])
    go Waits = fine_start code s index r h
    go (Started activity) = fine_frame code rows s (ReleaseAt index) activity h
    go Ended = fine_none
    go Dropped = fine_none

fine_area : (s : State) (position : Position) (scope bytes : ℕ) → is_over s.phase ≡ false → IsFine (area_opened s position scope bytes)
unfolding area_opened
fine_area s position scope bytes h =
    fine_opening s TheSequencer s.activity position scope (innermost s.activity.areas) bytes _ h (λ t a k. quiet t k _ refl refl)

fine_safelet : (code : Code) (s : State) (position : Position) (class area : ℕ) → is_over s.phase ≡ false → IsFine (safelet_made code s position class area)
unfolding safelet_made
fine_safelet code s position class area h =
    fine_allocating s TheSequencer s.activity position class area (new_slots code.program class) _ h (λ t r k. quiet t k _ refl refl)

fine_body : (code : Code) (s : State) (r : ℕ) (body : Body) → is_over s.phase ≡ false → IsFineIf (body_called code s r body)
unfolding body_called
fine_body code s r body h = fine_bind (innermost s.activity.areas) _ (λ area. fine_some _ (quiet s h _ refl refl))

fine_method : (code : Code) (s : State) (r : ℕ) (name : List ℕ) → is_over s.phase ≡ false → IsFineIf (method_called code s r name)
fine_method code s r name h =
    fine_bind (object_at s r) _ (λ o. fine_bind (body_named code.program o.class name) _ (λ body. fine_body code s r body h))

fine_sequencer_op : (code : Code) (s : State) (op : SeqOp) → is_over s.phase ≡ false → IsFineIf (sequencer_op code s op)
unfolding sequencer_op is_last_line
fine_sequencer_op code s OpenImmortal h =
    fine_bind (safelet_class code.program) _ (λ class. fine_bind (size_of code.program class) _ (λ bytes.
    fine_some _ (fine_area s _ immortal_scope bytes h)))
fine_sequencer_op code s AllocSafelet h =
    fine_bind (safelet_class code.program) _ (λ class. fine_bind (innermost s.activity.areas) _ (λ area.
    fine_some _ (fine_safelet code s _ class area h)))
fine_sequencer_op code s (ConstructSafelet r) h =
    fine_bind (object_at s r) _ (λ o. fine_bind (constructor_body code.program o.class) _ (λ body. fine_body code s r body h))
fine_sequencer_op code s (InitializeApplication r) h = fine_method code s r _ h
fine_sequencer_op code s (GetSequencer r) h = fine_method code s r _ h
fine_sequencer_op code s (GetNextMission r) h = fine_method code s r _ h
fine_sequencer_op code s (OpenMission r) h =
    fine_bind (object_at s r) _ (λ o. fine_bind (defined_by_chain code.program o.class) _ (λ scope.
    fine_bind (size_of code.program o.class) _ (λ bytes. fine_some _ (fine_area s _ scope bytes h))))
fine_sequencer_op code s (Initialize r) h = fine_method code s r _ h
fine_sequencer_op code s (CleanUp r) h = fine_method code s r _ h
fine_sequencer_op code s Execute h = fine_none
fine_sequencer_op code s Finished h = fine_none

fine_turn : (code : Code) (rows : List ReadingRow) (s : State) → is_over s.phase ≡ false → IsFineIf (sequencer_turn code rows s)
unfolding sequencer_turn
fine_turn code rows s h = go s.activity.frames
  where
    go : (fs : List Frame) → IsFineIf (elim fs [ [] ↦ sequencer_op code s s.operation | f ∷ below ↦ frame_op code rows s TheSequencer s.activity ])
    go [] = fine_sequencer_op code s s.operation h
    go (f ∷ below) = fine_frame code rows s TheSequencer s.activity h

pub fine_ref_op : (code : Code) (rows : List ReadingRow) (s : State) (job : Job) → is_over s.phase ≡ false → IsFineIf (ref_op code rows s job)
unfolding ref_op
fine_ref_op code rows s TheSequencer h = fine_turn code rows s h
fine_ref_op code rows s (ReleaseAt index) h = fine_bind (slice_get s.releases index) _ (λ r. fine_release code rows s index r h)

-- ---- what follows an operation

abbrev FineTransition : Code → State → Option Transition → Type 0
FineTransition code s o = IsFineIf (option_map (transition_done code s) o)

fine_after_initialize : (code : Code) (s : State) (skips : Bool) (r : ℕ) → FineTransition code s (after_initialize skips r)
unfolding seq_applied is_last_line is_over
fine_after_initialize code s true r = fine_some _ (inl (record { goes_on = refl; no_last = refl }))
fine_after_initialize code s false r = fine_some _ (inl (record { goes_on = refl; no_last = refl }))

fine_closing : (code : Code) (s : State) (known : Option ℕ) → FineTransition code s (known >>= (λ q. goes_to Next (GetNextMission q) ClosesMission))
unfolding seq_applied is_over
fine_closing code s None = fine_none
fine_closing code s (Some q) =
    let t : State = record s { phase = Next; operation = GetNextMission q; outcome = None } in
    fine_some _ (inl (record { goes_on = ap is_over (keeps_closed t (innermost s.activity.areas)); no_last = refl }))

fine_transition : (code : Code) (s : State) (known : Option ℕ) (skips : Bool) (op : SeqOp) (value : Value) → FineTransition code s (transition known skips op value)
unfolding transition seq_applied fault_in is_last_line is_over
fine_transition code s known skips OpenImmortal value = fine_some _ (inl (record { goes_on = refl; no_last = refl }))
fine_transition code s known skips AllocSafelet (At r) = fine_some _ (inl (record { goes_on = refl; no_last = refl }))
fine_transition code s known skips AllocSafelet (Int z) = fine_none
fine_transition code s known skips AllocSafelet (Truth b) = fine_none
fine_transition code s known skips AllocSafelet Null = fine_none
fine_transition code s known skips (ConstructSafelet r) value = fine_some _ (inl (record { goes_on = refl; no_last = refl }))
fine_transition code s known skips (InitializeApplication r) value = fine_some _ (inl (record { goes_on = refl; no_last = refl }))
fine_transition code s known skips (GetSequencer r) (Int z) = fine_some _ (inr (record { over = refl; nothing_left = refl; ends = record { before = _ ∷ []; last = _; are = refl; ends = refl; none_before = refl } }))
fine_transition code s known skips (GetSequencer r) (Truth b) = fine_some _ (inr (record { over = refl; nothing_left = refl; ends = record { before = _ ∷ []; last = _; are = refl; ends = refl; none_before = refl } }))
fine_transition code s known skips (GetSequencer r) Null = fine_some _ (inr (record { over = refl; nothing_left = refl; ends = record { before = _ ∷ []; last = _; are = refl; ends = refl; none_before = refl } }))
fine_transition code s known skips (GetSequencer r) (At q) = fine_some _ (inl (record { goes_on = refl; no_last = refl }))
fine_transition code s known skips (GetNextMission r) (Int z) = fine_some _ (inr (record { over = refl; nothing_left = refl; ends = record { before = []; last = _; are = refl; ends = refl; none_before = refl } }))
fine_transition code s known skips (GetNextMission r) (Truth b) = fine_some _ (inr (record { over = refl; nothing_left = refl; ends = record { before = []; last = _; are = refl; ends = refl; none_before = refl } }))
fine_transition code s known skips (GetNextMission r) Null = fine_some _ (inr (record { over = refl; nothing_left = refl; ends = record { before = []; last = _; are = refl; ends = refl; none_before = refl } }))
fine_transition code s known skips (GetNextMission r) (At m) = fine_some _ (inl (record { goes_on = refl; no_last = refl }))
fine_transition code s known skips (OpenMission r) value = fine_some _ (inl (record { goes_on = refl; no_last = refl }))
fine_transition code s known skips (Initialize r) value = fine_after_initialize code s skips r
fine_transition code s known skips (CleanUp r) value = fine_closing code s known
fine_transition code s known skips Execute value = fine_none
fine_transition code s known skips Finished value = fine_none

fine_ending : (code : Code) (s : State) (mission : Option ℕ) → FineTransition code s (mission >>= (λ r. goes_to Cleanup (CleanUp r) EndsExecution))
unfolding seq_applied is_last_line is_over
fine_ending code s None = fine_none
fine_ending code s (Some r) = fine_some _ (inl (record { goes_on = refl; no_last = refl }))

fine_execution : (code : Code) (s : State) → is_over s.phase ≡ false → IsFineIf (after_execution code s)
fine_execution code s h =
    fine_either (s.is_end_asked && not (has_started s)) _ _ (fine_ending code s s.mission)
    (fine_some _ (quiet s h (silently s) refl refl))

fine_phase : (code : Code) (s : State) → is_over s.phase ≡ false → IsFineIf (phase_after code s)
unfolding phase_after
fine_phase code s h = fine_either (is_exec s.phase) _ _ (fine_execution code s h) (go s.outcome)
  where
    go : (o : Option Value) → IsFineIf (elim o [ None ↦ Some (silently s) | Some value ↦ after_operation code s value ])
    go None = fine_some _ (quiet s h (silently s) refl refl)
    go (Some value) = fine_transition code s s.mission_sequencer (is_empty s.registry || s.is_end_asked) s.operation value

-- after the end nothing follows
over_not_exec : (p : Phase) → is_over p ≡ true → is_exec p ≡ false
unfolding is_over is_exec
over_not_exec Boot h = absurd (cc (h))
over_not_exec Next h = absurd (cc (h))
over_not_exec Init h = absurd (cc (h))
over_not_exec Exec h = absurd (cc (h))
over_not_exec Cleanup h = absurd (cc (h))
over_not_exec Over h = refl

nothing_follows : (code : Code) (s : State) → is_over s.phase ≡ true → s.outcome ≡ None → phase_after code s ≡ Some (silently s)
unfolding phase_after
nothing_follows code s h k =
    ap (λ (b : Bool). if b then after_execution code s else (elim s.outcome [ None ↦ Some (silently s) | Some value ↦ after_operation code s value ])) (over_not_exec s.phase h)
    ∙ ap (λ (o : Option Value). elim o [ None ↦ Some (silently s) | Some value ↦ after_operation code s value ]) k

-- ---- arrivals and the choice are quiet

quiet_if : (b : Bool) (x y : Step) → IsQuiet x → IsQuiet y → IsQuiet (if b then x else y)
quiet_if true x y h k = h
quiet_if false x y h k = k

quiet_taken : (s : State) (handler : ℕ) → is_over s.phase ≡ false → IsQuiet (release_taken s handler)
unfolding release_taken is_last_line
quiet_taken s handler h =
    quiet_if (not (nat_lt (length (waiting_of s handler)) most_waiting)) _ _
    (record { goes_on = h; no_last = refl }) (record { goes_on = h; no_last = refl })

quiet_each : {A : Type 0} (step : State → A → Step) → ((s : State) (x : A) → is_over s.phase ≡ false → IsQuiet (step s x)) → (xs : List A) (s : State) → is_over s.phase ≡ false → IsQuiet (for_each step xs s)
unfolding for_each
quiet_each step q [] s h = record { goes_on = h; no_last = refl }
quiet_each step q (x ∷ xs) s h =
    quiet_behind (step s x) (for_each step xs (step s x).state) (q s x h).no_last (quiet_each step q xs (step s x).state (q s x h).goes_on)

quiet_fired : (code : Code) (s : State) (fire : Fire) → is_over s.phase ≡ false → IsQuiet (fired code s fire)
unfolding fired is_last_line
quiet_fired code s fire h = go (fired_handler code s fire.handler)
  where
    go : (o : Option ℕ) → IsQuiet (elim o [ Some handler ↦ release_taken s handler | None ↦ reporting s (Miss s.unit fire.handler ∷ []) ])
    go None = record { goes_on = h; no_last = refl }
    go (Some handler) = quiet_taken s handler h

quiet_fired_at : (code : Code) (fires : List Fire) (s : State) (index : ℕ) → is_over s.phase ≡ false → IsQuiet (fired_at code fires s index)
quiet_fired_at code fires s index h = go (slice_get fires index)
  where
    go : (o : Option Fire) → IsQuiet (elim o [ None ↦ silently s | Some fire ↦ fired code s fire ])
    go None = record { goes_on = h; no_last = refl }
    go (Some fire) = quiet_fired code s fire h

pub quiet_arrivals : (code : Code) (plan : Plan) (s : State) → is_over s.phase ≡ false → IsQuiet (arrivals code plan s)
unfolding arrivals
quiet_arrivals code plan s h =
    let first : IsQuiet (for_each release_taken (due_handlers s) s) = quiet_each release_taken quiet_taken (due_handlers s) s h in
    quiet_behind (for_each release_taken (due_handlers s) s) _ first.no_last
    (quiet_each (fired_at code plan.fires) (quiet_fired_at code plan.fires) (fires_due (executes_since s) s.unit plan.fires) (for_each release_taken (due_handlers s) s).state first.goes_on)

reports_turn : (s : State) (turn : Turn) → HasNoLastLine (report_turn s turn)
unfolding report_turn is_last_line
reports_turn s IdleTurn = refl
reports_turn s (TurnOf index) = go (slice_get s.releases index)
  where
    go : (o : Option Release) → HasNoLastLine (elim o [ None ↦ [] | Some r ↦ RunEvent s.unit r.handler r.number ∷ [] ])
    go None = refl
    go (Some r) = refl

quiet_turn : (s : State) (turn : Turn) → is_over s.phase ≡ false → IsQuiet (turn_taken s turn)
unfolding turn_taken
quiet_turn s turn h = record { goes_on = h; no_last = go (holds s.last_choice (is_same_turn turn)) }
  where
    go : (b : Bool) → HasNoLastLine (if b then [] else report_turn s turn)
    go true = refl
    go false = reports_turn s turn

-- ---- a unit

fine_reported : (first : Step) (o : Option Step) → HasNoLastLine first.events → IsFineIf o → IsFineIf (option_map (λ (second : Step). reporting second.state (first.events ++ second.events)) o)
fine_reported first None n h = fine_none
fine_reported first (Some second) n h = fine_some _ (fine_behind first second n (h.is second refl))

fine_turn_acts : (code : Code) (rows : List ReadingRow) (turn : Turn) (s : State) → is_over s.phase ≡ false → IsFineIf (turn_acts code rows turn s)
unfolding turn_acts
fine_turn_acts code rows IdleTurn s h = fine_some _ (quiet s h (silently s) refl refl)
fine_turn_acts code rows (TurnOf index) s h = fine_ref_op code rows s (ReleaseAt index) h

fine_acts : (code : Code) (rows : List ReadingRow) (policy : Policy) (s : State) → is_over s.phase ≡ false → IsFineIf (acts code rows policy s)
unfolding acts
fine_acts code rows policy s h =
    fine_either (is_exec s.phase) _ _
    (fine_bind (policy s) _ (λ turn. fine_reported (turn_taken s turn) _ (quiet_turn s turn h).no_last
    (fine_turn_acts code rows turn (turn_taken s turn).state (quiet_turn s turn h).goes_on)))
    (fine_turn code rows s h)

fine_on : (o : Option Step) (f : Step → Option Step) → IsFineIf o → ((r : Step) → IsFine r → IsFineIf (f r)) → IsFineIf (o >>= f)
fine_on None f h k = fine_none
fine_on (Some r) f h k = k r (h.is r refl)

fine_follows : (code : Code) (r : Step) → IsFine r → IsFineIf (then_try r (phase_after code))
fine_follows code r h =
    ⊎_elim
    (λ (q : IsQuiet r). fine_reported r (phase_after code r.state) q.no_last (fine_phase code r.state q.goes_on))
    (λ (e : IsEnd r). subst (λ (o : Option Step). IsFineIf (option_map (λ (second : Step). reporting second.state (r.events ++ second.events)) o))
    (sym (nothing_follows code r.state e.over e.nothing_left))
    (fine_some _ (inr (record { over = e.over; nothing_left = e.nothing_left; ends = subst EndsInLastLine (sym (append-nil r.events)) e.ends }))))
    h

fine_next : (r : Step) → IsFine r → IsFine (reporting (next_unit r.state) r.events)
fine_next r h =
    ⊎_elim
    (λ (q : IsQuiet r). inl (record { goes_on = q.goes_on; no_last = q.no_last }))
    (λ (e : IsEnd r). inr (record { over = e.over; nothing_left = e.nothing_left; ends = e.ends }))
    h

fine_unit : (code : Code) (plan : Plan) (policy : Policy) (s : State) → is_over s.phase ≡ false → IsFineIf (one_unit code plan policy s)
unfolding one_unit
fine_unit code plan policy s h =
    fine_on _ _
    (fine_on _ _
    (fine_reported (arrivals code plan s) _ (quiet_arrivals code plan s h).no_last
    (fine_acts code plan.readings policy (arrivals code plan s).state (quiet_arrivals code plan s h).goes_on))
    (λ r q. fine_follows code r q))
    (λ r q. fine_some _ (fine_next r q))

-- ---- a run

pub record IsOpen (r : RunSoFar) : Type 0 where
  pub goes_on : is_over r.state.phase ≡ false
  pub no_last : HasNoLastLine r.events

pub record IsClosed (r : RunSoFar) : Type 0 where
  pub over : is_over r.state.phase ≡ true
  pub not_stuck : r.is_stuck ≡ false
  pub ends : EndsInLastLine r.events

abbrev pub IsReported : RunSoFar → Type 0
IsReported r = IsOpen r ⊎ IsClosed r

reported_continued : (r : RunSoFar) (o : Option Step) → IsOpen r → IsFineIf o → IsReported (continued r o)
unfolding continued
reported_continued r None p h = inl (record { goes_on = p.goes_on; no_last = p.no_last })
reported_continued r (Some result) p h =
    ⊎_elim
    (λ (q : IsQuiet result). inl (record { goes_on = q.goes_on; no_last = any_append r.events result.events p.no_last q.no_last }))
    (λ (e : IsEnd result). inr (record { over = e.over; not_stuck = refl; ends = ends_append r.events result.events p.no_last e.ends }))
    (h.is result refl)

reported_if : (b : Bool) (r next : RunSoFar) → IsReported r → IsReported next → IsReported (if b then r else next)
reported_if true r next h k = h
reported_if false r next h k = k

reported_more : (code : Code) (plan : Plan) (policy : Policy) (r : RunSoFar) → IsReported r → IsReported (one_more_unit code plan policy r)
unfolding one_more_unit
reported_more code plan policy r h =
    ⊎_elim
    (λ (p : IsOpen r). reported_if (has_ended r) r _ (inl p) (reported_continued r _ p (fine_unit code plan policy r.state p.goes_on)))
    (λ (c : IsClosed r). subst (λ (b : Bool). IsReported (if b then r else continued r (one_unit code plan policy r.state)))
    (sym (ap (λ (b : Bool). b || r.is_stuck) c.over)) (inr c))
    h

pub reported_run : (code : Code) (plan : Plan) (policy : Policy) (n : ℕ) → IsReported (run code plan policy n)
unfolding run empty_state is_over
reported_run code plan policy zero = inl (record { goes_on = refl; no_last = refl })
reported_run code plan policy (suc n) = reported_more code plan policy (run code plan policy n) (reported_run code plan policy n)

-- ---- the trace

-- a run that isn't stuck ends in one last line; a stuck one has none, unless it is over
pub trace_ends : (n : ℕ) (r : RunSoFar) → IsReported r → r.is_stuck ≡ false → EndsInLastLine (reported_by n r)
unfolding is_last_line
trace_ends n r h k =
    ⊎_elim
    (λ (p : IsOpen r). subst (λ (b : Bool). EndsInLastLine (r.events ++ (if b then [] else Stopped n ∷ [])))
    (sym (ap (λ (b : Bool). b || r.is_stuck) p.goes_on ∙ k))
    (record { before = r.events; last = Stopped n; are = refl; ends = refl; none_before = p.no_last }))
    (λ (c : IsClosed r). subst (λ (b : Bool). EndsInLastLine (r.events ++ (if b then [] else Stopped n ∷ [])))
    (sym (ap (λ (b : Bool). b || r.is_stuck) c.over))
    (subst EndsInLastLine (sym (append-nil r.events)) c.ends))
    h

pub stuck_trace : (n : ℕ) (r : RunSoFar) → IsReported r → r.is_stuck ≡ true → HasNoLastLine (reported_by n r)
stuck_trace n r h k =
    ⊎_elim
    (λ (p : IsOpen r). subst (λ (b : Bool). HasNoLastLine (r.events ++ (if b then [] else Stopped n ∷ [])))
    (sym (ap (λ (b : Bool). b || r.is_stuck) p.goes_on ∙ k))
    (subst HasNoLastLine (sym (append-nil r.events)) p.no_last))
    (λ (c : IsClosed r). absurd (cc (k, c.not_stuck)))
    h
