-- What happens in a unit leaves the number of the unit as it is: arrivals, the operation of a job, and what follows it.
use Rattle.std.proofs.Common.{◌≡◌, ℕ, nat_lt, Bool, true, false, not, ◌&&◌, List, [], ◌∷◌, ◌++◌, length, Option, Some, None, if◌then◌else◌, refl, sym, ap, ◌∙◌}
use Rattle.std.specs.Prelude.{option_map, slice_get, unwrap_or, is_some, codes}
use Rattle.scj_base.specs.declared.positions.Position.{Position}
use Rattle.scj_base.specs.declared.faults.RunFault.{RunFault}
use Rattle.scj_base.specs.declared.values.Value.{Value}
use Rattle.scj_rules.specs.declared.views.Body.{Body}
use Rattle.scj_rules.specs.Words.{◌>>=◌}
use Rattle.scj_rules.specs.ScopeRules.{immortal_scope, defined_by_chain}
use Rattle.scj_rules.specs.Bodies.{body_named, constructor_body, size_of, safelet_class, class_position}
use Rattle.scj_model.specs.declared.operations.Op.{Op}
use Rattle.scj_model.specs.declared.operations.SeqOp.{SeqOp}
use Rattle.scj_model.specs.declared.operations.SeqOp.TheVariants.{OpenImmortal, AllocSafelet, ConstructSafelet, InitializeApplication, GetSequencer, GetNextMission, OpenMission, Initialize, CleanUp, Execute, Finished}
use Rattle.scj_model.specs.declared.plans.ReadingRow.{ReadingRow}
use Rattle.scj_model.specs.declared.plans.Fire.{Fire}
use Rattle.scj_model.specs.declared.events.Event.TheVariants.{Miss}
use Rattle.scj_model.specs.declared.phases.Phase.TheVariants.{Cleanup}
use Rattle.scj_model.specs.Code.{Code}
use Rattle.scj_model.specs.Plan.{Plan}
use Rattle.scj_model.specs.State.{Frame, Activity, ReleaseStatus, Waits, Started, Ended, Dropped, Release, Job, TheSequencer, ReleaseAt, State, with_activity, object_at, is_init, is_exec, Turn, IdleTurn, TurnOf}
use Rattle.scj_model.specs.Registry.{most_handlers, handler_number, handler_row}
use Rattle.scj_model.specs.Memory.{closed, has_room, has_store_for, area_with_scope, new_slots, with_area, with_object}
use Rattle.scj_model.specs.Steps.{Step, silently, reporting, for_each, closed_all, job_ended, fault_in, then_try, allocating, opening}
use Rattle.scj_model.specs.Effects.{Effect, Goes, Prints, Makes, Stores, StoresStatic, SetsHidden, SetsCeiling, Calls, Opens, Leaves, AsksRegistration, AsksRelease, AsksTermination, Faults, Stuck}
use Rattle.scj_model.specs.Apply.{is_full, called, opened_in, frame_left, waiting_of, most_waiting, takes_releases, release_taken, registered, released, termination, termination_asked, with_frame, applied, asks_for_end, ceiling_entered, is_sequencer}
use Rattle.scj_model.specs.Sequencer.{innermost, area_opened, safelet_made, body_called, method_called, sequencer_op, after_operation, has_started, phase_after, BeginsExecution, BeginsMission, ClosesMission, Continues, EndsExecution, LacksMission, LacksSequencer, SeqEffect, SkipsExecution, TakesMission, TakesSafelet, TakesSequencer, Transition, goes_to, gone_to, seq_applied, transition_done}
use Rattle.scj_model.specs.Arrivals.{executes_since, due_handlers, fired_handler, fired, arrivals, fired_at, fires_due}
use Rattle.scj_model.specs.Choice.{Policy}
use Rattle.scj_model.specs.Run.{frame_op, effect_at, position_of_op, start_op, started_with, no_activity, release_op_of, sequencer_turn, ref_op, turn_taken, turn_acts, acts}

abbrev pub KeepsUnit : State → Step → Type 0
KeepsUnit s r = r.state.unit ≡ s.unit

keeps_if : (s : State) (b : Bool) (x y : Step) → KeepsUnit s x → KeepsUnit s y → KeepsUnit s (if b then x else y)
keeps_if s true x y h k = h
keeps_if s false x y h k = k

keeps_option : {A : Type 0} (s : State) (o : Option A) (x : Step) (f : A → Step) → KeepsUnit s x → ((a : A) → KeepsUnit s (f a)) → KeepsUnit s (elim o [ None ↦ x | Some a ↦ f a ])
keeps_option s None x f h k = h
keeps_option s (Some a) x f h k = k a

unit_active : (s : State) (job : Job) (activity : Activity) → (with_activity s job activity).unit ≡ s.unit
unfolding with_activity
unit_active s TheSequencer activity = refl
unit_active s (ReleaseAt n) activity = refl

unit_closed : (s : State) (a : Option ℕ) → (closed s a).unit ≡ s.unit
unfolding closed
unit_closed s None = refl
unit_closed s (Some a) = refl

unit_closed_all : (s : State) (fs : List Frame) → (closed_all s fs).unit ≡ s.unit
unfolding closed_all
unit_closed_all s [] = refl
unit_closed_all s (f ∷ fs) = unit_closed_all (closed s f.opened) fs ∙ unit_closed s f.opened

keeps_fault : (s : State) (job : Job) (activity : Activity) (position : Position) (fault : RunFault) → KeepsUnit s (fault_in s job activity position fault)
unfolding fault_in
keeps_fault s TheSequencer activity position fault = refl
keeps_fault s (ReleaseAt n) activity position fault = unit_closed_all s activity.frames

keeps_ended : (s : State) (job : Job) (activity : Activity) (value : Option Value) → KeepsUnit s (job_ended s job activity value)
unfolding job_ended
keeps_ended s TheSequencer activity value = refl
keeps_ended s (ReleaseAt n) activity value = refl

-- ---- effects

keeps_called : (code : Code) (s : State) (job : Job) (activity : Activity) (frames : List Frame) (position : Position) (g : Frame) → KeepsUnit s (called code s job activity frames position g)
unfolding called
keeps_called code s job activity frames position g =
    keeps_if s (is_full frames) _ _ (keeps_fault s job activity position _)
    (keeps_option s (ceiling_entered code s g) _ _ (unit_active s job _)
    (λ ceiling. keeps_if s (nat_lt ceiling activity.priority) _ _ (keeps_fault s job activity position _) (unit_active s job _)))

keeps_opening : (s : State) (job : Job) (activity : Activity) (position : Position) (scope : ℕ) (parent : Option ℕ) (bytes : ℕ) (next : State → ℕ → Step) → ((t : State) (a : ℕ) → t.unit ≡ s.unit → KeepsUnit s (next t a)) → KeepsUnit s (opening s job activity position scope parent bytes next)
unfolding opening
keeps_opening s job activity position scope parent bytes next h =
    keeps_if s (has_store_for s bytes) _ _ (h (with_area s scope parent bytes) (length s.areas) refl) (keeps_fault s job activity position _)

keeps_allocating : (s : State) (job : Job) (activity : Activity) (position : Position) (class area : ℕ) (slots : List Value) (next : State → ℕ → Step) → ((t : State) (r : ℕ) → t.unit ≡ s.unit → KeepsUnit s (next t r)) → KeepsUnit s (allocating s job activity position class area slots next)
unfolding allocating
keeps_allocating s job activity position class area slots next h =
    keeps_if s (has_room s area (length slots)) _ _ (h (with_object s class area slots) (length s.objects) refl) (keeps_fault s job activity position _)

keeps_opened : (s : State) (job : Job) (activity : Activity) (frames : List Frame) (position : Position) (g : Frame) (scope bytes : ℕ) → KeepsUnit s (opened_in s job activity frames position g scope bytes)
unfolding opened_in
keeps_opened s job activity frames position g scope bytes =
    keeps_if s (is_some (area_with_scope s scope activity.areas)) _ _ (keeps_fault s job activity position _)
    (keeps_if s (is_full frames) _ _ (keeps_fault s job activity position _)
    (keeps_opening s job activity position scope (Some g.area) bytes _ (λ t a k. unit_active t job _ ∙ k)))

keeps_left : (s : State) (job : Job) (activity : Activity) (f : Frame) (below : List Frame) (value : Option Value) → KeepsUnit s (frame_left s job activity f below value)
unfolding frame_left
keeps_left s job activity f below value = go _ below
  where
    go : (a : Activity) (fs : List Frame) → KeepsUnit s (elim fs [ [] ↦ job_ended (closed s f.opened) job a value | g ∷ gs ↦ silently (with_activity (closed s f.opened) job a) ])
    go a [] = keeps_ended (closed s f.opened) job a value ∙ unit_closed s f.opened
    go a (g ∷ gs) = unit_active (closed s f.opened) job a ∙ unit_closed s f.opened

keeps_taken : (s : State) (handler : ℕ) → KeepsUnit s (release_taken s handler)
unfolding release_taken
keeps_taken s handler = keeps_if s (not (nat_lt (length (waiting_of s handler)) most_waiting)) _ _ refl refl

keeps_released : (s : State) (r : ℕ) → KeepsUnit s (released s r)
unfolding released
keeps_released s r =
    keeps_if s (takes_releases s) _ _ (keeps_option s (handler_number s.registry r) _ _ refl (λ handler. keeps_taken s handler)) refl

keeps_asked : (s : State) (r : ℕ) → KeepsUnit s (termination_asked s r)
unfolding termination_asked termination
keeps_asked s r =
    keeps_if s (asks_for_end s.mission s.phase s.is_end_asked r) _ _ (keeps_if s (is_exec s.phase) _ _ refl refl) refl

keeps_registered : (code : Code) (s : State) (job : Job) (activity : Activity) (position : Position) (r : ℕ) (o : _) (after : State) → after.unit ≡ s.unit → KeepsUnit s (registered code s job activity position r o after)
unfolding registered
keeps_registered code s job activity position r o after e =
    keeps_if s (not (is_init s.phase)) _ _ (keeps_fault s job activity position _)
    (keeps_if s (is_some (handler_number s.registry r)) _ _ e
    (keeps_if s (not (nat_lt (length s.registry) most_handlers)) _ _ (keeps_fault s job activity position _) e))

pub record KeepsUnitIf (s : State) (o : Option Step) : Type 0 where
  pub is : (r : Step) → o ≡ Some r → KeepsUnit s r

keeps_some : (s : State) (r : Step) → KeepsUnit s r → KeepsUnitIf s (Some r)
keeps_some s r h = record { is = λ q e. sym (ap (λ (o : Option Step). (unwrap_or o r).state.unit) e) ∙ h }

keeps_none : (s : State) → KeepsUnitIf s None
keeps_none s = record { is = λ q e. absurd (cc (e)) }

keeps_bind : {A : Type 0} (s : State) (o : Option A) (f : A → Option Step) → ((a : A) → KeepsUnitIf s (f a)) → KeepsUnitIf s (o >>= f)
keeps_bind s None f h = keeps_none s
keeps_bind s (Some a) f h = h a

keeps_mapped : {A : Type 0} (s : State) (o : Option A) (f : A → Step) → ((a : A) → KeepsUnit s (f a)) → KeepsUnitIf s (option_map f o)
keeps_mapped s None f h = keeps_none s
keeps_mapped s (Some a) f h = keeps_some s (f a) (h a)

keeps_either : (s : State) (b : Bool) (x y : Option Step) → KeepsUnitIf s x → KeepsUnitIf s y → KeepsUnitIf s (if b then x else y)
keeps_either s true x y h k = h
keeps_either s false x y h k = k

keeps_applied : (code : Code) (s : State) (job : Job) (activity : Activity) (below : List Frame) (position : Position) (effect : Effect) → KeepsUnitIf s (applied code s job activity below position effect)
unfolding applied
keeps_applied code s job activity below position (Goes f) = keeps_some s _ (unit_active s job _)
keeps_applied code s job activity below position (Prints f label value) = keeps_some s _ (unit_active s job _)
keeps_applied code s job activity below position (Makes f class slots) =
    keeps_some s _ (keeps_allocating s job activity position class f.area slots _ (λ t r k. unit_active t job _ ∙ k))
keeps_applied code s job activity below position (Stores f r slot value) = keeps_some s _ (unit_active _ job _)
keeps_applied code s job activity below position (StoresStatic f k value) = keeps_some s _ (unit_active _ job _)
keeps_applied code s job activity below position (SetsHidden f r values) = keeps_some s _ (unit_active _ job _)
keeps_applied code s job activity below position (SetsCeiling f r ceiling) =
    keeps_either s (is_sequencer job) _ _ (keeps_some s _ (unit_active _ job _)) (keeps_some s _ (keeps_fault s job activity position _))
keeps_applied code s job activity below position (Calls f g) = keeps_some s _ (keeps_called code s job activity (f ∷ below) position g)
keeps_applied code s job activity below position (Opens f g scope bytes) = keeps_some s _ (keeps_opened s job activity (f ∷ below) position g scope bytes)
keeps_applied code s job activity below position (Leaves f value) = keeps_some s _ (keeps_left s job activity f below value)
keeps_applied code s job activity below position (AsksRegistration f r) =
    keeps_mapped s (object_at s r) _ (λ o. keeps_registered code s job activity position r o (with_frame s job activity f below) (unit_active s job _))
keeps_applied code s job activity below position (AsksRelease f r) =
    keeps_some s _ (keeps_released (with_frame s job activity f below) r ∙ unit_active s job _)
keeps_applied code s job activity below position (AsksTermination f r) =
    keeps_some s _ (keeps_asked (with_frame s job activity f below) r ∙ unit_active s job _)
keeps_applied code s job activity below position (Faults fault) = keeps_some s _ (keeps_fault s job activity position fault)
keeps_applied code s job activity below position Stuck = keeps_none s

-- ---- operations of jobs

keeps_frame : (code : Code) (rows : List ReadingRow) (s : State) (job : Job) (activity : Activity) → KeepsUnitIf s (frame_op code rows s job activity)
unfolding frame_op
keeps_frame code rows s job activity = go activity.frames
  where
    act : (f : Frame) (below : List Frame) (ops : List Op) → KeepsUnitIf s (elim ops [ [] ↦ None | op ∷ rest ↦ applied code s job activity below (position_of_op code op) (effect_at code rows s f op rest) ])
    act f below [] = keeps_none s
    act f below (op ∷ rest) = keeps_applied code s job activity below (position_of_op code op) (effect_at code rows s f op rest)

    go : (fs : List Frame) → KeepsUnitIf s (elim fs [ [] ↦ None | f ∷ below ↦ elim f.rest [ [] ↦ None | op ∷ rest ↦ applied code s job activity below (position_of_op code op) (effect_at code rows s f op rest) ] ])
    go [] = keeps_none s
    go (f ∷ below) = act f below f.rest

keeps_start : (code : Code) (s : State) (index : ℕ) (r : Release) → KeepsUnitIf s (start_op code s index r)
unfolding start_op started_with
keeps_start code s index r =
    keeps_bind s (handler_row s.registry r.handler) _ (λ row. keeps_bind s (defined_by_chain code.program row.class) _ (λ scope.
    keeps_bind s (body_named code.program row.class (codes "handleAsyncEvent")) _ (λ body.
    keeps_some s _ (keeps_opening s (ReleaseAt index) no_activity (class_position code.program row.class) scope (innermost s.activity.areas) row.bytes _
    (λ t a k. unit_active t (ReleaseAt index) _ ∙ k)))))

keeps_release : (code : Code) (rows : List ReadingRow) (s : State) (index : ℕ) (r : Release) → KeepsUnitIf s (release_op_of code rows s index r)
unfolding release_op_of
keeps_release code rows s index r = go r.status
  where
    go : (p : ReleaseStatus) → KeepsUnitIf s (elim p [ Waits ↦ start_op code s index r | Started activity ↦ frame_op code rows s (ReleaseAt index) activity | Ended ↦ None | Dropped ↦ None ])
    go Waits = keeps_start code s index r
    go (Started activity) = keeps_frame code rows s (ReleaseAt index) activity
    go Ended = keeps_none s
    go Dropped = keeps_none s

keeps_body : (code : Code) (s : State) (r : ℕ) (body : Body) → KeepsUnitIf s (body_called code s r body)
unfolding body_called
keeps_body code s r body = keeps_bind s (innermost s.activity.areas) _ (λ area. keeps_some s _ refl)

keeps_method : (code : Code) (s : State) (r : ℕ) (name : List ℕ) → KeepsUnitIf s (method_called code s r name)
keeps_method code s r name =
    keeps_bind s (object_at s r) _ (λ o. keeps_bind s (body_named code.program o.class name) _ (λ body. keeps_body code s r body))

keeps_area : (s : State) (position : Position) (scope bytes : ℕ) → KeepsUnit s (area_opened s position scope bytes)
unfolding area_opened
keeps_area s position scope bytes =
    keeps_opening s TheSequencer s.activity position scope (innermost s.activity.areas) bytes _ (λ t a k. k)

keeps_safelet : (code : Code) (s : State) (position : Position) (class area : ℕ) → KeepsUnit s (safelet_made code s position class area)
unfolding safelet_made
keeps_safelet code s position class area =
    keeps_allocating s TheSequencer s.activity position class area (new_slots code.program class) _ (λ t r k. k)

keeps_sequencer_op : (code : Code) (s : State) (op : SeqOp) → KeepsUnitIf s (sequencer_op code s op)
unfolding sequencer_op
keeps_sequencer_op code s OpenImmortal =
    keeps_bind s (safelet_class code.program) _ (λ class. keeps_bind s (size_of code.program class) _ (λ bytes.
    keeps_some s _ (keeps_area s (class_position code.program class) immortal_scope bytes)))
keeps_sequencer_op code s AllocSafelet =
    keeps_bind s (safelet_class code.program) _ (λ class. keeps_bind s (innermost s.activity.areas) _ (λ area.
    keeps_some s _ (keeps_safelet code s (class_position code.program class) class area)))
keeps_sequencer_op code s (ConstructSafelet r) =
    keeps_bind s (object_at s r) _ (λ o. keeps_bind s (constructor_body code.program o.class) _ (λ body. keeps_body code s r body))
keeps_sequencer_op code s (InitializeApplication r) = keeps_method code s r (codes "initializeApplication")
keeps_sequencer_op code s (GetSequencer r) = keeps_method code s r (codes "getSequencer")
keeps_sequencer_op code s (GetNextMission r) = keeps_method code s r (codes "getNextMission")
keeps_sequencer_op code s (OpenMission r) =
    keeps_bind s (object_at s r) _ (λ o. keeps_bind s (defined_by_chain code.program o.class) _ (λ scope.
    keeps_bind s (size_of code.program o.class) _ (λ bytes.
    keeps_some s _ (keeps_area s (class_position code.program o.class) scope bytes))))
keeps_sequencer_op code s (Initialize r) = keeps_method code s r (codes "initialize")
keeps_sequencer_op code s (CleanUp r) = keeps_method code s r (codes "cleanUp")
keeps_sequencer_op code s Execute = keeps_none s
keeps_sequencer_op code s Finished = keeps_none s

keeps_turn : (code : Code) (rows : List ReadingRow) (s : State) → KeepsUnitIf s (sequencer_turn code rows s)
unfolding sequencer_turn
keeps_turn code rows s = go s.activity.frames
  where
    go : (fs : List Frame) → KeepsUnitIf s (elim fs [ [] ↦ sequencer_op code s s.operation | f ∷ below ↦ frame_op code rows s TheSequencer s.activity ])
    go [] = keeps_sequencer_op code s s.operation
    go (f ∷ below) = keeps_frame code rows s TheSequencer s.activity

pub ref_op_keeps_unit : (code : Code) (rows : List ReadingRow) (s : State) (job : Job) → KeepsUnitIf s (ref_op code rows s job)
unfolding ref_op
ref_op_keeps_unit code rows s TheSequencer = keeps_turn code rows s
ref_op_keeps_unit code rows s (ReleaseAt n) = keeps_bind s (slice_get s.releases n) _ (λ r. keeps_release code rows s n r)

-- ---- the three parts of a unit

keeps_reported : (s : State) (first : Step) (o : Option Step) → KeepsUnitIf s o → KeepsUnitIf s (option_map (λ (second : Step). reporting second.state (first.events ++ second.events)) o)
keeps_reported s first None h = keeps_none s
keeps_reported s first (Some second) h = keeps_some s _ (h.is second refl)

keeps_turn_acts : (code : Code) (rows : List ReadingRow) (turn : Turn) (s : State) → KeepsUnitIf s (turn_acts code rows turn s)
unfolding turn_acts
keeps_turn_acts code rows IdleTurn s = keeps_some s _ refl
keeps_turn_acts code rows (TurnOf index) s = ref_op_keeps_unit code rows s (ReleaseAt index)

keeps_chosen : (code : Code) (rows : List ReadingRow) (s : State) (turn : Turn) → KeepsUnitIf s (then_try (turn_taken s turn) (turn_acts code rows turn))
unfolding turn_taken
keeps_chosen code rows s turn =
    keeps_reported s (turn_taken s turn) _ (record { is = λ r e. (keeps_turn_acts code rows turn (turn_taken s turn).state).is r e })

pub acts_keep_unit : (code : Code) (rows : List ReadingRow) (policy : Policy) (s : State) → KeepsUnitIf s (acts code rows policy s)
unfolding acts
acts_keep_unit code rows policy s =
    keeps_either s (is_exec s.phase) _ _ (keeps_bind s (policy s) _ (λ turn. keeps_chosen code rows s turn)) (keeps_turn code rows s)

keeps_seq_applied : (code : Code) (s : State) (effect : SeqEffect) → KeepsUnit s (seq_applied code s effect)
unfolding seq_applied
keeps_seq_applied code s Continues = refl
keeps_seq_applied code s (TakesSafelet r) = refl
keeps_seq_applied code s (TakesSequencer r) = refl
keeps_seq_applied code s (TakesMission r) = refl
keeps_seq_applied code s (LacksSequencer r) = keeps_fault s TheSequencer s.activity _ _
keeps_seq_applied code s LacksMission = refl
keeps_seq_applied code s (BeginsMission r) = refl
keeps_seq_applied code s BeginsExecution = refl
keeps_seq_applied code s SkipsExecution = refl
keeps_seq_applied code s EndsExecution = refl
keeps_seq_applied code s ClosesMission = unit_closed s (innermost s.activity.areas)

keeps_transition : (code : Code) (s : State) (o : Option Transition) → KeepsUnitIf s (option_map (transition_done code s) o)
keeps_transition code s o = keeps_mapped s o (transition_done code s) (λ t. keeps_seq_applied code (gone_to s t) t.effect)

pub phase_keeps_unit : (code : Code) (s : State) → KeepsUnitIf s (phase_after code s)
unfolding phase_after
phase_keeps_unit code s =
    keeps_either s (is_exec s.phase) _ _
    (keeps_either s (s.is_end_asked && not (has_started s)) _ _
    (keeps_transition code s (s.mission >>= (λ r. goes_to Cleanup (CleanUp r) EndsExecution)))
    (keeps_some s _ refl))
    (on s.outcome)
  where
    on : (o : Option Value) → KeepsUnitIf s (elim o [ None ↦ Some (silently s) | Some value ↦ after_operation code s value ])
    on None = keeps_some s _ refl
    on (Some value) = keeps_transition code s _

keeps_each : {A : Type 0} (step : State → A → Step) → ((s : State) (x : A) → KeepsUnit s (step s x)) → (xs : List A) (s : State) → KeepsUnit s (for_each step xs s)
unfolding for_each
keeps_each step q [] s = refl
keeps_each step q (x ∷ xs) s = keeps_each step q xs (step s x).state ∙ q s x

keeps_fired : (code : Code) (s : State) (fire : Fire) → KeepsUnit s (fired code s fire)
unfolding fired
keeps_fired code s fire = go (fired_handler code s fire.handler)
  where
    go : (h : Option ℕ) → KeepsUnit s (elim h as (λ x. Step) [ Some handler ↦ release_taken s handler | None ↦ reporting s (Miss s.unit fire.handler ∷ []) ])
    go None = refl
    go (Some handler) = keeps_taken s handler

keeps_fired_at : (code : Code) (fires : List Fire) (s : State) (index : ℕ) → KeepsUnit s (fired_at code fires s index)
keeps_fired_at code fires s index = go (slice_get fires index)
  where
    go : (f : Option Fire) → KeepsUnit s (elim f as (λ x. Step) [ None ↦ silently s | Some fire ↦ fired code s fire ])
    go None = refl
    go (Some fire) = keeps_fired code s fire

pub arrivals_keep_unit : (code : Code) (plan : Plan) (s : State) → KeepsUnit s (arrivals code plan s)
unfolding arrivals
arrivals_keep_unit code plan s =
    keeps_each (fired_at code plan.fires) (keeps_fired_at code plan.fires) (fires_due (executes_since s) s.unit plan.fires) (for_each release_taken (due_handlers s) s).state
    ∙ keeps_each release_taken keeps_taken (due_handlers s) s
