-- Runs are orderly: the operation of a release leaves the sequencer alone, and outside execution no release is started.
use Rattle.std.proofs.Common.{◌≡◌, ℕ, zero, suc, nat_lt, Bool, true, false, not, ◌&&◌, ◌||◌, List, [], ◌∷◌, ◌++◌, length, map, Option, Some, None, if◌then◌else◌, refl, sym, ap, ◌∙◌, subst}
use Rattle.std.specs.Prelude.{option_map, slice_get, unwrap_or, is_some, codes}
use Rattle.std.specs.List.{list_any}
use Rattle.scj_base.specs.declared.positions.Position.{Position}
use Rattle.scj_base.specs.declared.faults.RunFault.{RunFault}
use Rattle.scj_base.specs.declared.values.Value.{Value}
use Rattle.scj_rules.specs.declared.views.Body.{Body}
use Rattle.scj_rules.specs.Words.{◌>>=◌}
use Rattle.scj_rules.specs.ScopeRules.{immortal_scope, defined_by_chain}
use Rattle.scj_rules.specs.Bodies.{body_named, constructor_body, size_of, safelet_class, class_position}
use Rattle.scj_model.specs.declared.operations.Op.{Op}
use Rattle.scj_model.specs.declared.operations.SeqOp.{SeqOp}
use Rattle.scj_model.specs.declared.operations.SeqOp.TheVariants.{OpenImmortal, AllocSafelet, ConstructSafelet, InitializeApplication, GetSequencer, GetNextMission, OpenMission, Initialize, CleanUp, Execute, Finished}
use Rattle.scj_model.specs.declared.plans.ReadingRow.{ReadingRow}
use Rattle.scj_model.specs.declared.plans.Fire.{Fire}
use Rattle.scj_model.specs.Code.{Code}
use Rattle.scj_model.specs.Plan.{Plan}
use Rattle.scj_model.specs.State.{Frame, Activity, ReleaseStatus, Waits, Started, Ended, Dropped, Release, TheSequencer, ReleaseAt, State, with_activity, is_started, object_at, is_init, is_exec, Turn, IdleTurn, TurnOf}
use Rattle.scj_model.specs.Registry.{most_handlers, handler_number, handler_row}
use Rattle.scj_model.specs.Memory.{closed, has_room, has_store_for, area_with_scope, new_slots, with_area, with_object}
use Rattle.scj_model.specs.Steps.{Step, silently, reporting, for_each, closed_all, job_ended, fault_in, then_try, allocating, opening}
use Rattle.scj_model.specs.Effects.{Effect, Goes, Prints, Makes, Stores, StoresStatic, SetsHidden, SetsCeiling, Calls, Opens, Leaves, AsksRegistration, AsksRelease, AsksTermination, Faults, Stuck}
use Rattle.scj_model.specs.Apply.{is_full, called, opened_in, returned, frame_left, waiting_of, most_waiting, takes_releases, release_taken, registered, released, termination, termination_asked, with_frame, applied, dropped_release, report_dropped, asks_for_end, ceiling_entered}
use Rattle.scj_model.specs.Sequencer.{innermost, area_opened, safelet_made, body_called, method_called, sequencer_op, after_operation, has_started, after_execution, phase_after, BeginsExecution, BeginsMission, ClosesMission, Continues, EndsExecution, LacksMission, LacksSequencer, SeqEffect, SkipsExecution, TakesMission, TakesSafelet, TakesSequencer, Transition, goes_to, gone_to, seq_applied, transition_done}
use Rattle.scj_model.specs.Arrivals.{executes_since, due_handlers, fired_handler, fired, arrivals, fired_at, fires_due}
use Rattle.scj_model.specs.Choice.{Policy}
use Rattle.scj_model.specs.Run.{frame_op, effect_at, position_of_op, start_op, started_with, no_activity, release_op_of, sequencer_turn, ref_op, turn_taken, turn_acts, acts, one_unit, empty_state, RunSoFar, has_ended, continued, one_more_unit, run}
use Rattle.scj_model.specs.Order.{IsOrderly}
use Rattle.scj_model.specs.declared.events.Event.TheVariants.{Terminate, Miss}
use Rattle.scj_model.specs.declared.phases.Phase.TheVariants.{Cleanup}

-- ---- in execution: an operation of a release leaves the sequencer alone

pub record IsAside (s after : State) : Type 0 where
  pub phase : after.phase ≡ s.phase
  pub activity : after.activity ≡ s.activity
  pub outcome : after.outcome ≡ s.outcome

abbrev Aside : State → Step → Type 0
Aside s r = IsAside s r.state

aside_if : (s : State) (b : Bool) (x y : Step) → Aside s x → Aside s y → Aside s (if b then x else y)
aside_if s true x y h k = h
aside_if s false x y h k = k

aside_option : {A : Type 0} (s : State) (o : Option A) (x : Step) (f : A → Step) → Aside s x → ((a : A) → Aside s (f a)) → Aside s (elim o [ None ↦ x | Some a ↦ f a ])
aside_option s None x f h k = h
aside_option s (Some a) x f h k = k a

aside_closed : (s : State) (a : Option ℕ) → IsAside s (closed s a)
unfolding closed
aside_closed s None = record { phase = refl; activity = refl; outcome = refl }
aside_closed s (Some a) = record { phase = refl; activity = refl; outcome = refl }

aside_then : (a b c : State) → IsAside a b → IsAside b c → IsAside a c
aside_then a b c h k = record { phase = k.phase ∙ h.phase; activity = k.activity ∙ h.activity; outcome = k.outcome ∙ h.outcome }

aside_closed_all : (s : State) (fs : List Frame) → IsAside s (closed_all s fs)
unfolding closed_all
aside_closed_all s [] = record { phase = refl; activity = refl; outcome = refl }
aside_closed_all s (f ∷ fs) = aside_then s (closed s f.opened) (closed_all (closed s f.opened) fs) (aside_closed s f.opened) (aside_closed_all (closed s f.opened) fs)

aside_fault : (s : State) (n : ℕ) (activity : Activity) (position : Position) (fault : RunFault) → Aside s (fault_in s (ReleaseAt n) activity position fault)
unfolding fault_in
aside_fault s n activity position fault =
    let c : IsAside s (closed_all s activity.frames) = aside_closed_all s activity.frames in
    record { phase = c.phase; activity = c.activity; outcome = c.outcome }

aside_called : (code : Code) (s : State) (n : ℕ) (activity : Activity) (frames : List Frame) (position : Position) (g : Frame) → Aside s (called code s (ReleaseAt n) activity frames position g)
unfolding called with_activity
aside_called code s n activity frames position g =
    aside_if s (is_full frames) _ _ (aside_fault s n activity position _)
    (aside_option s (ceiling_entered code s g) _ _ (record { phase = refl; activity = refl; outcome = refl })
    (λ ceiling. aside_if s (nat_lt ceiling activity.priority) _ _ (aside_fault s n activity position _) (record { phase = refl; activity = refl; outcome = refl })))

aside_opening : (s : State) (n : ℕ) (activity : Activity) (position : Position) (scope : ℕ) (parent : Option ℕ) (bytes : ℕ) (next : State → ℕ → Step) → ((t : State) (a : ℕ) → IsAside s t → Aside s (next t a)) → Aside s (opening s (ReleaseAt n) activity position scope parent bytes next)
unfolding opening
aside_opening s n activity position scope parent bytes next h =
    aside_if s (has_store_for s bytes) _ _ (h (with_area s scope parent bytes) (length s.areas) (record { phase = refl; activity = refl; outcome = refl }))
    (aside_fault s n activity position _)

aside_allocating : (s : State) (n : ℕ) (activity : Activity) (position : Position) (class area : ℕ) (slots : List Value) (next : State → ℕ → Step) → ((t : State) (r : ℕ) → IsAside s t → Aside s (next t r)) → Aside s (allocating s (ReleaseAt n) activity position class area slots next)
unfolding allocating
aside_allocating s n activity position class area slots next h =
    aside_if s (has_room s area (length slots)) _ _ (h (with_object s class area slots) (length s.objects) (record { phase = refl; activity = refl; outcome = refl }))
    (aside_fault s n activity position _)

aside_opened : (s : State) (n : ℕ) (activity : Activity) (frames : List Frame) (position : Position) (g : Frame) (scope bytes : ℕ) → Aside s (opened_in s (ReleaseAt n) activity frames position g scope bytes)
unfolding opened_in with_activity
aside_opened s n activity frames position g scope bytes =
    aside_if s (is_some (area_with_scope s scope activity.areas)) _ _ (aside_fault s n activity position _)
    (aside_if s (is_full frames) _ _ (aside_fault s n activity position _)
    (aside_opening s n activity position scope (Some g.area) bytes _ (λ t a k. record { phase = k.phase; activity = k.activity; outcome = k.outcome })))

aside_left : (s : State) (n : ℕ) (activity : Activity) (f : Frame) (below : List Frame) (value : Option Value) → Aside s (frame_left s (ReleaseAt n) activity f below value)
unfolding frame_left job_ended with_activity
aside_left s n activity f below value = go _ below
  where
    c : IsAside s (closed s f.opened)
    c = aside_closed s f.opened

    go : (a : Activity) (fs : List Frame) → Aside s (elim fs [ [] ↦ job_ended (closed s f.opened) (ReleaseAt n) a value | g ∷ gs ↦ silently (with_activity (closed s f.opened) (ReleaseAt n) a) ])
    go a [] = record { phase = c.phase; activity = c.activity; outcome = c.outcome }
    go a (g ∷ gs) = record { phase = c.phase; activity = c.activity; outcome = c.outcome }

aside_taken : (s : State) (handler : ℕ) → Aside s (release_taken s handler)
unfolding release_taken
aside_taken s handler = aside_if s (not (nat_lt (length (waiting_of s handler)) most_waiting)) _ _ (record { phase = refl; activity = refl; outcome = refl }) (record { phase = refl; activity = refl; outcome = refl })

aside_released : (s : State) (r : ℕ) → Aside s (released s r)
unfolding released
aside_released s r =
    aside_if s (takes_releases s) _ _ (aside_option s (handler_number s.registry r) _ _ (record { phase = refl; activity = refl; outcome = refl }) (λ handler. aside_taken s handler))
    (record { phase = refl; activity = refl; outcome = refl })

aside_asked : (s : State) (r : ℕ) → Aside s (termination_asked s r)
unfolding termination_asked termination
aside_asked s r =
    aside_if s (asks_for_end s.mission s.phase s.is_end_asked r) _ _
    (aside_if s (is_exec s.phase) _ _ (record { phase = refl; activity = refl; outcome = refl }) (record { phase = refl; activity = refl; outcome = refl }))
    (record { phase = refl; activity = refl; outcome = refl })

aside_registered : (code : Code) (s : State) (n : ℕ) (activity : Activity) (position : Position) (r : ℕ) (o : _) (after : State) → IsAside s after → Aside s (registered code s (ReleaseAt n) activity position r o after)
unfolding registered
aside_registered code s n activity position r o after a =
    aside_if s (not (is_init s.phase)) _ _ (aside_fault s n activity position _)
    (aside_if s (is_some (handler_number s.registry r)) _ _ a
    (aside_if s (not (nat_lt (length s.registry) most_handlers)) _ _ (aside_fault s n activity position _)
    (record { phase = a.phase; activity = a.activity; outcome = a.outcome })))

pub record AsideIf (s : State) (o : Option Step) : Type 0 where
  pub is : (r : Step) → o ≡ Some r → Aside s r

some_same : (a b : Step) → Some a ≡ Some b → a ≡ b
some_same a b e = ap (λ (o : Option Step). unwrap_or o a) e

aside_some : (s : State) (r : Step) → Aside s r → AsideIf s (Some r)
aside_some s r h = record { is = λ q e. subst (λ (x : Step). Aside s x) (some_same r q e) h }

aside_none : (s : State) → AsideIf s None
aside_none s = record { is = λ q e. absurd (cc (e)) }

aside_bind : {A : Type 0} (s : State) (o : Option A) (f : A → Option Step) → ((a : A) → AsideIf s (f a)) → AsideIf s (o >>= f)
aside_bind s None f h = aside_none s
aside_bind s (Some a) f h = h a

aside_mapped : {A : Type 0} (s : State) (o : Option A) (f : A → Step) → ((a : A) → Aside s (f a)) → AsideIf s (option_map f o)
aside_mapped s None f h = aside_none s
aside_mapped s (Some a) f h = aside_some s (f a) (h a)

aside_either : (s : State) (b : Bool) (x y : Option Step) → AsideIf s x → AsideIf s y → AsideIf s (if b then x else y)
aside_either s true x y h k = h
aside_either s false x y h k = k

aside_applied : (code : Code) (s : State) (n : ℕ) (activity : Activity) (below : List Frame) (position : Position) (effect : Effect) → AsideIf s (applied code s (ReleaseAt n) activity below position effect)
unfolding applied with_activity
aside_applied code s n activity below position (Goes f) = aside_some s _ (record { phase = refl; activity = refl; outcome = refl })
aside_applied code s n activity below position (Prints f label value) = aside_some s _ (record { phase = refl; activity = refl; outcome = refl })
aside_applied code s n activity below position (Makes f class slots) =
    aside_some s _ (aside_allocating s n activity position class f.area slots _ (λ t r k. record { phase = k.phase; activity = k.activity; outcome = k.outcome }))
aside_applied code s n activity below position (Stores f r slot value) = aside_some s _ (record { phase = refl; activity = refl; outcome = refl })
aside_applied code s n activity below position (StoresStatic f k value) = aside_some s _ (record { phase = refl; activity = refl; outcome = refl })
aside_applied code s n activity below position (SetsHidden f r values) = aside_some s _ (record { phase = refl; activity = refl; outcome = refl })
aside_applied code s n activity below position (SetsCeiling f r ceiling) = aside_some s _ (aside_fault s n activity position _)
aside_applied code s n activity below position (Calls f g) = aside_some s _ (aside_called code s n activity (f ∷ below) position g)
aside_applied code s n activity below position (Opens f g scope bytes) = aside_some s _ (aside_opened s n activity (f ∷ below) position g scope bytes)
aside_applied code s n activity below position (Leaves f value) = aside_some s _ (aside_left s n activity f below value)
aside_applied code s n activity below position (AsksRegistration f r) =
    aside_mapped s (object_at s r) _ (λ o. aside_registered code s n activity position r o (with_frame s (ReleaseAt n) activity f below) (record { phase = refl; activity = refl; outcome = refl }))
aside_applied code s n activity below position (AsksRelease f r) =
    let t : State = with_frame s (ReleaseAt n) activity f below in
    let k : Aside t (released t r) = aside_released t r in
    aside_some s _ (record { phase = k.phase; activity = k.activity; outcome = k.outcome })
aside_applied code s n activity below position (AsksTermination f r) =
    let t : State = with_frame s (ReleaseAt n) activity f below in
    let k : Aside t (termination_asked t r) = aside_asked t r in
    aside_some s _ (record { phase = k.phase; activity = k.activity; outcome = k.outcome })
aside_applied code s n activity below position (Faults fault) = aside_some s _ (aside_fault s n activity position fault)
aside_applied code s n activity below position Stuck = aside_none s

aside_frame : (code : Code) (rows : List ReadingRow) (s : State) (n : ℕ) (activity : Activity) → AsideIf s (frame_op code rows s (ReleaseAt n) activity)
unfolding frame_op
aside_frame code rows s n activity = go activity.frames
  where
    act : (f : Frame) (below : List Frame) (ops : List Op) → AsideIf s (elim ops [ [] ↦ None | op ∷ rest ↦ applied code s (ReleaseAt n) activity below (position_of_op code op) (effect_at code rows s f op rest) ])
    act f below [] = aside_none s
    act f below (op ∷ rest) = aside_applied code s n activity below (position_of_op code op) (effect_at code rows s f op rest)

    go : (fs : List Frame) → AsideIf s (elim fs [ [] ↦ None | f ∷ below ↦ elim f.rest [ [] ↦ None | op ∷ rest ↦ applied code s (ReleaseAt n) activity below (position_of_op code op) (effect_at code rows s f op rest) ] ])
    go [] = aside_none s
    go (f ∷ below) = act f below f.rest

aside_start : (code : Code) (s : State) (index : ℕ) (r : Release) → AsideIf s (start_op code s index r)
unfolding start_op started_with with_activity
aside_start code s index r =
    aside_bind s (handler_row s.registry r.handler) _ (λ row. aside_bind s (defined_by_chain code.program row.class) _ (λ scope.
    aside_bind s (body_named code.program row.class (codes "handleAsyncEvent")) _ (λ body.
    aside_some s _ (aside_opening s index no_activity (class_position code.program row.class) scope (innermost s.activity.areas) row.bytes _
    (λ t a k. record { phase = k.phase; activity = k.activity; outcome = k.outcome })))))

aside_release : (code : Code) (rows : List ReadingRow) (s : State) (index : ℕ) (r : Release) → AsideIf s (release_op_of code rows s index r)
unfolding release_op_of
aside_release code rows s index r = go r.status
  where
    go : (p : ReleaseStatus) → AsideIf s (elim p [ Waits ↦ start_op code s index r | Started activity ↦ frame_op code rows s (ReleaseAt index) activity | Ended ↦ None | Dropped ↦ None ])
    go Waits = aside_start code s index r
    go (Started activity) = aside_frame code rows s index activity
    go Ended = aside_none s
    go Dropped = aside_none s

pub aside_ref_op : (code : Code) (rows : List ReadingRow) (s : State) (n : ℕ) → AsideIf s (ref_op code rows s (ReleaseAt n))
unfolding ref_op
aside_ref_op code rows s n = aside_bind s (slice_get s.releases n) _ (λ r. aside_release code rows s n r)

-- ---- outside execution: an operation of the sequencer starts no release, and is done without a frame

pub record IsActed (s after : State) : Type 0 where
  pub started_same : has_started after ≡ has_started s
  pub outside : is_exec after.phase ≡ false
  pub frameless : (v : Value) → after.outcome ≡ Some v → after.activity.frames ≡ []

abbrev Acted : State → Step → Type 0
Acted s r = IsActed s r.state

plain : (s : State) → is_exec s.phase ≡ false → s.outcome ≡ None → (after : State) → has_started after ≡ has_started s → after.phase ≡ s.phase → after.outcome ≡ s.outcome → IsActed s after
plain s h n after e p o = record { started_same = e; outside = ap is_exec p ∙ h; frameless = λ v x. absurd (cc (x, o, n)) }

acted_if : (s : State) (b : Bool) (x y : Step) → Acted s x → Acted s y → Acted s (if b then x else y)
acted_if s true x y h k = h
acted_if s false x y h k = k

acted_option : {A : Type 0} (s : State) (o : Option A) (x : Step) (f : A → Step) → Acted s x → ((a : A) → Acted s (f a)) → Acted s (elim o [ None ↦ x | Some a ↦ f a ])
acted_option s None x f h k = h
acted_option s (Some a) x f h k = k a

started_closed : (s : State) (a : Option ℕ) → has_started (closed s a) ≡ has_started s
unfolding closed
started_closed s None = refl
started_closed s (Some a) = refl

acted_fault : (s : State) (activity : Activity) (position : Position) (fault : RunFault) → Acted s (fault_in s TheSequencer activity position fault)
unfolding fault_in is_exec
acted_fault s activity position fault = record { started_same = refl; outside = refl; frameless = λ v x. absurd (cc (x)) }

acted_called : (code : Code) (s : State) (activity : Activity) (frames : List Frame) (position : Position) (g : Frame) → is_exec s.phase ≡ false → s.outcome ≡ None → Acted s (called code s TheSequencer activity frames position g)
unfolding called with_activity
acted_called code s activity frames position g h n =
    acted_if s (is_full frames) _ _ (acted_fault s activity position _)
    (acted_option s (ceiling_entered code s g) _ _ (plain s h n _ refl refl refl)
    (λ ceiling. acted_if s (nat_lt ceiling activity.priority) _ _ (acted_fault s activity position _) (plain s h n _ refl refl refl)))

-- memory alone is another one
record IsKept (s t : State) : Type 0 where
  started_same : has_started t ≡ has_started s
  phase : t.phase ≡ s.phase
  outcome : t.outcome ≡ s.outcome
  activity : t.activity ≡ s.activity

acted_opening : (s : State) (activity : Activity) (position : Position) (scope : ℕ) (parent : Option ℕ) (bytes : ℕ) (next : State → ℕ → Step) → ((t : State) (a : ℕ) → IsKept s t → Acted s (next t a)) → Acted s (opening s TheSequencer activity position scope parent bytes next)
unfolding opening
acted_opening s activity position scope parent bytes next h =
    acted_if s (has_store_for s bytes) _ _
    (h (with_area s scope parent bytes) (length s.areas) (record { started_same = refl; phase = refl; outcome = refl; activity = refl }))
    (acted_fault s activity position _)

acted_allocating : (s : State) (activity : Activity) (position : Position) (class area : ℕ) (slots : List Value) (next : State → ℕ → Step) → ((t : State) (r : ℕ) → IsKept s t → Acted s (next t r)) → Acted s (allocating s TheSequencer activity position class area slots next)
unfolding allocating
acted_allocating s activity position class area slots next h =
    acted_if s (has_room s area (length slots)) _ _
    (h (with_object s class area slots) (length s.objects) (record { started_same = refl; phase = refl; outcome = refl; activity = refl }))
    (acted_fault s activity position _)

acted_opened : (s : State) (activity : Activity) (frames : List Frame) (position : Position) (g : Frame) (scope bytes : ℕ) → is_exec s.phase ≡ false → s.outcome ≡ None → Acted s (opened_in s TheSequencer activity frames position g scope bytes)
unfolding opened_in with_activity
acted_opened s activity frames position g scope bytes h n =
    acted_if s (is_some (area_with_scope s scope activity.areas)) _ _ (acted_fault s activity position _)
    (acted_if s (is_full frames) _ _ (acted_fault s activity position _)
    (acted_opening s activity position scope (Some g.area) bytes _ (λ t a k. plain s h n _ k.started_same k.phase k.outcome)))

acted_left : (s : State) (activity : Activity) (f : Frame) (below : List Frame) (value : Option Value) → is_exec s.phase ≡ false → s.outcome ≡ None → Acted s (frame_left s TheSequencer activity f below value)
unfolding frame_left job_ended with_activity returned
acted_left s activity f [] None h n =
    record { started_same = started_closed s f.opened; outside = ap is_exec (aside_closed s f.opened).phase ∙ h; frameless = λ v x. refl }
acted_left s activity f [] (Some value) h n =
    record { started_same = started_closed s f.opened; outside = ap is_exec (aside_closed s f.opened).phase ∙ h; frameless = λ v x. refl }
acted_left s activity f (g ∷ gs) value h n =
    plain s h n _ (started_closed s f.opened) (aside_closed s f.opened).phase (aside_closed s f.opened).outcome

acted_registered : (code : Code) (s : State) (activity : Activity) (position : Position) (r : ℕ) (o : _) (after : State) → IsActed s after → Acted s (registered code s TheSequencer activity position r o after)
unfolding registered
acted_registered code s activity position r o after a =
    acted_if s (not (is_init s.phase)) _ _ (acted_fault s activity position _)
    (acted_if s (is_some (handler_number s.registry r)) _ _ a
    (acted_if s (not (nat_lt (length s.registry) most_handlers)) _ _ (acted_fault s activity position _)
    (record { started_same = a.started_same; outside = a.outside; frameless = a.frameless })))

not_released : (t : State) (r : ℕ) → is_exec t.phase ≡ false → released t r ≡ silently t
unfolding released
not_released t r h =
    ap (λ (b : Bool). if b && not t.is_end_asked then (elim (handler_number t.registry r) [ None ↦ silently t | Some handler ↦ release_taken t handler ]) else silently t) h

acted_asked : (s t : State) (r : ℕ) → IsActed s t → is_exec t.phase ≡ false → Acted s (termination_asked t r)
unfolding termination_asked termination
acted_asked s t r a h =
    acted_if s (asks_for_end t.mission t.phase t.is_end_asked r) _ _
    (subst (λ (b : Bool). Acted s (if b then reporting (record t { is_end_asked = true; releases = map dropped_release t.releases }) (Terminate t.unit ∷ report_dropped t) else silently (record t { is_end_asked = true }))) (sym h)
    (record { started_same = a.started_same; outside = a.outside; frameless = a.frameless }))
    a

pub record ActedIf (s : State) (o : Option Step) : Type 0 where
  pub is : (r : Step) → o ≡ Some r → Acted s r

acted_some : (s : State) (r : Step) → Acted s r → ActedIf s (Some r)
acted_some s r h = record { is = λ q e. subst (λ (x : Step). Acted s x) (some_same r q e) h }

acted_none : (s : State) → ActedIf s None
acted_none s = record { is = λ q e. absurd (cc (e)) }

acted_bind : {A : Type 0} (s : State) (o : Option A) (f : A → Option Step) → ((a : A) → ActedIf s (f a)) → ActedIf s (o >>= f)
acted_bind s None f h = acted_none s
acted_bind s (Some a) f h = h a

acted_mapped : {A : Type 0} (s : State) (o : Option A) (f : A → Step) → ((a : A) → Acted s (f a)) → ActedIf s (option_map f o)
acted_mapped s None f h = acted_none s
acted_mapped s (Some a) f h = acted_some s (f a) (h a)

acted_either : (s : State) (b : Bool) (x y : Option Step) → ActedIf s x → ActedIf s y → ActedIf s (if b then x else y)
acted_either s true x y h k = h
acted_either s false x y h k = k

acted_applied : (code : Code) (s : State) (activity : Activity) (below : List Frame) (position : Position) (effect : Effect) → is_exec s.phase ≡ false → s.outcome ≡ None → ActedIf s (applied code s TheSequencer activity below position effect)
unfolding applied with_activity
acted_applied code s activity below position (Goes f) h n = acted_some s _ (plain s h n _ refl refl refl)
acted_applied code s activity below position (Prints f label value) h n = acted_some s _ (plain s h n _ refl refl refl)
acted_applied code s activity below position (Makes f class slots) h n =
    acted_some s _ (acted_allocating s activity position class f.area slots _ (λ t r k. plain s h n _ k.started_same k.phase k.outcome))
acted_applied code s activity below position (Stores f r slot value) h n = acted_some s _ (plain s h n _ refl refl refl)
acted_applied code s activity below position (StoresStatic f k value) h n = acted_some s _ (plain s h n _ refl refl refl)
acted_applied code s activity below position (SetsHidden f r values) h n = acted_some s _ (plain s h n _ refl refl refl)
acted_applied code s activity below position (SetsCeiling f r ceiling) h n = acted_some s _ (plain s h n _ refl refl refl)
acted_applied code s activity below position (Calls f g) h n = acted_some s _ (acted_called code s activity (f ∷ below) position g h n)
acted_applied code s activity below position (Opens f g scope bytes) h n = acted_some s _ (acted_opened s activity (f ∷ below) position g scope bytes h n)
acted_applied code s activity below position (Leaves f value) h n = acted_some s _ (acted_left s activity f below value h n)
acted_applied code s activity below position (AsksRegistration f r) h n =
    acted_mapped s (object_at s r) _ (λ o. acted_registered code s activity position r o (with_frame s TheSequencer activity f below) (plain s h n _ refl refl refl))
acted_applied code s activity below position (AsksRelease f r) h n =
    let t : State = with_frame s TheSequencer activity f below in
    acted_some s _ (subst (λ (x : Step). Acted s x) (sym (not_released t r h)) (plain s h n t refl refl refl))
acted_applied code s activity below position (AsksTermination f r) h n =
    let t : State = with_frame s TheSequencer activity f below in
    acted_some s _ (acted_asked s t r (plain s h n t refl refl refl) h)
acted_applied code s activity below position (Faults fault) h n = acted_some s _ (acted_fault s activity position fault)
acted_applied code s activity below position Stuck h n = acted_none s

acted_frame : (code : Code) (rows : List ReadingRow) (s : State) (activity : Activity) → is_exec s.phase ≡ false → s.outcome ≡ None → ActedIf s (frame_op code rows s TheSequencer activity)
unfolding frame_op
acted_frame code rows s activity h n = go activity.frames
  where
    act : (f : Frame) (below : List Frame) (ops : List Op) → ActedIf s (elim ops [ [] ↦ None | op ∷ rest ↦ applied code s TheSequencer activity below (position_of_op code op) (effect_at code rows s f op rest) ])
    act f below [] = acted_none s
    act f below (op ∷ rest) = acted_applied code s activity below (position_of_op code op) (effect_at code rows s f op rest) h n

    go : (fs : List Frame) → ActedIf s (elim fs [ [] ↦ None | f ∷ below ↦ elim f.rest [ [] ↦ None | op ∷ rest ↦ applied code s TheSequencer activity below (position_of_op code op) (effect_at code rows s f op rest) ] ])
    go [] = acted_none s
    go (f ∷ below) = act f below f.rest

acted_area : (s : State) (position : Position) (scope bytes : ℕ) → is_exec s.phase ≡ false → s.activity.frames ≡ [] → Acted s (area_opened s position scope bytes)
unfolding area_opened
acted_area s position scope bytes h f =
    acted_opening s s.activity position scope (innermost s.activity.areas) bytes _
    (λ t a k. record { started_same = k.started_same; outside = ap is_exec k.phase ∙ h; frameless = λ v x. f })

acted_safelet : (code : Code) (s : State) (position : Position) (class area : ℕ) → is_exec s.phase ≡ false → s.activity.frames ≡ [] → Acted s (safelet_made code s position class area)
unfolding safelet_made
acted_safelet code s position class area h f =
    acted_allocating s s.activity position class area (new_slots code.program class) _
    (λ t r k. record { started_same = k.started_same; outside = ap is_exec k.phase ∙ h; frameless = λ v x. ap (λ (a : Activity). a.frames) k.activity ∙ f })

acted_body : (code : Code) (s : State) (r : ℕ) (body : Body) → is_exec s.phase ≡ false → s.outcome ≡ None → ActedIf s (body_called code s r body)
unfolding body_called
acted_body code s r body h n = acted_bind s (innermost s.activity.areas) _ (λ area. acted_some s _ (plain s h n _ refl refl refl))

acted_method : (code : Code) (s : State) (r : ℕ) (name : List ℕ) → is_exec s.phase ≡ false → s.outcome ≡ None → ActedIf s (method_called code s r name)
acted_method code s r name h n =
    acted_bind s (object_at s r) _ (λ o. acted_bind s (body_named code.program o.class name) _ (λ body. acted_body code s r body h n))

acted_op : (code : Code) (s : State) (op : SeqOp) → is_exec s.phase ≡ false → s.outcome ≡ None → s.activity.frames ≡ [] → ActedIf s (sequencer_op code s op)
unfolding sequencer_op
acted_op code s OpenImmortal h n k =
    acted_bind s (safelet_class code.program) _ (λ class. acted_bind s (size_of code.program class) _ (λ bytes.
    acted_some s _ (acted_area s _ immortal_scope bytes h k)))
acted_op code s AllocSafelet h n k =
    acted_bind s (safelet_class code.program) _ (λ class. acted_bind s (innermost s.activity.areas) _ (λ area.
    acted_some s _ (acted_safelet code s _ class area h k)))
acted_op code s (ConstructSafelet r) h n k =
    acted_bind s (object_at s r) _ (λ o. acted_bind s (constructor_body code.program o.class) _ (λ body. acted_body code s r body h n))
acted_op code s (InitializeApplication r) h n k = acted_method code s r _ h n
acted_op code s (GetSequencer r) h n k = acted_method code s r _ h n
acted_op code s (GetNextMission r) h n k = acted_method code s r _ h n
acted_op code s (OpenMission r) h n k =
    acted_bind s (object_at s r) _ (λ o. acted_bind s (defined_by_chain code.program o.class) _ (λ scope.
    acted_bind s (size_of code.program o.class) _ (λ bytes. acted_some s _ (acted_area s _ scope bytes h k))))
acted_op code s (Initialize r) h n k = acted_method code s r _ h n
acted_op code s (CleanUp r) h n k = acted_method code s r _ h n
acted_op code s Execute h n k = acted_none s
acted_op code s Finished h n k = acted_none s

acted_turn : (code : Code) (rows : List ReadingRow) (s : State) → is_exec s.phase ≡ false → s.outcome ≡ None → ActedIf s (sequencer_turn code rows s)
unfolding sequencer_turn
acted_turn code rows s h n = go s.activity.frames refl
  where
    go : (fs : List Frame) → s.activity.frames ≡ fs → ActedIf s (elim fs [ [] ↦ sequencer_op code s s.operation | f ∷ below ↦ frame_op code rows s TheSequencer s.activity ])
    go [] k = acted_op code s s.operation h n k
    go (f ∷ below) k = acted_frame code rows s s.activity h n

-- ---- what follows keeps the order

pub record OrderlyIf (o : Option Step) : Type 0 where
  pub is : (r : Step) → o ≡ Some r → IsOrderly r.state

orderly_some : (r : Step) → IsOrderly r.state → OrderlyIf (Some r)
orderly_some r h = record { is = λ q e. subst (λ (x : Step). IsOrderly x.state) (some_same r q e) h }

orderly_none : OrderlyIf None
orderly_none = record { is = λ q e. absurd (cc (e)) }

orderly_bind : {A : Type 0} (o : Option A) (f : A → Option Step) → ((a : A) → OrderlyIf (f a)) → OrderlyIf (o >>= f)
orderly_bind None f h = orderly_none
orderly_bind (Some a) f h = h a

orderly_if : (b : Bool) (x y : Step) → (b ≡ true → IsOrderly x.state) → (b ≡ false → IsOrderly y.state) → IsOrderly (if b then x else y).state
orderly_if true x y h k = h refl
orderly_if false x y h k = k refl

orderly_either : (b : Bool) (x y : Option Step) → (b ≡ true → OrderlyIf x) → (b ≡ false → OrderlyIf y) → OrderlyIf (if b then x else y)
orderly_either true x y h k = h refl
orderly_either false x y h k = k refl

orderly_mapped : {A : Type 0} (o : Option A) (f : A → Step) → ((a : A) → IsOrderly (f a).state) → OrderlyIf (option_map f o)
orderly_mapped None f h = orderly_none
orderly_mapped (Some a) f h = orderly_some (f a) (h a)

-- a state outside execution without a started release
orderly_outside : (s : State) → is_exec s.phase ≡ false → has_started s ≡ false → s.outcome ≡ None → IsOrderly s
orderly_outside s h k n = record { outside = λ e. k; inside = λ e. absurd (cc (e, h)); followed = n }

-- nobody has a frame, and what follows has been done
record IsAtRest (s : State) : Type 0 where
  quiet : has_started s ≡ false
  frameless : s.activity.frames ≡ []
  followed : s.outcome ≡ None

orderly_at_rest : (s : State) → IsAtRest s → IsOrderly s
orderly_at_rest s r = record { outside = λ h. r.quiet; inside = λ h. r.frameless; followed = r.followed }

rest_applied : (code : Code) (s : State) (effect : SeqEffect) → IsAtRest s → IsAtRest (seq_applied code s effect).state
unfolding seq_applied fault_in
rest_applied code s Continues r = r
rest_applied code s (TakesSafelet q) r = record { quiet = r.quiet; frameless = r.frameless; followed = r.followed }
rest_applied code s (TakesSequencer q) r = record { quiet = r.quiet; frameless = r.frameless; followed = r.followed }
rest_applied code s (TakesMission q) r = record { quiet = r.quiet; frameless = r.frameless; followed = r.followed }
rest_applied code s (LacksSequencer q) r = record { quiet = r.quiet; frameless = r.frameless; followed = refl }
rest_applied code s LacksMission r = r
rest_applied code s (BeginsMission q) r = r
rest_applied code s BeginsExecution r = record { quiet = r.quiet; frameless = r.frameless; followed = r.followed }
rest_applied code s SkipsExecution r = r
rest_applied code s EndsExecution r = r
rest_applied code s ClosesMission r =
    record {
      quiet = started_closed s (innermost s.activity.areas) ∙ r.quiet;
      frameless = r.frameless;
      followed = (aside_closed s (innermost s.activity.areas)).outcome ∙ r.followed;
    }

orderly_transition : (code : Code) (s : State) (o : Option Transition) → has_started s ≡ false → s.activity.frames ≡ [] → OrderlyIf (option_map (transition_done code s) o)
orderly_transition code s o k f =
    orderly_mapped o (transition_done code s)
    (λ t. orderly_at_rest _ (rest_applied code (gone_to s t) t.effect (record { quiet = k; frameless = f; followed = refl })))

none_started : (a b : Bool) → (a && not b) ≡ true → b ≡ false
none_started true false h = refl
none_started true true h = absurd (cc (h))
none_started false b h = absurd (cc (h))

orderly_execution : (code : Code) (s : State) → IsOrderly s → s.activity.frames ≡ [] → OrderlyIf (after_execution code s)
orderly_execution code s o f =
    orderly_either (s.is_end_asked && not (has_started s)) _ _
    (λ e. orderly_transition code s (s.mission >>= (λ r. goes_to Cleanup (CleanUp r) EndsExecution)) (none_started s.is_end_asked (has_started s) e) f)
    (λ e. orderly_some (silently s) o)

orderly_phase : (code : Code) (t : State) → (is_exec t.phase ≡ true → IsOrderly t) → (is_exec t.phase ≡ false → has_started t ≡ false) → (is_exec t.phase ≡ false → (v : Value) → t.outcome ≡ Some v → t.activity.frames ≡ []) → OrderlyIf (phase_after code t)
unfolding phase_after
orderly_phase code t inside quiet done = go (is_exec t.phase) refl
  where
    on : (o : Option Value) → t.outcome ≡ o → is_exec t.phase ≡ false → OrderlyIf (elim o [ None ↦ Some (silently t) | Some value ↦ after_operation code t value ])
    on None n h = orderly_some _ (orderly_outside t h (quiet h) n)
    on (Some v) n h = orderly_transition code t _ (quiet h) (done h v n)

    go : (b : Bool) → is_exec t.phase ≡ b → OrderlyIf (if b then after_execution code t else (elim t.outcome [ None ↦ Some (silently t) | Some value ↦ after_operation code t value ]))
    go true h = orderly_execution code t (inside h) ((inside h).inside h)
    go false h = on t.outcome refl h

-- ---- arrivals, the choice, a unit, a run

snoc_waiting : (rs : List Release) (w : Release) → is_started w.status ≡ false → list_any (λ (r : Release). is_started r.status) (rs ++ w ∷ []) ≡ list_any (λ (r : Release). is_started r.status) rs
snoc_waiting [] w h = ap (λ (b : Bool). b || false) h
snoc_waiting (r ∷ rs) w h = ap (λ (b : Bool). is_started r.status || b) (snoc_waiting rs w h)

orderly_taken : (s : State) (handler : ℕ) → IsOrderly s → IsOrderly (release_taken s handler).state
unfolding release_taken is_started
orderly_taken s handler o =
    orderly_if (not (nat_lt (length (waiting_of s handler)) most_waiting)) _ _ (λ e. record { outside = o.outside; inside = o.inside; followed = o.followed })
    (λ e. record { outside = λ h. snoc_waiting s.releases _ refl ∙ o.outside h; inside = o.inside; followed = o.followed })

orderly_each : {A : Type 0} (step : State → A → Step) → ((s : State) (x : A) → IsOrderly s → IsOrderly (step s x).state) → (xs : List A) (s : State) → IsOrderly s → IsOrderly (for_each step xs s).state
unfolding for_each
orderly_each step q [] s o = o
orderly_each step q (x ∷ xs) s o = orderly_each step q xs (step s x).state (q s x o)

orderly_fired : (code : Code) (s : State) (fire : Fire) → IsOrderly s → IsOrderly (fired code s fire).state
unfolding fired
orderly_fired code s fire o = go (fired_handler code s fire.handler)
  where
    go : (h : Option ℕ) → IsOrderly (elim h as (λ x. Step) [ Some handler ↦ release_taken s handler | None ↦ reporting s (Miss s.unit fire.handler ∷ []) ]).state
    go None = o
    go (Some handler) = orderly_taken s handler o

orderly_fired_at : (code : Code) (fires : List Fire) (s : State) (index : ℕ) → IsOrderly s → IsOrderly (fired_at code fires s index).state
orderly_fired_at code fires s index o = go (slice_get fires index)
  where
    go : (f : Option Fire) → IsOrderly (elim f as (λ x. Step) [ None ↦ silently s | Some fire ↦ fired code s fire ]).state
    go None = o
    go (Some fire) = orderly_fired code s fire o

orderly_arrivals : (code : Code) (plan : Plan) (s : State) → IsOrderly s → IsOrderly (arrivals code plan s).state
unfolding arrivals
orderly_arrivals code plan s o =
    orderly_each (fired_at code plan.fires) (orderly_fired_at code plan.fires) (fires_due (executes_since s) s.unit plan.fires) (for_each release_taken (due_handlers s) s).state
    (orderly_each release_taken orderly_taken (due_handlers s) s o)

-- what an operation leaves, so that the order is kept by what follows
record IsReady (t : State) : Type 0 where
  inside : is_exec t.phase ≡ true → IsOrderly t
  quiet : is_exec t.phase ≡ false → has_started t ≡ false
  done : is_exec t.phase ≡ false → (v : Value) → t.outcome ≡ Some v → t.activity.frames ≡ []

record ReadyIf (o : Option Step) : Type 0 where
  is : (r : Step) → o ≡ Some r → IsReady r.state

ready_some : (r : Step) → IsReady r.state → ReadyIf (Some r)
ready_some r h = record { is = λ q e. subst (λ (x : Step). IsReady x.state) (some_same r q e) h }

ready_none : ReadyIf None
ready_none = record { is = λ q e. absurd (cc (e)) }

ready_aside : (u after : State) → is_exec u.phase ≡ true → u.activity.frames ≡ [] → u.outcome ≡ None → IsAside u after → IsReady after
ready_aside u after h f n a =
    let e : is_exec after.phase ≡ true = ap is_exec a.phase ∙ h in
    record {
      inside = λ x. record { outside = λ y. absurd (cc (e, y)); inside = λ y. ap (λ (z : Activity). z.frames) a.activity ∙ f; followed = a.outcome ∙ n };
      quiet = λ x. absurd (cc (e, x));
      done = λ x. absurd (cc (e, x));
    }

ready_acted : (s after : State) → has_started s ≡ false → IsActed s after → IsReady after
ready_acted s after k a =
    record { inside = λ x. absurd (cc (x, a.outside)); quiet = λ x. a.started_same ∙ k; done = λ x. a.frameless }

ready_reported : (first : Step) (o : Option Step) → ReadyIf o → ReadyIf (option_map (λ (second : Step). reporting second.state (first.events ++ second.events)) o)
ready_reported first None h = ready_none
ready_reported first (Some second) h = ready_some _ (h.is second refl)

ready_from_aside : (u : State) (o : Option Step) → is_exec u.phase ≡ true → u.activity.frames ≡ [] → u.outcome ≡ None → AsideIf u o → ReadyIf o
ready_from_aside u o h f n a = record { is = λ r e. ready_aside u r.state h f n (a.is r e) }

ready_from_acted : (s : State) (o : Option Step) → has_started s ≡ false → ActedIf s o → ReadyIf o
ready_from_acted s o k a = record { is = λ r e. ready_acted s r.state k (a.is r e) }

ready_bind : {A : Type 0} (o : Option A) (f : A → Option Step) → ((a : A) → ReadyIf (f a)) → ReadyIf (o >>= f)
ready_bind None f h = ready_none
ready_bind (Some a) f h = h a

aside_turn : (code : Code) (rows : List ReadingRow) (turn : Turn) (u : State) → AsideIf u (turn_acts code rows turn u)
unfolding turn_acts
aside_turn code rows IdleTurn u = aside_some u (silently u) (record { phase = refl; activity = refl; outcome = refl })
aside_turn code rows (TurnOf index) u = aside_ref_op code rows u index

ready_turn : (code : Code) (rows : List ReadingRow) (s : State) (turn : Turn) → IsOrderly s → is_exec s.phase ≡ true → ReadyIf (then_try (turn_taken s turn) (turn_acts code rows turn))
unfolding turn_taken
ready_turn code rows s turn o h =
    ready_reported (turn_taken s turn) (turn_acts code rows turn (turn_taken s turn).state)
    (ready_from_aside (turn_taken s turn).state _ h (o.inside h) o.followed (aside_turn code rows turn (turn_taken s turn).state))

ready_acts : (code : Code) (rows : List ReadingRow) (policy : Policy) (s : State) → IsOrderly s → ReadyIf (acts code rows policy s)
unfolding acts
ready_acts code rows policy s o = go (is_exec s.phase) refl
  where
    go : (b : Bool) → is_exec s.phase ≡ b → ReadyIf (if b then (policy s >>= (λ turn. then_try (turn_taken s turn) (turn_acts code rows turn))) else sequencer_turn code rows s)
    go true h = ready_bind (policy s) _ (λ turn. ready_turn code rows s turn o h)
    go false h = ready_from_acted s _ (o.outside h) (acted_turn code rows s h o.followed)

orderly_reported : (first : Step) (o : Option Step) → OrderlyIf o → OrderlyIf (option_map (λ (second : Step). reporting second.state (first.events ++ second.events)) o)
orderly_reported first None h = orderly_none
orderly_reported first (Some second) h = orderly_some _ (h.is second refl)

ready_on : (o : Option Step) (f : Step → Option Step) → ReadyIf o → ((r : Step) → IsReady r.state → OrderlyIf (f r)) → OrderlyIf (o >>= f)
ready_on None f h k = orderly_none
ready_on (Some r) f h k = k r (h.is r refl)

orderly_on : (o : Option Step) (f : Step → Option Step) → OrderlyIf o → ((r : Step) → IsOrderly r.state → OrderlyIf (f r)) → OrderlyIf (o >>= f)
orderly_on None f h k = orderly_none
orderly_on (Some r) f h k = k r (h.is r refl)

orderly_unit : (code : Code) (plan : Plan) (policy : Policy) (s : State) → IsOrderly s → OrderlyIf (one_unit code plan policy s)
unfolding one_unit
orderly_unit code plan policy s o =
    orderly_on _ _
    (ready_on _ _
    (ready_reported (arrivals code plan s) _ (ready_acts code plan.readings policy (arrivals code plan s).state (orderly_arrivals code plan s o)))
    (λ r q. orderly_reported r (phase_after code r.state) (orderly_phase code r.state q.inside q.quiet q.done)))
    (λ r q. orderly_some _ (record { outside = q.outside; inside = q.inside; followed = q.followed }))

orderly_continued : (r : RunSoFar) (o : Option Step) → IsOrderly r.state → OrderlyIf o → IsOrderly (continued r o).state
unfolding continued
orderly_continued r None p h = p
orderly_continued r (Some result) p h = h.is result refl

orderly_more : (is_over : Bool) (r : RunSoFar) (o : Option Step) → IsOrderly r.state → OrderlyIf o → IsOrderly (if is_over then r else continued r o).state
orderly_more true r o p h = p
orderly_more false r o p h = orderly_continued r o p h

pub orderly_run : (code : Code) (plan : Plan) (policy : Policy) (n : ℕ) → IsOrderly (run code plan policy n).state
unfolding run one_more_unit empty_state is_exec
orderly_run code plan policy zero = orderly_outside _ refl refl refl
orderly_run code plan policy (suc n) =
    orderly_more (has_ended (run code plan policy n)) (run code plan policy n) (one_unit code plan policy (run code plan policy n).state)
    (orderly_run code plan policy n) (orderly_unit code plan policy (run code plan policy n).state (orderly_run code plan policy n))
