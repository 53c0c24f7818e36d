-- The operation of a job doesn't look at the last choice: after another one it does the same.
use Rattle.std.proofs.Common.{◌≡◌, ℕ, nat_lt, Bool, true, false, not, List, [], ◌∷◌, length, Option, Some, None, if◌then◌else◌, refl, ap, ◌∙◌}
use Rattle.std.specs.Prelude.{◌==◌, option_map, slice_get, is_some, unwrap_or, codes}
use Rattle.scj_base.specs.declared.positions.Position.{Position}
use Rattle.scj_base.specs.declared.faults.RunFault.{RunFault}
use Rattle.scj_base.specs.declared.faults.RunFault.TheVariants.{ScopedCycle, DepthFull}
use Rattle.scj_base.specs.declared.values.Value.{Value}
use Rattle.scj_rules.specs.Words.{◌>>=◌, holds}
use Rattle.scj_rules.specs.ScopeRules.{defined_by_chain}
use Rattle.scj_rules.specs.Bodies.{body_named, class_position}
use Rattle.scj_model.specs.declared.events.Event.TheVariants.{Fault, End}
use Rattle.scj_model.specs.declared.operations.Op.{Op}
use Rattle.scj_model.specs.declared.plans.ReadingRow.{ReadingRow}
use Rattle.scj_model.specs.Code.{Code}
use Rattle.scj_model.specs.State.{MemoryArea, Object, Frame, Activity, ReleaseStatus, Waits, Started, Ended, Dropped, Release, ReleaseAt, State, with_activity, with_status, object_at, area_at, is_init, is_exec, Turn}
use Rattle.scj_model.specs.Registry.{most_handlers, handler_number, handler_row}
use Rattle.scj_model.specs.Memory.{closed, used, has_room, reserved, has_store_for, area_with_scope, with_area, with_object}
use Rattle.scj_model.specs.Steps.{Step, silently, reporting, then_do, of_release, closed_all, job_ended, fault_in, allocating, opening}
use Rattle.scj_model.specs.Effects.{Effect, Goes, Prints, Makes, Stores, StoresStatic, SetsHidden, SetsCeiling, Calls, Opens, Leaves, AsksRegistration, AsksRelease, AsksTermination, Faults, Stuck}
use Rattle.scj_model.specs.Apply.{is_full, report_priority, returned, without, ceiling_entered, called, opened_in, frame_left, waiting_of, most_waiting, takes_releases, release_taken, registered, released, asks_for_end, termination, termination_asked, with_frame, applied}
use Rattle.scj_model.specs.Sequencer.{innermost}
use Rattle.scj_model.specs.Run.{frame_op, effect_at, position_of_op, start_op, started_with, no_activity, release_op_of, ref_op, with_turn}

-- a step that leads to the same state but for the last choice
abbrev pub as_chosen : Turn → Step → Step
as_chosen turn r = reporting (with_turn r.state turn) r.events

record SameStep (turn : Turn) (after before : Step) : Type 0 where
  is : after ≡ as_chosen turn before

same_if : (t : Turn) (b : Bool) (x y u v : Step) → SameStep t x u → SameStep t y v → SameStep t (if b then x else y) (if b then u else v)
same_if t true x y u v h k = h
same_if t false x y u v h k = k

same_option : {A : Type 0} (t : Turn) (o : Option A) (x u : Step) (f g : A → Step) → SameStep t x u → ((a : A) → SameStep t (f a) (g a)) → SameStep t (elim o [ None ↦ x | Some a ↦ f a ]) (elim o [ None ↦ u | Some a ↦ g a ])
same_option t None x u f g h k = h
same_option t (Some a) x u f g h k = k a

closed_same : (t : Turn) (s : State) (a : Option ℕ) → closed (with_turn s t) a ≡ with_turn (closed s a) t
unfolding closed
closed_same t s None = refl
closed_same t s (Some a) = refl

closed_all_same : (t : Turn) (s : State) (fs : List Frame) → closed_all (with_turn s t) fs ≡ with_turn (closed_all s fs) t
unfolding closed_all
closed_all_same t s [] = refl
closed_all_same t s (f ∷ fs) =
    ap (λ (x : State). closed_all x fs) (closed_same t s f.opened) ∙ closed_all_same t (closed s f.opened) fs

fault_same : (t : Turn) (s : State) (n : ℕ) (activity : Activity) (position : Position) (fault : RunFault) → SameStep t (fault_in (with_turn s t) (ReleaseAt n) activity position fault) (fault_in s (ReleaseAt n) activity position fault)
unfolding fault_in
fault_same t s n activity position fault =
    record {
      is = ap (λ (x : State). reporting (with_status x n Ended) (Fault s.unit fault position ∷ of_release s (ReleaseAt n) (λ (r : Release). End s.unit r.handler r.number ∷ [])))
          (closed_all_same t s activity.frames);
    }

-- ---- effects

called_same : (t : Turn) (code : Code) (s : State) (n : ℕ) (activity : Activity) (frames : List Frame) (position : Position) (g : Frame) → SameStep t (called code (with_turn s t) (ReleaseAt n) activity frames position g) (called code s (ReleaseAt n) activity frames position g)
unfolding called ceiling_entered with_activity
called_same t code s n activity frames position g =
    same_if t (is_full frames) _ _ _ _ (fault_same t s n activity position _)
    (same_option t (ceiling_entered code s g) _ _ _ _ (record { is = refl })
    (λ ceiling. same_if t (nat_lt ceiling activity.priority) _ _ _ _ (fault_same t s n activity position _) (record { is = refl })))

opening_same : (t : Turn) (s : State) (n : ℕ) (activity : Activity) (position : Position) (scope : ℕ) (parent : Option ℕ) (bytes : ℕ) (next : State → ℕ → Step) → ((u : State) (a : ℕ) → SameStep t (next (with_turn u t) a) (next u a)) → SameStep t (opening (with_turn s t) (ReleaseAt n) activity position scope parent bytes next) (opening s (ReleaseAt n) activity position scope parent bytes next)
unfolding opening has_store_for reserved
opening_same t s n activity position scope parent bytes next h =
    same_if t (has_store_for s bytes) _ _ _ _ (h (with_area s scope parent bytes) (length s.areas)) (fault_same t s n activity position _)

allocating_same : (t : Turn) (s : State) (n : ℕ) (activity : Activity) (position : Position) (class area : ℕ) (slots : List Value) (next : State → ℕ → Step) → ((u : State) (r : ℕ) → SameStep t (next (with_turn u t) r) (next u r)) → SameStep t (allocating (with_turn s t) (ReleaseAt n) activity position class area slots next) (allocating s (ReleaseAt n) activity position class area slots next)
unfolding allocating has_room used
allocating_same t s n activity position class area slots next h =
    same_if t (has_room s area (length slots)) _ _ _ _ (h (with_object s class area slots) (length s.objects)) (fault_same t s n activity position _)

scope_same : (t : Turn) (s : State) (scope : ℕ) (areas : List ℕ) → area_with_scope (with_turn s t) scope areas ≡ area_with_scope s scope areas
unfolding area_with_scope
scope_same t s scope [] = refl
scope_same t s scope (a ∷ areas) =
    ap (λ (o : Option ℕ). if holds (area_at s a) (λ (x : MemoryArea). x.scope == scope) then Some a else o) (scope_same t s scope areas)

opened_same : (t : Turn) (s : State) (n : ℕ) (activity : Activity) (frames : List Frame) (position : Position) (g : Frame) (scope bytes : ℕ) → SameStep t (opened_in (with_turn s t) (ReleaseAt n) activity frames position g scope bytes) (opened_in s (ReleaseAt n) activity frames position g scope bytes)
unfolding opened_in with_activity
opened_same t s n activity frames position g scope bytes =
    record {
      is = ap (λ (o : Option ℕ). if is_some o then fault_in (with_turn s t) (ReleaseAt n) activity position ScopedCycle
          else (if is_full frames then fault_in (with_turn s t) (ReleaseAt n) activity position DepthFull
          else opening (with_turn s t) (ReleaseAt n) activity position scope (Some g.area) bytes (λ u area.
          silently (with_activity u (ReleaseAt n) (record activity {
            frames = record g { area = area; opened = Some area } ∷ frames;
            areas = area ∷ activity.areas;
          })))))
          (scope_same t s scope activity.areas)
          ∙ (same_if t (is_some (area_with_scope s scope activity.areas)) _ _ _ _ (fault_same t s n activity position _)
          (same_if t (is_full frames) _ _ _ _ (fault_same t s n activity position _)
          (opening_same t s n activity position scope (Some g.area) bytes _ (λ u a. record { is = refl })))).is;
    }

left_same : (t : Turn) (s : State) (n : ℕ) (activity : Activity) (f : Frame) (below : List Frame) (value : Option Value) → SameStep t (frame_left (with_turn s t) (ReleaseAt n) activity f below value) (frame_left s (ReleaseAt n) activity f below value)
unfolding frame_left job_ended with_activity
left_same t s n activity f below value =
    record {
      is = ap (λ (x : State). then_do (reporting x (report_priority s (ReleaseAt n) activity.priority (unwrap_or f.saved activity.priority))) (λ y. elim below as (λ z. Step) [
        | [] ↦ job_ended y (ReleaseAt n) after value
        | g ∷ gs ↦ silently (with_activity y (ReleaseAt n) after)
      ])) (closed_same t s f.opened)
          ∙ (go below).is;
    }
  where
    after : Activity
    after = record activity { frames = returned value below; areas = without f.opened activity.areas; priority = unwrap_or f.saved activity.priority }

    go : (fs : List Frame) → SameStep t
        (then_do (reporting (with_turn (closed s f.opened) t) (report_priority s (ReleaseAt n) activity.priority (unwrap_or f.saved activity.priority))) (λ y. elim fs as (λ z. Step) [
          | [] ↦ job_ended y (ReleaseAt n) after value
          | g ∷ gs ↦ silently (with_activity y (ReleaseAt n) after)
        ]))
        (then_do (reporting (closed s f.opened) (report_priority s (ReleaseAt n) activity.priority (unwrap_or f.saved activity.priority))) (λ y. elim fs as (λ z. Step) [
          | [] ↦ job_ended y (ReleaseAt n) after value
          | g ∷ gs ↦ silently (with_activity y (ReleaseAt n) after)
        ]))
    go [] = record { is = refl }
    go (g ∷ gs) = record { is = refl }

taken_same : (t : Turn) (s : State) (handler : ℕ) → SameStep t (release_taken (with_turn s t) handler) (release_taken s handler)
unfolding release_taken
taken_same t s handler = same_if t (not (nat_lt (length (waiting_of s handler)) most_waiting)) _ _ _ _ (record { is = refl }) (record { is = refl })

released_same : (t : Turn) (s : State) (r : ℕ) → SameStep t (released (with_turn s t) r) (released s r)
unfolding released
released_same t s r =
    same_if t (takes_releases s) _ _ _ _ (same_option t (handler_number s.registry r) _ _ _ _ (record { is = refl }) (λ handler. taken_same t s handler)) (record { is = refl })

asked_same : (t : Turn) (s : State) (r : ℕ) → SameStep t (termination_asked (with_turn s t) r) (termination_asked s r)
unfolding termination_asked termination
asked_same t s r =
    same_if t (asks_for_end s.mission s.phase s.is_end_asked r) _ _ _ _ (same_if t (is_exec s.phase) _ _ _ _ (record { is = refl }) (record { is = refl })) (record { is = refl })

registered_same : (t : Turn) (code : Code) (s : State) (n : ℕ) (activity : Activity) (position : Position) (r : ℕ) (o : Object) (after : State) → SameStep t (registered code (with_turn s t) (ReleaseAt n) activity position r o (with_turn after t)) (registered code s (ReleaseAt n) activity position r o after)
unfolding registered
registered_same t code s n activity position r o after =
    same_if t (not (is_init s.phase)) _ _ _ _ (fault_same t s n activity position _)
    (same_if t (is_some (handler_number s.registry r)) _ _ _ _ (record { is = refl })
    (same_if t (not (nat_lt (length s.registry) most_handlers)) _ _ _ _ (fault_same t s n activity position _) (record { is = refl })))

-- ---- operations

abbrev pub SameIf : Turn → Option Step → Option Step → Type 0
SameIf turn after before = after ≡ option_map (as_chosen turn) before

same_bind : {A : Type 0} (t : Turn) (o : Option A) (f g : A → Option Step) → ((a : A) → SameIf t (f a) (g a)) → SameIf t (o >>= f) (o >>= g)
same_bind t None f g h = refl
same_bind t (Some a) f g h = h a

same_mapped : {A : Type 0} (t : Turn) (o : Option A) (f g : A → Step) → ((a : A) → SameStep t (f a) (g a)) → SameIf t (option_map f o) (option_map g o)
same_mapped t None f g h = refl
same_mapped t (Some a) f g h = ap (λ (x : Step). Some x) (h a).is

same_some : (t : Turn) (x y : Step) → SameStep t x y → SameIf t (Some x) (Some y)
same_some t x y h = ap (λ (z : Step). Some z) h.is

applied_same : (t : Turn) (code : Code) (s : State) (n : ℕ) (activity : Activity) (below : List Frame) (position : Position) (effect : Effect) → SameIf t (applied code (with_turn s t) (ReleaseAt n) activity below position effect) (applied code s (ReleaseAt n) activity below position effect)
unfolding applied with_activity
applied_same t code s n activity below position (Goes f) = refl
applied_same t code s n activity below position (Prints f label value) = refl
applied_same t code s n activity below position (Makes f class slots) =
    same_some t _ _ (allocating_same t s n activity position class f.area slots _ (λ u r. record { is = refl }))
applied_same t code s n activity below position (Stores f r slot value) = refl
applied_same t code s n activity below position (StoresStatic f k value) = refl
applied_same t code s n activity below position (SetsHidden f r values) = refl
applied_same t code s n activity below position (SetsCeiling f r ceiling) = same_some t _ _ (fault_same t s n activity position _)
applied_same t code s n activity below position (Calls f g) = same_some t _ _ (called_same t code s n activity (f ∷ below) position g)
applied_same t code s n activity below position (Opens f g scope bytes) = same_some t _ _ (opened_same t s n activity (f ∷ below) position g scope bytes)
applied_same t code s n activity below position (Leaves f value) = same_some t _ _ (left_same t s n activity f below value)
applied_same t code s n activity below position (AsksRegistration f r) =
    same_mapped t (object_at s r) _ _ (λ o. registered_same t code s n activity position r o (with_frame s (ReleaseAt n) activity f below))
applied_same t code s n activity below position (AsksRelease f r) =
    same_some t _ _ (released_same t (with_frame s (ReleaseAt n) activity f below) r)
applied_same t code s n activity below position (AsksTermination f r) =
    same_some t _ _ (asked_same t (with_frame s (ReleaseAt n) activity f below) r)
applied_same t code s n activity below position (Faults fault) = same_some t _ _ (fault_same t s n activity position fault)
applied_same t code s n activity below position Stuck = refl

frame_same : (t : Turn) (code : Code) (rows : List ReadingRow) (s : State) (n : ℕ) (activity : Activity) → SameIf t (frame_op code rows (with_turn s t) (ReleaseAt n) activity) (frame_op code rows s (ReleaseAt n) activity)
unfolding frame_op
frame_same t code rows s n activity = go activity.frames
  where
    act : (f : Frame) (below : List Frame) (ops : List Op) → SameIf t
        (elim ops as (λ x. Option Step) [ [] ↦ None | op ∷ rest ↦ applied code (with_turn s t) (ReleaseAt n) activity below (position_of_op code op) (effect_at code rows s f op rest) ])
        (elim ops as (λ x. Option Step) [ [] ↦ None | op ∷ rest ↦ applied code s (ReleaseAt n) activity below (position_of_op code op) (effect_at code rows s f op rest) ])
    act f below [] = refl
    act f below (op ∷ rest) = applied_same t code s n activity below (position_of_op code op) (effect_at code rows s f op rest)

    go : (fs : List Frame) → SameIf t
        (elim fs as (λ x. Option Step) [ [] ↦ None | f ∷ below ↦ elim f.rest [ [] ↦ None | op ∷ rest ↦ applied code (with_turn s t) (ReleaseAt n) activity below (position_of_op code op) (effect_at code rows s f op rest) ] ])
        (elim fs as (λ x. Option Step) [ [] ↦ None | f ∷ below ↦ elim f.rest [ [] ↦ None | op ∷ rest ↦ applied code s (ReleaseAt n) activity below (position_of_op code op) (effect_at code rows s f op rest) ] ])
    go [] = refl
    go (f ∷ below) = act f below f.rest

start_same : (t : Turn) (code : Code) (s : State) (index : ℕ) (r : Release) → SameIf t (start_op code (with_turn s t) index r) (start_op code s index r)
unfolding start_op started_with with_activity
start_same t code s index r =
    same_bind t (handler_row s.registry r.handler) _ _ (λ row. same_bind t (defined_by_chain code.program row.class) _ _ (λ scope.
    same_bind t (body_named code.program row.class (codes "handleAsyncEvent")) _ _ (λ body.
    same_some t _ _ (opening_same t s index no_activity (class_position code.program row.class) scope (innermost s.activity.areas) row.bytes _ (λ u a. record { is = refl })))))

release_same : (t : Turn) (code : Code) (rows : List ReadingRow) (s : State) (index : ℕ) (r : Release) → SameIf t (release_op_of code rows (with_turn s t) index r) (release_op_of code rows s index r)
unfolding release_op_of
release_same t code rows s index r = go r.status
  where
    go : (p : ReleaseStatus) → SameIf t
        (elim p as (λ x. Option Step) [ Waits ↦ start_op code (with_turn s t) index r | Started activity ↦ frame_op code rows (with_turn s t) (ReleaseAt index) activity | Ended ↦ None | Dropped ↦ None ])
        (elim p as (λ x. Option Step) [ Waits ↦ start_op code s index r | Started activity ↦ frame_op code rows s (ReleaseAt index) activity | Ended ↦ None | Dropped ↦ None ])
    go Waits = start_same t code s index r
    go (Started activity) = frame_same t code rows s index activity
    go Ended = refl
    go Dropped = refl

pub ref_op_same : (t : Turn) (code : Code) (rows : List ReadingRow) (s : State) (n : ℕ) → SameIf t (ref_op code rows (with_turn s t) (ReleaseAt n)) (ref_op code rows s (ReleaseAt n))
unfolding ref_op
ref_op_same t code rows s n = same_bind t (slice_get s.releases n) _ _ (λ r. release_same t code rows s n r)
