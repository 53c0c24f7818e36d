-- Outside execution an operation of the sequencer leaves the releases as they are.
use Rattle.std.proofs.Common.{◌≡◌, ℕ, nat_lt, Bool, true, false, not, ◌&&◌, List, [], ◌∷◌, length, map, Option, Some, None, if◌then◌else◌, refl, sym, ap, subst}
use Rattle.std.specs.Prelude.{option_map, unwrap_or, is_some, codes}
use Rattle.scj_base.specs.declared.positions.Position.{Position}
use Rattle.scj_base.specs.declared.faults.RunFault.{RunFault}
use Rattle.scj_base.specs.declared.values.Value.{Value}
use Rattle.scj_rules.specs.declared.views.Body.{Body}
use Rattle.scj_rules.specs.Words.{◌>>=◌}
use Rattle.scj_rules.specs.ScopeRules.{immortal_scope, defined_by_chain}
use Rattle.scj_rules.specs.Bodies.{body_named, constructor_body, size_of, safelet_class, class_position}
use Rattle.scj_model.specs.declared.events.Event.TheVariants.{Terminate}
use Rattle.scj_model.specs.declared.operations.Op.{Op}
use Rattle.scj_model.specs.declared.operations.SeqOp.{SeqOp}
use Rattle.scj_model.specs.declared.operations.SeqOp.TheVariants.{OpenImmortal, AllocSafelet, ConstructSafelet, InitializeApplication, GetSequencer, GetNextMission, OpenMission, Initialize, CleanUp, Execute, Finished}
use Rattle.scj_model.specs.declared.plans.ReadingRow.{ReadingRow}
use Rattle.scj_model.specs.Code.{Code}
use Rattle.scj_model.specs.State.{Object, Frame, Activity, TheSequencer, State, with_activity, object_at, is_init, is_exec}
use Rattle.scj_model.specs.Registry.{most_handlers, handler_number}
use Rattle.scj_model.specs.Memory.{closed, has_room, has_store_for, area_with_scope, with_area, with_object, new_slots}
use Rattle.scj_model.specs.Steps.{Step, silently, reporting, job_ended, fault_in, allocating, opening}
use Rattle.scj_model.specs.Effects.{Effect, Goes, Prints, Makes, Stores, StoresStatic, SetsHidden, SetsCeiling, Calls, Opens, Leaves, AsksRegistration, AsksRelease, AsksTermination, Faults, Stuck}
use Rattle.scj_model.specs.Apply.{is_full, called, opened_in, frame_left, release_taken, registered, released, termination, termination_asked, with_frame, applied, asks_for_end, ceiling_entered, dropped_release, report_dropped}
use Rattle.scj_model.specs.Sequencer.{innermost, area_opened, safelet_made, body_called, sequencer_op}
use Rattle.scj_model.specs.Run.{frame_op, effect_at, position_of_op, sequencer_turn}

-- the same releases, of the same mission
pub record HasSame (s t : State) : Type 0 where
  pub releases : t.releases ≡ s.releases
  pub earlier : t.earlier_releases ≡ s.earlier_releases

abbrev Same : State → Step → Type 0
Same s r = HasSame s r.state

same_state : (s : State) → HasSame s s
same_state s = record { releases = refl; earlier = refl }

same_if : (s : State) (b : Bool) (x y : Step) → Same s x → Same s y → Same s (if b then x else y)
same_if s true x y h k = h
same_if s false x y h k = k

same_option : {A : Type 0} (s : State) (o : Option A) (x : Step) (f : A → Step) → Same s x → ((a : A) → Same s (f a)) → Same s (elim o [ None ↦ x | Some a ↦ f a ])
same_option s None x f h k = h
same_option s (Some a) x f h k = k a

same_closed : (s : State) (a : Option ℕ) → HasSame s (closed s a)
unfolding closed
same_closed s None = record { releases = refl; earlier = refl }
same_closed s (Some a) = record { releases = refl; earlier = refl }

same_fault : (s : State) (activity : Activity) (position : Position) (fault : RunFault) → Same s (fault_in s TheSequencer activity position fault)
unfolding fault_in
same_fault s activity position fault = record { releases = refl; earlier = refl }

same_called : (code : Code) (s : State) (activity : Activity) (frames : List Frame) (position : Position) (g : Frame) → Same s (called code s TheSequencer activity frames position g)
unfolding called with_activity
same_called code s activity frames position g =
    same_if s (is_full frames) _ _ (same_fault s activity position _)
    (same_option s (ceiling_entered code s g) _ _ (record { releases = refl; earlier = refl })
    (λ ceiling. same_if s (nat_lt ceiling activity.priority) _ _ (same_fault s activity position _) (record { releases = refl; earlier = refl })))

same_opening : (s : State) (activity : Activity) (position : Position) (scope : ℕ) (parent : Option ℕ) (bytes : ℕ) (next : State → ℕ → Step) → ((t : State) (a : ℕ) → HasSame s t → Same s (next t a)) → Same s (opening s TheSequencer activity position scope parent bytes next)
unfolding opening
same_opening s activity position scope parent bytes next h =
    same_if s (has_store_for s bytes) _ _ (h (with_area s scope parent bytes) (length s.areas) (record { releases = refl; earlier = refl }))
    (same_fault s activity position _)

same_allocating : (s : State) (activity : Activity) (position : Position) (class area : ℕ) (slots : List Value) (next : State → ℕ → Step) → ((t : State) (r : ℕ) → HasSame s t → Same s (next t r)) → Same s (allocating s TheSequencer activity position class area slots next)
unfolding allocating
same_allocating s activity position class area slots next h =
    same_if s (has_room s area (length slots)) _ _ (h (with_object s class area slots) (length s.objects) (record { releases = refl; earlier = refl }))
    (same_fault s activity position _)

same_opened : (s : State) (activity : Activity) (frames : List Frame) (position : Position) (g : Frame) (scope bytes : ℕ) → Same s (opened_in s TheSequencer activity frames position g scope bytes)
unfolding opened_in with_activity
same_opened s activity frames position g scope bytes =
    same_if s (is_some (area_with_scope s scope activity.areas)) _ _ (same_fault s activity position _)
    (same_if s (is_full frames) _ _ (same_fault s activity position _)
    (same_opening s activity position scope (Some g.area) bytes _ (λ t a k. record { releases = k.releases; earlier = k.earlier })))

same_left : (s : State) (activity : Activity) (f : Frame) (below : List Frame) (value : Option Value) → Same s (frame_left s TheSequencer activity f below value)
unfolding frame_left job_ended with_activity
same_left s activity f below value = go _ below
  where
    c : HasSame s (closed s f.opened)
    c = same_closed s f.opened

    go : (a : Activity) (fs : List Frame) → Same s (elim fs [ [] ↦ job_ended (closed s f.opened) TheSequencer a value | g ∷ gs ↦ silently (with_activity (closed s f.opened) TheSequencer a) ])
    go a [] = record { releases = c.releases; earlier = c.earlier }
    go a (g ∷ gs) = record { releases = c.releases; earlier = c.earlier }

same_released : (s : State) (r : ℕ) → is_exec s.phase ≡ false → Same s (released s r)
unfolding released
same_released s r e =
    subst (λ b. Same s (if b then (elim (handler_number s.registry r) as (λ z. Step) [ None ↦ silently s | Some handler ↦ release_taken s handler ]) else silently s))
    (sym (ap (λ b. b && not s.is_end_asked) e)) (same_state s)

same_asked : (s : State) (r : ℕ) → is_exec s.phase ≡ false → Same s (termination_asked s r)
unfolding termination_asked termination
same_asked s r e =
    same_if s (asks_for_end s.mission s.phase s.is_end_asked r) _ _ (ends s e) (same_state s)
  where
    ends : (s : State) → is_exec s.phase ≡ false → Same s (termination s)
    ends s e =
        subst
        (λ (b : Bool). Same s
        (if b
        then reporting (record s { is_end_asked = true; releases = map dropped_release s.releases }) (Terminate s.unit ∷ report_dropped s)
        else silently (record s { is_end_asked = true })))
        (sym e) (record { releases = refl; earlier = refl })

same_registered : (code : Code) (s : State) (activity : Activity) (position : Position) (r : ℕ) (o : Object) (after : State) → HasSame s after → Same s (registered code s TheSequencer activity position r o after)
unfolding registered
same_registered code s activity position r o after a =
    same_if s (not (is_init s.phase)) _ _ (same_fault s activity position _)
    (same_if s (is_some (handler_number s.registry r)) _ _ a
    (same_if s (not (nat_lt (length s.registry) most_handlers)) _ _ (same_fault s activity position _)
    (record { releases = a.releases; earlier = a.earlier })))

pub record SameIf (s : State) (o : Option Step) : Type 0 where
  pub is : (r : Step) → o ≡ Some r → Same s r

some_same : (a b : Step) → Some a ≡ Some b → a ≡ b
some_same a b e = ap (λ (o : Option Step). unwrap_or o a) e

same_some : (s : State) (r : Step) → Same s r → SameIf s (Some r)
same_some s r h = record { is = λ q e. subst (λ (x : Step). Same s x) (some_same r q e) h }

same_none : (s : State) → SameIf s None
same_none s = record { is = λ q e. absurd (cc (e)) }

same_bind : {A : Type 0} (s : State) (o : Option A) (f : A → Option Step) → ((a : A) → SameIf s (f a)) → SameIf s (o >>= f)
same_bind s None f h = same_none s
same_bind s (Some a) f h = h a

same_mapped : {A : Type 0} (s : State) (o : Option A) (f : A → Step) → ((a : A) → Same s (f a)) → SameIf s (option_map f o)
same_mapped s None f h = same_none s
same_mapped s (Some a) f h = same_some s (f a) (h a)

same_applied : (code : Code) (s : State) → is_exec s.phase ≡ false → (activity : Activity) (below : List Frame) (position : Position) (effect : Effect) → SameIf s (applied code s TheSequencer activity below position effect)
unfolding applied with_activity
same_applied code s e activity below position (Goes f) = same_some s _ (record { releases = refl; earlier = refl })
same_applied code s e activity below position (Prints f label value) = same_some s _ (record { releases = refl; earlier = refl })
same_applied code s e activity below position (Makes f class slots) =
    same_some s _ (same_allocating s activity position class f.area slots _ (λ t r k. record { releases = k.releases; earlier = k.earlier }))
same_applied code s e activity below position (Stores f r slot value) = same_some s _ (record { releases = refl; earlier = refl })
same_applied code s e activity below position (StoresStatic f k value) = same_some s _ (record { releases = refl; earlier = refl })
same_applied code s e activity below position (SetsHidden f r values) = same_some s _ (record { releases = refl; earlier = refl })
same_applied code s e activity below position (SetsCeiling f r ceiling) = same_some s _ (record { releases = refl; earlier = refl })
same_applied code s e activity below position (Calls f g) = same_some s _ (same_called code s activity (f ∷ below) position g)
same_applied code s e activity below position (Opens f g scope bytes) = same_some s _ (same_opened s activity (f ∷ below) position g scope bytes)
same_applied code s e activity below position (Leaves f value) = same_some s _ (same_left s activity f below value)
same_applied code s e activity below position (AsksRegistration f r) =
    same_mapped s (object_at s r) _ (λ o. same_registered code s activity position r o (with_frame s TheSequencer activity f below) (record { releases = refl; earlier = refl }))
same_applied code s e activity below position (AsksRelease f r) =
    let t : State = with_frame s TheSequencer activity f below in
    let k : Same t (released t r) = same_released t r e in
    same_some s _ (record { releases = k.releases; earlier = k.earlier })
same_applied code s e activity below position (AsksTermination f r) =
    let t : State = with_frame s TheSequencer activity f below in
    let k : Same t (termination_asked t r) = same_asked t r e in
    same_some s _ (record { releases = k.releases; earlier = k.earlier })
same_applied code s e activity below position (Faults fault) = same_some s _ (same_fault s activity position fault)
same_applied code s e activity below position Stuck = same_none s

same_frame : (code : Code) (rows : List ReadingRow) (s : State) → is_exec s.phase ≡ false → (activity : Activity) → SameIf s (frame_op code rows s TheSequencer activity)
unfolding frame_op
same_frame code rows s e activity = go activity.frames
  where
    act : (f : Frame) (below : List Frame) (ops : List Op) → SameIf s (elim ops [ [] ↦ None | op ∷ rest ↦ applied code s TheSequencer activity below (position_of_op code op) (effect_at code rows s f op rest) ])
    act f below [] = same_none s
    act f below (op ∷ rest) = same_applied code s e activity below (position_of_op code op) (effect_at code rows s f op rest)

    go : (fs : List Frame) → SameIf s (elim fs [ [] ↦ None | f ∷ below ↦ elim f.rest [ [] ↦ None | op ∷ rest ↦ applied code s TheSequencer activity below (position_of_op code op) (effect_at code rows s f op rest) ] ])
    go [] = same_none s
    go (f ∷ below) = act f below f.rest

same_area : (s : State) (position : Position) (scope bytes : ℕ) → Same s (area_opened s position scope bytes)
unfolding area_opened
same_area s position scope bytes =
    same_opening s s.activity position scope (innermost s.activity.areas) bytes _ (λ t a k. record { releases = k.releases; earlier = k.earlier })

same_safelet : (code : Code) (s : State) (position : Position) (class area : ℕ) → Same s (safelet_made code s position class area)
unfolding safelet_made
same_safelet code s position class area =
    same_allocating s s.activity position class area (new_slots code.program class) _ (λ t r k. record { releases = k.releases; earlier = k.earlier })

same_body : (code : Code) (s : State) (r : ℕ) (body : Body) → SameIf s (body_called code s r body)
unfolding body_called
same_body code s r body = same_bind s (innermost s.activity.areas) _ (λ area. same_some s _ (record { releases = refl; earlier = refl }))

same_op : (code : Code) (s : State) (op : SeqOp) → SameIf s (sequencer_op code s op)
unfolding sequencer_op
same_op code s OpenImmortal =
    same_bind s (safelet_class code.program) _ (λ class. same_bind s (size_of code.program class) _ (λ bytes.
    same_some s _ (same_area s (class_position code.program class) immortal_scope bytes)))
same_op code s AllocSafelet =
    same_bind s (safelet_class code.program) _ (λ class. same_bind s (innermost s.activity.areas) _ (λ area.
    same_some s _ (same_safelet code s (class_position code.program class) class area)))
same_op code s (ConstructSafelet r) =
    same_bind s (object_at s r) _ (λ o. same_bind s (constructor_body code.program o.class) _ (λ body. same_body code s r body))
same_op code s (InitializeApplication r) =
    same_bind s (object_at s r) _ (λ o. same_bind s (body_named code.program o.class (codes "initializeApplication")) _ (λ body. same_body code s r body))
same_op code s (GetSequencer r) =
    same_bind s (object_at s r) _ (λ o. same_bind s (body_named code.program o.class (codes "getSequencer")) _ (λ body. same_body code s r body))
same_op code s (GetNextMission r) =
    same_bind s (object_at s r) _ (λ o. same_bind s (body_named code.program o.class (codes "getNextMission")) _ (λ body. same_body code s r body))
same_op code s (OpenMission r) =
    same_bind s (object_at s r) _ (λ o. same_bind s (defined_by_chain code.program o.class) _ (λ scope.
    same_bind s (size_of code.program o.class) _ (λ bytes. same_some s _ (same_area s (class_position code.program o.class) scope bytes))))
same_op code s (Initialize r) =
    same_bind s (object_at s r) _ (λ o. same_bind s (body_named code.program o.class (codes "initialize")) _ (λ body. same_body code s r body))
same_op code s (CleanUp r) =
    same_bind s (object_at s r) _ (λ o. same_bind s (body_named code.program o.class (codes "cleanUp")) _ (λ body. same_body code s r body))
same_op code s Execute = same_none s
same_op code s Finished = same_none s

pub same_turn : (code : Code) (rows : List ReadingRow) (s : State) → is_exec s.phase ≡ false → SameIf s (sequencer_turn code rows s)
unfolding sequencer_turn
same_turn code rows s e = go s.activity.frames
  where
    go : (fs : List Frame) → SameIf s (elim fs [ [] ↦ sequencer_op code s s.operation | f ∷ below ↦ frame_op code rows s TheSequencer s.activity ])
    go [] = same_op code s s.operation
    go (f ∷ below) = same_frame code rows s e s.activity
