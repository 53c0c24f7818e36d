-- How the operation of a job goes on in the memory.
use Rattle.std.proofs.Common.{◌≡◌, ◌∙◌, ℕ, ◌≤◌, Bool, true, false, List, [], ◌∷◌, ◌++◌, length, Option, Some, None, if◌then◌else◌, refl, subst, ap, arith, length-append, length-drop, length-set}
use Rattle.std.specs.Prelude.{◌==◌, ◌||◌, drop, option_map, slice_get, slice_set, unwrap_or, codes}
use Rattle.std.proofs.lemmas.Bool.Decides.{nat_tests}
use Rattle.scj_base.specs.declared.positions.Position.{Position}
use Rattle.scj_base.specs.declared.values.Value.{Value}
use Rattle.scj_rules.specs.declared.views.Body.{Body}
use Rattle.scj_rules.specs.Words.{◌>>=◌, is_among}
use Rattle.scj_rules.specs.ScopeRules.{immortal_scope, defined_by_chain}
use Rattle.scj_rules.specs.Bodies.{body_named, constructor_body, size_of, safelet_class, class_position}
use Rattle.scj_model.specs.declared.operations.Op.{Op}
use Rattle.scj_model.specs.declared.operations.SeqOp.{SeqOp}
use Rattle.scj_model.specs.declared.operations.SeqOp.TheVariants.{OpenImmortal, AllocSafelet, ConstructSafelet, InitializeApplication, GetSequencer, GetNextMission, OpenMission, Initialize, CleanUp, Execute, Finished}
use Rattle.scj_model.specs.declared.plans.ReadingRow.{ReadingRow}
use Rattle.scj_model.specs.Code.{Code}
use Rattle.scj_model.specs.State.{Object, Frame, Activity, ReleaseStatus, Waits, Started, Ended, Dropped, Release, Job, TheSequencer, ReleaseAt, State, activity_in, activity_of, is_open_area, object_at}
use Rattle.scj_model.specs.Registry.{handler_row}
use Rattle.scj_model.specs.Memory.{new_slots}
use Rattle.scj_model.specs.Steps.{Step}
use Rattle.scj_model.specs.Effects.{Effect, Goes, Prints, Makes, Stores, StoresStatic, SetsHidden, SetsCeiling, Calls, Opens, Leaves, AsksRegistration, AsksRelease, AsksTermination, Faults, Stuck}
use Rattle.scj_model.specs.Apply.{with_ceiling, with_first, with_frame, applied, is_sequencer}
use Rattle.scj_model.specs.Sequencer.{innermost, area_opened, safelet_made, body_called, method_called, sequencer_op}
use Rattle.scj_model.specs.Run.{frame_op, effect_at, position_of_op, start_op, started_with, no_activity, release_op_of, sequencer_turn, ref_op}
use Rattle.scj_rules.specs.Layout.{size_with_slots}
use Rattle.region_heap.specs.Kept.{bytes_in}
use Rattle.area_growth.specs.Growth.{AreSituated, GoesOn, IsSituated, StaysSame}
use Rattle.area_growth.proofs.Growing.{GoesTo, unchanged, goes_same, goes_still, same_then_same, same_active, same_changed, faulted, still_called, goes_opening, goes_allocating, goes_opened, still_left, same_released, same_asked, still_registered}

-- ---- steps that may have no result

pub record GoesIf (s : State) (o : Option Step) : Type 0 where
  pub is : (r : Step) → o ≡ Some r → GoesTo s r

pub some_goes : (s : State) (r : Step) → GoesTo s r → GoesIf s (Some r)
some_goes s r g =
    record { is = λ q e. subst (λ (x : Step). GoesTo s x) (ap (λ (o : Option Step). unwrap_or o r) e) g }

pub none_goes : (s : State) → GoesIf s None
none_goes s = record { is = λ q e. absurd (cc (e)) }

pub bind_goes : {A : Type 0} (s : State) (o : Option A) (f : A → Option Step) →
    ((a : A) → o ≡ Some a → GoesIf s (f a)) → GoesIf s (o >>= f)
bind_goes s None f h = none_goes s
bind_goes s (Some a) f h = h a refl

pub mapped_goes : {A : Type 0} (s : State) (o : Option A) (f : A → Step) → ((a : A) → GoesTo s (f a)) →
    GoesIf s (option_map f o)
mapped_goes s None f h = none_goes s
mapped_goes s (Some a) f h = some_goes s (f a) (h a)

pub either_goes : (s : State) (b : Bool) (x y : Option Step) → GoesIf s x → GoesIf s y →
    GoesIf s (if b then x else y)
either_goes s true x y g h = g
either_goes s false x y g h = h

-- an object that is changed keeps its area and the number of its slots
slot_kept : (slot : ℕ) (value : Value) (o : Object) (a : ℕ) →
    bytes_in a (record o { slots = slice_set o.slots slot value }) ≡ bytes_in a o
slot_kept slot value o a =
    ap (λ (n : ℕ). if o.area == a then size_with_slots n else 0) (length-set o.slots slot value)

hidden_kept : (values : List Value) (o : Object) → length values ≤ length o.slots → (a : ℕ) →
    bytes_in a (with_first values o) ≡ bytes_in a o
hidden_kept values o l a =
    let n : length (values ++ drop (length values) o.slots) ≡ length o.slots =
    omega (arith, l, length-append values (drop (length values) o.slots), length-drop (length values) o.slots) in
    ap (λ (n : ℕ). if o.area == a then size_with_slots n else 0) n

goes_changed : (s t : State) (job : Job) (activity : Activity) (f : Frame) (below : List Frame) → StaysSame s t →
    GoesOn s (with_frame t job activity f below)
goes_changed s t job activity f below g = goes_same s _ (same_then_same s t _ g (same_active t job _))

goes_applied : (code : Code) (s : State) (job : Job) (activity : Activity) (below : List Frame) (position : Position)
    (effect : Effect) →
    IsSituated s.areas s.objects effect →
    GoesIf s (applied code s job activity below position effect)
unfolding applied
goes_applied code s job activity below position (Goes f) m = some_goes s _ (goes_same s _ (same_active s job _))
goes_applied code s job activity below position (Prints f label value) m =
    some_goes s _ (goes_same s _ (same_active s job _))
goes_applied code s job activity below position (Makes f class slots) m =
    some_goes s _
    (goes_allocating s job activity position class f.area slots _ m (λ t r. same_active t job _))
goes_applied code s job activity below position (Stores f r slot value) m =
    some_goes s _
    (goes_changed s _ job activity f below
    (same_changed s _ (λ (o : Object). record o { slots = slice_set o.slots slot value }) r refl refl
    (λ o there a. slot_kept slot value o a)))
goes_applied code s job activity below position (StoresStatic f k value) m =
    some_goes s _ (goes_changed s _ job activity f below (unchanged s _ refl refl))
goes_applied code s job activity below position (SetsHidden f r values) m =
    some_goes s _
    (goes_changed s _ job activity f below
    (same_changed s _ (with_first values) r refl refl (λ o there a. hidden_kept values o (m o there) a)))
goes_applied code s job activity below position (SetsCeiling f r ceiling) m =
    either_goes s (is_sequencer job) _ _
    (some_goes s _
    (goes_changed s _ job activity f below
    (same_changed s _ (with_ceiling ceiling) r refl refl (λ o there a. refl))))
    (some_goes s _ (faulted s job activity position _))
goes_applied code s job activity below position (Calls f g) m =
    some_goes s _ (goes_still s _ (still_called code s job activity (f ∷ below) position g))
goes_applied code s job activity below position (Opens f g scope bytes) m =
    some_goes s _ (goes_opened s job activity (f ∷ below) position g scope bytes)
goes_applied code s job activity below position (Leaves f value) m =
    some_goes s _ (goes_still s _ (still_left s job activity f below value))
goes_applied code s job activity below position (AsksRegistration f r) m =
    mapped_goes s (object_at s r) _ (λ o.
    goes_still s _ (still_registered code s job activity position r o (with_frame s job activity f below)
    (same_active s job _)))
goes_applied code s job activity below position (AsksRelease f r) m =
    some_goes s _
    (goes_same s _ (same_then_same s (with_frame s job activity f below) _ (same_active s job _)
    (same_released (with_frame s job activity f below) r)))
goes_applied code s job activity below position (AsksTermination f r) m =
    some_goes s _
    (goes_same s _ (same_then_same s (with_frame s job activity f below) _ (same_active s job _)
    (same_asked (with_frame s job activity f below) r)))
goes_applied code s job activity below position (Faults fault) m = some_goes s _ (faulted s job activity position fault)
goes_applied code s job activity below position Stuck m = none_goes s

-- ---- operations of jobs

abbrev pub Situated : Code → List ReadingRow → State → List Frame → Type 0
Situated code rows s frames =
    (f : Frame) (below : List Frame) (op : Op) (rest : List Op) → frames ≡ f ∷ below → f.rest ≡ op ∷ rest →
    IsSituated s.areas s.objects (effect_at code rows s f op rest)

goes_frame : (code : Code) (rows : List ReadingRow) (s : State) (job : Job) (activity : Activity) →
    Situated code rows s activity.frames → GoesIf s (frame_op code rows s job activity)
unfolding frame_op
goes_frame code rows s job activity m = go activity.frames m
  where
    act : (f : Frame) (below : List Frame) (ops : List Op) →
        ((op : Op) (rest : List Op) → ops ≡ op ∷ rest → IsSituated s.areas s.objects (effect_at code rows s f op rest)) →
        GoesIf s (elim ops [
          | [] ↦ None
          | op ∷ rest ↦ applied code s job activity below (position_of_op code op) (effect_at code rows s f op rest)
        ])
    act f below [] k = none_goes s
    act f below (op ∷ rest) k =
        goes_applied code s job activity below (position_of_op code op) (effect_at code rows s f op rest) (k op rest refl)

    go : (fs : List Frame) → Situated code rows s fs →
        GoesIf s (elim fs [
          | [] ↦ None
          | f ∷ below ↦ elim f.rest [
            | [] ↦ None
            | op ∷ rest ↦ applied code s job activity below (position_of_op code op) (effect_at code rows s f op rest)
          ]
        ])
    go [] k = none_goes s
    go (f ∷ below) k = act f below f.rest (λ op rest e. k f below op rest refl e)

goes_start : (code : Code) (s : State) (index : ℕ) (r : Release) → GoesIf s (start_op code s index r)
unfolding start_op started_with
goes_start code s index r =
    bind_goes s (handler_row s.registry r.handler) _ (λ row _.
    bind_goes s (defined_by_chain code.program row.class) _ (λ scope _.
    bind_goes s (body_named code.program row.class (codes "handleAsyncEvent")) _ (λ body _.
    some_goes s _
    (goes_opening s (ReleaseAt index) no_activity (class_position code.program row.class) scope
    (innermost s.activity.areas) row.bytes _ (λ t a. same_active t (ReleaseAt index) _)))))

goes_release : (code : Code) (rows : List ReadingRow) (s : State) (index : ℕ) (r : Release) →
    ((activity : Activity) → activity_in r.status ≡ Some activity → Situated code rows s activity.frames) →
    GoesIf s (release_op_of code rows s index r)
unfolding release_op_of activity_in
goes_release code rows s index r m = go r.status m
  where
    go : (p : ReleaseStatus) →
        ((activity : Activity) → activity_in p ≡ Some activity → Situated code rows s activity.frames) →
        GoesIf s (elim p [
          | Waits ↦ start_op code s index r
          | Started activity ↦ frame_op code rows s (ReleaseAt index) activity
          | Ended ↦ None
          | Dropped ↦ None
        ])
    go Waits k = goes_start code s index r
    go (Started activity) k = goes_frame code rows s (ReleaseAt index) activity (k activity refl)
    go Ended k = none_goes s
    go Dropped k = none_goes s

-- a release that is there, in a state in which all operations are situated
pub goes_ref_op : (code : Code) (rows : List ReadingRow) (s : State) (index : ℕ) →
    ((activity : Activity) → activity_of s (ReleaseAt index) ≡ Some activity → Situated code rows s activity.frames) →
    GoesIf s (ref_op code rows s (ReleaseAt index))
unfolding ref_op activity_of
goes_ref_op code rows s index m =
    bind_goes s (slice_get s.releases index) _ (λ r there.
    goes_release code rows s index r (λ activity e. m activity
    (ap (λ (o : Option Release). o >>= (λ (r : Release). activity_in r.status)) there ∙ e)))

-- ---- the sequencer

goes_body : (code : Code) (s : State) (r : ℕ) (body : Body) → GoesIf s (body_called code s r body)
unfolding body_called
goes_body code s r body =
    bind_goes s (innermost s.activity.areas) _ (λ area _. some_goes s _ (goes_same s _ (unchanged s _ refl refl)))

goes_method : (code : Code) (s : State) (r : ℕ) (name : List ℕ) → GoesIf s (method_called code s r name)
goes_method code s r name =
    bind_goes s (object_at s r) _ (λ o _.
    bind_goes s (body_named code.program o.class name) _ (λ body _. goes_body code s r body))

goes_area : (s : State) (position : Position) (scope bytes : ℕ) → GoesTo s (area_opened s position scope bytes)
unfolding area_opened
goes_area s position scope bytes =
    goes_opening s TheSequencer s.activity position scope (innermost s.activity.areas) bytes _
    (λ t a. unchanged t _ refl refl)

goes_safelet : (code : Code) (s : State) (position : Position) (class area : ℕ) → is_open_area s area ≡ true →
    GoesTo s (safelet_made code s position class area)
unfolding safelet_made
goes_safelet code s position class area is_open =
    goes_allocating s TheSequencer s.activity position class area (new_slots code.program class) _ is_open
    (λ t r. unchanged t _ refl refl)

among_here : (a : ℕ) (areas : List ℕ) → is_among a (a ∷ areas) ≡ true
among_here a areas =
    let t : (a == a) ≡ true = grind (arith, nat_tests) in
    ap (λ (b : Bool). b || is_among a areas) t

among_first : (areas : List ℕ) (a : ℕ) → innermost areas ≡ Some a → is_among a areas ≡ true
unfolding innermost
among_first [] a e = absurd (cc (e))
among_first (b ∷ areas) a e =
    let same : b ≡ a = ap (λ (o : Option ℕ). unwrap_or o b) e in
    subst (λ (c : ℕ). is_among c (b ∷ areas) ≡ true) same (among_here b areas)

goes_sequencer_op : (code : Code) (s : State) (op : SeqOp) →
    ((a : ℕ) → is_among a s.activity.areas ≡ true → is_open_area s a ≡ true) → GoesIf s (sequencer_op code s op)
unfolding sequencer_op
goes_sequencer_op code s OpenImmortal m =
    bind_goes s (safelet_class code.program) _ (λ class _.
    bind_goes s (size_of code.program class) _ (λ bytes _.
    some_goes s _ (goes_area s (class_position code.program class) immortal_scope bytes)))
goes_sequencer_op code s AllocSafelet m =
    bind_goes s (safelet_class code.program) _ (λ class _.
    bind_goes s (innermost s.activity.areas) _ (λ area e.
    some_goes s _
    (goes_safelet code s (class_position code.program class) class area
    (m area (among_first s.activity.areas area e)))))
goes_sequencer_op code s (ConstructSafelet r) m =
    bind_goes s (object_at s r) _ (λ o _.
    bind_goes s (constructor_body code.program o.class) _ (λ body _. goes_body code s r body))
goes_sequencer_op code s (InitializeApplication r) m = goes_method code s r (codes "initializeApplication")
goes_sequencer_op code s (GetSequencer r) m = goes_method code s r (codes "getSequencer")
goes_sequencer_op code s (GetNextMission r) m = goes_method code s r (codes "getNextMission")
goes_sequencer_op code s (OpenMission r) m =
    bind_goes s (object_at s r) _ (λ o _.
    bind_goes s (defined_by_chain code.program o.class) _ (λ scope _.
    bind_goes s (size_of code.program o.class) _ (λ bytes _.
    some_goes s _ (goes_area s (class_position code.program o.class) scope bytes))))
goes_sequencer_op code s (Initialize r) m = goes_method code s r (codes "initialize")
goes_sequencer_op code s (CleanUp r) m = goes_method code s r (codes "cleanUp")
goes_sequencer_op code s Execute m = none_goes s
goes_sequencer_op code s Finished m = none_goes s

pub goes_turn : (code : Code) (rows : List ReadingRow) (s : State) → AreSituated code rows s →
    GoesIf s (sequencer_turn code rows s)
unfolding sequencer_turn activity_of
goes_turn code rows s m = go s.activity.frames
  where
    go : (fs : List Frame) →
        GoesIf s (elim fs [
          | [] ↦ sequencer_op code s s.operation
          | f ∷ below ↦ frame_op code rows s TheSequencer s.activity
        ])
    go [] = goes_sequencer_op code s s.operation m.own
    go (f ∷ below) =
        goes_frame code rows s TheSequencer s.activity
        (λ f below op rest e r. m.jobs TheSequencer s.activity f below op rest refl e r)
