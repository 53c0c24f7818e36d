-- What an operation of a release does to the releases: of the others those that wait may be dropped, and new ones wait.
use Rattle.std.proofs.Common.{◌≡◌, ℕ, zero, suc, nat_lt, Bool, true, false, not, List, [], ◌∷◌, ◌++◌, length, map, ◌⊎◌, inl, inr, Option, Some, None, if◌then◌else◌, refl, sym, ap, ◌∙◌, subst}
use Rattle.std.specs.Prelude.{option_map, slice_get, slice_set, unwrap_or, is_some, codes}
use Rattle.scj_base.specs.declared.positions.Position.{Position}
use Rattle.scj_base.specs.declared.faults.RunFault.{RunFault}
use Rattle.scj_base.specs.declared.values.Value.{Value}
use Rattle.scj_rules.specs.Words.{◌>>=◌}
use Rattle.scj_rules.specs.ScopeRules.{defined_by_chain}
use Rattle.scj_rules.specs.Bodies.{body_named, class_position}
use Rattle.scj_model.specs.declared.operations.Op.{Op}
use Rattle.scj_model.specs.declared.plans.ReadingRow.{ReadingRow}
use Rattle.scj_model.specs.declared.events.Event.TheVariants.{Miss}
use Rattle.scj_model.specs.declared.plans.Fire.{Fire}
use Rattle.scj_model.specs.Code.{Code}
use Rattle.scj_model.specs.Plan.{Plan}
use Rattle.scj_model.specs.State.{Object, Frame, Activity, ReleaseStatus, Waits, Started, Ended, Dropped, Release, ReleaseAt, State, changed, with_status, with_activity, is_waiting, object_at, is_init, is_exec}
use Rattle.scj_model.specs.Registry.{most_handlers, handler_number, handler_row}
use Rattle.scj_model.specs.Memory.{closed, has_room, has_store_for, area_with_scope, with_area, with_object}
use Rattle.scj_model.specs.Steps.{Step, silently, reporting, for_each, closed_all, job_ended, fault_in, allocating, opening}
use Rattle.scj_model.specs.Effects.{Effect, Goes, Prints, Makes, Stores, StoresStatic, SetsHidden, SetsCeiling, Calls, Opens, Leaves, AsksRegistration, AsksRelease, AsksTermination, Faults, Stuck}
use Rattle.scj_model.specs.Apply.{is_full, called, opened_in, frame_left, waiting_of, most_waiting, takes_releases, release_taken, registered, released, termination, termination_asked, with_frame, applied, dropped_release, asks_for_end, ceiling_entered}
use Rattle.scj_model.specs.Sequencer.{innermost}
use Rattle.scj_model.specs.Arrivals.{executes_since, due_handlers, fired_handler, fired, arrivals, fired_at, fires_due}
use Rattle.scj_model.specs.Run.{frame_op, effect_at, position_of_op, start_op, started_with, no_activity, release_op_of, ref_op}
use Rattle.priority_laws.proofs.AreaLists.{number_cases, get_changed, get_changed_other}

-- ---- lists of releases

-- how the status of the release at a place may change where the release at another place acts
abbrev pub MayMove : ℕ → ℕ → ReleaseStatus → ReleaseStatus → Type 0
MayMove n q before after = (n ≡ q) ⊎ ((before ≡ after) ⊎ ((before ≡ Waits) × (after ≡ Dropped)))

move_then : (n q : ℕ) (a b c : ReleaseStatus) → MayMove n q a b → MayMove n q b c → MayMove n q a c
move_then n q a b c (inl e) k = inl e
move_then n q a b c h (inl e) = inl e
move_then n q a b c (inr (inl e)) (inr (inl f)) = inr (inl (e ∙ f))
move_then n q a b c (inr (inl e)) (inr (inr f)) = inr (inr (e ∙ f.0, f.1))
move_then n q a b c (inr (inr e)) (inr (inl f)) = inr (inr (e.0, sym f ∙ e.1))
move_then n q a b c (inr (inr e)) (inr (inr f)) = inr (inr (e.0, f.1))

-- the release at a place is that of before
pub record StandsYet (n q : ℕ) (r : Release) (after : List Release) : Type 0 where
  pub release : Release
  pub is_there : slice_get after q ≡ Some release
  pub handler : release.handler ≡ r.handler
  pub moves : MayMove n q r.status release.status

pub record GoTo (n : ℕ) (before after : List Release) : Type 0 where
  pub there : (q : ℕ) (r : Release) → slice_get before q ≡ Some r → StandsYet n q r after
  pub fresh : (q : ℕ) (r : Release) → slice_get before q ≡ None → slice_get after q ≡ Some r → r.status ≡ Waits

-- none is added
pub record Touch (n : ℕ) (before after : List Release) : Type 0 where
  pub there : (q : ℕ) (r : Release) → slice_get before q ≡ Some r → StandsYet n q r after
  pub none : (q : ℕ) → slice_get before q ≡ None → slice_get after q ≡ None

-- more wait at the end
abbrev pub AllWait : List Release → Type 0
AllWait [] = Unit {0}
AllWait (r ∷ rs) = (r.status ≡ Waits) × AllWait rs

pub record MoreWait (before after : List Release) : Type 0 where
  pub more : List Release
  pub is : after ≡ before ++ more
  pub wait : AllWait more

stands_same : (n q : ℕ) (r : Release) (rs : List Release) → slice_get rs q ≡ Some r → StandsYet n q r rs
stands_same n q r rs e = record { release = r; is_there = e; handler = refl; moves = inr (inl refl) }

pub touch_same : (n : ℕ) (rs : List Release) → Touch n rs rs
touch_same n rs = record { there = λ q r e. stands_same n q r rs e; none = λ q e. e }

pub touch_goes : (n : ℕ) (rs ts : List Release) → Touch n rs ts → GoTo n rs ts
touch_goes n rs ts h =
    record { there = h.there; fresh = λ q r e f. absurd (cc (h.none q e, f)) }

stands_then : (n q : ℕ) (r : Release) (bs cs : List Release) → (s : StandsYet n q r bs) →
    StandsYet n q s.release cs → StandsYet n q r cs
stands_then n q r bs cs s t =
    record {
      release = t.release;
      is_there = t.is_there;
      handler = t.handler ∙ s.handler;
      moves = move_then n q r.status s.release.status t.release.status s.moves t.moves;
    }

pub touch_then : (n : ℕ) (rs bs cs : List Release) → Touch n rs bs → GoTo n bs cs → GoTo n rs cs
touch_then n rs bs cs h k =
    record {
      there = λ q r e. (let s : StandsYet n q r bs = h.there q r e in
          stands_then n q r bs cs s (k.there q s.release s.is_there));
      fresh = λ q r e f. k.fresh q r (h.none q e) f;
    }

pub touch_changed : (n : ℕ) (status : ReleaseStatus) (rs : List Release) →
    Touch n rs (changed (λ (r : Release). record r { status = status }) n rs)
touch_changed n status rs = record { there = λ q r e. there q r e (number_cases n q); none = λ q e. none q e (number_cases n q) }
  where
    f : Release → Release
    f r = record r { status = status }

    there : (q : ℕ) (r : Release) → slice_get rs q ≡ Some r → (n ≡ q) ⊎ (n ≡ q → ⊥) → StandsYet n q r (changed (λ (r : Release). record r { status = status }) n rs)
    there q r e (inl same) =
        record {
          release = f r;
          is_there = subst (λ k. slice_get (changed f n rs) k ≡ Some (f r)) same (get_changed f n rs r (ap (slice_get rs) same ∙ e));
          handler = refl;
          moves = inl same;
        }
    there q r e (inr other) =
        record {
          release = r;
          is_there = get_changed_other f n q rs other ∙ e;
          handler = refl;
          moves = inr (inl refl);
        }

    gone : slice_get rs n ≡ None → changed f n rs ≡ rs
    gone e =
        ap (λ (o : Option Release). elim o as (λ z. List Release) [ None ↦ rs | Some x ↦ slice_set rs n (f x) ]) e

    none : (q : ℕ) → slice_get rs q ≡ None → (n ≡ q) ⊎ (n ≡ q → ⊥) → slice_get (changed (λ (r : Release). record r { status = status }) n rs) q ≡ None
    none q e (inr other) = get_changed_other f n q rs other ∙ e
    none q e (inl same) = ap (λ xs. slice_get xs q) (gone (ap (slice_get rs) same ∙ e)) ∙ e

-- the list with more that wait
pub get_more : (rs more : List Release) (q : ℕ) (r : Release) → slice_get rs q ≡ Some r → slice_get (rs ++ more) q ≡ Some r
get_more [] more q r e = absurd (cc (e))
get_more (x ∷ rs) more zero r e = e
get_more (x ∷ rs) more (suc q) r e = get_more rs more q r e

get_waiting : (more : List Release) (q : ℕ) (r : Release) → AllWait more → slice_get more q ≡ Some r → r.status ≡ Waits
get_waiting [] q r h e = absurd (cc (e))
get_waiting (x ∷ more) zero r h e = sym (ap (λ (o : Option Release). (unwrap_or o x).status) e) ∙ h.0
get_waiting (x ∷ more) (suc q) r h e = get_waiting more q r h.1 e

get_new : (rs more : List Release) (q : ℕ) (r : Release) → AllWait more → slice_get rs q ≡ None →
    slice_get (rs ++ more) q ≡ Some r → r.status ≡ Waits
get_new [] more q r h n e = get_waiting more q r h e
get_new (x ∷ rs) more zero r h n e = absurd (cc (n))
get_new (x ∷ rs) more (suc q) r h n e = get_new rs more q r h n e

pub more_goes : (n : ℕ) (rs ts : List Release) → MoreWait rs ts → GoTo n rs ts
more_goes n rs ts h =
    subst (λ xs. GoTo n rs xs) (sym h.is)
    (record {
      there = λ q r e. record {
        release = r;
        is_there = get_more rs h.more q r e;
        handler = refl;
        moves = inr (inl refl);
      };
      fresh = λ q r e f. get_new rs h.more q r h.wait e f;
    })

all_wait_both : (ds bs : List Release) → AllWait ds → AllWait bs → AllWait (ds ++ bs)
all_wait_both [] bs h k = k
all_wait_both (a ∷ ds) bs h k = (h.0, all_wait_both ds bs h.1 k)

append_none : (rs : List Release) → rs ≡ rs ++ []
append_none [] = refl
append_none (r ∷ rs) = ap (λ xs. r ∷ xs) (append_none rs)

append_both : (rs ds bs : List Release) → (rs ++ ds) ++ bs ≡ rs ++ (ds ++ bs)
append_both [] ds bs = refl
append_both (r ∷ rs) ds bs = ap (λ xs. r ∷ xs) (append_both rs ds bs)

pub wait_same : (rs : List Release) → MoreWait rs rs
wait_same rs = record { more = []; is = append_none rs; wait = tt }

pub wait_then : (rs bs cs : List Release) → MoreWait rs bs → MoreWait bs cs → MoreWait rs cs
wait_then rs bs cs h k =
    record {
      more = h.more ++ k.more;
      is = k.is ∙ (ap (λ xs. xs ++ k.more) h.is ∙ append_both rs h.more k.more);
      wait = all_wait_both h.more k.more h.wait k.wait;
    }

-- the waiting ones are dropped
get_mapped : (f : Release → Release) (rs : List Release) (q : ℕ) (r : Release) → slice_get rs q ≡ Some r →
    slice_get (map f rs) q ≡ Some (f r)
get_mapped f [] q r e = absurd (cc (e))
get_mapped f (x ∷ rs) zero r e = ap (λ (o : Option Release). Some (f (unwrap_or o x))) e
get_mapped f (x ∷ rs) (suc q) r e = get_mapped f rs q r e

none_mapped : (f : Release → Release) (rs : List Release) (q : ℕ) → slice_get rs q ≡ None → slice_get (map f rs) q ≡ None
none_mapped f [] q e = refl
none_mapped f (x ∷ rs) zero e = absurd (cc (e))
none_mapped f (x ∷ rs) (suc q) e = none_mapped f rs q e

dropped_handler : (r : Release) → (dropped_release r).handler ≡ r.handler
unfolding dropped_release
dropped_handler r = go (is_waiting r.status)
  where
    go : (b : Bool) → (if b then record r { status = Dropped } else r).handler ≡ r.handler
    go true = refl
    go false = refl

drop_moves : (n q : ℕ) (r : Release) → MayMove n q r.status (dropped_release r).status
unfolding dropped_release is_waiting
drop_moves n q r = go r.handler r.number r.status
  where
    go : (h k : ℕ) (status : ReleaseStatus) →
        MayMove n q status (dropped_release (record { handler = h; number = k; status = status })).status
    go h k Waits = inr (inr (refl, refl))
    go h k (Started a) = inr (inl refl)
    go h k Ended = inr (inl refl)
    go h k Dropped = inr (inl refl)

pub touch_dropped : (n : ℕ) (rs : List Release) → Touch n rs (map dropped_release rs)
touch_dropped n rs =
    record {
      there = λ q r e. record {
        release = dropped_release r;
        is_there = get_mapped dropped_release rs q r e;
        handler = dropped_handler r;
        moves = drop_moves n q r;
      };
      none = λ q e. none_mapped dropped_release rs q e;
    }

-- ---- operations of a release

-- of the releases those at other places stay, and the mission is the same
pub record OneActs (n : ℕ) (s t : State) : Type 0 where
  pub releases : GoTo n s.releases t.releases
  pub earlier : t.earlier_releases ≡ s.earlier_releases

-- memory alone is another one
pub record IsBeside (s t : State) : Type 0 where
  pub releases : t.releases ≡ s.releases
  pub earlier : t.earlier_releases ≡ s.earlier_releases

beside_same : (s : State) → IsBeside s s
beside_same s = record { releases = refl; earlier = refl }

beside_then : (s t u : State) → IsBeside s t → IsBeside t u → IsBeside s u
beside_then s t u h k = record { releases = k.releases ∙ h.releases; earlier = k.earlier ∙ h.earlier }

beside_acts : (n : ℕ) (s t : State) → IsBeside s t → OneActs n s t
beside_acts n s t h =
    record {
      releases = subst (λ xs. GoTo n s.releases xs) (sym h.releases) (touch_goes n s.releases s.releases (touch_same n s.releases));
      earlier = h.earlier;
    }

touched : (n : ℕ) (s t : State) (status : ReleaseStatus) → IsBeside s t → Touch n s.releases (with_status t n status).releases
touched n s t status h =
    subst (λ xs. Touch n s.releases (changed (λ (r : Release). record r { status = status }) n xs)) (sym h.releases)
    (touch_changed n status s.releases)

-- the release has another status
gets : (n : ℕ) (s t : State) (status : ReleaseStatus) → IsBeside s t → OneActs n s (with_status t n status)
gets n s t status h =
    record { releases = touch_goes n s.releases (with_status t n status).releases (touched n s t status h); earlier = h.earlier }

beside_closed : (s : State) (a : Option ℕ) → IsBeside s (closed s a)
unfolding closed
beside_closed s None = record { releases = refl; earlier = refl }
beside_closed s (Some a) = record { releases = refl; earlier = refl }

beside_closed_all : (s : State) (fs : List Frame) → IsBeside s (closed_all s fs)
unfolding closed_all
beside_closed_all s [] = beside_same s
beside_closed_all s (f ∷ fs) = beside_then s (closed s f.opened) (closed_all (closed s f.opened) fs) (beside_closed s f.opened) (beside_closed_all (closed s f.opened) fs)

abbrev Acts : ℕ → State → Step → Type 0
Acts n s r = OneActs n s r.state

acts_if : (n : ℕ) (s : State) (b : Bool) (x y : Step) → Acts n s x → Acts n s y → Acts n s (if b then x else y)
acts_if n s true x y h k = h
acts_if n s false x y h k = k

acts_option : {A : Type 0} (n : ℕ) (s : State) (o : Option A) (x : Step) (f : A → Step) → Acts n s x → ((a : A) → Acts n s (f a)) → Acts n s (elim o [ None ↦ x | Some a ↦ f a ])
acts_option n s None x f h k = h
acts_option n s (Some a) x f h k = k a

acts_fault : (s : State) (n : ℕ) (activity : Activity) (position : Position) (fault : RunFault) → Acts n s (fault_in s (ReleaseAt n) activity position fault)
unfolding fault_in
acts_fault s n activity position fault = gets n s (closed_all s activity.frames) Ended (beside_closed_all s activity.frames)

acts_called : (code : Code) (s : State) (n : ℕ) (activity : Activity) (frames : List Frame) (position : Position) (g : Frame) → Acts n s (called code s (ReleaseAt n) activity frames position g)
unfolding called with_activity
acts_called code s n activity frames position g =
    acts_if n s (is_full frames) _ _ (acts_fault s n activity position _)
    (acts_option n s (ceiling_entered code s g) _ _ (gets n s s _ (beside_same s))
    (λ ceiling. acts_if n s (nat_lt ceiling activity.priority) _ _ (acts_fault s n activity position _) (gets n s s _ (beside_same s))))

acts_opening : (s : State) (n : ℕ) (activity : Activity) (position : Position) (scope : ℕ) (parent : Option ℕ) (bytes : ℕ) (next : State → ℕ → Step) → ((t : State) (a : ℕ) → IsBeside s t → Acts n s (next t a)) → Acts n s (opening s (ReleaseAt n) activity position scope parent bytes next)
unfolding opening
acts_opening s n activity position scope parent bytes next h =
    acts_if n s (has_store_for s bytes) _ _ (h (with_area s scope parent bytes) (length s.areas) (record { releases = refl; earlier = refl }))
    (acts_fault s n activity position _)

acts_allocating : (s : State) (n : ℕ) (activity : Activity) (position : Position) (class area : ℕ) (slots : List Value) (next : State → ℕ → Step) → ((t : State) (r : ℕ) → IsBeside s t → Acts n s (next t r)) → Acts n s (allocating s (ReleaseAt n) activity position class area slots next)
unfolding allocating
acts_allocating s n activity position class area slots next h =
    acts_if n s (has_room s area (length slots)) _ _ (h (with_object s class area slots) (length s.objects) (record { releases = refl; earlier = refl }))
    (acts_fault s n activity position _)

acts_opened : (s : State) (n : ℕ) (activity : Activity) (frames : List Frame) (position : Position) (g : Frame) (scope bytes : ℕ) → Acts n s (opened_in s (ReleaseAt n) activity frames position g scope bytes)
unfolding opened_in with_activity
acts_opened s n activity frames position g scope bytes =
    acts_if n s (is_some (area_with_scope s scope activity.areas)) _ _ (acts_fault s n activity position _)
    (acts_if n s (is_full frames) _ _ (acts_fault s n activity position _)
    (acts_opening s n activity position scope (Some g.area) bytes _ (λ t a k. gets n s t _ k)))

acts_left : (s : State) (n : ℕ) (activity : Activity) (f : Frame) (below : List Frame) (value : Option Value) → Acts n s (frame_left s (ReleaseAt n) activity f below value)
unfolding frame_left job_ended with_activity
acts_left s n activity f below value = go _ below
  where
    c : IsBeside s (closed s f.opened)
    c = beside_closed s f.opened

    go : (a : Activity) (fs : List Frame) → Acts n s (elim fs [ [] ↦ job_ended (closed s f.opened) (ReleaseAt n) a value | g ∷ gs ↦ silently (with_activity (closed s f.opened) (ReleaseAt n) a) ])
    go a [] = gets n s (closed s f.opened) Ended c
    go a (g ∷ gs) = gets n s (closed s f.opened) (Started a) c

-- a release more waits, or none
record Grows (s t : State) : Type 0 where
  releases : MoreWait s.releases t.releases
  earlier : t.earlier_releases ≡ s.earlier_releases

grows_same : (s : State) → Grows s s
grows_same s = record { releases = wait_same s.releases; earlier = refl }

grows_if : (s : State) (b : Bool) (x y : Step) → Grows s x.state → Grows s y.state → Grows s (if b then x else y).state
grows_if s true x y h k = h
grows_if s false x y h k = k

grows_taken : (s : State) (handler : ℕ) → Grows s (release_taken s handler).state
unfolding release_taken
grows_taken s handler =
    grows_if s (not (nat_lt (length (waiting_of s handler)) most_waiting)) _ _ (grows_same s)
    (record { releases = record { more = _; is = refl; wait = (refl, tt) }; earlier = refl })

grows_released : (s : State) (r : ℕ) → Grows s (released s r).state
unfolding released
grows_released s r = grows_if s (takes_releases s) _ _ (go (handler_number s.registry r)) (grows_same s)
  where
    go : (o : Option ℕ) → Grows s (elim o as (λ z. Step) [ None ↦ silently s | Some handler ↦ release_taken s handler ]).state
    go None = grows_same s
    go (Some handler) = grows_taken s handler

record Drops (n : ℕ) (s t : State) : Type 0 where
  releases : GoTo n s.releases t.releases
  earlier : t.earlier_releases ≡ s.earlier_releases

acts_asked : (n : ℕ) (s : State) (r : ℕ) → Acts n s (termination_asked s r)
unfolding termination_asked termination
acts_asked n s r =
    acts_if n s (asks_for_end s.mission s.phase s.is_end_asked r) _ _
    (acts_if n s (is_exec s.phase) _ _
    (record { releases = touch_goes n s.releases (map dropped_release s.releases) (touch_dropped n s.releases); earlier = refl })
    (beside_acts n s (record s { is_end_asked = true }) (record { releases = refl; earlier = refl })))
    (beside_acts n s s (beside_same s))

-- first the release has another status
then_acts : (n : ℕ) (s t : State) (status : ReleaseStatus) → OneActs n (with_status s n status) t → OneActs n s t
then_acts n s t status k =
    record {
      releases = touch_then n s.releases (with_status s n status).releases t.releases
          (touched n s s status (beside_same s)) k.releases;
      earlier = k.earlier;
    }

acts_registered : (code : Code) (s : State) (n : ℕ) (activity : Activity) (position : Position) (r : ℕ) (o : Object) (after : State) → OneActs n s after → Acts n s (registered code s (ReleaseAt n) activity position r o after)
unfolding registered
acts_registered code s n activity position r o after a =
    acts_if n s (not (is_init s.phase)) _ _ (acts_fault s n activity position _)
    (acts_if n s (is_some (handler_number s.registry r)) _ _ a
    (acts_if n s (not (nat_lt (length s.registry) most_handlers)) _ _ (acts_fault s n activity position _)
    (record { releases = a.releases; earlier = a.earlier })))

pub record ActsIf (n : ℕ) (s : State) (o : Option Step) : Type 0 where
  pub is : (r : Step) → o ≡ Some r → Acts n s r

some_same : (a b : Step) → Some a ≡ Some b → a ≡ b
some_same a b e = ap (λ (o : Option Step). unwrap_or o a) e

acts_some : (n : ℕ) (s : State) (r : Step) → Acts n s r → ActsIf n s (Some r)
acts_some n s r h = record { is = λ q e. subst (λ (x : Step). Acts n s x) (some_same r q e) h }

acts_none : (n : ℕ) (s : State) → ActsIf n s None
acts_none n s = record { is = λ q e. absurd (cc (e)) }

acts_bind : {A : Type 0} (n : ℕ) (s : State) (o : Option A) (f : A → Option Step) → ((a : A) → ActsIf n s (f a)) → ActsIf n s (o >>= f)
acts_bind n s None f h = acts_none n s
acts_bind n s (Some a) f h = h a

acts_mapped : {A : Type 0} (n : ℕ) (s : State) (o : Option A) (f : A → Step) → ((a : A) → Acts n s (f a)) → ActsIf n s (option_map f o)
acts_mapped n s None f h = acts_none n s
acts_mapped n s (Some a) f h = acts_some n s (f a) (h a)

acts_applied : (code : Code) (s : State) (n : ℕ) (activity : Activity) (below : List Frame) (position : Position) (effect : Effect) → ActsIf n s (applied code s (ReleaseAt n) activity below position effect)
unfolding applied with_activity
acts_applied code s n activity below position (Goes f) = acts_some n s _ (gets n s s _ (beside_same s))
acts_applied code s n activity below position (Prints f label value) = acts_some n s _ (gets n s s _ (beside_same s))
acts_applied code s n activity below position (Makes f class slots) =
    acts_some n s _ (acts_allocating s n activity position class f.area slots _ (λ t r k. gets n s t _ k))
acts_applied code s n activity below position (Stores f r slot value) =
    acts_some n s _ (gets n s (record s { objects = _ }) _ (record { releases = refl; earlier = refl }))
acts_applied code s n activity below position (StoresStatic f k value) =
    acts_some n s _ (gets n s (record s { statics = _ }) _ (record { releases = refl; earlier = refl }))
acts_applied code s n activity below position (SetsHidden f r values) =
    acts_some n s _ (gets n s (record s { objects = _ }) _ (record { releases = refl; earlier = refl }))
acts_applied code s n activity below position (SetsCeiling f r ceiling) = acts_some n s _ (acts_fault s n activity position _)
acts_applied code s n activity below position (Calls f g) = acts_some n s _ (acts_called code s n activity (f ∷ below) position g)
acts_applied code s n activity below position (Opens f g scope bytes) = acts_some n s _ (acts_opened s n activity (f ∷ below) position g scope bytes)
acts_applied code s n activity below position (Leaves f value) = acts_some n s _ (acts_left s n activity f below value)
acts_applied code s n activity below position (AsksRegistration f r) =
    acts_mapped n s (object_at s r) _ (λ o. acts_registered code s n activity position r o (with_frame s (ReleaseAt n) activity f below) (gets n s s _ (beside_same s)))
acts_applied code s n activity below position (AsksRelease f r) =
    let t : State = with_frame s (ReleaseAt n) activity f below in
    let k : Grows t (released t r).state = grows_released t r in
    acts_some n s _ (then_acts n s (released t r).state (Started (record activity { frames = f ∷ below }))
    (record { releases = more_goes n t.releases (released t r).state.releases k.releases; earlier = k.earlier }))
acts_applied code s n activity below position (AsksTermination f r) =
    let t : State = with_frame s (ReleaseAt n) activity f below in
    acts_some n s _ (then_acts n s (termination_asked t r).state (Started (record activity { frames = f ∷ below })) (acts_asked n t r))
acts_applied code s n activity below position (Faults fault) = acts_some n s _ (acts_fault s n activity position fault)
acts_applied code s n activity below position Stuck = acts_none n s

acts_frame : (code : Code) (rows : List ReadingRow) (s : State) (n : ℕ) (activity : Activity) → ActsIf n s (frame_op code rows s (ReleaseAt n) activity)
unfolding frame_op
acts_frame code rows s n activity = go activity.frames
  where
    act : (f : Frame) (below : List Frame) (ops : List Op) → ActsIf n s (elim ops [ [] ↦ None | op ∷ rest ↦ applied code s (ReleaseAt n) activity below (position_of_op code op) (effect_at code rows s f op rest) ])
    act f below [] = acts_none n s
    act f below (op ∷ rest) = acts_applied code s n activity below (position_of_op code op) (effect_at code rows s f op rest)

    go : (fs : List Frame) → ActsIf n s (elim fs [ [] ↦ None | f ∷ below ↦ elim f.rest [ [] ↦ None | op ∷ rest ↦ applied code s (ReleaseAt n) activity below (position_of_op code op) (effect_at code rows s f op rest) ] ])
    go [] = acts_none n s
    go (f ∷ below) = act f below f.rest

acts_start : (code : Code) (s : State) (index : ℕ) (r : Release) → ActsIf index s (start_op code s index r)
unfolding start_op started_with with_activity
acts_start code s index r =
    acts_bind index s (handler_row s.registry r.handler) _ (λ row. acts_bind index s (defined_by_chain code.program row.class) _ (λ scope.
    acts_bind index s (body_named code.program row.class (codes "handleAsyncEvent")) _ (λ body.
    acts_some index s _ (acts_opening s index no_activity (class_position code.program row.class) scope (innermost s.activity.areas) row.bytes _
    (λ t a k. gets index s t _ k)))))

acts_release : (code : Code) (rows : List ReadingRow) (s : State) (index : ℕ) (r : Release) → ActsIf index s (release_op_of code rows s index r)
unfolding release_op_of
acts_release code rows s index r = go r.status
  where
    go : (p : ReleaseStatus) → ActsIf index s (elim p [ Waits ↦ start_op code s index r | Started activity ↦ frame_op code rows s (ReleaseAt index) activity | Ended ↦ None | Dropped ↦ None ])
    go Waits = acts_start code s index r
    go (Started activity) = acts_frame code rows s index activity
    go Ended = acts_none index s
    go Dropped = acts_none index s

-- the operation of a release leaves the others, but that waiting ones may be dropped and more wait
pub acts_ref_op : (code : Code) (rows : List ReadingRow) (s : State) (n : ℕ) → ActsIf n s (ref_op code rows s (ReleaseAt n))
unfolding ref_op
acts_ref_op code rows s n = acts_bind n s (slice_get s.releases n) _ (λ r. acts_release code rows s n r)

-- ---- arrivals

grows_then : (s t u : State) → Grows s t → Grows t u → Grows s u
grows_then s t u h k =
    record { releases = wait_then s.releases t.releases u.releases h.releases k.releases; earlier = k.earlier ∙ h.earlier }

grows_each : {A : Type 0} (step : State → A → Step) → ((s : State) (x : A) → Grows s (step s x).state) →
    (xs : List A) (s : State) → Grows s (for_each step xs s).state
unfolding for_each
grows_each step q [] s = grows_same s
grows_each step q (x ∷ xs) s = grows_then s (step s x).state _ (q s x) (grows_each step q xs (step s x).state)

grows_fired : (code : Code) (s : State) (fire : Fire) → Grows s (fired code s fire).state
unfolding fired
grows_fired code s fire = go (fired_handler code s fire.handler)
  where
    go : (h : Option ℕ) →
        Grows s
        (elim h as (λ x. Step) [
          | Some handler ↦ release_taken s handler
          | None ↦ reporting s (Miss s.unit fire.handler ∷ [])
        ]).state
    go None = grows_same s
    go (Some handler) = grows_taken s handler

grows_fired_at : (code : Code) (fires : List Fire) (s : State) (index : ℕ) → Grows s (fired_at code fires s index).state
grows_fired_at code fires s index = go (slice_get fires index)
  where
    go : (o : Option Fire) → Grows s (elim o as (λ z. Step) [ None ↦ silently s | Some fire ↦ fired code s fire ]).state
    go None = grows_same s
    go (Some fire) = grows_fired code s fire

pub record Arrives (s t : State) : Type 0 where
  pub releases : MoreWait s.releases t.releases
  pub earlier : t.earlier_releases ≡ s.earlier_releases

pub arrives : (code : Code) (plan : Plan) (s : State) → Arrives s (arrivals code plan s).state
unfolding arrivals
arrives code plan s =
    let g : Grows s (arrivals code plan s).state =
    grows_then s (for_each release_taken (due_handlers s) s).state _
    (grows_each release_taken grows_taken (due_handlers s) s)
    (grows_each (fired_at code plan.fires) (grows_fired_at code plan.fires) (fires_due (executes_since s) s.unit plan.fires)
    (for_each release_taken (due_handlers s) s).state) in
    record { releases = g.releases; earlier = g.earlier }
