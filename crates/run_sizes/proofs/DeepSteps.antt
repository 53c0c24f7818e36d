-- The steps of which operations are made leave each job with few frames.
use Rattle.std.proofs.Common.{◌≡◌, ◌∙◌, ℕ, zero, suc, ◌<◌, ◌≤◌, nat_lt, Bool, true, false, not, List, [], ◌∷◌, ◌++◌, length, map, Option, Some, None, if◌then◌else◌, refl, ap, sym, subst, arith}
use Rattle.std.specs.Prelude.{slice_get, slice_set}
use Rattle.std.proofs.lemmas.Bool.Decides.{nat_tests}
use Rattle.scj_base.specs.declared.positions.Position.{Position}
use Rattle.scj_base.specs.declared.faults.RunFault.{RunFault}
use Rattle.scj_base.specs.declared.values.Value.{Value}
use Rattle.scj_model.specs.State.{Frame, Activity, Waits, Started, Ended, Dropped, Release, Job, TheSequencer, ReleaseAt, State, activity_in, changed, is_waiting, with_activity}
use Rattle.scj_model.specs.Memory.{closed, has_room, has_store_for, with_area, with_object}
use Rattle.scj_model.specs.Steps.{Step, allocating, closed_all, fault_in, job_ended, opening}
use Rattle.scj_model.specs.Apply.{dropped_release, is_full, returned, with_frame}

-- ---- the releases

abbrev pub RowIsFew : Release → Type 0
RowIsFew r = (a : Activity) → activity_in r.status ≡ Some a → length a.frames ≤ 64

abbrev pub RowsAreFew : List Release → Type 0
RowsAreFew [] = Unit {0}
RowsAreFew (r ∷ rs) = RowIsFew r × RowsAreFew rs

rows_set : (rs : List Release) (n : ℕ) (y : Release) → RowsAreFew rs → RowIsFew y → RowsAreFew (slice_set rs n y)
rows_set [] n y h k = tt
rows_set (r ∷ rs) zero y h k = (k, h.1)
rows_set (r ∷ rs) (suc n) y h k = (h.0, rows_set rs n y h.1 k)

pub rows_changed : (f : Release → Release) (n : ℕ) (rs : List Release) → RowsAreFew rs →
    ((x : Release) → RowIsFew (f x)) → RowsAreFew (changed f n rs)
rows_changed f n rs h k = go (slice_get rs n)
  where
    go : (o : Option Release) →
        RowsAreFew (elim o as (λ z. List Release) [ None ↦ rs | Some x ↦ slice_set rs n (f x) ])
    go None = h
    go (Some x) = rows_set rs n (f x) h (k x)

pub rows_more : (rs : List Release) (y : Release) → RowsAreFew rs → RowIsFew y → RowsAreFew (rs ++ y ∷ [])
rows_more [] y h k = (k, tt)
rows_more (r ∷ rs) y h k = (h.0, rows_more rs y h.1 k)

pub rows_got : (rs : List Release) (n : ℕ) (r : Release) → RowsAreFew rs → slice_get rs n ≡ Some r → RowIsFew r
rows_got [] n r h e = absurd (cc)
rows_got (x ∷ rs) zero r h e = let same : x ≡ r = cc in subst (λ (y : Release). RowIsFew y) same h.0
rows_got (x ∷ rs) (suc n) r h e = rows_got rs n r h.1 e

row_waits : (r : Release) → r.status ≡ Waits → RowIsFew r
unfolding activity_in
row_waits r e a f = let none : None ≡ Some a = sym (ap activity_in e) ∙ f in absurd (cc)

pub row_ended : (r : Release) → RowIsFew (record r { status = Ended })
unfolding activity_in
row_ended r a e = absurd (cc)

pub row_started : (r : Release) (a : Activity) → length a.frames ≤ 64 → RowIsFew (record r { status = Started a })
unfolding activity_in
row_started r a h b e = let same : a ≡ b = cc in subst (λ (z : Activity). length z.frames ≤ 64) same h

pub new_waits : (handler number : ℕ) →
    RowIsFew (record { handler = handler; number = number; status = Waits })
new_waits handler number = row_waits (record { handler = handler; number = number; status = Waits }) refl

pub rows_dropped : (rs : List Release) → RowsAreFew rs → RowsAreFew (map dropped_release rs)
unfolding dropped_release activity_in
rows_dropped [] h = tt
rows_dropped (r ∷ rs) h = (go (is_waiting r.status), rows_dropped rs h.1)
  where
    go : (b : Bool) → RowIsFew (if b then record r { status = Dropped } else r)
    go true a e = absurd (cc)
    go false a e = h.0 a e

-- ---- a state

pub record FewFrames (s : State) : Type 0 where
  pub sequencer : length s.activity.frames ≤ 64
  pub releases : RowsAreFew s.releases

abbrev pub FewAfter : Step → Type 0
FewAfter r = FewFrames r.state

pub few_if : (b : Bool) (x y : Step) → (b ≡ true → FewAfter x) → (b ≡ false → FewAfter y) →
    FewAfter (if b then x else y)
few_if true x y h k = h refl
few_if false x y h k = k refl

pub few_option : {A : Type 0} (o : Option A) (x : Step) (f : A → Step) → FewAfter x → ((a : A) → FewAfter (f a)) →
    FewAfter (elim o [ None ↦ x | Some a ↦ f a ])
few_option None x f h k = h
few_option (Some a) x f h k = k a

pub few_active : (s : State) (job : Job) (a : Activity) → FewFrames s → length a.frames ≤ 64 →
    FewFrames (with_activity s job a)
unfolding with_activity
few_active s TheSequencer a h few = record { sequencer = few; releases = h.releases }
few_active s (ReleaseAt n) a h few =
    record {
      sequencer = h.sequencer;
      releases = rows_changed (λ (r : Release). record r { status = Started a }) n s.releases h.releases
          (λ r. row_started r a few);
    }

-- a frame on top of others
pub few_framed : (s : State) (job : Job) (activity : Activity) (f : Frame) (below : List Frame) → FewFrames s →
    length below < 64 → FewFrames (with_frame s job activity f below)
few_framed s job activity f below h few =
    let more : length (f ∷ below) ≤ 64 = omega (arith, few) in
    few_active s job (record activity { frames = f ∷ below }) h more

-- the first frame of a job
pub few_first : (s : State) (job : Job) (f : Frame) (areas : List ℕ) (priority : ℕ) → FewFrames s →
    FewFrames (with_activity s job (record { frames = f ∷ []; areas = areas; priority = priority }))
few_first s job f areas priority h =
    let one : length (f ∷ []) ≤ 64 = omega arith in
    few_active s job (record { frames = f ∷ []; areas = areas; priority = priority }) h one

few_closed : (s : State) (a : Option ℕ) → FewFrames s → FewFrames (closed s a)
unfolding closed
few_closed s None h = h
few_closed s (Some a) h = record { sequencer = h.sequencer; releases = h.releases }

few_closed_all : (s : State) (fs : List Frame) → FewFrames s → FewFrames (closed_all s fs)
unfolding closed_all
few_closed_all s [] h = h
few_closed_all s (f ∷ fs) h = few_closed_all (closed s f.opened) fs (few_closed s f.opened h)

few_ended_at : (s : State) (n : ℕ) → FewFrames s →
    RowsAreFew (changed (λ (r : Release). record r { status = Ended }) n s.releases)
few_ended_at s n h =
    rows_changed (λ (r : Release). record r { status = Ended }) n s.releases h.releases (λ r. row_ended r)

pub few_fault : (s : State) (job : Job) (activity : Activity) (position : Position) (fault : RunFault) → FewFrames s →
    FewAfter (fault_in s job activity position fault)
unfolding fault_in
few_fault s TheSequencer activity position fault h = record { sequencer = h.sequencer; releases = h.releases }
few_fault s (ReleaseAt n) activity position fault h =
    let k : FewFrames (closed_all s activity.frames) = few_closed_all s activity.frames h in
    record { sequencer = k.sequencer; releases = few_ended_at (closed_all s activity.frames) n k }

pub few_job_ended : (s : State) (job : Job) (activity : Activity) (value : Option Value) → FewFrames s →
    length activity.frames ≤ 64 → FewAfter (job_ended s job activity value)
unfolding job_ended
few_job_ended s TheSequencer activity value h few = record { sequencer = few; releases = h.releases }
few_job_ended s (ReleaseAt n) activity value h few =
    record { sequencer = h.sequencer; releases = few_ended_at s n h }

pub few_after_close : (s : State) (a : Option ℕ) → FewFrames s → FewFrames (closed s a)
few_after_close s a h = few_closed s a h

pub few_opening : (s : State) (job : Job) (activity : Activity) (position : Position) (scope : ℕ) (parent : Option ℕ)
    (bytes : ℕ) (next : State → ℕ → Step) → FewFrames s →
    ((t : State) (a : ℕ) → FewFrames t → FewAfter (next t a)) →
    FewAfter (opening s job activity position scope parent bytes next)
unfolding opening
few_opening s job activity position scope parent bytes next h k =
    few_if (has_store_for s bytes) _ _
    (λ e. k (with_area s scope parent bytes) (length s.areas)
    (record { sequencer = h.sequencer; releases = h.releases }))
    (λ e. few_fault s job activity position _ h)

pub few_allocating : (s : State) (job : Job) (activity : Activity) (position : Position) (class area : ℕ) (slots : List Value)
    (next : State → ℕ → Step) → FewFrames s → ((t : State) (r : ℕ) → FewFrames t → FewAfter (next t r)) →
    FewAfter (allocating s job activity position class area slots next)
unfolding allocating
few_allocating s job activity position class area slots next h k =
    few_if (has_room s area (length slots)) _ _
    (λ e. k (with_object s class area slots) (length s.objects)
    (record { sequencer = h.sequencer; releases = h.releases }))
    (λ e. few_fault s job activity position _ h)

-- frames that aren't full have room for one more
pub one_more_frame : (frames : List Frame) (g : Frame) → is_full frames ≡ false → length (g ∷ frames) ≤ 64
one_more_frame frames g e = go (nat_lt (length frames) 64) refl
  where
    go : (b : Bool) → nat_lt (length frames) 64 ≡ b → length (g ∷ frames) ≤ 64
    go true t =
        let less : length frames < 64 = grind (arith, nat_tests) in
        omega (arith, less)
    go false t =
        let full : not (nat_lt (length frames) 64) ≡ true = ap (λ (z : Bool). not z) t in
        absurd (cc)

pub returned_few : (value : Option Value) (below : List Frame) → length (returned value below) ≡ length below
unfolding returned
returned_few None below = refl
returned_few (Some v) [] = refl
returned_few (Some v) (f ∷ fs) = refl
