-- In a state in which nothing dangles the references of each job's highest frame lead into open areas.
use Rattle.std.specs.Prelude.{Option, Some, None, slice_get, Contains, IsTrue, filter_map, flat_map, option_to_list}
use Rattle.std.specs.List.{cons_option}
use Rattle.std.proofs.Common.{◌≡◌, ◌∙◌, ℕ, zero, suc, List, [], ◌∷◌, ◌++◌, refl, sym, subst, arith}
use Rattle.std.proofs.lemmas.List.Elements.{Contains-append_left, Contains-append_right}
use Rattle.scj_base.specs.declared.values.Value.{Value}
use Rattle.scj_rules.specs.Words.{◌>>=◌}
use Rattle.scj_model.specs.declared.operations.Op.{Op}
use Rattle.scj_model.specs.declared.plans.ReadingRow.{ReadingRow}
use Rattle.scj_model.specs.Code.{Code}
use Rattle.scj_model.specs.State.{Object, Frame, Activity, Release, Job, TheSequencer, ReleaseAt, State, activity_in, activity_of}
use Rattle.scj_model.specs.Operations.{effect_of}
use Rattle.scj_model.specs.Run.{environment}
use Rattle.scj_model.specs.Safety.{NoDangling, is_of_open_area, live, references, references_of_frame, references_of_job, started_activities}
use Rattle.live_reads.specs.Live.{FindsOpenObjects, looked_up}
use Rattle.live_reads.proofs.LiveObjects.{reads_live}

-- what one element gives is given by all
contains_flat : {A : Type 0} (f : A → List ℕ) (xs : List A) (x : A) (r : ℕ) → Contains xs x → Contains (f x) r →
    Contains (flat_map f xs) r
contains_flat f [] x r c d = absurd (omega (arith, c.1))
contains_flat f (z ∷ zs) x r (zero, h, e) d =
    Contains-append_left (f z) (flat_map f zs) r (subst (λ y. Contains (f y) r) (sym e) d)
contains_flat f (z ∷ zs) x r (suc k, h, e) d =
    Contains-append_right (f z) (flat_map f zs) r (contains_flat f zs x r (k, omega (arith, h), e) d)

contained_more : {A : Type 0} (o : Option A) (xs : List A) (x : A) → Contains xs x → Contains (option_to_list o ++ xs) x
contained_more o xs x c = Contains-append_right (option_to_list o) xs x c

in_live : (s : State) (job : Job) (activity : Activity) (r : ℕ) → activity_of s job ≡ Some activity →
    Contains (references_of_job activity) r → Contains (live s) r
unfolding live activity_of started_activities
in_live s TheSequencer activity r e c =
    let same : s.activity ≡ activity = cc in
    Contains-append_left (references_of_job s.activity) _ r
    (subst (λ (a : Activity). Contains (references_of_job a) r) (sym same) c)
in_live s (ReleaseAt index) activity r e c =
    Contains-append_right (references_of_job s.activity) _ r
    (Contains-append_left (flat_map references_of_job (started_activities s)) _ r
    (contains_flat references_of_job (started_activities s) activity r (started s.releases index e) c))
  where
    started : (rows : List Release) (k : ℕ) → (slice_get rows k >>= (λ x. activity_in x.status)) ≡ Some activity →
        Contains (filter_map (λ (x : Release). activity_in x.status) rows) activity
    started [] k q = absurd (cc)
    started (x ∷ rows) zero q = here (activity_in x.status) q
      where
        here : (o : Option Activity) → o ≡ Some activity →
            Contains (cons_option o (filter_map (λ (y : Release). activity_in y.status) rows)) activity
        here None t = absurd (cc)
        here (Some a) t = let same : a ≡ activity = cc in (0, omega arith, same)
    started (x ∷ rows) (suc k) q = there (activity_in x.status) (started rows k q)
      where
        there : (o : Option Activity) → Contains (filter_map (λ (y : Release). activity_in y.status) rows) activity →
            Contains (cons_option o (filter_map (λ (y : Release). activity_in y.status) rows)) activity
        there None c2 = c2
        there (Some a) c2 = (suc c2.0, omega (arith, c2.1), c2.2)

pub frame_live : (s : State) (job : Job) (activity : Activity) (f : Frame) (below : List Frame) → NoDangling s →
    activity_of s job ≡ Some activity → activity.frames ≡ f ∷ below →
    (r : ℕ) → Contains (references_of_frame f) r → IsTrue (is_of_open_area s r)
frame_live s job activity f below none e frames r c =
    none.are_open r (in_live s job activity r e
    (subst (λ (fs : List Frame). Contains (flat_map references_of_frame fs) r) (sym frames)
    (Contains-append_left (references_of_frame f) (flat_map references_of_frame below) r c)))

-- so an operation of a job in such a state, with its operation taken off, has the same effect by live objects alone
pub operation_reads_live : (code : Code) (rows : List ReadingRow) (s : State) (look : ℕ → Option Object) (job : Job)
    (activity : Activity) (f g : Frame) (below : List Frame) (op : Op) → FindsOpenObjects s look → NoDangling s →
    activity_of s job ≡ Some activity → activity.frames ≡ f ∷ below → g.operands ≡ f.operands → g.this ≡ f.this →
    effect_of code (environment rows s) g op ≡ effect_of code (looked_up (environment rows s) look) g op
unfolding references_of_frame
operation_reads_live code rows s look job activity f g below op finds none e frames operands this =
    reads_live s look finds code rows g op
    (λ r c. frame_live s job activity f below none e frames r
    (Contains-append_right (option_to_list f.this) _ r (Contains-append_right (references f.locals) _ r
    (subst (λ (vs : List Value). Contains (references vs) r) operands c))))
    (λ r t. frame_live s job activity f below none e frames r
    (Contains-append_left (option_to_list f.this) _ r (of_this r (sym this ∙ t))))
  where
    of_this : (r : ℕ) → f.this ≡ Some r → Contains (option_to_list f.this) r
    of_this r t = subst (λ (o : Option ℕ). Contains (option_to_list o) r) (sym t) (0, omega arith, refl)
