-- Pick is what the machine chooses.
use Rattle.std.proofs.Common.{◌≡◌, ℕ, zero, suc, ◌+◌, ◌<◌, ◌≤◌, Bool, true, false, List, [], ◌∷◌, ◌++◌, length, map, take, drop, Option, None, Some, if◌then◌else◌, refl, sym, ap, ◌∙◌, arith}
use Rattle.std.specs.Prelude.{slice_get, option_map, option_to_list}
use Rattle.std.proofs.lemmas.List.{take-append-drop}
use Rattle.std.proofs.lemmas.Option.{slice_get-map, slice_get_within}
use Rattle.scj_model.specs.declared.handlers.HandlerRow.{HandlerRow}
use Rattle.scj_model.specs.Choice.{Candidate, candidate, candidates, candidates_from as candidates_now, chosen, handler_priority, is_more_urgent, most_urgent}
use Rattle.scj_model.specs.Registry.{handler_row}
use Rattle.scj_model.specs.State.{ReleaseStatus, Waits as WaitsNow, Started as StartedNow, Ended, Dropped, Release as ReleaseNow, State}
use Rattle.accepted_laws.proofs.Lists.{get_left}
use Rattle.trace_audit.specs.declared.releases.Release.{Release}
use Rattle.trace_audit.specs.Replay.{HandlerSeen, Releases, candidate_at, candidates_from, picked_index, priority_at}
use Rattle.trace_audit.specs.StandsFor.{StandsFor, release_seen}

-- ---- a place further on

abbrev moved : ℕ → Candidate → Candidate
moved base c = record c { index = base + c.index }

abbrev of_two : Option Candidate → Candidate → Option Candidate
of_two o c =
    elim o as (λ _. Option Candidate) [
      | None ↦ Some c
      | Some later ↦ Some (if is_more_urgent later c then later else c)
    ]

two_moved : (base : ℕ) (o : Option Candidate) (c : Candidate) →
    of_two (option_map (moved base) o) (moved base c) ≡ option_map (moved base) (of_two o c)
two_moved base None c = refl
two_moved base (Some later) c = by_test (is_more_urgent later c)
  where
    by_test : (b : Bool) → Some (if b then moved base later else moved base c)
        ≡ option_map (moved base) (Some (if b then later else c))
    by_test true = refl
    by_test false = refl

most_none : most_urgent [] ≡ None
unfolding most_urgent
most_none = refl

most_more : (c : Candidate) (cs : List Candidate) → most_urgent (c ∷ cs) ≡ of_two (most_urgent cs) c
unfolding most_urgent
most_more c cs = refl

most_moved : (base : ℕ) (cs : List Candidate) →
    most_urgent (map (moved base) cs) ≡ option_map (moved base) (most_urgent cs)
most_moved base [] = most_none ∙ sym (ap (option_map (moved base)) most_none)
most_moved base (c ∷ cs) =
    most_more (moved base c) (map (moved base) cs)
    ∙ (ap (λ (o : Option Candidate). of_two o (moved base c)) (most_moved base cs)
    ∙ (two_moved base (most_urgent cs) c ∙ sym (ap (option_map (moved base)) (most_more c cs))))

-- ---- candidates

abbrev priority_in : Option ℕ → ℕ
priority_in o = elim o as (λ _. ℕ) [ None ↦ 0 | Some p ↦ p ]

now_by : (s : State) (handler : ℕ) →
    handler_priority s handler ≡ priority_in (option_map (λ (row : HandlerRow). row.priority) (handler_row s.registry handler))
now_by s handler = go (handler_row s.registry handler)
  where
    go : (o : Option HandlerRow) → elim o as (λ _. ℕ) [ None ↦ 0 | Some row ↦ row.priority ]
        ≡ priority_in (option_map (λ (row : HandlerRow). row.priority) o)
    go None = refl
    go (Some row) = refl

seen_by : (handlers : List HandlerSeen) (k : ℕ) → priority_at handlers (suc k)
    ≡ priority_in (option_map (λ (h : HandlerSeen). h.priority) (slice_get handlers k))
seen_by handlers k = go (slice_get handlers k)
  where
    go : (o : Option HandlerSeen) → elim o as (λ _. ℕ) [ None ↦ 0 | Some h ↦ h.priority ]
        ≡ priority_in (option_map (λ (h : HandlerSeen). h.priority) o)
    go None = refl
    go (Some h) = refl

pub same_priority : (s : State) (all : Releases) → StandsFor s all → (handler : ℕ) →
    handler_priority s handler ≡ priority_at all.handlers handler
same_priority s all stands zero = refl
same_priority s all stands (suc k) =
    now_by s (suc k)
    ∙ (ap priority_in (sym (slice_get-map (λ (row : HandlerRow). row.priority) s.registry k))
    ∙ (ap (λ (l : List ℕ). priority_in (slice_get l k)) stands.handlers
    ∙ (ap priority_in (slice_get-map (λ (h : HandlerSeen). h.priority) all.handlers k)
    ∙ sym (seen_by all.handlers k))))

one_moved : (s : State) (all : Releases) → StandsFor s all → (base index : ℕ) (r : ReleaseNow) →
    candidate s (base + index) r ≡ option_map (moved base) (candidate_at all.handlers index (release_seen r))
unfolding candidate
one_moved s all stands base index r = go r.status refl
  where
    go : (status : ReleaseStatus) → r.status ≡ status →
        candidate s (base + index) r ≡ option_map (moved base) (candidate_at all.handlers index (release_seen r))
    go WaitsNow e =
        rw e (ap (λ (p : ℕ). Some (record { index = base + index; priority = p; is_started = false }))
        (same_priority s all stands r.handler))
    go (StartedNow activity) e = rw e refl
    go Ended e = rw e refl
    go Dropped e = rw e refl

now_none : (s : State) (index : ℕ) → candidates_now s index [] ≡ []
unfolding candidates_now
now_none s index = refl

now_more : (s : State) (index : ℕ) (r : ReleaseNow) (rs : List ReleaseNow) →
    candidates_now s index (r ∷ rs) ≡ option_to_list (candidate s index r) ++ candidates_now s (index + 1) rs
unfolding candidates_now
now_more s index r rs = refl

seen_none : (handlers : List HandlerSeen) (index : ℕ) → candidates_from handlers index [] ≡ []
unfolding candidates_from
seen_none handlers index = refl

seen_more : (handlers : List HandlerSeen) (index : ℕ) (r : Release) (rs : List Release) →
    candidates_from handlers index (r ∷ rs)
    ≡ option_to_list (candidate_at handlers index r) ++ candidates_from handlers (index + 1) rs
unfolding candidates_from
seen_more handlers index r rs = refl

list_moved : (base : ℕ) (o : Option Candidate) (cs : List Candidate) →
    option_to_list (option_map (moved base) o) ++ map (moved base) cs
    ≡ map (moved base) (option_to_list o ++ cs)
list_moved base None cs = refl
list_moved base (Some c) cs = refl

all_moved : (s : State) (all : Releases) → StandsFor s all → (base index : ℕ) (rs : List ReleaseNow) →
    candidates_now s (base + index) rs
    ≡ map (moved base) (candidates_from all.handlers index (map release_seen rs))
all_moved s all stands base index [] =
    now_none s (base + index) ∙ sym (ap (map (moved base)) (seen_none all.handlers index))
all_moved s all stands base index (r ∷ rs) =
    let next : base + index + 1 ≡ base + (index + 1) = omega arith in
    now_more s (base + index) r rs
    ∙ (ap (λ (o : Option Candidate). option_to_list o ++ candidates_now s (base + index + 1) rs)
    (one_moved s all stands base index r)
    ∙ (ap (λ (n : ℕ). option_to_list (option_map (moved base) (candidate_at all.handlers index (release_seen r)))
    ++ candidates_now s n rs) next
    ∙ (ap (λ (l : List Candidate). option_to_list (option_map (moved base)
    (candidate_at all.handlers index (release_seen r))) ++ l) (all_moved s all stands base (index + 1) rs)
    ∙ (list_moved base (candidate_at all.handlers index (release_seen r))
    (candidates_from all.handlers (index + 1) (map release_seen rs))
    ∙ sym (ap (map (moved base)) (seen_more all.handlers index (release_seen r) (map release_seen rs)))))))

-- releases of which none waits or is started give no candidate
none_of : (s : State) (index : ℕ) (rs more : List ReleaseNow) →
    ((k : ℕ) (r : ReleaseNow) → slice_get rs k ≡ Some r → candidate s (index + k) r ≡ None) →
    candidates_now s index (rs ++ more) ≡ candidates_now s (index + length rs) more
none_of s index [] more none = let e : index ≡ index + 0 = omega arith in ap (λ (n : ℕ). candidates_now s n more) e
none_of s index (r ∷ rs) more none =
    let at : index + 0 ≡ index = omega arith in
    let first : candidate s index r ≡ None =
    sym (ap (λ (n : ℕ). candidate s n r) at) ∙ none 0 r refl in
    let end : index + 1 + length rs ≡ index + suc (length rs) = omega arith in
    now_more s index r (rs ++ more)
    ∙ (ap (λ (o : Option Candidate). option_to_list o ++ candidates_now s (index + 1) (rs ++ more)) first
    ∙ (none_of s (index + 1) rs more
    (λ k t e. (let n : index + 1 + k ≡ index + suc k = omega arith in
    ap (λ (m : ℕ). candidate s m t) n ∙ none (suc k) t e))
    ∙ ap (λ (n : ℕ). candidates_now s n more) end))

length_front : {A : Type 0} (n : ℕ) (xs : List A) → n ≤ length xs → length (take n xs) ≡ n
length_front zero xs h = refl
length_front (suc n) [] h = absurd (omega (arith, h))
length_front (suc n) (x ∷ xs) h = ap suc (length_front n xs (omega (arith, h)))

candidates_are : (s : State) (all : Releases) → StandsFor s all →
    candidates s ≡ map (moved s.earlier_releases) (candidates_from all.handlers 0 all.releases)
unfolding candidates
candidates_are s all stands =
    let parts : s.releases ≡ take s.earlier_releases s.releases ++ drop s.earlier_releases s.releases =
    sym (take-append-drop s.earlier_releases s.releases) in
    let front : length (take s.earlier_releases s.releases) ≡ s.earlier_releases =
    length_front s.earlier_releases s.releases stands.within in
    let index : 0 + length (take s.earlier_releases s.releases) ≡ s.earlier_releases + 0 = omega (arith, front) in
    ap (candidates_now s 0) parts
    ∙ (none_of s 0 (take s.earlier_releases s.releases) (drop s.earlier_releases s.releases) (λ k r e. earlier k r e)
    ∙ (ap (λ (n : ℕ). candidates_now s n (drop s.earlier_releases s.releases)) index
    ∙ (all_moved s all stands s.earlier_releases 0 (drop s.earlier_releases s.releases)
    ∙ ap (λ (l : List Release). map (moved s.earlier_releases) (candidates_from all.handlers 0 l)) stands.releases)))
  where
    earlier : (k : ℕ) (r : ReleaseNow) → slice_get (take s.earlier_releases s.releases) k ≡ Some r →
        candidate s (0 + k) r ≡ None
    earlier k r e =
        let same : 0 + k ≡ k = omega arith in
        let there : slice_get s.releases k ≡ Some r =
        ap (λ (l : List ReleaseNow). slice_get l k) (sym (take-append-drop s.earlier_releases s.releases))
        ∙ get_left (take s.earlier_releases s.releases) (drop s.earlier_releases s.releases) k r e in
        let within : k < length (take s.earlier_releases s.releases) =
        slice_get_within (take s.earlier_releases s.releases) k r e in
        let front : length (take s.earlier_releases s.releases) ≡ s.earlier_releases =
        length_front s.earlier_releases s.releases stands.within in
        ap (λ (n : ℕ). candidate s n r) same ∙ stands.earlier k r there (omega (arith, within, front))

places_moved : (base : ℕ) (o : Option Candidate) →
    option_map (λ (c : Candidate). c.index) (option_map (moved base) o)
    ≡ option_map (λ (n : ℕ). base + n) (option_map (λ (c : Candidate). c.index) o)
places_moved base None = refl
places_moved base (Some c) = refl

pub pick_is_choice : (s : State) (all : Releases) → StandsFor s all →
    chosen s ≡ option_map (λ (n : ℕ). s.earlier_releases + n) (picked_index all)
unfolding chosen picked_index
pick_is_choice s all stands =
    ap (λ (cs : List Candidate). option_map (λ (c : Candidate). c.index) (most_urgent cs)) (candidates_are s all stands)
    ∙ (ap (option_map (λ (c : Candidate). c.index))
    (most_moved s.earlier_releases (candidates_from all.handlers 0 all.releases))
    ∙ places_moved s.earlier_releases (most_urgent (candidates_from all.handlers 0 all.releases)))
