-- The numbers that a replay keeps are small, and so are those of an event that passes behind it.
use Rattle.std.proofs.Common.{◌≡◌, ℕ, zero, suc, ◌+◌, ◌≤◌, ◌<◌, ◌==◌, true, List, [], ◌∷◌, ◌++◌, length, get_or, Option, Some, None, refl, sym, ap, ◌∙◌, subst, arith}
use Rattle.std.specs.Prelude.{position, slice_get}
use Rattle.std.proofs.lemmas.Bool.{and_parts}
use Rattle.std.proofs.lemmas.List.{length_push}
use Rattle.std.proofs.lemmas.List.Quantifiers.{position-Some}
use Rattle.std.proofs.lemmas.Option.{slice_get-get_or}
use Rattle.accepted_laws.proofs.Lists.{get_within}
use Rattle.accepted_laws.proofs.Tools.{some_inj}
use Rattle.priority_laws.proofs.AreaLists.{same_number}
use Rattle.scj_rules.specs.Words.{holds}
use Rattle.scj_model.specs.State.{changed}
use Rattle.trace_audit.specs.declared.choices.Choice.{Choice}
use Rattle.trace_audit.specs.declared.choices.Choice.TheVariants.{Idle as Nobody, Chosen}
use Rattle.trace_audit.specs.declared.releases.Release.{Release}
use Rattle.trace_audit.specs.declared.releases.Standing.{Standing}
use Rattle.trace_audit.specs.Replay.{HandlerSeen, Releases, arrived, choice_at, handler_at, is_named, is_same_choice, is_waiting, one_more, picked, picked_index, index_of, registered, release_named, restanding}
use Rattle.audited_runs.proofs.Changes.{AtChanged, at_changed, is_changed, is_kept, length_changed}
use Rattle.audited_runs.proofs.Named.{AtMore, at_more, fresh, new, old}

-- a handler's number, and a release's that is at most this
pub record InRange (most handler number : ℕ) : Type 0 where
  pub low : 1 ≤ handler
  pub high : handler ≤ 64
  pub small : number ≤ most

pub record Small (most : ℕ) (all : Releases) (last : Option Choice) : Type 0 where
  pub few : length all.handlers ≤ 64
  pub arrivals : (k : ℕ) (h : HandlerSeen) → slice_get all.handlers k ≡ Some h → h.arrived ≤ most
  pub releases : (p : ℕ) (x : Release) → slice_get all.releases p ≡ Some x → InRange most x.handler x.number
  pub last_one : (handler number : ℕ) → last ≡ Some (Chosen handler number) → InRange most handler number

more_range : (most handler number : ℕ) → InRange most handler number → InRange (most + 1) handler number
more_range most handler number h =
    record { low = h.low; high = h.high; small = let s = h.small in omega (arith, s) }

pub small_more : (most : ℕ) (all : Releases) (last : Option Choice) → Small most all last → Small (most + 1) all last
small_more most all last h =
    record {
      few = h.few;
      arrivals = λ k x e. (let a = h.arrivals k x e in omega (arith, a));
      releases = λ p x e. more_range most x.handler x.number (h.releases p x e);
      last_one = λ handler number e. more_range most handler number (h.last_one handler number e);
    }

pub small_last : (most : ℕ) (all : Releases) (last after : Option Choice) → Small most all last →
    ((handler number : ℕ) → after ≡ Some (Chosen handler number) → InRange most handler number) → Small most all after
small_last most all last after h k =
    record { few = h.few; arrivals = h.arrivals; releases = h.releases; last_one = k }

-- ---- changes

restood_small : (most : ℕ) (all : Releases) (last : Option Choice) (change : Standing → Standing) (o : Option ℕ) →
    Small most all last →
    Small most
    (record all {
      releases = elim o as (λ _. List Release) [
        | None ↦ all.releases
        | Some index ↦ changed (λ (r : Release). record r { standing = change r.standing }) index all.releases
      ];
    }) last
restood_small most all last change None h =
    record { few = h.few; arrivals = h.arrivals; releases = h.releases; last_one = h.last_one }
restood_small most all last change (Some index) h =
    record {
      few = h.few;
      arrivals = h.arrivals;
      releases = λ p x e.
          by p x (at_changed (λ (r : Release). record r { standing = change r.standing }) index all.releases p x e);
      last_one = h.last_one;
    }
  where
    by : (p : ℕ) (x : Release) →
        AtChanged (λ (r : Release). record r { standing = change r.standing }) index all.releases p x →
        InRange most x.handler x.number
    by p x (is_changed y there same is) =
        subst (λ (z : Release). InRange most z.handler z.number) (sym is) (h.releases p y there)
    by p x (is_kept there apart) = h.releases p x there

pub restanding_small : (most : ℕ) (all : Releases) (last : Option Choice) (change : Standing → Standing)
    (handler number : ℕ) → Small most all last → Small most (restanding change handler number all) last
restanding_small most all last change handler number h =
    restood_small most all last change (index_of all.releases handler number) h

pub registered_small : (most : ℕ) (all : Releases) (last : Option Choice) (priority : ℕ) → Small most all last →
    length all.handlers + 1 ≤ 64 → Small most (registered priority all) last
registered_small most all last priority h l =
    record {
      few = few all.handlers l;
      arrivals = λ k x e. arrivals k x (at_more all.handlers (record { priority = priority; arrived = 0 }) k x e);
      releases = h.releases;
      last_one = h.last_one;
    }
  where
    length_more : (xs : List HandlerSeen) (y : HandlerSeen) → length (xs ++ y ∷ []) ≡ length xs + 1
    length_more xs y = length_push xs y

    few : (xs : List HandlerSeen) → length xs + 1 ≤ 64 →
        length (xs ++ record { priority = priority; arrived = 0 } ∷ []) ≤ 64
    few xs m =
        subst (λ n. n ≤ 64) (sym (length_more xs (record { priority = priority; arrived = 0 }))) m

    arrivals : (k : ℕ) (x : HandlerSeen) → AtMore all.handlers (record { priority = priority; arrived = 0 }) k x →
        x.arrived ≤ most
    arrivals k x (old there) = h.arrivals k x there
    arrivals k x (new is at) =
        subst (λ (z : HandlerSeen). z.arrived ≤ most) (sym is) (omega arith)

-- ---- an arrival

record IsNext (most : ℕ) (handlers : List HandlerSeen) (handler number : ℕ) : Type 0 where
  k : ℕ
  seen : HandlerSeen
  there : slice_get handlers k ≡ Some seen
  is_next : handler ≡ suc k
  counted : number ≡ seen.arrived + 1

arrival_of : (handlers : List HandlerSeen) (handler number most : ℕ) →
    holds (handler_at handlers handler) (λ h. number == h.arrived + 1) ≡ true → IsNext most handlers handler number
arrival_of handlers zero number most e = absurd (cc (e))
arrival_of handlers (suc k) number most e = go (slice_get handlers k) refl e
  where
    go : (o : Option HandlerSeen) → slice_get handlers k ≡ o → holds o (λ h. number == h.arrived + 1) ≡ true →
        IsNext most handlers (suc k) number
    go None f g = absurd (cc (g))
    go (Some h) f g =
        record { k = k; seen = h; there = f; is_next = refl; counted = same_number number (h.arrived + 1) g }

pub arrival_range : (most : ℕ) (all : Releases) (last : Option Choice) (handler number : ℕ) → Small most all last →
    holds (handler_at all.handlers handler) (λ h. number == h.arrived + 1) ≡ true → InRange (most + 1) handler number
arrival_range most all last handler number h e =
    let n : IsNext most all.handlers handler number = arrival_of all.handlers handler number most e in
    let l : n.k < length all.handlers = get_within all.handlers n.k n.seen n.there in
    let f = h.few in
    let a = h.arrivals n.k n.seen n.there in
    let i = n.is_next in
    let c = n.counted in
    record { low = omega (arith, i); high = omega (arith, i, l, f); small = omega (arith, a, c) }

pub arrived_small : (most : ℕ) (all : Releases) (last : Option Choice) (k number : ℕ) → Small most all last →
    InRange (most + 1) (suc k) number → Small (most + 1) (arrived (suc k) number all) last
arrived_small most all last k number h range =
    record {
      few = subst (λ n. n ≤ 64) (sym (length_changed one_more k all.handlers)) h.few;
      arrivals = λ j x e. arrivals j x (at_changed one_more k all.handlers j x e);
      releases = λ p x e. releases p x (at_more all.releases (fresh (suc k) number) p x e);
      last_one = λ handler n e. more_range most handler n (h.last_one handler n e);
    }
  where
    arrivals : (j : ℕ) (x : HandlerSeen) → AtChanged one_more k all.handlers j x → x.arrived ≤ most + 1
    arrivals j x (is_changed y there same is) =
        let a = h.arrivals j y there in
        let b : x.arrived ≡ y.arrived + 1 = ap (λ (z : HandlerSeen). z.arrived) is in
        omega (arith, a, b)
    arrivals j x (is_kept there apart) = let a = h.arrivals j x there in omega (arith, a)

    releases : (p : ℕ) (x : Release) → AtMore all.releases (fresh (suc k) number) p x →
        InRange (most + 1) x.handler x.number
    releases p x (old there) = more_range most x.handler x.number (h.releases p x there)
    releases p x (new is at) =
        subst (λ (z : Release). InRange (most + 1) z.handler z.number) (sym is) range

-- ---- names that a replay knows

same_choices : (handler number k n : ℕ) → is_same_choice (Chosen handler number) (Chosen k n) ≡ true →
    (handler ≡ k) × (number ≡ n)
same_choices handler number k n e =
    let p = and_parts (handler == k) (number == n) e in (same_number handler k p.0, same_number number n p.1)

range_as : (most handler number k n : ℕ) → (handler ≡ k) × (number ≡ n) → InRange most k n → InRange most handler number
range_as most handler number k n e r =
    subst (λ h. InRange most h number) (sym e.0) (subst (λ m. InRange most k m) (sym e.1) r)

-- the picked release
pub picked_range : (most : ℕ) (all : Releases) (last : Option Choice) (handler number : ℕ) → Small most all last →
    is_same_choice (Chosen handler number) (picked all) ≡ true → InRange most handler number
picked_range most all last handler number h e = go (picked_index all) refl e
  where
    at : (p : ℕ) (o : Option Release) → slice_get all.releases p ≡ o →
        is_same_choice (Chosen handler number)
        (elim o as (λ _. Choice) [ None ↦ Nobody | Some r ↦ Chosen r.handler r.number ]) ≡ true →
        InRange most handler number
    at p None f g = absurd (cc (g))
    at p (Some x) f g =
        range_as most handler number x.handler x.number (same_choices handler number x.handler x.number g)
        (h.releases p x f)

    go : (o : Option ℕ) → picked_index all ≡ o →
        is_same_choice (Chosen handler number) (choice_at all.releases (picked_index all)) ≡ true →
        InRange most handler number
    go None f g = absurd (cc (g, ap (λ o. is_same_choice (Chosen handler number) (choice_at all.releases o)) f))
    go (Some p) f g =
        at p (slice_get all.releases p) refl
        (sym (ap (λ o. is_same_choice (Chosen handler number) (choice_at all.releases o)) f) ∙ g)

-- the last choice
pub last_range : (most : ℕ) (all : Releases) (last : Option Choice) (handler number : ℕ) → Small most all last →
    holds last (is_same_choice (Chosen handler number)) ≡ true → InRange most handler number
last_range most all None handler number h e = absurd (cc (e))
last_range most all (Some Nobody) handler number h e = absurd (cc (e))
last_range most all (Some (Chosen k n)) handler number h e =
    range_as most handler number k n (same_choices handler number k n e) (h.last_one k n refl)

-- a release of this name
pub named_range : (most : ℕ) (all : Releases) (last : Option Choice) (handler number : ℕ) → Small most all last →
    holds (release_named all.releases handler number) is_waiting ≡ true → InRange most handler number
named_range most all last handler number h e = go (index_of all.releases handler number) refl e
  where
    at : (p : ℕ) → position (is_named handler number) all.releases ≡ Some p → (o : Option Release) →
        slice_get all.releases p ≡ o → holds o is_waiting ≡ true → InRange most handler number
    at p found None f g = absurd (cc (g))
    at p found (Some x) f g =
        let q = position-Some (is_named handler number) all.releases p x found in
        let same : get_or all.releases p x ≡ x =
        some_inj (get_or all.releases p x) x (sym (slice_get-get_or all.releases p x q.0) ∙ f) in
        let named : is_named handler number x ≡ true = ap (is_named handler number) (sym same) ∙ q.1 in
        let parts = and_parts (x.handler == handler) (x.number == number) named in
        range_as most handler number x.handler x.number
        (sym (same_number x.handler handler parts.0), sym (same_number x.number number parts.1)) (h.releases p x f)

    go : (o : Option ℕ) → index_of all.releases handler number ≡ o →
        holds (elim (index_of all.releases handler number) as (λ _. Option Release) [
          | None ↦ None
          | Some index ↦ slice_get all.releases index
        ]) is_waiting ≡ true → InRange most handler number
    go None f g =
        absurd (cc (
          g,
          ap (λ o. holds (elim o as (λ _. Option Release) [
            | None ↦ None
            | Some index ↦ slice_get all.releases index
          ]) is_waiting) f,
        ))
    go (Some p) f g =
        at p f (slice_get all.releases p) refl
        (sym (ap (λ o. holds (elim o as (λ _. Option Release) [
          | None ↦ None
          | Some index ↦ slice_get all.releases index
        ]) is_waiting) f) ∙ g)
