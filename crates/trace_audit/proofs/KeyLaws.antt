-- What becomes of keys and places where a release stands otherwise, or a handler is registered.
use Rattle.std.proofs.Common.{◌≡◌, ℕ, zero, suc, ◌+◌, ◌*◌, ◌<◌, ◌==◌, Bool, true, false, List, [], ◌∷◌, ◌++◌, length, map, Option, None, Some, refl, sym, ap, ◌∙◌, subst, arith, inl, inr, ◌⊎◌}
use Rattle.std.specs.Prelude.{slice_get, slice_set, option_map}
use Rattle.std.proofs.lemmas.Bool.Decides.{nat_tests}
use Rattle.std.proofs.lemmas.Option.{slice_get_within, slice_get-map}
use Rattle.scj_rules.specs.Words.{◌>>=◌, holds}
use Rattle.accepted_laws.proofs.Lists.{get_either, get_left, get_set_other, get_set_same, length_set}
use Rattle.accepted_laws.proofs.Tools.{some_inj}
use Rattle.trace_audit.specs.declared.handlers.Handler.{Handler}
use Rattle.trace_audit.specs.declared.releases.Release.{Release}
use Rattle.trace_audit.specs.declared.releases.Standing.{Standing}
use Rattle.trace_audit.specs.declared.releases.Standing.TheVariants.{Waits, Started, Gone}
use Rattle.trace_audit.specs.Replay.{HandlerSeen, Releases, is_named, priority_at}
use Rattle.trace_audit.specs.Index.{HasKeys, HasMoreKeys, HasIndices, handler_seen, is_among_keys, key_of, index_kept, rank_of}

abbrev pub releases_of : List HandlerSeen → List Release → Releases
releases_of handlers releases = record { handlers = handlers; releases = releases }

-- ---- a release stands otherwise

pub keys_restood : (handlers : List HandlerSeen) (releases : List Release) (keys after : List ℕ) (index : ℕ)
    (r : Release) (s : Standing) → HasKeys (releases_of handlers releases) keys →
    slice_get releases index ≡ Some r → HasMoreKeys keys after (rank_of handlers (record r { standing = s })) index →
    HasKeys (releases_of handlers (slice_set releases index (record r { standing = s }))) after
keys_restood handlers releases keys after index r s has there more =
    record {
      few = let f = has.few in
          let l : length (slice_set releases index new) ≡ length releases = length_set releases index new in
          omega (arith, f, l);
      is = λ p n t e f. by_place p n t e f (p == index) refl;
    }
  where
    new : Release
    new = record r { standing = s }

    within : index < length releases
    within = slice_get_within releases index r there

    by_place : (p n : ℕ) (t : Release) → slice_get (slice_set releases index new) p ≡ Some t →
        rank_of handlers t ≡ Some n → (b : Bool) → (p == index) ≡ b → is_among_keys (key_of n p) after ≡ true
    by_place p n t e f true g =
        let q : p ≡ index = grind (arith, nat_tests, g) in
        let same : new ≡ t =
        some_inj new t (sym (ap (slice_get (slice_set releases index new)) q ∙ get_set_same releases index new within)
        ∙ e) in
        subst (λ (m : ℕ). is_among_keys (key_of n m) after ≡ true) (sym q)
        (more.new n (ap (rank_of handlers) same ∙ f))
    by_place p n t e f false g =
        let q : index ≡ p → ⊥ = λ h. (let k : p ≡ index = sym h in grind (arith, nat_tests, g, k)) in
        more.stay (key_of n p) (has.is p n t (sym (get_set_other releases index p new q) ∙ e) f)

-- ---- handlers and ranks

abbrev pub rank_with : Release → ℕ → Option ℕ
rank_with r p =
    elim r.standing as (λ _. Option ℕ) [ Waits ↦ Some (2 * p) | Started priority ↦ Some (2 * priority + 1) | Gone ↦ None ]

pub rank_by : (handlers others : List HandlerSeen) (r : Release) →
    priority_at handlers r.handler ≡ priority_at others r.handler → rank_of handlers r ≡ rank_of others r
rank_by handlers others r e = ap (rank_with r) e

-- where each release has its handler, other handlers with the same priorities change no key
pub keys_by : (handlers others : List HandlerSeen) (releases : List Release) (keys : List ℕ) →
    HasKeys (releases_of handlers releases) keys → ((index : ℕ) (r : Release) → slice_get releases index ≡ Some r →
    priority_at others r.handler ≡ priority_at handlers r.handler) → HasKeys (releases_of others releases) keys
keys_by handlers others releases keys has same =
    record {
      few = has.few;
      is = λ index rank r there ranked.
          has.is index rank r there (sym (rank_by others handlers r (same index r there)) ∙ ranked);
    }

pub record HandlerThere (handlers : List Handler) (handler number index : ℕ) : Type 0 where
  pub k : ℕ
  pub i : ℕ
  pub row : Handler
  pub is_handler : handler ≡ suc k
  pub is_number : number ≡ suc i
  pub there : slice_get handlers k ≡ Some row
  pub kept : slice_get row.indices.items i ≡ Some index

pub handler_there : (handlers : List Handler) (handler number index : ℕ) →
    index_kept handlers handler number ≡ Some index → HandlerThere handlers handler number index
handler_there handlers zero number index e = absurd (cc (e))
handler_there handlers (suc k) zero index e = absurd (cc (e))
handler_there handlers (suc k) (suc i) index e = go (slice_get handlers k) refl e
  where
    go : (o : Option Handler) → slice_get handlers k ≡ o → (o >>= (λ h. slice_get h.indices.items i)) ≡ Some index →
        HandlerThere handlers (suc k) (suc i) index
    go None f g = absurd (cc (g))
    go (Some row) f g =
        record { k = k; i = i; row = row; is_handler = refl; is_number = refl; there = f; kept = g }

pub kept_at : (handlers : List Handler) (k i : ℕ) (row : Handler) → slice_get handlers k ≡ Some row →
    index_kept handlers (suc k) (suc i) ≡ slice_get row.indices.items i
kept_at handlers k i row e = ap (λ (o : Option Handler). o >>= (λ h. slice_get h.indices.items i)) e

-- ---- a handler is registered

pub front_same : (handlers : List Handler) (h : Handler) (handler number index : ℕ) →
    index_kept handlers handler number ≡ Some index →
    index_kept (handlers ++ h ∷ []) handler number ≡ Some index
front_same handlers h handler number index e =
    let at = handler_there handlers handler number index e in
    ap (λ (n : ℕ). index_kept (handlers ++ h ∷ []) n number) at.is_handler
    ∙ (ap (index_kept (handlers ++ h ∷ []) (suc at.k)) at.is_number
    ∙ (kept_at (handlers ++ h ∷ []) at.k at.i at.row (get_left handlers (h ∷ []) at.k at.row at.there) ∙ at.kept))

pub places_registered : (handlers : List Handler) (releases : List Release) (h : Handler) →
    HasIndices handlers releases → h.indices.items ≡ [] → HasIndices (handlers ++ h ∷ []) releases
places_registered handlers releases h has empty =
    record {
      kept = λ index r there. front_same handlers h r.handler r.number index (has.kept index r there);
      right = λ handler number index e. right handler number index e;
    }
  where
    by_row : (handler number index : ℕ) → (at : HandlerThere (handlers ++ h ∷ []) handler number index) →
        (slice_get handlers at.k ≡ Some at.row) ⊎ (h ≡ at.row) →
        holds (slice_get releases index) (is_named handler number) ≡ true
    by_row handler number index at (inl there) =
        has.right handler number index
        (ap (λ (n : ℕ). index_kept handlers n number) at.is_handler
        ∙ (ap (index_kept handlers (suc at.k)) at.is_number
        ∙ (kept_at handlers at.k at.i at.row there ∙ at.kept)))
    by_row handler number index at (inr same) =
        let none : slice_get [] at.i ≡ Some index =
        subst (λ (ps : List ℕ). slice_get ps at.i ≡ Some index) empty
        (subst (λ (row : Handler). slice_get row.indices.items at.i ≡ Some index) (sym same) at.kept) in
        absurd (cc (none))

    right : (handler number index : ℕ) → index_kept (handlers ++ h ∷ []) handler number ≡ Some index →
        holds (slice_get releases index) (is_named handler number) ≡ true
    right handler number index e =
        let at = handler_there (handlers ++ h ∷ []) handler number index e in
        by_row handler number index at (get_either handlers h at.k at.row at.there)

pub map_push : (handlers : List Handler) (h : Handler) →
    map handler_seen (handlers ++ h ∷ []) ≡ map handler_seen handlers ++ handler_seen h ∷ []
map_push [] h = refl
map_push (x ∷ handlers) h = ap (λ (hs : List HandlerSeen). handler_seen x ∷ hs) (map_push handlers h)

pub seen_at : (handlers : List Handler) (k : ℕ) (row : Handler) → slice_get handlers k ≡ Some row →
    slice_get (map handler_seen handlers) k ≡ Some (handler_seen row)
seen_at handlers k row e = slice_get-map handler_seen handlers k ∙ ap (option_map handler_seen) e

abbrev pub priority_in : Option HandlerSeen → ℕ
priority_in o = elim o as (λ _. ℕ) [ None ↦ 0 | Some h ↦ h.priority ]

pub keys_registered : (handlers : List Handler) (releases : List Release) (keys : List ℕ) (h : Handler) →
    HasIndices handlers releases → HasKeys (releases_of (map handler_seen handlers) releases) keys →
    HasKeys (releases_of (map handler_seen (handlers ++ h ∷ [])) releases) keys
keys_registered handlers releases keys h placed has =
    keys_by (map handler_seen handlers) (map handler_seen (handlers ++ h ∷ [])) releases keys has
    (λ index r there. same index r (handler_there handlers r.handler r.number index (placed.kept index r there)))
  where
    same : (index : ℕ) (r : Release) → HandlerThere handlers r.handler r.number index →
        priority_at (map handler_seen (handlers ++ h ∷ [])) r.handler
        ≡ priority_at (map handler_seen handlers) r.handler
    same index r at =
        ap (priority_at (map handler_seen (handlers ++ h ∷ []))) at.is_handler
        ∙ (ap priority_in (seen_at (handlers ++ h ∷ []) at.k at.row (get_left handlers (h ∷ []) at.k at.row at.there))
        ∙ (sym (ap priority_in (seen_at handlers at.k at.row at.there))
        ∙ sym (ap (priority_at (map handler_seen handlers)) at.is_handler)))

-- ---- a release arrives

pub length_push : {A : Type 0} (xs : List A) (x : A) → length (xs ++ x ∷ []) ≡ length xs + 1
length_push [] x = refl
length_push (y ∷ xs) x = let e : length (xs ++ x ∷ []) ≡ length xs + 1 = length_push xs x in omega (arith, e)

pub there_within : {A : Type 0} (xs : List A) (i : ℕ) → i < length xs → slice_get xs i ≡ None → ⊥
there_within [] i h e = omega (arith, h)
there_within (x ∷ xs) zero h e = cc (e)
there_within (x ∷ xs) (suc i) h e = there_within xs i (omega (arith, h)) e

-- what isn't the last element stood before
pub before_last : {A : Type 0} (xs : List A) (x : A) (i : ℕ) (y : A) → slice_get (xs ++ x ∷ []) i ≡ Some y →
    (i ≡ length xs → ⊥) → slice_get xs i ≡ Some y
before_last {A} xs x i y e ne = go (slice_get xs i) refl
  where
    go : (o : Option A) → slice_get xs i ≡ o → slice_get xs i ≡ Some y
    go (Some u) f = f ∙ (sym (get_left xs (x ∷ []) i u f) ∙ e)
    go None f =
        let end : i < length (xs ++ x ∷ []) = slice_get_within (xs ++ x ∷ []) i y e in
        let l : length (xs ++ x ∷ []) ≡ length xs + 1 = length_push xs x in
        let lt : i < length xs = omega (arith, end, l, ne) in
        absurd (there_within xs i lt f)

pub map_set : (handlers : List Handler) (k : ℕ) (h : Handler) →
    map handler_seen (slice_set handlers k h) ≡ slice_set (map handler_seen handlers) k (handler_seen h)
map_set [] k h = refl
map_set (x ∷ handlers) zero h = refl
map_set (x ∷ handlers) (suc k) h = ap (λ (hs : List HandlerSeen). handler_seen x ∷ hs) (map_set handlers k h)

pub old_holds : (releases : List Release) (r : Release) (index : ℕ) (test : Release → Bool) →
    holds (slice_get releases index) test ≡ true → holds (slice_get (releases ++ r ∷ []) index) test ≡ true
old_holds releases r index test h = go (slice_get releases index) refl h
  where
    go : (o : Option Release) → slice_get releases index ≡ o → holds o test ≡ true →
        holds (slice_get (releases ++ r ∷ []) index) test ≡ true
    go None e f = absurd (cc (f))
    go (Some t) e f =
        ap (λ (o : Option Release). holds o test) (get_left releases (r ∷ []) index t e) ∙ f
