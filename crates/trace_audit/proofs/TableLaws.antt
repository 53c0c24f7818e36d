-- What becomes of a table of releases.
use Rattle.std.proofs.Common.{◌≡◌, ℕ, zero, suc, ◌+◌, ◌-◌, ◌<◌, ◌≤◌, ◌==◌, Bool, true, false, ◌||◌, List, [], ◌∷◌, ◌++◌, length, map, Option, None, Some, refl, sym, ap, ◌∙◌, subst, arith}
use Rattle.std.specs.Prelude.{slice_get, slice_set, option_map}
use Rattle.std.proofs.lemmas.Bool.Decides.{nat_tests}
use Rattle.std.proofs.lemmas.Option.{slice_get_within, slice_get-map}
use Rattle.std.specs.BinaryHeap.{IsHeap}
use Rattle.std.specs.List.Sorted.{IsPermutation}
use Rattle.std.specs.Ordering.{nat_cmp}
use Rattle.std.proofs.lemmas.List.Sorted.{list_any-IsPermutation}
use Rattle.scj_rules.specs.Words.{holds}
use Rattle.scj_model.specs.State.{changed}
use Rattle.accepted_laws.proofs.Tools.{some_inj}
use Rattle.trace_audit.specs.declared.handlers.Handler.{Handler}
use Rattle.trace_audit.specs.declared.releases.Release.{Release}
use Rattle.trace_audit.specs.declared.releases.Standing.{Standing}
use Rattle.trace_audit.specs.declared.releases.Standing.TheVariants.{Waits}
use Rattle.trace_audit.specs.Replay.{HandlerSeen, arrived, one_more}
use Rattle.trace_audit.proofs.Places.{places_restood}
use Rattle.trace_audit.proofs.Priorities.{handler_seen_at}
use Rattle.trace_audit.specs.Index.{HasMoreKeys, HasIndexAdded, IsIndexed, all_seen, handler_seen, is_next, is_among_keys, key_of, indices_end, rank_of}
use Rattle.trace_audit.proofs.KeyLaws.{keys_registered, keys_restood, places_registered, releases_of, seen_at}
use Rattle.trace_audit.proofs.ArrivalLaws.{handlers_arrived, keys_arrived, places_arrived}

-- ---- a table

pub indexed_restood : (handlers : List Handler) (releases : List Release) (keys more : List ℕ) (index : ℕ) (r : Release)
    (s : Standing) → IsIndexed handlers releases keys → slice_get releases index ≡ Some r → IsHeap nat_cmp more →
    HasMoreKeys keys more (rank_of (map handler_seen handlers) (record r { standing = s })) index →
    IsIndexed handlers (slice_set releases index (record r { standing = s })) more
indexed_restood handlers releases keys more index r s has there heap added =
    record {
      ordered = heap;
      keyed = keys_restood (map handler_seen handlers) releases keys more index r s has.keyed there added;
      placed = places_restood handlers releases index r s has.placed there;
    }

pub indexed_registered : (handlers after : List Handler) (releases : List Release) (keys : List ℕ) (h : Handler) →
    IsIndexed handlers releases keys → after ≡ handlers ++ h ∷ [] → h.indices.items ≡ [] →
    IsIndexed after releases keys
indexed_registered handlers after releases keys h has are empty =
    subst (λ (hs : List Handler). IsIndexed hs releases keys) (sym are)
    (record {
      ordered = has.ordered;
      keyed = keys_registered handlers releases keys h has.placed has.keyed;
      placed = places_registered handlers releases h has.placed empty;
    })

record NextThere (handlers : List Handler) (handler number : ℕ) : Type 0 where
  k : ℕ
  row : Handler
  is_handler : handler ≡ suc k
  there : slice_get handlers k ≡ Some row
  next : number ≡ suc (length row.indices.items)

next_there : (handlers : List Handler) (handler number : ℕ) →
    is_next (map handler_seen handlers) handler number ≡ true → NextThere handlers handler number
next_there handlers zero number e = absurd (cc (e))
next_there handlers (suc k) number e = go (slice_get handlers k) refl
  where
    go : (o : Option Handler) → slice_get handlers k ≡ o → NextThere handlers (suc k) number
    go None f =
        let g : false ≡ true =
        sym (ap (λ (x : Option HandlerSeen). holds x (λ h. number == h.arrived + 1))
        (slice_get-map handler_seen handlers k ∙ ap (option_map handler_seen) f)) ∙ e in
        absurd (cc (g))
    go (Some row) f =
        let g : (number == length row.indices.items + 1) ≡ true =
        sym (ap (λ (x : Option HandlerSeen). holds x (λ h. number == h.arrived + 1)) (seen_at handlers k row f)) ∙ e in
        record { k = k; row = row; is_handler = refl; there = f; next = grind (arith, nat_tests, g) }

pub row_within : (handlers : List Handler) (handler number : ℕ) →
    is_next (map handler_seen handlers) handler number ≡ true → handler - 1 < length handlers
row_within handlers handler number e =
    let at = next_there handlers handler number e in
    let w : at.k < length handlers = slice_get_within handlers at.k at.row at.there in
    let h = at.is_handler in
    omega (arith, w, h)

pub handler_above : (handlers : List Handler) (handler number : ℕ) →
    is_next (map handler_seen handlers) handler number ≡ true → 1 ≤ handler
handler_above handlers handler number e =
    let at = next_there handlers handler number e in
    let h = at.is_handler in
    omega (arith, h)

abbrev waiting : ℕ → ℕ → Release
waiting handler number = record { handler = handler; number = number; standing = Waits }

module _ (handlers rows : List Handler) (releases all : List Release) (handler number : ℕ)
    (next : is_next (map handler_seen handlers) handler number ≡ true)
    (added : HasIndexAdded handlers rows (handler - 1) (length releases))
    (are : all ≡ releases ++ waiting handler number ∷ []) where
  at : NextThere handlers handler number
  at = next_there handlers handler number next

  place_is : handler - 1 ≡ at.k
  place_is = let h = at.is_handler in omega (arith, h)

  row_there : slice_get handlers at.k ≡ Some added.row
  row_there = ap (slice_get handlers) (sym place_is) ∙ added.there

  row_is : at.row ≡ added.row
  row_is = some_inj at.row added.row (sym at.there ∙ row_there)

  number_is : number ≡ suc (length added.row.indices.items)
  number_is = at.next ∙ ap (λ (h : Handler). suc (length h.indices.items)) row_is

  rows_are : rows ≡ slice_set handlers at.k added.new
  rows_are = added.are ∙ ap (λ (k : ℕ). slice_set handlers k added.new) place_is

  pub indexed_arrived : (keys more : List ℕ) → IsIndexed handlers releases keys → length releases < indices_end →
      IsHeap nat_cmp more →
      HasMoreKeys keys more (rank_of (map handler_seen handlers) (waiting handler number)) (length releases) →
      IsIndexed rows all more
  indexed_arrived keys more has few heap extra =
      subst (λ (hs : List Handler). IsIndexed hs all more) (sym rows_are)
      (subst (λ (rs : List Release). IsIndexed (slice_set handlers at.k added.new) rs more) (sym are)
      (record {
        ordered = heap;
        keyed = keys_arrived handlers releases at.k added.row added.new (waiting handler number) row_there
            added.same_priority added.pushed at.is_handler number_is keys more has.keyed few extra;
        placed = places_arrived handlers releases at.k added.row added.new (waiting handler number) row_there
            added.same_priority added.pushed at.is_handler number_is has.placed;
      }))

  abbrev handlers_behind : ℕ → List HandlerSeen
  handlers_behind n =
      elim n as (λ _. List HandlerSeen) [
        | zero ↦ map handler_seen handlers
        | suc k ↦ changed one_more k (map handler_seen handlers)
      ]

  pub table_arrived : all_seen rows all ≡ arrived handler number (all_seen handlers releases)
  table_arrived =
      let handlers_are : map handler_seen rows ≡ handlers_behind handler =
      ap (map handler_seen) rows_are
      ∙ (handlers_arrived handlers releases at.k added.row added.new (waiting handler number) row_there
      added.same_priority added.pushed at.is_handler number_is
      ∙ sym (ap handlers_behind at.is_handler)) in
      ap (λ (hs : List HandlerSeen). releases_of hs all) handlers_are
      ∙ ap (λ (rs : List Release). releases_of (handlers_behind handler) rs) are

pub is_next_some : (handlers : List Handler) (handler number i : ℕ) (h : Handler) →
    handler ≡ i + 1 → slice_get handlers i ≡ Some h →
    is_next (map handler_seen handlers) handler number ≡ (number == length h.indices.items + 1)
is_next_some handlers handler number i h e f =
    ap (λ (x : Option HandlerSeen). holds x (λ h. number == h.arrived + 1))
    (handler_seen_at handlers handler i e ∙ ap (option_map handler_seen) f)

pub is_next_none : (handlers : List Handler) (handler number i : ℕ) →
    handler ≡ i + 1 → slice_get handlers i ≡ None → is_next (map handler_seen handlers) handler number ≡ false
is_next_none handlers handler number i e f =
    ap (λ (x : Option HandlerSeen). holds x (λ h. number == h.arrived + 1))
    (handler_seen_at handlers handler i e ∙ ap (option_map handler_seen) f)

-- ---- one more key

or_true : (a : Bool) → (a || true) ≡ true
or_true true = refl
or_true false = refl

pub more_keys : (keys after : List ℕ) (rank index key : ℕ) (o : Option ℕ) → IsPermutation (key ∷ keys) after →
    key ≡ key_of rank index → o ≡ Some rank → HasMoreKeys keys after o index
more_keys keys after rank index key o moved is e =
    record {
      stay = λ k h.
          sym (list_any-IsPermutation (λ (n : ℕ). n == k) (key ∷ keys) after moved)
          ∙ (ap (λ (b : Bool). (key == k) || b) h ∙ or_true (key == k));
      new = λ n f.
          let same : rank ≡ n = some_inj rank n (sym e ∙ f) in
          let k : key ≡ key_of n index = is ∙ ap (λ (m : ℕ). key_of m index) same in
          let t : (key == key_of n index) ≡ true = grind (arith, nat_tests, k) in
          sym (list_any-IsPermutation (λ (m : ℕ). m == key_of n index) (key ∷ keys) after moved)
          ∙ ap (λ (b : Bool). b || is_among_keys (key_of n index) keys) t;
    }

pub one_less : (n m : ℕ) → (n ≡ 0 → ⊥) → (n - 1 == m) ≡ (n == m + 1)
one_less zero m h = absurd (h refl)
one_less (suc n) m h = grind (arith, nat_tests)
