-- Hidden fields that are written one by one.
use Rattle.std.specs.Prelude.{Option, Some, None, drop, nat_lt, not, pos, slice_get, slice_set, take, ◌||◌}
use Rattle.std.specs.List.{list_any}
use Rattle.std.proofs.Common.{Bor, ◌≡◌, ◌∙◌, ◌⊎◌, inl, inr, Bool, true, false, ℕ, zero, suc, ◌+◌, ◌<◌, ◌≤◌, List, [], ◌∷◌, ◌++◌, length, refl, ap, sym, subst, arith}
use Rattle.std.proofs.lemmas.Bool.Decides.{nat_tests}
use Rattle.std.proofs.lemmas.List.{take_all}
use Rattle.scj_base.specs.declared.values.Value.{Value}
use Rattle.scj_base.specs.declared.values.Value.TheVariants.{Int}
use Rattle.scj_model.specs.State.{Object}
use Rattle.scj_model.specs.Apply.{with_first}
use Rattle.region_heap.specs.declared.changes.Change.TheVariants.{SetHidden}
use Rattle.region_heap.specs.declared.rows.AreaRow.{AreaRow}
use Rattle.region_heap.specs.declared.rows.ObjectRow.{ObjectRow}
use Rattle.region_heap.specs.Contents.{changing_object, hidden_slots, live_object, with_value}
use Rattle.region_heap.specs.History.{Past, after}
use Rattle.region_heap.specs.Kept.{IsKept, IsLive}
use Rattle.region_heap.specs.Refusals.{AllowsHidden, RefusesHidden, listed, unlisted}
use Rattle.region_heap.specs.Words.{Words, count_in, object_in, refuses_hidden, value_in, wide_limit, word}
use Rattle.region_heap.specs.Written.{IsChangedAt, IsChangedIn, IsObject}
use Rattle.region_heap.proofs.ChangedKept.{changed_kept}
use Rattle.region_heap.proofs.Changing.{slot_changed}
use Rattle.region_heap.proofs.Laying.{within_none}
use Rattle.region_heap.proofs.Lists.{three}
use Rattle.region_heap.proofs.Live.{found_is, live_is, unfound_is}
use Rattle.region_heap.proofs.Slots.{object_count}

abbrev first_slots : List ℕ → List Value → List Value
first_slots hidden slots = hidden_slots hidden ++ drop (length (hidden_slots hidden)) slots

one_more : (hidden : List ℕ) (slots : List Value) (i n : ℕ) → slice_get hidden i ≡ Some n → i < length slots →
    slice_set (first_slots (take i hidden) slots) i (Int (pos n)) ≡ first_slots (take (suc i) hidden) slots
one_more [] slots i n e h = absurd (cc)
one_more (x ∷ hidden) [] i n e h = absurd (omega (arith, h))
one_more (x ∷ hidden) (v ∷ slots) zero n e h =
    let same : x ≡ n = cc in
    ap (λ (k : ℕ). Int (pos k) ∷ slots) (sym same)
one_more (x ∷ hidden) (v ∷ slots) (suc i) n e h =
    ap (λ (xs : List Value). Int (pos x) ∷ xs) (one_more hidden slots i n e (omega (arith, h)))

-- one more hidden field is set
pub hidden_more : (hidden : List ℕ) (o : Object) (i n : ℕ) → slice_get hidden i ≡ Some n → i < length o.slots →
    with_value i (Int (pos n)) (with_first (hidden_slots (take i hidden)) o)
    ≡ with_first (hidden_slots (take (i + 1) hidden)) o
hidden_more hidden o i n e h =
    let more : suc i ≡ i + 1 = omega arith in
    ap (λ (xs : List Value). record o { slots = xs })
    (one_more hidden o.slots i n e h ∙ ap (λ (k : ℕ). first_slots (take k hidden) o.slots) more)

-- as many slots stay
long : (hidden : List ℕ) (slots : List Value) → length hidden ≤ length slots →
    length (first_slots hidden slots) ≡ length slots
long [] slots h = refl
long (n ∷ hidden) [] h = absurd (omega (arith, h))
long (n ∷ hidden) (v ∷ slots) h = ap suc (long hidden slots (omega (arith, h)))

short : (hidden : List ℕ) (i : ℕ) → length (take i hidden) ≤ length hidden
short hidden zero = omega arith
short [] (suc i) = omega arith
short (n ∷ hidden) (suc i) = let h = short hidden i in omega (arith, h)

pub none_hidden : (ws : Words) (first : ℕ) (hidden : List ℕ) →
    IsChangedAt ws first (with_first (hidden_slots (take 0 hidden))) ws
none_hidden ws first hidden =
    record { within = within_none ws first (first + 2 + count_in (word ws (first + 1))); object = refl }

-- one more hidden field is written
pub hidden_written : (old ws : Words) (first i n w : ℕ) (hidden : List ℕ) → IsObject old first →
    length hidden ≤ count_in (word old (first + 1)) →
    IsChangedAt old first (with_first (hidden_slots (take i hidden))) ws → slice_get hidden i ≡ Some n →
    i < length hidden → value_in w ≡ Int (pos n) →
    IsChangedAt old first (with_first (hidden_slots (take (i + 1) hidden))) (slice_set ws (first + 2 + i) (Some w))
hidden_written old ws first i n w hidden o fits c e h is =
    record {
      within = record {
        long = step.within.long ∙ c.within.long;
        same = λ j out. step.within.same j (outside j out) ∙ c.within.same j out;
        kept = λ j s. step.within.kept j (c.within.kept j s);
      };
      object = step.object ∙ (ap (λ (v : Value). with_value i v (object_in ws first)) is
          ∙ (ap (with_value i (Int (pos n))) c.object ∙ hidden_more hidden (object_in old first) i n e in_old));
    }
  where
    slots_old : length (object_in old first).slots ≡ count_in (word old (first + 1))
    slots_old = object_count old first

    in_old : i < length (object_in old first).slots
    in_old = omega (arith, h, fits, slots_old)

    count : count_in (word ws (first + 1)) ≡ count_in (word old (first + 1))
    count =
        let few : length (take i hidden) ≤ length (object_in old first).slots =
        omega (arith, short hidden i, fits, slots_old) in
        sym (object_count ws first)
        ∙ (ap (λ (x : Object). length x.slots) c.object
        ∙ (long (take i hidden) (object_in old first).slots few ∙ slots_old))

    step : IsChangedAt ws first (with_value i (value_in w)) (slice_set ws (first + 2 + i) (Some w))
    step =
        slot_changed ws first i w (omega (arith, o.within, count, c.within.long))
        (omega (arith, h, fits, count))

    outside : (j : ℕ) → (j < first) ⊎ (first + 2 + count_in (word old (first + 1)) ≤ j) →
        (j < first) ⊎ (first + 2 + count_in (word ws (first + 1)) ≤ j)
    outside j (inl l) = inl l
    outside j (inr l) = inr (omega (arith, l, count))

pub all_hidden : (old ws : Words) (first i : ℕ) (hidden : List ℕ) →
    IsChangedAt old first (with_first (hidden_slots (take i hidden))) ws → length hidden ≤ i →
    IsChangedAt old first (with_first (hidden_slots hidden)) ws
all_hidden old ws first i hidden c h =
    subst (λ (xs : List ℕ). IsChangedAt old first (with_first (hidden_slots xs)) ws) (take_all i hidden h) c

-- ---- whether they can be set

-- a test that says no
pub not_is : (a b : Bool) → a ≡ not b → b ≡ not a
not_is true true e = absurd (cc)
not_is true false e = refl
not_is false true e = refl
not_is false false e = absurd (cc)

pub small : (hidden : List ℕ) → list_any (λ n. not (nat_lt n wide_limit)) hidden ≡ false → (i n : ℕ) →
    slice_get hidden i ≡ Some n → n < wide_limit
small [] none i n e = absurd (cc)
small (x ∷ hidden) none i n e = go (nat_lt x wide_limit) refl (λ rest k g. small hidden rest k n g) i e
  where
    go : (b : Bool) → nat_lt x wide_limit ≡ b →
        (list_any (λ n. not (nat_lt n wide_limit)) hidden ≡ false → (k : ℕ) → slice_get hidden k ≡ Some n →
        n < wide_limit) → (i : ℕ) → slice_get (x ∷ hidden) i ≡ Some n → n < wide_limit
    go false t more i e =
        let first : not (nat_lt x wide_limit) ≡ true = ap (λ (z : Bool). not z) t in
        let any : list_any (λ n. not (nat_lt n wide_limit)) (x ∷ hidden) ≡ true =
        ap (λ (z : Bool). z || list_any (λ n. not (nat_lt n wide_limit)) hidden) first in
        absurd (cc)
    go true t more zero e =
        let same : x ≡ n = cc in
        let t_n : nat_lt n wide_limit ≡ true = ap (λ (z : ℕ). nat_lt z wide_limit) (sym same) ∙ t in
        grind (arith, nat_tests)
    go true t more (suc i) e =
        let first : not (nat_lt x wide_limit) ≡ false = ap (λ (z : Bool). not z) t in
        let any : list_any (λ n. not (nat_lt n wide_limit)) (x ∷ hidden)
        ≡ list_any (λ n. not (nat_lt n wide_limit)) hidden =
        ap (λ (z : Bool). z || list_any (λ n. not (nat_lt n wide_limit)) hidden) first in
        more (sym any ∙ none) i e

pub refuses_few : (o : Object) (hidden : List ℕ) → length o.slots < length hidden →
    refuses_hidden (Some o) hidden ≡ true
unfolding refuses_hidden
refuses_few o hidden h =
    let t : nat_lt (length o.slots) (length hidden) ≡ true = grind (arith, nat_tests) in
    ap (λ (z : Bool). z || list_any (λ n. not (nat_lt n wide_limit)) hidden) t

pub refuses_by_size : (o : Object) (hidden : List ℕ) → length hidden ≤ length o.slots →
    refuses_hidden (Some o) hidden ≡ list_any (λ n. not (nat_lt n wide_limit)) hidden
unfolding refuses_hidden
refuses_by_size o hidden h =
    let t : nat_lt (length o.slots) (length hidden) ≡ false = grind (arith, nat_tests) in
    ap (λ (z : Bool). z || list_any (λ n. not (nat_lt n wide_limit)) hidden) t

refuses_none : (hidden : List ℕ) → refuses_hidden None hidden ≡ false
unfolding refuses_hidden
refuses_none hidden = refl

module _ (ws : Words) (areas : List AreaRow) (objects : List ObjectRow) (m : Past) (kept : IsKept ws areas objects m)
    (r : ℕ) (hidden : List ℕ) where
  pub allows_live : AllowsHidden ws objects r hidden → refuses_hidden (live_object m.contents r) hidden ≡ false
  allows_live (listed first l e) =
      ap (λ (o : Option Object). refuses_hidden o hidden) (sym (found_is ws areas objects m kept r first l)) ∙ e
  allows_live (unlisted n) =
      ap (λ (o : Option Object). refuses_hidden o hidden) (sym (unfound_is ws areas objects m kept r n))
      ∙ refuses_none hidden

  pub refuses_live : RefusesHidden ws objects r hidden → refuses_hidden (live_object m.contents r) hidden ≡ true
  refuses_live h =
      ap (λ (o : Option Object). refuses_hidden o hidden) (sym (found_is ws areas objects m kept r h.first h.is_listed))
      ∙ h.refuses

  enough : (o : Object) → IsLive m.contents r o → AllowsHidden ws objects r hidden → length hidden ≤ length o.slots
  enough o l a = go (three (length o.slots) (length hidden))
    where
      allowed : refuses_hidden (Some o) hidden ≡ false
      allowed =
          ap (λ (x : Option Object). refuses_hidden x hidden) (sym (live_is m.contents r o l)) ∙ allows_live a

      go : (length o.slots < length hidden) ⊎ ((length o.slots ≡ length hidden) ⊎ (length hidden < length o.slots)) →
          length hidden ≤ length o.slots
      go (inl h) =
          let refused : refuses_hidden (Some o) hidden ≡ true = refuses_few o hidden h in
          let free : refuses_hidden (Some o) hidden ≡ false = allowed in
          absurd (cc)
      go (inr (inl e)) = omega (arith, e)
      go (inr (inr h)) = omega (arith, h)

  pub hidden_kept : (us : Words) → IsChangedIn ws objects r (with_first (hidden_slots hidden)) us →
      AllowsHidden ws objects r hidden →
      IsKept us areas objects (record m {
        contents = changing_object m.contents r (with_first (hidden_slots hidden));
      })
  hidden_kept us done a =
      changed_kept ws us areas objects m r (with_first (hidden_slots hidden)) kept (λ o. refl)
      (λ o l. long hidden o.slots (enough o l a)) done

-- ---- what the change makes of the past

pub after_hidden : (m : Past) (r : ℕ) (hidden : Bor (List ℕ)) →
    after m (SetHidden r hidden)
    ≡ record m { contents = changing_object m.contents r (with_first (hidden_slots hidden.now)) }
unfolding after
after_hidden m r hidden = refl
