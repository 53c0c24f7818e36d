-- The hidden slots of an object that are set, and its ceiling, keep the heap.
use Rattle.std.specs.Prelude.{Option, Some, None, slice_get, drop, ◌-◌, ◌+◌, ◌++◌, nat_lt, if◌then◌else◌, ℤ}
use Rattle.std.proofs.Common.{◌≡◌, ℕ, zero, suc, ◌<◌, ◌≤◌, List, [], ◌∷◌, length, Bool, true, false, refl, sym, ◌∙◌, ap, subst, arith, ◌⊎◌, inl, inr, length-append}
use Rattle.std.proofs.lemmas.Bool.Decides.{nat_tests}
use Rattle.scj_base.specs.declared.values.Value.{Value}
use Rattle.scj_base.specs.declared.values.Value.TheVariants.{Int}
use Rattle.scj_rules.specs.declared.typing.Ty.{Ty}
use Rattle.scj_rules.specs.declared.views.Declared.{Declared}
use Rattle.scj_rules.specs.Words.{◌>>=◌}
use Rattle.scj_rules.specs.Classes.{hidden_fields, instance_fields}
use Rattle.scj_rules.specs.Contexts.{Declarations}
use Rattle.scj_rules.specs.Layout.{slots}
use Rattle.accepted_laws.specs.Kinds.{Kind, number, kind_of_field}
use Rattle.accepted_laws.proofs.Lists.{get_within}
use Rattle.accepted_laws.proofs.Tools.{some_inj}
use Rattle.scj_model.specs.State.{MemoryArea, Object, changed}
use Rattle.scj_model.specs.Apply.{with_first, with_ceiling}
use Rattle.scope_flow.specs.Slots.{array_type, kind_of_elements, kind_of_own_slot, kind_of_slot}
use Rattle.scope_flow.proofs.Known.{bool_cases}
use Rattle.frame_sound.specs.Places.{World, within, held, Has}
use Rattle.frame_sound.specs.Fine.{ObjectFine, HeapFine}
use Rattle.frame_sound.specs.EffectsFine.{AreInts, HiddenFine}
use Rattle.frame_sound.proofs.Changes.{look, heap_changed}

-- ---- lists

pub length_drop : (n : ℕ) (xs : List Value) → length (drop n xs) ≡ length xs - n
length_drop zero xs = let e : length xs ≡ length xs - 0 = omega arith in e
length_drop (suc n) [] = let e : 0 ≡ 0 - suc n = omega arith in e
length_drop (suc n) (x ∷ xs) = let e : length xs - n ≡ suc (length xs) - suc n = omega arith in length_drop n xs ∙ e

get_dropped : (n : ℕ) (xs : List Value) (i : ℕ) → slice_get (drop n xs) i ≡ slice_get xs (n + i)
get_dropped zero xs i = let e : i ≡ 0 + i = omega arith in ap (slice_get xs) e
get_dropped (suc n) [] i = let e : suc (n + i) ≡ suc n + i = omega arith in ap (λ k. slice_get {X = Value} [] k) e
get_dropped (suc n) (x ∷ xs) i =
    let e : suc (n + i) ≡ suc n + i = omega arith in get_dropped n xs i ∙ ap (λ k. slice_get (x ∷ xs) k) e

get_front : (xs ys : List Value) (i : ℕ) → i < length xs → slice_get (xs ++ ys) i ≡ slice_get xs i
get_front [] ys i l = absurd (omega (arith, l))
get_front (x ∷ xs) ys zero l = refl
get_front (x ∷ xs) ys (suc i) l = get_front xs ys i (omega (arith, l))

get_behind : (xs ys : List Value) (i : ℕ) → length xs ≤ i → slice_get (xs ++ ys) i ≡ slice_get ys (i - length xs)
get_behind [] ys i l = let e : i ≡ i - 0 = omega arith in ap (slice_get ys) e
get_behind (x ∷ xs) ys zero l = absurd (omega (arith, l))
get_behind (x ∷ xs) ys (suc i) l =
    let e : i - length xs ≡ suc i - suc (length xs) = omega arith in
    get_behind xs ys i (omega (arith, l)) ∙ ap (slice_get ys) e

ints_at : (vs : List Value) → AreInts vs → (i : ℕ) (v : Value) → slice_get vs i ≡ Some v → (z : ℤ) × (v ≡ Int z)
ints_at [] h i v e = absurd (cc (e))
ints_at (x ∷ vs) h zero v e = (h.0.0, sym (some_inj x v e) ∙ h.0.1)
ints_at (x ∷ vs) h (suc i) v e = ints_at vs h.1 i v e

-- ---- a slot that has a kind is one of the slots

slot_within : (p : Declarations) (class slot : ℕ) (k : Kind) → kind_of_own_slot p class slot ≡ Some k →
    slot < slots p class
unfolding kind_of_own_slot slots
slot_within p class slot k e = go (bool_cases (nat_lt slot (hidden_fields p.classes class)))
  where
    field : (o : Option Declared) → slice_get (instance_fields p.classes class) (slot - hidden_fields p.classes class)
        ≡ o →
        o >>= kind_of_field p ≡ Some k → slot - hidden_fields p.classes class < length (instance_fields p.classes class)
    field None f g = absurd (cc (g))
    field (Some d) f g = get_within (instance_fields p.classes class) (slot - hidden_fields p.classes class) d f

    go : (nat_lt slot (hidden_fields p.classes class) ≡ true) ⊎ (nat_lt slot (hidden_fields p.classes class) ≡ false) →
        slot < hidden_fields p.classes class + length (instance_fields p.classes class)
    go (inl t) = let l : slot < hidden_fields p.classes class = grind (arith, nat_tests) in omega (arith, l)
    go (inr t) =
        let l : hidden_fields p.classes class ≤ slot = grind (arith, nat_tests) in
        let q = field (slice_get (instance_fields p.classes class) (slot - hidden_fields p.classes class)) refl
        (ap (λ (b : Bool). if b then Some number
        else (slice_get (instance_fields p.classes class) (slot - hidden_fields p.classes class)
        >>= kind_of_field p)) (sym t) ∙ e) in
        omega (arith, l, q)

own_slot : (p : Declarations) (class slot : ℕ) (k : Kind) → array_type p class ≡ None →
    kind_of_slot p class slot ≡ Some k → kind_of_own_slot p class slot ≡ Some k
unfolding kind_of_slot
own_slot p class slot k n e =
    sym (ap
    (λ (o : Option Ty). elim o as (λ z. Option Kind) [
      | None ↦ kind_of_own_slot p class slot
      | Some t ↦ kind_of_elements p t
    ]) n) ∙ e

-- hidden slots are some of the slots
pub hidden_fit : (p : Declarations) (class n : ℕ) → array_type p class ≡ None →
    ((i : ℕ) → i < n → kind_of_slot p class i ≡ Some number) → n ≤ slots p class
hidden_fit p class zero none h = omega arith
hidden_fit p class (suc n) none h =
    let l : n < slots p class = slot_within p class n number (own_slot p class n number none (h n (omega arith))) in
    omega (arith, l)

module _ (p : Declarations) (areas : ℕ → Option MemoryArea) (objects : List Object) (r : ℕ) where
  pub heap_hidden : (values : List Value) → HeapFine p (look areas objects) →
      HiddenFine p (look areas objects) r values →
      HeapFine p (look areas (changed (with_first values) r objects))
  unfolding held
  heap_hidden values heap s =
      heap_changed p areas objects (with_first values) (λ o. refl) (λ o. refl) r heap (λ x there f. record {
        is_instance = f.is_instance;
        area = f.area;
        is_area = f.is_area;
        is_placed = f.is_placed;
        reach = f.reach;
        is_full = λ e. full x there f e ∙ f.is_full e;
        has = λ i k v is found. has x there f i k v is found (bool_cases (nat_lt i (length values)));
      })
    where
      now_ : World
      now_ = look areas (changed (with_first values) r objects)

      is_same : (x : Object) → slice_get objects r ≡ Some x → s.object ≡ x
      is_same x there = some_inj s.object x (sym s.found ∙ there)

      hidden : (x : Object) → slice_get objects r ≡ Some x → (i : ℕ) → i < length values →
          kind_of_slot p x.class i ≡ Some number
      hidden x there i l =
          ap (λ (o : Object). kind_of_slot p o.class i) (sym (is_same x there)) ∙ (s.are_hidden i l).1

      full : (x : Object) → slice_get objects r ≡ Some x → ObjectFine p now_ x → array_type p x.class ≡ None →
          length (values ++ drop (length values) x.slots) ≡ length x.slots
      full x there f e =
          let l : length values ≤ slots p x.class = hidden_fit p x.class (length values) e (hidden x there) in
          let a = length-append values (drop (length values) x.slots) in
          let d = length_drop (length values) x.slots in
          let n = f.is_full e in omega (arith, l, a, d, n)

      has : (x : Object) → slice_get objects r ≡ Some x → ObjectFine p now_ x → (i : ℕ) (k : Kind) (v : Value) →
          kind_of_slot p x.class i ≡ Some k → slice_get (values ++ drop (length values) x.slots) i ≡ Some v →
          (nat_lt i (length values) ≡ true) ⊎ (nat_lt i (length values) ≡ false) →
          Has p now_ (held (within areas x.area) k) v
      has x there f i k v is found (inl t) =
          let l : i < length values = grind (arith, nat_tests) in
          let z = ints_at values s.are_ints i v (sym (get_front values _ i l) ∙ found) in
          subst (λ k. Has p now_ (held (within areas x.area) k) v) (some_inj number k (sym (hidden x there i l) ∙ is)) z
      has x there f i k v is found (inr t) =
          let l : length values ≤ i = grind (arith, nat_tests) in
          let e : length values + (i - length values) ≡ i = omega (arith, l) in
          f.has i k v is
          (sym (ap (λ j. slice_get x.slots j) e)
          ∙ (sym (get_dropped (length values) x.slots (i - length values))
          ∙ (sym (get_behind values (drop (length values) x.slots) i l) ∙ found)))

  pub heap_ceiling : (ceiling : ℕ) → HeapFine p (look areas objects) →
      HeapFine p (look areas (changed (with_ceiling ceiling) r objects))
  heap_ceiling ceiling heap =
      heap_changed p areas objects (with_ceiling ceiling) (λ o. refl) (λ o. refl) r heap (λ x there f. record {
        is_instance = f.is_instance;
        area = f.area;
        is_area = f.is_area;
        is_placed = f.is_placed;
        reach = f.reach;
        is_full = f.is_full;
        has = f.has;
      })
