-- Areas that are closed one by one.
use Rattle.std.specs.Prelude.{Option, Some, None, false, nat_lt, reverse, slice_get, true, ◌==◌, ◌||◌}
use Rattle.std.proofs.Common.{◌≡◌, ◌∙◌, ◌<◌, Bool, ℕ, zero, suc, List, [], ◌∷◌, ◌++◌, length, arith, refl, ap, subst, sym}
use Rattle.std.proofs.lemmas.Bool.{ltb-false}
use Rattle.std.proofs.lemmas.Bool.Decides.{nat_tests}
use Rattle.std.proofs.lemmas.List.{reverse-append}
use Rattle.scj_rules.specs.Words.{holds, is_among}
use Rattle.scj_model.specs.State.{MemoryArea, State, changed}
use Rattle.scj_model.specs.Memory.{closed}
use Rattle.region_heap.specs.Contents.{Contents, closed_area, with_memory}
use Rattle.job_frames.specs.declared.frames.Frame.{Frame as StoredFrame}
use Rattle.job_frames.specs.Frames.{below}
use Rattle.run_state.specs.Standing.{CloseInOrder, ClosesLast, IsOpenedByTop, after_close}

-- the code closes what the definitions close
pub closed_is : (s : State) (m : Contents) (o : Option ℕ) →
    closed (with_memory s m) o ≡ with_memory s (after_close m o)
unfolding closed
closed_is s m None = refl
closed_is s m (Some a) = refl

-- memories with the same areas
abbrev IsOpenIn : List MemoryArea → ℕ → Type 0
IsOpenIn areas a = holds (slice_get areas a) (λ x. x.is_open) ≡ true

last_same : (m n : Contents) (o : Option ℕ) → m.areas ≡ n.areas → ClosesLast m o → ClosesLast n o
last_same m n None e h = tt
last_same m n (Some a) e h =
    record {
      is_open = subst (λ (xs : List MemoryArea). IsOpenIn xs a) e h.is_open;
      last = λ b more there. h.last b more (subst (λ (xs : List MemoryArea). IsOpenIn xs b) (sym e) there);
    }

areas_after : (m n : Contents) (o : Option ℕ) → m.areas ≡ n.areas → (after_close m o).areas ≡ (after_close n o).areas
areas_after m n None e = e
areas_after m n (Some a) e = ap (λ (xs : List MemoryArea). changed closed_area a xs) e

pub closes_same : (m n : Contents) (fs : List StoredFrame) → m.areas ≡ n.areas → CloseInOrder m fs → CloseInOrder n fs
closes_same m n [] e h = tt
closes_same m n (f ∷ fs) e h = (
  last_same m n f.opened e h.0,
  closes_same (after_close m f.opened) (after_close n f.opened) fs (areas_after m n f.opened e) h.1,
)

-- what the highest frame opened is closed first
pub top_closes : (m : Contents) (frames : List StoredFrame) (opened : Option ℕ) → IsOpenedByTop frames opened →
    CloseInOrder m frames → ClosesLast m opened
top_closes m [] opened t h = absurd (let none : None ≡ Some t.frame = t.is in cc)
top_closes m (f ∷ fs) opened t h =
    let same : f ≡ t.frame = cc (t.is) in
    subst (λ (o : Option ℕ). ClosesLast m o) (ap (λ (x : StoredFrame). x.opened) same ∙ sym t.opened_is) h.0

-- where there are no more frames than a job may have, there are fewer without the highest
pub fewer_below : (frames : List StoredFrame) → nat_lt 64 (length frames) ≡ false → length (below frames) < 64
fewer_below [] e = omega arith
fewer_below (f ∷ fs) e = let most = ltb-false 64 (length (f ∷ fs)) e in omega (arith, most)

-- ---- lists of areas

among_behind : (a : ℕ) (xs ys : List ℕ) → is_among a ys ≡ true → is_among a (xs ++ ys) ≡ true
among_behind a [] ys h = h
among_behind a (x ∷ xs) ys h = ap (λ (b : Bool). (a == x) || b) (among_behind a xs ys h) ∙ or_yes (a == x)
  where
    or_yes : (b : Bool) → (b || true) ≡ true
    or_yes true = refl
    or_yes false = refl

among_before : (a : ℕ) (xs ys : List ℕ) → is_among a xs ≡ true → is_among a (xs ++ ys) ≡ true
among_before a [] ys h = absurd (cc (h))
among_before a (x ∷ xs) ys h = go (a == x) refl (among_before a xs ys)
  where
    go : (b : Bool) → (a == x) ≡ b → (is_among a xs ≡ true → is_among a (xs ++ ys) ≡ true) →
        is_among a ((x ∷ xs) ++ ys) ≡ true
    go true e more = ap (λ (c : Bool). c || is_among a (xs ++ ys)) e
    go false e more =
        ap (λ (c : Bool). c || is_among a (xs ++ ys)) e
        ∙ more (sym (ap (λ (c : Bool). c || is_among a xs) e) ∙ h)

-- an element is among them in the other order too
pub among_reversed : (xs : List ℕ) (i a : ℕ) → slice_get xs i ≡ Some a → is_among a (reverse xs) ≡ true
among_reversed [] i a e = absurd (cc)
among_reversed (x ∷ xs) zero a e =
    let same : x ≡ a = cc in
    let one : is_among a (x ∷ []) ≡ true = subst (λ (y : ℕ). is_among y (x ∷ []) ≡ true) same (here x) in
    subst (λ (ys : List ℕ). is_among a ys ≡ true) (sym (reverse-append (x ∷ []) xs))
    (among_behind a (reverse xs) (x ∷ []) one)
  where
    here : (y : ℕ) → is_among y (y ∷ []) ≡ true
    here y = let t : (y == y) ≡ true = grind (arith, nat_tests) in ap (λ (c : Bool). c || false) t
among_reversed (x ∷ xs) (suc i) a e =
    subst (λ (ys : List ℕ). is_among a ys ≡ true) (sym (reverse-append (x ∷ []) xs))
    (among_before a (reverse xs) (x ∷ []) (among_reversed xs i a e))
