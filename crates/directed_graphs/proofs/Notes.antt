-- Marks and lists of vertices.
use Rattle.std.specs.Prelude.{◌⊎◌, Contains, slice_set, slice_index_or, replicate}
use Rattle.std.proofs.Common.{◌≡◌, ℕ, zero, suc, ◌+◌, ◌<◌, ◌≤◌, List, [], ◌∷◌, ◌++◌, length, Bool, true, false, refl, sym, ap, subst, arith, inl, inr, ⊎_elim, length-append}
use Rattle.std.proofs.lemmas.List.Elements.{Contains-append_left, Contains-push, Contains-push_cases}
use Rattle.directed_graphs.specs.Graphs.{count_of, AreNoted}

count_set : (marks : List Bool) (v : ℕ) → v < length marks → slice_index_or marks v false ≡ false →
    count_of (slice_set marks v true) ≡ suc (count_of marks)
unfolding count_of
count_set [] v l e = absurd (omega (arith, l))
count_set (m ∷ marks) zero l e =
    let a : m ≡ false = e in rw a (omega arith)
count_set (m ∷ marks) (suc v) l e =
    let a = count_set marks v (omega (arith, l)) e in omega (arith, a)

pub count_few : (marks : List Bool) → count_of marks ≤ length marks
unfolding count_of
count_few [] = omega arith
count_few (true ∷ marks) = let a = count_few marks in omega (arith, a)
count_few (false ∷ marks) = let a = count_few marks in omega (arith, a)

set_same : (marks : List Bool) (v : ℕ) → v < length marks → slice_index_or (slice_set marks v true) v false ≡ true
set_same [] v l = absurd (omega (arith, l))
set_same (m ∷ marks) zero l = refl
set_same (m ∷ marks) (suc v) l = set_same marks v (omega (arith, l))

set_cases : (marks : List Bool) (v w : ℕ) → slice_index_or (slice_set marks v true) w false ≡ true →
    (slice_index_or marks w false ≡ true) ⊎ (w ≡ v)
set_cases [] v w e = inl e
set_cases (m ∷ marks) zero zero e = inr refl
set_cases (m ∷ marks) zero (suc w) e = inl e
set_cases (m ∷ marks) (suc v) zero e = inl e
set_cases (m ∷ marks) (suc v) (suc w) e = ⊎_elim (λ h. inl h) (λ h. inr (ap suc h)) (set_cases marks v w e)

set_keeps : (marks : List Bool) (v w : ℕ) → slice_index_or marks w false ≡ true →
    slice_index_or (slice_set marks v true) w false ≡ true
set_keeps [] v w e = e
set_keeps (m ∷ marks) zero zero e = refl
set_keeps (m ∷ marks) zero (suc w) e = e
set_keeps (m ∷ marks) (suc v) zero e = e
set_keeps (m ∷ marks) (suc v) (suc w) e = set_keeps marks v w e

pub noted_more : (marks : List Bool) (found : List ℕ) (v : ℕ) → AreNoted marks found → v < length marks →
    slice_index_or marks v false ≡ false → AreNoted (slice_set marks v true) (found ++ v ∷ [])
noted_more marks found v noted l e = record {
  listed = λ w h.
      ⊎_elim (λ k. Contains-append_left found (v ∷ []) w (noted.listed w k))
      (λ (k : w ≡ v). subst (λ x. Contains (found ++ v ∷ []) x) (sym k) (Contains-push found v))
      (set_cases marks v w h);
  marked = λ w h.
      ⊎_elim (λ k. set_keeps marks v w (noted.marked w k))
      (λ (k : v ≡ w). subst (λ x. slice_index_or (slice_set marks v true) x false ≡ true) k (set_same marks v l))
      (Contains-push_cases found v w h);
  once =
      let a = count_set marks v l e in
      let b = noted.once in
      let c : length (found ++ v ∷ []) ≡ length found + 1 = length-append found (v ∷ []) in
      omega (arith, a, b, c);
}

all_false : (n v : ℕ) → slice_index_or (replicate n false) v false ≡ false
all_false zero v = refl
all_false (suc n) zero = refl
all_false (suc n) (suc v) = all_false n v

count_none : (n : ℕ) → count_of (replicate n false) ≡ 0
unfolding count_of
count_none zero = refl
count_none (suc n) = let e = count_none n in omega (arith, e)

-- where none is marked, none is listed
pub noted_none : (n : ℕ) (marks : List Bool) (found : List ℕ) → marks ≡ replicate n false → found ≡ [] →
    AreNoted marks found
noted_none n marks found e f = record {
  listed = λ v h. absurd (let a = ap (λ ms. slice_index_or ms v false) e in let b = all_false n v in cc (a, b, h));
  marked = λ v c. absurd (let l = subst (λ xs. Contains xs v) f c in let m = l.1 in omega (arith, m));
  once =
      let a = ap (λ ms. count_of ms) e in
      let b = count_none n in
      let c : length found ≡ 0 = ap (λ xs. length xs) f in omega (arith, a, b, c);
}
