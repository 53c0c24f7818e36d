-- The steps of the walk as lists that code changes, and that each leaves fewer steps.
use Rattle.std.specs.Prelude.{◌⊎◌, Contains, slice_get, slice_set, slice_index_or, take, drop, nat_lt, if◌then◌else◌, IfSome, Option, Some}
use Rattle.std.proofs.Common.{◌≡◌, ℕ, zero, suc, ◌+◌, ◌-◌, ◌<◌, ◌≤◌, List, [], ◌∷◌, ◌++◌, length, Bool, true, false, refl, sym, ◌∙◌, ap, subst, arith, inl, inr, ⊎_elim, length-append}
use Rattle.std.proofs.lemmas.Bool.{cases_eq}
use Rattle.std.proofs.lemmas.Bool.Decides.{nat_tests}
use Rattle.std.proofs.lemmas.List.{length-set, get_or-set_same, get_or-set_other}
use Rattle.std.proofs.lemmas.List.Elements.{Contains-append_left, Contains-push, Contains-push_cases}
use Rattle.directed_graphs.specs.declared.order.Group.{Group}
use Rattle.directed_graphs.specs.declared.order.Mark.{Mark}
use Rattle.directed_graphs.specs.declared.order.Mark.TheVariants.{Unseen, OnPath, Done}
use Rattle.directed_graphs.specs.Graphs.{Graph, successors}
use Rattle.directed_graphs.specs.Walks.{Walk, level, mark_of, IsMerged, marked_loop, entered, AreSet, steps_unseen, steps_left, SeesMore}

-- ---- groups that begin behind a place

pub record IsBehind (groups : List Group) (index count : ℕ) : Type 0 where
  pub within : count ≤ length groups
  pub behind : (k : ℕ) (g : Group) → slice_get groups k ≡ Some g → count ≤ k → index < g.vertex

-- ---- the last group that is kept

split_at : {A : Type 0} (xs : List A) (k : ℕ) (x : A) → slice_get xs k ≡ Some x →
    xs ≡ take k xs ++ x ∷ drop (suc k) xs
split_at [] k x e = absurd (cc (e))
split_at (y ∷ xs) zero x e = (let same : y ≡ x = cc (e) in ap (λ z. z ∷ xs) same)
split_at (y ∷ xs) (suc k) x e = ap (λ zs. y ∷ zs) (split_at xs k x e)

set_at_last : {A : Type 0} (xs : List A) (k : ℕ) (x y : A) → slice_get xs k ≡ Some x →
    slice_set (take (suc k) xs) k y ≡ take k xs ++ y ∷ []
set_at_last [] k x y e = absurd (cc (e))
set_at_last (z ∷ xs) zero x y e = refl
set_at_last (z ∷ xs) (suc k) x y e = ap (λ zs. z ∷ zs) (set_at_last xs k x y e)

get_behind : {A : Type 0} (xs : List A) (n j : ℕ) (x : A) → slice_get (drop n xs) j ≡ Some x → slice_get xs (n + j) ≡ Some x
get_behind xs zero j x e = (let same : 0 + j ≡ j = omega arith in ap (slice_get xs) same ∙ e)
get_behind [] (suc n) j x e = absurd (cc (e))
get_behind (y ∷ xs) (suc n) j x e =
    (let same : suc n + j ≡ suc (n + j) = omega arith in ap (slice_get (y ∷ xs)) same ∙ get_behind xs n j x e)

pub merged_is : (m : Walk) (index k : ℕ) (g : Group) → slice_get m.groups k ≡ Some g → g.vertex ≤ index →
    ((j : ℕ) (h : Group) → slice_get m.groups j ≡ Some h → k + 1 ≤ j → index < h.vertex) →
    IsMerged m index (record m { groups = slice_set (take (k + 1) m.groups) k (marked_loop g) })
merged_is m index k g e from behind = record {
  first = take k m.groups;
  last = g;
  more = drop (suc k) m.groups;
  split = split_at m.groups k g e;
  from = from;
  behind = λ j h p. behind (suc k + j) h (get_behind m.groups (suc k) j h p) (omega arith);
  is = (let one : k + 1 ≡ suc k = omega arith in
      ap (λ n. record m { groups = slice_set (take n m.groups) k (marked_loop g) }) one
      ∙ ap (λ gs. record m { groups = gs }) (set_at_last m.groups k g (marked_loop g) e));
}

get_taken : {A : Type 0} (xs : List A) (n k : ℕ) (x : A) → slice_get (take n xs) k ≡ Some x → slice_get xs k ≡ Some x
get_taken xs zero k x e = absurd (cc (e))
get_taken [] (suc n) k x e = absurd (cc (e))
get_taken (y ∷ xs) (suc n) zero x e = e
get_taken (y ∷ xs) (suc n) (suc k) x e = get_taken xs n k x e

get_of : {A : Type 0} (xs : List A) (k : ℕ) (d : A) → k < length xs → slice_get xs k ≡ Some (slice_index_or xs k d)
get_of [] k d l = absurd (omega (arith, l))
get_of (x ∷ xs) zero d l = refl
get_of (x ∷ xs) (suc k) d l = get_of xs k d (omega (arith, l))

-- of so many groups the last one is marked, and the others are let go
pub merges : (m : Walk) (index count : ℕ) (groups kept : List Group) (now : Group) → groups ≡ m.groups →
    kept ≡ take count m.groups → 0 < count →
    ((j : ℕ) (h : Group) → slice_get groups j ≡ Some h → count ≤ j → index < h.vertex) →
    (0 < count → IfSome (slice_get groups (count - 1)) (λ g. g.vertex ≤ index)) →
    count - 1 < length kept → now ≡ slice_index_or kept (count - 1) now →
    IsMerged m index (record m { groups = slice_set kept (count - 1) (marked_loop now) })
merges m index count groups kept now same is some behind last long value =
    let kept_there : slice_get kept (count - 1) ≡ Some now =
    get_of kept (count - 1) now long ∙ ap (λ x. Some x) (sym value) in
    let there : slice_get m.groups (count - 1) ≡ Some now =
    get_taken m.groups count (count - 1) now
    (ap (λ (gs : List Group). slice_get gs (count - 1)) (sym is) ∙ kept_there) in
    let one : count - 1 + 1 ≡ count = omega (arith, some) in
    let found : slice_get groups (count - 1) ≡ Some now =
    ap (λ (gs : List Group). slice_get gs (count - 1)) same ∙ there in
    subst (λ (gs : List Group). IsMerged m index (record m { groups = slice_set gs (count - 1) (marked_loop now) }))
    (ap (λ n. take n m.groups) one ∙ sym is)
    (merged_is m index (count - 1) now there
    (subst (λ (o : Option Group). IfSome o (λ g. g.vertex ≤ index)) found (last some))
    (λ j h e l. behind j h (ap (λ (gs : List Group). slice_get gs j) same ∙ e) (omega (arith, l, one))))

-- where all groups begin behind a place, none is of it
pub no_level : (gs : List Group) (index : ℕ) →
    ((j : ℕ) (h : Group) → slice_get gs j ≡ Some h → index < h.vertex) → level (λ (g : Group). g.vertex) gs index ≡ 0
unfolding level
no_level [] index behind = refl
no_level (g ∷ gs) index behind =
    of (nat_lt index g.vertex) refl (no_level gs index (λ j h q. behind (suc j) h q))
  where
    of : (b : Bool) → nat_lt index g.vertex ≡ b → level (λ (g : Group). g.vertex) gs index ≡ 0 →
        (if b then 0 else 1) + level (λ (g : Group). g.vertex) gs index ≡ 0
    of true e rest = omega (arith, rest)
    of false e rest = absurd (let l = behind 0 g refl in grind (arith, nat_tests, l, e))

-- ---- what is told of listed vertices

pub set_none : {A : Type 0} (default value : A) (xs : List A) → AreSet default value [] xs xs
set_none default value xs = record { whole = refl; each = λ v. inr ((λ c. let l = c.1 in omega (arith, l)), refl) }

pub set_more : {A : Type 0} (default value : A) (list : List ℕ) (before now : List A) (v : ℕ) →
    AreSet default value list before now → v < length now →
    AreSet default value (list ++ v ∷ []) before (slice_set now v value)
set_more default value list before now v s l = record {
  whole = length-set now v value ∙ s.whole;
  each = λ u. of u (cases_eq u v) (s.each u);
}
  where
    Case : ℕ → Type 0
    Case u =
        (Contains list u × (slice_index_or now u default ≡ value))
        ⊎ ((Contains list u → ⊥) × (slice_index_or now u default ≡ slice_index_or before u default))

    of : (u : ℕ) → (u ≡ v) ⊎ (u ≡ v → ⊥) → Case u →
        (Contains (list ++ v ∷ []) u × (slice_index_or (slice_set now v value) u default ≡ value))
        ⊎ ((Contains (list ++ v ∷ []) u → ⊥)
        × (slice_index_or (slice_set now v value) u default ≡ slice_index_or before u default))
    of u (inl same) k =
        inl (
          subst (Contains (list ++ v ∷ [])) (sym same) (Contains-push list v),
          ap (λ j. slice_index_or (slice_set now v value) j default) same ∙ get_or-set_same now v value default l,
        )
    of u (inr n) (inl k) =
        inl (Contains-append_left list (v ∷ []) u k.0, get_or-set_other now v u value default n ∙ k.1)
    of u (inr n) (inr k) =
        inr (
          (λ c. ⊎_elim (λ h. k.0 h) (λ (h : v ≡ u). n (sym h)) (Contains-push_cases list v u c)),
          get_or-set_other now v u value default n ∙ k.1,
        )

-- ---- fewer steps are left

pub unseen_less : (graph : Graph) (ms ns : List Mark) → length ns ≡ length ms →
    ((v : ℕ) → slice_index_or ns v Unseen ≡ Unseen → slice_index_or ms v Unseen ≡ Unseen) →
    steps_unseen graph ns ≤ steps_unseen graph ms
unfolding steps_unseen
unseen_less [] ms ns e h = omega arith
unseen_less (row ∷ graph) [] [] e h = omega arith
unseen_less (row ∷ graph) [] (n ∷ ns) e h = absurd (cc (e))
unseen_less (row ∷ graph) (m ∷ ms) [] e h = absurd (cc (e))
unseen_less (row ∷ graph) (m ∷ ms) (n ∷ ns) e h =
    of m n (h 0) (unseen_less graph ms ns (omega (arith, e)) (λ v q. h (suc v) q))
  where
    of : (a b : Mark) → (b ≡ Unseen → a ≡ Unseen) → steps_unseen graph ns ≤ steps_unseen graph ms →
        steps_unseen (row ∷ graph) (b ∷ ns) ≤ steps_unseen (row ∷ graph) (a ∷ ms)
    of Unseen Unseen k l = omega (arith, l)
    of (OnPath p) Unseen k l = absurd (let q = k refl in cc (q))
    of Done Unseen k l = absurd (let q = k refl in cc (q))
    of Unseen (OnPath p) k l = omega (arith, l)
    of (OnPath q) (OnPath p) k l = l
    of Done (OnPath p) k l = l
    of Unseen Done k l = omega (arith, l)
    of (OnPath q) Done k l = l
    of Done Done k l = l

pub unseen_entered : (graph : Graph) (ms : List Mark) (w k : ℕ) → w < length graph → w < length ms →
    slice_index_or ms w Unseen ≡ Unseen →
    steps_unseen graph (slice_set ms w (OnPath k)) + (length (successors graph w) + 2) ≡ steps_unseen graph ms
unfolding steps_unseen
unseen_entered [] ms w k l n e = absurd (omega (arith, l))
unseen_entered (row ∷ graph) [] w k l n e = absurd (omega (arith, n))
unseen_entered (row ∷ graph) (Unseen ∷ ms) zero k l n e = omega arith
unseen_entered (row ∷ graph) (OnPath p ∷ ms) zero k l n e = absurd (cc (e))
unseen_entered (row ∷ graph) (Done ∷ ms) zero k l n e = absurd (cc (e))
unseen_entered (row ∷ graph) (Unseen ∷ ms) (suc w) k l n e =
    let a = unseen_entered graph ms w k (omega (arith, l)) (omega (arith, n)) e in omega (arith, a)
unseen_entered (row ∷ graph) (OnPath p ∷ ms) (suc w) k l n e =
    unseen_entered graph ms w k (omega (arith, l)) (omega (arith, n)) e
unseen_entered (row ∷ graph) (Done ∷ ms) (suc w) k l n e =
    unseen_entered graph ms w k (omega (arith, l)) (omega (arith, n)) e

-- an edge is taken, and its vertex is entered
pub entering_steps : (graph : Graph) (m : Walk) (w : ℕ) → w < length graph → length m.marks ≡ length graph →
    mark_of m w ≡ Unseen → steps_left graph (entered graph m w) + 1 ≡ steps_left graph m
entering_steps graph m w l whole unseen =
    let a = unseen_entered graph m.marks w (length m.path) l (omega (arith, l, whole)) unseen in
    let b = length-append m.edges (successors graph w) in
    let c : length (m.groups ++ record { vertex = length m.path; edge = length m.edges; loops = false } ∷ [])
    ≡ length m.groups + 1 =
    length-append m.groups (record { vertex = length m.path; edge = length m.edges; loops = false } ∷ []) in
    omega (arith, a, b, c)

-- what was seen is seen
pub entering_sees : (graph : Graph) (m : Walk) (w : ℕ) → w < length m.marks → SeesMore m (entered graph m w)
entering_sees graph m w l = record { is = λ v e. of v e (cases_eq v w) }
  where
    of : (v : ℕ) → slice_index_or (slice_set m.marks w (OnPath (length m.path))) v Unseen ≡ Unseen →
        (v ≡ w) ⊎ (v ≡ w → ⊥) → mark_of m v ≡ Unseen
    of v e (inl same) =
        absurd (let a = get_or-set_same m.marks w (OnPath (length m.path)) Unseen l in
        let b = ap (λ u. slice_index_or (slice_set m.marks w (OnPath (length m.path))) u Unseen) same in cc (a, b, e))
    of v e (inr n) = sym (get_or-set_other m.marks w v (OnPath (length m.path)) Unseen n) ∙ e
