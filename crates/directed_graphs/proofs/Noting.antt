-- Vertices that are noted one after the other.
use Rattle.std.specs.Prelude.{Contains, slice_index_or, nat_lt}
use Rattle.std.proofs.Common.{◌≡◌, ℕ, ◌+◌, ◌<◌, ◌≤◌, List, [], ◌++◌, length, Bool, true, false, refl, sym, ◌∙◌, ap, subst, arith, ⊎_elim, append_assoc, append-nil}
use Rattle.std.proofs.lemmas.Bool.Decides.{nat_tests}
use Rattle.std.proofs.lemmas.List.Elements.{Contains-append_left, Contains-append_cases}
use Rattle.directed_graphs.specs.Graphs.{AreNoted, IsLonger}
use Rattle.directed_graphs.proofs.Closed.{any_default, there as at_place}

-- the first vertices of a list are noted
pub record IsNoting (vertices : List ℕ) (count : ℕ) (before : List ℕ) (marks : List Bool) (found : List ℕ) (index : ℕ) : Type 0 where
  pub whole : length marks ≡ count
  pub noted : AreNoted marks found
  pub there : (k : ℕ) → k < index → slice_index_or vertices k 0 < count → Contains found (slice_index_or vertices k 0)
  pub longer : IsLonger before (Contains vertices) found

longer_none : (before : List ℕ) (Is : ℕ → Type 0) → IsLonger before Is before
longer_none before Is = record { more = []; is = sym (append-nil before); each = λ v c. absurd (omega (arith, c.1)) }

longer_more : (before middle after : List ℕ) (Is : ℕ → Type 0) (v : ℕ) → Is v → IsLonger before Is middle →
    IsLonger middle (λ w. w ≡ v) after → IsLonger before Is after
longer_more before middle after Is v is a b = record {
  more = a.more ++ b.more;
  is = b.is ∙ (ap (λ xs. xs ++ b.more) a.is ∙ append_assoc before a.more b.more);
  each = λ w c. ⊎_elim (λ h. a.each w h) (λ h. subst Is (sym (b.each w h)) is) (Contains-append_cases a.more b.more w c);
}

pub noting_first : (vertices : List ℕ) (marks : List Bool) (found : List ℕ) → AreNoted marks found →
    IsNoting vertices (length marks) found marks found 0
noting_first vertices marks found noted = record {
  whole = refl;
  noted = noted;
  there = λ k l m. absurd (omega (arith, l));
  longer = longer_none found (Contains vertices);
}

pub noting_more : (vertices : List ℕ) (count : ℕ) (before : List ℕ) (marks : List Bool) (found : List ℕ) (index : ℕ) →
    IsNoting vertices count before marks found index → index < length vertices → (after : List Bool) (list : List ℕ) →
    length after ≡ length marks → AreNoted after list →
    (slice_index_or vertices index 0 < length marks → Contains list (slice_index_or vertices index 0)) →
    IsLonger found (λ v. v ≡ slice_index_or vertices index 0) list →
    IsNoting vertices count before after list (index + 1)
noting_more vertices count before marks found index n l after list whole noted has longer = record {
  whole = whole ∙ n.whole;
  noted = noted;
  there = λ k m c. of k m c (nat_lt k index) refl;
  longer = longer_more before found list (Contains vertices) (slice_index_or vertices index 0) (at_place vertices index 0 l) n.longer longer;
}
  where
    of : (k : ℕ) → k < index + 1 → slice_index_or vertices k 0 < count → (b : Bool) → nat_lt k index ≡ b →
        Contains list (slice_index_or vertices k 0)
    of k m c true e =
        let i : k < index = grind (arith, nat_tests) in
        subst (λ xs. Contains xs (slice_index_or vertices k 0)) (sym longer.is)
        (Contains-append_left found longer.more (slice_index_or vertices k 0) (n.there k i c))
    of k m c false e =
        let i : index ≡ k = grind (arith, nat_tests, m) in
        let w = n.whole in
        subst (λ j. slice_index_or vertices j 0 < count → Contains list (slice_index_or vertices j 0)) i
        (λ d. has (omega (arith, d, w))) c

pub noting_all : (vertices : List ℕ) (count : ℕ) (before : List ℕ) (marks : List Bool) (found : List ℕ) (index : ℕ) →
    IsNoting vertices count before marks found index → length vertices ≤ index → (v : ℕ) → Contains vertices v →
    v < count → Contains found v
noting_all vertices count before marks found index n l v c m =
    let same : slice_index_or vertices c.0 0 ≡ v = any_default vertices c.0 0 v c.1 ∙ c.2 in
    subst (Contains found) same (n.there c.0 (let i = c.1 in omega (arith, i, l)) (omega (arith, same, m)))
