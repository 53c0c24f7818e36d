-- From a new area, inside one of its scope's parent, all scopes around its own are reached.
use Rattle.std.specs.Prelude.{Option, Some, None, slice_get, ◌||◌, ◌==◌, ◌++◌, ◌+◌, ◌-◌, if◌then◌else◌}
use Rattle.std.proofs.Common.{◌≡◌, ℕ, zero, suc, ◌<◌, List, [], ◌∷◌, length, Bool, true, false, refl, sym, ◌∙◌, ap, subst, arith, true≢false, ◌⊎◌, inl, inr}
use Rattle.std.proofs.lemmas.Bool.Decides.{nat_tests}
use Rattle.scj_rules.specs.Words.{is_among, chain, ◌>>=◌}
use Rattle.scj_rules.specs.Contexts.{Declarations}
use Rattle.scj_rules.specs.ScopeRules.{immortal_scope, is_outer, parent_scope}
use Rattle.accepted_laws.proofs.Lists.{get_last, get_left, get_within}
use Rattle.accepted_laws.proofs.Tools.{some_inj}
use Rattle.scj_model.specs.State.{MemoryArea}
use Rattle.frame_sound.specs.Places.{area_around}
use Rattle.frame_sound.specs.Fine.{IsInParent, AreasFine}
use Rattle.frame_sound.proofs.Opens.{around_more}

-- ---- chains of parents

chain_step : (next : ℕ → Option ℕ) (n a v : ℕ) →
    ((b : ℕ) → is_among v (chain next n b) ≡ true → is_among v (chain next (suc n) b) ≡ true) →
    is_among v (chain next (suc n) a) ≡ true → is_among v (chain next (suc (suc n)) a) ≡ true
unfolding chain
chain_step next n a v ih h = go (v == a) (next a) h
  where
    go : (t : Bool) (o : Option ℕ) → (t || is_among v (elim o [ None ↦ [] | Some b ↦ chain next n b ])) ≡ true →
        (t || is_among v (elim o [ None ↦ [] | Some b ↦ chain next (suc n) b ])) ≡ true
    go true o h = refl
    go false None h = h
    go false (Some b) h = ih b h

chain_more : (next : ℕ → Option ℕ) (n a v : ℕ) → is_among v (chain next n a) ≡ true →
    is_among v (chain next (suc n) a) ≡ true
unfolding chain
chain_more next zero a v h = absurd (true≢false (sym h))
chain_more next (suc n) a v h = chain_step next n a v (λ b e. chain_more next n b v e) h

outer_chain : (next : ℕ → Option ℕ) (m n name parent : ℕ) → next name ≡ Some parent → (n == name) ≡ false →
    is_among n (chain next m name) ≡ true → is_among n (chain next m parent) ≡ true
unfolding chain
outer_chain next zero n name parent up other h = absurd (true≢false (sym h))
outer_chain next (suc m) n name parent up other h =
    let e : is_among n (chain next m parent) ≡ true =
    sym (ap (λ o. is_among n (elim o [ None ↦ [] | Some b ↦ chain next m b ])) up)
    ∙ (sym (ap (λ t. t || is_among n (elim (next name) [ None ↦ [] | Some b ↦ chain next m b ])) other) ∙ h) in
    chain_more next m parent n e

-- what is around a scope and isn't the scope is around its parent
outer_up : (p : Declarations) (n name parent : ℕ) → parent_scope p name ≡ Some parent → (n == name) ≡ false →
    is_outer p n name ≡ true → is_outer p n parent ≡ true
unfolding is_outer
outer_up p n name parent up other h = go (n == immortal_scope) h
  where
    go : (t : Bool) → (t || is_among n (chain (parent_scope p) (length p.classes) name)) ≡ true →
        (t || is_among n (chain (parent_scope p) (length p.classes) parent)) ≡ true
    go true h = refl
    go false h = outer_chain (parent_scope p) (length p.classes) n name parent up other h

-- ---- with a larger bound

around_longer : (areas : ℕ → Option MemoryArea) (s d bound a r : ℕ) → area_around areas s bound a ≡ Some r →
    area_around areas s (bound + d) a ≡ Some r
unfolding area_around
around_longer areas s d zero a r e = absurd (cc (e))
around_longer areas s d (suc bound) a r e =
    let n : suc bound + d ≡ suc (bound + d) = omega arith in
    ap (λ m. area_around areas s m a) n ∙ go (areas a) e (λ b r e. around_longer areas s d bound b r e)
  where
    up : (o : Option ℕ) → o >>= area_around areas s bound ≡ Some r →
        ((b r : ℕ) → area_around areas s bound b ≡ Some r → area_around areas s (bound + d) b ≡ Some r) →
        o >>= area_around areas s (bound + d) ≡ Some r
    up None e ih = absurd (cc (e))
    up (Some b) e ih = ih b r e

    pick : (x : MemoryArea) (t : Bool) → (if t then Some a else (x.parent >>= area_around areas s bound)) ≡ Some r →
        ((b r : ℕ) → area_around areas s bound b ≡ Some r → area_around areas s (bound + d) b ≡ Some r) →
        (if t then Some a else (x.parent >>= area_around areas s (bound + d))) ≡ Some r
    pick x true e ih = e
    pick x false e ih = up x.parent e ih

    go : (o : Option MemoryArea) →
        o >>= (λ x. if x.scope == s then Some a else (x.parent >>= area_around areas s bound)) ≡ Some r →
        ((b r : ℕ) → area_around areas s bound b ≡ Some r → area_around areas s (bound + d) b ≡ Some r) →
        o >>= (λ x. if x.scope == s then Some a else (x.parent >>= area_around areas s (bound + d))) ≡ Some r
    go None e ih = absurd (cc (e))
    go (Some x) e ih = pick x (x.scope == s) e ih

module _ (p : Declarations) (areas : List MemoryArea) (fine : AreasFine p (λ b. slice_get areas b))
    (name now parent bytes : ℕ) (around : MemoryArea) (is_area : slice_get areas now ≡ Some around)
    (named : around.scope ≡ parent) (up : parent_scope p name ≡ Some parent) where
  abbrev pub new : MemoryArea
  new = record { scope = name; parent = Some now; bytes = bytes; is_open = true }

  inside : now < length areas
  inside = get_within areas now around is_area

  last : (xs : List MemoryArea) (i : ℕ) (x : MemoryArea) → slice_get (xs ++ new ∷ []) i ≡ Some x →
      (slice_get xs i ≡ Some x) ⊎ ((i ≡ length xs) × (new ≡ x))
  last [] zero x e = inr (refl, some_inj new x e)
  last [] (suc i) x e = absurd (cc (e))
  last (y ∷ xs) zero x e = inl e
  last (y ∷ xs) (suc i) x e =
      elim (last xs i x e) as (λ z. (slice_get xs i ≡ Some x) ⊎ ((suc i ≡ suc (length xs)) × (new ≡ x))) [
        | inl h ↦ inl h
        | inr h ↦ inr (ap suc h.0, h.1)
      ]

  under : (n : ℕ) (t : Bool) → (name == n) ≡ t → (n ≡ immortal_scope) ⊎ (is_outer p n name ≡ true) →
      (r : ℕ) × ((if t then Some (length areas)
      else area_around (λ b. slice_get (areas ++ new ∷ []) b) n (length areas) now) ≡ Some r)
  under n true e h = (length areas, refl)
  under n false e h =
      let other : (n == name) ≡ false = grind (arith, nat_tests) in
      let q =
      fine.reach now n around is_area (elim h as (λ z. (n ≡ immortal_scope) ⊎ (is_outer p n around.scope ≡ true)) [
        | inl i ↦ inl i
        | inr o ↦ inr (subst (λ m. is_outer p n m ≡ true) (sym named) (outer_up p n name parent up other o))
      ]) in
      let d : ℕ = length areas - suc now in
      let l : suc now + d ≡ length areas = omega (arith, inside) in (
        q.0,
        around_more areas new n (length areas) now q.0
            (sym (ap (λ m. area_around (λ b. slice_get areas b) n m now) l)
            ∙ around_longer (λ b. slice_get areas b) n d (suc now) now q.0 q.1),
      )

  still_in_parent : (x : MemoryArea) → IsInParent p (λ b. slice_get areas b) x →
      IsInParent p (λ b. slice_get (areas ++ new ∷ []) b) x
  still_in_parent x i =
      record {
        parent = i.parent;
        is = i.is;
        around = i.around;
        is_there = get_left areas (new ∷ []) i.parent i.around i.is_there;
        of_scope = i.of_scope;
      }

  new_in_parent : IsInParent p (λ b. slice_get (areas ++ new ∷ []) b) new
  new_in_parent =
      record {
        parent = now;
        is = refl;
        around = around;
        is_there = get_left areas (new ∷ []) now around is_area;
        of_scope = up ∙ ap (λ n. Some n) (sym named);
      }

  of_parent : (b : ℕ) (x : MemoryArea) → (slice_get areas b ≡ Some x) ⊎ ((b ≡ length areas) × (new ≡ x)) →
      (b ≡ 0) ⊎ IsInParent p (λ b. slice_get (areas ++ new ∷ []) b) x
  of_parent b x (inl e) =
      elim (fine.parents b x e) as (λ z. (b ≡ 0) ⊎ IsInParent p (λ b. slice_get (areas ++ new ∷ []) b) x) [
        | inl z ↦ inl z
        | inr i ↦ inr (still_in_parent x i)
      ]
  of_parent b x (inr e) = inr (subst (IsInParent p (λ b. slice_get (areas ++ new ∷ []) b)) e.1 new_in_parent)

  pub areas_open : AreasFine p (λ b. slice_get (areas ++ new ∷ []) b)
  unfolding area_around
  areas_open =
      record {
        parents = λ b x there. of_parent b x (last areas b x there);
        reach = λ b n x there h. go b n x h (last areas b x there);
      }
    where
      go : (b n : ℕ) (x : MemoryArea) → (n ≡ immortal_scope) ⊎ (is_outer p n x.scope ≡ true) →
          (slice_get areas b ≡ Some x) ⊎ ((b ≡ length areas) × (new ≡ x)) →
          (r : ℕ) × (area_around (λ b. slice_get (areas ++ new ∷ []) b) n (suc b) b ≡ Some r)
      go b n x h (inl o) = let q = fine.reach b n x o h in (q.0, around_more areas new n (suc b) b q.0 q.1)
      go b n x h (inr e) =
          let q = under n (name == n) refl (elim h as (λ z. (n ≡ immortal_scope) ⊎ (is_outer p n name ≡ true)) [
            | inl i ↦ inl i
            | inr o ↦ inr (subst (λ (y : MemoryArea). is_outer p n y.scope ≡ true) (sym e.1) o)
          ]) in (
            q.0,
            ap (λ m. area_around (λ b. slice_get (areas ++ new ∷ []) b) n (suc m) m) e.0
                ∙ (ap
                (λ (o : Option MemoryArea). o
                >>= (λ x. if x.scope == n then Some
                (length areas) else (x.parent >>= area_around (λ b. slice_get (areas ++ new ∷ []) b) n
                (length areas)))) (get_last areas new) ∙ q.1),
          )
