-- Lists of findings that are joined from others.
use Rattle.std.proofs.Common.{◌≡◌, ℕ, zero, suc, List, ◌++◌, refl, sym, subst, ⊎_elim, append_assoc}
use Rattle.std.specs.List.{Contains}
use Rattle.std.proofs.lemmas.List.Elements.{Contains-append_left, Contains-append_right, Contains-append_cases}
use Rattle.scj_base.specs.declared.findings.Found.{Found}
use Rattle.scj_tree.specs.Recursion.{joined_below}
use Rattle.node_rules.specs.Findings.{FindSame}

pub same_lists : {xs ys : List Found} → xs ≡ ys → FindSame xs ys
same_lists e =
    record { exact = λ f. ((λ h. subst (λ l. Contains l f) e h), (λ h. subst (λ l. Contains l f) (sym e) h)) }

pub same_then : {xs ys zs : List Found} → FindSame xs ys → FindSame ys zs → FindSame xs zs
same_then a b =
    record { exact = λ f. ((λ h. (b.exact f).0 ((a.exact f).0 h)), (λ h. (a.exact f).1 ((b.exact f).1 h))) }

pub same_back : {xs ys : List Found} → FindSame xs ys → FindSame ys xs
same_back a = record { exact = λ f. ((a.exact f).1, (a.exact f).0) }

pub swapped : (xs ys : List Found) → FindSame (xs ++ ys) (ys ++ xs)
swapped xs ys = record { exact = λ f. (turn xs ys f, turn ys xs f) }
  where
    turn : (xs ys : List Found) (f : Found) → Contains (xs ++ ys) f → Contains (ys ++ xs) f
    turn xs ys f h = ⊎_elim (Contains-append_right ys xs f) (Contains-append_left ys xs f)
        (Contains-append_cases xs ys f h)

pub both_same : {us vs xs ys : List Found} → FindSame us vs → FindSame xs ys → FindSame (us ++ xs) (vs ++ ys)
both_same {us} {vs} {xs} {ys} a b =
    record { exact = λ f. (put us vs xs ys a b f, put vs us ys xs (same_back a) (same_back b) f) }
  where
    put : (us vs xs ys : List Found) → FindSame us vs → FindSame xs ys → (f : Found) → Contains (us ++ xs) f →
        Contains (vs ++ ys) f
    put us vs xs ys a b f h = ⊎_elim (λ (k : Contains us f). Contains-append_left vs ys f ((a.exact f).0 k))
        (λ (k : Contains xs f). Contains-append_right vs ys f ((b.exact f).0 k)) (Contains-append_cases us xs f h)

-- lists of which each is joined from two others
pub joined_parts : (all first second : ℕ → List Found) (n : ℕ) → ((k : ℕ) → FindSame (all k) (first k ++ second k)) →
    FindSame (joined_below all n) (joined_below first n ++ joined_below second n)
unfolding joined_below
joined_parts all first second zero parts = same_lists refl
joined_parts all first second (suc n) parts =
    same_then (both_same (joined_parts all first second n parts) (parts n))
    (crossed (joined_below first n) (joined_below second n) (first n) (second n))
  where
    crossed : (a b c d : List Found) → FindSame ((a ++ b) ++ (c ++ d)) ((a ++ c) ++ (b ++ d))
    crossed a b c d =
        same_then (same_lists (let e : (a ++ b) ++ (c ++ d) ≡ a ++ ((b ++ c) ++ d) = simp append_assoc refl in e))
        (same_then (both_same (same_lists refl) (both_same (swapped b c) (same_lists refl)))
        (same_lists (let e : a ++ ((c ++ b) ++ d) ≡ (a ++ c) ++ (b ++ d) = simp append_assoc refl in e)))
