-- There is one list at most that is strictly sorted and has given members.
use Rattle.std.proofs.Common.{◌≡◌, ℕ, zero, suc, ◌<◌, List, [], ◌∷◌, length, refl, sym, ◌∙◌, subst, arith, inl, inr, ◌⊎◌, ⊎_elim, Ordering, Less}
use Rattle.std.specs.Cmp.{IsTotalOrder}
use Rattle.std.specs.List.{Contains, slice_index_or}
use Rattle.std.specs.List.Sorted.{IsStrictlySortedBy}
use Rattle.std.proofs.lemmas.Cmp.{tied_itself, nat_cmp_total, on_total, then_total}
use Rattle.std.proofs.lemmas.List.Elements.{All-from_recursion, All-contains}
use Rattle.std.proofs.lemmas.Map.Keys.{sorted_head}
use Rattle.scj_base.specs.declared.findings.Found.{Found}
use Rattle.scj_base.specs.declared.findings.Rule.{Rule}
use Rattle.scj_base.specs.declared.positions.Position.{Position}
use Rattle.scj_base.specs.Rule.{number_of}
use Rattle.scj_rules.specs.Report.{IsReport, report_order}

pub Contains-head : {X : Type 0} (x : X) (xs : List X) → Contains (x ∷ xs) x
Contains-head x xs = (0, omega arith, refl)

pub Contains-tail : {X : Type 0} (x : X) (xs : List X) (z : X) → Contains xs z → Contains (x ∷ xs) z
Contains-tail x xs z h = (suc h.0, omega (arith, h.1), h.2)

at_place : {X : Type 0} (x : X) (xs : List X) (z : X) (k : ℕ) → k < length (x ∷ xs) → slice_index_or (x ∷ xs) k z ≡ z →
    (x ≡ z) ⊎ Contains xs z
at_place x xs z zero h e = inl e
at_place x xs z (suc k) h e = inr (k, omega (arith, h), e)

pub Contains-cases : {X : Type 0} (x : X) (xs : List X) (z : X) → Contains (x ∷ xs) z → (x ≡ z) ⊎ Contains xs z
Contains-cases x xs z h = at_place x xs z h.0 h.1 h.2

pub none_contained : {X : Type 0} (z : X) → Contains [] z → ⊥
none_contained z h = omega (arith, h.1)

sorted_tail : {X : Type 0} (R : X → X → Ordering) (x : X) (xs : List X) → IsStrictlySortedBy R (x ∷ xs) →
    IsStrictlySortedBy R xs
unfolding IsStrictlySortedBy
sorted_tail R x xs h = h.1

first_is_less : {X : Type 0} (R : X → X → Ordering) (x : X) (xs : List X) → IsStrictlySortedBy R (x ∷ xs) → (z : X) →
    Contains xs z → R x z ≡ Less
first_is_less R x xs h z k =
    All-contains (λ y. R x y ≡ Less) xs z (All-from_recursion (λ y. R x y ≡ Less) xs (sorted_head R x xs h)) k

never_below_itself : {X : Type 0} {R : X → X → Ordering} (o : IsTotalOrder R) (x : X) → R x x ≡ Less → ⊥
never_below_itself o x h =
    let t = tied_itself o x in
    cc

never_both : {X : Type 0} {R : X → X → Ordering} (o : IsTotalOrder R) (x y : X) → R x y ≡ Less → R y x ≡ Less → ⊥
never_both o x y h k = never_below_itself o x (o.trans x y x h k)

same_first : {X : Type 0} {R : X → X → Ordering} (o : IsTotalOrder R) (x y : X) (xs ys : List X)
    → IsStrictlySortedBy R (x ∷ xs) → IsStrictlySortedBy R (y ∷ ys) → Contains (y ∷ ys) x → Contains (x ∷ xs) y → x ≡ y
same_first {R = R} o x y xs ys h k x_in y_in =
    ⊎_elim (λ (e : y ≡ x). sym e)
    (λ (x_later : Contains ys x). ⊎_elim (λ (e : x ≡ y). e)
    (λ (y_later : Contains xs y). absurd
    (never_both o x y (first_is_less R x xs h y y_later) (first_is_less R y ys k x x_later)))
    (Contains-cases x xs y y_in))
    (Contains-cases y ys x x_in)

later_in : {X : Type 0} {R : X → X → Ordering} (o : IsTotalOrder R) (x y : X) (xs ys : List X)
    → IsStrictlySortedBy R (x ∷ xs) → x ≡ y → ((z : X) → Contains (x ∷ xs) z → Contains (y ∷ ys) z) → (z : X) →
    Contains xs z → Contains ys z
later_in {R = R} o x y xs ys h e more z z_in =
    ⊎_elim
    (λ (f : y ≡ z). absurd
    (never_below_itself o x (subst (λ t. R x t ≡ Less) (sym (e ∙ f)) (first_is_less R x xs h z z_in))))
    (λ (later : Contains ys z). later)
    (Contains-cases y ys z (more z (Contains-tail x xs z z_in)))

pub one_sorted : {X : Type 0} {R : X → X → Ordering} (o : IsTotalOrder R) (xs ys : List X) → IsStrictlySortedBy R xs →
    IsStrictlySortedBy R ys
    → ((z : X) → Contains xs z → Contains ys z) → ((z : X) → Contains ys z → Contains xs z) → xs ≡ ys
one_sorted o [] [] h k to from = refl
one_sorted o [] (y ∷ ys) h k to from = absurd (none_contained y (from y (Contains-head y ys)))
one_sorted o (x ∷ xs) [] h k to from = absurd (none_contained x (to x (Contains-head x xs)))
one_sorted {R = R} o (x ∷ xs) (y ∷ ys) h k to from =
    let e : x ≡ y = same_first o x y xs ys h k (to x (Contains-head x xs)) (from y (Contains-head y ys)) in
    let rest : xs ≡ ys = one_sorted o xs ys (sorted_tail R x xs h) (sorted_tail R y ys k) (later_in o x y xs ys h e to)
    (later_in o y x ys xs k (sym e) from) in
    cc

pub report_order_total : IsTotalOrder report_order
report_order_total =
    then_total
    (then_total (on_total (λ (f : Found). f.pos.file) nat_cmp_total)
    (then_total (on_total (λ (f : Found). f.pos.line) nat_cmp_total)
    (on_total (λ (f : Found). f.pos.col) nat_cmp_total))) (on_total (λ (f : Found). number_of f.rule) nat_cmp_total)

pub one_report_of : (breaks : Rule → Position → Type 0) (xs ys : List Found) → IsReport breaks xs → IsReport breaks ys →
    xs ≡ ys
one_report_of breaks xs ys h k =
    one_sorted report_order_total xs ys h.in_order k.in_order (λ z m. (k.exact z).1 ((h.exact z).0 m))
    (λ z m. (h.exact z).1 ((k.exact z).0 m))
