-- The variables that come late: K2 at all members is what one pass over the nodes notes.
use Rattle.std.proofs.Common.{◌≡◌, ◌<◌, ◌≤◌, ℕ, zero, suc, nat_le, Bool, true, false, List, [], ◌∷◌, ◌++◌, length, drop, filter_map, Option, Some, None, if◌then◌else◌, refl, sym, ap, ◌∙◌, subst, arith, append-nil, ⊎_elim}
use Rattle.std.specs.List.{Contains}
use Rattle.std.proofs.lemmas.Bool.{true≢false, and_parts, cases_lt, eq-eqb}
use Rattle.std.proofs.lemmas.Grind.{common_steps}
use Rattle.std.proofs.lemmas.List.{map-append}
use Rattle.std.proofs.lemmas.List.Elements.{filter_map-append}
use Rattle.std.proofs.lemmas.Option.{slice_get_past}
use Rattle.scj_base.specs.declared.findings.Found.{Found}
use Rattle.scj_base.specs.declared.findings.Rule.TheVariants.{K2}
use Rattle.scj_tree.specs.Recursion.{joined_below}
use Rattle.scj_tree.proofs.RecursionLemmas.{from_joined, to_joined}
use Rattle.scj_rules.specs.Words.{holds}
use Rattle.scj_rules.specs.Views.{variable_at}
use Rattle.scj_rules.specs.Classes.{is_callable}
use Rattle.scj_rules.specs.Contexts.{Declarations}
use Rattle.scj_rules.specs.LimitRules.{most_locals, is_variable_of, broken_at_declared, k2}
use Rattle.scj_rules.proofs.ReportLemmas.{none_contained}
use Rattle.node_contexts.specs.Numbers.{owner_of, count_below, number_before}
use Rattle.node_contexts.proofs.CountLemmas.{one, variables_are, counted, tested, owned, number_is}
use Rattle.node_rules.specs.Findings.{FindSame}
use Rattle.node_rules.specs.Nodes.{broken_at_variable, late_at}

-- ---- K2 at a member, node after node

abbrev broken_at_all : Declarations → List ℕ → List Found
broken_at_all p ids = broken_at_declared K2 (filter_map (variable_at p.nodes) ids)

broken_append : (p : Declarations) (xs ys : List ℕ) →
    broken_at_all p (xs ++ ys) ≡ broken_at_all p xs ++ broken_at_all p ys
broken_append p xs ys = simp (filter_map-append, map-append) refl

broken_once : (p : Declarations) (b : Bool) (id : ℕ) →
    broken_at_all p (if b then id ∷ [] else []) ≡ (if b then broken_at_variable p.nodes id else [])
broken_once p b id = grind (arith, common_steps)

drop_push : (k : ℕ) (xs : List ℕ) (y : ℕ) →
    drop k (xs ++ y ∷ []) ≡ drop k xs ++ (if nat_le k (length xs) then y ∷ [] else [])
drop_push k xs y = grind (arith, common_steps)

-- K2 of a member at a node
abbrev late_here : Declarations → ℕ → ℕ → List Found
late_here p member id =
    if is_variable_of p member id
    then (if nat_le most_locals (count_below (is_variable_of p member) id) then broken_at_variable p.nodes id else [])
    else []

late_below : (p : Declarations) (member n : ℕ) →
    broken_at_all p (drop most_locals (joined_below (one (is_variable_of p member)) n)) ≡ joined_below
    (late_here p member) n
unfolding joined_below
late_below p member zero = refl
late_below p member (suc n) = go (is_variable_of p member n) (late_below p member n)
  where
    so_far : List ℕ
    so_far = joined_below (one (is_variable_of p member)) n

    go : (b : Bool) → broken_at_all p (drop most_locals so_far) ≡ joined_below (late_here p member) n →
        broken_at_all p (drop most_locals (so_far ++ (if b then n ∷ [] else []))) ≡ joined_below (late_here p member) n
        ++ (if b then (if nat_le most_locals (count_below (is_variable_of p member) n)
        then broken_at_variable p.nodes n else []) else [])
    go false e = ap (λ xs. broken_at_all p (drop most_locals xs)) (append-nil so_far) ∙ e
        ∙ sym (append-nil (joined_below (late_here p member) n))
    go true e = ap (broken_at_all p) (drop_push most_locals so_far n)
        ∙ broken_append p (drop most_locals so_far) (if nat_le most_locals (length so_far) then n ∷ [] else [])
        ∙ ap (λ fs. fs ++ broken_at_all p (if nat_le most_locals (length so_far) then n ∷ [] else [])) e
        ∙ ap (λ fs. joined_below (late_here p member) n ++ fs) (broken_once p (nat_le most_locals (length so_far)) n
        ∙ ap (λ k. if nat_le most_locals k then broken_at_variable p.nodes n else [])
        (counted (is_variable_of p member) n))

k2_is : (p : Declarations) (member : ℕ) → k2 p member ≡ joined_below (late_here p member) (length p.nodes)
unfolding k2
k2_is p member = ap (λ vs. broken_at_all p (drop most_locals vs)) (variables_are p member)
    ∙ late_below p member (length p.nodes)

-- ---- K2 at all members, node after node

-- what is noted at a variable is K2 of its member there
at_owner : (p : Declarations) (id member : ℕ) → owner_of p id ≡ Some member → is_callable p.nodes member ≡ true →
    late_at p id ≡ late_here p member id
unfolding late_at
at_owner p id member o c =
    let own : is_variable_of p member id ≡ true = tested p id member (Some member) o ∙ eq-eqb member member refl in
    rw (o, c, own, number_is p id (Some member) o) refl

-- K2 at a node, where it is a method or a constructor
abbrev pub late_of : Declarations → ℕ → List Found
late_of p member = if is_callable p.nodes member then k2 p member else []

in_if : (b : Bool) (xs : List Found) (f : Found) → Contains (if b then xs else []) f → b ≡ true
in_if true xs f h = refl
in_if false xs f h = absurd (none_contained f h)

of_callable : (p : Declarations) (id : ℕ) (f : Found) → Contains (late_at p id) f → (m : ℕ) ×
    (owner_of p id ≡ Some m) × (is_callable p.nodes m ≡ true)
unfolding late_at
of_callable p id f h =
    go (owner_of p id) (and_parts (holds (owner_of p id) (is_callable p.nodes))
    (nat_le most_locals (number_before p id)) (in_if _ (broken_at_variable p.nodes id) f h)).0
  where
    go : (o : Option ℕ) → holds o (is_callable p.nodes) ≡ true → (m : ℕ) × (o ≡ Some m) × (is_callable p.nodes m ≡ true)
    go None t = absurd (true≢false (sym t))
    go (Some m) t = (m, refl, t)

pub all_late : (p : Declarations) →
    FindSame (joined_below (late_at p) (length p.nodes)) (joined_below (late_of p) (length p.nodes))
all_late p = record { exact = λ f. (there f, back f) }
  where
    within : (m : ℕ) → is_callable p.nodes m ≡ true → m < length p.nodes
    within m t = ⊎_elim (λ (l : m < length p.nodes). l)
        (λ (l : length p.nodes ≤ m). absurd (true≢false (sym t ∙ rw (slice_get_past p.nodes m l) refl)))
        (cases_lt m (length p.nodes))

    there : (f : Found) → Contains (joined_below (late_at p) (length p.nodes)) f →
        Contains (joined_below (late_of p) (length p.nodes)) f
    there f h =
        let r = from_joined (late_at p) (length p.nodes) f h in
        let m = of_callable p r.0 f r.2 in
        let here : Contains (late_here p m.0 r.0) f =
        subst (λ xs. Contains xs f) (at_owner p r.0 m.0 m.1 m.2) r.2 in
        let all : Contains (k2 p m.0) f = subst (λ xs. Contains xs f) (sym (k2_is p m.0))
        (to_joined (late_here p m.0) (length p.nodes) r.0 f r.1 here) in
        to_joined (late_of p) (length p.nodes) m.0 f (within m.0 m.2)
        (subst (λ b. Contains (if b then k2 p m.0 else []) f) (sym m.2) all)

    back : (f : Found) → Contains (joined_below (late_of p) (length p.nodes)) f →
        Contains (joined_below (late_at p) (length p.nodes)) f
    back f h =
        let m = from_joined (late_of p) (length p.nodes) f h in
        let c = in_if (is_callable p.nodes m.0) (k2 p m.0) f m.2 in
        let all : Contains (k2 p m.0) f = subst (λ b. Contains (if b then k2 p m.0 else []) f) c m.2 in
        let r = from_joined (late_here p m.0) (length p.nodes) f (subst (λ xs. Contains xs f) (k2_is p m.0) all) in
        let o = owned p r.0 m.0 (in_if (is_variable_of p m.0 r.0) _ f r.2) in
        to_joined (late_at p) (length p.nodes) r.0 f r.1
        (subst (λ xs. Contains xs f) (sym (at_owner p r.0 m.0 o c)) r.2)
