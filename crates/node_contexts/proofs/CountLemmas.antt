-- The variables of a member, one node after the other, and the place of each among them.
use Rattle.std.proofs.Common.{◌≡◌, ◌≢◌, ℕ, ◌+◌, ◌<◌, zero, suc, List, [], ◌∷◌, ◌++◌, length, filter, flat_map, replicate, refl, sym, ap, ◌∙◌, arith, Option, Some, None, Bool, true, false, ◌&&◌, if◌then◌else◌, ◌==◌, nat_lt, position, set, is_some, option_and_then, slice_get, ⊎_elim, append-nil, length-append}
use Rattle.std.proofs.lemmas.Bool.{lt-ltb, eq-eqb, ne_eqb, cases_eq}
use Rattle.std.proofs.lemmas.Bool.Decides.{nat_tests}
use Rattle.std.proofs.lemmas.Option.{slice_get_within}
use Rattle.std.proofs.lemmas.List.{get_or-set_same, get_or-set_other}
use Rattle.scj_tree.specs.declared.nodes.Node.{Node}
use Rattle.scj_tree.specs.Recursion.{lookup, joined_below}
use Rattle.scj_tree.proofs.RecursionLemmas.{listed-at, lookup-replicate}
use Rattle.scj_rules.specs.Words.{holds, or_else}
use Rattle.scj_rules.specs.Views.{variable_at, variable_of}
use Rattle.scj_rules.specs.ClassRules.{numbers_from}
use Rattle.scj_rules.specs.LimitRules.{is_variable_of, variables_of}
use Rattle.scj_rules.specs.Contexts.{Declarations, context}
use Rattle.scj_rules.proofs.NumberLemmas.{joined_all}
use Rattle.node_contexts.specs.Numbers.{owner_of, count_below, number_before, numbers_before, AreCounted}
use Rattle.node_contexts.proofs.ListLemmas.{position-push}

-- ---- the numbers that pass a test, one after the other

-- a number, if it passes
abbrev pub one : (ℕ → Bool) → ℕ → List ℕ
one test id = if test id then id ∷ [] else []

filtered : (test : ℕ → Bool) (ids : List ℕ) → filter test ids ≡ flat_map (one test) ids
filtered test [] = refl
filtered test (id ∷ ids) = go (test id) (filtered test ids)
  where
    go : (b : Bool) → filter test ids ≡ flat_map (one test) ids →
        (if b then id ∷ filter test ids else filter test ids) ≡ (if b then id ∷ [] else []) ++ flat_map (one test) ids
    go true e = ap (λ rest. id ∷ rest) e
    go false e = e

pub variables_are : (p : Declarations) (member : ℕ) →
    variables_of p member ≡ joined_below (one (is_variable_of p member)) (length p.nodes)
unfolding variables_of
variables_are p member = filtered (is_variable_of p member) (numbers_from 0 p.nodes)
    ∙ joined_all (one (is_variable_of p member)) p.nodes

pub counted : (test : ℕ → Bool) (n : ℕ) → length (joined_below (one test) n) ≡ count_below test n
unfolding joined_below count_below
counted test zero = refl
counted test (suc n) = length-append (joined_below (one test) n) (one test n)
    ∙ ap (λ k. k + length (one test n)) (counted test n) ∙ ap (λ k. count_below test n + k) (go (test n))
  where
    go : (b : Bool) → length (if b then n ∷ [] else []) ≡ (if b then 1 else 0)
    go true = refl
    go false = refl

pub all_counted : (p : Declarations) (member : ℕ) →
    length (variables_of p member) ≡ count_below (is_variable_of p member) (length p.nodes)
all_counted p member =
    ap (λ (ids : List ℕ). length ids) (variables_are p member) ∙ counted (is_variable_of p member) (length p.nodes)

-- ---- the place of a number among them

abbrev place_below : (ℕ → Bool) → ℕ → ℕ → Option ℕ
place_below test v n = position (λ o. o == v) (joined_below (one test) n)

-- with one number more
placed_next : (test : ℕ → Bool) (v n : ℕ) → place_below test v (suc n)
    ≡ or_else (place_below test v n) (if test n && (n == v) then Some (count_below test n) else None)
unfolding joined_below
placed_next test v n = go (test n)
  where
    none : (o : Option ℕ) → o ≡ or_else o None
    none None = refl
    none (Some k) = refl

    go : (b : Bool) → position (λ o. o == v) (joined_below (one test) n ++ (if b then n ∷ [] else []))
        ≡ or_else (place_below test v n) (if b && (n == v) then Some (count_below test n) else None)
    go true = position-push (λ o. o == v) (joined_below (one test) n) n
        ∙ ap (λ k. or_else (place_below test v n) (if n == v then Some k else None)) (counted test n)
    go false = ap (position (λ o. o == v)) (append-nil (joined_below (one test) n)) ∙ none (place_below test v n)

and_this : (b : Bool) (k : ℕ) → (if b && true then Some k else None) ≡ (if b then Some k else None)
and_this true k = refl
and_this false k = refl

not_this : (t b : Bool) (k c : ℕ) →
    or_else (if t then Some k else None) (if b && false then Some c else None) ≡ (if t then Some k else None)
not_this true b k c = refl
not_this false true k c = refl
not_this false false k c = refl

placed : (test : ℕ → Bool) (v n : ℕ)
    → place_below test v n ≡ (if nat_lt v n && test v then Some (count_below test v) else None)
unfolding joined_below
placed test v zero = let t : nat_lt v 0 ≡ false = grind (arith, nat_tests) in rw t refl
placed test v (suc n) =
    placed_next test v n
    ∙ ap (λ o. or_else o (if test n && (n == v) then Some (count_below test n) else None)) (placed test v n)
    ∙ ⊎_elim
    (λ (e : n ≡ v).
    let past : nat_lt v n ≡ false = grind (arith, nat_tests) in
    let reached : nat_lt v (suc n) ≡ true = grind (arith, nat_tests) in
    rw (past, reached, e, eq-eqb v v refl) (and_this (test v) (count_below test v)))
    (λ (ne : n ≢ v).
    let same : nat_lt v (suc n) ≡ nat_lt v n = grind (arith, nat_tests) in
    rw (same, ne_eqb n v ne) (not_this (nat_lt v n && test v) (test n) (count_below test v) (count_below test n)))
    (cases_eq n v)

-- ---- the variables of a member

-- the variable of one member alone
pub tested : (p : Declarations) (id m : ℕ) (o : Option ℕ) → owner_of p id ≡ o →
    is_variable_of p m id ≡ holds o (λ owner. owner == m)
tested p id m o e = go (is_some (variable_at p.nodes id)) ∙ ap (λ x. holds x (λ owner. owner == m)) e
  where
    go : (b : Bool) → (b && holds (context p id).member (λ owner. owner == m))
        ≡ holds (if b then (context p id).member else None) (λ owner. owner == m)
    go true = refl
    go false = refl

pub number_is : (p : Declarations) (id : ℕ) (o : Option ℕ) → owner_of p id ≡ o
    → number_before p id ≡ elim o as (λ _. ℕ) [ None ↦ 0 | Some member ↦ count_below (is_variable_of p member) id ]
unfolding number_before
number_is p id o e =
    ap (λ (x : Option ℕ). elim x as (λ _. ℕ) [ None ↦ 0 | Some member ↦ count_below (is_variable_of p member) id ]) e

-- a node that declares a variable is there
within : (p : Declarations) (id m : ℕ) → owner_of p id ≡ Some m → id < length p.nodes
within p id m = go (slice_get p.nodes id) refl
  where
    go : (o : Option Node) → slice_get p.nodes id ≡ o →
        (if is_some (option_and_then (variable_of p.nodes id) o) then (context p id).member else None) ≡ Some m →
        id < length p.nodes
    go None e h = cc
    go (Some node) e h = slice_get_within p.nodes id node e

pub owned : (p : Declarations) (id m : ℕ) → is_variable_of p m id ≡ true → owner_of p id ≡ Some m
owned p id m = go (is_some (variable_at p.nodes id)) (context p id).member
  where
    go : (b : Bool) (o : Option ℕ) → (b && holds o (λ owner. owner == m)) ≡ true → (if b then o else None) ≡ Some m
    go false o h = cc
    go true None h = cc
    go true (Some k) h = (let same : k ≡ m = grind (arith, nat_tests) in ap (λ x. Some x) same)

-- the table holds of each node what is counted before it
pub number_at : (p : Declarations) (id : ℕ) → number_before p id ≡ lookup 0 (numbers_before p) id
unfolding numbers_before
number_at p id = sym (listed-at 0 (number_before p) (length p.nodes) id ∙ go (owner_of p id) refl)
  where
    either : (b : Bool) → ◌≡◌ {A = ℕ} (if b then 0 else 0) 0
    either true = refl
    either false = refl

    go : (o : Option ℕ) → owner_of p id ≡ o →
        (if nat_lt id (length p.nodes) then number_before p id else 0) ≡ number_before p id
    go None e =
        let none : number_before p id ≡ 0 = number_is p id None e in
        rw none (either (nat_lt id (length p.nodes)))
    go (Some member) e = rw (lt-ltb id (length p.nodes) (within p id member e)) refl

-- the place of a variable among those of a member
pub place_is : (p : Declarations) (member variable : ℕ) (numbers : List ℕ) → numbers ≡ numbers_before p
    → position (λ v. v == variable) (variables_of p member)
    ≡ (if is_variable_of p member variable then Some (lookup 0 numbers variable) else None)
place_is p member variable numbers e =
    ap (position (λ v. v == variable)) (variables_are p member)
    ∙ placed (is_variable_of p member) variable (length p.nodes) ∙ go (is_variable_of p member variable) refl
  where
    none : (b : Bool) → (if b && false then Some (count_below (is_variable_of p member) variable) else None) ≡ None
    none true = refl
    none false = refl

    go : (b : Bool) → is_variable_of p member variable ≡ b →
        (if nat_lt variable (length p.nodes) && b then Some (count_below (is_variable_of p member) variable) else None)
        ≡ (if b then Some (lookup 0 numbers variable) else None)
    go false t = none (nat_lt variable (length p.nodes))
    go true t =
        let owner = owned p variable member t in
        let there = lt-ltb variable (length p.nodes) (within p variable member owner) in
        let is_reported : lookup 0 numbers variable ≡ number_before p variable =
        ap (λ ns. lookup 0 ns variable) e ∙ sym (number_at p variable) in
        rw there (ap (λ n. Some n) (sym (is_reported ∙ number_is p variable (Some member) owner)))

-- ---- counting on

count_next : (test : ℕ → Bool) (n : ℕ) (b : Bool) → test n ≡ b →
    count_below test (n + 1) ≡ count_below test n + (if b then 1 else 0)
unfolding count_below
count_next test n b h = (let e : n + 1 ≡ suc n = omega arith in ap (count_below test) e)
    ∙ ap (λ t. count_below test n + (if t then 1 else 0)) h

pub none_more : (p : Declarations) (id : ℕ) (counts : List ℕ) → owner_of p id ≡ None → AreCounted p id counts →
    AreCounted p (id + 1) counts
none_more p id counts e h =
    record {
      at = λ m. let next = count_next (is_variable_of p m) id false (tested p id m None e) in
          let before = h.at m in
          omega (arith, next, before);
    }

pub one_more : (p : Declarations) (id member : ℕ) (counts : List ℕ) → owner_of p id ≡ Some member →
    member < length counts → AreCounted p id counts
    → AreCounted p (id + 1) (set counts member (lookup 0 counts member + 1))
one_more p id member counts e l h = record { at = λ m. ⊎_elim (same m) (other m) (cases_eq member m) }
  where
    after : List ℕ
    after = set counts member (lookup 0 counts member + 1)

    same : (m : ℕ) → member ≡ m →
        lookup 0 (set counts member (lookup 0 counts member + 1)) m ≡ count_below (is_variable_of p m) (id + 1)
    same m f = ap (lookup 0 (set counts member (lookup 0 counts member + 1))) (sym f)
        ∙ get_or-set_same counts member (lookup 0 counts member + 1) 0 l
        ∙ ap (λ n. n + 1) (h.at member ∙ ap (λ k. count_below (is_variable_of p k) id) f)
        ∙ sym (count_next (is_variable_of p m) id true (tested p id m (Some member) e ∙ eq-eqb member m f))

    other : (m : ℕ) → member ≢ m →
        lookup 0 (set counts member (lookup 0 counts member + 1)) m ≡ count_below (is_variable_of p m) (id + 1)
    other m f =
        let next = count_next (is_variable_of p m) id false (tested p id m (Some member) e ∙ ne_eqb member m f) in
        let kept = get_or-set_other counts member m (lookup 0 counts member + 1) 0 (λ s. f (sym s)) in
        let before = h.at m in
        omega (arith, next, kept, before)

pub none_counted : (p : Declarations) (n : ℕ) (counts : List ℕ) → counts ≡ replicate n 0 → AreCounted p 0 counts
unfolding count_below
none_counted p n counts e = record { at = λ m. ap (λ cs. lookup 0 cs m) e ∙ lookup-replicate 0 n m }
