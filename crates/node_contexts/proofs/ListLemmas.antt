-- Lists of numbers of nodes, and rows that are written for some of them.
use Rattle.std.proofs.Common.{◌≡◌, ◌≢◌, ◌⊎◌, ℕ, ◌+◌, ◌-◌, ◌<◌, ◌≤◌, List, [], ◌∷◌, ◌++◌, length, take, set, get_or, refl, sym, ap, ◌∙◌, arith, Option, Some, None, Bool, true, false, not, if◌then◌else◌, ◌==◌, nat_lt, cond, option_map, position, ⊎_elim, length-append}
use Rattle.std.specs.List.{position_or_len}
use Rattle.std.proofs.lemmas.Bool.{cases_lt, eq-eqb, ne_eqb, cases_eq}
use Rattle.std.proofs.lemmas.Bool.Decides.{nat_tests}
use Rattle.std.proofs.lemmas.List.Folds.{position_or_len_push}
use Rattle.std.proofs.lemmas.List.Sums.{prefix_len-le-length}
use Rattle.std.proofs.lemmas.List.{take_all, take_more, get_or-set_same, get_or-set_other}
use Rattle.scj_tree.specs.Recursion.{lookup}
use Rattle.scj_rules.specs.Words.{or_else}
use Rattle.scj_rules.specs.Contexts.{number_of_class}
use Rattle.scj_rules.specs.Classes.{first_user_class}

-- the place of the first item that passes, where n of m items stand before it and one more is put behind them
pushed : (n m : ℕ) (b : Bool) → n ≤ m
    → cond (nat_lt (cond (n == m) (m + cond b 0 1) n) (m + 1)) (Some (cond (n == m) (m + cond b 0 1) n)) None
    ≡ or_else (cond (nat_lt n m) (Some n) None) (if b then Some m else None)
pushed n m b le =
    ⊎_elim
    (λ (l : n < m).
    let apart : (n == m) ≡ false = grind (arith, nat_tests) in
    let before : nat_lt n m ≡ true = grind (arith, nat_tests) in
    let still : nat_lt n (m + 1) ≡ true = grind (arith, nat_tests) in
    rw (apart, before, still) refl)
    (λ (g : m ≤ n).
    let same : (n == m) ≡ true = grind (arith, nat_tests) in
    let behind : nat_lt n m ≡ false = grind (arith, nat_tests) in
    rw (same, behind) (last b))
    (cases_lt n m)
  where
    last : (b : Bool) →
        cond (nat_lt (m + cond b 0 1) (m + 1)) (Some (m + cond b 0 1)) None ≡ (if b then Some m else None)
    last true =
        let here : m + 0 ≡ m = omega arith in
        let within : nat_lt m (m + 1) ≡ true = grind (arith, nat_tests) in
        rw (here, within) refl
    last false = let past : nat_lt (m + 1) (m + 1) ≡ false = grind (arith, nat_tests) in rw past refl

pub position-push : (q : ℕ → Bool) (xs : List ℕ) (y : ℕ) →
    position q (xs ++ y ∷ []) ≡ or_else (position q xs) (if q y then Some (length xs) else None)
position-push q xs y =
    rw (position_or_len_push q xs y, length-append xs (y ∷ []))
    (pushed (position_or_len q xs) (length xs) (q y) (prefix_len-le-length (λ x. not (q x)) xs))

-- the number of a class among so many, and what is told of others
abbrev pub number_among : List ℕ → Option ℕ → ℕ → Option ℕ
number_among ids other id = or_else (option_map (λ k. first_user_class + k) (position (λ o. id == o) ids)) other

pub none_among : (ids : List ℕ) (other : Option ℕ) (id : ℕ) → other ≡ None →
    number_among ids other id ≡ number_of_class ids id
unfolding number_of_class
none_among ids other id e = ap (λ o. number_among ids o id) e ∙ go (position (λ o. id == o) ids)
  where
    go : (o : Option ℕ) → or_else (option_map (λ k. first_user_class + k) o) None
        ≡ option_map (λ k. first_user_class + k) o
    go None = refl
    go (Some k) = refl

-- the last class of a list
numbered : (others : List ℕ) (node class : ℕ) (numbers : List (Option ℕ)) (id : ℕ) → node < length numbers →
    class ≡ first_user_class + length others → number_among others (lookup None (set numbers node (Some class)) id) id
    ≡ number_among (others ++ node ∷ []) (lookup None numbers id) id
numbered others node class numbers id l e =
    go (position (λ o. id == o) others) (cases_eq id node)
    ∙ sym (ap (λ o. or_else (option_map (λ k. first_user_class + k) o) (lookup None numbers id))
    (position-push (λ o. id == o) others node))
  where
    go : (o : Option ℕ) → (id ≡ node) ⊎ (id ≢ node)
        → or_else (option_map (λ k. first_user_class + k) o) (lookup None (set numbers node (Some class)) id)
        ≡ or_else
        (option_map (λ k. first_user_class + k) (or_else o (if id == node then Some (length others) else None)))
        (lookup None numbers id)
    go (Some k) t = refl
    go None t = ⊎_elim
        (λ (same : id ≡ node). rw (eq-eqb id node same) (ap (lookup None (set numbers node (Some class))) same
        ∙ get_or-set_same numbers node (Some class) None l ∙ ap (λ k. Some k) e))
        (λ (other : id ≢ node). rw (ne_eqb id node other) (get_or-set_other numbers node id (Some class) None other)) t

pub numbered_last : (rest : List ℕ) (node class : ℕ) (numbers : List (Option ℕ)) (id : ℕ) → 1 ≤ length rest
    → node ≡ get_or rest (length rest - 1) node → node < length numbers
    → class ≡ first_user_class + length (take (length rest - 1) rest)
    → number_among (take (length rest - 1) rest) (lookup None (set numbers node (Some class)) id) id
    ≡ number_among rest (lookup None numbers id) id
numbered_last rest node class numbers id some read l e =
    let n : ℕ = length rest - 1 in
    let split : take n rest ++ node ∷ [] ≡ rest =
    ap (λ x. take n rest ++ x ∷ []) read ∙ sym (take_more rest n node (omega (arith, some)))
    ∙ take_all (n + 1) rest (omega (arith, some)) in
    numbered (take n rest) node class numbers id l e ∙ ap (λ ids. number_among ids (lookup None numbers id) id) split
