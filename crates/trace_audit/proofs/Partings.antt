-- Where bytes are parted: at the first blank of printed words, and at the last one.
use Rattle.std.proofs.Common.{◌≡◌, ℕ, ◌+◌, ◌-◌, ◌==◌, Bool, true, false, not, ◌&&◌, List, [], ◌∷◌, ◌++◌, length, take, drop, reverse, Option, None, Some, cond, if◌then◌else◌, refl, ap, ◌∙◌, arith, append_assoc}
use Rattle.std.specs.List.{list_all, prefix_len}
use Rattle.std.proofs.lemmas.Bool.Decides.{nat_tests}
use Rattle.std.proofs.lemmas.List.{length-reverse, reverse-append}
use Rattle.std.proofs.lemmas.List.Folds.{list_all-append}
use Rattle.trace_audit.specs.Parts.{Parts, before, behind_last, from, is_other, parted, parted_at_last, with_front}

both_true : (a b : Bool) → (a && b) ≡ true → (a ≡ true) × (b ≡ true)
both_true true true h = (refl, refl)
both_true true false h = absurd (cc (h))
both_true false b h = absurd (cc (h))

other_not : (byte : ℕ) → is_other byte byte ≡ false
other_not byte = let t : (byte == byte) ≡ true = grind (arith, nat_tests) in ap not t

-- all bytes of a row are others, and the byte follows
prefix_is : (byte : ℕ) (xs ys : List ℕ) → list_all (is_other byte) xs ≡ true →
    prefix_len (is_other byte) (xs ++ byte ∷ ys) ≡ length xs
prefix_is byte [] ys h = ap (λ (b : Bool). cond b (1 + prefix_len (is_other byte) ys) 0) (other_not byte)
prefix_is byte (x ∷ xs) ys h =
    let both = both_true (is_other byte x) (list_all (is_other byte) xs) h in
    let more : prefix_len (is_other byte) (xs ++ byte ∷ ys) ≡ length xs = prefix_is byte xs ys both.1 in
    ap (λ (b : Bool). cond b (1 + prefix_len (is_other byte) (xs ++ byte ∷ ys)) 0) both.0 ∙ omega (arith, more)

prefix_all : (byte : ℕ) (xs : List ℕ) → list_all (is_other byte) xs ≡ true →
    prefix_len (is_other byte) xs ≡ length xs
prefix_all byte [] h = refl
prefix_all byte (x ∷ xs) h =
    let both = both_true (is_other byte x) (list_all (is_other byte) xs) h in
    let more : prefix_len (is_other byte) xs ≡ length xs = prefix_all byte xs both.1 in
    ap (λ (b : Bool). cond b (1 + prefix_len (is_other byte) xs) 0) both.0 ∙ omega (arith, more)

take_length : (xs ys : List ℕ) → take (length xs) (xs ++ ys) ≡ xs
take_length [] ys = refl
take_length (x ∷ xs) ys = ap (λ (l : List ℕ). x ∷ l) (take_length xs ys)

drop_length : (xs ys : List ℕ) → drop (length xs) (xs ++ ys) ≡ ys
drop_length [] ys = refl
drop_length (x ∷ xs) ys = drop_length xs ys

take_all : (xs : List ℕ) → take (length xs) xs ≡ xs
take_all [] = refl
take_all (x ∷ xs) = ap (λ (l : List ℕ). x ∷ l) (take_all xs)

drop_all : (xs : List ℕ) → drop (length xs) xs ≡ []
drop_all [] = refl
drop_all (x ∷ xs) = drop_all xs

pub before_is : (byte : ℕ) (xs ys : List ℕ) → list_all (is_other byte) xs ≡ true →
    before byte (xs ++ byte ∷ ys) ≡ xs
before_is byte xs ys h =
    ap (λ (n : ℕ). take n (xs ++ byte ∷ ys)) (prefix_is byte xs ys h) ∙ take_length xs (byte ∷ ys)

pub from_is : (byte : ℕ) (xs ys : List ℕ) → list_all (is_other byte) xs ≡ true →
    from byte (xs ++ byte ∷ ys) ≡ byte ∷ ys
from_is byte xs ys h =
    ap (λ (n : ℕ). drop n (xs ++ byte ∷ ys)) (prefix_is byte xs ys h) ∙ drop_length xs (byte ∷ ys)

pub before_all : (byte : ℕ) (xs : List ℕ) → list_all (is_other byte) xs ≡ true → before byte xs ≡ xs
before_all byte xs h = ap (λ (n : ℕ). take n xs) (prefix_all byte xs h) ∙ take_all xs

pub from_all : (byte : ℕ) (xs : List ℕ) → list_all (is_other byte) xs ≡ true → from byte xs ≡ []
from_all byte xs h = ap (λ (n : ℕ). drop n xs) (prefix_all byte xs h) ∙ drop_all xs

abbrev parts : List ℕ → List ℕ → Parts
parts front back = record { front = front; back = back }

pub parted_is : (byte : ℕ) (xs ys : List ℕ) → list_all (is_other byte) xs ≡ true →
    parted byte (xs ++ byte ∷ ys) ≡ Some (record { front = xs; back = ys })
unfolding parted
parted_is byte xs ys h =
    ap (λ (l : List ℕ). with_front l (from byte (xs ++ byte ∷ ys))) (before_is byte xs ys h)
    ∙ ap (with_front xs) (from_is byte xs ys h)

pub parted_none : (byte : ℕ) (xs : List ℕ) → list_all (is_other byte) xs ≡ true → parted byte xs ≡ None
unfolding parted
parted_none byte xs h = ap (with_front (before byte xs)) (from_all byte xs h)

-- ---- at the last one

reverse_first : (y : ℕ) (ys : List ℕ) → reverse (y ∷ ys) ≡ reverse ys ++ y ∷ []
reverse_first y ys = reverse-append (y ∷ []) ys

all_reversed : (test : ℕ → Bool) (ys : List ℕ) → list_all test ys ≡ true → list_all test (reverse ys) ≡ true
all_reversed test [] h = refl
all_reversed test (y ∷ ys) h =
    let both = both_true (test y) (list_all test ys) h in
    ap (list_all test) (reverse_first y ys)
    ∙ (list_all-append test (reverse ys) (y ∷ [])
    ∙ (ap (λ (b : Bool). b && list_all test (y ∷ [])) (all_reversed test ys both.1)
    ∙ ap (λ (b : Bool). b && true) both.0))

reversed : (byte : ℕ) (xs ys : List ℕ) → reverse (xs ++ byte ∷ ys) ≡ reverse ys ++ byte ∷ reverse xs
reversed byte xs ys =
    reverse-append xs (byte ∷ ys)
    ∙ (ap (λ (l : List ℕ). l ++ reverse xs) (reverse_first byte ys)
    ∙ append_assoc (reverse ys) (byte ∷ []) (reverse xs))

behind_is : (byte : ℕ) (xs ys : List ℕ) → list_all (is_other byte) ys ≡ true →
    behind_last byte (xs ++ byte ∷ ys) ≡ length ys
behind_is byte xs ys h =
    ap (prefix_len (is_other byte)) (reversed byte xs ys)
    ∙ (prefix_is byte (reverse ys) (reverse xs) (all_reversed (is_other byte) ys h) ∙ length-reverse ys)

length_parts : (byte : ℕ) (xs ys : List ℕ) → length (xs ++ byte ∷ ys) ≡ length xs + (length ys + 1)
length_parts byte [] ys = omega arith
length_parts byte (x ∷ xs) ys =
    let e : length (xs ++ byte ∷ ys) ≡ length xs + (length ys + 1) = length_parts byte xs ys in omega (arith, e)

abbrev parted_by : ℕ → ℕ → List ℕ → Option Parts
parted_by n at bytes = if n == length bytes then None else with_front (take at bytes) (drop at bytes)

pub parted_at_last_is : (byte : ℕ) (xs ys : List ℕ) → list_all (is_other byte) ys ≡ true →
    parted_at_last byte (xs ++ byte ∷ ys) ≡ Some (record { front = xs; back = ys })
unfolding parted_at_last
parted_at_last_is byte xs ys h =
    let n : behind_last byte (xs ++ byte ∷ ys) ≡ length ys = behind_is byte xs ys h in
    let l : length (xs ++ byte ∷ ys) ≡ length xs + (length ys + 1) = length_parts byte xs ys in
    let at : length (xs ++ byte ∷ ys) - (length ys + 1) ≡ length xs = omega (arith, l) in
    let other : (length ys == length (xs ++ byte ∷ ys)) ≡ false = grind (arith, nat_tests, l) in
    ap (λ (k : ℕ). parted_by k (length (xs ++ byte ∷ ys) - (k + 1)) (xs ++ byte ∷ ys)) n
    ∙ (ap (λ (b : Bool). if b then None else with_front (take (length (xs ++ byte ∷ ys) - (length ys + 1)) (xs ++ byte ∷ ys))
    (drop (length (xs ++ byte ∷ ys) - (length ys + 1)) (xs ++ byte ∷ ys))) other
    ∙ (ap (λ (k : ℕ). with_front (take k (xs ++ byte ∷ ys)) (drop k (xs ++ byte ∷ ys))) at
    ∙ (ap (λ (l : List ℕ). with_front l (drop (length xs) (xs ++ byte ∷ ys))) (take_length xs (byte ∷ ys))
    ∙ ap (with_front xs) (drop_length xs (byte ∷ ys)))))
