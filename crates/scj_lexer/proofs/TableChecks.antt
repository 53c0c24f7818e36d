-- What is computed of the tables of words and signs, and what it tells of each entry.
use Rattle.std.proofs.Common.{◌≡◌, ℕ, zero, suc, ◌+◌, ◌-◌, ◌<◌, ◌≤◌, List, [], ◌∷◌, ◌++◌, length, take, drop, Bool, true, false, ◌&&◌, ◌==◌, nat_le, not, Some, None, Option, slice_get, get_or, map, refl, ap, sym, subst, ◌∙◌, arith, inl, inr}
use Rattle.std.specs.Prelude.{bytes_eq, find, EachIndex, IfSome, slice_index}
use Rattle.std.specs.List.{list_all, list_any, position_or_len, starts_with}
use Rattle.std.proofs.lemmas.Bool.{and_parts, or_cases, not-true, leb-true, eqb-true, cond-true, cond-false, cases_Bool, cases_lt, false≢true}
use Rattle.std.proofs.lemmas.List.{take-append-drop, take_at}
use Rattle.std.proofs.lemmas.Option.{get_or_from_slice_get, slice_get-get_or, slice_get_past}
use Rattle.std.proofs.lemmas.Slice.Eq.{bytes_eq-Decides}
use Rattle.scj_base.specs.Vocabulary.{words, signs}
use Rattle.scj_base.specs.Lexeme.{is_blank, is_letter, is_digit, is_name_byte, IsWordLike}
use Rattle.scj_lexer.specs.declared.tables.TheConstants.{NAME_BYTES, SIGNS_FROM}
use Rattle.scj_lexer.specs.Tries.{only_word_of, signs_from, is_word, if_word, is_sign_first, word_of, sign_of, is_second_of_sign, goes_on, last_sign}
use Rattle.scj_lexer.proofs.Searches.{all_at, signs_in_range, only_word_in_range, sign_of_is}
use Rattle.scj_lexer.proofs.Runs.{none≢some}

-- the test passes at each element and its place, counted from k
each : {X : Type 0} → (ℕ → X → Bool) → ℕ → List X → Bool
each q k [] = true
each q k (x ∷ xs) = q k x && each q (suc k) xs

each_at : {X : Type 0} (q : ℕ → X → Bool) (k n j : ℕ) (xs : List X) (x : X) → j ≡ k + n → each q k xs ≡ true →
    slice_get xs n ≡ Some x → q j x ≡ true
unfolding each
each_at q k n j [] x e h s = absurd (cc)
each_at q k zero j (y ∷ ys) x e h s =
    let same : y ≡ x = cc in
    let place : k ≡ j = omega arith in
    rw (← same, ← place) (and_parts _ _ h).0
each_at q k (suc n) j (y ∷ ys) x e h s = each_at q (suc k) n j ys x (omega arith) (and_parts _ _ h).1 s

are_same : Bool → Bool → Bool
are_same true b = b
are_same false b = not b

same_if : (a b : Bool) → are_same a b ≡ true → a ≡ b
unfolding are_same
same_if true b e = sym e
same_if false b e = sym (not-true b e)

name_bytes_ok : each (λ k x. are_same x (is_name_byte k)) 0 NAME_BYTES ≡ true
unfolding each are_same is_letter is_digit is_name_byte
name_bytes_ok = refl

pub name_byte_at : (b : ℕ) → b < 256 → get_or NAME_BYTES b false ≡ is_name_byte b
name_byte_at b l =
    same_if _ _ (each_at (λ k x. are_same x (is_name_byte k)) 0 b b NAME_BYTES (get_or NAME_BYTES b false)
    (omega arith) name_bytes_ok (slice_get-get_or NAME_BYTES b false l))

is_at : Option ℕ → ℕ → Bool
is_at None n = false
is_at (Some m) n = m == n

is_at_true : (o : Option ℕ) (n : ℕ) → is_at o n ≡ true → o ≡ Some n
unfolding is_at
is_at_true None n e = absurd (false≢true e)
is_at_true (Some m) n e = ap Some (eqb-true _ _ e)

word_like : List ℕ → Bool
word_like [] = false
word_like (b ∷ s) = is_letter b && list_all is_name_byte s

word_like_true : (w : List ℕ) → word_like w ≡ true → IsWordLike w
unfolding word_like
word_like_true [] e = false≢true e
word_like_true (b ∷ s) e = and_parts _ _ e

word_ok : ℕ → List ℕ → Bool
word_ok n w = word_like w && (nat_le (length w) 64 && is_at (word_of w) n)

words_ok : each word_ok 0 words ≡ true
unfolding each word_ok word_like is_at words word_of only_word_of is_letter is_digit is_name_byte
words_ok = refl

pub record WordFacts (n : ℕ) (w : List ℕ) : Type 0 where
  pub like : IsWordLike w
  pub short : length w ≤ 64
  pub found : word_of w ≡ Some n

pub word_facts : (n : ℕ) (w : List ℕ) → slice_get words n ≡ Some w → WordFacts n w
unfolding word_ok
word_facts n w e =
    let ok : word_ok n w ≡ true = each_at word_ok 0 n n words w (omega arith) words_ok e in
    let parts = and_parts _ _ ok in
    let more = and_parts _ _ parts.1 in
    record { like = word_like_true w parts.0; short = leb-true _ _ more.0; found = is_at_true _ n more.1 }

abbrev pub sign_len : ℕ → ℕ
sign_len n = length (get_or signs n [])

pub find_passes : (p : ℕ → Bool) (xs : List ℕ) (n : ℕ) → find p xs ≡ Some n → p n ≡ true
find_passes p [] n e = none≢some e
find_passes p (x ∷ xs) n e =
    elim (cases_Bool (p x)) [
      | inl t ↦ let same : Some x ≡ Some n = sym (cond-true _ _ _ t) ∙ e in let here : x ≡ n = cc in rw (← here) t
      | inr f ↦ find_passes p xs n (sym (cond-false _ _ _ f) ∙ e)
    ]

pub find_place : (p : ℕ → Bool) (xs : List ℕ) (n : ℕ) → find p xs ≡ Some n → (k : ℕ) × (k < length xs) ×
    (get_or xs k 0 ≡ n)
find_place p [] n e = none≢some e
find_place p (x ∷ xs) n e =
    elim (cases_Bool (p x)) [
      | inl t ↦ let same : Some x ≡ Some n = sym (cond-true _ _ _ t) ∙ e in let here : x ≡ n =
          cc in (0, omega arith, here)
      | inr f ↦ let (k, l, h) = find_place p xs n (sym (cond-false _ _ _ f) ∙ e) in (suc k, omega arith, h)
    ]

-- where each is at least as long as the later ones, the one that is found is at least as long as any that passes
descends : List ℕ → Bool
descends [] = true
descends (x ∷ xs) = list_all (λ y. nat_le (sign_len y) (sign_len x)) xs && descends xs

all_member : (p : ℕ → Bool) (xs : List ℕ) (m : ℕ) → list_all p xs ≡ true → list_any (λ x. x == m) xs ≡ true → p m ≡ true
all_member p [] m a i = absurd (false≢true i)
all_member p (x ∷ xs) m a i =
    let parts = and_parts _ _ a in
    elim (or_cases (x == m) _ i) [
      | inl h ↦ let same : x ≡ m = eqb-true _ _ h in rw (← same) parts.0
      | inr h ↦ all_member p xs m parts.1 h
    ]

find_longest : (p : ℕ → Bool) (xs : List ℕ) (m : ℕ) → descends xs ≡ true → list_any (λ x. x == m) xs ≡ true →
    p m ≡ true → (n : ℕ) × (find p xs ≡ Some n) × (sign_len m ≤ sign_len n)
unfolding descends
find_longest p [] m d i t = absurd (false≢true i)
find_longest p (x ∷ xs) m d i t =
    let parts = and_parts _ _ d in
    elim (cases_Bool (p x)) [
      | inl h ↦ (
        x,
        cond-true _ _ _ h,
        elim (or_cases (x == m) _ i) [
          | inl s ↦ let same : x ≡ m = eqb-true _ _ s in rw same (omega arith)
          | inr s ↦ leb-true _ _ (all_member (λ y. nat_le (sign_len y) (sign_len x)) xs m parts.0 s)
        ],
      )
      | inr h ↦
          elim (or_cases (x == m) _ i) [
            | inl s ↦ let same : x ≡ m = eqb-true _ _ s in absurd (false≢true (sym h ∙ rw same t))
            | inr s ↦ let (n, f, l) = find_longest p xs m parts.1 s t in (n, cond-false _ _ _ h ∙ f, l)
          ]
    ]

all_descend : list_all descends (map (λ r. r.now) SIGNS_FROM) ≡ true
unfolding descends signs
all_descend = refl

signs_descend : (b : ℕ) → descends (signs_from b) ≡ true
unfolding signs_from descends
signs_descend b = all_at descends (map (λ r. r.now) SIGNS_FROM) (b - 33) [] all_descend refl

sign_ok : ℕ → List ℕ → Bool
sign_ok n [] = false
sign_ok n (b ∷ s) = not (is_blank b)
    && (not (is_letter b)
    && (not (is_digit b)
    && (not (b == 34)
    && ((nat_le 33 b && nat_le b 126)
    && (list_any (λ m. m == n) (signs_from b) && (position_or_len (λ v. bytes_eq v (b ∷ s)) signs == n))))))

signs_ok : each sign_ok 0 signs ≡ true
unfolding each sign_ok signs signs_from is_blank is_letter is_digit
signs_ok = refl

pub record SignFacts (n b : ℕ) (s : List ℕ) : Type 0 where
  pub not_blank : is_blank b ≡ false
  pub not_letter : is_letter b ≡ false
  pub not_digit : is_digit b ≡ false
  pub not_quote : (b == 34) ≡ false
  pub printed : (nat_le 33 b && nat_le b 126) ≡ true
  pub tried : list_any (λ m. m == n) (signs_from b) ≡ true
  pub place : position_or_len (λ v. bytes_eq v (b ∷ s)) signs ≡ n

pub sign_not_empty : (n : ℕ) → slice_get signs n ≡ Some [] → ⊥
unfolding sign_ok
sign_not_empty n e = false≢true (each_at sign_ok 0 n n signs [] (omega arith) signs_ok e)

pub sign_facts : (n b : ℕ) (s : List ℕ) → slice_get signs n ≡ Some (b ∷ s) → SignFacts n b s
unfolding sign_ok
sign_facts n b s e =
    let ok : sign_ok n (b ∷ s) ≡ true = each_at sign_ok 0 n n signs (b ∷ s) (omega arith) signs_ok e in
    let p1 = and_parts _ _ ok in
    let p2 = and_parts _ _ p1.1 in
    let p3 = and_parts _ _ p2.1 in
    let p4 = and_parts _ _ p3.1 in
    let p5 = and_parts _ _ p4.1 in
    let p6 = and_parts _ _ p5.1 in
    record {
      not_blank = not-true _ p1.0;
      not_letter = not-true _ p2.0;
      not_digit = not-true _ p3.0;
      not_quote = not-true _ p4.0;
      printed = p5.0;
      tried = p6.0;
      place = eqb-true _ _ p6.1;
    }

pub sign_same : (n m : ℕ) (v : List ℕ) → slice_get signs n ≡ Some v → slice_get signs m ≡ Some v → n ≡ m
sign_same n m [] e f = absurd (sign_not_empty n e)
sign_same n m (b ∷ s) e f = sym (sign_facts n b s e).place ∙ (sign_facts m b s f).place

starts_front : (v rest : List ℕ) → starts_with ◌==◌ (v ++ rest) v ≡ true
starts_front v rest = rw (take_at v rest (length v) refl) ((bytes_eq-Decides v v).1 refl)

pub sign_complete : (m : ℕ) (v rest : List ℕ) → slice_get signs m ≡ Some v → (n : ℕ) × (sign_of (v ++ rest) ≡ Some n) ×
    (length v ≤ sign_len n)
unfolding sign_of
sign_complete m [] rest e = absurd (sign_not_empty m e)
sign_complete m (b ∷ s) rest e =
    let facts : SignFacts m b s = sign_facts m b s e in
    let is : get_or signs m [] ≡ b ∷ s = get_or_from_slice_get signs m (b ∷ s) [] e in
    let passes : is_sign_first (b ∷ s ++ rest) m ≡ true = rw is (starts_front (b ∷ s) rest) in
    let (n, f, l) = find_longest (is_sign_first (b ∷ s ++ rest)) (signs_from b) m (signs_descend b) facts.tried passes
    in
    (n, cond-true _ _ _ facts.printed ∙ f, subst (λ u. length u ≤ sign_len n) is l)

pub record SignFound (bytes : List ℕ) (n : ℕ) : Type 0 where
  pub sign : List ℕ
  pub rest : List ℕ
  pub listed : slice_get signs n ≡ Some sign
  pub whole : bytes ≡ sign ++ rest

sign_from : (b n : ℕ) (s : List ℕ) → find (is_sign_first (b ∷ s)) (signs_from b) ≡ Some n → SignFound (b ∷ s) n
unfolding signs
sign_from b n s e =
    let (k, l, h) = find_place (is_sign_first (b ∷ s)) (signs_from b) n e in
    let low : n < 50 = rw (← h) (signs_in_range b k l) in
    let v = get_or signs n [] in
    let front : v ≡ take (length v) (b ∷ s) =
    (bytes_eq-Decides v (take (length v) (b ∷ s))).0 (find_passes (is_sign_first (b ∷ s)) (signs_from b) n e) in
    record {
      sign = v;
      rest = drop (length v) (b ∷ s);
      listed = slice_get-get_or signs n [] low;
      whole = sym
          (take-append-drop (length v) (b ∷ s)) ∙ ap (λ u. u ++ drop (length v) (b ∷ s)) (sym front);
    }

pub sign_sound : (bytes : List ℕ) (n : ℕ) → sign_of bytes ≡ Some n → SignFound bytes n
unfolding sign_of
sign_sound [] n e = none≢some e
sign_sound (b ∷ s) n e =
    elim (cases_Bool (nat_le 33 b && nat_le b 126)) [
      | inl t ↦ sign_from b n s (sym (cond-true _ _ _ t) ∙ e)
      | inr f ↦ none≢some (sym (cond-false _ _ _ f) ∙ e)
    ]

if_word_is : (w : List ℕ) (m n : ℕ) → if_word w m ≡ Some n → (m ≡ n) × (is_word w m ≡ true)
if_word_is w m n e =
    elim (cases_Bool (is_word w m)) [
      | inl t ↦ let same : Some m ≡ Some n = sym (cond-true _ _ _ t) ∙ e in let place : m ≡ n = cc in (place, t)
      | inr f ↦ none≢some (sym (cond-false _ _ _ f) ∙ e)
    ]

word_at : (w : List ℕ) (m n : ℕ) → m < 53 → if_word w m ≡ Some n → slice_get words n ≡ Some w
unfolding words
word_at w m n low e =
    let (place, t) = if_word_is w m n e in
    let same : get_or words m [] ≡ w = (bytes_eq-Decides (get_or words m []) w).0 t in
    rw (← place) (slice_get-get_or words m [] low ∙ ap Some same)

pub word_sound : (w : List ℕ) (n : ℕ) → word_of w ≡ Some n → slice_get words n ≡ Some w
unfolding word_of
word_sound [] n e = none≢some e
word_sound (a ∷ []) n e = none≢some e
word_sound (a ∷ b ∷ s) n e =
    word_at (a ∷ b ∷ s) (only_word_of a b (length (a ∷ b ∷ s))) n (only_word_in_range a b (length (a ∷ b ∷ s))) e

-- the last of the signs of a byte is that byte, and each other has a second byte of a sign
ends_alone : ℕ → List ℕ → Bool
ends_alone b [] = true
ends_alone b (n ∷ []) = bytes_eq (get_or signs n []) (b ∷ [])
ends_alone b (n ∷ m ∷ ns) = goes_on (get_or signs n []) && ends_alone b (m ∷ ns)

all_end_alone : each ends_alone 33 (map (λ r. r.now) SIGNS_FROM) ≡ true
unfolding each ends_alone goes_on is_second_of_sign signs
all_end_alone = refl

signs_end_alone : (b : ℕ) → 33 ≤ b → b ≤ 126 → ends_alone b (signs_from b) ≡ true
unfolding signs_from
signs_end_alone b l u = each_at ends_alone 33 (b - 33) b (map (λ r. r.now) SIGNS_FROM) (signs_from b)
    (omega arith) all_end_alone (slice_get-get_or (map (λ r. r.now) SIGNS_FROM) (b - 33) [] (omega arith))

-- bytes with no second byte of a sign do not begin with a sign that has one
goes_on_front : (v bytes : List ℕ) → goes_on v ≡ true → v ≡ take (length v) bytes → goes_on bytes ≡ true
unfolding goes_on
goes_on_front [] bytes g e = absurd (false≢true g)
goes_on_front (x ∷ []) bytes g e = absurd (false≢true g)
goes_on_front (x ∷ y ∷ v) [] g e = absurd (cc)
goes_on_front (x ∷ y ∷ v) (a ∷ []) g e = absurd (cc)
goes_on_front (x ∷ y ∷ v) (a ∷ b ∷ s) g e = let same : y ≡ b = cc in rw (← same) g

stops : (bytes : List ℕ) (n : ℕ) → goes_on bytes ≡ false → goes_on (get_or signs n []) ≡ true →
    is_sign_first bytes n ≡ false
stops bytes n f g =
    elim (cases_Bool (is_sign_first bytes n)) [
      | inl t ↦ absurd
          (false≢true
          (sym f
          ∙ goes_on_front (get_or signs n []) bytes g
          ((bytes_eq-Decides (get_or signs n []) (take (length (get_or signs n [])) bytes)).0 t)))
      | inr e ↦ e
    ]

starts_alone : (b : ℕ) (s v : List ℕ) → bytes_eq v (b ∷ []) ≡ true → starts_with ◌==◌ (b ∷ s) v ≡ true
starts_alone b s v e = rw ((bytes_eq-Decides v (b ∷ [])).0 e) (starts_front (b ∷ []) s)

find_alone : (b : ℕ) (s ns : List ℕ) → goes_on (b ∷ s) ≡ false → ends_alone b ns ≡ true →
    find (is_sign_first (b ∷ s)) ns ≡ slice_get ns (length ns - 1)
unfolding ends_alone
find_alone b s [] f e = refl
find_alone b s (n ∷ []) f e = cond-true _ _ _ (starts_alone b s (get_or signs n []) e)
find_alone b s (n ∷ m ∷ ns) f e =
    let parts : (goes_on (get_or signs n []) ≡ true) × (ends_alone b (m ∷ ns) ≡ true) = and_parts _ _ e in
    let place : length (n ∷ m ∷ ns) - 1 ≡ suc (length (m ∷ ns) - 1) = omega arith in
    rw place (cond-false _ _ _ (stops (b ∷ s) n f parts.0) ∙ find_alone b s (m ∷ ns) f parts.1)

pub sign_of_alone : (bytes : List ℕ) → 0 < length bytes → 33 ≤ get_or bytes 0 0 → get_or bytes 0 0 ≤ 126 →
    goes_on bytes ≡ false → sign_of bytes ≡ last_sign (get_or bytes 0 0)
unfolding last_sign
sign_of_alone [] h l u f = absurd (omega arith)
sign_of_alone (b ∷ s) h l u f = sign_of_is (b ∷ s) h l u ∙ find_alone b s (signs_from b) f (signs_end_alone b l u)

if_in_range : (ns : List ℕ) (k : ℕ) → EachIndex ns (λ i. slice_index ns i < 50) → IfSome (slice_get ns k) (λ n. n < 50)
if_in_range ns k h =
    elim (cases_lt k (length ns)) [
      | inl l ↦ rw (slice_get-get_or ns k 0 l) (h k l)
      | inr g ↦ rw (slice_get_past ns k g) tt
    ]

pub last_in_range : (b : ℕ) → IfSome (last_sign b) (λ n. n < 50)
unfolding last_sign
last_in_range b = if_in_range (signs_from b) (length (signs_from b) - 1) (signs_in_range b)
