-- The canonical text of lexemes lexes to them.
use Rattle.std.proofs.Common.{◌≡◌, ℕ, zero, suc, ◌+◌, ◌-◌, ◌*◌, ◌/◌, ◌%◌, ◌^◌, ◌<◌, ◌≤◌, ◌⊎◌, inl, inr, Bool, true, false, not, ◌&&◌, ◌||◌, ◌==◌, List, [], ◌∷◌, ◌++◌, length, get_or, Some, slice_get, refl, sym, ap, subst, ◌∙◌, arith, append_assoc, length-append}
use Rattle.std.specs.Prelude.{decimal, if◌then◌else◌, slice_index_or}
use Rattle.std.specs.List.{list_all}
use Rattle.std.proofs.lemmas.Bool.{and_parts, not-true, leb-true, eq-eqb, false≢true}
use Rattle.std.proofs.lemmas.Fmt.{decimal_by_steps, decimal_digit, first_decimal, decimal_nonempty}
use Rattle.std.proofs.lemmas.List.{take_at, drop_at}
use Rattle.std.proofs.lemmas.List.Folds.{list_all-append}
use Rattle.std.proofs.lemmas.List.Sums.{fold-append}
use Rattle.std.proofs.lemmas.Nat.{div-add-mod'}
use Rattle.std.proofs.lemmas.Option.{slice_get-get_or}
use Rattle.scj_base.specs.Vocabulary.{words, signs}
use Rattle.scj_base.specs.declared.lexemes.TokenKind.TheVariants.{Number}
use Rattle.scj_base.specs.Lexeme.{is_blank, is_letter, is_digit, is_name_byte, IsWordLike, IsNumeral, IsReserved, value_of, opens_comment, Lexeme, is_name}
use Rattle.scj_base.specs.Lexeme.Lexeme.{name, word, number, text, sign}
use Rattle.scj_base.specs.Lexeme.Piece.{blank, lexeme}
use Rattle.scj_base.specs.Lex.{Lexes, token_at, position_behind}
use Rattle.scj_base.specs.Lex.Lexes.{ends, skips, takes}
use Rattle.scj_tree.specs.Lexemes.{Lexeme as TreeLexeme, part_of, lexeme_of, lexemes_of}
use Rattle.scj_base.specs.Bytes.{is_one_of, is_same}
use Rattle.scj_show.specs.Symbols.{Symbol, a_name, a_text, a_word, a_sign, a_number, bytes_of, separator, canonical}
use Rattle.scj_show.specs.Placed.{IsLexeme, AreLexemes, kind_of, lexeme_at, printed, tokens_behind, lexemes_behind}

-- ---- the byte behind a lexeme

record IsBlankByte (b : ℕ) : Type 0 where
  blank_byte : is_blank b ≡ true
  no_slash : (b == 47) ≡ false
  no_star : (b == 42) ≡ false
  no_name : is_name_byte b ≡ false

either : (t : Bool) → IsBlankByte (if t then 10 else 32)
unfolding is_blank is_name_byte is_letter is_digit
either true = record { blank_byte = refl; no_slash = refl; no_star = refl; no_name = refl }
either false = record { blank_byte = refl; no_slash = refl; no_star = refl; no_name = refl }

behind : (s : Symbol) → IsBlankByte (separator s)
unfolding separator
behind (a_name w) = either false
behind (a_text w) = either false
behind (a_word n) = either false
behind (a_sign n) = either _
behind (a_number n) = either false

-- ---- tables

at_place : {X : Type 0} (p : X → Bool) (xs : List X) (n : ℕ) (x : X) → list_all p xs ≡ true → slice_get xs n ≡ Some x →
    p x ≡ true
at_place p [] n x a e = absurd (cc)
at_place p (y ∷ xs) zero x a e = let here : y ≡ x = cc in subst (λ z. p z ≡ true) here (and_parts _ _ a).0
at_place p (y ∷ xs) (suc n) x a e = at_place p xs n x (and_parts _ _ a).1 e

no_blank : List ℕ → Bool
no_blank v = list_all (λ c. not (is_blank c)) v

signs_no_blank : list_all no_blank signs ≡ true
unfolding no_blank signs is_blank
signs_no_blank = refl

starts_no_comment : List ℕ → Bool
starts_no_comment [] = false
starts_no_comment (a ∷ v) = not (opens_comment (a ∷ v))

signs_no_comment : list_all starts_no_comment signs ≡ true
unfolding starts_no_comment signs opens_comment
signs_no_comment = refl

sign_there : (n : ℕ) → n < 50 → slice_get signs n ≡ Some (slice_index_or signs n [])
unfolding signs
sign_there n h = slice_get-get_or signs n [] h

word_there : (n : ℕ) → n < 53 → slice_get words n ≡ Some (slice_index_or words n [])
unfolding words
word_there n h = slice_get-get_or words n [] h

-- ---- signs

within : (w v r t : List ℕ) (b : ℕ) → w ++ b ∷ r ≡ v ++ t → no_blank v ≡ true → is_blank b ≡ true → length v ≤ length w
unfolding no_blank
within [] [] r t b e n h = omega arith
within [] (c ∷ v) r t b e n h =
    let here : b ≡ c = cc in
    let no : is_blank c ≡ false = not-true _ (and_parts _ _ n).0 in
    absurd (false≢true (sym no ∙ ap is_blank (sym here) ∙ h))
within (x ∷ w) [] r t b e n h = omega arith
within (x ∷ w) (c ∷ v) r t b e n h =
    let tails : w ++ b ∷ r ≡ v ++ t = cc in
    omega (arith, within w v r t b tails (and_parts _ _ n).1 h)

and-false : (t : Bool) → (t && false) ≡ false
and-false true = refl
and-false false = refl

no_comment : (w r : List ℕ) (b : ℕ) → starts_no_comment w ≡ true → (b == 47) ≡ false → (b == 42) ≡ false →
    opens_comment (w ++ b ∷ r) ≡ false
unfolding starts_no_comment opens_comment
no_comment [] r b s x y = absurd (false≢true s)
no_comment (a ∷ []) r b s x y = rw (x, y) (and-false (a == 47))
no_comment (a ∷ c ∷ w) r b s x y = not-true _ s

-- ---- names

or-swap : (a b : Bool) → (a || b) ≡ (b || a)
or-swap true true = refl
or-swap true false = refl
or-swap false true = refl
or-swap false false = refl

same_itself : (w : List ℕ) → is_same w w ≡ true
same_itself [] = refl
same_itself (x ∷ w) = rw (eq-eqb x x refl) (same_itself w)

one_of : (w : List ℕ) (vs : List (List ℕ)) (n : ℕ) → slice_get vs n ≡ Some w → is_one_of w vs ≡ true
one_of w [] n e = absurd (cc)
one_of w (v ∷ vs) zero e =
    let here : v ≡ w = cc in
    rw (here, same_itself w) refl
one_of w (v ∷ vs) (suc n) e = ap (λ (t : Bool). is_same w v || t) (one_of w vs n e) ∙ or-swap (is_same w v) true

pub record NameFacts (w : List ℕ) : Type 0 where
  pub like : IsWordLike w
  pub short : length w ≤ 64
  pub free : IsReserved w → ⊥

pub name_facts : (w : List ℕ) → is_name w ≡ true → NameFacts w
unfolding is_name
name_facts [] h = absurd (false≢true h)
name_facts (b ∷ bs) h =
    let first = and_parts _ _ h in
    let second = and_parts _ _ first.1 in
    let third = and_parts _ _ second.1 in
    record {
      like = (first.0, second.0);
      short = omega (arith, leb-true _ _ third.0);
      free = λ (n, e). false≢true (sym (not-true _ third.1) ∙ one_of (b ∷ bs) words n e);
    }

-- ---- numbers

record Digits (n : ℕ) (ds : List ℕ) : Type 0 where
  digits : list_all is_digit ds ≡ true
  value : value_of ds ≡ n

digit_byte : (d : ℕ) → d < 10 → is_digit (48 + d) ≡ true
unfolding is_digit
digit_byte d h = grind (arith)

one_digit : (n : ℕ) → n < 10 → Digits n ((48 + n) ∷ [])
unfolding value_of
one_digit n h = record { digits = rw (digit_byte n h) refl; value = omega arith }

more_digits : (n : ℕ) (ds : List ℕ) → 10 ≤ n → Digits (n / 10) ds → Digits n (ds ++ ((48 + n % 10) ∷ []))
unfolding value_of
more_digits n ds h d =
    let small : n % 10 < 10 = omega arith in
    record {
      digits = list_all-append is_digit ds ((48 + n % 10) ∷ []) ∙ rw (d.digits, digit_byte (n % 10) small) refl;
      value = fold-append (λ (m c : ℕ). 10 * m + (c - 48)) 0 ds ((48 + n % 10) ∷ [])
          ∙ omega (arith, d.value, div-add-mod' n 10);
    }

digits_of_decimal : (n : ℕ) → n < 2 ^ 64 → Digits n (decimal n)
digits_of_decimal n h = decimal_by_steps Digits one_digit more_digits n h

numeral : (ds : List ℕ) (n : ℕ) → ds ≡ decimal n → n < 2 ^ 64 → IsNumeral ds
numeral [] n e h = absurd (omega (arith, decimal_nonempty n h, ap length e))
numeral (b ∷ s) n e h =
    let d : list_all is_digit (b ∷ s) ≡ true =
    subst (λ (t : List ℕ). list_all is_digit t ≡ true) (sym e) (digits_of_decimal n h).digits in
    let parts = and_parts _ _ d in
    (parts.0, parts.1, λ (z : b ≡ 48). leading z (none_or_some n))
  where
    none_or_some : (m : ℕ) → (m ≡ 0) ⊎ (0 < m)
    none_or_some zero = inl refl
    none_or_some (suc m) = inr (omega arith)

    leading : b ≡ 48 → (n ≡ 0) ⊎ (0 < n) → s ≡ []
    leading z (inl q) = let same : b ∷ s ≡ 48 ∷ [] = e ∙ ap decimal q ∙ decimal_digit 0 (omega arith) in cc
    leading z (inr l) = let f : 48 < get_or (decimal n) 0 0 = first_decimal n l h in let g : 48 < b =
        subst (λ (t : List ℕ). 48 < get_or t 0 0) (sym e) f in absurd (omega arith)

-- ---- one lexeme

one_lexeme : (s : Symbol) (rest : List ℕ) → IsLexeme s → Lexeme (bytes_of s) (separator s ∷ rest) (kind_of s)
unfolding IsLexeme bytes_of kind_of
one_lexeme (a_name w) rest h = let f = name_facts w h in name w _ f.like f.short f.free (behind (a_name w)).no_name
one_lexeme (a_text w) rest h = text w _ h
one_lexeme (a_word n) rest h = word _ _ n (word_there n h) (behind (a_word n)).no_name
one_lexeme (a_sign n) rest h =
    let there = sign_there n h in
    let b = behind (a_sign n) in
    sign _ _ n there (λ m v t e q. within _ v rest t _ q (at_place no_blank signs m v signs_no_blank e) b.blank_byte)
    (no_comment _ rest _ (at_place starts_no_comment signs n _ signs_no_comment there) b.no_slash b.no_star)
one_lexeme (a_number n) rest h =
    let small : n < 2 ^ 64 = omega arith in
    let v : value_of (decimal n) ≡ n = (digits_of_decimal n small).value in
    subst (λ (k : ℕ). Lexeme (decimal n) (separator (a_number n) ∷ rest) (Number k)) v
    (number (decimal n) _ (numeral (decimal n) n refl small) (omega arith) (behind (a_number n)).no_name)

-- ---- the whole text

pub lexes : (file : ℕ) (before : List ℕ) (ss : List Symbol) → AreLexemes ss →
    Lexes file before (canonical ss) (tokens_behind file before ss)
unfolding AreLexemes canonical tokens_behind
lexes file before [] h = ends file before
lexes file before (s ∷ ss) h =
    let rest : Lexes file ((before ++ bytes_of s) ++ separator s ∷ []) (canonical ss)
    (tokens_behind file (before ++ printed s) ss) =
    rw (append_assoc before (bytes_of s) (separator s ∷ [])) (lexes file (before ++ printed s) ss h.1) in
    let space : Lexes file (before ++ bytes_of s) ((separator s ∷ []) ++ canonical ss)
    (tokens_behind file (before ++ printed s) ss) =
    skips file (before ++ bytes_of s) (separator s ∷ []) (canonical ss) _
    (blank (separator s) (canonical ss) (behind s).blank_byte) rest in
    rw (append_assoc (bytes_of s) (separator s ∷ []) (canonical ss))
    (takes file before (bytes_of s) ((separator s ∷ []) ++ canonical ss) (kind_of s) _
    (lexeme _ _ _ (one_lexeme s (canonical ss) h.0)) space)

-- the part of a text behind some bytes
pub part_behind : (before w rest : List ℕ) (n m : ℕ) → length before ≡ n → length w ≡ m →
    part_of (before ++ (w ++ rest)) n m ≡ w
unfolding part_of
part_behind before w rest n m e q = rw (drop_at before (w ++ rest) n e) (take_at w rest m q)

-- the part of a text between the quotes of a text behind some bytes
pub text_behind : (before w rest : List ℕ) → part_of (before ++ ((34 ∷ (w ++ 34 ∷ [])) ++ rest)) (length before + 1)
    (length (34 ∷ (w ++ 34 ∷ [])) - 2) ≡ w
text_behind before w rest = ap (λ (t : List ℕ). part_of t (length before + 1) (length (34 ∷ (w ++ 34 ∷ [])) - 2))
    (sym (append_assoc before (34 ∷ []) _)
    ∙ ap (λ (t : List ℕ). (before ++ 34 ∷ []) ++ t) (append_assoc w (34 ∷ []) rest))
    ∙ part_behind (before ++ 34 ∷ []) w ((34 ∷ []) ++ rest) _ _ (omega (arith, length-append before (34 ∷ [])))
    (omega (arith, length-append w (34 ∷ [])))

one_read : (file : ℕ) (before : List ℕ) (s : Symbol) (rest : List ℕ) →
    lexeme_of (before ++ (bytes_of s ++ rest)) (token_at file before (kind_of s) (length (bytes_of s))) ≡ lexeme_at s
    (position_behind file before)
unfolding lexeme_of kind_of lexeme_at bytes_of
one_read file before (a_name w) rest = ap (λ (t : List ℕ). TreeLexeme.a_name t (position_behind file before))
    (part_behind before w rest _ _ refl refl)
one_read file before (a_text w) rest = ap (λ (t : List ℕ). TreeLexeme.a_text t (position_behind file before))
    (text_behind before w rest)
one_read file before (a_word n) rest = refl
one_read file before (a_sign n) rest = refl
one_read file before (a_number n) rest = refl

pub reads : (file : ℕ) (before : List ℕ) (ss : List Symbol) →
    lexemes_of (before ++ canonical ss) (tokens_behind file before ss) ≡ lexemes_behind file before ss
unfolding lexemes_of lexeme_of canonical tokens_behind lexemes_behind
reads file before [] = refl
reads file before (s ∷ ss) =
    let more : lexemes_of (before ++ (printed s ++ canonical ss)) (tokens_behind file (before ++ printed s) ss)
    ≡ lexemes_behind file (before ++ printed s) ss =
    ap (λ (t : List ℕ). lexemes_of t (tokens_behind file (before ++ printed s) ss))
    (sym (append_assoc before (printed s) (canonical ss))) ∙ reads file (before ++ printed s) ss in
    let one : lexeme_of (before ++ (printed s ++ canonical ss)) (token_at file before (kind_of s) (length (bytes_of s)))
    ≡ lexeme_at s (position_behind file before) =
    ap (λ (t : List ℕ). lexeme_of (before ++ t) (token_at file before (kind_of s) (length (bytes_of s))))
    (append_assoc (bytes_of s) (separator s ∷ []) (canonical ss))
    ∙ one_read file before s ((separator s ∷ []) ++ canonical ss) in
    ap (λ (t : TreeLexeme). t ∷ lexemes_of (before ++ (printed s ++ canonical ss))
    (tokens_behind file (before ++ printed s) ss)) one
    ∙ ap (λ (t : List TreeLexeme). lexeme_at s (position_behind file before) ∷ t) more
