-- A piece, or a break, is what the bytes are found to begin with.
use Rattle.std.proofs.Common.{◌≡◌, ℕ, suc, ◌+◌, ◌<◌, ◌≤◌, List, [], ◌∷◌, ◌++◌, length, take, true, false, ◌&&◌, ◌==◌, nat_lt, Some, None, Option, slice_get, refl, ap, sym, ◌∙◌, arith, append_assoc, length-append, get_or}
use Rattle.std.specs.List.{prefix_len}
use Rattle.std.proofs.lemmas.Bool.{and_parts, and_from, ltb-true, or_left, or_right, le-ltb, lt-ltb, eqb-true, cond-true, cond-false, false_from_ne_true}
use Rattle.std.proofs.lemmas.Bool.Decides.{nat_tests}
use Rattle.std.proofs.lemmas.List.{take_at, drop_at}
use Rattle.std.proofs.lemmas.Option.{get_or_from_slice_get}
use Rattle.scj_base.specs.Vocabulary.{signs}
use Rattle.scj_base.specs.Lexeme.{is_blank, is_letter, is_digit, is_name_byte, is_text_byte, is_line_byte, AllOf, EndsHere, IsWordLike, IsNumeral, IsReserved, IsLongestSign, value_of, opens_comment, has_close, Lexeme, Piece}
use Rattle.scj_base.specs.Lexeme.Lexeme.{name, word, number, text, sign}
use Rattle.scj_base.specs.Lexeme.Piece.{blank, line_comment, block_comment, lexeme}
use Rattle.scj_base.specs.declared.lexemes.TokenKind.{TokenKind}
use Rattle.scj_base.specs.declared.lexemes.TokenKind.TheVariants.{Number, Text, Sign}
use Rattle.scj_base.specs.declared.findings.Rule.TheVariants.{L4}
use Rattle.scj_lexer.specs.declared.pieces.Front.TheVariants.{Piece as Reported, Bad}
use Rattle.scj_lexer.specs.Tries.{word_of}
use Rattle.scj_lexer.specs.First.{first_of, name_first, number_first, text_first, comment_first, sign_first, number_of, word_or_name, number_or_bad, comment_or_bad, sign_or_bad}
use Rattle.scj_lexer.proofs.Runs.{prefix_len_exact, digits_exact, close_exact}
use Rattle.scj_lexer.proofs.TableChecks.{WordFacts, word_facts, word_sound, SignFacts, sign_facts, sign_not_empty, sign_same, sign_complete, sign_sound, SignFound, sign_len}

pub none_if : (o : Option ℕ) → ((n : ℕ) → o ≡ Some n → ⊥) → o ≡ None
none_if None h = refl
none_if (Some n) h = absurd (h n refl)

alone : (b : ℕ) (s : List ℕ) → ((b ≡ 48) → s ≡ []) → (nat_lt 1 (suc (length s)) ≡ true) × ((b == 48) ≡ true) → ⊥
alone b s h (long, zero_first) =
    let nothing : length s ≡ 0 = ap length (h (eqb-true _ _ zero_first)) in
    let more : 1 < suc (length s) = ltb-true _ _ long in
    absurd (omega arith)

no_leading_zero : (b : ℕ) (s : List ℕ) → ((b ≡ 48) → s ≡ []) → (nat_lt 1 (length (b ∷ s)) && (b == 48)) ≡ false
no_leading_zero b s h = false_from_ne_true _ (λ e. alone b s h (and_parts _ _ e))

quoted_len : (inside : List ℕ) → length inside + 2 ≡ suc (length (inside ++ 34 ∷ []))
quoted_len inside = omega (arith, length-append inside (34 ∷ []))

commented_len : (inside : List ℕ) → length inside + 4 ≡ suc (suc (length (inside ++ 42 ∷ 47 ∷ [])))
commented_len inside = omega (arith, length-append inside (42 ∷ 47 ∷ []))

-- two signs that begin the same bytes and are as long as each other are one
same_sign : (w rest : List ℕ) (n m : ℕ) → slice_get signs n ≡ Some w → (f : SignFound (w ++ rest) m) →
    length w ≤ sign_len m → length f.sign ≤ length w → sign_or_bad (Some m) ≡ Reported (Some (Sign n)) (length w)
same_sign w rest n m e f longer shorter =
    let is : get_or signs m [] ≡ f.sign = get_or_from_slice_get signs m f.sign [] f.listed in
    let as_long : length w ≡ length f.sign = omega (arith, ap length is) in
    let front : w ≡ f.sign = sym (take_at w rest (length w) refl) ∙ ap (take (length w)) f.whole
    ∙ take_at f.sign f.rest (length w) (sym as_long) in
    let same : n ≡ m = sign_same n m w e (f.listed ∙ ap Some (sym front)) in
    rw (is, ← same, ← front) refl

letter_not_blank : (b : ℕ) → is_letter b ≡ true → is_blank b ≡ false
unfolding is_letter is_blank
letter_not_blank b e = grind (arith, nat_tests)

digit_not_blank : (b : ℕ) → is_digit b ≡ true → is_blank b ≡ false
unfolding is_digit is_blank
digit_not_blank b e = grind (arith, nat_tests)

digit_not_letter : (b : ℕ) → is_digit b ≡ true → is_letter b ≡ false
unfolding is_digit is_letter
digit_not_letter b e = grind (arith, nat_tests)

letter_in_name : (b : ℕ) → is_letter b ≡ true → is_name_byte b ≡ true
unfolding is_name_byte
letter_in_name b e = or_left _ _ e

digit_in_name : (b : ℕ) → is_digit b ≡ true → is_name_byte b ≡ true
unfolding is_name_byte
digit_in_name b e = or_right _ _ e

pub digits_in_name : (s : List ℕ) → AllOf is_digit s → AllOf is_name_byte s
digits_in_name [] a = refl
digits_in_name (b ∷ s) a = and_from _ _ (digit_in_name b (and_parts _ _ a).0) (digits_in_name s (and_parts _ _ a).1)

word_like_in_name : (w : List ℕ) → IsWordLike w → AllOf is_name_byte w
word_like_in_name [] h = absurd h
word_like_in_name (b ∷ s) h = and_from _ _ (letter_in_name b h.0) h.1

exact_blank : (b : ℕ) (rest : List ℕ) → is_blank b ≡ true → first_of (b ∷ rest) ≡ Reported None 1
unfolding first_of
exact_blank b rest e = cond-true _ _ _ e

exact_line : (inside rest : List ℕ) → AllOf is_line_byte inside → EndsHere is_line_byte rest →
    first_of (47 ∷ 47 ∷ (inside ++ rest)) ≡ Reported None (suc (suc (length inside)))
unfolding first_of is_blank is_letter is_digit opens_comment
exact_line inside rest a e = let n : prefix_len is_line_byte (inside ++ rest) + 2 ≡ suc (suc (length inside)) =
    rw (prefix_len_exact is_line_byte inside rest a e) (omega arith) in ap (Reported None) n

exact_block : (inside rest : List ℕ) → has_close inside ≡ false →
    first_of (47 ∷ 42 ∷ ((inside ++ 42 ∷ 47 ∷ []) ++ rest)) ≡ Reported None (length inside + 4)
unfolding first_of is_blank is_letter is_digit opens_comment comment_first
exact_block inside rest e = ap comment_or_bad (close_exact inside rest e)

pub letter_first : (b : ℕ) (s : List ℕ) → is_letter b ≡ true → first_of (b ∷ s) ≡ name_first (b ∷ s)
unfolding first_of
letter_first b s e = cond-false _ _ _ (letter_not_blank b e) ∙ cond-true _ _ _ e

pub digit_first : (b : ℕ) (s : List ℕ) → is_digit b ≡ true → first_of (b ∷ s) ≡ number_first (b ∷ s)
unfolding first_of
digit_first b s e = cond-false _ _ _ (digit_not_blank b e) ∙ cond-false _ _ _ (digit_not_letter b e) ∙ cond-true _ _ _ e

pub quote_first : (s : List ℕ) → first_of (34 ∷ s) ≡ text_first s
unfolding first_of is_blank is_letter is_digit
quote_first s = refl

pub other_first : (b : ℕ) (s : List ℕ) → is_blank b ≡ false → is_letter b ≡ false → is_digit b ≡ false →
    (b == 34) ≡ false → opens_comment (b ∷ s) ≡ false → first_of (b ∷ s) ≡ sign_first (b ∷ s)
unfolding first_of
other_first b s e1 e2 e3 e4 e5 = cond-false _ _ _ e1 ∙ cond-false _ _ _ e2 ∙ cond-false _ _ _ e3 ∙ cond-false _ _ _ e4
    ∙ cond-false _ _ _ e5

exact_run : (w rest : List ℕ) → AllOf is_name_byte w → EndsHere is_name_byte rest → length w ≤ 64 →
    name_first (w ++ rest) ≡ Reported (Some (word_or_name (word_of w))) (length w)
unfolding name_first
exact_run w rest a e h = rw (prefix_len_exact is_name_byte w rest a e, take_at w rest (length w) refl)
    (cond-false _ _ _ (le-ltb _ _ h))

exact_like : (w rest : List ℕ) → IsWordLike w → EndsHere is_name_byte rest → length w ≤ 64 →
    first_of (w ++ rest) ≡ Reported (Some (word_or_name (word_of w))) (length w)
exact_like [] rest h e l = absurd h
exact_like (b ∷ s) rest h e l = letter_first b (s ++ rest) h.0
    ∙ exact_run (b ∷ s) rest (word_like_in_name (b ∷ s) h) e l

not_reserved : (w : List ℕ) → (IsReserved w → ⊥) → word_of w ≡ None
not_reserved w h = none_if (word_of w) (λ n e. h (n, word_sound w n e))

pub exact_long : (w rest : List ℕ) → IsWordLike w → EndsHere is_name_byte rest → 64 < length w →
    first_of (w ++ rest) ≡ Bad L4
unfolding name_first
exact_long [] rest h e l = absurd h
exact_long (b ∷ s) rest h e l = letter_first b (s ++ rest) h.0
    ∙ rw (prefix_len_exact is_name_byte (b ∷ s) rest (word_like_in_name (b ∷ s) h) e) (cond-true _ _ _ (lt-ltb _ _ l))

numeral_value : (w : List ℕ) → IsNumeral w → value_of w ≤ 2147483648 → number_of w ≡ Some (value_of w)
unfolding number_of value_of
numeral_value [] h l = absurd h
numeral_value (b ∷ s) h l = cond-false _ _ _ (no_leading_zero b s h.2) ∙ digits_exact 0 (b ∷ s) (and_from _ _ h.0 h.1) l

exact_number : (w rest : List ℕ) → IsNumeral w → value_of w ≤ 2147483648 → EndsHere is_name_byte rest →
    first_of (w ++ rest) ≡ Reported (Some (Number (value_of w))) (length w)
unfolding number_first
exact_number [] rest h l e = absurd h
exact_number (b ∷ s) rest h l e =
    digit_first b (s ++ rest) h.0 ∙
    rw (
      prefix_len_exact is_name_byte (b ∷ s) rest (digits_in_name (b ∷ s) (and_from _ _ h.0 h.1)) e,
      take_at (b ∷ s) rest (length (b ∷ s)) refl,
    )
    (ap (λ o. number_or_bad o (length (b ∷ s))) (numeral_value (b ∷ s) h l))

exact_text : (inside rest : List ℕ) → AllOf is_text_byte inside → first_of (34 ∷ ((inside ++ 34 ∷ []) ++ rest)) ≡ Reported
    (Some Text) (length inside + 2)
unfolding text_first is_text_byte
exact_text inside rest a =
    quote_first ((inside ++ 34 ∷ []) ++ rest) ∙
    rw (
      append_assoc,
      prefix_len_exact is_text_byte inside (34 ∷ rest) a refl,
      drop_at inside (34 ∷ rest) (length inside) refl,
    ) refl

exact_sign : (w rest : List ℕ) (n : ℕ) → slice_get signs n ≡ Some w → IsLongestSign w (w ++ rest) →
    opens_comment (w ++ rest) ≡ false → first_of (w ++ rest) ≡ Reported (Some (Sign n)) (length w)
unfolding sign_first
exact_sign [] rest n e h o = absurd (sign_not_empty n e)
exact_sign (b ∷ s) rest n e h o =
    let facts : SignFacts n b s = sign_facts n b s e in
    let (m, found, longer) = sign_complete n (b ∷ s) rest e in
    let as_found : SignFound (b ∷ s ++ rest) m = sign_sound (b ∷ s ++ rest) m found in
    other_first b (s ++ rest) facts.not_blank facts.not_letter facts.not_digit facts.not_quote o ∙
    ap sign_or_bad found
    ∙ same_sign (b ∷ s) rest n m e as_found longer (h m as_found.sign as_found.rest as_found.listed as_found.whole)

pub exact_lexeme : (w rest : List ℕ) (kind : TokenKind) → Lexeme w rest kind →
    first_of (w ++ rest) ≡ Reported (Some kind) (length w)
exact_lexeme _ _ _ (name w rest h l r e) = exact_like w rest h e l ∙ ap (λ o. Reported (Some (word_or_name o)) (length w))
    (not_reserved w r)
exact_lexeme _ _ _ (word w rest n h e) =
    let facts : WordFacts n w = word_facts n w h in
    exact_like w rest facts.like e facts.short ∙ ap (λ o. Reported (Some (word_or_name o)) (length w)) facts.found
exact_lexeme _ _ _ (number w rest h l e) = exact_number w rest h l e
exact_lexeme _ _ _ (text inside rest a) = exact_text inside rest a ∙ ap (Reported (Some Text)) (quoted_len inside)
exact_lexeme _ _ _ (sign w rest n e h o) = exact_sign w rest n e h o

pub first_exact : (w rest : List ℕ) (kind : Option TokenKind) → Piece w rest kind →
    first_of (w ++ rest) ≡ Reported kind (length w)
first_exact _ _ _ (blank b rest e) = exact_blank b rest e
first_exact _ _ _ (line_comment inside rest a e) = exact_line inside rest a e
first_exact _ _ _ (block_comment inside rest e) = exact_block inside rest e ∙ ap (Reported None) (commented_len inside)
first_exact _ _ _ (lexeme w rest kind h) = exact_lexeme w rest kind h
