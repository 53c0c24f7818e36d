-- Bytes begin with a piece or break a rule, and what they are found to begin with tells which.
use Rattle.std.proofs.Common.{◌≡◌, ℕ, suc, ◌+◌, ◌≤◌, List, [], ◌∷◌, ◌++◌, length, take, drop, true, false, ◌&&◌, ◌==◌, nat_lt, Some, None, Option, refl, ap, sym, subst, ◌∙◌, arith, ◌⊎◌, inl, inr, append_assoc, get_or}
use Rattle.std.specs.List.{prefix_len}
use Rattle.std.proofs.lemmas.Bool.{and_parts, and_from, or_cases, or_left, or_right, eq-eqb, lt-ltb, eqb-true, eqb-false, ne_eqb, cond-true, cond-false, cases_Bool, cases_lt, false≢true}
use Rattle.std.proofs.lemmas.List.{take-append-drop}
use Rattle.std.proofs.lemmas.Option.{get_or_from_slice_get}
use Rattle.scj_base.specs.Vocabulary.{signs}
use Rattle.scj_base.specs.Lexeme.{is_blank, is_letter, is_digit, is_name_byte, is_text_byte, is_line_byte, AllOf, EndsHere, IsWordLike, IsNumeral, IsLongestSign, value_of, opens_comment, Lexeme, Piece, NoLexeme, BreakAt}
use Rattle.scj_base.specs.Lexeme.Lexeme.{name, word, number, text, sign}
use Rattle.scj_base.specs.Lexeme.Piece.{blank, line_comment, block_comment, lexeme}
use Rattle.scj_base.specs.Lexeme.BreakAt.{bad_byte, bad_number, open_comment, open_text, long_name}
use Rattle.scj_base.specs.declared.lexemes.TokenKind.{TokenKind}
use Rattle.scj_base.specs.declared.lexemes.TokenKind.TheVariants.{Name, Word, Number, Text, Sign}
use Rattle.scj_base.specs.declared.findings.Rule.{Rule}
use Rattle.scj_base.specs.declared.findings.Rule.TheVariants.{L1, L2, L3, L4}
use Rattle.scj_lexer.specs.declared.pieces.Front.TheVariants.{Piece as Reported, Bad}
use Rattle.scj_lexer.specs.Tries.{word_of, sign_of}
use Rattle.scj_lexer.specs.First.{first_of, number_first, text_first, comment_first, sign_first, number_of, close_of, number_or_bad, quote_or_bad, comment_or_bad, sign_or_bad}
use Rattle.scj_lexer.proofs.Runs.{prefix_len_all, prefix_len_ends, digits_sound, AreDigits, close_sound, Closed, close_none_exact, close_none_sound, none≢some}
use Rattle.scj_lexer.proofs.TableChecks.{word_facts, word_sound, sign_complete, sign_sound, SignFound, sign_len}
use Rattle.scj_lexer.proofs.Exact.{first_exact, exact_lexeme, exact_long, digit_first, quote_first, other_first}

pub record Begins (bytes : List ℕ) : Type 0 where
  pub piece : List ℕ
  pub rest : List ℕ
  pub kind : Option TokenKind
  pub whole : bytes ≡ piece ++ rest
  pub is : Piece piece rest kind

pub record Breaks (bytes : List ℕ) : Type 0 where
  pub rule : Rule
  pub found : first_of bytes ≡ Bad rule
  pub is : BreakAt bytes rule

reported≢bad : {X : Type 0} {kind : Option TokenKind} {n : ℕ} {rule : Rule} → Reported kind n ≡ Bad rule → X
reported≢bad e = absurd (cc)

pub no_lexeme : (bytes : List ℕ) (rule : Rule) → first_of bytes ≡ Bad rule → NoLexeme bytes
no_lexeme bytes rule e =
    λ w rest kind whole is. reported≢bad (sym (exact_lexeme w rest kind is) ∙ ap first_of (sym whole) ∙ e)

abbrev name_run : List ℕ → List ℕ
name_run s = take (prefix_len is_name_byte s) s

abbrev name_rest : List ℕ → List ℕ
name_rest s = drop (prefix_len is_name_byte s) s

run_like : (b : ℕ) (s : List ℕ) → is_letter b ≡ true → is_name_byte b ≡ true → IsWordLike (name_run (b ∷ s))
run_like b s e f = let t : prefix_len is_name_byte (b ∷ s) ≡ suc (prefix_len is_name_byte s) = cond-true _ _ _ f
    ∙ omega arith in rw t (e, prefix_len_all is_name_byte s)

option_cases : (o : Option ℕ) → (o ≡ None) ⊎ ((n : ℕ) × (o ≡ Some n))
option_cases None = inl refl
option_cases (Some n) = inr (n, refl)

run_piece : (w rest : List ℕ) → IsWordLike w → EndsHere is_name_byte rest → length w ≤ 64 → (kind : Option TokenKind) ×
    Piece w rest kind
run_piece w rest h e l =
    elim (option_cases (word_of w)) [
      | inl none ↦ (
        Some Name,
        lexeme w rest Name (name w rest h l (λ r. none≢some (sym none ∙ (word_facts r.0 w r.1).found)) e),
      )
      | inr some ↦ (Some (Word some.0), lexeme w rest (Word some.0) (word w rest some.0 (word_sound w some.0 some.1) e))
    ]

decide_letter : (b : ℕ) (s : List ℕ) → is_letter b ≡ true → is_name_byte b ≡ true → Begins (b ∷ s) ⊎ Breaks (b ∷ s)
decide_letter b s e f =
    let like : IsWordLike (name_run (b ∷ s)) = run_like b s e f in
    let ends : EndsHere is_name_byte (name_rest (b ∷ s)) = prefix_len_ends is_name_byte (b ∷ s) in
    let whole : name_run (b ∷ s) ++ name_rest (b ∷ s) ≡ b ∷ s =
    take-append-drop (prefix_len is_name_byte (b ∷ s)) (b ∷ s) in
    elim (cases_lt 64 (length (name_run (b ∷ s)))) [
      | inl long ↦ inr
          (record {
            rule = L4;
            found = sym (ap first_of whole)
                ∙ exact_long (name_run (b ∷ s)) (name_rest (b ∷ s)) like ends long;
            is =
                subst (λ u. BreakAt u L4) whole (long_name (name_run (b ∷ s)) (name_rest (b ∷ s)) like long ends);
          })
      | inr short ↦ let p = run_piece (name_run (b ∷ s)) (name_rest (b ∷ s)) like ends short in
          inl (record { piece = name_run (b ∷ s); rest = name_rest (b ∷ s); kind = p.0; whole = sym whole; is = p.1 })
    ]

pub record IsNumber (w : List ℕ) (v : ℕ) : Type 0 where
  pub numeral : IsNumeral w
  pub value : v ≡ value_of w
  pub small : value_of w ≤ 2147483648

zero_alone : (b : ℕ) (s : List ℕ) → (nat_lt 1 (length (b ∷ s)) && (b == 48)) ≡ false → b ≡ 48 → s ≡ []
zero_alone b [] f e = refl
zero_alone b (c ∷ s) f e =
    absurd (false≢true (sym f ∙ and_from _ _ (lt-ltb 1 (suc (suc (length s))) (omega arith)) (eq-eqb b 48 e)))

number_sound : (b : ℕ) (s : List ℕ) (v : ℕ) → number_of (b ∷ s) ≡ Some v → IsNumber (b ∷ s) v
unfolding number_of value_of
number_sound b s v e =
    elim (cases_Bool (nat_lt 1 (length (b ∷ s)) && (b == 48))) [
      | inl t ↦ none≢some (sym (cond-true _ _ _ t) ∙ e)
      | inr f ↦
          let r : AreDigits 0 (b ∷ s) v = digits_sound 0 (b ∷ s) v (omega arith) (sym (cond-false _ _ _ f) ∙ e) in
          let parts = and_parts _ _ r.digits in
          record {
            numeral = (parts.0, parts.1, zero_alone b s f);
            value = r.value;
            small = subst
                (λ n. n ≤ 2147483648) r.value r.small;
          }
    ]

number_piece : (w rest : List ℕ) (v : ℕ) → IsNumber w v → EndsHere is_name_byte rest → Piece w rest (Some (Number v))
number_piece w rest v r e = rw r.value (lexeme w rest (Number (value_of w)) (number w rest r.numeral r.small e))

run_number : (b : ℕ) (s : List ℕ) (v : ℕ) → is_name_byte b ≡ true → number_of (name_run (b ∷ s)) ≡ Some v →
    IsNumber (name_run (b ∷ s)) v
run_number b s v f e =
    let t : prefix_len is_name_byte (b ∷ s) ≡ suc (prefix_len is_name_byte s) = cond-true _ _ _ f ∙ omega arith in
    let run : name_run (b ∷ s) ≡ b ∷ name_run s = rw t refl in
    rw run (number_sound b (name_run s) v (ap number_of (sym run) ∙ e))

decide_digit : (b : ℕ) (s : List ℕ) → is_digit b ≡ true → is_name_byte b ≡ true → Begins (b ∷ s) ⊎ Breaks (b ∷ s)
unfolding number_first
decide_digit b s e f =
    elim (option_cases (number_of (name_run (b ∷ s)))) [
      | inl none ↦
          let found : first_of (b ∷ s) ≡ Bad L2 = digit_first b s e
          ∙ ap (λ o. number_or_bad o (prefix_len is_name_byte (b ∷ s))) none in
          inr (record { rule = L2; found = found; is = bad_number b s e (no_lexeme (b ∷ s) L2 found) })
      | inr some ↦
          inl (record {
            piece = name_run (b ∷ s);
            rest = name_rest (b ∷ s);
            kind = Some (Number some.0);
            whole = sym (take-append-drop (prefix_len is_name_byte (b ∷ s)) (b ∷ s));
            is = number_piece (name_run (b ∷ s)) (name_rest (b ∷ s)) some.0 (run_number b s some.0 f some.1)
                (prefix_len_ends is_name_byte (b ∷ s));
          })
    ]

text_piece : (inside t : List ℕ) (c : ℕ) (s : List ℕ) → AllOf is_text_byte inside → c ≡ 34 → s ≡ inside ++ c ∷ t →
    Begins (34 ∷ s)
text_piece inside t c s a q w =
    record {
      piece = 34 ∷ (inside ++ 34 ∷ []);
      rest = t;
      kind = Some Text;
      whole = ap (λ u. 34 ∷ u)
          (rw (append_assoc, ← q) w);
      is = lexeme _ t Text (text inside t a);
    }

open_quote : (s : List ℕ) → text_first s ≡ Bad L3 → Breaks (34 ∷ s)
open_quote s e = let found : first_of (34 ∷ s) ≡ Bad L3 = quote_first s ∙ e in
    record { rule = L3; found = found; is = open_text s (no_lexeme (34 ∷ s) L3 found) }

decide_quote_at : (s d : List ℕ) → drop (prefix_len is_text_byte s) s ≡ d → Begins (34 ∷ s) ⊎ Breaks (34 ∷ s)
unfolding text_first
decide_quote_at s [] e = inr (open_quote s (ap (λ u. quote_or_bad u (prefix_len is_text_byte s)) e))
decide_quote_at s (c ∷ t) e =
    elim (cases_Bool (c == 34)) [
      | inl q ↦ inl (text_piece (take (prefix_len is_text_byte s) s) t c s (prefix_len_all is_text_byte s)
          (eqb-true _ _ q) (sym (take-append-drop (prefix_len is_text_byte s) s)
          ∙ ap (λ u. take (prefix_len is_text_byte s) s ++ u) e))
      | inr n ↦ inr (open_quote s (ap (λ u. quote_or_bad u (prefix_len is_text_byte s)) e ∙ cond-false _ _ _ n))
    ]

open_comment_first : (t : List ℕ) → close_of t ≡ None → first_of (47 ∷ 42 ∷ t) ≡ Bad L3
unfolding first_of is_blank is_letter is_digit opens_comment comment_first
open_comment_first t e = ap comment_or_bad e

decide_block : (t : List ℕ) → Begins (47 ∷ 42 ∷ t) ⊎ Breaks (47 ∷ 42 ∷ t)
decide_block t =
    elim (option_cases (close_of t)) [
      | inl none ↦ inr
          (record { rule = L3; found = open_comment_first t none; is = open_comment t (close_none_sound t none) })
      | inr some ↦
          let c : Closed t some.0 = close_sound t some.0 some.1 in
          inl (record {
            piece = 47 ∷ 42 ∷ (c.inside ++ 42 ∷ 47 ∷ []);
            rest = c.rest;
            kind = None;
            whole = ap
                (λ u. 47 ∷ 42 ∷ u) c.whole;
            is = block_comment c.inside c.rest c.open_so_far;
          })
    ]

decide_line : (t : List ℕ) → Begins (47 ∷ 47 ∷ t)
decide_line t = record {
  piece = 47 ∷ 47 ∷ take (prefix_len is_line_byte t) t;
  rest = drop (prefix_len is_line_byte t) t;
  kind = None;
  whole = ap (λ u. 47 ∷ 47 ∷ u) (sym (take-append-drop (prefix_len is_line_byte t) t));
  is = line_comment _ _ (prefix_len_all is_line_byte t) (prefix_len_ends is_line_byte t);
}

decide_comment : (b : ℕ) (s : List ℕ) → opens_comment (b ∷ s) ≡ true → Begins (b ∷ s) ⊎ Breaks (b ∷ s)
unfolding opens_comment
decide_comment b [] e = absurd (false≢true e)
decide_comment b (c ∷ t) e =
    let parts = and_parts _ _ e in
    let slash : b ≡ 47 = eqb-true _ _ parts.0 in
    elim (or_cases _ _ parts.1) [
      | inl l ↦ let second : c ≡ 47 = eqb-true _ _ l in rw (slash, second) (inl (decide_line t))
      | inr l ↦ let second : c ≡ 42 = eqb-true _ _ l in rw (slash, second) (decide_block t)
    ]

longest : (bytes : List ℕ) (n : ℕ) (f : SignFound bytes n) → sign_of bytes ≡ Some n →
    IsLongestSign f.sign (f.sign ++ f.rest)
longest bytes n f e = λ m v rest listed whole.
    let c = sign_complete m v rest listed in
    let same : Some c.0 ≡ Some n = sym c.1 ∙ ap sign_of (sym whole ∙ sym f.whole) ∙ e in
    let number : c.0 ≡ n = cc in
    let is : get_or signs n [] ≡ f.sign = get_or_from_slice_get signs n f.sign [] f.listed in
    subst (λ u. length v ≤ length u) is (subst (λ k. length v ≤ sign_len k) number c.2)

decide_sign : (b : ℕ) (s : List ℕ) → is_blank b ≡ false → is_letter b ≡ false → is_digit b ≡ false → (b == 34) ≡ false →
    opens_comment (b ∷ s) ≡ false → Begins (b ∷ s) ⊎ Breaks (b ∷ s)
unfolding sign_first
decide_sign b s e1 e2 e3 e4 e5 =
    elim (option_cases (sign_of (b ∷ s))) [
      | inl none ↦
          let found : first_of (b ∷ s) ≡ Bad L1 = other_first b s e1 e2 e3 e4 e5 ∙ ap sign_or_bad none in
          inr (record {
            rule = L1;
            found = found;
            is = bad_byte b s e1 e2 e3 (eqb-false _ _ e4) e5
                (no_lexeme (b ∷ s) L1 found);
          })
      | inr some ↦
          let f : SignFound (b ∷ s) some.0 = sign_sound (b ∷ s) some.0 some.1 in
          inl (record {
            piece = f.sign;
            rest = f.rest;
            kind = Some (Sign some.0);
            whole = f.whole;
            is = lexeme f.sign f.rest (Sign some.0)
                (sign f.sign f.rest some.0 f.listed (longest (b ∷ s) some.0 f some.1)
                (ap opens_comment (sym f.whole) ∙ e5));
          })
    ]

letter_is_in_name : (b : ℕ) → is_letter b ≡ true → is_name_byte b ≡ true
unfolding is_name_byte
letter_is_in_name b e = or_left _ _ e

digit_is_in_name : (b : ℕ) → is_digit b ≡ true → is_name_byte b ≡ true
unfolding is_name_byte
digit_is_in_name b e = or_right _ _ e

pub decide : (b : ℕ) (s : List ℕ) → Begins (b ∷ s) ⊎ Breaks (b ∷ s)
decide b s =
    elim (cases_Bool (is_blank b)) [
      | inl e ↦ inl (record { piece = b ∷ []; rest = s; kind = None; whole = refl; is = blank b s e })
      | inr e1 ↦ elim (cases_Bool (is_letter b)) [
        | inl e ↦ decide_letter b s e (letter_is_in_name b e)
        | inr e2 ↦ elim (cases_Bool (is_digit b)) [
          | inl e ↦ decide_digit b s e (digit_is_in_name b e)
          | inr e3 ↦ elim (cases_Bool (b == 34)) [
            | inl e ↦ let quote : b ≡ 34 = eqb-true _ _ e in
                rw quote (decide_quote_at s (drop (prefix_len is_text_byte s) s) refl)
            | inr e4 ↦ elim (cases_Bool (opens_comment (b ∷ s))) [
              | inl e ↦ decide_comment b s e
              | inr e5 ↦ decide_sign b s e1 e2 e3 e4 e5
            ]
          ]
        ]
      ]
    ]

-- what is found is so
pub piece_sound : (b : ℕ) (s : List ℕ) (kind : Option TokenKind) (n : ℕ) → first_of (b ∷ s) ≡ Reported kind n →
    (p : Begins (b ∷ s)) × (p.kind ≡ kind) × (length p.piece ≡ n)
piece_sound b s kind n e =
    elim (decide b s) [
      | inl p ↦
          let same : Reported p.kind (length p.piece) ≡ Reported kind n = sym (first_exact p.piece p.rest p.kind p.is)
          ∙ ap first_of (sym p.whole) ∙ e in
          (p, cc, cc)
      | inr p ↦ reported≢bad (sym e ∙ p.found)
    ]

pub break_sound : (b : ℕ) (s : List ℕ) (rule : Rule) → first_of (b ∷ s) ≡ Bad rule → BreakAt (b ∷ s) rule
break_sound b s rule e =
    elim (decide b s) [
      | inl p ↦ reported≢bad (sym (first_exact p.piece p.rest p.kind p.is) ∙ ap first_of (sym p.whole) ∙ e)
      | inr p ↦ let same : Bad p.rule ≡ Bad rule = sym p.found ∙ e in let rules_same : p.rule ≡ rule =
          cc in subst (BreakAt (b ∷ s)) rules_same p.is
    ]

-- where no lexeme begins, none is found
lexeme_in : (w rest : List ℕ) (found : Option TokenKind) (kind : TokenKind) → Piece w rest found → found ≡ Some kind →
    ((k : TokenKind) → Lexeme w rest k → ⊥) → ⊥
lexeme_in _ _ _ kind (blank b rest e) q h = cc
lexeme_in _ _ _ kind (line_comment inside rest a e) q h = cc
lexeme_in _ _ _ kind (block_comment inside rest e) q h = cc
lexeme_in _ _ _ kind (lexeme w rest k is) q h = h k is

not_a_lexeme : (b : ℕ) (s : List ℕ) (kind : TokenKind) (n : ℕ) → NoLexeme (b ∷ s) →
    first_of (b ∷ s) ≡ Reported (Some kind) n → ⊥
not_a_lexeme b s kind n none e =
    let p = piece_sound b s (Some kind) n e in
    lexeme_in (p.0).piece (p.0).rest (p.0).kind kind (p.0).is p.1 (λ k is. none (p.0).piece (p.0).rest k (p.0).whole is)

no_number : (b : ℕ) (s : List ℕ) → is_digit b ≡ true → NoLexeme (b ∷ s) → number_first (b ∷ s) ≡ Bad L2
unfolding number_first
no_number b s e none =
    elim (option_cases (number_of (name_run (b ∷ s)))) [
      | inl o ↦ ap (λ u. number_or_bad u (prefix_len is_name_byte (b ∷ s))) o
      | inr o ↦ absurd
          (not_a_lexeme b s (Number o.0) (prefix_len is_name_byte (b ∷ s)) none
          (digit_first b s e ∙ ap (λ u. number_or_bad u (prefix_len is_name_byte (b ∷ s))) o.1))
    ]

no_sign : (b : ℕ) (s : List ℕ) → is_blank b ≡ false → is_letter b ≡ false → is_digit b ≡ false → (b == 34) ≡ false →
    opens_comment (b ∷ s) ≡ false → NoLexeme (b ∷ s) → sign_first (b ∷ s) ≡ Bad L1
unfolding sign_first
no_sign b s e1 e2 e3 e4 e5 none =
    elim (option_cases (sign_of (b ∷ s))) [
      | inl o ↦ ap sign_or_bad o
      | inr o ↦ absurd
          (not_a_lexeme b s (Sign o.0) (sign_len o.0) none (other_first b s e1 e2 e3 e4 e5 ∙ ap sign_or_bad o.1))
    ]

no_text_at : (s d : List ℕ) (n : ℕ) → quote_or_bad d n ≡ text_first s → NoLexeme (34 ∷ s) → quote_or_bad d n ≡ Bad L3
no_text_at s [] n e none = refl
no_text_at s (c ∷ t) n e none =
    elim (cases_Bool (c == 34)) [
      | inl q ↦ absurd (not_a_lexeme 34 s Text (n + 2) none (quote_first s ∙ sym e ∙ cond-true _ _ _ q))
      | inr q ↦ cond-false _ _ _ q
    ]

no_text : (s : List ℕ) → NoLexeme (34 ∷ s) → text_first s ≡ Bad L3
unfolding text_first
no_text s none = no_text_at s (drop (prefix_len is_text_byte s) s) (prefix_len is_text_byte s) refl none

pub break_exact : (bytes : List ℕ) (rule : Rule) → BreakAt bytes rule → first_of bytes ≡ Bad rule
break_exact _ _ (bad_byte b s e1 e2 e3 e4 e5 n) = other_first b s e1 e2 e3 (ne_eqb _ _ e4) e5
    ∙ no_sign b s e1 e2 e3 (ne_eqb _ _ e4) e5 n
break_exact _ _ (bad_number b s e n) = digit_first b s e ∙ no_number b s e n
break_exact _ _ (open_comment s e) = open_comment_first s (close_none_exact s e)
break_exact _ _ (open_text s n) = quote_first s ∙ no_text s n
break_exact _ _ (long_name w rest h l e) = exact_long w rest h e l
