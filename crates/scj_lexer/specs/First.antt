-- What a row of bytes begins with, as the code finds it.
use Rattle.std.specs.Prelude.{ℕ, suc, ◌+◌, ◌-◌, ◌*◌, ◌&&◌, ◌==◌, nat_le, nat_lt, cond, List, [], ◌∷◌, length, take, drop, slice_index, slice_index_or, Option, Some, None, option_map}
use Rattle.std.specs.List.{prefix_len}
use Rattle.scj_base.specs.Vocabulary.{signs}
use Rattle.scj_base.specs.Lexeme.{is_blank, is_letter, is_digit, is_name_byte, is_text_byte, is_line_byte, opens_comment}
use Rattle.scj_base.specs.declared.lexemes.TokenKind.{TokenKind}
use Rattle.scj_base.specs.declared.lexemes.TokenKind.TheVariants.{Name, Word, Number, Text, Sign}
use Rattle.scj_base.specs.declared.findings.Rule.TheVariants.{L1, L2, L3, L4}
use Rattle.scj_lexer.specs.declared.pieces.Front.{Front}
use Rattle.scj_lexer.specs.declared.pieces.Front.TheVariants.{Piece, Bad}
use Rattle.scj_lexer.specs.Tries.{word_of, sign_of}

abbrev pub lexeme_of : TokenKind → ℕ → Front
lexeme_of kind len = Piece (Some kind) len

abbrev pub word_or_name : Option ℕ → TokenKind
word_or_name None = Name
word_or_name (Some n) = Word n

unfoldable pub name_first : List ℕ → Front
name_first bytes =
    cond (nat_lt 64 (prefix_len is_name_byte bytes))
    (Bad L4)
    (lexeme_of (word_or_name (word_of (take (prefix_len is_name_byte bytes) bytes))) (prefix_len is_name_byte bytes))

-- the number that digits write behind the digits of n, where it is at most the greatest
unfoldable pub digits_of : ℕ → List ℕ → Option ℕ
digits_of n [] = Some n
digits_of n (b ∷ s) = cond (is_digit b && nat_le (10 * n + (b - 48)) 2147483648) (digits_of (10 * n + (b - 48)) s) None

unfoldable pub number_of : List ℕ → Option ℕ
number_of w = cond (nat_lt 1 (length w) && (slice_index w 0 == 48)) None (digits_of 0 w)

abbrev pub number_or_bad : Option ℕ → ℕ → Front
number_or_bad None len = Bad L2
number_or_bad (Some n) len = lexeme_of (Number n) len

unfoldable pub number_first : List ℕ → Front
number_first bytes = number_or_bad (number_of (take (prefix_len is_name_byte bytes) bytes))
    (prefix_len is_name_byte bytes)

abbrev pub quote_or_bad : List ℕ → ℕ → Front
quote_or_bad [] len = Bad L3
quote_or_bad (b ∷ s) len = cond (b == 34) (lexeme_of Text (len + 2)) (Bad L3)

unfoldable pub text_first : List ℕ → Front
text_first inside = quote_or_bad (drop (prefix_len is_text_byte inside) inside) (prefix_len is_text_byte inside)

-- how many bytes come before the first `*/`
unfoldable pub close_of : List ℕ → Option ℕ
close_of [] = None
close_of (a ∷ []) = None
close_of (a ∷ b ∷ s) = cond ((a == 42) && (b == 47)) (Some 0) (option_map suc (close_of (b ∷ s)))

abbrev pub comment_or_bad : Option ℕ → Front
comment_or_bad None = Bad L3
comment_or_bad (Some len) = Piece None (len + 4)

unfoldable pub comment_first : List ℕ → Front
comment_first inside = comment_or_bad (close_of inside)

abbrev pub sign_or_bad : Option ℕ → Front
sign_or_bad None = Bad L1
sign_or_bad (Some n) = lexeme_of (Sign n) (length (slice_index_or signs n []))

unfoldable pub sign_first : List ℕ → Front
sign_first bytes = sign_or_bad (sign_of bytes)

-- behind `/` where a comment begins
abbrev pub after_slash : List ℕ → Front
after_slash [] = Bad L1
after_slash (b ∷ s) = cond (b == 47) (Piece None (prefix_len is_line_byte s + 2)) (comment_first s)

unfoldable pub first_of : List ℕ → Front
first_of [] = Bad L1
first_of (b ∷ s) =
    cond (is_blank b) (Piece None 1)
    (cond (is_letter b) (name_first (b ∷ s))
    (cond (is_digit b) (number_first (b ∷ s))
    (cond (b == 34) (text_first s)
    (cond (opens_comment (b ∷ s)) (after_slash s) (sign_first (b ∷ s))))))
