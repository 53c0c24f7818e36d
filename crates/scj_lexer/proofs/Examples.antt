-- Worked texts: the definition's tokens and breaks, computed.
use Rattle.std.proofs.Common.{◌≡◌, ℕ, zero, suc, List, [], ◌∷◌, ◌++◌, length, take, drop, Some, None, Option, codes, refl, ap, sym, subst, ◌∙◌, ◌⊎◌, inl, inr}
use Rattle.std.specs.Prelude.{option_map}
use Rattle.std.proofs.lemmas.List.{take_at, drop_at}
use Rattle.scj_base.specs.Vocabulary.{words, signs}
use Rattle.scj_base.specs.Lexeme.{is_blank, is_letter, is_digit, is_name_byte, is_text_byte, is_line_byte, value_of, opens_comment, has_close}
use Rattle.scj_base.specs.Lex.{Lexes, Lex, LexBreak, token_at, position_at, position_behind, position_behind_byte, position_of}
use Rattle.scj_base.specs.Lex.Lexes.{ends}
use Rattle.scj_base.specs.Lex.LexBreak.{here}
use Rattle.scj_base.specs.declared.lexemes.Token.{Token}
use Rattle.scj_base.specs.declared.lexemes.TokenKind.{TokenKind}
use Rattle.scj_base.specs.declared.lexemes.TokenKind.TheVariants.{Name, Word, Number, Text, Sign, End}
use Rattle.scj_base.specs.declared.findings.Rule.{Rule}
use Rattle.scj_base.specs.declared.findings.Rule.TheVariants.{L1, L2, L3}
use Rattle.scj_lexer.specs.declared.pieces.Front.{Front}
use Rattle.scj_lexer.specs.declared.pieces.Front.TheVariants.{Piece as Reported, Bad}
use Rattle.scj_lexer.specs.Tries.{word_of, sign_of, only_word_of, signs_from}
use Rattle.scj_lexer.specs.First.{first_of, name_first, number_first, text_first, comment_first, sign_first, number_of, digits_of, close_of}
use Rattle.scj_lexer.proofs.Decided.{Begins, piece_sound, break_sound}
use Rattle.scj_lexer.proofs.Whole.{joined, step}
use Rattle.scj_lexer.proofs.Computing.{tokens_from, sound, lexer}

abbrev token : TokenKind → ℕ → ℕ → ℕ → ℕ → Token
token kind line col start len = record { kind = kind; pos = position_at 0 line col; start = start; len = len }

-- `<<=` is one sign
shift : Lex 0 (codes "a<<=b") (token Name 1 1 0 1 ∷ token (Sign 44) 1 2 1 3 ∷ token Name 1 5 4 1 ∷ token End 1 6 5 0
    ∷ [])
unfolding lexer
shift = sound 9 0 [] _ _ refl

-- a name with a digit, a word, a line feed, a tab and a text
lines : Lex 0 (codes "x1 class\n\t\"a\"") (token Name 1 1 0 2 ∷ token (Word 8) 1 4 3 5 ∷ token Text 2 2 10 3
    ∷ token End 2 5 13 0 ∷ [])
unfolding lexer
lines = sound 9 0 [] _ _ refl

-- the greatest number, and a carriage return, which ends no line
greatest : Lex 0 (codes "2147483648\r0") (token (Number 2147483648) 1 1 0 10 ∷ token (Number 0) 1 12 11 1
    ∷ token End 1 13 12 0 ∷ [])
unfolding lexer
greatest = sound 9 0 [] _ _ refl

-- a comment ends at the first `*/`, and one of `//` at the end of its line
comments : Lex 0 (codes "/*/**/*//b\n/") (token (Sign 19) 1 7 6 1 ∷ token (Sign 20) 2 1 11 1 ∷ token End 2 2 12 0 ∷ [])
unfolding lexer
comments = sound 9 0 [] _ _ refl

-- two dots are two signs
dots : Lex 0 (codes ".. ...") (token (Sign 8) 1 1 0 1 ∷ token (Sign 8) 1 2 1 1 ∷ token (Sign 49) 1 4 3 3
    ∷ token End 1 7 6 0 ∷ [])
unfolding lexer
dots = sound 9 0 [] _ _ refl

-- the two signs of a comment do not overlap
open_comment : LexBreak (codes "/*/") L3 0
unfolding lexer
open_comment = here _ L3 (break_sound _ _ L3 refl)

too_large : LexBreak (codes "2147483649") L2 0
unfolding lexer
too_large = here _ L2 (break_sound _ _ L2 refl)

leading_zero : LexBreak (codes "00") L2 0
unfolding lexer
leading_zero = here _ L2 (break_sound _ _ L2 refl)

number_and_name : LexBreak (codes "1x") L2 0
unfolding lexer
number_and_name = here _ L2 (break_sound _ _ L2 refl)

open_text : LexBreak (codes "\"a\n\"") L3 0
unfolding lexer
open_text = here _ L3 (break_sound _ _ L3 refl)

bad_byte : LexBreak (codes "#") L1 0
unfolding lexer
bad_byte = here _ L1 (break_sound _ _ L1 refl)
