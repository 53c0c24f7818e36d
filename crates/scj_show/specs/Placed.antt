-- Lexemes that a text may hold, and where they stand in their canonical text.
use Rattle.std.specs.Prelude.{◌≡◌, ℕ, ◌<◌, ◌≤◌, true, List, [], ◌∷◌, ◌++◌, length}
use Rattle.scj_base.specs.declared.positions.Position.{Position}
use Rattle.scj_base.specs.declared.lexemes.Token.{Token}
use Rattle.scj_base.specs.declared.lexemes.TokenKind.{TokenKind}
use Rattle.scj_base.specs.declared.lexemes.TokenKind.TheVariants.{Name, Word, Number, Text, Sign, End}
use Rattle.scj_base.specs.Lexeme.{AllOf, is_text_byte, is_name}
use Rattle.scj_base.specs.Lex.{position_behind, token_at}
use Rattle.scj_tree.specs.Lexemes.{Lexeme, a_name as name_at, a_word as word_at, a_number as number_at, a_text as text_at, a_sign as sign_at, the_end}
use Rattle.scj_show.specs.Symbols.{Symbol, a_name, a_text, a_word, a_sign, a_number, bytes_of, separator}

-- a text may hold it
unfoldable pub IsLexeme : Symbol → Type 0
IsLexeme (a_name w) = is_name w ≡ true
IsLexeme (a_text w) = AllOf is_text_byte w
IsLexeme (a_word n) = n < 53
IsLexeme (a_sign n) = n < 50
IsLexeme (a_number n) = n ≤ 2147483648

unfoldable pub AreLexemes : List Symbol → Type 0
AreLexemes [] = Unit {0}
AreLexemes (s ∷ ss) = IsLexeme s × AreLexemes ss

unfoldable pub kind_of : Symbol → TokenKind
kind_of (a_name w) = Name
kind_of (a_text w) = Text
kind_of (a_word n) = Word n
kind_of (a_sign n) = Sign n
kind_of (a_number n) = Number n

unfoldable pub lexeme_at : Symbol → Position → Lexeme
lexeme_at (a_name w) p = name_at w p
lexeme_at (a_text w) p = text_at w p
lexeme_at (a_word n) p = word_at n p
lexeme_at (a_sign n) p = sign_at n p
lexeme_at (a_number n) p = number_at n p

-- the bytes of a lexeme and the one behind it
abbrev pub printed : Symbol → List ℕ
printed s = bytes_of s ++ separator s ∷ []

-- the tokens and the lexemes of a canonical text that stands behind some bytes of a file, and the end
unfoldable pub tokens_behind : ℕ → List ℕ → List Symbol → List Token
tokens_behind file before [] = token_at file before End 0 ∷ []
tokens_behind file before (s ∷ ss) = token_at file before (kind_of s) (length (bytes_of s))
    ∷ tokens_behind file (before ++ printed s) ss

unfoldable pub lexemes_behind : ℕ → List ℕ → List Symbol → List Lexeme
lexemes_behind file before [] = the_end (position_behind file before) ∷ []
lexemes_behind file before (s ∷ ss) = lexeme_at s (position_behind file before)
    ∷ lexemes_behind file (before ++ printed s) ss
