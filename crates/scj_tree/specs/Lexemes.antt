-- The lexemes of a file as the grammar reads them: each with its place, a name and a text with their bytes.
use Rattle.std.specs.Prelude.{ℕ, ◌+◌, ◌-◌, List, take, drop, map}
use Rattle.scj_base.specs.declared.positions.Position.{Position}
use Rattle.scj_base.specs.declared.lexemes.Token.{Token}
use Rattle.scj_base.specs.declared.lexemes.TokenKind.TheVariants.{Name, Word, Number, Text, Sign, End}

pub data Lexeme : Type 0 where
  a_name : List ℕ → Position → Lexeme
  a_word : ℕ → Position → Lexeme
  a_number : ℕ → Position → Lexeme
  a_text : List ℕ → Position → Lexeme
  a_sign : ℕ → Position → Lexeme
  the_end : Position → Lexeme

-- the bytes of a part of a file
unfoldable pub part_of : List ℕ → ℕ → ℕ → List ℕ
part_of bytes start len = take len (drop start bytes)

-- the lexeme of a token; of a text the bytes between its quotes
unfoldable pub lexeme_of : List ℕ → Token → Lexeme
lexeme_of bytes token = elim token.kind [
  | Name ↦ a_name (part_of bytes token.start token.len) token.pos
  | Word w ↦ a_word w token.pos
  | Number n ↦ a_number n token.pos
  | Text ↦ a_text (part_of bytes (token.start + 1) (token.len - 2)) token.pos
  | Sign n ↦ a_sign n token.pos
  | End ↦ the_end token.pos
]

unfoldable pub lexemes_of : List ℕ → List Token → List Lexeme
lexemes_of bytes tokens = map (lexeme_of bytes) tokens

-- where a lexeme begins
unfoldable pub position_of_lexeme : Lexeme → Position
position_of_lexeme (a_name w p) = p
position_of_lexeme (a_word w p) = p
position_of_lexeme (a_number n p) = p
position_of_lexeme (a_text w p) = p
position_of_lexeme (a_sign n p) = p
position_of_lexeme (the_end p) = p
