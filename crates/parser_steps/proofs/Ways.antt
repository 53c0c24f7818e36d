-- Tokens and the places of their lexemes.
use Rattle.std.proofs.Common.{◌≡◌, ℕ, List, refl}
use Rattle.scj_base.specs.declared.lexemes.Token.{Token}
use Rattle.scj_base.specs.declared.lexemes.TokenKind.TheVariants.{Name, Word, Number, Text, Sign, End}
use Rattle.scj_tree.specs.Lexemes.{lexeme_of, position_of_lexeme}

-- a lexeme stands where its token does
pub same_place : (bytes : List ℕ) (token : Token) → position_of_lexeme (lexeme_of bytes token) ≡ token.pos
unfolding lexeme_of position_of_lexeme
same_place bytes token =
    elim token.kind as
    (λ kind. position_of_lexeme
    (lexeme_of bytes (record { kind = kind; pos = token.pos; start = token.start; len = token.len })) ≡ token.pos) [
      | Name ↦ refl
      | Word n ↦ refl
      | Number n ↦ refl
      | Text ↦ refl
      | Sign n ↦ refl
      | End ↦ refl
    ]
