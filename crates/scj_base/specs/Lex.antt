-- The tokens of a source text, and the first place at which it breaks a rule of the lexemes.
use Rattle.std.specs.Prelude.{ℕ, ◌+◌, List, [], ◌∷◌, ◌++◌, length, take, fold, cond, ◌==◌, Option, Some, None}
use Rattle.scj_base.specs.declared.positions.Position.{Position}
use Rattle.scj_base.specs.declared.lexemes.Token.{Token}
use Rattle.scj_base.specs.declared.lexemes.TokenKind.{TokenKind}
use Rattle.scj_base.specs.declared.lexemes.TokenKind.TheVariants.{End}
use Rattle.scj_base.specs.declared.findings.Rule.{Rule}
use Rattle.scj_base.specs.Lexeme.{Piece, BreakAt}

abbrev pub position_at : ℕ → ℕ → ℕ → Position
position_at file line col = record { file = file; line = line; col = col }

-- the place behind a byte: a new line behind a line feed, else one column further
unfoldable pub position_behind_byte : Position → ℕ → Position
position_behind_byte p b = cond (b == 10) (position_at p.file (p.line + 1) 1) (position_at p.file p.line (p.col + 1))

-- the place behind bytes that begin a file
unfoldable pub position_behind : ℕ → List ℕ → Position
position_behind file before = fold position_behind_byte (position_at file 1 1) before

-- the place of the byte that has so many bytes of the file before it
unfoldable pub position_of : ℕ → List ℕ → ℕ → Position
position_of file bytes offset = position_behind file (take offset bytes)

abbrev pub token_at : ℕ → List ℕ → TokenKind → ℕ → Token
token_at file before kind len = record { kind = kind; pos = position_behind file before; start = length before; len = len }

-- behind the bytes `before` of a file, the bytes that are left are a row of pieces, and these are the lexemes
-- among them with their places, and the end
pub data Lexes : ℕ → List ℕ → List ℕ → List Token → Type 0 where
  ends : (file : ℕ) (before : List ℕ) → Lexes file before [] (token_at file before End 0 ∷ [])
  skips : (file : ℕ) (before w rest : List ℕ) (tokens : List Token) →
      Piece w rest None → Lexes file (before ++ w) rest tokens → Lexes file before (w ++ rest) tokens
  takes : (file : ℕ) (before w rest : List ℕ) (kind : TokenKind) (tokens : List Token) →
      Piece w rest (Some kind) → Lexes file (before ++ w) rest tokens →
      Lexes file before (w ++ rest) (token_at file before kind (length w) ∷ tokens)

-- the tokens of a file
abbrev pub Lex : ℕ → List ℕ → List Token → Type 0
Lex file bytes tokens = Lexes file [] bytes tokens

-- the bytes before the offset are a row of pieces, and the one at the offset breaks the rule
pub data LexBreak : List ℕ → Rule → ℕ → Type 0 where
  here : (bytes : List ℕ) (rule : Rule) → BreakAt bytes rule → LexBreak bytes rule 0
  later : (w rest : List ℕ) (kind : Option TokenKind) (rule : Rule) (offset : ℕ) →
      Piece w rest kind → LexBreak rest rule offset → LexBreak (w ++ rest) rule (length w + offset)
