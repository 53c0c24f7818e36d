-- What the lexer answers where it gives no tokens.
use Rattle.std.specs.Prelude.{ℕ, ◌≡◌, List, [], ◌∷◌, Option, Some, None, ⊤}
use Rattle.scj_base.specs.declared.positions.Position.{Position}
use Rattle.scj_base.specs.declared.findings.Found.{Found}
use Rattle.scj_base.specs.declared.lexemes.Token.{Token}
use Rattle.scj_base.specs.declared.lexemes.TokenKind.{TokenKind}
use Rattle.scj_base.specs.Lex.{Lex, LexBreak, position_of}
use Rattle.scj_lexer.specs.declared.texts.LexError.{LexError}
use Rattle.scj_lexer.specs.declared.texts.LexError.TheVariants.{Bad, Memory}

-- the text has no tokens, and breaks this rule first, at this place
pub record IsBreakOf (file : ℕ) (bytes : List ℕ) (found : Found) : Type 0 where
  pub offset : ℕ
  pub broken : LexBreak bytes found.rule offset
  pub place : found.pos ≡ position_of file bytes offset
  pub no_tokens : (tokens : List Token) → Lex file bytes tokens → ⊥

abbrev pub Reports : ℕ → List ℕ → LexError → Type 0
Reports file bytes (Bad found) = IsBreakOf file bytes found
Reports file bytes Memory = ⊤

-- the token of a piece, if it has a kind
abbrev pub token_of : Option TokenKind → Position → ℕ → ℕ → List Token
token_of None pos start len = []
token_of (Some kind) pos start len = record { kind = kind; pos = pos; start = start; len = len } ∷ []
