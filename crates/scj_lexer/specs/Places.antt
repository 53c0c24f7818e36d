-- Which pieces have no line feed.
use Rattle.std.specs.Prelude.{ℕ, Bool, true, false, ◌==◌, List, [], ◌∷◌, Option, Some, None}
use Rattle.scj_base.specs.declared.lexemes.TokenKind.{TokenKind}

abbrev slash_second : List ℕ → Bool
slash_second [] = false
slash_second (a ∷ []) = false
slash_second (a ∷ b ∷ s) = b == 47

-- the piece is a lexeme, or a comment of `//`
unfoldable pub stays_in_line : Option TokenKind → List ℕ → Bool
stays_in_line (Some kind) piece = true
stays_in_line None piece = slash_second piece
