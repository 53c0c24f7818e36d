-- The lexemes of the language: which rows of bytes are one, and what may not stand behind them. A byte is
-- written as its code: 34 is `"`, 42 is `*`, 47 is `/`.
use Rattle.std.specs.Prelude.{ℕ, ◌+◌, ◌-◌, ◌*◌, ◌<◌, ◌≤◌, ◌≡◌, ◌≢◌, Bool, true, false, not, ◌&&◌, ◌||◌, ◌==◌, nat_le, List, [], ◌∷◌, ◌++◌, length, slice_get, fold, Option, Some, None, ⊤}
use Rattle.std.specs.List.{list_all}
use Rattle.scj_base.specs.Bytes.{is_one_of}
use Rattle.scj_base.specs.Vocabulary.{words, signs}
use Rattle.scj_base.specs.declared.lexemes.TokenKind.{TokenKind}
use Rattle.scj_base.specs.declared.lexemes.TokenKind.TheVariants.{Name, Word, Number, Text, Sign}
use Rattle.scj_base.specs.declared.findings.Rule.{Rule}
use Rattle.scj_base.specs.declared.findings.Rule.TheVariants.{L1, L2, L3, L4}

-- space, tab, line feed, form feed, carriage return (JLS 3.6)
unfoldable pub is_blank : ℕ → Bool
is_blank b = (b == 32) || ((b == 9) || ((b == 10) || ((b == 12) || (b == 13))))

-- a byte that ends no line
unfoldable pub is_line_byte : ℕ → Bool
is_line_byte b = not (b == 10)

-- a letter, `$` or `_`: what can begin a name (JLS 3.8, ASCII alone)
unfoldable pub is_letter : ℕ → Bool
is_letter b = (nat_le 65 b && nat_le b 90) || ((nat_le 97 b && nat_le b 122) || ((b == 36) || (b == 95)))

unfoldable pub is_digit : ℕ → Bool
is_digit b = nat_le 48 b && nat_le b 57

unfoldable pub is_name_byte : ℕ → Bool
is_name_byte b = is_letter b || is_digit b

-- what can stand between quotes: a printed byte other than `"` and `\`
unfoldable pub is_text_byte : ℕ → Bool
is_text_byte b = nat_le 32 b && (nat_le b 126 && (not (b == 34) && not (b == 92)))

-- all bytes are of a class
abbrev pub AllOf : (ℕ → Bool) → List ℕ → Type 0
AllOf class bytes = list_all class bytes ≡ true

-- the bytes are at their end, or go on with one that is not of the class
abbrev pub EndsHere : (ℕ → Bool) → List ℕ → Type 0
EndsHere class [] = ⊤
EndsHere class (b ∷ s) = class b ≡ false

-- a letter, `$` or `_`, then any of these and digits
abbrev pub IsWordLike : List ℕ → Type 0
IsWordLike [] = ⊥
IsWordLike (b ∷ s) = (is_letter b ≡ true) × AllOf is_name_byte s

-- `0`, or a digit from 1 to 9 followed by digits (JLS 3.10.1, decimal alone)
abbrev pub IsNumeral : List ℕ → Type 0
IsNumeral [] = ⊥
IsNumeral (b ∷ s) = (is_digit b ≡ true) × AllOf is_digit s × ((b ≡ 48) → s ≡ [])

-- the most bytes of a name, and the greatest number
abbrev pub longest_name : ℕ
longest_name = 64

abbrev pub greatest_number : ℕ
greatest_number = 2147483648

-- the number that decimal digits write
unfoldable pub value_of : List ℕ → ℕ
value_of digits = fold (λ n d. 10 * n + (d - 48)) 0 digits

abbrev pub IsReserved : List ℕ → Type 0
IsReserved w = (n : ℕ) × (slice_get words n ≡ Some w)

-- a name as it may stand between quotes
unfoldable pub is_name : List ℕ → Bool
is_name [] = false
is_name (b ∷ s) =
    is_letter b && (list_all is_name_byte s &&
    (nat_le (length (b ∷ s)) longest_name && not (is_one_of (b ∷ s) words)))

-- `//` or `/*` comes first
unfoldable pub opens_comment : List ℕ → Bool
opens_comment [] = false
opens_comment (a ∷ []) = false
opens_comment (a ∷ b ∷ s) = (a == 47) && ((b == 47) || (b == 42))

-- `*/` stands somewhere in the bytes
unfoldable pub has_close : List ℕ → Bool
has_close [] = false
has_close (a ∷ []) = false
has_close (a ∷ b ∷ s) = ((a == 42) && (b == 47)) || has_close (b ∷ s)

-- no sign that the bytes begin with is longer than w
abbrev pub IsLongestSign : List ℕ → List ℕ → Type 0
IsLongestSign w bytes = (n : ℕ) (v rest : List ℕ) → slice_get signs n ≡ Some v → bytes ≡ v ++ rest → length v ≤ length w

-- w is a lexeme of the kind where rest stands behind it, and cannot be made longer: no more of a name or of a
-- number follows, and a sign is the longest that fits and begins no comment
pub data Lexeme : List ℕ → List ℕ → TokenKind → Type 0 where
  name : (w rest : List ℕ) → IsWordLike w → length w ≤ longest_name → (IsReserved w → ⊥) →
      EndsHere is_name_byte rest → Lexeme w rest Name
  word : (w rest : List ℕ) (n : ℕ) → slice_get words n ≡ Some w → EndsHere is_name_byte rest → Lexeme w rest (Word n)
  number : (w rest : List ℕ) → IsNumeral w → value_of w ≤ greatest_number → EndsHere is_name_byte rest →
      Lexeme w rest (Number (value_of w))
  text : (inside rest : List ℕ) → AllOf is_text_byte inside → Lexeme (34 ∷ (inside ++ 34 ∷ [])) rest Text
  sign : (w rest : List ℕ) (n : ℕ) → slice_get signs n ≡ Some w → IsLongestSign w (w ++ rest) →
      opens_comment (w ++ rest) ≡ false → Lexeme w rest (Sign n)

-- w is a blank or a comment (None), or a lexeme of a kind, where rest stands behind it. A comment of `//` runs
-- up to a line feed or the end, one of `/*` up to the first `*/`
pub data Piece : List ℕ → List ℕ → Option TokenKind → Type 0 where
  blank : (b : ℕ) (rest : List ℕ) → is_blank b ≡ true → Piece (b ∷ []) rest None
  line_comment : (inside rest : List ℕ) → AllOf is_line_byte inside → EndsHere is_line_byte rest →
      Piece (47 ∷ 47 ∷ inside) rest None
  block_comment : (inside rest : List ℕ) → has_close inside ≡ false →
      Piece (47 ∷ 42 ∷ (inside ++ 42 ∷ 47 ∷ [])) rest None
  lexeme : (w rest : List ℕ) (kind : TokenKind) → Lexeme w rest kind → Piece w rest (Some kind)

-- no lexeme begins the bytes
abbrev pub NoLexeme : List ℕ → Type 0
NoLexeme bytes = (w rest : List ℕ) (kind : TokenKind) → bytes ≡ w ++ rest → Lexeme w rest kind → ⊥

-- the first of these bytes breaks a rule: a digit begins no number, a `/*` or a quote is not closed, more than
-- 64 bytes of a name follow each other, or nothing at all begins here
pub data BreakAt : List ℕ → Rule → Type 0 where
  bad_byte : (b : ℕ) (s : List ℕ) → is_blank b ≡ false → is_letter b ≡ false → is_digit b ≡ false → b ≢ 34 →
      opens_comment (b ∷ s) ≡ false → NoLexeme (b ∷ s) → BreakAt (b ∷ s) L1
  bad_number : (b : ℕ) (s : List ℕ) → is_digit b ≡ true → NoLexeme (b ∷ s) → BreakAt (b ∷ s) L2
  open_comment : (s : List ℕ) → has_close s ≡ false → BreakAt (47 ∷ 42 ∷ s) L3
  open_text : (s : List ℕ) → NoLexeme (34 ∷ s) → BreakAt (34 ∷ s) L3
  long_name : (w rest : List ℕ) → IsWordLike w → longest_name < length w → EndsHere is_name_byte rest →
      BreakAt (w ++ rest) L4
