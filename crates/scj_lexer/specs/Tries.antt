-- Which word a name is, by the only one that it can be, and which sign comes first, by trying those that begin with
-- the same byte.
use Rattle.std.specs.Prelude.{ℕ, ◌+◌, ◌-◌, ◌*◌, ◌%◌, Bool, false, ◌&&◌, ◌||◌, ◌==◌, nat_le, cond, List, [], ◌∷◌, length, slice_get, slice_index, slice_index_or, map, find, Option, Some, None, bytes_eq}
use Rattle.std.specs.List.{starts_with}
use Rattle.scj_base.specs.Vocabulary.{words, signs}
use Rattle.scj_lexer.specs.declared.tables.TheConstants.{WORD_AT, SIGNS_FROM}

-- the hash of a name, by its first two bytes and its length
abbrev pub hash_of : ℕ → ℕ → ℕ → ℕ
hash_of first second len = (19 * first + 8 * second + 20 * (len % 16)) % 128

unfoldable pub only_word_of : ℕ → ℕ → ℕ → ℕ
only_word_of first second len = slice_index WORD_AT (hash_of first second len)

unfoldable pub signs_from : ℕ → List ℕ
signs_from b = slice_index_or (map (λ r. r.now) SIGNS_FROM) (b - 33) []

abbrev pub is_word : List ℕ → ℕ → Bool
is_word w n = bytes_eq (slice_index_or words n []) w

abbrev pub is_sign_first : List ℕ → ℕ → Bool
is_sign_first bytes n = starts_with ◌==◌ bytes (slice_index_or signs n [])

abbrev pub if_word : List ℕ → ℕ → Option ℕ
if_word w n = cond (is_word w n) (Some n) None

unfoldable pub word_of : List ℕ → Option ℕ
word_of [] = None
word_of (a ∷ []) = None
word_of (a ∷ b ∷ s) = if_word (a ∷ b ∷ s) (only_word_of a b (length (a ∷ b ∷ s)))

unfoldable pub sign_of : List ℕ → Option ℕ
sign_of [] = None
sign_of (b ∷ s) = cond (nat_le 33 b && nat_le b 126) (find (is_sign_first (b ∷ s)) (signs_from b)) None

-- one of `=`, `&`, `|`, `+`, `-`, `<`, `>`, `:` and `.`
unfoldable pub is_second_of_sign : ℕ → Bool
is_second_of_sign b =
    (b == 61)
    || ((b == 38)
    || ((b == 124) || ((b == 43) || ((b == 45) || ((b == 60) || ((b == 62) || ((b == 58) || (b == 46))))))))

-- the second byte can be that of a sign
unfoldable pub goes_on : List ℕ → Bool
goes_on [] = false
goes_on (a ∷ []) = false
goes_on (a ∷ b ∷ s) = is_second_of_sign b

-- the last sign that begins with the byte
unfoldable pub last_sign : ℕ → Option ℕ
last_sign b = slice_get (signs_from b) (length (signs_from b) - 1)
