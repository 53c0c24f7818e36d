-- A name is a text.
use Rattle.std.proofs.Common.{◌≡◌, ℕ, zero, suc, ◌<◌, true, List, [], ◌∷◌, arith, IsUtf8}
use Rattle.std.proofs.lemmas.Bool.{and_parts}
use Rattle.std.proofs.lemmas.Bool.Decides.{nat_tests}
use Rattle.std.proofs.lemmas.Str.{IsUtf8-from_ascii}
use Rattle.std.specs.List.{list_all}
use Rattle.std.specs.Str.{IsAscii}
use Rattle.scj_base.specs.Lexeme.{is_digit, is_letter, is_name, is_name_byte}

letter_is_ascii : (b : ℕ) → is_letter b ≡ true → b < 128
unfolding is_letter
letter_is_ascii b h = grind (arith, nat_tests)

byte_is_ascii : (b : ℕ) → is_name_byte b ≡ true → b < 128
unfolding is_name_byte is_letter is_digit
byte_is_ascii b h = grind (arith, nat_tests)

with_first : (b : ℕ) (bytes : List ℕ) → b < 128 → IsAscii bytes → IsAscii (b ∷ bytes)
with_first b bytes first rest zero = first
with_first b bytes first rest (suc i) = rest i

all_ascii : (bytes : List ℕ) → list_all is_name_byte bytes ≡ true → IsAscii bytes
all_ascii [] h = λ i. omega arith
all_ascii (b ∷ bytes) h = with_first b bytes (byte_is_ascii b (and_parts _ _ h).0) (all_ascii bytes (and_parts _ _ h).1)

pub name_is_text : (bytes : List ℕ) → is_name bytes ≡ true → IsUtf8 bytes
unfolding is_name
name_is_text [] h = absurd (cc h)
name_is_text (b ∷ bytes) h =
    IsUtf8-from_ascii (b ∷ bytes)
    (with_first b bytes (letter_is_ascii b (and_parts _ _ h).0) (all_ascii bytes (and_parts _ _ (and_parts _ _ h).1).0))
