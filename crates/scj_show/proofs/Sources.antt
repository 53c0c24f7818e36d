-- What is true of the lexemes of a source: names are names, and words, signs and numbers are those of the language.
use Rattle.std.proofs.Common.{◌≡◌, ℕ, suc, ◌<◌, ◌≤◌, nat_lt, nat_le, Bool, true, false, ◌||◌, List, [], ◌∷◌, ◌++◌, length, Some, slice_get, refl, sym, ap, subst, ◌∙◌, arith, append_assoc}
use Rattle.std.proofs.lemmas.Bool.{and_parts, eqb-true, false≢true}
use Rattle.std.proofs.lemmas.Bool.Decides.{nat_tests}
use Rattle.std.proofs.lemmas.Option.{slice_get_within}
use Rattle.scj_base.specs.Vocabulary.{words, signs}
use Rattle.scj_base.specs.declared.lexemes.Token.{Token}
use Rattle.scj_base.specs.declared.lexemes.TokenKind.{TokenKind}
use Rattle.scj_base.specs.declared.lexemes.TokenKind.TheVariants.{Name}
use Rattle.std.specs.Prelude.{◌↔◌}
use Rattle.scj_base.specs.declared.positions.Position.{Position}
use Rattle.scj_base.specs.Lexeme.{is_letter, is_digit, is_name_byte, is_text_byte, AllOf, IsWordLike, IsReserved, Lexeme as Shape, Piece, is_name}
use Rattle.scj_base.specs.Lexeme.Lexeme.{name, word, number, text, sign}
use Rattle.scj_base.specs.Lexeme.Piece.{lexeme}
use Rattle.scj_base.specs.Lex.{Lexes, Lex, token_at}
use Rattle.scj_base.specs.Lex.Lexes.{ends, skips, takes}
use Rattle.scj_tree.specs.Lexemes.{Lexeme, a_name as name_at, a_word as word_at, a_number as number_at, a_text as text_at, a_sign as sign_at, the_end, lexeme_of, lexemes_of}
use Rattle.scj_base.specs.Bytes.{is_one_of, is_same}
use Rattle.scj_show.proofs.Lexing.{name_facts, part_behind, text_behind}

-- a source may hold the lexeme
unfoldable pub IsOfSource : Lexeme → Type 0
IsOfSource (name_at w p) = is_name w ≡ true
IsOfSource (word_at n p) = nat_lt n 53 ≡ true
IsOfSource (number_at n p) = n ≤ 2147483648
IsOfSource (text_at w p) = AllOf is_text_byte w
IsOfSource (sign_at n p) = nat_lt n 50 ≡ true
IsOfSource (the_end p) = Unit {0}

pub data AreOfSource : List Lexeme → Type 0 where
  no_lexeme : AreOfSource []
  one_more : {x : Lexeme} {xs : List Lexeme} → IsOfSource x → AreOfSource xs → AreOfSource (x ∷ xs)

-- ---- names

or-false : (a b : Bool) → a ≡ false → b ≡ false → (a || b) ≡ false
or-false true b e h = absurd (false≢true (sym e))
or-false false b e h = h

-- rows of bytes that are told to be the same are
same_is : (w v : List ℕ) → is_same w v ≡ true → w ≡ v
same_is [] [] h = refl
same_is [] (y ∷ v) h = absurd (false≢true h)
same_is (x ∷ w) [] h = absurd (false≢true h)
same_is (x ∷ w) (y ∷ v) h =
    let parts = and_parts _ _ h in
    rw (eqb-true x y parts.0, same_is w v parts.1) refl

none_of : (w : List ℕ) (vs : List (List ℕ)) → ((n : ℕ) → slice_get vs n ≡ Some w → ⊥) → is_one_of w vs ≡ false
none_of w [] f = refl
none_of w (v ∷ vs) f = or-false _ _ (unlike (is_same w v) refl) (none_of w vs (λ n e. f (suc n) e))
  where
    unlike : (b : Bool) → is_same w v ≡ b → b ≡ false
    unlike false e = refl
    unlike true e = absurd (f 0 (ap Some (sym (same_is w v e))))

-- a row of bytes like a name that is no reserved word, and not too long, is a name: the converse of `name_facts`
pub is_a_name : (w : List ℕ) → IsWordLike w → length w ≤ 64 → (IsReserved w → ⊥) → is_name w ≡ true
unfolding is_name
is_a_name [] h l r = absurd h
is_a_name (b ∷ bs) h l r =
    let short : nat_le (length (b ∷ bs)) 64 ≡ true = grind (arith, nat_tests) in
    let free : is_one_of (b ∷ bs) words ≡ false = none_of (b ∷ bs) words (λ n e. r (n, e)) in
    rw (h.0, h.1, short, free) refl

-- the grammar's names are the lexemes that are names
name_lexeme : (w : List ℕ) → is_name w ≡ true → Shape w [] Name
name_lexeme w h = let f = name_facts w h in name w [] f.like f.short f.free tt

lexeme_name : (w rest : List ℕ) (kind : TokenKind) → Shape w rest kind → kind ≡ Name → is_name w ≡ true
lexeme_name _ _ _ (name w rest h l r e) q = is_a_name w h l r
lexeme_name _ _ _ (word w rest n h e) q = absurd (cc)
lexeme_name _ _ _ (number w rest h l e) q = absurd (cc)
lexeme_name _ _ _ (text inside rest a) q = absurd (cc)
lexeme_name _ _ _ (sign w rest n e h o) q = absurd (cc)

pub names_alike : (w : List ℕ) → (is_name w ≡ true) ↔ Shape w [] Name
names_alike w = (name_lexeme w, λ d. lexeme_name w [] Name d refl)

-- the bytes of a name may stand between quotes
name_byte : (b : ℕ) → is_name_byte b ≡ true → is_text_byte b ≡ true
unfolding is_name_byte is_letter is_digit is_text_byte
name_byte b h = grind (arith, nat_tests)

name_bytes_are : (bs : List ℕ) → AllOf is_name_byte bs → AllOf is_text_byte bs
name_bytes_are [] h = refl
name_bytes_are (b ∷ bs) h =
    let parts = and_parts _ _ h in
    rw (name_byte b parts.0) (name_bytes_are bs parts.1)

pub name_is_text : (w : List ℕ) → is_name w ≡ true → AllOf is_text_byte w
unfolding is_name_byte
name_is_text w h = like w (name_facts w h).like
  where
    like : (v : List ℕ) → IsWordLike v → AllOf is_text_byte v
    like [] l = refl
    like (b ∷ bs) l =
        let begins : is_name_byte b ≡ true = ap (λ (t : Bool). t || is_digit b) l.0 in
        rw (name_byte b begins) (name_bytes_are bs l.1)

-- ---- the lexemes of a text

word_counts : (n : ℕ) (w : List ℕ) → slice_get words n ≡ Some w → nat_lt n 53 ≡ true
unfolding words
word_counts n w e = let l : n < 53 = slice_get_within words n w e in grind (arith, nat_tests)

sign_counts : (n : ℕ) (w : List ℕ) → slice_get signs n ≡ Some w → nat_lt n 50 ≡ true
unfolding signs
sign_counts n w e = let l : n < 50 = slice_get_within signs n w e in grind (arith, nat_tests)

one_of_source : (file : ℕ) (before w rest : List ℕ) (kind : TokenKind) → Shape w rest kind →
    IsOfSource (lexeme_of (before ++ (w ++ rest)) (token_at file before kind (length w)))
unfolding IsOfSource lexeme_of
one_of_source file before _ _ _ (name w rest h l r e) = rw (part_behind before w rest _ _ refl refl) (is_a_name w h l r)
one_of_source file before _ _ _ (word w rest n h e) = word_counts n w h
one_of_source file before _ _ _ (number w rest h l e) = l
one_of_source file before _ _ _ (text inside rest a) = rw (text_behind before inside rest) a
one_of_source file before _ _ _ (sign w rest n e h o) = sign_counts n w e

piece_of_source : (file : ℕ) (before w rest : List ℕ) (kind : TokenKind) → Piece w rest (Some kind) →
    IsOfSource (lexeme_of (before ++ (w ++ rest)) (token_at file before kind (length w)))
piece_of_source file before _ _ _ (lexeme w rest kind d) = one_of_source file before w rest kind d

-- the lexemes of a text are such that a source may hold them
from_here : (bytes : List ℕ) (file : ℕ) (before rest : List ℕ) (tokens : List Token) → Lexes file before rest tokens →
    bytes ≡ before ++ rest → AreOfSource (lexemes_of bytes tokens)
unfolding IsOfSource lexemes_of lexeme_of
from_here bytes _ _ _ _ (ends file before) e = one_more tt no_lexeme
from_here bytes _ _ _ _ (skips file before w rest tokens p l) e =
    from_here bytes file (before ++ w) rest tokens l (e ∙ sym (append_assoc before w rest))
from_here bytes _ _ _ _ (takes file before w rest kind tokens p l) e =
    let one : IsOfSource (lexeme_of bytes (token_at file before kind (length w))) =
    subst (λ (t : List ℕ). IsOfSource (lexeme_of t (token_at file before kind (length w)))) (sym e)
    (piece_of_source file before w rest kind p) in
    one_more one (from_here bytes file (before ++ w) rest tokens l (e ∙ sym (append_assoc before w rest)))

pub lexed_of_source : {file : ℕ} {bytes : List ℕ} {tokens : List Token} → Lex file bytes tokens →
    AreOfSource (lexemes_of bytes tokens)
lexed_of_source {file} {bytes} {tokens} l = from_here bytes file [] bytes tokens l refl

-- ---- the first lexemes of a row

pub behind : {x : Lexeme} {xs : List Lexeme} → AreOfSource (x ∷ xs) → AreOfSource xs
behind (one_more h a) = a

pub behind2 : {x y : Lexeme} {xs : List Lexeme} → AreOfSource (x ∷ y ∷ xs) → AreOfSource xs
behind2 (one_more h (one_more k a)) = a

pub behind3 : {x y z : Lexeme} {xs : List Lexeme} → AreOfSource (x ∷ y ∷ z ∷ xs) → AreOfSource xs
behind3 (one_more h (one_more k (one_more l a))) = a

pub name_first : {w : List ℕ} {p : Position} {xs : List Lexeme} → AreOfSource (name_at w p ∷ xs) → is_name w ≡ true
unfolding IsOfSource
name_first (one_more h a) = h

pub text_first : {w : List ℕ} {p : Position} {xs : List Lexeme} → AreOfSource (text_at w p ∷ xs) → AllOf is_text_byte w
unfolding IsOfSource
text_first (one_more h a) = h

pub number_first : {n : ℕ} {p : Position} {xs : List Lexeme} → AreOfSource (number_at n p ∷ xs) → n ≤ 2147483648
unfolding IsOfSource
number_first (one_more h a) = h

pub sign_first : {n : ℕ} {p : Position} {xs : List Lexeme} → AreOfSource (sign_at n p ∷ xs) → nat_lt n 50 ≡ true
unfolding IsOfSource
sign_first (one_more h a) = h
