-- Lexemes and comments of `//` have no line feed, so the place behind one is as many columns further as it has bytes.
use Rattle.std.proofs.Common.{◌≡◌, ℕ, ◌+◌, ◌<◌, List, [], ◌∷◌, ◌++◌, length, take, Bool, true, false, ◌==◌, Some, Option, slice_get, not, refl, ap, sym, subst, ◌∙◌, arith, inl, inr}
use Rattle.std.specs.Prelude.{fold}
use Rattle.std.specs.List.{list_all}
use Rattle.std.proofs.lemmas.Bool.{and_parts, and_from, cases_Bool, false≢true, eqb-true}
use Rattle.std.proofs.lemmas.List.{take_at}
use Rattle.std.proofs.lemmas.Option.{get_or_from_slice_get}
use Rattle.scj_base.specs.Vocabulary.{words, signs}
use Rattle.scj_base.specs.Lex.{position_at, position_behind_byte}
use Rattle.scj_base.specs.Lexeme.{AllOf, Lexeme, Piece, is_letter, is_digit, is_name_byte, is_text_byte, is_line_byte}
use Rattle.scj_base.specs.Lexeme.Lexeme.{name, word, number, text, sign}
use Rattle.scj_base.specs.Lexeme.Piece.{blank, line_comment, block_comment, lexeme}
use Rattle.scj_base.specs.declared.positions.Position.{Position}
use Rattle.scj_base.specs.declared.lexemes.TokenKind.{TokenKind}
use Rattle.scj_lexer.specs.declared.pieces.Front.TheVariants.{Piece as Reported}
use Rattle.scj_lexer.specs.First.{first_of}
use Rattle.scj_lexer.specs.Places.{stays_in_line}
use Rattle.scj_lexer.proofs.Decided.{Begins, piece_sound}
use Rattle.scj_lexer.proofs.Searches.{all_at}

no_feed : (class : ℕ → Bool) (b : ℕ) → class 10 ≡ false → class b ≡ true → is_line_byte b ≡ true
unfolding is_line_byte
no_feed class b f t =
    elim (cases_Bool (b == 10)) [
      | inl e ↦ let same : b ≡ 10 = eqb-true _ _ e in absurd (false≢true (sym f ∙ ap class (sym same) ∙ t))
      | inr e ↦ rw e refl
    ]

no_feeds : (class : ℕ → Bool) (w : List ℕ) → class 10 ≡ false → AllOf class w → AllOf is_line_byte w
no_feeds class [] f a = refl
no_feeds class (b ∷ w) f a =
    let parts : (class b ≡ true) × (list_all class w ≡ true) = and_parts _ _ a in
    and_from _ _ (no_feed class b f parts.0) (no_feeds class w f parts.1)

words_in_line : list_all (list_all is_line_byte) words ≡ true
unfolding words is_line_byte
words_in_line = refl

signs_in_line : list_all (list_all is_line_byte) signs ≡ true
unfolding signs is_line_byte
signs_in_line = refl

listed_in_line : (texts : List (List ℕ)) (n : ℕ) (w : List ℕ) → list_all (list_all is_line_byte) texts ≡ true →
    slice_get texts n ≡ Some w → AllOf is_line_byte w
listed_in_line texts n w a e =
    subst (AllOf is_line_byte) (get_or_from_slice_get texts n w [] e) (all_at (list_all is_line_byte) texts n [] a refl)

all_append : (v w : List ℕ) → AllOf is_line_byte v → AllOf is_line_byte w → AllOf is_line_byte (v ++ w)
all_append [] w a c = c
all_append (b ∷ v) w a c =
    let parts : (is_line_byte b ≡ true) × (list_all is_line_byte v ≡ true) = and_parts _ _ a in
    and_from _ _ parts.0 (all_append v w parts.1 c)

lexeme_in_line : (w rest : List ℕ) (kind : TokenKind) → Lexeme w rest kind → AllOf is_line_byte w
unfolding is_letter is_digit is_name_byte is_text_byte is_line_byte
lexeme_in_line _ _ _ (name [] rest like l r e) = absurd like
lexeme_in_line _ _ _ (name (b ∷ s) rest like l r e) =
    and_from _ _ (no_feed is_letter b refl like.0) (no_feeds is_name_byte s refl like.1)
lexeme_in_line _ _ _ (word w rest n g e) = listed_in_line words n w words_in_line g
lexeme_in_line _ _ _ (number [] rest m g e) = refl
lexeme_in_line _ _ _ (number (b ∷ s) rest m g e) =
    and_from _ _ (no_feed is_digit b refl m.0) (no_feeds is_digit s refl m.1)
lexeme_in_line _ _ _ (text inside rest a) = all_append inside (34 ∷ []) (no_feeds is_text_byte inside refl a) refl
lexeme_in_line _ _ _ (sign w rest n g m c) = listed_in_line signs n w signs_in_line g

piece_in_line : (w rest : List ℕ) (kind : Option TokenKind) → Piece w rest kind → stays_in_line kind w ≡ true →
    AllOf is_line_byte w
unfolding stays_in_line is_line_byte
piece_in_line _ _ _ (blank b rest e) t = absurd (false≢true t)
piece_in_line _ _ _ (line_comment inside rest a e) t = and_from _ _ refl (and_from _ _ refl a)
piece_in_line _ _ _ (block_comment inside rest e) t = absurd (false≢true t)
piece_in_line _ _ _ (lexeme w rest kind is) t = lexeme_in_line w rest kind is

pub reported_in_line : (rest : List ℕ) (kind : Option TokenKind) (len : ℕ) → 0 < length rest →
    first_of rest ≡ Reported kind len → stays_in_line kind (take len rest) ≡ true → AllOf is_line_byte (take len rest)
reported_in_line [] kind len l e t = absurd (omega arith)
reported_in_line (b ∷ s) kind len l e t =
    let found = piece_sound b s kind len e in
    let p : Begins (b ∷ s) = found.0 in
    let same : take len (b ∷ s) ≡ p.piece = ap (take len) p.whole ∙ take_at p.piece p.rest len found.2 in
    let kinds : p.kind ≡ kind = found.1 in
    rw same (piece_in_line p.piece p.rest p.kind p.is (rw (kinds, ← same) t))

-- the place behind bytes with no line feed
pub fold_in_line : (p : Position) (w : List ℕ) → AllOf is_line_byte w → fold position_behind_byte p w ≡ position_at p.file p.line
    (p.col + length w)
unfolding position_behind_byte is_line_byte
fold_in_line p [] a = ap (position_at p.file p.line) (omega arith)
fold_in_line p (b ∷ w) a =
    let parts : (not (b == 10) ≡ true) × (list_all is_line_byte w ≡ true) = and_parts _ _ a in
    elim (cases_Bool (b == 10)) [
      | inl e ↦ absurd (false≢true (sym (ap not e) ∙ parts.0))
      | inr e ↦ rw e (fold_in_line (position_at p.file p.line (p.col + 1)) w parts.1
          ∙ ap (position_at p.file p.line) (omega arith))
    ]
