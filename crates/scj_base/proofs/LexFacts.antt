-- What is true of the tokens of a text: each is a lexeme of the text at its place, and the end stands last.
use Rattle.std.proofs.Common.{◌≡◌, ℕ, ◌+◌, ◌≤◌, List, [], ◌∷◌, ◌++◌, length, Some, Option, slice_get, refl, ap, sym, subst, arith, append_assoc, length-append}
use Rattle.std.specs.Prelude.{All}
use Rattle.std.proofs.lemmas.List.{append-nil}
use Rattle.std.proofs.lemmas.List.Elements.{All-cons}
use Rattle.scj_base.specs.Vocabulary.{words, signs}
use Rattle.scj_base.specs.Lexeme.{Lexeme, Piece, value_of}
use Rattle.scj_base.specs.Lexeme.Lexeme.{name, word, number, text, sign}
use Rattle.scj_base.specs.Lexeme.Piece.{blank, line_comment, block_comment, lexeme}
use Rattle.scj_base.specs.Lex.{Lexes, Lex, token_at, position_behind}
use Rattle.scj_base.specs.Lex.Lexes.{ends, skips, takes}
use Rattle.scj_base.specs.declared.lexemes.Token.{Token}
use Rattle.scj_base.specs.declared.lexemes.TokenKind.{TokenKind}
use Rattle.scj_base.specs.declared.lexemes.TokenKind.TheVariants.{Name, Word, Number, Text, Sign, End}

-- the token is a lexeme of the text
pub record IsTokenOf (file : ℕ) (bytes : List ℕ) (token : Token) : Type 0 where
  pub before : List ℕ
  pub lexeme : List ℕ
  pub rest : List ℕ
  pub whole : bytes ≡ before ++ (lexeme ++ rest)
  pub is : Lexeme lexeme rest token.kind
  pub start : token.start ≡ length before
  pub len : token.len ≡ length lexeme
  pub place : token.pos ≡ position_behind file before

-- the tokens of a text are its lexemes, and the end behind them
pub record AreTokensOf (file : ℕ) (bytes : List ℕ) (tokens : List Token) : Type 0 where
  pub lexemes : List Token
  pub whole : tokens ≡ lexemes ++ token_at file bytes End 0 ∷ []
  pub each : All (IsTokenOf file bytes) lexemes

piece_lexeme : (w rest : List ℕ) (found : Option TokenKind) (kind : TokenKind) → Piece w rest found →
    found ≡ Some kind → Lexeme w rest kind
piece_lexeme _ _ _ kind (blank b rest e) q = absurd (cc)
piece_lexeme _ _ _ kind (line_comment inside rest a e) q = absurd (cc)
piece_lexeme _ _ _ kind (block_comment inside rest e) q = absurd (cc)
piece_lexeme _ _ _ kind (lexeme w rest k is) q = let same : k ≡ kind = cc in subst (Lexeme w rest) same is

from_here : (file : ℕ) (before bytes : List ℕ) (tokens : List Token) → Lexes file before bytes tokens →
    AreTokensOf file (before ++ bytes) tokens
from_here _ _ _ _ (ends file before) =
    rw (append-nil before) (record { lexemes = []; whole = refl; each = λ k d l. absurd (omega arith) })
from_here _ _ _ _ (skips file before w rest tokens p l) =
    rw (← append_assoc before w rest) (from_here file (before ++ w) rest tokens l)
from_here _ _ _ _ (takes file before w rest kind tokens p l) =
    let all_more : AreTokensOf file (before ++ (w ++ rest)) tokens =
    rw (← append_assoc before w rest) (from_here file (before ++ w) rest tokens l) in
    let t = token_at file before kind (length w) in
    let one : IsTokenOf file (before ++ (w ++ rest)) t =
    record {
      before = before;
      lexeme = w;
      rest = rest;
      whole = refl;
      is = piece_lexeme w rest
          (Some kind) kind p refl;
      start = refl;
      len = refl;
      place = refl;
    } in
    record {
      lexemes = t ∷ all_more.lexemes;
      whole = ap (λ u. t ∷ u) all_more.whole;
      each = All-cons
          (IsTokenOf file (before ++ (w ++ rest))) t all_more.lexemes one all_more.each;
    }

pub tokens_of_lex : (file : ℕ) (bytes : List ℕ) (tokens : List Token) → Lex file bytes tokens →
    AreTokensOf file bytes tokens
tokens_of_lex file bytes tokens l = from_here file [] bytes tokens l

pub token_within : (file : ℕ) (bytes : List ℕ) (t : Token) → IsTokenOf file bytes t → t.start + t.len ≤ length bytes
token_within file bytes t h =
    omega (
      arith,
      h.start,
      h.len,
      ap length h.whole,
      length-append h.before (h.lexeme ++ h.rest),
      length-append h.lexeme h.rest,
    )

-- a token of a text is no end of a file
pub lexeme_not_end : (w rest : List ℕ) (kind : TokenKind) → Lexeme w rest kind → kind ≡ End → ⊥
lexeme_not_end _ _ _ (name w rest h l r e) q = cc
lexeme_not_end _ _ _ (word w rest n h e) q = cc
lexeme_not_end _ _ _ (number w rest h l e) q = cc
lexeme_not_end _ _ _ (text inside rest a) q = cc
lexeme_not_end _ _ _ (sign w rest n e h o) q = cc

pub name_short : (w rest : List ℕ) (kind : TokenKind) → Lexeme w rest kind → kind ≡ Name → length w ≤ 64
name_short _ _ _ (name w rest h l r e) q = l
name_short _ _ _ (word w rest n h e) q = absurd (cc)
name_short _ _ _ (number w rest h l e) q = absurd (cc)
name_short _ _ _ (text inside rest a) q = absurd (cc)
name_short _ _ _ (sign w rest n e h o) q = absurd (cc)

pub text_quoted : (w rest : List ℕ) (kind : TokenKind) → Lexeme w rest kind → kind ≡ Text → (inside : List ℕ) ×
    (w ≡ 34 ∷ (inside ++ 34 ∷ []))
text_quoted _ _ _ (name w rest h l r e) q = absurd (cc)
text_quoted _ _ _ (word w rest n h e) q = absurd (cc)
text_quoted _ _ _ (number w rest h l e) q = absurd (cc)
text_quoted _ _ _ (text inside rest a) q = (inside, refl)
text_quoted _ _ _ (sign w rest n e h o) q = absurd (cc)

pub word_listed : (w rest : List ℕ) (kind : TokenKind) (m : ℕ) → Lexeme w rest kind → kind ≡ Word m →
    slice_get words m ≡ Some w
word_listed _ _ _ m (name w rest h l r e) q = absurd (cc)
word_listed _ _ _ m (word w rest n h e) q = let same : n ≡ m = cc in rw (← same) h
word_listed _ _ _ m (number w rest h l e) q = absurd (cc)
word_listed _ _ _ m (text inside rest a) q = absurd (cc)
word_listed _ _ _ m (sign w rest n e h o) q = absurd (cc)

pub sign_listed : (w rest : List ℕ) (kind : TokenKind) (m : ℕ) → Lexeme w rest kind → kind ≡ Sign m →
    slice_get signs m ≡ Some w
sign_listed _ _ _ m (name w rest h l r e) q = absurd (cc)
sign_listed _ _ _ m (word w rest n h e) q = absurd (cc)
sign_listed _ _ _ m (number w rest h l e) q = absurd (cc)
sign_listed _ _ _ m (text inside rest a) q = absurd (cc)
sign_listed _ _ _ m (sign w rest n e h o) q = let same : n ≡ m = cc in rw (← same) e

pub number_value : (w rest : List ℕ) (kind : TokenKind) (m : ℕ) → Lexeme w rest kind → kind ≡ Number m →
    (m ≡ value_of w) × (m ≤ 2147483648)
number_value _ _ _ m (name w rest h l r e) q = absurd (cc)
number_value _ _ _ m (word w rest n h e) q = absurd (cc)
number_value _ _ _ m (number w rest h l e) q = let same : value_of w ≡ m = cc in (sym same, rw (← same) l)
number_value _ _ _ m (text inside rest a) q = absurd (cc)
number_value _ _ _ m (sign w rest n e h o) q = absurd (cc)
