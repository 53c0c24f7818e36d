-- The tokens of a text that is written out, computed: those of the definition.
use Rattle.std.proofs.Common.{◌≡◌, ℕ, zero, suc, List, [], ◌∷◌, ◌++◌, length, take, drop, Some, None, Option, codes, refl, ap, sym, subst, ◌∙◌, ◌⊎◌, inl, inr}
use Rattle.std.specs.Prelude.{option_map}
use Rattle.std.proofs.lemmas.List.{take_at, drop_at}
use Rattle.scj_base.specs.Vocabulary.{words, signs}
use Rattle.scj_base.specs.Lexeme.{is_blank, is_letter, is_digit, is_name_byte, is_text_byte, is_line_byte, value_of, opens_comment, has_close}
use Rattle.scj_base.specs.Lex.{Lexes, Lex, LexBreak, token_at, position_at, position_behind, position_behind_byte, position_of}
use Rattle.scj_base.specs.Lex.Lexes.{ends}
use Rattle.scj_base.specs.Lex.LexBreak.{here}
use Rattle.scj_base.specs.declared.lexemes.Token.{Token}
use Rattle.scj_base.specs.declared.lexemes.TokenKind.{TokenKind}
use Rattle.scj_base.specs.declared.lexemes.TokenKind.TheVariants.{Name, Word, Number, Text, Sign, End}
use Rattle.scj_base.specs.declared.findings.Rule.{Rule}
use Rattle.scj_base.specs.declared.findings.Rule.TheVariants.{L1, L2, L3}
use Rattle.scj_lexer.specs.declared.pieces.Front.{Front}
use Rattle.scj_lexer.specs.declared.pieces.Front.TheVariants.{Piece as Reported, Bad}
use Rattle.scj_lexer.specs.Tries.{word_of, sign_of, only_word_of, signs_from}
use Rattle.scj_lexer.specs.First.{first_of, name_first, number_first, text_first, comment_first, sign_first, number_of, digits_of, close_of}
use Rattle.scj_lexer.proofs.Decided.{Begins, piece_sound, break_sound}
use Rattle.scj_lexer.proofs.Whole.{joined, step}

abbrev after : (List ℕ → List ℕ → Option (List Token)) → ℕ → List ℕ → List ℕ → Front → Option (List Token)
after go file before bytes (Reported kind len) =
    option_map (joined file before (take len bytes) kind) (go (drop len bytes) (take len bytes))
after go file before bytes (Bad rule) = None

pub tokens_from : ℕ → ℕ → List ℕ → List ℕ → Option (List Token)
tokens_from zero file before bytes = None
tokens_from (suc n) file before [] = Some (token_at file before End 0 ∷ [])
tokens_from (suc n) file before (b ∷ s) = after (λ rest piece. tokens_from n file (before ++ piece) rest) file before
    (b ∷ s) (first_of (b ∷ s))

front_cases : (f : Front) → ((kind : Option TokenKind) × ((len : ℕ) × (f ≡ Reported kind len))) ⊎
    ((rule : Rule) × (f ≡ Bad rule))
front_cases (Reported kind len) = inl (kind, (len, refl))
front_cases (Bad rule) = inr (rule, refl)

map_is : {A : Type 0} (f : A → A) (o : Option A) (v : A) → option_map f o ≡ Some v → (u : A) × (o ≡ Some u) × (v ≡ f u)
map_is f None v e = absurd (cc)
map_is f (Some u) v e = (u, refl, cc)

one_piece : (file : ℕ) (before bytes : List ℕ) (p : Begins bytes) (kind : Option TokenKind) (len : ℕ)
    (more : List Token) → p.kind ≡ kind → length p.piece ≡ len →
    Lexes file (before ++ take len bytes) (drop len bytes) more →
    Lexes file before bytes (joined file before (take len bytes) kind more)
one_piece file before bytes p kind len more k l go =
    let front : take len bytes ≡ p.piece = ap (take len) p.whole ∙ take_at p.piece p.rest len l in
    let back : drop len bytes ≡ p.rest = ap (drop len) p.whole ∙ drop_at p.piece p.rest len l in
    let goes_on : Lexes file (before ++ p.piece) p.rest more = rw (← front, ← back) go in
    rw (front, ← k) (subst (λ u. Lexes file before u (joined file before p.piece p.kind more)) (sym p.whole)
    (step file before p.piece p.rest p.kind more p.is goes_on))

-- the tokens that are computed are those of the definition
pub sound : (n file : ℕ) (before bytes : List ℕ) (tokens : List Token) → tokens_from n file before bytes ≡ Some tokens →
    Lexes file before bytes tokens
unfolding tokens_from
sound zero file before bytes tokens e = absurd (cc)
sound (suc n) file before [] tokens e = let same : token_at file before End 0 ∷ [] ≡ tokens =
    cc in rw (← same) (ends file before)
sound (suc n) file before (b ∷ s) tokens e =
    elim (front_cases (first_of (b ∷ s))) [
      | inl t ↦
          let reported =
          sym (ap (after (λ rest piece. tokens_from n file (before ++ piece) rest) file before (b ∷ s)) t.1.1) ∙ e
          in
          let m = map_is (joined file before (take t.1.0 (b ∷ s)) t.0) _ tokens reported in
          let found = piece_sound b s t.0 t.1.0 t.1.1 in
          rw m.2
          (one_piece file before (b ∷ s) found.0 t.0 t.1.0 m.0 found.1 found.2
          (sound n file (before ++ take t.1.0 (b ∷ s)) (drop t.1.0 (b ∷ s)) m.0 m.1))
      | inr f ↦ let none =
          sym (ap (after (λ rest piece. tokens_from n file (before ++ piece) rest) file before (b ∷ s)) f.1) ∙ e in
          absurd (cc)
    ]

-- one name to unfold where a text is read that is written out
unfoldable pub lexer : Unit {0}
unfolding words signs is_blank is_letter is_digit is_name_byte is_text_byte is_line_byte value_of opens_comment
    has_close position_behind position_behind_byte position_of word_of sign_of only_word_of signs_from first_of name_first
    number_first text_first comment_first sign_first number_of digits_of close_of tokens_from
lexer = tt
