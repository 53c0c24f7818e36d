-- How far a text is read: what is left lexes, or breaks, as the whole does.
use Rattle.std.proofs.Common.{◌≡◌, ℕ, zero, suc, ◌+◌, ◌-◌, ◌<◌, ◌≤◌, List, [], ◌∷◌, ◌++◌, length, take, drop, Some, None, Option, refl, ap, sym, subst, ◌∙◌, arith, append_assoc, length-append, ◌==◌, Bool, true, false, inl, inr}
use Rattle.std.proofs.lemmas.Bool.{cases_Bool, cond-true, false≢true}
use Rattle.std.specs.Prelude.{fold, slice_index}
use Rattle.std.proofs.lemmas.List.{take_at, drop_at, append-nil, length-take-le}
use Rattle.std.proofs.lemmas.List.Sums.{fold-append}
use Rattle.scj_base.specs.Lexeme.{Piece, is_blank}
use Rattle.scj_base.specs.Lex.{Lexes, Lex, LexBreak, position_at, position_behind, position_behind_byte, position_of}
use Rattle.scj_base.specs.Lex.Lexes.{ends}
use Rattle.scj_base.specs.Lex.LexBreak.{here, later}
use Rattle.scj_base.specs.declared.positions.Position.{Position}
use Rattle.scj_base.specs.declared.findings.Found.{Found}
use Rattle.scj_base.specs.declared.lexemes.Token.{Token}
use Rattle.scj_base.specs.declared.lexemes.TokenKind.{TokenKind}
use Rattle.scj_base.specs.declared.lexemes.TokenKind.TheVariants.{End}
use Rattle.scj_base.specs.declared.findings.Rule.{Rule}
use Rattle.scj_lexer.specs.declared.pieces.Front.TheVariants.{Piece as Reported, Bad}
use Rattle.std.specs.Prelude.{Result, Ok, Err, IsErrAnd, IfErr}
use Rattle.scj_lexer.specs.declared.texts.LexError.{LexError}
use Rattle.scj_lexer.specs.declared.texts.LexError.TheVariants.{Memory}
use Rattle.scj_lexer.specs.Answer.{IsBreakOf, Reports, token_of}
use Rattle.scj_lexer.specs.First.{first_of}
use Rattle.scj_lexer.proofs.Decided.{Begins, piece_sound, break_sound}
use Rattle.scj_lexer.proofs.Whole.{step, joined, not_both, piece_len}

pub record Reached (file : ℕ) (bytes rest : List ℕ) (pos : Position) (tokens : List Token) : Type 0 where
  pub before : List ℕ
  pub whole : bytes ≡ before ++ rest
  pub place : pos ≡ position_behind file before
  pub lexes : (more : List Token) → Lexes file before rest more → Lex file bytes (tokens ++ more)
  pub breaks : (rule : Rule) (offset : ℕ) → LexBreak rest rule offset → LexBreak bytes rule (length before + offset)

pub reached_start : (file : ℕ) (bytes : List ℕ) → Reached file bytes bytes (position_at file 1 1) []
unfolding position_behind
reached_start file bytes =
    record {
      before = [];
      whole = refl;
      place = refl;
      lexes = λ more l. l;
      breaks = λ rule offset b. subst
          (LexBreak bytes rule) (omega arith) b;
    }

one_more : (file : ℕ) (before w : List ℕ) (kind : Option TokenKind) (more : List Token) →
    joined file before w kind more ≡ token_of kind (position_behind file before) (length before) (length w) ++ more
one_more file before w None more = refl
one_more file before w (Some kind) more = refl

behind_more : (file : ℕ) (before w : List ℕ) → fold position_behind_byte (position_behind file before) w ≡ position_behind file
    (before ++ w)
unfolding position_behind
behind_more file before w = sym (fold-append position_behind_byte (position_at file 1 1) before w)

pub reached_piece : (file : ℕ) (bytes rest w s : List ℕ) (kind : Option TokenKind) (pos : Position) (tokens : List Token) →
    Piece w s kind → rest ≡ w ++ s → Reached file bytes rest pos tokens →
    Reached file bytes s (fold position_behind_byte pos w)
    (tokens ++ token_of kind pos (length bytes - length rest) (length w))
reached_piece file bytes rest w s kind pos tokens p e r =
    let start : length bytes - length rest ≡ length r.before =
    omega (arith, ap length r.whole, length-append r.before rest) in
    record {
      before = r.before ++ w;
      whole = r.whole ∙ ap (λ u. r.before ++ u) e ∙ sym (append_assoc r.before w s);
      place = ap (λ q. fold position_behind_byte q w) r.place ∙ behind_more file r.before w;
      lexes = λ more l.
          let whole_more =
          r.lexes (joined file r.before w kind more)
          (subst (λ u. Lexes file r.before u (joined file r.before w kind more)) (sym e)
          (step file r.before w s kind more p l)) in
          rw (start, r.place, append_assoc, ← one_more file r.before w kind more) whole_more;
      breaks = λ rule offset b.
          let sum : length r.before + (length w + offset) ≡ length (r.before ++ w) + offset =
          omega (arith, length-append r.before w) in
          subst (LexBreak bytes rule) sum
          (r.breaks rule (length w + offset)
          (subst (λ u. LexBreak u rule (length w + offset)) (sym e) (later w s kind rule offset p b)));
    }

reached_found : (file : ℕ) (bytes rest : List ℕ) (pos : Position) (tokens : List Token) (p : Begins rest) →
    Reached file bytes rest pos tokens →
    Reached file bytes (drop (length p.piece) rest) (fold position_behind_byte pos (take (length p.piece) rest))
    (tokens ++ token_of p.kind pos (length bytes - length rest) (length p.piece))
reached_found file bytes rest pos tokens p r =
    let front : take (length p.piece) rest ≡ p.piece = ap (take (length p.piece)) p.whole
    ∙ take_at p.piece p.rest (length p.piece) refl in
    let back : drop (length p.piece) rest ≡ p.rest = ap (drop (length p.piece)) p.whole
    ∙ drop_at p.piece p.rest (length p.piece) refl in
    rw (front, back) (reached_piece file bytes rest p.piece p.rest p.kind pos tokens p.is p.whole r)

reached_as : (file : ℕ) (bytes rest : List ℕ) (pos : Position) (tokens : List Token) (p : Begins rest)
    (kind : Option TokenKind) (len : ℕ) → p.kind ≡ kind → length p.piece ≡ len → Reached file bytes rest pos tokens →
    Reached file bytes (drop len rest) (fold position_behind_byte pos (take len rest))
    (tokens ++ token_of kind pos (length bytes - length rest) len)
reached_as file bytes rest pos tokens p kind len k l r =
    subst (λ t. Reached file bytes (drop len rest) (fold position_behind_byte pos (take len rest))
    (tokens ++ token_of t pos (length bytes - length rest) len)) k
    (subst
    (λ n. Reached file bytes (drop n rest) (fold position_behind_byte pos (take n rest))
    (tokens ++ token_of p.kind pos (length bytes - length rest) n)) l
    (reached_found file bytes rest pos tokens p r))

pub reached_step : (file : ℕ) (bytes rest : List ℕ) (kind : Option TokenKind) (len : ℕ) (pos : Position)
    (tokens : List Token) → 0 < length rest → first_of rest ≡ Reported kind len → Reached file bytes rest pos tokens →
    Reached file bytes (drop len rest) (fold position_behind_byte pos (take len rest))
    (tokens ++ token_of kind pos (length bytes - length rest) len)
reached_step file bytes [] kind len pos tokens l e r = absurd (omega arith)
reached_step file bytes (b ∷ s) kind len pos tokens l e r =
    let found = piece_sound b s kind len e in
    reached_as file bytes (b ∷ s) pos tokens found.0 kind len found.1 found.2 r

pub reported_len : (rest : List ℕ) (kind : Option TokenKind) (len : ℕ) → 0 < length rest → first_of rest ≡ Reported kind len →
    (0 < len) × (len ≤ length rest)
reported_len [] kind len l e = absurd (omega arith)
reported_len (b ∷ s) kind len l e =
    let found = piece_sound b s kind len e in
    let p : Begins (b ∷ s) = found.0 in
    let positive : 0 < length p.piece = piece_len p.piece p.rest p.kind p.is in
    let sum : length (b ∷ s) ≡ length p.piece + length p.rest = ap length p.whole ∙ length-append p.piece p.rest in
    let same : length p.piece ≡ len = found.2 in
    (omega arith, omega arith)

pub reached_end : (file : ℕ) (bytes rest : List ℕ) (pos : Position) (tokens : List Token) → length rest ≡ 0 →
    Reached file bytes rest pos tokens → Lex file bytes (tokens ++ token_of (Some End) pos (length bytes) 0)
reached_end file bytes [] pos tokens e r =
    let all : bytes ≡ r.before = r.whole ∙ append-nil r.before in
    rw (all, r.place)
    (subst (λ u. Lex file u (tokens ++ token_of (Some End) (position_behind file r.before) (length r.before) 0)) all
    (r.lexes _ (ends file r.before)))
reached_end file bytes (b ∷ s) pos tokens e r = absurd (omega arith)

pub reached_break : (file : ℕ) (bytes rest : List ℕ) (pos : Position) (tokens : List Token) (rule : Rule) (found : Found) →
    0 < length rest → first_of rest ≡ Bad rule → found.pos ≡ pos → found.rule ≡ rule →
    Reached file bytes rest pos tokens → IsBreakOf file bytes found
unfolding position_of
reached_break file bytes [] pos tokens rule found l e q t r = absurd (omega arith)
reached_break file bytes (b ∷ s) pos tokens rule found l e q t r =
    let broken : LexBreak bytes rule (length r.before + 0) =
    r.breaks rule 0 (here (b ∷ s) rule (break_sound b s rule e)) in
    let offset : length r.before + 0 ≡ length r.before = omega arith in
    let broken_here : LexBreak bytes found.rule (length r.before) = rw t (subst (LexBreak bytes rule) offset broken) in
    record {
      offset = length r.before;
      broken = broken_here;
      place =
          q ∙ r.place
          ∙ ap (position_behind file)
          (sym (ap (take (length r.before)) r.whole ∙ take_at r.before (b ∷ s) (length r.before) refl));
      no_tokens = λ more. not_both file [] bytes more found.rule (length r.before) broken_here;
    }

blank_first : (rest : List ℕ) → 0 < length rest → is_blank (slice_index rest 0) ≡ true → first_of rest ≡ Reported None 1
unfolding first_of
blank_first [] l e = absurd (omega arith)
blank_first (b ∷ s) l e = cond-true _ _ _ e

-- behind a blank
pub reached_blank : (file : ℕ) (bytes rest : List ℕ) (pos : Position) (tokens : List Token) → 0 < length rest →
    is_blank (slice_index rest 0) ≡ true → Reached file bytes rest pos tokens →
    Reached file bytes (drop 1 rest) (position_behind_byte pos (slice_index rest 0)) tokens
reached_blank file bytes [] pos tokens l e r = absurd (omega arith)
reached_blank file bytes (b ∷ s) pos tokens l e r =
    subst (λ ts. Reached file bytes (drop 1 (b ∷ s)) (position_behind_byte pos b) ts) (append-nil tokens)
    (reached_step file bytes (b ∷ s) None 1 pos tokens l (blank_first (b ∷ s) l e) r)

line_one : (p : Position) (b : ℕ) → (position_behind_byte p b).line ≤ p.line + 1
unfolding position_behind_byte
line_one p b = elim (cases_Bool (b == 10)) [ inl e ↦ rw e (omega arith) | inr e ↦ rw e (omega arith) ]

col_one : (p : Position) (b : ℕ) → (position_behind_byte p b).col ≤ p.col + 1
unfolding position_behind_byte
col_one p b = elim (cases_Bool (b == 10)) [ inl e ↦ rw e (omega arith) | inr e ↦ rw e (omega arith) ]

line_more : (p : Position) (bytes : List ℕ) → (fold position_behind_byte p bytes).line ≤ p.line + length bytes
line_more p [] = omega arith
line_more p (b ∷ s) = omega (arith, line_one p b, line_more (position_behind_byte p b) s)

col_more : (p : Position) (bytes : List ℕ) → (fold position_behind_byte p bytes).col ≤ p.col + length bytes
col_more p [] = omega arith
col_more p (b ∷ s) = omega (arith, col_one p b, col_more (position_behind_byte p b) s)

pub record Small (pos : Position) (bytes rest : List ℕ) : Type 0 where
  pub line : pos.line + length rest ≤ length bytes + 1
  pub col : pos.col + length rest ≤ length bytes + 1
  pub left : length rest ≤ length bytes

pub reached_small : (file : ℕ) (bytes rest : List ℕ) (pos : Position) (tokens : List Token) →
    Reached file bytes rest pos tokens → Small pos bytes rest
unfolding position_behind
reached_small file bytes rest pos tokens r =
    let sum : length bytes ≡ length r.before + length rest = ap length r.whole ∙ length-append r.before rest in
    let lines : pos.line ≤ 1 + length r.before = rw r.place (line_more (position_at file 1 1) r.before) in
    let cols : pos.col ≤ 1 + length r.before = rw r.place (col_more (position_at file 1 1) r.before) in
    record { line = omega arith; col = omega arith; left = omega arith }

pub record PieceFits (bytes rest : List ℕ) (pos : Position) (len : ℕ) : Type 0 where
  pub positive : 0 < len
  pub within : len ≤ length rest
  pub len_fits : len < 4294967296
  pub line_fits : pos.line + length (take len rest) < 4294967296
  pub col_fits : pos.col + length (take len rest) + 1 < 4294967296
  pub left : length rest ≤ length bytes

not_empty : (n : ℕ) → (n == 0) ≡ false → 0 < n
not_empty zero e = absurd (false≢true (sym e))
not_empty (suc n) e = omega arith

pub not_at_end : (rest : List ℕ) (b : Bool) → b ≡ (length rest == 0) → b ≡ false → 0 < length rest
not_at_end rest b e f = not_empty (length rest) (sym e ∙ f)

pub piece_fits : (file : ℕ) (bytes rest : List ℕ) (kind : Option TokenKind) (len : ℕ) (pos : Position)
    (tokens : List Token) → length bytes ≤ 1048576 → 0 < length rest → first_of rest ≡ Reported kind len →
    Reached file bytes rest pos tokens → PieceFits bytes rest pos len
piece_fits file bytes rest kind len pos tokens l h e r =
    let small : Small pos bytes rest = reached_small file bytes rest pos tokens r in
    let (positive, within) = reported_len rest kind len h e in
    let same : length (take len rest) ≡ len = length-take-le len rest within in
    record {
      positive = positive;
      within = within;
      len_fits = omega (arith, small.left);
      line_fits = rw same
          (omega (arith, small.line));
      col_fits = rw same (omega (arith, small.col));
      left = small.left;
    }

pub reported_memory : {A : Type 0} (file : ℕ) (bytes : List ℕ) (r : Result A LexError) → IsErrAnd r (λ e. e ≡ Memory) →
    IfErr r (λ answer. Reports file bytes answer)
reported_memory file bytes (Ok a) h = tt
reported_memory file bytes (Err e) h = subst (Reports file bytes) (sym h) tt

-- behind a space
pub reached_space : (file : ℕ) (bytes rest : List ℕ) (pos : Position) (tokens : List Token) → 0 < length rest →
    slice_index rest 0 ≡ 32 → Reached file bytes rest pos tokens →
    Reached file bytes (drop 1 rest) (position_at pos.file pos.line (pos.col + 1)) tokens
unfolding position_behind_byte is_blank
reached_space file bytes [] pos tokens l e r = absurd (omega arith)
reached_space file bytes (b ∷ s) pos tokens l e r =
    subst (λ p. Reached file bytes s p tokens) (rw e refl) (reached_blank file bytes (b ∷ s) pos tokens l (rw e refl) r)
