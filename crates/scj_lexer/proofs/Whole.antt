-- Each text has tokens or a break, not both, and one of them.
use Rattle.std.proofs.Common.{◌≡◌, ℕ, zero, suc, ◌+◌, ◌<◌, ◌≤◌, List, [], ◌∷◌, ◌++◌, length, take, drop, Some, None, Option, refl, ap, sym, subst, ◌∙◌, arith, ◌⊎◌, inl, inr, length-append}
use Rattle.std.proofs.lemmas.List.{take_at, drop_at}
use Rattle.scj_base.specs.Lexeme.{Lexeme, Piece, BreakAt, IsWordLike}
use Rattle.scj_base.specs.Lexeme.Lexeme.{name, word, number, text, sign}
use Rattle.scj_base.specs.Lexeme.Piece.{blank, line_comment, block_comment, lexeme}
use Rattle.scj_base.specs.Lexeme.BreakAt.{bad_byte, bad_number, open_comment, open_text, long_name}
use Rattle.scj_base.specs.Lex.{Lexes, Lex, LexBreak, token_at}
use Rattle.scj_base.specs.Lex.Lexes.{ends, skips, takes}
use Rattle.scj_base.specs.Lex.LexBreak.{here, later}
use Rattle.scj_base.specs.declared.lexemes.Token.{Token}
use Rattle.scj_base.specs.declared.lexemes.TokenKind.{TokenKind}
use Rattle.scj_base.specs.declared.lexemes.TokenKind.TheVariants.{End}
use Rattle.scj_base.specs.declared.findings.Rule.{Rule}
use Rattle.scj_lexer.specs.declared.pieces.Front.TheVariants.{Piece as Reported, Bad}
use Rattle.scj_lexer.specs.First.{first_of}
use Rattle.scj_lexer.proofs.TableChecks.{sign_not_empty, word_facts}
use Rattle.scj_lexer.proofs.Exact.{first_exact}
use Rattle.scj_lexer.proofs.Decided.{decide, break_exact}

like_not_empty : (rest : List ℕ) (w : List ℕ) → IsWordLike w → w ++ rest ≡ [] → ⊥
like_not_empty rest [] h e = h
like_not_empty rest (b ∷ s) h e = cc

lexeme_not_empty : (w rest : List ℕ) (kind : TokenKind) → Lexeme w rest kind → w ≡ [] → ⊥
lexeme_not_empty _ _ _ (name [] rest h l r e) = λ q. h
lexeme_not_empty _ _ _ (name (b ∷ s) rest h l r e) = λ q. cc
lexeme_not_empty _ _ _ (word [] rest n h e) = λ q. (word_facts n [] h).like
lexeme_not_empty _ _ _ (word (b ∷ s) rest n h e) = λ q. cc
lexeme_not_empty _ _ _ (number [] rest h l e) = λ q. h
lexeme_not_empty _ _ _ (number (b ∷ s) rest h l e) = λ q. cc
lexeme_not_empty _ _ _ (text inside rest a) = λ q. cc
lexeme_not_empty _ _ _ (sign [] rest n e h o) = λ q. sign_not_empty n e
lexeme_not_empty _ _ _ (sign (b ∷ s) rest n e h o) = λ q. cc

pub piece_not_empty : (w rest : List ℕ) (kind : Option TokenKind) → Piece w rest kind → w ≡ [] → ⊥
piece_not_empty _ _ _ (blank b rest e) = λ q. cc
piece_not_empty _ _ _ (line_comment inside rest a e) = λ q. cc
piece_not_empty _ _ _ (block_comment inside rest e) = λ q. cc
piece_not_empty _ _ _ (lexeme w rest kind h) = lexeme_not_empty w rest kind h

front_empty : (w rest : List ℕ) → w ++ rest ≡ [] → w ≡ []
front_empty [] rest e = refl
front_empty (b ∷ s) rest e = absurd (cc)

pub piece_len : (w rest : List ℕ) (kind : Option TokenKind) → Piece w rest kind → 0 < length w
piece_len [] rest kind p = absurd (piece_not_empty [] rest kind p refl)
piece_len (b ∷ s) rest kind p = omega arith

pub record Same (w rest : List ℕ) (kind : Option TokenKind) (w' rest' : List ℕ) (kind' : Option TokenKind) : Type 0
  where
    pub pieces : w ≡ w'
    pub rests : rest ≡ rest'
    pub kinds : kind ≡ kind'

pub piece_unique : (w rest : List ℕ) (kind : Option TokenKind) (w' rest' : List ℕ) (kind' : Option TokenKind) →
    Piece w rest kind → Piece w' rest' kind' → w ++ rest ≡ w' ++ rest' → Same w rest kind w' rest' kind'
piece_unique w rest kind w' rest' kind' p p' e =
    let reported : Reported kind (length w) ≡ Reported kind' (length w') = sym (first_exact w rest kind p) ∙ ap first_of e
    ∙ first_exact w' rest' kind' p' in
    let as_long : length w ≡ length w' = cc in
    let pieces : w ≡ w' = sym (take_at w rest (length w) refl) ∙ ap (take (length w)) e
    ∙ take_at w' rest' (length w) (sym as_long) in
    record {
      pieces = pieces;
      rests = sym (drop_at w rest (length w) refl) ∙ ap (drop (length w)) e
          ∙ drop_at w' rest' (length w) (sym as_long);
      kinds = cc;
    }

-- no piece begins where a rule is broken
no_bytes_break : (bytes : List ℕ) (rule : Rule) → BreakAt bytes rule → bytes ≡ [] → ⊥
no_bytes_break _ _ (bad_byte b s e1 e2 e3 e4 e5 n) = λ q. cc
no_bytes_break _ _ (bad_number b s e n) = λ q. cc
no_bytes_break _ _ (open_comment s e) = λ q. cc
no_bytes_break _ _ (open_text s n) = λ q. cc
no_bytes_break _ _ (long_name w rest h l e) = like_not_empty rest w h

pub piece_or_break : (w rest bytes : List ℕ) (kind : Option TokenKind) (rule : Rule) → Piece w rest kind →
    BreakAt bytes rule → bytes ≡ w ++ rest → ⊥
piece_or_break w rest bytes kind rule p b e =
    let reported : Reported kind (length w) ≡ Bad rule = sym (first_exact w rest kind p) ∙ ap first_of (sym e)
    ∙ break_exact bytes rule b in
    cc

-- the tokens behind a piece, with that of the piece
abbrev pub joined : ℕ → List ℕ → List ℕ → Option TokenKind → List Token → List Token
joined file before w None more = more
joined file before w (Some kind) more = token_at file before kind (length w) ∷ more

-- how the tokens of bytes begin
pub record IsEnd (file : ℕ) (before bytes : List ℕ) (tokens : List Token) : Type 0 where
  pub no_bytes : bytes ≡ []
  pub one : tokens ≡ token_at file before End 0 ∷ []

pub record IsNext (file : ℕ) (before bytes : List ℕ) (tokens : List Token) : Type 0 where
  pub piece : List ℕ
  pub rest : List ℕ
  pub kind : Option TokenKind
  pub more : List Token
  pub whole : bytes ≡ piece ++ rest
  pub is : Piece piece rest kind
  pub goes_on : Lexes file (before ++ piece) rest more
  pub made : tokens ≡ joined file before piece kind more

opened : (file : ℕ) (before bytes : List ℕ) (tokens : List Token) → Lexes file before bytes tokens →
    IsEnd file before bytes tokens ⊎ IsNext file before bytes tokens
opened _ _ _ _ (ends file before) = inl (record { no_bytes = refl; one = refl })
opened _ _ _ _ (skips file before w rest tokens p l) =
    inr (record { piece = w; rest = rest; kind = None; more = tokens; whole = refl; is = p; goes_on = l; made = refl })
opened _ _ _ _ (takes file before w rest kind tokens p l) =
    inr
    (record { piece = w; rest = rest; kind = Some kind; more = tokens; whole = refl; is = p; goes_on = l; made = refl })

pub step : (file : ℕ) (before w rest : List ℕ) (kind : Option TokenKind) (more : List Token) → Piece w rest kind →
    Lexes file (before ++ w) rest more → Lexes file before (w ++ rest) (joined file before w kind more)
step file before w rest None more p l = skips file before w rest more p l
step file before w rest (Some kind) more p l = takes file before w rest kind more p l

at_same : (file : ℕ) (before w rest w' rest' : List ℕ) (more : List Token) → w ≡ w' → rest ≡ rest' →
    Lexes file (before ++ w') rest' more → Lexes file (before ++ w) rest more
at_same file before w rest w' rest' more e f l =
    subst (λ u. Lexes file (before ++ u) rest more) (sym e) (subst (λ u. Lexes file (before ++ w') u more) (sym f) l)

unique_next : (file : ℕ) (before w rest : List ℕ) (kind : Option TokenKind) (tokens tokens' : List Token) →
    Piece w rest kind → ((more : List Token) → Lexes file (before ++ w) rest more → tokens ≡ more) →
    IsEnd file before (w ++ rest) tokens' ⊎ IsNext file before (w ++ rest) tokens' →
    joined file before w kind tokens ≡ tokens'
unique_next file before w rest kind tokens tokens' p h (inl r) =
    absurd (piece_not_empty w rest kind p (front_empty w rest r.no_bytes))
unique_next file before w rest kind tokens tokens' p h (inr r) =
    let s : Same w rest kind r.piece r.rest r.kind = piece_unique w rest kind r.piece r.rest r.kind p r.is r.whole in
    let more : tokens ≡ r.more = h r.more (at_same file before w rest r.piece r.rest r.more s.pieces s.rests r.goes_on)
    in
    rw (r.made, ← s.pieces, ← s.kinds, ← more) refl

unique_end : (file : ℕ) (before : List ℕ) (tokens' : List Token) →
    IsEnd file before [] tokens' ⊎ IsNext file before [] tokens' → token_at file before End 0 ∷ [] ≡ tokens'
unique_end file before tokens' (inl r) = sym r.one
unique_end file before tokens' (inr r) =
    absurd (piece_not_empty r.piece r.rest r.kind r.is (front_empty r.piece r.rest (sym r.whole)))

pub lexes_unique : (file : ℕ) (before bytes : List ℕ) (tokens tokens' : List Token) → Lexes file before bytes tokens →
    Lexes file before bytes tokens' → tokens ≡ tokens'
lexes_unique _ _ _ _ tokens' (ends file before) m = unique_end file before tokens' (opened file before [] tokens' m)
lexes_unique _ _ _ _ tokens' (skips file before w rest tokens p l) m =
    unique_next file before w rest None tokens tokens' p
    (λ more n. lexes_unique file (before ++ w) rest tokens more l n) (opened file before (w ++ rest) tokens' m)
lexes_unique _ _ _ _ tokens' (takes file before w rest kind tokens p l) m =
    unique_next file before w rest (Some kind) tokens tokens' p
    (λ more n. lexes_unique file (before ++ w) rest tokens more l n) (opened file before (w ++ rest) tokens' m)

not_here : (file : ℕ) (before bytes : List ℕ) (tokens : List Token) (rule : Rule) → BreakAt bytes rule →
    IsEnd file before bytes tokens ⊎ IsNext file before bytes tokens → ⊥
not_here file before bytes tokens rule b (inl r) = no_bytes_break bytes rule b r.no_bytes
not_here file before bytes tokens rule b (inr r) = piece_or_break r.piece r.rest bytes r.kind rule r.is b r.whole

not_later : (file : ℕ) (before w rest : List ℕ) (kind : Option TokenKind) (tokens : List Token) → Piece w rest kind →
    ((more : List Token) → Lexes file (before ++ w) rest more → ⊥) →
    IsEnd file before (w ++ rest) tokens ⊎ IsNext file before (w ++ rest) tokens → ⊥
not_later file before w rest kind tokens p h (inl r) = piece_not_empty w rest kind p (front_empty w rest r.no_bytes)
not_later file before w rest kind tokens p h (inr r) =
    let s : Same w rest kind r.piece r.rest r.kind = piece_unique w rest kind r.piece r.rest r.kind p r.is r.whole in
    h r.more (at_same file before w rest r.piece r.rest r.more s.pieces s.rests r.goes_on)

pub not_both : (file : ℕ) (before bytes : List ℕ) (tokens : List Token) (rule : Rule) (offset : ℕ) →
    LexBreak bytes rule offset → Lexes file before bytes tokens → ⊥
not_both file before _ tokens _ _ (here bytes rule b) l =
    not_here file before bytes tokens rule b (opened file before bytes tokens l)
not_both file before _ tokens _ _ (later w rest kind rule offset p b) l =
    not_later file before w rest kind tokens p (λ more m. not_both file (before ++ w) rest more rule offset b m)
    (opened file before (w ++ rest) tokens l)

-- how a break begins
pub record IsHere (bytes : List ℕ) (rule : Rule) (offset : ℕ) : Type 0 where
  pub is : BreakAt bytes rule
  pub first : offset ≡ 0

pub record IsLater (bytes : List ℕ) (rule : Rule) (offset : ℕ) : Type 0 where
  pub piece : List ℕ
  pub rest : List ℕ
  pub kind : Option TokenKind
  pub more : ℕ
  pub whole : bytes ≡ piece ++ rest
  pub is : Piece piece rest kind
  pub goes_on : LexBreak rest rule more
  pub made : offset ≡ length piece + more

opened_break : (bytes : List ℕ) (rule : Rule) (offset : ℕ) → LexBreak bytes rule offset →
    IsHere bytes rule offset ⊎ IsLater bytes rule offset
opened_break _ _ _ (here bytes rule b) = inl (record { is = b; first = refl })
opened_break _ _ _ (later w rest kind rule offset p b) =
    inr (record { piece = w; rest = rest; kind = kind; more = offset; whole = refl; is = p; goes_on = b; made = refl })

same_here : (bytes : List ℕ) (rule rule' : Rule) (offset' : ℕ) → BreakAt bytes rule →
    IsHere bytes rule' offset' ⊎ IsLater bytes rule' offset' → (rule ≡ rule') × (0 ≡ offset')
same_here bytes rule rule' offset' b (inl h) =
    let same : Bad rule ≡ Bad rule' = sym (break_exact bytes rule b) ∙ break_exact bytes rule' h.is in
    (cc, sym h.first)
same_here bytes rule rule' offset' b (inr h) = absurd (piece_or_break h.piece h.rest bytes h.kind rule h.is b h.whole)

same_later : (w rest : List ℕ) (kind : Option TokenKind) (rule rule' : Rule) (offset offset' : ℕ) → Piece w rest kind →
    ((more : ℕ) → LexBreak rest rule' more → (rule ≡ rule') × (offset ≡ more)) →
    IsHere (w ++ rest) rule' offset' ⊎ IsLater (w ++ rest) rule' offset' → (rule ≡ rule') ×
    (length w + offset ≡ offset')
same_later w rest kind rule rule' offset offset' p f (inl h) =
    absurd (piece_or_break w rest (w ++ rest) kind rule' p h.is refl)
same_later w rest kind rule rule' offset offset' p f (inr h) =
    let s : Same w rest kind h.piece h.rest h.kind = piece_unique w rest kind h.piece h.rest h.kind p h.is h.whole in
    let r = f h.more (subst (λ u. LexBreak u rule' h.more) (sym s.rests) h.goes_on) in
    (r.0, rw (h.made, ← s.pieces, r.1) refl)

pub breaks_unique : (bytes : List ℕ) (rule rule' : Rule) (offset offset' : ℕ) → LexBreak bytes rule offset →
    LexBreak bytes rule' offset' → (rule ≡ rule') × (offset ≡ offset')
breaks_unique _ _ rule' _ offset' (here bytes rule b) m =
    same_here bytes rule rule' offset' b (opened_break bytes rule' offset' m)
breaks_unique _ _ rule' _ offset' (later w rest kind rule offset p b) m =
    same_later w rest kind rule rule' offset offset' p (λ more n. breaks_unique rest rule rule' offset more b n)
    (opened_break (w ++ rest) rule' offset' m)

pub data Either (file : ℕ) (before bytes : List ℕ) : Type 0 where
  tokens_are : (tokens : List Token) → Lexes file before bytes tokens → Either file before bytes
  broken_at : (rule : Rule) (offset : ℕ) → LexBreak bytes rule offset → Either file before bytes

either_later : (file : ℕ) (before w rest : List ℕ) (kind : Option TokenKind) → Piece w rest kind →
    Either file (before ++ w) rest → Either file before (w ++ rest)
either_later file before w rest kind p (tokens_are tokens l) =
    tokens_are (joined file before w kind tokens) (step file before w rest kind tokens p l)
either_later file before w rest kind p (broken_at rule offset b) =
    broken_at rule (length w + offset) (later w rest kind rule offset p b)

either : (n file : ℕ) (before bytes : List ℕ) → length bytes ≤ n → Either file before bytes
either n file before [] h = tokens_are (token_at file before End 0 ∷ []) (ends file before)
either zero file before (b ∷ s) h = absurd (omega arith)
either (suc n) file before (b ∷ s) h =
    elim (decide b s) [
      | inl p ↦
          let positive : 0 < length p.piece = piece_len p.piece p.rest p.kind p.is in
          let sum : suc (length s) ≡ length p.piece + length p.rest = ap length p.whole ∙ length-append p.piece p.rest
          in
          subst (Either file before) (sym p.whole)
          (either_later file before p.piece p.rest p.kind p.is
          (either n file (before ++ p.piece) p.rest (omega arith)))
      | inr p ↦ broken_at p.rule 0 (here (b ∷ s) p.rule p.is)
    ]

pub one_of_two : (file : ℕ) (bytes : List ℕ) →
    ((tokens : List Token) × Lex file bytes tokens) ⊎ ((rule : Rule) × ((offset : ℕ) × LexBreak bytes rule offset))
one_of_two file bytes =
    elim (either (length bytes) file [] bytes (omega arith)) [
      | tokens_are tokens l ↦ inl (tokens, l)
      | broken_at rule offset b ↦ inr (rule, (offset, b))
    ]
