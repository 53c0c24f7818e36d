-- The nodes that are read from texts have fitting words and places.
use Rattle.std.proofs.Common.{◌≡◌, ℕ, ◌+◌, ◌≤◌, ◌<◌, ◌==◌, Bool, true, false, List, [], ◌∷◌, ◌++◌, length, cond, refl, sym, ◌∙◌, subst, arith}
use Rattle.std.specs.Prelude.{fold, slice_get, Some}
use Rattle.std.proofs.lemmas.List.{append_assoc}
use Rattle.scj_base.specs.declared.positions.Position.{Position}
use Rattle.scj_base.specs.declared.lexemes.Token.{Token}
use Rattle.scj_base.specs.declared.lexemes.TokenKind.{TokenKind}
use Rattle.scj_base.specs.declared.lexemes.TokenKind.TheVariants.{Name, Word, Number, Text, Sign, End}
use Rattle.scj_base.specs.Lex.{Lexes, ends, position_at, position_behind, position_behind_byte, skips, takes}
use Rattle.scj_tree.specs.declared.nodes.Node.{Node}
use Rattle.scj_tree.specs.declared.nodes.Node.TheVariants as node
use Rattle.scj_tree.specs.Forest.{Forest, forest_of}
use Rattle.scj_tree.specs.Lexemes.{Lexeme, lexeme_of, lexemes_of}
use Rattle.scj_rules.specs.Syntax.{FilesRead, HaveLexemes, Reads, next_file, next_text, no_file, no_text}
use Rattle.scj_show.proofs.Sources.{AreOfSource, IsOfSource, lexed_of_source, one_more}
use Rattle.value_operators.specs.Literals.{HasInt}
use Rattle.source_nodes.specs.Nodes.{AreShort, HasWords, IsPosition, NodesFit}
use Rattle.source_nodes.proofs.Fits.{Fine, LexemeFits, LexemesFit, NodeFits}
use Rattle.source_nodes.proofs.FilesFine.{tree_fine}

-- ---- lines

record LinesFrom (p q : Position) (count : ℕ) : Type 0 where
  file : q.file ≡ p.file
  first : p.line ≤ q.line
  last : q.line ≤ p.line + count

one_line : (p : Position) (b : ℕ) → LinesFrom p (position_behind_byte p b) 1
unfolding position_behind_byte
one_line p b = go (b == 10)
  where
    go : (t : Bool) → LinesFrom p (cond t (position_at p.file (p.line + 1) 1) (position_at p.file p.line (p.col + 1))) 1
    go true = record { file = refl; first = omega arith; last = omega arith }
    go false = record { file = refl; first = omega arith; last = omega arith }

lines_behind : (p : Position) (bytes : List ℕ) → LinesFrom p (fold position_behind_byte p bytes) (length bytes)
lines_behind p [] = record { file = refl; first = omega arith; last = omega arith }
lines_behind p (b ∷ bytes) =
    let one : LinesFrom p (position_behind_byte p b) 1 = one_line p b in
    let more : LinesFrom (position_behind_byte p b) (fold position_behind_byte (position_behind_byte p b) bytes) (length bytes) =
    lines_behind (position_behind_byte p b) bytes in
    record {
      file = more.file ∙ one.file;
      first = let x = one.first in let y = more.first in omega (arith, x, y);
      last = let x = one.last in let y = more.last in omega (arith, x, y);
    }

place_fits : (files longest file : ℕ) (before : List ℕ) → file < files → length before ≤ longest →
    IsPosition files longest (position_behind file before)
unfolding position_behind
place_fits files longest file before l m =
    let k : LinesFrom (position_at file 1 1) (fold position_behind_byte (position_at file 1 1) before) (length before) =
    lines_behind (position_at file 1 1) before in
    record {
      file = subst (λ n. n < files) (sym k.file) l;
      first = k.first;
      last = let x = k.last in omega (arith, x, m);
    }

-- ---- tokens

abbrev PlacesFit : (Position → Type 0) → List Token → Type 0
PlacesFit Q [] = Unit {0}
PlacesFit Q (t ∷ ts) = Q t.pos × PlacesFit Q ts

length_left : (xs ys : List ℕ) → length xs ≤ length (xs ++ ys)
length_left [] ys = omega arith
length_left (x ∷ xs) ys = let l : length xs ≤ length (xs ++ ys) = length_left xs ys in omega (arith, l)

places_fit : (files longest file : ℕ) (before rest : List ℕ) (tokens : List Token) → file < files →
    Lexes file before rest tokens → length (before ++ rest) ≤ longest → PlacesFit (IsPosition files longest) tokens
places_fit files longest _ _ _ _ l (ends file before) m =
    let a : length before ≤ length (before ++ []) = length_left before [] in
    (place_fits files longest file before l (omega (arith, a, m)), tt)
places_fit files longest _ _ _ _ l (skips file before w rest tokens p d) m =
    places_fit files longest file (before ++ w) rest tokens l d
    (subst (λ xs. length xs ≤ longest) (sym (append_assoc before w rest)) m)
places_fit files longest _ _ _ _ l (takes file before w rest kind tokens p d) m =
    let a : length before ≤ length (before ++ (w ++ rest)) = length_left before (w ++ rest) in (
      place_fits files longest file before l (omega (arith, a, m)),
      places_fit files longest file (before ++ w) rest tokens l d
          (subst (λ xs. length xs ≤ longest) (sym (append_assoc before w rest)) m),
    )

one_fits : (Q : Position → Type 0) (bytes : List ℕ) (t : Token) (kind : TokenKind) → Q t.pos →
    IsOfSource (lexeme_of bytes (record t { kind = kind })) → LexemeFits Q (lexeme_of bytes (record t { kind = kind }))
unfolding IsOfSource lexeme_of
one_fits Q bytes t Name h w = (h, w)
one_fits Q bytes t (Word n) h w = h
one_fits Q bytes t (Number n) h w = (h, w)
one_fits Q bytes t Text h w = (h, w)
one_fits Q bytes t (Sign n) h w = h
one_fits Q bytes t End h w = h

first_of : {x : Lexeme} {xs : List Lexeme} → AreOfSource (x ∷ xs) → IsOfSource x
first_of (one_more h a) = h

others_of : {x : Lexeme} {xs : List Lexeme} → AreOfSource (x ∷ xs) → AreOfSource xs
others_of (one_more h a) = a

lexemes_fit : (Q : Position → Type 0) (bytes : List ℕ) (tokens : List Token) → PlacesFit Q tokens →
    AreOfSource (lexemes_of bytes tokens) → LexemesFit Q (lexemes_of bytes tokens)
unfolding lexemes_of
lexemes_fit Q bytes [] h a = tt
lexemes_fit Q bytes (t ∷ ts) h a =
    (one_fits Q bytes t t.kind h.0 (first_of a), lexemes_fit Q bytes ts h.1 (others_of a))

-- ---- files

abbrev AllFit : (Position → Type 0) → List (List Lexeme) → Type 0
AllFit Q [] = Unit {0}
AllFit Q (xs ∷ xss) = LexemesFit Q xs × AllFit Q xss

texts_fit : (files longest : ℕ) {file : ℕ} {texts : List (List ℕ)} {lexemes : List (List Lexeme)} →
    HaveLexemes file texts lexemes → file + length texts ≤ files → AreShort longest texts →
    AllFit (IsPosition files longest) lexemes
texts_fit files longest no_text l s = tt
texts_fit files longest {file} (next_text {text = text} {texts = texts} {tokens = tokens} d more) l s = (
  lexemes_fit (IsPosition files longest) text tokens
      (places_fit files longest file [] text tokens (omega (arith, l)) d s.0) (lexed_of_source d),
  texts_fit files longest more (omega (arith, l)) s.1,
)

record AllNodes (Q : Position → Type 0) (nodes : List Node) : Type 0 where
  are : (id : ℕ) (node : Node) → slice_get nodes id ≡ Some node → NodeFits Q node

files_fit : (Q : Position → Type 0) {before after : Forest} {lexemes : List (List Lexeme)} → FilesRead before lexemes after →
    AllFit Q lexemes → AllNodes Q before.nodes → AllNodes Q after.nodes
files_fit Q no_file h f = f
files_fit Q (next_file d more) h f =
    let one : Fine Q _ [] = tree_fine d.tree (record { nodes = f.are; lexemes = h.0 }) in
    files_fit Q more h.1 (record { are = one.nodes })

nothing_yet : (Q : Position → Type 0) → AllNodes Q (forest_of [] []).nodes
nothing_yet Q = record { are = λ id node e. absurd (cc (e)) }

pub nodes_fit : (texts : List (List ℕ)) (forest : Forest) (longest : ℕ) → Reads texts forest → AreShort longest texts →
    NodesFit forest.nodes (length texts) longest
nodes_fit texts forest longest reads short =
    let all : AllNodes (IsPosition (length texts) longest) forest.nodes =
    files_fit (IsPosition (length texts) longest) reads.files_read
    (texts_fit (length texts) longest reads.have_lexemes (omega arith) short)
    (nothing_yet (IsPosition (length texts) longest)) in
    record {
      words = λ id node e. (all.are id node e).words;
      places = λ id node e. (all.are id node e).place;
    }

-- ---- the numbers of literals, whatever the texts are

longer : (less more : ℕ) (texts : List (List ℕ)) → less ≤ more → AreShort less texts → AreShort more texts
longer less more [] l h = tt
longer less more (text ∷ texts) l h = let s = h.0 in (omega (arith, s, l), longer less more texts l h.1)

some_length : (texts : List (List ℕ)) → (longest : ℕ) × AreShort longest texts
some_length [] = (0, tt)
some_length (text ∷ texts) =
    let rest = some_length texts in
    (length text + rest.0, (omega arith, longer rest.0 (length text + rest.0) texts (omega arith) rest.1))

an_int : (node : Node) → HasWords node → HasInt node
unfolding HasWords HasInt
an_int (node.Number position value true) h = h
an_int (node.Number position value false) h = h
an_int _ h = tt

pub numbers_are_ints : (texts : List (List ℕ)) (forest : Forest) → Reads texts forest → (id : ℕ) (node : Node) →
    slice_get forest.nodes id ≡ Some node → HasInt node
numbers_are_ints texts forest reads id node e =
    let some = some_length texts in
    an_int node ((nodes_fit texts forest some.0 reads some.1).words id node e)
