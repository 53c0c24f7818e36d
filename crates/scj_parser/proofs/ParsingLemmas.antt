-- From the tokens of a file to its tree or its refusal.
use Rattle.std.proofs.Common.{◌≡◌, ℕ, ◌+◌, ◌<◌, ◌≤◌, ◌^◌, List, [], ◌∷◌, ◌++◌, length, Some, None, Result, Err, refl, sym, ap, ◌∙◌, subst, arith, append_assoc, length-append}
use Rattle.parser_machine.specs.Machine.{answer, finished, parsed, run, start, step}
use Rattle.parser_machine.specs.States.{State}
use Rattle.machine_laws.proofs.ClassesRun.{file_run}
use Rattle.machine_laws.proofs.ClosingPlaces.{refused_at, run_begins}
use Rattle.machine_laws.proofs.Soundness.{answer_is_tree}
use Rattle.machine_laws.proofs.BehindEnds.{nothing_behind}
use Rattle.scj_parser.proofs.WholeWays.{answer_behind, way_run, way_stops}
use Rattle.parser_steps.specs.Outcomes.{AllFit, Fits, to, up_to, way}
use Rattle.scj_base.specs.Lex.{Lexes, ends, skips, takes, token_at}
use Rattle.scj_base.specs.Lexeme.{Lexeme as Shape, Piece, lexeme, name, number, sign, text, word}
use Rattle.scj_base.specs.declared.lexemes.Token.{Token}
use Rattle.scj_base.specs.declared.lexemes.TokenKind.{TokenKind}
use Rattle.scj_base.specs.declared.positions.Position.{Position}
use Rattle.scj_parser.specs.Parsing.{EndsThere}
use Rattle.scj_base.specs.declared.findings.Found.{Found}
use Rattle.scj_base.specs.declared.findings.Rule.TheVariants.{P1}
use Rattle.scj_parser.specs.declared.parse_answers.ParseError.{ParseError}
use Rattle.scj_parser.specs.declared.parse_answers.ParseError.TheVariants.{Bad}
use Rattle.machine_laws.proofs.GrowthOfFiles.{forest_kept}
use Rattle.scj_tree.specs.Files.{BreaksGrammar, FileRead, not_in_the_grammar}
use Rattle.scj_tree.specs.Forest.{IsForest, forest_of}
use Rattle.scj_tree.specs.Grammar.{RefusedAt, Tree}
use Rattle.scj_tree.specs.Lexemes.{Lexeme, lexeme_of, lexemes_of}
use Rattle.scj_tree.specs.declared.nodes.Node.{Node}

-- ---- tokens

room : (before w rest : List ℕ) → length before + length w ≤ length (before ++ (w ++ rest))
room before w rest = omega (arith, length-append before (w ++ rest), length-append w rest)

shape_fits : (file : ℕ) (before w rest : List ℕ) (kind : TokenKind) → Shape w rest kind →
    Fits (before ++ (w ++ rest)) (token_at file before kind (length w))
unfolding Fits
shape_fits file before w rest kind (name w1 rest1 h short r e) = (room before w rest, short)
shape_fits file before w rest kind (word w1 rest1 n h e) = tt
shape_fits file before w rest kind (number w1 rest1 h l e) = tt
shape_fits file before w rest kind (text inside rest1 h) =
    (room before w rest, omega (arith, length-append inside (34 ∷ [])))
shape_fits file before w rest kind (sign w1 rest1 n h l o) = tt

piece_fits : (file : ℕ) (before w rest : List ℕ) (kind : TokenKind) → Piece w rest (Some kind) →
    Fits (before ++ (w ++ rest)) (token_at file before kind (length w))
piece_fits file before w rest kind (lexeme w1 rest1 kind1 d) = shape_fits file before w rest kind d

pub lexed_fit : (file : ℕ) (before rest : List ℕ) (tokens : List Token) → Lexes file before rest tokens →
    AllFit (before ++ rest) tokens
unfolding AllFit Fits
lexed_fit file before rest tokens (ends file1 before1) = (tt, tt)
lexed_fit file before rest tokens (skips file1 before1 w rest1 tokens1 d l) =
    let P : List ℕ → Type 0 = λ bytes. AllFit bytes tokens in
    subst P (append_assoc before w rest1) (lexed_fit file (before ++ w) rest1 tokens l)
lexed_fit file before rest tokens (takes file1 before1 w rest1 kind tokens1 d l) =
    let P : List ℕ → Type 0 = λ bytes. AllFit bytes tokens1 in (
      piece_fits file before w rest1 kind d,
      subst P (append_assoc before w rest1) (lexed_fit file (before ++ w) rest1 tokens1 l),
    )

pub lexed_ends : (bytes : List ℕ) (file : ℕ) (before rest : List ℕ) (tokens : List Token) →
    Lexes file before rest tokens → EndsThere (lexemes_of bytes tokens)
unfolding lexemes_of lexeme_of
lexed_ends bytes file before rest tokens (ends file1 before1) = record { front = []; position = _; is = refl }
lexed_ends bytes file before rest tokens (skips file1 before1 w rest1 tokens1 d l) =
    lexed_ends bytes file (before ++ w) rest1 tokens l
lexed_ends bytes file before rest tokens (takes file1 before1 w rest1 kind tokens1 d l) =
    let later = lexed_ends bytes file (before ++ w) rest1 tokens1 l in
    record {
      front = lexeme_of bytes (token_at file before kind (length w))
          ∷ later.front;
      position = later.position;
      is =
          ap (λ i. lexeme_of bytes (token_at file before kind (length w)) ∷ i) later.is;
    }

-- ---- refusals and trees

some_none : {A : Type 0} {x : A} → None ≡ Some x → Prim.⊥
some_none e = cc

pub refused_stop : (N : List Node) (i : List Lexeme) (p : Position) → way (start N) i ≡ up_to p →
    BreaksGrammar N i (record { pos = p; rule = P1 })
refused_stop N i p e =
    let stop = way_stops (start N) i p e in
    let P : List Lexeme → Type 0 = λ l. RefusedAt N l p in
    let Q : Position → Type 0 = λ q. RefusedAt N (stop.before ++ stop.refused ∷ stop.behind) q in
    not_in_the_grammar refl
    (subst P (sym stop.whole)
    (subst Q stop.place (refused_at N stop.before stop.behind stop.refused stop.state stop.reached stop.refuses)))

-- behind the end of a file the machine is done
rest_is_none : (st : State) (rest : List Lexeme) {N : List Node} {ids : List ℕ} → ((r : Lexeme) → step st r ≡ None) →
    answer st rest ≡ Some (parsed N ids) → finished st ≡ Some (parsed N ids)
unfolding answer
rest_is_none st [] f e = e
rest_is_none st (r ∷ rest) f e = cc (f r)

pub never_unfinished : (N : List Node) (i : List Lexeme) → EndsThere i →
    ((st : State) × (way (start N) i ≡ to st) × (finished st ≡ None)) → Prim.⊥
never_unfinished N i there h =
    let reached : run (start N) i ≡ Some h.0 = (way_run (start N) h.0 i h.1).0 in
    let begins = run_begins N i h.0 reached in
    let given = sym (answer_behind (start N) h.0 i begins.rest reached) ∙ file_run begins.tree in
    let behind : (r : Lexeme) → step h.0 r ≡ None =
    λ r. nothing_behind (start N) h.0 there.front there.position r (rw there.is at reached) in
    some_none (sym h.2 ∙ rest_is_none h.0 begins.rest behind given)

-- a whole file is a tree
pub whole_tree : (N N1 : List Node) (i : List Lexeme) (ids : List ℕ) →
    ((st : State) × (way (start N) i ≡ to st) × (finished st ≡ Some (parsed N1 ids))) → Tree N i N1 ids
whole_tree N N1 i ids h = answer_is_tree N i ((way_run (start N) h.0 i h.1).1 ∙ h.2)

-- ---- programs

pub forest_after : (N N1 : List Node) (i : List Lexeme) (files more : List (List ℕ)) →
    FileRead (forest_of N files) i (forest_of N1 more) → IsForest (forest_of N files) → length files < 16 →
    length N1 < 2 ^ 32 → IsForest (forest_of N1 more)
forest_after N N1 i files more a h room fits =
    let P : List (List ℕ) → Type 0 = λ fs. IsForest (forest_of N1 fs) in
    subst P (sym a.files) (forest_kept files a.tree h room fits)

-- two answers that are the same tell the same
pub same_found : {A : Type 0} (f g : Found) → ◌≡◌ {A = Result A ParseError} (Err (Bad f)) (Err (Bad g)) → f ≡ g
same_found f g e = cc
