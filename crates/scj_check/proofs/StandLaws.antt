-- From one text to the next: what is left to read decides what the whole is.
use Rattle.std.proofs.Common.{◌≡◌, ◌≤◌, ℕ, suc, ◌+◌, length, List, [], ◌∷◌, Some, ap, sym, subst, ◌∙◌, drop, drop-cons, slice_get, arith}
use Rattle.std.proofs.lemmas.List.{drop_all}
use Rattle.std.proofs.lemmas.Option.{slice_get_within, get_or_from_slice_get}
use Rattle.scj_base.specs.declared.findings.Found.{Found}
use Rattle.scj_base.specs.declared.lexemes.Token.{Token}
use Rattle.scj_base.specs.Lex.{Lex}
use Rattle.scj_tree.specs.Forest.{Forest, forest_of}
use Rattle.scj_tree.specs.Lexemes.{lexemes_of}
use Rattle.scj_rules.specs.Syntax.{BreaksLexemes, BreaksFrom, ReadsFrom, BreaksSyntax}
use Rattle.scj_tree.specs.Files.{FileRead}
use Rattle.scj_rules.specs.Syntax.HaveLexemes.{no_text, next_text}
use Rattle.scj_rules.specs.Syntax.FirstBreakOfLexemes.{in_this, in_another}
use Rattle.scj_rules.specs.Syntax.FilesRead.{no_file, next_file}
use Rattle.scj_rules.specs.Syntax.FirstBreakOfGrammar.{in_this_file, in_another_file}
use Rattle.scj_rules.specs.Syntax.BreaksFrom.{in_lexemes, in_grammar}
use Rattle.scj_check.specs.ParseOutcomes.{IsParseOutcome, GoesOn, Goes, StandsRead, Stands}
use Rattle.scj_check.specs.declared.parse_outcomes.ParseOutcome.{ParseOutcome}
use Rattle.scj_check.specs.declared.parse_outcomes.ParseOutcome.TheVariants.{Read, Broken}

-- what is left from a place on begins with what stands there
rest_at : {X : Type 0} (xs : List X) (k : ℕ) (x : X) → slice_get xs k ≡ Some x → drop k xs ≡ x ∷ drop (k + 1) xs
rest_at xs k x e =
    let one_more : suc k ≡ k + 1 = omega arith in
    drop-cons xs k x (slice_get_within xs k x e)
    ∙ (ap (λ y. y ∷ drop (suc k) xs) (get_or_from_slice_get xs k x x e) ∙ ap (λ n. x ∷ drop n xs) one_more)

pub at_the_begin : (texts : List (List ℕ)) (program : Forest) → program.nodes ≡ [] → program.files ≡ [] →
    Stands texts 0 texts (Read program)
at_the_begin texts program e f =
    let empty : program ≡ forest_of [] [] = ap (λ n. forest_of n program.files) e ∙ ap (λ s. forest_of [] s) f in
    let known : StandsRead texts 0 texts (forest_of [] []) = record { reads = λ after r. r; breaks = λ found b. b } in
    subst (λ (p : Forest). StandsRead texts 0 texts p) (sym empty) known

-- ---- one text more

breaks_later : (file : ℕ) (before between : Forest) (text : List ℕ) (rest : List (List ℕ)) (tokens : List Token)
    (found : Found) → Lex file text tokens → FileRead before (lexemes_of text tokens) between →
    BreaksFrom (file + 1) between rest found → BreaksFrom file before (text ∷ rest) found
breaks_later file before between text rest tokens found lexed read (in_lexemes b) = in_lexemes (in_another lexed b)
breaks_later file before between text rest tokens found lexed read (in_grammar have b) =
    in_grammar (next_text lexed have) (in_another_file read b)

reads_later : (file : ℕ) (before between after : Forest) (text : List ℕ) (rest : List (List ℕ)) (tokens : List Token) →
    Lex file text tokens → FileRead before (lexemes_of text tokens) between → ReadsFrom (file + 1) between rest after →
    ReadsFrom file before (text ∷ rest) after
reads_later file before between after text rest tokens lexed read r = record {
  lexemes = lexemes_of text tokens ∷ r.lexemes;
  have_lexemes = next_text lexed r.have_lexemes;
  files_read = next_file read r.files_read;
}

goes_on : (whole : List (List ℕ)) (file : ℕ) (text : List ℕ) (rest : List (List ℕ)) (tokens : List Token)
    (before after : ParseOutcome) → Lex file text tokens → Goes (lexemes_of text tokens) before after →
    Stands whole file (text ∷ rest) before → Stands whole (file + 1) rest after
goes_on whole file text rest tokens (Read before) (Read after) lexed goes stands = record {
  reads = λ last r. stands.reads last (reads_later file before after last text rest tokens lexed goes r);
  breaks = λ found b. stands.breaks found (breaks_later file before after text rest tokens found lexed goes b);
}
goes_on whole file text rest tokens (Read before) (Broken found) lexed goes stands = record {
  lexemes = λ other b. stands.breaks other (in_lexemes (in_another lexed b));
  grammar = λ rows have. stands.breaks found (in_grammar (next_text lexed have) (in_this_file goes));
}
goes_on whole file text rest tokens (Broken found) (Read after) lexed goes stands = absurd goes
goes_on whole file text rest tokens (Broken found) (Broken again) lexed goes stands = record {
  lexemes = λ other b. stands.lexemes other (in_another lexed b);
  grammar = λ rows have. subst (λ (f : Found). BreaksSyntax whole f) (sym goes)
      (stands.grammar (lexemes_of text tokens ∷ rows) (next_text lexed have));
}

-- the same, where the text is the next of the whole
next_left : (whole : List (List ℕ)) (file : ℕ) (text : List ℕ) (before : ParseOutcome) → slice_get whole file ≡ Some text →
    Stands whole file (drop file whole) before → Stands whole file (text ∷ drop (file + 1) whole) before
next_left whole file text before there stands =
    subst (λ (left : List (List ℕ)). Stands whole file left before) (rest_at whole file text there) stands

pub with_text : (whole : List (List ℕ)) (file : ℕ) (text : List ℕ) (before after : ParseOutcome) →
    slice_get whole file ≡ Some text → Stands whole file (drop file whole) before → GoesOn file text before after →
    Stands whole (file + 1) (drop (file + 1) whole) after
with_text whole file text before after there stands more =
    goes_on whole file text (drop (file + 1) whole) more.tokens before after more.lexed more.goes
    (next_left whole file text before there stands)

pub at_a_break : (whole : List (List ℕ)) (file : ℕ) (text : List ℕ) (before : ParseOutcome) (found : Found) →
    slice_get whole file ≡ Some text → Stands whole file (drop file whole) before → BreaksLexemes file text found →
    BreaksSyntax whole found
at_a_break whole file text before found there stands broken =
    go before (next_left whole file text before there stands)
  where
    go : (before : ParseOutcome) → Stands whole file (text ∷ drop (file + 1) whole) before → BreaksSyntax whole found
    go (Read program) left = left.breaks found (in_lexemes (in_this broken))
    go (Broken other) left = left.lexemes found (in_this broken)

pub at_the_end : (whole : List (List ℕ)) (file : ℕ) (outcome : ParseOutcome) → length whole ≤ file →
    Stands whole file (drop file whole) outcome → IsParseOutcome whole outcome
at_the_end whole file outcome all stands =
    go outcome (subst (λ (left : List (List ℕ)). Stands whole file left outcome) (drop_all file whole all) stands)
  where
    go : (outcome : ParseOutcome) → Stands whole file [] outcome → IsParseOutcome whole outcome
    go (Read program) left =
        left.reads program (record { lexemes = []; have_lexemes = no_text; files_read = no_file })
    go (Broken found) left = left.grammar [] no_text
