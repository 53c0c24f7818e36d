-- What is broken in the texts of a call's files, and which program they are where nothing is. The lexemes of all
-- files come first, L1 to L4, and then the grammar, P1 and P2; of each the first break of the earliest file that has
-- one is reported.
use Rattle.std.specs.Prelude.{◌≡◌, ℕ, ◌+◌, List, [], ◌∷◌}
use Rattle.scj_base.specs.declared.findings.Found.{Found}
use Rattle.scj_base.specs.declared.lexemes.Token.{Token}
use Rattle.scj_base.specs.Lex.{Lex, LexBreak, position_of}
use Rattle.scj_tree.specs.Forest.{Forest, forest_of}
use Rattle.scj_tree.specs.Lexemes.{Lexeme, lexemes_of}
use Rattle.scj_tree.specs.Files.{FileRead, BreaksGrammar}

-- ---- one file: its lexemes, and of its grammar FileRead and BreaksGrammar

-- L1 to L4: the first place at which no lexeme can be read
pub record BreaksLexemes (file : ℕ) (text : List ℕ) (found : Found) : Type 0 where
  pub offset : ℕ
  pub broken : LexBreak text found.rule offset
  pub is_position : found.pos ≡ position_of file text offset

-- ---- files one behind the other; `file` is the number of the first

pub data HaveLexemes : ℕ → List (List ℕ) → List (List Lexeme) → Type 0 where
  no_text : {file : ℕ} → HaveLexemes file [] []
  next_text : {file : ℕ} {text : List ℕ} {texts : List (List ℕ)} {tokens : List Token} {more : List (List Lexeme)} →
      Lex file text tokens → HaveLexemes (file + 1) texts more →
      HaveLexemes file (text ∷ texts) (lexemes_of text tokens ∷ more)

-- the break of the lexemes in the first of the files that has one
pub data FirstBreakOfLexemes : ℕ → List (List ℕ) → Found → Type 0 where
  in_this : {file : ℕ} {text : List ℕ} {texts : List (List ℕ)} {found : Found} →
      BreaksLexemes file text found → FirstBreakOfLexemes file (text ∷ texts) found
  in_another : {file : ℕ} {text : List ℕ} {texts : List (List ℕ)} {tokens : List Token} {found : Found} →
      Lex file text tokens → FirstBreakOfLexemes (file + 1) texts found → FirstBreakOfLexemes file (text ∷ texts) found

-- from the forest of the files before
pub data FilesRead : Forest → List (List Lexeme) → Forest → Type 0 where
  no_file : {forest : Forest} → FilesRead forest [] forest
  next_file : {before between after : Forest} {lexemes : List Lexeme} {more : List (List Lexeme)} →
      FileRead before lexemes between → FilesRead between more after → FilesRead before (lexemes ∷ more) after

-- the break of the grammar in the first of the files that has one
pub data FirstBreakOfGrammar : Forest → List (List Lexeme) → Found → Type 0 where
  in_this_file : {before : Forest} {lexemes : List Lexeme} {more : List (List Lexeme)} {found : Found} →
      BreaksGrammar before.nodes lexemes found → FirstBreakOfGrammar before (lexemes ∷ more) found
  in_another_file : {before between : Forest} {lexemes : List Lexeme} {more : List (List Lexeme)} {found : Found} →
      FileRead before lexemes between → FirstBreakOfGrammar between more found →
      FirstBreakOfGrammar before (lexemes ∷ more) found

-- the break that is reported of these texts, read behind a forest; of the grammar only where the lexemes have none
pub data BreaksFrom (file : ℕ) (before : Forest) (texts : List (List ℕ)) (found : Found) : Type 0 where
  in_lexemes : FirstBreakOfLexemes file texts found → BreaksFrom file before texts found
  in_grammar : {lexemes : List (List Lexeme)} →
      HaveLexemes file texts lexemes → FirstBreakOfGrammar before lexemes found → BreaksFrom file before texts found

-- these texts, read behind a forest, have no break, and give the forest with their files
pub record ReadsFrom (file : ℕ) (before : Forest) (texts : List (List ℕ)) (after : Forest) : Type 0 where
  pub lexemes : List (List Lexeme)
  pub have_lexemes : HaveLexemes file texts lexemes
  pub files_read : FilesRead before lexemes after

-- ---- all files of a call

abbrev pub BreaksSyntax : List (List ℕ) → Found → Type 0
BreaksSyntax texts found = BreaksFrom 0 (forest_of [] []) texts found

abbrev pub Reads : List (List ℕ) → Forest → Type 0
Reads texts forest = ReadsFrom 0 (forest_of [] []) texts forest
