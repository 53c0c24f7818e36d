-- What the texts of a call's files are read as, and how each text changes that.
use Rattle.std.specs.Prelude.{◌≡◌, ℕ, List, length}
use Rattle.scj_base.specs.declared.findings.Found.{Found}
use Rattle.scj_base.specs.declared.lexemes.Token.{Token}
use Rattle.scj_base.specs.Lex.{Lex}
use Rattle.scj_tree.specs.Forest.{Forest}
use Rattle.scj_tree.specs.Lexemes.{Lexeme, lexemes_of}
use Rattle.scj_rules.specs.Syntax.{Reads, ReadsFrom, BreaksSyntax, BreaksFrom, BreaksLexemes, FirstBreakOfLexemes, HaveLexemes}
use Rattle.scj_tree.specs.Files.{BreaksGrammar, FileRead}
use Rattle.scj_lexer.specs.declared.texts.LexError.{LexError}
use Rattle.scj_lexer.specs.declared.texts.LexError.TheVariants as lexer
use Rattle.scj_check.specs.declared.parse_outcomes.ParseOutcome.{ParseOutcome}
use Rattle.scj_check.specs.declared.parse_outcomes.ParseOutcome.TheVariants.{Read, Broken}

-- the program of the texts, or the break that is told of them
abbrev pub IsParseOutcome : List (List ℕ) → ParseOutcome → Type 0
IsParseOutcome texts (Read program) = Reads texts program
IsParseOutcome texts (Broken found) = BreaksSyntax texts found

-- ---- one text after the other

-- a program has this number of files
abbrev pub HasFiles : ℕ → ParseOutcome → Type 0
HasFiles count (Read program) = length program.files ≡ count
HasFiles count (Broken found) = Unit {0}

-- what one file's lexemes make of what was read before
abbrev pub Goes : List Lexeme → ParseOutcome → ParseOutcome → Type 0
Goes lexemes (Read before) (Read after) = FileRead before lexemes after
Goes lexemes (Read before) (Broken found) = BreaksGrammar before.nodes lexemes found
Goes lexemes (Broken found) (Read after) = ⊥
Goes lexemes (Broken found) (Broken again) = again ≡ found

-- what one file's text makes of it
pub record GoesOn (file : ℕ) (text : List ℕ) (before after : ParseOutcome) : Type 0 where
  pub tokens : List Token
  pub lexed : Lex file text tokens
  pub goes : Goes (lexemes_of text tokens) before after

-- a text without tokens
abbrev pub RefusesText : ℕ → List ℕ → LexError → Type 0
RefusesText file text (lexer.Bad found) = BreaksLexemes file text found
RefusesText file text lexer.Memory = Unit {0}

-- what is left to read, from the file of this number on, decides what the whole is
pub record StandsRead (whole : List (List ℕ)) (file : ℕ) (rest : List (List ℕ)) (program : Forest) : Type 0 where
  pub reads : (after : Forest) → ReadsFrom file program rest after → Reads whole after
  pub breaks : (found : Found) → BreaksFrom file program rest found → BreaksSyntax whole found

-- the grammar is broken: only a break of the lexemes can come before that
pub record StandsBroken (whole : List (List ℕ)) (file : ℕ) (rest : List (List ℕ)) (found : Found) : Type 0 where
  pub lexemes : (other : Found) → FirstBreakOfLexemes file rest other → BreaksSyntax whole other
  pub grammar : (lexemes : List (List Lexeme)) → HaveLexemes file rest lexemes → BreaksSyntax whole found

abbrev pub Stands : List (List ℕ) → ℕ → List (List ℕ) → ParseOutcome → Type 0
Stands whole file rest (Read program) = StandsRead whole file rest program
Stands whole file rest (Broken found) = StandsBroken whole file rest found
