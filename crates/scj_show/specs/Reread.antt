-- A file's canonical text read again.
use Rattle.std.specs.Prelude.{◌≡◌, ℕ, List, [], ◌++◌, slice_index_or}
use Rattle.scj_base.specs.declared.lexemes.Token.{Token}
use Rattle.scj_base.specs.Lex.{Lex}
use Rattle.scj_tree.specs.declared.nodes.Node.{Node}
use Rattle.scj_tree.specs.Forest.{Forest}
use Rattle.scj_tree.specs.Lexemes.{lexemes_of}
use Rattle.scj_tree.specs.Grammar.{Tree}
use Rattle.scj_show.specs.Alike.{AllAlike}

-- the classes of a file, none where there is no such file
abbrev pub classes_of : Forest → ℕ → List ℕ
classes_of forest file = slice_index_or forest.files file []

-- the file was read from the source: the source lexes, and its lexemes are a tree with the file's classes, whose nodes
-- stand behind those of the files before it, and before those of the files behind it
pub record WasReadFrom (forest : Forest) (file : ℕ) (source : List ℕ) : Type 0 where
  pub number : ℕ
  pub tokens : List Token
  pub lex : Lex number source tokens
  pub start : List Node
  pub nodes : List Node
  pub tree : Tree start (lexemes_of source tokens) nodes (classes_of forest file)
  pub others : List Node
  pub whole : forest.nodes ≡ nodes ++ others

-- the text lexes, and from the nodes `before` its lexemes are a file whose classes are the same as the classes ids
-- among N
pub record IsRead (N : List Node) (ids text : List ℕ) (file : ℕ) (before : List Node) : Type 0 where
  pub tokens : List Token
  pub lex : Lex file text tokens
  pub nodes : List Node
  pub classes : List ℕ
  pub tree : Tree before (lexemes_of text tokens) nodes classes
  pub alike : AllAlike N nodes ids classes

-- the text is read as the file, from whatever source that was read, whichever number the text's file is given and
-- whatever nodes there are before
pub record IsReadAsFile (forest : Forest) (file : ℕ) (text : List ℕ) : Type 0 where
  pub read : (source : List ℕ) → WasReadFrom forest file source → (number : ℕ) (before : List Node) →
      IsRead forest.nodes (classes_of forest file) text number before
