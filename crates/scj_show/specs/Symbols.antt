-- The canonical text of a file: the lexemes of its classes, each with a space behind it, but a line feed behind
-- `;`, `{` and `}`.
use Rattle.std.specs.Prelude.{ℕ, ◌||◌, ◌==◌, List, [], ◌∷◌, ◌++◌, Option, Some, None, slice_get, slice_index_or, decimal, if◌then◌else◌}
use Rattle.scj_base.specs.Vocabulary.{words, signs, sign_left_brace, sign_right_brace, sign_semicolon}
use Rattle.scj_tree.specs.declared.nodes.Node.{Node}
use Rattle.scj_tree.specs.declared.nodes.Node.TheVariants.{Text}
use Rattle.scj_tree.specs.Forest.{Forest}
use Rattle.scj_tree.specs.Recursion.{by_smaller}
use Rattle.scj_show.specs.declared.parts.Part.{Part}
use Rattle.scj_show.specs.declared.parts.Part.TheVariants.{Whole, Bare, Named, Quoted, Word, Sign, Digits}
use Rattle.scj_show.specs.Parts.{parts_of, bare_parts, each}

-- a lexeme without its place: a name, a text by what stands between its quotes, a word and a sign by their place in
-- their list, and a number
pub data Symbol : Type 0 where
  a_name : List ℕ → Symbol
  a_text : List ℕ → Symbol
  a_word : ℕ → Symbol
  a_sign : ℕ → Symbol
  a_number : ℕ → Symbol

-- ---- the bytes of lexemes

unfoldable pub bytes_of : Symbol → List ℕ
bytes_of (a_name w) = w
bytes_of (a_text w) = 34 ∷ (w ++ 34 ∷ [])
bytes_of (a_word n) = slice_index_or words n []
bytes_of (a_sign n) = slice_index_or signs n []
bytes_of (a_number n) = decimal n

-- the byte behind a lexeme
unfoldable pub separator : Symbol → ℕ
separator (a_sign n) = if n == sign_semicolon || (n == sign_left_brace || n == sign_right_brace) then 10 else 32
separator _ = 32

unfoldable pub canonical : List Symbol → List ℕ
canonical [] = []
canonical (s ∷ ss) = (bytes_of s ++ separator s ∷ []) ++ canonical ss

-- ---- the lexemes of nodes

-- of a node: whole, and bare, as it stands within some other nodes
pub record Written : Type 0 where
  pub whole : List Symbol
  pub bare : List Symbol

-- the lexemes of a part, from what the nodes below give
unfoldable pub symbols_of_part : (ℕ → Written) → Part → List Symbol
symbols_of_part sub (Whole id) = (sub id).whole
symbols_of_part sub (Bare id) = (sub id).bare
symbols_of_part sub (Named w) = a_name w ∷ []
symbols_of_part sub (Quoted w) = a_text w ∷ []
symbols_of_part sub (Word n) = a_word n ∷ []
symbols_of_part sub (Sign n) = a_sign n ∷ []
symbols_of_part sub (Digits n) = a_number n ∷ []

unfoldable pub symbols_of_parts : (ℕ → Written) → List Part → List Symbol
symbols_of_parts sub [] = []
symbols_of_parts sub (part ∷ parts) = symbols_of_part sub part ++ symbols_of_parts sub parts

-- a text is its own lexeme
unfoldable pub own_symbols : Node → List Symbol
own_symbols (Text position text) = a_text text ∷ []
own_symbols _ = []

abbrev pub nothing : Written
nothing = record { whole = []; bare = [] }

unfoldable pub written_node : (ℕ → Written) → Option Node → Written
written_node sub None = nothing
written_node sub (Some node) =
    record {
      whole = own_symbols node ++ symbols_of_parts sub (parts_of node);
      bare = symbols_of_parts sub
          (bare_parts node);
    }

unfoldable pub written : List Node → ℕ → Written
written nodes = by_smaller nothing (λ id sub. written_node sub (slice_get nodes id))

-- ---- files

-- the lexemes of classes, one behind the other
unfoldable pub symbols_of : List Node → List ℕ → List Symbol
symbols_of nodes ids = symbols_of_parts (written nodes) (each ids)

unfoldable pub text_of_file : Forest → ℕ → List ℕ
text_of_file forest file = canonical (symbols_of forest.nodes (slice_index_or forest.files file []))
