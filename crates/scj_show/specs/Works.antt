-- What is still to be printed while a file is shown, and how much work that is.
use Rattle.std.specs.Prelude.{ℕ, ◌+◌, List, [], ◌∷◌, ◌++◌, Option, Some, None, slice_get}
use Rattle.scj_tree.specs.declared.nodes.Node.{Node}
use Rattle.scj_tree.specs.Recursion.{by_smaller}
use Rattle.scj_show.specs.declared.parts.Part.{Part}
use Rattle.scj_show.specs.declared.parts.Part.TheVariants.{Whole, Bare, Named, Quoted, Word, Sign, Digits}
use Rattle.scj_show.specs.Parts.{parts_of, bare_parts}
use Rattle.scj_show.specs.Symbols.{Symbol, written, symbols_of_part}

-- the lexemes of parts that wait, the last part first
unfoldable pub pending : List Node → List Part → List Symbol
pending nodes [] = []
pending nodes (part ∷ parts) = pending nodes parts ++ symbols_of_part (written nodes) part

-- how many parts a node has, those of the nodes below it with them
pub record Size : Type 0 where
  pub whole : ℕ
  pub bare : ℕ

unfoldable pub size_of_part : (ℕ → Size) → Part → ℕ
size_of_part sub (Whole id) = 1 + (sub id).whole
size_of_part sub (Bare id) = 1 + (sub id).bare
size_of_part sub (Named w) = 1
size_of_part sub (Quoted w) = 1
size_of_part sub (Word n) = 1
size_of_part sub (Sign n) = 1
size_of_part sub (Digits n) = 1

unfoldable pub size_of_parts : (ℕ → Size) → List Part → ℕ
size_of_parts sub [] = 0
size_of_parts sub (part ∷ parts) = size_of_part sub part + size_of_parts sub parts

unfoldable pub size_of_node : (ℕ → Size) → Option Node → Size
size_of_node sub None = record { whole = 0; bare = 0 }
size_of_node sub (Some node) =
    record { whole = size_of_parts sub (parts_of node); bare = size_of_parts sub (bare_parts node) }

unfoldable pub size : List Node → ℕ → Size
size nodes = by_smaller (record { whole = 0; bare = 0 }) (λ id sub. size_of_node sub (slice_get nodes id))

-- how much work waits
unfoldable pub work : List Node → List Part → ℕ
work nodes parts = size_of_parts (size nodes) parts
