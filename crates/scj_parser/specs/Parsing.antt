-- The lexemes of a whole file.
use Rattle.std.specs.Prelude.{◌≡◌, List, [], ◌∷◌, ◌++◌}
use Rattle.scj_base.specs.declared.positions.Position.{Position}
use Rattle.scj_tree.specs.Lexemes.{Lexeme, the_end}

-- the lexemes end with the end of the file
pub record EndsThere (i : List Lexeme) : Type 0 where
  pub front : List Lexeme
  pub position : Position
  pub is : i ≡ front ++ the_end position ∷ []
