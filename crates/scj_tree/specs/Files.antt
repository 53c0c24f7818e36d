-- What a file is to a program: its tree stands behind those of the files before it, or it breaks P1 or P2.
use Rattle.std.specs.Prelude.{◌≡◌, List, [], ◌∷◌, ◌++◌, ℕ, length, Some, None}
use Rattle.scj_base.specs.declared.findings.Found.{Found}
use Rattle.scj_base.specs.declared.findings.Rule.TheVariants.{P1, P2}
use Rattle.scj_base.specs.declared.positions.Position.{Position}
use Rattle.scj_tree.specs.declared.nodes.Node.{Node}
use Rattle.scj_tree.specs.Forest.{Forest}
use Rattle.scj_tree.specs.Lexemes.{Lexeme}
use Rattle.scj_tree.specs.Grammar.{Tree, RefusedAt}
use Rattle.scj_tree.specs.Heights.{too_deep}

-- the lexemes are a file without a body that is too deep: the forest has its nodes and its classes last
pub record FileRead (before : Forest) (lexemes : List Lexeme) (after : Forest) : Type 0 where
  pub classes : List ℕ
  pub tree : Tree before.nodes lexemes after.nodes classes
  pub is_low : too_deep (length before.nodes) after.nodes ≡ None
  pub files : after.files ≡ before.files ++ classes ∷ []

-- the lexemes are a file, and the place is the name of its first method or constructor whose body is too deep
pub record IsTooDeep (before : List Node) (lexemes : List Lexeme) (position : Position) : Type 0 where
  pub after : List Node
  pub classes : List ℕ
  pub tree : Tree before lexemes after classes
  pub is_high : too_deep (length before) after ≡ Some position

-- P1 and P2, of the lexemes of a file that is read behind the nodes of the files before it
pub data BreaksGrammar (before : List Node) (lexemes : List Lexeme) (found : Found) : Type 0 where
  not_in_the_grammar : found.rule ≡ P1 → RefusedAt before lexemes found.pos → BreaksGrammar before lexemes found
  too_high : found.rule ≡ P2 → IsTooDeep before lexemes found.pos → BreaksGrammar before lexemes found
