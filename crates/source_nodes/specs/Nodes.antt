-- The words and the places of nodes that were read from texts.
use Rattle.std.specs.Prelude.{◌≡◌, ◌≤◌, ◌<◌, ℕ, ◌+◌, true, List, [], ◌∷◌, length, slice_get, Some}
use Rattle.scj_base.specs.declared.positions.Position.{Position}
use Rattle.scj_base.specs.Lexeme.{AllOf, is_name, is_text_byte}
use Rattle.scj_tree.specs.declared.nodes.Node.{Node}
use Rattle.scj_tree.specs.declared.nodes.Node.TheVariants.{Class, Number, Text}
use Rattle.scj_tree.specs.Shape.{position_of}
use Rattle.value_operators.specs.Literals.{HasInt}

-- the name of a class is a name, the bytes of a text may stand between quotes, and a number is an int
unfoldable pub HasWords : Node → Type 0
HasWords (Class position name flags header members) = is_name name ≡ true
HasWords (Text position bytes) = AllOf is_text_byte bytes
HasWords (Number position value is_negative) = HasInt (Number position value is_negative)
HasWords _ = Unit {0}

-- a place in one of so many files, of which none has more bytes than this
pub record IsPosition (files longest : ℕ) (p : Position) : Type 0 where
  pub file : p.file < files
  pub first : 1 ≤ p.line
  pub last : p.line ≤ longest + 1

pub record NodesFit (nodes : List Node) (files longest : ℕ) : Type 0 where
  pub words : (id : ℕ) (node : Node) → slice_get nodes id ≡ Some node → HasWords node
  pub places : (id : ℕ) (node : Node) → slice_get nodes id ≡ Some node → IsPosition files longest (position_of node)

-- each text has at most so many bytes
abbrev pub AreShort : ℕ → List (List ℕ) → Type 0
AreShort longest [] = Unit {0}
AreShort longest (text ∷ texts) = (length text ≤ longest) × AreShort longest texts
