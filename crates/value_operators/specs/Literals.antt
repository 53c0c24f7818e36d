-- Which numbers a literal has (JLS 3.10.1).
use Rattle.std.specs.Prelude.{◌<◌, ◌≤◌, true, false}
use Rattle.scj_base.specs.Lexeme.{greatest_number}
use Rattle.scj_tree.specs.declared.nodes.Node.{Node}
use Rattle.scj_tree.specs.declared.nodes.Node.TheVariants.{Number}

-- a literal that is a number is an int: the greatest number that a text may hold stands only behind its `-`
unfoldable pub HasInt : Node → Type 0
HasInt (Number position value true) = value ≤ greatest_number
HasInt (Number position value false) = value < greatest_number
HasInt _ = Unit {0}
