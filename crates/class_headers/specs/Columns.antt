-- The table of the headers of classes, and what its ways tell of their chains.
use Rattle.std.specs.Prelude.{◌≡◌, ℕ, ◌<◌, false, List, map, slice_index_or}
use Rattle.scj_tree.specs.Recursion.{lookup}
use Rattle.scj_rules.specs.Words.{is_among}
use Rattle.scj_rules.specs.Classes.{ClassRow, superclasses, all_interfaces, is_cyclic, class_number}
use Rattle.class_headers.specs.declared.ways.Way.{Way}
use Rattle.class_headers.specs.NamedNumbers.{found_under}
use Rattle.class_headers.specs.Rows.{header_of}
use Rattle.class_headers.specs.Ways.{no_way, has_bit}
use Rattle.scj_tree.specs.Forest.{Forest}
use Rattle.scj_rules.specs.Contexts.{declarations_of}
use Rattle.class_headers.specs.declared.filling.Headers.TheInside.{Inside}

-- the kinds of classes are below this number
abbrev pub kind_count : ℕ
kind_count = 7

-- the ways tell which kinds stand on the chain of a class, and which are implemented there
pub record AreWaysOf (all : List ClassRow) (ways : List Way) : Type 0 where
  pub above : (kind class : ℕ) → kind < kind_count →
      has_bit (lookup no_way ways class).above kind ≡ is_among kind (superclasses all class)
  pub implemented : (kind class : ℕ) → kind < kind_count →
      has_bit (lookup no_way ways class).implemented kind ≡ is_among kind (all_interfaces all class)

-- the table is that of the program
pub record IsHeadersOf (forest : Forest) (headers : Inside) : Type 0 where
  pub names : (name : List ℕ) → found_under headers.names name ≡ class_number (declarations_of forest).names name
  pub rows : headers.rows.items ≡ map header_of (declarations_of forest).written
  pub interfaces : map (λ v. v.items) headers.interfaces.items ≡ map (λ (row : ClassRow). row.interfaces)
      (declarations_of forest).written
  pub cyclic : (class : ℕ) →
      slice_index_or headers.cyclic.items class false ≡ is_cyclic (declarations_of forest).written class
  pub ways : AreWaysOf (declarations_of forest).written headers.ways.items
