-- Ways of some steps from class to superclass, and which of the framework's first classes are met on them, told by the
-- bits of a number.
use Rattle.std.specs.Prelude.{◌≡◌, ℕ, zero, suc, ◌^◌, ◌≤◌, nat_lt, Bool, ◌&&◌, ◌==◌, List, [], ◌∷◌, map, length, slice_get, bit_or, Option, Some, None, option_and_then, unwrap_or, if◌then◌else◌}
use Rattle.std.specs.Int.{bit_at}
use Rattle.scj_tree.specs.Recursion.{listed, lookup}
use Rattle.scj_rules.specs.Words.{holds}
use Rattle.scj_rules.specs.Classes.{ClassRow, superclass_in, interfaces_in}
use Rattle.class_headers.specs.declared.filling.Header.{Header}
use Rattle.class_headers.specs.declared.ways.Way.{Way}

-- the bit of a class, where it is one of the first eight
unfoldable pub bit_of : ℕ → ℕ
bit_of class = if nat_lt class 8 then 2 ^ class else 0

-- the bits of these classes
unfoldable pub bits_of : List ℕ → ℕ
bits_of [] = 0
bits_of (class ∷ classes) = bit_or (bit_of class) (bits_of classes)

-- the class has a bit, and it is set
unfoldable pub has_bit : ℕ → ℕ → Bool
has_bit bits class = nat_lt class 8 && (bit_at bits class == 1)

abbrev pub no_way : Way
no_way = record { end = None; above = 0; implemented = 0 }

-- the way from a class, where there is one
unfoldable pub way_from : List Way → Option ℕ → Way
way_from ways None = no_way
way_from ways (Some class) = lookup no_way ways class

-- a way, and then the one from its end
unfoldable pub twice : List Way → Way → Way
twice ways way =
    let more = way_from ways way.end in
    record {
      end = more.end;
      above = bit_or way.above more.above;
      implemented = bit_or way.implemented more.implemented;
    }

-- so often each way has gone on by the one from its end
unfoldable pub doubled : ℕ → List Way → List Way
doubled zero ways = ways
doubled (suc rounds) ways = let before = doubled rounds ways in map (twice before) before

-- ways of so many steps or more from ways of one step
pub record AreDoubled (first : List Way) (steps : ℕ) (ways : List Way) : Type 0 where
  pub rounds : ℕ
  pub far : steps ≤ 2 ^ rounds
  pub are : ways ≡ doubled rounds first

-- the superclass and the interfaces of a class, by headers and lists of interfaces
abbrev pub above_in : List Header → ℕ → Option ℕ
above_in rows class = option_and_then (λ (h : Header). h.superclass) (slice_get rows class)

abbrev pub named_in : List (List ℕ) → ℕ → List ℕ
named_in lists class = unwrap_or (slice_get lists class) []

-- the way of one step from a class to its superclass
unfoldable pub first_way : ℕ → Option ℕ → List ℕ → Way
first_way class superclass interfaces =
    record { end = superclass; above = bit_of class; implemented = bits_of interfaces }

abbrev pub way_by : List Header → List (List ℕ) → ℕ → Way
way_by rows lists class = first_way class (above_in rows class) (named_in lists class)

abbrev pub way_in : List ClassRow → ℕ → Way
way_in all class = first_way class (superclass_in all class) (interfaces_in all class)

-- the ways of one step from all classes
abbrev pub first_ways : List ClassRow → List Way
first_ways all = listed (way_in all) (length all)

abbrev pub ends_at : ℕ → Way → Bool
ends_at class way = holds way.end (λ end. class == end)
