-- The classes of a program as they are written, and their members.
use Rattle.std.specs.Prelude.{ℕ, List, [], slice_get, Option, option_map, option_and_then, unwrap_or}
use Rattle.scj_rules.specs.Views.{WrittenClass}
use Rattle.scj_rules.specs.Classes.{ClassRow}
use Rattle.scj_rules.specs.Contexts.{Declarations}

-- the class of a number as it is written, where it is a user class
unfoldable pub class_written : Declarations → ℕ → Option WrittenClass
class_written p class = option_and_then (λ (row : ClassRow). row.written) (slice_get p.written class)

-- the members of a user class in the order of the source
unfoldable pub members_in : Declarations → ℕ → List ℕ
members_in p class = unwrap_or (option_map (λ (c : WrittenClass). c.members) (class_written p class)) []
