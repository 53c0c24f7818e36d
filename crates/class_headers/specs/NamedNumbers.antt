-- Numbers by names: the first ones in a hash table, and those behind them in a tree.
use Rattle.std.specs.Prelude.{◌≡◌, ◌≤◌, ℕ, List, Option, None}
use Rattle.std.specs.Option.{option_or}
use Rattle.std.specs.HashMap.{get}
use Rattle.std.specs.BTreeMap.{get as get_ordered}
use Rattle.std.specs.Cmp.Lexicographic.{slice_cmp}
use Rattle.std.specs.Ordering.{nat_cmp}
use Rattle.scj_base.specs.Bytes.{is_same}
use Rattle.class_headers.specs.declared.named_numbers.NamedNumbers.{NamedNumbers}

-- the number that is found under a name
abbrev pub found_under : NamedNumbers → List ℕ → Option ℕ
found_under names name = option_or (get is_same names.few name) (get_ordered (slice_cmp nat_cmp) names.many name)

-- no name stands in the hash table while all that are entered have ranks at or behind the limit
abbrev pub HasNoFew : NamedNumbers → ℕ → Type 0
HasNoFew names rank = names.limit ≤ rank → (name : List ℕ) → get is_same names.few name ≡ None
