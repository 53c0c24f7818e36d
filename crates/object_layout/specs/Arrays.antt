-- The classes of arrays by their places behind all other classes.
use Rattle.std.specs.Prelude.{ℕ, ◌+◌, ◌-◌, nat_lt, ◌==◌, Option, Some, None, if◌then◌else◌}
use Rattle.scj_rules.specs.declared.views.SlotKind.{SlotKind}
use Rattle.scj_rules.specs.declared.views.SlotKind.TheVariants.{Number, Truth, Reference}

-- what the elements of the array class at a place hold, where there are so many other classes
unfoldable pub kind_behind : ℕ → ℕ → Option SlotKind
kind_behind index count =
    if index == 0 then Some Number
    else (if index == 1 then Some Truth else (if nat_lt index (2 + count) then Some Reference else None))
