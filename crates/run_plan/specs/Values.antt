-- What a value in a plan may be: a whole number within bounds, or a name.
use Rattle.std.specs.Prelude.{ℕ, ℤ, pos, negsuc, int_le, ◌&&◌, nat_le, List, Option, Some, None, if◌then◌else◌, codes}
use Rattle.std.specs.Str.{bytes_eq}
use Rattle.scj_base.specs.Lexeme.{is_name}
use Rattle.scj_model.specs.declared.plans.FireFrom.{FireFrom}
use Rattle.scj_model.specs.declared.plans.FireFrom.TheVariants.{Start, Mission}
use Rattle.scj_rules.specs.Words.{◌>>=◌}
use Rattle.toml.specs.Data.{Data, as_integer, as_str, Members, get_member}
use Rattle.run_plan.specs.Limits.{least_value, greatest_value}

-- the number, where it lies between two bounds
abbrev pub within : ℕ → ℕ → ℤ → Option ℕ
within least greatest (pos n) = if nat_le least n && nat_le n greatest then Some n else None
within least greatest (negsuc n) = None

-- the number, where it has 32 bits
abbrev pub of_32_bits : ℤ → Option ℤ
of_32_bits z = if int_le least_value z && int_le z greatest_value then Some z else None

-- the text, where it has the form of a name
abbrev pub of_a_name : List ℕ → Option (List ℕ)
of_a_name text = if is_name text then Some text else None

-- the whole number between two bounds that a value is
abbrev pub number_in : ℕ → ℕ → Data → Option ℕ
number_in least greatest value = as_integer value >>= within least greatest

-- the whole number of 32 bits that a value is
abbrev pub integer_in : Data → Option ℤ
integer_in value = as_integer value >>= of_32_bits

-- the name that a value is
abbrev pub name_in : Data → Option (List ℕ)
name_in value = as_str value >>= of_a_name

-- the word from when the unit of a fire is counted
abbrev pub from_named : List ℕ → Option FireFrom
from_named word =
    if bytes_eq word (codes "start") then Some Start
    else if bytes_eq word (codes "mission") then Some Mission
    else None

abbrev pub from_in : Data → Option FireFrom
from_in value = as_str value >>= from_named

-- these at a key of a table
abbrev pub number_at : List ℕ → ℕ → ℕ → Members → Option ℕ
number_at key least greatest table = get_member key table >>= number_in least greatest

abbrev pub integer_at : List ℕ → Members → Option ℤ
integer_at key table = get_member key table >>= integer_in

abbrev pub from_at : List ℕ → Members → Option FireFrom
from_at key table = get_member key table >>= from_in

abbrev pub name_at : List ℕ → Members → Option (List ℕ)
name_at key table = get_member key table >>= name_in
