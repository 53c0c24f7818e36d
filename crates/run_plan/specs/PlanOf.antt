-- What a text of a plan means. A text is TOML exactly where `toml` reads it; its table has its keys in the order of
-- their bytes.
use Rattle.std.specs.Prelude.{◌≡◌, ℕ, Bool, true, false, List, [], Option, Some, None, is_some, unwrap_or, if◌then◌else◌, codes}
use Rattle.std.specs.Str.{bytes_eq, is_utf8}
use Rattle.scj_model.specs.Plan.{Plan}
use Rattle.scj_rules.specs.Words.{◌>>=◌, or_else}
use Rattle.toml.specs.Data.{Data, Members, no_members, member, get_member}
use Rattle.toml.specs.Parse.{parse_document}
use Rattle.run_plan.specs.Limits.{most_units, largest_store}
use Rattle.run_plan.specs.Rows.{fire_of, reading_of, rows_in}
use Rattle.run_plan.specs.Values.{number_in, number_at}

-- why a text is no plan: it isn't TOML, or a key is wrong, or the value of a key is
pub data Refusal : Type 0 where
  not_toml : Refusal
  bad_key : List ℕ → Refusal
  bad_value : List ℕ → Refusal

pub data Meaning : Type 0 where
  plan : Plan → Meaning
  refused : Refusal → Meaning

-- ---- the keys that a plan may have

-- whether a table says that it is of version 2
abbrev pub is_second : Members → Bool
is_second table = is_some (number_at (codes "version") 2 2 table)

-- whether the value is one that its key may have in a table that is of version 2 or isn't; none where a plan has no
-- such key
abbrev pub suits : Bool → List ℕ → Data → Option Bool
suits second key value =
    if bytes_eq key (codes "version") then Some (is_some (number_in 1 2 value))
    else if bytes_eq key (codes "units") then Some (is_some (number_in 0 most_units value))
    else if bytes_eq key (codes "store") then Some (is_some (number_in 0 largest_store value))
    else if bytes_eq key (codes "fire") then Some (is_some (rows_in (fire_of second) value))
    else if bytes_eq key (codes "reading") then Some (is_some (rows_in reading_of value))
    else None

-- ---- the first wrong entry

abbrev pub refusal_at : List ℕ → Option Bool → Option Refusal
refusal_at key None = Some (bad_key key)
refusal_at key (Some false) = Some (bad_value key)
refusal_at key (Some true) = None

-- of an unknown key and of a known one with another value, the one that stands first
abbrev pub first_refusal : Bool → Members → Option Refusal
first_refusal second no_members = None
first_refusal second (member key value rest) =
    or_else (refusal_at key (suits second key value)) (first_refusal second rest)

-- ---- the plan of a table whose entries are right

-- a key that has to be there: what follows with its value
abbrev pub required : {A : Type 0} → List ℕ → Option A → (A → Meaning) → Meaning
required key None follows = refused (bad_key key)
required key (Some value) follows = follows value

-- the rows at a key, and none where the key isn't there
abbrev pub rows_at : {Row : Type 0} → (Members → Option Row) → List ℕ → Members → List Row
rows_at row_of key table = unwrap_or (get_member key table >>= rows_in row_of) []

abbrev pub version_at : Members → Option ℕ
version_at table = number_at (codes "version") 1 2 table

abbrev pub units_at : Members → Option ℕ
units_at table = number_at (codes "units") 0 most_units table

abbrev pub store_at : Members → Option ℕ
store_at table = number_at (codes "store") 0 largest_store table

abbrev pub plan_with : ℕ → ℕ → Members → Plan
plan_with units store table =
    record {
      units = units;
      store = store;
      fires = rows_at (fire_of (is_second table)) (codes "fire") table;
      readings = rows_at reading_of (codes "reading") table;
    }

-- of `version`, `units` and `store` the first that is missing, or else the plan
abbrev pub completed : Members → Meaning
completed table =
    required (codes "version") (version_at table) (λ version.
    required (codes "units") (units_at table) (λ units.
    required (codes "store") (store_at table) (λ store.
    plan (plan_with units store table))))

-- ---- what a table and a text mean

unfoldable pub meaning_of : Members → Meaning
meaning_of table = elim (first_refusal (is_second table) table) [ None ↦ completed table | Some refusal ↦ refused refusal ]

abbrev pub meaning_of_read : Option Members → Meaning
meaning_of_read None = refused not_toml
meaning_of_read (Some table) = meaning_of table

unfoldable pub meaning_of_text : List ℕ → Meaning
meaning_of_text text = if is_utf8 text then meaning_of_read (parse_document text) else refused not_toml

-- as relations: the table is that of the plan; the table is refused
abbrev pub PlanOf : Members → Plan → Type 0
PlanOf table p = meaning_of table ≡ plan p

abbrev pub PlanBad : Members → Refusal → Type 0
PlanBad table refusal = meaning_of table ≡ refused refusal
