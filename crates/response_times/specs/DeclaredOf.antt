-- What a text declares. A text is TOML exactly where `toml` reads it; its table has its keys in the order of their
-- bytes.
use Rattle.std.specs.Prelude.{ℕ, ◌==◌, nat_le, ◌&&◌, Bool, List, Option, Some, None}
use Rattle.std.specs.Prelude.{is_some, if◌then◌else◌, codes, option_map, map}
use Rattle.std.specs.Str.{bytes_eq, is_utf8}
use Rattle.scj_rules.specs.Words.{◌>>=◌, or_else}
use Rattle.toml.specs.Data.{Data, as_array, Items, Members, no_members, member, get_member}
use Rattle.toml.specs.Parse.{parse_document}
use Rattle.run_plan.specs.PlanOf.{Refusal, not_toml, bad_key, refusal_at}
use Rattle.run_plan.specs.Rows.{key_count, item_count, each_row}
use Rattle.run_plan.specs.Values.{number_at, number_in}
use Rattle.response_bounds.specs.declared.rows.Declared.{Declared}
use Rattle.response_bounds.specs.declared.responses.Response.{Response}
use Rattle.response_bounds.specs.declared.responses.Response.TheVariants.{Bound, NoBound}
use Rattle.response_times.specs.declared.handlers.HandlerClaim.{HandlerClaim}
use Rattle.response_bounds.specs.Rows.{IsDeclared, most_rows, most_units, highest_priority}

-- ---- a row: a table of the keys `priority`, `cost`, `gap`, `section` and `ceiling`, of `bound` perhaps, and of no other

abbrev pub with_ceiling : ℕ → ℕ → ℕ → ℕ → Option ℕ → Option Declared
with_ceiling priority cost gap section None = None
with_ceiling priority cost gap section (Some ceiling) =
    Some (record { priority = priority; cost = cost; gap = gap; section = section; ceiling = ceiling })

-- a section is at most the cost, and a ceiling at least the priority
unfoldable pub row_in : Members → Option Declared
row_in table =
    number_at (codes "priority") 1 highest_priority table >>= (λ priority.
    number_at (codes "cost") 1 most_units table >>= (λ cost.
    number_at (codes "gap") 1 most_units table >>= (λ gap.
    number_at (codes "section") 0 cost table >>= (λ section.
    with_ceiling priority cost gap section (number_at (codes "ceiling") priority highest_priority table)))))

-- 0 claims no bound, as no `bound` does
abbrev pub claim_of : ℕ → Response
claim_of bound = if bound == 0 then NoBound else Bound bound

unfoldable pub claim_in : Members → Option Response
claim_in table =
    elim (get_member (codes "bound") table)
    [ None ↦ Some NoBound | Some value ↦ option_map claim_of (number_in 0 most_units value) ]

-- five keys, and one more where `bound` is there
abbrev pub keys_of : Members → ℕ
keys_of table = if is_some (get_member (codes "bound") table) then 6 else 5

abbrev pub with_claim : Declared → Option Response → Option HandlerClaim
with_claim row None = None
with_claim row (Some claim) = Some (record { row = row; claim = claim })

unfoldable pub handler_of : Members → Option HandlerClaim
handler_of table =
    if key_count table == keys_of table then row_in table >>= (λ row. with_claim row (claim_in table)) else None

-- from 1 to 64 of them
abbrev pub few_handlers : Items → Option (List HandlerClaim)
few_handlers items =
    if nat_le 1 (item_count items) && nat_le (item_count items) most_rows then each_row handler_of items else None

abbrev pub handlers_in : Data → Option (List HandlerClaim)
handlers_in value = as_array value >>= few_handlers

-- the row of a handler is within the limits
pub record IsHandler (handler : HandlerClaim) : Type 0 where
  pub row : IsDeclared handler.row

-- ---- the keys that a file may have

-- whether the value is one that its key may have; none where no file has such a key
abbrev pub suits : List ℕ → Data → Option Bool
suits key value =
    if bytes_eq key (codes "version") then Some (is_some (number_in 1 1 value))
    else if bytes_eq key (codes "handler") then Some (is_some (handlers_in value))
    else None

-- of an unknown key and of a known one with another value, the one that stands first
abbrev pub first_refusal : Members → Option Refusal
first_refusal no_members = None
first_refusal (member key value rest) = or_else (refusal_at key (suits key value)) (first_refusal rest)

-- ---- what a table and a text declare

pub data DeclaredMeaning : Type 0 where
  declared : List Declared → List Response → DeclaredMeaning
  refused : Refusal → DeclaredMeaning

abbrev pub rows_of : List HandlerClaim → List Declared
rows_of handlers = map (λ (h : HandlerClaim). h.row) handlers

abbrev pub claims_of : List HandlerClaim → List Response
claims_of handlers = map (λ (h : HandlerClaim). h.claim) handlers

-- a key that has to be there: what follows with its value
abbrev pub required : {A : Type 0} → List ℕ → Option A → (A → DeclaredMeaning) → DeclaredMeaning
required key None follows = refused (bad_key key)
required key (Some value) follows = follows value

-- of `version` and `handler` the first that is missing, or else the rows and what is claimed for them
abbrev pub completed : Members → DeclaredMeaning
completed table =
    required (codes "version") (number_at (codes "version") 1 1 table) (λ version.
    required (codes "handler") (get_member (codes "handler") table >>= handlers_in) (λ handlers.
    declared (rows_of handlers) (claims_of handlers)))

unfoldable pub declared_of : Members → DeclaredMeaning
declared_of table = elim (first_refusal table) [ None ↦ completed table | Some refusal ↦ refused refusal ]

abbrev pub declared_of_read : Option Members → DeclaredMeaning
declared_of_read None = refused not_toml
declared_of_read (Some table) = declared_of table

unfoldable pub declared_of_text : List ℕ → DeclaredMeaning
declared_of_text text = if is_utf8 text then declared_of_read (parse_document text) else refused not_toml
