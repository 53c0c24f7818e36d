-- The registry: the handlers of a mission, in the order in which they were registered (JSR 302: ManagedEventHandler).
use Rattle.std.specs.Prelude.{true, false, ℕ, zero, suc, ◌+◌, ◌==◌, nat_lt, Bool, not, ◌&&◌, List, position, slice_get, unsigned_abs, Option, Some, None, if◌then◌else◌, option_map}
use Rattle.scj_base.specs.declared.values.Value.{Value}
use Rattle.scj_base.specs.declared.values.Value.TheVariants.{Int}
use Rattle.scj_rules.specs.Classes.{hidden_fields}
use Rattle.scj_rules.specs.Contexts.{Declarations}
use Rattle.scj_rules.specs.Layout.{priority_slot, storage_slot, start_slot, period_slot}
use Rattle.scj_model.specs.declared.handlers.HandlerKind.{HandlerKind}
use Rattle.scj_model.specs.declared.handlers.HandlerKind.TheVariants.{Periodic, OneShot, Aperiodic}
use Rattle.scj_model.specs.declared.handlers.HandlerRow.{HandlerRow}
use Rattle.scj_model.specs.State.{Object}

abbrev pub most_handlers : ℕ
most_handlers = 64

-- the number of the first handler of which a test holds; the numbers begin with 1
abbrev pub number_where : (HandlerRow → Bool) → List HandlerRow → Option ℕ
number_where test registry = option_map (λ k. k + 1) (position test registry)

-- the number of a handler object, if it is registered
unfoldable pub handler_number : List HandlerRow → ℕ → Option ℕ
handler_number registry r = number_where (λ (row : HandlerRow). row.at == r) registry

-- the row of a number
abbrev pub handler_row : List HandlerRow → ℕ → Option HandlerRow
handler_row registry handler = elim handler [ zero ↦ None | suc k ↦ slice_get registry k ]

abbrev pub is_aperiodic : HandlerKind → Bool
is_aperiodic Periodic = false
is_aperiodic OneShot = false
is_aperiodic Aperiodic = true

-- the first aperiodic handler of exactly this class
unfoldable pub aperiodic_of : List HandlerRow → ℕ → Option ℕ
aperiodic_of registry class =
    number_where (λ (row : HandlerRow). is_aperiodic row.kind && (row.class == class)) registry

-- ---- a handler object as a row, by its hidden fields; an aperiodic handler has no start and no period

-- the number that a value is
unfoldable pub number_in : Value → ℕ
number_in (Int z) = unsigned_abs z
number_in _ = 0

unfoldable pub hidden_number : Declarations → Object → ℕ → ℕ
hidden_number p o slot =
    if nat_lt slot (hidden_fields p.classes o.class)
    then (elim (slice_get o.slots slot) [ None ↦ 0 | Some value ↦ number_in value ])
    else 0

-- a handler has a period where its class is under PeriodicEventHandler
unfoldable pub has_period : Declarations → ℕ → Bool
has_period p class = nat_lt period_slot (hidden_fields p.classes class)

-- one whose period is 0 is released once
unfoldable pub kind_by : Bool → ℕ → HandlerKind
kind_by false period = Aperiodic
kind_by true zero = OneShot
kind_by true (suc period) = Periodic

abbrev pub new_row : Declarations → ℕ → Object → HandlerRow
new_row p r o =
    record {
      at = r;
      class = o.class;
      priority = hidden_number p o priority_slot;
      start = hidden_number p o start_slot;
      period = hidden_number p o period_slot;
      bytes = hidden_number p o storage_slot;
      kind = kind_by (has_period p o.class) (hidden_number p o period_slot);
    }
