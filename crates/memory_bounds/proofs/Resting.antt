-- States with the same jobs and memory are bounded alike, and START puts nothing into memory.
use Rattle.std.specs.Prelude.{Some, None, if◌then◌else◌}
use Rattle.std.proofs.Common.{ℕ, suc, ◌≤◌, List, [], ◌∷◌, length, Bool, true, false, refl, sym, ◌∙◌, ap, arith}
use Rattle.scj_base.specs.declared.faults.RunFault.TheVariants.{StoreFull}
use Rattle.scj_rules.specs.Bodies.{class_position}
use Rattle.scj_rules.specs.declared.views.Body.{Body}
use Rattle.accepted_laws.proofs.Lists.{get_left}
use Rattle.scj_model.specs.declared.handlers.HandlerRow.{HandlerRow}
use Rattle.scj_model.specs.Code.{Code}
use Rattle.scj_model.specs.State.{MemoryArea, Activity, ReleaseAt, State, with_activity}
use Rattle.scj_model.specs.Memory.{used, has_store_for, with_area}
use Rattle.scj_model.specs.Registry.{handler_row}
use Rattle.scj_model.specs.Steps.{silently, fault_in, opening}
use Rattle.scj_model.specs.Sequencer.{innermost}
use Rattle.scj_model.specs.Effects.{new_frame}
use Rattle.scj_model.specs.Run.{started_with, no_activity}
use Rattle.priority_laws.proofs.Still.{IsStill}
use Rattle.memory_needs.specs.Need.{Table}
use Rattle.memory_bounds.specs.Theorem.{Storage, AreBounded}
use Rattle.memory_bounds.proofs.Kept.{others_keep}
use Rattle.memory_bounds.proofs.Applied.{stays, same_areas}
use Rattle.memory_bounds.proofs.Spares.{Spares, then_spares, acts_on, faulted}

pub bounded_still : (code : Code) (storage : Storage) (table : Table) (s t : State) → IsStill s t →
    AreBounded code storage table s → AreBounded code storage table t
bounded_still code storage table s t k b =
    record {
      is = λ q w row there row_is reported.
          others_keep code table s t w.activity.frames
          (λ a h. (stays code table s t k.objects (same_areas code table s t k.areas)).in_use a)
          (same_areas code table s t k.areas)
          (b.is q w row (sym (k.started q) ∙ there)
          (ap (λ (registry : List HandlerRow). handler_row registry w.handler) (sym k.registry) ∙ row_is) reported);
    }

pub start_spares : (code : Code) (s : State) (index : ℕ) (row : HandlerRow) (scope : ℕ) (body : Body) (now : ℕ) →
    Spares s (started_with code s index row scope body).state now
unfolding started_with opening used
start_spares code s index row scope body now = of (has_store_for s row.bytes)
  where
    t : State
    t = with_area s scope (innermost s.activity.areas) row.bytes

    x : MemoryArea
    x = record { scope = scope; parent = innermost s.activity.areas; bytes = row.bytes; is_open = true }

    a : Activity
    a = record {
      frames = record (new_frame code body None (Some row.at) (length s.areas) []) { opened = Some (length s.areas) } ∷ [];
      areas = length s.areas ∷ s.activity.areas;
      priority = row.priority;
    }

    more : Spares s t now
    more = record {
      in_use = λ n other. omega arith;
      areas = λ n y there. (y, get_left s.areas (x ∷ []) n y there, refl);
    }

    of : (c : Bool) → Spares s
        (if c then silently (with_activity t (ReleaseAt index) a)
        else fault_in s (ReleaseAt index) no_activity (class_position code.program row.class) StoreFull).state now
    of true = then_spares s t (with_activity t (ReleaseAt index) a) now more (acts_on t (ReleaseAt index) a now)
    of false = faulted s (ReleaseAt index) no_activity (class_position code.program row.class) StoreFull now

-- so it leaves all others as they were
pub start_keeps : (code : Code) (table : Table) (s : State) (index : ℕ) (row : HandlerRow) (scope : ℕ) (body : Body)
    (a : ℕ) → used (started_with code s index row scope body).state a ≤ used s a
start_keeps code table s index row scope body a =
    (start_spares code s index row scope body (suc a)).in_use a (λ e. omega (arith, e))
