use Rattle.std.proofs.Common.{◌≡◌, ℕ, List, take}
use Rattle.std.specs.BTreeSet.{contains}
use Rattle.std.specs.List.{list_any}
use Rattle.trace_audit.specs.Fires.{is_fire_of, key_at, key_cmp}
use Rattle.trace_audit.proofs.fire_keys.keys_of.Given as goal

abbrev pub invariant-loop-fire : goal.invariant-loop-fire
invariant-loop-fire l =
    (at : ℕ) (name : List ℕ) →
    contains key_cmp l.keys (key_at at name) ≡ list_any (is_fire_of l.from at name) (take l.fire-index l.fires)
