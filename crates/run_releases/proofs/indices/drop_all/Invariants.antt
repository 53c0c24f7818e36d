use Rattle.std.proofs.Common.{◌≡◌, ℕ, List, take}
use Rattle.std.specs.List.{fold}
use Rattle.scj_model.specs.State.{changed}
use Rattle.run_releases.specs.declared.rows.Release.{Release as StoredRelease}
use Rattle.run_releases.specs.Rows.{dropped_row}
use Rattle.run_releases.proofs.indices.drop_all.Given as goal

abbrev pub invariant-loop-index : goal.invariant-loop-index
invariant-loop-index l =
    l.rows.items ≡ fold (λ (some : List StoredRelease) (index : ℕ). changed dropped_row index some) l.initial.rows.items
    (take l.index-index l.indices)
