-- What is told of a place where there is no release.
use Rattle.std.specs.Prelude.{Option, Some, None, slice_get}
use Rattle.std.proofs.Common.{◌≡◌, ◌∙◌, ℕ, List, [], ◌++◌, ap, sym}
use Rattle.std.proofs.lemmas.List.{append-nil}
use Rattle.scj_model.specs.declared.events.Event.{Event}
use Rattle.run_releases.specs.declared.rows.Release.{Release as StoredRelease}
use Rattle.run_releases.specs.Counts.{report_at, report_row}

pub reported_nowhere : (reported : List Event) (rows : List StoredRelease) (unit index : ℕ) → None ≡ slice_get rows index →
    reported ≡ reported ++ report_at rows unit index
reported_nowhere reported rows unit index e =
    sym (append-nil reported)
    ∙ ap (λ (o : Option StoredRelease). reported
    ++ elim o as (λ z. List Event) [ None ↦ [] | Some r ↦ report_row unit r ]) e
