use Rattle.run_releases.specs.Rows.{StoredReleases}
use Rattle.run_releases.proofs.Seen.{has_started_seen}
use Rattle.run_releases.proofs.history.Releases.has_started.Goals as goal

pub returns : goal.returns
returns c =
    let is : StoredReleases = record { rows = c.self.inside.rows.items; earlier = c.self.inside.earlier } in
    λ code s.
    rw (
      c.any_started.ensures,
      c.deref.ensures.value,
      c.deref-2.ensures.value,
      c.self.invariant.all_live,
      ← c.self.view_is,
    )
    (has_started_seen code s is)
