use Rattle.run_releases.specs.Rows.{StoredReleases}
use Rattle.run_releases.proofs.Counted.{emptied_counted}
use Rattle.run_releases.proofs.Seen.{activity_seen_at}
use Rattle.run_releases.proofs.history.Releases.take_activity.Goals as goal

pub invariant_of-self : goal.invariant_of-self
invariant_of-self c = rw c.take_from.ensures.left (emptied_counted _ _ _ _ _ c.args.index c.self.invariant)

pub returns-clause-seen : goal.returns-clause-seen
returns-clause-seen c =
    let was : StoredReleases = record { rows = c.self.inside.rows.items; earlier = c.self.inside.earlier } in
    λ code s. rw (c.take_from.ensures.taken, ← c.self.view_is) (activity_seen_at code s was c.args.index)
