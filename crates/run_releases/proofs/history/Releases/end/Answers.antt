use Rattle.std.proofs.Common.{◌≡◌, subst}
use Rattle.scj_model.specs.State.{Ended as EndedSeen, with_status as state_with_status}
use Rattle.run_releases.specs.declared.rows.ReleaseStatus.TheVariants.{Ended}
use Rattle.run_releases.specs.Rows.{StoredReleases, with_releases}
use Rattle.run_releases.specs.Releases.{status_set}
use Rattle.run_releases.proofs.Counted.{ended_counted}
use Rattle.run_releases.proofs.Seen.{status_seen_at}
use Rattle.run_releases.proofs.history.Releases.end.Goals as goal

pub invariant_of-self : goal.invariant_of-self
invariant_of-self c =
    rw (c.forget.ensures, c.take_one.ensures, c.waiting_there.ensures, c.deref.ensures.value, c.set_status.ensures)
    (ended_counted _ _ _ _ _ c.args.index c.self.invariant)

pub returns-clause-seen : goal.returns-clause-seen
returns-clause-seen c = λ code s.
    let was : StoredReleases = record { rows = c.self.inside.rows.items; earlier = c.self.inside.earlier } in
    let P : StoredReleases → Type 0 = λ rs.
    state_with_status (with_releases code s rs) c.args.index EndedSeen ≡ with_releases code s
    (status_set c.args.index Ended was) in
    rw c.set_status.ensures (subst P c.self.view_is (status_seen_at code s was c.args.index Ended))
