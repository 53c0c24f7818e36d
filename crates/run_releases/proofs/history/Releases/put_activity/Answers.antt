use Rattle.std.proofs.Common.{◌≡◌, ◌∙◌, true, refl, subst, sym}
use Rattle.scj_model.specs.State.{ReleaseAt, with_activity}
use Rattle.job_frames.specs.Frames.{activity_seen}
use Rattle.run_releases.specs.declared.rows.ReleaseStatus.TheVariants.{Started}
use Rattle.run_releases.specs.Rows.{StoredReleases, with_releases}
use Rattle.run_releases.specs.Releases.{status_set}
use Rattle.run_releases.specs.Counts.{is_live_at}
use Rattle.run_releases.proofs.Counted.{put_counted}
use Rattle.run_releases.proofs.Seen.{put_seen}
use Rattle.run_releases.proofs.history.Releases.put_activity.Goals as goal

pub invariant_of-self : goal.invariant_of-self
invariant_of-self c =
    let live : is_live_at c.self.inside.rows.items c.args.index ≡ true =
    rw (← c.deref.ensures.value) (sym c.is_live_there.ensures ∙ c.if-not-is_live_there.false) in
    rw (c.take_one.ensures, c.waiting_there.ensures, c.deref-2.ensures.value, c.set_status.ensures)
    (put_counted _ _ _ _ _ c.args.index (Started c.args.activity) live refl refl c.self.invariant)

pub returns-clause-seen : goal.returns-clause-seen
returns-clause-seen c = λ code s.
    let was : StoredReleases = record { rows = c.self.inside.rows.items; earlier = c.self.inside.earlier } in
    let P : StoredReleases → Type 0 = λ rs.
    with_activity (with_releases code s rs) (ReleaseAt c.args.index) (activity_seen code c.args.activity)
    ≡ with_releases code s (status_set c.args.index (Started c.args.activity) was) in
    rw c.set_status.ensures (subst P c.self.view_is (put_seen code s was c.args.index c.args.activity))
