use Rattle.run_releases.specs.Rows.{StoredReleases}
use Rattle.run_releases.proofs.Seen.{choice_seen}
use Rattle.run_releases.proofs.history.Releases.chosen.Goals as goal

pub returns : goal.returns
returns c =
    let is : StoredReleases = record { rows = c.self.inside.rows.items; earlier = c.self.inside.earlier } in
    λ code s.
    rw (c.choose.ensures, c.deref.ensures.value, c.deref-2.ensures.value, c.self.invariant.all_live, ← c.self.view_is)
    (choice_seen code s is c.args.registry.now)
