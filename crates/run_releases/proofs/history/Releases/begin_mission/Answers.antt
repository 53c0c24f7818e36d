use Rattle.std.proofs.Common.{◌≡◌, arith, length}
use Rattle.run_releases.proofs.Counted.{mission_counted}
use Rattle.run_releases.proofs.history.Releases.begin_mission.Goals as goal

pub invariant_of-self : goal.invariant_of-self
invariant_of-self c =
    let all : c.len-self-inside.result ≡ length c.self.inside.rows.items = omega arith in
    rw (c.clear.ensures.items, c.clear-2.ensures.items, all) (mission_counted _ _ _ _ _ c.self.invariant)
