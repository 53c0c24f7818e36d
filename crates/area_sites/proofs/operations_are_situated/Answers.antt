use Rattle.area_sites.proofs.Situated.{reached_situated}
use Rattle.area_sites.proofs.operations_are_situated.Goals as goal

pub returns : goal.returns
returns c =
    λ plan s reached.
    reached_situated c.args.checked.now.program c.checked_is_accepted.ensures plan s reached
