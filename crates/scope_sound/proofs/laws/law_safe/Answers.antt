use Rattle.scope_sound.proofs.Safe.{safe}
use Rattle.scope_sound.proofs.laws.law_safe.Goals as goal

pub returns : goal.returns
returns c = safe c.args.checked.now.program c.checked_is_accepted.ensures
