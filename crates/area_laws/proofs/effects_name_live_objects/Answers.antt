use Rattle.area_laws.proofs.NamedObjects.{reached_names}
use Rattle.area_laws.proofs.effects_name_live_objects.Goals as goal

pub returns : goal.returns
returns c =
    λ plan s reached job activity f op rest below e frames r.
    reached_names c.args.checked.now.program c.checked_is_accepted.ensures plan s reached job activity f op rest below e
    frames r
