use Rattle.object_slots.proofs.SlotLemmas.{made_is}
use Rattle.object_slots.proofs.slots.new_slots.Goals as goal

pub returns : goal.returns
returns c =
    made_is c.args.layout.now c.args.class _ _ _ _ c.hidden.ensures c.in_ok-slots.ensures c.kinds.ensures
    c.in_ok-put_defaults.ensures
