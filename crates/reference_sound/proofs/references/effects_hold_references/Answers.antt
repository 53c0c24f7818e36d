use Rattle.frame_sound.specs.Fine.{IsOnList}
use Rattle.reference_sound.proofs.NextHolds.{next_holds}
use Rattle.reference_sound.proofs.references.effects_hold_references.Goals as goal

pub returns : goal.returns
returns c = λ code facts areas world list class sig f op rest fine heap statics ready locals. next_holds code facts
    areas world list class sig f op rest (IsOnList (record { areas = areas; objects = world.object_at }) list)
    (λ r h. h) fine heap statics ready locals
