use Rattle.frame_sound.proofs.NextOperation.{next_fine}
use Rattle.frame_sound.proofs.operations.operations_are_fine.Goals as goal

pub returns : goal.returns
returns c = λ code facts areas world list class sig f op rest fine heap statics r. next_fine code facts areas world list
    class sig f op rest fine heap statics r
