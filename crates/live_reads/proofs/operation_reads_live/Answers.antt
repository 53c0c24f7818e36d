use Rattle.live_reads.proofs.Reached.{operation_reads_live}
use Rattle.live_reads.proofs.operation_reads_live.Goals as goal

pub returns : goal.returns
returns c =
    λ code rows s look job activity f g below op finds none e frames operands this.
    operation_reads_live code rows s look job activity f g below op finds none e frames operands this
