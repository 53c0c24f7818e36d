use Rattle.reference_sound.proofs.HoldsKept.{references_kept}
use Rattle.reference_sound.proofs.PhaseHolds.{start_keeps}
use Rattle.reference_sound.proofs.SequencerHolds.{sequencer_keeps}
use Rattle.reference_sound.proofs.references.operations_keep_references.Goals as goal

pub returns-clause-operations : goal.returns-clause-operations
returns-clause-operations c =
    λ code facts rows s job activity base is memory fine held step e. references_kept code facts rows s job activity is
    base held memory fine step e

pub returns-clause-starts : goal.returns-clause-starts
returns-clause-starts c =
    λ code s base held inside index release step e. (start_keeps code s base held inside index release).gives step e

pub returns-clause-sequencer : goal.returns-clause-sequencer
returns-clause-sequencer c =
    λ code s base held inside op step e. (sequencer_keeps code s base held inside op).gives step e
