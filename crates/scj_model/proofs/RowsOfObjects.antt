-- Runs of a safelet with an array, and with a sequencer that has no mission, computed from the nodes on.
use Rattle.std.proofs.Common.{◌≡◌, [], ◌∷◌, refl, codes}
use Rattle.scj_model.proofs.Computing.{computing_machine}
use Rattle.scj_model.proofs.Printed.{printed, with_store}
use Rattle.scj_model.proofs.ProgramN.{n}
use Rattle.scj_model.proofs.ProgramNSmall.{n_small}

array_and_no_mission :
    printed n (codes "N.java" ∷ []) (with_store 100 400) ≡ codes "19 print s 7\n31 done\n"
unfolding computing_machine
array_and_no_mission = refl

sequencer_too_large :
    printed n_small (codes "N.java" ∷ []) (with_store 100 400)
    ≡ codes "19 print s 7\n22 fault MemoryFull N.java:2\n22 halted\n"
unfolding computing_machine
sequencer_too_large = refl
