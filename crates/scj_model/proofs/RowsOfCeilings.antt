-- Two periodic handlers that share an object with a synchronized method: under its ceiling, and above it.
use Rattle.std.proofs.Common.{◌≡◌, ◌++◌, [], ◌∷◌, refl, codes}
use Rattle.scj_model.proofs.Computing.{computing_machine}
use Rattle.scj_model.proofs.Printed.{printed, with_store}
use Rattle.scj_model.proofs.ProgramCeiling.{ceiling}
use Rattle.scj_model.proofs.ProgramCeilingTooLow.{ceiling_too_low}

under_the_ceiling :
    printed ceiling (codes "B.java" ∷ codes "D.java" ∷ []) (with_store 150 704)
    ≡ codes "30 mission Main\n58 register 1 W 5\n78 register 2 W 9\n79 exec\n80 arrive 1 1\n80 run 1 1\n85 prio 1 9\n"
    ++ codes "88 arrive 2 1\n94 print n 5\n95 prio 1 5\n96 run 2 1\n110 print n 14\n112 end 2 1\n113 run 1 1\n"
    ++ codes "113 end 1 1\n114 idle\n150 stopped\n"
unfolding computing_machine
under_the_ceiling = refl

above_the_ceiling :
    printed ceiling_too_low (codes "B.java" ∷ codes "D.java" ∷ []) (with_store 150 704)
    ≡ codes "30 mission Main\n58 register 1 W 5\n78 register 2 W 9\n79 exec\n80 arrive 1 1\n80 run 1 1\n85 prio 1 8\n"
    ++ codes "88 arrive 2 1\n88 run 2 1\n93 fault CeilingViolation D.java:9\n93 end 2 1\n94 run 1 1\n100 print n 5\n"
    ++ codes "101 prio 1 5\n102 end 1 1\n103 idle\n150 stopped\n"
unfolding computing_machine
above_the_ceiling = refl
