-- Runs of a safelet alone, computed through the definitions from the nodes on: arithmetic, a division by zero, a loop.
use Rattle.std.proofs.Common.{◌≡◌, [], ◌∷◌, refl, codes}
use Rattle.scj_model.proofs.Computing.{computing_machine}
use Rattle.scj_model.proofs.Printed.{printed, with_store}
use Rattle.scj_model.proofs.ProgramA.{a}
use Rattle.scj_model.proofs.ProgramW.{w}
use Rattle.scj_model.proofs.ProgramZ.{z}
use Rattle.scj_model.proofs.ProgramZSmall.{z_small}

arithmetic :
    printed a (codes "A.java" ∷ []) (with_store 100 64)
    ≡ codes "11 print a -2147483648\n16 print b 0\n20 print c 2\n24 fault NullPointer A.java:1\n24 halted\n"
unfolding computing_machine
arithmetic = refl

arithmetic_without_store :
    printed a (codes "A.java" ∷ []) (with_store 100 63) ≡ codes "0 fault StoreFull A.java:1\n0 halted\n"
unfolding computing_machine
arithmetic_without_store = refl

arithmetic_stopped :
    printed a (codes "A.java" ∷ []) (with_store 12 64) ≡ codes "11 print a -2147483648\n12 stopped\n"
unfolding computing_machine
arithmetic_stopped = refl

nothing_runs : printed a (codes "A.java" ∷ []) (with_store 0 64) ≡ codes "0 stopped\n"
unfolding computing_machine
nothing_runs = refl

loop_that_prints :
    printed w (codes "W.java" ∷ []) (with_store 100 64)
    ≡ codes "12 print i 0\n22 print i 1\n34 fault NullPointer W.java:1\n34 halted\n"
unfolding computing_machine
loop_that_prints = refl

division_by_zero :
    printed z (codes "Z.java" ∷ []) (with_store 100 64) ≡ codes "7 fault DivideByZero Z.java:5\n7 halted\n"
unfolding computing_machine
division_by_zero = refl

safelet_too_large :
    printed z_small (codes "Z.java" ∷ []) (with_store 100 64) ≡ codes "1 fault MemoryFull Z.java:1\n1 halted\n"
unfolding computing_machine
safelet_too_large = refl
