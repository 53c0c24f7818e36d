-- The run of a mission that registers no handler, computed from the nodes on.
use Rattle.std.proofs.Common.{◌≡◌, [], ◌∷◌, refl, codes}
use Rattle.scj_model.proofs.Computing.{computing_machine}
use Rattle.scj_model.proofs.Printed.{printed, with_store}
use Rattle.scj_model.proofs.ProgramWithoutHandlers.{without_handlers}

mission_without_handlers :
    printed without_handlers (codes "B.java" ∷ codes "E.java" ∷ []) (with_store 100 400)
    ≡ codes "30 mission Main\n32 exec\n32 cleanup\n42 done\n"
unfolding computing_machine
mission_without_handlers = refl
