-- A mission that a release ends: a waiting release is dropped, and a later fire has no effect.
use Rattle.std.proofs.Common.{◌≡◌, ◌++◌, [], ◌∷◌, refl, codes}
use Rattle.scj_model.specs.declared.plans.Fire.{Fire}
use Rattle.scj_model.specs.declared.plans.FireFrom.TheVariants.{Start}
use Rattle.std.specs.Prelude.{ℕ}
use Rattle.scj_model.proofs.Computing.{computing_machine}
use Rattle.scj_model.proofs.Printed.{printed, with_fires}
use Rattle.scj_model.proofs.ProgramEndsItself.{ends_itself}

abbrev fire : ℕ → Fire
fire unit = record { at = unit; handler = codes "H"; from = Start }

termination :
    printed ends_itself (codes "B.java" ∷ codes "C.java" ∷ []) (with_fires 100 600 (fire 50 ∷ fire 53 ∷ fire 54 ∷ []))
    ≡ codes "30 mission Main\n42 register 1 H 7\n43 exec\n44 idle\n50 arrive 1 1\n50 run 1 1\n53 arrive 1 2\n53 terminate\n"
    ++ codes "53 drop 1 2\n54 miss H\n55 print x 1\n56 end 1 1\n56 cleanup\n66 done\n"
unfolding computing_machine
termination = refl
