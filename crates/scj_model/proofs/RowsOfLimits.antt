-- As many waiting releases as may wait, and one more; and as many frames as a job may have, and one more.
use Rattle.std.proofs.Common.{◌≡◌, ◌++◌, [], ◌∷◌, refl, codes}
use Rattle.scj_model.specs.declared.plans.Fire.{Fire}
use Rattle.scj_model.specs.declared.plans.FireFrom.TheVariants.{Start}
use Rattle.std.specs.Prelude.{ℕ, ◌+◌, ◌*◌, List, replicate, decimal, zero, suc}
use Rattle.scj_model.proofs.Computing.{computing_machine}
use Rattle.scj_model.proofs.Printed.{printed, with_fires}
use Rattle.scj_model.proofs.ProgramEmptyHandler.{empty_handler}
use Rattle.scj_model.proofs.ProgramEndlessCalls.{endless_calls}

abbrev fire : ℕ → Fire
fire unit = record { at = unit; handler = codes "H"; from = Start }

frames_full :
    printed endless_calls (codes "B.java" ∷ codes "C.java" ∷ []) (with_fires 200 600 (fire 50 ∷ []))
    ≡ codes "30 mission Main\n42 register 1 H 7\n43 exec\n44 idle\n50 arrive 1 1\n50 run 1 1\n"
    ++ codes "178 fault DepthFull C.java:9\n178 end 1 1\n179 idle\n200 stopped\n"
unfolding computing_machine
frames_full = refl

-- the releases 1 to k arrive in unit 50
abbrev arrivals_up_to : ℕ → List ℕ
arrivals_up_to zero = []
arrivals_up_to (suc k) = arrivals_up_to k ++ (codes "50 arrive 1 " ++ (decimal (k + 1) ++ codes "\n"))

-- each of the releases 1 to k runs in one unit and ends in the next
abbrev runs_up_to : ℕ → List ℕ
runs_up_to zero = []
runs_up_to (suc k) =
    runs_up_to k
    ++ (decimal (50 + 2 * k) ++ (codes " run 1 " ++ (decimal (k + 1) ++ (codes "\n"
    ++ (decimal (51 + 2 * k) ++ (codes " end 1 " ++ (decimal (k + 1) ++ codes "\n")))))))

waiting_releases_full :
    printed empty_handler (codes "B.java" ∷ codes "C.java" ∷ []) (with_fires 200 600 (replicate 65 (fire 50)))
    ≡ codes "30 mission Main\n42 register 1 H 7\n43 exec\n44 idle\n"
    ++ (arrivals_up_to 64 ++ (codes "50 lost 1\n" ++ (runs_up_to 64 ++ codes "178 idle\n200 stopped\n")))
unfolding computing_machine
waiting_releases_full = refl
