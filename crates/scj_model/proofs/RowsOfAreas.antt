-- Private memories: exactly filled, one byte too small, entered by two releases at once, and entered in a cycle.
use Rattle.std.proofs.Common.{◌≡◌, ◌++◌, [], ◌∷◌, refl, codes}
use Rattle.scj_model.specs.declared.plans.Fire.{Fire}
use Rattle.scj_model.specs.declared.plans.FireFrom.TheVariants.{Start}
use Rattle.std.specs.Prelude.{ℕ}
use Rattle.scj_model.proofs.Computing.{computing_machine}
use Rattle.scj_model.proofs.Printed.{printed, with_store, with_fires}
use Rattle.scj_model.proofs.ProgramTwoBoxes.{two_boxes}
use Rattle.scj_model.proofs.ProgramOneByteLess.{one_byte_less}
use Rattle.scj_model.proofs.ProgramTwoHandlers.{two_handlers}
use Rattle.scj_model.proofs.ProgramScopedCycle.{scoped_cycle}

abbrev fire : ℕ → Fire
fire unit = record { at = unit; handler = codes "H"; from = Start }

memory_exactly_filled :
    printed two_boxes (codes "B.java" ∷ codes "C.java" ∷ []) (with_fires 100 1000 (fire 50 ∷ []))
    ≡ codes "30 mission Main\n42 register 1 H 7\n43 exec\n44 idle\n50 arrive 1 1\n50 run 1 1\n68 print ok 0\n69 end 1 1\n"
    ++ codes "70 idle\n100 stopped\n"
unfolding computing_machine
memory_exactly_filled = refl

memory_one_byte_too_small :
    printed one_byte_less (codes "B.java" ∷ codes "C.java" ∷ []) (with_fires 100 1000 (fire 50 ∷ []))
    ≡ codes "30 mission Main\n42 register 1 H 7\n43 exec\n44 idle\n50 arrive 1 1\n50 run 1 1\n"
    ++ codes "59 fault MemoryFull C.java:8\n59 end 1 1\n60 idle\n100 stopped\n"
unfolding computing_machine
memory_one_byte_too_small = refl

pub store_exactly_filled :
    printed two_handlers (codes "B.java" ∷ codes "I.java" ∷ []) (with_store 200 1000)
    ≡ codes "30 mission Main\n47 register 1 W 5\n63 register 2 W 9\n64 exec\n65 arrive 1 1\n65 run 1 1\n80 arrive 2 1\n80 run 2 1\n102 print q 9\n104 end 2 1\n105 run 1 1\n112 print q 5\n114 end 1 1\n115 idle\n200 stopped\n"
unfolding computing_machine
store_exactly_filled = refl

store_one_byte_too_small :
    printed two_handlers (codes "B.java" ∷ codes "I.java" ∷ []) (with_store 200 999)
    ≡ codes "30 mission Main\n47 register 1 W 5\n63 register 2 W 9\n64 exec\n65 arrive 1 1\n65 run 1 1\n80 arrive 2 1\n"
    ++ codes "80 run 2 1\n90 fault StoreFull I.java:8\n90 end 2 1\n91 run 1 1\n98 print q 5\n100 end 1 1\n101 idle\n"
    ++ codes "200 stopped\n"
unfolding computing_machine
store_one_byte_too_small = refl

scope_entered_in_a_cycle :
    printed scoped_cycle (codes "B.java" ∷ codes "J.java" ∷ []) (with_fires 150 632 (fire 60 ∷ fire 100 ∷ []))
    ≡ codes "30 mission Main\n55 register 1 H 7\n56 exec\n57 idle\n60 arrive 1 1\n60 run 1 1\n70 print in 1\n"
    ++ codes "78 fault ScopedCycle J.java:6\n78 end 1 1\n79 idle\n100 arrive 1 2\n100 run 1 2\n110 print in 1\n"
    ++ codes "118 fault ScopedCycle J.java:6\n118 end 1 2\n119 idle\n150 stopped\n"
unfolding computing_machine
scope_entered_in_a_cycle = refl
