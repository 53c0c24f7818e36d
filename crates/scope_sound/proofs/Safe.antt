-- Each accepted program is safe.
use Rattle.scj_tree.specs.Forest.{Forest}
use Rattle.scj_model.specs.Code.{code_of}
use Rattle.scj_model.specs.Safety.{IsSafe}
use Rattle.accepted_laws.specs.Programs.{IsAcceptedProgram}
use Rattle.flow_facts.proofs.AllFacts.{all_facts}
use Rattle.mission_facts.proofs.AllFacts.{sequencer_facts}
use Rattle.scope_sound.specs.Sound.{HasFacts}
use Rattle.scope_sound.proofs.CallsByTypes.{safe_by_priority}
use Rattle.scope_sound.proofs.InAnyOrder.{safe_in_any_order}
use Rattle.scope_sound.proofs.Operated.{operated}

pub has_facts : (forest : Forest) → IsAcceptedProgram forest → HasFacts (code_of forest)
has_facts forest accepted =
    record { bodies = all_facts forest accepted; sequencer = sequencer_facts forest accepted }

pub safe : (forest : Forest) → IsAcceptedProgram forest → IsSafe (code_of forest)
safe forest accepted =
    let facts = has_facts forest accepted in
    record {
      in_any_order = safe_in_any_order (code_of forest) facts
          (operated (code_of forest) facts.bodies facts.sequencer);
      under_priorities = safe_by_priority forest accepted facts;
    }
