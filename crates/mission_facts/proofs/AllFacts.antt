-- All that the mission sequencer asks of a program holds of each accepted one.
use Rattle.scj_tree.specs.Forest.{Forest}
use Rattle.accepted_laws.specs.Programs.{IsAcceptedProgram}
use Rattle.accepted_laws.proofs.ClassSorts.{well_sorted}
use Rattle.scj_model.specs.Code.{code_of}
use Rattle.mission_facts.proofs.MissionClasses.{sequencer_fact, mission_fact, handler_fact}
use Rattle.mission_facts.proofs.Roots.{root, root_is_no_missions}
use Rattle.mission_facts.proofs.Runnables.{handler_within, runnable_scope}
use Rattle.mission_facts.proofs.Safelets.{safelet_fact, safelet_there}
use Rattle.mission_facts.proofs.Statics.{static_literal}
use Rattle.mission_sound.specs.SequencerFacts.{SequencerFacts}

pub sequencer_facts : (forest : Forest) → IsAcceptedProgram forest → SequencerFacts (code_of forest)
unfolding code_of
sequencer_facts forest a =
    let sorted = well_sorted forest a.is_read in
    record {
      root = root forest a.is_accepted;
      root_is_no_missions = root_is_no_missions forest a.is_accepted a.whole sorted;
      safelet_there = safelet_there forest a.is_accepted a.whole sorted a.is_read;
      safelets = safelet_fact forest a.is_accepted a.whole sorted a.is_read;
      sequencers = sequencer_fact forest a.is_accepted a.whole sorted a.is_read;
      missions = mission_fact forest a.is_accepted a.whole sorted a.is_read;
      handlers = handler_fact forest a.is_accepted a.whole sorted a.is_read;
      handlers_are_classes = handler_within forest a.is_accepted a.whole sorted;
      runnables = runnable_scope forest a.is_accepted a.whole sorted;
      statics = static_literal forest a.is_accepted a.whole sorted a.is_read;
    }
