use Rattle.scj_model.specs.Sequencer.{phase_after}
use Rattle.scj_model.specs.Run.{ref_op, one_unit}
use Rattle.scj_model.proofs.RunLemmas.{one_of}
use Rattle.scj_model.proofs.laws.one_result.Goals as goal

pub returns : goal.returns
returns c =
    record {
      operation = λ code rows s job a b es fs h k. one_of (ref_op code rows s job) a b es fs h k;
      phase = λ code s a b es fs h k. one_of (phase_after code s) a b es fs h k;
      unit = λ code plan policy s a b es fs h k. one_of (one_unit code plan policy s) a b es fs h k;
    }
