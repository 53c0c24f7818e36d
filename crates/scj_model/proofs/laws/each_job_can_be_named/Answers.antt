use Rattle.scj_model.specs.State.{TurnOf}
use Rattle.scj_model.specs.Run.{with_turn}
use Rattle.scj_model.specs.Choice.{by_list}
use Rattle.scj_model.specs.Reached.{Operated}
use Rattle.scj_model.proofs.Following.{by_some_list}
use Rattle.scj_model.proofs.ListedRuns.{release_named, sequencer_named}
use Rattle.scj_model.proofs.laws.each_job_can_be_named.Goals as goal

pub returns : goal.returns
returns c =
    record {
      release = λ code plan choices s index step h m e. by_some_list code plan Operated (with_turn step.state (TurnOf index)) (release_named code plan choices s index step h m e);
      sequencer = λ code plan choices s step h m e. sequencer_named code plan (by_list choices) s step h m e;
    }
