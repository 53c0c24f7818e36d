use Rattle.scj_model.specs.Choice.{by_priority}
use Rattle.scj_model.proofs.Following.{by_some_list, fair_listed, priority_is_fair}
use Rattle.scj_model.proofs.ListedRuns.{run_by_some_list}
use Rattle.scj_model.proofs.laws.priorities_follow_a_list.Goals as goal

pub returns : goal.returns
returns c =
    record {
      runs = λ code plan n. run_by_some_list code plan n;
      states = λ code plan moment s h. by_some_list code plan moment s (fair_listed code plan by_priority priority_is_fair h);
    }
