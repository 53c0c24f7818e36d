use Rattle.scj_model.specs.Choice.{by_priority}
use Rattle.scj_model.proofs.Following.{by_some_list, fair_listed, priority_is_fair}
use Rattle.scj_model.proofs.ListedRuns.{safe_run}
use Rattle.scj_model.proofs.laws.safety_reaches_the_trace.Goals as goal

pub returns : goal.returns
returns c =
    record {
      goes_on = λ code plan n safe. safe_run code plan safe n;
      none_dangles = λ code plan moment s safe h.
          let l = by_some_list code plan moment s (fair_listed code plan by_priority priority_is_fair h) in
          safe.none_dangles plan l.0 moment s l.1;
    }
