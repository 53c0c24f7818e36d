use Rattle.scj_model.specs.Choice.{by_priority}
use Rattle.scj_model.specs.Run.{run, trace}
use Rattle.scj_model.proofs.LastLines.{reported_run, trace_ends, stuck_trace}
use Rattle.scj_model.proofs.laws.last_line.Goals as goal

pub returns : goal.returns
unfolding trace
returns c =
    record {
      ends = λ code plan n h. trace_ends n (run code plan by_priority n) (reported_run code plan by_priority n) h;
      none = λ code plan n h. stuck_trace n (run code plan by_priority n) (reported_run code plan by_priority n) h;
    }
