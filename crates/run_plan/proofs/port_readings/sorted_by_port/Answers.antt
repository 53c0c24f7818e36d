use Rattle.std.proofs.Common.{rules}
use Rattle.std.proofs.lemmas.List.Sorted.{answers_always}
use Rattle.scj_model.specs.declared.plans.ReadingRow.{ReadingRow}
use Rattle.run_plan.proofs.port_readings.sorted_by_port.Goals as goal

pub returns : goal.returns
returns c =
    rw (← c.in_ok-sorted.ensures.items)
    (record {
      ordered = c.in_ok-sort_by_key.ensures.sorted (λ (row : ReadingRow). (row.port, row.at)) (answers_always _ _ _ (λ f a r g h. search rules));
      stable = c.in_ok-sort_by_key.ensures.stable (λ (row : ReadingRow). (row.port, row.at)) (answers_always _ _ _ (λ f a r g h. search rules));
    })
