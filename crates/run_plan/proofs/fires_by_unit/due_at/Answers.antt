use Rattle.std.proofs.Common.{◌∙◌, of_calls, rules}
use Rattle.std.proofs.lemmas.List.Sorted.{IsPartitionPoint-from_clause}
use Rattle.std.specs.List.Sorted.{IsPartitionPoint}
use Rattle.std.specs.Prelude.{◌≡◌, nat_lt, true, false}
use Rattle.scj_model.specs.declared.plans.Fire.{Fire}
use Rattle.run_plan.proofs.FireOrder.{at_point, parted}
use Rattle.run_plan.proofs.fires_by_unit.due_at.Goals as goal

pub returns : goal.returns
returns c =
    let point : IsPartitionPoint (λ (f : Fire). nat_lt f.at c.args.at ≡ true) (λ (f : Fire). nat_lt f.at c.args.at ≡ false) c.args.fires.now c.partition_point-index.result =
    IsPartitionPoint-from_clause (λ (f : Fire). nat_lt f.at c.args.at) _ _ c.partition_point-index.ensures.partitioned (parted _ _ c.requires) (λ a r q k. search (rules, of_calls)) in
    c.due_from.ensures ∙ at_point _ _ _ c.requires c.partition_point-index.ensures.bound point
