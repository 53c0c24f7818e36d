use Rattle.std.proofs.Common.{rules, of_calls, sym}
use Rattle.std.proofs.lemmas.List.Sorted.{IsPartitionPoint-from_clause}
use Rattle.run_plan.specs.Index.{is_up_to}
use Rattle.run_plan.proofs.ReadingSearch.{IsPoint, last_before, nothing_before, other_before, parted}
use Rattle.run_plan.proofs.port_readings.row_at.Goals as goal

pub returns-then-behind-eq0 : goal.returns-then-behind-eq0
returns-then-behind-eq0 c =
    let point : IsPoint c.args.port c.args.unit c.args.rows.now c.partition_point-behind.result = IsPartitionPoint-from_clause (is_up_to c.args.port c.args.unit) _ _ c.partition_point-behind.ensures.partitioned (parted _ _ _ c.requires) (λ a r q k. search (rules, of_calls)) in
    sym (nothing_before _ _ _ _ point c.if-behind-eq0.true)

pub returns-then-row-port : goal.returns-then-row-port
returns-then-row-port c =
    let point : IsPoint c.args.port c.args.unit c.args.rows.now c.partition_point-behind.result = IsPartitionPoint-from_clause (is_up_to c.args.port c.args.unit) _ _ c.partition_point-behind.ensures.partitioned (parted _ _ _ c.requires) (λ a r q k. search (rules, of_calls)) in
    sym (last_before _ _ _ _ _ c.requires c.partition_point-behind.ensures.bound point c.if-behind-eq0.false c.if-row-port.true)

pub returns-else-row-port : goal.returns-else-row-port
returns-else-row-port c =
    let point : IsPoint c.args.port c.args.unit c.args.rows.now c.partition_point-behind.result = IsPartitionPoint-from_clause (is_up_to c.args.port c.args.unit) _ _ c.partition_point-behind.ensures.partitioned (parted _ _ _ c.requires) (λ a r q k. search (rules, of_calls)) in
    sym (other_before _ _ _ _ _ c.requires c.partition_point-behind.ensures.bound point c.if-behind-eq0.false c.if-row-port.false)
