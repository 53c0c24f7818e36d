use Rattle.std.proofs.Common.{◌∙◌, rules}
use Rattle.std.proofs.lemmas.List.Sorted.{IsPartitionPoint-from_clause, IsPartitionedBy-ltb}
use Rattle.class_rows.specs.declared.nearest.Change.{Change}
use Rattle.class_rows.specs.Members.{is_before}
use Rattle.class_rows.proofs.NearestLemmas.{found_before}
use Rattle.class_rows.proofs.nearest.nearest_before.Goals as goal

pub returns : goal.returns
returns c = λ total o.
    let parted = IsPartitionedBy-ltb (λ (x : Change). x.before) c.args.changes.now c.args.count o.rising in
    let point = IsPartitionPoint-from_clause (is_before c.args.count) _ _ c.partition_point-behind.ensures.partitioned
    parted (λ a r q k. search rules) in
    c.latest.ensures
    ∙ found_before c.args.count c.args.changes.now _ c.partition_point-behind.ensures.bound point
