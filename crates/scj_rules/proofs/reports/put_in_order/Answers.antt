use Rattle.std.proofs.lemmas.List.Filters.{dedup_is}
use Rattle.scj_rules.proofs.OrderLemmas.{is_same_finding, in_report_order, same_findings}
use Rattle.scj_rules.proofs.reports.put_in_order.Goals as goal

pub returns-clause-in_order : goal.returns-clause-in_order
returns-clause-in_order c =
    let kept = dedup_is is_same_finding c.sort_unstable.new.self.items c.dedup.new.self.items c.dedup.ensures.filtered
    in
    rw kept (in_report_order c.sort_unstable.new.self.items c.sort_unstable.ensures.sorted)

pub returns-clause-same : goal.returns-clause-same
returns-clause-same c =
    let kept = dedup_is is_same_finding c.sort_unstable.new.self.items c.dedup.new.self.items c.dedup.ensures.filtered
    in
    rw kept (same_findings c.args.found.now.items c.sort_unstable.new.self.items c.sort_unstable.ensures.permutation)
