use Rattle.std.proofs.Common.{◌≡◌, ◌==◌, ◌∙◌, Some, sym, ap}
use Rattle.std.specs.HashMap.{get}
use Rattle.class_rows.specs.Members.{changes_under, nearest_before}
use Rattle.class_rows.proofs.nearest.NearestMembers.nearest_above.Goals as goal

pub returns-clause-nearest : goal.returns-clause-nearest
returns-clause-nearest c = λ kind forest a.
    let count = c.in_ok-count.count in
    let reported : get ◌==◌ c.args.self.now.reported c.args.class ≡ Some count =
    sym (rw c.number.ensures at (c.copied.ensures ∙ c.get.ensures.value)) ∙ c.in_ok-count.was in
    let is : c.nearest_before.result ≡ nearest_before count (changes_under c.args.self.now.changes c.args.name.now) =
    c.nearest_before.ensures c.args.self.now.count (rw c.changes_of.ensures (a.in_order c.args.name.now))
    ∙ ap (nearest_before count) c.changes_of.ensures in
    rw is ((a.reported c.args.class count reported).1 c.args.name.now)
