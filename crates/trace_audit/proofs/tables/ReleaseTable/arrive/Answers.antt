use Rattle.std.proofs.Common.{◌≡◌, ◌<◌, ◌-◌, ℕ, length, rules, subst}
use Rattle.std.specs.BinaryHeap.{heap_items}
use Rattle.trace_audit.specs.Index.{HasIndexAdded, indices_end}
use Rattle.trace_audit.proofs.TableLaws.{indexed_arrived, table_arrived}
use Rattle.trace_audit.proofs.tables.ReleaseTable.arrive.Goals as goal

pub returns-clause-seen : goal.returns-clause-seen
returns-clause-seen c =
    let index : c.len-index.result ≡ length c.args.self.now.releases.items = search rules in
    let added : HasIndexAdded c.args.self.now.handlers.items c.add_index.new.handlers.items (c.args.handler - 1)
    (length c.args.self.now.releases.items) =
    subst (λ (n : ℕ). HasIndexAdded c.args.self.now.handlers.items c.add_index.new.handlers.items (c.args.handler - 1) n)
    index c.in_ok-add_index.ensures in
    table_arrived c.args.self.now.handlers.items c.add_index.new.handlers.items c.args.self.now.releases.items
    c.push.new.self.items c.args.handler c.args.number c.requires.next added c.in_ok-push.ensures.items

pub returns-clause-kept : goal.returns-clause-kept
returns-clause-kept c =
    let index : c.len-index.result ≡ length c.args.self.now.releases.items = search rules in
    let added : HasIndexAdded c.args.self.now.handlers.items c.add_index.new.handlers.items (c.args.handler - 1)
    (length c.args.self.now.releases.items) =
    subst (λ (n : ℕ). HasIndexAdded c.args.self.now.handlers.items c.add_index.new.handlers.items (c.args.handler - 1) n)
    index c.in_ok-add_index.ensures in
    let few : length c.args.self.now.releases.items < indices_end = search rules in
    indexed_arrived c.args.self.now.handlers.items c.add_index.new.handlers.items c.args.self.now.releases.items
    c.push.new.self.items c.args.handler c.args.number c.requires.next added c.in_ok-push.ensures.items
    (heap_items c.args.self.now.keys) (heap_items c.add_key.new.keys) c.requires.kept few
    c.in_ok-add_key.ensures.heap (search rules)
