use Rattle.std.specs.BinaryHeap.{heap_items}
use Rattle.trace_audit.proofs.TableLaws.{indexed_registered}
use Rattle.trace_audit.proofs.tables.ReleaseTable.register.Goals as goal

pub returns-clause-kept : goal.returns-clause-kept
returns-clause-kept c =
    indexed_registered c.args.self.now.handlers.items c.push.new.self.items c.args.self.now.releases.items
    (heap_items c.args.self.now.keys) (record { priority = c.args.priority; indices = c.new-indices.result })
    c.requires.kept c.in_ok-push.ensures.items c.new-indices.ensures.items
