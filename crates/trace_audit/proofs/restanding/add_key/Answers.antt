use Rattle.std.proofs.Common.{map, sym, ◌∙◌}
use Rattle.std.specs.BinaryHeap.{heap_items}
use Rattle.trace_audit.specs.Index.{handler_seen, rank_of}
use Rattle.trace_audit.proofs.TableLaws.{more_keys}
use Rattle.trace_audit.proofs.restanding.add_key.Goals as goal

pub returns-in_ok-push-clause-keys : goal.returns-in_ok-push-clause-keys
returns-in_ok-push-clause-keys c =
    more_keys (heap_items c.args.keys.now) (heap_items c.push.new.self) c.in-Some.rank c.args.index c.key_of.result
    (rank_of (map handler_seen c.args.handlers.now) c.args.release) c.in_ok-push.ensures.permutation c.key_of.ensures
    (sym c.rank_of.ensures.rank ∙ c.in-Some.is)
