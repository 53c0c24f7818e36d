use Rattle.std.proofs.Common.{rules, sym}
use Rattle.std.specs.BinaryHeap.{heap_items, heap_len}
use Rattle.trace_audit.specs.Index.{all_seen}
use Rattle.trace_audit.proofs.Picks.{has_keys_after_pop, none_picked_at}
use Rattle.trace_audit.proofs.keys.pick.Goals as goal

pub loop-key-preserved : goal.loop-key-preserved
loop-key-preserved c =
    record {
      ordered = search rules;
      keyed = has_keys_after_pop (all_seen c.args.handlers.now c.args.releases.now) (heap_items c.loop-key.keys)
          (heap_items c.pop.new.self) c.in-Some.key.now c.pop.result c.loop-key.invariant.keyed (search rules)
          c.in-Some.ensures.lookup c.pop.ensures.top c.pop.ensures.permutation (search rules);
    }

pub returns-clause-place : goal.returns-clause-place
returns-clause-place c =
    sym (none_picked_at (all_seen c.args.handlers.now c.args.releases.now) (heap_items c.loop-key.keys)
    (heap_len c.loop-key.keys) c.loop-key.invariant.keyed (search rules) (search rules))
