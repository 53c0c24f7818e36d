use Rattle.std.proofs.Common.{length, refl}
use Rattle.std.proofs.lemmas.Option.{slice_get_read}
use Rattle.trace_audit.proofs.handlers.add_index.Goals as goal

pub returns : goal.returns
returns c =
    record {
      row = c.index_mut.result.now;
      new = record { priority = c.index_mut.result.now.priority; indices = c.push.new.self };
      there = slice_get_read c.args.handlers.now.items (length c.args.handlers.now.items) c.args.handler
          c.index_mut.result.now refl c.requires c.index_mut.ensures.value;
      same_priority = refl;
      pushed = c.in_ok-push.ensures.items;
      are = refl;
    }
