-- A replay, as the code keeps it.
use Rattle.trace_audit.specs.declared.replays.Replay.{Replay as KeptReplay}
use Rattle.trace_audit.specs.Index.{seen}
use Rattle.trace_audit.specs.Replay.{Replay}

abbrev pub replay_seen : KeptReplay → Replay
replay_seen replay =
    record {
      all = seen replay.table;
      last_choice = replay.last_choice;
      executes_since = replay.executes_since;
      unit = replay.unit;
      owes_choice = replay.owes_choice;
      has_choice = replay.has_choice;
      is_over = replay.is_over;
    }
