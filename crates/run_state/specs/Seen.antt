-- The state of a run as the code keeps it, and the state of the definitions that is seen in it.
use Rattle.std.specs.Prelude.{map, option_map}
use Rattle.op_list.specs.Listed.{Listing}
use Rattle.scj_model.specs.State.{Job as JobOfRun, TheSequencer, ReleaseAt, Turn as TurnOfRun, IdleTurn, TurnOf, State}
use Rattle.job_frames.specs.Frames.{activity_seen}
use Rattle.run_releases.specs.Rows.{release_seen}
use Rattle.run_state.specs.declared.states.Job.{Job}
use Rattle.run_state.specs.declared.states.Job.TheVariants.{Sequencer, Release as OfRelease}
use Rattle.run_state.specs.declared.states.Turn.{Turn}
use Rattle.run_state.specs.declared.states.Turn.TheVariants.{Idle, Of}
use Rattle.run_state.specs.declared.states.RunState.{RunState}

abbrev pub job_seen : Job → JobOfRun
job_seen Sequencer = TheSequencer
job_seen (OfRelease index) = ReleaseAt index

abbrev pub turn_seen : Turn → TurnOfRun
turn_seen Idle = IdleTurn
turn_seen (Of index) = TurnOf index

unfoldable pub state_of : Listing → RunState → State
state_of code st =
    record {
      store = st.memory.store;
      unit = st.unit;
      phase = st.phase;
      operation = st.operation;
      outcome = st.outcome;
      safelet = st.safelet;
      mission_sequencer = st.mission_sequencer;
      mission = st.mission;
      is_end_asked = st.is_end_asked;
      origin = st.origin;
      earlier_releases = st.releases.earlier;
      last_choice = option_map turn_seen st.last_choice;
      statics = st.memory.statics;
      objects = st.memory.objects;
      areas = st.memory.areas;
      releases = map (release_seen code) st.releases.rows;
      registry = st.registry.items;
      activity = activity_seen code st.activity;
    }
