-- Frames and activities as the code keeps them. In place of the operations that are left a frame has the place of the
-- next one in the list of the run's code.
use Rattle.std.specs.Prelude.{List, [], ◌∷◌, map, drop}
use Rattle.scj_base.specs.declared.values.Value.{Value}
use Rattle.scj_model.specs.Code.{code_of}
use Rattle.scj_model.specs.State.{Frame, Activity}
use Rattle.scj_model.specs.Effects.{new_frame}
use Rattle.op_list.specs.Listed.{Listing}
use Rattle.op_list.specs.Rows.{rest_at}
use Rattle.job_frames.specs.declared.frames.NewFrame.{NewFrame}
pub use Rattle.job_frames.specs.declared.frames.Frame.{Frame as StoredFrame}
pub use Rattle.job_frames.specs.declared.activities.Activity.{Activity as StoredActivity}

-- ---- what they are in the definitions

abbrev pub frame_of : Listing → StoredFrame → Frame
frame_of code f =
    record {
      body = f.body;
      called_at = f.called_at;
      locals = f.locals;
      operands = f.operands;
      rest = rest_at code.rows f.index;
      this = f.this;
      area = f.area;
      saved = f.saved;
      opened = f.opened;
    }

abbrev pub frames_of : Listing → List StoredFrame → List Frame
frames_of code frames = map (frame_of code) frames

abbrev pub activity_seen : Listing → StoredActivity → Activity
activity_seen code a = record { frames = frames_of code a.frames; areas = a.areas; priority = a.priority }

-- the frame that a call puts on top
abbrev pub frame_called : Listing → NewFrame → List Value → Frame
frame_called code call arguments =
    new_frame (code_of code.program) call.body call.called_at call.this call.area arguments

-- ---- parts and changes

-- without frames and areas
abbrev pub empty_activity : StoredActivity
empty_activity = record { frames = []; areas = []; priority = 0 }

-- the frames under the highest one
abbrev pub below : List StoredFrame → List StoredFrame
below frames = drop 1 frames

-- the highest frame gets a value, if there is one
abbrev pub with_operand : Value → List StoredFrame → List StoredFrame
with_operand value [] = []
with_operand value (f ∷ fs) = record f { operands = value ∷ f.operands } ∷ fs
