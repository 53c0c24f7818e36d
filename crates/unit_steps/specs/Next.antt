-- The next operation of a frame, as the code does it: the operation leaves its frame as it says, with its effect.
use Rattle.std.specs.Prelude.{◌≡◌, List, [], ◌∷◌}
use Rattle.scj_model.specs.declared.operations.Op.{Op}
use Rattle.scj_model.specs.Code.{code_of}
use Rattle.op_list.specs.Listed.{Listing}
use Rattle.scj_model.specs.Operations.{Environment, effect_of}
use Rattle.op_list.specs.Rows.{rest_at}
use Rattle.job_frames.specs.declared.effects.Effect.{Effect as Coded}
use Rattle.job_frames.specs.declared.frames.Frame.{Frame as StoredFrame}
use Rattle.job_frames.specs.Frames.{below, frame_of}
use Rattle.job_frames.specs.EffectsSeen.{effect_seen}

-- the operations that the highest frame has left; none, if there is no frame
abbrev pub top_rest : Listing → List StoredFrame → List Op
top_rest code [] = []
top_rest code (f ∷ fs) = rest_at code.rows f.index

-- this was the next operation of a frame. It has this effect, leaves the frame like this, and the area that the frame
-- opened as it was
pub record IsNext (code : Listing) (world : Environment) (op : Op) (effect : Coded) (before after : StoredFrame) : Type 0
  where
    pub left : List Op
    pub next : rest_at code.rows before.index ≡ op ∷ left
    pub does : effect_of (code_of code.program) world (record (frame_of code before) { rest = left }) op
        ≡ effect_seen code effect (frame_of code after)
    pub opened : before.opened ≡ after.opened

-- this was the next operation of the highest frame; the others stay
pub record IsNextOnTop (code : Listing) (world : Environment) (op : Op) (effect : Coded)
    (before after : List StoredFrame) :
    Type 0 where
  pub top : StoredFrame
  pub changed : StoredFrame
  pub was : before ≡ top ∷ below before
  pub is : after ≡ changed ∷ below before
  pub done : IsNext code world op effect top changed
