-- What the code keeps, as the definitions see it.
use Rattle.std.proofs.Common.{◌≡◌, List, [], ◌∷◌, Some, length, refl}
use Rattle.std.proofs.lemmas.List.{length-map}
use Rattle.scj_base.specs.declared.values.Value.{Value}
use Rattle.op_list.specs.Listed.{Listing}
use Rattle.scj_model.specs.Effects.{Effect}
use Rattle.scj_model.specs.Apply.{returned}
use Rattle.job_frames.specs.declared.effects.Effect.{Effect as Coded}
use Rattle.job_frames.specs.Frames.{StoredFrame, frame_of, frames_of, with_operand}
use Rattle.job_frames.specs.EffectsSeen.{Does, effect_seen}

pub does : (code : Listing) (what : Effect) (effect : Coded) (frame : StoredFrame) →
    what ≡ effect_seen code effect (frame_of code frame) → Does code what effect frame
does code what effect frame e = record { is = e }

pub returned_seen : (code : Listing) (value : Value) (frames : List StoredFrame) →
    frames_of code (with_operand value frames) ≡ returned (Some value) (frames_of code frames)
unfolding returned
returned_seen code value [] = refl
returned_seen code value (f ∷ fs) = refl

pub depth_seen : (code : Listing) (frames : List StoredFrame) → length (frames_of code frames) ≡ length frames
depth_seen code frames = length-map frames (frame_of code)
