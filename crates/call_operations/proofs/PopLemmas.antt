-- Operands that are taken one by one.
use Rattle.std.proofs.Common.{◌≡◌, ◌∷◌, ◌∙◌, ap}
use Rattle.scj_base.specs.declared.values.Value.{Value}
use Rattle.scj_model.specs.State.{Frame}
use Rattle.scj_model.specs.Effects.{Effect, pop}
use Rattle.op_list.specs.Listed.{Listing}
use Rattle.job_frames.specs.declared.frames.Frame.{Frame as StoredFrame}
use Rattle.job_frames.specs.Frames.{frame_of}

one_popped : (code : Listing) (f g : StoredFrame) (v : Value) → f ≡ record g { operands = v ∷ g.operands } →
    (next : Value → Frame → Effect) → pop (frame_of code f) next ≡ next v (frame_of code g)
one_popped code f g v e next = ap (λ (k : StoredFrame). pop (frame_of code k) next) e

pub two_popped : (code : Listing) (f g h : StoredFrame) (second first : Value) →
    f ≡ record g { operands = second ∷ g.operands } → g ≡ record h { operands = first ∷ h.operands } →
    (next : Value → Value → Frame → Effect) →
    pop (frame_of code f) (λ second k. pop k (λ first k. next second first k)) ≡ next second first (frame_of code h)
two_popped code f g h second first e k next =
    one_popped code f g second e (λ second k. pop k (λ first k. next second first k))
    ∙ one_popped code g h first k (λ first k. next second first k)
