-- Operands that were taken, in what an operation is defined as.
use Rattle.std.proofs.Common.{◌≡◌, ◌∷◌, ◌∙◌, ap, sym, subst, Result, IfOk}
use Rattle.scj_base.specs.declared.values.Value.{Value}
use Rattle.scj_model.specs.State.{Frame}
use Rattle.scj_model.specs.Effects.{Effect}
use Rattle.op_list.specs.Listed.{Listing}
use Rattle.job_frames.specs.declared.effects.Effect.{Effect as Coded}
use Rattle.job_frames.specs.declared.frames.Frame.{Frame as StoredFrame}
use Rattle.job_frames.specs.Frames.{frame_of}
use Rattle.job_frames.specs.EffectsSeen.{Does}

-- an operation that is defined as something equal
pub does_as : {E : Type 0} (code : Listing) (what other : Effect) (result : Result Coded E) (frame : StoredFrame) →
    other ≡ what → IfOk result (λ effect. Does code what effect frame) →
    IfOk result (λ effect. Does code other effect frame)
does_as code what other result frame e h =
    subst (λ (x : Effect). IfOk result (λ effect. Does code x effect frame)) (sym e) h

pub one_popped : (code : Listing) (f g : StoredFrame) (v w : Value) (op : Frame → Effect) →
    f ≡ record g { operands = v ∷ g.operands } → v ≡ w →
    op (frame_of code f) ≡ op (frame_of code (record g { operands = w ∷ g.operands }))
one_popped code f g v w op e is =
    ap (λ (x : StoredFrame). op (frame_of code x)) e
    ∙ ap (λ (x : Value). op (frame_of code (record g { operands = x ∷ g.operands }))) is

pub two_popped : (code : Listing) (f g h : StoredFrame) (v w x y : Value) (op : Frame → Effect) →
    f ≡ record g { operands = v ∷ g.operands } → g ≡ record h { operands = x ∷ h.operands } → v ≡ w → x ≡ y →
    op (frame_of code f) ≡ op (frame_of code (record h { operands = w ∷ y ∷ h.operands }))
two_popped code f g h v w x y op e k is same =
    one_popped code f g v w op e is
    ∙ ap (λ (z : StoredFrame). op (frame_of code (record z { operands = w ∷ z.operands }))) k
    ∙ ap (λ (z : Value). op (frame_of code (record h { operands = w ∷ z ∷ h.operands }))) same
