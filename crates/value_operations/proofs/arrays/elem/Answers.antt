use Rattle.std.proofs.Common.{◌∙◌, ℕ, ℤ, None, Some, ap, rules, slice_get}
use Rattle.scj_base.specs.declared.faults.RunFault.TheVariants.{ArrayIndex}
use Rattle.scj_base.specs.declared.values.Value.TheVariants.{At, Int}
use Rattle.scj_model.specs.State.{Frame, Object}
use Rattle.scj_model.specs.Effects.{Effect, Faults, given, pushes}
use Rattle.scj_model.specs.Operations.{elem_op, index_in}
use Rattle.region_heap.specs.Contents.{Contents, live_object}
use Rattle.job_frames.specs.EffectsSeen.{world}
use Rattle.job_frames.specs.Frames.{frame_of}
use Rattle.value_operations.proofs.Pops.{does_as, two_popped}
use Rattle.value_operations.proofs.arrays.elem.Goals as goal

-- an element of the array of a reference
abbrev element : Contents → ℕ → Frame → ℤ → Effect
element m r f index =
    given (live_object m r) (λ (o : Object). elim (index_in o.slots index) as (λ z. Effect) [
      | None ↦ Faults ArrayIndex
      | Some k ↦ given (slice_get o.slots k) (λ value. pushes f value)
    ])

pub returns-in-Int-clause-does : goal.returns-in-Int-clause-does
returns-in-Int-clause-does c = λ code rows unit.
    does_as code _ _ c.elem_of.result c.elem_of.new.frame
    (two_popped code c.args.frame.now c.pop.new.self c.pop-2.new.self c.in-Some.index (Int c.in-Int.i)
    c.in-Some-pop.array (At c.in-At.r) (elem_op (world c.args.memory.now rows unit)) c.in-Some.ensures.some
    c.in-Some-pop.ensures.some c.in-Int.is c.in-At.is
    ∙ ap (λ (index : ℤ). element c.args.memory.now c.in-At.r (frame_of code c.pop-2.new.self) index) (search rules))
    (c.elem_of.ensures.does code)
