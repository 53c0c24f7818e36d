use Rattle.std.specs.Prelude.{ℕ, List}
use Rattle.std.proofs.Common.{sym, ap, ◌∙◌}
use Rattle.scj_base.specs.declared.values.Value.{Value}
use Rattle.scj_base.specs.declared.values.Value.TheVariants.{Bool as Truth}
use Rattle.scj_model.specs.declared.plans.ReadingRow.{ReadingRow}
use Rattle.scj_model.specs.State.{Frame}
use Rattle.scj_model.specs.Effects.{Effect, Goes, pushes}
use Rattle.scj_model.specs.Operations.{are_one_area, with_area}
use Rattle.region_heap.specs.Contents.{Contents}
use Rattle.job_frames.specs.EffectsSeen.{effect_seen, world}
use Rattle.job_frames.specs.declared.frames.Frame.{Frame as StoredFrame}
use Rattle.job_frames.specs.Frames.{frame_of}
use Rattle.call_operations.proofs.PopLemmas.{two_popped}
use Rattle.call_operations.proofs.areas.same.Goals as goal

-- what is done with the two operands
abbrev compared : Contents → List ReadingRow → ℕ → Value → Value → Frame → Effect
compared memory rows unit second first f =
    with_area (world memory rows unit) first (λ a.
    with_area (world memory rows unit) second (λ b. pushes f (Truth (are_one_area a b))))

pub returns-in_default-lie_in_one_area-clause-does : goal.returns-in_default-lie_in_one_area-clause-does
unfolding effect_seen
returns-in_default-lie_in_one_area-clause-does c code rows unit =
    record {
      is = two_popped code c.args.frame.now c.pop.new.self c.pop-2.new.self c.in-Some.second c.in-Some-pop.first
          c.in-Some.ensures.some c.in-Some-pop.ensures.some (compared c.args.memory.now rows unit)
          ∙ (rw c.in_default-lie_in_one_area.is at (c.lie_in_one_area.ensures rows unit
          (λ t. pushes (frame_of code c.pop-2.new.self) (Truth t))));
    }

pub returns-clause-does : goal.returns-clause-does
unfolding effect_seen
returns-clause-does c code rows unit =
    record {
      is = two_popped code c.args.frame.now c.pop.new.self c.pop-2.new.self c.in-Some.second c.in-Some-pop.first
          c.in-Some.ensures.some c.in-Some-pop.ensures.some (compared c.args.memory.now rows unit)
          ∙ (rw c.in-Some-lie_in_one_area.is at (c.lie_in_one_area.ensures rows unit
          (λ t. pushes (frame_of code c.pop-2.new.self) (Truth t)))
          ∙ ap (λ (f : StoredFrame). Goes (frame_of code f)) (sym c.in_ok-push.ensures.pushed));
    }
