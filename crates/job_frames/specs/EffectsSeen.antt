-- What an operation of the code does: an effect without its frames, which stand elsewhere, and the effect of the
-- definitions that it is.
use Rattle.std.specs.Prelude.{◌≡◌, ℕ, List, []}
use Rattle.scj_model.specs.declared.plans.ReadingRow.{ReadingRow}
use Rattle.scj_model.specs.Reading.{reading}
use Rattle.scj_model.specs.State.{Frame}
use Rattle.scj_model.specs.Memory.{new_elements}
use Rattle.scj_model.specs.Effects.{Effect, Goes, Prints, Makes, Stores, StoresStatic, SetsHidden, SetsCeiling, Calls, Opens, Leaves, AsksRegistration, AsksRelease, AsksTermination, Faults, Stuck}
use Rattle.scj_model.specs.Operations.{Environment}
use Rattle.op_list.specs.Listed.{Listing}
use Rattle.region_heap.specs.Contents.{Contents, hidden_slots, live_object}
use Rattle.job_frames.specs.declared.effects.Effect.{Effect as Coded}
use Rattle.job_frames.specs.declared.effects.Effect.TheVariants as coded
use Rattle.job_frames.specs.Frames.{StoredFrame, frame_of, frame_called}

-- the effect, with the frame that the operation leaves
unfoldable pub effect_seen : Listing → Coded → Frame → Effect
effect_seen code coded.Goes f = Goes f
effect_seen code (coded.Prints label value) f = Prints f label value
effect_seen code (coded.Makes class slots) f = Makes f class slots.items
effect_seen code (coded.MakesArray class kind count) f = Makes f class (new_elements kind count)
effect_seen code (coded.Stores r slot value) f = Stores f r slot value
effect_seen code (coded.StoresStatic index value) f = StoresStatic f index value
effect_seen code (coded.SetsHidden r hidden) f = SetsHidden f r (hidden_slots hidden.items)
effect_seen code (coded.SetsCeiling r ceiling) f = SetsCeiling f r ceiling
effect_seen code (coded.Calls call arguments) f = Calls f (frame_called code call arguments.items)
effect_seen code (coded.Opens call scope bytes) f = Opens f (frame_called code call []) scope bytes
effect_seen code (coded.Leaves value) f = Leaves f value
effect_seen code (coded.AsksRegistration r) f = AsksRegistration f r
effect_seen code (coded.AsksRelease r) f = AsksRelease f r
effect_seen code (coded.AsksTermination r) f = AsksTermination f r
effect_seen code (coded.Faults fault) f = Faults fault
effect_seen code coded.Stuck f = Stuck

-- an operation that is defined as `what` does it: it gives this effect and leaves this frame
pub record Does (code : Listing) (what : Effect) (effect : Coded) (frame : StoredFrame) : Type 0 where
  pub is : what ≡ effect_seen code effect (frame_of code frame)

-- what an operation sees besides its frame: the objects of open areas and the static fields of a memory, and what the
-- ports read in a unit
abbrev pub world : Contents → List ReadingRow → ℕ → Environment
world m rows unit =
    record {
      object_at = (λ r. live_object m r);
      statics = m.statics;
      reading = (λ port. reading rows port unit);
    }
