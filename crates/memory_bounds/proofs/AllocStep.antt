-- The sequencer makes an object by `new`: nothing names it but the operand of its frame, and it is being made.
use Rattle.std.specs.Prelude.{Some, slice_get}
use Rattle.std.proofs.Common.{◌≡◌, ◌⊎◌, ℕ, List, [], ◌∷◌, length, Bool, refl, subst, inl, inr}
use Rattle.scj_base.specs.declared.positions.Position.{Position}
use Rattle.scj_base.specs.declared.values.Value.{Value}
use Rattle.scj_base.specs.declared.values.Value.TheVariants.{At}
use Rattle.scj_rules.specs.declared.views.Body.{Body}
use Rattle.scj_model.specs.declared.operations.Op.{Op}
use Rattle.scj_model.specs.Code.{Code}
use Rattle.scj_model.specs.State.{Object, Frame, Activity, TheSequencer, State, object_at, with_activity}
use Rattle.scj_model.specs.Memory.{has_room, new_object, with_object}
use Rattle.scj_model.specs.Steps.{allocating, fault_in}
use Rattle.scj_model.specs.Effects.{Makes}
use Rattle.scj_model.specs.Apply.{applied, with_frame}
use Rattle.scj_model.proofs.Reaching.{Gives as StepGives, gives_some}
use Rattle.priority_laws.proofs.StepCases.{step_if}
use Rattle.reference_sound.proofs.Lists.{last_or_before}
use Rattle.memory_bounds.proofs.Above.{AllLack}
use Rattle.memory_bounds.proofs.Making.{Holder}
use Rattle.memory_bounds.proofs.Makers.{Holding, Made}
use Rattle.memory_bounds.proofs.Unnamed.{Clean, RowsLack}

-- no value of the heap is a reference to the number, and no row names it
pub record HeapLacks (u : ℕ) (s : State) : Type 0 where
  pub statics : AllLack u s.statics
  pub objects : (r : ℕ) (x : Object) → object_at s r ≡ Some x → AllLack u x.slots
  pub outcome : s.outcome ≡ Some (At u) → ⊥
  pub rows : RowsLack u s.registry

pub past_end : (xs : List Object) (x : Object) → slice_get xs (length xs) ≡ Some x → ⊥
past_end [] x e = cc (e)
past_end (y ∷ xs) x e = past_end xs x e

module _ (code : Code) (Inner : Op → Type 0) (OnWay : ℕ → Type 0) (G : Body → Bool → Type 0) (s : State)
    (heap : HeapLacks (length s.objects) s) (activity : Activity) (below : List Frame) (position : Position) (f : Frame)
    (class : ℕ) (slots : List Value) (lacks : AllLack (length s.objects) slots)
    (holder : Holder code Inner OnWay (length s.objects)
    (record f { operands = At (length s.objects) ∷ f.operands })) where
  -- what is said of the new object, where there is one
  abbrev New : State → Type 0
  New t =
      (x : Object) → object_at t (length s.objects) ≡ Some x →
      Clean (length s.objects) x (Made code Inner OnWay G (length s.objects)) t

  after : State
  after =
      with_frame (with_object s class f.area slots) TheSequencer activity
      (record f { operands = At (length s.objects) ∷ f.operands }) below

  made : (x : Object) → object_at (with_object s class f.area slots) (length s.objects) ≡ Some x →
      Clean (length s.objects) x (Made code Inner OnWay G (length s.objects)) after
  unfolding with_activity after
  made x there = record {
    heap = record {
      statics = heap.statics;
      objects = λ r y e. of r y (last_or_before s.objects (new_object class f.area slots) r y e);
      object = there;
      outcome = heap.outcome;
      rows = heap.rows;
    };
    frames = Holding (record f { operands = At (length s.objects) ∷ f.operands }) below holder refl;
  }
    where
      of : (r : ℕ) (y : Object) → (slice_get s.objects r ≡ Some y)
          ⊎ ((r ≡ length s.objects) × (new_object class f.area slots ≡ y)) → AllLack (length s.objects) y.slots
      of r y (inl e) = heap.objects r y e
      of r y (inr e) = subst (λ (z : Object). AllLack (length s.objects) z.slots) e.1 lacks

  pub alloc_step : StepGives New (applied code s TheSequencer activity below position (Makes f class slots))
  unfolding applied allocating fault_in with_activity after
  alloc_step =
      gives_some New _
      (step_if New (has_room s f.area (length slots)) _ _ (λ e x there. made x there)
      (λ e x there. absurd (past_end s.objects x there)))
