-- Areas and objects, by whether there is room.
use Rattle.std.specs.Prelude.{true, false, Option, Some, None}
use Rattle.std.proofs.Common.{◌≡◌, ◌∙◌, ℕ, List, length, refl, ap, sym}
use Rattle.scj_base.specs.declared.faults.RunFault.TheVariants.{MemoryFull, StoreFull}
use Rattle.scj_base.specs.declared.positions.Position.{Position}
use Rattle.scj_base.specs.declared.values.Value.{Value}
use Rattle.scj_model.specs.State.{Activity, Job, State}
use Rattle.scj_model.specs.Memory.{has_room, has_store_for, with_area, with_object}
use Rattle.scj_model.specs.Steps.{Step, allocating, fault_in, opening}
use Rattle.run_state.specs.Steps.{GoesOn}

some_same : (m n : ℕ) → Some m ≡ Some n → m ≡ n
some_same m n e = cc

module _ (s : State) (job : Job) (activity : Activity) (position : Position) where
  pub store_full : (scope : ℕ) (parent : Option ℕ) (bytes : ℕ) → has_store_for s bytes ≡ false →
      GoesOn s (opening s job activity position scope parent bytes) (fault_in s job activity position StoreFull) None s
  unfolding opening
  store_full scope parent bytes h =
      record { there = λ next n e. absurd (cc); missing = λ next e. rw h refl; same = λ e. refl }

  pub area_there : (scope : ℕ) (parent : Option ℕ) (bytes n : ℕ) (after : State) → has_store_for s bytes ≡ true →
      n ≡ length s.areas → after ≡ with_area s scope parent bytes →
      GoesOn s (opening s job activity position scope parent bytes) (fault_in s job activity position StoreFull)
      (Some n) after
  unfolding opening
  area_there scope parent bytes n after h k a = record {
    there = λ next m e. rw h (
        ap (λ (x : State). next x (length s.areas)) (sym a) ∙ ap (next after) (sym k ∙ some_same n m e));
    missing = λ next e. absurd (cc);
    same = λ e. absurd (cc);
  }

  -- a state that is as it was
  pub store_full_after : (scope : ℕ) (parent : Option ℕ) (bytes : ℕ) (after : State) → has_store_for s bytes ≡ false →
      after ≡ s →
      GoesOn s (opening s job activity position scope parent bytes) (fault_in s job activity position StoreFull) None after
  unfolding opening
  store_full_after scope parent bytes after h e =
      record { there = λ next n f. absurd (cc); missing = λ next f. rw h refl; same = λ f. e }

  pub memory_full_after : (class area : ℕ) (slots : List Value) (after : State) →
      has_room s area (length slots) ≡ false → after ≡ s →
      GoesOn s (allocating s job activity position class area slots) (fault_in s job activity position MemoryFull) None after
  unfolding allocating
  memory_full_after class area slots after h e =
      record { there = λ next n f. absurd (cc); missing = λ next f. rw h refl; same = λ f. e }

  pub memory_full : (class area : ℕ) (slots : List Value) → has_room s area (length slots) ≡ false →
      GoesOn s (allocating s job activity position class area slots) (fault_in s job activity position MemoryFull) None s
  unfolding allocating
  memory_full class area slots h =
      record { there = λ next n e. absurd (cc); missing = λ next e. rw h refl; same = λ e. refl }

  pub object_there : (class area : ℕ) (slots : List Value) (n : ℕ) (after : State) →
      has_room s area (length slots) ≡ true → n ≡ length s.objects → after ≡ with_object s class area slots →
      GoesOn s (allocating s job activity position class area slots) (fault_in s job activity position MemoryFull)
      (Some n) after
  unfolding allocating
  object_there class area slots n after h k a = record {
    there = λ next m e. rw h (
        ap (λ (x : State). next x (length s.objects)) (sym a) ∙ ap (next after) (sym k ∙ some_same n m e));
    missing = λ next e. absurd (cc);
    same = λ e. absurd (cc);
  }

-- the step goes on where there is room, and is the fault where there is none
pub goes_step : (s : State) (step : (State → ℕ → Step) → Step) (fault : State → Step) (after : State)
    (next : State → ℕ → Step) (found : Option ℕ) → GoesOn s step (fault s) found after →
    step next ≡ (elim found as (λ o. Step) [ None ↦ fault after | Some n ↦ next after n ])
goes_step s step fault after next None h = h.missing next refl ∙ ap fault (sym (h.same refl))
goes_step s step fault after next (Some n) h = h.there next n refl
