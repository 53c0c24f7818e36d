-- How the memory of a run goes on: areas close, and one operation opens one area or makes one object.
use Rattle.std.specs.Prelude.{◌≡◌, ◌≢◌, ℕ, ◌≤◌, true, List, [], ◌∷◌, ◌++◌, length, slice_get, Some}
use Rattle.scj_rules.specs.Words.{holds, is_among}
use Rattle.scj_model.specs.declared.operations.Op.{Op}
use Rattle.scj_model.specs.declared.plans.ReadingRow.{ReadingRow}
use Rattle.scj_model.specs.Code.{Code}
use Rattle.scj_model.specs.State.{Activity, Frame, Job, MemoryArea, Object, State, activity_of, is_open_area}
use Rattle.scj_model.specs.Effects.{Effect, Makes, SetsHidden}
use Rattle.scj_model.specs.Run.{effect_at}
use Rattle.region_heap.specs.Kept.{used_bytes}

-- an area stays as it was, or is closed
pub record StaysOrCloses (x y : MemoryArea) : Type 0 where
  pub scope : y.scope ≡ x.scope
  pub bytes : y.bytes ≡ x.bytes
  pub was_open : y.is_open ≡ true → x.is_open ≡ true

-- each of them does, and there are no others
abbrev pub AreasStay : List MemoryArea → List MemoryArea → Type 0
AreasStay [] [] = Unit {0}
AreasStay [] (y ∷ ys) = ⊥
AreasStay (x ∷ xs) [] = ⊥
AreasStay (x ∷ xs) (y ∷ ys) = StaysOrCloses x y × AreasStay xs ys

-- no area is opened, and no object is made
pub record StaysStill (s t : State) : Type 0 where
  pub areas : AreasStay s.areas t.areas
  pub used : (a : ℕ) → used_bytes t.objects a ≡ used_bytes s.objects a

-- nor is one closed
pub record StaysSame (s t : State) : Type 0 where
  pub areas : t.areas ≡ s.areas
  pub used : (a : ℕ) → used_bytes t.objects a ≡ used_bytes s.objects a

pub data GoesOn (s t : State) : Type 0 where
  still : StaysStill s t → GoesOn s t
  -- an object is made in an open area
  makes : (area : ℕ) → is_open_area s area ≡ true → t.areas ≡ s.areas →
      used_bytes s.objects area ≤ used_bytes t.objects area →
      ((a : ℕ) → a ≢ area → used_bytes t.objects a ≡ used_bytes s.objects a) → GoesOn s t
  -- an area is opened, behind all others
  opens : (area : MemoryArea) → area.is_open ≡ true → t.areas ≡ s.areas ++ area ∷ [] →
      ((a : ℕ) → used_bytes t.objects a ≡ used_bytes s.objects a) → GoesOn s t

-- what an operation makes lies in an open area, and hidden fields that it sets are there
abbrev pub IsSituated : List MemoryArea → List Object → Effect → Type 0
IsSituated areas objects (Makes h class slots) = holds (slice_get areas h.area) (λ x. x.is_open) ≡ true
IsSituated areas objects (SetsHidden h r values) =
    (o : Object) → slice_get objects r ≡ Some o → length values ≤ length o.slots
IsSituated areas objects _ = Unit {0}

-- this holds of the next operation of each job; and what the sequencer makes of its own lies in an open area
pub record AreSituated (code : Code) (rows : List ReadingRow) (s : State) : Type 0 where
  pub jobs : (job : Job) (activity : Activity) (f : Frame) (below : List Frame) (op : Op) (rest : List Op) →
      activity_of s job ≡ Some activity → activity.frames ≡ f ∷ below → f.rest ≡ op ∷ rest →
      IsSituated s.areas s.objects (effect_at code rows s f op rest)
  pub own : (a : ℕ) → is_among a s.activity.areas ≡ true → is_open_area s a ≡ true
