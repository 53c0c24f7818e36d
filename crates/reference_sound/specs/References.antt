-- References: where the objects lie to which the values in locals, slots and static fields refer. Of every place, also
-- of one of which no rule says a kind, as a local whose block is over.
use Rattle.std.specs.Prelude.{◌≡◌, ℕ, ◌<◌, List, [], ◌∷◌, Option, Some}
use Rattle.std.specs.List.{All}
use Rattle.scj_base.specs.declared.values.Value.{Value}
use Rattle.scj_base.specs.declared.values.Value.TheVariants.{At}
use Rattle.scj_model.specs.State.{MemoryArea, Object, Frame, Activity, Job, State, activity_of}
use Rattle.frame_sound.specs.Places.{World, world_of}
use Rattle.frame_sound.specs.Fine.{IsOnList, list_of}

-- ---- values

-- what holds of the object to which a value refers, if it refers to one
abbrev pub IfReference : (ℕ → Type 0) → Value → Type 0
IfReference Q (At r) = Q r
IfReference Q _ = Unit {0}

abbrev pub EachReference : (ℕ → Type 0) → List Value → Type 0
EachReference Q values = All (IfReference Q) values

-- none of the values is a reference
abbrev pub NoReference : List Value → Type 0
NoReference values = EachReference (λ r. ⊥) values

-- ---- areas in areas

-- an area is another one, or lies inside it
pub data LiesIn (areas : ℕ → Option MemoryArea) : ℕ → ℕ → Type 0 where
  is_itself : (a : ℕ) → LiesIn areas a a
  lies_deeper : (a b c : ℕ) (x : MemoryArea) → areas a ≡ Some x → x.parent ≡ Some b → LiesIn areas b c →
      LiesIn areas a c

-- an area is opened inside an earlier one
pub record ParentsAreEarlier (areas : ℕ → Option MemoryArea) : Type 0 where
  pub earlier : (a b : ℕ) (x : MemoryArea) → areas a ≡ Some x → x.parent ≡ Some b → b < a

-- ---- where the objects of references lie

-- the object of a reference lies in an area, or in one around it
pub record LiesAround (w : World) (area : ℕ) (r : ℕ) : Type 0 where
  pub object : Object
  pub found : w.objects r ≡ Some object
  pub around : LiesIn w.areas area object.area

-- in immortal memory, which is the first area
pub record LiesInImmortal (w : World) (r : ℕ) : Type 0 where
  pub object : Object
  pub found : w.objects r ≡ Some object
  pub in_first : object.area ≡ 0

-- what the slots of an object and the static fields refer to outlives them
pub record MemoryHolds (w : World) (values : List Value) : Type 0 where
  pub slots : (r : ℕ) (o : Object) → w.objects r ≡ Some o → EachReference (LiesAround w o.area) o.slots
  pub statics : EachReference (LiesInImmortal w) values

-- what the locals of a frame refer to lies in areas of its list
abbrev pub LocalsHold : World → List ℕ → Frame → Type 0
LocalsHold w list f = EachReference (IsOnList w list) f.locals

-- of each frame of a job, on the list that the job has at this frame
abbrev pub JobHolds : World → List ℕ → List Frame → Type 0
JobHolds w base [] = Unit {0}
JobHolds w base (f ∷ fs) = LocalsHold w (list_of base (f ∷ fs)) f × JobHolds w base fs

-- the references of a state: of slots and static fields, and of the frames of each job, whose lists begin with `base`
pub record ReferencesHold (s : State) (base : List ℕ) : Type 0 where
  pub memory : MemoryHolds (world_of s) s.statics
  pub order : ParentsAreEarlier (world_of s).areas
  pub jobs : (job : Job) (activity : Activity) → activity_of s job ≡ Some activity →
      JobHolds (world_of s) base activity.frames
