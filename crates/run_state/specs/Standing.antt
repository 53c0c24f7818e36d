-- What an operation of a job may count on in the memory of a run.
use Rattle.std.specs.Prelude.{◌≡◌, ℕ, ◌^◌, ◌<◌, true, List, [], ◌∷◌, Option, Some, None, length, slice_get}
use Rattle.scj_rules.specs.Words.{is_among}
use Rattle.region_heap.specs.Contents.{Contents, IsLastOpen, closing_area, is_open_area, live_object, open_count}
use Rattle.job_frames.specs.declared.activities.Activity.{Activity as StoredActivity}
use Rattle.job_frames.specs.declared.frames.Frame.{Frame as StoredFrame}
use Rattle.job_frames.specs.Frames.{below}

-- what is closed, if anything is, is the last open area
abbrev pub ClosesLast : Contents → Option ℕ → Type 0
ClosesLast m None = Unit {0}
ClosesLast m (Some a) = IsLastOpen m a

-- the memory once that area is closed
abbrev pub after_close : Contents → Option ℕ → Contents
after_close m None = m
after_close m (Some a) = closing_area m a

-- the areas that frames opened are closed one by one, each as the last open one
abbrev pub CloseInOrder : Contents → List StoredFrame → Type 0
CloseInOrder m [] = Unit {0}
CloseInOrder m (f ∷ fs) = ClosesLast m f.opened × CloseInOrder (after_close m f.opened) fs

-- the areas on the list of a job are open, those that its frames opened are the last ones, and few areas are open where
-- it has fewer frames than a job may have
pub record StandsIn (m : Contents) (activity : StoredActivity) : Type 0 where
  pub listed : (a : ℕ) → is_among a activity.areas ≡ true → is_open_area m a ≡ true
  pub closes : CloseInOrder m activity.frames
  pub few : length activity.frames < 64 → open_count m < 1794

-- the area in which the highest of these frames makes objects is open
abbrev pub IsTopOpen : Contents → List StoredFrame → Type 0
IsTopOpen m frames = (f : StoredFrame) → slice_get frames 0 ≡ Some f → is_open_area m f.area ≡ true

-- the area in which the highest of these frames makes objects
pub record IsAreaOfTop (frames : List StoredFrame) (area : ℕ) : Type 0 where
  pub frame : StoredFrame
  pub is : slice_get frames 0 ≡ Some frame
  pub area_is : area ≡ frame.area

-- the area that the highest of these frames opened, if it opened one
pub record IsOpenedByTop (frames : List StoredFrame) (opened : Option ℕ) : Type 0 where
  pub frame : StoredFrame
  pub is : slice_get frames 0 ≡ Some frame
  pub opened_is : opened ≡ frame.opened

-- the activity without its highest frame
abbrev pub below_top : StoredActivity → StoredActivity
below_top activity = record activity { frames = below activity.frames }

-- one more object and one more area can be numbered
pub record HasNumbers (m : Contents) : Type 0 where
  pub objects : length m.objects < 2 ^ 31
  pub areas : length m.areas < 2 ^ 31

-- the object of a reference, if there is one, lies in an open area
abbrev pub IsLive : Contents → ℕ → Type 0
IsLive m r = live_object m r ≡ slice_get m.objects r

-- the object of the highest frame, if it has one, lies in an open area
abbrev pub IsOnLiveObject : Contents → StoredActivity → Type 0
IsOnLiveObject m activity =
    (f : StoredFrame) (r : ℕ) → slice_get activity.frames 0 ≡ Some f → f.this ≡ Some r → IsLive m r
