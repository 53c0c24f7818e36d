-- What an operation of a job leaves as it was: areas that it didn't open, objects where they lie, the other jobs, and
-- what the run knows of its mission.
use Rattle.std.specs.Prelude.{◌≡◌, ℕ, true, false, ◌⊎◌, List, ◌++◌, length, slice_get, Some, None}
use Rattle.scj_rules.specs.Words.{is_among}
use Rattle.scj_model.specs.declared.handlers.HandlerRow.{HandlerRow}
use Rattle.scj_model.specs.declared.operations.SeqOp.TheVariants.{Finished}
use Rattle.scj_model.specs.declared.phases.Phase.TheVariants.{Over}
use Rattle.scj_model.specs.State.{MemoryArea, Object, Frame, Waits, Dropped, Release, Job, TheSequencer, ReleaseAt, State, activity_of, area_at, is_waiting, object_at}
use Rattle.scj_model.specs.Registry.{handler_row}
use Rattle.scj_model.specs.Apply.{takes_releases}
use Rattle.frame_sound.specs.OwnJob.{opened_by, closed_if}

-- an area is as it was, or it is one that the frames opened, and closed now
abbrev pub AreaStays : State → List Frame → ℕ → MemoryArea → Type 0
AreaStays after frames a x =
    (area_at after a ≡ Some x)
    ⊎ ((is_among a (opened_by frames) ≡ true) × (area_at after a ≡ Some (closed_if true x)))

-- an object has its class, its area and so many slots as before
pub record ObjectStays (after : State) (r : ℕ) (o : Object) : Type 0 where
  pub object : Object
  pub found : object_at after r ≡ Some object
  pub class : object.class ≡ o.class
  pub area : object.area ≡ o.area
  pub size : length object.slots ≡ length o.slots

-- a release that isn't the job's own is as it was, or was waiting and is dropped
pub record ReleaseStays (after : State) (job : Job) (index : ℕ) (r : Release) : Type 0 where
  pub release : Release
  pub found : slice_get after.releases index ≡ Some release
  pub handler : release.handler ≡ r.handler
  pub number : release.number ≡ r.number
  pub status : (release.status ≡ r.status)
      ⊎ ((job ≡ ReleaseAt index) ⊎ ((r.status ≡ Waits) × (release.status ≡ Dropped)))

-- the sequencer stands before the operation that it stood before; a fault of its own ends the run
abbrev pub SequencerStays : State → Job → State → Type 0
SequencerStays s job after =
    ((after.phase ≡ s.phase) × (after.operation ≡ s.operation))
    ⊎ ((job ≡ TheSequencer) × (after.phase ≡ Over) × (after.operation ≡ Finished))

-- the run, and what it knows of its mission
pub record MissionStays (s after : State) : Type 0 where
  pub store : after.store ≡ s.store
  pub unit : after.unit ≡ s.unit
  pub safelet : after.safelet ≡ s.safelet
  pub mission_sequencer : after.mission_sequencer ≡ s.mission_sequencer
  pub mission : after.mission ≡ s.mission
  pub origin : after.origin ≡ s.origin
  pub earlier_releases : after.earlier_releases ≡ s.earlier_releases
  pub last_choice : after.last_choice ≡ s.last_choice
  pub is_end_asked : s.is_end_asked ≡ true → after.is_end_asked ≡ true

-- the handler of this number is registered
abbrev pub IsRegistered : State → ℕ → Type 0
IsRegistered s handler = (row : HandlerRow) × (handler_row s.registry handler ≡ Some row)

-- releases wait only while they are taken in
abbrev pub OnlyTakenWait : State → Type 0
OnlyTakenWait s =
    (index : ℕ) (r : Release) → slice_get s.releases index ≡ Some r → is_waiting r.status ≡ true →
    takes_releases s ≡ true

-- a job with these frames does an operation that leads to the state `after`
pub record KeepsOthers (s : State) (job : Job) (frames : List Frame) (after : State) : Type 0 where
  pub areas : (a : ℕ) (x : MemoryArea) → area_at s a ≡ Some x → AreaStays after frames a x
  pub objects : (r : ℕ) (o : Object) → object_at s r ≡ Some o → ObjectStays after r o
  pub releases : (index : ℕ) (r : Release) → slice_get s.releases index ≡ Some r → ReleaseStays after job index r
  pub new_releases : (index : ℕ) (r : Release) → slice_get s.releases index ≡ None →
      slice_get after.releases index ≡ Some r → (r.status ≡ Waits) × IsRegistered after r.handler
  -- unless the run has ended
  pub waiting : after.phase ≡ s.phase → OnlyTakenWait s → OnlyTakenWait after
  pub registry : (rows : List HandlerRow) × (after.registry ≡ s.registry ++ rows)
  pub activity : (job ≡ TheSequencer) ⊎ ((after.activity ≡ s.activity) × (after.outcome ≡ s.outcome))
  pub sequencer : SequencerStays s job after
  pub mission : MissionStays s after

-- each other job has its frames, areas and priority as before
abbrev pub OthersStand : State → Job → State → Type 0
OthersStand s job after = (other : Job) → (other ≡ job → ⊥) → activity_of after other ≡ activity_of s other

-- the frames opened none of these areas
abbrev pub AreNotOf : List Frame → List ℕ → Type 0
AreNotOf frames list = (a : ℕ) → is_among a list ≡ true → is_among a (opened_by frames) ≡ false
