-- At most 1,794 areas are open.
use Rattle.std.specs.Prelude.{Option, Some, None, option_to_list, slice_get}
use Rattle.std.proofs.Common.{◌≡◌, ◌∙◌, true, false, ℕ, ◌+◌, ◌≤◌, List, [], ◌∷◌, ◌++◌, length, ◌⊎◌, inl, inr, refl, ap, subst, arith, length-append}
use Rattle.scj_rules.specs.Words.{holds, is_among}
use Rattle.scj_tree.specs.Forest.{Forest}
use Rattle.scj_model.specs.Code.{code_of}
use Rattle.scj_model.specs.Choice.{by_priority}
use Rattle.scj_model.specs.Plan.{Plan}
use Rattle.scj_model.specs.Reached.{Moment, Reached}
use Rattle.scj_model.specs.Safety.{IsSafe, started_activities, started_count}
use Rattle.scj_model.specs.State.{Frame, MemoryArea, State, TheSequencer, activity_of, is_exec, is_open_area}
use Rattle.accepted_laws.specs.Programs.{IsAcceptedProgram}
use Rattle.priority_laws.specs.InOrder.{IsInOrder}
use Rattle.priority_laws.specs.Nesting.{IsOpenedByRelease}
use Rattle.priority_laws.specs.Started.{started_at}
use Rattle.priority_laws.proofs.AreaLists.{among_left, among_right, bool_cases}
use Rattle.priority_laws.proofs.ReachedOrder.{ordered}
use Rattle.frame_sound.specs.Places.{world_of}
use Rattle.frame_sound.specs.Fine.{JobFine, list_of}
use Rattle.mission_sound.specs.Bases.{Base, areas_of, in_immortal, in_mission, unopened}
use Rattle.scope_sound.specs.FramedAndPlaced.{Framed}
use Rattle.scope_sound.proofs.Safe.{safe}
use Rattle.run_sizes.proofs.Deep.{few_frames}
use Rattle.run_sizes.proofs.DeepSteps.{FewFrames}
use Rattle.area_laws.specs.OpenAreas.{open_count}
use Rattle.area_laws.proofs.CountOpen.{open_few, opened_among, opened_at_most, opened_of}
use Rattle.area_laws.proofs.OpenLists.{framed_by_priority}

base_few : (base : Base) → length (areas_of base) ≤ 2
base_few unopened = omega arith
base_few in_immortal = omega arith
base_few (in_mission memory) = omega arith

list_few : (base : Base) (fs : List Frame) → length (list_of (areas_of base) fs) ≤ length fs + 2
list_few base [] = let h = base_few base in omega (arith, h)
list_few base (f ∷ fs) = go f.opened (list_few base fs)
  where
    go : (o : Option ℕ) → length (list_of (areas_of base) fs) ≤ length fs + 2 →
        length (option_to_list o ++ list_of (areas_of base) fs) ≤ length (f ∷ fs) + 2
    go None h = omega (arith, h)
    go (Some a) h = omega (arith, h)

-- in execution the sequencer has no frame, outside it no release is started
module _ (s : State) (o : IsInOrder s) where
  open_at : (i : ℕ) (x : MemoryArea) → slice_get s.areas i ≡ Some x → x.is_open ≡ true → is_open_area s i ≡ true
  open_at i x e t = ap (λ (y : Option MemoryArea). holds y (λ z. z.is_open)) e ∙ t

  pub open_inside : open_count s ≤ length s.activity.areas + length (opened_of s.releases)
  open_inside =
      let all : open_count s ≤ length (s.activity.areas ++ opened_of s.releases) =
      open_few s.areas 0 (s.activity.areas ++ opened_of s.releases) (λ i x e t. listed i (o.opened.is i (open_at i x e
      t))) in
      let sum : length (s.activity.areas ++ opened_of s.releases)
      ≡ length s.activity.areas + length (opened_of s.releases) =
      length-append s.activity.areas (opened_of s.releases) in
      omega (arith, all, sum)
    where
      listed : (i : ℕ) → (is_among i s.activity.areas ≡ true) ⊎ IsOpenedByRelease s i →
          is_among (0 + i) (s.activity.areas ++ opened_of s.releases) ≡ true
      listed i b =
          let at : i ≡ 0 + i = omega arith in
          subst (λ (k : ℕ). is_among k (s.activity.areas ++ opened_of s.releases) ≡ true) at (by b)
        where
          by : (is_among i s.activity.areas ≡ true) ⊎ IsOpenedByRelease s i →
              is_among i (s.activity.areas ++ opened_of s.releases) ≡ true
          by (inl m) = among_left i s.activity.areas (opened_of s.releases) m
          by (inr r) =
              among_right i s.activity.areas (opened_of s.releases)
              (opened_among s.releases r.index r.release i r.is_there r.is_opened)

  pub open_outside : is_exec s.phase ≡ false → open_count s ≤ length s.activity.areas
  open_outside phase = open_few s.areas 0 s.activity.areas (λ i x e t. listed i (o.opened.is i (open_at i x e t)))
    where
      listed : (i : ℕ) → (is_among i s.activity.areas ≡ true) ⊎ IsOpenedByRelease s i →
          is_among (0 + i) s.activity.areas ≡ true
      listed i b =
          let at : i ≡ 0 + i = omega arith in
          subst (λ (k : ℕ). is_among k s.activity.areas ≡ true) at (by b)
        where
          by : (is_among i s.activity.areas ≡ true) ⊎ IsOpenedByRelease s i → is_among i s.activity.areas ≡ true
          by (inl m) = m
          by (inr r) =
              let none : started_at s.releases r.index ≡ None = o.turns.outside phase r.index in
              let some : started_at s.releases r.index ≡ Some r.release = r.is_there in
              absurd (cc)

module _ (forest : Forest) (accepted : IsAcceptedProgram forest) (plan : Plan) (moment : Moment) (s : State)
    (reached : Reached (code_of forest) plan by_priority moment s) where
  framed : Framed (code_of forest) s TheSequencer
  framed = framed_by_priority forest accepted plan moment s reached TheSequencer

  o : IsInOrder s
  o = (ordered (code_of forest) plan reached).order

  few : FewFrames s
  few = few_frames (code_of forest) plan by_priority moment s reached

  pub sequencers : length s.activity.areas ≤ length s.activity.frames + 2
  unfolding activity_of
  sequencers =
      let j : JobFine (code_of forest) (world_of s) (areas_of framed.base) s.activity =
      framed.frames s.activity refl in
      let l : length s.activity.areas ≡ length (list_of (areas_of framed.base) s.activity.frames) =
      ap (λ (xs : List ℕ). length xs) j.is_list in
      let h = list_few framed.base s.activity.frames in
      omega (arith, l, h)

  pub started_few : started_count s ≤ 28
  started_few =
      let safety : IsSafe (code_of forest) = safe forest accepted in
      safety.under_priorities.few_are_started plan moment s reached

  started : length (opened_of s.releases) ≤ 1792
  unfolding started_activities
  started =
      let h = opened_at_most s.releases few.releases in
      let count : started_count s ≤ 28 = started_few in
      omega (arith, h, count)

  pub few_open : open_count s ≤ 1794
  few_open = go (bool_cases (is_exec s.phase))
    where
      own : length s.activity.areas ≤ length s.activity.frames + 2
      own = sequencers

      go : (is_exec s.phase ≡ true) ⊎ (is_exec s.phase ≡ false) → open_count s ≤ 1794
      go (inl phase) =
          let none : s.activity.frames ≡ [] = o.turns.inside phase in
          let depth : length s.activity.frames ≡ 0 = ap (λ (fs : List Frame). length fs) none in
          let all : open_count s ≤ length s.activity.areas + length (opened_of s.releases) = open_inside s o in
          let releases : length (opened_of s.releases) ≤ 1792 = started in
          omega (arith, all, releases, own, depth)
      go (inr phase) =
          let all : open_count s ≤ length s.activity.areas = open_outside s o phase in
          let depth : length s.activity.frames ≤ 64 = few.sequencer in
          omega (arith, all, own, depth)
