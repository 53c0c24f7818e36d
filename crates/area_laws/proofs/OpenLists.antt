-- The areas on the list of a framed job are open.
use Rattle.std.specs.Prelude.{Option, Some, None, option_to_list}
use Rattle.std.proofs.Common.{◌≡◌, ◌∙◌, ℕ, true, List, [], ◌∷◌, ◌++◌, ◌⊎◌, inl, inr, ap, subst, sym}
use Rattle.scj_rules.specs.Words.{is_among, holds}
use Rattle.scj_tree.specs.Forest.{Forest}
use Rattle.scj_model.specs.Code.{Code, code_of}
use Rattle.scj_model.specs.Choice.{by_priority, by_list}
use Rattle.scj_model.specs.Plan.{Plan}
use Rattle.scj_model.specs.Reached.{Moment, Reached}
use Rattle.scj_model.specs.State.{Activity, Frame, Job, MemoryArea, State, activity_of, is_open_area}
use Rattle.scj_model.proofs.Following.{by_some_list, fair_listed, priority_is_fair}
use Rattle.accepted_laws.specs.Programs.{IsAcceptedProgram}
use Rattle.priority_laws.specs.Nesting.{opened_by}
use Rattle.priority_laws.proofs.AreaLists.{among_cases, among_here, among_later}
use Rattle.frame_sound.specs.Places.{world_of, area_named}
use Rattle.frame_sound.specs.Fine.{FramesFine, JobFine, ListFine, list_of}
use Rattle.mission_sound.specs.Bases.{Base, BaseFine, areas_of, in_immortal, in_mission, unopened}
use Rattle.scope_sound.specs.FramedAndPlaced.{Framed}
use Rattle.scope_sound.proofs.Halves.{reached_framed}
use Rattle.area_laws.specs.OpenAreas.{StandsInOpenAreas}

module _ (s : State) where
  pub list_open : (list : List ℕ) → ListFine (world_of s).areas list → (a : ℕ) → is_among a list ≡ true →
      is_open_area s a ≡ true
  list_open list l a m =
      let f : (x : MemoryArea) × ((world_of s).areas a ≡ Some x) × (area_named (world_of s).areas x.scope list
      ≡ Some a) = l.found a m in
      ap (λ (o : Option MemoryArea). holds o (λ x. x.is_open)) f.1 ∙ l.are_open a f.0 m f.1

  base_open : (code : Code) (base : Base) → BaseFine code s base → (a : ℕ) → is_among a (areas_of base) ≡ true →
      is_open_area s a ≡ true
  base_open code unopened h a m = absurd (cc (m))
  base_open code in_immortal h a m = list_open (0 ∷ []) h a m
  base_open code (in_mission memory) h a m = list_open (memory ∷ 0 ∷ []) h.1 a m

  frames_open : (code : Code) (base : Base) → BaseFine code s base → (fs : List Frame) →
      FramesFine code (world_of s) (areas_of base) fs → (a : ℕ) → is_among a (list_of (areas_of base) fs) ≡ true →
      is_open_area s a ≡ true
  frames_open code base b [] h a m = base_open code base b a m
  frames_open code base b (f ∷ fs) h a m = list_open (list_of (areas_of base) (f ∷ fs)) h.1 a m

  current_open : (code : Code) (base : List ℕ) (f : Frame) (fs : List Frame) →
      FramesFine code (world_of s) base (f ∷ fs) → is_open_area s f.area ≡ true
  current_open code base f fs h = list_open (list_of base (f ∷ fs)) h.1 f.area h.0.ready.home.now_on_list

  pub stands_open : (code : Code) (job : Job) → Framed code s job → (activity : Activity) →
      activity_of s job ≡ Some activity → StandsInOpenAreas s activity
  stands_open code job framed activity e =
      let j : JobFine code (world_of s) (areas_of framed.base) activity = framed.frames activity e in
      record {
        listed = λ a m. frames_open code framed.base framed.memory activity.frames j.frames a
            (subst (λ (l : List ℕ). is_among a l ≡ true) j.is_list m);
        current = λ f below same. current_open code (areas_of framed.base) f below
            (subst (λ (fs : List Frame). FramesFine code (world_of s) (areas_of framed.base) fs) same j.frames);
      }

  -- what its frames opened is on the list
  pub opened_listed : (code : Code) (job : Job) → Framed code s job → (activity : Activity) →
      activity_of s job ≡ Some activity → (a : ℕ) → is_among a (opened_by activity.frames) ≡ true →
      is_among a activity.areas ≡ true
  opened_listed code job framed activity e a m =
      let j : JobFine code (world_of s) (areas_of framed.base) activity = framed.frames activity e in
      subst (λ (l : List ℕ). is_among a l ≡ true) (sym j.is_list) (on_list activity.frames m)
    where
      by_opened : (o : Option ℕ) (xs ys : List ℕ) →
          (is_among a xs ≡ true → is_among a ys ≡ true) → is_among a (option_to_list o ++ xs) ≡ true →
          is_among a (option_to_list o ++ ys) ≡ true
      by_opened None xs ys more m = more m
      by_opened (Some b) xs ys more m = go (among_cases a b xs m)
        where
          go : (a ≡ b) ⊎ (is_among a xs ≡ true) → is_among a (b ∷ ys) ≡ true
          go (inl same) = subst (λ c. is_among c (b ∷ ys) ≡ true) (sym same) (among_here b ys)
          go (inr k) = among_later a b ys (more k)

      on_list : (fs : List Frame) → is_among a (opened_by fs) ≡ true →
          is_among a (list_of (areas_of framed.base) fs) ≡ true
      on_list [] m = absurd (cc (m))
      on_list (f ∷ fs) m =
          by_opened f.opened (opened_by fs) (list_of (areas_of framed.base) fs) (on_list fs) m

-- each job of a state that a run comes to is framed
pub framed_by_priority : (forest : Forest) → IsAcceptedProgram forest → (plan : Plan) (moment : Moment) (s : State) →
    Reached (code_of forest) plan by_priority moment s → (job : Job) → Framed (code_of forest) s job
framed_by_priority forest accepted plan moment s reached job =
    let listed : (choices : List ℕ) × Reached (code_of forest) plan (by_list choices) moment s =
    by_some_list (code_of forest) plan moment s
    (fair_listed (code_of forest) plan by_priority priority_is_fair reached) in
    reached_framed forest accepted plan listed.0 moment s listed.1 job
