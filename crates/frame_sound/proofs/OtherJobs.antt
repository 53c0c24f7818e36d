-- The frame rule for the jobs that don't act: where their areas are none that the acting job's frames opened, their
-- lists and their frames are as fine as before.
use Rattle.std.specs.Prelude.{Some, ◌||◌, ◌++◌}
use Rattle.std.proofs.Common.{◌≡◌, ℕ, List, Bool, true, false, refl, sym, ◌∙◌, subst, true≢false, inl, inr}
use Rattle.scj_rules.specs.Words.{is_among}
use Rattle.scj_model.specs.Code.{Code}
use Rattle.scj_model.specs.State.{Activity, Frame, Job, State, area_at}
use Rattle.frame_sound.specs.Places.{world_of}
use Rattle.frame_sound.specs.Fine.{JobFine, ListFine}
use Rattle.frame_sound.specs.Others.{AreaStays, KeepsOthers, AreNotOf}
use Rattle.frame_sound.proofs.Keeps.{Keeps, ObjectsAreKept, frames_kept}
use Rattle.frame_sound.proofs.ListsStay.{Stay, are_there, list_stays, named_stays}
use Rattle.frame_sound.proofs.OwnEnds.{among_both}

module _ (s : State) (job : Job) (frames : List Frame) (after : State) (k : KeepsOthers s job frames after) where
  pub objects_kept : ObjectsAreKept (world_of s) (world_of after)
  objects_kept r o e =
      let x = k.objects r o e in record { object = x.object; found = x.found; class = x.class; area = x.area }

  pub areas_stay_on : (list : List ℕ) → AreNotOf frames list → Stay (world_of s).areas (world_of after).areas list
  areas_stay_on list apart a x on e = go (k.areas a x e)
    where
      go : AreaStays after frames a x → area_at after a ≡ Some x
      go (inl h) = h
      go (inr h) = absurd (true≢false (sym h.0 ∙ apart a on))

  pub list_still : (list : List ℕ) → AreNotOf frames list → ListFine (world_of s).areas list →
      ListFine (world_of after).areas list
  list_still list apart fine =
      list_stays (world_of s).areas (world_of after).areas list fine (areas_stay_on list apart)

  behind : (xs ys : List ℕ) → AreNotOf frames (xs ++ ys) → AreNotOf frames ys
  behind xs ys apart a on = apart a (among_both a xs ys ∙ right (is_among a xs) (is_among a ys) on)
    where
      right : (t u : Bool) → u ≡ true → (t || u) ≡ true
      right true u e = refl
      right false u e = e

  pub job_still : (code : Code) (base : List ℕ) (activity : Activity) → AreNotOf frames activity.areas →
      JobFine code (world_of s) base activity → JobFine code (world_of after) base activity
  job_still code base activity apart fine =
      record {
        is_list = fine.is_list;
        frames = frames_kept code (world_of s) (world_of after) objects_kept (AreNotOf frames) behind keeps base
            activity.frames (subst (AreNotOf frames) fine.is_list apart) fine.frames;
      }
    where
      keeps : (list : List ℕ) → AreNotOf frames list → ListFine (world_of s).areas list →
          Keeps (world_of s) (world_of after) list
      keeps list apart fine =
          record {
            named = λ n. named_stays (world_of s).areas (world_of after).areas n list
                (are_there (world_of s).areas (world_of after).areas list fine) (areas_stay_on list apart);
            fine = list_still list apart fine;
          }
