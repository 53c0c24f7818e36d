-- A state has one list that the sequencer has without frames; and that of no job matters where no job has frames.
use Rattle.std.proofs.Common.{◌≡◌, ℕ, List, [], ◌∷◌, ◌++◌, refl, sym, ap, ◌∙◌, subst, Option, Some, None}
use Rattle.std.specs.Prelude.{option_to_list}
use Rattle.scj_model.specs.Code.{Code}
use Rattle.scj_model.specs.State.{Activity, Frame, TheSequencer, State, activity_of}
use Rattle.frame_sound.specs.Fine.{list_of}
use Rattle.mission_sound.specs.Bases.{Base, areas_of}
use Rattle.mission_sound.specs.Invariant.{MemoriesFine}
use Rattle.reference_sound.specs.References.{ReferencesHold}

tail_of : List ℕ → List ℕ
tail_of [] = []
tail_of (x ∷ xs) = xs

behind_opened : (o : Option ℕ) (xs ys : List ℕ) → option_to_list o ++ xs ≡ option_to_list o ++ ys → xs ≡ ys
unfolding tail_of
behind_opened None xs ys e = e
behind_opened (Some a) xs ys e = ap tail_of e

behind_frames : (fs : List Frame) (xs ys : List ℕ) → list_of xs fs ≡ list_of ys fs → xs ≡ ys
behind_frames [] xs ys e = e
behind_frames (f ∷ fs) xs ys e = behind_frames fs xs ys (behind_opened f.opened (list_of xs fs) (list_of ys fs) e)

sequencer_list : (code : Code) (s : State) (base : Base) → MemoriesFine code s base →
    s.activity.areas ≡ list_of (areas_of base) s.activity.frames
unfolding activity_of
sequencer_list code s base m = (m.jobs TheSequencer s.activity refl).is_list

-- in two states in which the sequencer has the same frames and areas
pub one_base : (code : Code) (s t : State) (b c : Base) → t.activity ≡ s.activity → MemoriesFine code s b →
    MemoriesFine code t c → areas_of b ≡ areas_of c
one_base code s t b c e m n =
    behind_frames s.activity.frames (areas_of b) (areas_of c)
    (sym (sequencer_list code s b m)
    ∙ (sym (ap (λ (a : Activity). a.areas) e)
    ∙ (sequencer_list code t c n ∙ ap (λ (a : Activity). list_of (areas_of c) a.frames) e)))

pub holds_on : (code : Code) (s t : State) (b c : Base) → t.activity ≡ s.activity → MemoriesFine code s b →
    MemoriesFine code t c → ReferencesHold t (areas_of b) → ReferencesHold t (areas_of c)
holds_on code s t b c e m n h = subst (ReferencesHold t) (one_base code s t b c e m n) h
