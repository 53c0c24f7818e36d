-- References on other lists: what the sequencer has without frames is more, or there are no frames.
use Rattle.std.specs.Prelude.{Option, Some, option_to_list, ◌++◌, None}
use Rattle.std.proofs.Common.{◌≡◌, ℕ, List, [], ◌∷◌, true, sym, subst, inl, inr, ◌∙◌}
use Rattle.std.proofs.lemmas.List.Elements.{All-nil}
use Rattle.scj_rules.specs.declared.views.Body.{Body}
use Rattle.scj_rules.specs.Words.{is_among}
use Rattle.scj_model.specs.Code.{Code}
use Rattle.scj_model.specs.State.{Frame, Activity, Job, State, activity_of}
use Rattle.scj_model.specs.Effects.{new_frame}
use Rattle.frame_sound.specs.Places.{World, world_of}
use Rattle.frame_sound.specs.Fine.{IsOnList, list_of}
use Rattle.reference_sound.specs.References.{EachReference, JobHolds, ReferencesHold}
use Rattle.reference_sound.proofs.Plain.{each_weaker, arguments_first}
use Rattle.reference_sound.proofs.Among.{among_later, among_either, among_left}

-- ---- other lists

-- what the sequencer has without frames grows
larger : (base more : List ℕ) → ((a : ℕ) → is_among a base ≡ true → is_among a more ≡ true) →
    (fs : List Frame) (a : ℕ) →
    is_among a (list_of base fs) ≡ true → is_among a (list_of more fs) ≡ true
larger base more h [] a on = h a on
larger base more h (f ∷ fs) a on =
    elim (among_either a (option_to_list f.opened) (list_of base fs) on) as
    (λ z. is_among a (list_of more (f ∷ fs)) ≡ true) [
      | inl here ↦ among_left a (option_to_list f.opened) (list_of more fs) here
      | inr low ↦ among_later a (option_to_list f.opened) (list_of more fs) (larger base more h fs a low)
    ]

job_larger : (w : World) (base more : List ℕ) → ((a : ℕ) → is_among a base ≡ true → is_among a more ≡ true) →
    (fs : List Frame) → JobHolds w base fs → JobHolds w more fs
job_larger w base more h [] j = tt
job_larger w base more h (f ∷ fs) j = (
  each_weaker (IsOnList w (list_of base (f ∷ fs))) (IsOnList w (list_of more (f ∷ fs))) (λ r x. record {
    object = x.object;
    found = x.found;
    on_list = larger base more h (f ∷ fs) x.object.area x.on_list;
  }) f.locals j.0,
  job_larger w base more h fs j.1,
)

pub held_larger : (s : State) (base more : List ℕ) → ((a : ℕ) → is_among a base ≡ true → is_among a more ≡ true) →
    ReferencesHold s base → ReferencesHold s more
held_larger s base more h held =
    record {
      memory = held.memory;
      order = held.order;
      jobs = λ job a e. job_larger (world_of s) base more h a.frames (held.jobs job a e);
    }

-- it is another one where no job has a frame
pub held_frameless : (s : State) (base other : List ℕ) →
    ((job : Job) (a : Activity) → activity_of s job ≡ Some a → a.frames ≡ []) → ReferencesHold s base →
    ReferencesHold s other
held_frameless s base other none held =
    record {
      memory = held.memory;
      order = held.order;
      jobs = λ job a e. subst (JobHolds (world_of s) other) (sym (none job a e)) tt;
    }

-- and there is just one over which each job's list is that of its frames
behind_same : (o : Option ℕ) (xs ys : List ℕ) → option_to_list o ++ xs ≡ option_to_list o ++ ys → xs ≡ ys
behind_same None xs ys e = e
behind_same (Some a) xs ys e = cc (e)

one_base : (base other : List ℕ) (fs : List Frame) → list_of base fs ≡ list_of other fs → base ≡ other
one_base base other [] e = e
one_base base other (f ∷ fs) e =
    one_base base other fs (behind_same f.opened (list_of base fs) (list_of other fs) e)

pub held_again : (s : State) (base other : List ℕ) →
    ((job : Job) (a : Activity) → activity_of s job ≡ Some a → a.areas ≡ list_of base a.frames) →
    ((job : Job) (a : Activity) → activity_of s job ≡ Some a → a.areas ≡ list_of other a.frames) →
    ReferencesHold s base → ReferencesHold s other
held_again s base other first second held =
    record {
      memory = held.memory;
      order = held.order;
      jobs = λ job a e. subst (λ b. JobHolds (world_of s) b a.frames)
          (one_base base other a.frames (sym (first job a e) ∙ second job a e)) (held.jobs job a e);
    }

-- the first frame of a job refers to nothing
pub first_holds : (w : World) (base : List ℕ) (code : Code) (body : Body) (called_at this : Option ℕ) (area : ℕ)
    (f : Frame) → f.locals ≡ (new_frame code body called_at this area []).locals → JobHolds w base (f ∷ [])
first_holds w base code body called_at this area f same = (
  subst (EachReference (IsOnList w (list_of base (f ∷ [])))) (sym same)
      (arguments_first (IsOnList w (list_of base (f ∷ []))) code body called_at this area [] (All-nil _)),
  tt,
)
