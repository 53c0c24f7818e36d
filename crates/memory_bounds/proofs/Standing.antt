-- The next operation of a release, where the whole state is as the invariant says: its frame is ready, and its effect is
-- as it has to be.
use Rattle.std.specs.Prelude.{Option, Some, None, slice_get}
use Rattle.std.proofs.Common.{◌≡◌, ℕ, List, ◌∷◌, ◌∙◌, ap, subst}
use Rattle.scj_rules.specs.Words.{◌>>=◌}
use Rattle.scj_model.specs.declared.operations.Op.{Op}
use Rattle.scj_model.specs.declared.plans.ReadingRow.{ReadingRow}
use Rattle.scj_model.specs.Code.{Code}
use Rattle.scj_model.specs.State.{Frame, Activity, Started, Release, ReleaseAt, State, activity_in, activity_of}
use Rattle.scj_model.specs.Run.{environment, effect_at}
use Rattle.scope_flow.specs.Facts.{Facts}
use Rattle.frame_sound.specs.Places.{world_of}
use Rattle.frame_sound.specs.Fine.{FramesFine, Ready, list_of}
use Rattle.frame_sound.specs.EffectsFine.{Fine as EffectIsFine}
use Rattle.frame_sound.proofs.NextOperation.{next_fine}
use Rattle.mission_sound.specs.Bases.{areas_of}
use Rattle.mission_sound.specs.Invariant.{Invariant}
use Rattle.reference_sound.proofs.Passes.{highest_ready}

-- a started release with its next operation
pub record IsNext (s : State) (index : ℕ) (r : Release) (a : Activity) (f : Frame) (below : List Frame) (op : Op)
    (rest : List Op) : Type 0 where
  pub there : slice_get s.releases index ≡ Some r
  pub status : r.status ≡ Started a
  pub frames : a.frames ≡ f ∷ below
  pub ops : f.rest ≡ op ∷ rest

module _ (code : Code) (facts : Facts code) (rows : List ReadingRow) (s : State) (i : Invariant code s) (index : ℕ)
    (r : Release) (a : Activity) (f : Frame) (below : List Frame) (op : Op) (rest : List Op)
    (next : IsNext s index r a f below op rest) where
  abbrev pub list : List ℕ
  list = list_of (areas_of i.base) (f ∷ below)

  pub is_activity : activity_of s (ReleaseAt index) ≡ Some a
  unfolding activity_of activity_in
  is_activity = ap (λ (o : Option Release). o >>= (λ x. activity_in x.status)) next.there ∙ ap activity_in next.status

  pub stand : FramesFine code (world_of s) (areas_of i.base) (f ∷ below)
  stand =
      subst (FramesFine code (world_of s) (areas_of i.base)) next.frames
      (i.memories.jobs (ReleaseAt index) a is_activity).frames

  pub ready : Ready code (world_of s) (list_of (areas_of i.base) (f ∷ below)) stand.0.class stand.0.sig
      (record f { rest = op ∷ rest }) None
  ready =
      subst (λ (ops : List Op). Ready code (world_of s) list stand.0.class stand.0.sig (record f { rest = ops }) None)
      next.ops (highest_ready code (world_of s) list f stand.0)

  pub fine : EffectIsFine code (world_of s) (list_of (areas_of i.base) (f ∷ below)) stand.0.class stand.0.sig
      (record f { rest = rest }) (effect_at code rows s f op rest)
  fine =
      next_fine code facts (world_of s).areas (environment rows s) list stand.0.class stand.0.sig f op rest stand.1
      i.memories.memory.heap i.memories.memory.statics ready
