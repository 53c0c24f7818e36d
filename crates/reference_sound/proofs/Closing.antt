-- Areas are closed: objects, static fields and jobs are as they were, and areas lie in one another as before.
use Rattle.std.specs.Prelude.{Option, Some, None, slice_get}
use Rattle.std.proofs.Common.{◌≡◌, ℕ, List, [], ◌∷◌, refl, sym, ◌∙◌, ap, subst}
use Rattle.scj_model.specs.State.{Object, Frame, State}
use Rattle.scj_model.specs.Memory.{closed}
use Rattle.scj_model.specs.Steps.{closed_all}
use Rattle.frame_sound.specs.Places.{world_of}
use Rattle.frame_sound.proofs.Closes.{was, stays}
use Rattle.reference_sound.specs.References.{ParentsAreEarlier, MemoryHolds}
use Rattle.reference_sound.specs.Objects.{ObjectsStay}
use Rattle.reference_sound.proofs.Memory.{ParentsStay, memory_same}

pub record ClosesOnly (s t : State) : Type 0 where
  pub objects : t.objects ≡ s.objects
  pub statics : t.statics ≡ s.statics
  pub releases : t.releases ≡ s.releases
  pub activity : t.activity ≡ s.activity
  pub parents : ParentsStay (world_of s) (world_of t)
  pub order : ParentsAreEarlier (world_of s).areas → ParentsAreEarlier (world_of t).areas

nothing_closes : (s : State) → ClosesOnly s s
nothing_closes s =
    record {
      objects = refl;
      statics = refl;
      releases = refl;
      activity = refl;
      parents = λ a x e. (x, e, refl);
      order = λ h. h;
    }

pub one_closes : (s : State) (o : Option ℕ) → ClosesOnly s (closed s o)
unfolding closed
one_closes s None = nothing_closes s
one_closes s (Some a) =
    record {
      objects = refl;
      statics = refl;
      releases = refl;
      activity = refl;
      parents = λ b x e. (let y = stays s.areas a b x e in (y.area, y.is_there, y.parent));
      order = λ h. record {
        earlier = λ b d y there up. (let x = was s.areas a b y there in
            h.earlier b d x.area x.is_there (sym x.parent ∙ up));
      };
    }

pub all_close : (frames : List Frame) (s : State) → ClosesOnly s (closed_all s frames)
unfolding closed_all
all_close [] s = nothing_closes s
all_close (f ∷ fs) s =
    let first = one_closes s f.opened in
    let rest = all_close fs (closed s f.opened) in
    record {
      objects = rest.objects ∙ first.objects;
      statics = rest.statics ∙ first.statics;
      releases = rest.releases ∙ first.releases;
      activity = rest.activity ∙ first.activity;
      parents = λ a x e. (let y = first.parents a x e in let z = rest.parents a y.0 y.1 in (z.0, z.1, z.2 ∙ y.2));
      order = λ h. rest.order (first.order h);
    }

module _ (s t : State) (c : ClosesOnly s t) where
  pub objects_close : ObjectsStay (world_of s) (world_of t)
  objects_close r o e =
      record {
        object = o;
        found = ap (λ (xs : List Object). slice_get xs r) c.objects ∙ e;
        class = refl;
        area = refl;
      }

  pub memory_close : MemoryHolds (world_of s) s.statics → MemoryHolds (world_of t) t.statics
  memory_close h =
      let look : List Object → ℕ → Option Object = λ xs r. slice_get xs r in
      subst (MemoryHolds (world_of t)) (sym c.statics)
      (memory_same (world_of s) (world_of t) c.parents objects_close s.statics
      (ap look c.objects) h)
