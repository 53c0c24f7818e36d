-- Objects that are still there: one more is made, or one changes but for its class and its area. What lies on the list
-- of a job lies on it as before.
use Rattle.std.specs.Prelude.{Option, Some, slice_get, ◌==◌}
use Rattle.std.proofs.Common.{◌≡◌, ℕ, List, [], ◌∷◌, true, false, refl, sym, ◌∙◌, ap, arith, ◌⊎◌, inl, inr}
use Rattle.std.proofs.lemmas.Bool.Decides.{nat_tests}
use Rattle.scj_base.specs.declared.values.Value.{Value}
use Rattle.scj_rules.specs.Words.{is_among}
use Rattle.accepted_laws.proofs.Lists.{get_left}
use Rattle.scj_model.specs.State.{Object, Frame, State, changed}
use Rattle.scj_model.specs.Memory.{with_object, with_area}
use Rattle.scope_flow.proofs.Known.{bool_cases}
use Rattle.frame_sound.specs.Places.{World, world_of}
use Rattle.frame_sound.specs.Fine.{IsOnList, list_of}
use Rattle.frame_sound.proofs.Changes.{changed_at, changed_off}
use Rattle.reference_sound.specs.References.{JobHolds}
use Rattle.reference_sound.specs.Objects.{IsStillThere, ObjectsStay}
use Rattle.reference_sound.proofs.Plain.{each_weaker}

pub objects_same : (w : World) → ObjectsStay w w
objects_same w r o e = record { object = o; found = e; class = refl; area = refl }

pub objects_opened : (s : State) (scope : ℕ) (parent : Option ℕ) (bytes : ℕ) →
    ObjectsStay (world_of s) (world_of (with_area s scope parent bytes))
objects_opened s scope parent bytes r o e = record { object = o; found = e; class = refl; area = refl }

pub objects_made : (s : State) (class area : ℕ) (slots : List Value) →
    ObjectsStay (world_of s) (world_of (with_object s class area slots))
objects_made s class area slots r o e =
    record { object = o; found = get_left s.objects _ r o e; class = refl; area = refl }

pub objects_changed : (s : State) (f : Object → Object) → ((o : Object) → (f o).class ≡ o.class) →
    ((o : Object) → (f o).area ≡ o.area) → (r : ℕ) →
    ObjectsStay (world_of s) (world_of (record s { objects = changed f r s.objects }))
objects_changed s f class_same area_same r q o e = go q o e (bool_cases (r == q))
  where
    go : (q : ℕ) (o : Object) → slice_get s.objects q ≡ Some o → ((r == q) ≡ true) ⊎ ((r == q) ≡ false) →
        IsStillThere (world_of (record s { objects = changed f r s.objects })) q o
    go q o e (inl t) =
        let same : r ≡ q = grind (arith, nat_tests) in
        record {
          object = f o;
          found = ap (slice_get (changed f r s.objects)) (sym same)
              ∙ changed_at f r s.objects o (ap (slice_get s.objects) same ∙ e);
          class = class_same o;
          area = area_same o;
        }
    go q o e (inr t) =
        record {
          object = o;
          found = changed_off f r s.objects q (λ same. grind (arith, nat_tests)) ∙ e;
          class = refl;
          area = refl;
        }

module _ (w w2 : World) (stay : ObjectsStay w w2) where
  pub on_list_still : (list : List ℕ) (r : ℕ) → IsOnList w list r → IsOnList w2 list r
  on_list_still list r h =
      let x = stay r h.object h.found in
      record { object = x.object; found = x.found; on_list = ap (λ a. is_among a list) x.area ∙ h.on_list }

  pub job_holds : (base : List ℕ) (frames : List Frame) → JobHolds w base frames → JobHolds w2 base frames
  job_holds base [] h = tt
  job_holds base (f ∷ fs) h = (
    each_weaker (IsOnList w (list_of base (f ∷ fs))) (IsOnList w2 (list_of base (f ∷ fs)))
        (on_list_still (list_of base (f ∷ fs))) f.locals h.0,
    job_holds base fs h.1,
  )
