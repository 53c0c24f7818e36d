-- Slots and static fields: what they refer to outlives them as before, where objects keep their areas, and areas their
-- parents; where an object is made; and where a slot, the hidden slots or a ceiling of one changes.
use Rattle.std.specs.Prelude.{Option, Some, slice_get, slice_set, drop, ◌++◌}
use Rattle.std.proofs.Common.{◌≡◌, ℕ, List, [], ◌∷◌, length, refl, sym, ◌∙◌, ap, subst, ◌⊎◌, inl, inr}
use Rattle.std.proofs.lemmas.List.Elements.{All-append, All-drop, All-set}
use Rattle.scj_base.specs.declared.values.Value.{Value}
use Rattle.accepted_laws.proofs.Lists.{get_either}
use Rattle.accepted_laws.proofs.Tools.{some_inj}
use Rattle.scj_model.specs.State.{MemoryArea, Object, changed}
use Rattle.scj_model.specs.Apply.{with_first, with_ceiling}
use Rattle.frame_sound.specs.Places.{World}
use Rattle.frame_sound.proofs.Changes.{look, changed_from, with_value}
use Rattle.reference_sound.specs.References.{IfReference, EachReference, NoReference, LiesIn, is_itself, lies_deeper, LiesAround, LiesInImmortal, MemoryHolds}
use Rattle.reference_sound.specs.Objects.{ObjectsStay}
use Rattle.reference_sound.proofs.Plain.{if_weaker, each_weaker}
use Rattle.reference_sound.specs.EffectsHold.{MayStore}

-- each area is still there, in the same one as before
abbrev pub ParentsStay : World → World → Type 0
ParentsStay w w2 =
    (a : ℕ) (x : MemoryArea) → w.areas a ≡ Some x →
    (y : MemoryArea) × (w2.areas a ≡ Some y) × (y.parent ≡ x.parent)

pub lies_still : (w w2 : World) → ParentsStay w w2 → (a b : ℕ) → LiesIn w.areas a b → LiesIn w2.areas a b
lies_still w w2 parents _ _ (is_itself a) = is_itself a
lies_still w w2 parents _ _ (lies_deeper a b c x there up deep) =
    let y = parents a x there in lies_deeper a b c y.0 y.1 (y.2 ∙ up) (lies_still w w2 parents b c deep)

module _ (w w2 : World) (parents : ParentsStay w w2) (objects : ObjectsStay w w2) where
  pub around_still : (area r : ℕ) → LiesAround w area r → LiesAround w2 area r
  around_still area r h =
      let x = objects r h.object h.found in
      record {
        object = x.object;
        found = x.found;
        around = subst (LiesIn w2.areas area) (sym x.area) (lies_still w w2 parents area h.object.area h.around);
      }

  pub immortal_still : (r : ℕ) → LiesInImmortal w r → LiesInImmortal w2 r
  immortal_still r h =
      let x = objects r h.object h.found in
      record { object = x.object; found = x.found; in_first = x.area ∙ h.in_first }

  abbrev pub SlotsHold : World → Object → Type 0
  SlotsHold u o = EachReference (LiesAround u o.area) o.slots

  pub slots_still : (o : Object) → SlotsHold w o → SlotsHold w2 o
  slots_still o h = each_weaker (LiesAround w o.area) (LiesAround w2 o.area) (around_still o.area) o.slots h

  -- the slots hold what they held, or what they may
  pub memory_still : (old new : List Value) → MemoryHolds w old →
      ((r : ℕ) (o : Object) → w2.objects r ≡ Some o → SlotsHold w o ⊎ SlotsHold w2 o) →
      EachReference (LiesInImmortal w2) new → MemoryHolds w2 new
  memory_still old new h slots statics =
      record {
        slots = λ r o e. elim (slots r o e) as (λ z. SlotsHold w2 o) [
          | inl was ↦ slots_still o was
          | inr is ↦ is
        ];
        statics = statics;
      }

  pub statics_still : (values : List Value) → MemoryHolds w values → EachReference (LiesInImmortal w2) values
  statics_still values h = each_weaker (LiesInImmortal w) (LiesInImmortal w2) immortal_still values h.statics

  -- no object is new, and none has other slots
  pub memory_same : (values : List Value) → w2.objects ≡ w.objects → MemoryHolds w values → MemoryHolds w2 values
  memory_same values same h =
      memory_still values values h (λ r o e. inl (h.slots r o (ap (λ f. f r) (sym same) ∙ e))) (statics_still values h)

-- ---- the objects change

module _ (areas : ℕ → Option MemoryArea) (objects : List Object) (values : List Value)
    (h : MemoryHolds (look areas objects) values) where
  abbrev w : World
  w = look areas objects

  parents_are : (more : List Object) → ParentsStay w (look areas more)
  parents_are more a x e = (x, e, refl)

  pub memory_made : (o : Object) → NoReference o.slots → ObjectsStay w (look areas (objects ++ o ∷ [])) →
      MemoryHolds (look areas (objects ++ o ∷ [])) values
  memory_made o none stay =
      memory_still w w2 (parents_are (objects ++ o ∷ [])) stay values values h
      (λ r x e. elim (get_either objects o r x e) as (λ z. SlotsAre x) [
        | inl was ↦ inl (h.slots r x was)
        | inr is ↦ inr (subst (λ (y : Object). EachReference (LiesAround w2 y.area) y.slots) is fresh)
      ]) (statics_still w w2 (parents_are (objects ++ o ∷ [])) stay values h)
    where
      w2 : World
      w2 = look areas (objects ++ o ∷ [])

      SlotsAre : Object → Type 0
      SlotsAre x = EachReference (LiesAround w x.area) x.slots ⊎ EachReference (LiesAround w2 x.area) x.slots

      fresh : EachReference (LiesAround w2 o.area) o.slots
      fresh = each_weaker (λ r. ⊥) (LiesAround w2 o.area) (λ r e. absurd e) o.slots none

  pub memory_changed : (f : Object → Object) (r : ℕ) → ObjectsStay w (look areas (changed f r objects)) →
      ((o : Object) → slice_get objects r ≡ Some o →
      EachReference (LiesAround (look areas (changed f r objects)) (f o).area) (f o).slots) →
      MemoryHolds (look areas (changed f r objects)) values
  memory_changed f r stay slots =
      memory_still w w2 (parents_are (changed f r objects)) stay values values h
      (λ n x e. elim (changed_from f r objects n x e) as (λ z. SlotsAre x) [
        | inl was ↦ inl (h.slots n x was)
        | inr is ↦ inr (subst (λ (y : Object). EachReference (LiesAround w2 y.area) y.slots) is.2 (slots is.0 is.1))
      ]) (statics_still w w2 (parents_are (changed f r objects)) stay values h)
    where
      w2 : World
      w2 = look areas (changed f r objects)

      SlotsAre : Object → Type 0
      SlotsAre x = EachReference (LiesAround w x.area) x.slots ⊎ EachReference (LiesAround w2 x.area) x.slots

  -- a value is stored that may be stored
  pub memory_stored : (r slot : ℕ) (v : Value) → MayStore w r v →
      ObjectsStay w (look areas (changed (with_value slot v) r objects)) →
      MemoryHolds (look areas (changed (with_value slot v) r objects)) values
  memory_stored r slot v may stay =
      memory_changed (with_value slot v) r stay (λ o there.
      All-set (IfReference (LiesAround w2 o.area)) o.slots slot v (fits o there)
      (slots_still w w2 (parents_are (changed (with_value slot v) r objects)) stay o (h.slots r o there)))
    where
      w2 : World
      w2 = look areas (changed (with_value slot v) r objects)

      fits : (o : Object) → slice_get objects r ≡ Some o → IfReference (LiesAround w2 o.area) v
      fits o there =
          let same : may.object ≡ o = some_inj may.object o (sym may.found ∙ there) in
          if_weaker (LiesAround w o.area) (LiesAround w2 o.area)
          (around_still w w2 (parents_are (changed (with_value slot v) r objects)) stay o.area) v
          (subst (λ (x : Object). IfReference (LiesAround w x.area) v) same may.around)

  pub memory_hidden : (r : ℕ) (hidden : List Value) → NoReference hidden →
      ObjectsStay w (look areas (changed (with_first hidden) r objects)) →
      MemoryHolds (look areas (changed (with_first hidden) r objects)) values
  memory_hidden r hidden none stay =
      memory_changed (with_first hidden) r stay (λ o there.
      All-append (IfReference (LiesAround w2 o.area)) hidden (drop (length hidden) o.slots)
      (each_weaker (λ r. ⊥) (LiesAround w2 o.area) (λ r e. absurd e) hidden none)
      (All-drop (IfReference (LiesAround w2 o.area)) (length hidden) o.slots
      (slots_still w w2 (parents_are (changed (with_first hidden) r objects)) stay o (h.slots r o there))))
    where
      w2 : World
      w2 = look areas (changed (with_first hidden) r objects)

  pub memory_ceiling : (r ceiling : ℕ) → ObjectsStay w (look areas (changed (with_ceiling ceiling) r objects)) →
      MemoryHolds (look areas (changed (with_ceiling ceiling) r objects)) values
  memory_ceiling r ceiling stay =
      memory_changed (with_ceiling ceiling) r stay (λ o there.
      slots_still w w2 (parents_are (changed (with_ceiling ceiling) r objects)) stay o (h.slots r o there))
    where
      w2 : World
      w2 = look areas (changed (with_ceiling ceiling) r objects)

  pub memory_static : (n : ℕ) (v : Value) → IfReference (LiesInImmortal w) v →
      MemoryHolds w (slice_set values n v)
  memory_static n v may =
      record { slots = h.slots; statics = All-set (IfReference (LiesInImmortal w)) values n v may h.statics }
