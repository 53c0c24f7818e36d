-- States that differ in frames, releases, objects, static fields and areas: their numbers have 32 bits as before.
use Rattle.std.proofs.Common.{◌≡◌, ℕ, zero, suc, ◌+◌, ◌-◌, ◌%◌, ◌*◌, ◌≤◌, nat_lt, All, Bool, true, false, not, List, [], ◌∷◌, ◌++◌, length, length-append, Option, Some, None, if◌then◌else◌, refl, sym, ap, ◌∙◌, subst, arith, ◌⊎◌, inl, inr}
use Rattle.std.specs.Prelude.{drop, slice_get, slice_set}
use Rattle.std.proofs.lemmas.Bool.Decides.{nat_tests}
use Rattle.std.proofs.lemmas.List.{length-drop}
use Rattle.std.proofs.lemmas.List.Elements.{All-push, All-set}
use Rattle.scj_base.specs.declared.values.Value.{Value}
use Rattle.scj_builtins.specs.Framework.{periodic_handler, aperiodic_handler}
use Rattle.scj_rules.specs.declared.typing.Ty.{Ty}
use Rattle.scj_rules.specs.Classes.{hidden_fields, superclasses}
use Rattle.scj_rules.specs.Contexts.{Declarations}
use Rattle.scj_rules.specs.Layout.{size_with_slots}
use Rattle.scj_rules.specs.Words.{holds, is_among}
use Rattle.accepted_laws.proofs.Lists.{length_set}
use Rattle.accepted_laws.proofs.Tools.{some_inj}
use Rattle.scj_model.specs.State.{MemoryArea, Object, Frame, Activity, ReleaseStatus, Started, Ended, Release, Job, TheSequencer, ReleaseAt, State, activity_in, changed, with_activity, with_status}
use Rattle.scj_model.specs.Apply.{with_ceiling, with_first}
use Rattle.scj_model.specs.Memory.{closed, has_room, has_store_for, new_object, reserved, used, with_area, with_object, with_slot}
use Rattle.scj_model.specs.Steps.{closed_all}
use Rattle.scope_flow.specs.Slots.{array_type}
use Rattle.int_values.specs.Ints.{AreaFits, FitsInt, FrameFits, ObjectFits, ReleaseFits, StateFits}
use Rattle.int_values.proofs.Known.{all_at}

-- ---- lists

pub all_changed : {A : Type 0} (P : A → Type 0) (f : A → A) (n : ℕ) (xs : List A) → All P xs →
    ((x : A) → slice_get xs n ≡ Some x → P x → P (f x)) → All P (changed f n xs)
all_changed {A} P f n xs h g = go (slice_get xs n) refl
  where
    go : (o : Option A) → slice_get xs n ≡ o →
        All P (elim o as (λ _. List A) [ None ↦ xs | Some x ↦ slice_set xs n (f x) ])
    go None e = h
    go (Some x) e = All-set P xs n (f x) (g x e (all_at P xs n x h e)) h

-- what stands in a list in which one value was set
set_at : (xs : List Value) (n i : ℕ) (v u : Value) → slice_get (slice_set xs n v) i ≡ Some u →
    (v ≡ u) ⊎ (slice_get xs i ≡ Some u)
set_at [] n i v u e = inr e
set_at (x ∷ xs) zero zero v u e = inl (some_inj v u e)
set_at (x ∷ xs) zero (suc i) v u e = inr e
set_at (x ∷ xs) (suc n) zero v u e = inr e
set_at (x ∷ xs) (suc n) (suc i) v u e = set_at xs n i v u e

drop_none : (n : ℕ) → drop {A = Value} n [] ≡ []
drop_none zero = refl
drop_none (suc n) = refl

-- behind the first ones that were set
behind_first : (values xs : List Value) (i : ℕ) → length values ≤ i →
    slice_get (values ++ drop (length values) xs) i ≡ slice_get xs i
behind_first [] xs i l = refl
behind_first (v ∷ values) xs zero l = absurd (omega (arith, l))
behind_first (v ∷ values) [] (suc i) l =
    ap (λ (ys : List Value). slice_get (values ++ ys) i) (sym (drop_none (length values)))
    ∙ behind_first values [] i (omega (arith, l))
behind_first (v ∷ values) (x ∷ xs) (suc i) l = behind_first values xs i (omega (arith, l))

-- ---- objects

few_hidden : (p : Declarations) (class : ℕ) → hidden_fields p.classes class ≤ 4
unfolding hidden_fields
few_hidden p class =
    go (is_among periodic_handler (superclasses p.classes class))
    (is_among aperiodic_handler (superclasses p.classes class))
  where
    go : (t u : Bool) → (if t then 4 else (if u then 2 else 0)) ≤ 4
    go true u = omega arith
    go false true = omega arith
    go false false = omega arith

module _ (p : Declarations) where
  stored_fits : (slot : ℕ) (value : Value) → FitsInt value → (o : Object) → ObjectFits p o →
      ObjectFits p (record o { slots = slice_set o.slots slot value })
  stored_fits slot value fits o h =
      record {
        short = subst (λ n. n ≤ 67108864) (sym (length_set o.slots slot value)) h.short;
        elements = λ t e. All-set FitsInt o.slots slot value fits (h.elements t e);
        fields = λ n v l e. field n v l (set_at o.slots slot n value v e);
      }
    where
      field : (n : ℕ) (v : Value) → hidden_fields p.classes o.class ≤ n →
          (value ≡ v) ⊎ (slice_get o.slots n ≡ Some v) → FitsInt v
      field n v l (inl same) = subst FitsInt same fits
      field n v l (inr there) = h.fields n v l there

  first_fits : (values : List Value) (o : Object) → array_type p o.class ≡ None →
      length values ≤ hidden_fields p.classes o.class → ObjectFits p o → ObjectFits p (with_first values o)
  first_fits values o none few h =
      record {
        short = short;
        elements = λ t e. absurd (no_array t e);
        fields = λ n v l e. h.fields n v l (sym (behind_first values o.slots n (omega (arith, few, l))) ∙ e);
      }
    where
      no_array : (t : Ty) → array_type p o.class ≡ Some t → ⊥
      no_array t e = let q : None ≡ Some t = sym none ∙ e in cc (q)

      short : length (values ++ drop (length values) o.slots) ≤ 67108864
      short =
          let a = length-append values (drop (length values) o.slots) in
          let d = length-drop (length values) o.slots in
          let four = few_hidden p o.class in
          let s = h.short in omega (arith, a, d, four, few, s)

  made_fits : (class area : ℕ) (slots : List Value) → length slots ≤ 67108864 → All FitsInt slots →
      ObjectFits p (new_object class area slots)
  made_fits class area slots short h =
      record { short = short; elements = λ t e. h; fields = λ n v l e. all_at FitsInt slots n v h e }

  ceiling_fits : (ceiling : ℕ) (o : Object) → ObjectFits p o → ObjectFits p (with_ceiling ceiling o)
  ceiling_fits ceiling o h = record { short = h.short; elements = h.elements; fields = h.fields }

  -- ---- states

  -- one that differs in nothing of this
  pub alike : (s t : State) → StateFits p s → t.store ≡ s.store → t.areas ≡ s.areas → t.objects ≡ s.objects →
      t.statics ≡ s.statics → t.activity.frames ≡ s.activity.frames → t.releases ≡ s.releases → StateFits p t
  alike s t h store areas objects statics frames releases =
      record {
        store = subst (λ n. n ≤ 67108864) (sym store) h.store;
        areas = subst (All AreaFits) (sym areas) h.areas;
        objects = subst (All (ObjectFits p)) (sym objects) h.objects;
        statics = subst (All FitsInt) (sym statics) h.statics;
        sequencer = subst (All FrameFits) (sym frames) h.sequencer;
        releases = subst (All ReleaseFits) (sym releases) h.releases;
      }

  pub with_objects : (s : State) (objects : List Object) → StateFits p s → All (ObjectFits p) objects →
      StateFits p (record s { objects = objects })
  with_objects s objects h k =
      record {
        store = h.store;
        areas = h.areas;
        objects = k;
        statics = h.statics;
        sequencer = h.sequencer;
        releases = h.releases;
      }

  pub with_statics : (s : State) (statics : List Value) → StateFits p s → All FitsInt statics →
      StateFits p (record s { statics = statics })
  with_statics s statics h k =
      record {
        store = h.store;
        areas = h.areas;
        objects = h.objects;
        statics = k;
        sequencer = h.sequencer;
        releases = h.releases;
      }

  pub with_releases : (s : State) (releases : List Release) → StateFits p s → All ReleaseFits releases →
      StateFits p (record s { releases = releases })
  with_releases s releases h k =
      record {
        store = h.store;
        areas = h.areas;
        objects = h.objects;
        statics = h.statics;
        sequencer = h.sequencer;
        releases = k;
      }

  pub slot_fits : (s : State) (r slot : ℕ) (value : Value) → StateFits p s → FitsInt value →
      StateFits p (with_slot s r slot value)
  slot_fits s r slot value h fits =
      with_objects s _ h
      (all_changed (ObjectFits p) (λ (o : Object). record o { slots = slice_set o.slots slot value }) r s.objects h.objects
      (λ o e k. stored_fits slot value fits o k))

  pub hidden_is_fit : (s : State) (r : ℕ) (values : List Value) → StateFits p s →
      ((o : Object) → slice_get s.objects r ≡ Some o →
      (array_type p o.class ≡ None) × (length values ≤ hidden_fields p.classes o.class)) →
      StateFits p (record s { objects = changed (with_first values) r s.objects })
  hidden_is_fit s r values h g =
      with_objects s _ h
      (all_changed (ObjectFits p) (with_first values) r s.objects h.objects
      (λ o e k. first_fits values o (g o e).0 (g o e).1 k))

  pub ceiling_is_fit : (s : State) (r ceiling : ℕ) → StateFits p s →
      StateFits p (record s { objects = changed (with_ceiling ceiling) r s.objects })
  ceiling_is_fit s r ceiling h =
      with_objects s _ h
      (all_changed (ObjectFits p) (with_ceiling ceiling) r s.objects h.objects (λ o e k. ceiling_fits ceiling o k))

  -- ---- frames of a job

  abbrev pub StatusFits : ReleaseStatus → Type 0
  StatusFits status = (a : Activity) → activity_in status ≡ Some a → All FrameFits a.frames

  pub status_fits : (s : State) (n : ℕ) (status : ReleaseStatus) → StateFits p s → StatusFits status →
      StateFits p (with_status s n status)
  status_fits s n status h k =
      with_releases s _ h
      (all_changed ReleaseFits (λ (r : Release). record r { status = status }) n s.releases h.releases
      (λ r e g. record { frames = k }))

  started : (a : Activity) → All FrameFits a.frames → StatusFits (Started a)
  unfolding activity_in
  started a h b e = subst (λ (x : Activity). All FrameFits x.frames) (some_inj a b e) h

  pub ended : StatusFits Ended
  unfolding activity_in
  ended b e = absurd (cc (e))

  pub active_fits : (s : State) (job : Job) (a : Activity) → StateFits p s → All FrameFits a.frames →
      StateFits p (with_activity s job a)
  unfolding with_activity
  active_fits s TheSequencer a h k =
      record {
        store = h.store;
        areas = h.areas;
        objects = h.objects;
        statics = h.statics;
        sequencer = k;
        releases = h.releases;
      }
  active_fits s (ReleaseAt n) a h k = status_fits s n (Started a) h (started a k)

  -- ---- areas

  with_areas : (s : State) (areas : List MemoryArea) → StateFits p s → All AreaFits areas →
      StateFits p (record s { areas = areas })
  with_areas s areas h k =
      record {
        store = h.store;
        areas = k;
        objects = h.objects;
        statics = h.statics;
        sequencer = h.sequencer;
        releases = h.releases;
      }

  pub closed_fits : (s : State) (o : Option ℕ) → StateFits p s → StateFits p (closed s o)
  unfolding closed
  closed_fits s None h = h
  closed_fits s (Some a) h =
      with_areas s _ h
      (all_changed AreaFits (λ (x : MemoryArea). record x { is_open = false }) a s.areas h.areas (λ x e k. k))

  pub closed_all_fits : (frames : List Frame) (s : State) → StateFits p s → StateFits p (closed_all s frames)
  unfolding closed_all
  closed_all_fits [] s h = h
  closed_all_fits (f ∷ fs) s h = closed_all_fits fs (closed s f.opened) (closed_fits s f.opened h)

  -- ---- what is opened and made has room

  bytes_fit : (store used bytes : ℕ) → store ≤ 67108864 →
      not (nat_lt store (used + (bytes + (8 - bytes % 8) % 8))) ≡ true → bytes ≤ 67108864
  bytes_fit store used bytes l e = grind (arith, nat_tests, l, e)

  pub opened_fits : (s : State) (scope : ℕ) (parent : Option ℕ) (bytes : ℕ) → StateFits p s →
      has_store_for s bytes ≡ true → StateFits p (with_area s scope parent bytes)
  unfolding has_store_for
  opened_fits s scope parent bytes h e =
      with_areas s _ h (All-push AreaFits s.areas _ h.areas (bytes_fit s.store (reserved s) bytes h.store e))

  slots_fit : (bytes used count : ℕ) → bytes ≤ 67108864 → not (nat_lt bytes (used + 8 * (2 + count))) ≡ true →
      count ≤ 67108864
  slots_fit bytes used count l e = grind (arith, nat_tests, l, e)

  room_fits : (s : State) (area count : ℕ) → StateFits p s → has_room s area count ≡ true → count ≤ 67108864
  unfolding has_room size_with_slots
  room_fits s area count h e = go (slice_get s.areas area) refl e
    where
      go : (o : Option MemoryArea) → slice_get s.areas area ≡ o →
          holds o (λ x. not (nat_lt x.bytes (used s area + 8 * (2 + count)))) ≡ true → count ≤ 67108864
      go None f g = absurd (cc (g))
      go (Some x) f g = slots_fit x.bytes (used s area) count (all_at AreaFits s.areas area x h.areas f) g

  pub object_fits : (s : State) (class area : ℕ) (slots : List Value) → StateFits p s →
      has_room s area (length slots) ≡ true → All FitsInt slots → StateFits p (with_object s class area slots)
  object_fits s class area slots h room fit =
      with_objects s _ h
      (All-push (ObjectFits p) s.objects _ h.objects
      (made_fits class area slots (room_fits s area (length slots) h room) fit))
