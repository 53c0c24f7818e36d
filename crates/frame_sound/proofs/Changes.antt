-- What becomes of the objects: a new one, and one that changes, leave the others as they were; each object is as fine
-- as before.
use Rattle.std.specs.Prelude.{Option, Some, None, slice_get, slice_set, ◌==◌, ◌++◌}
use Rattle.std.proofs.Common.{◌≡◌, ℕ, suc, ◌<◌, List, [], ◌∷◌, length, true, false, refl, sym, ◌∙◌, ap, subst, arith, ◌⊎◌, inl, inr}
use Rattle.std.proofs.lemmas.Bool.Decides.{nat_tests}
use Rattle.scj_base.specs.declared.values.Value.{Value}
use Rattle.scj_rules.specs.declared.typing.Scope.{Scope}
use Rattle.scj_rules.specs.declared.typing.Scope.TheVariants.{This, In}
use Rattle.scj_rules.specs.declared.views.Body.{Body}
use Rattle.scj_rules.specs.Contexts.{Declarations}
use Rattle.scj_rules.specs.Layout.{slots}
use Rattle.scj_rules.specs.ScopeRules.{immortal_scope, is_outer}
use Rattle.accepted_laws.specs.Kinds.{Kind}
use Rattle.accepted_laws.proofs.Lists.{get_set_same, get_set_other, length_set, get_left, get_either, get_within}
use Rattle.accepted_laws.proofs.Tools.{some_inj}
use Rattle.scj_model.specs.State.{MemoryArea, Object, changed}
use Rattle.scj_model.specs.Memory.{new_object}
use Rattle.scope_flow.specs.Slots.{array_type, kind_of_slot}
use Rattle.scope_flow.specs.Signatures.{Signature, LiesHere, LiesAround, SlotsReach}
use Rattle.scope_flow.proofs.Known.{bool_cases}
use Rattle.frame_sound.specs.Places.{World, Place, area_named, denote, area_around, within, held, Has}
use Rattle.frame_sound.specs.Fine.{ListFine, AreasFine, IsInstance, ObjectFine, HeapFine, StaticsFine, Home}
use Rattle.frame_sound.specs.EffectsFine.{StoreFine}
use Rattle.frame_sound.proofs.Places.{at_area, named_is}
use Rattle.frame_sound.proofs.Keeps.{IsKept, ObjectsAreKept, Keeps, has_kept}

-- ---- one element of a list changes

module _ {A : Type 0} (f : A → A) (r : ℕ) (xs : List A) where
  pub changed_at : (x : A) → slice_get xs r ≡ Some x → slice_get (changed f r xs) r ≡ Some (f x)
  changed_at x e =
      ap (λ (o : Option A). slice_get (elim o as (λ z. List A) [ None ↦ xs | Some y ↦ slice_set xs r (f y) ]) r) e
      ∙ get_set_same xs r (f x) (get_within xs r x e)

  pub changed_off : (n : ℕ) → (r ≡ n → ⊥) → slice_get (changed f r xs) n ≡ slice_get xs n
  changed_off n other = go (slice_get xs r)
    where
      go : (o : Option A) →
          slice_get (elim o as (λ z. List A) [ None ↦ xs | Some y ↦ slice_set xs r (f y) ]) n ≡ slice_get xs n
      go None = refl
      go (Some y) = get_set_other xs r n (f y) other

  -- what is found behind the change was there, or is what changed
  pub changed_from : (n : ℕ) (y : A) → slice_get (changed f r xs) n ≡ Some y →
      (slice_get xs n ≡ Some y) ⊎ ((x : A) × (slice_get xs r ≡ Some x) × (f x ≡ y) × (n ≡ r))
  changed_from n y e = go (bool_cases (r == n))
    where
      there : (o : Option A) → slice_get xs r ≡ o → n ≡ r →
          (slice_get xs n ≡ Some y) ⊎ ((x : A) × (slice_get xs r ≡ Some x) × (f x ≡ y) × (n ≡ r))
      there None g s =
          inl (sym
          (ap
          (λ (o : Option A). slice_get (elim o as (λ z. List A) [ None ↦ xs | Some y ↦ slice_set xs r (f y) ]) n) g)
          ∙ e)
      there (Some x) g s =
          inr (x, g, some_inj (f x) y (sym (changed_at x g) ∙ ap (slice_get (changed f r xs)) (sym s) ∙ e), s)

      go : ((r == n) ≡ true) ⊎ ((r == n) ≡ false) →
          (slice_get xs n ≡ Some y) ⊎ ((x : A) × (slice_get xs r ≡ Some x) × (f x ≡ y) × (n ≡ r))
      go (inl t) = there (slice_get xs r) refl (let s : n ≡ r = grind (arith, nat_tests) in s)
      go (inr t) = inl (sym (changed_off n (λ s. grind (arith, nat_tests))) ∙ e)

-- ---- worlds with the same areas

abbrev pub look : (ℕ → Option MemoryArea) → List Object → World
look areas objects = record { areas = areas; objects = (λ r. slice_get objects r) }

module _ (p : Declarations) (areas : ℕ → Option MemoryArea) (old new : List Object) where
  abbrev before : World
  before = look areas old

  abbrev after : World
  after = look areas new

  pub same_areas : (list : List ℕ) → ListFine areas list → Keeps before after list
  same_areas list fine = record { named = λ s. refl; fine = fine }

  module _ (kept : ObjectsAreKept before after) where
    pub object_still : (o : Object) → ObjectFine p before o → ObjectFine p after o
    object_still o f =
        record {
          is_instance = f.is_instance;
          area = f.area;
          is_area = f.is_area;
          is_placed = f.is_placed;
          reach = f.reach;
          is_full = f.is_full;
          has = λ slot k v is there. has_kept p before after kept (held (within areas o.area) k) v
              (f.has slot k v is there);
        }

    pub statics_still : (statics : List Value) → StaticsFine p before statics → StaticsFine p after statics
    statics_still statics h place k is =
        let s = h place k is in
        record {
          value = s.value;
          is = s.is;
          has = has_kept p before after kept (held (within areas 0) k) s.value
              s.has;
        }

-- ---- a new object

pub new_is_kept : (areas : ℕ → Option MemoryArea) (objects : List Object) (o : Object) →
    ObjectsAreKept (look areas objects) (look areas (objects ++ o ∷ []))
new_is_kept areas objects o r x e =
    record { object = x; found = get_left objects (o ∷ []) r x e; class = refl; area = refl }

pub heap_new : (p : Declarations) (areas : ℕ → Option MemoryArea) (objects : List Object) (o : Object) →
    HeapFine p (look areas objects) →
    ObjectFine p (look areas (objects ++ o ∷ [])) o → HeapFine p (look areas (objects ++ o ∷ []))
heap_new p areas objects o heap fine r x e =
    elim (get_either objects o r x e) as (λ z. ObjectFine p (look areas (objects ++ o ∷ [])) x) [
      | inl h ↦ object_still p areas objects (objects ++ o ∷ []) (new_is_kept areas objects o) x (heap r x h)
      | inr h ↦ subst (ObjectFine p (look areas (objects ++ o ∷ []))) h fine
    ]

-- where a frame's current scope is named, its current area has that scope
module _ (p : Declarations) (w : World) (af : AreasFine p w.areas) (list : List ℕ) (fine : ListFine w.areas list)
    (c : ℕ) (sig : Signature) (body : Body) (this : Option ℕ) (now : ℕ) (home : Home p w list c sig body this now) where
  here : (x : MemoryArea) × (w.areas now ≡ Some x) × (area_named w.areas x.scope list ≡ Some now)
  here = fine.found now home.now_on_list

  named : (n : ℕ) → sig.runs_in ≡ In n → here.0.scope ≡ n
  unfolding denote
  named n e =
      let y = named_is w.areas n now list
      (at_area (denote w list this now (In n)) now (sym (ap (denote w list this now) e) ∙ home.is_now)) in
      ap (λ z. z.scope) (some_inj here.0 y.area (sym here.1 ∙ y.is_there)) ∙ y.is_named

  around : (n : ℕ) → LiesAround p n sig.runs_in → (n ≡ immortal_scope) ⊎ (is_outer p n here.0.scope ≡ true)
  around n (inl e) = inl e
  around n (inr e) = inr (subst (λ s. is_outer p n s ≡ true) (sym (named e.0 e.1)) e.2)

  -- a new object in the current area
  pub new_fine : (class : ℕ) (values : List Value) → IsInstance p class → LiesHere p class sig.runs_in →
      SlotsReach p class sig.runs_in → (array_type p class ≡ None → length values ≡ slots p class) →
      ((u : World) (den : Scope → Place) (slot : ℕ) (k : Kind) (v : Value) → kind_of_slot p class slot ≡ Some k →
      slice_get values slot ≡ Some v → Has p u (held den k) v) → (w2 : World) → w2.areas ≡ w.areas →
      ObjectFine p w2 (new_object class now values)
  new_fine class values instance_ lies reach full begins w2 same =
      record {
        is_instance = instance_;
        area = here.0;
        is_area = ap (λ f. f now) same ∙ here.1;
        is_placed = λ n is. placed n (lies (In n) is);
        reach = λ slot t n is. (let q = af.reach now n here.0 here.1 (around n (reach slot t n is)) in
            (q.0, ap (λ f. area_around f n (suc now) now) same ∙ q.1));
        is_full = full;
        has = λ slot k v is there. begins w2 (within w2.areas now) slot k v is there;
      }
    where
      placed : (n : ℕ) → (In n ≡ This) ⊎ (In n ≡ sig.runs_in) → here.0.scope ≡ n
      placed n (inl e) = absurd (cc (e))
      placed n (inr e) = named n (sym e)

-- ---- an object that changes

module _ (p : Declarations) (areas : ℕ → Option MemoryArea) (objects : List Object) (f : Object → Object)
    (class_same : (o : Object) → (f o).class ≡ o.class) (area_same : (o : Object) → (f o).area ≡ o.area) (r : ℕ) where
  abbrev pub left : World
  left = look areas objects

  abbrev pub now_ : World
  now_ = look areas (changed f r objects)

  pub change_is_kept : ObjectsAreKept left now_
  change_is_kept n x e = go (bool_cases (r == n))
    where
      go : ((r == n) ≡ true) ⊎ ((r == n) ≡ false) → IsKept now_ n x
      go (inl t) =
          let s : r ≡ n = grind (arith, nat_tests) in
          record {
            object = f x;
            found = ap (slice_get (changed f r objects)) (sym s)
                ∙ changed_at f r objects x (ap (slice_get objects) s ∙ e);
            class = class_same x;
            area = area_same x;
          }
      go (inr t) =
          record {
            object = x;
            found = changed_off f r objects n (λ s. grind (arith, nat_tests)) ∙ e;
            class = refl;
            area = refl;
          }

  pub heap_changed : HeapFine p left →
      ((x : Object) → slice_get objects r ≡ Some x → ObjectFine p now_ x → ObjectFine p now_ (f x)) → HeapFine p now_
  heap_changed heap h n y e =
      elim (changed_from f r objects n y e) as (λ z. ObjectFine p now_ y) [
        | inl g ↦ object_still p areas objects (changed f r objects) change_is_kept y (heap n y g)
        | inr g ↦ subst (ObjectFine p now_) g.2
            (h g.0 g.1 (object_still p areas objects (changed f r objects) change_is_kept g.0 (heap r g.0 g.1)))
      ]

-- ---- stores

abbrev pub with_value : ℕ → Value → Object → Object
with_value slot v o = record o { slots = slice_set o.slots slot v }

pub heap_stored : (p : Declarations) (areas : ℕ → Option MemoryArea) (objects : List Object) (r slot : ℕ) (v : Value) →
    HeapFine p (look areas objects) →
    StoreFine p (look areas objects) r slot v →
    HeapFine p (look areas (changed (with_value slot v) r objects))
heap_stored p areas objects r slot v heap s =
    heap_changed p areas objects (with_value slot v) (λ o. refl) (λ o. refl) r heap (λ x there f. record {
      is_instance = f.is_instance;
      area = f.area;
      is_area = f.is_area;
      is_placed = f.is_placed;
      reach = f.reach;
      is_full = λ e. length_set x.slots slot v ∙ f.is_full e;
      has = λ i k y is found. has x there f i k y is found (bool_cases (slot == i));
    })
  where
    new : List Object
    new = changed (with_value slot v) r objects

    kept : ObjectsAreKept (look areas objects) (look areas new)
    kept = change_is_kept p areas objects (with_value slot v) (λ o. refl) (λ o. refl) r

    has : (x : Object) → slice_get objects r ≡ Some x → ObjectFine p (look areas new) x → (i : ℕ) (k : Kind)
        (y : Value) → kind_of_slot p x.class i ≡ Some k → slice_get (slice_set x.slots slot v) i ≡ Some y →
        ((slot == i) ≡ true) ⊎ ((slot == i) ≡ false) → Has p (look areas new) (held (within areas x.area) k) y
    has x there f i k y is found (inl t) =
        let e : slot ≡ i = grind (arith, nat_tests) in
        let l : slot < length x.slots = (let q : i < length (slice_set x.slots slot v) = get_within _ i y found in
        let n = length_set x.slots slot v in omega (arith, q, n, e)) in
        let same : v ≡ y =
        some_inj v y (sym (get_set_same x.slots slot v l) ∙ ap (slice_get (slice_set x.slots slot v)) e ∙ found) in
        let object_same : s.object ≡ x = some_inj s.object x (sym s.found ∙ there) in
        has_kept p (look areas objects) (look areas new) kept (held (within areas x.area) k) y
        (subst (λ y. Has p (look areas objects) (held (within areas x.area) k) y) same
        (subst (λ (o : Object). Has p (look areas objects) (held (within areas o.area) k) v) object_same
        (s.has k (ap (λ (o : Object). kind_of_slot p o.class slot) object_same ∙ ap (kind_of_slot p x.class) e ∙ is))))
    has x there f i k y is found (inr t) =
        f.has i k y is (sym (get_set_other x.slots slot i v (λ e. grind (arith, nat_tests))) ∙ found)
