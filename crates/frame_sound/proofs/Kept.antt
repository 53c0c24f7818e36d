-- What each effect does keeps the invariant for the job that acts.
use Rattle.std.specs.Prelude.{Option, Some, None, slice_get, slice_set, ◌==◌, ◌++◌, option_to_list}
use Rattle.std.proofs.Common.{◌≡◌, ℕ, List, [], ◌∷◌, length, refl, sym, ◌∙◌, ap, subst, arith, inl, inr}
use Rattle.std.proofs.lemmas.Bool.Decides.{nat_tests}
use Rattle.scj_base.specs.declared.values.Value.{Value}
use Rattle.scj_base.specs.declared.values.Value.TheVariants.{At}
use Rattle.scj_rules.specs.declared.typing.Ty.{Ty}
use Rattle.scj_rules.specs.declared.typing.Ty.TheVariants.{Class as ClassTy, IntArray, BoolArray, ClassArray}
use Rattle.scj_rules.specs.declared.views.SlotKind.{SlotKind}
use Rattle.scj_rules.specs.declared.views.SlotKind.TheVariants.{Number as NumberSlot, Truth as TruthSlot, Reference as ReferenceSlot}
use Rattle.scj_rules.specs.Words.{◌>>=◌}
use Rattle.scj_rules.specs.Contexts.{Declarations}
use Rattle.scj_rules.specs.Layout.{element_kind, class_of_elements}
use Rattle.accepted_laws.specs.Kinds.{Kind}
use Rattle.accepted_laws.proofs.Lists.{get_set_same, get_set_other, get_last, get_within}
use Rattle.accepted_laws.proofs.Tools.{some_inj}
use Rattle.scj_model.specs.Code.{Code}
use Rattle.scj_model.specs.State.{MemoryArea, Object, Frame, changed}
use Rattle.scj_model.specs.Memory.{new_object}
use Rattle.scj_model.specs.Apply.{with_first, with_ceiling}
use Rattle.scope_flow.specs.Slots.{array_type_by, array_type, kind_of_static, IsOfType}
use Rattle.scope_flow.specs.Signatures.{Signature}
use Rattle.scope_flow.specs.Facts.{Facts}
use Rattle.scope_flow.proofs.Known.{bool_cases}
use Rattle.frame_sound.specs.Places.{World, denote, within, held, IsObject, Has}
use Rattle.frame_sound.specs.Fine.{ListFine, AreasFine, IsInstance, ObjectFine, HeapFine, StaticsFine, Home, Ready, held_option, Under, IsOn, list_of, Stands}
use Rattle.frame_sound.specs.Calls.{IsCalledIn}
use Rattle.frame_sound.specs.EffectsFine.{IsSame, GoesOn, MakeFine, StoreFine, HiddenFine, CallFine}
use Rattle.frame_sound.proofs.Places.{at_area}
use Rattle.frame_sound.proofs.Keeps.{ObjectsAreKept, Keeps, denote_kept, ready_kept, under_kept, on_kept}
use Rattle.frame_sound.proofs.Frames.{same_list, replaced, answered}
use Rattle.frame_sound.proofs.Changes.{look, same_areas, statics_still, new_is_kept, heap_new, new_fine, change_is_kept, with_value, heap_stored}
use Rattle.frame_sound.proofs.HiddenSlots.{heap_hidden, heap_ceiling}

-- the class of an array is of the array's type
array_is_of : (p : Declarations) (class : ℕ) (t : Ty) → array_type p class ≡ Some t → IsOfType p class t
unfolding IsOfType array_type_by array_type
array_is_of p class t e = go (element_kind p class) refl
  where
    as_array : (u : Ty) → (array_type p class ≡ Some u → IsOfType p class u) → Some u ≡ Some t → IsOfType p class t
    as_array u h g = subst (IsOfType p class) (some_inj u t g) (h (e ∙ sym g))

    elements : (o : Option ℕ) →
        (λ (x : Option ℕ). elim x as (λ z. Option Ty) [ None ↦ None | Some c ↦ Some (ClassArray c) ]) o ≡ Some t →
        IsOfType p class t
    elements None g = absurd (cc (g))
    elements (Some c) g = as_array (ClassArray c) (λ h. h) g

    by_slot : (s : SlotKind) → array_type_by p class s ≡ Some t → IsOfType p class t
    by_slot NumberSlot g = as_array IntArray (λ h. h) g
    by_slot TruthSlot g = as_array BoolArray (λ h. h) g
    by_slot ReferenceSlot g = elements (class_of_elements p class) g

    go : (o : Option SlotKind) → element_kind p class ≡ o → IsOfType p class t
    go None g = absurd (let x : None ≡ Some t = sym (ap (λ (o : Option SlotKind). o >>= array_type_by p class) g) ∙ e in
        cc (x))
    go (Some s) g = by_slot s (sym (ap (λ (o : Option SlotKind). o >>= array_type_by p class) g) ∙ e)

-- the frame that acts stands on the frames below it
pub record ActsHere (code : Code) (areas : List MemoryArea) (objects : List Object) (statics : List Value)
    (base : List ℕ) (f : Frame) (fs : List Frame) (c : ℕ) (sig : Signature) : Type 0 where
  pub areas_fine : AreasFine code.program (λ a. slice_get areas a)
  pub heap : HeapFine code.program (look (λ a. slice_get areas a) objects)
  pub statics_fine : StaticsFine code.program (look (λ a. slice_get areas a) objects) statics
  pub fine : ListFine (λ a. slice_get areas a) (list_of base (f ∷ fs))
  pub home : Home code.program (look (λ a. slice_get areas a) objects) (list_of base (f ∷ fs)) c sig f.body f.this
      f.area
  pub under : Under code (look (λ a. slice_get areas a) objects) base fs
      (held_option (denote (look (λ a. slice_get areas a) objects) (list_of base (f ∷ fs)) f.this f.area) sig.gives)
  pub on : IsOn code (look (λ a. slice_get areas a) objects) base f.body f.called_at f.this f.area fs

module _ (code : Code) (facts : Facts code) (areas : List MemoryArea) (objects : List Object) (statics : List Value)
    (base : List ℕ) (f : Frame) (fs : List Frame) (c : ℕ) (sig : Signature)
    (m : ActsHere code areas objects statics base f fs c sig) where
  abbrev looked : ℕ → Option MemoryArea
  looked = λ a. slice_get areas a

  abbrev w : World
  w = look looked objects

  abbrev list : List ℕ
  list = list_of base (f ∷ fs)

  -- ---- the frame goes on

  pub goes_keeps : (h : Frame) → GoesOn code w list c sig f h None → Stands code areas objects statics base (h ∷ fs)
  unfolding held_option
  goes_keeps h g =
      record {
        areas_fine = m.areas_fine;
        heap = m.heap;
        statics_fine = m.statics_fine;
        frames_fine = replaced code w base f h fs g.same c sig None None g.ready tt m.fine m.under m.on;
      }

  -- ---- the objects change

  module _ (objects2 : List Object) (kept : ObjectsAreKept w (look looked objects2)) where
    abbrev w2 : World
    w2 = look looked objects2

    keeps_list : (l : List ℕ) → Unit {0} → ListFine looked l → Keeps w w2 l
    keeps_list l u fine = same_areas code.program looked objects objects2 l fine

    ready_still : (h : Frame) (kind : Option Kind) → Ready code w list c sig h kind → Ready code w2 list c sig h kind
    ready_still h kind r = ready_kept code w w2 kept list (keeps_list list tt m.fine) c sig h kind r

    under_still : Under code w2 base fs (held_option (denote w2 list f.this f.area) sig.gives)
    under_still =
        subst (λ d. Under code w2 base fs (held_option d sig.gives))
        (sym (denote_kept code.program w w2 kept list (keeps_list list tt m.fine) c sig f.body f.this f.area m.home))
        (under_kept code w w2 kept (λ l. Unit {0}) (λ xs ys h. tt) keeps_list base fs _ tt m.under)

    on_still : IsOn code w2 base f.body f.called_at f.this f.area fs
    on_still =
        on_kept code w w2 kept (λ l. Unit {0}) (λ xs ys h. tt) keeps_list base f.body f.called_at f.this f.area fs _ tt
        m.under m.on

    pub objects_keep : HeapFine code.program w2 → (h : Frame) → GoesOn code w list c sig f h None →
        Stands code areas objects2 statics base (h ∷ fs)
    unfolding held_option
    objects_keep heap2 h g =
        record {
          areas_fine = m.areas_fine;
          heap = heap2;
          statics_fine = statics_still code.program looked objects objects2 kept statics m.statics_fine;
          frames_fine =
              replaced code w2 base f h fs g.same c sig None None (ready_still h None g.ready) tt m.fine under_still on_still;
        }

  pub stores_keep : (h : Frame) (r slot : ℕ) (v : Value) → GoesOn code w list c sig f h None →
      StoreFine code.program w r slot v →
      Stands code areas (changed (with_value slot v) r objects) statics base (h ∷ fs)
  stores_keep h r slot v g s =
      objects_keep (changed (with_value slot v) r objects)
      (change_is_kept code.program looked objects (with_value slot v) (λ o. refl) (λ o. refl) r)
      (heap_stored code.program looked objects r slot v m.heap s) h g

  pub hidden_keep : (h : Frame) (r : ℕ) (values : List Value) → GoesOn code w list c sig f h None →
      HiddenFine code.program w r values →
      Stands code areas (changed (with_first values) r objects) statics base (h ∷ fs)
  hidden_keep h r values g s =
      objects_keep (changed (with_first values) r objects)
      (change_is_kept code.program looked objects (with_first values) (λ o. refl) (λ o. refl) r)
      (heap_hidden code.program looked objects r values m.heap s) h g

  pub ceiling_keeps : (h : Frame) (r ceiling : ℕ) → GoesOn code w list c sig f h None →
      Stands code areas (changed (with_ceiling ceiling) r objects) statics base (h ∷ fs)
  ceiling_keeps h r ceiling g =
      objects_keep (changed (with_ceiling ceiling) r objects)
      (change_is_kept code.program looked objects (with_ceiling ceiling) (λ o. refl) (λ o. refl) r)
      (heap_ceiling code.program looked objects r ceiling m.heap) h g

  -- ---- a static field changes

  pub static_keeps : (h : Frame) (index : ℕ) (v : Value) → GoesOn code w list c sig f h None →
      ((k : Kind) → kind_of_static code.program index ≡ Some k → Has code.program w (held (within looked 0) k) v) →
      Stands code areas objects (slice_set statics index v) base (h ∷ fs)
  unfolding held_option
  static_keeps h index v g fits =
      record {
        areas_fine = m.areas_fine;
        heap = m.heap;
        statics_fine = λ q k is. (let s = m.statics_fine q k is in
            elim (bool_cases (index == q)) [
              | inl t ↦ (let e : index ≡ q = grind (arith, nat_tests) in
                  record {
                    value = v;
                    is = ap (slice_get (slice_set statics index v)) (sym e)
                        ∙ get_set_same statics index v (let l = get_within statics q s.value s.is in
                        omega (arith, l, e));
                    has = fits k (ap (kind_of_static code.program) e ∙ is);
                  })
              | inr t ↦ record {
                value = s.value;
                is = get_set_other statics index q v (λ e. grind (arith, nat_tests)) ∙ s.is;
                has = s.has;
              }
            ]);
        frames_fine = replaced code w base f h fs g.same c sig None None g.ready tt m.fine m.under m.on;
      }

  -- ---- a new object

  pub makes_keep : (h : Frame) (class : ℕ) (values : List Value) → MakeFine code w list c sig f h class values →
      Stands code areas (objects ++ new_object class h.area values ∷ []) statics base
      (record h { operands = At (length objects) ∷ h.operands } ∷ fs)
  unfolding held_option held
  makes_keep h class values x =
      record {
        areas_fine = m.areas_fine;
        heap = heap_new code.program looked objects new m.heap fine2;
        statics_fine = statics_still code.program looked objects more kept statics m.statics_fine;
        frames_fine =
            replaced code w2_ base f (record h { operands = At (length objects) ∷ h.operands }) fs
            (record { body = s.body; called_at = s.called_at; this = s.this; area = s.area; saved = s.saved; opened = s.opened }) c sig None None
            (answered code w2_ list c sig h x.kind (At (length objects)) has ready2) tt m.fine (under_still more kept)
            (on_still more kept);
      }
    where
      s : IsSame f h
      s = x.goes.same

      new : Object
      new = new_object class h.area values

      more : List Object
      more = objects ++ new ∷ []

      w2_ : World
      w2_ = look looked more

      kept : ObjectsAreKept w w2_
      kept = new_is_kept looked objects new

      ready2 : Ready code w2_ list c sig h (Some x.kind)
      ready2 = ready_still more kept h (Some x.kind) x.goes.ready

      instance_ : IsInstance code.program class
      instance_ =
          elim x.is_kind as (λ z. IsInstance code.program class) [
            | inl e ↦ inl e.1
            | inr e ↦ inr (e.0, e.2)
          ]

      fine2 : ObjectFine code.program w2_ new
      fine2 =
          new_fine code.program w m.areas_fine list m.fine c sig h.body h.this h.area x.goes.ready.home class values
          instance_ x.lies x.reach x.is_full x.begins w2_ refl

      object_is : (t : Ty) → IsOfType code.program class t →
          IsObject code.program w2_ t (denote w2_ list h.this h.area sig.runs_in) (At (length objects))
      object_is t of_type =
          record {
            r = length objects;
            is = refl;
            object = new;
            found = get_last objects new;
            of_type = of_type;
            lies = at_area (denote w2_ list h.this h.area sig.runs_in) h.area ready2.home.is_now;
          }

      has : Has code.program w2_ (held (denote w2_ list h.this h.area) x.kind) (At (length objects))
      has =
          elim x.is_kind as
          (λ z. Has code.program w2_ (held (denote w2_ list h.this h.area) x.kind) (At (length objects))) [
            | inl e ↦ subst (λ k. Has code.program w2_ (held (denote w2_ list h.this h.area) k) (At (length objects)))
                (sym e.0) (object_is (ClassTy class) (facts.concrete class e.1))
            | inr e ↦ subst (λ k. Has code.program w2_ (held (denote w2_ list h.this h.area) k) (At (length objects)))
                (sym e.1) (inr (object_is e.0 (array_is_of code.program class e.0 e.2)))
          ]

  -- ---- a call

  pub calls_keep : (h g : Frame) (saved : Option ℕ) → CallFine code w list c sig f h g →
      Stands code areas objects statics base (record g { saved = saved } ∷ h ∷ fs)
  unfolding held_option
  calls_keep h g saved x =
      record {
        areas_fine = m.areas_fine;
        heap = m.heap;
        statics_fine = m.statics_fine;
        frames_fine = (
          record {
            class = x.class;
            sig = x.own;
            kind = None;
            fits = tt;
            ready = subst (λ l. Ready code w l x.class x.own (record g { saved = saved }) None) same_ begun;
          },
          subst (ListFine looked) same_ m.fine,
          subst (λ l. Under code w base (h ∷ fs) (held_option (denote w l g.this g.area) x.own.gives)) same_ under,
          subst (λ l. IsCalledIn code w l h g.body g.called_at g.this g.area) (same_list code w base f h fs x.goes.same)
              x.on,
        );
      }
    where
      begun : Ready code w list x.class x.own (record g { saved = saved }) None
      begun =
          let r = x.begins in
          record {
            runs = r.runs;
            home = r.home;
            known = r.known;
            kinds = r.kinds;
            operands = r.operands;
            locals = r.locals;
            flow = r.flow;
            guards = r.guards;
          }

      under : Under code w base (h ∷ fs) (held_option (denote w list g.this g.area) x.own.gives)
      under = replaced code w base f h fs x.goes.same c sig x.kind _ x.goes.ready x.fits m.fine m.under m.on

      same_ : list ≡ list_of base (record g { saved = saved } ∷ h ∷ fs)
      same_ =
          same_list code w base f h fs x.goes.same
          ∙ ap (λ (o : Option ℕ). option_to_list o ++ list_of base (h ∷ fs)) (sym x.unopened)
