-- Leaving a frame, with the area that it opened, and opening an area keep the invariant for the job that acts.
use Rattle.std.specs.Prelude.{Option, Some, None, slice_get, ◌++◌, option_to_list}
use Rattle.std.proofs.Common.{◌≡◌, ℕ, ◌<◌, List, [], ◌∷◌, length, true, false, refl, sym, subst}
use Rattle.scj_base.specs.declared.values.Value.{Value}
use Rattle.scj_rules.specs.declared.typing.Ty.TheVariants.{Class as ClassTy}
use Rattle.scj_rules.specs.declared.views.Body.TheVariants.{Written}
use Rattle.scj_rules.specs.Words.{is_among}
use Rattle.scj_rules.specs.Classes.{is_sub}
use Rattle.accepted_laws.specs.Kinds.{Kind}
use Rattle.scj_model.specs.Code.{Code}
use Rattle.scj_model.specs.State.{MemoryArea, Object, Frame, changed}
use Rattle.scj_model.specs.Effects.{new_frame}
use Rattle.scj_model.specs.Apply.{returned}
use Rattle.scope_flow.specs.Slots.{IsOfType}
use Rattle.scope_flow.specs.Signatures.{Signature, Runs}
use Rattle.scope_flow.specs.Facts.{Facts}
use Rattle.frame_sound.specs.Places.{World, area_named, denote}
use Rattle.frame_sound.specs.Fine.{ListFine, AreDistinct, HeapFine, Ready, held_option, IsOn, Under, list_of, Stands}
use Rattle.frame_sound.specs.Calls.{IsCalledIn}
use Rattle.frame_sound.specs.EffectsFine.{OpenFine, ReturnFine}
use Rattle.frame_sound.proofs.GivenValues.{returns_kept}
use Rattle.frame_sound.proofs.NewAreas.{body_begins_in, list_fine, new_on, runs_in_new, still_on}
use Rattle.frame_sound.proofs.Frames.{same_list, replaced, returned_fine}
use Rattle.frame_sound.proofs.Changes.{look}
use Rattle.frame_sound.proofs.Closes.{with_closed, objects_stay, under_closed, areas_closed, heap_closed, statics_closed}
use Rattle.frame_sound.proofs.Opens.{heap_more, statics_more, under_more, on_more}
use Rattle.frame_sound.proofs.OpenAreas.{areas_open}
use Rattle.frame_sound.proofs.Kept.{ActsHere}

pub class_and_above : (code : Code) (class on : ℕ) → class < length code.program.classes →
    is_sub code.program.classes class on ≡ true → IsOfType code.program class (ClassTy on)
unfolding IsOfType
class_and_above code class on l e = (l, e)

-- the areas behind a frame that leaves
abbrev pub areas_left : List MemoryArea → Option ℕ → List MemoryArea
areas_left areas None = areas
areas_left areas (Some a) = changed with_closed a areas

module _ (code : Code) (facts : Facts code) (areas : List MemoryArea) (objects : List Object) (statics : List Value)
    (base : List ℕ) (f : Frame) (fs : List Frame) (c : ℕ) (sig : Signature)
    (m : ActsHere code areas objects statics base f fs c sig) where
  abbrev looked : ℕ → Option MemoryArea
  looked = λ a. slice_get areas a

  abbrev w : World
  w = look looked objects

  abbrev list : List ℕ
  list = list_of base (f ∷ fs)

  -- ---- a frame leaves, and what it opened is closed

  leaves_with : (o : Option ℕ) → f.opened ≡ o → (v : Option Value) →
      ReturnFine code.program w (denote w list f.this f.area) sig.gives v →
      Stands code (areas_left areas o) objects statics base (returned v fs)
  leaves_with None e v r =
      record {
        areas_fine = m.areas_fine;
        heap = m.heap;
        statics_fine = m.statics_fine;
        frames_fine = returned_fine code facts w base fs (denote w list f.this f.area) sig.gives v m.under r;
      }
  leaves_with (Some a) e v r =
      record {
        areas_fine = areas_closed areas a (λ r. slice_get objects r) code.program m.areas_fine;
        heap = heap_closed areas a (λ r. slice_get objects r) code.program m.heap;
        statics_fine = statics_closed areas a (λ r. slice_get objects r) code.program statics m.statics_fine;
        frames_fine =
            returned_fine code facts (look (λ b. slice_get (changed with_closed a areas) b) objects) base fs
            (denote w list f.this f.area) sig.gives v
            (under_closed areas a (λ r. slice_get objects r) code base fs _ off m.under)
            (returns_kept code.program w (look (λ b. slice_get (changed with_closed a areas) b) objects)
            (objects_stay areas a (λ r. slice_get objects r)) (denote w list f.this f.area) sig.gives v r);
      }
    where
      off : is_among a (list_of base fs) ≡ false
      off =
          let d = subst (λ (o : Option ℕ). AreDistinct (option_to_list o ++ list_of base fs)) e m.fine.are_distinct in
          d.0

  pub leaves_keep : (v : Option Value) → ReturnFine code.program w (denote w list f.this f.area) sig.gives v →
      Stands code (areas_left areas f.opened) objects statics base (returned v fs)
  leaves_keep v r = leaves_with f.opened refl v r

  -- ---- a frame in a new area

  abbrev pub new_area : ℕ → ℕ → ℕ → MemoryArea
  new_area scope parent bytes = record { scope = scope; parent = Some parent; bytes = bytes; is_open = true }

  abbrev pub in_area : Frame → Frame
  in_area g = record g { area = length areas; opened = Some (length areas) }

  pub opens_keep : (h g : Frame) (scope bytes : ℕ) (x : OpenFine code w list c sig f h g scope) →
      area_named looked scope (list_of base (h ∷ fs)) ≡ None →
      Stands code (areas ++ new_area scope h.area bytes ∷ []) objects statics base (in_area g ∷ h ∷ fs)
  unfolding held_option Runs
  opens_keep h g scope bytes x unnamed =
      record {
        areas_fine =
            areas_open code.program areas m.areas_fine scope h.area x.parent bytes x.around x.is_area x.named
            x.is_parent;
        heap = heap2;
        statics_fine = statics_more areas new (λ r. slice_get objects r) code.program statics m.statics_fine;
        frames_fine = (
          record {
            class = x.entered.run.own.on;
            sig = x.entered.run.own.sig;
            kind = None;
            fits = tt;
            ready =
                subst (λ (q : Frame). Ready code more (a ∷ low) x.entered.run.own.on x.entered.run.own.sig
                (in_area q) None)
                (sym x.is) begun;
          },
          list2,
          subst (λ (o : Option Kind). Under code more base (h ∷ fs) (held_option (denote more (a ∷ low) g.this a) o))
              (sym x.entered.run.gives) (under_more areas new (λ r. slice_get objects r) code base (h ∷ fs) None old),
          on_lower,
        );
      }
    where
      new : MemoryArea
      new = new_area scope h.area bytes

      more : World
      more = look (λ b. slice_get (areas ++ new ∷ []) b) objects

      a : ℕ
      a = length areas

      low : List ℕ
      low = list_of base (h ∷ fs)

      heap2 : HeapFine code.program more
      heap2 = heap_more areas new (λ r. slice_get objects r) code.program m.heap

      old : Under code w base (h ∷ fs) None
      old = replaced code w base f h fs x.goes.same c sig None None x.goes.ready tt m.fine m.under m.on

      on_lower : IsOn code more base g.body g.called_at g.this a (h ∷ fs)
      on_lower =
          on_more areas new (λ r. slice_get objects r) code base g.body g.called_at g.this a (h ∷ fs) None old
          (subst (λ l. IsCalledIn code w l h g.body g.called_at g.this a) (same_list code w base f h fs x.goes.same)
          (x.on a))

      list2 : ListFine more.areas (a ∷ low)
      list2 = list_fine areas objects low scope h.area bytes old.1 old.0.ready.home.now_on_list unnamed

      begun : Ready code more (a ∷ low) x.entered.run.own.on x.entered.run.own.sig
          (in_area (new_frame code (Written x.entered.run.body) x.called_at (Some x.r) f.area [])) None
      begun =
          body_begins_in code facts more (a ∷ low) list2 heap2 a
          (new_on areas objects low scope h.area bytes old.1 old.0.ready.home.now_on_list unnamed) x.r x.on_list.object
          x.on_list.found
          (still_on areas objects low scope h.area bytes old.1 old.0.ready.home.now_on_list unnamed
          x.on_list.object.area
          (subst (λ l. is_among x.on_list.object.area l ≡ true) (same_list code w base f h fs x.goes.same)
          x.on_list.on_list))
          x.entered.run.own.on
          (class_and_above code x.on_list.object.class x.entered.run.own.on x.is_class x.entered.run.own.above)
          (Written x.entered.run.body) x.entered.run.own.sig x.entered.run.own.is_body x.called_at
          (runs_in_new areas objects low scope h.area bytes old.1 old.0.ready.home.now_on_list unnamed (Some x.r)
          x.entered.run.own.sig.runs_in x.entered.runs) x.entered.run.takes f.area
