-- The safelet is made in immortal memory: it is the first object.
use Rattle.std.specs.Prelude.{Option, Some, None, ◌++◌, if◌then◌else◌}
use Rattle.std.proofs.Common.{◌≡◌, ℕ, List, [], ◌∷◌, length, Bool, true, false, refl, sym, ◌∙◌, ap, subst, true≢false, inl}
use Rattle.scj_base.specs.declared.faults.RunFault.TheVariants.{MemoryFull}
use Rattle.scj_base.specs.declared.positions.Position.{Position}
use Rattle.scj_base.specs.declared.values.Value.TheVariants.{At}
use Rattle.scj_rules.specs.declared.typing.Scope.TheVariants.{In}
use Rattle.scj_rules.specs.declared.views.Body.TheVariants.{Empty}
use Rattle.scj_rules.specs.Words.{is_among, ◌>>=◌}
use Rattle.scj_rules.specs.ScopeRules.{immortal_scope}
use Rattle.scj_rules.specs.Bodies.{class_position}
use Rattle.accepted_laws.proofs.Lists.{get_last}
use Rattle.accepted_laws.proofs.Tools.{some_inj}
use Rattle.scj_model.specs.declared.operations.SeqOp.TheVariants.{AllocSafelet}
use Rattle.scj_model.specs.Code.{Code}
use Rattle.scj_model.specs.State.{MemoryArea, Object, TheSequencer, State}
use Rattle.scj_model.specs.Memory.{new_object, new_slots, has_room}
use Rattle.scj_model.specs.Steps.{silently, fault_in, allocating}
use Rattle.scj_model.specs.Sequencer.{innermost, sequencer_op, safelet_made}
use Rattle.scj_model.proofs.Slots.{slots_counted}
use Rattle.scope_flow.specs.Signatures.{Signature, IsConcrete}
use Rattle.scope_flow.specs.Slots.{array_type, IsOfType}
use Rattle.scope_flow.specs.Facts.{Facts}
use Rattle.frame_sound.specs.Places.{in_one, area_named, denote, world_of}
use Rattle.frame_sound.specs.Fine.{ListFine, Home, ObjectFine}
use Rattle.frame_sound.proofs.Keeps.{ObjectsAreKept}
use Rattle.frame_sound.proofs.Changes.{new_is_kept, heap_new, statics_still, new_fine}
use Rattle.mission_sound.specs.Bases.{in_immortal, BaseBefore, BaseAfter, BaseFine, areas_of}
use Rattle.mission_sound.specs.Invariant.{AfterOperation, ValueSuits, Operates}
use Rattle.mission_sound.specs.SequencerFacts.{SequencerFacts, SafeletThere, SafeletFact}
use Rattle.mission_sound.proofs.Jobs.{Quiet}
use Rattle.mission_sound.proofs.NewSlots.{slots_begin}
use Rattle.mission_sound.proofs.Free.{Free, before, quiet, is_list, done_with, finishes, fails, no_rows}

-- the root is found on the list of immortal memory
pub immortal_named : (areas : ℕ → Option MemoryArea) → ListFine areas (0 ∷ []) →
    area_named areas immortal_scope (0 ∷ []) ≡ Some 0
immortal_named areas fine =
    let x = fine.found 0 fine.has_immortal in
    let same : x.0 ≡ fine.immortal.area = some_inj x.0 fine.immortal.area (sym x.1 ∙ fine.immortal.is_there) in
    ap (λ n. area_named areas n (0 ∷ [])) (sym (ap (λ (y : MemoryArea). y.scope) same ∙ fine.immortal.is_immortal))
    ∙ x.2

-- a class of which there are objects is no array's
pub no_array : (code : Code) → Facts code → (class : ℕ) → IsConcrete code.program class →
    array_type code.program class ≡ None
unfolding IsOfType
no_array code facts class concrete = facts.classes class (facts.concrete class concrete).0

module _ (code : Code) (basics : Facts code) (facts : SequencerFacts code) (s : State) (f : Free code s)
    (e : s.operation ≡ AllocSafelet) where
  is_immortal : f.invariant.base ≡ in_immortal
  is_immortal = subst (λ o. BaseBefore o f.invariant.base) e (before code s f)

  list_fine : ListFine (world_of s).areas (0 ∷ [])
  list_fine = subst (BaseFine code s) is_immortal f.invariant.sequencer.base_fine

  the_list : s.activity.areas ≡ 0 ∷ []
  the_list = is_list code s f ∙ ap areas_of is_immortal

  there : SafeletThere code.program
  there = facts.safelet_there

  fact : SafeletFact code.program there.class
  fact = facts.safelets there.class there.concrete there.is_under

  abbrev new : Object
  new = new_object there.class 0 (new_slots code.program there.class)

  abbrev made : State
  made = done_with code s f s.areas (s.objects ++ new ∷ []) s.activity.areas (At (length s.objects))

  -- as if it were made where a body runs in immortal memory
  abbrev current : Signature
  current = record { takes = []; gives = None; runs_in = In immortal_scope }

  home : Home code.program (world_of s) (0 ∷ []) 0 current Empty None 0
  unfolding denote
  home =
      record {
        own = λ h. absurd (true≢false (sym h));
        on_list = λ r h. absurd (cc (h));
        now_on_list = refl;
        is_now = ap (λ o. in_one o) (immortal_named (world_of s).areas list_fine);
      }

  new_is_fine : ObjectFine code.program (world_of made) new
  new_is_fine =
      new_fine code.program (world_of s) q.memory.areas (0 ∷ []) list_fine 0 current Empty None 0 home there.class
      (new_slots code.program there.class) (inl there.concrete) fact.lies fact.reach
      (λ h. slots_counted code.program there.class)
      (λ u den slot k v is h. slots_begin code.program u den there.class
      (no_array code basics there.class there.concrete) slot k v is h)
      (world_of made) refl
    where
      q : Quiet code s f.invariant.base
      q = quiet code s f

  kept : ObjectsAreKept (world_of s) (world_of made)
  kept = new_is_kept (world_of s).areas s.objects new

  made_fine : AfterOperation code made
  made_fine =
      finishes code s f s.areas (s.objects ++ new ∷ []) s.activity.areas (At (length s.objects)) in_immortal
      (record {
        areas = q.memory.areas;
        heap = heap_new code.program (world_of s).areas s.objects new q.memory.heap new_is_fine;
        statics =
            statics_still code.program (world_of s).areas s.objects (s.objects ++ new ∷ []) kept s.statics
            q.memory.statics;
      })
      kept the_list
      (λ a x h opens. subst (λ base. is_among a (areas_of base) ≡ true) is_immortal (q.only_base a x h opens)) q.nested
      (subst (λ o. BaseAfter o in_immortal) (sym e) refl) list_fine
      (λ k row h. absurd (no_rows code s f is_immortal k row h))
      (subst (λ o. ValueSuits code.program (world_of made) o (At (length s.objects))) (sym e) (
        length s.objects,
        refl,
        record {
          object = new;
          found = get_last s.objects new;
          concrete = there.concrete;
          is_under = there.is_under;
          lies = refl;
        },
      ))
    where
      q : Quiet code s f.invariant.base
      q = quiet code s f

  pub safelet_is_made : Operates code (sequencer_op code s AllocSafelet)
  unfolding sequencer_op innermost safelet_made allocating
  safelet_is_made =
      subst (λ (o : Option ℕ). Operates code (o >>= (λ class. innermost s.activity.areas >>= (λ area.
      Some (safelet_made code s (class_position code.program class) class area))))) (sym there.is)
      (subst (λ (list : List ℕ). Operates code (innermost list >>= (λ area.
      Some (safelet_made code s (class_position code.program there.class) there.class area)))) (sym the_list)
      (go (has_room s 0 (length (new_slots code.program there.class)))))
    where
      place : Position
      place = class_position code.program there.class

      go : (b : Bool) → Operates code (Some (if b then silently made
          else fault_in s TheSequencer s.activity place MemoryFull))
      go true = record { step = _; is = refl; after = made_fine }
      go false = record { step = _; is = refl; after = fails code s f place MemoryFull }
