-- The memory of a mission is closed: immortal memory is left, and no handler.
use Rattle.std.specs.Prelude.{Option, Some, None, slice_get, ◌||◌, ◌==◌}
use Rattle.std.proofs.Common.{◌≡◌, ℕ, List, [], ◌∷◌, Bool, true, false, refl, sym, ◌∙◌, ap, subst, arith, true≢false}
use Rattle.std.proofs.lemmas.Bool.Decides.{nat_tests}
use Rattle.scj_rules.specs.Words.{is_among, holds}
use Rattle.accepted_laws.proofs.Tools.{some_inj}
use Rattle.scj_model.specs.Code.{Code}
use Rattle.scj_model.specs.State.{MemoryArea, Activity, State, changed, area_at, is_open_area}
use Rattle.scj_model.specs.Memory.{closed}
use Rattle.scj_model.specs.Sequencer.{innermost, without_innermost, mission_closed}
use Rattle.frame_sound.specs.Places.{world_of}
use Rattle.frame_sound.specs.Fine.{ListFine, list_of, FramesFine}
use Rattle.frame_sound.proofs.Changes.{changed_at}
use Rattle.frame_sound.proofs.Closes.{with_closed, was, list_closed, areas_closed, heap_closed, statics_closed}
use Rattle.mission_sound.specs.Bases.{in_immortal, in_mission}
use Rattle.mission_sound.proofs.Jobs.{Quiet, quiet_is_fine, fine_is_quiet, sequencer_fine}
use Rattle.mission_sound.proofs.Resting.{Resting}

-- what stands on this list is immortal memory, which is open
pub among_immortal : (a : ℕ) → is_among a (0 ∷ []) ≡ true → a ≡ 0
among_immortal a e = go (a == 0) refl e
  where
    go : (t : Bool) → (a == 0) ≡ t → (t || false) ≡ true → a ≡ 0
    go true f e = grind (arith, nat_tests)
    go false f e = absurd (true≢false (sym e))

pub immortal_is_open : (areas : ℕ → Option MemoryArea) → ListFine areas (0 ∷ []) →
    holds (areas 0) (λ x. x.is_open) ≡ true
immortal_is_open areas fine =
    let x = fine.found 0 fine.has_immortal in
    ap (λ (o : Option MemoryArea). holds o (λ x. x.is_open)) x.1 ∙ fine.are_open 0 x.0 fine.has_immortal x.1

frames_list : (base : List ℕ) (activity : Activity) → activity.frames ≡ [] →
    activity.areas ≡ list_of base activity.frames → activity.areas ≡ base
frames_list base activity none is = is ∙ ap (list_of base) none

module _ (code : Code) (s : State) (memory : ℕ) (r : Resting code s (in_mission memory))
    (low : ListFine (world_of s).areas (0 ∷ [])) (high : ListFine (world_of s).areas (memory ∷ (0 ∷ []))) where
  quiet : Quiet code s (in_mission memory)
  quiet = fine_is_quiet code s (in_mission memory) r.memories r.none_started (ap (list_of []) r.frameless)

  is_list : s.activity.areas ≡ memory ∷ (0 ∷ [])
  is_list =
      frames_list (memory ∷ (0 ∷ [])) s.activity r.frameless
      (sequencer_fine code s (in_mission memory) r.memories).is_list

  off : is_among memory (0 ∷ []) ≡ false
  off = high.are_distinct.0

  -- the state behind the closing, where the list is what it is
  abbrev pub left : State
  left =
      record s {
        areas = changed with_closed memory s.areas;
        activity = record s.activity { areas = 0 ∷ [] };
        registry = [];
        mission = None;
      }

  pub closes : mission_closed s ≡ left
  unfolding closed innermost without_innermost
  closes = ap (λ list. record (closed s (innermost list)) {
    activity = record s.activity { areas = without_innermost list };
    registry = [];
    mission = None;
  }) is_list

  pub base_left : ListFine (world_of left).areas (0 ∷ [])
  base_left = list_closed s.areas memory (0 ∷ []) off low

  -- the memory isn't open any more
  not_memory : (a : ℕ) (x : MemoryArea) → area_at left a ≡ Some x → x.is_open ≡ true → a ≡ memory → ⊥
  not_memory a x there opens e =
      let h = high.found memory on in
      let n : area_at left memory ≡ Some (with_closed h.0) = changed_at with_closed memory s.areas h.0 h.1 in
      let same : with_closed h.0 ≡ x = some_inj (with_closed h.0) x (sym n ∙ (ap (area_at left) (sym e) ∙ there)) in
      true≢false (sym opens ∙ sym (ap (λ (y : MemoryArea). y.is_open) same))
    where
      on : is_among memory (memory ∷ (0 ∷ [])) ≡ true
      on = let t : (memory == memory) ≡ true = grind (arith, nat_tests) in ap (λ b. b || is_among memory (0 ∷ [])) t

  only_base : (a : ℕ) (x : MemoryArea) → area_at left a ≡ Some x → x.is_open ≡ true → is_among a (0 ∷ []) ≡ true
  only_base a x there opens =
      let w = was s.areas memory a x there in
      go (a == memory) refl (quiet.only_base a w.area w.is_there (sym (w.is_open (not_memory a x there opens)) ∙ opens))
    where
      go : (t : Bool) → (a == memory) ≡ t → (t || is_among a (0 ∷ [])) ≡ true → is_among a (0 ∷ []) ≡ true
      go true e h = absurd (not_memory a x there opens (let s : a ≡ memory = grind (arith, nat_tests) in s))
      go false e h = h

  nested : (a b : ℕ) (x : MemoryArea) → area_at left a ≡ Some x → x.is_open ≡ true → x.parent ≡ Some b →
      is_open_area left b ≡ true
  nested a b x there opens up =
      let e : b ≡ 0 = among_immortal b (base_left.closed_up a b x (only_base a x there opens) there up) in
      ap (is_open_area left) e ∙ immortal_is_open (world_of left).areas base_left

  pub resting_left : Resting code left in_immortal
  resting_left =
      record {
        memories = quiet_is_fine code left in_immortal (record {
          memory = record {
            areas = areas_closed s.areas memory (λ r. slice_get s.objects r) code.program quiet.memory.areas;
            heap = heap_closed s.areas memory (λ r. slice_get s.objects r) code.program quiet.memory.heap;
            statics =
                statics_closed s.areas memory (λ r. slice_get s.objects r) code.program s.statics quiet.memory.statics;
          };
          job = record {
            is_list = sym (ap (list_of (0 ∷ [])) r.frameless);
            frames = subst (FramesFine code (world_of left) (0 ∷ [])) (sym r.frameless) tt;
          };
          none_started = r.none_started;
          none_opened = ap (list_of []) r.frameless;
          only_base = only_base;
          nested = nested;
        });
        frameless = r.frameless;
        none_started = r.none_started;
        none_waits = r.none_waits;
        rows = λ k row there. absurd (cc (there));
      }
