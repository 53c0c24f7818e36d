-- In a sound state no reference that can be used dangles: what the run itself refers to lies in open areas.
use Rattle.std.proofs.Common.{arith, ◌==◌, ◌≡◌, ℕ, List, [], ◌∷◌, true, refl, sym, ◌∙◌, ap, Option, Some, None}
use Rattle.std.proofs.lemmas.Bool.Decides.{nat_tests}
use Rattle.std.specs.Prelude.{◌||◌, slice_get}
use Rattle.scj_rules.specs.Words.{is_among}
use Rattle.scj_model.specs.declared.handlers.HandlerRow.{HandlerRow}
use Rattle.scj_model.specs.Code.{Code}
use Rattle.scj_model.specs.State.{MemoryArea, Object, State, object_at}
use Rattle.scj_model.specs.Safety.{NoDangling}
use Rattle.frame_sound.specs.Places.{world_of}
use Rattle.frame_sound.specs.Fine.{ListFine}
use Rattle.mission_sound.specs.Bases.{Base, unopened, in_immortal, in_mission, areas_of, BaseFine}
use Rattle.mission_sound.specs.Invariant.{Invariant, AreImmortalOf, RowFine}
use Rattle.reference_sound.specs.References.{ReferencesHold}
use Rattle.reference_sound.specs.Roots.{LiesOpen, ImmortalIsOpen}
use Rattle.reference_sound.proofs.Dangling.{list_open, none_dangles}

module _ (code : Code) (s : State) where
  -- ---- immortal memory

  by_list : ListFine (world_of s).areas (0 ∷ []) → ImmortalIsOpen s
  by_list fine x there = fine.are_open 0 x refl there

  pub immortal_is_open : (base : Base) → BaseFine code s base → ImmortalIsOpen s
  immortal_is_open unopened fine x there =
      absurd (let e : None ≡ Some x = ap (λ (areas : List MemoryArea). slice_get areas 0) (sym fine.0) ∙ there in
      cc (e))
  immortal_is_open in_immortal fine x there = by_list fine x there
  immortal_is_open (in_mission memory) fine x there = by_list fine.0 x there

  first_opens : (base : Base) → BaseFine code s base → (r : ℕ) (o : Object) → object_at s r ≡ Some o → o.area ≡ 0 →
      LiesOpen s r
  first_opens unopened fine r o found in_first =
      absurd (let e : None ≡ Some o = ap (λ (objects : List Object). slice_get objects r) (sym fine.1) ∙ found in
      cc (e))
  first_opens in_immortal fine r o found in_first =
      list_open s (0 ∷ []) r fine
      (record { object = o; found = found; on_list = ap (λ a. is_among a (0 ∷ [])) in_first })
  first_opens (in_mission memory) fine r o found in_first =
      list_open s (0 ∷ []) r fine.0
      (record { object = o; found = found; on_list = ap (λ a. is_among a (0 ∷ [])) in_first })

  immortals_open : (base : Base) → BaseFine code s base → (above : ℕ) (root : Option ℕ) →
      AreImmortalOf code.program (world_of s) above root → (r : ℕ) → root ≡ Some r → LiesOpen s r
  immortals_open base fine above root are r is =
      let x = are r is in first_opens base fine r x.object x.found x.lies

  -- ---- handlers

  first_of : (a : ℕ) (list : List ℕ) → is_among a (a ∷ list) ≡ true
  first_of a list = let t : (a == a) ≡ true = grind (arith, nat_tests) in ap (λ b. b || is_among a list) t

  handler_open : (base : Base) → BaseFine code s base → (row : HandlerRow) →
      RowFine code.program (world_of s) base row → LiesOpen s row.at
  handler_open unopened fine row x = absurd (cc (x.in_memory))
  handler_open in_immortal fine row x = absurd (cc (x.in_memory))
  handler_open (in_mission memory) fine row x =
      let e : memory ≡ x.object.area = cc (x.in_memory) in
      list_open s (memory ∷ (0 ∷ [])) row.at fine.1
      (record {
        object = x.object;
        found = x.found;
        on_list = ap (λ a. is_among a (memory ∷ (0 ∷ []))) (sym e) ∙ first_of memory (0 ∷ []);
      })

  -- ---- all roots

  pub no_dangling : (i : Invariant code s) → ReferencesHold s (areas_of i.base) → NoDangling s
  no_dangling i held =
      let fine = i.sequencer.base_fine in
      none_dangles code s (areas_of i.base)
      (record {
        heap = i.memories.memory.heap;
        jobs = i.memories.jobs;
        references = held;
        parents = i.memories.nested;
        immortal = immortal_is_open i.base fine;
        roots = record {
          handlers = λ k row there. handler_open i.base fine row (i.handlers.rows k row there);
          safelet = immortals_open i.base fine _ s.safelet i.sequencer.safelet;
          mission_sequencer = immortals_open i.base fine _ s.mission_sequencer i.sequencer.mission_sequencer;
          mission = immortals_open i.base fine _ s.mission i.sequencer.mission;
        };
      })
