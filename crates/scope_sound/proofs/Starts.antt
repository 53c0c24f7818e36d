-- In execution a waiting release finds what its first operation asks for: a handler whose object lies in the mission's
-- memory, and whose own scope may be opened inside that one.
use Rattle.std.specs.Prelude.{Option, Some, None, slice_get, ◌==◌, ◌||◌, if◌then◌else◌}
use Rattle.std.proofs.Common.{◌≡◌, ℕ, zero, suc, List, [], ◌∷◌, Bool, true, false, refl, sym, ◌∙◌, ap, subst, arith, true≢false, inl}
use Rattle.std.proofs.lemmas.Bool.Decides.{nat_tests}
use Rattle.scj_rules.specs.Words.{holds, is_among}
use Rattle.scj_rules.specs.ScopeRules.{immortal_scope, is_mission, definer, parent_scope}
use Rattle.scj_model.specs.declared.handlers.HandlerRow.{HandlerRow}
use Rattle.scj_model.specs.declared.operations.SeqOp.{SeqOp}
use Rattle.scj_model.specs.declared.operations.SeqOp.TheVariants.{OpenImmortal, AllocSafelet, ConstructSafelet, InitializeApplication, GetSequencer, GetNextMission, OpenMission, Initialize, CleanUp, Execute, Finished}
use Rattle.scj_model.specs.Code.{Code}
use Rattle.scj_model.specs.State.{MemoryArea, State, is_exec}
use Rattle.scj_model.specs.Registry.{handler_row}
use Rattle.scj_model.specs.Sequencer.{innermost}
use Rattle.scope_flow.specs.Signatures.{IsConcrete}
use Rattle.frame_sound.specs.Places.{area_named, world_of}
use Rattle.frame_sound.specs.Fine.{ListFine, ObjectFine, list_of}
use Rattle.frame_sound.specs.Starts.{HandlerFine, IsHandled, MayOpen}
use Rattle.mission_sound.specs.Bases.{Base, areas_of, in_mission, BaseBefore, BaseFine, IsInMission}
use Rattle.mission_sound.specs.Invariant.{Invariant, IsPrivateScope, RowFine, phase_of}
use Rattle.mission_sound.specs.SequencerFacts.{HandlerFact, SequencerFacts}
use Rattle.mission_sound.proofs.Jobs.{sequencer_fine}

-- in execution the memory of the mission is open
pub in_execution : (operation : SeqOp) (base : Base) → is_exec (phase_of operation) ≡ true →
    BaseBefore operation base → IsInMission base
unfolding phase_of is_exec
in_execution Execute base exec h = h
in_execution OpenImmortal base exec h = absurd (true≢false (sym exec))
in_execution AllocSafelet base exec h = absurd (true≢false (sym exec))
in_execution (ConstructSafelet r) base exec h = absurd (true≢false (sym exec))
in_execution (InitializeApplication r) base exec h = absurd (true≢false (sym exec))
in_execution (GetSequencer r) base exec h = absurd (true≢false (sym exec))
in_execution (GetNextMission r) base exec h = absurd (true≢false (sym exec))
in_execution (OpenMission r) base exec h = absurd (true≢false (sym exec))
in_execution (Initialize r) base exec h = absurd (true≢false (sym exec))
in_execution (CleanUp r) base exec h = absurd (true≢false (sym exec))
in_execution Finished base exec h = absurd (true≢false (sym exec))

-- a row that a number has stands in the registry
row_there : (registry : List HandlerRow) (handler : ℕ) (row : HandlerRow) → handler_row registry handler ≡ Some row →
    (k : ℕ) × (slice_get registry k ≡ Some row)
row_there registry zero row e = absurd (cc (e))
row_there registry (suc k) row e = (k, e)

-- the handler of a release may start, and the scope that it opens is no mission's
pub record MayStart (code : Code) (s : State) (row : HandlerRow) : Type 0 where
  pub handler : HandlerFine code s row
  pub is_no_missions : is_mission code.program (definer handler.scope) ≡ false
  pub defined : IsPrivateScope code.program handler.scope

module _ (code : Code) (promised : SequencerFacts code) (s : State) (i : Invariant code s)
    (frameless : s.activity.frames ≡ []) (row : HandlerRow) (x : RowFine code.program (world_of s) i.base row) where
  abbrev memory : ℕ
  memory = x.object.area

  fact : HandlerFact code.program x.object.class
  fact = promised.handlers x.object.class x.concrete x.is_a_handler

  placed : ObjectFine code.program (world_of s) x.object
  placed = i.memories.memory.heap row.at x.object x.found

  the_list : s.activity.areas ≡ memory ∷ (0 ∷ [])
  the_list =
      (sequencer_fine code s i.base i.memories).is_list
      ∙ (ap (list_of (areas_of i.base)) frameless ∙ ap areas_of x.in_memory)

  base_fine : BaseFine code s (in_mission memory)
  base_fine = subst (BaseFine code s) x.in_memory i.sequencer.base_fine

  fine : ListFine (world_of s).areas (memory ∷ (0 ∷ []))
  fine = base_fine.1

  has_parent : parent_scope code.program fact.scope ≡ Some placed.area.scope
  has_parent = fact.is_parent ∙ ap (λ n. Some n) (sym (placed.is_placed fact.parent fact.lies_in_parent))

  -- neither of the open areas has the handler's scope
  not_memory's : (placed.area.scope == fact.scope) ≡ false
  not_memory's = go (placed.area.scope == fact.scope) refl
    where
      go : (t : Bool) → (placed.area.scope == fact.scope) ≡ t → (placed.area.scope == fact.scope) ≡ false
      go false e = e
      go true e =
          absurd (let same : placed.area.scope ≡ fact.scope = grind (arith, nat_tests) in
          let parent : fact.parent ≡ fact.scope = sym (placed.is_placed fact.parent fact.lies_in_parent) ∙ same in
          true≢false (sym fact.parent_is_missions
          ∙ (ap (λ n. is_mission code.program (definer n)) parent ∙ fact.is_no_missions)))

  not_immortal : (immortal_scope == fact.scope) ≡ false
  not_immortal = go (immortal_scope == fact.scope) refl
    where
      go : (t : Bool) → (immortal_scope == fact.scope) ≡ t → (immortal_scope == fact.scope) ≡ false
      go false e = e
      go true e =
          absurd (let same : immortal_scope ≡ fact.scope = grind (arith, nat_tests) in
          let z : None ≡ Some fact.parent =
          sym promised.root ∙ (ap (parent_scope code.program) same ∙ fact.is_parent)
          in cc (z))

  unnamed_low : area_named (world_of s).areas fact.scope (0 ∷ []) ≡ None
  unfolding area_named
  unnamed_low =
      ap (λ (o : Option MemoryArea). if holds o (λ x. x.scope == fact.scope) then Some 0 else None)
      fine.immortal.is_there
      ∙ (ap (λ n. if n == fact.scope then Some 0 else None) fine.immortal.is_immortal
      ∙ ap (λ (b : Bool). if b then Some 0 else None) not_immortal)

  unnamed : area_named (world_of s).areas fact.scope (memory ∷ (0 ∷ [])) ≡ None
  unfolding area_named
  unnamed =
      ap (λ (o : Option MemoryArea). if holds o (λ x. x.scope == fact.scope) then Some memory
      else area_named (world_of s).areas fact.scope (0 ∷ [])) placed.is_area
      ∙ (ap (λ (b : Bool). if b then Some memory else area_named (world_of s).areas fact.scope (0 ∷ [])) not_memory's
      ∙ unnamed_low)

  opens_inside : MayOpen code.program (world_of s).areas (memory ∷ (0 ∷ [])) fact.scope
  unfolding innermost
  opens_inside =
      record {
        fine = fine;
        inner = memory;
        is_inner = refl;
        area = placed.area;
        is_area = placed.is_area;
        is_parent = has_parent;
        unnamed = unnamed;
      }

  handles : IsHandled code.program x.object.class fact.scope
  handles =
      record {
        defines = fact.defines;
        body = fact.handle.called.body;
        is = fact.handle.called.is;
        on = fact.handle.called.on;
        above = fact.handle.called.above;
        sig = fact.handle.called.sig;
        runs = fact.handle.called.runs;
        takes = fact.handle.called.takes;
        runs_in = fact.handle.runs;
      }

  on_list : is_among memory (memory ∷ (0 ∷ [])) ≡ true
  on_list = let t : (memory == memory) ≡ true = grind (arith, nat_tests) in ap (λ b. b || is_among memory (0 ∷ [])) t

  pub may_start : MayStart code s row
  may_start =
      record {
        handler = record {
          on_list = record {
            object = x.object;
            found = x.found;
            on_list = subst (λ list. is_among memory list ≡ true) (sym the_list) on_list;
          };
          is_class = sym x.is_class;
          concrete = subst (IsConcrete code.program) (sym x.is_class) x.concrete;
          scope = fact.scope;
          handled = subst (λ c. IsHandled code.program c fact.scope) (sym x.is_class) handles;
          may_open =
              subst (λ list. MayOpen code.program (world_of s).areas list fact.scope) (sym the_list) opens_inside;
        };
        is_no_missions = fact.is_no_missions;
        defined = record { class = x.object.class; is = inl x.is_a_handler; defines = fact.defines };
      }

-- a row of the registry
pub registered_may_start : (code : Code) → SequencerFacts code → (s : State) (i : Invariant code s) →
    s.activity.frames ≡ [] → (handler : ℕ) (row : HandlerRow) → handler_row s.registry handler ≡ Some row →
    MayStart code s row
registered_may_start code promised s i frameless handler row registered =
    let k = row_there s.registry handler row registered in
    may_start code promised s i frameless row (i.handlers.rows k.0 row k.1)
