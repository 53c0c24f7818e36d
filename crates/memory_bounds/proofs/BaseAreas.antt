-- In execution the sequencer's areas take no more of the store than immortal memory and the largest mission memory.
use Rattle.std.specs.Prelude.{Option, Some, None, Contains, map, slice_get}
use Rattle.std.proofs.Common.{◌≡◌, ℕ, ◌+◌, ◌≤◌, [], ◌∷◌, ◌&&◌, true, true≢false, refl, sym, ◌∙◌, ap, subst, arith, zero-add}
use Rattle.std.proofs.lemmas.List.Sums.{sum_by-cons}
use Rattle.scj_base.specs.declared.values.Value.{Value}
use Rattle.scj_builtins.specs.Framework.{mission}
use Rattle.scj_rules.specs.Bodies.{size_of}
use Rattle.scj_rules.specs.ClassRules.{numbers_from}
use Rattle.scj_rules.specs.Classes.{ClassRow, is_sub}
use Rattle.scj_rules.specs.Contexts.{Declarations}
use Rattle.scj_rules.specs.ScopeRules.{defined_by_chain, definer, immortal_scope, is_mission, parent_scope}
use Rattle.scj_rules.specs.Types.{is_concrete}
use Rattle.scj_rules.specs.Words.{◌>>=◌}
use Rattle.scj_tree.specs.Forest.{Forest}
use Rattle.accepted_laws.specs.Programs.{IsAcceptedProgram}
use Rattle.accepted_laws.specs.Sorts.{IsWellSorted}
use Rattle.accepted_laws.proofs.ClassSorts.{well_sorted}
use Rattle.accepted_laws.proofs.Tools.{some_inj}
use Rattle.accepted_nodes.proofs.FormParts.{held}
use Rattle.scj_model.specs.declared.operations.SeqOp.{SeqOp}
use Rattle.scj_model.specs.declared.operations.SeqOp.TheVariants.{Execute}
use Rattle.scj_model.specs.Code.{Code, code_of}
use Rattle.scj_model.specs.Memory.{rounded_up}
use Rattle.scj_model.specs.State.{MemoryArea, State, TheSequencer, activity_of, area_at, is_exec}
use Rattle.frame_sound.specs.Fine.{JobFine, list_of}
use Rattle.frame_sound.specs.Places.{world_of}
use Rattle.mission_sound.specs.Bases.{BaseFine, BaseSuits, IsInMission, areas_of, in_mission}
use Rattle.mission_sound.specs.Invariant.{Invariant, phase_of}
use Rattle.mission_facts.proofs.HeaderKinds.{under_mission}
use Rattle.scope_flow.specs.Signatures.{IsConcrete}
use Rattle.scope_sound.specs.Sound.{HasFacts}
use Rattle.scope_sound.proofs.Safe.{has_facts}
use Rattle.memory_needs.specs.Rows.{immortal_bytes, is_concrete_mission, mission_bytes, rounded_or_0}
use Rattle.memory_bounds.proofs.AreaRuns.{OpenedWith}
use Rattle.memory_bounds.proofs.Areas.{Has}
use Rattle.memory_bounds.proofs.HandlerClasses.{kept, numbered, one_of_highest}
use Rattle.memory_bounds.proofs.OpenBytes.{total}
use Rattle.memory_bounds.proofs.Reserved.{area_bytes}

-- the scope of immortal memory, and those of missions, have areas of no more bytes than these
pub record InBase (p : Declarations) (scope bytes : ℕ) : Type 0 where
  pub immortal : scope ≡ immortal_scope → rounded_up bytes ≤ immortal_bytes p
  pub missions : is_mission p (definer scope) ≡ true → rounded_up bytes ≤ mission_bytes p

module _ (forest : Forest) (a : IsAcceptedProgram forest) where
  abbrev code : Code
  code = code_of forest

  abbrev p : Declarations
  p = (code_of forest).program

  facts : HasFacts (code_of forest)
  facts = has_facts forest a

  sorted : IsWellSorted forest.nodes
  sorted = well_sorted forest a.is_read

  -- a scope with a parent isn't that of immortal memory
  inner : (scope parent : ℕ) → parent_scope p scope ≡ Some parent → scope ≡ immortal_scope → ⊥
  inner scope parent up same =
      (let root = facts.sequencer.root in
      let top : parent_scope p scope ≡ None = ap (parent_scope p) same ∙ root in
      cc (top, up))

  mission_largest : (class bytes : ℕ) → IsConcrete p class → is_mission p class ≡ true → size_of p class ≡ Some bytes →
      rounded_up bytes ≤ mission_bytes p
  unfolding mission_bytes
  mission_largest class bytes concrete is_one size =
      (let row = held (slice_get p.classes class) (λ (r : ClassRow). is_concrete r.kind) concrete in
      let among = kept (is_concrete_mission p) (numbers_from 0 p.classes) class
      (subst (Contains (numbers_from 0 p.classes)) (zero-add class) (numbered 0 p.classes class row.0 row.1))
      (ap (λ t. t && is_mission p class) concrete ∙ is_one) in
      let most = one_of_highest (λ c. rounded_or_0 (size_of p c)) _ class among in
      let same : rounded_or_0 (size_of p class) ≡ rounded_up bytes = ap rounded_or_0 size in
      omega (arith, most, same))

  is_a_mission : (class : ℕ) → is_sub p.classes class mission ≡ true → is_mission p class ≡ true
  unfolding code_of
  is_a_mission class sub = under_mission forest a.is_accepted a.whole sorted class sub

  pub opened_with : OpenedWith (code_of forest) (InBase (code_of forest).program)
  opened_with = record {
    immortal = λ class bytes safelet size. record {
      immortal = λ same.
          (let is : immortal_bytes p ≡ rounded_up bytes =
          ap rounded_or_0 (ap (λ (o : Option ℕ). o >>= size_of p) safelet ∙ size) in
          omega (arith, is));
      missions = λ e. absurd (true≢false (sym e ∙ facts.sequencer.root_is_no_missions));
    };
    missions = λ class scope bytes concrete sub defines size.
        (let f = facts.sequencer.missions class concrete sub in
        let same : f.scope ≡ scope = some_inj f.scope scope (sym f.defines ∙ defines) in
        record {
          immortal = λ e. absurd (inner scope immortal_scope
              (ap (parent_scope p) (sym same) ∙ f.is_parent) e);
          missions = λ e. mission_largest class bytes concrete (is_a_mission class sub) size;
        });
    handlers = λ class scope bytes concrete handler defines.
        (let f = facts.sequencer.handlers class concrete handler in
        let same : f.scope ≡ scope = some_inj f.scope scope (sym f.defines ∙ defines) in
        record {
          immortal = λ e. absurd (inner scope f.parent (ap (parent_scope p) (sym same) ∙ f.is_parent) e);
          missions = λ e. absurd (true≢false (sym e
              ∙ (ap (λ n. is_mission p (definer n)) (sym same) ∙ f.is_no_missions)));
        });
    entered = λ class scope parent bytes enters up. record {
      immortal = λ e. absurd (inner scope parent up e);
      missions = λ e. absurd (true≢false (sym e
          ∙ facts.sequencer.runnables class scope enters.is_runnable enters.defines));
    };
  }

  -- ---- the sequencer's areas

  in_execution : (op : SeqOp) → is_exec (phase_of op) ≡ true → op ≡ Execute
  unfolding is_exec phase_of
  in_execution Execute e = refl
  in_execution _ e = absurd (true≢false (sym e))

  module _ (store : ℕ) (s : State) (i : Invariant (code_of forest) s)
      (has : Has (InBase (code_of forest).program) store s) (exec : is_exec s.phase ≡ true) where
    executes : s.operation ≡ Execute
    executes = in_execution s.operation (ap is_exec (sym i.sequencer.phase) ∙ exec)

    in_one : IsInMission i.base
    in_one = of s.outcome i.sequencer.base_suits
      where
        of : (o : Option Value) → BaseSuits s.operation o i.base → IsInMission i.base
        of None h = subst (λ op. BaseSuits op None i.base) executes h
        of (Some v) h = subst (λ op. BaseSuits op (Some v) i.base) executes h

    memory : ℕ
    memory = in_one.0

    fine : BaseFine (code_of forest) s (in_mission memory)
    unfolding memory
    fine = subst (BaseFine (code_of forest) s) in_one.1 i.sequencer.base_fine

    areas : s.activity.areas ≡ memory ∷ 0 ∷ []
    unfolding memory activity_of
    areas =
        (let j : JobFine (code_of forest) (world_of s) (areas_of i.base) s.activity =
        i.memories.jobs TheSequencer s.activity refl in
        j.is_list
        ∙ (ap (list_of (areas_of i.base)) (i.sequencer.frameless exec) ∙ ap areas_of in_one.1))

    bytes_are : (n : ℕ) (x : MemoryArea) → area_at s n ≡ Some x → area_bytes s n ≡ rounded_up x.bytes
    bytes_are n x there =
        ap (λ (o : Option MemoryArea). elim o as (λ z. ℕ) [ None ↦ 0 | Some y ↦ rounded_up y.bytes ]) there

    immortal_fits : area_bytes s 0 ≤ immortal_bytes p
    immortal_fits =
        (let m = fine.0.immortal in
        let q = (has.areas 0 m.area m.is_there).immortal m.is_immortal in
        let same = bytes_are 0 m.area m.is_there in
        omega (arith, q, same))

    mission_fits : area_bytes s memory ≤ mission_bytes p
    mission_fits =
        (let m = fine.2 in
        let o = i.sequencer.mission m.r m.is in
        let f = facts.sequencer.missions o.object.class o.concrete o.is_under in
        let one : o.object ≡ m.object = some_inj o.object m.object (sym o.found ∙ m.found) in
        let scope : f.scope ≡ m.area.scope =
        some_inj f.scope m.area.scope
        (sym f.defines ∙ (ap (λ x. defined_by_chain p x.class) one ∙ m.defines)) in
        let q = (has.areas memory m.area m.is_there).missions
        (ap (λ n. is_mission p (definer n)) (sym scope) ∙ f.is_missions) in
        let same = bytes_are memory m.area m.is_there in
        omega (arith, q, same))

    pub base_fits : total (area_bytes s) s.activity.areas ≤ immortal_bytes p + mission_bytes p
    base_fits =
        (let first : total (area_bytes s) (memory ∷ 0 ∷ []) ≡ area_bytes s memory + total (area_bytes s) (0 ∷ []) =
        sum_by-cons (λ m. m) (area_bytes s memory) (map (area_bytes s) (0 ∷ [])) in
        let second : total (area_bytes s) (0 ∷ []) ≡ area_bytes s 0 + total (area_bytes s) [] =
        sum_by-cons (λ m. m) (area_bytes s 0) (map (area_bytes s) []) in
        let none : total (area_bytes s) [] ≡ 0 = refl in
        let all : total (area_bytes s) s.activity.areas ≡ total (area_bytes s) (memory ∷ 0 ∷ []) =
        ap (total (area_bytes s)) areas in
        let a = immortal_fits in
        let b = mission_fits in
        omega (arith, first, second, none, all, a, b))
