-- The rows of handlers after the sequencer's own operations.
use Rattle.std.specs.Prelude.{Some, None, length, slice_get}
use Rattle.std.proofs.lemmas.Option.{slice_get_within}
use Rattle.std.proofs.Common.{◌≡◌, ◌⊎◌, ℕ, ◌≤◌, true, false, List, [], ◌∷◌, refl, sym, ◌∙◌, ap, subst, arith, inl, inr}
use Rattle.scj_base.specs.declared.values.Value.{Value}
use Rattle.accepted_laws.proofs.Tools.{some_inj}
use Rattle.scj_model.specs.declared.operations.Op.{Op}
use Rattle.scj_model.specs.declared.operations.SeqOp.{SeqOp}
use Rattle.scj_model.specs.declared.operations.SeqOp.TheVariants.{OpenImmortal, AllocSafelet, ConstructSafelet, InitializeApplication, GetSequencer, GetNextMission, OpenMission, Initialize, CleanUp, Execute, Finished}
use Rattle.scj_model.specs.Code.{Code}
use Rattle.scj_model.specs.State.{Object, TheSequencer, State, activity_of, is_init, is_over, object_at}
use Rattle.scj_model.specs.Steps.{Step}
use Rattle.scj_model.specs.Effects.{new_frame}
use Rattle.scj_model.specs.Sequencer.{sequencer_op}
use Rattle.frame_sound.specs.Fine.{list_of}
use Rattle.mission_sound.specs.Bases.{areas_of, Base, BaseBefore, BaseFine, BaseSuits, in_immortal, in_mission, unopened}
use Rattle.mission_sound.specs.Invariant.{Invariant, IsImmortalOf, OperandThere, phase_of}
use Rattle.reference_sound.specs.References.{ReferencesHold}
use Rattle.scope_sound.specs.Sound.{HasFacts}
use Rattle.certain_faults.proofs.Jobs.{Jobs}
use Rattle.certain_faults.proofs.Runs.{All}
use Rattle.certain_faults.proofs.RunsOfNodes.{ClassesAskNothing}
use Rattle.memory_bounds.specs.Theorem.{RowsReport, Storage}
use Rattle.memory_bounds.proofs.Forms.{FormFacts}
use Rattle.memory_bounds.proofs.InitSteps.{InInit, Making, Stands, Reported}
use Rattle.memory_bounds.proofs.Makers.{Nowhere}
use Rattle.scj_model.specs.declared.plans.ReadingRow.{ReadingRow}
use Rattle.frame_sound.specs.Places.{world_of}
use Rattle.scj_builtins.specs.Framework.{mission as mission_class}
use Rattle.scj_rules.specs.Words.{is_among}
use Rattle.memory_bounds.proofs.InitPhases.{CallsFirst, OpensEmpty, SameRows, initialize_called, mission_opened, own_operation}
use Rattle.memory_bounds.proofs.Above.{frame_lacks}
use Rattle.memory_bounds.proofs.Unnamed.{AllBare, heap_same}
use Rattle.memory_bounds.proofs.RowsStill.{After, same_rows}

module _ (code : Code) (facts : HasFacts code) (bare : ClassesAskNothing code) (storage : Storage)
    (Inner : Op → Type 0) (OnWay : ℕ → Type 0) (forms : FormFacts code storage Inner OnWay) where
  abbrev Shown : State → Type 0
  Shown t = After code facts bare storage Inner OnWay forms t

  module _ (readings : List ReadingRow) (s : State) (i : Invariant code s) (refs : ReferencesHold s (areas_of i.base))
      (held : Jobs (All code) s) (outcome : s.outcome ≡ None) (going : is_over s.phase ≡ false)
      (init : is_init s.phase ≡ true → InInit code facts bare storage Inner OnWay forms s)
      (rows : RowsReport storage s) where
    -- ---- the sequencer's own operations

    module _ (none : s.activity.frames ≡ []) (step : Step) (done : sequencer_op code s s.operation ≡ Some step) where
      same : SameRows s step.state
      same = (own_operation code s s.operation).is step done

      own_areas : s.activity.areas ≡ areas_of i.base
      unfolding activity_of
      own_areas =
          (i.memories.jobs TheSequencer s.activity refl).is_list ∙ ap (list_of (areas_of i.base)) none

      -- the memory of a mission is opened
      just_opened : (r : ℕ) → s.operation ≡ OpenMission r → OpensEmpty code s step.state →
          InInit code facts bare storage Inner OnWay forms step.state
      unfolding activity_of
      just_opened r e o = record {
        first = length s.areas;
        base = λ j.
            sym (sym o.areas
            ∙ ((j.memories.jobs TheSequencer step.state.activity refl).is_list
            ∙ ap (list_of (areas_of j.base)) o.frames))
            ∙ ap (λ (xs : List ℕ). length s.areas ∷ xs) (own_areas ∙ ap areas_of before);
        objects = λ u y n there le reported.
            absurd (past u y (ap (λ (xs : List Object). slice_get xs u) (sym o.objects) ∙ there) le);
      }
        where
          before : i.base ≡ in_immortal
          before =
              subst (λ (p : SeqOp). BaseBefore p i.base) e
              (subst (λ v. BaseSuits s.operation v i.base) outcome i.sequencer.base_suits)

          past : (u : ℕ) (y : Object) → object_at s u ≡ Some y → length s.areas ≤ y.area → ⊥
          past u y there le =
              (let placed = i.memories.memory.heap u y there in
              let inside = slice_get_within s.areas y.area placed.area placed.is_area in
              omega (arith, inside, le))

      -- `initialize` is called on the mission, which lies in immortal memory
      first_called : (r : ℕ) → s.operation ≡ Initialize r → CallsFirst code s r step.state →
          InInit code facts bare storage Inner OnWay forms s → InInit code facts bare storage Inner OnWay forms step.state
      unfolding activity_of new_frame
      first_called r e c h = record {
        first = h.first;
        base = λ j.
            sym (sym c.areas
            ∙ ((j.memories.jobs TheSequencer step.state.activity refl).is_list
            ∙ (ap (list_of (areas_of j.base)) c.frames ∙ unopened_list j)))
            ∙ (own_areas ∙ h.base i);
        objects = λ u y n there le reported.
            stood u y le (h.objects u y n (ap (λ (xs : List Object). slice_get xs u) (sym c.objects) ∙ there) le reported);
      }
        where
          unopened_list : (j : Invariant code step.state) →
              list_of (areas_of j.base) (new_frame code c.body None (Some r) c.area [] ∷ []) ≡ areas_of j.base
          unopened_list j = refl

          mission : IsImmortalOf code.program (world_of s) mission_class r
          mission =
              i.sequencer.mission r (subst (λ (p : SeqOp). OperandThere s p) e i.sequencer.there).0

          above : h.first ≡ 0 → ⊥
          above z = (let q = h.base i in distinct i.base (q ∙ ap (λ m. m ∷ (0 ∷ [])) z) i.sequencer.base_fine)
            where
              distinct : (b : Base) → areas_of b ≡ 0 ∷ (0 ∷ []) → BaseFine code s b → ⊥
              distinct unopened q k = cc (q)
              distinct in_immortal q k = cc (q)
              distinct (in_mission m) q k =
                  (let zero : m ≡ 0 = cc (q) in
                  let apart = k.1.are_distinct.0 in
                  let same = ap (λ a. is_among a (0 ∷ [])) zero in cc (apart, same))

          other : (u : ℕ) (y : Object) → object_at s u ≡ Some y → h.first ≤ y.area → Some r ≡ Some u → ⊥
          other u y there le q =
              (let one : mission.object ≡ y =
              some_inj mission.object y
              (sym mission.found ∙ (ap (λ m. slice_get s.objects m) (some_inj r u q) ∙ there)) in
              let zero : y.area ≡ 0 = ap (λ (o : Object). o.area) (sym one) ∙ mission.lies in
              above (omega (arith, zero, le)))

          stood : (u : ℕ) (y : Object) → h.first ≤ y.area → Stands code facts bare storage Inner OnWay forms s u y →
              Stands code facts bare storage Inner OnWay forms step.state u y
          stood u y le (Reported k) = Reported k
          stood u y le (Making k) =
              Making (record {
                heap = heap_same u y s step.state k.heap c.statics c.objects c.outcome c.registry;
                frames = Nowhere (subst (AllBare u) (sym c.frames)
                    (frame_lacks u code c.body None (Some r) c.area [] (other u y k.heap.object le) tt, tt));
              })

      boots : (op : SeqOp) → s.operation ≡ op → is_init (phase_of op) ≡ false → is_init s.phase ≡ true →
          InInit code facts bare storage Inner OnWay forms step.state
      boots op e none k =
          absurd (let was : is_init (phase_of op) ≡ is_init s.phase =
          ap (λ (o : SeqOp). is_init (phase_of o)) (sym e) ∙ ap is_init (sym i.sequencer.phase) in cc (was, none, k))

      init_by : (op : SeqOp) → s.operation ≡ op → is_init s.phase ≡ true →
          InInit code facts bare storage Inner OnWay forms step.state
      unfolding phase_of is_init
      init_by (Initialize r) e k =
          first_called r e
          ((initialize_called code s r).is step (ap (sequencer_op code s) (sym e) ∙ done)) (init k)
      init_by OpenImmortal e k = boots OpenImmortal e refl k
      init_by AllocSafelet e k = boots AllocSafelet e refl k
      init_by (ConstructSafelet r) e k = boots (ConstructSafelet r) e refl k
      init_by (InitializeApplication r) e k = boots (InitializeApplication r) e refl k
      init_by (GetSequencer r) e k = boots (GetSequencer r) e refl k
      init_by (GetNextMission r) e k = boots (GetNextMission r) e refl k
      init_by (OpenMission r) e k = boots (OpenMission r) e refl k
      init_by (CleanUp r) e k = boots (CleanUp r) e refl k
      init_by Execute e k = boots Execute e refl k
      init_by Finished e k = boots Finished e refl k

      pub of_own : Shown step.state
      of_own = record {
        init = λ k. by_phase k same.phase;
        opened = λ r v e k. by_operation r v e k same.operation;
        rows = same_rows storage s step.state same.registry rows;
      }
        where
          by_phase : is_init step.state.phase ≡ true →
              (step.state.phase ≡ s.phase) ⊎ (is_init step.state.phase ≡ false) →
              InInit code facts bare storage Inner OnWay forms step.state
          by_phase k (inl e) = init_by s.operation refl (ap is_init (sym e) ∙ k)
          by_phase k (inr e) = absurd (cc (k, e))

          by_operation : (r : ℕ) (v : Value) → step.state.operation ≡ OpenMission r → step.state.outcome ≡ Some v →
              (step.state.operation ≡ s.operation) ⊎ (step.state.outcome ≡ None) →
              InInit code facts bare storage Inner OnWay forms step.state
          by_operation r v e k (inl q) =
              just_opened r (sym q ∙ e)
              ((mission_opened code s r none).is step (ap (sequencer_op code s) (sym (sym q ∙ e)) ∙ done) v k)
          by_operation r v e k (inr q) = absurd (cc (k, q))
