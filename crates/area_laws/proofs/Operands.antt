-- The object of the sequencer's operation lies in immortal memory, which is open.
use Rattle.std.specs.Prelude.{Option, Some, None, slice_get}
use Rattle.std.proofs.Common.{◌≡◌, ◌∙◌, ℕ, true, List, [], ◌∷◌, ap}
use Rattle.scj_rules.specs.Words.{holds}
use Rattle.scj_tree.specs.Forest.{Forest}
use Rattle.scj_model.specs.declared.operations.SeqOp.{SeqOp}
use Rattle.scj_model.specs.declared.operations.SeqOp.TheVariants.{OpenImmortal, AllocSafelet, ConstructSafelet, InitializeApplication, GetSequencer, GetNextMission, OpenMission, Initialize, CleanUp, Execute, Finished}
use Rattle.scj_model.specs.Code.{Code, code_of}
use Rattle.scj_model.specs.Choice.{by_priority, by_list}
use Rattle.scj_model.specs.Plan.{Plan}
use Rattle.scj_model.specs.Reached.{Moment, Reached}
use Rattle.scj_model.specs.Safety.{is_of_open_area}
use Rattle.scj_model.specs.State.{Object, State, is_open_area, object_at}
use Rattle.scj_model.proofs.Following.{by_some_list, fair_listed, priority_is_fair}
use Rattle.accepted_laws.specs.Programs.{IsAcceptedProgram}
use Rattle.priority_laws.proofs.AreaLists.{among_here}
use Rattle.frame_sound.specs.Places.{world_of}
use Rattle.mission_sound.specs.Bases.{Base, BaseFine, in_immortal, in_mission, unopened}
use Rattle.mission_sound.specs.Invariant.{IsImmortalOf, OperandThere, SequencerFine}
use Rattle.scope_sound.specs.FramedAndPlaced.{Placed}
use Rattle.scope_sound.proofs.Halves.{reached_placed}
use Rattle.area_laws.specs.OpenAreas.{operand_of}
use Rattle.area_laws.proofs.OpenLists.{list_open}

module _ (code : Code) (s : State) (base : Base) (fine : SequencerFine code s base) where
  -- where there is an object immortal memory is open
  immortal_open : (b : Base) → BaseFine code s b → (above r : ℕ) → IsImmortalOf code.program (world_of s) above r →
      is_open_area s 0 ≡ true
  immortal_open unopened h above r o =
      let none : object_at s r ≡ None = ap (λ (xs : List Object). slice_get xs r) h.1 in
      let some : object_at s r ≡ Some o.object = o.found in
      absurd (cc)
  immortal_open in_immortal h above r o = list_open s (0 ∷ []) h 0 (among_here 0 [])
  immortal_open (in_mission memory) h above r o = list_open s (0 ∷ []) h.0 0 (among_here 0 [])

  lies_open : (above r : ℕ) → IsImmortalOf code.program (world_of s) above r → is_of_open_area s r ≡ true
  lies_open above r o =
      ap (λ (x : Option Object). holds x (λ y. is_open_area s y.area)) o.found
      ∙ (ap (λ (a : ℕ). is_open_area s a) o.lies ∙ immortal_open base fine.base_fine above r o)

  pub operand_open : (r : ℕ) → operand_of s.operation ≡ Some r → is_of_open_area s r ≡ true
  operand_open r e = by s.operation e fine.there
    where
      by : (operation : SeqOp) → operand_of operation ≡ Some r → OperandThere s operation →
          is_of_open_area s r ≡ true
      by OpenImmortal e t = absurd (cc)
      by AllocSafelet e t = absurd (cc)
      by (ConstructSafelet q) e t =
          let same : q ≡ r = cc in lies_open _ r (fine.safelet r (t ∙ ap (λ (k : ℕ). Some k) same))
      by (InitializeApplication q) e t =
          let same : q ≡ r = cc in lies_open _ r (fine.safelet r (t ∙ ap (λ (k : ℕ). Some k) same))
      by (GetSequencer q) e t =
          let same : q ≡ r = cc in lies_open _ r (fine.safelet r (t ∙ ap (λ (k : ℕ). Some k) same))
      by (GetNextMission q) e t =
          let same : q ≡ r = cc in lies_open _ r (fine.mission_sequencer r (t ∙ ap (λ (k : ℕ). Some k) same))
      by (OpenMission q) e t =
          let same : q ≡ r = cc in lies_open _ r (fine.mission r (t.0 ∙ ap (λ (k : ℕ). Some k) same))
      by (Initialize q) e t =
          let same : q ≡ r = cc in lies_open _ r (fine.mission r (t.0 ∙ ap (λ (k : ℕ). Some k) same))
      by (CleanUp q) e t =
          let same : q ≡ r = cc in lies_open _ r (fine.mission r (t.0 ∙ ap (λ (k : ℕ). Some k) same))
      by Execute e t = absurd (cc)
      by Finished e t = absurd (cc)

pub reached_operand : (forest : Forest) → IsAcceptedProgram forest → (plan : Plan) (moment : Moment) (s : State) →
    Reached (code_of forest) plan by_priority moment s → (r : ℕ) → operand_of s.operation ≡ Some r →
    is_of_open_area s r ≡ true
reached_operand forest accepted plan moment s reached r e =
    let listed : (choices : List ℕ) × Reached (code_of forest) plan (by_list choices) moment s =
    by_some_list (code_of forest) plan moment s
    (fair_listed (code_of forest) plan by_priority priority_is_fair reached) in
    let placed : Placed (code_of forest) s = reached_placed forest accepted plan listed.0 moment s listed.1 in
    operand_open (code_of forest) s placed.invariant.base placed.invariant.sequencer r e
