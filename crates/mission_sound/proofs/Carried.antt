-- What is known of the safelet, the sequencer object, the mission and the handlers stays known where objects keep their
-- classes and their areas.
use Rattle.std.specs.Prelude.{Option}
use Rattle.std.proofs.Common.{◌≡◌, ℕ, true, sym, ◌∙◌, ap, subst}
use Rattle.scj_rules.specs.ScopeRules.{is_handler}
use Rattle.scj_rules.specs.Classes.{is_sub}
use Rattle.scj_rules.specs.Contexts.{Declarations}
use Rattle.scj_model.specs.declared.handlers.HandlerRow.{HandlerRow}
use Rattle.scj_model.specs.declared.operations.SeqOp.{SeqOp}
use Rattle.scj_model.specs.declared.operations.SeqOp.TheVariants.{OpenImmortal, AllocSafelet, ConstructSafelet, InitializeApplication, GetSequencer, GetNextMission, OpenMission, Initialize, CleanUp, Execute, Finished}
use Rattle.scj_model.specs.State.{State}
use Rattle.scope_flow.specs.Signatures.{IsConcrete}
use Rattle.frame_sound.specs.Places.{World}
use Rattle.frame_sound.proofs.Keeps.{ObjectsAreKept}
use Rattle.mission_sound.specs.Bases.{Base, in_mission}
use Rattle.mission_sound.specs.Invariant.{IsImmortalOf, AreImmortalOf, OperandThere, RowFine}

module _ (p : Declarations) (w w2 : World) (kept : ObjectsAreKept w w2) where
  pub immortal_kept : (above r : ℕ) → IsImmortalOf p w above r → IsImmortalOf p w2 above r
  immortal_kept above r h =
      let k = kept r h.object h.found in
      record {
        object = k.object;
        found = k.found;
        concrete = subst (IsConcrete p) (sym k.class) h.concrete;
        is_under = subst (λ c. is_sub p.classes c above ≡ true) (sym k.class) h.is_under;
        lies = k.area ∙ h.lies;
      }

  pub immortals_kept : (above : ℕ) (o : Option ℕ) → AreImmortalOf p w above o → AreImmortalOf p w2 above o
  immortals_kept above o h r e = immortal_kept above r (h r e)

  pub row_kept : (base : Base) (row : HandlerRow) → RowFine p w base row → RowFine p w2 base row
  row_kept base row h =
      let k = kept row.at h.object h.found in
      record {
        object = k.object;
        found = k.found;
        is_class = h.is_class ∙ sym k.class;
        concrete = subst (IsConcrete p) (sym k.class) h.concrete;
        is_a_handler = subst (λ c. is_handler p c ≡ true) (sym k.class) h.is_a_handler;
        in_memory = h.in_memory ∙ ap in_mission (sym k.area);
      }

-- an operation's operand is there as long as the sequencer's objects are the same
pub operand_stays : (s t : State) (operation : SeqOp) → OperandThere s operation →
    OperandThere (record t {
      safelet = s.safelet;
      mission_sequencer = s.mission_sequencer;
      mission = s.mission;
    }) operation
operand_stays s t OpenImmortal h = h
operand_stays s t AllocSafelet h = h
operand_stays s t (ConstructSafelet r) h = h
operand_stays s t (InitializeApplication r) h = h
operand_stays s t (GetSequencer r) h = h
operand_stays s t (GetNextMission r) h = h
operand_stays s t (OpenMission r) h = h
operand_stays s t (Initialize r) h = h
operand_stays s t (CleanUp r) h = h
operand_stays s t Execute h = h
operand_stays s t Finished h = h
