-- What follows an operation always has a result, and the next unit begins with the invariant.
use Rattle.std.specs.Prelude.{Option, Some, None, length, ◌+◌, option_map}
use Rattle.std.proofs.Common.{◌≡◌, ℕ, Bool, true, false, refl, sym, subst, inl, inr}
use Rattle.scj_base.specs.declared.values.Value.{Value}
use Rattle.scj_base.specs.declared.values.Value.TheVariants.{At}
use Rattle.scj_builtins.specs.Framework.{safelet as safelet_interface, mission as mission_class, mission_sequencer as sequencer_class}
use Rattle.scj_rules.specs.Contexts.{Declarations}
use Rattle.accepted_laws.proofs.Tools.{some_inj}
use Rattle.scj_model.specs.declared.operations.SeqOp.{SeqOp}
use Rattle.scj_model.specs.declared.operations.SeqOp.TheVariants.{OpenImmortal, AllocSafelet, ConstructSafelet, InitializeApplication, GetSequencer, GetNextMission, OpenMission, Initialize, CleanUp, Execute, Finished}
use Rattle.scj_model.specs.declared.phases.Phase.{Phase}
use Rattle.scj_model.specs.declared.phases.Phase.TheVariants.{Boot, Next, Init, Exec, Cleanup, Over}
use Rattle.scj_model.specs.Code.{Code}
use Rattle.scj_model.specs.State.{State}
use Rattle.scj_model.specs.Steps.{fault_in}
use Rattle.scj_model.specs.Sequencer.{transition, transition_done, seq_applied}
use Rattle.scj_model.specs.Run.{next_unit}
use Rattle.frame_sound.specs.Places.{World, world_of}
use Rattle.mission_sound.specs.Bases.{Base, in_immortal, in_mission, BaseBefore, BaseAfter, BaseFine, IsInMission}
use Rattle.mission_sound.specs.Invariant.{AreImmortalOf, IsImmortalOf, OperandThere, phase_of, Settled, ValueSuits, Follows}
use Rattle.mission_sound.proofs.Jobs.{gone_on, memories_stay}
use Rattle.frame_sound.proofs.Keeps.{ObjectsAreKept}
use Rattle.mission_sound.proofs.Carried.{immortals_kept}
use Rattle.mission_sound.proofs.Resting.{Resting, goes, base_stays}
use Rattle.mission_sound.proofs.MissionClosed.{left, closes, base_left, resting_left}

-- who is new as the safelet, the sequencer object or the mission; and nobody is
taken : (p : Declarations) (w : World) (above r : ℕ) → IsImmortalOf p w above r → AreImmortalOf p w above (Some r)
taken p w above r h q e = subst (IsImmortalOf p w above) (some_inj r q e) h

nobody : (p : Declarations) (w : World) (above : ℕ) → AreImmortalOf p w above None
nobody p w above q e = absurd (cc (e))

resting_still : (code : Code) (s t : State) (base : Base) → Resting code s base →
    Resting code (record (gone_on s t) { registry = s.registry }) base
resting_still code s t base r =
    record {
      memories = memories_stay s (record t { registry = s.registry }) code base r.memories;
      frameless = r.frameless;
      none_started = r.none_started;
      none_waits = r.none_waits;
      rows = r.rows;
    }

-- ---- after an operation of the sequencer that is done

module _ (code : Code) (s : State) (base : Base) (r : Resting code s base) (fine : BaseFine code s base)
    (safelet : AreImmortalOf code.program (world_of s) safelet_interface s.safelet)
    (sequencer : AreImmortalOf code.program (world_of s) sequencer_class s.mission_sequencer)
    (mission : AreImmortalOf code.program (world_of s) mission_class s.mission) where
  abbrev Goes : Option ℕ → Bool → SeqOp → Value → Type 0
  Goes known skips operation value =
      Follows code (option_map (transition_done code s) (transition known skips operation value))

  -- the next unit, in another phase and before another operation
  abbrev then_at : Phase → SeqOp → State
  then_at phase operation = record s { phase = phase; operation = operation; outcome = None; unit = s.unit + 1 }

  -- the safelet, the sequencer object and the mission stay who they are
  continues : (phase : Phase) (operation : SeqOp) → phase ≡ phase_of operation → BaseBefore operation base →
      OperandThere (then_at phase operation) operation → Settled code (then_at phase operation)
  continues phase operation e b there =
      goes code s (then_at phase operation) base r e b (base_stays code s (then_at phase operation) base fine) there
      safelet sequencer mission

  takes_safelet : (known : Option ℕ) (skips : Bool) (q : ℕ) → base ≡ in_immortal →
      IsImmortalOf code.program (world_of s) safelet_interface q → Goes known skips AllocSafelet (At q)
  unfolding transition seq_applied phase_of
  takes_safelet known skips q b h =
      record {
        step = _;
        is = refl;
        settled = goes code s (record (then_at Boot (ConstructSafelet q)) { safelet = Some q }) base r refl b
            (base_stays code s (then_at Boot (ConstructSafelet q)) base fine) refl
            (taken code.program (world_of s) safelet_interface q h) sequencer mission;
      }

  takes_sequencer : (known : Option ℕ) (skips : Bool) (asked q : ℕ) → base ≡ in_immortal →
      IsImmortalOf code.program (world_of s) sequencer_class q → Goes known skips (GetSequencer asked) (At q)
  unfolding transition seq_applied phase_of
  takes_sequencer known skips asked q b h =
      record {
        step = _;
        is = refl;
        settled = goes code s (record (then_at Next (GetNextMission q)) { mission_sequencer = Some q }) base r refl b
            (base_stays code s (then_at Next (GetNextMission q)) base fine) refl safelet
            (taken code.program (world_of s) sequencer_class q h) mission;
      }

  takes_mission : (known : Option ℕ) (skips : Bool) (asked q : ℕ) → base ≡ in_immortal →
      s.mission_sequencer ≡ Some asked → IsImmortalOf code.program (world_of s) mission_class q →
      Goes known skips (GetNextMission asked) (At q)
  unfolding transition seq_applied phase_of
  takes_mission known skips asked q b there h =
      record {
        step = _;
        is = refl;
        settled = goes code s new base r refl b (subst (BaseFine code new) (sym b) (subst (BaseFine code s) b fine))
            (refl, (asked, there)) safelet sequencer (taken code.program (world_of s) mission_class q h);
      }
    where
      new : State
      new =
          record (then_at Next (OpenMission q)) {
            mission = Some q;
            is_end_asked = false;
            earlier_releases = length s.releases;
          }

  -- the mission's memory is closed, in the state that is before the next operation
  closes_mission : (skips : Bool) (done q : ℕ) (value : Value) → IsInMission base → s.mission_sequencer ≡ Some q →
      Goes (Some q) skips (CleanUp done) value
  unfolding transition seq_applied phase_of
  closes_mission skips done q value b there =
      record {
        step = _;
        is = refl;
        settled =
            subst (λ (u : State). Settled code (next_unit u)) (sym (closes code before b.0 resting fine2.0 fine2.1))
            settled;
      }
    where
      before : State
      before = record s { phase = Next; operation = GetNextMission q; outcome = None }

      fine2 : BaseFine code s (in_mission b.0)
      fine2 = subst (BaseFine code s) b.1 fine

      resting : Resting code before (in_mission b.0)
      resting = resting_still code s before (in_mission b.0) (subst (Resting code s) b.1 r)

      after : State
      after = left code before b.0 resting fine2.0 fine2.1

      same_objects : ObjectsAreKept (world_of s) (world_of after)
      same_objects n o e = record { object = o; found = e; class = refl; area = refl }

      settled : Settled code (next_unit after)
      settled =
          goes code after (next_unit after) in_immortal (resting_left code before b.0 resting fine2.0 fine2.1) refl refl
          (base_left code before b.0 resting fine2.0 fine2.1) there
          (immortals_kept code.program (world_of s) (world_of after) same_objects safelet_interface s.safelet safelet)
          (immortals_kept code.program (world_of s) (world_of after) same_objects sequencer_class s.mission_sequencer
          sequencer)
          (nobody code.program (world_of after) mission_class)

  pub transits : (skips : Bool) (operation : SeqOp) (value : Value) → BaseAfter operation base →
      OperandThere s operation → ValueSuits code.program (world_of s) operation value →
      Goes s.mission_sequencer skips operation value
  unfolding transition seq_applied phase_of fault_in
  transits skips OpenImmortal value b there v =
      record { step = _; is = refl; settled = continues Boot AllocSafelet refl b tt }
  transits skips AllocSafelet value b there v =
      subst (Goes s.mission_sequencer skips AllocSafelet) (sym v.1) (takes_safelet s.mission_sequencer skips v.0 b v.2)
  transits skips (ConstructSafelet q) value b there v =
      record { step = _; is = refl; settled = continues Boot (InitializeApplication q) refl b there }
  transits skips (InitializeApplication q) value b there v =
      record { step = _; is = refl; settled = continues Boot (GetSequencer q) refl b there }
  transits skips (GetSequencer q) value b there (inl e) =
      subst (Goes s.mission_sequencer skips (GetSequencer q)) (sym e)
      (record { step = _; is = refl; settled = continues Over Finished refl tt tt })
  transits skips (GetSequencer q) value b there (inr v) =
      subst (Goes s.mission_sequencer skips (GetSequencer q)) (sym v.1)
      (takes_sequencer s.mission_sequencer skips q v.0 b v.2)
  transits skips (GetNextMission q) value b there (inl e) =
      subst (Goes s.mission_sequencer skips (GetNextMission q)) (sym e)
      (record { step = _; is = refl; settled = continues Over Finished refl tt tt })
  transits skips (GetNextMission q) value b there (inr v) =
      subst (Goes s.mission_sequencer skips (GetNextMission q)) (sym v.1)
      (takes_mission s.mission_sequencer skips q v.0 b there v.2)
  transits skips (OpenMission q) value b there v =
      record { step = _; is = refl; settled = continues Init (Initialize q) refl b there }
  transits true (Initialize q) value b there v =
      record { step = _; is = refl; settled = continues Cleanup (CleanUp q) refl b there }
  transits false (Initialize q) value b there v =
      record {
        step = _;
        is = refl;
        settled = goes code s (record (then_at Exec Execute) { origin = s.unit + 1; last_choice = None }) base r refl b
            (base_stays code s (then_at Exec Execute) base fine) ((q, there.0), there.1) safelet sequencer mission;
      }
  transits skips (CleanUp q) value b there v =
      subst (λ known. Goes known skips (CleanUp q) value) (sym there.1.1)
      (closes_mission skips q there.1.0 value b there.1.1)
  transits skips Execute value b there v = absurd v
  transits skips Finished value b there v = absurd v
