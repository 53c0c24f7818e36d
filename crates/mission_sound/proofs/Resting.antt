-- The sequencer between two of its operations: nobody has a frame, and no release waits. From such a state it goes on
-- to the next phase and operation.
use Rattle.std.specs.Prelude.{Some, None, slice_get, ◌||◌, ◌&&◌, not}
use Rattle.std.proofs.Common.{◌≡◌, ℕ, List, [], Bool, true, false, refl, sym, ◌∙◌, ap, true≢false}
use Rattle.scj_base.specs.declared.faults.RunFault.{RunFault}
use Rattle.scj_base.specs.declared.positions.Position.{Position}
use Rattle.scj_builtins.specs.Framework.{safelet as safelet_interface, mission as mission_class, mission_sequencer as sequencer_class}
use Rattle.scj_model.specs.declared.handlers.HandlerRow.{HandlerRow}
use Rattle.scj_model.specs.declared.operations.SeqOp.TheVariants.{Finished}
use Rattle.scj_model.specs.declared.phases.Phase.TheVariants.{Over}
use Rattle.scj_model.specs.Code.{Code}
use Rattle.scj_model.specs.State.{Frame, Activity, Release, TheSequencer, State, is_waiting, is_started, is_exec, is_over}
use Rattle.scj_model.specs.Apply.{takes_releases}
use Rattle.scj_model.specs.Steps.{fault_in}
use Rattle.scj_model.specs.Sequencer.{has_started}
use Rattle.frame_sound.specs.Places.{world_of}
use Rattle.mission_sound.specs.Bases.{Base, unopened, in_immortal, in_mission, BaseBefore, BaseFine}
use Rattle.mission_sound.specs.Invariant.{MemoriesFine, lowest, RowFine, has_waiting, OperandThere, AreImmortalOf, phase_of, Invariant, Settled, AfterOperation}
use Rattle.mission_sound.proofs.Jobs.{none_passes, gone_on, memories_stay}

-- ---- small steps

pub no_lowest : (frames : List Frame) (f : Frame) → frames ≡ [] → lowest frames ≡ Some f → ⊥
unfolding lowest
no_lowest frames f e h = let x : None ≡ Some f = sym (ap lowest e) ∙ h in cc (x)

-- where nothing is taken in outside execution
pub takes_none : (s : State) → is_exec s.phase ≡ false → takes_releases s ≡ false
takes_none s e = ap (λ (b : Bool). b && not s.is_end_asked) e

-- no release waits or is started
pub none_left : (s : State) (index : ℕ) (r : Release) → has_started s ≡ false → has_waiting s ≡ false →
    slice_get s.releases index ≡ Some r → (is_waiting r.status || is_started r.status) ≡ true → ⊥
none_left s index r started waiting there h =
    true≢false (sym h
    ∙ (ap (λ (b : Bool). b || is_started r.status)
    (none_passes (λ (r : Release). is_waiting r.status) s.releases index r waiting there)
    ∙ none_passes (λ (r : Release). is_started r.status) s.releases index r started there))

-- the sequencer's base stands as it stood
pub base_stays : (code : Code) (s t : State) (base : Base) → BaseFine code s base →
    BaseFine code (record t { objects = s.objects; areas = s.areas; mission = s.mission }) base
base_stays code s t unopened h = h
base_stays code s t in_immortal h = h
base_stays code s t (in_mission memory) h = h

-- ---- the sequencer goes on

pub record Resting (code : Code) (s : State) (base : Base) : Type 0 where
  pub memories : MemoriesFine code s base
  pub frameless : s.activity.frames ≡ []
  pub none_started : has_started s ≡ false
  pub none_waits : has_waiting s ≡ false
  pub rows : (k : ℕ) (row : HandlerRow) → slice_get s.registry k ≡ Some row →
      RowFine code.program (world_of s) base row

module _ (code : Code) (s t : State) (base : Base) (r : Resting code s base) where
  abbrev pub gone : State
  gone = record (gone_on s t) { registry = s.registry; outcome = None }

  pub goes : t.phase ≡ phase_of t.operation → BaseBefore t.operation base → BaseFine code gone base →
      OperandThere gone t.operation → AreImmortalOf code.program (world_of s) safelet_interface t.safelet →
      AreImmortalOf code.program (world_of s) sequencer_class t.mission_sequencer →
      AreImmortalOf code.program (world_of s) mission_class t.mission → Settled code gone
  goes phase suits fine there safelet sequencer mission =
      record {
        invariant = record {
          base = base;
          memories = memories_stay s gone code base r.memories;
          sequencer = record {
            phase = phase;
            base_suits = suits;
            base_fine = fine;
            there = there;
            safelet = safelet;
            mission_sequencer = sequencer;
            mission = mission;
            called = λ f over low. absurd (no_lowest s.activity.frames f r.frameless low);
            frameless = λ e. r.frameless;
          };
          handlers = record {
            rows = r.rows;
            handled = λ place q there h. absurd (none_left s place q r.none_started r.none_waits there h);
            none_started = λ e. r.none_started;
            none_waits = λ e. r.none_waits;
          };
        };
        followed = refl;
      }

-- ---- a fault of the sequencer halts the run, and everything is left as it is

abbrev pub halted : State → State
halted s = record s { phase = Over; operation = Finished; outcome = None }

pub halts : (code : Code) (s : State) → Invariant code s → is_exec s.phase ≡ false → Invariant code (halted s)
unfolding phase_of is_exec is_over
halts code s i e =
    record {
      base = i.base;
      memories = memories_stay s (halted s) code i.base i.memories;
      sequencer = record {
        phase = refl;
        base_suits = tt;
        base_fine = base_stays code s (halted s) i.base i.sequencer.base_fine;
        there = tt;
        safelet = i.sequencer.safelet;
        mission_sequencer = i.sequencer.mission_sequencer;
        mission = i.sequencer.mission;
        called = λ f over low. absurd (true≢false over);
        frameless = λ x. absurd (true≢false (sym x));
      };
      handlers = record {
        rows = i.handlers.rows;
        handled = λ place q there h. i.handlers.handled place q there h;
        none_started = λ x. i.handlers.none_started e;
        none_waits = λ x. i.handlers.none_waits (takes_none s e);
      };
    }

pub faults : (code : Code) (s : State) (activity : Activity) (position : Position) (fault : RunFault) → Invariant code s →
    is_exec s.phase ≡ false → AfterOperation code (fault_in s TheSequencer activity position fault).state
unfolding fault_in
faults code s activity position fault i e =
    record { invariant = halts code s i e; done = λ value x. absurd (cc (x)) }
