-- The sequencer is about to act by itself: it has no frame, and neither execution nor the end of the run has come. What
-- it does by itself is done at once, and may open an area or make an object.
use Rattle.std.specs.Prelude.{Some, None, slice_get, ◌++◌, if◌then◌else◌}
use Rattle.std.proofs.Common.{◌≡◌, ℕ, List, [], ◌∷◌, length, Bool, true, false, refl, sym, ◌∙◌, ap, subst}
use Rattle.scj_base.specs.declared.faults.RunFault.{RunFault}
use Rattle.scj_base.specs.declared.faults.RunFault.TheVariants.{StoreFull}
use Rattle.scj_base.specs.declared.positions.Position.{Position}
use Rattle.scj_base.specs.declared.values.Value.{Value}
use Rattle.scj_base.specs.declared.values.Value.TheVariants.{Null}
use Rattle.scj_builtins.specs.Framework.{safelet as safelet_interface, mission as mission_class, mission_sequencer as sequencer_class}
use Rattle.scj_rules.specs.Words.{is_among}
use Rattle.accepted_laws.proofs.Tools.{some_inj}
use Rattle.scj_model.specs.declared.handlers.HandlerRow.{HandlerRow}
use Rattle.scj_model.specs.Code.{Code}
use Rattle.scj_model.specs.State.{MemoryArea, Object, TheSequencer, State, area_at, is_open_area, is_exec, is_over}
use Rattle.scj_model.specs.Memory.{has_store_for, with_area}
use Rattle.scj_model.specs.Steps.{silently, fault_in, opening}
use Rattle.scj_model.specs.Sequencer.{innermost, area_opened, has_started}
use Rattle.frame_sound.specs.Places.{world_of}
use Rattle.frame_sound.specs.Fine.{FramesFine, MemoryFine, list_of}
use Rattle.frame_sound.proofs.Keeps.{ObjectsAreKept}
use Rattle.mission_sound.specs.Bases.{Base, areas_of, in_immortal, BaseAfter, BaseBefore, BaseSuits, BaseFine}
use Rattle.mission_sound.specs.Invariant.{RowFine, has_waiting, Invariant, ValueSuits, AfterOperation, Operates, SequencerFine}
use Rattle.mission_sound.proofs.Carried.{immortals_kept, operand_stays}
use Rattle.mission_sound.proofs.Jobs.{Quiet, quiet_is_fine, fine_is_quiet}
use Rattle.mission_sound.proofs.Resting.{takes_none, none_left, no_lowest, faults}

pub record Free (code : Code) (s : State) : Type 0 where
  pub invariant : Invariant code s
  pub followed : s.outcome ≡ None
  pub frameless : s.activity.frames ≡ []
  pub outside : is_exec s.phase ≡ false
  pub goes_on : is_over s.phase ≡ false

module _ (code : Code) (s : State) (f : Free code s) where
  pub before : BaseBefore s.operation f.invariant.base
  before = subst (λ o. BaseSuits s.operation o f.invariant.base) f.followed f.invariant.sequencer.base_suits

  pub none_started : has_started s ≡ false
  none_started = f.invariant.handlers.none_started f.outside

  pub none_waits : has_waiting s ≡ false
  none_waits = f.invariant.handlers.none_waits (takes_none s f.outside)

  pub quiet : Quiet code s f.invariant.base
  quiet =
      fine_is_quiet code s f.invariant.base f.invariant.memories none_started (ap (list_of []) f.frameless)

  pub is_list : s.activity.areas ≡ areas_of f.invariant.base
  is_list = quiet.job.is_list ∙ ap (list_of (areas_of f.invariant.base)) f.frameless

  -- ---- an operation of the sequencer's own is done

  module _ (areas : List MemoryArea) (objects : List Object) (list : List ℕ) (value : Value) where
    abbrev pub done_with : State
    done_with =
        record s {
          areas = areas;
          objects = objects;
          activity = record s.activity { areas = list };
          outcome = Some value;
        }

    pub finishes : (base : Base) → MemoryFine code done_with → ObjectsAreKept (world_of s) (world_of done_with) →
        list ≡ areas_of base → ((a : ℕ) (x : MemoryArea) → area_at done_with a ≡ Some x → x.is_open ≡ true →
        is_among a (areas_of base) ≡ true) → ((a b : ℕ) (x : MemoryArea) → area_at done_with a ≡ Some x →
        x.is_open ≡ true → x.parent ≡ Some b → is_open_area done_with b ≡ true) → BaseAfter s.operation base →
        BaseFine code done_with base → ((k : ℕ) (row : HandlerRow) → slice_get s.registry k ≡ Some row →
        RowFine code.program (world_of done_with) base row) →
        ValueSuits code.program (world_of done_with) s.operation value → AfterOperation code done_with
    finishes base memory kept is only nested suits fine rows valued =
        record {
          invariant = record {
            base = base;
            memories = quiet_is_fine code done_with base (record {
              memory = memory;
              job = record {
                is_list = is ∙ sym (ap (list_of (areas_of base)) f.frameless);
                frames = subst (FramesFine code (world_of done_with) (areas_of base)) (sym f.frameless) tt;
              };
              none_started = none_started;
              none_opened = ap (list_of []) f.frameless;
              only_base = only;
              nested = nested;
            });
            sequencer = record {
              phase = q.phase;
              base_suits = suits;
              base_fine = fine;
              there = operand_stays s done_with s.operation q.there;
              safelet =
                  immortals_kept code.program (world_of s) (world_of done_with) kept safelet_interface s.safelet
                  q.safelet;
              mission_sequencer =
                  immortals_kept code.program (world_of s) (world_of done_with) kept sequencer_class s.mission_sequencer
                  q.mission_sequencer;
              mission =
                  immortals_kept code.program (world_of s) (world_of done_with) kept mission_class s.mission q.mission;
              called = λ g over low. absurd (no_lowest s.activity.frames g f.frameless low);
              frameless = λ e. f.frameless;
            };
            handlers = record {
              rows = rows;
              handled = λ position r there h. absurd (none_left s position r none_started none_waits there h);
              none_started = λ e. none_started;
              none_waits = λ e. none_waits;
            };
          };
          done = λ v e. record {
            frameless = f.frameless;
            suits = subst (ValueSuits code.program (world_of done_with) s.operation) (some_inj value v e) valued;
          };
        }
      where
        q : SequencerFine code s f.invariant.base
        q = f.invariant.sequencer

  -- a fault in its place
  pub fails : (position : Position) (fault : RunFault) →
      AfterOperation code (fault_in s TheSequencer s.activity position fault).state
  fails position fault = faults code s s.activity position fault f.invariant f.outside

  -- without the memory of a mission there is no row
  pub no_rows : f.invariant.base ≡ in_immortal → (k : ℕ) (row : HandlerRow) →
      slice_get s.registry k ≡ Some row → ⊥
  no_rows e k row there =
      let x = f.invariant.handlers.rows k row there in
      let y = sym e ∙ x.in_memory in cc (y)

  -- ---- an area is opened

  module _ (position : Position) (scope bytes : ℕ) (list : List ℕ) (is : s.activity.areas ≡ list) where
    abbrev pub new_area : MemoryArea
    new_area = record { scope = scope; parent = innermost list; bytes = bytes; is_open = true }

    abbrev pub opened : State
    opened = done_with (s.areas ++ new_area ∷ []) s.objects (length s.areas ∷ list) Null

    pub opens : AfterOperation code opened → Operates code (Some (area_opened s position scope bytes))
    unfolding area_opened opening
    opens after =
        subst (λ (list : List ℕ). Operates code (Some (if has_store_for s bytes
        then silently (record (with_area s scope (innermost list) bytes) {
          activity = record s.activity { areas = length s.areas ∷ list };
          outcome = Some Null;
        })
        else fault_in s TheSequencer s.activity position StoreFull))) (sym is) (go (has_store_for s bytes))
      where
        go : (b : Bool) → Operates code (Some (if b
            then silently (record (with_area s scope (innermost list) bytes) {
              activity = record s.activity { areas = length s.areas ∷ list };
              outcome = Some Null;
            })
            else fault_in s TheSequencer s.activity position StoreFull))
        go true = record { step = _; is = refl; after = after }
        go false = record { step = _; is = refl; after = fails position StoreFull }
