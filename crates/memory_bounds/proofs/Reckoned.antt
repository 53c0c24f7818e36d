-- What is known of the next operations of releases in execution, where the whole state is as the invariant says: but for
-- what is counted of them, and the handlers' rows.
use Rattle.std.specs.Prelude.{Some, None, slice_get}
use Rattle.std.proofs.Common.{◌≡◌, ℕ, ◌<◌, ◌≤◌, List, ◌∷◌, length, true, false, refl, sym, ◌∙◌, subst, arith}
use Rattle.scj_base.specs.declared.values.Value.{Value}
use Rattle.accepted_laws.specs.Kinds.{number}
use Rattle.accepted_laws.proofs.Tools.{some_inj}
use Rattle.scj_model.specs.declared.operations.Op.{Op}
use Rattle.scj_model.specs.declared.phases.Phase.{Phase}
use Rattle.scj_model.specs.declared.phases.Phase.TheVariants.{Boot, Next, Init, Exec, Cleanup, Over}
use Rattle.scj_model.specs.declared.plans.ReadingRow.{ReadingRow}
use Rattle.scj_model.specs.Code.{Code}
use Rattle.scj_model.specs.State.{Object, Frame, Activity, Release, State, is_exec, is_init}
use Rattle.scj_model.specs.Effects.{Effect, Makes, SetsHidden}
use Rattle.scj_model.specs.Run.{effect_at}
use Rattle.scope_flow.specs.Facts.{Facts}
use Rattle.scope_flow.specs.Slots.{array_type, kind_of_slot}
use Rattle.frame_sound.specs.Places.{world_of}
use Rattle.frame_sound.specs.Fine.{HeapFine, FramesFine, list_of}
use Rattle.frame_sound.specs.EffectsFine.{HiddenFine, Fine as EffectIsFine}
use Rattle.frame_sound.proofs.HiddenSlots.{hidden_fit}
use Rattle.mission_sound.specs.Bases.{areas_of}
use Rattle.mission_sound.specs.Invariant.{Invariant}
use Rattle.memory_needs.specs.Need.{Table, too_much}
use Rattle.memory_bounds.specs.Weights.{op_weight}
use Rattle.memory_bounds.specs.Theorem.{Storage, RowsReport}
use Rattle.memory_bounds.proofs.Begins.{new_is_empty}
use Rattle.memory_bounds.proofs.Counted.{Knows}
use Rattle.memory_bounds.proofs.Standing.{IsNext, stand, fine}
use Rattle.memory_bounds.proofs.ReleaseKeeps.{IsReckoned, AreReckoned}

-- the next operations of started releases do no more than they weigh, and find no memory full of their own accord
pub record AreCounted (code : Code) (table : Table) (rows : List ReadingRow) (s : State) : Type 0 where
  pub is : (index : ℕ) (r : Release) (a : Activity) (f : Frame) (below : List Frame) (op : Op) (rest : List Op) →
      IsNext s index r a f below op rest → op_weight code table op < too_much →
      Knows code table op (effect_at code rows s f op rest)

-- the hidden slots that are set are there
pub slots_there : (code : Code) (s : State) → HeapFine code.program (world_of s) → (r : ℕ) (values : List Value) →
    HiddenFine code.program (world_of s) r values → (o : Object) → slice_get s.objects r ≡ Some o →
    length values ≤ length o.slots
slots_there code s heap r values h o there =
    let same : h.object ≡ o = some_inj h.object o (sym h.found ∙ there) in
    let none : array_type code.program o.class ≡ None =
    subst (λ (x : Object). array_type code.program x.class ≡ None) same h.is_no_array in
    let fit = hidden_fit code.program o.class (length values) none
    (λ slot l. subst (λ (x : Object). kind_of_slot code.program x.class slot ≡ Some number) same (h.are_hidden slot l).1) in
    let full = (heap r o there).is_full none in
    omega (arith, fit, full)

pub exec_is_no_init : (phase : Phase) → is_exec phase ≡ true → is_init phase ≡ false
unfolding is_exec is_init
exec_is_no_init Exec e = refl
exec_is_no_init Boot e = refl
exec_is_no_init Next e = refl
exec_is_no_init Init e = absurd (cc (e))
exec_is_no_init Cleanup e = refl
exec_is_no_init Over e = refl

module _ (code : Code) (storage : Storage) (table : Table) (facts : Facts code) (rows : List ReadingRow) (s : State)
    (i : Invariant code s) (exec : is_exec s.phase ≡ true) (counted : AreCounted code table rows s)
    (reports : RowsReport storage s) where
  module _ (index : ℕ) (r : Release) (a : Activity) (f : Frame) (below : List Frame) (op : Op) (rest : List Op)
      (next : IsNext s index r a f below op rest) where
    abbrev list : List ℕ
    list = list_of (areas_of i.base) (f ∷ below)

    abbrev stands : FramesFine code (world_of s) (areas_of i.base) (f ∷ below)
    stands = stand code facts rows s i index r a f below op rest next

    of_effect : (e : Effect) → effect_at code rows s f op rest ≡ e →
        EffectIsFine code (world_of s) list stands.0.class stands.0.sig (record f { rest = rest }) e
    of_effect e same =
        subst (EffectIsFine code (world_of s) list stands.0.class stands.0.sig (record f { rest = rest })) same
        (fine code facts rows s i index r a f below op rest next)

    hidden : (h : Frame) (slot : ℕ) (values : List Value) → effect_at code rows s f op rest ≡ SetsHidden h slot values →
        (o : Object) → slice_get s.objects slot ≡ Some o → length values ≤ length o.slots
    hidden h slot values e o found =
        slots_there code s i.memories.memory.heap slot values (of_effect (SetsHidden h slot values) e).is.1 o found

    pub reckoned : IsReckoned code table rows s f op rest
    reckoned = record {
      puts = record {
        makes = λ h class values e. (of_effect (Makes h class values) e).is.goes.same.area;
        hidden = hidden;
      };
      situated = record {
        empty = new_is_empty code s i.memories.memory;
        hidden = hidden;
        no_init = exec_is_no_init s.phase exec;
      };
      counted = λ small. (counted.is index r a f below op rest next small).is;
    }

  pub are_reckoned : AreReckoned code storage table rows s
  are_reckoned = record {
    effects = λ index r a f below op rest there status frames next.
        reckoned index r a f below op rest
        (record { there = there; status = status; frames = frames; ops = next });
    reports = reports;
  }
