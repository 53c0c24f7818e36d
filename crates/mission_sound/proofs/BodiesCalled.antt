-- The sequencer calls a body on the safelet, on the sequencer object or on the mission: the frame is ready.
use Rattle.std.specs.Prelude.{Option, Some, None, ◌||◌, ◌==◌, ◌++◌, option_to_list}
use Rattle.std.proofs.Common.{◌≡◌, ℕ, List, [], ◌∷◌, true, refl, sym, ◌∙◌, ap, subst, arith, true≢false}
use Rattle.std.proofs.lemmas.Bool.Decides.{nat_tests}
use Rattle.scj_rules.specs.declared.typing.Ty.TheVariants.{Class as ClassTy}
use Rattle.scj_rules.specs.declared.views.Body.{Body}
use Rattle.scj_rules.specs.declared.views.Body.TheVariants.{Written, Empty}
use Rattle.scj_rules.specs.Words.{is_among, ◌>>=◌}
use Rattle.scj_rules.specs.Classes.{is_sub}
use Rattle.accepted_laws.proofs.Tools.{some_inj}
use Rattle.scj_model.specs.Code.{Code}
use Rattle.scj_model.specs.State.{Object, Frame, State}
use Rattle.scj_model.specs.Ops.{body_ops}
use Rattle.scj_model.specs.Effects.{new_frame}
use Rattle.scj_model.specs.Steps.{silently}
use Rattle.scj_model.specs.Sequencer.{innermost, body_called}
use Rattle.scope_flow.specs.Signatures.{Signature, Runs, IsConcrete}
use Rattle.scope_flow.specs.Slots.{IsOfType}
use Rattle.scope_flow.specs.Needs.{pushed}
use Rattle.scope_flow.specs.Facts.{Facts}
use Rattle.scope_flow.proofs.Courses.{entry_stood}
use Rattle.frame_sound.specs.Places.{World, the_area, denote, world_of, AllHave}
use Rattle.frame_sound.specs.Fine.{ListFine, HeapFine, Ready, held_option, Under, list_of}
use Rattle.frame_sound.proofs.GuardSteps.{leaves_guarded}
use Rattle.frame_sound.proofs.Begins.{begins, on_this}
use Rattle.mission_sound.specs.Bases.{areas_of}
use Rattle.mission_sound.specs.Invariant.{IsCalledBy, body_called_by, lowest, SequencerFine, AfterOperation, Operates}
use Rattle.mission_sound.specs.SequencerFacts.{IsCalledOn}
use Rattle.mission_sound.proofs.Jobs.{Quiet, quiet_is_fine}
use Rattle.mission_sound.proofs.Carried.{operand_stays}
use Rattle.mission_sound.proofs.Resting.{base_stays}
use Rattle.mission_sound.proofs.Free.{Free, none_started, quiet, is_list}

class_and_above : (code : Code) → Facts code → (class on : ℕ) → IsConcrete code.program class →
    is_sub code.program.classes class on ≡ true → IsOfType code.program class (ClassTy on)
unfolding IsOfType
class_and_above code facts class on concrete above = ((facts.concrete class concrete).0, above)

-- a body without parameters begins on an object that lies on the list, in an area that its current scope names
module _ (code : Code) (facts : Facts code) (w : World) (list : List ℕ) (fine : ListFine w.areas list)
    (heap : HeapFine code.program w) (now : ℕ) (now_on : is_among now list ≡ true) (r : ℕ) (object : Object)
    (found : w.objects r ≡ Some object) (on_list : is_among object.area list ≡ true) (on : ℕ)
    (of_type : IsOfType code.program object.class (ClassTy on)) (sig : Signature) (takes : sig.takes ≡ [])
    (runs_there : denote w list (Some r) now sig.runs_in ≡ the_area now) where
  takes_none : AllHave code.program w (denote w list (Some r) now) sig.takes []
  takes_none = subst (λ ks. AllHave code.program w (denote w list (Some r) now) ks []) (sym takes) tt

  pub body_begins : (body : Body) → Runs code.program body on sig →
      Ready code w list on sig (new_frame code body None (Some r) now []) None
  unfolding Runs new_frame body_ops pushed
  body_begins (Written b) runs =
      begins code facts w list fine heap now now_on r object found on_list on of_type b sig runs None runs_there []
      takes_none
  body_begins Empty runs =
      record {
        runs = runs;
        home = record {
          own = λ h. absurd (true≢false (sym h));
          on_list = on_this code facts w list fine heap now now_on r object found on_list on of_type;
          now_on_list = now_on;
          is_now = runs_there;
        };
        known = [];
        kinds = [];
        operands = tt;
        locals = record { long = refl; each = λ i v k there is known. absurd (cc (there)); fits = λ i v value there has. absurd (cc (there)) };
        flow = (entry_stood code Empty on, ap (λ (s : Signature). s.gives) runs.1);
        guards = leaves_guarded code w Empty (Some r) _ None [];
      }

-- ---- the sequencer, with the frame

module _ (code : Code) (basics : Facts code) (s : State) (f : Free code s) (r : ℕ) (object : Object)
    (found : (world_of s).objects r ≡ Some object) (concrete : IsConcrete code.program object.class) (now : ℕ)
    (others : List ℕ) (is_base : areas_of f.invariant.base ≡ now ∷ others)
    (fine : ListFine (world_of s).areas (now ∷ others)) (lies : is_among object.area (now ∷ others) ≡ true)
    (body : Option Body) (called : IsCalledOn code.program object.class body)
    (runs_there : denote (world_of s) (now ∷ others) (Some r) now called.sig.runs_in ≡ the_area now)
    (by_operation : body_called_by code.program (world_of s) s.operation ≡ body) where
  abbrev frame : Frame
  frame = new_frame code called.body None (Some r) now []

  abbrev entered : State
  entered = record s { activity = record s.activity { frames = frame ∷ [] } }

  q : Quiet code s f.invariant.base
  q = quiet code s f

  now_on : is_among now (now ∷ others) ≡ true
  now_on = let t : (now == now) ≡ true = grind (arith, nat_tests) in ap (λ b. b || is_among now others) t

  starts : Ready code (world_of s) (now ∷ others) called.on called.sig frame None
  starts =
      body_begins code basics (world_of s) (now ∷ others) fine q.memory.heap now now_on r object found lies called.on
      (class_and_above code basics object.class called.on concrete called.above) called.sig called.takes runs_there
      called.body called.runs

  unopened_frame : frame.opened ≡ None
  unfolding new_frame
  unopened_frame = refl

  frames_list : list_of (areas_of f.invariant.base) (frame ∷ []) ≡ now ∷ others
  frames_list =
      ap (λ (o : Option ℕ). option_to_list o ++ areas_of f.invariant.base) unopened_frame ∙ is_base

  under : Under code (world_of s) (areas_of f.invariant.base) (frame ∷ []) None
  unfolding held_option
  under = (
    record {
      class = called.on;
      sig = called.sig;
      kind = None;
      fits = tt;
      ready = subst (λ list. Ready code (world_of s) list called.on called.sig frame None) (sym frames_list) starts;
    },
    subst (ListFine (world_of s).areas) (sym frames_list) fine,
    tt,
    tt,
  )

  called_frame : (g : Frame) → lowest (frame ∷ []) ≡ Some g → IsCalledBy code.program (world_of s) s.operation g
  unfolding lowest new_frame
  called_frame g e =
      subst (IsCalledBy code.program (world_of s) s.operation) (some_inj frame g e)
      (record { runs = by_operation ∙ called.is; opens_none = refl })

  entered_fine : AfterOperation code entered
  entered_fine =
      record {
        invariant = record {
          base = f.invariant.base;
          memories = quiet_is_fine code entered f.invariant.base (record {
            memory = record { areas = q.memory.areas; heap = q.memory.heap; statics = q.memory.statics };
            job = record { is_list = is_list code s f ∙ (is_base ∙ sym frames_list); frames = under };
            none_started = none_started code s f;
            none_opened = ap (λ (o : Option ℕ). option_to_list o ++ []) unopened_frame;
            only_base = q.only_base;
            nested = q.nested;
          });
          sequencer = record {
            phase = i.phase;
            base_suits = i.base_suits;
            base_fine = base_stays code s entered f.invariant.base i.base_fine;
            there = operand_stays s entered s.operation i.there;
            safelet = i.safelet;
            mission_sequencer = i.mission_sequencer;
            mission = i.mission;
            called = λ g over low. called_frame g low;
            frameless = λ e. absurd (true≢false (sym e ∙ f.outside));
          };
          handlers = record {
            rows = f.invariant.handlers.rows;
            handled = f.invariant.handlers.handled;
            none_started = f.invariant.handlers.none_started;
            none_waits = f.invariant.handlers.none_waits;
          };
        };
        done = λ value e. absurd (let x : None ≡ Some value = sym f.followed ∙ e in cc (x));
      }
    where
      i : SequencerFine code s f.invariant.base
      i = f.invariant.sequencer

  pub body_is_called : Operates code (body >>= body_called code s r)
  unfolding body_called innermost
  body_is_called =
      subst (λ (o : Option Body). Operates code (o >>= body_called code s r)) (sym called.is)
      (subst (λ (list : List ℕ). Operates code (innermost list >>= (λ area.
      let frame = new_frame code called.body None (Some r) area [] in
      Some (silently (record s { activity = record s.activity { frames = frame ∷ [] } })))))
      (sym (is_list code s f ∙ is_base)) (record { step = _; is = refl; after = entered_fine }))
