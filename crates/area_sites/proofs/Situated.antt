-- What an operation makes lies in an open area, and hidden fields that it sets are there.
use Rattle.std.specs.Prelude.{Option, Some, None, slice_get}
use Rattle.std.proofs.Common.{◌≡◌, ◌∙◌, ℕ, ◌≤◌, List, ◌∷◌, length, arith, refl, subst, sym}
use Rattle.scj_base.specs.declared.values.Value.{Value}
use Rattle.scj_rules.specs.Layout.{slots}
use Rattle.scj_tree.specs.Forest.{Forest}
use Rattle.accepted_laws.specs.Kinds.{Kind}
use Rattle.accepted_laws.specs.Programs.{IsAcceptedProgram}
use Rattle.accepted_laws.proofs.Tools.{some_inj}
use Rattle.scj_model.specs.declared.operations.Op.{Op}
use Rattle.scj_model.specs.declared.plans.ReadingRow.{ReadingRow}
use Rattle.scj_model.specs.Code.{Code, code_of}
use Rattle.scj_model.specs.Choice.{by_list, by_priority}
use Rattle.scj_model.specs.Effects.{Effect, Makes, SetsHidden}
use Rattle.scj_model.specs.Plan.{Plan}
use Rattle.scj_model.specs.Reached.{Arrived, Reached}
use Rattle.scj_model.specs.Run.{effect_at, environment}
use Rattle.scj_model.specs.State.{Activity, Frame, Job, Object, State, TheSequencer, activity_of, area_at}
use Rattle.scj_model.proofs.Following.{by_some_list, fair_listed, priority_is_fair}
use Rattle.scope_flow.specs.Facts.{Facts}
use Rattle.scope_flow.specs.Signatures.{Signature}
use Rattle.scope_flow.specs.Slots.{array_type}
use Rattle.frame_sound.specs.EffectsFine.{EffectFine, HiddenFine}
use Rattle.frame_sound.specs.Fine.{FramesFine, GivenFits, HeapFine, ListFine, MemoryFine, Ready, WaitsFor, held_option, list_of}
use Rattle.frame_sound.specs.Places.{denote, world_of}
use Rattle.frame_sound.proofs.HiddenSlots.{hidden_fit}
use Rattle.frame_sound.proofs.NextOperation.{next_fine}
use Rattle.mission_sound.specs.Bases.{areas_of}
use Rattle.scope_sound.specs.FramedAndPlaced.{Framed, Placed}
use Rattle.scope_sound.proofs.Halves.{reached_framed, reached_placed}
use Rattle.scope_sound.proofs.Safe.{has_facts}
use Rattle.area_laws.proofs.OpenLists.{list_open, stands_open}
use Rattle.area_growth.specs.Growth.{AreSituated, IsSituated}

-- the hidden slots that a fine effect sets are some of the object's
slots_there : (code : Code) (s : State) → HeapFine code.program (world_of s) → (r : ℕ) (values : List Value) →
    HiddenFine code.program (world_of s) r values → (o : Object) → slice_get s.objects r ≡ Some o →
    length values ≤ length o.slots
slots_there code s heap r values h o there =
    let same : h.object ≡ o = some_inj h.object o (sym h.found ∙ there) in
    let none : array_type code.program o.class ≡ None =
    subst (λ (x : Object). array_type code.program x.class ≡ None) same h.is_no_array in
    let l : length values ≤ slots code.program o.class =
    subst (λ (x : Object). length values ≤ slots code.program x.class) same
    (hidden_fit code.program h.object.class (length values) h.is_no_array (λ slot l. (h.are_hidden slot l).1)) in
    let full = (heap r o there).is_full none in
    omega (arith, l, full)

module _ (code : Code) (facts : Facts code) (rows : List ReadingRow) (s : State) (memory : MemoryFine code s)
    (list : List ℕ) (fine : ListFine (world_of s).areas list) where
  situated : (class : ℕ) (sig : Signature) (f : Frame) (e : Effect) →
      EffectFine code (world_of s) list class sig f e → IsSituated s.areas s.objects e
  situated class sig f (Makes h made slots) x = list_open s list fine h.area x.goes.ready.home.now_on_list
  situated class sig f (SetsHidden h r values) x = slots_there code s memory.heap r values x.1
  situated class sig f _ x = tt

  -- what the highest frame waits for is nothing
  ready_now : (class : ℕ) (sig : Signature) (f : Frame) (kind : Option Kind) →
      GivenFits code.program None (held_option (denote (world_of s) list f.this f.area) kind) →
      Ready code (world_of s) list class sig f kind → Ready code (world_of s) list class sig f None
  unfolding held_option
  ready_now class sig f None g r = r
  ready_now class sig f (Some k) g r = absurd g

  is_situated : (f : Frame) (op : Op) (rest : List Op) → f.rest ≡ op ∷ rest →
      WaitsFor code (world_of s) list f None → IsSituated s.areas s.objects (effect_at code rows s f op rest)
  is_situated f op rest e waits =
      situated waits.class waits.sig (record f { rest = rest }) (effect_at code rows s f op rest)
      (next_fine code facts (λ a. area_at s a) (environment rows s) list waits.class waits.sig f op rest fine memory.heap
      memory.statics ready).is
    where
      ready : Ready code (world_of s) list waits.class waits.sig (record f { rest = op ∷ rest }) None
      ready =
          subst (λ (xs : List Op). Ready code (world_of s) list waits.class waits.sig (record f { rest = xs }) None) e
          (ready_now waits.class waits.sig f waits.kind waits.fits waits.ready)

module _ (forest : Forest) (accepted : IsAcceptedProgram forest) (plan : Plan) (s : State)
    (reached : Reached (code_of forest) plan by_priority Arrived s) where
  listed : (choices : List ℕ) × Reached (code_of forest) plan (by_list choices) Arrived s
  listed =
      by_some_list (code_of forest) plan Arrived s
      (fair_listed (code_of forest) plan by_priority priority_is_fair reached)

  placed : Placed (code_of forest) s
  placed = reached_placed forest accepted plan listed.0 Arrived s listed.1

  framed : (job : Job) → Framed (code_of forest) s job
  framed job = reached_framed forest accepted plan listed.0 Arrived s listed.1 job

  next_situated : (job : Job) (activity : Activity) (f : Frame) (below : List Frame) (op : Op) (rest : List Op) →
      activity_of s job ≡ Some activity → activity.frames ≡ f ∷ below → f.rest ≡ op ∷ rest →
      IsSituated s.areas s.objects (effect_at (code_of forest) plan.readings s f op rest)
  next_situated job activity f below op rest e frames r =
      is_situated (code_of forest) (has_facts forest accepted).bodies plan.readings s placed.invariant.memories.memory
      (list_of (areas_of (framed job).base) (f ∷ below)) h.1 f op rest r h.0
    where
      h : FramesFine (code_of forest) (world_of s) (areas_of (framed job).base) (f ∷ below)
      h =
          subst (λ (fs : List Frame). FramesFine (code_of forest) (world_of s) (areas_of (framed job).base) fs) frames
          ((framed job).frames activity e).frames

  pub reached_situated : AreSituated (code_of forest) plan.readings s
  unfolding activity_of
  reached_situated = record {
    jobs = next_situated;
    own = (stands_open s (code_of forest) TheSequencer (framed TheSequencer) s.activity refl).listed;
  }
