-- What an effect names lies in an open area.
use Rattle.std.specs.Prelude.{Option, Some, None}
use Rattle.std.proofs.Common.{◌≡◌, ◌∙◌, ℕ, true, List, ◌∷◌, ap, subst}
use Rattle.scj_rules.specs.Words.{holds}
use Rattle.scj_tree.specs.Forest.{Forest}
use Rattle.accepted_laws.specs.Kinds.{Kind}
use Rattle.accepted_laws.specs.Programs.{IsAcceptedProgram}
use Rattle.scj_model.specs.declared.operations.Op.{Op}
use Rattle.scj_model.specs.declared.plans.ReadingRow.{ReadingRow}
use Rattle.scj_model.specs.Code.{Code, code_of}
use Rattle.scj_model.specs.Choice.{by_list, by_priority}
use Rattle.scj_model.specs.Effects.{AsksRegistration, Calls, Effect, Makes}
use Rattle.scj_model.specs.Plan.{Plan}
use Rattle.scj_model.specs.Reached.{Arrived, Reached}
use Rattle.scj_model.specs.Run.{effect_at, environment}
use Rattle.scj_model.specs.Safety.{is_of_open_area}
use Rattle.scj_model.specs.State.{Activity, Frame, Job, Object, State, activity_of, area_at, is_open_area}
use Rattle.scj_model.proofs.Following.{by_some_list, fair_listed, priority_is_fair}
use Rattle.scope_flow.specs.Facts.{Facts}
use Rattle.scope_flow.specs.Signatures.{Signature}
use Rattle.frame_sound.specs.EffectsFine.{EffectFine}
use Rattle.frame_sound.specs.Fine.{FramesFine, GivenFits, IsOnList, ListFine, MemoryFine, Ready, WaitsFor, held_option, list_of}
use Rattle.frame_sound.specs.Places.{denote, world_of}
use Rattle.frame_sound.proofs.NextOperation.{next_fine}
use Rattle.mission_sound.specs.Bases.{areas_of}
use Rattle.scope_sound.specs.FramedAndPlaced.{Framed, Placed}
use Rattle.scope_sound.proofs.Halves.{reached_framed, reached_placed}
use Rattle.scope_sound.proofs.Safe.{has_facts}
use Rattle.area_laws.specs.OpenAreas.{NamesLiveObjects}
use Rattle.area_laws.proofs.OpenLists.{list_open}

module _ (code : Code) (facts : Facts code) (rows : List ReadingRow) (s : State) (memory : MemoryFine code s)
    (list : List ℕ) (fine : ListFine (world_of s).areas list) where
  on_list_live : (r : ℕ) → IsOnList (world_of s) list r → is_of_open_area s r ≡ true
  on_list_live r o =
      ap (λ (x : Option Object). holds x (λ y. is_open_area s y.area)) o.found
      ∙ list_open s list fine o.object.area o.on_list

  named : (class : ℕ) (sig : Signature) (f : Frame) (e : Effect) → EffectFine code (world_of s) list class sig f e →
      NamesLiveObjects s e
  named class sig f (Calls h g) x = λ r t. on_list_live r (x.begins.home.on_list r t)
  named class sig f (Makes h made slots) x = list_open s list fine h.area x.goes.ready.home.now_on_list
  named class sig f (AsksRegistration h r) x = on_list_live r x.1.there
  named class sig f _ x = tt

  -- what the highest frame waits for is nothing
  ready_now : (class : ℕ) (sig : Signature) (f : Frame) (kind : Option Kind) →
      GivenFits code.program None (held_option (denote (world_of s) list f.this f.area) kind) →
      Ready code (world_of s) list class sig f kind → Ready code (world_of s) list class sig f None
  unfolding held_option
  ready_now class sig f None g r = r
  ready_now class sig f (Some k) g r = absurd g

  pub names_live : (f : Frame) (op : Op) (rest : List Op) → f.rest ≡ op ∷ rest →
      WaitsFor code (world_of s) list f None → NamesLiveObjects s (effect_at code rows s f op rest)
  names_live f op rest e waits =
      named waits.class waits.sig (record f { rest = rest }) (effect_at code rows s f op rest)
      (next_fine code facts (λ a. area_at s a) (environment rows s) list waits.class waits.sig f op rest fine memory.heap
      memory.statics ready).is
    where
      ready : Ready code (world_of s) list waits.class waits.sig (record f { rest = op ∷ rest }) None
      ready =
          subst (λ (xs : List Op). Ready code (world_of s) list waits.class waits.sig (record f { rest = xs }) None) e
          (ready_now waits.class waits.sig f waits.kind waits.fits waits.ready)

pub reached_names : (forest : Forest) → IsAcceptedProgram forest → (plan : Plan) (s : State) →
    Reached (code_of forest) plan by_priority Arrived s → (job : Job) (activity : Activity) (f : Frame) (op : Op)
    (rest : List Op) (below : List Frame) → activity_of s job ≡ Some activity → activity.frames ≡ f ∷ below →
    f.rest ≡ op ∷ rest → NamesLiveObjects s (effect_at (code_of forest) plan.readings s f op rest)
reached_names forest accepted plan s reached job activity f op rest below e frames r =
    names_live (code_of forest) (has_facts forest accepted).bodies plan.readings s placed.invariant.memories.memory
    (list_of (areas_of framed.base) (f ∷ below)) h.1 f op rest r h.0
  where
    listed : (choices : List ℕ) × Reached (code_of forest) plan (by_list choices) Arrived s
    listed =
        by_some_list (code_of forest) plan Arrived s
        (fair_listed (code_of forest) plan by_priority priority_is_fair reached)

    framed : Framed (code_of forest) s job
    framed = reached_framed forest accepted plan listed.0 Arrived s listed.1 job

    placed : Placed (code_of forest) s
    placed = reached_placed forest accepted plan listed.0 Arrived s listed.1

    h : FramesFine (code_of forest) (world_of s) (areas_of framed.base) (f ∷ below)
    h =
        subst (λ (fs : List Frame). FramesFine (code_of forest) (world_of s) (areas_of framed.base) fs) frames
        (framed.frames activity e).frames
