-- What is known of the sequencer stays known after an operation of a job that leaves it before the operation that it
-- stood before.
use Rattle.std.specs.Prelude.{Option, Some, None, ◌==◌, ◌||◌}
use Rattle.std.proofs.Common.{◌≡◌, ℕ, List, [], ◌∷◌, true, false, refl, sym, ◌∙◌, ap, subst, arith, true≢false}
use Rattle.std.proofs.lemmas.Bool.Decides.{nat_tests}
use Rattle.scj_builtins.specs.Framework.{safelet as safelet_interface, mission as mission_class, mission_sequencer as sequencer_class}
use Rattle.scj_rules.specs.declared.views.Body.{Body}
use Rattle.scj_rules.specs.Words.{is_among, ◌>>=◌}
use Rattle.scj_rules.specs.Contexts.{Declarations}
use Rattle.scj_rules.specs.ScopeRules.{defined_by_chain}
use Rattle.scj_rules.specs.Bodies.{body_named, constructor_body}
use Rattle.scj_model.specs.declared.operations.SeqOp.{SeqOp}
use Rattle.scj_model.specs.declared.operations.SeqOp.TheVariants.{OpenImmortal, AllocSafelet, ConstructSafelet, InitializeApplication, GetSequencer, GetNextMission, OpenMission, Initialize, CleanUp, Execute, Finished}
use Rattle.scj_model.specs.Code.{Code}
use Rattle.scj_model.specs.State.{Object, Frame, Job, State, is_exec, is_over}
use Rattle.frame_sound.specs.Places.{World, world_of}
use Rattle.frame_sound.specs.Fine.{ListFine}
use Rattle.frame_sound.specs.EffectsFine.{IsSame}
use Rattle.frame_sound.specs.OwnJob.{KeepsOperation, lowest as lowest_of}
use Rattle.frame_sound.specs.Others.{AreNotOf, KeepsOthers}
use Rattle.frame_sound.proofs.Keeps.{ObjectsAreKept}
use Rattle.frame_sound.proofs.OtherJobs.{areas_stay_on, list_still, objects_kept}
use Rattle.mission_sound.specs.Bases.{Base, areas_of, unopened, in_immortal, in_mission, BaseAfter, BaseBefore, BaseSuits, BaseFine, IsMissionMemory}
use Rattle.mission_sound.specs.Invariant.{AreImmortalOf, IsCalledBy, OperandThere, SequencerFine, body_called_by, lowest, method_on, phase_of}
use Rattle.mission_sound.proofs.Carried.{immortals_kept}

-- ---- the lowest frame, and the body that the sequencer called

pub lowest_is : (f : Frame) (below : List Frame) → lowest (f ∷ below) ≡ Some (lowest_of f below)
unfolding lowest lowest_of
lowest_is f [] = refl
lowest_is f (g ∷ below) = lowest_is g below

pub called_by_same : (p : Declarations) (w : World) (operation : SeqOp) (f g : Frame) → IsSame f g →
    IsCalledBy p w operation f → IsCalledBy p w operation g
called_by_same p w operation f g same c =
    record { runs = c.runs ∙ ap (λ b. Some b) (sym same.body); opens_none = same.opened ∙ c.opens_none }

found_kept : (w w2 : World) → ObjectsAreKept w w2 → (r : ℕ) (next : ℕ → Option Body) (body : Body) →
    w.objects r >>= (λ o. next o.class) ≡ Some body → w2.objects r >>= (λ o. next o.class) ≡ Some body
found_kept w w2 kept r next body e = go (w.objects r) refl e
  where
    go : (o : Option Object) → w.objects r ≡ o → o >>= (λ o. next o.class) ≡ Some body →
        w2.objects r >>= (λ o. next o.class) ≡ Some body
    go None there e = absurd (cc (e))
    go (Some o) there e =
        let k = kept r o there in
        ap (λ (q : Option Object). q >>= (λ o. next o.class)) k.found ∙ (ap next k.class ∙ e)

body_kept : (p : Declarations) (w w2 : World) → ObjectsAreKept w w2 → (operation : SeqOp) (body : Body) →
    body_called_by p w operation ≡ Some body → body_called_by p w2 operation ≡ Some body
unfolding body_called_by method_on
body_kept p w w2 kept (ConstructSafelet r) body e = found_kept w w2 kept r (λ c. constructor_body p c) body e
body_kept p w w2 kept (InitializeApplication r) body e = found_kept w w2 kept r (λ c. body_named p c _) body e
body_kept p w w2 kept (GetSequencer r) body e = found_kept w w2 kept r (λ c. body_named p c _) body e
body_kept p w w2 kept (GetNextMission r) body e = found_kept w w2 kept r (λ c. body_named p c _) body e
body_kept p w w2 kept (Initialize r) body e = found_kept w w2 kept r (λ c. body_named p c _) body e
body_kept p w w2 kept (CleanUp r) body e = found_kept w w2 kept r (λ c. body_named p c _) body e
body_kept p w w2 kept OpenImmortal body e = absurd (cc (e))
body_kept p w w2 kept AllocSafelet body e = absurd (cc (e))
body_kept p w w2 kept (OpenMission r) body e = absurd (cc (e))
body_kept p w w2 kept Execute body e = absurd (cc (e))
body_kept p w w2 kept Finished body e = absurd (cc (e))

called_kept : (p : Declarations) (w w2 : World) → ObjectsAreKept w w2 → (operation : SeqOp) (f : Frame) →
    IsCalledBy p w operation f → IsCalledBy p w2 operation f
called_kept p w w2 kept operation f c =
    record { runs = body_kept p w w2 kept operation f.body c.runs; opens_none = c.opens_none }

-- an operation that calls a body opens no area
pub calls_so_opens_none : (p : Declarations) (w : World) (operation : SeqOp) (body : Body) (base : Base) →
    body_called_by p w operation ≡ Some body → BaseBefore operation base → BaseAfter operation base
unfolding body_called_by
calls_so_opens_none p w (ConstructSafelet r) body base e h = h
calls_so_opens_none p w (InitializeApplication r) body base e h = h
calls_so_opens_none p w (GetSequencer r) body base e h = h
calls_so_opens_none p w (GetNextMission r) body base e h = h
calls_so_opens_none p w (Initialize r) body base e h = h
calls_so_opens_none p w (CleanUp r) body base e h = h
calls_so_opens_none p w OpenImmortal body base e h = absurd (cc (e))
calls_so_opens_none p w AllocSafelet body base e h = absurd (cc (e))
calls_so_opens_none p w (OpenMission r) body base e h = absurd (cc (e))
calls_so_opens_none p w Execute body base e h = absurd (cc (e))
calls_so_opens_none p w Finished body base e h = absurd (cc (e))

-- ---- operands

operand_after : (s t : State) → t.safelet ≡ s.safelet → t.mission_sequencer ≡ s.mission_sequencer →
    t.mission ≡ s.mission → (operation : SeqOp) → OperandThere s operation → OperandThere t operation
operand_after s t e f g OpenImmortal h = tt
operand_after s t e f g AllocSafelet h = tt
operand_after s t e f g (ConstructSafelet r) h = e ∙ h
operand_after s t e f g (InitializeApplication r) h = e ∙ h
operand_after s t e f g (GetSequencer r) h = e ∙ h
operand_after s t e f g (GetNextMission r) h = f ∙ h
operand_after s t e f g (OpenMission r) h = (g ∙ h.0, (h.1.0, f ∙ h.1.1))
operand_after s t e f g (Initialize r) h = (g ∙ h.0, (h.1.0, f ∙ h.1.1))
operand_after s t e f g (CleanUp r) h = (g ∙ h.0, (h.1.0, f ∙ h.1.1))
operand_after s t e f g Execute h = ((h.0.0, g ∙ h.0.1), (h.1.0, f ∙ h.1.1))
operand_after s t e f g Finished h = tt

-- ---- all

-- the sequencer stands before its operation; what it has besides suits that
pub record StaysBefore (code : Code) (s : State) (base : Base) (after : State) : Type 0 where
  pub operation : KeepsOperation s after
  pub suits : BaseSuits s.operation after.outcome base
  pub called : (f : Frame) → is_over s.phase ≡ false → lowest after.activity.frames ≡ Some f →
      IsCalledBy code.program (world_of s) s.operation f
  pub frameless : is_exec s.phase ≡ true → after.activity.frames ≡ []

module _ (code : Code) (s : State) (job : Job) (frames : List Frame) (after : State)
    (keeps : KeepsOthers s job frames after) where
  on_first : (memory : ℕ) → is_among memory (memory ∷ (0 ∷ [])) ≡ true
  on_first memory =
      let t : (memory == memory) ≡ true = grind (arith, nat_tests) in ap (λ b. b || is_among memory (0 ∷ [])) t

  on_second : (memory a : ℕ) → is_among a (0 ∷ []) ≡ true → is_among a (memory ∷ (0 ∷ [])) ≡ true
  on_second memory a on =
      elim (a == memory) as (λ t. (t || is_among a (0 ∷ [])) ≡ true) [ true ↦ refl | false ↦ on ]

  memory_kept : (memory : ℕ) → AreNotOf frames (memory ∷ (0 ∷ [])) →
      IsMissionMemory code.program (world_of s) s.mission memory →
      IsMissionMemory code.program (world_of after) after.mission memory
  memory_kept memory off m =
      let k = keeps.objects m.r m.object m.found in
      record {
        area = m.area;
        is_there =
            areas_stay_on s job frames after keeps (memory ∷ (0 ∷ [])) off memory m.area (on_first memory) m.is_there;
        inside = m.inside;
        r = m.r;
        is = keeps.mission.mission ∙ m.is;
        object = k.object;
        found = k.found;
        defines = ap (defined_by_chain code.program) k.class ∙ m.defines;
      }

  base_kept : (base : Base) → AreNotOf frames (areas_of base) → ListFine (world_of s).areas (areas_of base) →
      ListFine (world_of after).areas (areas_of base) → BaseFine code s base → BaseFine code after base
  base_kept unopened off fine more h = absurd (true≢false (sym fine.has_immortal))
  base_kept in_immortal off fine more h = more
  base_kept (in_mission memory) off fine more h = (
    list_still s job frames after keeps (0 ∷ []) (λ a on. off a (on_second memory a on)) h.0,
    more,
    memory_kept memory off h.2,
  )

  pub sequencer_stands : (base : Base) → AreNotOf frames (areas_of base) →
      ListFine (world_of s).areas (areas_of base) → ListFine (world_of after).areas (areas_of base) →
      SequencerFine code s base → StaysBefore code s base after → SequencerFine code after base
  sequencer_stands base off fine more q x =
      record {
        phase = x.operation.phase ∙ (q.phase ∙ ap phase_of (sym x.operation.operation));
        base_suits = subst (λ o. BaseSuits o after.outcome base) (sym x.operation.operation) x.suits;
        base_fine = base_kept base off fine more q.base_fine;
        there = subst (OperandThere after) (sym x.operation.operation)
            (operand_after s after keeps.mission.safelet keeps.mission.mission_sequencer keeps.mission.mission
            s.operation q.there);
        safelet = immortal_still safelet_interface s.safelet after.safelet keeps.mission.safelet q.safelet;
        mission_sequencer =
            immortal_still sequencer_class s.mission_sequencer after.mission_sequencer keeps.mission.mission_sequencer
            q.mission_sequencer;
        mission = immortal_still mission_class s.mission after.mission keeps.mission.mission q.mission;
        called = λ f over low. subst (λ o. IsCalledBy code.program (world_of after) o f) (sym x.operation.operation)
            (called_kept code.program (world_of s) (world_of after) kept s.operation f
            (x.called f (ap is_over (sym x.operation.phase) ∙ over) low));
        frameless = λ e. x.frameless (ap is_exec (sym x.operation.phase) ∙ e);
      }
    where
      kept : ObjectsAreKept (world_of s) (world_of after)
      kept = objects_kept s job frames after keeps

      immortal_still : (above : ℕ) (o q : Option ℕ) → q ≡ o → AreImmortalOf code.program (world_of s) above o →
          AreImmortalOf code.program (world_of after) above q
      immortal_still above o q e h r is =
          immortals_kept code.program (world_of s) (world_of after) kept above o h r (sym e ∙ is)
