-- What a job registers in initialisation is a handler in the mission's memory: of all areas that a job may have, that
-- one alone has the scope in which the objects of a handler class lie.
use Rattle.std.specs.Prelude.{Some, None, ◌==◌, ◌<◌, length, ◌||◌}
use Rattle.std.proofs.Common.{◌≡◌, ℕ, List, [], ◌∷◌, Bool, true, false, refl, sym, ◌∙◌, ap, subst, arith, true≢false, inl, inr}
use Rattle.std.proofs.lemmas.Bool.Decides.{nat_tests}
use Rattle.scj_rules.specs.Words.{is_among}
use Rattle.scj_rules.specs.ScopeRules.{is_handler, is_mission, definer}
use Rattle.accepted_laws.proofs.Tools.{some_inj}
use Rattle.scj_model.specs.declared.operations.SeqOp.{SeqOp}
use Rattle.scj_model.specs.declared.operations.SeqOp.TheVariants.{OpenImmortal, AllocSafelet, ConstructSafelet, InitializeApplication, GetSequencer, GetNextMission, OpenMission, Initialize, CleanUp, Execute, Finished}
use Rattle.scj_model.specs.declared.plans.ReadingRow.{ReadingRow}
use Rattle.scj_model.specs.Code.{Code}
use Rattle.scj_model.specs.State.{MemoryArea, Activity, Job, Object, State, activity_of, is_init, object_at}
use Rattle.scj_model.specs.Registry.{new_row}
use Rattle.scj_model.specs.Effects.{AsksRegistration}
use Rattle.scope_flow.specs.Facts.{Facts}
use Rattle.scope_flow.specs.Signatures.{IsConcrete}
use Rattle.frame_sound.specs.Places.{world_of}
use Rattle.frame_sound.specs.Fine.{FramesFine, IsInstance, ListFine, ObjectFine, list_of}
use Rattle.frame_sound.specs.EffectsFine.{EffectFine, RegistrationFine}
use Rattle.frame_sound.specs.OwnJob.{JobStands}
use Rattle.frame_sound.proofs.OwnSteps.{effect_is_fine, waits}
use Rattle.mission_sound.specs.Bases.{Base, areas_of, in_mission, BaseBefore, BaseSuits, IsInMission}
use Rattle.mission_sound.specs.Invariant.{Invariant, RowFine, phase_of}
use Rattle.mission_sound.specs.Registering.{NextRegistersFine}
use Rattle.mission_sound.specs.SequencerFacts.{HandlerFact, SequencerFacts}
use Rattle.mission_sound.proofs.MissionClosed.{among_immortal}
use Rattle.scope_sound.proofs.AllStanding.{job_stands}

-- an object of a class is no array, and so of a concrete class
pub is_concrete_instance : (code : Code) → Facts code → (class : ℕ) → class < length code.program.classes →
    IsInstance code.program class → IsConcrete code.program class
is_concrete_instance code facts class is_class (inl concrete) = concrete
is_concrete_instance code facts class is_class (inr e) =
    absurd (let none = facts.classes class is_class in let some = e.1 in cc (none, some))

-- in initialisation the memory of the mission is open
in_initialisation : (operation : SeqOp) (base : Base) → is_init (phase_of operation) ≡ true →
    BaseBefore operation base → IsInMission base
unfolding phase_of is_init
in_initialisation (Initialize r) base init h = h
in_initialisation OpenImmortal base init h = absurd (true≢false (sym init))
in_initialisation AllocSafelet base init h = absurd (true≢false (sym init))
in_initialisation (ConstructSafelet r) base init h = absurd (true≢false (sym init))
in_initialisation (InitializeApplication r) base init h = absurd (true≢false (sym init))
in_initialisation (GetSequencer r) base init h = absurd (true≢false (sym init))
in_initialisation (GetNextMission r) base init h = absurd (true≢false (sym init))
in_initialisation (OpenMission r) base init h = absurd (true≢false (sym init))
in_initialisation (CleanUp r) base init h = absurd (true≢false (sym init))
in_initialisation Execute base init h = absurd (true≢false (sym init))
in_initialisation Finished base init h = absurd (true≢false (sym init))

module _ (code : Code) (facts : Facts code) (promised : SequencerFacts code) (s : State) (i : Invariant code s) where
  -- an object of a handler class, in an area of a job's list
  module _ (list : List ℕ) (fine : ListFine (world_of s).areas list) (r : ℕ) (o : Object)
      (there : object_at s r ≡ Some o) (on : is_among o.area list ≡ true)
      (handler : is_handler code.program o.class ≡ true) where
    placed : ObjectFine code.program (world_of s) o
    placed = i.memories.memory.heap r o there

    concrete : IsConcrete code.program o.class
    concrete =
        is_concrete_instance code facts o.class (promised.handlers_are_classes o.class handler) placed.is_instance

    fact : HandlerFact code.program o.class
    fact = promised.handlers o.class concrete handler

    is_missions : is_mission code.program (definer placed.area.scope) ≡ true
    is_missions =
        ap (λ n. is_mission code.program (definer n)) (placed.is_placed fact.parent fact.lies_in_parent)
        ∙ fact.parent_is_missions

    on_base : is_among o.area (areas_of i.base) ≡ true
    on_base =
        elim (i.memories.owned o.area placed.area placed.is_area (fine.are_open o.area placed.area on placed.is_area))
        as
        (λ z. is_among o.area (areas_of i.base) ≡ true) [
          | inl h ↦ h
          | inr p ↦ absurd (true≢false (sym is_missions ∙ p.no_mission))
        ]

    -- immortal memory is no mission's
    not_immortal : o.area ≡ 0 → ⊥
    not_immortal e =
        let same : placed.area ≡ fine.immortal.area =
        some_inj placed.area fine.immortal.area
        (sym placed.is_area ∙ (ap (world_of s).areas e ∙ fine.immortal.is_there)) in
        true≢false (sym is_missions
        ∙ (subst (λ n. is_mission code.program (definer placed.area.scope) ≡ is_mission code.program (definer n))
        fine.immortal.is_immortal (ap (λ (x : MemoryArea). is_mission code.program (definer x.scope)) same)
        ∙ promised.root_is_no_missions))

    in_memory : IsInMission i.base → i.base ≡ in_mission o.area
    in_memory (memory, is) =
        go (o.area == memory) refl (subst (λ b. is_among o.area (areas_of b) ≡ true) is on_base)
      where
        go : (t : Bool) → (o.area == memory) ≡ t → (t || is_among o.area (0 ∷ [])) ≡ true → i.base ≡ in_mission o.area
        go true e h = let same : memory ≡ o.area = grind (arith, nat_tests) in is ∙ ap in_mission same
        go false e h = absurd (not_immortal (among_immortal o.area h))

    pub handler_row_fine : IsInMission i.base →
        RowFine code.program (world_of s) i.base (new_row code.program r o)
    handler_row_fine inside =
        record {
          object = o;
          found = there;
          is_class = refl;
          concrete = concrete;
          is_a_handler = handler;
          in_memory = in_memory inside;
        }

  pub registers_fine : s.outcome ≡ None → (rows : List ReadingRow) (job : Job) (activity : Activity) →
      activity_of s job ≡ Some activity → NextRegistersFine code i.base rows s activity
  registers_fine followed rows job activity is f below op rest has at g r o asks there init =
      handler_row_fine list fine r o there
      (subst (λ (q : Object). is_among q.area list ≡ true) same x.there.on_list)
      (subst (λ (q : Object). is_handler code.program q.class ≡ true) same x.is_handler)
      (in_initialisation s.operation i.base (sym (ap is_init i.sequencer.phase) ∙ init)
      (subst (λ v. BaseSuits s.operation v i.base) followed i.sequencer.base_suits))
    where
      stands : JobStands code s job (areas_of i.base)
      stands = job_stands code s i.base i.memories job activity is

      list : List ℕ
      list = list_of (areas_of i.base) (f ∷ below)

      frames : FramesFine code (world_of s) (areas_of i.base) (f ∷ below)
      frames =
          subst (FramesFine code (world_of s) (areas_of i.base)) has (i.memories.jobs job activity is).frames

      fine : ListFine (world_of s).areas list
      fine = frames.1

      effect : EffectFine code (world_of s) list
          (waits code facts rows s job (areas_of i.base) stands f below has).class
          (waits code facts rows s job (areas_of i.base) stands f below has).sig (record f { rest = rest })
          (AsksRegistration g r)
      effect =
          subst
          (EffectFine code (world_of s) list (waits code facts rows s job (areas_of i.base) stands f below has).class
          (waits code facts rows s job (areas_of i.base) stands f below has).sig (record f { rest = rest }))
          asks (effect_is_fine code facts rows s job (areas_of i.base) stands f below has op rest at)

      x : RegistrationFine code.program (world_of s) list r
      x = effect.1

      same : x.there.object ≡ o
      same = some_inj x.there.object o (sym x.there.found ∙ there)
