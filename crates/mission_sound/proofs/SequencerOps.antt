-- Each operation of the sequencer's own has a result, and keeps the invariant.
use Rattle.std.specs.Prelude.{Option, Some, ◌||◌, ◌==◌, codes}
use Rattle.std.proofs.Common.{◌≡◌, ℕ, List, [], ◌∷◌, true, false, refl, sym, ◌∙◌, ap, subst, arith, true≢false, ◌⊎◌, inl, inr}
use Rattle.std.proofs.lemmas.Bool.Decides.{nat_tests}
use Rattle.scj_builtins.specs.Framework.{safelet as safelet_interface, mission as mission_class, mission_sequencer as sequencer_class}
use Rattle.scj_rules.specs.declared.typing.Scope.{Scope}
use Rattle.scj_rules.specs.declared.typing.Scope.TheVariants.{Any, This, Caller, In, Unknown, Lost}
use Rattle.scj_rules.specs.declared.views.Body.{Body}
use Rattle.scj_rules.specs.Words.{is_among, ◌>>=◌}
use Rattle.scj_rules.specs.Classes.{is_sub}
use Rattle.scj_rules.specs.Contexts.{Declarations}
use Rattle.scj_rules.specs.ScopeRules.{immortal_scope, defined_by_chain}
use Rattle.scj_rules.specs.StaticScopes.{this_in}
use Rattle.scj_rules.specs.Bodies.{body_named, constructor_body}
use Rattle.accepted_laws.specs.Kinds.{Kind, AllFit}
use Rattle.accepted_laws.proofs.Tools.{some_inj}
use Rattle.scj_model.specs.declared.operations.SeqOp.{SeqOp}
use Rattle.scj_model.specs.declared.operations.SeqOp.TheVariants.{OpenImmortal, AllocSafelet, ConstructSafelet, InitializeApplication, GetSequencer, GetNextMission, OpenMission, Initialize, CleanUp, Execute, Finished}
use Rattle.scj_model.specs.Code.{Code}
use Rattle.scj_model.specs.State.{MemoryArea, Object, State, object_at, is_exec, is_over}
use Rattle.scj_model.specs.Sequencer.{sequencer_op, body_called}
use Rattle.scope_flow.specs.Signatures.{IsConcrete}
use Rattle.scope_flow.specs.Slots.{IsOfType}
use Rattle.scope_flow.specs.Needs.{CallsConstructor}
use Rattle.scope_flow.specs.Facts.{Facts}
use Rattle.frame_sound.specs.Places.{World, in_one, the_area, area_named, denote, world_of}
use Rattle.frame_sound.specs.Fine.{ListFine}
use Rattle.frame_sound.proofs.Begins.{home_denotes}
use Rattle.mission_sound.specs.Bases.{areas_of, in_immortal, in_mission, BaseBefore, BaseFine, IsInMission, IsMissionMemory}
use Rattle.mission_sound.specs.Invariant.{IsImmortalOf, OperandThere, method_on, body_called_by, phase_of, Operates, Settled}
use Rattle.mission_sound.specs.SequencerFacts.{IsCalledOn, RunsInImmortal, RunsInNamed, HasImmortalMethod, HasMethodIn, MissionFact, SequencerFacts}
use Rattle.mission_sound.proofs.BodiesCalled.{body_is_called}
use Rattle.mission_sound.proofs.Free.{Free, before, quiet}
use Rattle.mission_sound.proofs.ImmortalOpened.{immortal_opens}
use Rattle.mission_sound.proofs.MissionOpened.{mission_opens}
use Rattle.mission_sound.proofs.SafeletMade.{immortal_named, safelet_is_made}

-- ---- where bodies run

caller_denoted : (w : World) (list : List ℕ) (this : Option ℕ) (now : ℕ) → denote w list this now Caller ≡ the_area now
unfolding denote
caller_denoted w list this now = refl

module _ (w : World) (r : ℕ) (object : Object) (found : w.objects r ≡ Some object) (lies : object.area ≡ 0) where
  -- in immortal memory each of these scopes is immortal memory
  immortal_denoted : ListFine w.areas (0 ∷ []) → (scope : Scope) → RunsInImmortal scope →
      denote w (0 ∷ []) (Some r) 0 scope ≡ the_area 0
  unfolding denote
  immortal_denoted fine This h =
      ap (λ o. in_one o) (ap (λ (o : Option Object). o >>= (λ o. Some o.area)) found ∙ ap (λ a. Some a) lies)
  immortal_denoted fine Caller h = refl
  immortal_denoted fine (In n) h =
      ap (λ o. in_one o) (ap (λ n. area_named w.areas n (0 ∷ [])) h ∙ immortal_named w.areas fine)
  immortal_denoted fine Any h = absurd h
  immortal_denoted fine Unknown h = absurd h
  immortal_denoted fine Lost h = absurd h

  -- and in a mission's memory each of these that memory
  memory_denoted : (memory : ℕ) (area : MemoryArea) → w.areas memory ≡ Some area →
      ListFine w.areas (memory ∷ (0 ∷ [])) → (scope : Scope) → RunsInNamed area.scope scope →
      denote w (memory ∷ (0 ∷ [])) (Some r) memory scope ≡ the_area memory
  unfolding denote
  memory_denoted memory area there fine scope (inl e) = ap (denote w (memory ∷ (0 ∷ [])) (Some r) memory) e
  memory_denoted memory area there fine scope (inr e) =
      let t : (memory == memory) ≡ true = grind (arith, nat_tests) in
      let x = fine.found memory (ap (λ b. b || is_among memory (0 ∷ [])) t) in
      let same : x.0 ≡ area = some_inj x.0 area (sym x.1 ∙ there) in
      ap (denote w (memory ∷ (0 ∷ [])) (Some r) memory) e
      ∙ ap (λ o. in_one o)
      (subst (λ (y : MemoryArea). area_named w.areas y.scope (memory ∷ (0 ∷ [])) ≡ Some memory) same x.2)

-- a constructor without arguments is a body that is called on the object
no_arguments : (p : Declarations) (home now : Scope) (ks : List Kind) → AllFit p home now [] ks → ks ≡ []
no_arguments p home now [] h = refl
no_arguments p home now (k ∷ ks) h = absurd h

under_itself : (code : Code) → Facts code → (class : ℕ) → IsConcrete code.program class →
    is_sub code.program.classes class class ≡ true
unfolding IsOfType
under_itself code facts class concrete = (facts.concrete class concrete).1

abbrev constructor_called : (code : Code) → Facts code → (class : ℕ) → IsConcrete code.program class → (scope : Scope) →
    CallsConstructor code.program class scope [] →
    IsCalledOn code.program class (constructor_body code.program class)
constructor_called code facts class concrete scope k =
    record {
      body = k.body;
      is = k.is;
      on = class;
      above = under_itself code facts class concrete;
      sig = k.sig;
      runs = k.runs;
      takes = no_arguments code.program scope scope k.sig.takes k.fit;
    }

-- ---- the operations that call

module _ (code : Code) (basics : Facts code) (facts : SequencerFacts code) (s : State) (f : Free code s) where
  on_zero : (a : ℕ) → a ≡ 0 → is_among a (0 ∷ []) ≡ true
  on_zero a e = subst (λ a. is_among a (0 ∷ []) ≡ true) (sym e) refl

  -- in immortal memory
  module _ (base : f.invariant.base ≡ in_immortal) (above r : ℕ) (x : IsImmortalOf code.program (world_of s) above r)
    where
      list_fine : ListFine (world_of s).areas (0 ∷ [])
      list_fine = subst (BaseFine code s) base f.invariant.sequencer.base_fine

      calls_there : (body : Option Body) (called : IsCalledOn code.program x.object.class body) →
          denote (world_of s) (0 ∷ []) (Some r) 0 called.sig.runs_in ≡ the_area 0 →
          body_called_by code.program (world_of s) s.operation ≡ body → Operates code (body >>= body_called code s r)
      calls_there body called runs_there by =
          body_is_called code basics s f r x.object x.found x.concrete 0 [] (ap areas_of base) list_fine
          (on_zero x.object.area x.lies) body called runs_there by

      calls_method : (name : List ℕ) → HasImmortalMethod code.program x.object.class name →
          body_called_by code.program (world_of s) s.operation ≡ method_on code.program (world_of s) r name →
          Operates code (object_at s r >>= (λ o. body_named code.program o.class name >>= body_called code s r))
      unfolding method_on
      calls_method name m by =
          subst
          (λ (o : Option Object). Operates code
          (o >>= (λ o. body_named code.program o.class name >>= body_called code s r)))
          (sym x.found)
          (calls_there (body_named code.program x.object.class name) m.called
          (immortal_denoted (world_of s) r x.object x.found x.lies list_fine m.called.sig.runs_in m.runs)
          (by ∙ ap (λ (o : Option Object). o >>= (λ o. body_named code.program o.class name)) x.found))

      calls_constructor : CallsConstructor code.program x.object.class (In immortal_scope) [] →
          body_called_by code.program (world_of s) s.operation ≡ (world_of s).objects r
          >>= (λ o. constructor_body code.program o.class) →
          Operates code (object_at s r >>= (λ o. constructor_body code.program o.class >>= body_called code s r))
      calls_constructor k by =
          subst
          (λ (o : Option Object). Operates code
          (o >>= (λ o. constructor_body code.program o.class >>= body_called code s r)))
          (sym x.found)
          (calls_there (constructor_body code.program x.object.class)
          (constructor_called code basics x.object.class x.concrete (In immortal_scope) k) (runs k.runs_in_home)
          (by ∙ ap (λ (o : Option Object). o >>= (λ o. constructor_body code.program o.class)) x.found))
        where
          home : (scope : Scope) → this_in code.program x.object.class ≡ Some scope →
              denote (world_of s) (0 ∷ []) (Some r) 0 scope ≡ the_area x.object.area
          home =
              home_denotes code basics (world_of s) (0 ∷ []) list_fine (quiet code s f).memory.heap 0 refl r x.object
              x.found
              (on_zero x.object.area x.lies) x.object.class (basics.concrete x.object.class x.concrete)

          runs : (k.sig.runs_in ≡ Caller) ⊎ (this_in code.program x.object.class ≡ Some k.sig.runs_in) →
              denote (world_of s) (0 ∷ []) (Some r) 0 k.sig.runs_in ≡ the_area 0
          runs (inl e) =
              ap (denote (world_of s) (0 ∷ []) (Some r) 0) e ∙ caller_denoted (world_of s) (0 ∷ []) (Some r) 0
          runs (inr e) = home k.sig.runs_in e ∙ ap the_area x.lies

  -- in the mission's memory
  module _ (base : IsInMission f.invariant.base) (r : ℕ) (is : s.mission ≡ Some r) where
    x : IsImmortalOf code.program (world_of s) mission_class r
    x = f.invariant.sequencer.mission r is

    fact : MissionFact code.program x.object.class
    fact = facts.missions x.object.class x.concrete x.is_under

    base_fine : BaseFine code s (in_mission base.0)
    base_fine = subst (BaseFine code s) base.1 f.invariant.sequencer.base_fine

    high : ListFine (world_of s).areas (base.0 ∷ (0 ∷ []))
    high = base_fine.1

    memory : IsMissionMemory code.program (world_of s) s.mission base.0
    memory = base_fine.2

    -- the memory has the scope that the mission's class defines
    named : fact.scope ≡ memory.area.scope
    named =
        let same_r : r ≡ memory.r = some_inj r memory.r (sym is ∙ memory.is) in
        let same : x.object ≡ memory.object =
        some_inj x.object memory.object (sym x.found ∙ (ap (λ n. (world_of s).objects n) same_r ∙ memory.found)) in
        some_inj fact.scope memory.area.scope
        (sym fact.defines ∙ (ap (λ (o : Object). defined_by_chain code.program o.class) same ∙ memory.defines))

    lies : is_among x.object.area (base.0 ∷ (0 ∷ [])) ≡ true
    lies =
        elim (x.object.area == base.0) as (λ t. (t || is_among x.object.area (0 ∷ [])) ≡ true) [
          | true ↦ refl
          | false ↦ on_zero x.object.area x.lies
        ]

    calls_in_memory : (name : List ℕ) → HasMethodIn code.program fact.scope x.object.class name →
        body_called_by code.program (world_of s) s.operation ≡ method_on code.program (world_of s) r name →
        Operates code (object_at s r >>= (λ o. body_named code.program o.class name >>= body_called code s r))
    unfolding method_on
    calls_in_memory name m by =
        subst
        (λ (o : Option Object). Operates code
        (o >>= (λ o. body_named code.program o.class name >>= body_called code s r)))
        (sym x.found)
        (body_is_called code basics s f r x.object x.found x.concrete base.0 (0 ∷ []) (ap areas_of base.1) high lies
        (body_named code.program x.object.class name) m.called
        (memory_denoted (world_of s) r x.object x.found x.lies base.0 memory.area memory.is_there high
        m.called.sig.runs_in
        (subst (λ n. RunsInNamed n m.called.sig.runs_in) named m.runs))
        (by ∙ ap (λ (o : Option Object). o >>= (λ o. body_named code.program o.class name)) x.found))

  -- ---- all

  operates : (operation : SeqOp) → s.operation ≡ operation → is_exec (phase_of operation) ≡ false →
      is_over (phase_of operation) ≡ false → Operates code (sequencer_op code s operation)
  unfolding sequencer_op body_called_by phase_of is_exec is_over
  operates OpenImmortal e x o = immortal_opens code facts s f e
  operates AllocSafelet e x o = safelet_is_made code basics facts s f e
  operates (ConstructSafelet r) e x o =
      let safelet = f.invariant.sequencer.safelet r (subst (OperandThere s) e f.invariant.sequencer.there) in
      calls_constructor (subst (λ o. BaseBefore o f.invariant.base) e (before code s f)) safelet_interface r safelet
      (facts.safelets safelet.object.class safelet.concrete safelet.is_under).constructor
      (ap (body_called_by code.program (world_of s)) e)
  operates (InitializeApplication r) e x o =
      let safelet = f.invariant.sequencer.safelet r (subst (OperandThere s) e f.invariant.sequencer.there) in
      calls_method (subst (λ o. BaseBefore o f.invariant.base) e (before code s f)) safelet_interface r safelet
      (codes "initializeApplication")
      (facts.safelets safelet.object.class safelet.concrete safelet.is_under).application
      (ap (body_called_by code.program (world_of s)) e)
  operates (GetSequencer r) e x o =
      let safelet = f.invariant.sequencer.safelet r (subst (OperandThere s) e f.invariant.sequencer.there) in
      calls_method (subst (λ o. BaseBefore o f.invariant.base) e (before code s f)) safelet_interface r safelet
      (codes "getSequencer")
      (facts.safelets safelet.object.class safelet.concrete safelet.is_under).sequencer
      (ap (body_called_by code.program (world_of s)) e)
  operates (GetNextMission r) e x o =
      let q = f.invariant.sequencer.mission_sequencer r (subst (OperandThere s) e f.invariant.sequencer.there) in
      calls_method (subst (λ o. BaseBefore o f.invariant.base) e (before code s f)) sequencer_class r q
      (codes "getNextMission") (facts.sequencers q.object.class q.concrete q.is_under).next_mission
      (ap (body_called_by code.program (world_of s)) e)
  operates (OpenMission r) e x o = mission_opens code facts s f r e
  operates (Initialize r) e x o =
      let base = subst (λ o. BaseBefore o f.invariant.base) e (before code s f) in
      let there = subst (OperandThere s) e f.invariant.sequencer.there in
      calls_in_memory base r there.0 (codes "initialize") (fact base r there.0).initialize
      (ap (body_called_by code.program (world_of s)) e)
  operates (CleanUp r) e x o =
      let base = subst (λ o. BaseBefore o f.invariant.base) e (before code s f) in
      let there = subst (OperandThere s) e f.invariant.sequencer.there in
      calls_in_memory base r there.0 (codes "cleanUp") (fact base r there.0).clean_up
      (ap (body_called_by code.program (world_of s)) e)
  operates Execute e x o = absurd (true≢false x)
  operates Finished e x o = absurd (true≢false o)

pub sequencer_operates : (code : Code) → Facts code → SequencerFacts code → (s : State) → Settled code s →
    s.activity.frames ≡ [] → is_exec s.phase ≡ false → is_over s.phase ≡ false →
    Operates code (sequencer_op code s s.operation)
sequencer_operates code basics facts s settled frameless outside goes_on =
    operates code basics facts s
    (record {
      invariant = settled.invariant;
      followed = settled.followed;
      frameless = frameless;
      outside = outside;
      goes_on = goes_on;
    })
    s.operation refl (sym (ap is_exec settled.invariant.sequencer.phase) ∙ outside)
    (sym (ap is_over settled.invariant.sequencer.phase) ∙ goes_on)
