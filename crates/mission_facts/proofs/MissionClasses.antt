-- What concrete sequencer, mission and handler classes of an accepted program have.
use Rattle.std.proofs.Common.{arith, ◌≡◌, ℕ, sym, ap, ◌∙◌, subst, refl, Some, true, inl, inr, if◌then◌else◌, codes}
use Rattle.scj_builtins.specs.Framework.{mission, mission_sequencer, periodic_handler, aperiodic_handler}
use Rattle.scj_tree.specs.Forest.{Forest, IsForest}
use Rattle.scj_rules.specs.CheckedProgram.{IsReadFromTexts}
use Rattle.scj_rules.specs.Words.{is_among}
use Rattle.scj_rules.specs.Classes.{superclasses, all_interfaces, is_sub, result_written}
use Rattle.scj_rules.specs.Contexts.{Declarations, declarations_of}
use Rattle.scj_rules.specs.ScopeRules.{is_mission, is_handler}
use Rattle.scj_rules.specs.Bodies.{declared_size, size_of}
use Rattle.scj_rules.specs.Phases.{IsAccepted}
use Rattle.scj_rules.proofs.ChainLemmas.{or_cases, or_left, or_right}
use Rattle.accepted_laws.specs.Sorts.{IsWellSorted}
use Rattle.accepted_laws.proofs.Fields.{in_left, in_among}
use Rattle.scope_flow.specs.Signatures.{IsConcrete}
use Rattle.flow_facts.proofs.ConcreteClasses.{IsWritten}
use Rattle.mission_facts.proofs.CalledBodies.{gives_under, mission_named}
use Rattle.mission_facts.proofs.CleanUps.{cleans_up}
use Rattle.mission_facts.proofs.FrameworkTable.{initialize, mission_memory_size, get_next_mission, handle_periodic, handle_aperiodic, initialize_there, mission_memory_size_there, get_next_mission_there, handle_periodic_there, handle_aperiodic_there, initialize_runs, get_next_mission_runs, handle_runs}
use Rattle.mission_facts.proofs.HeaderKinds.{under_mission, under_sequencer}
use Rattle.mission_facts.proofs.Implemented.{implemented}
use Rattle.mission_facts.proofs.MethodsUnder.{IsAsked, class_within, concrete_under, implements_below, immortal_method, defined_method}
use Rattle.mission_facts.proofs.Parents.{mission_defines, mission_parent, handler_parent}
use Rattle.mission_facts.proofs.ScopeDefinitions.{IsDefiner, definer_of, needed_is_defined}
use Rattle.mission_facts.proofs.Sizes.{declares_size}
use Rattle.mission_sound.specs.SequencerFacts.{GivesUnder, HasMethodIn, MissionSequencerFact, MissionFact, HandlerFact}

module _ (forest : Forest) (accepted : IsAccepted forest) (whole : IsForest forest) (sorted : IsWellSorted forest.nodes)
    (is_read : IsReadFromTexts forest) where
  abbrev p : Declarations
  p = declarations_of forest

  -- ---- sequencers

  asks_next_mission : IsAsked forest accepted whole sorted is_read get_next_mission
  unfolding result_written
  asks_next_mission =
      record {
        there = get_next_mission_there;
        few = omega arith;
        is_abstract = refl;
        takes_none = refl;
        not_long = λ e. cc (e);
      }

  pub sequencer_fact : (class : ℕ) → IsConcrete p class → is_sub p.classes class mission_sequencer ≡ true →
      MissionSequencerFact p class
  unfolding result_written
  sequencer_fact class concrete sub =
      let h = under_sequencer forest accepted whole sorted class sub in
      let w =
      concrete_under forest accepted whole sorted is_read class mission_sequencer (λ e. omega (arith, e)) concrete h
      in
      let x =
      immortal_method forest accepted whole sorted is_read class get_next_mission w asks_next_mission h
      get_next_mission_runs in
      record {
        next_mission = x.has;
        gives = subst (GivesUnder p mission) (sym x.gives)
            (gives_under forest accepted whole sorted class mission x.method.method
            (result_written get_next_mission.gives) x.method.is_user (mission_named forest accepted whole sorted)
            x.method.result);
      }

  -- ---- missions

  asks_initialize : IsAsked forest accepted whole sorted is_read initialize
  unfolding result_written
  asks_initialize =
      record {
        there = initialize_there;
        few = omega arith;
        is_abstract = refl;
        takes_none = refl;
        not_long = λ e. cc (e);
      }

  -- the bytes of its memory
  mission_size : (class : ℕ) → IsWritten p class → is_among mission (superclasses p.classes class) ≡ true →
      (bytes : ℕ) × (size_of p class ≡ Some bytes)
  unfolding size_of result_written
  mission_size class w h =
      let x =
      implemented forest accepted whole sorted class w mission_memory_size mission_memory_size_there.among
      (omega arith) refl refl mission_memory_size_there.abstract_all
      (in_left mission (superclasses p.classes class) (all_interfaces p.classes class)
      (in_among mission (superclasses p.classes class) h)) in
      let s = declares_size forest accepted whole sorted class mission_memory_size x refl in (
        s.0,
        ap (λ t. declared_size p class (if t then codes "missionMemorySize" else codes "immortalMemorySize")) h ∙ s.1,
      )

  pub mission_fact : (class : ℕ) → IsConcrete p class → is_sub p.classes class mission ≡ true → MissionFact p class
  unfolding result_written
  mission_fact class concrete sub =
      let h = under_mission forest accepted whole sorted class sub in
      let w = concrete_under forest accepted whole sorted is_read class mission (λ e. omega (arith, e)) concrete h in
      let l = class_within forest accepted whole sorted is_read class w in
      let d =
      needed_is_defined forest accepted whole sorted class w.row w.declared w.stands w.is w.plain
      (or_left (is_mission p class) (is_handler p class) h) in
      let definer = definer_of forest accepted whole sorted class d.0 d.1 in
      let size = mission_size class w h in
      record {
        scope = d.0;
        defines = d.1;
        is_parent = mission_parent forest accepted whole sorted class d.0 l definer h;
        is_missions = mission_defines forest accepted whole sorted class d.0 l definer h;
        bytes = size.0;
        size = size.1;
        initialize = defined_method forest accepted whole sorted is_read class d.0 initialize w
            (implements_below forest accepted whole sorted is_read class initialize w asks_initialize h)
            initialize_there.among (omega arith) (λ e. cc (e)) h initialize_runs definer;
        clean_up = cleans_up forest accepted whole sorted is_read class d.0 w h definer;
      }

  -- ---- handlers

  asks_periodic : IsAsked forest accepted whole sorted is_read handle_periodic
  unfolding result_written
  asks_periodic =
      record {
        there = handle_periodic_there;
        few = omega arith;
        is_abstract = refl;
        takes_none = refl;
        not_long = λ e. cc (e);
      }

  asks_aperiodic : IsAsked forest accepted whole sorted is_read handle_aperiodic
  unfolding result_written
  asks_aperiodic =
      record {
        there = handle_aperiodic_there;
        few = omega arith;
        is_abstract = refl;
        takes_none = refl;
        not_long = λ e. cc (e);
      }

  -- a concrete class of one of the two kinds
  record IsHandler (class : ℕ) : Type 0 where
    written : IsWritten p class
    handles : (scope : ℕ) → IsDefiner forest accepted whole sorted class scope →
        HasMethodIn p scope class (codes "handleAsyncEvent")

  handler_is : (class : ℕ) → IsConcrete p class → is_handler p class ≡ true → IsHandler class
  unfolding result_written
  handler_is class concrete h =
      elim (or_cases (is_among periodic_handler (superclasses p.classes class))
      (is_among aperiodic_handler (superclasses p.classes class)) h) as (λ z. IsHandler class) [
        | inl s ↦
            (let w = concrete_under forest accepted whole sorted is_read class periodic_handler
            (λ e. omega (arith, e)) concrete s in
            record {
              written = w;
              handles =
                  λ scope definer. defined_method forest accepted whole sorted is_read class scope handle_periodic w
                  (implements_below forest accepted whole sorted is_read class handle_periodic w asks_periodic s)
                  handle_periodic_there.among (omega arith) (λ e. cc (e)) s handle_runs definer;
            })
        | inr s ↦
            (let w = concrete_under forest accepted whole sorted is_read class aperiodic_handler
            (λ e. omega (arith, e)) concrete s in
            record {
              written = w;
              handles =
                  λ scope definer. defined_method forest accepted whole sorted is_read class scope handle_aperiodic
                  w (implements_below forest accepted whole sorted is_read class handle_aperiodic w asks_aperiodic s)
                  handle_aperiodic_there.among (omega arith) (λ e. cc (e)) s handle_runs definer;
            })
      ]

  pub handler_fact : (class : ℕ) → IsConcrete p class → is_handler p class ≡ true → HandlerFact p class
  handler_fact class concrete h =
      let k = handler_is class concrete h in
      let w = k.written in
      let l = class_within forest accepted whole sorted is_read class w in
      let d =
      needed_is_defined forest accepted whole sorted class w.row w.declared w.stands w.is w.plain
      (or_right (is_mission p class) (is_handler p class) h) in
      let definer = definer_of forest accepted whole sorted class d.0 d.1 in
      let q = handler_parent forest accepted whole sorted class d.0 l definer h in
      record {
        scope = d.0;
        defines = d.1;
        is_no_missions = q.is_no_missions;
        parent = q.parent;
        is_parent = q.is_parent;
        parent_is_missions = q.parent_is_missions;
        lies_in_parent = q.lies_in_parent;
        handle = k.handles d.0 definer;
      }
