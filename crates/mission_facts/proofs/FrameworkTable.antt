-- The framework's methods that the mission sequencer calls, as the table has them.
use Rattle.std.proofs.Common.{◌≡◌, refl, true, codes}
use Rattle.scj_builtins.specs.declared.kinds.GivesKind.TheVariants.{Nothing, Long, Sequencer, Mission}
use Rattle.scj_builtins.specs.declared.kinds.RunsInKind.TheVariants.{Immortal as in_immortal, DefinedOrCaller as in_defined_or_caller}
use Rattle.scj_builtins.specs.declared.methods.FrameworkMethod.{FrameworkMethod}
use Rattle.scj_builtins.specs.Framework.{framework_methods, declared_below, empty_unless_declared, safelet, mission, mission_sequencer, periodic_handler, aperiodic_handler, safelet_get_sequencer, safelet_immortal_memory_size, safelet_initialize_application, mission_initialize, mission_mission_memory_size, mission_clean_up, mission_sequencer_get_next_mission, periodic_handler_handle_async_event, aperiodic_handler_handle_async_event}
use Rattle.accepted_laws.proofs.Fields.{In as Element, here as at_head, there as in_tail}
use Rattle.mission_facts.proofs.FixedScopes.{runs_so_if_named, is_in_immortal, is_in_defined}
use Rattle.mission_facts.proofs.Implemented.{is_abstract_if_named}
use Rattle.mission_facts.proofs.Searches.{all_pass}

abbrev pub get_sequencer : FrameworkMethod
get_sequencer = declared_below safelet_get_sequencer safelet (codes "getSequencer") Sequencer in_immortal

abbrev pub immortal_memory_size : FrameworkMethod
immortal_memory_size =
    declared_below safelet_immortal_memory_size safelet (codes "immortalMemorySize") Long in_immortal

abbrev pub initialize_application : FrameworkMethod
initialize_application =
    declared_below safelet_initialize_application safelet (codes "initializeApplication") Nothing in_immortal

abbrev pub initialize : FrameworkMethod
initialize = declared_below mission_initialize mission (codes "initialize") Nothing in_defined_or_caller

abbrev pub mission_memory_size : FrameworkMethod
mission_memory_size = declared_below mission_mission_memory_size mission (codes "missionMemorySize") Long in_immortal

abbrev pub clean_up : FrameworkMethod
clean_up = empty_unless_declared mission_clean_up mission (codes "cleanUp") in_defined_or_caller

abbrev pub get_next_mission : FrameworkMethod
get_next_mission =
    declared_below mission_sequencer_get_next_mission mission_sequencer (codes "getNextMission") Mission in_immortal

abbrev pub handle_periodic : FrameworkMethod
handle_periodic =
    declared_below periodic_handler_handle_async_event periodic_handler (codes "handleAsyncEvent") Nothing
    in_defined_or_caller

abbrev pub handle_aperiodic : FrameworkMethod
handle_aperiodic =
    declared_below aperiodic_handler_handle_async_event aperiodic_handler (codes "handleAsyncEvent") Nothing
    in_defined_or_caller

-- a method is in the table, and each of its name is abstract
pub record IsInTable (m : FrameworkMethod) : Type 0 where
  pub among : Element m framework_methods
  pub abstract_all : all_pass (is_abstract_if_named m.name) framework_methods ≡ true

pub get_sequencer_there : IsInTable get_sequencer
unfolding framework_methods all_pass
get_sequencer_there = record { among = in_tail at_head; abstract_all = refl }

pub immortal_memory_size_there : IsInTable immortal_memory_size
unfolding framework_methods all_pass
immortal_memory_size_there = record { among = in_tail (in_tail at_head); abstract_all = refl }

pub initialize_application_there : IsInTable initialize_application
unfolding framework_methods all_pass
initialize_application_there = record { among = in_tail (in_tail (in_tail at_head)); abstract_all = refl }

pub initialize_there : IsInTable initialize
unfolding framework_methods all_pass
initialize_there = record { among = in_tail (in_tail (in_tail (in_tail at_head))); abstract_all = refl }

pub mission_memory_size_there : IsInTable mission_memory_size
unfolding framework_methods all_pass
mission_memory_size_there =
    record { among = in_tail (in_tail (in_tail (in_tail (in_tail at_head)))); abstract_all = refl }

pub clean_up_among : Element clean_up framework_methods
unfolding framework_methods
clean_up_among = in_tail (in_tail (in_tail (in_tail (in_tail (in_tail at_head)))))

pub get_next_mission_there : IsInTable get_next_mission
unfolding framework_methods all_pass
get_next_mission_there =
    record {
      among = in_tail (in_tail (in_tail (in_tail (in_tail (in_tail (in_tail (in_tail at_head)))))));
      abstract_all = refl;
    }

pub handle_periodic_there : IsInTable handle_periodic
unfolding framework_methods all_pass
handle_periodic_there =
    record {
      among = in_tail (in_tail (in_tail (in_tail (in_tail (in_tail (in_tail (in_tail (in_tail at_head))))))));
      abstract_all = refl;
    }

pub handle_aperiodic_there : IsInTable handle_aperiodic
unfolding framework_methods all_pass
handle_aperiodic_there =
    record {
      among =
          in_tail (in_tail (in_tail (in_tail (in_tail (in_tail (in_tail (in_tail (in_tail (in_tail (in_tail
          at_head))))))))));
      abstract_all = refl;
    }

-- ---- where each of a name runs

pub get_sequencer_runs : all_pass (runs_so_if_named is_in_immortal (codes "getSequencer")) framework_methods ≡ true
unfolding framework_methods all_pass is_in_immortal
get_sequencer_runs = refl

pub initialize_application_runs :
    all_pass (runs_so_if_named is_in_immortal (codes "initializeApplication")) framework_methods ≡ true
unfolding framework_methods all_pass is_in_immortal
initialize_application_runs = refl

pub get_next_mission_runs : all_pass (runs_so_if_named is_in_immortal (codes "getNextMission")) framework_methods ≡ true
unfolding framework_methods all_pass is_in_immortal
get_next_mission_runs = refl

pub initialize_runs : all_pass (runs_so_if_named is_in_defined (codes "initialize")) framework_methods ≡ true
unfolding framework_methods all_pass is_in_defined
initialize_runs = refl

pub clean_up_runs : all_pass (runs_so_if_named is_in_defined (codes "cleanUp")) framework_methods ≡ true
unfolding framework_methods all_pass is_in_defined
clean_up_runs = refl

pub handle_runs : all_pass (runs_so_if_named is_in_defined (codes "handleAsyncEvent")) framework_methods ≡ true
unfolding framework_methods all_pass is_in_defined
handle_runs = refl
