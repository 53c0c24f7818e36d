-- The framework's classes and their methods (JSR 302: javax.safetycritical, javax.realtime; Object and Runnable:
-- java.lang), each once. Which classes there are, how they are called and in which order they stand is this project's
-- profile.
use Rattle.std.specs.Prelude.{ℕ, true, false, ◌&&◌, ◌==◌, List, [], ◌∷◌, find, Option, option_map, codes}
use Rattle.scj_base.specs.Bytes.{is_same}
use Rattle.scj_builtins.specs.declared.classes.FrameworkClass.{FrameworkClass}
use Rattle.scj_builtins.specs.declared.methods.FrameworkMethod.{FrameworkMethod}
use Rattle.scj_builtins.specs.declared.kinds.ClassKind.{ClassKind}
use Rattle.scj_builtins.specs.declared.kinds.ClassKind.TheVariants.{Concrete as concrete_class, Abstract as abstract_class, Interface as interface_type, Static as static_only, Form as form_only}
use Rattle.scj_builtins.specs.declared.kinds.ParameterKind.{ParameterKind}
use Rattle.scj_builtins.specs.declared.kinds.ParameterKind.TheVariants.{Int as int_parameter, Text as text_parameter, Object as object_parameter, Runnable as runnable_parameter}
use Rattle.scj_builtins.specs.declared.kinds.Parameters.{Parameters}
use Rattle.scj_builtins.specs.declared.kinds.Parameters.TheVariants.{Empty as no_parameters, One as one_parameter, Two as two_parameters}
use Rattle.scj_builtins.specs.declared.kinds.GivesKind.{GivesKind}
use Rattle.scj_builtins.specs.declared.kinds.GivesKind.TheVariants.{Nothing, Number, Long, Truth, Sequencer, Mission}
use Rattle.scj_builtins.specs.declared.kinds.RunsInKind.{RunsInKind}
use Rattle.scj_builtins.specs.declared.kinds.RunsInKind.TheVariants.{Immortal as in_immortal, DefinedOrCaller as in_defined_or_caller, DefinedOrDeclared as in_defined_or_declared, Caller as in_caller}

-- ---- classes

-- the numbers of the classes: their places in the table below
abbrev pub object : ℕ
object = 0

abbrev pub runnable : ℕ
runnable = 1

abbrev pub safelet : ℕ
safelet = 2

abbrev pub mission : ℕ
mission = 3

abbrev pub mission_sequencer : ℕ
mission_sequencer = 4

abbrev pub periodic_handler : ℕ
periodic_handler = 5

abbrev pub aperiodic_handler : ℕ
aperiodic_handler = 6

abbrev pub managed_memory : ℕ
managed_memory = 7

abbrev pub services : ℕ
services = 8

abbrev pub trace : ℕ
trace = 9

abbrev pub device : ℕ
device = 10

abbrev pub priority_parameters : ℕ
priority_parameters = 11

abbrev pub periodic_parameters : ℕ
periodic_parameters = 12

abbrev pub aperiodic_parameters : ℕ
aperiodic_parameters = 13

abbrev pub storage_parameters : ℕ
storage_parameters = 14

abbrev pub relative_time : ℕ
relative_time = 15

-- how many they are: the number of the first user class
abbrev pub framework_class_count : ℕ
framework_class_count = 16

-- the names that results and parameters of the framework's methods have as types too
abbrev pub object_name : List ℕ
object_name = codes "Object"

abbrev pub runnable_name : List ℕ
runnable_name = codes "Runnable"

abbrev pub mission_name : List ℕ
mission_name = codes "Mission"

abbrev pub mission_sequencer_name : List ℕ
mission_sequencer_name = codes "MissionSequencer"

abbrev pub class_row : ℕ → List ℕ → ClassKind → FrameworkClass
class_row number name kind = record { number = number; name = name; kind = kind }

-- the classes in the order of their numbers
unfoldable pub framework_classes : List FrameworkClass
framework_classes =
    class_row object object_name concrete_class
    ∷ class_row runnable runnable_name interface_type
    ∷ class_row safelet (codes "Safelet") interface_type
    ∷ class_row mission mission_name abstract_class
    ∷ class_row mission_sequencer mission_sequencer_name abstract_class
    ∷ class_row periodic_handler (codes "PeriodicEventHandler") abstract_class
    ∷ class_row aperiodic_handler (codes "AperiodicEventHandler") abstract_class
    ∷ class_row managed_memory (codes "ManagedMemory") static_only
    ∷ class_row services (codes "Services") static_only
    ∷ class_row trace (codes "Trace") static_only
    ∷ class_row device (codes "Device") static_only
    ∷ class_row priority_parameters (codes "PriorityParameters") form_only
    ∷ class_row periodic_parameters (codes "PeriodicParameters") form_only
    ∷ class_row aperiodic_parameters (codes "AperiodicParameters") form_only
    ∷ class_row storage_parameters (codes "StorageParameters") form_only
    ∷ class_row relative_time (codes "RelativeTime") form_only
    ∷ []

-- ---- methods

-- the numbers of the methods: their places in the table below
abbrev pub runnable_run : ℕ
runnable_run = 0

abbrev pub safelet_get_sequencer : ℕ
safelet_get_sequencer = 1

abbrev pub safelet_immortal_memory_size : ℕ
safelet_immortal_memory_size = 2

abbrev pub safelet_initialize_application : ℕ
safelet_initialize_application = 3

abbrev pub mission_initialize : ℕ
mission_initialize = 4

abbrev pub mission_mission_memory_size : ℕ
mission_mission_memory_size = 5

abbrev pub mission_clean_up : ℕ
mission_clean_up = 6

abbrev pub mission_request_termination : ℕ
mission_request_termination = 7

abbrev pub mission_sequencer_get_next_mission : ℕ
mission_sequencer_get_next_mission = 8

abbrev pub periodic_handler_handle_async_event : ℕ
periodic_handler_handle_async_event = 9

abbrev pub periodic_handler_register : ℕ
periodic_handler_register = 10

abbrev pub aperiodic_handler_handle_async_event : ℕ
aperiodic_handler_handle_async_event = 11

abbrev pub aperiodic_handler_register : ℕ
aperiodic_handler_register = 12

abbrev pub aperiodic_handler_release : ℕ
aperiodic_handler_release = 13

abbrev pub managed_memory_enter_private_memory : ℕ
managed_memory_enter_private_memory = 14

abbrev pub managed_memory_execute_in_area_of : ℕ
managed_memory_execute_in_area_of = 15

abbrev pub services_set_ceiling : ℕ
services_set_ceiling = 16

abbrev pub trace_print : ℕ
trace_print = 17

abbrev pub device_read : ℕ
device_read = 18

abbrev pub managed_memory_alloc_in_same : ℕ
managed_memory_alloc_in_same = 19

-- how many they are: the number of the first declared method
abbrev pub framework_method_count : ℕ
framework_method_count = 20

-- the parameters as a list
unfoldable pub parameter_list : Parameters → List ParameterKind
parameter_list no_parameters = []
parameter_list (one_parameter first) = first ∷ []
parameter_list (two_parameters first second) = first ∷ second ∷ []

-- A method is callable where a program may call the framework's own method, overridable where a user class may declare
-- it, abstract where a concrete class has to; and each declaration of it runs in the scope that the last column tells.

-- what every concrete class under the framework class declares
abbrev pub declared_below : ℕ → ℕ → List ℕ → GivesKind → RunsInKind → FrameworkMethod
declared_below number on name gives runs_in =
    record {
      number = number;
      on = on;
      name = name;
      parameters = no_parameters;
      gives = gives;
      is_static = false;
      callable = false;
      overridable = true;
      is_abstract = true;
      runs_in = runs_in;
    }

-- what has an empty body where no user class declares it
abbrev pub empty_unless_declared : ℕ → ℕ → List ℕ → RunsInKind → FrameworkMethod
empty_unless_declared number on name runs_in =
    record {
      number = number;
      on = on;
      name = name;
      parameters = no_parameters;
      gives = Nothing;
      is_static = false;
      callable = false;
      overridable = true;
      is_abstract = false;
      runs_in = runs_in;
    }

-- what a program calls on an object, and no class declares anew
abbrev pub called_on_object : ℕ → ℕ → List ℕ → FrameworkMethod
called_on_object number on name =
    record {
      number = number;
      on = on;
      name = name;
      parameters = no_parameters;
      gives = Nothing;
      is_static = false;
      callable = true;
      overridable = false;
      is_abstract = false;
      runs_in = in_caller;
    }

-- what a program calls on the class
abbrev pub called_on_class : ℕ → ℕ → List ℕ → Parameters → GivesKind → FrameworkMethod
called_on_class number on name parameters gives =
    record {
      number = number;
      on = on;
      name = name;
      parameters = parameters;
      gives = gives;
      is_static = true;
      callable = true;
      overridable = false;
      is_abstract = false;
      runs_in = in_caller;
    }

-- the methods in the order of their numbers
unfoldable pub framework_methods : List FrameworkMethod
framework_methods =
    declared_below runnable_run runnable (codes "run") Nothing in_defined_or_declared
    ∷ declared_below safelet_get_sequencer safelet (codes "getSequencer") Sequencer in_immortal
    ∷ declared_below safelet_immortal_memory_size safelet (codes "immortalMemorySize") Long in_immortal
    ∷ declared_below safelet_initialize_application safelet (codes "initializeApplication") Nothing in_immortal
    ∷ declared_below mission_initialize mission (codes "initialize") Nothing in_defined_or_caller
    ∷ declared_below mission_mission_memory_size mission (codes "missionMemorySize") Long in_immortal
    ∷ empty_unless_declared mission_clean_up mission (codes "cleanUp") in_defined_or_caller
    ∷ called_on_object mission_request_termination mission (codes "requestTermination")
    ∷ declared_below mission_sequencer_get_next_mission mission_sequencer (codes "getNextMission") Mission in_immortal
    ∷ declared_below periodic_handler_handle_async_event periodic_handler (codes "handleAsyncEvent") Nothing
    in_defined_or_caller
    ∷ called_on_object periodic_handler_register periodic_handler (codes "register")
    ∷ declared_below aperiodic_handler_handle_async_event aperiodic_handler (codes "handleAsyncEvent") Nothing
    in_defined_or_caller
    ∷ called_on_object aperiodic_handler_register aperiodic_handler (codes "register")
    ∷ called_on_object aperiodic_handler_release aperiodic_handler (codes "release")
    ∷ called_on_class managed_memory_enter_private_memory managed_memory (codes "enterPrivateMemory")
    (two_parameters int_parameter runnable_parameter) Nothing
    ∷ called_on_class managed_memory_execute_in_area_of managed_memory (codes "executeInAreaOf")
    (two_parameters object_parameter runnable_parameter) Nothing
    ∷ called_on_class services_set_ceiling services (codes "setCeiling") (two_parameters object_parameter int_parameter)
    Nothing
    ∷ called_on_class trace_print trace (codes "print") (two_parameters text_parameter int_parameter) Nothing
    ∷ called_on_class device_read device (codes "read") (one_parameter int_parameter) Number
    ∷ called_on_class managed_memory_alloc_in_same managed_memory (codes "allocInSame")
    (two_parameters object_parameter object_parameter) Truth
    ∷ []

-- the method of a name that a framework class has itself, and its number
unfoldable pub method_named : ℕ → List ℕ → Option FrameworkMethod
method_named class name =
    find (λ (method : FrameworkMethod). (method.on == class) && is_same name method.name) framework_methods

unfoldable pub number_named : ℕ → List ℕ → Option ℕ
number_named class name = option_map (λ (method : FrameworkMethod). method.number) (method_named class name)
