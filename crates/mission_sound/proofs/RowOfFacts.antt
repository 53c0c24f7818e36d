-- What the sequencer asks of a program, looked at in a program that is worked out: two handlers of one class. Its
-- classes are App, the safelet (16), Seq (17), Main, the mission (18), W, the handler (19), In, the Runnable (20), and
-- Box (21).
use Rattle.std.specs.Prelude.{Some, None, true, false, codes}
use Rattle.std.proofs.Common.{◌≡◌, refl}
use Rattle.scj_builtins.specs.Framework.{runnable, safelet, mission, mission_sequencer}
use Rattle.scj_rules.specs.declared.typing.Scope.TheVariants.{In}
use Rattle.scj_rules.specs.declared.typing.Ty.TheVariants.{Class as ClassTy}
use Rattle.scj_rules.specs.declared.views.Body.TheVariants.{Written, Empty}
use Rattle.scj_rules.specs.Classes.{is_sub}
use Rattle.scj_rules.specs.Contexts.{Declarations}
use Rattle.scj_rules.specs.ScopeRules.{defined_by_chain, is_handler, is_mission, parent_scope}
use Rattle.scj_rules.specs.StaticScopes.{current_in, this_in}
use Rattle.scj_rules.specs.Bodies.{body_named, constructor_body, safelet_class, size_of}
use Rattle.scj_rules.proofs.Computing.{computing}
use Rattle.accepted_laws.specs.Kinds.{kind_of, reference}
use Rattle.scj_model.specs.Code.{code_of}
use Rattle.scj_model.proofs.Computing.{computing_machine}
use Rattle.scj_model.proofs.ProgramTwoHandlers.{two_handlers}
use Rattle.scope_flow.specs.Signatures.{IsConcrete, kind_given, kind_of_result}

abbrev p : Declarations
p = (code_of two_handlers).program

-- ---- the root

root : parent_scope p 0 ≡ None
unfolding computing computing_machine
root = refl

root_is_no_missions : is_mission p 0 ≡ false
unfolding computing computing_machine
root_is_no_missions = refl

-- ---- the safelet

safelet_is : safelet_class p ≡ Some 16
unfolding computing computing_machine
safelet_is = refl

safelet_concrete : IsConcrete p 16
unfolding computing computing_machine
safelet_concrete = refl

safelet_under : is_sub p.classes 16 safelet ≡ true
unfolding computing computing_machine
safelet_under = refl

safelet_size : size_of p 16 ≡ Some 400
unfolding computing computing_machine
safelet_size = refl

safelet_lies : this_in p 16 ≡ Some (In 0)
unfolding computing computing_machine
safelet_lies = refl

safelet_constructor : constructor_body p 16 ≡ Some (Written 15)
unfolding computing computing_machine
safelet_constructor = refl

constructor_runs : current_in p 16 15 ≡ Some (In 0)
unfolding computing computing_machine
constructor_runs = refl

get_sequencer : body_named p 16 (codes "getSequencer") ≡ Some (Written 6)
unfolding computing computing_machine
get_sequencer = refl

get_sequencer_runs : current_in p 16 6 ≡ Some (In 0)
unfolding computing computing_machine
get_sequencer_runs = refl

get_sequencer_gives : kind_given p 16 6 ≡ Some (reference (ClassTy mission_sequencer) (In 0))
unfolding computing computing_machine kind_given kind_of_result kind_of
get_sequencer_gives = refl

-- ---- the sequencer object

next_mission : body_named p 17 (codes "getNextMission") ≡ Some (Written 42)
unfolding computing computing_machine
next_mission = refl

next_mission_runs : current_in p 17 42 ≡ Some (In 0)
unfolding computing computing_machine
next_mission_runs = refl

next_mission_gives : kind_given p 17 42 ≡ Some (reference (ClassTy mission) (In 0))
unfolding computing computing_machine kind_given kind_of_result kind_of
next_mission_gives = refl

-- ---- the mission

mission_defines : defined_by_chain p 18 ≡ Some 18
unfolding computing computing_machine
mission_defines = refl

mission_parent : parent_scope p 18 ≡ Some 0
unfolding computing computing_machine
mission_parent = refl

mission_is : is_mission p 18 ≡ true
unfolding computing computing_machine
mission_is = refl

mission_size : size_of p 18 ≡ Some 500
unfolding computing computing_machine
mission_size = refl

initialize : body_named p 18 (codes "initialize") ≡ Some (Written 67)
unfolding computing computing_machine
initialize = refl

initialize_runs : current_in p 18 67 ≡ Some (In 18)
unfolding computing computing_machine
initialize_runs = refl

clean_up : body_named p 18 (codes "cleanUp") ≡ Some Empty
unfolding computing computing_machine
clean_up = refl

-- ---- the handler

handler_is : is_handler p 19 ≡ true
unfolding computing computing_machine
handler_is = refl

handler_defines : defined_by_chain p 19 ≡ Some 19
unfolding computing computing_machine
handler_defines = refl

handler_is_no_mission : is_mission p 19 ≡ false
unfolding computing computing_machine
handler_is_no_mission = refl

handler_parent : parent_scope p 19 ≡ Some 18
unfolding computing computing_machine
handler_parent = refl

handler_lies : this_in p 19 ≡ Some (In 18)
unfolding computing computing_machine
handler_lies = refl

handle : body_named p 19 (codes "handleAsyncEvent") ≡ Some (Written 108)
unfolding computing computing_machine
handle = refl

handle_runs : current_in p 19 108 ≡ Some (In 19)
unfolding computing computing_machine
handle_runs = refl

-- ---- the Runnable

runnable_is : is_sub p.classes 20 runnable ≡ true
unfolding computing computing_machine
runnable_is = refl

runnable_defines : defined_by_chain p 20 ≡ Some 20
unfolding computing computing_machine
runnable_defines = refl

runnable_is_no_mission : is_mission p 20 ≡ false
unfolding computing computing_machine
runnable_is_no_mission = refl
