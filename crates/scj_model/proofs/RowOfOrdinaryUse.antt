-- A controller: two periodic handlers, an aperiodic one that a reading releases, and a tank that they share. Its 5,000
-- units are computed in pieces. Between these nobody acts.
use Rattle.std.proofs.Common.{◌≡◌, ◌++◌, [], ◌∷◌, Some, None, true, false, refl, ap, ◌∙◌, codes}
use Rattle.std.specs.Prelude.{ℕ, List, ◌+◌, pos}
use Rattle.scj_base.specs.declared.values.Value.{Value}
use Rattle.scj_base.specs.declared.values.Value.TheVariants.{Int, At}
use Rattle.scj_model.specs.declared.events.Event.{Event}
use Rattle.scj_model.specs.declared.events.Event.TheVariants.{Mission, Register, Exec, Arrive, Run, Idle, Prio, Print, End}
use Rattle.scj_model.specs.declared.handlers.HandlerKind.TheVariants.{Periodic, Aperiodic}
use Rattle.scj_model.specs.declared.handlers.HandlerRow.{HandlerRow}
use Rattle.scj_model.specs.declared.operations.SeqOp.TheVariants.{Execute}
use Rattle.scj_model.specs.declared.phases.Phase.TheVariants.{Exec as InExecution}
use Rattle.scj_model.specs.declared.plans.ReadingRow.{ReadingRow}
use Rattle.scj_model.specs.Code.{Code, code_of}
use Rattle.scj_model.specs.Plan.{Plan}
use Rattle.scj_model.specs.State.{MemoryArea, Object, Release, Ended, State, IdleTurn}
use Rattle.scj_model.specs.Choice.{by_priority}
use Rattle.scj_model.specs.Run.{RunSoFar, run, trace, reported_by}
use Rattle.scj_model.specs.TraceText.{text}
use Rattle.scj_model.proofs.Computing.{computing_machine}
use Rattle.scj_model.proofs.IdleUnits.{IsIdle, nothing_due, more_units, run_more, idle_units}
use Rattle.scj_model.proofs.Printed.{printed}
use Rattle.scj_model.proofs.ProgramOrdinaryUse.{ordinary_use}

abbrev level : ℕ → ℕ → ReadingRow
level unit value = record { port = 1; at = unit; value = pos value }

abbrev rising_level : Plan
rising_level = record { units = 5000; store = 1000; fires = []; readings = level 0 50 ∷ level 3000 95 ∷ [] }

unfoldable controller : Code
controller = code_of ordinary_use

-- ---- the state while nobody acts

abbrev number : ℕ → Value
number n = Int (pos n)

abbrev of_class : ℕ → ℕ → List Value → Object
of_class class area slots = record { class = class; area = area; slots = slots; ceiling = 28 }

abbrev tank : ℕ → Object
tank height = record { class = 19; area = 1; slots = number height ∷ []; ceiling = 20 }

-- the safelet, the sequencer, the mission, the tank, the three handlers, and the boxes of earlier releases
abbrev objects_with : ℕ → List Object → List Object
objects_with height boxes =
    of_class 16 0 []
    ∷ of_class 17 0 (number 1 ∷ [])
    ∷ of_class 18 0 []
    ∷ tank height
    ∷ of_class 21 1 (number 18 ∷ number 0 ∷ At 3 ∷ [])
    ∷ of_class 22 1 (number 12 ∷ number 24 ∷ number 0 ∷ number 2000 ∷ At 3 ∷ At 4 ∷ [])
    ∷ of_class 23 1 (number 10 ∷ number 0 ∷ number 5 ∷ number 2500 ∷ At 3 ∷ [])
    ∷ boxes

abbrev box : ℕ → ℕ → Object
box area value = of_class 20 area (number value ∷ [])

abbrev closed_area : ℕ → ℕ → MemoryArea
closed_area scope bytes = record { scope = scope; parent = Some 1; bytes = bytes; is_open = false }

abbrev areas_with : List MemoryArea → List MemoryArea
areas_with closed =
    record { scope = 0; parent = None; bytes = 400; is_open = true }
    ∷ record { scope = 18; parent = Some 0; bytes = 200; is_open = true }
    ∷ closed

abbrev ended : ℕ → ℕ → Release
ended handler number = record { handler = handler; number = number; status = Ended }

abbrev handlers : List HandlerRow
handlers =
    record { at = 4; class = 21; priority = 18; start = 0; period = 0; bytes = 0; kind = Aperiodic }
    ∷ record { at = 5; class = 22; priority = 12; start = 0; period = 2000; bytes = 24; kind = Periodic }
    ∷ record { at = 6; class = 23; priority = 10; start = 5; period = 2500; bytes = 0; kind = Periodic }
    ∷ []

abbrev idle_at : ℕ → ℕ → List Object → List MemoryArea → List Release → State
idle_at unit height boxes closed releases =
    record {
      store = 1000;
      unit = unit;
      phase = InExecution;
      operation = Execute;
      outcome = None;
      safelet = Some 0;
      mission_sequencer = Some 1;
      mission = Some 2;
      is_end_asked = false;
      origin = 91;
      earlier_releases = 0;
      last_choice = Some IdleTurn;
      statics = [];
      objects = objects_with height boxes;
      areas = areas_with closed;
      releases = releases;
      registry = handlers;
      activity = record { frames = []; areas = 1 ∷ 0 ∷ []; priority = 0 };
    }

abbrev so_far : State → List Event → RunSoFar
so_far s events = record { state = s; events = events; is_stuck = false }

-- nobody acts in so many units
idle_for :
    (k unit height : ℕ) (boxes : List Object) (closed : List MemoryArea) (releases : List Release) (events : List Event)
    → IsIdle (idle_at unit height boxes closed releases)
    → nothing_due 91 handlers [] unit k ≡ true
    → more_units controller rising_level k (so_far (idle_at unit height boxes closed releases) events)
    ≡ so_far (idle_at (unit + k) height boxes closed releases) events
idle_for k unit height boxes closed releases events i d =
    idle_units controller rising_level k (idle_at unit height boxes closed releases) events i d

-- ---- the first releases of sensor and pump

abbrev first_events : List Event
first_events =
    Mission 30 (codes "Main")
    ∷ Register 51 1 (codes "Alarm") 18
    ∷ Register 72 2 (codes "Sensor") 12
    ∷ Register 89 3 (codes "Pump") 10
    ∷ Exec 90
    ∷ Arrive 91 2 1
    ∷ Run 91 2 1
    ∷ Arrive 96 3 1
    ∷ Prio 105 2 20
    ∷ Prio 109 2 12
    ∷ End 115 2 1
    ∷ Run 116 3 1
    ∷ Prio 119 3 20
    ∷ Prio 122 3 10
    ∷ Print 123 248 (pos 50)
    ∷ End 124 3 1
    ∷ Idle 125
    ∷ []

abbrev first_boxes : List Object
first_boxes = box 2 50 ∷ []

abbrev first_areas : List MemoryArea
first_areas = closed_area 22 24 ∷ closed_area 23 0 ∷ []

abbrev first_releases : List Release
first_releases = ended 2 1 ∷ ended 3 1 ∷ []

first_piece :
    run controller rising_level by_priority 126
    ≡ so_far (idle_at 126 50 first_boxes first_areas first_releases) first_events
unfolding computing_machine controller
first_piece = refl

first_idle : IsIdle (idle_at 126 50 first_boxes first_areas first_releases)
unfolding computing_machine
first_idle = record { executes = refl; goes_on = refl; no_end = refl; nobody = refl; was_idle = refl }

first_gap : nothing_due 91 handlers [] 126 1965 ≡ true
unfolding computing_machine nothing_due
first_gap = refl

-- ---- the second release of the sensor

abbrev second_events : List Event
second_events =
    first_events
    ++ Arrive 2091 2 2 ∷ Run 2091 2 2 ∷ Prio 2105 2 20 ∷ Prio 2109 2 12 ∷ End 2115 2 2 ∷ Idle 2116 ∷ []

abbrev second_boxes : List Object
second_boxes = first_boxes ++ box 4 50 ∷ []

abbrev second_areas : List MemoryArea
second_areas = first_areas ++ closed_area 22 24 ∷ []

abbrev second_releases : List Release
second_releases = first_releases ++ ended 2 2 ∷ []

second_piece :
    more_units controller rising_level 26 (so_far (idle_at 2091 50 first_boxes first_areas first_releases) first_events)
    ≡ so_far (idle_at 2117 50 second_boxes second_areas second_releases) second_events
unfolding computing_machine controller more_units
second_piece = refl

second_idle : IsIdle (idle_at 2117 50 second_boxes second_areas second_releases)
unfolding computing_machine
second_idle = record { executes = refl; goes_on = refl; no_end = refl; nobody = refl; was_idle = refl }

second_gap : nothing_due 91 handlers [] 2117 479 ≡ true
unfolding computing_machine nothing_due
second_gap = refl

-- ---- the second release of the pump

abbrev third_events : List Event
third_events =
    second_events
    ++ Arrive 2596 3 2
    ∷ Run 2596 3 2
    ∷ Prio 2599 3 20
    ∷ Prio 2602 3 10
    ∷ Print 2603 248 (pos 50)
    ∷ End 2604 3 2
    ∷ Idle 2605
    ∷ []

abbrev third_areas : List MemoryArea
third_areas = second_areas ++ closed_area 23 0 ∷ []

abbrev third_releases : List Release
third_releases = second_releases ++ ended 3 2 ∷ []

third_piece :
    more_units controller rising_level 10
    (so_far (idle_at 2596 50 second_boxes second_areas second_releases) second_events)
    ≡ so_far (idle_at 2606 50 second_boxes third_areas third_releases) third_events
unfolding computing_machine controller more_units
third_piece = refl

third_idle : IsIdle (idle_at 2606 50 second_boxes third_areas third_releases)
unfolding computing_machine
third_idle = record { executes = refl; goes_on = refl; no_end = refl; nobody = refl; was_idle = refl }

third_gap : nothing_due 91 handlers [] 2606 1485 ≡ true
unfolding computing_machine nothing_due
third_gap = refl

-- ---- the third release of the sensor, which releases the alarm

abbrev fourth_events : List Event
fourth_events =
    third_events
    ++ Arrive 4091 2 3
    ∷ Run 4091 2 3
    ∷ Prio 4105 2 20
    ∷ Prio 4109 2 12
    ∷ Arrive 4117 1 1
    ∷ Run 4118 1 1
    ∷ Prio 4121 1 20
    ∷ Prio 4124 1 18
    ∷ Print 4125 150 (pos 95)
    ∷ End 4126 1 1
    ∷ Run 4127 2 3
    ∷ End 4127 2 3
    ∷ Idle 4128
    ∷ []

abbrev fourth_boxes : List Object
fourth_boxes = second_boxes ++ box 6 95 ∷ []

abbrev fourth_areas : List MemoryArea
fourth_areas = third_areas ++ closed_area 22 24 ∷ closed_area 21 0 ∷ []

abbrev fourth_releases : List Release
fourth_releases = third_releases ++ ended 2 3 ∷ ended 1 1 ∷ []

fourth_piece :
    more_units controller rising_level 38
    (so_far (idle_at 4091 50 second_boxes third_areas third_releases) third_events)
    ≡ so_far (idle_at 4129 95 fourth_boxes fourth_areas fourth_releases) fourth_events
unfolding computing_machine controller more_units
fourth_piece = refl

fourth_idle : IsIdle (idle_at 4129 95 fourth_boxes fourth_areas fourth_releases)
unfolding computing_machine
fourth_idle = record { executes = refl; goes_on = refl; no_end = refl; nobody = refl; was_idle = refl }

fourth_gap : nothing_due 91 handlers [] 4129 871 ≡ true
unfolding computing_machine nothing_due
fourth_gap = refl

-- ---- the whole run

-- so many more units lead from one state of the run to another one
then_run :
    (n k : ℕ) (before after : RunSoFar)
    → run controller rising_level by_priority n ≡ before
    → more_units controller rising_level k before ≡ after
    → run controller rising_level by_priority (n + k) ≡ after
then_run n k before after h e = run_more controller rising_level n k ∙ (ap (more_units controller rising_level k) h ∙ e)

whole_run :
    run controller rising_level by_priority 5000
    ≡ so_far (idle_at 5000 95 fourth_boxes fourth_areas fourth_releases) fourth_events
whole_run =
    then_run 4129 871 _ _
    (then_run 4091 38 _ _
    (then_run 2606 1485 _ _
    (then_run 2596 10 _ _
    (then_run 2117 479 _ _
    (then_run 2091 26 _ _
    (then_run 126 1965 _ _ first_piece (idle_for 1965 126 50 first_boxes first_areas first_releases first_events first_idle first_gap))
    second_piece)
    (idle_for 479 2117 50 second_boxes second_areas second_releases second_events second_idle second_gap))
    third_piece)
    (idle_for 1485 2606 50 second_boxes third_areas third_releases third_events third_idle third_gap))
    fourth_piece)
    (idle_for 871 4129 95 fourth_boxes fourth_areas fourth_releases fourth_events fourth_idle fourth_gap)

reported :
    text ordinary_use.nodes (codes "B.java" ∷ codes "P.java" ∷ [])
    (reported_by 5000 (so_far (idle_at 5000 95 fourth_boxes fourth_areas fourth_releases) fourth_events))
    ≡ codes "30 mission Main\n51 register 1 Alarm 18\n72 register 2 Sensor 12\n89 register 3 Pump 10\n90 exec\n"
    ++ codes "91 arrive 2 1\n91 run 2 1\n96 arrive 3 1\n105 prio 2 20\n109 prio 2 12\n115 end 2 1\n116 run 3 1\n"
    ++ codes "119 prio 3 20\n122 prio 3 10\n123 print pump 50\n124 end 3 1\n125 idle\n"
    ++ codes "2091 arrive 2 2\n2091 run 2 2\n2105 prio 2 20\n2109 prio 2 12\n2115 end 2 2\n2116 idle\n"
    ++ codes "2596 arrive 3 2\n2596 run 3 2\n2599 prio 3 20\n2602 prio 3 10\n2603 print pump 50\n2604 end 3 2\n"
    ++ codes "2605 idle\n4091 arrive 2 3\n4091 run 2 3\n4105 prio 2 20\n4109 prio 2 12\n4117 arrive 1 1\n"
    ++ codes "4118 run 1 1\n4121 prio 1 20\n4124 prio 1 18\n4125 print alarm 95\n4126 end 1 1\n4127 run 2 3\n"
    ++ codes "4127 end 2 3\n4128 idle\n5000 stopped\n"
unfolding computing_machine
reported = refl

pub controller_runs :
    printed ordinary_use (codes "B.java" ∷ codes "P.java" ∷ []) rising_level
    ≡ codes "30 mission Main\n51 register 1 Alarm 18\n72 register 2 Sensor 12\n89 register 3 Pump 10\n90 exec\n"
    ++ codes "91 arrive 2 1\n91 run 2 1\n96 arrive 3 1\n105 prio 2 20\n109 prio 2 12\n115 end 2 1\n116 run 3 1\n"
    ++ codes "119 prio 3 20\n122 prio 3 10\n123 print pump 50\n124 end 3 1\n125 idle\n"
    ++ codes "2091 arrive 2 2\n2091 run 2 2\n2105 prio 2 20\n2109 prio 2 12\n2115 end 2 2\n2116 idle\n"
    ++ codes "2596 arrive 3 2\n2596 run 3 2\n2599 prio 3 20\n2602 prio 3 10\n2603 print pump 50\n2604 end 3 2\n"
    ++ codes "2605 idle\n4091 arrive 2 3\n4091 run 2 3\n4105 prio 2 20\n4109 prio 2 12\n4117 arrive 1 1\n"
    ++ codes "4118 run 1 1\n4121 prio 1 20\n4124 prio 1 18\n4125 print alarm 95\n4126 end 1 1\n4127 run 2 3\n"
    ++ codes "4127 end 2 3\n4128 idle\n5000 stopped\n"
unfolding trace controller
controller_runs =
    ap (λ (r : RunSoFar). text ordinary_use.nodes (codes "B.java" ∷ codes "P.java" ∷ []) (reported_by 5000 r)) whole_run ∙ reported
