use Rattle.std.proofs.Common.{None, refl}
use Rattle.scj_model.specs.Sequencer.{sequencer_op}
use Rattle.mission_steps.proofs.Going.{no_step}
use Rattle.mission_steps.proofs.operations.operate.Goals as goal

pub returns-in-OpenImmortal : goal.returns-in-OpenImmortal
returns-in-OpenImmortal c = rw c.in-OpenImmortal.is (c.open_immortal.ensures)

pub returns-in-AllocSafelet : goal.returns-in-AllocSafelet
returns-in-AllocSafelet c = rw c.in-AllocSafelet.is (c.alloc_safelet.ensures)

pub returns-in-ConstructSafelet : goal.returns-in-ConstructSafelet
returns-in-ConstructSafelet c = rw c.in-ConstructSafelet.is (c.construct.ensures c.args.reported.now.items)

pub returns-in-InitializeApplication : goal.returns-in-InitializeApplication
unfolding sequencer_op
returns-in-InitializeApplication c = rw c.in-InitializeApplication.is (c.call_method.ensures c.args.reported.now.items)

pub returns-in-GetSequencer : goal.returns-in-GetSequencer
unfolding sequencer_op
returns-in-GetSequencer c = rw c.in-GetSequencer.is (c.call_method-in-GetSequencer.ensures c.args.reported.now.items)

pub returns-in-GetNextMission : goal.returns-in-GetNextMission
unfolding sequencer_op
returns-in-GetNextMission c = rw c.in-GetNextMission.is (c.call_method-in-GetNextMission.ensures c.args.reported.now.items)

pub returns-in-OpenMission : goal.returns-in-OpenMission
returns-in-OpenMission c = rw c.in-OpenMission.is (c.open_mission.ensures)

pub returns-in-Initialize : goal.returns-in-Initialize
unfolding sequencer_op
returns-in-Initialize c = rw c.in-Initialize.is (c.call_method-in-Initialize.ensures c.args.reported.now.items)

pub returns-in-CleanUp : goal.returns-in-CleanUp
unfolding sequencer_op
returns-in-CleanUp c = rw c.in-CleanUp.is (c.call_method-in-CleanUp.ensures c.args.reported.now.items)

pub returns-in-Execute : goal.returns-in-Execute
unfolding sequencer_op
returns-in-Execute c = rw c.in-Execute.is (
    no_step c.args.code.now c.args.state.now c.args.reported.now.items c.args.reported.now.items None refl)

pub returns-in-Finished : goal.returns-in-Finished
unfolding sequencer_op
returns-in-Finished c = rw c.in-Finished.is (
    no_step c.args.code.now c.args.state.now c.args.reported.now.items c.args.reported.now.items None refl)

pub alloc_safelet-requires-clause-numbers : goal.alloc_safelet-requires-clause-numbers
alloc_safelet-requires-clause-numbers c = c.requires.numbers.objects

pub construct-requires : goal.construct-requires
construct-requires c = rw c.in-ConstructSafelet.is at c.requires.live

pub open_mission-requires-clause-live : goal.open_mission-requires-clause-live
open_mission-requires-clause-live c = rw c.in-OpenMission.is at c.requires.live

pub call_method-requires-clause-live : goal.call_method-requires-clause-live
call_method-requires-clause-live c = rw c.in-InitializeApplication.is at c.requires.live

pub call_method-requires-in-GetSequencer-clause-live : goal.call_method-requires-in-GetSequencer-clause-live
call_method-requires-in-GetSequencer-clause-live c = rw c.in-GetSequencer.is at c.requires.live

pub call_method-requires-in-GetNextMission-clause-live : goal.call_method-requires-in-GetNextMission-clause-live
call_method-requires-in-GetNextMission-clause-live c = rw c.in-GetNextMission.is at c.requires.live

pub call_method-requires-in-Initialize-clause-live : goal.call_method-requires-in-Initialize-clause-live
call_method-requires-in-Initialize-clause-live c = rw c.in-Initialize.is at c.requires.live

pub call_method-requires-in-CleanUp-clause-live : goal.call_method-requires-in-CleanUp-clause-live
call_method-requires-in-CleanUp-clause-live c = rw c.in-CleanUp.is at c.requires.live
