use Rattle.std.proofs.Common.{refl, Some}
use Rattle.scj_model.specs.Sequencer.{seq_applied}
use Rattle.run_state.specs.declared.states.RunState.{RunState}
use Rattle.run_state.specs.Seen.{state_of}
use Rattle.mission_steps.proofs.Going.{quietly, still}
use Rattle.mission_steps.proofs.applied.seq_applied.Goals as goal

pub returns-in-Continues : goal.returns-in-Continues
unfolding seq_applied state_of
returns-in-Continues c = rw c.in-Continues.is (
    still c.args.code.now c.args.state.now c.args.reported.now.items)

pub returns-in-TakesSafelet : goal.returns-in-TakesSafelet
unfolding seq_applied state_of
returns-in-TakesSafelet c = rw c.in-TakesSafelet.is (
    let st : RunState = record c.args.state.now { safelet = Some c.in-TakesSafelet.r } in
    quietly c.args.code.now st c.args.reported.now.items (state_of c.args.code.now st) refl)

pub returns-in-TakesSequencer : goal.returns-in-TakesSequencer
unfolding seq_applied state_of
returns-in-TakesSequencer c = rw c.in-TakesSequencer.is (
    let st : RunState = record c.args.state.now { mission_sequencer = Some c.in-TakesSequencer.r } in
    quietly c.args.code.now st c.args.reported.now.items (state_of c.args.code.now st) refl)

pub returns-in-TakesMission : goal.returns-in-TakesMission
unfolding seq_applied state_of
returns-in-TakesMission c = rw c.in-TakesMission.is (
    quietly c.args.code.now c.take_mission.new.state c.args.reported.now.items _
    (c.take_mission.ensures.taken c.args.code.now))

pub returns-in-ClosesMission : goal.returns-in-ClosesMission
unfolding seq_applied state_of
returns-in-ClosesMission c = rw c.in-ClosesMission.is (
    quietly c.args.code.now c.close_mission.new.state c.args.reported.now.items _
    (c.close_mission.ensures.closed c.args.code.now))

pub returns-in_ok-report-in-LacksMission : goal.returns-in_ok-report-in-LacksMission
unfolding seq_applied state_of
returns-in_ok-report-in-LacksMission c = rw c.in-LacksMission.is (record {
  state = refl;
  reported = c.in_ok-report-in-LacksMission.ensures;
})

pub returns-in_ok-report_two-in-SkipsExecution : goal.returns-in_ok-report_two-in-SkipsExecution
unfolding seq_applied state_of
returns-in_ok-report_two-in-SkipsExecution c = rw c.in-SkipsExecution.is (record {
  state = refl;
  reported = c.in_ok-report_two-in-SkipsExecution.ensures;
})

pub returns-in_ok-report-in-EndsExecution : goal.returns-in_ok-report-in-EndsExecution
unfolding seq_applied state_of
returns-in_ok-report-in-EndsExecution c = rw c.in-EndsExecution.is (record {
  state = refl;
  reported = c.in_ok-report-in-EndsExecution.ensures;
})

pub lack_sequencer-requires : goal.lack_sequencer-requires
lack_sequencer-requires c = rw c.in-LacksSequencer.is at c.requires

pub begin_mission-requires : goal.begin_mission-requires
begin_mission-requires c = rw c.in-BeginsMission.is at c.requires

pub close_mission-requires : goal.close_mission-requires
close_mission-requires c = rw c.in-ClosesMission.is at c.requires
