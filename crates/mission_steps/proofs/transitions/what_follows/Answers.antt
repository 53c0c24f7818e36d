use Rattle.mission_steps.proofs.transitions.what_follows.Goals as goal

pub returns-in-AllocSafelet : goal.returns-in-AllocSafelet
returns-in-AllocSafelet c = rw c.in-AllocSafelet.is (c.after_alloc_safelet.ensures c.args.known c.args.skips)

pub returns-in-GetSequencer : goal.returns-in-GetSequencer
returns-in-GetSequencer c = rw c.in-GetSequencer.is (c.after_get_sequencer.ensures c.args.known c.args.skips)

pub returns-in-GetNextMission : goal.returns-in-GetNextMission
returns-in-GetNextMission c = rw c.in-GetNextMission.is (c.after_get_next_mission.ensures c.args.known c.args.skips)

pub returns-in-Initialize : goal.returns-in-Initialize
returns-in-Initialize c = rw c.in-Initialize.is (c.after_initialize.ensures c.args.known)

pub returns-in-CleanUp : goal.returns-in-CleanUp
returns-in-CleanUp c = rw c.in-CleanUp.is (c.after_clean_up.ensures c.args.skips)
