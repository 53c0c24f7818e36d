use Rattle.std.proofs.Common.{ap, refl}
use Rattle.scj_base.specs.declared.faults.RunFault.TheVariants.{NotInitializing}
use Rattle.scj_model.specs.State.{changed}
use Rattle.scj_model.specs.Steps.{fault_in}
use Rattle.scj_model.specs.Effects.{SetsCeiling}
use Rattle.scj_model.specs.Apply.{applied, with_ceiling}
use Rattle.job_frames.specs.Frames.{activity_seen}
use Rattle.region_heap.specs.Contents.{Contents}
use Rattle.run_state.specs.declared.states.RunState.{RunState}
use Rattle.run_state.specs.Seen.{job_seen, state_of}
use Rattle.run_state.proofs.StepLemmas.{applied_as, applied_on_memory}
use Rattle.run_state.proofs.stores.sets_ceiling.Goals as goal

pub returns-in_ok-put_back-in-Sequencer : goal.returns-in_ok-put_back-in-Sequencer
unfolding applied state_of
returns-in_ok-put_back-in-Sequencer c = λ code.
    applied_on_memory code c.args.state.now c.args.acting c.args.activity (λ f. SetsCeiling f c.args.r c.args.ceiling)
    c.set_ceiling.new.self c.put_back.new.state c.args.reported.now.items
    (record (state_of code c.args.state.now) {
      objects = changed (with_ceiling c.args.ceiling) c.args.r (state_of code c.args.state.now).objects;
    }) (λ f below. rw c.in-Sequencer.is refl)
    (ap (λ (m : Contents). state_of code (let st : RunState = record c.args.state.now { memory = m } in st))
    c.set_ceiling.ensures)
    (c.in_ok-put_back-in-Sequencer.ensures.put code)

pub returns-in_ok-fault_in-in-Release : goal.returns-in_ok-fault_in-in-Release
unfolding applied
returns-in_ok-fault_in-in-Release c = λ code.
    applied_as code c.args.state.now c.args.acting c.args.activity (λ f. SetsCeiling f c.args.r c.args.ceiling)
    c.fault_in.new.state c.args.reported.now.items c.fault_in.new.reported.items
    (fault_in (state_of code c.args.state.now) (job_seen c.args.acting.job) (activity_seen code c.args.activity)
    c.args.acting.position NotInitializing)
    (λ f below e. rw c.in-Release.is refl) (c.in_ok-fault_in-in-Release.ensures code)
