use Rattle.std.specs.Prelude.{Option, is_some}
use Rattle.std.proofs.Common.{◌∙◌, ℕ, List, ap, arith, length, sym}
use Rattle.std.proofs.lemmas.Bool.{le-ltb, lt-ltb}
use Rattle.scj_model.specs.declared.handlers.HandlerRow.{HandlerRow}
use Rattle.scj_model.specs.Code.{code_of}
use Rattle.scj_model.specs.State.{with_activity}
use Rattle.scj_model.specs.Registry.{handler_number}
use Rattle.job_frames.specs.Frames.{activity_seen}
use Rattle.run_state.specs.Seen.{job_seen, state_of}
use Rattle.run_state.proofs.StepLemmas.{same_step}
use Rattle.mission_steps.specs.Asked.{newly_registered}
use Rattle.mission_steps.proofs.Going.{quietly}
use Rattle.mission_steps.proofs.Registering.{registered_already, registered_newly, registered_too_late, registered_too_many}
use Rattle.mission_steps.proofs.requests.register.Goals as goal

pub returns-then-not-is_init : goal.returns-then-not-is_init
unfolding state_of
returns-then-not-is_init c = λ r o e.
    same_step c.args.code.now c.fault_in.new.state c.args.reported.now.items c.fault_in.new.reported.items _ _
    (registered_too_late c.args.code.now
    (state_of c.args.code.now c.args.state.now)
    (job_seen c.args.acting.job) (activity_seen c.args.code.now c.args.activity) c.args.acting.position r o
    (with_activity (state_of c.args.code.now c.args.state.now) (job_seen c.args.acting.job)
    (activity_seen c.args.code.now c.args.activity))
    (sym c.is_init.ensures ∙ c.if-not-is_init.true)) (c.in_ok-fault_in.ensures c.args.code.now)

pub returns-then-is_some : goal.returns-then-is_some
unfolding state_of
returns-then-is_some c = λ r o e.
    same_step c.args.code.now c.put_back.new.state c.args.reported.now.items c.args.reported.now.items _ _
    (registered_already c.args.code.now
    (state_of c.args.code.now c.args.state.now)
    (job_seen c.args.acting.job) (activity_seen c.args.code.now c.args.activity) c.args.acting.position r o
    (with_activity (state_of c.args.code.now c.args.state.now) (job_seen c.args.acting.job)
    (activity_seen c.args.code.now c.args.activity))
    (sym c.is_init.ensures ∙ c.if-not-is_init.false)
    (ap (λ (at : ℕ). is_some (handler_number c.args.state.now.registry.items at))
    (sym (ap (λ (row : HandlerRow). row.at) e))
    ∙ (ap (λ (rows : List HandlerRow). is_some (handler_number rows c.args.row.at)) (sym c.as_slice.ensures.value)
    ∙ (ap (λ (number : Option ℕ). is_some number) (sym c.in_ok-handler_number.ensures)
    ∙ (sym c.is_some.ensures ∙ c.if-is_some.true)))))
    (quietly c.args.code.now c.put_back.new.state c.args.reported.now.items _
    (c.in_ok-put_back.ensures.put c.args.code.now))

pub returns-then-len-ge-MOST_HANDLERS : goal.returns-then-len-ge-MOST_HANDLERS
unfolding state_of
returns-then-len-ge-MOST_HANDLERS c = λ r o e.
    same_step c.args.code.now c.fault_in-then-len-ge-MOST_HANDLERS.new.state c.args.reported.now.items
    c.fault_in-then-len-ge-MOST_HANDLERS.new.reported.items _ _
    (registered_too_many c.args.code.now
    (state_of c.args.code.now c.args.state.now)
    (job_seen c.args.acting.job) (activity_seen c.args.code.now c.args.activity) c.args.acting.position r o
    (with_activity (state_of c.args.code.now c.args.state.now) (job_seen c.args.acting.job)
    (activity_seen c.args.code.now c.args.activity))
    (sym c.is_init.ensures ∙ c.if-not-is_init.false)
    (ap (λ (at : ℕ). is_some (handler_number c.args.state.now.registry.items at))
    (sym (ap (λ (row : HandlerRow). row.at) e))
    ∙ (ap (λ (rows : List HandlerRow). is_some (handler_number rows c.args.row.at)) (sym c.as_slice.ensures.value)
    ∙ (ap (λ (number : Option ℕ). is_some number) (sym c.in_ok-handler_number.ensures)
    ∙ (sym c.is_some.ensures ∙ c.if-is_some.false))))
    (le-ltb (length c.args.state.now.registry.items) 64 (omega (arith, c.len.ensures, c.if-len-ge-MOST_HANDLERS.true))))
    (c.in_ok-fault_in-2.ensures c.args.code.now)

pub returns : goal.returns
unfolding state_of
returns c = λ r o e.
    same_step c.args.code.now c.enter.new.state c.args.reported.now.items c.enter.new.reported.items _ _
    (registered_newly c.args.code.now
    (state_of c.args.code.now c.args.state.now)
    (job_seen c.args.acting.job) (activity_seen c.args.code.now c.args.activity) c.args.acting.position r o
    (with_activity (state_of c.args.code.now c.args.state.now) (job_seen c.args.acting.job)
    (activity_seen c.args.code.now c.args.activity))
    (sym c.is_init.ensures ∙ c.if-not-is_init.false)
    (ap (λ (at : ℕ). is_some (handler_number c.args.state.now.registry.items at))
    (sym (ap (λ (row : HandlerRow). row.at) e))
    ∙ (ap (λ (rows : List HandlerRow). is_some (handler_number rows c.args.row.at)) (sym c.as_slice.ensures.value)
    ∙ (ap (λ (number : Option ℕ). is_some number) (sym c.in_ok-handler_number.ensures)
    ∙ (sym c.is_some.ensures ∙ c.if-is_some.false))))
    (lt-ltb (length c.args.state.now.registry.items) 64 (omega (arith, c.len.ensures, c.if-len-ge-MOST_HANDLERS.false)))
    ∙ ap (λ (row : HandlerRow). newly_registered (code_of c.args.code.now.program)
    (state_of c.args.code.now c.args.state.now) row
    (with_activity (state_of c.args.code.now c.args.state.now) (job_seen c.args.acting.job)
    (activity_seen c.args.code.now c.args.activity))) (sym e))
    c.in_ok-enter.ensures
