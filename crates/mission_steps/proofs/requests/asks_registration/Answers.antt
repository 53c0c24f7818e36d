use Rattle.std.proofs.Common.{◌≡◌, ◌∙◌, ap, option_map, slice_get, sym, Some}
use Rattle.scj_model.specs.Code.{code_of}
use Rattle.scj_model.specs.State.{Object}
use Rattle.scj_model.specs.Effects.{AsksRegistration}
use Rattle.scj_model.specs.Registry.{new_row}
use Rattle.scj_model.specs.Apply.{applied, registered, with_frame}
use Rattle.job_frames.specs.Frames.{activity_seen}
use Rattle.run_state.specs.Seen.{job_seen, state_of}
use Rattle.mission_steps.proofs.Going.{effect_after, no_effect}
use Rattle.mission_steps.proofs.Registering.{row_nowhere, row_there}
use Rattle.mission_steps.proofs.requests.asks_registration.Goals as goal

pub returns-in_default : goal.returns-in_default
unfolding applied state_of
returns-in_default c =
    no_effect c.args.code.now c.args.state.now c.args.acting c.args.activity
    (λ f. AsksRegistration f c.args.r)
    c.args.state.now c.args.reported.now.items c.args.reported.now.items
    (λ f below. ap (option_map (λ (o : Object).
    registered (code_of c.args.code.now.program) (state_of c.args.code.now c.args.state.now)
    (job_seen c.args.acting.job) (activity_seen c.args.code.now c.args.activity) c.args.acting.position c.args.r
    o
    (with_frame (state_of c.args.code.now c.args.state.now) (job_seen c.args.acting.job)
    (activity_seen c.args.code.now c.args.activity) f below)))
    (row_nowhere (code_of c.args.code.now.program).program c.args.r (slice_get c.args.state.now.memory.objects c.args.r)
    (sym c.in_default.is ∙ c.in_ok-row.ensures)))

pub returns : goal.returns
unfolding applied state_of
returns c =
    let there : (o : Object) × (slice_get c.args.state.now.memory.objects c.args.r ≡ Some o)
    × (c.in-Some.row ≡ new_row (code_of c.args.code.now.program).program c.args.r o) =
    row_there (code_of c.args.code.now.program).program c.args.r (slice_get c.args.state.now.memory.objects c.args.r)
    c.in-Some.row (sym c.in-Some.is ∙ c.in_ok-row.ensures) in
    effect_after c.args.code.now c.args.state.now c.args.acting c.args.activity
    (λ f. AsksRegistration f c.args.r)
    c.register.new.state c.args.reported.now.items c.register.new.reported.items
    (λ s. registered (code_of c.args.code.now.program) (state_of c.args.code.now c.args.state.now)
    (job_seen c.args.acting.job) (activity_seen c.args.code.now c.args.activity) c.args.acting.position c.args.r
    there.0 s)
    (λ f below. ap (option_map (λ (o : Object).
    registered (code_of c.args.code.now.program) (state_of c.args.code.now c.args.state.now)
    (job_seen c.args.acting.job) (activity_seen c.args.code.now c.args.activity) c.args.acting.position c.args.r
    o
    (with_frame (state_of c.args.code.now c.args.state.now) (job_seen c.args.acting.job)
    (activity_seen c.args.code.now c.args.activity) f below))) there.1)
    (c.in_ok-register.ensures c.args.r there.0 there.2)
