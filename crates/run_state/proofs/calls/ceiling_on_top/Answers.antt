use Rattle.std.specs.Prelude.{Some}
use Rattle.std.proofs.Common.{◌∙◌, ap}
use Rattle.scj_model.specs.Code.{code_of}
use Rattle.scj_model.specs.Effects.{monitor_of}
use Rattle.scj_model.specs.State.{Frame}
use Rattle.run_state.specs.Seen.{state_of}
use Rattle.run_state.proofs.CallLemmas.{ceiling_there, live_monitor, no_monitor, no_object, top_is}
use Rattle.run_state.proofs.calls.ceiling_on_top.Goals as goal

pub returns-in-Some-object : goal.returns-in-Some-object
unfolding state_of
returns-in-Some-object c = λ g before h.
    let same = top_is c.args.code.now g before c.args.activity.now c.in-Some.frame.now h c.in-Some.ensures in
    ap Some c.ceiling.ensures
    ∙ ceiling_there c.args.code.now (state_of c.args.code.now c.args.state.now) g
    c.in-Some-monitor.r c.in-Some-object.object
    (c.in-Some-monitor.ensures ∙ ap (λ (f : Frame). monitor_of (code_of c.args.code.now.program) f) same)
    (c.in-Some-object.ensures ∙ live_monitor c.args.code.now c.args.state.now.memory c.args.activity.now
    c.in-Some.frame.now c.in-Some-monitor.r c.requires c.in-Some.ensures c.in-Some-monitor.ensures)

pub returns-in-None-object : goal.returns-in-None-object
unfolding state_of
returns-in-None-object c = λ g before h.
    let same = top_is c.args.code.now g before c.args.activity.now c.in-Some.frame.now h c.in-Some.ensures in
    no_object c.args.code.now (state_of c.args.code.now c.args.state.now) g c.in-Some-monitor.r
    (c.in-Some-monitor.ensures ∙ ap (λ (f : Frame). monitor_of (code_of c.args.code.now.program) f) same)
    (c.in-None-object.ensures ∙ live_monitor c.args.code.now c.args.state.now.memory c.args.activity.now
    c.in-Some.frame.now c.in-Some-monitor.r c.requires c.in-Some.ensures c.in-Some-monitor.ensures)

pub returns-in-None-monitor : goal.returns-in-None-monitor
returns-in-None-monitor c = λ g before h.
    let same = top_is c.args.code.now g before c.args.activity.now c.in-Some.frame.now h c.in-Some.ensures in
    no_monitor c.args.code.now (state_of c.args.code.now c.args.state.now) g
    (c.in-None-monitor.ensures ∙ ap (λ (f : Frame). monitor_of (code_of c.args.code.now.program) f) same)
