use Rattle.std.proofs.Common.{◌∙◌, ap, subst, sym, option_map}
use Rattle.scj_model.specs.Code.{code_of}
use Rattle.scj_model.specs.State.{activity_of}
use Rattle.job_frames.specs.Frames.{activity_seen}
use Rattle.area_needs.specs.Refusals.{refused_by, refused_on}
use Rattle.job_frames.specs.EffectsSeen.{effect_seen}
use Rattle.job_frames.specs.Frames.{below, frame_of}
use Rattle.region_heap.specs.Contents.{Contents, with_memory}
use Rattle.run_state.specs.Seen.{job_seen, state_of}
use Rattle.run_state.specs.Standing.{HasNumbers}
use Rattle.unit_steps.proofs.NextOperation.{not_taken, nothing_led, operation_led, taken_is}
use Rattle.unit_steps.specs.Refused.{went}
use Rattle.unit_steps.proofs.RefusedTurns.{refused_there, refuses_as}
use Rattle.unit_steps.proofs.Standing.{effect_stands, has_effect, left_stands, same_memory}
use Rattle.unit_steps.proofs.frame_ops.frame_op.Goals as goal

pub returns-in_default-clause-led : goal.returns-in_default-clause-led
returns-in_default-clause-led c = λ activity e.
    let code = c.args.code.now in
    absurd
    (not_taken (activity_of (state_of code c.args.state.now) (job_seen c.args.job)) activity
    (ap (option_map (activity_seen code)) (sym c.in_default.is) ∙ c.take_out.ensures.taken code) e)

pub returns-in_default-2-clause-led : goal.returns-in_default-2-clause-led
returns-in_default-2-clause-led c = λ activity e.
    let code = c.args.code.now in
    let found = activity_of (state_of code c.args.state.now) (job_seen c.args.job) in
    nothing_led code c.args.plan.now.readings (state_of code c.args.state.now) c.args.job c.take_out.new.state
    c.in-Some.activity activity c.args.reported.now.items c.args.reported.now.items
    (taken_is code found c.in-Some.activity activity (c.in-Some.ensures.taken code) e)
    (rw c.in_default-2.is at c.in_ok-done.ensures.none)

pub apply_effect-requires : goal.apply_effect-requires
apply_effect-requires c =
    let code = c.args.code.now in
    let next = rw c.in-Some-2.is at c.in_ok-done.ensures.some in
    record {
      stands = left_stands code c.args.plan.now.readings c.args.state.now c.take_out.new.state (job_seen c.args.job)
          c.in-Some.activity c.next_on_top.new.frames c.in-Some-2.done.op c.in-Some-2.done.effect
          (c.in-Some.ensures.left code) (sym (c.in-Some.ensures.taken code)) c.requires.stands next;
      numbers = subst (λ (m : Contents). HasNumbers m)
          (sym (same_memory code c.args.plan.now.readings c.args.state.now c.take_out.new.state (job_seen c.args.job)
          c.in-Some.activity c.next_on_top.new.frames c.in-Some-2.done.op c.in-Some-2.done.effect
          (c.in-Some.ensures.left code) (sym (c.in-Some.ensures.taken code)) c.requires.stands next))
          c.requires.numbers;
      effect = effect_stands code c.args.plan.now.readings c.args.state.now c.take_out.new.state (job_seen c.args.job)
          c.in-Some.activity c.next_on_top.new.frames c.in-Some-2.done.op c.in-Some-2.done.effect
          (c.in-Some.ensures.left code) (sym (c.in-Some.ensures.taken code)) c.requires.stands next;
    }

pub returns-clause-led : goal.returns-clause-led
returns-clause-led c = λ activity e.
    let code = c.args.code.now in
    let found = activity_of (state_of code c.args.state.now) (job_seen c.args.job) in
    let next = rw c.in-Some-2.is at c.in_ok-done.ensures.some in
    operation_led code c.args.plan.now.readings (state_of code c.args.state.now)
    (record { job = c.args.job; position = c.position_of.result }) c.take_out.new.state c.apply_effect.new.state c.in-Some.activity
    activity c.next_on_top.new.frames (went c.in_ok-acted.acted) c.args.reported.now.items c.apply_effect.new.reported.items c.in-Some-2.done.op
    c.in-Some-2.done.effect (taken_is code found c.in-Some.activity activity (c.in-Some.ensures.taken code) e)
    next
    (has_effect code c.args.plan.now.readings c.args.state.now c.take_out.new.state (job_seen c.args.job)
    c.in-Some.activity c.next_on_top.new.frames c.in-Some-2.done.op c.in-Some-2.done.effect
    (c.in-Some.ensures.left code) (sym (c.in-Some.ensures.taken code)) c.requires.stands next) c.position_of.ensures (c.in-Some.ensures.left code)
    c.in_ok-acted.ensures.applied

pub returns-clause-refused : goal.returns-clause-refused
returns-clause-refused c = λ activity e.
    let code = c.args.code.now in
    let s = state_of code c.args.state.now in
    let found = activity_of s (job_seen c.args.job) in
    let next = rw c.in-Some-2.is at c.in_ok-done.ensures.some in
    let effect = effect_seen code c.in-Some-2.done.effect (frame_of code next.changed) in
    refuses_as c.in_ok-acted.acted (refused_by (with_memory s c.take_out.new.state.memory) effect)
    (refused_on (code_of code.program) c.args.plan.now.readings s activity.frames)
    (refused_there code c.args.plan.now.readings c.args.state.now c.take_out.new.state.memory activity
    c.in-Some.activity (below c.in-Some.activity.frames) next.top c.in-Some-2.done.op next.done.left effect
    (same_memory code c.args.plan.now.readings c.args.state.now c.take_out.new.state (job_seen c.args.job)
    c.in-Some.activity c.next_on_top.new.frames c.in-Some-2.done.op c.in-Some-2.done.effect
    (c.in-Some.ensures.left code) (sym (c.in-Some.ensures.taken code)) c.requires.stands next)
    (taken_is code found c.in-Some.activity activity (c.in-Some.ensures.taken code) e) next.was next.done.next
    (has_effect code c.args.plan.now.readings c.args.state.now c.take_out.new.state (job_seen c.args.job)
    c.in-Some.activity c.next_on_top.new.frames c.in-Some-2.done.op c.in-Some-2.done.effect
    (c.in-Some.ensures.left code) (sym (c.in-Some.ensures.taken code)) c.requires.stands next))
    (c.in_ok-acted.ensures.refused s next.changed (below c.in-Some.activity.frames) next.is)
