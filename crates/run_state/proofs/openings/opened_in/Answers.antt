use Rattle.std.specs.Prelude.{true, false, is_some}
use Rattle.std.proofs.Common.{◌≡◌, ◌∙◌, ℕ, Option, ap, rules, sym}
use Rattle.scj_model.specs.Memory.{area_with_scope}
use Rattle.job_frames.specs.declared.activities.Activity.{Activity as StoredActivity}
use Rattle.job_frames.specs.Frames.{activity_seen, frames_of}
use Rattle.run_state.specs.Seen.{job_seen, state_of}
use Rattle.run_state.specs.Calls.{call_opened}
use Rattle.run_state.proofs.CallLemmas.{opened_in_cycle, opened_in_full, opened_in_new}
use Rattle.run_state.proofs.Standing.{fewer_below}
use Rattle.run_state.proofs.StepLemmas.{same_step}
use Rattle.run_state.proofs.openings.opened_in.Goals as goal

pub returns-then-is_cycle : goal.returns-then-is_cycle
returns-then-is_cycle c = λ code g before h.
    let cycle : c.is_cycle.result ≡ true = search rules in
    same_step code c.refused.new.state c.args.reported.now.items c.refused.new.reported.items _ _
    (opened_in_cycle code (state_of code c.args.state.now) (job_seen c.args.acting.job) (activity_seen code before)
    (frames_of code before.frames) c.args.acting.position g c.args.scope c.args.bytes
    (ap (λ (a : StoredActivity). is_some (area_with_scope (state_of code c.args.state.now) c.args.scope a.areas))
    (sym h.whole) ∙ (sym (c.is_cycle.ensures code) ∙ cycle)))
    (c.in_ok-refused.ensures code g before h)

pub returns-then-was_full : goal.returns-then-was_full
returns-then-was_full c = λ code g before h.
    let other : c.is_cycle.result ≡ false = search rules in
    let full : c.was_full.result ≡ true = search rules in
    same_step code c.refused-then-was_full.new.state c.args.reported.now.items c.refused-then-was_full.new.reported.items _ _
    (opened_in_full code (state_of code c.args.state.now) (job_seen c.args.acting.job) (activity_seen code before)
    (frames_of code before.frames) c.args.acting.position g c.args.scope c.args.bytes
    (ap (λ (a : StoredActivity). is_some (area_with_scope (state_of code c.args.state.now) c.args.scope a.areas))
    (sym h.whole) ∙ (sym (c.is_cycle.ensures code) ∙ other))
    (sym (c.was_full.ensures.full code g before h) ∙ full))
    (c.in_ok-refused-2.ensures code g before h)

pub returns : goal.returns
returns c = λ code g before h.
    let other : c.is_cycle.result ≡ false = search rules in
    let few : c.was_full.result ≡ false = search rules in
    same_step code c.opened_on_top.new.state c.args.reported.now.items c.opened_on_top.new.reported.items _ _
    (opened_in_new code (state_of code c.args.state.now) (job_seen c.args.acting.job) (activity_seen code before)
    (frames_of code before.frames) c.args.acting.position g c.args.scope c.args.bytes
    (ap (λ (a : StoredActivity). is_some (area_with_scope (state_of code c.args.state.now) c.args.scope a.areas))
    (sym h.whole) ∙ (sym (c.is_cycle.ensures code) ∙ other))
    (sym (c.was_full.ensures.full code g before h) ∙ few)
    ∙ ap (λ (parent : Option ℕ). call_opened (state_of code c.args.state.now) (job_seen c.args.acting.job)
    (activity_seen code before) (frames_of code before.frames) c.args.acting.position g c.args.scope parent c.args.bytes)
    (sym (c.area_on_top-parent.ensures code g before h)))
    (c.in_ok-opened_on_top.ensures code g before h)

pub opened_on_top-requires-clause-few : goal.opened_on_top-requires-clause-few
opened_on_top-requires-clause-few c =
    let fits : c.was_full.result ≡ false = search rules in
    c.requires.stands.few (fewer_below c.args.activity.frames (sym c.was_full.ensures.deep ∙ fits))
