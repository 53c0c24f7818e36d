use Rattle.std.specs.Prelude.{true, false}
use Rattle.std.proofs.Common.{◌≡◌, ◌∙◌, ap, rules, sym}
use Rattle.std.proofs.lemmas.Bool.{le-ltb, lt-ltb}
use Rattle.std.proofs.lemmas.List.{append-nil}
use Rattle.scj_rules.specs.Contexts.{declarations_of}
use Rattle.scj_model.specs.Code.{code_of}
use Rattle.scj_model.specs.State.{Activity, with_activity}
use Rattle.job_frames.specs.declared.activities.Activity.{Activity as StoredActivity}
use Rattle.job_frames.specs.Frames.{activity_seen, frames_of}
use Rattle.run_state.specs.Seen.{job_seen, state_of}
use Rattle.run_state.proofs.CallLemmas.{called_above, called_entering, called_full, called_plainly, on_top_seen}
use Rattle.run_state.proofs.StepLemmas.{same_step}
use Rattle.run_state.proofs.calls.called.Goals as goal

pub returns-then-was_full : goal.returns-then-was_full
unfolding code_of declarations_of
returns-then-was_full c = λ g before h.
    let code = c.args.code.now in
    let full : c.was_full.result ≡ true = search rules in
    same_step code c.refused.new.state c.args.reported.now.items c.refused.new.reported.items _ _
    (called_full code (state_of code c.args.state.now) (job_seen c.args.acting.job) (activity_seen code before)
    (frames_of code before.frames) c.args.acting.position g (sym (c.was_full.ensures.full code g before h) ∙ full))
    (c.in_ok-refused.ensures code g before h)

pub returns-in_ok-put_back-in-None : goal.returns-in_ok-put_back-in-None
unfolding code_of declarations_of
returns-in_ok-put_back-in-None c = λ g before h.
    let code = c.args.code.now in
    let few : c.was_full.result ≡ false = search rules in
    same_step code c.put_back.new.state c.args.reported.now.items c.args.reported.now.items _ _
    (called_plainly code (state_of code c.args.state.now) (job_seen c.args.acting.job) (activity_seen code before)
    (frames_of code before.frames) c.args.acting.position g (sym (c.was_full.ensures.full code g before h) ∙ few)
    (sym (c.in-None.ensures g before h)))
    (record {
      state = c.in_ok-put_back-in-None.ensures.put code ∙ ap (λ (a : Activity).
          with_activity (state_of code c.args.state.now) (job_seen c.args.acting.job) a)
          (on_top_seen code g before c.args.activity h);
      reported = sym (append-nil c.args.reported.now.items);
    })

pub returns-in_ok-refused-in-Some : goal.returns-in_ok-refused-in-Some
unfolding code_of declarations_of
returns-in_ok-refused-in-Some c = λ g before h.
    let code = c.args.code.now in
    let few : c.was_full.result ≡ false = search rules in
    same_step code c.refused-then-ceiling-activity.new.state c.args.reported.now.items c.refused-then-ceiling-activity.new.reported.items _ _
    (called_above code (state_of code c.args.state.now) (job_seen c.args.acting.job) (activity_seen code before)
    (frames_of code before.frames) c.args.acting.position g c.in-Some.ceiling
    (sym (c.was_full.ensures.full code g before h) ∙ few) (sym (c.in-Some.ensures g before h))
    (lt-ltb c.in-Some.ceiling before.priority
    (rw (sym (ap (λ (a : StoredActivity). a.priority) h.whole)) (search rules))))
    (c.in_ok-refused-in-Some.ensures code g before h)

pub returns-in_ok-entered-in-Some : goal.returns-in_ok-entered-in-Some
unfolding code_of declarations_of
returns-in_ok-entered-in-Some c = λ g before h.
    let code = c.args.code.now in
    let few : c.was_full.result ≡ false = search rules in
    same_step code c.entered.new.state c.args.reported.now.items c.entered.new.reported.items _ _
    (called_entering code (state_of code c.args.state.now) (job_seen c.args.acting.job) (activity_seen code before)
    (frames_of code before.frames) c.args.acting.position g c.in-Some.ceiling
    (sym (c.was_full.ensures.full code g before h) ∙ few) (sym (c.in-Some.ensures g before h))
    (le-ltb c.in-Some.ceiling before.priority
    (rw (sym (ap (λ (a : StoredActivity). a.priority) h.whole)) (search rules))))
    (c.in_ok-entered-in-Some.ensures code g before h)
