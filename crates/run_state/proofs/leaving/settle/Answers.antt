use Rattle.std.proofs.Common.{◌≡◌, ◌∙◌, rules, sym}
use Rattle.std.proofs.lemmas.List.{append-nil}
use Rattle.scj_model.specs.State.{with_activity}
use Rattle.scj_model.specs.Steps.{silently}
use Rattle.job_frames.specs.Frames.{activity_seen}
use Rattle.run_state.specs.Seen.{job_seen, state_of}
use Rattle.run_state.proofs.LeavingLemmas.{settled_end, settled_on}
use Rattle.run_state.proofs.StepLemmas.{same_step}
use Rattle.run_state.proofs.leaving.settle.Goals as goal

pub returns-in_ok-job_ended : goal.returns-in_ok-job_ended
returns-in_ok-job_ended c = λ code below count.
    let none : c.depth.result ≡ 0 = search rules in
    same_step code c.job_ended.new.state c.args.reported.now.items c.job_ended.new.reported.items _ _
    (settled_end (state_of code c.args.state.now) (job_seen c.args.job) (activity_seen code c.args.activity)
    c.args.value below
    (count ∙ (sym c.depth.ensures ∙ none)))
    (c.in_ok-job_ended.ensures code)

pub returns-in_ok-put_back : goal.returns-in_ok-put_back
returns-in_ok-put_back c = λ code below count.
    let some : c.depth.result ≡ 0 → ⊥ = search rules in
    same_step code c.put_back.new.state c.args.reported.now.items c.args.reported.now.items
    (silently
    (with_activity (state_of code c.args.state.now) (job_seen c.args.job) (activity_seen code c.args.activity))) _
    (settled_on (state_of code c.args.state.now) (job_seen c.args.job) (activity_seen code c.args.activity) c.args.value
    below
    (λ e. some (c.depth.ensures ∙ (sym count ∙ e))))
    (record {
      state = c.in_ok-put_back.ensures.put code;
      reported = sym (append-nil c.args.reported.now.items);
    })
