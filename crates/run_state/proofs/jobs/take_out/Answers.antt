use Rattle.std.specs.Prelude.{Option, Some, None, OnSome, IfNone, option_map}
use Rattle.std.proofs.Common.{◌≡◌, ◌∙◌, ap, refl, sym}
use Rattle.op_list.specs.Listed.{Listing}
use Rattle.scj_model.specs.State.{ReleaseAt, activity_of, with_activity}
use Rattle.scj_model.specs.Run.{no_activity}
use Rattle.job_frames.specs.declared.activities.Activity.{Activity as StoredActivity}
use Rattle.job_frames.specs.Frames.{activity_seen}
use Rattle.run_releases.specs.Rows.{StoredReleases}
use Rattle.run_state.specs.declared.states.RunState.{RunState}
use Rattle.run_state.specs.Seen.{state_of}
use Rattle.run_state.proofs.JobLemmas.{emptied, found_activity, not_emptied}
use Rattle.run_state.proofs.jobs.take_out.Goals as goal

pub returns-in-Sequencer-clause-taken : goal.returns-in-Sequencer-clause-taken
unfolding state_of activity_of
returns-in-Sequencer-clause-taken c = λ code.
    rw (c.in-Sequencer.is, c.replace.ensures.value) refl

pub returns-in-Sequencer-clause-left : goal.returns-in-Sequencer-clause-left
unfolding state_of with_activity
returns-in-Sequencer-clause-left c = λ code.
    rw (c.in-Sequencer.is, c.replace.ensures.after, c.empty.ensures) refl

pub returns-in-Release-clause-taken : goal.returns-in-Release-clause-taken
returns-in-Release-clause-taken c = λ code.
    rw c.in-Release.is (ap (option_map (activity_seen code)) c.take_activity.ensures.taken
    ∙ found_activity code c.args.state.now c.in-Release.index)

pub returns-in-Release-clause-left : goal.returns-in-Release-clause-left
returns-in-Release-clause-left c = λ code. rw c.in-Release.is (left code c.take_activity.result refl)
  where
    left : (code : Listing) (o : Option StoredActivity) → c.take_activity.result ≡ o →
        OnSome o
        (state_of code (let st : RunState = record c.args.state.now { releases = c.take_activity.new.self } in st)
        ≡ with_activity (state_of code c.args.state.now) (ReleaseAt c.in-Release.index) no_activity)
    left code None e = tt
    left code (Some a) e =
        ap (λ (rs : StoredReleases). state_of code (let st : RunState = record c.args.state.now { releases = rs } in
        st))
        c.take_activity.ensures.left
        ∙ emptied code c.args.state.now c.in-Release.index a (sym c.take_activity.ensures.taken ∙ e)

pub returns-in-Release-clause-missing : goal.returns-in-Release-clause-missing
returns-in-Release-clause-missing c = missing c.take_activity.result refl
  where
    missing : (o : Option StoredActivity) → c.take_activity.result ≡ o →
        IfNone o (let st : RunState = record c.args.state.now { releases = c.take_activity.new.self } in
        st ≡ c.args.state.now)
    missing None e =
        ap (λ (rs : StoredReleases). let st : RunState = record c.args.state.now { releases = rs } in st)
        (c.take_activity.ensures.left
        ∙ not_emptied c.args.state.now.releases c.in-Release.index (sym c.take_activity.ensures.taken ∙ e))
    missing (Some a) e = tt
