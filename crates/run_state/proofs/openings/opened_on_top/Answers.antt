use Rattle.std.proofs.Common.{◌∙◌, ap, subst, sym}
use Rattle.std.proofs.lemmas.List.{append-nil}
use Rattle.scj_model.specs.State.{Activity, with_activity}
use Rattle.job_frames.specs.Frames.{activity_seen, below, frames_of}
use Rattle.run_state.specs.declared.states.RunState.{RunState}
use Rattle.run_state.specs.Standing.{CloseInOrder}
use Rattle.run_state.specs.Seen.{job_seen, state_of}
use Rattle.run_state.proofs.OpeningLemmas.{opened_step, unopened_step}
use Rattle.run_state.proofs.openings.opened_on_top.Goals as goal

pub refused-requires : goal.refused-requires
refused-requires c =
    subst (λ (st : RunState). CloseInOrder st.memory (below c.args.activity.frames))
    (sym (c.open_area.ensures.err c.in-None.is)) c.requires.closes

pub returns-in_ok-put_back-in-Some : goal.returns-in_ok-put_back-in-Some
returns-in_ok-put_back-in-Some c = λ code g before h.
    opened_step code (state_of code c.args.state.now) (job_seen c.args.acting.job) (activity_seen code before)
    (frames_of code before.frames) c.args.acting.position g c.args.area.scope c.args.area.parent c.args.area.bytes
    (state_of code c.open_area.new.state) c.put_back.new.state c.args.reported.now.items c.args.reported.now.items
    c.in-Some.opened
    (rw c.in-Some.is at
    (c.open_area.ensures.opened code (job_seen c.args.acting.job)
    (activity_seen code before) c.args.acting.position))
    (record {
      state = c.in_ok-put_back-in-Some.ensures.put code ∙ ap (λ (a : Activity).
          with_activity (state_of code c.open_area.new.state) (job_seen c.args.acting.job) a)
          (c.in_ok-move_in-in-Some.ensures.moved code g before h);
      reported = sym (append-nil c.args.reported.now.items);
    })

pub returns-in_ok-refused-in-None : goal.returns-in_ok-refused-in-None
returns-in_ok-refused-in-None c = λ code g before h.
    unopened_step code (state_of code c.args.state.now) (job_seen c.args.acting.job) (activity_seen code before)
    (frames_of code before.frames) c.args.acting.position g c.args.area.scope c.args.area.parent c.args.area.bytes
    (state_of code c.open_area.new.state) c.refused.new.state c.args.reported.now.items c.refused.new.reported.items
    (rw c.in-None.is at
    (c.open_area.ensures.opened code (job_seen c.args.acting.job)
    (activity_seen code before) c.args.acting.position))
    (c.in_ok-refused-in-None.ensures code g before h)
