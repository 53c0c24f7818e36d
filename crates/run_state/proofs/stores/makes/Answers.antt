use Rattle.std.proofs.Common.{◌∙◌, ℕ, ap, subst, sym}
use Rattle.region_heap.specs.Contents.{is_open_area}
use Rattle.job_frames.specs.Frames.{activity_seen}
use Rattle.run_state.specs.declared.states.RunState.{RunState}
use Rattle.run_state.specs.Seen.{job_seen}
use Rattle.run_state.specs.Standing.{CloseInOrder}
use Rattle.run_state.proofs.MakingLemmas.{made_applied}
use Rattle.run_state.proofs.stores.makes.Goals as goal

pub make_object-found-requires-clause-open : goal.make_object-found-requires-clause-open
make_object-found-requires-clause-open c =
    let top = c.in_ok-area.ensures.top in
    ap (λ (a : ℕ). is_open_area c.args.state.now.memory a) top.area_is ∙ c.requires.open top.frame top.is

pub made-requires : goal.made-requires
made-requires c = λ e.
    subst (λ (st : RunState). CloseInOrder st.memory c.args.activity.frames) (sym (c.make_object-found.ensures.err e))
    c.requires.closes

pub returns : goal.returns
returns c = λ code.
    made_applied code c.args.state.now c.args.acting c.args.activity c.args.object.class c.in_ok-area.area
    c.args.object.slots.items c.make_object-found.result c.make_object-found.new.state c.made.new.state c.args.reported.now.items c.made.new.reported.items
    c.in_ok-area.ensures.area
    (c.make_object-found.ensures.made code (job_seen c.args.acting.job) (activity_seen code c.args.activity)
    c.args.acting.position)
    (λ f below e. c.in_ok-made.ensures code f below e)
