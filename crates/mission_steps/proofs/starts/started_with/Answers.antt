use Rattle.std.proofs.Common.{Some, None, subst, sym}
use Rattle.scj_base.specs.declared.positions.Position.{Position}
use Rattle.scj_base.specs.declared.faults.RunFault.TheVariants.{StoreFull}
use Rattle.scj_rules.specs.Bodies.{class_position}
use Rattle.scj_model.specs.Code.{code_of}
use Rattle.scj_model.specs.State.{ReleaseAt}
use Rattle.scj_model.specs.Steps.{fault_in}
use Rattle.scj_model.specs.Run.{no_activity}
use Rattle.job_frames.specs.declared.activities.Activity.{Activity as StoredActivity}
use Rattle.job_frames.specs.Frames.{activity_seen}
use Rattle.run_state.specs.Seen.{state_of}
use Rattle.run_state.specs.Standing.{CloseInOrder}
use Rattle.run_state.specs.Steps.{IsStep}
use Rattle.mission_steps.proofs.Openings.{is_private, not_started, started_there}
use Rattle.mission_steps.proofs.starts.started_with.Goals as goal

pub returns-in_ok-put_back-in-Some : goal.returns-in_ok-put_back-in-Some
unfolding state_of
returns-in_ok-put_back-in-Some c =
    started_there c.args.code.now c.args.state.now c.args.start.now.index c.args.start.now.row
    c.args.start.now.scope c.args.start.now.body
    c.open_area.new.state c.put_back.new.state c.in-Some.area c.in_ok-activity-in-Some.activity c.in_ok-areas.areas
    c.args.reported.now.items
    (is_private c.args.code.now c.args.state.now c.args.start.now.index c.args.start.now.row
    c.args.start.now.scope c.args.start.now.body
    c.innermost-parent.result c.open_area.result (Some c.in-Some.area)
    (state_of c.args.code.now c.open_area.new.state) c.innermost-parent.ensures c.in-Some.is
    (c.open_area.ensures.opened c.args.code.now (ReleaseAt c.args.start.now.index) no_activity
    (class_position (code_of c.args.code.now.program).program c.args.start.now.row.class)))
    c.in_ok-areas.ensures c.in_ok-activity-in-Some.ensures.seen
    (c.in_ok-put_back-in-Some.ensures.put c.args.code.now)

pub returns-in_ok-fault_in-in-None : goal.returns-in_ok-fault_in-in-None
unfolding state_of
returns-in_ok-fault_in-in-None c =
    not_started c.args.code.now c.args.state.now c.args.start.now.index c.args.start.now.row
    c.args.start.now.scope c.args.start.now.body
    c.open_area.new.state c.fault_in.new.state c.args.reported.now.items c.fault_in.new.reported.items
    (is_private c.args.code.now c.args.state.now c.args.start.now.index c.args.start.now.row
    c.args.start.now.scope c.args.start.now.body
    c.innermost-parent.result c.open_area.result None
    (state_of c.args.code.now c.open_area.new.state) c.innermost-parent.ensures c.in-None.is
    (c.open_area.ensures.opened c.args.code.now (ReleaseAt c.args.start.now.index) no_activity
    (class_position (code_of c.args.code.now.program).program c.args.start.now.row.class)))
    (subst (λ (position : Position). IsStep c.args.code.now
    (fault_in (state_of c.args.code.now c.open_area.new.state) (ReleaseAt c.args.start.now.index) no_activity
    position StoreFull) c.fault_in.new.state c.args.reported.now.items c.fault_in.new.reported.items) c.class_position.ensures
    (subst (λ (activity : StoredActivity). IsStep c.args.code.now
    (fault_in (state_of c.args.code.now c.open_area.new.state) (ReleaseAt c.args.start.now.index)
    (activity_seen c.args.code.now activity) c.class_position.result StoreFull) c.fault_in.new.state
    c.args.reported.now.items c.fault_in.new.reported.items) c.empty.ensures
    (c.in_ok-fault_in-in-None.ensures c.args.code.now)))

pub fault_in-requires : goal.fault_in-requires
fault_in-requires c =
    subst (λ (activity : StoredActivity). CloseInOrder c.open_area.new.state.memory activity.frames)
    (sym c.empty.ensures) tt
