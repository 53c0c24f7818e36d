-- An effect doesn't see the activity of the job that acts in the state, nor what its highest frame was.
use Rattle.std.specs.Prelude.{Option}
use Rattle.std.proofs.Common.{◌≡◌, List, ◌∷◌, sym, subst}
use Rattle.scj_base.specs.declared.positions.Position.{Position}
use Rattle.scj_model.specs.Code.{Code}
use Rattle.scj_model.specs.State.{Frame, Activity, Job, TheSequencer, ReleaseAt, State, with_activity}
use Rattle.scj_model.specs.Steps.{Step}
use Rattle.scj_model.specs.Effects.{Effect}
use Rattle.scj_model.specs.Apply.{applied}
use Rattle.run_state.proofs.Applying.{applied_alike}
use Rattle.unit_steps.specs.Alike.{IsAlikeTry}
use Rattle.unit_steps.proofs.Alike.{equal_tries}
use Rattle.unit_steps.proofs.OwnActivity.{sequencer_unseen}
use Rattle.unit_steps.proofs.ReleaseActivity.{release_unseen}

pub job_unseen : (code : Code) (s : State) (job : Job) (x activity : Activity) (below : List Frame) (position : Position)
    (e : Effect) →
    IsAlikeTry (applied code s job activity below position e)
    (applied code (with_activity s job x) job activity below position e)
unfolding with_activity
job_unseen code s TheSequencer x activity below position e = sequencer_unseen code s x activity below position e
job_unseen code s (ReleaseAt n) x activity below position e =
    equal_tries (sym (release_unseen code s n x activity below position e))

-- the activity before the operation in the one, and after it in the other
pub operation_unseen : (code : Code) (s : State) (job : Job) (x a : Activity) (f g : Frame) (below : List Frame)
    (position : Position) (e : Effect) → f.opened ≡ g.opened →
    IsAlikeTry (applied code s job (record a { frames = f ∷ below }) below position e)
    (applied code (with_activity s job x) job (record a { frames = g ∷ below }) below position e)
operation_unseen code s job x a f g below position e same =
    subst
    (λ (o : Option Step).
    IsAlikeTry o (applied code (with_activity s job x) job (record a { frames = g ∷ below }) below position e))
    (sym (applied_alike code s job a below position f g same e))
    (job_unseen code s job x (record a { frames = g ∷ below }) below position e)
