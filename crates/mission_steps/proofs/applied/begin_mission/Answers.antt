use Rattle.std.proofs.Common.{◌∙◌, ℕ, List, [], ◌∷◌, ◌++◌, ap, refl}
use Rattle.scj_model.specs.declared.events.Event.TheVariants.{Mission}
use Rattle.scj_model.specs.Sequencer.{seq_applied}
use Rattle.run_state.specs.Seen.{state_of}
use Rattle.mission_steps.proofs.applied.begin_mission.Goals as goal

pub returns : goal.returns
unfolding seq_applied state_of
returns c = record {
  state = refl;
  reported = c.in_ok-report.ensures ∙ ap (λ (name : List ℕ). c.args.reported.now.items ++ Mission c.args.state.now.unit name ∷ [])
      c.class_name_at-class.ensures;
}
