use Rattle.reference_sound.proofs.RunHolds.{held_larger, held_frameless, held_again}
use Rattle.reference_sound.proofs.references.bases_change.Goals as goal

pub returns-clause-grows : goal.returns-clause-grows
returns-clause-grows c = λ s base more h held. held_larger s base more h held

pub returns-clause-any : goal.returns-clause-any
returns-clause-any c = λ s base other none held. held_frameless s base other none held

pub returns-clause-one : goal.returns-clause-one
returns-clause-one c = λ s base other first second held. held_again s base other first second held
