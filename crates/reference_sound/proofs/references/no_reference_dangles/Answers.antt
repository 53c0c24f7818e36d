use Rattle.reference_sound.proofs.Dangling.{none_dangles}
use Rattle.reference_sound.proofs.references.no_reference_dangles.Goals as goal

pub returns : goal.returns
returns c = λ code s base rooted. none_dangles code s base rooted
