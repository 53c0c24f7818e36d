use Rattle.machine_laws.proofs.ClosingPlaces.{refused_at}
use Rattle.machine_laws.proofs.closing_laws.each_refusal_is_exact.Goals as goal

pub returns : goal.returns
returns c = λ before taken behind refused last e f. refused_at before taken behind refused last e f
