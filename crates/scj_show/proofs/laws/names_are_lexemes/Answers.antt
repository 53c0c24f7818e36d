use Rattle.scj_show.proofs.Sources.{names_alike}
use Rattle.scj_show.proofs.laws.names_are_lexemes.Goals as goal

pub returns : goal.returns
returns c = names_alike
