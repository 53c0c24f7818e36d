use Rattle.scj_cli.proofs.ReadLaws.{read_from}
use Rattle.scj_cli.proofs.laws.files_are_read_from_their_texts.Goals as goal

pub returns : goal.returns
returns c = λ texts forest file text reads at. read_from texts forest file text reads at
