use Rattle.scj_show.proofs.FilesAgain.{read_again}
use Rattle.scj_show.proofs.laws.canonical_text_is_read_again.Goals as goal

pub returns : goal.returns
returns c = λ source number tokens start old all more ids file before lex tree whole first. read_again source number
    tokens start old all more ids file before lex tree whole first
