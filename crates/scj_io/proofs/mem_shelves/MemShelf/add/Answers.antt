-- What the map holds under the other names.
use Rattle.std.proofs.Common.{arith}
use Rattle.std.proofs.lemmas.Map.Text.{text_keys}
use Rattle.scj_io.proofs.mem_shelves.MemShelf.add.Goals as goal

pub returns-clause-others : goal.returns-clause-others
returns-clause-others c = λ other differs. grind (arith, text_keys)

pub returns-clause-faults : goal.returns-clause-faults
returns-clause-faults c = λ other. grind (arith, text_keys)
