use Rattle.scj_show.specs.Parts.{scope_definition}
use Rattle.scj_show.proofs.parts.put_scope_definition.Goals as goal

pub returns : goal.returns
unfolding scope_definition
returns c = rw (c.new.ensures, c.new-2.ensures, c.new-3.ensures) at c.put.ensures
