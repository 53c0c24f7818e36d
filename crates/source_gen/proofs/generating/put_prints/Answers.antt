use Rattle.source_gen.specs.Generated.{print_line}
use Rattle.source_gen.proofs.UpTo.{begun, continued}
use Rattle.source_gen.proofs.generating.put_prints.Goals as goal

pub loop-i-init : goal.loop-i-init
loop-i-init c = begun print_line _

pub loop-i-preserved : goal.loop-i-preserved
loop-i-preserved c = continued print_line c.loop-i.i _ c.loop-i.invariant c.in_ok-put_print.ensures
