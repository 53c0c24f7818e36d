use Rattle.class_rules.proofs.OverrideLemmas.{same_mapped}
use Rattle.class_rules.proofs.types.have_same_types.Goals as goal

pub loop-written-init : goal.loop-written-init
loop-written-init c = rw (c.types_of-left.ensures, c.types_of-right.ensures) (same_mapped _ _)
