-- What is known where a target is due.
use Rattle.std.proofs.Common.{◌≡◌, true, List, ◌∷◌, refl}
use Rattle.parser_machine.specs.Operands.{awaits_target}
use Rattle.parser_machine.specs.declared.entries.Entry.{Entry}
use Rattle.parser_machine.specs.declared.entries.Entry.TheVariants.{Target}

pub target_due : (e : Entry) (s : List Entry) → awaits_target (e ∷ s) ≡ true → e ≡ Target
unfolding awaits_target
target_due Target s h = refl
target_due _ s h = cc
