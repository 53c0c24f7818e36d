use Rattle.std.proofs.Common.{sym, arith}
use Rattle.std.proofs.lemmas.Bool.Decides.{nat_tests}
use Rattle.std.proofs.lemmas.List.{length-take-le, take_all}
use Rattle.scj_cli.proofs.keys.shown_part.Goals as goal

pub slice_bounds-result-end : goal.slice_bounds-result-end
slice_bounds-result-end c = sym (length-take-le 256 c.args.key.now (grind (arith, nat_tests)))

pub returns-else-key-gt-MOST_SHOWN : goal.returns-else-key-gt-MOST_SHOWN
returns-else-key-gt-MOST_SHOWN c = sym (take_all 256 c.args.key.now (grind (arith, nat_tests)))
