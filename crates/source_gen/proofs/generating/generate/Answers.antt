use Rattle.std.proofs.Common.{◌≤◌, arith}
use Rattle.source_gen.proofs.Lengths.{source_is_short}
use Rattle.source_gen.proofs.generating.generate.Goals as goal

pub returns-clause-short : goal.returns-clause-short
returns-clause-short c =
    let few : c.args.n ≤ 250 = omega (arith, c.if-n-gt250.false) in
    rw c.in_ok-source.ensures (source_is_short c.args.n few)
