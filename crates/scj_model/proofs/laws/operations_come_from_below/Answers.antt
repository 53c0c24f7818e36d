use Rattle.std.proofs.Common.{[]}
use Rattle.scj_tree.proofs.RecursionLemmas.{by_smaller-is}
use Rattle.scj_model.specs.Ops.{ops_of, next_ops}
use Rattle.scj_model.proofs.laws.operations_come_from_below.Goals as goal

pub returns : goal.returns
unfolding ops_of
returns c = λ code id. by_smaller-is [] (next_ops code) id
