use Rattle.std.proofs.Common.{◌≡◌, ◌≤◌, [], length, refl, sym, arith}
use Rattle.scj_base.specs.Vocabulary.{signs}
use Rattle.scj_tree.proofs.RecursionLemmas.{lookup-behind}
use Rattle.scj_show.proofs.symbols.bytes_of_sign.Goals as goal

pub returns : goal.returns
unfolding signs
returns c =
    let count : length signs ≡ 50 = refl in
    let behind : length signs ≤ c.args.sign = omega arith in
    sym (lookup-behind [] signs c.args.sign behind)
