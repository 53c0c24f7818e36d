use Rattle.std.proofs.Common.{◌≡◌, ◌≤◌, [], length, refl, sym, arith}
use Rattle.scj_base.specs.Vocabulary.{words}
use Rattle.scj_tree.proofs.RecursionLemmas.{lookup-behind}
use Rattle.scj_show.proofs.symbols.bytes_of_word.Goals as goal

pub returns : goal.returns
unfolding words
returns c =
    let count : length words ≡ 53 = refl in
    let behind : length words ≤ c.args.word = omega arith in
    sym (lookup-behind [] words c.args.word behind)
