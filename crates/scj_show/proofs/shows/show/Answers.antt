use Rattle.std.proofs.Common.{◌≡◌, reverse}
use Rattle.scj_show.specs.Parts.{each}
use Rattle.scj_show.specs.Symbols.{canonical}
use Rattle.scj_show.specs.Works.{pending}
use Rattle.scj_show.proofs.FilesAgain.{file_read_again}
use Rattle.scj_show.proofs.Unfolding.{file_printed}
use Rattle.scj_show.proofs.shows.show.Goals as goal

pub returns-clause-text : goal.returns-clause-text
returns-clause-text c =
    let put : c.put_each.new.parts ≡ each c.classes.result.now =
    rw c.new-parts.ensures at c.in_ok-put_each.ensures in
    let turned : c.turn_over.new.waiting ≡ reverse c.put_each.new.parts =
    rw c.new-waiting.ensures at c.in_ok-turn_over.ensures.moved in
    let printed : c.print.new.text.items ≡ canonical (pending c.args.program.now.nodes c.turn_over.new.waiting) =
    rw c.new-text.ensures.items at c.in_ok-print.ensures in
    file_printed c.args.program.now c.args.file c.classes.result.now _ _ _ c.classes.ensures put turned printed

pub returns-clause-read_again : goal.returns-clause-read_again
returns-clause-read_again c = file_read_again _ _ _ c.file_count-count.ensures.whole.children_first
    (returns-clause-text c)
