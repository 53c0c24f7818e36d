use Rattle.scj_cli.proofs.ShowLaws.{shown_more, shown_all}
use Rattle.scj_cli.proofs.shows.canonical_texts.Goals as goal

pub loop-file-preserved : goal.loop-file-preserved
loop-file-preserved c =
    shown_more (λ t. t.items) c.args.program.now c.loop-file.file c.loop-file.texts.items c.push.new.self.items
    c.in_ok-show.field-0 _ (rw c.file_count-file-end.ensures.value at c.loop-file-test.true)
    c.in_ok-show.ensures.text c.in_ok-push.ensures.items c.loop-file.invariant

pub returns : goal.returns
returns c =
    shown_all (λ t. t.items) c.args.program.now c.loop-file.file c.loop-file.texts.items _
    (rw c.file_count-file-end.ensures.value at c.loop-file-test.false) c.loop-file.invariant
