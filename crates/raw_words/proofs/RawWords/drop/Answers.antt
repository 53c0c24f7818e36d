use Rattle.std.proofs.Common.{None, replicate, sym, ap, ◌∙◌}
use Rattle.raw_words.proofs.Forgotten.{all_forgotten}
use Rattle.raw_words.proofs.RawWords.drop.Goals as goal

pub deallocate-requires : goal.deallocate-requires
deallocate-requires c =
    let i = c.self.invariant in let e = c.forget_from.ensures in
    (e.0 ∙ sym i.0, e.1 ∙ all_forgotten c.self.inside.cells.slots ∙ ap (λ n. replicate n None) (sym i.4), i.1, i.2, i.3)
