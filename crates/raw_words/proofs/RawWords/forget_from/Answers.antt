use Rattle.std.proofs.Common.{length, sym, ap, ◌∙◌}
use Rattle.raw_words.proofs.Forgotten.{length_forgotten}
use Rattle.raw_words.proofs.RawWords.forget_from.Goals as goal

pub invariant_of-self : goal.invariant_of-self
invariant_of-self c =
    let i = c.self.invariant in let e = c.forget_from.ensures in
    (i.0 ∙ sym e.0, i.1, i.2, i.3, i.4 ∙ sym (ap length e.1 ∙ length_forgotten c.args.index c.self.inside.cells.slots))
