use Rattle.std.proofs.Common.{arith}
use Rattle.std.proofs.lemmas.Grind.{common_steps}
use Rattle.scj_rules.specs.Contexts.{declarations_of}
use Rattle.scope_tree.proofs.PhaseLemmas.{parts_of}
use Rattle.scope_tree.proofs.rules.note_class.Goals as goal

pub returns : goal.returns
returns c =
    let parts = parts_of (declarations_of c.args.facts.now) c.args.class in
    grind (arith, common_steps, c.in_ok-note_missing.ensures, c.in_ok-note_written.ensures, parts)
