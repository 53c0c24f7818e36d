use Rattle.std.proofs.Common.{arith}
use Rattle.std.proofs.lemmas.Grind.{common_steps}
use Rattle.std.proofs.lemmas.Map.Text.{is_eq-slice_cmp}
use Rattle.class_rules.proofs.RepeatLemmas.{name_noted, known_in_order}
use Rattle.class_rules.proofs.repeats.note_name.Goals as goal

pub returns : goal.returns
returns c =
    λ others.
    let w = c.in-Some.written.name in
    let old = c.args.known.now.keys in
    let new = c.insert.new.self.keys in
    rw (c.in-Some.is, c.in_ok-report_if.ensures, c.in_ok-is_new.ensures.added, known_in_order w old)
    (name_noted c.args.found.now.items old new c.args.rule c.in-Some.written others
    (λ n. let added = c.in_ok-is_new.ensures.updates.0 n in
    grind (arith, common_steps, added, known_in_order n new, known_in_order n old, is_eq-slice_cmp w n)))
