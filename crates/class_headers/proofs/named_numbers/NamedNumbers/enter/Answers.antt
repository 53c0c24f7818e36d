use Rattle.std.proofs.Common.{◌∙◌, ap, arith, cond, Some}
use Rattle.std.proofs.lemmas.Map.Text.{is_eq-slice_cmp}
use Rattle.std.specs.BTreeMap.{get}
use Rattle.std.specs.Cmp.Lexicographic.{slice_cmp}
use Rattle.std.specs.Ordering.{nat_cmp}
use Rattle.class_headers.proofs.PartLemmas.{one_more_behind}
use Rattle.class_headers.proofs.named_numbers.NamedNumbers.enter.Goals as goal

pub returns-in_ok-insert-2-clause-entered : goal.returns-in_ok-insert-2-clause-entered
returns-in_ok-insert-2-clause-entered c = λ other.
    let before = get (slice_cmp nat_cmp) c.args.self.now.many other in
    one_more_behind _ _ _ before _ (c.requires (omega arith) other)
    (c.in_ok-insert-2.ensures.updates.0 other
    ∙ ap (λ t. cond t (Some c.args.number) before) (is_eq-slice_cmp c.args.name other))
