use Rattle.std.proofs.Common.{arith}
use Rattle.scope_tree.proofs.NameLemmas.{ordered_same}
use Rattle.scope_tree.proofs.names.enter.Goals as goal

pub returns : goal.returns
returns c = λ name.
    let same = ordered_same c.in-Some.definition.scope.name name in
    let put = c.in_ok-insert.ensures.updates.0 name in
    let is_free = c.is_reserved.ensures in
    grind (arith, c.definition_in.ensures, c.in-Some.is, is_free, put, same, c.at-scope.ensures, c.number.ensures)
