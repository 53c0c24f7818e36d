use Rattle.std.proofs.Common.{sym}
use Rattle.scope_tree.proofs.rules.report_of.Goals as goal

pub returns : goal.returns
returns c = record {
  in_order = c.put_in_order.ensures.in_order;
  exact = λ f. rw (sym c.in_ok-found.ensures) (c.put_in_order.ensures.same f);
}
