use Rattle.std.proofs.Common.{length}
use Rattle.scope_tree.proofs.scopes.+class_scope_on.Given as goal

abbrev pub decreases-class_scope_on : goal.decreases-class_scope_on
decreases-class_scope_on l = length l.chain
