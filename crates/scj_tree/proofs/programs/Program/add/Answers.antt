use Rattle.std.proofs.Common.{map, subst, sym, arith}
use Rattle.scj_tree.specs.Forest.{Forest, HasFreshChildren}
use Rattle.scj_tree.proofs.ForestLemmas.{IsForest-with_node}
use Rattle.scj_tree.proofs.programs.Program.add.Goals as goal

pub invariant_of-self-2 : goal.invariant_of-self-2
invariant_of-self-2 c =
    let old : Forest = record { nodes = c.self.inside.nodes; files = map (λ f. f.items) c.self.inside.files.items } in
    let P : Forest → Type 0 = λ f. HasFreshChildren f c.args.node in
    rw c.in_ok-push.ensures.ok
    (IsForest-with_node old c.args.node c.self.invariant (subst P (sym c.self.view_is) c.requires) (omega arith))
