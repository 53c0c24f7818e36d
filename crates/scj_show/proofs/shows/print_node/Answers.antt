use Rattle.std.proofs.Common.{◌≡◌, ◌≤◌, List, ◌++◌, length, ap, arith}
use Rattle.scj_show.specs.Parts.{parts_of}
use Rattle.scj_show.specs.Symbols.{canonical}
use Rattle.scj_show.proofs.Unfolding.{whole_printed, whole_printed_behind, whole_smaller, none_smaller}
use Rattle.scj_show.proofs.shows.print_node.Goals as goal

pub returns-then-number-len-clause-printed : goal.returns-then-number-len-clause-printed
returns-then-number-len-clause-printed c =
    let behind : length c.args.program.now.nodes ≤ c.args.id = omega arith in
    ap (λ (t : List _). c.args.text.now.items ++ canonical t)
    (whole_printed_behind c.args.program.now.nodes c.args.id c.args.parts.now behind c.requires)

pub returns-then-number-len-clause-smaller : goal.returns-then-number-len-clause-smaller
returns-then-number-len-clause-smaller c = none_smaller _ _ _ c.requires

pub returns-clause-printed : goal.returns-clause-printed
returns-clause-printed c =
    let put : c.put_parts.new.parts ≡ parts_of c.node-node.result.now = rw c.requires at c.in_ok-put_parts.ensures
    in
    whole_printed _ _ _ _ _ _ c.len.ensures.whole.children_first c.node-node.ensures put c.in_ok-put_own.ensures

pub returns-clause-smaller : goal.returns-clause-smaller
returns-clause-smaller c =
    let put : c.put_parts.new.parts ≡ parts_of c.node-node.result.now = rw c.requires at c.in_ok-put_parts.ensures
    in
    whole_smaller _ _ _ _ c.len.ensures.whole.children_first c.node-node.ensures put
