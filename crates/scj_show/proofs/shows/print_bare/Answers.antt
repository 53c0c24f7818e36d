use Rattle.std.proofs.Common.{◌≡◌, ◌≤◌, length, arith}
use Rattle.scj_show.specs.Parts.{bare_parts}
use Rattle.scj_show.proofs.Unfolding.{bare_printed, bare_printed_behind, bare_smaller, none_smaller}
use Rattle.scj_show.proofs.shows.print_bare.Goals as goal

pub returns-then-number-len-clause-printed : goal.returns-then-number-len-clause-printed
returns-then-number-len-clause-printed c =
    let behind : length c.args.program.now.nodes ≤ c.args.id = omega arith in
    bare_printed_behind c.args.program.now.nodes c.args.id c.args.parts.now behind c.requires

pub returns-then-number-len-clause-smaller : goal.returns-then-number-len-clause-smaller
returns-then-number-len-clause-smaller c = none_smaller _ _ _ c.requires

pub returns-clause-printed : goal.returns-clause-printed
returns-clause-printed c =
    let put : c.put_bare_parts.new.parts ≡ bare_parts c.node.result.now =
    rw c.requires at c.in_ok-put_bare_parts.ensures in
    bare_printed _ _ _ _ c.len.ensures.whole.children_first c.node.ensures put

pub returns-clause-smaller : goal.returns-clause-smaller
returns-clause-smaller c =
    let put : c.put_bare_parts.new.parts ≡ bare_parts c.node.result.now =
    rw c.requires at c.in_ok-put_bare_parts.ensures in
    bare_smaller _ _ _ _ c.len.ensures.whole.children_first c.node.ensures put
