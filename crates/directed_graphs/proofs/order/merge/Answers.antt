use Rattle.std.proofs.Common.{rules, arith, List, ◌∙◌, ap, slice_get}
use Rattle.directed_graphs.specs.declared.order.Group.{Group}
use Rattle.directed_graphs.specs.Walks.{walk_of}
use Rattle.directed_graphs.proofs.OrderSteps.{merges, no_level}
use Rattle.directed_graphs.proofs.order.merge.Goals as goal

pub returns-then-count-gt0 : goal.returns-then-count-gt0
returns-then-count-gt0 c =
    merges (walk_of c.args.search.now) c.args.index c.groups_upto-count.result c.as_slice.result.now
    c.truncate.new.self.items c.index_mut.result.now c.as_slice.ensures.value (search rules) (search rules)
    c.groups_upto-count.ensures.behind c.groups_upto-count.ensures.last
    (search rules) c.index_mut.ensures.value

pub returns-else-count-gt0 : goal.returns-else-count-gt0
returns-else-count-gt0 c =
    absurd (let none = no_level c.args.search.now.groups.items c.args.index
    (λ j h e. c.groups_upto-count.ensures.behind j h
    (ap (λ (gs : List Group). slice_get gs j) c.as_slice.ensures.value ∙ e)
    (let zero = c.if-count-gt0.false in omega (arith, zero))) in
    let some = c.requires in omega (arith, none, some))
