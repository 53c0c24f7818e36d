use Rattle.std.proofs.Common.{◌≡◌, ◌++◌, filter_map, flat_map, length}
use Rattle.scj_rules.specs.Contexts.{declarations_of}
use Rattle.scj_rules.specs.Views.{method_at}
use Rattle.class_rules.specs.Members.{broken_by}
use Rattle.class_rules.proofs.members.note_methods.Given as goal

-- the other members are still to be looked at
abbrev pub invariant-loop-others : goal.invariant-loop-others
invariant-loop-others l =
    let breaks = broken_by l.rule (declarations_of l.table.forest) l.table.class in
    l.found.items ++ flat_map breaks (filter_map (method_at l.table.forest.nodes) l.others)
    ≡ l.initial.found.items ++ flat_map breaks (filter_map (method_at l.table.forest.nodes) l.members)

abbrev pub decreases-loop-others : goal.decreases-loop-others
decreases-loop-others l = length l.others
