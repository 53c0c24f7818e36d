use Rattle.std.proofs.Common.{◌≡◌, ◌++◌, filter_map, flat_map, length}
use Rattle.scj_base.specs.declared.findings.Rule.TheVariants.{C4}
use Rattle.scj_rules.specs.Contexts.{declarations_of}
use Rattle.class_rules.specs.Members.{hiding, member_name}
use Rattle.class_rules.proofs.members.note_hidings.Given as goal

-- the other members are still to be looked at
abbrev pub invariant-loop-others : goal.invariant-loop-others
invariant-loop-others l =
    let breaks = hiding (declarations_of l.table.forest) l.table.class in
    l.found.items ++ flat_map breaks (filter_map (member_name C4 l.table.forest.nodes) l.others)
    ≡ l.initial.found.items ++ flat_map breaks (filter_map (member_name C4 l.table.forest.nodes) l.members)

abbrev pub decreases-loop-others : goal.decreases-loop-others
decreases-loop-others l = length l.others
