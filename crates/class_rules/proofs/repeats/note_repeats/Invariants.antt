use Rattle.std.proofs.Common.{◌≡◌, ◌++◌, [], length}
use Rattle.std.specs.Prelude.{filter_map}
use Rattle.class_rules.specs.Members.{member_name, left_twice}
use Rattle.class_rules.proofs.repeats.note_repeats.Given as goal

-- the other names are still to be noted
abbrev pub invariant-loop-others : goal.invariant-loop-others
invariant-loop-others l =
    l.found.items ++ left_twice l.rule l.known.keys (filter_map (member_name l.rule l.program.nodes) l.others)
    ≡ l.initial.found.items ++ left_twice l.rule [] (filter_map (member_name l.rule l.program.nodes) l.members)

abbrev pub decreases-loop-others : goal.decreases-loop-others
decreases-loop-others l = length l.others
