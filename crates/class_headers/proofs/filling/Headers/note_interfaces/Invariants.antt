use Rattle.std.proofs.Common.{◌≡◌, ◌++◌, length}
use Rattle.std.specs.List.{filter_map}
use Rattle.scj_rules.specs.Definitions.{read}
use Rattle.scj_rules.specs.Views.{named_super}
use Rattle.scj_rules.specs.Classes.{forbidden_interfaces}
use Rattle.scj_rules.specs.Contexts.{declarations_of}
use Rattle.class_headers.proofs.filling.Headers.note_interfaces.Given as goal

-- what is forbidden among the rest is still to come
abbrev pub invariant-loop-others : goal.invariant-loop-others
invariant-loop-others l = l.found.items ++ forbidden_interfaces (declarations_of l.self).names
    (declarations_of l.self).written l.there.items (filter_map (read l.self.nodes named_super) l.others)
    ≡ l.initial.found.items ++ forbidden_interfaces (declarations_of l.self).names
    (declarations_of l.self).written l.initial.there.items (filter_map (read l.self.nodes named_super) l.initial.others)

abbrev pub decreases-loop-others : goal.decreases-loop-others
decreases-loop-others l = length l.others
