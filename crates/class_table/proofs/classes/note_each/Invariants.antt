use Rattle.std.proofs.Common.{◌≡◌, ◌++◌, flat_map, length}
use Rattle.scj_rules.specs.Contexts.{declarations_of}
use Rattle.class_rows.specs.Inherited.{AreInheritedMethods}
use Rattle.symbol_table.specs.Symbols.{AreClasses}
use Rattle.class_table.specs.Noted.{broken_at_class}
use Rattle.class_table.proofs.classes.note_each.Given as goal

-- the other classes are still to be noted, and to tell
abbrev pub invariant-loop-others : goal.invariant-loop-others
invariant-loop-others l =
    record {
      same : l.table.forest ≡ l.initial.table.forest;
      classes : AreClasses l.initial.table.forest l.others;
      left : l.found.items ++ flat_map (broken_at_class l.initial.table.forest) l.others
          ≡ l.initial.found.items ++ flat_map (broken_at_class l.initial.table.forest) l.classes;
      reported : AreInheritedMethods (declarations_of l.initial.table.forest) l.classes l.initial.reported →
          AreInheritedMethods (declarations_of l.initial.table.forest) l.others l.reported;
    }

abbrev pub decreases-loop-others : goal.decreases-loop-others
decreases-loop-others l = length l.others
