use Rattle.scj_rules.specs.Contexts.{declarations_of}
use Rattle.object_layout.specs.ObjectTables.{AreObjectRows}
use Rattle.object_layout.proofs.objects.object_rows.Given as goal

-- those of the classes so far
abbrev pub invariant-loop-number : goal.invariant-loop-number
invariant-loop-number l = AreObjectRows (declarations_of l.classes) l.number l.rows.items
