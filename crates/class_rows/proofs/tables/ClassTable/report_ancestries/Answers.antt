use Rattle.std.proofs.Common.{rules}
use Rattle.scj_rules.specs.Contexts.{declarations_of}
use Rattle.class_rows.proofs.tables.ClassTable.report_ancestries.Goals as goal

pub invariant_of-self-in-loop-class : goal.invariant_of-self-in-loop-class
invariant_of-self-in-loop-class c =
    let self = c.self-in-loop-class in
    search (
      rules,
      c.note_ancestry.ensures (declarations_of self.inside.headers).classes
          (rw (← self.view_is) at c.next_ancestry-ancestry.ensures) self.invariant.ancestries,
    )
