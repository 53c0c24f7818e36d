use Rattle.class_table.proofs.classes.note_classes.Goals as goal

pub returns-clause-reported : goal.returns-clause-reported
returns-clause-reported c = rw c.new-table.ensures at
    (c.in_ok-note_each.ensures.reported (rw c.new-table.ensures
    (c.no_methods_inherited-reported.ensures _ _ c.requires.each c.requires.classes)))

pub returns-clause-nearest : goal.returns-clause-nearest
returns-clause-nearest c = rw (c.in_ok-note_each.ensures.forest, c.new-table.ensures) at c.into_nearest-fields.ensures
