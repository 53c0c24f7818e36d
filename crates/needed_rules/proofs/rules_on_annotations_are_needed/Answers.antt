use Rattle.needed_rules.proofs.RowsOfAnnotations.{a2_class_is_needed, a3_field_is_needed, a4_field_is_needed, a5_static_is_needed, a6_override_is_needed}
use Rattle.needed_rules.proofs.rules_on_annotations_are_needed.Goals as goal

pub returns-clause-class : goal.returns-clause-class
returns-clause-class c = a2_class_is_needed

pub returns-clause-field : goal.returns-clause-field
returns-clause-field c = a3_field_is_needed

pub returns-clause-field_of_unannotated : goal.returns-clause-field_of_unannotated
returns-clause-field_of_unannotated c = a4_field_is_needed

pub returns-clause-static_field : goal.returns-clause-static_field
returns-clause-static_field c = a5_static_is_needed

pub returns-clause-override_ : goal.returns-clause-override_
returns-clause-override_ c = a6_override_is_needed
