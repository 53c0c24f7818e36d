-- The field or the method that a row of an access or a call names.
use Rattle.std.specs.Prelude.{Option, Some, None}
use Rattle.class_rows.specs.declared.fields.FieldRef.{FieldRef}
use Rattle.method_rows.specs.declared.refs.MethodRef.{MethodRef}
use Rattle.program_facts.specs.declared.meanings.NodeMeaning.{NodeMeaning}
use Rattle.program_facts.specs.declared.meanings.NodeMeaning.TheVariants.{Field as of_access, Method as of_call}

unfoldable pub field_in : NodeMeaning → Option FieldRef
field_in (of_access class field) = Some field
field_in _ = None

unfoldable pub method_in : NodeMeaning → Option MethodRef
method_in (of_call class method) = Some method
method_in _ = None
