-- The values of the static fields before a run, from what is asked of these fields.
use Rattle.std.specs.Prelude.{List, Option, Some, None}
use Rattle.scj_base.specs.declared.values.Value.{Value}
use Rattle.scj_tree.specs.declared.nodes.Node.{Node}
use Rattle.scj_rules.specs.Definitions.{read}
use Rattle.scj_rules.specs.Words.{◌>>=◌}
use Rattle.scj_model.specs.Memory.{literal_value, default_value}
use Rattle.object_layout.specs.declared.fields.StaticField.{StaticField}

-- the value of its literal, if it has one
abbrev pub value_written : List Node → StaticField → Option Value
value_written nodes row = row.literal >>= read nodes literal_value

-- the value of its literal, else the default of what it holds
abbrev pub start_of : List Node → StaticField → Value
start_of nodes row = elim (value_written nodes row) [ Some value ↦ value | None ↦ default_value row.kind ]
