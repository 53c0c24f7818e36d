-- What the table of the bodies holds, and what of it is known after some nodes.
use Rattle.std.specs.Prelude.{◌≡◌, ℕ, nat_lt, Option, None, if◌then◌else◌}
use Rattle.scj_tree.specs.Forest.{Forest}
use Rattle.scj_tree.specs.Recursion.{lookup}
use Rattle.scj_rules.specs.Contexts.{Declarations, declarations_of}
use Rattle.scj_rules.specs.Bodies.{class_of_body, class_at_node, locals}
use Rattle.object_layout.specs.declared.body_tables.BodyTable.{BodyTable}

-- the class of a body, where the context of those below a number is known
unfoldable pub class_known : Declarations → ℕ → ℕ → Option ℕ
class_known p n body = if nat_lt body n then class_of_body p body else class_at_node p body

-- the table has at each node what is said of the body there
pub record IsBodyTableOf (forest : Forest) (table : BodyTable) : Type 0 where
  pub locals : (body : ℕ) → lookup 0 table.locals.items body ≡ locals (declarations_of forest) body
  pub classes : (body : ℕ) → lookup None table.classes.items body ≡ class_of_body (declarations_of forest) body
