-- What the tables of a layout hold.
use Rattle.std.specs.Prelude.{◌≡◌}
use Rattle.scj_tree.specs.Forest.{Forest}
use Rattle.scj_rules.specs.Contexts.{declarations_of}
use Rattle.scj_rules.specs.Bodies.{safelet_class}
use Rattle.class_rows.specs.Tables.{AreChainedScopes}
use Rattle.object_layout.specs.BodyTables.{IsBodyTableOf}
use Rattle.object_layout.specs.FieldTables.{IsFieldTableOf}
use Rattle.object_layout.specs.Objects.{IsObjectTableOf}
use Rattle.object_layout.specs.declared.tables.Tables.{Tables}

-- the tables are those of the program
pub record AreTablesOf (forest : Forest) (tables : Tables) : Type 0 where
  pub scopes : AreChainedScopes forest tables.scopes.items
  pub bodies : IsBodyTableOf forest tables.bodies
  pub fields : IsFieldTableOf forest tables.fields
  pub objects : IsObjectTableOf forest tables.objects
  pub safelet : tables.safelet ≡ safelet_class (declarations_of forest)
