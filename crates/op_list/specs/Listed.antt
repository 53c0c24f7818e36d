-- What a whole list is: each row goes on where the definition does, and each body begins at its place.
use Rattle.std.specs.Prelude.{◌≡◌, ℕ, ◌<◌, Bool, true, false, List, length, slice_get, Option, None, Some}
use Rattle.scj_tree.specs.declared.nodes.Node.{Node}
use Rattle.scj_tree.specs.declared.nodes.Node.TheVariants.{Class, Method, Constructor}
use Rattle.scj_tree.specs.Forest.{Forest}
use Rattle.scj_rules.specs.declared.views.Body.{Body}
use Rattle.scj_rules.specs.declared.views.Body.TheVariants.{Written, Empty}
use Rattle.scj_rules.specs.Bodies.{is_synchronized_body}
use Rattle.accepted_laws.specs.Sorts.{Of}
use Rattle.scj_model.specs.Code.{Code, code_of}
use Rattle.scj_model.specs.Effects.{locals_of}
use Rattle.scj_model.specs.Ops.{body_ops}
use Rattle.op_list.specs.declared.rows.Row.{Row}
use Rattle.op_list.specs.declared.bodies.BodyRow.{BodyRow}
use Rattle.op_list.specs.Rows.{rest_at, GoesOn}

-- what a body is named by: a method, a constructor, or a class whose constructor isn't written
unfoldable pub is_body : Node → Bool
is_body (Method position name flags result_type parameters body) = true
is_body (Constructor position name flags parameters super_call body) = true
is_body (Class position name flags header members) = true
is_body _ = false

-- the body is the framework's empty one, or one that a node of these names
unfoldable pub IsBodyAmong : List Node → Body → Type 0
IsBodyAmong nodes (Written id) = Of is_body nodes id
IsBodyAmong nodes Empty = Unit {0}

-- the same of the node of a number
unfoldable pub names_body : List Node → ℕ → Bool
names_body nodes id = elim (slice_get nodes id) [ None ↦ false | Some node ↦ is_body node ]

-- whether a frame of the body holds the monitor of its `this`
unfoldable pub is_monitored : Code → Body → Bool
is_monitored code (Written node) = is_synchronized_body code.program node
is_monitored code Empty = false

-- the row has what calls of a body ask
pub record IsBodyRow (code : Code) (rows : List Row) (body : Body) (row : BodyRow) : Type 0 where
  pub rest : rest_at rows row.start ≡ body_ops code body
  pub locals : row.locals ≡ locals_of code body
  pub monitor : row.is_synchronized ≡ is_monitored code body

-- what is listed of a node: the row of the body that it names, and nothing where it names none
pub record IsNodeRow (code : Code) (rows : List Row) (id : ℕ) (listed : Option BodyRow) : Type 0 where
  pub some : (row : BodyRow) → listed ≡ Some row → row.start < length rows
  pub body : (row : BodyRow) → listed ≡ Some row → IsBodyRow code rows (Written id) row
  pub none : listed ≡ None → names_body code.program.nodes id ≡ false

-- each row but the one of place 0 goes on where the definition does
pub record AreGood (code : Code) (rows : List Row) : Type 0 where
  pub each : (index : ℕ) (row : Row) → 0 < index → slice_get rows index ≡ Some row → GoesOn code rows index row

pub record IsListed (code : Code) (rows : List Row) (bodies : List (Option BodyRow)) : Type 0 where
  pub some : 0 < length rows
  pub good : AreGood code rows
  pub begins : (id : ℕ) (listed : Option BodyRow) → slice_get bodies id ≡ Some listed →
      IsNodeRow code rows id listed

-- ---- what callers see

-- the program with its rows, what is listed of each node, and the row of the framework's empty body
pub record Listing : Type 0 where
  pub program : Forest
  pub rows : List Row
  pub bodies : List (Option BodyRow)
  pub empty : BodyRow

pub record IsListing (listing : Listing) : Type 0 where
  pub listed : IsListed (code_of listing.program) listing.rows listing.bodies
  pub all : length listing.bodies ≡ length listing.program.nodes
  pub empty : IsBodyRow (code_of listing.program) listing.rows Empty listing.empty
