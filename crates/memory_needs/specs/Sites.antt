-- The bodies that the concrete classes under a class have, class by class.
use Rattle.std.specs.Prelude.{◌≡◌, ℕ, Bool, true, false, ◌&&◌, List, [], ◌∷◌, Option, Some, is_some, length, slice_get, if◌then◌else◌, option_to_list, codes}
use Rattle.std.specs.Global.{Vec}
use Rattle.scj_tree.specs.Recursion.{joined_below}
use Rattle.scj_rules.specs.declared.views.Body.{Body}
use Rattle.scj_rules.specs.Contexts.{Declarations}
use Rattle.scj_rules.specs.Bodies.{body_named, body_of}
use Rattle.memory_needs.specs.declared.code.Asked.{Asked}
use Rattle.memory_needs.specs.declared.code.Asked.TheVariants.{Method, Run}
use Rattle.memory_needs.specs.Targets.{is_concrete_under}
use Rattle.memory_needs.specs.Edges.{written_nodes}

unfoldable pub asked_body : Declarations → Asked → ℕ → Option Body
asked_body p (Method method) class = body_of p class method
asked_body p Run class = body_named p class (codes "run")

-- the node of the body of one class
unfoldable pub class_nodes : Declarations → ℕ → Asked → ℕ → List ℕ
class_nodes p on asked class =
    if is_concrete_under p on class then written_nodes (option_to_list (asked_body p asked class)) else []

-- those of all classes
abbrev pub nodes_under : Declarations → ℕ → Asked → List ℕ
nodes_under p on asked = joined_below (class_nodes p on asked) (length p.classes)

-- a class is a concrete one under another one, and has the body
unfoldable pub has_body : Declarations → ℕ → Asked → ℕ → Bool
has_body p on asked class = is_concrete_under p on class && is_some (asked_body p asked class)

unfoldable pub is_any : List Body → Bool
is_any [] = false
is_any (body ∷ bodies) = true

-- a table has a row for each number below a bound, with the items of a list
pub record IsTable (lists : ℕ → List ℕ) (bound : ℕ) (table : List (Vec ℕ)) : Type 0 where
  pub whole : length table ≡ bound
  pub each : (k : ℕ) (row : Vec ℕ) → slice_get table k ≡ Some row → row.items ≡ lists k
