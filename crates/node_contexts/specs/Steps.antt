-- What the kind of a node says of the contexts of its children, and the contexts as far as they are told: parent after
-- parent from the last one down, and child after child.
use Rattle.std.specs.Prelude.{◌≡◌, ℕ, ◌<◌, ◌≤◌, false, ◌||◌, ◌==◌, List, [], ◌∷◌, ◌++◌, length, slice_get, Option, Some, None, if◌then◌else◌, is_some}
use Rattle.scj_tree.specs.declared.nodes.Node.{Node}
use Rattle.scj_tree.specs.Forest.{Forest, IsForest, joined}
use Rattle.scj_tree.specs.Recursion.{lookup}
use Rattle.scj_tree.specs.Shape.{children}
use Rattle.scj_rules.specs.Definitions.{read}
use Rattle.scj_rules.specs.Words.{holds, or_else, is_among}
use Rattle.scj_rules.specs.Views.{variable_at}
use Rattle.scj_rules.specs.declared.contexts.Context.{Context}
use Rattle.scj_rules.specs.Contexts.{outermost, number_of_class, is_member, is_super_call, object_of, last_variable, parameter_nodes, those_before, parameters_before, declared_before, parent_in, contexts_in}
use Rattle.node_contexts.specs.declared.kinds.Few.{Few}
use Rattle.node_contexts.specs.declared.kinds.Few.TheVariants.{Nothing, One, Two, Listed, More}
use Rattle.node_contexts.specs.declared.kinds.Difference.{Difference}
use Rattle.node_contexts.specs.declared.kinds.Difference.TheVariants.{Nothing as alike, InTurn, Parameters, Object}
use Rattle.node_contexts.specs.declared.rows.Family.{Family}

-- the children whose declarations are known at a child
abbrev pub declared_by : List Node → List ℕ → Difference → ℕ → List ℕ
declared_by nodes ids InTurn child = those_before child ids
declared_by nodes ids (Parameters list) child = parameters_before nodes (Some list) child
declared_by nodes ids _ child = []

-- the declarations that are known behind some children
abbrev pub declared_behind : List Node → Difference → List ℕ → List ℕ
declared_behind nodes InTurn done = done
declared_behind nodes (Parameters list) done = elim (read nodes parameter_nodes list) [ None ↦ [] | Some ids ↦ ids ]
declared_behind nodes _ done = []

-- the last variable that is known at a child, from that before all children and that behind those before it
abbrev pub last_at : Difference → Option ℕ → Option ℕ → ℕ → Option ℕ
last_at (Parameters list) before known child = if child == list then before else known
last_at _ before known child = known

-- the last variable that is known behind a child
abbrev pub last_behind : List Node → Difference → Option ℕ → ℕ → Option ℕ
last_behind nodes InTurn known child = if is_some (variable_at nodes child) then Some child else known
last_behind nodes _ known child = known

-- the child that stands before a dot
abbrev pub object_in : Difference → Option ℕ
object_in (Object child) = Some child
object_in _ = None

-- what is the same for all children of a node
unfoldable pub shared : List ℕ → ℕ → Node → Context → Context
shared classes parent node above =
    record {
      class = or_else (number_of_class classes parent) above.class;
      member = if is_member node then Some parent else above.member;
      last = above.last;
      in_super_call = is_super_call node || above.in_super_call;
      before_dot = false;
    }

-- the context of a child, from what all children share
abbrev pub of_child : Context → Option ℕ → Option ℕ → ℕ → Context
of_child base object last child = record base { last = last; before_dot = holds object (λ o. o == child) }

-- a node has these children, of which none stands before a dot, and so their contexts differ
pub record HasFew (node : Node) (ids : List ℕ) (difference : Difference) : Type 0 where
  pub parts : children node ≡ ids
  pub object : object_of node ≡ None
  pub known : (nodes : List Node) (child : ℕ) → declared_before nodes node child ≡ declared_by nodes (children node)
      difference child

abbrev pub IsFew : Node → Few → Type 0
IsFew node Nothing = HasFew node [] alike
IsFew node (One child) = HasFew node (child ∷ []) alike
IsFew node (Two first second) = HasFew node (first ∷ second ∷ []) alike
IsFew node (Listed list) = HasFew node list.now InTurn
IsFew node More = Unit {0}

-- this is what the children of a node share
pub record IsFamily (forest : Forest) (parent : ℕ) (node : Node) (family : Family) : Type 0 where
  pub whole : IsForest forest
  pub there : slice_get forest.nodes parent ≡ Some node
  pub base : family.base ≡ shared (joined forest.files) parent node (lookup outermost (contexts_in forest) parent)
  pub object : object_in family.difference ≡ object_of node
  pub known : (child : ℕ) → declared_before forest.nodes node child ≡ declared_by forest.nodes (children node)
      family.difference child

-- the contexts of the nodes without a parent below k are there, but for those of some nodes
pub record AreReported (forest : Forest) (k : ℕ) (rest : List ℕ) (rows : List Context) : Type 0 where
  pub whole : length rows ≡ length forest.nodes
  pub exact : (id : ℕ) → id < length forest.nodes
      → ((parent : ℕ) → parent_in forest.nodes id ≡ Some parent → k ≤ parent) → is_among id rest ≡ false
      → lookup outermost rows id ≡ lookup outermost (contexts_in forest) id

-- the children of a node have their contexts, but for the rest of them; `known` is the last variable behind the others
pub record AreSpread (forest : Forest) (parent : ℕ) (node : Node) (family : Family) (rest : List ℕ) (known : Option ℕ)
    (rows : List Context) : Type 0 where
  pub shared : IsFamily forest parent node family
  pub done : List ℕ
  pub parts : done ++ rest ≡ children node
  pub is_last : known ≡ last_variable forest.nodes family.base.last
      (declared_behind forest.nodes family.difference done)
  pub reported : AreReported forest parent rest rows
