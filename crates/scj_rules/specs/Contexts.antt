-- The context of a node: its class and member, the variables in scope there (JLS 6.3), and whether there is an
-- object that `this` names (JLS 8.4.3.2, 8.8.7.1).
use Rattle.std.specs.Prelude.{ℕ, ◌+◌, Bool, true, false, not, ◌&&◌, ◌||◌, ◌==◌, List, [], ◌∷◌, ◌++◌, length, reverse, filter, find, position, take_while, slice_get, Option, Some, None, if◌then◌else◌, is_some, option_map}
use Rattle.scj_tree.specs.declared.nodes.Node.{Node}
use Rattle.scj_tree.specs.declared.nodes.Node.TheVariants.{Field, Method, Constructor, Parameters, SuperCall, Block, For, FieldAccess, Call}
use Rattle.scj_tree.specs.Forest.{Forest}
use Rattle.scj_tree.specs.Shape.{children}
use Rattle.scj_tree.specs.Recursion.{lookup, top_down}
use Rattle.scj_rules.specs.declared.scopes.Definition.{Definition}
use Rattle.scj_rules.specs.Definitions.{read, definitions}
use Rattle.scj_base.specs.Bytes.{is_same}
use Rattle.scj_rules.specs.Words.{is_among, chain, holds, or_else, ◌>>=◌}
use Rattle.scj_rules.specs.Views.{variable_at, modifiers_at, WrittenClass}
use Rattle.scj_rules.specs.Classes.{ClassRow, first_user_class, class_nodes, user_classes, class_names, written_rows, counted_from}
use Rattle.scj_rules.specs.declared.contexts.Context.{Context}

abbrev pub outermost : Context
outermost = record { class = None; member = None; last = None; in_super_call = false; before_dot = false }

-- the number of a class, by its node
unfoldable pub number_of_class : List ℕ → ℕ → Option ℕ
number_of_class classes node = option_map (λ k. first_user_class + k) (position (λ other. node == other) classes)

-- the last of these nodes that declares a variable
unfoldable pub last_variable : List Node → Option ℕ → List ℕ → Option ℕ
last_variable nodes last [] = last
last_variable nodes last (id ∷ ids) =
    last_variable nodes (if is_some (variable_at nodes id) then Some id else last) ids

-- the elements before a node in a list
abbrev pub those_before : ℕ → List ℕ → List ℕ
those_before id ids = take_while (λ other. not (other == id)) ids

unfoldable pub parameter_nodes : Node → Option (List ℕ)
parameter_nodes (Parameters position list) = Some list
parameter_nodes _ = None

-- the parameters of a method or constructor, for a child that isn't their list
abbrev pub parameters_before : List Node → Option ℕ → ℕ → List ℕ
parameters_before nodes None child = []
parameters_before nodes (Some parameters) child =
    if child == parameters
    then []
    else (elim (read nodes parameter_nodes parameters) [ None ↦ [] | Some list ↦ list ])

-- the nodes whose declarations in a parent are in scope at a child of it. The scope of a local is what follows its
-- declaration in the block or `for` that it stands in directly; that of a parameter is what follows it in its method
-- (JLS 6.3)
unfoldable pub declared_before : List Node → Node → ℕ → List ℕ
declared_before nodes (Block position statements) child = those_before child statements
declared_before nodes (For position first condition step body) child =
    those_before child (first ∷ condition ∷ step ∷ body ∷ [])
declared_before nodes (Parameters position list) child = those_before child list
declared_before nodes (Method position name flags result_type parameters body) child =
    parameters_before nodes parameters child
declared_before nodes (Constructor position name flags parameters super_call body) child =
    parameters_before nodes parameters child
declared_before nodes _ child = []

unfoldable pub is_member : Node → Bool
is_member (Field position name flags declared_type equals value) = true
is_member (Method position name flags result_type parameters body) = true
is_member (Constructor position name flags parameters super_call body) = true
is_member _ = false

unfoldable pub is_super_call : Node → Bool
is_super_call (SuperCall position arguments) = true
is_super_call _ = false

-- the object of an access or a call, which stands directly before its dot
unfoldable pub object_of : Node → Option ℕ
object_of (FieldAccess position name object) = Some object
object_of (Call position name object arguments) = object
object_of _ = None

-- the context of a child, from the context of its parent
unfoldable pub child_context : List Node → List ℕ → ℕ → Node → Context → ℕ → Context
child_context nodes classes parent node above child =
    record {
      class = or_else (number_of_class classes parent) above.class;
      member = if is_member node then Some parent else above.member;
      last = last_variable nodes above.last (declared_before nodes node child);
      in_super_call = is_super_call node || above.in_super_call;
      before_dot = holds (object_of node) (λ object. object == child);
    }

-- the parent of a node
unfoldable pub parent_in : List Node → ℕ → Option ℕ
parent_in nodes id = position (λ node. is_among id (children node)) nodes

-- the context of a node, from the contexts of larger nodes
unfoldable pub context_of : List Node → List ℕ → ℕ → (ℕ → Context) → Context
context_of nodes classes id larger =
    elim (parent_in nodes id) [
      | None ↦ outermost
      | Some parent ↦ elim (slice_get nodes parent) [
        | None ↦ outermost
        | Some node ↦ child_context nodes classes parent node (larger parent) id
      ]
    ]

-- the contexts of all nodes
unfoldable pub contexts_in : Forest → List Context
contexts_in forest = top_down outermost (context_of forest.nodes (class_nodes forest)) 0 (length forest.nodes)

-- ---- the variables in scope at a node (JLS 6.3): those that are declared before it in its parent, the last first, and
-- then those in scope at the parent. `known_variables` below gives the same list, as the law
-- keep, as the code does: the law `known_variables_are_in_scope` says that both give the same list

-- the variables that are declared at some nodes, the last first
abbrev pub variables_among : List Node → List ℕ → List ℕ
variables_among nodes ids = reverse (filter (λ id. is_some (variable_at nodes id)) ids)

-- the variables in scope at a node, from the lists of larger nodes
unfoldable pub variables_from_parent : List Node → ℕ → (ℕ → List ℕ) → List ℕ
variables_from_parent nodes id larger =
    elim (parent_in nodes id) [
      | None ↦ []
      | Some parent ↦ elim (slice_get nodes parent) [
        | None ↦ []
        | Some node ↦ variables_among nodes (declared_before nodes node id) ++ larger parent
      ]
    ]

unfoldable pub variables_in_scope : Forest → ℕ → List ℕ
variables_in_scope forest id = lookup [] (top_down [] (variables_from_parent forest.nodes) 0 (length forest.nodes)) id

-- ---- what every rule looks at

-- the nodes of a program; the user classes; the names of all classes; their rows as written, and as they count for the
-- rules on members; the definitions of scopes; the contexts of the nodes
pub record Declarations : Type 0 where
  pub nodes : List Node
  pub users : List WrittenClass
  pub names : List (List ℕ)
  pub written : List ClassRow
  pub classes : List ClassRow
  pub scopes : List Definition
  pub contexts : List Context

unfoldable pub declarations_of : Forest → Declarations
declarations_of forest =
    let users = user_classes forest in
    let names = class_names users in
    let written = written_rows forest.nodes users in
    record {
      nodes = forest.nodes;
      users = users;
      names = names;
      written = written;
      classes = counted_from names written 0 written;
      scopes = definitions forest;
      contexts = contexts_in forest;
    }

abbrev pub context : Declarations → ℕ → Context
context p id = lookup outermost p.contexts id

-- what f gives for the class of a node, and for its class and member
abbrev pub in_class : {A : Type 0} → Declarations → ℕ → (ℕ → Option A) → Option A
in_class p id f = (context p id).class >>= f

abbrev pub in_member : {A : Type 0} → Declarations → ℕ → (ℕ → ℕ → Option A) → Option A
in_member p id f = in_class p id (λ class. (context p id).member >>= f class)

-- the last variable that is declared before a variable and in scope there
abbrev pub variable_before : Declarations → ℕ → Option ℕ
variable_before p variable = (context p variable).last

-- the variables in scope at a node, the last first
unfoldable pub known_variables : Declarations → ℕ → List ℕ
known_variables p id =
    elim (context p id).last [ None ↦ [] | Some last ↦ chain (variable_before p) (length p.nodes) last ]

-- the variable of a name at a node: the last of the name that is in scope
unfoldable pub variable_named : Declarations → ℕ → List ℕ → Option ℕ
variable_named p id name =
    find (λ v. holds (variable_at p.nodes v) (λ d. is_same name d.name)) (known_variables p id)

-- the annotations and modifiers of a member
unfoldable pub member_flags : Node → Option (Option ℕ)
member_flags (Field position name flags declared_type equals value) = Some flags
member_flags (Method position name flags result_type parameters body) = Some flags
member_flags (Constructor position name flags parameters super_call body) = Some flags
member_flags _ = None

abbrev pub is_static_member : List Node → ℕ → Bool
is_static_member nodes member = holds (read nodes member_flags member) (λ flags. (modifiers_at nodes flags).is_static)

-- there is an object that `this` names: not in a static member, and not in the arguments of a super call
unfoldable pub has_object : Declarations → ℕ → Bool
has_object p id = not (context p id).in_super_call && not (holds (context p id).member (is_static_member p.nodes))
