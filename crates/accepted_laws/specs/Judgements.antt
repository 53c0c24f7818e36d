-- What the rules say of a node of a program: its type, static scope and binding, and the body in which it stands.
use Rattle.std.specs.Prelude.{◌≡◌, ◌<◌, ℕ, true, false, List, ◌∷◌, Option, Some, None, if◌then◌else◌, is_some, slice_get}
use Rattle.scj_tree.specs.declared.nodes.Node.{Node}
use Rattle.scj_tree.specs.Recursion.{lookup}
use Rattle.scj_rules.specs.declared.typing.Binding.{Binding}
use Rattle.scj_rules.specs.declared.typing.Binding.TheVariants.{Plain}
use Rattle.scj_rules.specs.declared.typing.Scope.{Scope}
use Rattle.scj_rules.specs.declared.typing.Ty.{Ty}
use Rattle.scj_rules.specs.declared.typing.Ty.TheVariants.{Void}
use Rattle.scj_rules.specs.Words.{is_among}
use Rattle.scj_rules.specs.Views.{variable_at}
use Rattle.scj_rules.specs.Contexts.{Declarations, context, is_member, is_static_member, known_variables}
use Rattle.scj_rules.specs.StaticScopes.{this_in}
use Rattle.scj_rules.specs.Types.{class_at_name, is_form_part}
use Rattle.scj_rules.specs.TypeRules.{Types, types_in}
use Rattle.scj_rules.specs.UseRules.{Scopes, scopes_in}
use Rattle.scj_rules.specs.Bindings.{bindings_in}
use Rattle.accepted_laws.specs.Kinds.{Kind, kind_of}
use Rattle.accepted_laws.specs.Sorts.{is_argument}

-- ---- type, static scope and binding of each node of a program

abbrev pub type_at_node : Declarations → Types
type_at_node p = lookup None (types_in p)

abbrev pub scope_at_node : Declarations → Scopes
scope_at_node p = lookup None (scopes_in p (type_at_node p))

abbrev pub binding_at_node : Declarations → ℕ → Binding
binding_at_node p id = lookup Plain (bindings_in p) id

-- type and scope together; None of a call without a value
unfoldable pub Judged : Declarations → ℕ → Option Kind → Type 0
Judged p id None = type_at_node p id ≡ Some Void
Judged p id (Some k) = kind_of (type_at_node p id) (scope_at_node p id) ≡ Some k

-- there is a type; there is a scope
abbrev pub HasType : Option Ty → Type 0
HasType o = (t : Ty) × (o ≡ Some t)

abbrev pub HasScope : Option Scope → Type 0
HasScope o = (s : Scope) × (o ≡ Some s)

-- a node that stands for a value: an expression or a text, but neither the name of a class before a dot nor a part of a
-- framework's form
pub record IsValue (p : Declarations) (id : ℕ) (node : Node) : Type 0 where
  pub is_argument : is_argument node ≡ true
  pub no_class : class_at_name p id node ≡ None
  pub no_form_part : is_form_part p id ≡ false

-- ---- where a node stands

-- in a member b of a class c
pub record Inside (p : Declarations) (b c id : ℕ) : Type 0 where
  pub here : (node : Node) × (slice_get p.nodes id ≡ Some node)
  pub class : (context p id).class ≡ Some c
  pub member : (context p id).member ≡ Some b

-- each variable of the first list stands in the second
abbrev pub Among : List ℕ → List ℕ → Type 0
Among ks ls = (v : ℕ) → is_among v ks ≡ true → is_among v ls ≡ true

-- the variables in scope behind a statement of a block
abbrev pub known_behind : Declarations → ℕ → List ℕ → List ℕ
known_behind p x known = if is_some (variable_at p.nodes x) then x ∷ known else known

-- a child has a smaller number, stands in the same body, and there is no variable in scope that isn't so at the parent
pub record Child (p : Declarations) (b c id x : ℕ) : Type 0 where
  pub smaller : x < id
  pub inside : Inside p b c x
  pub known : Among (known_variables p x) (known_variables p id)

-- the object that `this` names in a body, and its scope
pub record OwnObject (p : Declarations) (b c : ℕ) : Type 0 where
  pub has_object : is_static_member p.nodes b ≡ false
  pub home : Scope
  pub is_home : this_in p c ≡ Some home

-- the member b of a node x is a member, behind the node, and stands in the same class
pub record IsMemberOf (p : Declarations) (x b : ℕ) : Type 0 where
  pub node : Node
  pub is_there : slice_get p.nodes b ≡ Some node
  pub is_a_member : is_member node ≡ true
  pub behind : x < b
  pub same_class : (context p b).class ≡ (context p x).class
