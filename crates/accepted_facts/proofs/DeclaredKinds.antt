-- The types of declarations are those of values: of ints, booleans and references; a result may be `void` too.
use Rattle.std.proofs.Common.{◌≡◌, ℕ, List, refl, sym, ap, ◌∙◌, Option, Some, None, Bool, true, false, true≢false, ◌⊎◌, inl, inr, option_and_then, option_map, unwrap_or, slice_get}
use Rattle.scj_tree.specs.declared.nodes.Node.{Node}
use Rattle.scj_tree.specs.declared.nodes.Node.TheVariants.{IntType, BooleanType, ClassType, VoidType, LongType, Field, Method, Parameter, Local, LocalWithValue}
use Rattle.scj_tree.specs.Forest.{Forest}
use Rattle.scj_rules.specs.declared.typing.Scope.{Scope}
use Rattle.scj_rules.specs.declared.typing.Ty.{Ty}
use Rattle.scj_rules.specs.declared.typing.Ty.TheVariants.{Int, Bool as Boolean, Void, Class as ClassTy, IntArray, BoolArray, ClassArray}
use Rattle.scj_rules.specs.declared.views.Declared.{Declared}
use Rattle.scj_rules.specs.declared.views.WrittenType.TheVariants.{Void as void_type}
use Rattle.scj_rules.specs.Views.{DeclaredMethod, type_of_node, type_at, variable_at, variable_of, field_at, field_of, method_at, method_of}
use Rattle.scj_rules.specs.Classes.{class_number}
use Rattle.scj_rules.specs.Contexts.{Declarations, declarations_of}
use Rattle.scj_rules.specs.Types.{type_written, is_reference}
use Rattle.scj_rules.specs.TypeRules.{declared_type_of}
use Rattle.accepted_laws.specs.Judgements.{HasScope}
use Rattle.accepted_laws.specs.Kinds.{Kind, number, truth, reference, kind_of}
use Rattle.accepted_laws.specs.Sorts.{Of, HasRightChildren, IsWellSorted, is_type, is_result}
use Rattle.accepted_laws.proofs.Tools.{some_inj}

-- the type of a value that is no text and not null alone
unfoldable pub holds_values : Ty → Bool
holds_values Int = true
holds_values Boolean = true
holds_values (ClassTy class) = true
holds_values IntArray = true
holds_values BoolArray = true
holds_values (ClassArray class) = true
holds_values _ = false

-- such a value has a kind, where a reference has a scope
pub has_kind : (t : Ty) (s : Option Scope) → holds_values t ≡ true → (is_reference t ≡ true → HasScope s) → (k : Kind) × (kind_of (Some t) s ≡ Some k)
unfolding holds_values is_reference kind_of
has_kind Int s r h = (number, refl)
has_kind Boolean s r h = (truth, refl)
has_kind (ClassTy c) s r h = (let q = h refl in (reference (ClassTy c) q.0, ap (kind_of (Some (ClassTy c))) q.1))
has_kind IntArray s r h = (let q = h refl in (reference IntArray q.0, ap (kind_of (Some IntArray)) q.1))
has_kind BoolArray s r h = (let q = h refl in (reference BoolArray q.0, ap (kind_of (Some BoolArray)) q.1))
has_kind (ClassArray c) s r h = (let q = h refl in (reference (ClassArray c) q.0, ap (kind_of (Some (ClassArray c))) q.1))
has_kind _ s r h = absurd (true≢false (sym r))

holds : (t u : Ty) → Some t ≡ Some u → holds_values t ≡ true → holds_values u ≡ true
holds t u e h = ap holds_values (sym (some_inj t u e)) ∙ h

class_holds : (o : Option ℕ) (f : ℕ → Ty) (u : Ty) → ((n : ℕ) → holds_values (f n) ≡ true) → option_map f o ≡ Some u → holds_values u ≡ true
class_holds None f u h e = absurd (cc (e))
class_holds (Some n) f u h e = holds (f n) u e (h n)

node_holds : (names : List (List ℕ)) (node : Node) (u : Ty) → is_type node ≡ true → type_written names (unwrap_or (type_of_node node) void_type) ≡ Some u → holds_values u ≡ true
unfolding is_type type_of_node type_written holds_values
node_holds names (IntType position true) u k e = holds IntArray u e refl
node_holds names (IntType position false) u k e = holds Int u e refl
node_holds names (BooleanType position true) u k e = holds BoolArray u e refl
node_holds names (BooleanType position false) u k e = holds Boolean u e refl
node_holds names (ClassType position name argument true) u k e = class_holds (class_number names name) (λ class. ClassArray class) u (λ n. refl) e
node_holds names (ClassType position name argument false) u k e = class_holds (class_number names name) (λ class. ClassTy class) u (λ n. refl) e
node_holds names _ u k e = absurd (true≢false (sym k))

node_gives : (names : List (List ℕ)) (node : Node) (u : Ty) → is_result node ≡ true → type_written names (unwrap_or (type_of_node node) void_type) ≡ Some u → (u ≡ Void) ⊎ (holds_values u ≡ true)
unfolding is_result is_type type_of_node type_written
node_gives names (VoidType position) u k e = inl (sym (some_inj Void u e))
node_gives names (LongType position) u k e = absurd (cc (e))
node_gives names (IntType position is_array) u k e = inr (node_holds names (IntType position is_array) u k e)
node_gives names (BooleanType position is_array) u k e = inr (node_holds names (BooleanType position is_array) u k e)
node_gives names (ClassType position name argument is_array) u k e = inr (node_holds names (ClassType position name argument is_array) u k e)
node_gives names _ u k e = absurd (true≢false (sym k))

module _ (forest : Forest) (sorted : IsWellSorted forest.nodes) where
  abbrev p : Declarations
  p = declarations_of forest

  children_at : (id : ℕ) (node : Node) → slice_get p.nodes id ≡ Some node → HasRightChildren p.nodes node
  unfolding declarations_of
  children_at id node there = sorted.each id node there

  type_holds : (t : ℕ) (u : Ty) → Of is_type p.nodes t → type_written p.names (type_at p.nodes t) ≡ Some u → holds_values u ≡ true
  type_holds t u o e = node_holds p.names o.node u o.passes (sym (ap (λ (n : Option Node). type_written p.names (unwrap_or (option_and_then type_of_node n) void_type)) o.is_there) ∙ e)

  result_gives : (t : ℕ) (u : Ty) → Of is_result p.nodes t → type_written p.names (type_at p.nodes t) ≡ Some u → (u ≡ Void) ⊎ (holds_values u ≡ true)
  result_gives t u o e = node_gives p.names o.node u o.passes (sym (ap (λ (n : Option Node). type_written p.names (unwrap_or (option_and_then type_of_node n) void_type)) o.is_there) ∙ e)

  as_declared : (d e : Declared) (u : Ty) → d ≡ e → declared_type_of p e ≡ Some u → declared_type_of p d ≡ Some u
  as_declared d e u s h = ap (declared_type_of p) s ∙ h

  variable_node : (id : ℕ) (node : Node) (d : Declared) (u : Ty) → HasRightChildren p.nodes node → variable_of p.nodes id node ≡ Some d → declared_type_of p d ≡ Some u → holds_values u ≡ true
  unfolding variable_of HasRightChildren
  variable_node id (Parameter position name flags declared_type) d u h k e = type_holds declared_type u h.1 (as_declared _ d u (some_inj _ d k) e)
  variable_node id (Local position name flags declared_type) d u h k e = type_holds declared_type u h.1 (as_declared _ d u (some_inj _ d k) e)
  variable_node id (LocalWithValue position name_position name flags declared_type value) d u h k e = type_holds declared_type u h.1 (as_declared _ d u (some_inj _ d k) e)
  variable_node id _ d u h k e = absurd (cc (k))

  -- variables hold values
  pub variable_holds : (id : ℕ) (d : Declared) (u : Ty) → variable_at p.nodes id ≡ Some d → declared_type_of p d ≡ Some u → holds_values u ≡ true
  variable_holds id d u k e = go (slice_get p.nodes id) refl k
    where
      go : (o : Option Node) → slice_get p.nodes id ≡ o → option_and_then (variable_of p.nodes id) o ≡ Some d → holds_values u ≡ true
      go None there k = absurd (cc (k))
      go (Some node) there k = variable_node id node d u (children_at id node there) k e

  field_node : (id : ℕ) (node : Node) (d : Declared) (u : Ty) → HasRightChildren p.nodes node → field_of p.nodes id node ≡ Some d → declared_type_of p d ≡ Some u → holds_values u ≡ true
  unfolding field_of HasRightChildren
  field_node id (Field position name flags declared_type equals value) d u h k e = type_holds declared_type u h.1 (as_declared _ d u (some_inj _ d k) e)
  field_node id _ d u h k e = absurd (cc (k))

  -- fields hold values
  pub field_holds : (id : ℕ) (d : Declared) (u : Ty) → field_at p.nodes id ≡ Some d → declared_type_of p d ≡ Some u → holds_values u ≡ true
  field_holds id d u k e = go (slice_get p.nodes id) refl k
    where
      go : (o : Option Node) → slice_get p.nodes id ≡ o → option_and_then (field_of p.nodes id) o ≡ Some d → holds_values u ≡ true
      go None there k = absurd (cc (k))
      go (Some node) there k = field_node id node d u (children_at id node there) k e

  method_gives_at : (id : ℕ) (node : Node) (m : DeclaredMethod) (u : Ty) → HasRightChildren p.nodes node → method_of p.nodes id node ≡ Some m → declared_type_of p m.declared ≡ Some u → (u ≡ Void) ⊎ (holds_values u ≡ true)
  unfolding method_of HasRightChildren
  method_gives_at id (Method position name flags result_type parameters body) m u h k e = result_gives result_type u h.1 (ap (λ (m : DeclaredMethod). declared_type_of p m.declared) (some_inj _ m k) ∙ e)
  method_gives_at id _ m u h k e = absurd (cc (k))

  -- methods give values, or nothing
  pub method_gives : (id : ℕ) (m : DeclaredMethod) (u : Ty) → method_at p.nodes id ≡ Some m → declared_type_of p m.declared ≡ Some u → (u ≡ Void) ⊎ (holds_values u ≡ true)
  method_gives id m u k e = go (slice_get p.nodes id) refl k
    where
      go : (o : Option Node) → slice_get p.nodes id ≡ o → option_and_then (method_of p.nodes id) o ≡ Some m → (u ≡ Void) ⊎ (holds_values u ≡ true)
      go None there k = absurd (cc (k))
      go (Some node) there k = method_gives_at id node m u (children_at id node there) k e
