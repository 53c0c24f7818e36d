-- What the parts of each node stand for.
use Rattle.std.proofs.Common.{◌≡◌, ℕ, ◌<◌, List, [], ◌∷◌, ◌++◌, Option, Some, None, slice_get, refl, ap, arith}
use Rattle.scj_tree.specs.declared.nodes.Node.{Node}
use Rattle.scj_tree.specs.declared.nodes.Node.TheVariants.{Class, Method as MethodNode, Constructor, SuperCall, Block, Local as LocalNode, LocalWithValue, Assign, ExpressionStatement, If, While, For, Return, Binary, Unary, Cast, Parenthesized, SimpleName, FieldAccess, Call, Element, New, NewArray, Number, True, False, Null, This}
use Rattle.scj_tree.specs.Forest.{AllBelow}
use Rattle.scj_tree.specs.Shape.{children, optional}
use Rattle.scj_rules.specs.declared.views.WrittenType.TheVariants.{Void as void_type}
use Rattle.scj_rules.specs.Views.{type_at}
use Rattle.scj_rules.specs.ClassRules.{is_same_type}
use Rattle.scj_rules.proofs.ParentLemmas.{all_below_more}
use Rattle.accepted_laws.proofs.TypesBelow.{BehindChildren, below-right}
use Rattle.scj_model.specs.declared.operations.Op.{Op}
use Rattle.scj_model.specs.declared.operations.Op.TheVariants.{Push as PUSH, This as THIS, Elem as ELEM, Unary as UNARY, AllocArray as ALLOCARRAY, Cast as CAST, Zero as ZERO, Store as STORE, If as IF, Loop as LOOP}
use Rattle.scj_model.specs.Code.{Code, binding}
use Rattle.scj_model.specs.Ops.{assign_ops, leaves_value, method_ops, node_ops}
use Rattle.op_list.specs.Parts.{items_of, items_at, assign_parts, assignment_parts, method_parts, node_parts}
use Rattle.op_list.proofs.StandFor.{StandFor, below_split, nothing, visit, last, visit_alone, items_alone}
use Rattle.op_list.proofs.NodeTable.{target_ids, name_stands, access_stands, binary_stands, new_stands, call_stands, dropped_stands, return_stands, assign_stands}
use Rattle.op_list.proofs.BodyTable.{method_stands, super_stands, constructor_stands}

items_are : (nodes : List Node) (id : ℕ) (node : Node) → slice_get nodes id ≡ Some node →
    items_at nodes id ≡ items_of node
unfolding items_at
items_are nodes id node there = ap (λ (o : Option Node). elim o [ None ↦ [] | Some n ↦ items_of n ]) there

module _ (code : Code) (behind : BehindChildren code.program) (id : ℕ) (sub : ℕ → List Op) where
  abbrev nodes : List Node
  nodes = code.program.nodes

  -- what is visited of an assignment's target
  target_below : (target : ℕ) (node : Node) → slice_get nodes target ≡ Some node → target < id →
      AllBelow id (target_ids node)
  unfolding target_ids children AllBelow
  target_below target (FieldAccess position name object) there l =
      all_below_more target id (object ∷ []) (omega (arith, l))
      (behind target (FieldAccess position name object) there)
  target_below target (Element position array index) there l =
      all_below_more target id (array ∷ index ∷ []) (omega (arith, l)) (behind target (Element position array index) there)
  target_below target _ there l = tt

  assignment_stands : (target value : ℕ) → target < id → value < id → (o : Option Node) → slice_get nodes target ≡ o →
      StandFor code id sub (elim o [ None ↦ [] | Some node ↦ assign_parts id value (binding code target) node ])
      (elim o [ None ↦ [] | Some node ↦ assign_ops sub id value (binding code target) node ])
  assignment_stands target value l m None there = nothing code id sub
  assignment_stands target value l m (Some node) there =
      assign_stands code id sub value m node (target_below target node there l) (binding code target)

  pub node_stands : (node : Node) → slice_get nodes id ≡ Some node →
      StandFor code id sub (node_parts code id node) (node_ops code sub id node)
  unfolding node_parts node_ops children AllBelow items_of assignment_parts method_parts method_ops
  node_stands (Number position value is_negative) there = last code id sub (PUSH id)
  node_stands (True position) there = last code id sub (PUSH id)
  node_stands (False position) there = last code id sub (PUSH id)
  node_stands (Null position) there = last code id sub (PUSH id)
  node_stands (This position) there = last code id sub (THIS id)
  node_stands (SimpleName position name) there = name_stands code id sub (binding code id)
  node_stands (FieldAccess position name object) there =
      let h = behind id (FieldAccess position name object) there in
      access_stands code id sub object h.0 (binding code id)
  node_stands (Element position array index) there =
      let h = behind id (Element position array index) there in
      visit code id sub array _ _ h.0 (visit code id sub index _ _ h.1.0 (last code id sub (ELEM id)))
  node_stands (Parenthesized position inner) there =
      let h = behind id (Parenthesized position inner) there in visit_alone code id sub inner h.0
  node_stands (Unary position operator operand) there =
      let h = behind id (Unary position operator operand) there in
      visit code id sub operand _ _ h.0 (last code id sub (UNARY id))
  node_stands (Binary position operator left right) there =
      let h = behind id (Binary position operator left right) there in
      binary_stands code id sub operator left right h.0 h.1.0
  node_stands (New position name_position name arguments) there =
      new_stands code id sub arguments (items_are nodes id (New position name_position name arguments) there)
      (behind id (New position name_position name arguments) there) (binding code id)
  node_stands (NewArray position element length) there =
      let h = behind id (NewArray position element length) there in
      visit code id sub length _ _ h.1.0 (last code id sub (ALLOCARRAY id))
  node_stands (Call position name object arguments) there =
      let h = below_split id (optional object) arguments (behind id (Call position name object arguments) there) in
      call_stands code id sub object arguments (items_are nodes id (Call position name object arguments) there) h.0 h.1
      (binding code id)
  node_stands (Cast position name_position name operand) there =
      let h = behind id (Cast position name_position name operand) there in
      visit code id sub operand _ _ h.0 (last code id sub (CAST id))
  node_stands (LocalNode position name flags declared_type) there = last code id sub (ZERO id)
  node_stands (LocalWithValue position name_position name flags declared_type value) there =
      let h = below-right id (optional flags) (declared_type ∷ value ∷ [])
      (behind id (LocalWithValue position name_position name flags declared_type value) there) in
      visit code id sub value _ _ h.1.0 (last code id sub (STORE id))
  node_stands (Assign position target value) there =
      let h = behind id (Assign position target value) there in
      assignment_stands target value h.0 h.1.0 (slice_get nodes target) refl
  node_stands (ExpressionStatement position expression) there =
      let h = behind id (ExpressionStatement position expression) there in
      dropped_stands code id sub expression h.0 (leaves_value (binding code expression))
  node_stands (Block position statements) there =
      items_alone code id sub statements (items_are nodes id (Block position statements) there)
      (behind id (Block position statements) there)
  node_stands (If position condition then_part else_part) there =
      let h = behind id (If position condition then_part else_part) there in
      visit code id sub condition _ _ h.0 (last code id sub (IF id))
  node_stands (While position condition body) there =
      let h = behind id (While position condition body) there in
      visit code id sub condition _ _ h.0 (last code id sub (LOOP id))
  node_stands (For position first condition step body) there =
      let h = behind id (For position first condition step body) there in
      visit code id sub first _ _ h.0 (visit code id sub condition _ _ h.1.0 (last code id sub (LOOP id)))
  node_stands (Return position value) there = return_stands code id sub value (behind id (Return position value) there)
  node_stands (MethodNode position name flags result_type parameters None) there = nothing code id sub
  node_stands (MethodNode position name flags result_type parameters (Some body)) there =
      let h = below-right id (optional flags) (result_type ∷ (optional parameters ++ body ∷ []))
      (behind id (MethodNode position name flags result_type parameters (Some body)) there) in
      let k = below-right id (optional parameters) (body ∷ []) h.1 in
      method_stands code id sub (is_same_type (type_at nodes result_type) void_type) body k.0
  node_stands (SuperCall position arguments) there =
      super_stands code id sub arguments (items_are nodes id (SuperCall position arguments) there)
      (behind id (SuperCall position arguments) there) (binding code id)
  node_stands (Constructor position name flags parameters super_call body) there =
      let h = below-right id (optional flags) (optional parameters ++ (optional super_call ++ body ∷ []))
      (behind id (Constructor position name flags parameters super_call body) there) in
      let k = below_split id (optional super_call) (body ∷ [])
      (below-right id (optional parameters) (optional super_call ++ body ∷ []) h) in
      constructor_stands code id sub super_call (Some body) k.0 k.1
  node_stands (Class position name flags header members) there = constructor_stands code id sub None None tt tt
  node_stands _ there = nothing code id sub
