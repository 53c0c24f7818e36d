-- What the parts of a node lay out is below the node.
use Rattle.std.proofs.Common.{◌≡◌, ℕ, zero, suc, ◌<◌, Bool, true, false, List, [], ◌∷◌, ◌++◌, length, Option, Some, None, slice_get, refl, sym, ap, subst, arith, if◌then◌else◌, ◌==◌}
use Rattle.scj_base.specs.Vocabulary.{sign_and_and, sign_or_or}
use Rattle.scj_builtins.specs.Framework.{mission_request_termination, periodic_handler_register, aperiodic_handler_register, aperiodic_handler_release, managed_memory_enter_private_memory, managed_memory_execute_in_area_of, managed_memory_alloc_in_same, services_set_ceiling, trace_print, device_read}
use Rattle.scj_tree.specs.declared.nodes.Node.{Node}
use Rattle.scj_tree.specs.declared.nodes.Node.TheVariants.{Class, Method as MethodNode, Constructor, SuperCall, Block, Local as LocalNode, LocalWithValue, Assign, ExpressionStatement, If, While, For, Return, Binary, Unary, Cast, Parenthesized, SimpleName, FieldAccess, Call, Element, New, NewArray, Number, True, False, Null, This}
use Rattle.scj_tree.specs.Forest.{AllBelow}
use Rattle.scj_tree.specs.Recursion.{below}
use Rattle.scj_tree.specs.Shape.{children, optional}
use Rattle.scj_rules.specs.declared.typing.Binding.{Binding}
use Rattle.scj_rules.specs.declared.typing.Binding.TheVariants.{Local, Field, Static, Length, Class as ClassNamed, Method, StaticMethod, Builtin}
use Rattle.scj_rules.specs.declared.views.WrittenType.TheVariants.{Void as void_type}
use Rattle.scj_rules.specs.Words.{is_among}
use Rattle.scj_rules.specs.Views.{type_at}
use Rattle.scj_rules.specs.Classes.{is_user_class}
use Rattle.scj_rules.specs.ClassRules.{is_same_type}
use Rattle.scj_rules.specs.Types.{has_form}
use Rattle.scj_rules.specs.Bodies.{class_node, class_of_body}
use Rattle.accepted_laws.proofs.TypesBelow.{BehindChildren}
use Rattle.scj_model.specs.declared.operations.Op.TheVariants.{This as THIS, Enter as ENTER, ExecuteIn as EXECUTEIN, Same as SAME, SetCeiling as SETCEILING, Print as PRINT, Read as READ, Register as REGISTER, Release as RELEASE, Terminate as TERMINATE, Super as SUPER, Params as PARAMS}
use Rattle.scj_model.specs.Code.{Code, binding}
use Rattle.scj_model.specs.Ops.{ops_of, leaves_value}
use Rattle.op_list.specs.declared.parts.Part.{Part}
use Rattle.op_list.specs.declared.parts.Part.TheVariants.{Visit, Emit, Items, Literals}
use Rattle.op_list.specs.Parts.{items_at, all_items, name_parts, access_parts, binary_parts, new_parts, receiver_part, builtin_parts, call_parts, assign_parts, assignment_parts, dropped_parts, return_parts, method_parts, super_parts, unwritten_super_parts, first_parts, body_parts, constructor_parts, node_parts, parts_at}
use Rattle.op_list.specs.declared.choices.Choice.{Choice}
use Rattle.op_list.specs.declared.choices.Choice.TheVariants.{Plain}
use Rattle.op_list.specs.Choices.{and_choice, or_choice, if_choice, loop_choice, choice_at, choice_of, IsBelowIfAny, IsChoiceBelow, IsPartBelow, AreBelow}
use Rattle.op_list.proofs.StandFor.{part_ids, ids_of, below_split}
use Rattle.op_list.proofs.AllNodes.{node_stands}

module _ (nodes : List Node) (id : ℕ) where
  -- what the operations among parts put in front is below the node
  unfoldable pub Emits : List Part → Type 0
  Emits [] = Unit {0}
  Emits (Emit op ∷ parts) = IsChoiceBelow id (choice_of nodes op) × Emits parts
  Emits (_ ∷ parts) = Emits parts

  choose : (b : Bool) (xs ys : List Part) → Emits xs → Emits ys → Emits (if b then xs else ys)
  choose true xs ys p q = p
  choose false xs ys p q = q

  put : (xs ys : List Part) → Emits xs → Emits ys → Emits (xs ++ ys)
  unfolding Emits
  put [] ys p q = q
  put (Emit op ∷ xs) ys p q = (p.0, put xs ys p.1 q)
  put (Visit x ∷ xs) ys p q = put xs ys p q
  put (Items index list ∷ xs) ys p q = put xs ys p q
  put (Literals index class ∷ xs) ys p q = put xs ys p q

  there_is : (by : Node → Choice) (node : Node) → slice_get nodes id ≡ Some node → IsChoiceBelow id (by node) →
      IsChoiceBelow id (choice_at nodes by id)
  unfolding choice_at
  there_is by node there p =
      subst (IsChoiceBelow id) (sym (ap (λ (o : Option Node). elim o [ None ↦ Plain | Some node ↦ by node ]) there)) p

  below_optional : (o : Option ℕ) → AllBelow id (optional o) → IsBelowIfAny id o
  unfolding AllBelow IsBelowIfAny
  below_optional None h = tt
  below_optional (Some x) h = h.0

  names : (x : ℕ) (b : Binding) → Emits (name_parts x b)
  unfolding Emits name_parts choice_of IsChoiceBelow
  names x (Local k) = (tt, tt)
  names x (Field k) = (tt, (tt, tt))
  names x (Static k) = (tt, tt)
  names x _ = tt

  accesses : (x object : ℕ) (b : Binding) → Emits (access_parts x object b)
  unfolding Emits access_parts choice_of IsChoiceBelow
  accesses x object (Field k) = (tt, tt)
  accesses x object (Static k) = (tt, tt)
  accesses x object Length = (tt, tt)
  accesses x object _ = tt

  news : (x : ℕ) (b : Binding) → Emits (new_parts x b)
  unfolding Emits new_parts choice_of IsChoiceBelow
  news x (ClassNamed class) = (tt, (tt, tt))
  news x _ = tt

  received : (x : ℕ) (object : Option ℕ) (parts : List Part) → Emits parts → Emits (receiver_part x object ∷ parts)
  unfolding Emits receiver_part choice_of IsChoiceBelow
  received x None parts p = (tt, p)
  received x (Some object) parts p = p

  pick : (x : ℕ) (object : Option ℕ) (b c s d e f g h i : Bool) → Emits (
      if b then all_items x ∷ Emit (ENTER x) ∷ [] else (if c then all_items x ∷ Emit (EXECUTEIN x) ∷ []
      else (if s then all_items x ∷ Emit (SAME x) ∷ [] else (if d then all_items x ∷ Emit (SETCEILING x) ∷ [] else (if e then all_items x ∷ Emit (PRINT x) ∷ []
      else (if f then all_items x ∷ Emit (READ x) ∷ [] else (if g then receiver_part x object ∷ Emit (TERMINATE x) ∷ []
      else (if h then receiver_part x object ∷ Emit (RELEASE x) ∷ []
      else (if i then receiver_part x object ∷ Emit (REGISTER x) ∷ [] else [])))))))))
  unfolding Emits choice_of IsChoiceBelow
  pick x object true c s d e f g h i = (tt, tt)
  pick x object false true s d e f g h i = (tt, tt)
  pick x object false false true d e f g h i = (tt, tt)
  pick x object false false false true e f g h i = (tt, tt)
  pick x object false false false false true f g h i = (tt, tt)
  pick x object false false false false false true g h i = (tt, tt)
  pick x object false false false false false false true h i = received x object (Emit (TERMINATE x) ∷ []) (tt, tt)
  pick x object false false false false false false false true i = received x object (Emit (RELEASE x) ∷ []) (tt, tt)
  pick x object false false false false false false false false true =
      received x object (Emit (REGISTER x) ∷ []) (tt, tt)
  pick x object false false false false false false false false false = tt

  builtins : (x : ℕ) (object : Option ℕ) (method : ℕ) → Emits (builtin_parts x object method)
  unfolding builtin_parts
  builtins x object method =
      pick x object (method == managed_memory_enter_private_memory) (method == managed_memory_execute_in_area_of)
      (method == managed_memory_alloc_in_same)
      (method == services_set_ceiling) (method == trace_print) (method == device_read)
      (method == mission_request_termination) (method == aperiodic_handler_release)
      (is_among method (periodic_handler_register ∷ aperiodic_handler_register ∷ []))

  two_ways : (x : ℕ) (b c : Bool) →
      Emits (if b then Emit (THIS x) ∷ all_items x ∷ Emit (SUPER x) ∷ [] else (if c then all_items x ∷ Emit (PARAMS x) ∷ [] else []))
  unfolding Emits choice_of IsChoiceBelow
  two_ways x true c = (tt, (tt, tt))
  two_ways x false true = (tt, tt)
  two_ways x false false = tt

  two_others : (x : ℕ) (b c : Bool) →
      Emits (if b then Emit (THIS x) ∷ Emit (SUPER x) ∷ [] else (if c then Emit (PARAMS x) ∷ [] else []))
  unfolding Emits choice_of IsChoiceBelow
  two_others x true c = (tt, (tt, tt))
  two_others x false true = (tt, tt)
  two_others x false false = tt

  calls : (x : ℕ) (object : Option ℕ) (b : Binding) → Emits (call_parts x object b)
  unfolding Emits call_parts choice_of IsChoiceBelow
  calls x object (Method t) = received x object _ (tt, tt)
  calls x object (StaticMethod t) = (tt, tt)
  calls x object (Builtin t) = builtins x object t.id
  calls x object _ = tt

  assigns : (x value : ℕ) (b : Binding) (target : Node) → Emits (assign_parts x value b target)
  unfolding Emits assign_parts choice_of IsChoiceBelow
  assigns x value (Local k) (SimpleName position name) = (tt, tt)
  assigns x value (Field k) (SimpleName position name) = (tt, (tt, tt))
  assigns x value (Field k) (FieldAccess position name object) = (tt, tt)
  assigns x value (Static k) _ = (tt, tt)
  assigns x value _ (Element position array index) = (tt, tt)
  assigns x value _ _ = tt

  assignments : (code : Code) (x value target : ℕ) (o : Option Node) →
      Emits (elim o [ None ↦ [] | Some node ↦ assign_parts x value (binding code target) node ])
  unfolding Emits
  assignments code x value target None = tt
  assignments code x value target (Some node) = assigns x value (binding code target) node

  returns : (x : ℕ) (value : Option ℕ) → Emits (return_parts x value)
  unfolding Emits return_parts choice_of IsChoiceBelow
  returns x None = (tt, tt)
  returns x (Some value) = (tt, tt)

  methods : (is_void : Bool) (body : Option ℕ) → Emits (method_parts is_void body)
  unfolding Emits method_parts choice_of IsChoiceBelow
  methods is_void None = tt
  methods is_void (Some body) = choose is_void _ _ (tt, tt) tt

  supers : (x : ℕ) (b : Binding) → Emits (super_parts x b)
  unfolding Emits super_parts choice_of IsChoiceBelow
  supers x (ClassNamed class) = two_ways x (is_user_class class) (has_form class)
  supers x _ = tt

  unwritten : (x : ℕ) (b : Binding) → Emits (unwritten_super_parts x b)
  unfolding Emits unwritten_super_parts choice_of IsChoiceBelow
  unwritten x (ClassNamed class) = two_others x (is_user_class class) (has_form class)
  unwritten x _ = tt

  unwritten_at : (code : Code) (o : Option ℕ) →
      Emits (elim o [ None ↦ [] | Some node ↦ unwritten_super_parts node (binding code node) ])
  unfolding Emits
  unwritten_at code None = tt
  unwritten_at code (Some node) = unwritten node (binding code node)

  firsts : (code : Code) (class : ℕ) (call : Option ℕ) → Emits (first_parts code class call)
  unfolding Emits first_parts
  firsts code class (Some call) = tt
  firsts code class None = unwritten_at code (class_node code.program class)

  bodies : (body : Option ℕ) → Emits (body_parts body)
  unfolding Emits body_parts choice_of IsChoiceBelow
  bodies None = (tt, tt)
  bodies (Some body) = (tt, tt)

  constructors : (code : Code) (call body : Option ℕ) (o : Option ℕ) →
      Emits (elim o [ None ↦ [] | Some class ↦ first_parts code class call ++ (Literals 0 class ∷ body_parts body) ])
  unfolding Emits
  constructors code call body None = tt
  constructors code call body (Some class) = put (first_parts code class call) _ (firsts code class call) (bodies body)

module _ (code : Code) (behind : BehindChildren code.program) (id : ℕ) where
  abbrev nodes : List Node
  nodes = code.program.nodes

  emits : (node : Node) → slice_get nodes id ≡ Some node → Emits nodes id (node_parts code id node)
  unfolding Emits node_parts binary_parts assignment_parts dropped_parts constructor_parts choice_of IsChoiceBelow
      IsBelowIfAny AllBelow children and_choice or_choice if_choice loop_choice
  emits (Number position value is_negative) there = (tt, tt)
  emits (True position) there = (tt, tt)
  emits (False position) there = (tt, tt)
  emits (Null position) there = (tt, tt)
  emits (This position) there = (tt, tt)
  emits (SimpleName position name) there = names nodes id id (binding code id)
  emits (FieldAccess position name object) there = accesses nodes id id object (binding code id)
  emits (Element position array index) there = (tt, tt)
  emits (Parenthesized position inner) there = tt
  emits (Unary position operator operand) there = (tt, tt)
  emits (Binary position operator left right) there =
      let h = behind id (Binary position operator left right) there in
      choose nodes id (operator == sign_and_and) _ _
      (there_is nodes id and_choice (Binary position operator left right) there (h.1.0, tt), tt)
      (choose nodes id (operator == sign_or_or) _ _
      (there_is nodes id or_choice (Binary position operator left right) there (tt, h.1.0), tt)
      (tt, tt))
  emits (New position name_position name arguments) there = news nodes id id (binding code id)
  emits (NewArray position element length) there = (tt, tt)
  emits (Call position name object arguments) there = calls nodes id id object (binding code id)
  emits (Cast position name_position name operand) there = (tt, tt)
  emits (LocalNode position name flags declared_type) there = (tt, tt)
  emits (LocalWithValue position name_position name flags declared_type value) there = (tt, tt)
  emits (Assign position target value) there = assignments nodes id code id value target (slice_get nodes target)
  emits (ExpressionStatement position expression) there =
      choose nodes id (leaves_value (binding code expression)) _ _ (tt, tt) tt
  emits (Block position statements) there = tt
  emits (If position condition then_part else_part) there =
      let h = behind id (If position condition then_part else_part) there in (
        there_is nodes id if_choice (If position condition then_part else_part) there
            (h.1.0, below_optional nodes id else_part h.1.1),
        tt,
      )
  emits (While position condition body) there =
      let h = behind id (While position condition body) there in
      (there_is nodes id loop_choice (While position condition body) there (h.1.0, tt, h.0), tt)
  emits (For position start condition step body) there =
      let h = behind id (For position start condition step body) there in
      (there_is nodes id loop_choice (For position start condition step body) there (h.1.1.1.0, h.1.1.0, h.1.0), tt)
  emits (Return position value) there = returns nodes id id value
  emits (MethodNode position name flags result_type parameters body) there =
      methods nodes id (is_same_type (type_at nodes result_type) void_type) body
  emits (SuperCall position arguments) there = supers nodes id id (binding code id)
  emits (Constructor position name flags parameters super_call body) there =
      constructors nodes id code super_call (Some body) (class_of_body code.program id)
  emits (Class position name flags header members) there =
      constructors nodes id code None None (class_of_body code.program id)
  emits _ there = tt

  at : (xs : List ℕ) → AllBelow id xs → (k item : ℕ) → slice_get xs k ≡ Some item → item < id
  unfolding AllBelow
  at [] h k item e = absurd (cc (e))
  at (x ∷ xs) h zero item e = let same : x ≡ item = cc in omega (arith, h.0, same)
  at (x ∷ xs) h (suc k) item e = at xs h.1 k item e

  both : (parts : List Part) → AllBelow id (ids_of nodes parts) → Emits nodes id parts → AreBelow nodes id parts
  unfolding ids_of part_ids AllBelow Emits AreBelow IsPartBelow
  both [] h e = tt
  both (Visit x ∷ parts) h e = (h.0, both parts h.1 e)
  both (Emit op ∷ parts) h e = (e.0, both parts h e.1)
  both (Items index list ∷ parts) h e =
      let r = below_split id (items_at nodes list) (ids_of nodes parts) h in
      (at (items_at nodes list) r.0, both parts r.1 e)
  both (Literals index class ∷ parts) h e = (tt, both parts h e)

  parts_of : (o : Option Node) → slice_get nodes id ≡ o →
      AreBelow nodes id (elim o [ None ↦ [] | Some node ↦ node_parts code id node ])
  unfolding AreBelow
  parts_of None there = tt
  parts_of (Some node) there =
      both (node_parts code id node) (node_stands code behind id (below [] id (ops_of code)) node there).below
      (emits node there)

  pub parts_below : AreBelow nodes id (parts_at code id)
  unfolding parts_at
  parts_below = parts_of (slice_get nodes id) refl

-- one of these parts
pub one_below : (nodes : List Node) (id : ℕ) (parts : List Part) → AreBelow nodes id parts → (k : ℕ) (part : Part) →
    slice_get parts k ≡ Some part → IsPartBelow nodes id part
unfolding AreBelow
one_below nodes id [] h k part e = absurd (cc (e))
one_below nodes id (p ∷ ps) h zero part e = let is : p ≡ part = cc in subst (IsPartBelow nodes id) is h.0
one_below nodes id (p ∷ ps) h (suc k) part e = one_below nodes id ps h.1 k part e
