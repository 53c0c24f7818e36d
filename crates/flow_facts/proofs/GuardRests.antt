-- The operations of the nodes of a body, with the `if`s in whose first parts they stand.
use Rattle.std.specs.List.{cons_option}
use Rattle.std.specs.Prelude.{flat_map}
use Rattle.std.proofs.Common.{◌≡◌, ℕ, zero, suc, ◌<◌, List, [], ◌∷◌, ◌++◌, refl, sym, ap, ◌∙◌, subst, arith, true≢false, Option, Some, None, true, false, if◌then◌else◌, slice_get}
use Rattle.scj_base.specs.declared.positions.Position.{Position}
use Rattle.scj_tree.specs.declared.nodes.Node.{Node}
use Rattle.scj_tree.specs.declared.nodes.Node.TheVariants.{Class, Method as MethodNode, Constructor, SuperCall, Block, Local as LocalNode, LocalWithValue, Assign, ExpressionStatement, If, While, For, Return, Binary, Unary, Cast, Parenthesized, SimpleName, FieldAccess, Call as CallNode, Element, New, NewArray, Number, True, False, Null, This as ThisNode}
use Rattle.scj_tree.specs.Forest.{Forest, IsForest}
use Rattle.scj_tree.specs.Recursion.{below}
use Rattle.scj_tree.specs.Shape.{optional, children}
use Rattle.scj_rules.specs.declared.typing.Binding.{Binding}
use Rattle.scj_rules.specs.declared.typing.Binding.TheVariants.{Local as LocalVariable, Field as InstanceField, Static}
use Rattle.scj_rules.specs.declared.typing.Guard.{Guard}
use Rattle.scj_rules.specs.declared.views.Body.TheVariants.{Written}
use Rattle.scj_rules.specs.CheckedProgram.{IsReadFromTexts}
use Rattle.scj_rules.specs.Words.{is_among}
use Rattle.scj_rules.specs.Contexts.{Declarations, declarations_of}
use Rattle.scj_rules.specs.Bindings.{bindings_in}
use Rattle.scj_rules.specs.Guards.{is_first_part, ifs_around}
use Rattle.scj_rules.specs.Phases.{IsAccepted}
use Rattle.scj_rules.proofs.ChainLemmas.{among-behind}
use Rattle.scj_rules.proofs.ParentLemmas.{child-less}
use Rattle.accepted_laws.specs.Judgements.{Inside}
use Rattle.accepted_laws.specs.Sorts.{IsWellSorted, Of}
use Rattle.accepted_laws.proofs.Children.{among_of, inner_children}
use Rattle.accepted_laws.proofs.InnerNodes.{is_inner, inner_no_class}
use Rattle.accepted_nodes.proofs.ValueChildren.{inside_child, not_first}
use Rattle.scj_model.specs.declared.operations.Op.{Op}
use Rattle.scj_model.specs.declared.operations.Op.TheVariants.{Push as PUSH, This as THIS, Elem as ELEM, Unary as UNARY, AllocArray as ALLOCARRAY, Cast as CAST, Zero as ZERO, Store as STORE, PutStatic as PUTSTATIC, PutElem as PUTELEM, If as IF, Loop as LOOP, LeaveWith as LEAVEWITH, Leave as LEAVE, Drop as DROP}
use Rattle.scj_model.specs.Code.{Code, binding}
use Rattle.scj_model.specs.Ops.{leaves_value, assign_ops, return_ops, node_ops, ops_of}
use Rattle.scope_flow.specs.Guards.{guard_of, IsPlain, StandsIn, Rest, asking, Adds}
use Rattle.scope_flow.proofs.Flows.{ops_at}
use Rattle.scope_flow.proofs.Known.{below_lt}
use Rattle.scope_flow.proofs.Rests.{here, later, adds_none, adds_op, adds_both, adds_behind, adds_all}
use Rattle.flow_facts.proofs.IfsAround.{child_around}
use Rattle.flow_facts.proofs.Subjects.{guard_asks}
use Rattle.flow_facts.proofs.GuardNodes.{either, name_adds, access_adds, binary_adds, new_adds, call_adds, super_adds}
use Rattle.flow_facts.proofs.GuardStores.{own_put, field_put}

module _ (forest : Forest) (accepted : IsAccepted forest) (whole : IsForest forest) (sorted : IsWellSorted forest.nodes)
    (is_read : IsReadFromTexts forest) where
  abbrev p : Declarations
  p = declarations_of forest

  abbrev code : Code
  code = record { program = p; bindings = bindings_in p }

  abbrev around : ℕ → List ℕ
  around x = ifs_around forest.nodes x

  -- the first part of an `if`, and the other parts of a node
  pub first_around : (x y : ℕ) (node : Node) → slice_get forest.nodes x ≡ Some node → is_among y (children node) ≡ true →
      is_first_part y node ≡ true → around y ≡ x ∷ around x
  first_around x y node there among is =
      child_around forest whole x y node there among
      ∙ ap (λ t. cons_option (if t then Some x else None) (around x)) is

  pub other_around : (x y : ℕ) (node : Node) → slice_get forest.nodes x ≡ Some node → is_among y (children node) ≡ true →
      is_first_part y node ≡ false → around y ≡ around x
  other_around x y node there among is =
      child_around forest whole x y node there among
      ∙ ap (λ t. cons_option (if t then Some x else None) (around x)) is

  module _ (b c x : ℕ) (inside : Inside p b c x)
      (hyp : (y : ℕ) → y < x → Inside p b c y → Of is_inner forest.nodes y →
      Adds code (Written b) (around y) (ops_of code y)) where
    abbrev sub : ℕ → List Op
    sub = below [] x (ops_of code)

    abbrev A : List Op → Type 0
    A ops = Adds code (Written b) (around x) ops

    -- ---- the children

    child : (node : Node) → slice_get forest.nodes x ≡ Some node → is_inner node ≡ true → (y : ℕ) →
        is_among y (children node) ≡ true → (y < x) × Inside p b c y × (sub y ≡ ops_of code y) ×
        Adds code (Written b) (around y) (sub y)
    child node there inner y among =
        let o =
        among_of forest.nodes is_inner y (children node)
        (inner_children forest.nodes node (inner_no_class node inner) (sorted.each x node there)) among in
        let less = child-less forest whole x y node there among in
        let i = inside_child forest whole accepted b c x y node o.node inside there inner among o.is_there in
        let same = below_lt [] x (ops_of code) y less in
        (less, i, same, subst (Adds code (Written b) (around y)) (sym same) (hyp y less i o))

    -- that is no first part
    other : (node : Node) → slice_get forest.nodes x ≡ Some node → is_inner node ≡ true → (y : ℕ) →
        is_among y (children node) ≡ true → is_first_part y node ≡ false → A (sub y)
    other node there inner y among none =
        subst (λ a. Adds code (Written b) a (sub y)) (other_around x y node there among none)
        (child node there inner y among).3

    abbrev Kids : List ℕ → Type 0
    Kids ids = (y : ℕ) → is_among y ids ≡ true → A (sub y)

    -- ---- by the kinds of nodes

    none : A []
    none = adds_none code (Written b) (around x)

    op : (o : Op) → IsPlain code o → StandsIn code (around x) o → A (o ∷ [])
    op o is_plain stands = adds_op code (Written b) (around x) o is_plain stands

    both : (xs ys : List Op) → A xs → A ys → A (xs ++ ys)
    both xs ys f s = adds_both code (Written b) (around x) xs ys f s

    behind : (xs : List Op) (o : Op) → A xs → IsPlain code o → StandsIn code (around x) o → A (xs ++ o ∷ [])
    behind xs o f is_plain stands = adds_behind code (Written b) (around x) xs o f is_plain stands

    all : (ids : List ℕ) → Kids ids → A (flat_map sub ids)
    all ids k = adds_all code (Written b) (around x) sub ids k

    -- ---- assignments

    -- a node below the target
    record BelowTarget (y : ℕ) : Type 0 where
      within : Inside p b c y
      same : sub y ≡ ops_of code y
      adds : A (sub y)

    below_target : (position : Position) (target value y : ℕ) (node : Node) →
        slice_get forest.nodes x ≡ Some (Assign position target value) → slice_get forest.nodes target ≡ Some node →
        is_inner node ≡ true → is_among y (children node) ≡ true → is_first_part y node ≡ false → BelowTarget y
    unfolding children is_inner is_first_part
    below_target position target value y node there named inner among none =
        let assign : Node = Assign position target value in
        let t = child assign there refl target (here target (value ∷ [])) in
        let o =
        among_of forest.nodes is_inner y (children node)
        (inner_children forest.nodes node (inner_no_class node inner) (sorted.each target node named)) among in
        let less = child-less forest whole target y node named among in
        let i = inside_child forest whole accepted b c target y node o.node t.1 named inner among o.is_there in
        let l : y < x = (let a = t.0 in omega (arith, a, less)) in
        let same = below_lt [] x (ops_of code) y l in
        record {
          within = i;
          same = same;
          adds =
              subst A (sym same)
              (subst (λ a. Adds code (Written b) a (ops_of code y))
              (other_around target y node named among none
              ∙ other_around x target assign there (here target (value ∷ [])) refl) (hyp y l i o));
        }

    assign_adds : (position : Position) (target value : ℕ) → slice_get forest.nodes x ≡ Some (Assign position target value) →
        A (node_ops code sub x (Assign position target value))
    unfolding node_ops assign_ops children is_inner is_first_part IsPlain StandsIn declarations_of
    assign_adds position target value there = go (slice_get forest.nodes target) refl
      where
        assign : Node
        assign = Assign position target value

        v : (value < x) × Inside p b c value × (sub value ≡ ops_of code value) ×
            Adds code (Written b) (around value) (sub value)
        v = child assign there refl value (later value target (value ∷ []) (here value []))

        value_adds : A (sub value)
        value_adds = other assign there refl value (later value target (value ∷ []) (here value [])) refl

        by_target : (n : Node) → slice_get forest.nodes target ≡ Some n → (o : Binding) → A (assign_ops sub x value o n)
        by_target (SimpleName position2 name) named (LocalVariable k) = behind (sub value) (STORE x) value_adds tt refl
        by_target (SimpleName position2 name) named (InstanceField k) =
            own_put forest accepted whole sorted is_read b c x sub position position2 name target value there named v.1 v.2 value_adds
        by_target (SimpleName position2 name) named (Static k) = behind (sub value) (PUTSTATIC x) value_adds tt tt
        by_target (SimpleName position2 name) named _ = none
        by_target (FieldAccess position2 name object) named (InstanceField k) =
            let o =
            below_target position target value object (FieldAccess position2 name object) there named refl (here object []) refl
            in
            field_put forest accepted whole sorted is_read b c x sub position position2 name target value object there named v.1 v.2 o.within o.same o.adds value_adds
        by_target (FieldAccess position2 name object) named (Static k) = behind (sub value) (PUTSTATIC x) value_adds tt tt
        by_target (FieldAccess position2 name object) named _ = none
        by_target (Element position2 array index) named (Static k) = behind (sub value) (PUTSTATIC x) value_adds tt tt
        by_target (Element position2 array index) named _ =
            let n : Node = Element position2 array index in
            let a = below_target position target value array n there named refl (here array (index ∷ [])) refl in
            let i =
            below_target position target value index n there named refl (later index array (index ∷ []) (here index [])) refl
            in
            both (sub array) (sub index ++ (sub value ++ PUTELEM x ∷ [])) a.adds
            (both (sub index) (sub value ++ PUTELEM x ∷ []) i.adds (behind (sub value) (PUTELEM x) value_adds tt tt))
        by_target _ named (Static k) = behind (sub value) (PUTSTATIC x) value_adds tt tt
        by_target _ named _ = none

        go : (o : Option Node) → slice_get forest.nodes target ≡ o →
            A (elim o as (λ _. List Op) [ None ↦ [] | Some node ↦ assign_ops sub x value (binding code target) node ])
        go None e = none
        go (Some n) e = by_target n e (binding code target)

    -- ---- `if`

    if_adds : (position : Position) (condition first : ℕ) (second : Option ℕ) →
        slice_get forest.nodes x ≡ Some (If position condition first second) → A (sub condition ++ IF x ∷ [])
    unfolding children is_inner is_first_part IsPlain StandsIn declarations_of
    if_adds position condition first second there = by_guard (guard_of code x) refl
      where
        node : Node
        node = If position condition first second

        among : is_among condition (children node) ≡ true
        among = here condition (first ∷ optional second)

        k : (condition < x) × Inside p b c condition × (sub condition ≡ ops_of code condition) ×
            Adds code (Written b) (around condition) (sub condition)
        k = child node there refl condition among

        condition_adds : A (sub condition)
        condition_adds =
            other node there refl condition among
            (not_first forest whole accepted x first condition node (first ∷ optional second) there refl
            (here first (optional second)))

        by_guard : (o : Option Guard) → guard_of code x ≡ o → A (sub condition ++ IF x ∷ [])
        by_guard None e = behind (sub condition) (IF x) condition_adds e refl
        by_guard (Some guard) e =
            let q = guard_asks forest accepted whole sorted is_read b c x condition first position second guard there k.1 e in
            (λ rest r.
            subst (λ xs. Rest code (Written b) (around x) ((xs ++ IF x ∷ []) ++ rest)) (sym (k.2 ∙ q.ops))
            (asking (around x) x condition q.first q.second rest q.asks refl r))

    -- ---- all nodes

    node_adds : (node : Node) → slice_get forest.nodes x ≡ Some node → is_inner node ≡ true →
        A (node_ops code sub x node)
    unfolding node_ops return_ops children is_inner is_first_part IsPlain StandsIn declarations_of
    node_adds (Number position value is_negative) there e = op (PUSH x) tt tt
    node_adds (True position) there e = op (PUSH x) tt tt
    node_adds (False position) there e = op (PUSH x) tt tt
    node_adds (Null position) there e = op (PUSH x) tt tt
    node_adds (ThisNode position) there e = op (THIS x) tt tt
    node_adds (SimpleName position name) there e = name_adds code (Written b) (around x) sub x (binding code x)
    node_adds (FieldAccess position name object) there e =
        access_adds code (Written b) (around x) sub x object (binding code x)
        (other (FieldAccess position name object) there refl object (here object []) refl)
    node_adds (Element position array index) there e =
        let k = other (Element position array index) there refl in
        both (sub array) (sub index ++ ELEM x ∷ []) (k array (here array (index ∷ [])) refl)
        (behind (sub index) (ELEM x) (k index (later index array (index ∷ []) (here index [])) refl) tt tt)
    node_adds (Parenthesized position inner) there e =
        other (Parenthesized position inner) there refl inner (here inner []) refl
    node_adds (Unary position operator operand) there e =
        behind (sub operand) (UNARY x)
        (other (Unary position operator operand) there refl operand (here operand []) refl) tt tt
    node_adds (Binary position operator left right) there e =
        let k = other (Binary position operator left right) there refl in
        binary_adds code (Written b) (around x) sub x operator left right refl (k left (here left (right ∷ [])) refl)
        (k right (later right left (right ∷ []) (here right [])) refl)
    node_adds (New position name_position name arguments) there e =
        new_adds code (Written b) (around x) sub x arguments (binding code x) (λ y a. other (New position name_position name arguments) there refl y a refl)
    node_adds (NewArray position element count) there e =
        behind (sub count) (ALLOCARRAY x)
        (other (NewArray position element count) there refl count (later count element (count ∷ []) (here count [])) refl) tt
        tt
    node_adds (CallNode position name object arguments) there e =
        call_adds code (Written b) (around x) sub x object arguments (binding code x)
        (λ y a. other (CallNode position name object arguments) there refl y a refl)
    node_adds (Cast position name_position name operand) there e =
        behind (sub operand) (CAST x)
        (other (Cast position name_position name operand) there refl operand (here operand []) refl) tt tt
    node_adds (LocalNode position name flags declared_type) there e = op (ZERO x) tt refl
    node_adds (LocalWithValue position name_position name flags declared_type value) there e =
        behind (sub value) (STORE x)
        (other (LocalWithValue position name_position name flags declared_type value) there refl value
        (among-behind value (optional flags) (declared_type ∷ value ∷ [])
        (later value declared_type (value ∷ []) (here value []))) refl) tt refl
    node_adds (Assign position target value) there e = assign_adds position target value there
    node_adds (ExpressionStatement position expression) there e =
        both (sub expression) _ (other (ExpressionStatement position expression) there refl expression (here expression []) refl)
        (either code (Written b) (around x) sub x (leaves_value (binding code expression)) (DROP x ∷ []) [] (op (DROP x) tt tt) none)
    node_adds (Block position statements) there e =
        all statements (λ y a. other (Block position statements) there refl y a refl)
    node_adds (If position condition first second) there e = if_adds position condition first second there
    node_adds (While position condition body) there e =
        behind (sub condition) (LOOP x)
        (other (While position condition body) there refl condition (here condition (body ∷ [])) refl) tt refl
    node_adds (For position first condition step body) there e =
        let k = other (For position first condition step body) there refl in
        both (sub first) (sub condition ++ LOOP x ∷ []) (k first (here first (condition ∷ step ∷ body ∷ [])) refl)
        (behind (sub condition) (LOOP x)
        (k condition (later condition first (condition ∷ step ∷ body ∷ []) (here condition (step ∷ body ∷ []))) refl) tt
        refl)
    node_adds (Return position None) there e = op LEAVE tt tt
    node_adds (Return position (Some value)) there e =
        behind (sub value) (LEAVEWITH x) (other (Return position (Some value)) there refl value (here value []) refl) tt tt
    node_adds (SuperCall position arguments) there e =
        super_adds code (Written b) (around x) sub x arguments (binding code x) (λ y a. other (SuperCall position arguments) there refl y a refl)
    node_adds (Class position name flags header members) there e = absurd (true≢false (sym e))
    node_adds (MethodNode position name flags result_type parameters body) there e = absurd (true≢false (sym e))
    node_adds (Constructor position name flags parameters super_call body) there e = absurd (true≢false (sym e))
    node_adds _ there e = none

  -- ---- all nodes of a body, by induction

  adds_up_to : (bound b c x : ℕ) → x < bound → Inside p b c x → Of is_inner forest.nodes x →
      Adds code (Written b) (around x) (ops_of code x)
  unfolding declarations_of
  adds_up_to zero b c x l inside o = absurd (omega (arith, l))
  adds_up_to (suc bound) b c x l inside o =
      subst (Adds code (Written b) (around x)) (sym (ops_at code x o.node o.is_there))
      (node_adds b c x inside (λ y m i q. adds_up_to bound b c y (omega (arith, l, m)) i q) o.node o.is_there o.passes)

  pub inner_adds : (b c x : ℕ) → Inside p b c x → Of is_inner forest.nodes x →
      Adds code (Written b) (around x) (ops_of code x)
  inner_adds b c x inside o = adds_up_to (suc x) b c x (omega arith) inside o
