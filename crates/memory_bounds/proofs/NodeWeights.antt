-- The operations of a node need no more than the node.
use Rattle.std.specs.Prelude.{Option, Some, None, slice_get, flat_map, max, if◌then◌else◌, option_to_list, option_map, map}
use Rattle.std.proofs.Common.{◌≡◌, ℕ, zero, suc, ◌+◌, ◌<◌, ◌≤◌, List, [], ◌∷◌, ◌++◌, Bool, true, false, ◌==◌, nat_lt, refl, sym, ◌∙◌, ap, subst, arith, zero-add}
use Rattle.std.proofs.lemmas.Bool.Decides.{nat_tests}
use Rattle.scj_base.specs.Vocabulary.{sign_and_and, sign_or_or}
use Rattle.scj_base.specs.declared.positions.Position.{Position}
use Rattle.scj_builtins.specs.Framework.{mission_request_termination, periodic_handler_register, aperiodic_handler_register, aperiodic_handler_release, managed_memory_enter_private_memory, managed_memory_execute_in_area_of, managed_memory_alloc_in_same, services_set_ceiling, trace_print, device_read}
use Rattle.scj_tree.specs.declared.nodes.Node.{Node}
use Rattle.scj_tree.specs.declared.nodes.Node.TheVariants.{Class, Method as MethodNode, Constructor, SuperCall, Block, Local as LocalNode, LocalWithValue, Assign, ExpressionStatement, If, While, For, Return, Binary, Unary, Cast, Parenthesized, SimpleName, FieldAccess, Call, Element, New, NewArray, Number, True, False, Null, This}
use Rattle.scj_tree.specs.Forest.{AllBelow, ChildrenFirst}
use Rattle.scj_tree.specs.Recursion.{below}
use Rattle.scj_tree.specs.Shape.{children, optional}
use Rattle.scj_tree.proofs.RecursionLemmas.{by_smaller-is}
use Rattle.scj_rules.specs.declared.typing.Binding.{Binding}
use Rattle.scj_rules.specs.declared.typing.Binding.TheVariants.{Local, Field, Static, Length, Class as ClassNamed, Method, StaticMethod, Builtin}
use Rattle.scj_rules.specs.declared.views.Declared.{Declared}
use Rattle.scj_rules.specs.declared.views.WrittenType.TheVariants.{Void as void_type}
use Rattle.scj_rules.specs.Views.{type_at}
use Rattle.scj_rules.specs.ClassRules.{is_same_type}
use Rattle.scj_rules.specs.Words.{is_among, ◌>>=◌}
use Rattle.scj_rules.specs.Classes.{is_user_class}
use Rattle.scj_rules.specs.Types.{has_form}
use Rattle.scj_rules.specs.Layout.{fields_with_literal}
use Rattle.scj_rules.specs.Bodies.{class_node, class_of_body}
use Rattle.scj_rules.proofs.ParentLemmas.{children_below}
use Rattle.accepted_laws.proofs.Tools.{some_inj}
use Rattle.scj_model.specs.declared.operations.Op.{Op}
use Rattle.scj_model.specs.declared.operations.Op.TheVariants.{This as THIS, Get as GET, Length as LENGTH, Elem as ELEM, Unary as UNARY, Bin as BIN, And as AND, Or as OR, Alloc as ALLOC, Construct as CONSTRUCT, AllocArray as ALLOCARRAY, Call as CALL, CallStatic as CALLSTATIC, Cast as CAST, Enter as ENTER, ExecuteIn as EXECUTEIN, Same as SAME, SetCeiling as SETCEILING, Print as PRINT, Read as READ, Register as REGISTER, Release as RELEASE, Terminate as TERMINATE, Store as STORE, Put as PUT, PutStatic as PUTSTATIC, PutElem as PUTELEM, If as IF, Loop as LOOP, LeaveWith as LEAVEWITH, Leave as LEAVE, Drop as DROP, Init as INIT, Super as SUPER, Params as PARAMS}
use Rattle.scj_model.specs.Code.{Code, binding, part}
use Rattle.scj_model.specs.Ops.{name_ops, access_ops, binary_ops, new_ops, receiver_ops, builtin_ops, call_ops, leaves_value, assign_ops, return_ops, method_ops, super_ops, unwritten_super_ops, literal_ops, constructor_ops, node_ops, next_ops, ops_of, right_operand, if_parts, iteration_ops, optional_ops, put_in_front}
use Rattle.scope_flow.proofs.Flows.{ops_at}
use Rattle.memory_needs.specs.Targets.{constructor_targets, call_targets}
use Rattle.memory_needs.specs.Need.{Table, greatest, object_bytes, sum_of, too_much}
use Rattle.memory_bounds.specs.Weights.{array_weight, entered_weight, executed_weight, call_weight, new_weight, super_weight, unwritten_super_weight, loop_weight, number_or, node_weight, next_weight, weight, iteration_weight, op_weight, ops_weight}
use Rattle.memory_needs.proofs.Agree.{below_lt}

-- what an assignment evaluates of its target
unfoldable target_parts : Node → List ℕ
target_parts (SimpleName position name) = []
target_parts (FieldAccess position name object) = object ∷ []
target_parts (Element position array index) = array ∷ index ∷ []
target_parts _ = []

module _ (code : Code) (table : Table) where
  pub append_weight : (xs ys : List Op) →
      ops_weight code table (xs ++ ys) ≡ ops_weight code table xs + ops_weight code table ys
  unfolding ops_weight
  append_weight [] ys = omega arith
  append_weight (x ∷ xs) ys = let e = append_weight xs ys in omega (arith, e)

  pub tail_weight : (xs : List Op) (op : Op) →
      ops_weight code table (xs ++ op ∷ []) ≡ ops_weight code table xs + op_weight code table op
  unfolding ops_weight
  tail_weight xs op = let e = append_weight xs (op ∷ []) in omega (arith, e)

  pub weight_at : (id : ℕ) (n : Node) → slice_get code.program.nodes id ≡ Some n →
      weight code table id ≡ node_weight code table (below 0 id (weight code table)) id n
  unfolding weight next_weight
  weight_at id n there =
      by_smaller-is 0 (next_weight code table) id
      ∙ ap (λ (o : Option Node). elim o [ None ↦ 0 | Some node ↦ node_weight code table (below 0 id (weight code table)) id node ])
      there

  -- the operations of parts, and what these need
  module _ (ops : ℕ → List Op) (sub : ℕ → ℕ) (covers : (x : ℕ) → ops_weight code table (ops x) ≤ sub x) (id : ℕ) where
    flat_covered : (xs : List ℕ) → ops_weight code table (flat_map ops xs) ≤ sum_of sub xs
    unfolding ops_weight sum_of
    flat_covered [] = omega arith
    flat_covered (x ∷ xs) =
        let a = append_weight (ops x) (flat_map ops xs) in
        let b = covers x in
        let c = flat_covered xs in
        omega (arith, a, b, c)

    name_covered : (b : Binding) → ops_weight code table (name_ops id b) ≤ 0
    unfolding ops_weight op_weight name_ops
    name_covered (Local k) = omega arith
    name_covered (Field k) = omega arith
    name_covered (Static k) = omega arith
    name_covered _ = omega arith

    access_covered : (object : ℕ) (b : Binding) → ops_weight code table (access_ops ops id object b) ≤ sub object
    unfolding ops_weight op_weight access_ops
    access_covered object (Field k) = let a = tail_weight (ops object) (GET id) in let b = covers object in omega (arith, a, b)
    access_covered object (Static k) = omega arith
    access_covered object Length = let a = tail_weight (ops object) (LENGTH id) in let b = covers object in omega (arith, a, b)
    access_covered object _ = omega arith

    -- one part, two and three parts, and an operation behind them
    one_covered : (x : ℕ) (op : Op) (n : ℕ) → op_weight code table op ≤ n → ops_weight code table (ops x ++ op ∷ []) ≤ sub x + n
    one_covered x op n h = let a = tail_weight (ops x) op in let b = covers x in omega (arith, a, b)

    two_covered : (x y : ℕ) (op : Op) (n : ℕ) → op_weight code table op ≤ n →
        ops_weight code table (ops x ++ (ops y ++ op ∷ [])) ≤ sub x + (sub y + n)
    two_covered x y op n h =
        let a = append_weight (ops x) (ops y ++ op ∷ []) in
        let b = covers x in
        let c = one_covered y op n h in
        omega (arith, a, b, c)

    all_covered : (xs : List ℕ) (op : Op) (n : ℕ) → op_weight code table op ≤ n →
        ops_weight code table (flat_map ops xs ++ op ∷ []) ≤ sum_of sub xs + n
    all_covered xs op n h =
        let a = tail_weight (flat_map ops xs) op in let b = flat_covered xs in omega (arith, a, b)

    optional_sum : (o : Option ℕ) (x : ℕ) → o ≡ Some x → sum_of sub (optional o) ≡ sub x
    unfolding sum_of
    optional_sum o x e = rw e (omega arith)

    -- `new`
    new_covered : (xs : List ℕ) (b : Binding) → binding code id ≡ b →
        ops_weight code table (new_ops ops id xs b) ≤ sum_of sub xs + new_weight code table b
    unfolding ops_weight op_weight new_ops new_weight
    new_covered xs (ClassNamed class) e =
        let a = all_covered xs (CONSTRUCT id) (greatest table (constructor_targets code.program (ClassNamed class))) (construct_weight e) in
        let b = alloc_weight e in
        omega (arith, a, b)
      where
        construct_weight : binding code id ≡ ClassNamed class →
            op_weight code table (CONSTRUCT id) ≤ greatest table (constructor_targets code.program (ClassNamed class))
        construct_weight e = rw e (omega arith)

        alloc_weight : binding code id ≡ ClassNamed class →
            op_weight code table (ALLOC id) ≤ object_bytes code.program (ClassNamed class)
        alloc_weight e = rw e (omega arith)
    new_covered xs _ e = let a = flat_covered xs in omega (arith, a)

    receiver_covered : (o : Option ℕ) → ops_weight code table (receiver_ops ops id o) ≤ sum_of sub (optional o)
    unfolding ops_weight op_weight receiver_ops sum_of
    receiver_covered None = omega arith
    receiver_covered (Some x) = let a = covers x in omega (arith, a)

    -- calls
    instance_covered : (o : Option ℕ) (xs : List ℕ) (op : Op) (n : ℕ) → op_weight code table op ≤ n →
        ops_weight code table (receiver_ops ops id o ++ (flat_map ops xs ++ op ∷ []))
        ≤ sum_of sub (optional o) + (sum_of sub xs + n)
    instance_covered o xs op n h =
        let a = append_weight (receiver_ops ops id o) (flat_map ops xs ++ op ∷ []) in
        let b = receiver_covered o in
        let c = all_covered xs op n h in
        omega (arith, a, b, c)

    static_covered : (o : Option ℕ) (xs : List ℕ) (op : Op) (n : ℕ) → op_weight code table op ≤ n →
        ops_weight code table (flat_map ops xs ++ op ∷ []) ≤ sum_of sub (optional o) + (sum_of sub xs + n)
    static_covered o xs op n h = let c = all_covered xs op n h in omega (arith, c)

    asked_covered : (o : Option ℕ) (xs : List ℕ) (op : Op) (n : ℕ) → op_weight code table op ≤ 0 →
        ops_weight code table (receiver_ops ops id o ++ op ∷ []) ≤ sum_of sub (optional o) + (sum_of sub xs + n)
    asked_covered o xs op n h =
        let a = tail_weight (receiver_ops ops id o) op in let b = receiver_covered o in omega (arith, a, b)

    builtin_covered : (o : Option ℕ) (xs : List ℕ) (m : ℕ) →
        ops_weight code table (builtin_ops ops id o xs m)
        ≤ sum_of sub (optional o) + (sum_of sub xs
        + (if m == managed_memory_enter_private_memory then entered_weight code table id
        else (if m == managed_memory_execute_in_area_of then executed_weight code table id else 0)))
    unfolding builtin_ops op_weight ops_weight
    builtin_covered o xs m = first (m == managed_memory_enter_private_memory)
      where
        rest : ℕ
        rest = sum_of sub (optional o) + (sum_of sub xs + 0)

        free : (op : Op) → op_weight code table op ≤ 0 → ops_weight code table (flat_map ops xs ++ op ∷ []) ≤ rest
        free op h = static_covered o xs op 0 h

        eighth : (b : Bool) → ops_weight code table (if b then receiver_ops ops id o ++ REGISTER id ∷ [] else []) ≤ rest
        eighth true = asked_covered o xs (REGISTER id) 0 (omega arith)
        eighth false = omega arith

        seventh : (b c : Bool) → ops_weight code table (if b then receiver_ops ops id o ++ RELEASE id ∷ []
            else (if c then receiver_ops ops id o ++ REGISTER id ∷ [] else [])) ≤ rest
        seventh true c = asked_covered o xs (RELEASE id) 0 (omega arith)
        seventh false c = eighth c

        sixth : (b c d : Bool) → ops_weight code table (if b then receiver_ops ops id o ++ TERMINATE id ∷ []
            else (if c then receiver_ops ops id o ++ RELEASE id ∷ []
            else (if d then receiver_ops ops id o ++ REGISTER id ∷ [] else []))) ≤ rest
        sixth true c d = asked_covered o xs (TERMINATE id) 0 (omega arith)
        sixth false c d = seventh c d

        others : (s a b c d e f : Bool) → ops_weight code table (if s then flat_map ops xs ++ SAME id ∷ []
            else (if a then flat_map ops xs ++ SETCEILING id ∷ []
            else (if b then flat_map ops xs ++ PRINT id ∷ []
            else (if c then flat_map ops xs ++ READ id ∷ []
            else (if d then receiver_ops ops id o ++ TERMINATE id ∷ []
            else (if e then receiver_ops ops id o ++ RELEASE id ∷ []
            else (if f then receiver_ops ops id o ++ REGISTER id ∷ [] else []))))))) ≤ rest
        others true a b c d e f = free (SAME id) (omega arith)
        others false true b c d e f = free (SETCEILING id) (omega arith)
        others false false true c d e f = free (PRINT id) (omega arith)
        others false false false true d e f = free (READ id) (omega arith)
        others false false false false d e f = sixth d e f

        second : (b : Bool) →
            ops_weight code table (if b then flat_map ops xs ++ EXECUTEIN id ∷ []
            else (if m == managed_memory_alloc_in_same then flat_map ops xs ++ SAME id ∷ []
            else (if m == services_set_ceiling then flat_map ops xs ++ SETCEILING id ∷ []
            else (if m == trace_print then flat_map ops xs ++ PRINT id ∷ []
            else (if m == device_read then flat_map ops xs ++ READ id ∷ []
            else (if m == mission_request_termination then receiver_ops ops id o ++ TERMINATE id ∷ []
            else (if m == aperiodic_handler_release then receiver_ops ops id o ++ RELEASE id ∷ []
            else (if is_among m (periodic_handler_register ∷ aperiodic_handler_register ∷ [])
            then receiver_ops ops id o ++ REGISTER id ∷ [] else []))))))))
            ≤ sum_of sub (optional o) + (sum_of sub xs + (if b then executed_weight code table id else 0))
        second true = static_covered o xs (EXECUTEIN id) (executed_weight code table id) (omega arith)
        second false =
            others (m == managed_memory_alloc_in_same) (m == services_set_ceiling) (m == trace_print) (m == device_read) (m == mission_request_termination)
            (m == aperiodic_handler_release) (is_among m (periodic_handler_register ∷ aperiodic_handler_register ∷ []))

        first : (b : Bool) →
            ops_weight code table (if b then flat_map ops xs ++ ENTER id ∷ []
            else (if m == managed_memory_execute_in_area_of then flat_map ops xs ++ EXECUTEIN id ∷ []
            else (if m == managed_memory_alloc_in_same then flat_map ops xs ++ SAME id ∷ []
            else (if m == services_set_ceiling then flat_map ops xs ++ SETCEILING id ∷ []
            else (if m == trace_print then flat_map ops xs ++ PRINT id ∷ []
            else (if m == device_read then flat_map ops xs ++ READ id ∷ []
            else (if m == mission_request_termination then receiver_ops ops id o ++ TERMINATE id ∷ []
            else (if m == aperiodic_handler_release then receiver_ops ops id o ++ RELEASE id ∷ []
            else (if is_among m (periodic_handler_register ∷ aperiodic_handler_register ∷ [])
            then receiver_ops ops id o ++ REGISTER id ∷ [] else [])))))))))
            ≤ sum_of sub (optional o) + (sum_of sub xs + (if b then entered_weight code table id
            else (if m == managed_memory_execute_in_area_of then executed_weight code table id else 0)))
        first true = static_covered o xs (ENTER id) (entered_weight code table id) (omega arith)
        first false = second (m == managed_memory_execute_in_area_of)

    call_covered : (o : Option ℕ) (xs : List ℕ) (b : Binding) → binding code id ≡ b →
        ops_weight code table (call_ops ops id o xs b)
        ≤ sum_of sub (optional o) + (sum_of sub xs + call_weight code table id b)
    unfolding call_ops call_weight op_weight ops_weight
    call_covered o xs (Method t) e =
        instance_covered o xs (CALL id) (greatest table (call_targets code.program (Method t))) (is e)
      where
        is : binding code id ≡ Method t → op_weight code table (CALL id) ≤ greatest table (call_targets code.program (Method t))
        is e = rw e (omega arith)
    call_covered o xs (StaticMethod t) e =
        static_covered o xs (CALLSTATIC id) (greatest table (call_targets code.program (StaticMethod t))) (is e)
      where
        is : binding code id ≡ StaticMethod t →
            op_weight code table (CALLSTATIC id) ≤ greatest table (call_targets code.program (StaticMethod t))
        is e = rw e (omega arith)
    call_covered o xs (Builtin t) e = builtin_covered o xs t.id
    call_covered o xs _ e = nothing
      where
        nothing : {n : ℕ} → ops_weight code table [] ≤ n
        nothing = omega arith

    -- ---- operators: what AND and OR put in front is the right operand
    part_at : {A : Type 0} (f : Node → Option A) (n : Node) → slice_get code.program.nodes id ≡ Some n →
        part code f id ≡ f n
    part_at f n there = ap (λ (x : Option Node). elim x [ None ↦ None | Some y ↦ f y ]) there

    short_weight : (position : Position) (operator left right : ℕ) →
        slice_get code.program.nodes id ≡ Some (Binary position operator left right) →
        sum_of (weight code table) (option_to_list (part code right_operand id)) ≡ weight code table right
    unfolding sum_of right_operand
    short_weight position operator left right there = rw (part_at right_operand _ there) (omega arith)

    binary_covered : (position : Position) (operator left right : ℕ) →
        slice_get code.program.nodes id ≡ Some (Binary position operator left right) →
        sub right ≡ weight code table right →
        ops_weight code table (binary_ops ops id operator left right) ≤ sub left + (sub right + 0)
    unfolding binary_ops op_weight
    binary_covered position operator left right there same = first (operator == sign_and_and)
      where
        short : sum_of (weight code table) (option_to_list (part code right_operand id)) ≡ weight code table right
        short = short_weight position operator left right there

        second : (b : Bool) →
            ops_weight code table (if b then ops left ++ OR id ∷ [] else ops left ++ (ops right ++ BIN id ∷ []))
            ≤ sub left + (sub right + 0)
        second true = one_covered left (OR id) (sub right + 0) (omega (arith, short, same))
        second false = two_covered left right (BIN id) 0 (omega arith)

        first : (b : Bool) →
            ops_weight code table (if b then ops left ++ AND id ∷ [] else
            (if operator == sign_or_or then ops left ++ OR id ∷ [] else ops left ++ (ops right ++ BIN id ∷ [])))
            ≤ sub left + (sub right + 0)
        first true = one_covered left (AND id) (sub right + 0) (omega (arith, short, same))
        first false = second (operator == sign_or_or)

    -- ---- super parts and bodies
    super_covered : (xs : List ℕ) (node : ℕ) (b : Binding) → binding code node ≡ b →
        ops_weight code table (super_ops ops node xs b) ≤ sum_of sub xs + super_weight code table b
    unfolding ops_weight op_weight super_ops super_weight
    super_covered xs node (ClassNamed superclass) e = calls (is_user_class superclass) (has_form superclass)
      where
        is : op_weight code table (SUPER node) ≤ greatest table (constructor_targets code.program (ClassNamed superclass))
        is = rw e (omega arith)

        calls : (b c : Bool) →
            ops_weight code table (if b then THIS node ∷ flat_map ops xs ++ SUPER node ∷ []
            else (if c then flat_map ops xs ++ PARAMS node ∷ [] else []))
            ≤ sum_of sub xs
            + (if b then greatest table (constructor_targets code.program (ClassNamed superclass)) else 0)
        calls true c =
            let a = all_covered xs (SUPER node) (greatest table (constructor_targets code.program (ClassNamed superclass))) is in
            omega (arith, a)
        calls false true = all_covered xs (PARAMS node) 0 (omega arith)
        calls false false = omega arith
    super_covered xs node _ e = omega arith

    unwritten_covered : (class : ℕ) →
        ops_weight code table (unwritten_super_ops code ops class)
        ≤ (elim (class_node code.program class) [ None ↦ 0 | Some node ↦ super_weight code table (binding code node) ])
    unfolding ops_weight unwritten_super_ops sum_of
    unwritten_covered class = of (class_node code.program class)
      where
        of : (o : Option ℕ) →
            ops_weight code table (elim o [ None ↦ [] | Some node ↦ super_ops ops node [] (binding code node) ])
            ≤ (elim o [ None ↦ 0 | Some node ↦ super_weight code table (binding code node) ])
        of None = omega arith
        of (Some node) = let a = super_covered [] node (binding code node) refl in omega (arith, a)

    literals_free : (fs : List Declared) → ops_weight code table (map (λ (f : Declared). INIT f.node) fs) ≡ 0
    unfolding ops_weight op_weight
    literals_free [] = refl
    literals_free (f ∷ fs) = let a = literals_free fs in omega (arith, a)

    behind_super : (xs : List Op) (class : ℕ) (body : List Op) →
        ops_weight code table (xs ++ (literal_ops code class ++ (body ++ LEAVE ∷ [])))
        ≡ ops_weight code table xs + ops_weight code table body
    unfolding literal_ops op_weight
    behind_super xs class body =
        let a = append_weight xs (literal_ops code class ++ (body ++ LEAVE ∷ [])) in
        let b = append_weight (literal_ops code class) (body ++ LEAVE ∷ []) in
        let c = literals_free (fields_with_literal code.program class) in
        let d = tail_weight body LEAVE in
        omega (arith, a, b, c, d)

    constructor_covered : (super_call : Option ℕ) (body : List Op) (n : ℕ) → ops_weight code table body ≤ n →
        ops_weight code table (constructor_ops code ops id super_call body)
        ≤ (elim super_call [ None ↦ unwritten_super_weight code table id | Some call ↦ sub call ]) + n
    unfolding constructor_ops unwritten_super_weight ops_weight
    constructor_covered super_call body n h = of (class_of_body code.program id) refl super_call
      where
        of : (o : Option ℕ) → class_of_body code.program id ≡ o → (super_call : Option ℕ) →
            ops_weight code table (elim o [
              | None ↦ []
              | Some class ↦
                  (elim super_call [ None ↦ unwritten_super_ops code ops class | Some call ↦ ops call ])
                  ++ (literal_ops code class ++ (body ++ LEAVE ∷ []))
            ])
            ≤ (elim super_call [ None ↦ unwritten_super_weight code table id | Some call ↦ sub call ]) + n
        of None e super_call = omega arith
        of (Some class) e None =
            let a = behind_super (unwritten_super_ops code ops class) class body in
            let b = unwritten_covered class in
            let c : unwritten_super_weight code table id
            ≡ (elim (class_node code.program class) [ None ↦ 0 | Some node ↦ super_weight code table (binding code node) ]) =
            ap (λ (o : Option ℕ). elim (o >>= class_node code.program) [
              | None ↦ 0
              | Some node ↦ super_weight code table (binding code node)
            ]) e in
            omega (arith, a, b, c, h)
        of (Some class) e (Some call) =
            let a = behind_super (ops call) class body in
            let b = covers call in
            omega (arith, a, b, h)

    -- ---- statements
    assign_covered : (value t : ℕ) (b : Binding) (n : Node) → sum_of sub (target_parts n) ≤ t →
        ops_weight code table (assign_ops ops id value b n) ≤ t + (sub value + 0)
    unfolding ops_weight op_weight assign_ops sum_of target_parts
    assign_covered value t (Static k) n h =
        let a = one_covered value (PUTSTATIC id) 0 (omega arith) in omega (arith, a)
    assign_covered value t (Local k) (SimpleName position name) h =
        let a = one_covered value (STORE id) 0 (omega arith) in omega (arith, a)
    assign_covered value t (Field k) (SimpleName position name) h =
        let a = one_covered value (PUT id) 0 (omega arith) in omega (arith, a)
    assign_covered value t (Field k) (FieldAccess position name object) h =
        let a = two_covered object value (PUT id) 0 (omega arith) in omega (arith, a, h)
    assign_covered value t b (Element position array index) h =
        let a = append_weight (ops array) (ops index ++ (ops value ++ PUTELEM id ∷ [])) in
        let c = covers array in
        let d = two_covered index value (PUTELEM id) 0 (omega arith) in
        element b (omega (arith, a, c, d, h))
      where
        element : (b : Binding) →
            ops_weight code table (ops array ++ (ops index ++ (ops value ++ PUTELEM id ∷ []))) ≤ t + (sub value + 0) →
            ops_weight code table (assign_ops ops id value b (Element position array index)) ≤ t + (sub value + 0)
        element (Static k) g = let a = one_covered value (PUTSTATIC id) 0 (omega arith) in omega (arith, a)
        element _ g = g
    assign_covered value t _ _ h = omega arith

    statement_covered : (x : ℕ) (b : Bool) →
        ops_weight code table (ops x ++ (if b then DROP id ∷ [] else [])) ≤ sub x + 0
    unfolding ops_weight op_weight
    statement_covered x true = one_covered x (DROP id) 0 (omega arith)
    statement_covered x false = let a = append_weight (ops x) [] in let b = covers x in omega (arith, a, b)

    return_covered : (value : Option ℕ) →
        ops_weight code table (return_ops ops id value) ≤ sum_of sub (optional value)
    unfolding ops_weight op_weight return_ops sum_of
    return_covered None = omega arith
    return_covered (Some x) = one_covered x (LEAVEWITH id) 0 (omega arith)

    method_covered : (result_type : ℕ) (body : Option ℕ) →
        ops_weight code table (method_ops code ops result_type body) ≤ sum_of sub (optional body)
    unfolding ops_weight op_weight method_ops sum_of
    method_covered result_type None = omega arith
    method_covered result_type (Some x) = of (is_same_type (type_at code.program.nodes result_type) void_type)
      where
        of : (b : Bool) → ops_weight code table (if b then ops x ++ LEAVE ∷ [] else ops x) ≤ sub x + 0
        of true = one_covered x LEAVE 0 (omega arith)
        of false = let a = covers x in omega (arith, a)

    -- ---- all nodes, whose parts are before them
    module _ (same : (x : ℕ) → x < id → sub x ≡ weight code table x) where
      all_same : (xs : List ℕ) → AllBelow id xs → sum_of sub xs ≡ sum_of (weight code table) xs
      unfolding sum_of AllBelow
      all_same [] h = refl
      all_same (x ∷ xs) h = let a = same x h.0 in let b = all_same xs h.1 in omega (arith, a, b)

      if_weight : (position : Position) (condition then_part : ℕ) (else_part : Option ℕ) →
          slice_get code.program.nodes id ≡ Some (If position condition then_part else_part) →
          AllBelow id (condition ∷ then_part ∷ optional else_part) →
          op_weight code table (IF id) ≡ max (sub then_part) (sum_of sub (optional else_part))
      unfolding op_weight if_parts AllBelow
      if_weight position condition then_part else_part there h =
          let a = same then_part h.1.0 in
          let b = all_same (optional else_part) h.1.1 in
          let e : op_weight code table (IF id)
          ≡ max (weight code table then_part) (sum_of (weight code table) (optional else_part)) =
          ap (λ (o : Option (ℕ × Option ℕ)). elim o [
            | None ↦ 0
            | Some parts ↦ max (weight code table parts.0) (sum_of (weight code table) (optional parts.1))
          ]) (part_at if_parts (If position condition then_part else_part) there) in
          omega (arith, e, a, b)

      while_weight : (position : Position) (condition body : ℕ) →
          slice_get code.program.nodes id ≡ Some (While position condition body) →
          AllBelow id (condition ∷ body ∷ []) →
          op_weight code table (LOOP id) ≡ loop_weight (sub condition + sub body)
      unfolding op_weight iteration_weight AllBelow
      while_weight position condition body there h =
          let a = same condition h.0 in
          let b = same body h.1.0 in
          let e : op_weight code table (LOOP id) ≡ loop_weight (weight code table condition + weight code table body) =
          ap (λ (o : Option ℕ). loop_weight (number_or 0 o)) (part_at (iteration_weight code table) (While position condition body) there) in
          e ∙ ap loop_weight (omega (arith, a, b))

      for_weight : (position : Position) (begins condition step body : ℕ) →
          slice_get code.program.nodes id ≡ Some (For position begins condition step body) →
          AllBelow id (begins ∷ condition ∷ step ∷ body ∷ []) →
          op_weight code table (LOOP id) ≡ loop_weight (sub condition + (sub step + sub body))
      unfolding op_weight iteration_weight AllBelow
      for_weight position begins condition step body there h =
          let a = same condition h.1.0 in
          let b = same step h.1.1.0 in
          let c = same body h.1.1.1.0 in
          let e : op_weight code table (LOOP id)
          ≡ loop_weight (weight code table condition + (weight code table step + weight code table body)) =
          ap (λ (o : Option ℕ). loop_weight (number_or 0 o))
          (part_at (iteration_weight code table) (For position begins condition step body) there) in
          e ∙ ap loop_weight (omega (arith, a, b, c))

      node_covered : (n : Node) → slice_get code.program.nodes id ≡ Some n → AllBelow id (children n) →
          ((target : ℕ) (t : Node) → target < id → slice_get code.program.nodes target ≡ Some t →
          sum_of sub (target_parts t) ≤ sub target) →
          ops_weight code table (node_ops code ops id n) ≤ node_weight code table sub id n
      unfolding node_ops node_weight ops_weight op_weight sum_of children AllBelow
      node_covered (Number position value is_negative) there h k = omega arith
      node_covered (True position) there h k = omega arith
      node_covered (False position) there h k = omega arith
      node_covered (Null position) there h k = omega arith
      node_covered (This position) there h k = omega arith
      node_covered (SimpleName position name) there h k = name_covered (binding code id)
      node_covered (FieldAccess position name object) there h k =
          let a = access_covered object (binding code id) in omega (arith, a)
      node_covered (Element position array index) there h k = two_covered array index (ELEM id) 0 (omega arith)
      node_covered (Parenthesized position inner) there h k = let a = covers inner in omega (arith, a)
      node_covered (Unary position operator operand) there h k = one_covered operand (UNARY id) 0 (omega arith)
      node_covered (Binary position operator left right) there h k =
          binary_covered position operator left right there (same right h.1.0)
      node_covered (New position name_position name xs) there h k = new_covered xs (binding code id) refl
      node_covered (NewArray position element count) there h k = one_covered count (ALLOCARRAY id) (array_weight code id) (omega arith)
      node_covered (Call position name object xs) there h k = call_covered object xs (binding code id) refl
      node_covered (Cast position name_position name operand) there h k = one_covered operand (CAST id) 0 (omega arith)
      node_covered (LocalNode position name flags declared_type) there h k = omega arith
      node_covered (LocalWithValue position name_position name flags declared_type value) there h k =
          let a = one_covered value (STORE id) 0 (omega arith) in omega (arith, a)
      node_covered (Assign position target value) there h k = of (slice_get code.program.nodes target) refl
        where
          of : (o : Option Node) → slice_get code.program.nodes target ≡ o →
              ops_weight code table (elim o [ None ↦ [] | Some node ↦ assign_ops ops id value (binding code target) node ])
              ≤ sub target + (sub value + 0)
          of None e = omega arith
          of (Some t) e = assign_covered value (sub target) (binding code target) t (k target t h.0 e)
      node_covered (ExpressionStatement position expression) there h k =
          statement_covered expression (leaves_value (binding code expression))
      node_covered (Block position statements) there h k = flat_covered statements
      node_covered (If position condition then_part else_part) there h k =
          one_covered condition (IF id) (max (sub then_part) (sum_of sub (optional else_part)))
          (let a = if_weight position condition then_part else_part there h in omega (arith, a))
      node_covered (While position condition body) there h k =
          one_covered condition (LOOP id) (loop_weight (sub condition + sub body))
          (let a = while_weight position condition body there h in omega (arith, a))
      node_covered (For position begins condition step body) there h k =
          two_covered begins condition (LOOP id) (loop_weight (sub condition + (sub step + sub body)))
          (let a = for_weight position begins condition step body there h in omega (arith, a))
      node_covered (Return position value) there h k = return_covered value
      node_covered (MethodNode position name flags result_type parameters body) there h k = method_covered result_type body
      node_covered (SuperCall position xs) there h k = super_covered xs id (binding code id) refl
      node_covered (Constructor position name flags parameters super_call body) there h k =
          constructor_covered super_call (ops body) (sub body) (covers body)
      node_covered (Class position name flags header members) there h k =
          let a = constructor_covered None [] 0 (omega arith) in omega (arith, a)
      node_covered _ there h k = omega arith

  -- ---- by induction on the numbers
  module _ (first : ChildrenFirst 0 code.program.nodes) where
    pub below_children : (id : ℕ) (n : Node) → slice_get code.program.nodes id ≡ Some n → AllBelow id (children n)
    below_children id n there =
        subst (λ m. AllBelow m (children n)) (zero-add id) (children_below code.program.nodes 0 id n first there)

    -- what is evaluated of a target needs no more than the target
    target_covered : (id target : ℕ) (t : Node) → target < id → slice_get code.program.nodes target ≡ Some t →
        sum_of (below 0 id (weight code table)) (target_parts t) ≤ below 0 id (weight code table) target
    unfolding target_parts sum_of node_weight children AllBelow
    target_covered id target t l there =
        let e = below_lt 0 id (weight code table) target l in
        let a = weight_at target t there in
        let b = of t (below_children target t there) in
        omega (arith, e, a, b)
      where
        both : (x : ℕ) → x < target → below 0 id (weight code table) x ≡ below 0 target (weight code table) x
        both x m = below_lt 0 id (weight code table) x (omega (arith, l, m)) ∙ sym (below_lt 0 target (weight code table) x m)

        of : (t : Node) → AllBelow target (children t) →
            sum_of (below 0 id (weight code table)) (target_parts t)
            ≤ node_weight code table (below 0 target (weight code table)) target t
        of (FieldAccess position name object) h = let a = both object h.0 in omega (arith, a)
        of (Element position array index) h = let a = both array h.0 in let b = both index h.1.0 in omega (arith, a, b)
        of _ h = omega arith

    step_covered : (id : ℕ) → ((x : ℕ) → x < id → ops_weight code table (ops_of code x) ≤ weight code table x) →
        ops_weight code table (ops_of code id) ≤ weight code table id
    unfolding ops_weight ops_of next_ops
    step_covered id hyp = of (slice_get code.program.nodes id) refl
      where
        covers : (x : ℕ) →
            ops_weight code table (below [] id (ops_of code) x) ≤ below 0 id (weight code table) x
        covers x = by_test (nat_lt x id) refl
          where
            by_test : (b : Bool) → nat_lt x id ≡ b →
                ops_weight code table (if b then ops_of code x else []) ≤ (if b then weight code table x else 0)
            by_test true e = hyp x (grind (arith, nat_tests))
            by_test false e = omega arith

        of : (o : Option Node) → slice_get code.program.nodes id ≡ o →
            ops_weight code table (ops_of code id) ≤ weight code table id
        of None e =
            let a : ops_of code id ≡ [] =
            by_smaller-is [] (next_ops code) id
            ∙ ap (λ (x : Option Node). elim x [ None ↦ [] | Some node ↦ node_ops code (below [] id (ops_of code)) id node ]) e in
            let b = ap (ops_weight code table) a in
            omega (arith, b)
        of (Some n) e =
            let a = ap (ops_weight code table) (ops_at code id n e) in
            let b = weight_at id n e in
            let c = node_covered (below [] id (ops_of code)) (below 0 id (weight code table)) covers id
            (λ x l. below_lt 0 id (weight code table) x l) n e (below_children id n e)
            (λ target t l there. target_covered id target t l there) in
            omega (arith, a, b, c)

    covered_up_to : (bound id : ℕ) → id < bound → ops_weight code table (ops_of code id) ≤ weight code table id
    covered_up_to zero id l = absurd (omega (arith, l))
    covered_up_to (suc bound) id l = step_covered id (λ x m. covered_up_to bound x (omega (arith, l, m)))

    -- the operations of a node need no more than the node
    pub ops_covered : (id : ℕ) → ops_weight code table (ops_of code id) ≤ weight code table id
    ops_covered id = covered_up_to (suc id) id (omega arith)

    optional_covered : (o : Option ℕ) →
        ops_weight code table (optional_ops code o) ≤ sum_of (weight code table) (optional o)
    unfolding optional_ops ops_weight sum_of
    optional_covered None = omega arith
    optional_covered (Some x) = let a = ops_covered x in omega (arith, a)

    turn_is : (n : ℕ) → loop_weight n < too_much → n ≡ 0
    turn_is n h = of (n == 0) refl h
      where
        of : (b : Bool) → (n == 0) ≡ b → (if b then 0 else too_much) < too_much → n ≡ 0
        of true e h = grind (arith, nat_tests)
        of false e h = absurd (omega (arith, h))

    iteration_covered : (id : ℕ) (node : Node) (turn : List Op) → slice_get code.program.nodes id ≡ Some node →
        iteration_ops code id node ≡ Some turn → op_weight code table (LOOP id) < too_much →
        ops_weight code table turn ≤ op_weight code table (LOOP id)
    unfolding iteration_ops op_weight iteration_weight ops_weight
    iteration_covered id (While position condition body) turn there e h =
        let is : op_weight code table (LOOP id) ≡ loop_weight (weight code table condition + weight code table body) =
        ap (λ (o : Option Node). loop_weight (number_or 0 (elim o [ None ↦ None | Some n ↦ iteration_weight code table n ]))) there in
        let none = turn_is (weight code table condition + weight code table body) (omega (arith, is, h)) in
        let t = ap (λ (o : Option (List Op)). ops_weight code table (elim o [ None ↦ [] | Some x ↦ x ])) e in
        let a = append_weight (ops_of code body) (ops_of code condition ++ LOOP id ∷ []) in
        let b = tail_weight (ops_of code condition) (LOOP id) in
        let c = ops_covered body in
        let d = ops_covered condition in
        omega (arith, none, t, a, b, c, d)
    iteration_covered id (For position begins condition step body) turn there e h =
        let is : op_weight code table (LOOP id)
        ≡ loop_weight (weight code table condition + (weight code table step + weight code table body)) =
        ap (λ (o : Option Node). loop_weight (number_or 0 (elim o [ None ↦ None | Some n ↦ iteration_weight code table n ]))) there in
        let none = turn_is (weight code table condition + (weight code table step + weight code table body)) (omega (arith, is, h)) in
        let t = ap (λ (o : Option (List Op)). ops_weight code table (elim o [ None ↦ [] | Some x ↦ x ])) e in
        let a = append_weight (ops_of code body) (ops_of code step ++ (ops_of code condition ++ LOOP id ∷ [])) in
        let b = append_weight (ops_of code step) (ops_of code condition ++ LOOP id ∷ []) in
        let c = tail_weight (ops_of code condition) (LOOP id) in
        let d = ops_covered body in
        let f = ops_covered condition in
        let g = ops_covered step in
        omega (arith, none, t, a, b, c, d, f, g)
    iteration_covered id _ turn there e h = absurd (cc (e))

    short_covered : (o : Option ℕ) (b : Bool) (ops : List Op) →
        option_map (λ right. if b then ops_of code right else []) o ≡ Some ops →
        ops_weight code table ops ≤ sum_of (weight code table) (option_to_list o)
    unfolding ops_weight sum_of
    short_covered None b ops e = absurd (cc (e))
    short_covered (Some right) true ops e =
        let a = ops_covered right in let s = ap (ops_weight code table) (some_inj (ops_of code right) ops e) in omega (arith, a, s)
    short_covered (Some right) false ops e =
        let s = ap (ops_weight code table) (some_inj [] ops e) in omega (arith, s)

    other_covered : (o : Option ℕ) (b : Bool) (ops : List Op) →
        option_map (λ right. if b then [] else ops_of code right) o ≡ Some ops →
        ops_weight code table ops ≤ sum_of (weight code table) (option_to_list o)
    unfolding ops_weight sum_of
    other_covered None b ops e = absurd (cc (e))
    other_covered (Some right) false ops e =
        let a = ops_covered right in let s = ap (ops_weight code table) (some_inj (ops_of code right) ops e) in omega (arith, a, s)
    other_covered (Some right) true ops e =
        let s = ap (ops_weight code table) (some_inj [] ops e) in omega (arith, s)

    either_covered : (o : Option (ℕ × Option ℕ)) (b : Bool) (ops : List Op) →
        option_map (λ (parts : ℕ × Option ℕ). if b then ops_of code parts.0 else optional_ops code parts.1) o ≡ Some ops →
        ops_weight code table ops
        ≤ (elim o [
          | None ↦ 0
          | Some parts ↦ max (weight code table parts.0) (sum_of (weight code table) (optional parts.1))
        ])
    either_covered None b ops e = absurd (cc (e))
    either_covered (Some parts) true ops e =
        let a = ops_covered parts.0 in
        let s = ap (ops_weight code table) (some_inj (ops_of code parts.0) ops e) in omega (arith, a, s)
    either_covered (Some parts) false ops e =
        let a = optional_covered parts.1 in
        let s = ap (ops_weight code table) (some_inj (optional_ops code parts.1) ops e) in omega (arith, a, s)

    again_covered : (id : ℕ) (o : Option (List Op)) → part code (iteration_ops code id) id ≡ o → (b : Bool) (ops : List Op) →
        option_map (λ turn. if b then turn else []) o ≡ Some ops → op_weight code table (LOOP id) < too_much →
        ops_weight code table ops ≤ op_weight code table (LOOP id)
    unfolding ops_weight
    again_covered id None p b ops e h = absurd (cc (e))
    again_covered id (Some turn) p false ops e h =
        let s = ap (ops_weight code table) (some_inj [] ops e) in omega (arith, s)
    again_covered id (Some turn) p true ops e h = of (slice_get code.program.nodes id) refl p
      where
        of : (n : Option Node) → slice_get code.program.nodes id ≡ n →
            (elim n [ None ↦ None | Some node ↦ iteration_ops code id node ]) ≡ Some turn →
            ops_weight code table ops ≤ op_weight code table (LOOP id)
        of None there q = absurd (cc (q))
        of (Some node) there q =
            let a = iteration_covered id node turn there q h in
            let s = ap (ops_weight code table) (some_inj turn ops e) in
            omega (arith, a, s)

    -- what a condition puts in front of the rest needs no more than the operation that it stands for
    pub front_covered : (op : Op) (b : Bool) (ops : List Op) → put_in_front code op b ≡ Some ops →
        op_weight code table op < too_much → ops_weight code table ops ≤ op_weight code table op
    unfolding put_in_front op_weight
    front_covered (AND id) b ops e h = short_covered (part code right_operand id) b ops e
    front_covered (OR id) b ops e h = other_covered (part code right_operand id) b ops e
    front_covered (IF id) b ops e h = either_covered (part code if_parts id) b ops e
    front_covered (LOOP id) b ops e h = again_covered id (part code (iteration_ops code id) id) refl b ops e h
    front_covered _ b ops e h = absurd (cc (e))
