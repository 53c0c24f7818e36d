-- The operations of each node run what nodes in it may run; so do those on a way through a body.
use Rattle.std.specs.Prelude.{Option, Some, None, Contains, flat_map, nat_lt, option_map, slice_get, if◌then◌else◌}
use Rattle.std.proofs.Common.{◌≡◌, ◌⊎◌, inl, inr, ℕ, zero, suc, ◌<◌, ◌==◌, ◌||◌, Bool, true, false, List, [], ◌∷◌, ◌++◌, refl, sym, ◌∙◌, ap, subst, arith}
use Rattle.std.proofs.lemmas.Bool.Decides.{nat_tests}
use Rattle.std.proofs.lemmas.List.Elements.{Contains-append_left, Contains-append_right}
use Rattle.scj_base.specs.declared.positions.Position.{Position}
use Rattle.scj_builtins.specs.Framework.{aperiodic_handler_register, aperiodic_handler_release, device_read, managed_memory_enter_private_memory, managed_memory_execute_in_area_of, managed_memory_alloc_in_same, mission_request_termination, periodic_handler_register, services_set_ceiling, trace_print}
use Rattle.scj_tree.specs.declared.nodes.Node.{Node}
use Rattle.scj_tree.specs.declared.nodes.Node.TheVariants.{Class, Method as MethodNode, Constructor, SuperCall, Block, Local as LocalNode, LocalWithValue, Assign, ExpressionStatement, If, While, For, Return, Binary, Unary, Cast, Parenthesized, SimpleName, FieldAccess, Call, Element, New, NewArray, Number, True, False, Null, This}
use Rattle.scj_tree.specs.Recursion.{below}
use Rattle.scj_tree.specs.Shape.{children, optional}
use Rattle.scj_tree.proofs.RecursionLemmas.{by_smaller-is}
use Rattle.scj_rules.specs.declared.typing.Binding.{Binding}
use Rattle.scj_rules.specs.declared.typing.Binding.TheVariants.{Class as ClassNamed, Method, StaticMethod, Builtin}
use Rattle.scj_rules.specs.declared.typing.Target.{Target}
use Rattle.scj_rules.specs.declared.views.Body.{Body}
use Rattle.scj_rules.specs.declared.views.Body.TheVariants.{Written, Empty}
use Rattle.scj_rules.specs.Words.{is_among, ◌>>=◌}
use Rattle.scj_rules.proofs.ReportLemmas.{Contains-tail, none_contained}
use Rattle.accepted_laws.proofs.Tools.{some_inj}
use Rattle.scj_model.specs.declared.operations.Op.{Op}
use Rattle.scj_model.specs.declared.operations.Op.TheVariants.{Push as PUSH, This as THIS, Elem as ELEM, Unary as UNARY, And as AND, Or as OR, Alloc as ALLOC, Construct as CONSTRUCT, AllocArray as ALLOCARRAY, Call as CALL, CallStatic as CALLSTATIC, Cast as CAST, Enter as ENTER, ExecuteIn as EXECUTEIN, Same as SAME, SetCeiling as SETCEILING, Print as PRINT, Read as READ, Register as REGISTER, Release as RELEASE, Terminate as TERMINATE, Zero as ZERO, Store as STORE, If as IF, Loop as LOOP, Leave as LEAVE, Drop as DROP}
use Rattle.scj_model.specs.Code.{Code, binding, part}
use Rattle.scj_model.specs.Ops.{assign_ops, body_ops, builtin_ops, call_ops, if_parts, leaves_value, new_ops, next_ops, node_ops, ops_of, optional_ops, put_in_front, receiver_ops, right_operand, iteration_ops}
use Rattle.scope_flow.specs.Pushers.{Pusher}
use Rattle.scope_flow.specs.Ways.{Comes, at_entry, behind, into}
use Rattle.memory_needs.specs.Targets.{entered_targets, memory_targets, enters_memory, targets_here, targets_entered, targets}
use Rattle.memory_needs.specs.Reach.{run_parts, IsIn, in_part, IsInBody}
use Rattle.memory_bounds.proofs.RunBodies.{op_targets, opens_memory, branches_at, EntersAt, OpRuns, AllRun, all_in, both, either, one, branch, plain, of_part, all_of, behind_part, behind_all, plain_behind, runs_here, runs_entered, of_name, of_access, of_binary, of_receiver, on_receiver, of_return, of_assign, of_method, of_super, of_constructor}

-- ---- `new` and calls

module _ (code : Code) (ops : ℕ → List Op) (id : ℕ) where
  abbrev All : List Op → Type 0
  All xs = AllRun code id xs

  of_new : (position name_position : Position) (name arguments : List ℕ)
      (is : slice_get code.program.nodes id ≡ Some (New position name_position name arguments)) →
      ((k : ℕ) → IsIn code.program.nodes id k → AllRun code id (ops k)) →
      (b : Binding) → binding code id ≡ b → AllRun code id (new_ops ops id arguments b)
  unfolding new_ops branches_at op_targets opens_memory run_parts children targets_here
  of_new position name_position name arguments is h (ClassNamed class) e = (
    plain code id (ALLOC id) refl refl,
    behind_all code ops id (New position name_position name arguments) is h arguments (λ k c. c) (CONSTRUCT id)
        (runs_here code ops id (New position name_position name arguments) is h (CONSTRUCT id) refl refl (λ target c. c)),
  )
  of_new position name_position name arguments is h _ e =
      all_of code ops id (New position name_position name arguments) is h arguments (λ k c. c)

  module _ (position : Position) (name : List ℕ) (object : Option ℕ) (arguments : List ℕ)
      (is : slice_get code.program.nodes id ≡ Some (Call position name object arguments))
      (h : (k : ℕ) → IsIn code.program.nodes id k → AllRun code id (ops k)) where
    abbrev call : Node
    call = Call position name object arguments

    args : (k : ℕ) → Contains arguments k → Contains (run_parts (Call position name object arguments)) k
    unfolding run_parts children
    args k c = Contains-append_right (optional object) arguments k c

    object_part : (k : ℕ) → Contains (optional object) k → Contains (run_parts (Call position name object arguments)) k
    unfolding run_parts children
    object_part k c = Contains-append_left (optional object) arguments k c

    memory_is : (t : Target) → binding code id ≡ Builtin t → enters_memory t.id ≡ true → (target : Body) →
        Contains (entered_targets code.program (binding code id)) target →
        Contains (targets_entered code id (Call position name object arguments)) target
    unfolding targets_entered memory_targets
    memory_is t e p target c =
        (let same : memory_targets code.program (binding code id) ≡ entered_targets code.program (binding code id) =
        ap (memory_targets code.program) e
        ∙ (ap (λ (b : Bool). if b then entered_targets code.program (Builtin t) else []) p
        ∙ ap (entered_targets code.program) (sym e)) in
        subst (λ (bs : List Body). Contains bs target) (sym same) c)

    abbrev last_plain : (op : Op) → branches_at op ≡ None → op_targets code op ≡ [] →
        AllRun code id (flat_map ops arguments ++ op ∷ [])
    last_plain op none empty = plain_behind code ops id call is h arguments args op none empty

    abbrev on_object : (op : Op) → branches_at op ≡ None → op_targets code op ≡ [] →
        AllRun code id (receiver_ops ops id object ++ op ∷ [])
    on_object op none empty = on_receiver code ops id call is h object object_part op none empty

    enters : (t : Target) → binding code id ≡ Builtin t → (t.id == managed_memory_enter_private_memory) ≡ true →
        AllRun code id (flat_map ops arguments ++ ENTER id ∷ [])
    unfolding branches_at op_targets
    enters t e p =
        behind_all code ops id call is h arguments args (ENTER id)
        (runs_entered code ops id call is h (ENTER id) refl
        (inr (record { is = refl; target = t; bound = e; enters = p }))
        (memory_is t e (ap (λ b. b || (t.id == managed_memory_execute_in_area_of)) p)))

    executes : (t : Target) → binding code id ≡ Builtin t → (t.id == managed_memory_execute_in_area_of) ≡ true →
        AllRun code id (flat_map ops arguments ++ EXECUTEIN id ∷ [])
    unfolding branches_at op_targets opens_memory
    executes t e p =
        behind_all code ops id call is h arguments args (EXECUTEIN id)
        (runs_entered code ops id call is h (EXECUTEIN id) refl (inl refl) (memory_is t e (or_true p)))
      where
        or_true : (t.id == managed_memory_execute_in_area_of) ≡ true → enters_memory t.id ≡ true
        or_true q = of (t.id == managed_memory_enter_private_memory)
          where
            of : (b : Bool) → (b || (t.id == managed_memory_execute_in_area_of)) ≡ true
            of true = refl
            of false = q

    of_builtin : (t : Target) → binding code id ≡ Builtin t → AllRun code id (builtin_ops ops id object arguments t.id)
    unfolding builtin_ops branches_at op_targets
    of_builtin t e =
        first (t.id == managed_memory_enter_private_memory) (t.id == managed_memory_execute_in_area_of) refl refl
      where
        others : List Op
        others =
            if t.id == managed_memory_alloc_in_same then flat_map ops arguments ++ SAME id ∷ []
            else (if t.id == services_set_ceiling then flat_map ops arguments ++ SETCEILING id ∷ []
            else (if t.id == trace_print then flat_map ops arguments ++ PRINT id ∷ []
            else (if t.id == device_read then flat_map ops arguments ++ READ id ∷ []
            else (if t.id == mission_request_termination then receiver_ops ops id object ++ TERMINATE id ∷ []
            else (if t.id == aperiodic_handler_release then receiver_ops ops id object ++ RELEASE id ∷ []
            else (if is_among t.id (periodic_handler_register ∷ aperiodic_handler_register ∷ [])
            then receiver_ops ops id object ++ REGISTER id ∷ [] else []))))))

        all_others : AllRun code id others
        all_others =
            either code id (t.id == managed_memory_alloc_in_same) _ _ (last_plain (SAME id) refl refl)
            (either code id (t.id == services_set_ceiling) _ _ (last_plain (SETCEILING id) refl refl)
            (either code id (t.id == trace_print) _ _ (last_plain (PRINT id) refl refl)
            (either code id (t.id == device_read) _ _ (last_plain (READ id) refl refl)
            (either code id (t.id == mission_request_termination) _ _ (on_object (TERMINATE id) refl refl)
            (either code id (t.id == aperiodic_handler_release) _ _ (on_object (RELEASE id) refl refl)
            (either code id (is_among t.id (periodic_handler_register ∷ aperiodic_handler_register ∷ [])) _ _
            (on_object (REGISTER id) refl refl) tt))))))

        first : (a b : Bool) → (t.id == managed_memory_enter_private_memory) ≡ a →
            (t.id == managed_memory_execute_in_area_of) ≡ b →
            AllRun code id (if a then flat_map ops arguments ++ ENTER id ∷ []
            else (if b then flat_map ops arguments ++ EXECUTEIN id ∷ [] else others))
        first true b p q = enters t e p
        first false true p q = executes t e q
        first false false p q = all_others

    of_call : (b : Binding) → binding code id ≡ b → AllRun code id (call_ops ops id object arguments b)
    unfolding call_ops branches_at op_targets opens_memory targets_here
    of_call (Method t) e =
        both code id (receiver_ops ops id object) _ (of_receiver code ops id call is h object object_part)
        (behind_all code ops id call is h arguments args (CALL id)
        (runs_here code ops id call is h (CALL id) refl refl (λ target c. c)))
    of_call (StaticMethod t) e =
        behind_all code ops id call is h arguments args (CALLSTATIC id)
        (runs_here code ops id call is h (CALLSTATIC id) refl refl (λ target c. c))
    of_call (Builtin t) e = of_builtin t e
    of_call _ e = tt

-- ---- all kinds of node

module _ (code : Code) (ops : ℕ → List Op) (id : ℕ)
    (h : (k : ℕ) → IsIn code.program.nodes id k → AllRun code id (ops k)) where
  of_node : (node : Node) → slice_get code.program.nodes id ≡ Some node → AllRun code id (node_ops code ops id node)
  unfolding node_ops branches_at op_targets run_parts children targets_here
  of_node (Number position value is_negative) is = one code id (PUSH id) refl refl
  of_node (True position) is = one code id (PUSH id) refl refl
  of_node (False position) is = one code id (PUSH id) refl refl
  of_node (Null position) is = one code id (PUSH id) refl refl
  of_node (This position) is = one code id (THIS id) refl refl
  of_node (SimpleName position name) is = of_name code ops id (SimpleName position name) is h (binding code id)
  of_node (FieldAccess position name object) is =
      of_access code ops id (FieldAccess position name object) is h object (0, omega arith, refl) (binding code id)
  of_node (Element position array index) is =
      both code id (ops array) _ (of_part code ops id (Element position array index) is h array (0, omega arith, refl))
      (behind_part code ops id (Element position array index) is h index (1, omega arith, refl) (ELEM id) refl refl)
  of_node (Parenthesized position inner) is =
      of_part code ops id (Parenthesized position inner) is h inner (0, omega arith, refl)
  of_node (Unary position operator operand) is =
      behind_part code ops id (Unary position operator operand) is h operand (0, omega arith, refl) (UNARY id) refl refl
  of_node (Binary position operator left right) is =
      of_binary code ops id (Binary position operator left right) is h operator left right (0, omega arith, refl)
      (1, omega arith, refl)
  of_node (New position name_position name arguments) is =
      of_new code ops id position name_position name arguments is h (binding code id) refl
  of_node (NewArray position element length) is =
      behind_part code ops id (NewArray position element length) is h length (1, omega arith, refl) (ALLOCARRAY id) refl refl
  of_node (Call position name object arguments) is =
      of_call code ops id position name object arguments is h (binding code id) refl
  of_node (Cast position name_position name operand) is =
      behind_part code ops id (Cast position name_position name operand) is h operand (0, omega arith, refl) (CAST id) refl refl
  of_node (LocalNode position name flags declared_type) is = one code id (ZERO id) refl refl
  of_node (LocalWithValue position name_position name flags declared_type value) is =
      behind_part code ops id (LocalWithValue position name_position name flags declared_type value) is h value
      (Contains-append_right (optional flags) (declared_type ∷ value ∷ []) value (1, omega arith, refl)) (STORE id) refl
      refl
  of_node (Assign position target value) is = go (slice_get code.program.nodes target) refl
    where
      go : (o : Option Node) → slice_get code.program.nodes target ≡ o →
          AllRun code id (elim o as (λ z. List Op) [
            | None ↦ []
            | Some node ↦ assign_ops ops id value (binding code target) node
          ])
      go None e = tt
      go (Some node) e =
          of_assign code ops id (Assign position target value) is h target value (0, omega arith, refl) (1, omega arith, refl)
          (binding code target) node e
  of_node (ExpressionStatement position expression) is =
      both code id (ops expression) _
      (of_part code ops id (ExpressionStatement position expression) is h expression (0, omega arith, refl))
      (either code id (leaves_value (binding code expression)) _ _ (one code id (DROP id) refl refl) tt)
  of_node (Block position statements) is = all_of code ops id (Block position statements) is h statements (λ k c. c)
  of_node (If position condition then_part else_part) is =
      both code id (ops condition) _
      (of_part code ops id (If position condition then_part else_part) is h condition (0, omega arith, refl))
      (branch code id (IF id) refl refl)
  of_node (While position condition body) is =
      both code id (ops condition) _
      (of_part code ops id (While position condition body) is h condition (0, omega arith, refl))
      (branch code id (LOOP id) refl refl)
  of_node (For position first condition step body) is =
      both code id (ops first) _
      (of_part code ops id (For position first condition step body) is h first (0, omega arith, refl))
      (both code id (ops condition) _
      (of_part code ops id (For position first condition step body) is h condition (1, omega arith, refl))
      (branch code id (LOOP id) refl refl))
  of_node (Return position value) is = of_return code ops id (Return position value) is h value (λ k c. c)
  of_node (MethodNode position name flags result_type parameters body) is =
      of_method code ops id (MethodNode position name flags result_type parameters body) is h result_type body (λ k c.
      Contains-append_right (optional flags) (result_type ∷ optional parameters ++ optional body) k
      (Contains-tail result_type (optional parameters ++ optional body) k
      (Contains-append_right (optional parameters) (optional body) k c)))
  of_node (SuperCall position arguments) is =
      of_super code ops id (SuperCall position arguments) is h id arguments (binding code id) refl (λ k c. c)
      (λ target c. c)
  of_node (Constructor position name flags parameters None body) is =
      of_constructor code ops id (Constructor position name flags parameters None body) is h None (ops body)
      (λ k c. absurd (none_contained k c)) (λ e target c. c)
      (of_part code ops id (Constructor position name flags parameters None body) is h body
      (Contains-append_right (optional flags) (optional parameters ++ (body ∷ [])) body
      (Contains-append_right (optional parameters) (body ∷ []) body (0, omega arith, refl))))
  of_node (Constructor position name flags parameters (Some call) body) is =
      of_constructor code ops id (Constructor position name flags parameters (Some call) body) is h (Some call) (ops body)
      (λ k c. Contains-append_right (optional flags) (optional parameters ++ (call ∷ body ∷ [])) k
      (Contains-append_right (optional parameters) (call ∷ body ∷ []) k
      (Contains-append_left (call ∷ []) (body ∷ []) k c)))
      (λ e target c. absurd (cc (e)))
      (of_part code ops id (Constructor position name flags parameters (Some call) body) is h body
      (Contains-append_right (optional flags) (optional parameters ++ (call ∷ body ∷ [])) body
      (Contains-append_right (optional parameters) (call ∷ body ∷ []) body (1, omega arith, refl))))
  of_node (Class position name flags header members) is =
      of_constructor code ops id (Class position name flags header members) is h None []
      (λ k c. absurd (none_contained k c)) (λ e target c. c) tt
  of_node _ is = tt

  of_next : AllRun code id (next_ops code id ops)
  unfolding next_ops
  of_next = go (slice_get code.program.nodes id) refl
    where
      go : (o : Option Node) → slice_get code.program.nodes id ≡ o →
          AllRun code id (elim o as (λ z. List Op) [ None ↦ [] | Some node ↦ node_ops code ops id node ])
      go None e = tt
      go (Some node) e = of_node node e

module _ (code : Code) where
  from_below : (id : ℕ) → ops_of code id ≡ next_ops code id (below [] id (ops_of code))
  unfolding ops_of
  from_below id = by_smaller-is [] (next_ops code) id

  up_to : (n k : ℕ) → k < n → AllRun code k (ops_of code k)
  up_to zero k l = absurd (omega (arith, l))
  up_to (suc n) k l =
      subst (AllRun code k) (sym (from_below k))
      (of_next code (below [] k (ops_of code)) k (λ j inside. smaller j inside (λ m. up_to n j m)))
    where
      smaller : (j : ℕ) → IsIn code.program.nodes k j → (j < n → AllRun code j (ops_of code j)) →
          AllRun code k (if nat_lt j k then ops_of code j else [])
      smaller j inside more = go (nat_lt j k) refl
        where
          go : (b : Bool) → nat_lt j k ≡ b → AllRun code k (if b then ops_of code j else [])
          go true e =
              all_in code k j inside (ops_of code j)
              (more (let m : j < k = grind (arith, nat_tests, e) in omega (arith, m, l)))
          go false e = tt

  pub all_run : (id : ℕ) → AllRun code id (ops_of code id)
  all_run id = up_to (suc id) id (omega arith)

  -- ---- what is put in front

  record Fronts (whole : ℕ) (o : Option (List Op)) : Type 0 where
    is : (front : List Op) → o ≡ Some front → AllRun code whole front

  fronts : (whole : ℕ) (ops : List Op) → AllRun code whole ops → Fronts whole (Some ops)
  fronts whole ops h = record { is = λ front e. subst (AllRun code whole) (some_inj ops front e) h }

  no_front : (whole : ℕ) → Fronts whole None
  no_front whole = record { is = λ front e. absurd (cc (e)) }

  module _ (whole id : ℕ) (inside : IsIn code.program.nodes whole id) where
    part_runs : (node : Node) → slice_get code.program.nodes id ≡ Some node → (k : ℕ) → Contains (run_parts node) k →
        AllRun code whole (ops_of code k)
    part_runs node is k c = all_in code whole k (in_part id k node inside is c) (ops_of code k) (all_run k)

    of_turn : (node : Node) → slice_get code.program.nodes id ≡ Some node → Fronts whole (iteration_ops code id node)
    unfolding iteration_ops run_parts children branches_at op_targets
    of_turn (While position condition body) is =
        fronts whole _
        (both code whole _ _ (part_runs (While position condition body) is body (1, omega arith, refl))
        (both code whole _ _ (part_runs (While position condition body) is condition (0, omega arith, refl))
        (all_in code whole id inside (LOOP id ∷ []) (branch code id (LOOP id) refl refl))))
    of_turn (For position first condition step body) is =
        fronts whole _
        (both code whole _ _ (part_runs (For position first condition step body) is body (3, omega arith, refl))
        (both code whole _ _ (part_runs (For position first condition step body) is step (2, omega arith, refl))
        (both code whole _ _ (part_runs (For position first condition step body) is condition (1, omega arith, refl))
        (all_in code whole id inside (LOOP id ∷ []) (branch code id (LOOP id) refl refl)))))
    of_turn _ is = no_front whole

    of_right : (node : Node) → slice_get code.program.nodes id ≡ Some node → (b : Bool) →
        Fronts whole (option_map (λ right. if b then ops_of code right else []) (right_operand node))
    unfolding right_operand run_parts children
    of_right (Binary position operator left right) is b =
        fronts whole _
        (either code whole b _ _ (part_runs (Binary position operator left right) is right (1, omega arith, refl)) tt)
    of_right _ is b = no_front whole

    of_left : (node : Node) → slice_get code.program.nodes id ≡ Some node → (b : Bool) →
        Fronts whole (option_map (λ right. if b then [] else ops_of code right) (right_operand node))
    unfolding right_operand run_parts children
    of_left (Binary position operator left right) is b =
        fronts whole _
        (either code whole b _ _ tt (part_runs (Binary position operator left right) is right (1, omega arith, refl)))
    of_left _ is b = no_front whole

    of_if : (node : Node) → slice_get code.program.nodes id ≡ Some node → (b : Bool) →
        Fronts whole
        (option_map (λ (parts : ℕ × Option ℕ). if b then ops_of code parts.0 else optional_ops code parts.1)
        (if_parts node))
    unfolding if_parts optional_ops run_parts children
    of_if (If position condition then_part None) is b =
        fronts whole _
        (either code whole b _ _ (part_runs (If position condition then_part None) is then_part (1, omega arith, refl)) tt)
    of_if (If position condition then_part (Some else_part)) is b =
        fronts whole _
        (either code whole b _ _
        (part_runs (If position condition then_part (Some else_part)) is then_part (1, omega arith, refl))
        (part_runs (If position condition then_part (Some else_part)) is else_part (2, omega arith, refl)))
    of_if _ is b = no_front whole

    by_node : {A : Type 0} (which : Node → Option A) (next : A → List Op) →
        ((node : Node) → slice_get code.program.nodes id ≡ Some node → Fronts whole (option_map next (which node))) →
        Fronts whole (option_map next (part code which id))
    by_node which next f = go (slice_get code.program.nodes id) refl
      where
        go : (o : Option Node) → slice_get code.program.nodes id ≡ o → Fronts whole (option_map next (o >>= which))
        go None e = no_front whole
        go (Some node) e = f node e

    turned : (b : Bool) (o : Option (List Op)) → Fronts whole o →
        Fronts whole (option_map (λ (turn : List Op). if b then turn else []) o)
    turned b None f = no_front whole
    turned b (Some turn) f = fronts whole _ (either code whole b _ _ (f.is turn refl) tt)

  of_front : (whole : ℕ) (op : Op) (condition : Bool) → OpRuns code whole op →
      Fronts whole (put_in_front code op condition)
  unfolding put_in_front branches_at
  of_front whole (AND id) condition r =
      by_node whole id (r.branches id refl) right_operand _ (λ node is. of_right whole id (r.branches id refl) node is condition)
  of_front whole (OR id) condition r =
      by_node whole id (r.branches id refl) right_operand _ (λ node is. of_left whole id (r.branches id refl) node is condition)
  of_front whole (IF id) condition r =
      by_node whole id (r.branches id refl) if_parts _ (λ node is. of_if whole id (r.branches id refl) node is condition)
  of_front whole (LOOP id) condition r =
      by_node whole id (r.branches id refl) (iteration_ops code id) _ (λ node is.
      turned whole id (r.branches id refl) condition (iteration_ops code id node)
      (of_turn whole id (r.branches id refl) node is))
  of_front whole _ condition r = no_front whole

  -- ---- on a way through a body

  pub come_running : (whole : ℕ) (ops : List Op) (pushers : List Pusher) → Comes code (Written whole) ops pushers →
      AllRun code whole ops
  unfolding body_ops
  come_running whole _ _ at_entry = all_run whole
  come_running whole _ _ (behind op ops taken left given came many pushes) =
      (come_running whole (op ∷ ops) (taken ++ left) came).1
  come_running whole _ _ (into op condition front ops pusher left came goes is) =
      both code whole front ops
      ((of_front whole op condition (come_running whole (op ∷ ops) (pusher ∷ left) came).0).is front is)
      (come_running whole (op ∷ ops) (pusher ∷ left) came).1

  -- the framework's empty body leaves at once
  abbrev AllLeave : List Op → Type 0
  AllLeave [] = Unit {0}
  AllLeave (op ∷ ops) = (op ≡ LEAVE) × AllLeave ops

  come_leaving : (ops : List Op) (pushers : List Pusher) → Comes code Empty ops pushers → AllLeave ops
  unfolding body_ops put_in_front
  come_leaving _ _ at_entry = (refl, tt)
  come_leaving _ _ (behind op ops taken left given came many pushes) = (come_leaving (op ∷ ops) (taken ++ left) came).1
  come_leaving _ _ (into op condition front ops pusher left came goes is) =
      absurd
      (let e : op ≡ LEAVE = (come_leaving (op ∷ ops) (pusher ∷ left) came).0 in
      let none : put_in_front code op condition ≡ None = ap (λ o. put_in_front code o condition) e in
      cc (none, is))

  -- a node in a body may run another body, by the operation
  pub record BodyRuns (body : Body) (op : Op) (target : Body) : Type 0 where
    pub id : ℕ
    pub node : Node
    pub is_in : IsInBody code id body
    pub is : slice_get code.program.nodes id ≡ Some node
    pub is_target : Contains (targets code id) target
    pub opens : (opens_memory op ≡ false) ⊎ EntersAt code op id

  -- so does an operation on a way through the body
  pub come_to_run : (body : Body) (op : Op) (rest : List Op) (pushers : List Pusher) →
      Comes code body (op ∷ rest) pushers → (target : Body) → Contains (op_targets code op) target →
      BodyRuns body op target
  unfolding IsInBody op_targets
  come_to_run (Written whole) op rest pushers came target c =
      (let r = (come_running whole (op ∷ rest) pushers came).0.runs target c in record {
        id = r.id;
        node = r.node;
        is_in = r.is_in;
        is = r.is;
        is_target = r.is_target;
        opens = r.opens;
      })
  come_to_run Empty op rest pushers came target c =
      absurd
      (none_contained target
      (subst (λ (o : Op). Contains (op_targets code o) target) (come_leaving (op ∷ rest) pushers came).0 c))
